-- The stops of the walk, turn by turn.
use Rattle.yaml_json.proofs.Common.{GaveEvents, ℕ, Bool, false, true, List, [], ◌++◌, ◌∷◌, ◌≡◌, ap, append-nil, subst, sym, ◌∙◌, Token, HoldsNames, AddsName}
use Rattle.yaml_json.proofs.Common.{FitsNames, IfSome, failure_of, refl, WriterState, RefusesToken, RefusesFirst, WhyStopped, Refuses, tokens_events, IsScalar}
use Rattle.yaml_json.proofs.Common.{LeavesOpen, KeepsNames, IsByText, GaveTokens, ReadsNone, NoStringNext, TextStopsWriting, Memory, Stop, Spot, At, PastString}
use Rattle.yaml_json.proofs.Common.{PastValue, CollectionKind, Mapping, Sequence}
use Rattle.yaml_json.specs.{Walk.GivesTaken, Walk.StopsInside, Walk.WereLeft, Walk.WhereStopped, Walk.spot_of, declared.names.Names.Names}
use Rattle.yaml_json.proofs.KeepingNames.{keeps_name, name_again, names_once}
use Rattle.yaml_json.proofs.Refusing.{IsNoKey, first_placed, first_refused, key_could_stand, key_refused, member_goes_on, name_refused, no_member_left}
use Rattle.yaml_json.proofs.Refusing.{no_string_stands}
use Rattle.yaml_json.proofs.Walking.{Awaiting, awaiting_item, awaiting_named, awaiting_no_item, awaiting_whole}
use Rattle.yaml_json.specs.declared.values.Stop.TheVariants as stops

-- no token is read
pub unread_memory : (ahead : List Token) (stop : Stop) → ReadsNone ahead stop → IfSome (failure_of stop) (λ error. error ≡ Memory)
unread_memory ahead (stops.Failed error) none = none
unread_memory ahead _ none = tt

-- Tokens that are refused within a value.
spot_inside : (token : Token) → StopsInside (stops.NotJson (spot_of token))
spot_inside Token.begin_object = tt
spot_inside _ = tt

inside_token : (depth : ℕ) (levels : List CollectionKind) (token : Token) (stop : Stop) → RefusesToken depth levels token stop → StopsInside stop
inside_token depth levels token (stops.NotJson spot) refuses = subst (λ (s : Spot). StopsInside (stops.NotJson s)) (sym refuses.1) (spot_inside token)
inside_token depth levels token _ refuses = tt

pub inside_first : (depth : ℕ) (levels : List CollectionKind) (ahead : List Token) (stop : Stop) → RefusesFirst depth levels ahead stop → StopsInside stop
inside_first depth levels [] (stops.NotJson spot) refuses = subst (λ (s : Spot). StopsInside (stops.NotJson s)) (sym refuses) tt
inside_first depth levels (token ∷ after) stop refuses = inside_token depth levels token stop refuses
inside_first depth levels [] _ refuses = tt

-- If it isn't whole, all is left.
pub all_left : (stop : Stop) (taken left : List Token) → StopsInside stop → WereLeft stop taken left left
all_left (stops.NotJson PastValue) taken left inside = absurd inside
all_left _ taken left inside = refl

-- no scalar closes an array
no_scalar_closes : (token : Token) → IsScalar token → token ≡ Token.end_array → ⊥
no_scalar_closes token scalar is = absurd (subst IsScalar is scalar)

-- ---- the first token of a value

pub first_unread : (depth : ℕ) (levels : List CollectionKind) (ahead : List Token) (stop : Stop) → ReadsNone ahead stop → RefusesFirst depth levels ahead stop
first_unread depth levels ahead (stops.NotJson spot) none = subst (λ (all : List Token). RefusesFirst depth levels all (stops.NotJson spot)) (sym none.0) none.1
first_unread depth levels [] (stops.Failed error) none = tt
first_unread depth levels (token ∷ after) (stops.Failed error) none = tt
first_unread depth levels ahead _ none = absurd none

pub first_stopped : (depth : ℕ) (levels : List CollectionKind) (ahead : List Token) (token : Token) (after : List Token) → ahead ≡ token ∷ after
    → (stop : Stop) → RefusesToken depth levels token stop → RefusesFirst depth levels ahead stop
first_stopped depth levels ahead token after first stop refuses = subst (λ (all : List Token). RefusesFirst depth levels all stop) (sym first) refuses

-- nothing more was given
pub gave_no_more : (in_flow : Bool) (levels : List CollectionKind) (before now : WriterState) → now ≡ before → (was : WriterState) (so : List Token)
    → GaveTokens in_flow was so levels before → GaveEvents was (tokens_events was.canonical in_flow (so ++ [])) now
gave_no_more in_flow levels before now same was so stood =
    subst (GaveEvents was (tokens_events was.canonical in_flow (so ++ []))) (sym same)
    (subst (λ (all : List Token). GaveEvents was (tokens_events was.canonical in_flow all) before) (sym (append-nil so)) stood.gave)

module _ {A : Type 0} (depth : ℕ) (unique in_flow : Bool) (levels outer : List CollectionKind) (held : Names A) (fits : FitsNames unique levels held)
    (ahead : List Token) (before now : WriterState) where
  -- Nothing was given.
  module _ (same : now ≡ before) (last : List Token) (were : last ≡ ahead) where
    at_once : (left : List Token) → ahead ≡ left → (stop : Stop) → StopsInside stop
        → ((so : List Token) → LeavesOpen depth so levels → KeepsNames so held
        → WhyStopped depth unique so left stop × WhereStopped depth unique so left stop)
        → Refuses depth unique in_flow levels held ahead last before stop now
    at_once left is stop inside why =
        record {
          taken = [];
          parts = were;
          inside = inside;
          gave = gave_no_more in_flow levels before now same;
          why = λ so stands kept. subst (λ (all : List Token). WhyStopped depth unique all last stop) (sym (append-nil so))
              (subst (λ (l : List Token). WhyStopped depth unique so l stop) (sym (were ∙ is)) (why so stands kept).0);
          place = λ so stands kept. subst (λ (all : List Token). WhereStopped depth unique all last stop) (sym (append-nil so))
              (subst (λ (l : List Token). WhereStopped depth unique so l stop) (sym (were ∙ is)) (why so stands kept).1);
        }

    -- ---- within an array

    module _ (is : levels ≡ outer ++ Sequence ∷ []) where
      item_awaits : (so : List Token) → LeavesOpen depth so levels → (token : Token) → IsScalar token → Awaiting depth so levels (token ∷ [])
      item_awaits so stands token scalar = awaiting_item depth so levels outer token [] is stands (no_scalar_closes token scalar)

      item_none : ahead ≡ [] → Refuses depth unique in_flow levels held ahead last before (stops.NotJson At) now
      item_none none =
          at_once [] none (stops.NotJson At) tt
          (λ so stands kept. (
            first_refused _ unique so _ [] (stops.NotJson At) (awaiting_no_item _ so _ outer is stands) (names_once unique levels held so fits kept) refl,
            first_placed depth unique so levels (item_awaits so stands) (names_once unique levels held so fits kept) [] (stops.NotJson At) refl,
          ))

      pub item_stopped : (token : Token) (after : List Token) → ahead ≡ token ∷ after → (token ≡ Token.end_array → ⊥) → (stop : Stop)
          → RefusesToken depth levels token stop → Refuses depth unique in_flow levels held ahead last before stop now
      item_stopped token after first isn't stop refuses =
          at_once (token ∷ after) first stop (inside_token depth levels token stop refuses)
          (λ so stands kept. (
            first_refused _ unique so _ _ stop (awaiting_item _ so _ outer _ _ is stands isn't) (names_once unique levels held so fits kept) refuses,
            first_placed depth unique so levels (item_awaits so stands) (names_once unique levels held so fits kept) (token ∷ after) stop refuses,
          ))

    -- ---- within an object

    module _ (is : levels ≡ outer ++ Mapping ∷ []) where
      member_none : ahead ≡ [] → Refuses depth unique in_flow levels held ahead last before (stops.NotJson At) now
      member_none none =
          at_once [] none (stops.NotJson At) tt
          (λ so stands kept. (
            no_member_left depth unique so levels outer is stands (names_once unique levels held so fits kept),
            (member_goes_on depth unique so levels outer is stands (names_once unique levels held so fits kept), tt),
          ))

      pub member_stopped : (token : Token) (after : List Token) → ahead ≡ token ∷ after → IsNoKey token → NoStringNext (token ∷ after)
          → Refuses depth unique in_flow levels held ahead last before (stops.NotJson At) now
      member_stopped token after first isn't other =
          at_once (token ∷ after) first (stops.NotJson At) tt
          (λ so stands kept. (
            key_refused depth unique so levels outer is stands (names_once unique levels held so fits kept) token after isn't,
            (member_goes_on depth unique so levels outer is stands (names_once unique levels held so fits kept), other),
          ))

      -- There is a string, but a name is next.
      pub string_stopped : (text : List ℕ) (after : List Token) → ahead ≡ Token.string text ∷ after
          → Refuses depth unique in_flow levels held ahead last before (stops.NotJson PastString) now
      string_stopped text after first =
          at_once (Token.string text ∷ after) first (stops.NotJson PastString) tt
          (λ so stands kept. (
            key_refused _ _ so _ outer is stands (names_once unique levels held so fits kept) _ _ ((λ key is. cc), (λ is. cc)),
            key_could_stand depth unique so levels outer is stands (names_once unique levels held so fits kept) text after,
          ))

      -- the name comes again
      pub again_stopped : (name : List ℕ) (inner : List Token) → ahead ≡ Token.key name ∷ inner → (later : Names A) → later.are_kept ≡ held.are_kept
          → (new : Bool)
          → ((names : List (List ℕ)) → (more : List (List (List ℕ))) → HoldsNames (names ∷ more) held → AddsName names more name new later)
          → new ≡ false → Refuses depth unique in_flow levels held ahead last before stops.NameAgain now
      again_stopped name inner first later kept_same new adds old =
          at_once (Token.key name ∷ inner) first stops.NameAgain tt
          (λ so stands kept. let found = name_again levels outer Mapping is unique name held later fits kept_same new adds old so kept in (
            name_refused depth unique so levels outer name inner is stands found.0 found.1 found.2,
            (
              member_goes_on depth unique so levels outer is stands (names_once unique levels held so fits kept),
              no_string_stands depth unique so levels outer is stands (names_once unique levels held so fits kept) (Token.key name ∷ inner),
            ),
          ))

    -- no token is read

    unread_so : (kind : CollectionKind) → levels ≡ outer ++ kind ∷ [] → ahead ≡ []
        → Refuses depth unique in_flow levels held ahead last before (stops.NotJson At) now
    unread_so Sequence is none = item_none is none
    unread_so Mapping is none = member_none is none

    pub unread : (kind : CollectionKind) → levels ≡ outer ++ kind ∷ [] → (stop : Stop) → ReadsNone ahead stop → IsByText stop
        → Refuses depth unique in_flow levels held ahead last before stop now
    unread kind is (stops.NotJson spot) none by_text =
        subst (λ (s : Spot). Refuses depth unique in_flow levels held ahead last before (stops.NotJson s) now) (sym none.1) (unread_so kind is none.0)
    unread kind is (stops.Failed error) none by_text = absurd by_text
    unread kind is _ none by_text = absurd none

  -- The token after a name is refused.
  module _ (is : levels ≡ outer ++ Mapping ∷ []) (name : List ℕ) (inner : List Token) (first : ahead ≡ Token.key name ∷ inner) (later : Names A)
      (kept_same : later.are_kept ≡ held.are_kept) (new : Bool)
      (adds : (names : List (List ℕ)) → (more : List (List (List ℕ))) → HoldsNames (names ∷ more) held → AddsName names more name new later)
      (named : WriterState) (gave : GivesTaken in_flow levels before (Token.key name ∷ []) levels named) where
    pub named_stopped : (last : List Token) → last ≡ inner → new ≡ true → now ≡ named → (stop : Stop) → RefusesFirst depth levels inner stop
        → Refuses depth unique in_flow levels held ahead last before stop now
    named_stopped last were fresh same stop refuses =
        let once = λ (so : List Token) (kept : KeepsNames so held) (wanted : unique ≡ true).
        (keeps_name levels outer Mapping is unique name held later fits kept_same new adds fresh so kept (kept_same ∙ fits.0 ∙ wanted)).0 in
        record {
          taken = Token.key name ∷ [];
          inside = inside_first depth levels inner stop refuses;
          parts = ap (λ (l : List Token). Token.key name ∷ l) were ∙ sym first;
          gave = λ was so stood. subst (GaveEvents was (tokens_events was.canonical in_flow (so ++ Token.key name ∷ []))) (sym same) (gave was so stood).gave;
          why = λ so stands kept. subst (λ (l : List Token). WhyStopped depth unique (so ++ Token.key name ∷ []) l stop) (sym were) (first_refused depth unique
              (so ++ Token.key name ∷ []) levels inner stop (awaiting_named depth so levels outer name is stands inner) (once so kept) refuses);
          place = λ so stands kept. subst (λ (l : List Token). WhereStopped depth unique (so ++ Token.key name ∷ []) l stop) (sym were) (first_placed depth
              unique (so ++ Token.key name ∷ []) levels (λ token scalar. awaiting_named _ so _ outer name is stands _) (once so kept) inner stop refuses);
        }

-- the first token of all
pub first_stopped_writing : (depth : ℕ) (unique in_flow : Bool) (ahead last : List Token) → last ≡ ahead → (was now : WriterState) (stop : Stop)
    → RefusesFirst depth [] ahead stop → GaveEvents was (tokens_events was.canonical in_flow []) now → now ≡ was
    → TextStopsWriting depth unique in_flow ahead last was stop now
first_stopped_writing depth unique in_flow ahead last were was now stop refuses gave same =
    record {
      taken = [];
      left = last;
      parts = were;
      why = subst (λ (l : List Token). WhyStopped depth unique [] l stop) (sym were)
          (first_refused depth unique [] [] ahead stop (awaiting_whole depth ahead) (λ wanted. tt) refuses);
      place = subst (λ (l : List Token). WhereStopped depth unique [] l stop) (sym were)
          (first_placed depth unique [] [] (λ token scalar. awaiting_whole depth (token ∷ [])) (λ wanted. tt) ahead stop refuses);
      were = all_left stop [] last (inside_first depth [] ahead stop refuses);
      gave = gave;
      unchanged = λ none. same;
    }
