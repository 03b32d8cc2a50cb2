-- Why the walk over the tokens of a value is stopped by them.
use Rattle.yaml_json.proofs.Common.{yaml_error_t, suc, ℕ, ◌-◌, ◌<◌, ◌≤◌, None, Some, length, Bool, true, List, [], ◌++◌, ◌∷◌, ◌⊎◌, refl, ◌≡◌, inl, ap}
use Rattle.yaml_json.proofs.Common.{append-nil, append_assoc, inr, subst, sym, ◌∙◌, arith, le-max_left, le-max_right, append_cancel_right, left, value_is, Json}
use Rattle.yaml_json.proofs.Common.{NoneGoesOn, inner_names, NamesOnce, all_names_after, TokensBreakOff, OpensTooDeep, ExplainsError, unwind, zero, LeavesOpen}
use Rattle.yaml_json.proofs.Common.{opener, HasUniqueNames, RefusesToken, RefusesFirst, WhyStopped, ◌+◌, IsScalar, IsByText, NoStringNext, JsonError, Stop}
use Rattle.yaml_json.proofs.Common.{BeginsSome, Spot, CollectionKind, Mapping, Sequence, value-json_tokens_back, members_no_key, value-depth, read_key, value}
use Rattle.yaml_json.proofs.Common.{skip_value, tokens, Token, json_tokens, IsPrefix, IsNewName}
use Rattle.std.specs.Prelude.{max}
use Rattle.yaml_json.proofs.NameLemmas.{once_first, once_second, once_is_unique, unique_is_once, once_both}
use Rattle.yaml_json.proofs.Walking.{unwind_none, unwind_inner, Awaits, opener_too_deep, next_stands_at, closes_value, closes_allowed, value_begins_at}
use Rattle.yaml_json.proofs.Walking.{value_closes, Awaiting, Closes, awaiting_named, next_stands}
use Rattle.yaml_json.proofs.Common.{depth as nesting}
use Rattle.yaml_json.specs.Refused.{DeniesJson, IsNotJson, TokensBreakAt, OpensTooDeepAt, NamesTwiceAt}
use Rattle.yaml_json.specs.Walk.{BeginsNone, CouldStandOther, GoesOn, IsSpot, NoStringStands, WhereStopped, spot_of}
use Rattle.json.proofs.Printed.Trees.{value-json_tokens}
use Rattle.yaml_json.specs.declared.error.JsonError.TheVariants as errors
use Rattle.yaml_json.specs.declared.values.Stop.TheVariants as stops

-- ---- no value goes on

-- a value is read from its tokens
read_again : (json : Json) (deep : ℕ) → nesting json ≤ deep → value deep (json_tokens json) ≡ Some (json, [])
read_again json deep fits = ap (value deep) (sym (append-nil (json_tokens json))) ∙ value-json_tokens json deep [] fits

-- It isn't if nothing is read.
unread : (json : Json) (deep : ℕ) (all : List Token) → nesting json ≤ deep → json_tokens json ≡ all → skip_value deep all ≡ None → ⊥
unread json deep all fits is none =
    let found : Some [] ≡ None = sym (ap left (ap (value deep) (sym is) ∙ read_again json deep fits)) ∙ none in cc

module _ (depth : ℕ) (taken : List Token) where
  pub none_goes_on : (token : Token) (after : List Token)
      → ((deep : ℕ) → depth ≤ deep → (more : List Token) → skip_value deep (taken ++ token ∷ more) ≡ None) → NoneGoesOn taken (token ∷ after)
  none_goes_on token after dead some =
      let json = some.0 in
      let deep = max depth (nesting json) in
      unread json deep (taken ++ token ∷ some.1.rest) (le-max_right depth (nesting json))
      (sym some.1.parts ∙ append_assoc taken (token ∷ []) some.1.rest) (dead deep (le-max_left depth (nesting json)) some.1.rest)

  pub none_ends : ((deep : ℕ) → depth ≤ deep → skip_value deep (taken ++ []) ≡ None) → NoneGoesOn taken []
  none_ends dead json is =
      let deep = max depth (nesting json) in
      unread json deep (taken ++ []) (le-max_right depth (nesting json)) (is ∙ sym (append-nil taken)) (dead deep (le-max_left depth (nesting json)))

-- ---- a value is next

nothing_begins : (depth : ℕ) (taken : List Token) (levels : List CollectionKind) (ahead : List Token) → Awaits depth taken levels ahead
    → skip_value (depth - length levels) ahead ≡ None → skip_value depth (taken ++ ahead) ≡ None
nothing_begins depth taken levels ahead awaits none = awaits ∙ ap (unwind depth levels) none ∙ unwind_none depth levels

-- a token with which none begins
begins_none : (d : ℕ) (token : Token) (more : List Token) → BeginsNone token → skip_value d (token ∷ more) ≡ None
begins_none d Token.begin_object more isn't = absurd (isn't.1 (Mapping, refl))
begins_none d Token.end_object more isn't = ap left (value_is d (Token.end_object ∷ more))
begins_none d Token.begin_array more isn't = absurd (isn't.1 (Sequence, refl))
begins_none d Token.end_array more isn't = ap left (value_is d (Token.end_array ∷ more))
begins_none d (Token.key text) more isn't = ap left (value_is d (Token.key text ∷ more))
begins_none d Token.bad more isn't = ap left (value_is d (Token.bad ∷ more))
begins_none d _ more isn't = absurd (isn't.0 tt)

nothing_left : (depth : ℕ) (unique : Bool) (taken : List Token) (levels : List CollectionKind) → Awaiting depth taken levels []
    → (unique ≡ true → NamesOnce [] taken) → TokensBreakAt depth unique taken []
nothing_left depth unique taken levels place once =
    record {
      begins = closes_allowed depth unique taken place.begins once;
      breaks = none_ends depth taken (λ deep so. nothing_begins deep taken levels [] (place.awaits deep so) (ap left (value_is (deep - length levels) [])));
    }

token_breaks : (depth : ℕ) (unique : Bool) (taken : List Token) (levels : List CollectionKind) (token : Token) (after : List Token)
    → Awaiting depth taken levels (token ∷ after) → (unique ≡ true → NamesOnce [] taken) → BeginsNone token
    → TokensBreakAt depth unique taken (token ∷ after)
token_breaks depth unique taken levels token after place once isn't =
    record {
      begins = closes_allowed depth unique taken place.begins once;
      breaks = none_goes_on depth taken token after (λ deep so more. nothing_begins deep taken levels (token ∷ more) (place.awaits deep so more)
          (begins_none (deep - length levels) token more isn't));
    }

less_or : (a b : ℕ) → (a < b) ⊎ (b ≤ a)
less_or a b = grind arith

opens_deep : (depth : ℕ) (unique : Bool) (taken : List Token) (levels : List CollectionKind) (kind : CollectionKind) (after : List Token)
    → Awaiting depth taken levels (opener kind ∷ after) → (unique ≡ true → NamesOnce [] taken) → length levels ≡ depth
    → OpensTooDeepAt depth unique taken (opener kind ∷ after)
opens_deep depth unique taken levels kind after place once full =
    let few = place.few in
    let one = value_begins_at (suc depth) (taken ++ opener kind ∷ []) (levels ++ kind ∷ [])
    (next_stands_at (suc depth) taken levels (opener kind) (levels ++ kind ∷ []) (omega (arith, few)) (place.awaits (suc depth) (omega arith))
    (inr (kind, refl, omega (arith, full), refl))) in
    record {
      next = opener kind;
      after = after;
      first = refl;
      begins = closes_allowed depth unique taken place.begins once;
      some = (one.json, record { rest = one.rest; parts = one.parts });
      deeper = deeper;
    } where
      deeper : (json : Json) → IsPrefix (taken ++ opener kind ∷ []) (json_tokens json) → depth < nesting json
      deeper json begins = elim (less_or depth (nesting json)) [
        | inl less ↦ less
        | inr fits ↦ absurd (unread json depth (taken ++ opener kind ∷ begins.rest) fits (sym begins.parts ∙ append_assoc taken (opener kind ∷ []) begins.rest)
            (nothing_begins depth taken levels (opener kind ∷ begins.rest) (place.awaits depth (omega arith) begins.rest)
            (opener_too_deep kind (depth - length levels) begins.rest (omega (arith, full)))))
      ]

token_refused : (depth : ℕ) (unique : Bool) (taken : List Token) (levels : List CollectionKind) (token : Token) (after : List Token) (stop : Stop)
    → Awaiting depth taken levels (token ∷ after) → (unique ≡ true → NamesOnce [] taken) → RefusesToken depth levels token stop
    → WhyStopped depth unique taken (token ∷ after) stop
token_refused depth unique taken levels token after (stops.NotJson spot) place once isn't =
    token_breaks depth unique taken levels token after place once isn't.0
token_refused depth unique taken levels token after stops.TooDeep place once ((kind, is), full) =
    subst (λ (t : Token). OpensTooDeepAt depth unique taken (t ∷ after)) (sym is)
    (opens_deep depth unique taken levels kind after (subst (λ (t : Token). Awaiting depth taken levels (t ∷ after)) is place) once full)
token_refused depth unique taken levels token after stops.NameAgain place once isn't = absurd isn't
token_refused depth unique taken levels token after _ place once isn't = tt

-- the first token is refused, or there is none
pub first_refused : (depth : ℕ) (unique : Bool) (taken : List Token) (levels : List CollectionKind) (ahead : List Token) (stop : Stop)
    → Awaiting depth taken levels ahead → (unique ≡ true → NamesOnce [] taken) → RefusesFirst depth levels ahead stop
    → WhyStopped depth unique taken ahead stop
first_refused depth unique taken levels [] (stops.NotJson spot) place once isn't = nothing_left depth unique taken levels place once
first_refused depth unique taken levels [] (stops.Failed error) place once isn't = tt
first_refused depth unique taken levels (token ∷ after) stop place once isn't = token_refused depth unique taken levels token after stop place once isn't
first_refused depth unique taken levels [] _ place once isn't = absurd isn't

-- ---- a key is next

no_key : (depth : ℕ) (taken : List Token) (levels outer : List CollectionKind) (ahead : List Token)
    → levels ≡ outer ++ Mapping ∷ [] → LeavesOpen depth taken levels → read_key ahead ≡ None → (deep : ℕ) → depth ≤ deep
    → skip_value deep (taken ++ ahead) ≡ None
no_key depth taken levels outer ahead is stands none deep so =
    (stands deep so).1 ahead ∙ ap (λ (all : List CollectionKind). unwind deep all (Some ahead)) is ∙ unwind_inner deep outer Mapping (Some ahead)
    ∙ ap (λ v. unwind deep outer (left v)) (members_no_key (value (deep - length outer - 1)) (length ahead) ahead none) ∙ unwind_none deep outer

-- the token is neither a key nor the end of an object
abbrev pub IsNoKey : Token → Type 0
IsNoKey token = ((text : List ℕ) → token ≡ Token.key text → ⊥) × (token ≡ Token.end_object → ⊥)

unnamed : (token : Token) (more : List Token) → IsNoKey token → read_key (token ∷ more) ≡ None
unnamed Token.end_object more isn't = absurd (isn't.1 refl)
unnamed (Token.key text) more isn't = absurd (isn't.0 text refl)
unnamed _ more isn't = refl

module _ (depth : ℕ) (unique : Bool) (taken : List Token) (levels outer : List CollectionKind) (is : levels ≡ outer ++ Mapping ∷ [])
    (stands : LeavesOpen depth taken levels) (once : unique ≡ true → NamesOnce [] taken) where
  pub no_member_left : TokensBreakAt depth unique taken []
  no_member_left =
      record {
        begins = closes_allowed depth unique taken (value_closes depth taken levels stands) once;
        breaks = none_ends depth taken (no_key depth taken levels outer [] is stands refl);
      }

  pub key_refused : (token : Token) (after : List Token) → IsNoKey token → TokensBreakAt depth unique taken (token ∷ after)
  key_refused token after isn't =
      record {
        begins = closes_allowed depth unique taken (value_closes depth taken levels stands) once;
        breaks = none_goes_on depth taken token after
            (λ deep so more. no_key depth taken levels outer (token ∷ more) is stands (unnamed token more isn't) deep so);
      }

-- a name comes again
pub name_refused : (depth : ℕ) (unique : Bool) (taken : List Token) (levels outer : List CollectionKind) (name : List ℕ) (after : List Token)
    → levels ≡ outer ++ Mapping ∷ [] → LeavesOpen depth taken levels → unique ≡ true → NamesOnce [] taken
    → (IsNewName (inner_names (all_names_after [] taken)) name → ⊥) → NamesTwiceAt depth unique taken (Token.key name ∷ after)
name_refused depth unique taken levels outer name after is stands wanted once again =
    record {
      wanted = wanted;
      name = name;
      after = after;
      first = refl;
      begins = closes_allowed depth unique taken (value_closes depth taken levels stands) (λ same. once);
      some = closes_value depth (taken ++ Token.key name ∷ []) (awaiting_named depth taken levels outer name is stands []).begins;
      twice = λ json begins unique. again (once_second [] taken (Token.key name ∷ [])
          (once_first [] (taken ++ Token.key name ∷ []) begins.rest (subst (NamesOnce []) (sym begins.parts) (unique_is_once json [] unique)))).0;
    }

-- ---- tokens that are possible there

-- a scalar could
scalar_stands : (depth : ℕ) (taken : List Token) (levels : List CollectionKind) (token : Token) → IsScalar token → Awaiting depth taken levels (token ∷ [])
    → Closes depth (taken ++ token ∷ [])
scalar_stands depth taken levels token is place =
    value_closes depth (taken ++ token ∷ []) levels (next_stands depth taken levels levels token [] place (inl (is, refl)))

some_stands : (depth : ℕ) (taken : List Token) → Closes depth taken → BeginsSome taken
some_stands depth taken closes = (closes.json, record { rest = closes.rest; parts = closes.parts })

value_goes_on : (depth : ℕ) (unique : Bool) (taken : List Token) (levels : List CollectionKind) → Awaiting depth taken levels (Token.null ∷ [])
    → (unique ≡ true → NamesOnce [] taken) → GoesOn depth unique taken
value_goes_on depth unique taken levels place once = record {
  token = Token.null;
  is_beginner = tt;
  begins = closes_allowed _ _ _ (scalar_stands depth taken levels Token.null tt place) (λ is. once_both [] taken (Token.null ∷ []) (once is) (tt, tt));
}

opener_next : (kind : CollectionKind) (token : Token) (after : List Token) → token ≡ opener kind → NoStringNext (token ∷ after)
opener_next Sequence token after is = subst (λ (t : Token). NoStringNext (t ∷ after)) (sym is) tt
opener_next Mapping token after is = subst (λ (t : Token). NoStringNext (t ∷ after)) (sym is) tt

-- A value is next.
module _ (depth : ℕ) (unique : Bool) (taken : List Token) (levels : List CollectionKind)
    (awaits : (token : Token) → IsScalar token → Awaiting depth taken levels (token ∷ [])) (once : unique ≡ true → NamesOnce [] taken) where
  goes_on_here : GoesOn depth unique taken
  goes_on_here = value_goes_on depth unique taken levels (awaits Token.null tt) once

  at_token : (token : Token) (after : List Token) → BeginsNone token → IsSpot depth unique (spot_of token) taken (token ∷ after)
  at_token Token.begin_object after isn't = absurd (isn't.1 (Mapping, refl))
  at_token Token.end_object after isn't = (goes_on_here, tt)
  at_token Token.begin_array after isn't = absurd (isn't.1 (Sequence, refl))
  at_token Token.end_array after isn't = (goes_on_here, tt)
  at_token (Token.key text) after isn't = (
    text,
    (
      after,
      inl (refl, some_stands depth (taken ++ Token.string text ∷ []) (scalar_stands depth taken levels (Token.string text) tt (awaits (Token.string text) tt))),
    ),
  )
  at_token Token.bad after isn't = (goes_on_here, tt)
  at_token _ after isn't = absurd (isn't.0 tt)

  pub first_placed : (ahead : List Token) (stop : Stop) → RefusesFirst depth levels ahead stop → WhereStopped depth unique taken ahead stop
  first_placed [] (stops.NotJson spot) is = subst (λ (s : Spot). IsSpot depth unique s taken []) (sym is) (goes_on_here, tt)
  first_placed [] stops.TooDeep is = absurd is
  first_placed [] stops.NameAgain is = absurd is
  first_placed (token ∷ after) (stops.NotJson spot) isn't =
      subst (λ (s : Spot). IsSpot depth unique s taken (token ∷ after)) (sym isn't.1) (at_token token after isn't.0)
  first_placed (token ∷ after) stops.TooDeep ((kind, is), full) = (goes_on_here, opener_next kind token after is)
  first_placed (token ∷ after) stops.NameAgain isn't = absurd isn't
  first_placed _ _ _ = tt

-- a name that is none of some
abbrev zeros : ℕ → List ℕ
zeros zero = []
zeros (suc n) = 0 ∷ zeros n

zeros_length : (n : ℕ) → length (zeros n) ≡ n
zeros_length zero = refl
zeros_length (suc n) = ap suc (zeros_length n)

abbrev all_lengths : List (List ℕ) → ℕ
all_lengths [] = 0
all_lengths (name ∷ names) = length name + all_lengths names

longer_is_new : (names : List (List ℕ)) (name : List ℕ) → all_lengths names < length name → IsNewName names name
longer_is_new [] name more = tt
longer_is_new (other ∷ names) name more =
    ((λ is. let same = ap length is in absurd (omega (arith, more, same))), longer_is_new names name (omega (arith, more)))

abbrev new_name : List (List ℕ) → List ℕ
new_name names = zeros (suc (all_lengths names))

new_is_new : (names : List (List ℕ)) → IsNewName names (new_name names)
new_is_new names = let size = zeros_length (suc (all_lengths names)) in longer_is_new names (new_name names) (omega (arith, size))

-- A key is next.
module _ (depth : ℕ) (unique : Bool) (taken : List Token) (levels outer : List CollectionKind) (is : levels ≡ outer ++ Mapping ∷ [])
    (stands : LeavesOpen depth taken levels) (once : unique ≡ true → NamesOnce [] taken) where
  pub member_goes_on : GoesOn depth unique taken
  member_goes_on =
      let name = new_name (inner_names (all_names_after [] taken)) in
      record {
        token = Token.key name;
        is_beginner = tt;
        begins = closes_allowed depth unique (taken ++ Token.key name ∷ []) (awaiting_named depth taken levels outer name is stands []).begins
            (λ wanted. once_both [] taken (Token.key name ∷ []) (once wanted) (new_is_new (inner_names (all_names_after [] taken)), tt));
      }

  pub no_string_stands : (left : List Token) → NoStringStands taken left
  no_string_stands left text after same = (key_refused depth unique taken levels outer is stands once (Token.string text) after
      ((λ key e. cc), (λ e. cc))).breaks

  pub key_could_stand : (text : List ℕ) (after : List Token) → CouldStandOther taken (Token.string text ∷ after)
  key_could_stand text after =
      (text, (after, inr (refl, some_stands depth (taken ++ Token.key text ∷ []) (awaiting_named depth taken levels outer text is stands []).begins)))

-- ---- past a value

-- no value goes on after a whole one
pub nothing_past : (json : Json) (token : Token) → BeginsSome (json_tokens json ++ token ∷ []) → ⊥
nothing_past json token some =
    let other = some.0 in
    let deep = max (nesting json) (nesting other) in
    let whole : skip_value deep (json_tokens other) ≡ Some [] = ap left (read_again other deep (le-max_right (nesting json) (nesting other))) in
    let part : skip_value deep (json_tokens json ++ token ∷ some.1.rest) ≡ Some (token ∷ some.1.rest) =
    ap left (value-json_tokens json deep (token ∷ some.1.rest) (le-max_left (nesting json) (nesting other))) in
    let same : Some [] ≡ Some (token ∷ some.1.rest) =
    sym whole ∙ ap (skip_value deep) (sym some.1.parts ∙ append_assoc (json_tokens json) (token ∷ []) some.1.rest) ∙ part in
    cc

pub past_refused : (depth : ℕ) (unique : Bool) (all : List Token) (json : Json) (token : Token) (after : List Token)
    → value depth all ≡ Some (json, token ∷ after) → (unique ≡ true → NamesOnce [] (json_tokens json))
    → TokensBreakAt depth unique (json_tokens json) (token ∷ after)
past_refused depth unique all json token after read once =
    record {
      begins = record {
        json = json;
        allowed = record { nested = value-depth depth all (token ∷ after) json read; names = λ is. once_is_unique json [] (once is) };
        begins = record { rest = []; parts = append-nil (json_tokens json) };
      };
      breaks = nothing_past json token;
    }

-- the names of a value that was read
pub value_names : (depth : ℕ) (unique : Bool) (before after : List Token) (json : Json) → value depth before ≡ Some (json, after)
    → HasUniqueNames unique before after → unique ≡ true → NamesOnce [] (json_tokens json)
value_names depth unique before after json read once is =
    let found = once is in
    subst (NamesOnce []) (append_cancel_right found.0 (json_tokens json) after (found.1 ∙ value-json_tokens_back depth before after json read)) found.2

-- ---- the meaning of the error

-- Tokens that break off, or nest too deep, are no value nested at most `depth` deep.
broken_is_none : (depth : ℕ) (unique : Bool) (all : List Token) → TokensBreakOff depth unique all → (json : Json) → value depth all ≡ Some (json, []) → ⊥
broken_is_none depth unique all broken json read =
    goes_on broken.left (broken.parts ∙ value-json_tokens_back depth all [] json read ∙ append-nil (json_tokens json)) broken.breaks where
      goes_on : (left : List Token) → broken.taken ++ left ≡ json_tokens json → NoneGoesOn broken.taken left → ⊥
      goes_on [] is none = none json (sym is ∙ append-nil broken.taken)
      goes_on (token ∷ left) is none = none (json, record { rest = left; parts = append_assoc broken.taken (token ∷ []) left ∙ is })

deep_is_none : (depth : ℕ) (unique : Bool) (all : List Token) → OpensTooDeep depth unique all → (json : Json) → value depth all ≡ Some (json, []) → ⊥
deep_is_none depth unique all deep json read =
    let less = deep.deeper json (record {
      rest = deep.left;
      parts = append_assoc deep.taken (deep.next ∷ []) deep.left ∙ deep.parts ∙ value-json_tokens_back depth all [] json read ∙ append-nil (json_tokens json);
    }) in
    let fits = value-depth depth all [] json read in
    omega (arith, less, fits)

pub why_no_json : (depth : ℕ) (unique : Bool) (text : List ℕ) (error : JsonError) → ExplainsError depth unique text error → DeniesJson error
    → IsNotJson depth text
why_no_json depth unique text (errors.TooDeep position) why is = deep_is_none depth unique (tokens text) why
why_no_json depth unique text (errors.DuplicateName position) why is = absurd is
why_no_json depth unique text (errors.Emitter error) why is = absurd is
why_no_json depth unique text _ why is = broken_is_none depth unique (tokens text) why.0

-- a call that doesn't refuse the text says nothing of it
pub unrefused : (stop : Stop) → (IsByText stop → ⊥) → (P : Stop → Type 0) → ((error : yaml_error_t) → P (stops.Failed error)) → P stop
unrefused (stops.Failed error) never P failed = failed error
unrefused _ never P failed = absurd (never tt)
