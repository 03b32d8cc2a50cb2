-- The pending events, as collections are begun and go on.
use Rattle.yaml_toml.proofs.Common.{◌≡◌, ℕ, suc, length, length-append, Scalar, ◌+◌, ◌<◌, ◌≤◌, arith, ◌∷◌, ◌++◌, [], List, Bool, refl, ap, subst, sym, ◌∙◌}
use Rattle.yaml_toml.proofs.Common.{append-nil, append_assoc, Event, WriterState, WroteEvent, start_event, scalar, text_content, chars, sequence_end}
use Rattle.yaml_toml.proofs.Common.{mapping_end, TomlNode, TomlNodes, node, items_view, node_view, toml_events, toml_items_events, keys_events, count_after}
use Rattle.yaml_toml.proofs.Common.{Moved, GaveSome, PendingHaveNumbers, RestHasNumbers, rest_kind, kinds_of, pending, rest_events, rest_size, pending_size}
use Rattle.yaml_toml.proofs.Common.{Rest, CollectionKind, Mapping, Sequence}
use Rattle.std.proofs.lemmas.List.{length-map}
use Rattle.yaml_toml.proofs.Answering.{moved_event, moved_within, moved_then}
use Rattle.yaml_toml.specs.{OpenCounts.OpensAtMost, Walk.items_left, Walk.keys_left}
use Rattle.toml_ordered.specs.declared.tree.Node.{Node as CodeNode}

module _ (canonical in_flow : Bool) where
  -- one more that is open
  pub pending-push : (opened : List Rest) (r : Rest)
      → pending canonical in_flow (opened ++ r ∷ []) ≡ rest_events canonical in_flow r ++ pending canonical in_flow opened
  pending-push [] r = sym (append-nil (rest_events canonical in_flow r))
  pending-push (outer ∷ inner) r =
      ap (λ (events : List Event). events ++ rest_events canonical in_flow outer) (pending-push inner r)
      ∙ append_assoc (rest_events canonical in_flow r) (pending canonical in_flow inner) (rest_events canonical in_flow outer)

  -- an item, and those after it
  pub items_left-more : (x : CodeNode) (xs : List CodeNode)
      → items_left canonical in_flow (x ∷ xs) ≡ toml_events canonical in_flow (node_view x) ++ items_left canonical in_flow xs
  items_left-more x xs = append_assoc (toml_events canonical in_flow (node_view x)) (toml_items_events canonical in_flow (items_view xs)) (sequence_end ∷ [])

  pub keys_left-more : (k : List ℕ) (x : TomlNode) (ns : TomlNodes)
      → keys_left canonical in_flow (node k x ns) ≡ scalar (text_content (chars k)) ∷ (toml_events canonical in_flow x ++ keys_left canonical in_flow ns)
  keys_left-more k x ns =
      ap (λ (events : List Event). scalar (text_content (chars k)) ∷ events)
      (append_assoc (toml_events canonical in_flow x) (keys_events canonical in_flow ns) (mapping_end ∷ []))

pub kinds-push : (opened : List Rest) (r : Rest) → kinds_of (opened ++ r ∷ []) ≡ kinds_of opened ++ rest_kind r ∷ []
kinds-push [] r = refl
kinds-push (outer ∷ inner) r = ap (λ (ks : List CollectionKind). rest_kind outer ∷ ks) (kinds-push inner r)

pub numbers-push : (opened : List Rest) (r : Rest) → PendingHaveNumbers (opened ++ r ∷ []) → RestHasNumbers r × PendingHaveNumbers opened
numbers-push [] r have = (have.0, tt)
numbers-push (outer ∷ inner) r have = let more = numbers-push inner r have.1 in (more.0, (have.0, more.1))

pub size-push : (opened : List Rest) (r : Rest) → pending_size (opened ++ r ∷ []) ≡ rest_size r + pending_size opened
size-push [] r = refl
size-push (outer ∷ inner) r = ap (λ n. rest_size outer + n) (size-push inner r) ∙ omega arith

-- ---- how many are open

pub kinds_length : (opened : List Rest) → length (kinds_of opened) ≡ length opened
kinds_length opened = length-map opened rest_kind

pushed_length : (opened : List Rest) (r : Rest) → length (kinds_of (opened ++ r ∷ [])) ≡ suc (length (kinds_of opened))
pushed_length opened r = ap length (kinds-push opened r) ∙ length-append (kinds_of opened) (rest_kind r ∷ []) ∙ omega arith

pub entered : (in_flow : Bool) (kind : CollectionKind) (most before behind : ℕ) → before ≤ most → suc before ≤ most → behind ≡ suc before
    → OpensAtMost most before (start_event in_flow kind ∷ []) behind
entered in_flow Sequence most before behind fits room is = (fits, (room, sym is))
entered in_flow Mapping most before behind fits room is = (fits, (room, sym is))

pub left_open : (event : Event) (most before behind : ℕ) → before ≤ most → ((n : ℕ) → count_after event (suc n) ≡ n) → before ≡ suc behind
    → OpensAtMost most before (event ∷ []) behind
left_open event most before behind fits falls is =
    let next : count_after event before ≡ behind = ap (count_after event) is ∙ falls behind in
    (fits, (omega (arith, fits, is, next), next))

-- ---- steps

module _ (most : ℕ) (in_flow : Bool) (was now : WriterState) where
  -- a scalar was written
  pub steps_leaf : (content : Scalar) (numbers : Type 0) (opened : List Rest) → numbers → WroteEvent was (scalar content) now
      → GaveSome most in_flow was (scalar content ∷ pending was.canonical in_flow opened) (kinds_of opened) (numbers × PendingHaveNumbers opened)
      (1 + pending_size opened) now opened
  steps_leaf content numbers opened have wrote = record {
    given = scalar content ∷ [];
    moved = moved_event was now content (kinds_of opened) wrote;
    parts = refl;
    numbers_in = λ pending. (have, pending);
    less = omega arith;
    few = λ fits. (fits, (fits, refl));
  }

  -- a collection was begun, of which this is left
  pub steps_enter : (r : Rest) (opened after : List Rest) → after ≡ opened ++ r ∷ [] → length opened < most
      → Moved was (start_event in_flow (rest_kind r) ∷ []) [] (rest_kind r ∷ []) now
      → GaveSome most in_flow was (start_event in_flow (rest_kind r) ∷ (rest_events was.canonical in_flow r ++ pending was.canonical in_flow opened))
      (kinds_of opened) (RestHasNumbers r × PendingHaveNumbers opened) (1 + rest_size r + pending_size opened) now after
  steps_enter r opened after is room moved = subst (λ (all : List Rest). GaveSome most in_flow was (start_event in_flow (rest_kind r)
      ∷ (rest_events was.canonical in_flow r ++ pending was.canonical in_flow opened)) (kinds_of opened)
      (RestHasNumbers r × PendingHaveNumbers opened) (1 + rest_size r + pending_size opened) now all) (sym is)
      (record {
        given = start_event in_flow (rest_kind r) ∷ [];
        moved =
            subst (λ (ks : List CollectionKind). Moved was (start_event in_flow (rest_kind r) ∷ []) (kinds_of opened) ks now) (sym (kinds-push opened r))
            (subst (λ (ks : List CollectionKind). Moved was (start_event in_flow (rest_kind r) ∷ []) ks (kinds_of opened ++ rest_kind r ∷ []) now)
            (append-nil (kinds_of opened)) (moved_within was now (start_event in_flow (rest_kind r) ∷ []) (kinds_of opened) [] (rest_kind r ∷ []) moved));
        parts = ap (λ (events : List Event). start_event in_flow (rest_kind r) ∷ events) (pending-push was.canonical in_flow opened r);
        numbers_in = numbers-push opened r;
        less = omega (arith, size-push opened r);
        few = λ fits. entered in_flow (rest_kind r) most (length (kinds_of opened)) (length (kinds_of (opened ++ r ∷ []))) fits
            (omega (arith, room, kinds_length opened)) (pushed_length opened r);
      })

  -- the innermost was ended, of which nothing was left
  pub steps_end : (event : Event) (kind : CollectionKind) (numbers : Type 0) (opened : List Rest) → numbers
      → ((n : ℕ) → count_after event (suc n) ≡ n) → Moved was (event ∷ []) (kind ∷ []) [] now
      → GaveSome most in_flow was (event ∷ pending was.canonical in_flow opened) (kinds_of opened ++ kind ∷ []) (numbers × PendingHaveNumbers opened)
      (1 + pending_size opened) now opened
  steps_end event kind numbers opened have falls moved = record {
    given = event ∷ [];
    moved =
        subst (λ (ks : List CollectionKind). Moved was (event ∷ []) (kinds_of opened ++ kind ∷ []) ks now) (append-nil (kinds_of opened))
        (moved_within was now (event ∷ []) (kinds_of opened) (kind ∷ []) [] moved);
    parts = refl;
    numbers_in = λ pending. (have, pending);
    less = omega arith;
    few = λ fits. left_open event most (length (kinds_of opened ++ kind ∷ [])) (length (kinds_of opened)) fits falls
        (length-append (kinds_of opened) (kind ∷ []) ∙ omega arith);
  }

-- the same events were due, by other words
module _ {most : ℕ} {in_flow : Bool} {was now : WriterState} {due same : List Event} {before these : List CollectionKind} {numbers others : Type 0}
    {size limit : ℕ} {opened : List Rest} where
  pub steps_same : due ≡ same → before ≡ these → (numbers → others) → size ≤ limit → GaveSome most in_flow was due before numbers size now opened
      → GaveSome most in_flow was same these others limit now opened
  steps_same is kinds follows within steps = record {
    given = steps.given;
    moved = subst (λ (ks : List CollectionKind). Moved was steps.given ks (kinds_of opened) now) kinds steps.moved;
    parts = steps.parts ∙ is;
    numbers_in = λ pending. follows (steps.numbers_in pending);
    less = omega (arith, steps.less, within);
    few = subst (λ (ks : List CollectionKind). length ks ≤ most → OpensAtMost most (length ks) steps.given (length (kinds_of opened))) kinds steps.few;
  }

-- a scalar, and then steps
module _ {most : ℕ} {in_flow : Bool} {was between now : WriterState} {content : Scalar} {due : List Event} {kinds : List CollectionKind}
    {numbers : Type 0} {size : ℕ} {opened : List Rest} where
  pub steps_after : WroteEvent was (scalar content) between → GaveSome most in_flow between due kinds numbers size now opened
      → GaveSome most in_flow was (scalar content ∷ due) kinds numbers size now opened
  steps_after wrote steps = record {
    given = scalar content ∷ steps.given;
    moved = moved_then was between now (scalar content ∷ []) steps.given kinds kinds (kinds_of opened) (moved_event was between content kinds wrote)
        steps.moved;
    parts =
        ap (λ (events : List Event). scalar content ∷ events)
        (ap (λ (canonical : Bool). steps.given ++ pending canonical in_flow opened) (sym wrote.canonical) ∙ steps.parts);
    numbers_in = steps.numbers_in;
    less = steps.less;
    few = λ fits. (fits, steps.few fits);
  }
