-- Why an emitter failed that was given the first events of a stream, each of which is in order.
use Rattle.yaml_writer.proofs.Common.{ℕ, ◌<◌, ◌≤◌, Some, true, List, [], ◌++◌, ◌∷◌, refl, ◌≡◌, append-nil, append_assoc, inr, ap, subst, sym}
use Rattle.yaml_writer.proofs.Common.{◌∙◌, arith, list_all, Event, Settings, IsRefusal, State, PassesLimit}
use Rattle.yaml_base.proofs.Common.{◌⊎◌, inl, is_sound, Stream, stream_events}
use Rattle.std.proofs.lemmas.Bool.{cases_lt}
use Rattle.yaml_base.specs.Refusal.{most_open, open_count}
use Rattle.yaml_base.specs.declared.errors.{yaml_error_t.yaml_error_t, yaml_error_t.TheVariants.Memory, yaml_error_t.TheVariants.TooDeep}
use Rattle.yaml_base.specs.declared.errors.yaml_error_t.TheVariants.{WriteError}
use Rattle.yaml_emitter.proofs.standing.{StandingMore.failed_more}
use Rattle.yaml_emitter.specs.{Promises.RefusedAt, StandsAfter.StateStands}
use Rattle.yaml_writer.proofs.{Overflow.overflowed, StreamRefusals.begins_if_shallow, StreamRefusals.refused_by_depth}
use Rattle.yaml_writer.specs.Unfinished.{FailsBy, IsNoStream}

-- ---- by the kind of the error

-- an error is one of memory, the limit's, or the refusal of an event
which : (error : yaml_error_t) → (error ≡ Memory) ⊎ ((error ≡ WriteError) ⊎ IsRefusal error)
which Memory = inl refl
which WriteError = inr (inl refl)
which error = inr (inr tt)

pub fails_by : (depth : ℕ) (over_limit deeper : Type 0) (error : yaml_error_t) → (error ≡ WriteError → over_limit)
    → (IsRefusal error → (error ≡ TooDeep) × ((most_open < depth) × deeper)) → FailsBy depth over_limit deeper error
fails_by depth over_limit deeper error full refused = by_kind (which error)
  where
    by_kind : (error ≡ Memory) ⊎ ((error ≡ WriteError) ⊎ IsRefusal error) → FailsBy depth over_limit deeper error
    by_kind (inl memory) = inl memory
    by_kind (inr (inl same)) = inr (inl (same, full same))
    by_kind (inr (inr refusal)) = inr (inr (refused refusal))

-- If the limit is exceeded, the bytes pass it, whatever else is given.
pub overflowed_more : (given : Settings) (more all : List Event) (state : State) → StateStands given all state → state.error ≡ Some WriteError
    → PassesLimit given (all ++ more)
overflowed_more given [] all state stands is = subst (PassesLimit given) (sym (append-nil all)) (overflowed given all state stands is)
overflowed_more given (event ∷ more) all state stands is =
    subst (PassesLimit given) (append_assoc all (event ∷ []) more)
    (overflowed_more given more (all ++ event ∷ []) (record state { started = true }) (failed_more given all event state WriteError stands is) is)

-- ---- an event that is refused

-- no prefix of these events leaves more than the most open
abbrev pub NeverPasses : (most : ℕ) → List Event → Type 0
NeverPasses most events = (prefix rest : List Event) → prefix ++ rest ≡ events → open_count prefix ≤ most

-- nor a prefix of their first
pub first_passes : (most : ℕ) (first later events : List Event) → first ++ later ≡ events → NeverPasses most events → NeverPasses most first
first_passes most first later events whole few = λ prefix rest is.
    few prefix (rest ++ later) (sym (append_assoc prefix rest later) ∙ ap (λ (all : List Event). all ++ later) is ∙ whole)

module _ (given : Settings) (all : List Event) (tree : Stream) (flat : stream_events tree ≡ all)
    (in_order : list_all (is_sound given.canonical) all ≡ true) where
  -- an emitter that was given the first of these events refused one of them
  module _ (first later : List Event) (whole : first ++ later ≡ all) (state : State) (error : yaml_error_t) (refused : RefusedAt given first error state) where
    abbrev with_event : List Event
    with_event = refused.prefix ++ refused.event ∷ []

    cut : with_event ++ refused.later ≡ first
    cut = append_assoc refused.prefix (refused.event ∷ []) refused.later ∙ refused.parts

    goes_on : refused.prefix ++ refused.event ∷ (refused.later ++ later) ≡ all
    goes_on =
        sym (append_assoc refused.prefix (refused.event ∷ refused.later) later)
        ∙ ap (λ (more : List Event). more ++ later) refused.parts ∙ whole

    cut_whole : with_event ++ (refused.later ++ later) ≡ all
    cut_whole = append_assoc refused.prefix (refused.event ∷ []) (refused.later ++ later) ∙ goes_on

    pub refused_depth : error ≡ TooDeep
    refused_depth =
        refused_by_depth given.canonical all tree flat in_order refused.prefix (refused.later ++ later) refused.event goes_on error refused.refusal

    -- they leave more open than may be
    pub refused_deeper : (most : ℕ) → NeverPasses most first → most_open < most
    refused_deeper most few = elim (cases_lt most_open most) [
      | inl more ↦ more
      | inr fits ↦ absurd (refused.ends (begins_if_shallow given.canonical all tree flat in_order with_event (refused.later ++ later) cut_whole
          (λ start rest same. let opened = first_passes most with_event refused.later first cut few start rest same in omega (arith, opened, fits))))
    ]

  -- or they are no stream
  module _ (error : yaml_error_t) (none : IsNoStream given.canonical all error) where
    pub unfinished_depth : error ≡ TooDeep
    unfinished_depth =
        let one = none.named in
        refused_by_depth given.canonical all tree flat in_order one.prefix one.later one.event one.parts error one.refusal

    pub unfinished_deeper : (most : ℕ) → NeverPasses most all → most_open < most
    unfinished_deeper most few = elim (cases_lt most_open most) [
      | inl more ↦ more
      | inr fits ↦ absurd (none.unaccepted (record {
        stream = tree;
        is_stream = flat;
        sound = in_order;
        shallow = λ prefix rest is. let opened = few prefix rest is in omega (arith, opened, fits);
      }))
    ]
