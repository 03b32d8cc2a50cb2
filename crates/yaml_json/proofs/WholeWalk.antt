-- The whole walk over the tokens of a value.
use Rattle.yaml_json.proofs.Common.{value-json_tokens_back, ℕ, Bool, List, [], ◌++◌, ◌∷◌, refl, ◌≡◌, append-nil, append_assoc, inl, inr, ap, subst, sym, ◌∙◌}
use Rattle.yaml_json.proofs.Common.{arith, ◌+◌, ◌≤◌, length, length-append, append_cancel_right, left_some, value, skip_value, Token, json_tokens}
use Rattle.yaml_json.proofs.Common.{BeginsWithinDepth, tokens_events, LeavesOpen, KeepsNames, BeganFirstValue, FirstFailed, Refuses, WalkProgress, IsBare}
use Rattle.yaml_json.proofs.Common.{WriterState, json_events, levels_after, GaveTokens, TextStopsWriting, StepFailed, Stop, yaml_error_t, Memory}
use Rattle.yaml_json.proofs.Common.{CollectionKind}
use Rattle.yaml_json.proofs.{Taking.open_levels, Taking.stood_nothing, KeepingNames.NamesSoFar, Stops.gave_no_more, Stops.all_left, TokenLemmas.value_given}
use Rattle.yaml_json.proofs.Walking.{closes_value, value_begins, awaiting_whole, next_stands}
use Rattle.yaml_json.specs.{Walk.IsInnermost, Walk.FailsGiving, Walk.WalkedOn, Failing.FailedInValue, Wrote.WroteValue, declared.names.Names.Names}
use Rattle.yaml_writer.proofs.GivenLemmas.{leaves_same, wrote_same}

no_first : (first more : List Token) → first ++ more ≡ [] → first ≡ []
no_first [] more none = refl
no_first (token ∷ first) more none = absurd (cc none)

module _ (depth : ℕ) (in_flow : Bool) (start : List Token) (was : WriterState) where
  -- the first token of the value was given
  pub first_so_far : (after : List Token) (opened : List CollectionKind) (now : WriterState) → IsBare was
      → BeganFirstValue depth in_flow start [] was after opened now → WalkProgress depth in_flow start was after opened now
  first_so_far after opened now bare began =
      record {
        taken = began.token ∷ [];
        parts = sym began.first;
        stood = began.began.gives was [] (stood_nothing in_flow was bare);
        stands = next_stands depth [] [] opened began.token after (awaiting_whole depth (began.token ∷ after)) began.began.begins;
      }

  -- or the writer failed
  nothing_given : (error : yaml_error_t) (now : WriterState) → IsBare was → error ≡ Memory → now ≡ was → FailedInValue depth in_flow start was error now
  nothing_given error now bare memory same = (
    [],
    (
      record {
        left = start;
        parts = refl;
        gave = record { gave = gave_no_more in_flow [] was now same was [] (stood_nothing in_flow was bare); is_error = inl memory };
        unchanged = λ none. same;
      },
      closes_value depth [] (awaiting_whole depth start).begins,
    ),
  )

  first_given : (error : yaml_error_t) (now : WriterState) → IsBare was → (token : Token) (after : List Token) → start ≡ token ∷ after
      → FailsGiving in_flow [] was (token ∷ []) error now → BeginsWithinDepth depth (token ∷ []) → FailedInValue depth in_flow start was error now
  first_given error now bare token after first (inl memory) begins = nothing_given error now bare memory.0 memory.1
  first_given error now bare token after first (inr fails) begins = (
    token ∷ [],
    (record { left = after; parts = sym first; gave = fails was [] (stood_nothing in_flow was bare); unchanged = λ none. absurd (cc none) }, begins),
  )

  pub first_failed : (error : yaml_error_t) (now : WriterState) → IsBare was → FirstFailed depth in_flow start [] was error now
      → FailedInValue depth in_flow start was error now
  first_failed error now bare (inl memory) = nothing_given error now bare memory.0 memory.1
  first_failed error now bare (inr failed) =
      first_given error now bare failed.token failed.after failed.first failed.failed.fails (value_begins depth (failed.token ∷ []) failed.failed.opened
      (next_stands depth [] [] failed.failed.opened failed.token failed.after (awaiting_whole depth (failed.token ∷ failed.after)) failed.failed.begins))

  module _ (ahead : List Token) (levels : List CollectionKind) (now : WriterState) (so_far : WalkProgress depth in_flow start was ahead levels now) where
    -- a step was made
    pub steps_on : (after : List Token) (opened : List CollectionKind) (later : WriterState)
        → WalkedOn depth in_flow ahead levels now after opened later → WalkProgress depth in_flow start was after opened later
    steps_on after opened later step =
        record {
          taken = so_far.taken ++ step.taken;
          parts = append_assoc so_far.taken step.taken after ∙ ap (λ (all : List Token). so_far.taken ++ all) (sym step.parts) ∙ so_far.parts;
          stood = step.gives was so_far.taken so_far.stood;
          stands = step.moves so_far.taken so_far.stands;
        }

    -- within an open collection a token was taken
    taken_within : (outer : List CollectionKind) (kind : CollectionKind) → levels ≡ outer ++ kind ∷ [] → (more : List Token) → so_far.taken ++ more ≡ [] → ⊥
    taken_within outer kind is more none =
        let first = no_first so_far.taken more none in
        let count : length was.levels ≡ length was.levels + length levels =
        ap length (sym (ap (λ (all : List Token). levels_after (tokens_events was.canonical in_flow all) was.levels) first) ∙ so_far.stood.opened)
        ∙ length-append was.levels levels in
        let some : length levels ≡ length outer + 1 = ap length is ∙ length-append outer (kind ∷ []) in
        omega (arith, count, some)

    pub step_failed : (outer : List CollectionKind) (kind : CollectionKind) → levels ≡ outer ++ kind ∷ [] → (error : yaml_error_t)
        → (later : WriterState) → StepFailed depth in_flow ahead levels now error later → FailedInValue depth in_flow start was error later
    step_failed outer kind is error later failed = (
      so_far.taken ++ failed.taken,
      (
        record {
          left = failed.left;
          parts = append_assoc so_far.taken failed.taken failed.left ∙ ap (λ (all : List Token). so_far.taken ++ all) failed.parts ∙ so_far.parts;
          gave = failed.fails was so_far.taken so_far.stood;
          unchanged = λ none. absurd (taken_within outer kind is failed.taken none);
        },
        failed.begins so_far.taken so_far.stands,
      ),
    )

    -- or the text stops it
    pub step_stopped : {A : Type 0} (outer : List CollectionKind) (kind : CollectionKind) → levels ≡ outer ++ kind ∷ [] → (unique : Bool)
        → (held : Names A) → NamesSoFar start ahead held → (stop : Stop) (later : WriterState) → (left : List Token)
        → Refuses depth unique in_flow levels held ahead left now stop later → TextStopsWriting depth unique in_flow start left was stop later
    step_stopped outer kind is unique held names stop later left refuses =
        let same = append_cancel_right names.taken so_far.taken ahead (names.parts ∙ sym so_far.parts) in
        record {
          taken = so_far.taken ++ refuses.taken;
          left = left;
          parts = append_assoc so_far.taken refuses.taken left ∙ ap (λ (all : List Token). so_far.taken ++ all) refuses.parts ∙ so_far.parts;
          why = refuses.why so_far.taken so_far.stands (subst (λ (all : List Token). KeepsNames all held) same names.kept);
          place = refuses.place so_far.taken so_far.stands (subst (λ (all : List Token). KeepsNames all held) same names.kept);
          were = all_left stop (so_far.taken ++ refuses.taken) left refuses.inside;
          gave = refuses.gave was so_far.taken so_far.stood;
          unchanged = λ none. absurd (taken_within outer kind is refuses.taken none);
        }

    -- the innermost is so in the writer
    pub innermost_open : (kind : CollectionKind) → IsInnermost kind levels → IsInnermost kind now.levels
    innermost_open kind inner =
        record {
          outer = was.levels ++ inner.outer;
          is = open_levels _ _ _ _ _ _ (subst (λ (all : List CollectionKind). GaveTokens in_flow was so_far.taken all now) inner.is so_far.stood);
        }

    -- within an open collection more are open than before
    pub open_within : (outer : List CollectionKind) (kind : CollectionKind) → levels ≡ outer ++ kind ∷ [] → (later : WriterState)
        → later.levels ≡ now.levels → length later.levels ≤ length was.levels → ⊥
    open_within outer kind is later same fewer =
        let stood = so_far.stood in
        let count : length later.levels ≡ length was.levels + length levels =
        ap length (same ∙ stood.gave.levels ∙ stood.opened) ∙ length-append was.levels levels in
        let more : length levels ≡ length outer + 1 = ap length is ∙ length-append outer (kind ∷ []) in
        omega (arith, count, more, fewer)

    -- nothing is open: the value was given
    pub all_written : levels ≡ [] → WroteValue depth in_flow start was ahead now
    all_written none =
        let stood = subst (λ (all : List CollectionKind). GaveTokens in_flow was so_far.taken all now) none so_far.stood in
        let stands = subst (LeavesOpen depth so_far.taken) none so_far.stands in
        let found = left_some (value depth start) ahead (ap (skip_value depth) (sym so_far.parts) ∙ (stands depth (omega arith)).1 ahead) in
        let same = append_cancel_right so_far.taken (json_tokens found.0) ahead (so_far.parts ∙ value-json_tokens_back depth start ahead found.0 found.1) in
        let events = tokens_events was.canonical in_flow so_far.taken in
        record {
          json = found.0;
          read = found.1;
          wrote = wrote_same was now events (json_events was.canonical in_flow found.0) (ap (tokens_events was.canonical in_flow) same ∙ value_given found.0
              was.canonical in_flow) (leaves_same _ _ _ _ _ (stood.opened ∙ append-nil was.levels) stood.gave);
        }
