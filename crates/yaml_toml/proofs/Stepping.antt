-- The calls of a walk over a document, from the calls of its writer and of its list.
use Rattle.yaml_toml.proofs.Common.{◌≡◌, ℕ, suc, length, ◌+◌, ◌<◌, ◌≤◌, arith, ◌∷◌, ◌++◌, [], List, Bool, Result, Ok, Err, OnOk, refl, ap, subst, sym, ◌∙◌}
use Rattle.yaml_toml.proofs.Common.{append_assoc, Event, Scalar, scalar, WriterState, WroteEvent, start_event, end_event, max, yaml_error_t, on_ok, kept_then}
use Rattle.yaml_toml.proofs.Common.{toml_nesting, toml_events, count_after, GaveSome, HasNumbers, IsStopOf, Moved, PendingHaveNumbers, RestHasNumbers, kinds_of}
use Rattle.yaml_toml.proofs.Common.{pending, pending_size, rest_events, rest_kind, rest_size, TomlStep, collection_due, rest_due, value_due, walk_at}
use Rattle.yaml_toml.proofs.Common.{CollectionKind, Mapping, Sequence, Rest, Stop, TomlNode, ValueSettings}
use Rattle.std.specs.Prelude.{◌↔◌, pred}
use Rattle.yaml_toml.proofs.{Answering.on_both, Halting.fewer_fit, Halting.halts_after, Halting.halts_at_once, Halting.halts_of, Halting.halts_same}
use Rattle.yaml_toml.proofs.Fitting.{fits_end, fits_enter, fits_failed, fits_leaf, fits_memory, fits_next, fits_same}
use Rattle.yaml_toml.proofs.Pending.{kinds_length, kinds-push, numbers-push, pending-push, size-push, steps_after, steps_end, steps_enter, steps_leaf}
use Rattle.yaml_toml.proofs.Pending.{steps_same}
use Rattle.yaml_toml.specs.Fitting.{NodeFits, PendingFits, RestFits, rest_nesting}
use Rattle.yaml_toml.specs.Walk.{IsOwnMemory, KeptAfterStop, node_size, stop_error}
use Rattle.yaml_toml.specs.WalkSteps.{Due, DueFits, DueHasNumbers, all_due, due_size, events_due, kinds_around, WroteScalar, value_of_rest}
use Rattle.yaml_writer.{proofs.AnswerLemmas.kept_by, proofs.AnswerLemmas.kept_memory, proofs.AnswerLemmas.ok_by, specs.Answering.Answers}
use Rattle.toml_ordered.specs.declared.tree.Origin.{Origin}
use Rattle.yaml_toml.specs.declared.walk.Stop.TheVariants as stop
use Rattle.yaml_toml.specs.declared.walk.Rest.TheVariants as rest

-- these events and then one due part are another due part, and each is within its collections
pub record SameDue (ahead : List Event) (depth : ℕ) (canonical in_flow : Bool) (part : Due) (kept : List Rest) (whole : Due) (opened : List Rest)
    : Type 0 where
  pub events :
      ahead ++ (events_due canonical in_flow part ++ pending canonical in_flow kept) ≡ events_due canonical in_flow whole ++ pending canonical in_flow opened
  pub kinds : kinds_around part kept ≡ kinds_around whole opened
  pub numbers : DueHasNumbers part × PendingHaveNumbers kept → DueHasNumbers whole × PendingHaveNumbers opened
  pub size : due_size part + pending_size kept ≤ due_size whole + pending_size opened
  pub fits : DueFits depth part kept ↔ DueFits depth whole opened

-- a value, in a collection with this rest after it
pub due_next : (ahead : List Event) (depth : ℕ) (canonical in_flow : Bool) (x : TomlNode) (r whole : Rest) (opened kept : List Rest) → kept ≡ opened ++ r ∷ []
    → rest_kind r ≡ rest_kind whole → ahead ++ (toml_events canonical in_flow x ++ rest_events canonical in_flow r) ≡ rest_events canonical in_flow whole
    → (HasNumbers x × RestHasNumbers r → RestHasNumbers whole) → node_size x + rest_size r ≤ rest_size whole
    → max (toml_nesting x) (rest_nesting r) ≡ rest_nesting whole → SameDue ahead depth canonical in_flow (value_due x) kept (rest_due whole) opened
due_next ahead depth canonical in_flow x r whole opened kept is kind events numbers size nesting =
    let given = toml_events canonical in_flow x in
    let rest = pending canonical in_flow opened in
    record {
      events =
          ap (λ (all : List Rest). ahead ++ (given ++ pending canonical in_flow all)) is
          ∙ ap (λ (es : List Event). ahead ++ (given ++ es)) (pending-push canonical in_flow opened r)
          ∙ ap (λ (es : List Event). ahead ++ es) (sym (append_assoc given (rest_events canonical in_flow r) rest))
          ∙ sym (append_assoc ahead (given ++ rest_events canonical in_flow r) rest)
          ∙ ap (λ (es : List Event). es ++ rest) events;
      kinds = ap kinds_of is ∙ kinds-push opened r ∙ ap (λ (kind : CollectionKind). kinds_of opened ++ kind ∷ []) kind;
      numbers = λ have.
          let more = numbers-push opened r (subst PendingHaveNumbers is have.1) in
          (numbers (have.0, more.0), more.1);
      size = omega (arith, ap pending_size is, size-push opened r, size);
      fits = fits_next depth opened kept r is (toml_nesting x) (rest_nesting whole) nesting;
    }

due_begun : (depth : ℕ) (canonical in_flow : Bool) (origin : Origin) (r : Rest) (opened : List Rest)
    → SameDue [] depth canonical in_flow (collection_due r) opened (value_due (value_of_rest origin r)) opened
due_begun depth canonical in_flow origin (rest.Items items) opened =
    record { events = refl; kinds = refl; numbers = λ have. have; size = omega arith; fits = (λ fits. fits, λ fits. fits) }
due_begun depth canonical in_flow origin _ opened =
    record { events = refl; kinds = refl; numbers = λ have. have; size = omega arith; fits = (λ fits. fits, λ fits. fits) }

module _ (settings : ValueSettings) (was : WriterState) where
  kept_of : {event : Event} (now : WriterState) (answer : Result (Unit {0}) yaml_error_t) (result : Result (Unit {0}) Stop) → IsStopOf answer result
      → Answers was event answer now → KeptAfterStop was result now
  kept_of = kept_by (λ error. stop.Failed error) stop_error (λ error. refl) was

  -- ---- before the writer was called

  -- an allocation of the call's own failed
  pub step_memory : (due : Due) (opened after : List Rest) (stopped : Stop) → IsOwnMemory stopped
      → TomlStep settings due (walk_at was opened) (Err stopped) (walk_at was after)
  step_memory due opened after stopped is = record {
    nests = fits_memory settings.depth (DueFits settings.depth due opened) stopped after is;
    stopped = halts_at_once was;
    kept = kept_memory stop_error was stopped (ap stop_error is);
  }

  -- ---- a call of the writer

  module _ (now : WriterState) where
    -- that failed
    pub step_failed : (due : Due) (opened after : List Rest) (event : Event) (more : List Event) (answer : Result (Unit {0}) yaml_error_t) (stopped : Stop)
        → event ∷ more ≡ all_due settings.flow due (walk_at was opened)
        → (length (kinds_around due opened) ≤ settings.depth → count_after event (length (kinds_around due opened)) ≤ settings.depth)
        → IsStopOf answer (Err stopped) → Answers was event answer now
        → TomlStep settings due (walk_at was opened) (Err stopped) (walk_at now after)
    step_failed due opened after event more answer stopped events room is answers = record {
      nests = fits_failed settings.depth (DueFits settings.depth due opened) answer stopped after is;
      stopped = halts_same events refl (halts_of event more (kinds_around due opened) answer (Err stopped) room is answers);
      kept = kept_of now answer (Err stopped) is answers;
    }

    step_by : (due : Due) (opened after : List Rest) (event : Event) (more : List Event) (answer : Result (Unit {0}) yaml_error_t)
        (result : Result (Unit {0}) Stop) → event ∷ more ≡ all_due settings.flow due (walk_at was opened)
        → (length (kinds_around due opened) ≤ settings.depth → count_after event (length (kinds_around due opened)) ≤ settings.depth)
        → PendingFits settings.depth 0 after ↔ DueFits settings.depth due opened → IsStopOf answer result → Answers was event answer now
        → OnOk answer (GaveSome settings.depth settings.flow was (all_due settings.flow due (walk_at was opened)) (kinds_around due opened)
        (DueHasNumbers due × PendingHaveNumbers opened) (due_size due + pending_size opened) now after)
        → TomlStep settings due (walk_at was opened) result (walk_at now after)
    step_by due opened after event more (Ok done) (Ok same) events room fits is answers gave =
        record { written = gave; nests = fits; kept = kept_of now (Ok done) (Ok same) is answers }
    step_by due opened after event more (Err error) (Err stopped) events room fits is answers gave =
        step_failed due opened after event more (Err error) stopped events room is answers
    step_by due opened after event more _ _ events room fits is answers gave = absurd is

    -- of a scalar
    pub step_scalar : (opened : List Rest) (x : TomlNode) (answer : Result (Unit {0}) yaml_error_t) (result : Result (Unit {0}) Stop) → IsStopOf answer result
        → WroteScalar x was answer now → TomlStep settings (value_due x) (walk_at was opened) result (walk_at now opened)
    step_scalar opened x answer result is wrote =
        let content = wrote.content in
        let rest = pending was.canonical settings.flow opened in
        let parts = ap (λ (es : List Event). es ++ rest) (wrote.events settings.flow) in
        step_by (value_due x) opened opened (scalar content) rest answer result parts (λ fits. fits) (subst (λ n. PendingFits settings.depth 0 opened ↔ NodeFits
        settings.depth n opened) wrote.nesting (fits_leaf settings.depth opened)) is wrote.gives.kept (on_ok answer (λ have. steps_same parts refl (λ all. all)
        (omega (arith, wrote.size)) (steps_leaf _ _ _ _ _ (HasNumbers x) _ have.0 have.1)) (on_both _ _ _ wrote.numbers wrote.gives.written))

    opened_fits : (kind : CollectionKind) (before : ℕ) → suc before ≤ settings.depth → count_after (start_event settings.flow kind) before ≤ settings.depth
    opened_fits Sequence before room = room
    opened_fits Mapping before room = room

    -- of the start of a collection
    pub step_enter : (opened after : List Rest) (r : Rest) (kind : CollectionKind) (answer : Result (Unit {0}) yaml_error_t) (result : Result (Unit {0}) Stop)
        → after ≡ opened ++ r ∷ [] → length opened < settings.depth → kind ≡ rest_kind r → IsStopOf answer result
        → Answers was (start_event settings.flow kind) answer now → OnOk answer (Moved was (start_event settings.flow kind ∷ []) [] (kind ∷ []) now)
        → TomlStep settings (collection_due r) (walk_at was opened) result (walk_at now after)
    step_enter opened after r kind answer result is room same stops answers moved =
        step_by (collection_due r) opened after (start_event settings.flow (rest_kind r))
        (rest_events was.canonical settings.flow r ++ pending was.canonical settings.flow opened) answer result refl
        (λ fits. opened_fits (rest_kind r) (length (kinds_of opened)) (omega (arith, room, kinds_length opened))) (fits_enter settings.depth opened _ r is room)
        stops (subst (λ (k : CollectionKind). Answers was (start_event settings.flow k) answer now) same answers) (on_ok answer (λ begun. steps_enter _ _ _ _ r
        opened _ is room (subst (λ (k : CollectionKind). Moved was (start_event settings.flow k ∷ []) [] (k ∷ []) now) same begun)) moved)

    falls : (kind : CollectionKind) (n : ℕ) → count_after (end_event kind) n ≡ pred n
    falls Sequence n = refl
    falls Mapping n = refl

    -- of the end of the innermost, of which nothing is left
    pub step_end : (opened : List Rest) (r : Rest) (answer : Result (Unit {0}) yaml_error_t) (result : Result (Unit {0}) Stop)
        → end_event (rest_kind r) ∷ [] ≡ rest_events was.canonical settings.flow r → RestHasNumbers r → 1 ≡ rest_size r → 0 ≡ rest_nesting r
        → IsStopOf answer result → Answers was (end_event (rest_kind r)) answer now
        → OnOk answer (Moved was (end_event (rest_kind r) ∷ []) (rest_kind r ∷ []) [] now)
        → TomlStep settings (rest_due r) (walk_at was opened) result (walk_at now opened)
    step_end opened r answer result events have size nesting is answers moved =
        let kind = rest_kind r in
        let rest = pending was.canonical settings.flow opened in
        let parts = ap (λ (es : List Event). es ++ rest) events in
        let around = kinds_of opened ++ kind ∷ [] in
        step_by (rest_due r) opened opened (end_event kind) rest answer result parts (λ fits. subst (λ n. n ≤ settings.depth) (sym (falls kind (length around)))
        (fewer_fit settings.depth (length around) fits)) (subst (λ n. PendingFits settings.depth 0 opened ↔ RestFits settings.depth n opened) nesting
        (fits_end settings.depth opened)) is answers (on_ok answer (λ ends. steps_same parts refl (λ all. all) (omega (arith, size)) (steps_end settings.depth
        settings.flow was now (end_event kind) kind (RestHasNumbers r) opened have (λ n. falls kind (suc n)) ends)) moved)

    -- ---- a call of the walk

    -- the same was due, by other words
    pub step_same : (part whole : Due) (kept opened after : List Rest) (result : Result (Unit {0}) Stop)
        → SameDue [] settings.depth was.canonical settings.flow part kept whole opened
        → TomlStep settings part (walk_at was kept) result (walk_at now after) → TomlStep settings whole (walk_at was opened) result (walk_at now after)
    step_same part whole kept opened after (Ok done) same step = record {
      written = steps_same same.events same.kinds same.numbers same.size step.written;
      nests = fits_same settings.depth _ _ (Ok done) after same.fits step.nests;
      kept = step.kept;
    }
    step_same part whole kept opened after (Err stopped) same step = record {
      nests = fits_same settings.depth _ _ (Err stopped) after same.fits step.nests;
      stopped = halts_same same.events same.kinds step.stopped;
      kept = step.kept;
    }

    -- a collection is a value
    pub step_begun : (origin : Origin) (r : Rest) (x : TomlNode) (opened after : List Rest) (result : Result (Unit {0}) Stop) → x ≡ value_of_rest origin r
        → TomlStep settings (collection_due r) (walk_at was opened) result (walk_at now after)
        → TomlStep settings (value_due x) (walk_at was opened) result (walk_at now after)
    step_begun origin r x opened after result seen step =
        subst (λ (z : TomlNode). TomlStep settings (value_due z) (walk_at was opened) result (walk_at now after)) (sym seen) (step_same (collection_due r)
        (value_due (value_of_rest origin r)) opened opened after result (due_begun settings.depth was.canonical settings.flow origin r opened) step)

    same_events : (between : WriterState) (content : Scalar) (part : Due) (kept : List Rest) → between.canonical ≡ was.canonical
        → scalar content ∷ all_due settings.flow part (walk_at between kept) ≡ scalar content ∷ all_due settings.flow part (walk_at was kept)
    same_events between content part kept same = ap (λ (c : Bool). scalar content ∷ (events_due c settings.flow part ++ pending c settings.flow kept)) same

    -- the same was due, after a scalar
    pub step_behind : (between : WriterState) (content : Scalar) (part whole : Due) (kept opened after : List Rest) (answer : Result (Unit {0}) yaml_error_t)
        (result : Result (Unit {0}) Stop) → SameDue (scalar content ∷ []) settings.depth was.canonical settings.flow part kept whole opened
        → IsStopOf answer (Ok tt) → OnOk answer (WroteEvent was (scalar content) between) → Answers was (scalar content) answer between
        → TomlStep settings part (walk_at between kept) result (walk_at now after) → TomlStep settings whole (walk_at was opened) result (walk_at now after)
    step_behind between content part whole kept opened after answer (Ok done) same is told answers step =
        let wrote = ok_by (λ (error : yaml_error_t). stop.Failed error) (WroteEvent was (scalar content) between) answer (Ok tt) is told in
        record {
          written = steps_same (same_events between content part kept wrote.canonical ∙ same.events) same.kinds same.numbers same.size
              (steps_after wrote step.written);
          nests = fits_same settings.depth _ _ (Ok done) after same.fits step.nests;
          kept = kept_then was between now (Ok tt) (kept_of between answer (Ok tt) is answers) step.kept;
        }
    step_behind between content part whole kept opened after answer (Err stopped) same is told answers step =
        let wrote = ok_by (λ (error : yaml_error_t). stop.Failed error) (WroteEvent was (scalar content) between) answer (Ok tt) is told in
        record {
          nests = fits_same settings.depth _ _ (Err stopped) after same.fits step.nests;
          stopped = halts_same (same_events between content part kept wrote.canonical ∙ same.events) same.kinds (halts_after wrote step.stopped);
          kept = kept_then was between now (Err stopped) (kept_of between answer (Ok tt) is answers) step.kept;
        }
