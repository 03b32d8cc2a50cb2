-- The state of an emitter that failed, after the events that it was given and after later ones.
use Rattle.yaml_emitter.proofs.Common.{suc, if◌then◌else◌, IsSome, option_and_then, Option, None, Some, Result, Err, length, Bool, false, true, List, []}
use Rattle.yaml_emitter.proofs.Common.{◌++◌, ◌∷◌, refl, ◌≡◌, append_assoc, ap, subst, sym, ◌∙◌, arith, false≢true, stands_from_begins, Event, sequence_start}
use Rattle.yaml_emitter.proofs.Common.{sequence_end, mapping_start, mapping_end, no_nodes, no_pairs, at_item, at_key, Partial, before_stream, within_document}
use Rattle.yaml_emitter.proofs.Common.{push, pushed, first_standing, settings_for, text_written, IsPrefix, is_ready, written, refusal_at, refusal}
use Rattle.yaml_emitter.proofs.Common.{IsAcceptedPrefix, Settings, at_stream, Steps, steps, closes_at_once, event_stepped, render_event, unwritten}
use Rattle.yaml_emitter.proofs.Common.{partly_written, CutShort, Processed, IsPage, HoldsPieces, HasProgress, FailedAt, closes_last, StandsRefused}
use Rattle.yaml_emitter.proofs.Common.{holds_before, holds_part, StandsCut, at_event, StandsFailed, HasReached, failed_by, MachineState, Page, Wrote}
use Rattle.yaml_base.specs.declared.errors.{yaml_error_t.yaml_error_t, yaml_error_t.TheVariants.Memory, yaml_error_t.TheVariants.WriteError}
use Rattle.yaml_emitter.proofs.standing.{Flushing.flushed_output, Growing.cut_grows, StandingSteps.stepped_steps}
use Rattle.yaml_emitter.proofs.standing.Standing.{taken_same, refusal_same, accepted_next, is_page_wrote, named_more}
use Rattle.yaml_emitter.specs.Processing.{Refused}

failed_at : (given : Settings) (all prefix rest : List Event) (event : Event) (before : MachineState) → HasReached given all prefix (event ∷ rest) before
    → is_ready event rest ≡ true → FailedAt all prefix event rest
failed_at given all prefix rest event before h is =
    let count : written (event ∷ rest) ≡ suc (written rest) = ap (λ b. if b then suc (written rest) else 0) is in
    record { parts = h.parts; became_ready = omega (arith, h.ready, count) }

-- A collection's own end isn't refused after its start.
abbrev pub OwnAccepted : List Event → Event → List Event → Type 0
OwnAccepted prefix next rest = (canonical : Bool) (p q : Partial) → pushed p prefix ≡ Some q → closes_last prefix (next ∷ rest) ≡ true
    → refusal_at canonical q next ≡ None

own_one : (event next : Event) (rest : List Event) (canonical : Bool) (p q : Partial) → pushed p (event ∷ []) ≡ Some q
    → closes_at_once event (next ∷ rest) ≡ true → refusal_at canonical q next ≡ None
own_one (sequence_start c) sequence_end rest canonical (within_document e d s levels) q h closes =
    let same : within_document e d s (at_item c no_nodes ∷ levels) ≡ q = cc in ap (λ r. refusal_at canonical r sequence_end) (sym same)
own_one (mapping_start c) mapping_end rest canonical (within_document e d s levels) q h closes =
    let same : within_document e d s (at_key c no_pairs ∷ levels) ≡ q = cc in ap (λ r. refusal_at canonical r mapping_end) (sym same)
own_one _ _ rest canonical p q h closes = cc

own_later : (prefix : List Event) (next : Event) (rest : List Event) → OwnAccepted prefix next rest → (canonical : Bool) (made : Option Partial) (q : Partial)
    → option_and_then (λ r. pushed r prefix) made ≡ Some q → closes_last prefix (next ∷ rest) ≡ true → refusal_at canonical q next ≡ None
own_later prefix next rest others canonical None q h closes = cc
own_later prefix next rest others canonical (Some r) q h closes = others canonical r q h closes

pub own_accepted : (prefix : List Event) (next : Event) (rest : List Event) → OwnAccepted prefix next rest
own_accepted [] next rest canonical p q h closes = cc
own_accepted (event ∷ []) next rest canonical p q h closes = own_one event next rest canonical p q h closes
own_accepted (event ∷ other ∷ more) next rest canonical p q h closes = own_later (other ∷ more) next rest (own_accepted (other ∷ more) next rest) canonical
    (push p event) q h closes

refused_opens : (canonical : Bool) (prefix rest : List Event) (event : Event) (fault : yaml_error_t) (closes : Bool) → IsAcceptedPrefix canonical prefix
    → refusal canonical prefix event ≡ Some fault → closes_last prefix (event ∷ rest) ≡ closes → closes ≡ false
refused_opens canonical prefix rest event fault false begun refused is = refl
refused_opens canonical prefix rest event fault true begun refused is =
    let stands = stands_from_begins canonical prefix begun in
    let none : refusal canonical prefix event ≡ None =
    ap (λ o. option_and_then (λ q. refusal_at canonical q event) o) stands.is_partial
    ∙ own_accepted prefix event rest canonical before_stream stands.partial stands.is_partial is in
    cc

-- A refused event adds no text.
refused_stands : (given : Settings) (all prefix rest : List Event) (event : Event) (error : yaml_error_t) (before after : MachineState)
    → HasReached given all prefix (event ∷ rest) before → is_ready event rest ≡ true
    → Refused error event before after → StandsRefused given all error (failed_by error after)
refused_stands given all prefix rest event error before after h is done =
    let s = settings_for given all in
    let follows = closes_last prefix (event ∷ rest) in
    let refused : refusal given.canonical prefix event ≡ Some error =
    sym (refusal_same given all prefix event follows s before h.progress) ∙ done.refusal in
    let opens : follows ≡ false = refused_opens given.canonical prefix rest event error follows h.progress.stands refused refl in
    let kept = done.kept in
    record {
      prefix = prefix;
      event = event;
      later = rest;
      failed = failed_at given all prefix rest event before h is;
      progress =
          subst (λ follows. HasProgress given all prefix (steps s follows prefix at_stream first_standing) (failed_by error after)) opens
          (taken_same given all prefix (steps s follows prefix at_stream first_standing) before (failed_by error after)
          (ap (λ (s : MachineState). s.given) kept) (ap (λ (s : MachineState). s.settings) kept) (ap (λ (s : MachineState). s.stage) kept)
          (ap (λ (s : MachineState). s.open_ended) kept)
          (ap (λ (s : MachineState). s.page) kept) h.progress);
      refusal = refused;
    }

-- An event that is cut short adds a prefix of its piece.
cut_page : (prefix rest : List Event) (given : Settings) (all : List Event) (event : Event) (before after : MachineState)
    (answer : Result (Unit {0}) yaml_error_t)
    → HasProgress given all prefix (steps (settings_for given all) (closes_last prefix (event ∷ rest)) prefix at_stream first_standing) before
    → IsAcceptedPrefix given.canonical (prefix ++ event ∷ [])
    → Wrote (render_event before event (closes_at_once event rest)) before.page after.page answer
    → IsPage (settings_for given all) after.page
    × IsPrefix (text_written (settings_for given all)
    (steps (settings_for given all) (closes_last prefix (event ∷ rest)) prefix at_stream first_standing).pieces)
    after.page.text
    × IsPrefix after.page.text (text_written (settings_for given all)
    (steps (settings_for given all) (closes_at_once event rest) (prefix ++ event ∷ []) at_stream first_standing).pieces)
cut_page [] rest given all event before after answer h begun wrote =
    let none : after.page.encoding ≡ None = wrote.settings.encoding ∙ ap (λ (p : Page). p.encoding) h.page in
    absurd (false≢true (subst (λ o. IsSome o) none wrote.ready.begun))
cut_page (x ∷ prefix) rest given all event before after answer h begun wrote =
    let s = settings_for given all in
    let empty = closes_at_once event rest in
    let render = render_event before event empty in
    let progress = steps s (closes_last (x ∷ prefix) (event ∷ rest)) (x ∷ prefix) at_stream first_standing in
    let stepped = event_stepped before event empty in
    let stands = stands_from_begins given.canonical ((x ∷ prefix) ++ event ∷ []) begun in
    let grew = wrote.grew in (
      is_page_wrote h.page.0 wrote,
      record { rest = grew.prefix; parts = ap (λ text. text ++ grew.prefix) (sym h.page.1) ∙ sym grew.grown },
      record {
        rest = grew.rest;
        parts =
            ap (λ text. text ++ grew.rest) grew.grown
            ∙ append_assoc before.page.text grew.prefix grew.rest
            ∙ ap (λ text. before.page.text ++ text) (sym grew.parts)
            ∙ named_more s x prefix progress.pieces stepped.rendered.piece render before.page h.page refl
            ∙ sym (ap (λ (all : Steps). text_written s all.pieces) (stepped_steps given all x prefix rest event stands.partial before h stands.is_partial));
      },
    )

cut_stands : (given : Settings) (all prefix rest : List Event) (event : Event) (error : yaml_error_t) (before after : MachineState)
    → HasReached given all prefix (event ∷ rest) before → is_ready event rest ≡ true
    → CutShort error event (closes_at_once event rest) before after → StandsCut given all error (failed_by error after)
cut_stands given all prefix rest event error before after h is done =
    let s = settings_for given all in
    let follows = closes_last prefix (event ∷ rest) in
    let progress = h.progress in
    record {
      prefix = prefix;
      event = event;
      later = rest;
      failed = failed_at given all prefix rest event before h is;
      given_kept = ap (λ (s : MachineState). s.given) done.kept ∙ h.progress.given_kept;
      stands = h.progress.stands;
      page = elim done.page [
        | unwritten memory same ↦
            holds_before memory (subst (λ page. HoldsPieces s prefix (steps s follows prefix at_stream first_standing).pieces page) (sym same) progress.page)
        | partly_written part ↦
            let accepted = accepted_next given all prefix event follows s before progress part.accepted in
            let cut = cut_page prefix rest given all event before after part.answer progress accepted part.wrote in
            holds_part accepted cut.0 part.failed cut.1 cut.2
      ];
      flushed =
          flushed_output given all (length prefix) before.page.output after.page.output progress.flushed
          (cut_grows error event (closes_at_once event rest) before after done.page).output;
    }

-- A ready event fails.
pub reached_failed : (given : Settings) (all prefix rest : List Event) (event : Event) (before after : MachineState) (error : yaml_error_t)
    → HasReached given all prefix (event ∷ rest) before → is_ready event rest ≡ true
    → Processed event (closes_at_once event rest) before after (Err error)
    → StandsFailed given all error (failed_by error after)
reached_failed given all prefix rest event before after WriteError h is done =
    at_event (cut_stands given all prefix rest event WriteError before after h is done)
reached_failed given all prefix rest event before after Memory h is done = at_event (cut_stands given all prefix rest event Memory before after h is done)
reached_failed given all prefix rest event before after error h is done = refused_stands given all prefix rest event error before after h is done
