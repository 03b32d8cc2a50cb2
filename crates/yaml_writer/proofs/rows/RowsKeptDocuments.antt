-- Worked rows: a writer keeps all bytes of the documents that it ended, whatever its later calls answer.
use Rattle.yaml_writer.proofs.Common.{None, Result, codes, false, true, List, [], ◌++◌, ◌∷◌, refl, ◌≡◌, prefix_then, Event, document_end, Grows}
use Rattle.yaml_writer.proofs.Common.{WriterState, plain_start, PassedEvents, StandsAfter, GaveEvent}
use Rattle.yaml_base.specs.{Prefix.IsPrefix, Settings.nothing_given, declared.errors.yaml_error_t.yaml_error_t}
use Rattle.yaml_emitter.{proofs.standing.KeptDocuments.documents_without_error, proofs.standing.Promising.promised, specs.State.new_state}
use Rattle.yaml_emitter.proofs.rows.RowsKeptDocuments.{two, begun, both, kept, not_empty}
use Rattle.yaml_writer.specs.Writing.{opening, text_event, EndedCollection}

-- a writer without properties for the next node
abbrev bare : WriterState
bare = record { emitter = new_state; canonical = false; levels = []; anchor = None; tag = None }

-- the events of a text, of another in a second document, and of the start of a third
its_events :
    opening ++ text_event bare (codes "a") ∷ document_end true ∷ plain_start ∷ text_event bare (codes "b") ∷ document_end true ∷ plain_start ∷ []
    ≡ begun
its_events = refl

-- The emitter was given the two documents and later events, and has no error.
module _ (later : List Event) (before : WriterState) (stood : StandsAfter nothing_given (two ++ later) before.emitter)
    (none : before.emitter.error ≡ None) (after : WriterState) where
  stays : Grows before.emitter.page after.emitter.page → IsPrefix both after.emitter.page.output
  stays grows =
      prefix_then
      (kept (two ++ later) later before.emitter.page.output refl
      (documents_without_error nothing_given (two ++ later) before.emitter (promised nothing_given (two ++ later) before.emitter stood) none))
      grows.output

  -- so no state whose output was emptied follows a call, whether it gave an event, and whatever its error is,
  emptied_giving : (event : Event) (answer : Result (Unit {0}) yaml_error_t) → GaveEvent before event answer after → after.emitter.page.output ≡ [] → ⊥
  emptied_giving event answer h = not_empty after.emitter.page.output (stays h.emits.grows)

  -- or ended the document and began the next,
  emptied_passing : (events : List Event) (answer : Result (Unit {0}) yaml_error_t) → PassedEvents before events answer after
      → after.emitter.page.output ≡ [] → ⊥
  emptied_passing events answer h = not_empty after.emitter.page.output (stays h.emits.grows)

  -- or ended a collection
  emptied_ending : (answer : Result (Unit {0}) yaml_error_t) → EndedCollection before answer after → after.emitter.page.output ≡ [] → ⊥
  emptied_ending answer h = not_empty after.emitter.page.output (stays h.emits.grows)
