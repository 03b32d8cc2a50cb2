-- Each event's work, as a step of the emitter.
use Rattle.yaml_emitter.proofs.Common.{ℕ, if◌then◌else◌, ◌==◌, Err, Ok, Bool, false, true, refl, ◌≡◌, ◌∙◌}
use Rattle.yaml_emitter.proofs.Common.{document_end, document_end_piece}
use Rattle.yaml_emitter.proofs.Common.{at_document, at_document_end, Processed, MachineState, piece_at, Page, encoded, Wrote}
use Rattle.yaml_base.specs.declared.errors.yaml_error_t.{yaml_error_t}
use Rattle.yaml_emitter.proofs.events_done.ProcessedBy.{processed_written_at, processed_cut_at}

pub document_cut : (empty : Bool) (before : MachineState) (implicit : Bool) (page : Page) (error : yaml_error_t) → before.stage ≡ at_document_end
    → Wrote (piece_at (document_end_piece implicit) before.open_ended) before.page page (Err error)
    → Processed (document_end implicit) empty before (record before { page = page }) (Err error)
document_cut empty before implicit page error at wrote =
    processed_cut_at (document_end implicit) empty before (record before { page = page }) at_document_end error at refl refl refl wrote

pub document_ended : (empty : Bool) (before : MachineState) (implicit : Bool) (page : Page) (open_ended : ℕ) → before.stage ≡ at_document_end
    → Wrote (piece_at (document_end_piece implicit) before.open_ended) before.page page (Ok tt)
    → open_ended ≡ (if implicit then (if before.open_ended == 0 then 1 else before.open_ended) else 0) → page.output ≡ encoded page
    → Processed (document_end implicit) empty before (record before { stage = at_document false; open_ended = open_ended; page = page }) (Ok tt)
document_ended empty before implicit page open_ended at wrote open_ended_is flushed_whole =
    processed_written_at (document_end implicit) empty before
    (record before { stage = at_document false; open_ended = open_ended; page = page }) at_document_end at tt refl refl refl refl
    (open_ended_is ∙ by implicit) wrote (λ _. flushed_whole)
  where
    by : (implicit : Bool) → (if implicit then (if before.open_ended == 0 then 1 else before.open_ended) else 0)
        ≡ (document_end_piece implicit (record { cursor = before.page.cursor; open_ended = before.open_ended })).standing.open_ended
    by true = refl
    by false = refl
