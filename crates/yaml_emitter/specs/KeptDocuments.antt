-- Whole documents that stay in the output, whatever fails after them.
use Rattle.std.specs.Prelude.{◌≡◌, ℕ, ◌≤◌, Option, None, Some, List, ◌++◌, length}
use Rattle.yaml_base.specs.Settings.{Encoding, Settings}
use Rattle.yaml_base.specs.Prefix.{IsPrefix}
use Rattle.yaml_base.specs.Event.{Event}
use Rattle.yaml_base.specs.Grammar.{Document, Documents}
use Rattle.yaml_base.specs.Pieces.{pieces}
use Rattle.yaml_base.specs.Output.{settings_for, bytes_written}
use Rattle.yaml_base.specs.Refusal.{IsAcceptedPrefix}
use Rattle.yaml_base.specs.declared.errors.yaml_error_t.{yaml_error_t}
use Rattle.yaml_base.specs.declared.errors.yaml_error_t.TheVariants.{WriteError, Memory}
use Rattle.yaml_emitter.specs.State.{State}
use Rattle.yaml_emitter.specs.StaysFlushed.{whole_documents, KeepsDocuments}
use Rattle.yaml_emitter.specs.Promises.{StopsWriting}

-- the output has all bytes of the documents that are complete in the first `count` of these events
abbrev pub KeepsFirstDocuments : Settings → List Event → (count : ℕ) → (output : List ℕ) → Type 0
KeepsFirstDocuments given all count output =
    (encoding : Option Encoding) (documents : Documents) (last : Document) (later : List Event) → whole_documents encoding documents last ++ later ≡ all
    → length (whole_documents encoding documents last) ≤ count
    → IsPrefix (bytes_written (settings_for given all) (pieces (settings_for given all) all (length (whole_documents encoding documents last)))) output

-- the output has all bytes of the documents that are complete in these events and begin an accepted list
abbrev pub KeepsAcceptedDocuments : Settings → List Event → (output : List ℕ) → Type 0
KeepsAcceptedDocuments given all output =
    (encoding : Option Encoding) (documents : Documents) (last : Document) (later : List Event) → whole_documents encoding documents last ++ later ≡ all
    → IsAcceptedPrefix given.canonical (whole_documents encoding documents last)
    → IsPrefix (bytes_written (settings_for given all) (pieces (settings_for given all) all (length (whole_documents encoding documents last)))) output

-- the complete documents stay in the output: without an error all of them; after a refusal those with which an accepted list
-- begins; after a failure of memory or the limit those before the event in work
abbrev pub DocumentsStay : Option yaml_error_t → Settings → List Event → State → Type 0
DocumentsStay None given all state = KeepsDocuments given all state.page.output
DocumentsStay (Some WriteError) given all state =
    (prefix : List Event) × (StopsWriting given all prefix state × KeepsFirstDocuments given all (length prefix) state.page.output)
DocumentsStay (Some Memory) given all state =
    (prefix : List Event) × (StopsWriting given all prefix state × KeepsFirstDocuments given all (length prefix) state.page.output)
DocumentsStay (Some error) given all state = KeepsAcceptedDocuments given all state.page.output
