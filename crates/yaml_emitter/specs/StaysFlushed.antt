-- Flushed bytes stay flushed: at the end of a document all its bytes are in the output, and stay there.
use Rattle.std.specs.Prelude.{◌≡◌, ℕ, ◌≤◌, true, Option, List, ◌∷◌, ◌++◌, length, take}
use Rattle.yaml_base.specs.Settings.{Encoding, Settings}
use Rattle.yaml_base.specs.Prefix.{IsPrefix}
use Rattle.yaml_base.specs.Event.{Event, stream_start}
use Rattle.yaml_base.specs.Grammar.{Document, Documents, documents_and, documents_events}
use Rattle.yaml_base.specs.Pieces.{pieces}
use Rattle.yaml_base.specs.Output.{settings_for, bytes_written, last_flushes}

-- for each prefix of the first `count` events that ends with the end of a document or of the stream, the bytes of its pieces are a
-- prefix of the output
abbrev pub StaysFlushed : Settings → List Event → (count : ℕ) → (output : List ℕ) → Type 0
StaysFlushed given all count output =
    (n : ℕ) → n ≤ count → last_flushes (take n all) ≡ true
    → IsPrefix (bytes_written (settings_for given all) (pieces (settings_for given all) all n)) output

-- a stream's start and at least one whole document
abbrev pub whole_documents : Option Encoding → Documents → Document → List Event
whole_documents encoding documents last = stream_start encoding ∷ documents_events (documents_and documents last)

-- the output has all bytes of the documents that are complete in these events
abbrev pub KeepsDocuments : Settings → List Event → (output : List ℕ) → Type 0
KeepsDocuments given all output =
    (encoding : Option Encoding) (documents : Documents) (last : Document) (later : List Event) → whole_documents encoding documents last ++ later ≡ all
    → IsPrefix (bytes_written (settings_for given all) (pieces (settings_for given all) all (length (whole_documents encoding documents last)))) output
