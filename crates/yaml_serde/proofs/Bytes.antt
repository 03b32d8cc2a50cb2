-- The bytes of a document are UTF-8.
use Rattle.yaml_serde.proofs.Common.{ℕ, IfOk, Result, Err, Ok, Vec, List, ◌++◌, ◌≡◌, ap, sym, ◌∙◌, ∥∥₁_map, Text, Event, AreCalls, Form, IsDocument}
use Rattle.yaml_serde.proofs.Common.{given_for_values, opening, closing, IsStream}
use Rattle.yaml_base.proofs.Common.{settings_for, bytes_written, list_layout, utf8}
use Rattle.std.{proofs.lemmas.List.take_all, proofs.lemmas.Str.IsUtf8-had, specs.Prelude.IsUtf8}
use Rattle.yaml_base.{proofs.Decoding.text_bytes-utf8, specs.Encoding.text_bytes}

-- a document round some events
abbrev all_of : List Event → List Event
all_of events = opening ++ events ++ closing

-- its bytes, before any limit
abbrev bytes_of : List Event → List ℕ
bytes_of events =
    let s = settings_for given_for_values (all_of events) in
    bytes_written s (list_layout s (all_of events))

-- a stream that is written by the settings for values is uncut, in UTF-8, of Unicode scalar values
stream_is_utf8 : (events : List Event) (bytes : List ℕ) → IsStream given_for_values (all_of events) bytes → IsUtf8 bytes
stream_is_utf8 events bytes stream =
    let text : Text = stream.state.page.text in
    let is_text : bytes ≡ text_bytes utf8 text =
    stream.output ∙ stream.written.output ∙ take_all given_for_values.limit (bytes_of events) stream.written.uncut
    ∙ ap (text_bytes utf8) (sym stream.written.text) in
    (text, (stream.written.raw.scalars, sym (is_text ∙ text_bytes-utf8 text)))

pub document_is_utf8 : (form : Form) (bytes : List ℕ) → IsDocument given_for_values form bytes → IsUtf8 bytes
document_is_utf8 form bytes document = IsUtf8-had bytes (∥∥₁_map document is)
  where
    is : (events : List Event) × AreCalls form events × IsStream given_for_values (all_of events) bytes → IsUtf8 bytes
    is stream = stream_is_utf8 stream.0 bytes stream.2

pub document_ok : {A E : Type 0} (form : Form) (answer : Result (Vec ℕ A) E) → IfOk answer (λ bytes. IsDocument given_for_values form bytes.items)
    → IfOk answer (λ bytes. IsUtf8 bytes.items)
document_ok form (Ok bytes) document = document_is_utf8 form bytes.items document
document_ok form (Err error) document = tt
