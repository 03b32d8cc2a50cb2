-- Every stream reads back, in every mode.
use Rattle.yaml_emitter.proofs.Common.{Option, Some, not, true, List, ◌≡◌, ap, sym, ◌∙◌, list_all, literal, Event, Piece, text_of, charset_of, has_scalar_texts}
use Rattle.yaml_emitter.proofs.Common.{text_written, bytes_written, list_layout, IsAccepted, Encoding, Settings, effective, reads_alike, agrees, stream_trees}
use Rattle.yaml_base.proofs.Common.{is_tidy_character}
use Rattle.yaml_base.proofs.{CallerLaws.breaks_agree, stream_documents.StreamLawStands.stream_read_back, stream_documents.StreamWholeReads.document_trees}
use Rattle.yaml_base.proofs.stream_documents.StreamAllStand.{LayoutsAreShown, LayoutsAreRead, StreamsStand, streams_stand, streams_read_back}
use Rattle.yaml_base.specs.StreamLaw.{StreamReadsBack, PortableReadsBack}
use Rattle.yaml_emitter.proofs.{canonical.CanonicalBytes.characters_back, events_done.SeenTexts.values_of_texts, layouts.Meaning.is_indent}
use Rattle.yaml_emitter.proofs.{layouts.Meaning.meaning_is_kept, layouts.TidyStreams.bodies_are_tidy}
use Rattle.yaml_emitter.proofs.layouts.RawTexts.{raw_list, is_special_raw, raw_shown, lacks_fewer, all_meet, texts_hold_raw}

-- the text of an accepted list is of printable characters and tabs
layouts_are_shown : LayoutsAreShown
layouts_are_shown given encoding events accepted =
    let s = effective given encoding in
    let text = text_of (list_layout s events) in
    all_meet (is_tidy_character literal) text
    (lacks_fewer (is_special_raw s.literal_blanks (charset_of s)) (λ c. not (is_tidy_character literal c))
    (λ c e. ap not (raw_shown s.literal_blanks (charset_of s) c e)) text
    (raw_list s given.canonical events (is_indent given.indent) accepted))

-- and is read from its bytes
layouts_are_read : LayoutsAreRead
layouts_are_read given encoding events accepted =
    let s = effective given encoding in
    characters_back s.encoding (text_written s (list_layout s events)) (texts_hold_raw given encoding events accepted).scalars

-- every stream meets the reader's conditions
stand : StreamsStand
stand = streams_stand bodies_are_tidy meaning_is_kept values_of_texts layouts_are_shown layouts_are_read

-- every stream reads back
pub stream_reads_back : StreamReadsBack
stream_reads_back = streams_read_back stand

-- in portable mode with either kind of line breaks
pub portable_reads_back : PortableReadsBack
portable_reads_back given breaks12 encoding events portable accepted texts =
    let other : Settings = record given { breaks12 = breaks12 } in
    ap (λ (pieces : List Piece). agrees given.canonical events (stream_trees breaks12 (bytes_written (effective given encoding) pieces)))
    (sym (breaks_agree given breaks12 encoding events portable))
    ∙ stream_reads_back other encoding events accepted texts (ap (λ on. reads_alike on given.canonical events) portable)

-- the reader finds its documents' trees
pub stream_found : (given : Settings) (encoding : Option Encoding) (events : List Event) (accepted : IsAccepted given.canonical events)
    → list_all has_scalar_texts events ≡ true → reads_alike given.portable given.canonical events ≡ true
    → stream_trees given.breaks12 (bytes_written (effective given encoding) (list_layout (effective given encoding) events))
    ≡ Some (document_trees (effective given encoding) accepted.stream.documents)
stream_found given encoding events accepted texts portable =
    stream_read_back given encoding events accepted portable (stand given encoding events accepted texts portable)
