-- The text and the bytes of an accepted list under its caller's settings.
use Rattle.std.specs.Prelude.{ℕ, Bool, true, false, Option, None, Some, List, [], ◌∷◌}
use Rattle.yaml_base.specs.Characters.{Text}
use Rattle.yaml_base.specs.Settings.{Encoding, Settings, Effective, effective}
use Rattle.yaml_base.specs.LineBreaks.{with_breaks_written}
use Rattle.yaml_base.specs.Encoding.{encode, cut}
use Rattle.yaml_base.specs.Event.{Event, stream_start, stream_end, document_end}
use Rattle.yaml_base.specs.Layout.{Piece, text_of}
use Rattle.yaml_base.specs.Pieces.{list_layout}

-- the encoding that the stream's start asks for
abbrev pub encoding_asked : List Event → Option Encoding
encoding_asked (stream_start encoding ∷ rest) = encoding
encoding_asked _ = None

-- the settings by which a list is written
abbrev pub settings_for : Settings → List Event → Effective
settings_for given events = effective given (encoding_asked events)

-- the text of some pieces, its line breaks written as the settings say
abbrev pub text_written : Effective → List Piece → Text
text_written s pieces = with_breaks_written s.line_break (text_of pieces)

-- the bytes of some pieces, before any limit
abbrev pub bytes_written : Effective → List Piece → List ℕ
bytes_written s pieces = encode (Some s.encoding) (text_written s pieces)

-- the output of an accepted list
abbrev pub output_of : Settings → List Event → List ℕ
output_of given events =
    let s = settings_for given events in
    cut s.limit (bytes_written s (list_layout s events))

-- true of the events that flush the output: the ends of documents and of the stream
abbrev pub flushes : Event → Bool
flushes (document_end implicit) = true
flushes stream_end = true
flushes event = false

-- true if the last of some events flushes the output
abbrev pub last_flushes : List Event → Bool
last_flushes [] = false
last_flushes (event ∷ []) = flushes event
last_flushes (event ∷ next ∷ more) = last_flushes (next ∷ more)
