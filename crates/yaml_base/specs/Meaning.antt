-- Meaning is kept: each scalar's body, read at its place by the rules of its style, is its value (YAML 1.1, chapter 9); and from canonical
-- bytes a reader recovers the whole content.
use Rattle.std.specs.Prelude.{◌≡◌, ℕ, Bool, true, Option, None, Some, List, ◌&&◌}
use Rattle.std.specs.List.{All, list_all}
use Rattle.std.specs.Str.{all_scalars}
use Rattle.yaml_base.specs.Characters.{Text}
use Rattle.yaml_base.specs.Settings.{Encoding, Settings, Effective, effective}
use Rattle.yaml_base.specs.LineBreaks.{is_indented_text, with_breaks_written, with_line_breaks_read}
use Rattle.yaml_base.specs.Event.{ScalarStyle, any_style, plain, single_quoted, double_quoted, literal, folded, TagDirective, Event, document_start, scalar}
use Rattle.yaml_base.specs.Event.{sequence_start, mapping_start}
use Rattle.yaml_base.specs.reading.ReadPlain.{read_plain}
use Rattle.yaml_base.specs.reading.ReadSingle.{read_single}
use Rattle.yaml_base.specs.reading.ReadDouble.{read_double}
use Rattle.yaml_base.specs.reading.ReadBlock.{read_block}
use Rattle.yaml_base.specs.Refusal.{IsAccepted}
use Rattle.yaml_base.specs.NodeLayout.{Body, bodies_of}
use Rattle.yaml_base.specs.Pieces.{list_layout}
use Rattle.yaml_base.specs.Output.{bytes_written}
use Rattle.yaml_base.specs.reading.Content.{content_of}
use Rattle.yaml_base.specs.reading.CanonicalReader.{canonical_content}

-- a text read by the rules of a style: plain text in flow or in a block, a block scalar in a block whose entries are at a column; `any` is
-- no style of a text
abbrev pub read_in_style : ScalarStyle → (breaks12 flow : Bool) → (column : Option ℕ) → Text → Option Text
read_in_style any_style breaks12 flow column text = None
read_in_style plain breaks12 flow column text = read_plain breaks12 flow text
read_in_style single_quoted breaks12 flow column text = read_single breaks12 text
read_in_style double_quoted breaks12 flow column text = read_double breaks12 text
read_in_style literal breaks12 flow column text = read_block breaks12 column text
read_in_style folded breaks12 flow column text = read_block breaks12 column text

-- a body as it is written, with the line breaks of the settings
abbrev pub body_written : Effective → Body → Text
body_written s body = with_breaks_written s.line_break body.text

-- a written body as it reads, once its line breaks are read
abbrev pub body_read : Effective → Body → Option Text
body_read s body =
    read_in_style body.style s.breaks12 body.in_flow body.column (with_line_breaks_read (body_written s body))

-- a body reads as exactly its value
abbrev pub BodyReads : Effective → Body → Type 0
BodyReads s body = body_read s body ≡ Some body.value

-- each nonempty line of a body after its first begins with at least two spaces, so none is a document's marker
abbrev pub BodyIsIndented : Effective → Body → Type 0
BodyIsIndented s body = is_indented_text (body_written s body) ≡ true

-- a body reads back as its value, and its lines are indented
pub record BodyMeans (s : Effective) (body : Body) : Type 0 where
  pub reads : BodyReads s body
  pub indented : BodyIsIndented s body

-- true if a scalar's value consists of Unicode scalar values, as every `String` does
abbrev pub has_scalar_values : Event → Bool
has_scalar_values (scalar content) = all_scalars content.value
has_scalar_values _ = true

-- under all settings each body in the layout of an accepted list reads as its value
abbrev pub MeaningIsKept : Type 0
MeaningIsKept =
    (given : Settings) (encoding : Option Encoding) (events : List Event) → IsAccepted given.canonical events
    → list_all has_scalar_values events ≡ true
    → All (BodyMeans (effective given encoding)) (bodies_of (list_layout (effective given encoding) events))

-- true if a text, if there is one, consists of Unicode scalar values
abbrev pub option_scalars : Option Text → Bool
option_scalars None = true
option_scalars (Some text) = all_scalars text

-- true if a prefix consists of Unicode scalar values
abbrev pub directive_scalars : TagDirective → Bool
directive_scalars directive = all_scalars directive.prefix

-- true if the tags, prefixes and value of an event consist of Unicode scalar values, as every `String` does; other texts that are accepted
-- are ASCII
abbrev pub has_scalar_texts : Event → Bool
has_scalar_texts (document_start start) = list_all directive_scalars start.directives
has_scalar_texts (scalar content) = option_scalars content.tag && all_scalars content.value
has_scalar_texts (sequence_start start) = option_scalars start.tag
has_scalar_texts (mapping_start start) = option_scalars start.tag
has_scalar_texts _ = true

-- in canonical mode all bytes of an accepted list, if no limit cuts them, read as its content
abbrev pub CanonicalBytesRead : Type 0
CanonicalBytesRead =
    (given : Settings) (encoding : Option Encoding) (events : List Event) → given.canonical ≡ true
    → IsAccepted given.canonical events → list_all has_scalar_texts events ≡ true
    → canonical_content given.breaks12
    (bytes_written (effective given encoding) (list_layout (effective given encoding) events))
    ≡ content_of events
