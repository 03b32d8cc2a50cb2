-- Consequences of the definitions, for callers.
use Rattle.std.specs.Prelude.{◌≡◌, ℕ, ◌≤◌, Bool, true, false, Option, Some, List, [], ◌∷◌, ◌++◌, codes}
use Rattle.std.specs.Str.{all_scalars}
use Rattle.yaml_base.specs.Characters.{Text, is_among}
use Rattle.yaml_base.specs.Settings.{Encoding, Settings, effective, largest_usize, utf8}
use Rattle.yaml_base.specs.Encoding.{cut, encode}
use Rattle.yaml_base.specs.Decode.{decode}
use Rattle.yaml_base.specs.Event.{Event, stream_end, stream_start}
use Rattle.yaml_base.specs.Grammar.{Stream, stream_events, tree_of}
use Rattle.yaml_base.specs.reading.ReadPlain.{is_read_white, begins_white, begins_with_hash, read_plain}
use Rattle.yaml_base.specs.Pieces.{list_layout}
use Rattle.yaml_base.specs.Output.{settings_for, text_written, bytes_written, output_of}
use Rattle.yaml_base.specs.graphs.Dumped.{IsDumpOf}
use Rattle.yaml_base.specs.graphs.DumpedText.{HasDumpedText, HaveText, IsBareDocument}
use Rattle.yaml_base.specs.graphs.Meetings.{Graph}
use Rattle.yaml_base.specs.values.TypedValues.{typed_settings}

-- a whole stream's events have a tree, and `tree_of` finds it
abbrev pub TreeIsFound : Type 0
TreeIsFound = (stream : Stream) (events : List Event) → stream_events stream ≡ events → tree_of events ≡ Some stream

-- a character of a plain text, before the rest: it is no `:` before a blank, a break or the end, no blank or break before `#`, and in flow
-- no flow indicator
pub record IsPlainInside (breaks12 flow : Bool) (c : ℕ) (rest : Text) : Type 0 where
  pub no_key : c ≡ 58 → begins_white breaks12 rest ≡ false
  pub no_comment : is_read_white breaks12 c ≡ true → begins_with_hash rest ≡ false
  pub no_flow_indicator : flow ≡ true → is_among (codes ",?:[]{}") c ≡ false

-- each character of a text that reads as plain is such a character
abbrev pub PlainHoldsNoIndicator : Type 0
PlainHoldsNoIndicator =
    (breaks12 flow : Bool) (before : Text) (c : ℕ) (rest value : Text)
    → read_plain breaks12 flow (before ++ c ∷ rest) ≡ Some value → IsPlainInside breaks12 flow c rest

-- under settings that differ in the limit alone, the output under the smaller limit is the first bytes of the other output
abbrev pub LimitCuts : Type 0
LimitCuts =
    (given : Settings) (limit more : ℕ) (events : List Event) → limit ≤ more
    → output_of (record given { limit = limit }) events ≡ cut limit (output_of (record given { limit = more }) events)

-- under settings that differ in the encoding alone, the bytes of a layout, decoded without their mark, are one text, if it consists of
-- Unicode scalar values
abbrev pub EncodingsAgree : Type 0
EncodingsAgree =
    (given : Settings) (encoding : Encoding) (events : List Event)
    → let s = settings_for given events in
    let other = settings_for (record given { encoding = Some encoding }) events in
    let text = text_written s (list_layout s events) in
    all_scalars text ≡ true → decode (Some encoding) (bytes_written other (list_layout other events)) ≡ text

-- in portable mode the layout is the same with the line breaks of YAML 1.1 and with those of YAML 1.2
abbrev pub BreaksAgree : Type 0
BreaksAgree =
    (given : Settings) (breaks12 : Bool) (encoding : Option Encoding) (events : List Event) → given.portable ≡ true
    → list_layout (effective (record given { breaks12 = breaks12 }) encoding) events ≡ list_layout (effective given encoding) events

-- under the settings of canonical values, the output of one document that has no directives, and whose end isn't written, is the encoding
-- of its text, up to a limit that no vector reaches
abbrev pub CanonicalOutputIsText : Type 0
CanonicalOutputIsText =
    (encoding : Option Encoding) (events : List Event) (text : Text) → (has : HaveText events text)
    → IsBareDocument has.document.start has.document.end_implicit
    → output_of typed_settings (stream_start encoding ∷ (events ++ stream_end ∷ [])) ≡ cut largest_usize (encode (Some utf8) text)

-- the events of a graph's dump have a text, and the output under these settings is its encoding
pub record WritesDumpedText (graph : Graph) (events : List Event) : Type 0 where
  pub text : Text
  pub is_dumped : HasDumpedText graph text
  pub output : output_of typed_settings events ≡ cut largest_usize (encode (Some utf8) text)

-- this is so of each graph in a stream of its own
abbrev pub DumpsHaveTexts : Type 0
DumpsHaveTexts =
    (graph : Graph) (events : List Event) → IsDumpOf (graph ∷ []) events → IsBareDocument graph.start graph.end_implicit → WritesDumpedText graph events

-- events have at most one such text
abbrev pub OneTextEach : Type 0
OneTextEach = (events : List Event) (first second : Text) → HaveText events first → HaveText events second → first ≡ second
