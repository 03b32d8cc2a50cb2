-- The raw characters of a written text, and the form of its scalars' texts, under all settings (YAML 1.1, sections 5.1 and 5.4; YAML 1.2,
-- section 5.4).
use Rattle.std.specs.Prelude.{◌≡◌, ℕ, Bool, true, false, Option, Some, List, ◌==◌, ◌||◌, ◌&&◌}
use Rattle.std.specs.List.{All, list_all, list_any}
use Rattle.std.specs.Str.{all_scalars}
use Rattle.yaml_base.specs.Characters.{Text, carriage_return, line_separator, paragraph_separator, tab, is_ascii, is_printable}
use Rattle.yaml_base.specs.Settings.{Encoding, Settings, Effective, effective, escapes_separators}
use Rattle.yaml_base.specs.Event.{Event}
use Rattle.yaml_base.specs.Refusal.{IsAccepted}
use Rattle.yaml_base.specs.NodeLayout.{bodies_of}
use Rattle.yaml_base.specs.Pieces.{list_layout}
use Rattle.yaml_base.specs.Output.{settings_for, text_written, bytes_written}
use Rattle.yaml_base.specs.Decode.{decode}
use Rattle.yaml_base.specs.TidyBodies.{BodyIsTidy}

-- true of U+2028 and U+2029, which break lines in YAML 1.1 and don't in YAML 1.2
abbrev pub is_separator : ℕ → Bool
is_separator c = c == line_separator || c == paragraph_separator

-- true of a printable character and the CR of a line break; also of a tab if blanks are literal
abbrev pub is_written_raw : (tabs : Bool) → ℕ → Bool
is_written_raw tabs c = is_printable c || c == carriage_return || (tabs && c == tab)

-- each character of a text is such a character and a Unicode scalar value; only ASCII if no more is kept; and neither U+2028 nor U+2029 if
-- they are escaped
pub record HoldsRaw (s : Effective) (text : Text) : Type 0 where
  pub printable : list_all (is_written_raw s.literal_blanks) text ≡ true
  pub scalars : all_scalars text ≡ true
  pub ascii : s.unicode ≡ false → list_all is_ascii text ≡ true
  pub no_separators : escapes_separators s ≡ true → list_any is_separator text ≡ false

-- the text of every accepted list holds such characters alone, under all settings
abbrev pub TextsHoldRaw : Type 0
TextsHoldRaw =
    (given : Settings) (encoding : Option Encoding) (events : List Event) → IsAccepted given.canonical events
    → let s = effective given encoding in
    HoldsRaw s (text_written s (list_layout s events))

-- the bodies of the layout of every accepted list are tidy, under all settings
abbrev pub BodiesAreTidy : Type 0
BodiesAreTidy =
    (given : Settings) (encoding : Option Encoding) (events : List Event) → IsAccepted given.canonical events
    → All (BodyIsTidy (effective given encoding)) (bodies_of (list_layout (effective given encoding) events))

-- under settings that differ in the encoding alone, the bytes of an accepted list, decoded without their mark, are one text
abbrev pub StreamsAgree : Type 0
StreamsAgree =
    (given : Settings) (encoding : Encoding) (events : List Event) → IsAccepted given.canonical events
    → let s = settings_for given events in
    let other = settings_for (record given { encoding = Some encoding }) events in
    decode (Some encoding) (bytes_written other (list_layout other events)) ≡ text_written s (list_layout s events)
