-- Scripts of events: the reading of a script's bytes, line by line (this project's own notation).
--     line_read text       the meaning of a line, or nothing if it is bad by itself
--     script_of bytes      the settings and the numbered events of a script, or the number of its first bad line
use Rattle.std.specs.Prelude.{ℕ, suc, ℤ, pos, Bool, Option, None, Some, List, [], ◌∷◌, ◌++◌, ◌==◌, ◌&&◌, not, length, codes, chars, option_map}
use Rattle.std.specs.Prelude.{option_and_then, if◌then◌else◌}
use Rattle.std.specs.Option.{option_or}
use Rattle.std.specs.List.{list_any, slice_split}
use Rattle.std.specs.Str.{is_utf8}
use Rattle.yaml_base.specs.Characters.{Text, line_feed, carriage_return}
use Rattle.yaml_base.specs.Settings.{largest_i32, Settings, Encoding, LineBreak, nothing_given}
use Rattle.yaml_base.specs.Event.{Event, stream_start, stream_end, document_start, document_end, alias, scalar, sequence_start, sequence_end, mapping_start}
use Rattle.yaml_base.specs.Event.{mapping_end, ScalarStyle, CollectionStyle, Version, TagDirective, Collection}
use Rattle.yaml_base.specs.Words.{is_word, named}
pub use Rattle.yaml_base.specs.scripts.ScriptWords.{quotation_mark, number_sign, Within, QuotedStep, numbered_step, text_step, text_from, Field}
pub use Rattle.yaml_base.specs.Characters.{backslash}
pub use Rattle.yaml_base.specs.Words.{is_word}
pub use Rattle.yaml_base.specs.scripts.ScriptWords.{FieldState, state_after, separates, cut_before, pieces_from, field_read, field_and, read_fields}
pub use Rattle.yaml_base.specs.scripts.ScriptWords.{fields_read}
pub use Rattle.yaml_base.specs.scripts.ScriptWords.{flags, switches, indentations, blanks, encodings, line_breaks, scalar_styles, collection_styles}
pub use Rattle.yaml_base.specs.scripts.ScriptWords.{number_up_to}
pub use Rattle.yaml_base.specs.Words.{named}
pub use Rattle.yaml_base.specs.scripts.ScriptWords.{signed_number, at_character, at_escape, at_brace, at_digits, goes_on, stands_for, ends, fails, bare, quoted}
pub use Rattle.yaml_base.specs.scripts.ScriptWords.{outside, inside, escaped}

-- ---- the parts of a script

-- a setting's line
pub data Setting : Type 0 where
  limit_set : ℕ → Setting
  encoding_set : Option Encoding → Setting
  canonical_set : Bool → Setting
  unicode_set : Bool → Setting
  indent_set : ℤ → Setting
  width_set : ℤ → Setting
  break_set : Option LineBreak → Setting
  breaks12_set : Bool → Setting
  portable_set : Bool → Setting
  sequences_set : (indented : Bool) → Setting
  blanks_set : (literal : Bool) → Setting

-- a line says nothing (it is empty or a comment), sets something, or gives an event
pub data ScriptLine : Type 0 where
  says_nothing : ScriptLine
  sets : Setting → ScriptLine
  gives : Event → ScriptLine

-- an event and the number of its line
pub record Numbered : Type 0 where
  pub line : ℕ
  pub event : Event

-- the number of a script's first bad line, or its settings and its events in order
pub data Script : Type 0 where
  bad_line : ℕ → Script
  understood : Settings → List Numbered → Script

-- ---- settings

-- the setting of a line, by its name
abbrev pub setting_of : Text → Text → Option Setting
setting_of name value =
    if is_word name (codes "limit") then option_map limit_set (number_up_to 4294967295 value)
    else (if is_word name (codes "encoding") then option_map encoding_set (named encodings value)
    else (if is_word name (codes "canonical") then option_map canonical_set (named switches value)
    else (if is_word name (codes "unicode") then option_map unicode_set (named switches value)
    else (if is_word name (codes "indent") then option_map indent_set (signed_number value)
    else (if is_word name (codes "width") then option_map width_set (signed_number value)
    else (if is_word name (codes "break") then option_map break_set (named line_breaks value)
    else (if is_word name (codes "breaks12") then option_map breaks12_set (named switches value)
    else (if is_word name (codes "portable") then option_map portable_set (named switches value)
    else (if is_word name (codes "sequences") then option_map sequences_set (named indentations value)
    else (if is_word name (codes "blanks") then option_map blanks_set (named blanks value) else None))))))))))

-- the name of a setting
abbrev pub setting_name : Setting → Text
setting_name (limit_set _) = codes "limit"
setting_name (encoding_set _) = codes "encoding"
setting_name (canonical_set _) = codes "canonical"
setting_name (unicode_set _) = codes "unicode"
setting_name (indent_set _) = codes "indent"
setting_name (width_set _) = codes "width"
setting_name (break_set _) = codes "break"
setting_name (breaks12_set _) = codes "breaks12"
setting_name (portable_set _) = codes "portable"
setting_name (sequences_set _) = codes "sequences"
setting_name (blanks_set _) = codes "blanks"

-- the settings if no line sets anything
abbrev pub unset : Settings
unset = record nothing_given { limit = 1000000000 }

-- settings after one more line
abbrev pub with_setting : Settings → Setting → Settings
with_setting given (limit_set bytes) = record given { limit = bytes }
with_setting given (encoding_set encoding) = record given { encoding = encoding }
with_setting given (canonical_set on) = record given { canonical = on }
with_setting given (unicode_set on) = record given { unicode = on }
with_setting given (indent_set indent) = record given { indent = Some indent }
with_setting given (width_set width) = record given { width = Some width }
with_setting given (break_set line_break) = record given { line_break = line_break }
with_setting given (breaks12_set on) = record given { breaks12 = on }
with_setting given (portable_set on) = record given { portable = on }
with_setting given (sequences_set indented) = record given { indented_sequences = indented }
with_setting given (blanks_set literal) = record given { literal_blanks = literal }

-- the settings of several lines
abbrev pub settings_of : Settings → List Setting → Settings
settings_of given [] = given
settings_of given (setting ∷ rest) = settings_of (with_setting given setting) rest

-- ---- events

-- a text, or `-` for none
abbrev pub text_or_none : Field → Option (Option Text)
text_or_none (quoted value) = Some (Some value)
text_or_none (bare word) = if is_word word (codes "-") then Some None else None

-- `major.minor`
abbrev pub version_of : List Text → Option Version
version_of (major ∷ minor ∷ []) =
    option_and_then (λ high. option_map (λ low. record { major = pos high; minor = pos low }) (number_up_to largest_i32 minor)) (number_up_to largest_i32 major)
version_of _ = None

-- a version, or `-` for none
abbrev pub version_or_none : Text → Option (Option Version)
version_or_none word = if is_word word (codes "-") then Some None else option_map (λ version. Some version) (version_of (slice_split (λ c. c == 0x2E) word))

-- pairs of texts, each a handle and its prefix
abbrev pub directives_of : List Field → Option (List TagDirective)
directives_of [] = Some []
directives_of (quoted handle ∷ quoted prefix ∷ rest) = option_map (λ others. record { handle = handle; prefix = prefix } ∷ others) (directives_of rest)
directives_of _ = None

-- `+STR`: an encoding
abbrev pub stream_start_of : List Field → Option Event
stream_start_of (bare encoding ∷ []) = option_map stream_start (named encodings encoding)
stream_start_of _ = None

-- a document's start, if each of its parts has a reading
abbrev pub document_start_with : Option Bool → Option (Option Version) → Option (List TagDirective) → Option Event
document_start_with (Some implicit) (Some version) (Some directives) = Some
    (document_start (record { version = version; directives = directives; implicit = implicit }))
document_start_with _ _ _ = None

-- `+DOC`: whether it is implicit, a version, directives
abbrev pub document_start_of : List Field → Option Event
document_start_of (bare implicit ∷ bare version ∷ directives) = document_start_with (named flags implicit) (version_or_none version) (directives_of directives)
document_start_of _ = None

-- `-DOC`: whether it is implicit
abbrev pub document_end_of : List Field → Option Event
document_end_of (bare implicit ∷ []) = option_map document_end (named flags implicit)
document_end_of _ = None

-- `=ALI`: a name
abbrev pub alias_of : List Field → Option Event
alias_of (quoted anchor ∷ []) = Some (alias anchor)
alias_of _ = None

-- a scalar, if each of its parts has a reading
abbrev pub scalar_with : Option ScalarStyle → Option Bool → Option Bool → Option (Option Text) → Option (Option Text) → Text → Option Event
scalar_with (Some style) (Some plain_implicit) (Some quoted_implicit) (Some anchor) (Some tag) value =
    Some (scalar (record { anchor = anchor; tag = tag; value = value; plain_implicit = plain_implicit; quoted_implicit = quoted_implicit; style = style }))
scalar_with _ _ _ _ _ value = None

-- `=VAL`: a style, the plain and the quoted flag, an anchor, a tag, a value
abbrev pub scalar_of : List Field → Option Event
scalar_of (bare style ∷ bare plain_implicit ∷ bare quoted_implicit ∷ anchor ∷ tag ∷ quoted value ∷ []) =
    scalar_with (named scalar_styles style) (named flags plain_implicit) (named flags quoted_implicit) (text_or_none anchor) (text_or_none tag) value
scalar_of _ = None

-- the start of a collection, if each of its parts has a reading
abbrev pub collection_with : Option CollectionStyle → Option Bool → Option (Option Text) → Option (Option Text) → Option Collection
collection_with (Some style) (Some implicit) (Some anchor) (Some tag) = Some (record { anchor = anchor; tag = tag; implicit = implicit; style = style })
collection_with _ _ _ _ = None

-- `+SEQ` and `+MAP`: a style, whether it is implicit, an anchor, a tag
abbrev pub collection_of : List Field → Option Collection
collection_of (bare style ∷ bare implicit ∷ anchor ∷ tag ∷ []) =
    collection_with (named collection_styles style) (named flags implicit) (text_or_none anchor) (text_or_none tag)
collection_of _ = None

-- an event without fields
abbrev pub alone : Event → List Field → Option Event
alone event [] = Some event
alone event _ = None

-- the event that a name and its fields give
abbrev pub event_of : Text → List Field → Option Event
event_of name fields =
    if is_word name (codes "+STR") then stream_start_of fields
    else (if is_word name (codes "-STR") then alone stream_end fields
    else (if is_word name (codes "+DOC") then document_start_of fields
    else (if is_word name (codes "-DOC") then document_end_of fields
    else (if is_word name (codes "=ALI") then alias_of fields
    else (if is_word name (codes "=VAL") then scalar_of fields
    else (if is_word name (codes "+SEQ") then option_map sequence_start (collection_of fields)
    else (if is_word name (codes "-SEQ") then alone sequence_end fields
    else (if is_word name (codes "+MAP") then option_map mapping_start (collection_of fields)
    else (if is_word name (codes "-MAP") then alone mapping_end fields else None)))))))))

-- ---- lines

-- a setting by its name and one value
abbrev pub setting_line : Text → List Field → Option Setting
setting_line name (bare value ∷ []) = setting_of name value
setting_line name _ = None

-- the meaning of a line's fields; the first is the name of a setting or of an event
abbrev pub script_line : List Field → Option ScriptLine
script_line (bare name ∷ fields) = option_or (option_map sets (setting_line name fields)) (option_map gives (event_of name fields))
script_line _ = None

-- the meaning of a line: it says nothing if it is empty or, without a CR, a comment
abbrev pub line_read : Text → Option ScriptLine
line_read [] = Some says_nothing
line_read (c ∷ rest) =
    if c == number_sign then (if list_any (λ d. d == carriage_return) rest then None else Some says_nothing)
    else option_and_then script_line (fields_read (c ∷ rest))

-- the meaning of a line's bytes, which have to be UTF-8
abbrev pub line_understood : List ℕ → Option ScriptLine
line_understood bytes = if is_utf8 bytes then line_read (chars bytes) else None

-- ---- the whole

-- the settings and the events of the lines so far
pub record ScriptState : Type 0 where
  pub settings : List Setting
  pub events : List Numbered

-- true if a setting may come: no event precedes it, and no line sets the same
abbrev pub may_be_set : Setting → ScriptState → Bool
may_be_set setting before =
    length before.events == 0 && not (list_any (λ other. is_word (setting_name setting) (setting_name other)) before.settings)

-- the state after one more line of this number; none for a setting out of place
abbrev pub with_line : ℕ → ScriptState → ScriptLine → Option ScriptState
with_line number before says_nothing = Some before
with_line number before (sets setting) =
    if may_be_set setting before then Some (record before { settings = before.settings ++ setting ∷ [] }) else None
with_line number before (gives event) =
    Some (record before { events = before.events ++ record { line = number; event = event } ∷ [] })

-- the script of the lines from this number on, after those that were read
abbrev pub script_from : ℕ → ScriptState → List (List ℕ) → Script
script_from number before [] = understood (settings_of unset before.settings) before.events
script_from number before (line ∷ rest) =
    elim (option_and_then (with_line number before) (line_understood line)) as (λ _. Script) [
      | None ↦ bad_line number
      | Some after ↦ script_from (suc number) after rest
    ]

-- the script of some bytes: the lines are the stretches between LFs, counted from 1; after a last LF comes an empty line
abbrev pub script_of : List ℕ → Script
script_of bytes = script_from 1 (record { settings = []; events = [] }) (slice_split (λ byte. byte == line_feed) bytes)
