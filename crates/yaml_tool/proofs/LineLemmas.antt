-- The meaning of lines, by their first field and by their bytes.
use Rattle.yaml_base.proofs.Common.{ℕ, if◌then◌else◌, ◌==◌, option_map, option_and_then, Option, None, Some, Bool, false, true, List, [], ◌∷◌, refl, ◌≡◌, ap}
use Rattle.yaml_base.proofs.Common.{sym, ◌∙◌, arith, nat_tests, list_any, option_or, chars, Text, carriage_return, Event}
use Rattle.std.{proofs.lemmas.Str.IsUtf8-from_is_utf8, proofs.lemmas.Str.is_utf8-from_IsUtf8, specs.Str.IsUtf8, specs.Str.is_utf8}
use Rattle.yaml_base.specs.scripts.Script.{Setting, number_sign, ScriptLine, says_nothing, sets, gives, setting_of, Field, bare, quoted, fields_read, event_of}
use Rattle.yaml_base.specs.scripts.Script.{setting_line, script_line, line_read, line_understood}
use Rattle.yaml_tool.specs.{Cuts.IsFree, Events.event_word, Events.event_by, Fields.prepend_field, declared.words.EventName.EventName}
use Rattle.yaml_tool.specs.declared.words.EventName.TheVariants as name

-- the name of an event sets nothing
no_setting : (name : EventName) (value : Text) → setting_of (event_word name) value ≡ None
no_setting name value = grind arith

sets_nothing : (name : EventName) (fields : List Field) → setting_line (event_word name) fields ≡ None
sets_nothing name fields = grind (arith, no_setting)

-- it gives its event
gives_event : (name : EventName) (fields : List Field) → event_of (event_word name) fields ≡ event_by name (Some fields)
gives_event name fields = grind arith

no_fields : (name : EventName) → event_by name None ≡ None
no_fields name = grind arith

-- so a line that begins with it means that event
line_parsed : (name : EventName) (fields : Option (List Field))
    → option_map gives (event_by name fields) ≡ option_and_then script_line (prepend_field (bare (event_word name)) fields)
line_parsed name fields = grind (arith, option_map, gives, no_fields, gives_event, option_or, sets, event_of, event_word, sets_nothing)

pub event_parsed : (name : EventName) (word : Text) (line rest : Option (List Field)) (event : Option Event) → word ≡ event_word name
    → line ≡ prepend_field (bare word) rest → event ≡ event_by name rest → option_map gives event ≡ option_and_then script_line line
event_parsed name word line rest event is begins given = grind (arith, option_map, gives, line_parsed, name, option_and_then, script_line, prepend_field, bare)

-- any other name means a setting
pub setting_parsed : (word : Text) (line rest : Option (List Field)) (setting : Option Setting) → ((fields : List Field) → event_of word fields ≡ None)
    → line ≡ prepend_field (bare word) rest
    → setting ≡ option_and_then (setting_line word) rest → option_map sets setting ≡ option_and_then script_line line
setting_parsed word line rest setting no_event begins given =
    grind (arith, option_map, sets, option_and_then, script_line, option_or, setting_line, prepend_field, bare, gives)

-- a line in UTF-8 has the meaning of its characters
characters_parsed : (bytes : List ℕ) → IsUtf8 bytes → line_understood bytes ≡ line_read (chars bytes)
characters_parsed bytes is = ap (λ (b : Bool). if b then line_read (chars bytes) else None) (is_utf8-from_IsUtf8 bytes is)

no_utf8 : (bytes : List ℕ) (b : Bool) → (b ≡ true → IsUtf8 bytes) → ¬ (IsUtf8 bytes) → b ≡ false
no_utf8 bytes b h1 h2 = grind arith

-- any other line is bad
pub bytes_parsed_nothing : (bytes : List ℕ) → ¬ (IsUtf8 bytes) → line_understood bytes ≡ None
bytes_parsed_nothing bytes is_not = ap (λ (b : Bool). if b then line_read (chars bytes) else None)
    (no_utf8 bytes (is_utf8 bytes) (IsUtf8-from_is_utf8 bytes) is_not)

pub bytes_parsed : (bytes text : List ℕ) (parsed : Option ScriptLine) → text ≡ bytes → IsUtf8 bytes → parsed ≡ line_read (chars text)
    → parsed ≡ line_understood bytes
bytes_parsed bytes text parsed same is reads = reads ∙ ap (λ (b : List ℕ). line_read (chars b)) same ∙ sym (characters_parsed bytes is)

-- a comment has no meaning
pub comment_parsed : (text comment : Text) → text ≡ number_sign ∷ comment → IsFree carriage_return comment → Some says_nothing ≡ line_read text
comment_parsed text comment begins free = grind (arith, line_read, says_nothing)

-- any other line has the meaning of its fields
pub fields_parsed : (text rest : Text) (c : ℕ) → text ≡ c ∷ rest → ¬ (c ≡ number_sign) → option_and_then script_line (fields_read text) ≡ line_read text
fields_parsed text rest c begins is_not =
    grind (arith, option_and_then, script_line, fields_read, line_read, list_any, carriage_return, says_nothing, number_sign, false, nat_tests)
