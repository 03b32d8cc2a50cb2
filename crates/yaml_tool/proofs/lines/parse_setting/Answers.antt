use Rattle.yaml_tool.proofs.Common.{option_map, option_and_then, Option, List, ◌≡◌, ap, ◌∙◌, chars, Text, Field, arith}
use Rattle.yaml_tool.proofs.Common.{seen_setting, later_fields}
use Rattle.yaml_tool.specs.Fields.{only_word}
use Rattle.yaml_base.specs.scripts.Script as notation
use Rattle.yaml_tool.proofs.lines.parse_setting.Goals as goal

-- a setting's line has one more field, a word
set_by_word : (name : Text) (fields : Option (List Field))
    → option_and_then (notation.setting_of name) (option_and_then only_word fields) ≡ option_and_then (notation.setting_line name) fields
set_by_word name fields = grind arith

pub returns : goal.returns
returns c =
    c.setting_of.ensures
    ∙ ap (option_and_then (notation.setting_of (chars c.args.name.now))) c.in_ok-last_word.ensures
    ∙ set_by_word (chars c.args.name.now) (later_fields c.args.rest)

pub returns-in_err-last_word : goal.returns-in_err-last_word
returns-in_err-last_word c =
    ap (option_map seen_setting) c.from_residual.ensures
    ∙ ap (option_and_then (notation.setting_of (chars c.args.name.now))) c.in_err-last_word.ensures
    ∙ set_by_word (chars c.args.name.now) (later_fields c.args.rest)
