use Rattle.yaml_tool.proofs.Common.{option_map, Option, None, Bool, true, ◌≡◌, ap, sym, ◌∙◌, chars, Text, seen_setting}
use Rattle.std.specs.Prelude.{MatchOption, IsSomeAnd}
use Rattle.yaml_base.specs.scripts.Script as notation
use Rattle.yaml_base.specs.scripts.Script.{is_word, limit_set, encoding_set, canonical_set, unicode_set, indent_set, width_set, break_set, breaks12_set}
use Rattle.yaml_base.specs.scripts.Script.{portable_set, sequences_set, blanks_set}
use Rattle.yaml_base.proofs.Common.{bytes_eq-Decides, arith}
use Rattle.yaml_tool.specs.declared.settings.Setting.{Setting}
use Rattle.yaml_tool.specs.declared.settings.Setting.TheVariants as kind
use Rattle.yaml_tool.proofs.settings.setting_of.Goals as goal

mapped : {A : Type 0} (make : A → Setting) (given : Option A) (result : Option Setting)
    → MatchOption given (result ≡ None) (λ x. IsSomeAnd result (λ setting. setting ≡ make x))
    → option_map seen_setting result ≡ option_map (λ x. seen_setting (make x)) given
mapped make given result h1 = grind (arith, option_map, seen_setting)

-- a setting of this name is made from its value, if that has a meaning
set_by : {A : Type 0} (make : A → Setting) (value : Text) (name word : Text) {same : Bool} (given : Option A) (result : Option Setting)
    → same ≡ is_word name word → same ≡ true → MatchOption given (result ≡ None) (λ x. IsSomeAnd result (λ setting. setting ≡ make x))
    → option_map (λ x. seen_setting (make x)) given ≡ notation.setting_of word value → option_map seen_setting result ≡ notation.setting_of name value
set_by make value name word given result is_same holds made reads =
    mapped make given result made ∙ reads ∙ ap (λ n. notation.setting_of n value) (sym ((bytes_eq-Decides name word).0 (sym is_same ∙ holds)))

-- the view of a setting that is made from its value
after_seen : {A B C : Type 0} (f : B → C) (g : A → B) (given : Option A) → option_map (λ x. f (g x)) given ≡ option_map f (option_map g given)
after_seen f g given = grind arith

pub returns-then-is_word : goal.returns-then-is_word
returns-then-is_word c =
    set_by kind.Limit (chars c.args.value.now) (chars c.args.name.now) _ c.number_up_to.result c.map.result
    c.is_word.ensures c.if-is_word.true c.map.ensures.cases (ap (option_map limit_set) c.number_up_to.ensures)

pub returns-then-is_word-2 : goal.returns-then-is_word-2
returns-then-is_word-2 c =
    set_by kind.Encoding (chars c.args.value.now) (chars c.args.name.now) _ c.encoding_named.result c.map-then-is_word-2.result
    c.is_word-else-is_word.ensures c.if-is_word-2.true c.map-then-is_word-2.ensures.cases
    (after_seen encoding_set _ c.encoding_named.result ∙ ap (option_map encoding_set) c.encoding_named.ensures)

pub returns-then-is_word-3 : goal.returns-then-is_word-3
returns-then-is_word-3 c =
    set_by kind.Canonical (chars c.args.value.now) (chars c.args.name.now) _ c.switch_named.result c.map-then-is_word-3.result
    c.is_word-else-is_word-2.ensures c.if-is_word-3.true c.map-then-is_word-3.ensures.cases (ap (option_map canonical_set) c.switch_named.ensures)

pub returns-then-is_word-4 : goal.returns-then-is_word-4
returns-then-is_word-4 c =
    set_by kind.Unicode (chars c.args.value.now) (chars c.args.name.now) _ c.switch_named-then-is_word-4.result c.map-then-is_word-4.result
    c.is_word-else-is_word-3.ensures c.if-is_word-4.true c.map-then-is_word-4.ensures.cases (ap (option_map unicode_set) c.switch_named-then-is_word-4.ensures)

pub returns-then-is_word-5 : goal.returns-then-is_word-5
returns-then-is_word-5 c =
    set_by kind.Indent (chars c.args.value.now) (chars c.args.name.now) _ c.signed_number.result c.map-then-is_word-5.result
    c.is_word-else-is_word-4.ensures c.if-is_word-5.true c.map-then-is_word-5.ensures.cases (ap (option_map indent_set) c.signed_number.ensures)

pub returns-then-is_word-6 : goal.returns-then-is_word-6
returns-then-is_word-6 c =
    set_by kind.Width (chars c.args.value.now) (chars c.args.name.now) _ c.signed_number-then-is_word-6.result c.map-then-is_word-6.result
    c.is_word-else-is_word-5.ensures c.if-is_word-6.true c.map-then-is_word-6.ensures.cases (ap (option_map width_set) c.signed_number-then-is_word-6.ensures)

pub returns-then-is_word-7 : goal.returns-then-is_word-7
returns-then-is_word-7 c =
    set_by kind.LineBreak (chars c.args.value.now) (chars c.args.name.now) _ c.break_named.result c.map-then-is_word-7.result
    c.is_word-else-is_word-6.ensures c.if-is_word-7.true c.map-then-is_word-7.ensures.cases
    (after_seen break_set _ c.break_named.result ∙ ap (option_map break_set) c.break_named.ensures)

pub returns-then-is_word-8 : goal.returns-then-is_word-8
returns-then-is_word-8 c =
    set_by kind.Breaks12 (chars c.args.value.now) (chars c.args.name.now) _ c.switch_named-then-is_word-8.result c.map-then-is_word-8.result
    c.is_word-else-is_word-7.ensures c.if-is_word-8.true c.map-then-is_word-8.ensures.cases (ap (option_map breaks12_set) c.switch_named-then-is_word-8.ensures)

pub returns-then-is_word-9 : goal.returns-then-is_word-9
returns-then-is_word-9 c =
    set_by kind.Portable (chars c.args.value.now) (chars c.args.name.now) _ c.switch_named-then-is_word-9.result c.map-then-is_word-9.result
    c.is_word-else-is_word-8.ensures c.if-is_word-9.true c.map-then-is_word-9.ensures.cases (ap (option_map portable_set) c.switch_named-then-is_word-9.ensures)

pub returns-then-is_word-10 : goal.returns-then-is_word-10
returns-then-is_word-10 c =
    set_by kind.IndentedSequences (chars c.args.value.now) (chars c.args.name.now) _ c.indentation_named.result c.map-then-is_word-10.result
    c.is_word-else-is_word-9.ensures c.if-is_word-10.true c.map-then-is_word-10.ensures.cases (ap (option_map sequences_set) c.indentation_named.ensures)

pub returns-then-is_word-11 : goal.returns-then-is_word-11
returns-then-is_word-11 c =
    set_by kind.LiteralBlanks (chars c.args.value.now) (chars c.args.name.now) _ c.blanks_named.result c.map-then-is_word-11.result
    c.is_word-else-is_word-10.ensures c.if-is_word-11.true c.map-then-is_word-11.ensures.cases (ap (option_map blanks_set) c.blanks_named.ensures)
