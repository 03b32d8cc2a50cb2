use Rattle.std.proofs.Common.{◌∷◌, Err, List, ap, arith, subst, sym}
use Rattle.yaml_value.specs.{OpenLevels.OpenLevel, OpenLevels.seen_level, OpenLevels.seen_levels, SeenValues.seen_value}
use Rattle.yaml_value.specs.declared.levels.Level.{Level}
use Rattle.yaml_value.proofs.SeenLevels.{no_levels}
use Rattle.yaml_json_value.specs.Standing.{name_member}
use Rattle.yaml_json_value.specs.Walked.{StandsAt}
use Rattle.yaml_json_value.specs.declared.error.Stop.TheVariants as stop
use Rattle.yaml_json_value.proofs.Taking.{no_name, on_innermost}
use Rattle.yaml_json_value.proofs.levels.give_name.Goals as goal

pub returns-in-Pairs : goal.returns-in-Pairs
returns-in-Pairs g c =
    let name = seen_value c.args.name in
    let outer = seen_levels c.pop.new.self.items in
    let later = c.enter.new.levels.items in
    on_innermost (λ (levels : List OpenLevel). name_member levels name) c.args.levels.now.items c.pop.new.self.items later c.in-Some.level
    c.enter.result c.in-Some.ensures.items
    (subst (λ (level : Level _). StandsAt (name_member (seen_level level ∷ outer) name) later c.enter.result) (sym c.in-Pairs.is) c.enter.ensures)

pub returns-in_default : goal.returns-in_default
returns-in_default g c =
    let name = seen_value c.args.name in
    let new = c.pop.new.self.items in
    on_innermost (λ (levels : List OpenLevel). name_member levels name) c.args.levels.now.items new new c.in-Some.level (Err stop.Misplaced)
    c.in-Some.ensures.items (no_name c.in-Some.level (seen_levels new) name c.in_default.not-Pairs)

pub returns-in-None : goal.returns-in-None
returns-in-None g c =
    ap (λ (levels : List OpenLevel). name_member levels (seen_value c.args.name))
    (no_levels c.args.levels.now.items (omega (arith, c.in-None.ensures.cases.0, c.args.levels.now.ok.0)))
