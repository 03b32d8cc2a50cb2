use Rattle.std.proofs.Common.{◌∷◌, Err, ap, arith, subst, sym}
use Rattle.yaml_base.specs.values.TypedValues.{TypedValue}
use Rattle.yaml_value.specs.{OpenLevels.seen_level, OpenLevels.seen_levels, declared.levels.Level.Level}
use Rattle.yaml_value.proofs.SeenLevels.{no_levels, seen_list}
use Rattle.yaml_json_value.specs.Standing.{end_list, give}
use Rattle.yaml_json_value.specs.Walked.{StandsAt}
use Rattle.yaml_json_value.specs.declared.error.Stop.TheVariants as stop
use Rattle.yaml_json_value.proofs.Taking.{no_list, on_innermost}
use Rattle.yaml_json_value.proofs.levels.leave_list.Goals as goal

pub returns-in-Items : goal.returns-in-Items
returns-in-Items g c =
    let outer = seen_levels c.pop.new.self.items in
    let later = c.settle.new.levels.items in
    on_innermost end_list c.args.levels.now.items c.pop.new.self.items later c.in-Some.level c.settle.result c.in-Some.ensures.items
    (subst (λ (level : Level _). StandsAt (end_list (seen_level level ∷ outer)) later c.settle.result) (sym c.in-Items.is)
    (subst (λ (value : TypedValue). StandsAt (give outer value) later c.settle.result) (seen_list c.in-Items.items) c.settle.ensures))

pub returns-in-Some : goal.returns-in-Some
returns-in-Some g c =
    let new = c.pop.new.self.items in
    on_innermost end_list c.args.levels.now.items new new c.in-Some.level (Err stop.Misplaced) c.in-Some.ensures.items
    (no_list c.in-Some.level (seen_levels new) c.in_default.not-Items)

pub returns : goal.returns
returns g c = ap end_list (no_levels c.args.levels.now.items (omega (arith, c.in-None.ensures.cases.0, c.args.levels.now.ok.0)))
