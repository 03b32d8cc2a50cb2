use Rattle.std.proofs.Common.{◌∷◌, List, [], ap, map, refl, subst, sym}
use Rattle.std.proofs.lemmas.List.{nil_from_length}
use Rattle.yaml_base.specs.values.TypedValues.{TypedValue}
use Rattle.yaml_value.specs.SeenValues.{seen_value}
use Rattle.yaml_json_value.specs.Rests.{seen_rests}
use Rattle.yaml_json_value.specs.Untyped.{Left, Walked, items_left, value_left}
use Rattle.yaml_json_value.specs.declared.back.Rest.{Rest}
use Rattle.yaml_json_value.proofs.SeenRests.{rest_more}
use Rattle.yaml_json_value.proofs.Untyping.{list_end_goes, next_item, told_goes}
use Rattle.yaml_json_value.proofs.back.write_item.Goals as goal

pub returns-in-Some : goal.returns-in-Some
returns-in-Some g c = λ root walked.
    let outer = seen_rests c.args.levels.now.items in
    let written = c.args.writer.now.tokens in
    let value = seen_value c.in-Some.item.now in
    let is = ap (map (seen_value {A = g.row.A.Denot})) c.in-Some.ensures.cases.0 in
    let next = next_item root value (map seen_value c.in-Some.others.now) written outer
    (subst (λ (values : List TypedValue). Walked root written (items_left values ∷ outer)) is walked) in
    c.begin.ensures root
    (subst (λ (levels : List Left). Walked root written (value_left value ∷ levels))
    (sym (rest_more c.args.levels.now.items c.push.new.self.items (Rest.Items c.in-Some.others) c.push.ensures.items)) next)

pub returns-in-None : goal.returns-in-None
returns-in-None g c = λ root walked.
    let outer = seen_rests c.args.levels.now.items in
    let old = c.args.writer.now in
    let is = ap (map (seen_value {A = g.row.A.Denot})) (nil_from_length c.args.items.now c.in-None.ensures.cases) in
    told_goes root old c.end_array.new.self outer outer c.end_array.result c.told.result c.told.ensures refl
    (list_end_goes root old c.end_array.new.self c.end_array.result outer
    (subst (λ (values : List TypedValue). Walked root old.tokens (items_left values ∷ outer)) is walked) c.end_array.ensures)
