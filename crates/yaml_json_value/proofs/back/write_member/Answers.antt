use Rattle.std.proofs.Common.{◌∷◌, List, [], ap, map, refl, subst, sym}
use Rattle.std.proofs.lemmas.List.{nil_from_length}
use Rattle.yaml_base.specs.values.TypedValues.{TypedValue}
use Rattle.yaml_value.specs.SeenValues.{seen_value}
use Rattle.yaml_value.specs.declared.value.Value.{Value}
use Rattle.yaml_json_value.specs.Rests.{seen_rests}
use Rattle.yaml_json_value.specs.Untyped.{Left, Walked, members_left, value_left}
use Rattle.yaml_json_value.specs.declared.back.Rest.{Rest}
use Rattle.yaml_json_value.proofs.SeenRests.{rest_more}
use Rattle.yaml_json_value.proofs.Untyping.{map_end_goes, then_goes, told_goes}
use Rattle.yaml_json_value.proofs.back.write_member.Goals as goal

pub returns-in-Ok : goal.returns-in-Ok
returns-in-Ok g c = λ root walked.
    let seen_pair : Value g.row.A.Denot × Value g.row.A.Denot → TypedValue × TypedValue = λ pair. (seen_value pair.0, seen_value pair.1) in
    let outer = seen_rests c.args.levels.now.items in
    let old = c.args.writer.now in
    let more = map seen_pair c.in-Some.others.now in
    let value = seen_value c.in-Some.field-0-0.now.1 in
    let is = ap (map seen_pair) c.in-Some.ensures.cases.0 in
    let named = c.in-Ok.ensures root value more outer
    (subst (λ (pairs : List (TypedValue × TypedValue)). Walked root old.tokens (members_left pairs ∷ outer)) is walked) in
    let begun = c.begin.ensures root
    (subst (λ (levels : List Left). Walked root c.write_name.new.writer.tokens (value_left value ∷ levels))
    (sym (rest_more c.args.levels.now.items c.push.new.self.items (Rest.Members c.in-Some.others) c.push.ensures.items)) named.0) in
    then_goes root old c.write_name.new.writer c.begin.new.writer (value_left value ∷ members_left more ∷ outer)
    (seen_rests c.begin.new.levels.items) c.begin.result named begun

pub returns-in-Err : goal.returns-in-Err
returns-in-Err g c = λ root walked.
    let seen_pair : Value g.row.A.Denot × Value g.row.A.Denot → TypedValue × TypedValue = λ pair. (seen_value pair.0, seen_value pair.1) in
    let outer = seen_rests c.args.levels.now.items in
    let is = ap (map seen_pair) c.in-Some.ensures.cases.0 in
    c.in-Err.ensures root (seen_value c.in-Some.field-0-0.now.1) (map seen_pair c.in-Some.others.now) outer
    (subst (λ (pairs : List (TypedValue × TypedValue)). Walked root c.args.writer.now.tokens (members_left pairs ∷ outer)) is walked)

pub returns-in-None : goal.returns-in-None
returns-in-None g c = λ root walked.
    let seen_pair : Value g.row.A.Denot × Value g.row.A.Denot → TypedValue × TypedValue = λ pair. (seen_value pair.0, seen_value pair.1) in
    let outer = seen_rests c.args.levels.now.items in
    let old = c.args.writer.now in
    let is = ap (map seen_pair) (nil_from_length c.args.members.now c.in-None.ensures.cases) in
    told_goes root old c.end_object.new.self outer outer c.end_object.result c.told.result c.told.ensures refl
    (map_end_goes root old c.end_object.new.self c.end_object.result outer
    (subst (λ (pairs : List (TypedValue × TypedValue)). Walked root old.tokens (members_left pairs ∷ outer)) is walked) c.end_object.ensures)
