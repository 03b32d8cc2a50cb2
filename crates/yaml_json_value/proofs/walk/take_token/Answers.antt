use Rattle.std.proofs.Common.{◌∷◌, List, Some, Err, ap, refl, subst, sym}
use Rattle.json.specs.Reads.{token_of}
use Rattle.json.specs.Token.{Token}
use Rattle.json.specs.declared.token.Token as code
use Rattle.yaml_base.specs.values.TypedValues.{TypedValue}
use Rattle.yaml_value.specs.OpenLevels.{items_open, pairs_open, seen_levels}
use Rattle.yaml_value.specs.{SeenValues.seen_pairs, SeenValues.seen_value, SeenValues.seen_values, declared.value.Value.Value}
use Rattle.yaml_value.specs.declared.value.Value as declared
use Rattle.yaml_value.proofs.SeenLevels.{seen_null, seen_truth}
use Rattle.yaml_json_value.specs.Standing.{end_list, end_map, give, within}
use Rattle.yaml_json_value.specs.Walked.{Taken}
use Rattle.yaml_json_value.specs.declared.error.Stop.TheVariants as stop
use Rattle.yaml_json_value.proofs.Taking.{taken_as}
use Rattle.yaml_json_value.proofs.walk.take_token.Goals as goal

pub returns-in-Null : goal.returns-in-Null
returns-in-Null g c =
    let before = seen_levels c.args.levels.now.items in
    subst (λ (t : code.Token). Taken (token_of t) before c.settle.new.levels.items c.settle.result) (sym c.in-Null.is)
    (taken_as Token.null before c.settle.new.levels.items (give before (seen_value {A = g.row.A.Denot} declared.Null)) c.settle.result
    (ap (λ (value : TypedValue). give before value) (sym (seen_null g.row.A.Denot))) tt c.settle.ensures)

pub returns-in-Bool : goal.returns-in-Bool
returns-in-Bool g c =
    let before = seen_levels c.args.levels.now.items in
    let settled = c.settle-in-Bool in
    subst (λ (t : code.Token). Taken (token_of t) before settled.new.levels.items settled.result) (sym c.in-Bool.is)
    (taken_as (Token.boolean c.in-Bool.flag) before settled.new.levels.items (give before (seen_value {A = g.row.A.Denot} (declared.Bool c.in-Bool.flag)))
    settled.result (ap (λ (value : TypedValue). give before value) (sym (seen_truth g.row.A.Denot c.in-Bool.flag))) tt settled.ensures)

pub returns-in-Number : goal.returns-in-Number
returns-in-Number g c =
    let took = c.take_number in
    subst (λ (t : code.Token). Taken (token_of t) (seen_levels c.args.levels.now.items) took.new.levels.items took.result) (sym c.in-Number.is) took.ensures

pub returns-in-String : goal.returns-in-String
returns-in-String g c =
    let took = c.take_text in
    subst (λ (t : code.Token). Taken (token_of t) (seen_levels c.args.levels.now.items) took.new.levels.items took.result) (sym c.in-String.is) took.ensures

pub returns-in-Key : goal.returns-in-Key
returns-in-Key g c =
    let took = c.take_name in
    subst (λ (t : code.Token). Taken (token_of t) (seen_levels c.args.levels.now.items) took.new.levels.items took.result) (sym c.in-Key.is) took.ensures

pub returns-in-BeginArray : goal.returns-in-BeginArray
returns-in-BeginArray g c =
    let before = seen_levels c.args.levels.now.items in
    let opened : List (Value g.row.A.Denot) → _ = λ items. Some (within (items_open (seen_values items) ∷ before)) in
    subst (λ (t : code.Token). Taken (token_of t) before c.enter.new.levels.items c.enter.result) (sym c.in-BeginArray.is)
    (taken_as Token.begin_array before c.enter.new.levels.items (opened c.new.result.items) c.enter.result (ap opened (sym c.new.ensures.items)) tt
    c.enter.ensures)

pub returns-in-EndArray : goal.returns-in-EndArray
returns-in-EndArray g c =
    let before = seen_levels c.args.levels.now.items in
    subst (λ (t : code.Token). Taken (token_of t) before c.leave_list.new.levels.items c.leave_list.result) (sym c.in-EndArray.is)
    (taken_as Token.end_array before c.leave_list.new.levels.items (end_list before) c.leave_list.result refl tt c.leave_list.ensures)

pub returns-in-BeginObject : goal.returns-in-BeginObject
returns-in-BeginObject g c =
    let before = seen_levels c.args.levels.now.items in
    let entered = c.enter-in-BeginObject in
    let opened : List (Value g.row.A.Denot × Value g.row.A.Denot) → _ = λ members. Some (within (pairs_open (seen_pairs members) ∷ before)) in
    subst (λ (t : code.Token). Taken (token_of t) before entered.new.levels.items entered.result) (sym c.in-BeginObject.is)
    (taken_as Token.begin_object before entered.new.levels.items (opened c.new-in-BeginObject.result.items) entered.result
    (ap opened (sym c.new-in-BeginObject.ensures.items)) tt entered.ensures)

pub returns-in-EndObject : goal.returns-in-EndObject
returns-in-EndObject g c =
    let before = seen_levels c.args.levels.now.items in
    subst (λ (t : code.Token). Taken (token_of t) before c.leave_map.new.levels.items c.leave_map.result) (sym c.in-EndObject.is)
    (taken_as Token.end_object before c.leave_map.new.levels.items (end_map before) c.leave_map.result refl tt c.leave_map.ensures)

pub returns-in-Bad : goal.returns-in-Bad
returns-in-Bad g c =
    subst (λ (t : code.Token). Taken (token_of t) (seen_levels c.args.levels.now.items) c.args.levels.now.items (Err stop.Misplaced)) (sym c.in-Bad.is) refl
