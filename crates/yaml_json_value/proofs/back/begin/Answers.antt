use Rattle.std.proofs.Common.{◌≡◌, ◌∷◌, List, ap, arith, map, of_z, refl, rules, sym, to_z, w64, ◌∙◌, ℕ}
use Rattle.std.specs.Str.{chars}
use Rattle.yaml_base.specs.values.TypedValues.{TypedValue, bool_value, int_value, list_value, map_value, null_value, text_value}
use Rattle.yaml_value.specs.SeenValues.{seen_pairs, seen_value, seen_values}
use Rattle.yaml_value.specs.declared.value.Value.{Value}
use Rattle.yaml_value.proofs.SeenLevels.{seen_integer, seen_list, seen_map, seen_null, seen_string, seen_truth}
use Rattle.yaml_value.proofs.WalkLemmas.{items_seen}
use Rattle.yaml_value.specs.Walk.{items_in}
use Rattle.yaml_json_value.specs.Rests.{seen_rests}
use Rattle.yaml_json_value.specs.Untyped.{items_left, members_in, members_left}
use Rattle.yaml_json_value.proofs.SeenRests.{members_seen}
use Rattle.yaml_json_value.proofs.Untyping.{bool_goes, list_goes, map_goes, not_opened, null_goes, told_goes, walked_as}
use Rattle.yaml_json_value.proofs.back.begin.Goals as goal

pub returns-in-Null : goal.returns-in-Null
returns-in-Null g c = λ root walked.
    let outer = seen_rests c.args.levels.now.items in
    let old = c.args.writer.now in
    let is = ap (λ (value : Value g.row.A.Denot). seen_value value) c.in-Null.is ∙ seen_null g.row.A.Denot in
    told_goes root old c.null.new.self outer outer c.null.result c.told.result c.told.ensures refl
    (null_goes root old c.null.new.self c.null.result outer
    (walked_as root null_value (seen_value c.args.value.now) old.tokens outer is walked) c.null.ensures)

pub returns-in-Bool : goal.returns-in-Bool
returns-in-Bool g c = λ root walked.
    let outer = seen_rests c.args.levels.now.items in
    let old = c.args.writer.now in
    let flag = c.in-Bool.flag in
    let is = ap (λ (value : Value g.row.A.Denot). seen_value value) c.in-Bool.is ∙ seen_truth g.row.A.Denot flag in
    told_goes root old c.boolean.new.self outer outer c.boolean.result c.told-in-Bool.result c.told-in-Bool.ensures refl
    (bool_goes root flag old c.boolean.new.self c.boolean.result outer
    (walked_as root (bool_value flag) (seen_value c.args.value.now) old.tokens outer is walked) c.boolean.ensures)

pub returns-in-Int : goal.returns-in-Int
returns-in-Int g c = λ root walked.
    let outer = seen_rests c.args.levels.now.items in
    let made : to_z w64 (of_z w64 c.in-Int.number) ≡ c.in-Int.number = search rules in
    let is = ap (λ (value : Value g.row.A.Denot). seen_value value) c.in-Int.is ∙ seen_integer g.row.A.Denot c.in-Int.number ∙ ap int_value (sym made) in
    c.write_integer.ensures root outer
    (walked_as root (int_value (to_z w64 (of_z w64 c.in-Int.number))) (seen_value c.args.value.now) c.args.writer.now.tokens outer is walked)

pub returns-in-Text : goal.returns-in-Text
returns-in-Text g c = λ root walked.
    let outer = seen_rests c.args.levels.now.items in
    let is = ap (λ (value : Value g.row.A.Denot). seen_value value) c.in-Text.is ∙ seen_string c.in-Text.text
    ∙ ap (λ (bytes : List ℕ). text_value (chars bytes)) (sym c.as_str.ensures.value) in
    c.write_text.ensures root outer
    (walked_as root (text_value (chars c.as_str.result.now)) (seen_value c.args.value.now) c.args.writer.now.tokens outer is walked)

pub returns-in-Ok : goal.returns-in-Ok
returns-in-Ok g c = λ root walked.
    let outer = seen_rests c.args.levels.now.items in
    let old = c.args.writer.now in
    let items = seen_values c.in-List.items.items in
    let is = ap (λ (value : Value g.row.A.Denot). seen_value value) c.in-List.is ∙ seen_list c.in-List.items in
    let same = c.in-Ok.ensures.0 ∙ ap (λ (values : List TypedValue). items_left values ∷ outer)
    (ap (map (seen_value {A = g.row.A.Denot})) c.as_slice.ensures.value ∙ sym (items_seen c.in-List.items.items)) in
    told_goes root old c.begin_array.new.self (items_left (items_in items) ∷ outer) (seen_rests c.open.new.levels.items) c.begin_array.result
    c.told-in-Ok.result c.told-in-Ok.ensures same
    (list_goes root items old c.begin_array.new.self c.begin_array.result outer c.in-Ok.ensures.1
    (walked_as root (list_value items) (seen_value c.args.value.now) old.tokens outer is walked) c.begin_array.ensures)

pub returns-in-Err : goal.returns-in-Err
returns-in-Err g c = λ root walked.
    let outer = seen_rests c.args.levels.now.items in
    let old = c.args.writer.now in
    let is = ap (λ (value : Value g.row.A.Denot). seen_value value) c.in-List.is ∙ seen_list c.in-List.items in
    not_opened root (list_value (seen_values c.in-List.items.items)) old old (items_left (map seen_value c.as_slice.result.now)) outer
    (seen_rests c.open.new.levels.items) c.in-Err.error
    (walked_as root (list_value (seen_values c.in-List.items.items)) (seen_value c.args.value.now) old.tokens outer is walked) (omega arith) c.in-Err.ensures

pub returns-in-Ok-open : goal.returns-in-Ok-open
returns-in-Ok-open g c = λ root walked.
    let outer = seen_rests c.args.levels.now.items in
    let old = c.args.writer.now in
    let pairs = seen_pairs c.in-Map.members.items in
    let seen_pair : Value g.row.A.Denot × Value g.row.A.Denot → TypedValue × TypedValue = λ pair. (seen_value pair.0, seen_value pair.1) in
    let is = ap (λ (value : Value g.row.A.Denot). seen_value value) c.in-Map.is ∙ seen_map c.in-Map.members in
    let same = c.in-Ok-open.ensures.0 ∙ ap (λ (members : List (TypedValue × TypedValue)). members_left members ∷ outer)
    (ap (map seen_pair) c.as_slice-in-Map.ensures.value ∙ sym (members_seen c.in-Map.members.items)) in
    told_goes root old c.begin_object.new.self (members_left (members_in pairs) ∷ outer) (seen_rests c.open-in-Map.new.levels.items)
    c.begin_object.result c.told-in-Ok-open.result c.told-in-Ok-open.ensures same
    (map_goes root pairs old c.begin_object.new.self c.begin_object.result outer c.in-Ok-open.ensures.1
    (walked_as root (map_value pairs) (seen_value c.args.value.now) old.tokens outer is walked) c.begin_object.ensures)

pub returns-in-Err-open : goal.returns-in-Err-open
returns-in-Err-open g c = λ root walked.
    let outer = seen_rests c.args.levels.now.items in
    let old = c.args.writer.now in
    let pairs = seen_pairs c.in-Map.members.items in
    let seen_pair : Value g.row.A.Denot × Value g.row.A.Denot → TypedValue × TypedValue = λ pair. (seen_value pair.0, seen_value pair.1) in
    let is = ap (λ (value : Value g.row.A.Denot). seen_value value) c.in-Map.is ∙ seen_map c.in-Map.members in
    not_opened root (map_value pairs) old old (members_left (map seen_pair c.as_slice-in-Map.result.now)) outer
    (seen_rests c.open-in-Map.new.levels.items) c.in-Err-open.error
    (walked_as root (map_value pairs) (seen_value c.args.value.now) old.tokens outer is walked) (omega arith) c.in-Err-open.ensures
