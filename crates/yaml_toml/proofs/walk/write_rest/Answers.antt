use Rattle.yaml_toml.proofs.Common.{◌≡◌, ◌∷◌, ◌++◌, [], List, refl, ap, subst, sym, ◌∙◌, append_assoc, mapping_start, mapping_end, sequence_end, collection_in}
use Rattle.yaml_toml.proofs.Common.{arith, Event, max, suc, items_nesting, keys_nesting, toml_events, toml_items_events, keys_events, ItemsHaveNumbers}
use Rattle.yaml_toml.proofs.Common.{TomlStep, rest_due, value_due, walk_at, Rest, items_view, node_view, Header}
use Rattle.std.proofs.lemmas.List.{nil_from_length}
use Rattle.yaml_toml.{proofs.Stepping.due_next, proofs.Stepping.step_begun, proofs.Stepping.step_memory, proofs.Stepping.step_same, specs.Walk.items_size}
use Rattle.toml_ordered.specs.{Keys.live_view, declared.tree.Node.Node as CodeNode}
use Rattle.toml_ordered.specs.Data as toml
use Rattle.yaml_toml.specs.declared.walk.Rest.TheVariants as rest
use Rattle.yaml_toml.proofs.walk.write_rest.Goals as goal

pub returns-in-Err : goal.returns-in-Err
returns-in-Err g c =
    let a = c.args in
    step_memory a.settings.now a.writer.now (rest_due a.rest) a.opened.now.items c.keep.new.opened.items c.in-Err.stop c.in-Err.ensures.failed

pub returns-in-Err-keep : goal.returns-in-Err-keep
returns-in-Err-keep g c =
    let a = c.args in
    step_memory a.settings.now a.writer.now (rest_due a.rest) a.opened.now.items c.keep-in-Some.new.opened.items c.in-Err-keep.stop c.in-Err-keep.ensures.failed

pub returns-in_default : goal.returns-in_default
returns-in_default g c =
    let a = c.args in
    let s = a.settings.now in
    let was = a.writer.now in
    let opened = a.opened.now.items in
    let kept = c.keep.new.opened.items in
    let now = c.enter.new.writer in
    let left = c.enter.new.opened.items in
    let done = c.in-Tables.done in
    let last = c.in-Tables.last in
    let table = toml.table Header (live_view last) in
    let none : [] ≡ done.now = sym (nil_from_length done.now c.in-None.ensures.cases) in
    let keys = keys_events was.canonical s.flow (live_view last) in
    let begins = mapping_start (collection_in s.flow) in
    let behind = begins ∷ (keys ++ mapping_end ∷ sequence_end ∷ []) in
    let nested = suc (keys_nesting (live_view last)) in
    let nests = ap (λ (ds : List CodeNode). max (items_nesting (items_view ds)) nested) none in
    subst (λ (r : Rest). TomlStep s (rest_due r) (walk_at was opened) c.enter.result (walk_at now left)) (sym c.in-Tables.is)
    (step_same s was now (value_due table) (rest_due (rest.Tables done last)) kept opened left c.enter.result
    (due_next [] s.depth was.canonical s.flow table _ (rest.Tables done last) opened kept c.in_default.ensures.kept refl
    (ap (λ (es : List Event). begins ∷ es) (append_assoc keys (mapping_end ∷ []) (sequence_end ∷ []))
    ∙ ap (λ (ds : List CodeNode). toml_items_events was.canonical s.flow (items_view ds) ++ behind) none)
    (λ have. (subst (λ (ds : List CodeNode). ItemsHaveNumbers (items_view ds)) none tt, have.0)) (omega arith) (omega (arith, nests)))
    (step_begun s was now Header (rest.Members last) table kept left c.enter.result refl c.enter.ensures))

pub returns-in_default-keep : goal.returns-in_default-keep
returns-in_default-keep g c =
    let a = c.args in
    let s = a.settings.now in
    let was = a.writer.now in
    let opened = a.opened.now.items in
    let kept = c.keep-in-Some.new.opened.items in
    let now = c.write_node.new.writer in
    let left = c.write_node.new.opened.items in
    let done = c.in-Tables.done in
    let last = c.in-Tables.last in
    let x = c.in-Some.table.now in
    let xs = c.in-Some.others.now in
    let all : x ∷ xs ≡ done.now = sym c.in-Some.ensures.cases.0 in
    let behind = mapping_start (collection_in s.flow) ∷ (keys_events was.canonical s.flow (live_view last) ++ mapping_end ∷ sequence_end ∷ []) in
    let nested = suc (keys_nesting (live_view last)) in
    let nests = ap (λ (ds : List CodeNode). max (items_nesting (items_view ds)) nested) all in
    let sizes = ap (λ (ds : List CodeNode). items_size (items_view ds)) all in
    subst (λ (r : Rest). TomlStep s (rest_due r) (walk_at was opened) c.write_node.result (walk_at now left)) (sym c.in-Tables.is)
    (step_same s was now (value_due (node_view x)) (rest_due (rest.Tables done last)) kept opened left c.write_node.result
    (due_next [] s.depth was.canonical s.flow (node_view x) (rest.Tables c.in-Some.others last) (rest.Tables done last) opened kept
    c.in_default-keep.ensures.kept refl
    (sym (append_assoc (toml_events was.canonical s.flow (node_view x)) (toml_items_events was.canonical s.flow (items_view xs)) behind)
    ∙ ap (λ (ds : List CodeNode). toml_items_events was.canonical s.flow (items_view ds) ++ behind) all)
    (λ have. (subst (λ (ds : List CodeNode). ItemsHaveNumbers (items_view ds)) all (have.0, have.1.0), have.1.1)) (omega (arith, sizes)) (omega (arith, nests)))
    c.write_node.ensures)
