use Rattle.yaml_toml.proofs.Common.{◌≡◌, ◌∷◌, ◌++◌, [], ◌+◌, List, refl, ap, subst, sym, ◌∙◌, append_assoc, arith, common_steps, items_view, node_view}
use Rattle.yaml_toml.proofs.Common.{Sequence, items_nesting, ItemsHaveNumbers, kinds_of, rest_due, value_due}
use Rattle.yaml_toml.proofs.{Pending.items_left-more, Stepping.due_next, Stepping.step_end, Stepping.step_memory, Stepping.step_same}
use Rattle.yaml_toml.specs.Walk.{items_left, items_size}
use Rattle.toml_ordered.specs.declared.tree.Node.{Node as CodeNode}
use Rattle.yaml_toml.specs.declared.walk.Rest.TheVariants as rest
use Rattle.yaml_toml.proofs.walk.write_item.Goals as goal

pub returns-in-None : goal.returns-in-None
returns-in-None g c =
    let a = c.args in
    let s = a.settings.now in
    let was = a.writer.now in
    let opened = a.opened.now.items in
    let none : [] ≡ a.items.now = grind (arith, common_steps) in
    let (outer, levels) = c.requires.innermost in
    let within = levels ∙ sym (append_assoc outer (kinds_of opened) (Sequence ∷ [])) in
    step_end s was c.end_innermost.new.writer opened (rest.Items a.items) c.end_innermost.result c.stop_of.result
    (ap (λ (xs : List CodeNode). items_left was.canonical s.flow xs) none) (subst (λ (xs : List CodeNode). ItemsHaveNumbers (items_view xs)) none tt)
    (ap (λ (xs : List CodeNode). 1 + items_size (items_view xs)) none) (ap (λ (xs : List CodeNode). items_nesting (items_view xs)) none) c.stop_of.ensures
    (c.end_innermost.ensures.kept (outer ++ kinds_of opened) Sequence within) (c.end_innermost.ensures.ended Sequence)

pub returns-in-Err : goal.returns-in-Err
returns-in-Err g c =
    let a = c.args in
    step_memory a.settings.now a.writer.now (rest_due (rest.Items a.items)) a.opened.now.items c.keep.new.opened.items c.in-Err.stop c.in-Err.ensures.failed

pub returns-in_default : goal.returns-in_default
returns-in_default g c =
    let a = c.args in
    let s = a.settings.now in
    let was = a.writer.now in
    let opened = a.opened.now.items in
    let kept = c.keep.new.opened.items in
    let x = c.in-Some.item.now in
    let xs = c.in-Some.others.now in
    let all : x ∷ xs ≡ a.items.now = grind (arith, common_steps) in
    let sizes = ap (λ (items : List CodeNode). items_size (items_view items)) all in
    step_same s _ _ _ _ _ _ _ _ (due_next [] _ _ _ _ _ _ _ _ c.in_default.ensures.kept refl
    (sym (items_left-more _ _ x xs) ∙ ap (items_left was.canonical s.flow) all) (subst (λ (items : List CodeNode). ItemsHaveNumbers (items_view items)) all)
    (omega (arith, sizes)) (ap (λ (items : List CodeNode). items_nesting (items_view items)) all)) c.write_node.ensures
