use Rattle.yaml_base.proofs.Common.{◌≤◌}
use Rattle.yaml_base.specs.declared.directives.yaml_tag_directive_t.{yaml_tag_directive_t}
use Rattle.yaml_mark.proofs.Common.{ap, sym, ◌∙◌, arith, length, drop, subst, List}
use Rattle.yaml_mark.proofs.IndexLemmas.{indexed_more, drop_all}
use Rattle.yaml_mark.proofs.directives.index_with.Goals as goal
use Rattle.yaml_mark.proofs.directives.index_with.Goals.{in-Some, in-None+else-number-ne-SCANNED+in_ok-index-in-None}
use Rattle.yaml_mark.specs.Index.{Finds, IsIndexed}
use Rattle.yaml_mark.specs.declared.index.Index.{Index}

pub returns : goal.returns
returns g c = λ list at before.
    let found : (8 ≤ length list) × Finds c.deref_mut.result.now (drop 8 list) =
    elim c.match-before.branch [
      | in-Some w ↦
          let h = subst (λ o. IsIndexed 8 o list) w.in-Some.is before in
          let same = c.deref_mut.ensures.value ∙ ap (λ b. b.value) w.index-is in
          (h.0, subst (λ (i : Index g.row.A.Denot). Finds i (drop 8 list)) (sym same) h.1)
      | in-None+else-number-ne-SCANNED+in_ok-index-in-None w ↦
          let same = c.deref_mut.ensures.value ∙ ap (λ b. b.value) w.index-is ∙ w.in_ok-index-in-None.ensures.ok in
          let none = drop_all 8 list (sym w.if-number-ne-SCANNED.false ∙ at) in (
            omega (arith, at, w.if-number-ne-SCANNED.false),
            subst (λ (i : Index g.row.A.Denot). Finds i (drop 8 list)) (sym same)
                (subst (λ (l : List (yaml_tag_directive_t g.row.A.Denot)). Finds w.new.result l) (sym none) w.new.ensures),
          )
    ]
    in
    indexed_more c.deref_mut.result.now c.add.new.self 8 c.args.number c.saturating_sub.result list c.args.directive.now at c.saturating_sub.ensures found.0
    found.1 c.in_ok-add.ensures
