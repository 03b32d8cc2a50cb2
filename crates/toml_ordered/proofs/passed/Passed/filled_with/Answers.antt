use Rattle.toml_ordered.proofs.Common.{◌<◌, length, refl, sym, ap, ◌∙◌, set, arith, common_steps, held}
use Rattle.toml_ordered.{proofs.Passing.with_value_at-here, specs.declared.tree.Node.Node as CodeNode}
use Rattle.toml_ordered.proofs.passed.Passed.filled_with.Goals as goal

pub returns : goal.returns
returns c =
    let es = c.args.self.table.keys.items in
    let at = c.args.self.at in
    let e = c.index_mut.result.now in
    let within : at < length es = grind (arith, common_steps) in (
      ap (λ (x : CodeNode). set es at (e.0, x, e.2)) (c.replace.ensures.after ∙ c.filled_with.ensures)
          ∙ with_value_at-here at (held c.args.self.holder c.args.inner) es e within (sym c.index_mut.ensures.value),
      refl,
    )
