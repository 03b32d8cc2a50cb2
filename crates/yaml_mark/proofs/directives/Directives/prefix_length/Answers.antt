use Rattle.yaml_mark.proofs.Common.{slice_get, length, ap, ◌∙◌}
use Rattle.yaml_mark.proofs.TagLemmas.{prefix_at}
use Rattle.yaml_mark.proofs.directives.Directives.prefix_length.Goals as goal

pub returns : goal.returns
returns g c = λ d h.
    ap length
    (c.as_str.ensures.value
    ∙ prefix_at c.self.inside.list.items c.args.number c.index.result.now d c.index.ensures
    (ap (λ x. slice_get x c.args.number) c.self.view_is ∙ h))
