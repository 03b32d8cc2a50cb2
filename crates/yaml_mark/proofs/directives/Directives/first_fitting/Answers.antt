use Rattle.yaml_mark.proofs.Common.{position, map, ap, ◌∙◌, seen_directive, fits}
use Rattle.yaml_mark.proofs.TagLemmas.{first_by_bytes}
use Rattle.yaml_mark.proofs.directives.Directives.first_fitting.Goals as goal

pub returns : goal.returns
returns g c =
    c.first_prefix.ensures
    ∙ first_by_bytes c.args.tag.now c.utf8.tag c.as_slice.result.now
    ∙ ap (λ x. position (fits c.args.tag.now) (map seen_directive x)) c.as_slice.ensures.value
    ∙ ap (position (fits c.args.tag.now)) c.self.view_is
