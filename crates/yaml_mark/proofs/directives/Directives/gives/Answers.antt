use Rattle.yaml_mark.proofs.Common.{map, ap, ◌∙◌, chars, seen_directive, gives_handle}
use Rattle.yaml_mark.proofs.DirectiveLemmas.{gives_by_bytes}
use Rattle.yaml_mark.proofs.directives.Directives.gives.Goals as goal

pub returns : goal.returns
returns g c =
    c.some_handle_is.ensures
    ∙ gives_by_bytes c.args.handle.now c.utf8.handle c.as_slice.result.now
    ∙ ap (λ x. gives_handle (chars c.args.handle.now) (map seen_directive x)) c.as_slice.ensures.value
    ∙ ap (gives_handle (chars c.args.handle.now)) c.self.view_is
