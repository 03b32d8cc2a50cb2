use Rattle.yaml_caller.proofs.Common.{map, refl, ap, ◌∙◌, chars, chars-literal, mapping_tag}
use Rattle.yaml_base.specs.graphs.SeenNodes.{seen_pair}
use Rattle.yaml_caller.proofs.Dumped.{mapping_of}
use Rattle.std.proofs.lemmas.Result.{IfOk-from_err}
use Rattle.yaml_caller.proofs.cycles.cycle_map.Goals as goal

pub returns-in_err-from_str : goal.returns-in_err-from_str
returns-in_err-from_str g c = record {
  seen = IfOk-from_err c.from_residual.result _ c.from_residual.ensures.0;
  numbers = IfOk-from_err c.from_residual.result _ c.from_residual.ensures.0;
}

pub returns-in_err-vec : goal.returns-in_err-vec
returns-in_err-vec g c = record {
  seen = IfOk-from_err c.from_residual-in_err-vec.result _ c.from_residual-in_err-vec.ensures.0;
  numbers = IfOk-from_err c.from_residual-in_err-vec.result _ c.from_residual-in_err-vec.ensures.0;
}

pub returns-clause-seen : goal.returns-clause-seen
returns-clause-seen g c =
    ap (λ tag. mapping_of tag (map seen_pair c.in_ok-vec.field-0.items)) (ap chars c.in_ok-from_str.ensures.ok ∙ chars-literal mapping_tag refl)
    ∙ ap (λ pairs. mapping_of mapping_tag (map seen_pair pairs)) c.in_ok-vec.ensures.items
