use Rattle.yaml_caller.proofs.Common.{codes, refl, ap, ◌∙◌, chars, chars-literal, seen_text, string_tag}
use Rattle.yaml_caller.proofs.Dumped.{string_node}
use Rattle.std.proofs.lemmas.Result.{IfOk-from_err}
use Rattle.yaml_caller.proofs.cycles.cycle_key.Goals as goal

pub returns-in_err-from_str : goal.returns-in_err-from_str
returns-in_err-from_str g c = record {
  seen = IfOk-from_err c.from_residual.result _ c.from_residual.ensures.0;
  numbers = IfOk-from_err c.from_residual.result _ c.from_residual.ensures.0;
}

pub returns-in_err-from_str-2 : goal.returns-in_err-from_str-2
returns-in_err-from_str-2 g c = record {
  seen = IfOk-from_err c.from_residual-in_err-from_str-2.result _ c.from_residual-in_err-from_str-2.ensures.0;
  numbers = IfOk-from_err c.from_residual-in_err-from_str-2.result _ c.from_residual-in_err-from_str-2.ensures.0;
}

pub returns-clause-seen : goal.returns-clause-seen
returns-clause-seen g c =
    ap (λ tag. string_node tag (seen_text c.in_ok-from_str-2.field-0)) (ap chars c.in_ok-from_str.ensures.ok ∙ chars-literal string_tag refl)
    ∙ ap (string_node string_tag) (ap chars c.in_ok-from_str-2.ensures.ok ∙ chars-literal (codes "k") refl)
