use Rattle.yaml_value.proofs.Common.{◌++◌, append_assoc, ap, ◌∙◌, chars, List, ℕ}
use Rattle.std.proofs.lemmas.Result.{on_ok_weaker}
use Rattle.yaml_base.proofs.Common.{utf8}
use Rattle.yaml_base.specs.{Encoding.text_bytes, graphs.DumpedText.in_quotes}
use Rattle.yaml_value.proofs.texts.write_scalar.Goals as goal

pub returns : goal.returns
returns g c =
    let text = text_bytes utf8 (in_quotes (chars c.args.value.now)) in
    on_ok_weaker c.append_double_quoted.result
    (λ is. is ∙ ap (λ (t : List ℕ). t ++ text) c.in_ok-append.ensures ∙ append_assoc c.args.bytes.now.items c.args.tag.now text)
    c.append_double_quoted.ensures
