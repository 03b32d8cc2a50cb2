use Rattle.yaml_writer.proofs.Common.{ℕ, not, List, ap, sym, ◌∙◌, is_doubtful}
use Rattle.yaml_writer.proofs.TextBytes.{doubtful_by_bytes}
use Rattle.yaml_writer.proofs.texts.is_surely_text.Goals as goal

pub returns : goal.returns
returns c =
    ap not (c.is_doubtful.ensures ∙ ap (λ (bytes : List ℕ). is_doubtful bytes) c.as_bytes.ensures.value ∙ sym (doubtful_by_bytes c.args.text.now c.utf8.text))
