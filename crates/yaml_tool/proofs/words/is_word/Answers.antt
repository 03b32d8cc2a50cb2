use Rattle.std.proofs.{Common.arith, lemmas.Grind.common_steps}
use Rattle.yaml_tool.proofs.Common.{ℕ, List, ap, ◌∙◌, bytes_eq}
use Rattle.yaml_base.proofs.AsciiWords.{ascii_of, same_word}
use Rattle.yaml_tool.proofs.words.is_word.Goals as goal

pub loop-left-init : goal.loop-left-init
loop-left-init c =
    ap (λ (bytes : List ℕ). bytes_eq bytes c.as_bytes-named.result.now) c.as_bytes-left.ensures.value
    ∙ ap (bytes_eq c.args.word.now) c.as_bytes-named.ensures.value
    ∙ same_word c.args.word.now c.args.name.now c.utf8.word (ascii_of c.args.name.now c.requires)

pub returns-in-empty-empty : goal.returns-in-empty-empty
returns-in-empty-empty c = grind (arith, common_steps) steps 2000000

pub loop-left-preserved : goal.loop-left-preserved
loop-left-preserved c = grind (arith, common_steps) steps 2000000
