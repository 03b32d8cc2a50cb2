use Rattle.yaml_writer.proofs.Common.{arith, sym, ◌∙◌}
use Rattle.yaml_writer.proofs.DoubtfulStarts.{second_tells, third_tells}
use Rattle.yaml_writer.proofs.texts.leaves_reserved_words.Goals as goal

pub returns-then-leaves_reserved : goal.returns-then-leaves_reserved
returns-then-leaves_reserved c is =
    second_tells c.args.text.now (omega (arith, c.if-text-lt2.false)) (sym c.leaves_reserved.ensures ∙ c.if-leaves_reserved.true)

pub returns : goal.returns
returns c is =
    third_tells c.args.text.now (omega (arith, c.if-text-lt2.false, c.if-text-eq2.false)) (omega (arith, c.if-second-ge128.false))
    (sym c.leaves_reserved-2.ensures ∙ is)
