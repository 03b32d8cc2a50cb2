use Rattle.yaml_scalar.proofs.Common.{chars, IsUtf8, length, chars_rest, natural, limit_where}
use Rattle.yaml_scalar.proofs.InsideSteps.{StillInside}
use Rattle.yaml_scalar.proofs.double_quoted.write_inside.Given as goal

abbrev pub invariant-loop-c : goal.invariant-loop-c
invariant-loop-c g l =
    let quoting = l.fn.quoting in
    record {
      is_text : IsUtf8 (chars_rest l.chars);
      still :
          StillInside quoting.unicode (limit_where quoting.allow_breaks quoting.width) (natural quoting.indent)
          (chars l.fn.value) l.before (chars_rest l.chars) l.initial.pen l.pen;
    }

abbrev pub decreases-loop-c : goal.decreases-loop-c
decreases-loop-c g l = length (chars_rest l.chars)
