use Rattle.yaml_json.proofs.Common.{sym, ◌∙◌, arith, ne_eqb}
use Rattle.yaml_json.proofs.StringFaults.{character_passed}
use Rattle.yaml_json.proofs.lexeme_faults.string_fault.Goals as goal

pub characters-preserved : goal.characters-preserved
characters-preserved c =
    let within = c.in-Ok.ensures.within in (
      omega (arith, within),
      character_passed c.args.text.now c.characters.at c.characters-test.true (ne_eqb _ _ c.if-text-at-ne34.true) c.in-Ok.size (sym c.in-Ok.ensures.value)
          ∙ c.characters.invariant.1,
    )
