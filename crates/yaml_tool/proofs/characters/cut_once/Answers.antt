use Rattle.yaml_tool.proofs.Common.{◌==◌, ap, arith, list_any, chars, prefix_of}
use Rattle.yaml_tool.proofs.CharacterLemmas.{nothing_passed, empty_prefix, one_passed, prefix_passed, still_free}
use Rattle.yaml_tool.proofs.characters.cut_once.Goals as goal

pub loop-character-init : goal.loop-character-init
loop-character-init c = record {
  passed = nothing_passed c.args.text.now c.utf8.text;
  free = ap (λ text. list_any (λ character. character == c.args.delimiter) text) (empty_prefix c.args.text.now);
  within = omega arith;
}

pub loop-character-preserved : goal.loop-character-preserved
loop-character-preserved c =
    let before = c.loop-character.invariant in
    let split = c.in-Some.ensures.bytes in record {
      passed = one_passed c.args.text.now c.loop-character.rest.now c.in-Some.behind.now c.in-Some.character before.passed split;
      free = still_free c.args.delimiter c.in-Some.character (chars (prefix_of c.args.text.now c.loop-character.rest.now))
          (chars (prefix_of c.args.text.now c.in-Some.behind.now)) before.free c.if-character-delimiter.false
          (prefix_passed c.args.text.now c.loop-character.rest.now c.in-Some.behind.now c.in-Some.character before.passed split);
      within = omega (arith, c.in-Some.ensures.shorter);
    }
