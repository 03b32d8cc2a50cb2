use Rattle.yaml_json.proofs.Common.{fresh, lex, Open, IsCharBoundary-after_ascii, ◌≡◌, refl, sym, ap, ◌∙◌}
use Rattle.json.specs.Lex.{between, punctuate}
use Rattle.yaml_json.{specs.declared.tokens.Stage.TheVariants.Behind, proofs.ModeSteps.drop_leads}
use Rattle.yaml_json.proofs.tokens.opening.Goals as goal

pub range_from-requires : goal.range_from-requires
range_from-requires c positive = IsCharBoundary-after_ascii c.args.text.now 0 c.utf8.text c.requires.0 c.requires.1

open_apart : Open ≡ Behind → ⊥
open_apart e = cc

pub returns : goal.returns
unfolding punctuate
returns c = record {
  same = refl;
  opens = refl;
  parts = sym (c.skip_blanks.ensures.same ∙ ap (lex between) c.range_from.ensures.value);
  left = ap (punctuate fresh) (c.skip_blanks.ensures.same ∙ ap (lex between) c.range_from.ensures.value);
  over = drop_leads c.args.text.now c.range_from.result.now c.skip_blanks.result.now 1 c.range_from.ensures.value c.skip_blanks.ensures.over;
  tidy = record { trimmed = c.skip_blanks.ensures.past; comma = λ e. absurd (open_apart e) };
}
