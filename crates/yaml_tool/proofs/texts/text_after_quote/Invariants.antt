use Rattle.yaml_tool.proofs.Common.{option_map, length, ◌++◌, ◌≡◌, IsUtf8, chars, seen_text}
use Rattle.yaml_base.specs.scripts.Script as notation
use Rattle.yaml_tool.proofs.texts.text_after_quote.Given as goal

abbrev pub invariant-loop-text : goal.invariant-loop-text
invariant-loop-text g l = record {
  utf8 : IsUtf8 l.rest;
  read : notation.text_from notation.at_character (chars l.behind)
      ≡ option_map (λ others. seen_text l.text ++ others) (notation.text_from notation.at_character (chars l.rest));
}

abbrev pub decreases-loop-text : goal.decreases-loop-text
decreases-loop-text g l = length l.rest
