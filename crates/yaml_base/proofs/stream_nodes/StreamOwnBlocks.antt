-- A literal or folded scalar as its own text on the lines of a block.
use Rattle.yaml_base.proofs.Common.{nat_tests, arith, ℕ, Option, None, Some, Bool, false, true, ◌||◌, List, [], ◌++◌, ◌∷◌, refl, ◌≡◌, append_assoc, ap, subst}
use Rattle.yaml_base.proofs.Common.{sym, and_parts, and_from, or_parts, list_all-append, Text, ScalarStyle, literal, folded, is_read_break, read_block}
use Rattle.yaml_base.proofs.{stream_flow.StreamFlowWords.Given, stream_flow.StreamPropertyWords.lead, stream_keys.StreamKeys.none_parsed}
use Rattle.yaml_base.proofs.{stream_keys.StreamKeyReads.lead_no_text, stream_lines.StreamTidyLaws.first_text, stream_nodes.StreamOwnTexts.OwnText}
use Rattle.yaml_base.proofs.Common.{ParsedTag, is_tidy, Line, prepend_to_first_line, prepend_character, lines_of, key_of_text, Rules, a_scalar, kind_of_word}
use Rattle.yaml_base.proofs.stream_keys.StreamNoKeys.{KeyNowhere, nowhere_alone}
use Rattle.yaml_base.proofs.stream_lines.StreamLineLaws.{OneLine, one_line_both}
use Rattle.yaml_base.proofs.stream_nodes.StreamOwnWords.{feed, deep_more, lines_deeper, tidy_deep, first_passes}

-- the indicator of a block style, and the style
abbrev pub block_indicator : (is_literal : Bool) → ℕ
block_indicator true = 0x7C
block_indicator false = 0x3E

abbrev pub block_style : (is_literal : Bool) → ScalarStyle
block_style true = literal
block_style false = folded

-- No key

-- one line alone is no block scalar
no_block : (breaks12 l : Bool) (b : Text) → OneLine breaks12 b → read_block breaks12 None (block_indicator l ∷ b) ≡ None
no_block breaks12 l b h = grind (arith, nat_tests, or_parts)

-- a text that begins with such an indicator is a scalar
block_kind : (l : Bool) (t : Text) → kind_of_word (block_indicator l ∷ t) ≡ a_scalar
block_kind l t = grind (arith, nat_tests)

-- the beginning of a header is no key
header_part : (rules : Rules) (l : Bool) (anchor tag : Option Text) (parsed : Option ParsedTag) (b : Text) → Given rules anchor tag parsed
    → OneLine rules.breaks12 b
    → key_of_text rules (lead anchor tag ++ (block_indicator l ∷ b)) ≡ None
header_part rules true anchor tag parsed b given one = grind (arith, lead_no_text, block_kind true b, no_block rules.breaks12 true b, none_parsed)
header_part rules false anchor tag parsed b given one = grind (arith, lead_no_text, block_kind false b, no_block rules.breaks12 false b, none_parsed)

-- so no key ends in the first line
header_nowhere : (rules : Rules) (l : Bool) (anchor tag : Option Text) (parsed : Option ParsedTag) (b u : Text) → Given rules anchor tag parsed
    → OneLine rules.breaks12 b
    → KeyNowhere rules (lead anchor tag ++ (block_indicator l ∷ b)) (first_text (lines_of rules.breaks12 u))
header_nowhere rules l anchor tag parsed b [] given one = tt
header_nowhere rules l anchor tag parsed b (c ∷ u) given one =
    by (is_read_break rules.breaks12 c) refl (λ longer. header_nowhere rules l anchor tag parsed (b ++ (c ∷ [])) u given longer)
  where
    here : (f : Text) → KeyNowhere rules (lead anchor tag ++ (block_indicator l ∷ (b ++ (c ∷ [])))) f
        → KeyNowhere rules (lead anchor tag ++ (block_indicator l ∷ b)) (c ∷ f)
    here f more = (
      λ h. header_part rules l anchor tag parsed b given one,
      subst (λ t. KeyNowhere rules t f) (sym (append_assoc (lead anchor tag) (block_indicator l ∷ b) (c ∷ []))) more,
    )

    prepend_to_elements : (lines : List Line) → KeyNowhere rules (lead anchor tag ++ (block_indicator l ∷ (b ++ (c ∷ [])))) (first_text lines)
        → KeyNowhere rules (lead anchor tag ++ (block_indicator l ∷ b)) (first_text (prepend_to_first_line c lines))
    prepend_to_elements [] more = here [] more
    prepend_to_elements (line ∷ rest) more = here line.text more

    by : (x : Bool) → is_read_break rules.breaks12 c ≡ x
        → (OneLine rules.breaks12 (b ++ (c ∷ [])) → KeyNowhere rules (lead anchor tag ++ (block_indicator l ∷ (b ++ (c ∷ []))))
        (first_text (lines_of rules.breaks12 u)))
        → KeyNowhere rules (lead anchor tag ++ (block_indicator l ∷ b)) (first_text (prepend_character x c (lines_of rules.breaks12 u)))
    by true e more = tt
    by false e more = prepend_to_elements (lines_of rules.breaks12 u) (more (one_line_both rules.breaks12 b (c ∷ []) one (ap (λ x. x || false) e)))

-- Block scalars

-- such an indicator breaks no line
indicators_go_on : (breaks12 l : Bool) → is_read_break breaks12 (block_indicator l) ≡ false
indicators_go_on breaks12 l = grind (arith, nat_tests)

-- a tidy text that reads as a block scalar
pub own_block : (rules : Rules) (column : Option ℕ) (l : Bool) (u v : Text) → is_tidy (block_style l) rules.breaks12 column (block_indicator l ∷ u) ≡ true
    → read_block rules.breaks12 column (block_indicator l ∷ u) ≡ Some v → OwnText rules column (block_indicator l ∷ u) (block_style l) v
own_block rules column l u v tidy read = record {
  head = block_indicator l;
  tail = u;
  is = refl;
  content = grind (arith);
  goes_on = indicators_go_on rules.breaks12 l;
  no_item = grind (arith);
  no_key = grind (arith);
  keyless = λ anchor tag parsed given.
      first_passes rules (lead anchor tag) (first_text (lines_of rules.breaks12 u)) (block_indicator l) (grind (arith)) (nowhere_alone rules _ _
      (header_nowhere rules l anchor tag parsed [] u given refl));
  deeper = lines_deeper _ column _ u (indicators_go_on rules.breaks12 l)
      (tidy_deep (block_style l) rules.breaks12 column (block_indicator l ∷ u) tidy);
  read = λ properties. grind (arith, nat_tests);
}

-- it stays tidy with a break more
pub block_tidy_more : (l breaks12 : Bool) (column : Option ℕ) (t : Text) → is_tidy (block_style l) breaks12 column t ≡ true
    → is_tidy (block_style l) breaks12 column (t ++ feed) ≡ true
block_tidy_more l breaks12 column t tidy = grind (arith, and_parts, and_from, list_all-append, deep_more)
