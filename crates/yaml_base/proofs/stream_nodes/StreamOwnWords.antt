-- Quoted and plain scalars as their own text on the lines of a block.
use Rattle.yaml_base.proofs.Common.{or_from, or_parts}
use Rattle.yaml_base.proofs.Common.{nat_tests, text_by_kind, kind_of_text, word_text, arith, suc, zero, ℕ, ◌==◌, Option, None, Some, Bool, false, not, true}
use Rattle.yaml_base.proofs.Common.{◌&&◌, ◌||◌, List, [], ◌++◌, ◌∷◌, refl, ◌≡◌, ap, ◌∙◌, and_parts, and_from, false≢true, option_or, Text, line_feed}
use Rattle.yaml_base.proofs.Common.{is_blank, ScalarStyle, is_read_break, is_read_white, begins_with_spaces, begins_with_blank_line, begins_with_deep_line}
use Rattle.yaml_base.proofs.Common.{has_deep_lines, ends_white, is_tidy, Line, prepend_to_first_line, prepend_character, lines_of, ends_indicator, key_ends}
use Rattle.yaml_base.proofs.{Common.key_from, Common.prepend_to_trimmed, Common.trimmed, Common.Rules, Common.word_after, stream_flow.StreamPropertyWords.lead}
use Rattle.yaml_base.proofs.{stream_lines.StreamInside.AllInside, stream_lines.StreamCuts.quote_of, stream_lines.StreamCuts.quoted_in}
use Rattle.yaml_base.proofs.{stream_lines.StreamCuts.read_quoted, stream_nodes.StreamOwnTexts.lines_shown, stream_nodes.StreamOwnTexts.OwnText}
use Rattle.yaml_base.proofs.{stream_flow.StreamFlowWords.quoted_after, stream_keys.StreamKeyReads.quoted_nowhere, stream_keys.StreamNoKeys.KeyNowhere}
use Rattle.yaml_base.proofs.{stream_keys.StreamNoKeys.nowhere_alone, stream_lines.StreamDeepBreaks.ends_as_last, stream_lines.StreamLineLaws.not_white}
use Rattle.yaml_base.proofs.stream_lines.StreamTidyLaws.{first_text, lines_after_first, deep_lines_inside}

-- The break after a text

-- the break that the next new line begins with
abbrev pub feed : Text
feed = line_feed ∷ []

-- it leaves blank lines blank
blank_more : (breaks12 : Bool) (t : Text) → begins_with_blank_line breaks12 (t ++ feed) ≡ begins_with_blank_line breaks12 t
blank_more breaks12 [] = refl
blank_more breaks12 (c ∷ t) = ap (λ x. is_read_break breaks12 c || (is_blank c && x)) (blank_more breaks12 t)

-- and the spaces that it has
spaces_more : (n : ℕ) (t : Text) → begins_with_spaces n t ≡ true → begins_with_spaces n (t ++ feed) ≡ true
spaces_more zero t h = refl
spaces_more (suc n) [] h = absurd (false≢true h)
spaces_more (suc n) (c ∷ t) h = grind (arith, and_parts, and_from, or_parts, or_from, spaces_more n t)

-- a deep line stays deep
deep_line_more : (breaks12 : Bool) (n : ℕ) (t : Text) → begins_with_deep_line breaks12 n t ≡ true → begins_with_deep_line breaks12 n (t ++ feed) ≡ true
deep_line_more breaks12 n t h = grind (arith, nat_tests, and_parts, and_from, spaces_more, blank_more)

-- so do all
pub deep_more : (breaks12 : Bool) (n : ℕ) (t : Text) → has_deep_lines breaks12 n t ≡ true → has_deep_lines breaks12 n (t ++ feed) ≡ true
deep_more breaks12 n [] h = refl
deep_more breaks12 n (c ∷ t) h =
    let parts = and_parts _ _ h in
    and_from _ _ (by (is_read_break breaks12 c) parts.0) (deep_more breaks12 n t parts.1)
  where
    by : (x : Bool) → (not x || begins_with_deep_line breaks12 n t) ≡ true → (not x || begins_with_deep_line breaks12 n (t ++ feed)) ≡ true
    by true h = deep_line_more breaks12 n t h
    by false h = refl

-- the lines of a tidy text after its first are deeper than the column around, with that break or without
pub lines_deeper : (breaks12 : Bool) (column : Option ℕ) (h : ℕ) (t : Text) → is_read_break breaks12 h ≡ false
    → ((c : ℕ) → column ≡ Some c → has_deep_lines breaks12 (suc c) (h ∷ t) ≡ true)
    → (c : ℕ) → column ≡ Some c → AllInside true c (lines_after_first (lines_of breaks12 t))
lines_deeper breaks12 column h t goes_on deep c e = grind (arith, lines_shown, deep_lines_inside)

-- the lines of a tidy text are deep
pub tidy_deep : (style : ScalarStyle) (breaks12 : Bool) (column : Option ℕ) (text : Text) → is_tidy style breaks12 column text ≡ true
    → (c : ℕ) → column ≡ Some c → has_deep_lines breaks12 (suc c) text ≡ true
tidy_deep style breaks12 column text tidy c e = grind (arith, nat_tests, and_parts)

-- it is cut off if nothing white precedes it
pub shown_trimmed : (breaks12 : Bool) (c : ℕ) (t : Text) → ends_white breaks12 (c ∷ t) ≡ false → trimmed breaks12 (c ∷ (t ++ feed)) ≡ c ∷ t
shown_trimmed true c [] h = ap (λ x. prepend_to_trimmed x c []) (not_white true c h)
shown_trimmed false c [] h = ap (λ x. prepend_to_trimmed x c []) (not_white false c h)
shown_trimmed breaks12 c (d ∷ t) h = grind (arith, shown_trimmed breaks12 d t h)

-- No key

-- if no key ends in a text, none ends in its first line
first_nowhere : (rules : Rules) (breaks12 : Bool) (before t : Text) → KeyNowhere rules before t
    → KeyNowhere rules before (first_text (lines_of breaks12 (t ++ feed)))
first_nowhere rules breaks12 before [] none = tt
first_nowhere rules breaks12 before (c ∷ t) none = by (is_read_break breaks12 c) (first_nowhere rules breaks12 (before ++ (c ∷ [])) t none.1)
  where
    prepend_to_elements : (lines : List Line) → KeyNowhere rules (before ++ (c ∷ [])) (first_text lines)
        → KeyNowhere rules before (first_text (prepend_to_first_line c lines))
    prepend_to_elements [] more = (none.0, more)
    prepend_to_elements (line ∷ rest) more = (none.0, more)

    by : (x : Bool) → KeyNowhere rules (before ++ (c ∷ [])) (first_text (lines_of breaks12 (t ++ feed)))
        → KeyNowhere rules before (first_text (prepend_character x c (lines_of breaks12 (t ++ feed))))
    by true more = tt
    by false more = prepend_to_elements (lines_of breaks12 (t ++ feed)) more

-- a line that begins with a character that is no `:`
pub first_passes : (rules : Rules) (before f : Text) (c : ℕ) → (c == 0x3A) ≡ false → key_from rules (before ++ (c ∷ [])) f ≡ None
    → key_from rules before (c ∷ f) ≡ None
first_passes rules before f c other none =
    ap (λ x. option_or (key_ends rules (x && ends_indicator f) before f) (key_from rules (before ++ (c ∷ [])) f)) other ∙ none

-- Quotes

-- a quote breaks no line, and isn't white
quotes_show : (breaks12 double : Bool) → (is_read_break breaks12 (quote_of double) ≡ false) × (is_read_white breaks12 (quote_of double) ≡ false)
quotes_show breaks12 double = grind (arith, nat_tests)

-- a tidy text in quotes, up to the break after it
pub own_quoted : (rules : Rules) (column : Option ℕ) (double : Bool) (inside v : Text)
    → is_tidy (quoted_in double) rules.breaks12 column (quote_of double ∷ (inside ++ (quote_of double ∷ []))) ≡ true
    → read_quoted double rules.breaks12 (quote_of double ∷ (inside ++ (quote_of double ∷ []))) ≡ Some v
    → OwnText rules column ((quote_of double ∷ (inside ++ (quote_of double ∷ []))) ++ feed) (quoted_in double) v
own_quoted rules column double inside v tidy read =
    let q = quote_of double in
    let t = inside ++ (q ∷ []) in
    let shown = quotes_show rules.breaks12 double in
    record {
      head = q;
      tail = t ++ feed;
      is = refl;
      content = grind (arith);
      goes_on = shown.0;
      no_item = grind (arith);
      no_key = grind (arith);
      keyless = λ anchor tag parsed given.
          first_passes rules (lead anchor tag) (first_text (lines_of rules.breaks12 (t ++ feed))) q (grind (arith))
          (nowhere_alone rules (lead anchor tag ++ (q ∷ [])) (first_text (lines_of rules.breaks12 (t ++ feed)))
          (first_nowhere rules rules.breaks12 (lead anchor tag ++ (q ∷ [])) t (quoted_nowhere rules double anchor tag parsed [] t v given read)));
      deeper = lines_deeper rules.breaks12 column q (t ++ feed) shown.0
          (λ c e. deep_more rules.breaks12 (suc c) (q ∷ t) (tidy_deep (quoted_in double) rules.breaks12 column (q ∷ t) tidy c e));
      read = λ properties.
          ap (λ k. text_by_kind k rules column properties (q ∷ (t ++ feed))) (text_kind double)
          ∙ ap (word_after rules false column properties) (shown_trimmed rules.breaks12 q t (ends_as_last rules.breaks12 (q ∷ inside) q ∙ shown.1))
          ∙ quoted_after rules false double column properties t v tidy read;
    }
  where
    text_kind : (double : Bool) → kind_of_text (quote_of double ∷ []) ≡ word_text
    text_kind true = refl
    text_kind false = refl
