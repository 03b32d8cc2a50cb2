-- Block scalars have deep lines: each line after the header holds a character that is no blank, and begins at its indentation.
use Rattle.yaml_scalar.proofs.Common.{arith, suc, zero, ℕ, ◌+◌, ◌≤◌, if◌then◌else◌, Option, replicate, Bool, false, not, true, List, [], ◌++◌, ◌∷◌, ◌⊎◌, refl}
use Rattle.yaml_scalar.proofs.Common.{◌≡◌, true≢false, append_assoc, inl, inr, ap, ◌∙◌, and_from, or_parts, or_right, not-true, Text, or_from, and-false}
use Rattle.yaml_scalar.proofs.Common.{tab, ◌==◌, ◌&&◌, is_blank, is_special, is_special_but_tab, is_blank_to_line_end, begins_with_blanks_alone, space}
use Rattle.yaml_scalar.proofs.Common.{bars_literal, allows_literal, line_feed, is_space, is_break, Cursor, is_read_break, begins_with_spaces, has_deep_lines}
use Rattle.yaml_scalar.proofs.Common.{begins_with_blank_line, begins_with_deep_line, Charset, somewhere, begins_with, is_empty, bars_block, allows_block, folds}
use Rattle.yaml_scalar.proofs.Common.{Ending, ending, begins_blank, ending_hint, block_body, cut_from, cut_line, Part}
use Rattle.yaml_scalar.proofs.Common.{folded_parts, folded_body, line, line_break, begun, parts, indented, literal_body, nat_tests}
use Rattle.yaml_scalar.proofs.{Sparing.is_graph, SparingBlocks.one_digit, TidyQuoted.graph_no_break, blocks.BlockFolds.fold-spaced}
use Rattle.yaml_scalar.proofs.DeepLines.{Unbroken, unblank_line, space_unbroken, enough_spaces, deep_break, deep_unbroken, spaces_unbroken, deep_after}
use Rattle.yaml_base.proofs.Charsets.{special_tab}
use Rattle.yaml_scalar.proofs.blocks.BlockReads.{ordinary, ordinary-or-tab, block-text, digit_text, block_indicator_of}
use Rattle.yaml_scalar.proofs.blocks.FoldedSteps.{BeginsLine, begun-line}

module _ (breaks12 : Bool) where
  -- some character of a text is no blank
  abbrev pub HasInk : Text → Type 0
  HasInk [] = ⊥
  HasInk (c ∷ rest) = (is_blank c ≡ false) ⊎ HasInk rest

  -- each line holds such a character and no break, and line breaks break lines
  abbrev pub AreFull : List Part → Type 0
  AreFull [] = Unit {0}
  AreFull (line text ∷ rest) = Unbroken breaks12 text × HasInk text × AreFull rest
  AreFull (line_break b ∷ rest) = (is_read_break breaks12 b ≡ true) × AreFull rest

  -- a line isn't blank if the text after its first character isn't
  blank_after : (c : ℕ) (further : Text) → is_read_break breaks12 c ≡ false → begins_with_blank_line breaks12 further ≡ false
      → begins_with_blank_line breaks12 (c ∷ further) ≡ false
  blank_after c further u h = grind (arith, nat_tests, is_blank, begins_with_blank_line, and-false)

  -- such a line isn't blank
  full_blank : (text rest : Text) → Unbroken breaks12 text → HasInk text → begins_with_blank_line breaks12 (text ++ rest) ≡ false
  full_blank [] rest u h = absurd h
  full_blank (c ∷ text) rest u (inl s) = unblank_line breaks12 c (text ++ rest) u.0 s
  full_blank (c ∷ text) rest u (inr more) = blank_after c (text ++ rest) u.0 (full_blank text rest u.1 more)

  -- nor is it after spaces
  spaces_blank : (n : ℕ) (text rest : Text) → Unbroken breaks12 text → HasInk text
      → begins_with_blank_line breaks12 ((replicate n space ++ text) ++ rest) ≡ false
  spaces_blank zero text rest u h = full_blank text rest u h
  spaces_blank (suc n) text rest u h = simp (space_unbroken breaks12, spaces_blank n text rest u h)

  module _ (count indent : ℕ) (enough : count ≤ indent) where
    -- lines and breaks after a break
    lines_begin : (ps : List Part) → AreFull ps → begins_with_deep_line breaks12 count (indented indent ps) ≡ true
    lines_begin [] h = refl
    lines_begin (line text ∷ rest) h =
        grind (arith, nat_tests, or_right, and_from, begins_with_spaces, append_assoc, replicate, space, indented, enough_spaces, not, spaces_blank)
    lines_begin (line_break b ∷ rest) h = deep_break breaks12 count (b ∷ indented indent rest) h.0

    -- indented parts have deep lines
    lines_deep : (ps : List Part) → AreFull ps → has_deep_lines breaks12 count (indented indent ps) ≡ true
    lines_deep [] h = refl
    lines_deep (line text ∷ rest) h =
        ap (has_deep_lines breaks12 count) (append_assoc (replicate indent space) text (indented indent rest))
        ∙ deep_unbroken breaks12 count (replicate indent space) (text ++ indented indent rest) (spaces_unbroken breaks12 indent)
        (deep_unbroken breaks12 count text (indented indent rest) h.0 (lines_deep rest h.2))
    lines_deep (line_break b ∷ rest) h = deep_after breaks12 count b (indented indent rest) (lines_begin rest h.1) (lines_deep rest h.1)

    -- the header

    -- the indicator of a value's end breaks no line
    hint_unbroken : (e : Ending) → Unbroken breaks12 (ending_hint e)
    hint_unbroken e = grind (arith, nat_tests, graph_no_break)

    -- nor does a digit
    digit_unbroken : (blank : Bool) (n : ℕ) → is_graph (48 + n) ≡ true → Unbroken breaks12 (digit_text blank n)
    digit_unbroken blank n h = grind (arith, nat_tests, graph_no_break)

    -- nor a style's indicator
    indicator_unbroken : (folded : Bool) → is_read_break breaks12 (block_indicator_of folded) ≡ false
    indicator_unbroken folded = grind (arith, nat_tests, graph_no_break)

    -- a header and such lines
    block_deep : (folded : Bool) (best_indent : ℕ) (value : Text) (ps : List Part) (cursor : Cursor) → is_graph (48 + best_indent) ≡ true → AreFull ps
        → has_deep_lines breaks12 count (block_body (block_indicator_of folded) best_indent value (indented indent ps) cursor).text ≡ true
    block_deep folded best_indent value ps cursor digit full =
        let lines = indented indent ps in
        let number = digit_text (begins_blank value) best_indent in
        let hint = ending_hint (ending value) in
        ap (has_deep_lines breaks12 count)
        (block-text (block_indicator_of folded) best_indent value lines cursor
        ∙ ap (λ (t : Text). block_indicator_of folded ∷ t) (append_assoc number hint (line_feed ∷ lines)))
        ∙ deep_unbroken breaks12 count (block_indicator_of folded ∷ []) (number ++ (hint ++ line_feed ∷ lines)) (indicator_unbroken folded, tt)
        (deep_unbroken breaks12 count number (hint ++ line_feed ∷ lines) (digit_unbroken (begins_blank value) best_indent digit)
        (deep_unbroken breaks12 count hint (line_feed ∷ lines) (hint_unbroken (ending value))
        (deep_after breaks12 count line_feed lines (lines_begin ps full) (lines_deep ps full))))

  -- Lines of a value

  -- the last character of a text, which holds one, is no blank, and none is a tab
  abbrev EndsInk : Text → Type 0
  EndsInk [] = ⊥
  EndsInk (c ∷ []) = is_blank c ≡ false
  EndsInk (c ∷ d ∷ rest) = ((c == tab) ≡ false) × EndsInk (d ∷ rest)

  -- each line of a value is such, and holds no break
  abbrev AreEnded : List Part → Type 0
  AreEnded [] = Unit {0}
  AreEnded (line text ∷ rest) = Unbroken breaks12 text × EndsInk text × AreEnded rest
  AreEnded (line_break b ∷ rest) = (is_read_break breaks12 b ≡ true) × AreEnded rest

  -- such a text holds a character that is no blank
  ended_ink : (text : Text) → EndsInk text → HasInk text
  ended_ink [] h = absurd h
  ended_ink (c ∷ []) h = inl h
  ended_ink (c ∷ d ∷ rest) h = inr (ended_ink (d ∷ rest) h.1)

  -- one more character before such a text
  ended_more : (c : ℕ) (text : Text) → (c == tab) ≡ false → EndsInk text → EndsInk (c ∷ text)
  ended_more c text t h = grind (arith, nat_tests)

  -- a character before such parts, if it isn't a blank that ends a line
  ended_begun : (c : ℕ) (ps : List Part) → is_read_break breaks12 c ≡ false → (c == tab) ≡ false → (is_blank c ≡ false) ⊎ BeginsLine ps → AreEnded ps
      → AreEnded (begun c ps)
  ended_begun c ps u t s h = grind (arith, nat_tests, ended_more)

  -- a break or such a character
  ended_part : (b : Bool) (c : ℕ) (ps : List Part) → is_read_break breaks12 c ≡ b → (c == tab) ≡ false → (is_blank c ≡ false) ⊎ BeginsLine ps → AreEnded ps
      → AreEnded (if b then line_break c ∷ ps else begun c ps)
  ended_part b c ps e t s h = grind (arith, nat_tests, ended_begun)

  -- Lines that are cut

  -- facts about a line that is cut: its parts hold no break, all but the first are full, and the first is if the line
  -- begins with no space
  abbrev IsCut : Text → List Part → Type 0
  IsCut text (line first ∷ others) =
      Unbroken breaks12 first × AreFull others × (begins_with is_space text ≡ false → is_empty text ≡ false → HasInk first)
  IsCut text _ = ⊥

  -- or the text is empty
  abbrev EndsInkOrNone : Text → Type 0
  EndsInkOrNone [] = Unit {0}
  EndsInkOrNone (c ∷ rest) = EndsInk (c ∷ rest)

  -- the text after the first character
  ended_rest : (c : ℕ) (rest : Text) → EndsInk (c ∷ rest) → EndsInkOrNone rest
  ended_rest c rest h = grind (arith, nat_tests)

  -- the first character is no tab
  ended_no_tab : (c : ℕ) (rest : Text) → EndsInk (c ∷ rest) → (c == tab) ≡ false
  ended_no_tab c rest h = grind (arith, nat_tests, or_parts, is_space, tab)

  -- a space isn't the last
  ended_some : (c : ℕ) (rest : Text) → EndsInk (c ∷ rest) → is_space c ≡ true → is_empty rest ≡ false
  ended_some c rest h s = grind (arith, nat_tests, true≢false, or_parts, is_space, tab)

  -- one character more
  cut_step : (c : ℕ) (rest : Text) → is_read_break breaks12 c ≡ false → EndsInk (c ∷ rest) → (further : List Part) → IsCut rest further
      → (fold : Bool) → (fold ≡ true → (is_space c ≡ true) × (begins_with is_space rest ≡ false))
      → IsCut (c ∷ rest) (if fold then line [] ∷ line_break line_feed ∷ further else begun c further)
  cut_step c rest u x further k fold f = grind (arith, nat_tests, ended_some, true≢false, or_from, is_space, tab, ended_no_tab)

  -- a line from some column on
  cut_known : (limit : Option ℕ) (indent column : ℕ) (text : Text) → Unbroken breaks12 text → EndsInkOrNone text
      → IsCut text (cut_from limit indent column text)
  cut_known limit indent column [] u ends = (tt, tt, λ none some. absurd (true≢false some))
  cut_known limit indent column (c ∷ rest) u ends =
      let at : ℕ = if folds limit column c rest then indent else column + 1 in
      cut_step c rest u.0 ends (cut_from limit indent at rest) (cut_known limit indent at rest u.1 (ended_rest c rest ends))
      (folds limit column c rest) (fold-spaced limit column c rest)

  -- so all parts are full if the line begins with no space
  cut_full : (text : Text) (ps : List Part) → begins_with is_space text ≡ false → is_empty text ≡ false → IsCut text ps → AreFull ps
  cut_full text ps x some k = grind (arith, nat_tests)

  -- a text that ends so, or is empty
  ended_or : (text : Text) → EndsInk text → EndsInkOrNone text
  ended_or text h = grind (arith, nat_tests)

  -- a text that ends so isn't empty
  ended_not_empty : (text : Text) → EndsInk text → is_empty text ≡ false
  ended_not_empty text h = grind (arith, nat_tests)

  -- a line's parts, cut or whole
  line_full : (limit : Option ℕ) (indent : ℕ) (text : Text) → Unbroken breaks12 text → EndsInk text → AreFull (cut_line limit indent text)
  line_full limit indent text u ends = grind (arith, ended_ink, cut_full, ended_not_empty, cut_known, ended_or)

  -- full parts after full parts
  full_joined : (prefix rest : List Part) → AreFull prefix → AreFull rest → AreFull (prefix ++ rest)
  full_joined [] rest h k = k
  full_joined (line text ∷ prefix) rest h k = (h.0, h.1, full_joined prefix rest h.2 k)
  full_joined (line_break b ∷ prefix) rest h k = (h.0, full_joined prefix rest h.1 k)

  -- a break once or twice before full parts
  full_twice : (twice : Bool) (b : ℕ) (further : List Part) → is_read_break breaks12 b ≡ true → AreFull further
      → AreFull ((if twice then line_break b ∷ line_break b ∷ [] else line_break b ∷ []) ++ further)
  full_twice twice b further e h = grind (arith, nat_tests)

  -- folded parts are full
  folded_full : (limit : Option ℕ) (indent : ℕ) (after_even : Bool) (ps : List Part) → AreEnded ps → AreFull (folded_parts limit indent after_even ps)
  folded_full limit indent after_even [] h = tt
  folded_full limit indent after_even (line text ∷ rest) h =
      grind (arith, nat_tests, full_joined, cut_line, line_full, not, begins_with, is_space, folded_full limit indent (not (begins_with is_space text)) rest)
  folded_full limit indent after_even (line_break b ∷ rest) h = grind (arith, full_twice, folded_full limit indent false rest h.1)

-- A value that block styles may hold.
module _ (charset : Charset) where
  -- a blank is neither last nor before a break
  blank_last : (c : ℕ) (rest : Text) → is_special charset c ≡ false → (is_space c ≡ false) ⊎ BeginsLine (parts rest)
      → (is_blank c ≡ false) ⊎ BeginsLine (parts rest)
  blank_last c rest special x = grind (arith, nat_tests, or_from, is_space, tab, special_tab)

  space_inside : (c : ℕ) (rest : Text) → bars_block charset c rest ≡ false → (is_space c ≡ false) ⊎ BeginsLine (parts rest)
  space_inside c rest h = grind (arith, nat_tests, or_parts, begun-line)

  -- such a value's lines end with no blank
  parts_ended : (value : Text) → somewhere (bars_block charset) value ≡ false → AreEnded charset.breaks12 (parts value)
  parts_ended [] h = tt
  parts_ended (c ∷ rest) h =
      let split = or_parts (bars_block charset c rest) (somewhere (bars_block charset) rest) h in
      let special = (or_parts _ _ (or_parts _ _ split.0).0).0 in
      ended_part charset.breaks12 (is_break c) c (parts rest) (ordinary charset c special).same_break (special_tab charset c special)
      (blank_last c rest special (space_inside c rest split.0)) (parts_ended rest split.1)

  -- if block styles are allowed
  value_ended : (value : Text) → allows_block charset value ≡ true → AreEnded charset.breaks12 (parts value)
  value_ended value allowed = parts_ended value (or_parts (is_empty value) _ (not-true _ allowed)).1

  -- a folded body has deep lines
  pub folded_deep : (count : ℕ) (limit : Option ℕ) (indent best_indent : ℕ) (value : Text) (cursor : Cursor) → count ≤ indent → best_indent ≤ 9
      → allows_block charset value ≡ true → has_deep_lines charset.breaks12 count (folded_body limit indent best_indent value cursor).text ≡ true
  folded_deep count limit indent best_indent value cursor enough high allowed =
      block_deep charset.breaks12 count indent enough true best_indent value (folded_parts limit indent false (parts value)) cursor (one_digit best_indent high)
      (folded_full charset.breaks12 limit indent false (parts value) (value_ended value allowed))

-- A value that literal may hold if blanks are literal.
module _ (charset : Charset) where
  -- all parts but the first are full, and the first holds no break
  abbrev FullBehindFirst : List Part → Type 0
  FullBehindFirst [] = Unit {0}
  FullBehindFirst (line text ∷ rest) = Unbroken charset.breaks12 text × AreFull charset.breaks12 rest
  FullBehindFirst (line_break b ∷ rest) = (is_read_break charset.breaks12 b ≡ true) × AreFull charset.breaks12 rest

  -- the first part is a line that isn't of blanks alone
  abbrev BeginsInked : List Part → Type 0
  BeginsInked (line text ∷ rest) = HasInk charset.breaks12 text
  BeginsInked _ = ⊥

  -- if the first part is a line, it isn't
  abbrev BeginsUnblank : List Part → Type 0
  BeginsUnblank (line text ∷ rest) = HasInk charset.breaks12 text
  BeginsUnblank _ = Unit {0}

  -- a character that is no blank begins such a line, and a blank goes on to one
  inked_begun : (c : ℕ) (ps : List Part) → is_blank c ≡ false → BeginsInked (begun c ps)
  inked_begun c ps e = grind (arith, nat_tests)

  inked_more : (c : ℕ) (ps : List Part) → BeginsInked ps → BeginsInked (begun c ps)
  inked_more c ps h = grind (arith, nat_tests)

  -- so it is if a text isn't of blanks alone up to the end of its line
  inked : (value : Text) → is_blank_to_line_end value ≡ false → BeginsInked (parts value)
  inked [] h = absurd (true≢false h)
  inked (c ∷ rest) h = grind (arith, nat_tests, or_parts, is_break, is_blank, is_blank_to_line_end, through, inked rest)
    where
      through : (x : Bool) → is_blank c ≡ x → (x && is_blank_to_line_end rest) ≡ false
          → (is_blank_to_line_end rest ≡ false → BeginsInked (parts rest)) → BeginsInked (begun c (parts rest))
      through x e h more = grind (arith, nat_tests, inked_more, parts, inked_begun)

      by : (x : Bool) → x ≡ false → BeginsInked (begun c (parts rest)) → BeginsInked (if x then line_break c ∷ parts rest else begun c (parts rest))
      by x e h = grind (arith, nat_tests, true≢false)

  unblank : (ps : List Part) → BeginsInked ps → BeginsUnblank ps
  unblank ps h = grind (arith, nat_tests)

  -- if no line of blanks alone begins, the first line isn't one
  unblank_first : (value : Text) → begins_with_blanks_alone value ≡ false → BeginsUnblank (parts value)
  unblank_first [] h = tt
  unblank_first (c ∷ rest) h = by (is_break c) (through (is_blank c) refl h)
    where
      through : (x : Bool) → is_blank c ≡ x → (x && is_blank_to_line_end rest) ≡ false → BeginsInked (begun c (parts rest))
      through x e h = grind (arith, nat_tests, inked_more, parts, inked, inked_begun)

      by : (x : Bool) → BeginsInked (begun c (parts rest)) → BeginsUnblank (if x then line_break c ∷ parts rest else begun c (parts rest))
      by x h = grind (arith, nat_tests, unblank, begun, parts)

  -- then all are full
  all_full : (ps : List Part) → FullBehindFirst ps → BeginsUnblank ps → AreFull charset.breaks12 ps
  all_full [] h k = tt
  all_full (line text ∷ rest) h k = (h.0, k, h.1)
  all_full (line_break b ∷ rest) h k = h

  -- a character before such parts
  full_begun : (c : ℕ) (ps : List Part) → is_read_break charset.breaks12 c ≡ false → FullBehindFirst ps → FullBehindFirst (begun c ps)
  full_begun c ps u h = grind (arith, nat_tests)

  full_behind : (value : Text) → somewhere (bars_literal charset) value ≡ false → FullBehindFirst (parts value)
  full_behind [] h = tt
  full_behind (c ∷ rest) h =
      let split = or_parts (bars_literal charset c rest) (somewhere (bars_literal charset) rest) h in
      let bars = or_parts (is_special_but_tab charset c) (is_break c && begins_with_blanks_alone rest) split.0 in
      by (is_break c) (ordinary-or-tab charset c bars.0).same_break bars.1 (full_behind rest split.1)
    where
      by : (x : Bool) → is_read_break charset.breaks12 c ≡ x → (x && begins_with_blanks_alone rest) ≡ false → FullBehindFirst (parts rest)
          → FullBehindFirst (if x then line_break c ∷ parts rest else begun c (parts rest))
      by x e h more = grind (arith, nat_tests, all_full, parts, unblank_first, full_begun)

  value_full : (value : Text) → allows_literal charset value ≡ true → AreFull charset.breaks12 (parts value)
  value_full value allowed =
      grind (arith, nat_tests, or_parts, is_empty, begins_with_blanks_alone, somewhere, bars_literal, not-true, all_full, parts, full_behind, unblank_first)

  -- a literal body has deep lines
  pub literal_deep : (count indent best_indent : ℕ) (value : Text) (cursor : Cursor) → count ≤ indent → best_indent ≤ 9
      → allows_literal charset value ≡ true → has_deep_lines charset.breaks12 count (literal_body indent best_indent value cursor).text ≡ true
  literal_deep count indent best_indent value cursor enough high allowed =
      block_deep charset.breaks12 count indent enough false best_indent value (parts value) cursor (one_digit best_indent high) (value_full value allowed)
