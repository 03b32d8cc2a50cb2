-- Block scalars hold no character that meets a test which spares printable ASCII and LF, if their values hold none; so a
-- value that a style allows is written without a special character.
use Rattle.yaml_scalar.proofs.Common.{ℕ, ◌+◌, ◌≤◌, if◌then◌else◌, Option, Bool, false, not, true, List, [], ◌++◌, ◌∷◌, refl, ◌≡◌, le-leb}
use Rattle.yaml_scalar.proofs.Common.{ap, ◌∙◌, arith, and_from, or_parts, not-true, list_any, Text, line_feed, is_space, is_break, Cursor, Charset}
use Rattle.yaml_scalar.proofs.Common.{is_empty, is_special_but_tab, begins_with_blanks_alone, bars_literal, allows_literal, nat_tests}
use Rattle.yaml_scalar.proofs.Common.{somewhere, begins_with, is_special, bars_single_quoted, bars_block, allows_plain, allows_single_quoted, allows_block}
use Rattle.yaml_scalar.proofs.Common.{Ending, ending, begins_blank, ending_hint, block_body, folds, cut_from, cut_line}
use Rattle.yaml_scalar.proofs.Common.{next_line_unindented, folded_parts, folded_body, Part, line, line_break, begun, parts, indented, literal_body}
use Rattle.yaml_scalar.proofs.{LineTexts.any_both, LineTexts.any_one, PlainReads.plain_is_single, PlainReads.plain_bars, Sparing.is_graph, Sparing.Spares}
use Rattle.yaml_scalar.proofs.{Sparing.lacks_spaces, blocks.BlockReads.block-text, blocks.BlockReads.digit_text, blocks.BlockReads.block_indicator_of}

-- a digit
pub one_digit : (n : ℕ) → n ≤ 9 → is_graph (48 + n) ≡ true
one_digit n high = and_from _ _ (le-leb 0x21 (48 + n) (omega arith)) (le-leb (48 + n) 0x7E (omega arith))

module _ (test : ℕ → Bool) where
  -- a test holds nowhere in parts
  abbrev pub PartsLack : List Part → Type 0
  PartsLack [] = Unit {0}
  PartsLack (line text ∷ rest) = (list_any test text ≡ false) × PartsLack rest
  PartsLack (line_break b ∷ rest) = (test b ≡ false) × PartsLack rest

  -- parts after parts
  lacks_joined : (prefix rest : List Part) → PartsLack prefix → PartsLack rest → PartsLack (prefix ++ rest)
  lacks_joined [] rest h k = k
  lacks_joined (line text ∷ prefix) rest h k = (h.0, lacks_joined prefix rest h.1 k)
  lacks_joined (line_break b ∷ prefix) rest h k = (h.0, lacks_joined prefix rest h.1 k)

  -- a character before parts
  lacks_begun : (c : ℕ) (ps : List Part) → test c ≡ false → PartsLack ps → PartsLack (begun c ps)
  lacks_begun c ps e h = grind (arith, nat_tests, any_one)

  -- a break or another character before parts
  lacks_part : (b : Bool) (c : ℕ) (ps : List Part) → test c ≡ false → PartsLack ps → PartsLack (if b then line_break c ∷ ps else begun c ps)
  lacks_part b c ps e h = grind (arith, nat_tests, lacks_begun)

  -- a value's parts
  lacks_parts : (value : Text) → list_any test value ≡ false → PartsLack (parts value)
  lacks_parts [] h = tt
  lacks_parts (c ∷ rest) h = grind (arith, nat_tests, or_parts, list_any, lacks_part, is_break, parts, lacks_parts rest)

  module _ (spares : Spares test) where
    -- a fold, or a character that stays
    lacks_fold : (fold : Bool) (c : ℕ) (further : List Part) → test c ≡ false → PartsLack further
        → PartsLack (if fold then line [] ∷ line_break line_feed ∷ further else begun c further)
    lacks_fold fold c further e h = grind (arith, nat_tests, lacks_begun)

    -- a line that is cut
    lacks_cut : (limit : Option ℕ) (indent column : ℕ) (text : Text) → list_any test text ≡ false → PartsLack (cut_from limit indent column text)
    lacks_cut limit indent column [] h = (refl, tt)
    lacks_cut limit indent column (c ∷ rest) h =
        let p = or_parts (test c) (list_any test rest) h in
        let fold = folds limit column c rest in
        lacks_fold fold c (cut_from limit indent (if fold then indent else column + 1) rest) p.0
        (lacks_cut limit indent (if fold then indent else column + 1) rest p.1)

    -- a line, cut or whole
    lacks_cut_line : (limit : Option ℕ) (indent : ℕ) (text : Text) → list_any test text ≡ false → PartsLack (cut_line limit indent text)
    lacks_cut_line limit indent text h = by (begins_with is_space text)
      where
        by : (b : Bool) → PartsLack (if b then line text ∷ [] else cut_from limit indent indent text)
        by b = grind (arith, nat_tests, lacks_cut)

    -- a break once or twice
    lacks_twice : (twice : Bool) (b : ℕ) (further : List Part) → test b ≡ false → PartsLack further
        → PartsLack ((if twice then line_break b ∷ line_break b ∷ [] else line_break b ∷ []) ++ further)
    lacks_twice twice b further e h = grind (arith, nat_tests)

    -- folded parts
    lacks_folded_parts : (limit : Option ℕ) (indent : ℕ) (after_even : Bool) (ps : List Part) → PartsLack ps
        → PartsLack (folded_parts limit indent after_even ps)
    lacks_folded_parts limit indent after_even [] h = tt
    lacks_folded_parts limit indent after_even (line text ∷ rest) h =
        lacks_joined (cut_line limit indent text) _ (lacks_cut_line limit indent text h.0)
        (lacks_folded_parts limit indent (not (begins_with is_space text)) rest h.1)
    lacks_folded_parts limit indent after_even (line_break b ∷ rest) h =
        grind (arith, nat_tests, lacks_twice, line_feed, next_line_unindented, folded_parts, lacks_folded_parts limit indent false rest)

    -- parts with their indentation
    lacks_indented : (indent : ℕ) (ps : List Part) → PartsLack ps → list_any test (indented indent ps) ≡ false
    lacks_indented indent [] h = refl
    lacks_indented indent (line text ∷ rest) h = grind (arith, any_both, lacks_spaces, lacks_indented indent rest h.1)
    lacks_indented indent (line_break b ∷ rest) h = any_one test b (indented indent rest) h.0 (lacks_indented indent rest h.1)

    -- the indicator of a value's end
    lacks_hint : (e : Ending) → list_any test (ending_hint e) ≡ false
    lacks_hint e = grind (arith, nat_tests, any_one)

    -- the digit of the indent
    lacks_digit : (blank : Bool) (n : ℕ) → n ≤ 9 → list_any test (digit_text blank n) ≡ false
    lacks_digit blank n high = grind (arith, nat_tests, any_one, one_digit)

    -- a style's indicator
    lacks_indicator : (folded : Bool) → test (block_indicator_of folded) ≡ false
    lacks_indicator folded = grind (arith, nat_tests)

    -- a header and lines
    lacks_block : (folded : Bool) (best_indent : ℕ) (value lines : Text) (cursor : Cursor) → best_indent ≤ 9 → list_any test lines ≡ false
        → list_any test (block_body (block_indicator_of folded) best_indent value lines cursor).text ≡ false
    lacks_block folded best_indent value lines cursor high h =
        let digit = digit_text (begins_blank value) best_indent in
        let hint = ending_hint (ending value) in
        ap (list_any test) (block-text (block_indicator_of folded) best_indent value lines cursor)
        ∙ any_one test (block_indicator_of folded) ((digit ++ hint) ++ line_feed ∷ lines) (lacks_indicator folded)
        (any_both test (digit ++ hint) (line_feed ∷ lines)
        (any_both test digit hint (lacks_digit (begins_blank value) best_indent high) (lacks_hint (ending value)))
        (any_one test line_feed lines spares.feed h))

    -- a literal body
    pub lacks_literal : (indent best_indent : ℕ) (value : Text) (cursor : Cursor) → best_indent ≤ 9 → list_any test value ≡ false
        → list_any test (literal_body indent best_indent value cursor).text ≡ false
    lacks_literal indent best_indent value cursor high own =
        lacks_block false best_indent value (indented indent (parts value)) cursor high (lacks_indented indent (parts value) (lacks_parts value own))

    -- a folded body
    pub lacks_folded : (limit : Option ℕ) (indent best_indent : ℕ) (value : Text) (cursor : Cursor) → best_indent ≤ 9 → list_any test value ≡ false
        → list_any test (folded_body limit indent best_indent value cursor).text ≡ false
    lacks_folded limit indent best_indent value cursor high own =
        lacks_block true best_indent value (indented indent (folded_parts limit indent false (parts value))) cursor high
        (lacks_indented indent (folded_parts limit indent false (parts value)) (lacks_folded_parts limit indent false (parts value) (lacks_parts value own)))

-- Values that a style allows hold no special character.
module _ (charset : Charset) where
  -- nor does one that single quotes may hold
  pub special_single : (value : Text) → somewhere (bars_single_quoted charset) value ≡ false → list_any (is_special charset) value ≡ false
  special_single [] h = refl
  special_single (c ∷ rest) h = grind (arith, nat_tests, or_parts, bars_single_quoted, somewhere, any_one, is_special, special_single rest)

  -- nor one that block styles may hold
  special_block : (value : Text) → somewhere (bars_block charset) value ≡ false → list_any (is_special charset) value ≡ false
  special_block [] h = refl
  special_block (c ∷ rest) h = grind (arith, nat_tests, or_parts, bars_block, somewhere, any_one, is_special, special_block rest)

  -- if plain is allowed
  pub plain_unspecial : (flow : Bool) (value : Text) → allows_plain charset flow value ≡ true → list_any (is_special charset) value ≡ false
  plain_unspecial flow value h = special_single value (plain_is_single charset flow value (plain_bars charset flow value h))

  -- if single quotes are
  pub single_unspecial : (value : Text) → allows_single_quoted charset value ≡ true → list_any (is_special charset) value ≡ false
  single_unspecial value h = special_single value (not-true _ h)

  -- if block styles are
  pub block_unspecial : (value : Text) → allows_block charset value ≡ true → list_any (is_special charset) value ≡ false
  block_unspecial value h = special_block value (or_parts _ _ (not-true _ h)).1

  -- if literal is, and blanks are literal, but for tabs
  special_literal : (value : Text) → somewhere (bars_literal charset) value ≡ false → list_any (is_special_but_tab charset) value ≡ false
  special_literal [] h = refl
  special_literal (c ∷ rest) h =
      grind (arith, nat_tests, or_parts, bars_literal, somewhere, any_one, is_special_but_tab, is_break, begins_with_blanks_alone, special_literal rest)

  pub literal_unspecial : (value : Text) → allows_literal charset value ≡ true → list_any (is_special_but_tab charset) value ≡ false
  literal_unspecial value h = grind (arith, nat_tests, special_literal, or_parts, is_empty, begins_with_blanks_alone, somewhere, bars_literal, not-true)
