-- A style that a value allows if U+2028 and U+2029 are special, it allows also if they needn't be; and if a value allows block styles, it allows
-- literal with literal blanks.
use Rattle.yaml_base.proofs.Common.{nat_tests}
use Rattle.yaml_base.proofs.Common.{arith}
use Rattle.yaml_base.proofs.Common.{ℕ, ◌==◌, Bool, false, not, true, ◌&&◌, ◌||◌, [], ◌∷◌, refl, ◌≡◌, ap, and_parts, and_from, or_parts, or_from, not-true}
use Rattle.yaml_base.proofs.Common.{sym, ◌∙◌, if◌then◌else◌, eqb-true, true≢false, false≢true, tab, space, is_space, is_blank, is_break}
use Rattle.yaml_base.proofs.Common.{Text, line_separator, paragraph_separator, is_ascii, is_printable, Charset, somewhere, is_empty, is_special, bars_block}
use Rattle.yaml_base.proofs.Common.{is_blank_to_line_end, begins_with_blanks_alone, bars_literal, allows_literal, is_literal}
use Rattle.yaml_base.proofs.Common.{allows_block, Effective, Scalar, charset_of, allowed_under}
use Rattle.yaml_base.specs.scalars.Analysis.{allows_plain, allows_single_quoted}
use Rattle.yaml_base.specs.scalars.Analysis.{begins_with, is_trailing_space}

-- an alternative that holds if another one does
or_fewer : (a b rest : Bool) → (a ≡ false → b ≡ false) → (a || rest) ≡ false → (b || rest) ≡ false
or_fewer a b rest implies h = let parts = or_parts a rest h in or_from b rest (implies parts.0) parts.1

-- two of which one holds in fewer cases
and_fewer : (a b c : Bool) → (b ≡ false → c ≡ false) → (a && b) ≡ false → (a && c) ≡ false
and_fewer true b c implies h = implies h
and_fewer false b c implies h = refl

-- a test that holds in fewer cases
somewhere_fewer : (test fewer : ℕ → Text → Bool) → ((c : ℕ) (rest : Text) → test c rest ≡ false → fewer c rest ≡ false)
    → (text : Text) → somewhere test text ≡ false → somewhere fewer text ≡ false
somewhere_fewer test fewer implies [] h = refl
somewhere_fewer test fewer implies (c ∷ rest) h = grind (arith, and_parts, and_from, or_parts, or_from, somewhere_fewer test fewer implies rest)

-- a character that is special for one reason is special for two
module _ (unicode one other : Bool) where
  abbrev fewer : Charset
  fewer = record { unicode = unicode; breaks12 = one }

  abbrev more : Charset
  more = record { unicode = unicode; breaks12 = one || other }

  special_fewer : (c : ℕ) → is_special more c ≡ false → is_special fewer c ≡ false
  special_fewer c h = or_from _ _ parts.0 (by one parts.1)
    where
      parts : ((not (is_printable c) || (not unicode && not (is_ascii c))) ≡ false)
          × (((one || other) && (c == line_separator || c == paragraph_separator)) ≡ false)
      parts = or_parts _ _ h

      by : (x : Bool) → ((x || other) && (c == line_separator || c == paragraph_separator)) ≡ false
          → (x && (c == line_separator || c == paragraph_separator)) ≡ false
      by true e = e
      by false e = refl

  -- plain, in flow or in a block
  pub plain_still : (flow : Bool) (value : Text) → allows_plain more flow value ≡ true → allows_plain fewer flow value ≡ true
  plain_still flow value h = grind (arith, and_parts, is_empty, or_parts, not-true, and_from, or_from, somewhere_fewer, or_fewer, special_fewer)

  -- single quotes
  pub single_still : (value : Text) → allows_single_quoted more value ≡ true → allows_single_quoted fewer value ≡ true
  single_still value h = grind (arith, nat_tests, and_parts, and_from, or_parts, or_from, somewhere_fewer, or_fewer, not-true)

  -- literal and folded
  pub block_still : (value : Text) → allows_block more value ≡ true → allows_block fewer value ≡ true
  block_still value h = grind (arith, or_parts, is_empty, bars_block, not-true, or_from, somewhere_fewer, or_fewer, special_fewer)

  -- literal, if blanks are literal
  pub literal_still : (value : Text) → allows_literal more value ≡ true → allows_literal fewer value ≡ true
  literal_still value h =
      let bars = or_parts (is_empty value || begins_with_blanks_alone value) (somewhere (bars_literal more) value) (not-true _ h) in
      ap not
      (or_from (is_empty value || begins_with_blanks_alone value) (somewhere (bars_literal fewer) value) bars.0
      (somewhere_fewer (bars_literal more) (bars_literal fewer)
      (λ c rest. or_fewer _ _ _ (and_fewer (not (c == tab)) _ _ (special_fewer c))) value bars.1))

-- Values that allow block styles

module _ (charset : Charset) where
  -- a character that isn't special is no tab
  pub special_tab : (c : ℕ) → is_special charset c ≡ false → (c == tab) ≡ false
  special_tab c h = by (c == tab) refl
    where
      by : (x : Bool) → (c == tab) ≡ x → x ≡ false
      by false e = refl
      by true e = absurd (true≢false (sym (ap (is_special charset) (eqb-true c tab e)) ∙ h))

  -- after a blank that no block text bars comes a character that is no break
  blank_inside : (c : ℕ) (rest : Text) → bars_block charset c rest ≡ false → is_blank c ≡ true
      → (begins_with is_break rest ≡ false) × (is_empty rest ≡ false)
  blank_inside c rest h blank =
      let bars = or_parts (is_special charset c || is_trailing_space c rest) (is_space c && is_empty rest) h in
      let special = or_parts (is_special charset c) (is_trailing_space c rest) bars.0 in
      by (c == space) blank special.1 bars.1 (special_tab c special.0)
    where
      by : (x : Bool) → (x || c == tab) ≡ true → (x && begins_with is_break rest) ≡ false → (x && is_empty rest) ≡ false → (c == tab) ≡ false
          → (begins_with is_break rest ≡ false) × (is_empty rest ≡ false)
      by true blank before_break last tabless = (before_break, last)
      by false blank before_break last tabless = absurd (false≢true (sym tabless ∙ blank))

  -- so no line goes on to its end in blanks alone
  blank_goes_on : (c : ℕ) (rest : Text) → somewhere (bars_block charset) (c ∷ rest) ≡ false → is_blank c ≡ true → is_blank_to_line_end rest ≡ false
  blank_goes_on c [] h blank =
      absurd (true≢false (blank_inside c [] (or_parts (bars_block charset c []) false h).0 blank).1)
  blank_goes_on c (d ∷ rest) h blank =
      let bars = or_parts (bars_block charset c (d ∷ rest)) (somewhere (bars_block charset) (d ∷ rest)) h in
      or_from (is_break d) (is_blank d && is_blank_to_line_end rest) (blank_inside c (d ∷ rest) bars.0 blank).0
      (by (is_blank d) (λ e. blank_goes_on d rest bars.1 e))
    where
      by : (x : Bool) → (x ≡ true → is_blank_to_line_end rest ≡ false) → (x && is_blank_to_line_end rest) ≡ false
      by true inside = inside refl
      by false inside = refl

  -- and none is of them
  none_of_blanks : (value : Text) → somewhere (bars_block charset) value ≡ false → begins_with_blanks_alone value ≡ false
  none_of_blanks [] h = refl
  none_of_blanks (c ∷ rest) h = by (is_blank c) refl
    where
      by : (x : Bool) → is_blank c ≡ x → (x && is_blank_to_line_end rest) ≡ false
      by true e = blank_goes_on c rest h e
      by false e = refl

  -- a character that bars literal text bars block text
  literal_bars : (value : Text) → somewhere (bars_block charset) value ≡ false → somewhere (bars_literal charset) value ≡ false
  literal_bars [] h = refl
  literal_bars (c ∷ rest) h = grind (arith, and_parts, and_from, or_parts, or_from, none_of_blanks, literal_bars rest)

  -- if a value allows block styles, it allows literal with literal blanks
  pub literal_of_block : (value : Text) → allows_block charset value ≡ true → allows_literal charset value ≡ true
  literal_of_block value h =
      grind (arith, or_parts, is_empty, bars_block, not-true, or_from, begins_with_blanks_alone, bars_literal, none_of_blanks, literal_bars)

-- if a scalar's value allows a block style, it allows literal with literal blanks
pub literal_allowed : (s : Effective) (content : Scalar) → (allowed_under s content).block_allowed ≡ true
    → allows_literal (charset_of s) content.value ≡ true
literal_allowed s content = by (is_literal content.style && s.literal_blanks)
  where
    by : (x : Bool) → (if x then allows_literal (charset_of s) content.value else allows_block (charset_of s) content.value) ≡ true
        → allows_literal (charset_of s) content.value ≡ true
    by true h = h
    by false h = literal_of_block (charset_of s) content.value h
