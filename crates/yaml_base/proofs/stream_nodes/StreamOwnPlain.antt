-- A plain scalar as its own text on the lines of a block.
use Rattle.yaml_base.specs.{CommentReading.is_keep, CommentReading.keeps_breaks, reading.ReadBlock.after_digit, reading.ReadBlock.chomping_first}
use Rattle.yaml_base.proofs.Common.{◌||◌}
use Rattle.yaml_base.proofs.Common.{arith, suc, ℕ, if◌then◌else◌, ◌==◌, Option, None, Some, codes, Bool, false, true, ◌&&◌, ◌||◌, [], ◌++◌, ◌∷◌, refl, ◌≡◌}
use Rattle.yaml_base.proofs.Common.{eqb-true, true≢false, ap, sym, ◌∙◌, and_parts, or_parts, option_or, Text, is_among, is_blank, plain, is_read_break}
use Rattle.yaml_base.proofs.Common.{is_read_white, begins_white, begins_no_plain, begins_with_hash, holds_no_plain, read_plain, ends_white, is_tidy}
use Rattle.yaml_base.proofs.Common.{stood_plain, prepend_character, lines_of, ends_indicator, begins_with_indicator, key_ends, key_from, word_text}
use Rattle.yaml_base.proofs.{stream_flow.StreamPropertyWords.lead, stream_nodes.StreamOwnTexts.OwnText}
use Rattle.yaml_base.proofs.Common.{kind_of_text, text_by_kind, Rules, scalar_parsed, scalar_of_style, word_by_kind, word_after, not-true, nat_tests}
use Rattle.yaml_base.proofs.stream_lines.StreamTidyLaws.{tidy_at_root, first_text}
use Rattle.yaml_base.proofs.stream_keys.StreamPlainKeys.{Begins, begins, plain_kind, plain_style, reads_plain, tidy_begins}
use Rattle.yaml_base.proofs.stream_nodes.StreamOwnWords.{feed, deep_more, lines_deeper, tidy_deep, shown_trimmed}

-- the first line after a character that breaks none
first_after : (breaks12 : Bool) (c : ℕ) (t : Text) → is_read_break breaks12 c ≡ false
    → first_text (lines_of breaks12 (c ∷ t)) ≡ c ∷ first_text (lines_of breaks12 t)
first_after breaks12 c t h = grind (arith)

-- if a line ends or goes on with a space, so does its text
ends_begins : (breaks12 : Bool) (t : Text) → ends_indicator (first_text (lines_of breaks12 (t ++ feed))) ≡ true → begins_white breaks12 t ≡ true
ends_begins breaks12 t h = grind (arith, nat_tests, first_after)

-- no key ends in the first line of plain text
plain_keyless : (rules : Rules) (before t : Text) → holds_no_plain rules.breaks12 false t ≡ false
    → key_from rules before (first_text (lines_of rules.breaks12 (t ++ feed))) ≡ None
plain_keyless rules before [] h = refl
plain_keyless rules before (c ∷ t) h = by (is_read_break rules.breaks12 c) refl (plain_keyless rules (before ++ (c ∷ [])) t parts.1)
  where
    parts : (((c == 58 && begins_white rules.breaks12 t) || (is_read_white rules.breaks12 c && begins_with_hash t) || false) ≡ false) ×
        (holds_no_plain rules.breaks12 false t ≡ false)
    parts =
        or_parts _ _ h

    colon : (c == 58 && begins_white rules.breaks12 t) ≡ false
    colon =
        (or_parts _ _ (or_parts _ false parts.0).0).0

    no_end : (x : Bool) → (c == 0x3A) ≡ x → (y : Bool) → ends_indicator (first_text (lines_of rules.breaks12 (t ++ feed))) ≡ y → (x && y) ≡ false
    no_end false e y k = refl
    no_end true e false k = refl
    no_end true e true k = absurd (true≢false (sym (ap (λ x. x && begins_white rules.breaks12 t) e ∙ ends_begins _ t k) ∙ colon))

    by : (x : Bool) → is_read_break rules.breaks12 c ≡ x → key_from rules (before ++ (c ∷ [])) (first_text (lines_of rules.breaks12 (t ++ feed))) ≡ None
        → key_from rules before (first_text (lines_of rules.breaks12 ((c ∷ t) ++ feed))) ≡ None
    by true e more = ap (λ x. key_from rules before (first_text (prepend_character x c (lines_of rules.breaks12 (t ++ feed))))) e
    by false e more =
        ap (key_from rules before) (first_after _ c (t ++ feed) e)
        ∙ ap (λ x. option_or (key_ends rules x before (first_text (lines_of rules.breaks12 (t ++ feed))))
        (key_from rules (before ++ (c ∷ [])) (first_text (lines_of rules.breaks12 (t ++ feed)))))
        (no_end (c == 0x3A) refl (ends_indicator (first_text (lines_of rules.breaks12 (t ++ feed)))) refl)
        ∙ more

-- no indicator begins plain text
plain_without_indicator : (breaks12 : Bool) (n c : ℕ) (t : Text) → is_among (codes "?:-") n ≡ true → begins_no_plain breaks12 (c ∷ t) ≡ false
    → begins_with_indicator n (c ∷ first_text (lines_of breaks12 (t ++ feed))) ≡ false
plain_without_indicator breaks12 n c t symbol h = grind (arith, true≢false, eqb-true, ends_begins, or_parts)

-- a tidy plain text ends with nothing white
plain_ends_shown : (breaks12 : Bool) (c : ℕ) (t : Text) → is_tidy plain breaks12 None (c ∷ t) ≡ true → ends_white breaks12 (c ∷ t) ≡ false
plain_ends_shown breaks12 c t tidy = grind (arith, nat_tests, and_parts, not-true)

-- a tidy plain text that isn't empty, up to the break after it
pub own_plain : (rules : Rules) (column : Option ℕ) (c : ℕ) (t v : Text) → is_tidy plain rules.breaks12 column (c ∷ t) ≡ true
    → read_plain rules.breaks12 false (c ∷ t) ≡ Some v → OwnText rules column ((c ∷ t) ++ feed) plain v
own_plain rules column c t v tidy read =
    let at_root = tidy_at_root plain rules.breaks12 column (c ∷ t) tidy in
    let white = tidy_begins rules.breaks12 c t at_root in
    let parts = reads_plain rules.breaks12 false c t v read in
    let b = begins rules.breaks12 c t parts.0 white in
    let goes_on = (or_parts (is_blank c) (is_read_break rules.breaks12 c) white).1 in
    record {
      head = c;
      tail = t ++ feed;
      is = refl;
      content = rw (b.blank, b.anchor, b.tag) refl;
      goes_on = goes_on;
      no_item = plain_without_indicator rules.breaks12 0x2D c t refl parts.0;
      no_key = plain_without_indicator rules.breaks12 0x3F c t refl parts.0;
      keyless = λ anchor tag parsed given.
          ap (key_from rules (lead anchor tag)) (sym (first_after rules.breaks12 c (t ++ feed) goes_on))
          ∙ plain_keyless rules (lead anchor tag) (c ∷ t) parts.1;
      deeper = lines_deeper rules.breaks12 column c (t ++ feed) goes_on
          (λ d e. deep_more rules.breaks12 (suc d) (c ∷ t) (tidy_deep plain rules.breaks12 column (c ∷ t) tidy d e));
      read = λ properties.
          ap (λ k. text_by_kind k rules column properties (c ∷ (t ++ feed))) (own_text b)
          ∙ ap (word_after rules false column properties) (shown_trimmed rules.breaks12 c t (plain_ends_shown rules.breaks12 c t at_root))
          ∙ ap (λ k. word_by_kind k rules false column properties (c ∷ t)) (plain_kind c t b)
          ∙ ap (λ style. scalar_of_style style rules false column properties (c ∷ t)) (plain_style c t b)
          ∙ ap (λ x. scalar_parsed properties stood_plain (if x then read_plain rules.breaks12 false (c ∷ t) else None)) tidy
          ∙ ap (scalar_parsed properties stood_plain) read;
    }
  where
    own_text : Begins c → kind_of_text (c ∷ []) ≡ word_text
    own_text b = rw (b.literal, b.folded, b.square, b.curly) refl

-- it is no block scalar
pub plain_drops : (breaks12 : Bool) (column : Option ℕ) (c : ℕ) (t v rest : Text) → is_tidy plain breaks12 column (c ∷ t) ≡ true
    → read_plain breaks12 false (c ∷ t) ≡ Some v → keeps_breaks (c ∷ rest) ≡ false
plain_drops breaks12 column c t v rest tidy read =
    let white = tidy_begins breaks12 c t (tidy_at_root plain breaks12 column (c ∷ t) tidy) in
    let b = begins breaks12 c t (reads_plain breaks12 false c t v read).0 white in
    ap (λ x. (x || c == 0x3E) && is_keep (chomping_first (after_digit rest))) b.literal
    ∙ ap (λ x. x && is_keep (chomping_first (after_digit rest))) b.folded
