-- A plain simple key is found at its text's end, before the `:` that follows it.
use Rattle.yaml_base.proofs.Common.{and_from, or_from}
use Rattle.yaml_base.proofs.Common.{arith, nat_tests, ℕ, if◌then◌else◌, ◌==◌, None, Some, codes, Bool, false, true, ◌||◌, [], map, ◌++◌, ◌∷◌, refl, ◌≡◌}
use Rattle.yaml_base.proofs.Common.{eqb-true, true≢false, and_parts, or_parts, false≢true, Text, is_among, space, plain, unit_of, folding_read, is_read_white}
use Rattle.yaml_base.proofs.{stream_keys.StreamKeys.NoKey, stream_lines.StreamCuts.none_not_some}
use Rattle.yaml_base.proofs.Common.{begins_no_plain, holds_no_plain, read_plain, is_tidy, Rules, style_of_first_character, a_scalar, kind_of_word}

-- a character outside a set is none of the set's
pub not_among : (set : Text) (c n : ℕ) → is_among set n ≡ true → is_among set c ≡ false → (c == n) ≡ false
not_among set c n member h = grind (arith, true≢false, eqb-true)

-- the characters that plain text doesn't begin with
pub record Begins (c : ℕ) : Type 0 where
  pub anchor : (c == 0x26) ≡ false
  pub blank : (c == space) ≡ false
  pub tag : (c == 0x21) ≡ false
  pub star : (c == 0x2A) ≡ false
  pub square : (c == 0x5B) ≡ false
  pub curly : (c == 0x7B) ≡ false
  pub single : (c == 0x27) ≡ false
  pub double : (c == 0x22) ≡ false
  pub literal : (c == 0x7C) ≡ false
  pub folded : (c == 0x3E) ≡ false

abbrev indicators : Text
indicators = codes "#,[]{}&*!|>'\"%@`"

pub begins : (breaks12 : Bool) (c : ℕ) (t : Text) → begins_no_plain breaks12 (c ∷ t) ≡ false → is_read_white breaks12 c ≡ false → Begins c
begins breaks12 c t h white = grind (arith, or_parts, not_among, true≢false, eqb-true)

pub plain_kind : (c : ℕ) (t : Text) → Begins c → kind_of_word (c ∷ t) ≡ a_scalar
plain_kind c t h = grind (arith, nat_tests)

pub plain_style : (c : ℕ) (t : Text) → Begins c → style_of_first_character (c ∷ t) ≡ plain
plain_style c t b = rw (b.single, b.double, b.literal, b.folded) refl

-- no `:` of plain text ends a key before its end
pub plain_no_key : (rules : Rules) (before t after : Text) → holds_no_plain rules.breaks12 false t ≡ false → NoKey rules before t after
plain_no_key rules before [] after h = tt
plain_no_key rules before (c ∷ t) after h = grind (arith, and_parts, and_from, or_parts, or_from, eqb-true, plain_no_key rules (before ++ (c ∷ [])) t after)

-- a text that reads as plain begins so and holds no such indicator
pub reads_plain : (breaks12 flow : Bool) (c : ℕ) (t v : Text) → read_plain breaks12 flow (c ∷ t) ≡ Some v
    → (begins_no_plain breaks12 (c ∷ t) ≡ false) × (holds_no_plain breaks12 flow (c ∷ t) ≡ false)
reads_plain breaks12 flow c t v read = by (begins_no_plain breaks12 (c ∷ t)) (holds_no_plain breaks12 flow (c ∷ t)) read
  where
    by : (x y : Bool) → (if x || y then None else Some (folding_read (map (unit_of breaks12) (c ∷ t)))) ≡ Some v → (x ≡ false) × (y ≡ false)
    by true y h = absurd (none_not_some h)
    by false true h = absurd (none_not_some h)
    by false false h = (refl, refl)

-- a tidy plain text doesn't begin with white space
pub tidy_begins : (breaks12 : Bool) (c : ℕ) (t : Text) → is_tidy plain breaks12 None (c ∷ t) ≡ true → is_read_white breaks12 c ≡ false
tidy_begins breaks12 c t tidy = grind (arith, nat_tests, and_parts, false≢true)
