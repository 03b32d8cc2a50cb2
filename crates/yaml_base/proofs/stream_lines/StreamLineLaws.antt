-- The lines of texts one after another.
use Rattle.yaml_base.proofs.Common.{and_from, and_parts}
use Rattle.yaml_base.proofs.Common.{nat_tests, arith, ℕ, Bool, false, true, List, [], ◌++◌, ◌∷◌, refl, ◌≡◌, ap, sym, ◌∙◌, or_parts, or_from, list_any}
use Rattle.yaml_base.proofs.Common.{Text, is_read_break, is_read_white, is_space_or_break, Line, prepend_character, lines_of, text_of_lines, is_break}
use Rattle.yaml_base.proofs.AllPass.{fewer_pass}

-- a text is empty, or its last character is a break
abbrev pub is_closed : Bool → Text → Bool
is_closed breaks12 [] = true
is_closed breaks12 (c ∷ []) = is_read_break breaks12 c
is_closed breaks12 (c ∷ d ∷ rest) = is_closed breaks12 (d ∷ rest)

-- a character that isn't white is no space and no break
pub not_white : (breaks12 : Bool) (c : ℕ) → is_read_white breaks12 c ≡ false → is_space_or_break breaks12 c ≡ false
not_white breaks12 c h = grind (arith, or_parts, or_from)

-- a text without a break
abbrev pub OneLine : Bool → Text → Type 0
OneLine breaks12 text = list_any (is_read_break breaks12) text ≡ false

text_before : (b : Bool) (c : ℕ) (lines : List Line) → text_of_lines (prepend_character b c lines) ≡ c ∷ text_of_lines lines
text_before b c lines = grind (arith, nat_tests)

-- the lines of a text are its text
pub text_of_lines_of : (breaks12 : Bool) (text : Text) → text_of_lines (lines_of breaks12 text) ≡ text
text_of_lines_of breaks12 [] = refl
text_of_lines_of breaks12 (c ∷ rest) =
    text_before (is_read_break breaks12 c) c (lines_of breaks12 rest) ∙ ap (λ t. c ∷ t) (text_of_lines_of breaks12 rest)

before_both : (b d : Bool) (c e : ℕ) (lines more : List Line)
    → prepend_character b c (prepend_character d e lines ++ more) ≡ prepend_character b c (prepend_character d e lines) ++ more
before_both b d c e lines more = grind (arith, nat_tests)

break_alone : (b : Bool) (c : ℕ) (more : List Line) → b ≡ true → prepend_character b c more ≡ prepend_character b c [] ++ more
break_alone b c more h = ap (λ x. prepend_character x c more) h ∙ sym (ap (λ x. prepend_character x c [] ++ more) h)

-- after a break the lines of the rest are by themselves
pub lines_after_break : (breaks12 : Bool) (text rest : Text) → is_closed breaks12 text ≡ true
    → lines_of breaks12 (text ++ rest) ≡ lines_of breaks12 text ++ lines_of breaks12 rest
lines_after_break breaks12 [] rest h = refl
lines_after_break breaks12 (c ∷ []) rest h = break_alone (is_read_break breaks12 c) c (lines_of breaks12 rest) h
lines_after_break breaks12 (c ∷ d ∷ text) rest h = grind (arith, before_both, lines_after_break breaks12 (d ∷ text) rest h)

-- two texts without a break
pub one_line_both : (breaks12 : Bool) (a b : Text) → OneLine breaks12 a → OneLine breaks12 b → OneLine breaks12 (a ++ b)
one_line_both breaks12 [] b h k = k
one_line_both breaks12 (c ∷ a) b h k = grind (arith, and_parts, and_from, or_parts, or_from, one_line_both breaks12 a b)

-- a character that breaks no line in a value breaks none that is read
pub break_line : (breaks12 : Bool) (c : ℕ) → is_break c ≡ false → is_read_break breaks12 c ≡ false
break_line breaks12 c h = grind (arith, nat_tests)

-- so it is for a text
pub unbroken_line : (breaks12 : Bool) (text : Text) → list_any is_break text ≡ false → OneLine breaks12 text
unbroken_line breaks12 text h = fewer_pass is_break (is_read_break breaks12) (break_line breaks12) text h
