-- Reading line breaks undoes the writing of them; and lines stay indented as their breaks are written.
use Rattle.yaml_base.proofs.Common.{or_from}
use Rattle.yaml_base.proofs.Common.{nat_tests, arith, ℕ, if◌then◌else◌, ◌==◌, Bool, false, not, true, ◌||◌, [], ◌++◌, ◌∷◌, refl, ◌≡◌, eqb-true, or_cases}
use Rattle.yaml_base.proofs.Common.{and_parts, and_from, or_parts, or_left, or_right, not-true, Text, line_feed, carriage_return, next_line, is_break}
use Rattle.yaml_base.proofs.Common.{break_text, with_breaks_written, with_line_breaks_read, is_rendered_text, is_indented_text, LineBreak, false≢true}
use Rattle.yaml_base.{proofs.Common.carriage_return_break, specs.LineBreaks.line_breaks_read_after, specs.LineBreaks.begins_indented}

-- a rendered text's prefix and rest are rendered
pub rendered-cons : (c : ℕ) (rest : Text) → is_rendered_text (c ∷ rest) ≡ true
    → ((c == carriage_return) ≡ false) × ((c == next_line) ≡ false) × (is_rendered_text rest ≡ true)
rendered-cons c rest h = grind (arith, and_parts, or_parts, not-true)

-- after a CR a line break that begins with LF would be its second half
abbrev reads_after : LineBreak → (after_cr : Bool) → Bool
reads_after carriage_return_break after = true
reads_after _ after = not after

-- one character of a text with such line breaks
break-step : (setting : LineBreak) (after : Bool) (c : ℕ) (rest : Text) (b : Bool) → reads_after setting after ≡ true
    → (c == line_feed) ≡ b → (c == carriage_return) ≡ false → (c == next_line) ≡ false
    → ((next : Bool) → reads_after setting next ≡ true → line_breaks_read_after next (with_breaks_written setting rest) ≡ rest)
    → line_breaks_read_after after ((if b then break_text setting else c ∷ []) ++ with_breaks_written setting rest) ≡ c ∷ rest
break-step setting after c rest b h h2 h3 h4 h5 = grind (arith, nat_tests, eqb-true, false≢true)

break-read : (setting : LineBreak) (after : Bool) (text : Text) → reads_after setting after ≡ true → is_rendered_text text ≡ true
    → line_breaks_read_after after (with_breaks_written setting text) ≡ text
break-read setting after [] k h = refl
break-read setting after (c ∷ rest) k h =
    let p = rendered-cons c rest h in
    break-step setting after c rest (c == line_feed) k refl p.0 p.1 (λ next j. break-read setting next rest j p.2)

-- a rendered text is the reading of its line breaks, in whatever form they are written
pub breaks-round : (setting : LineBreak) (text : Text) → is_rendered_text text ≡ true
    → with_line_breaks_read (with_breaks_written setting text) ≡ text
breaks-round setting text h = grind (arith, nat_tests, break-read)

-- joined texts are rendered texts if both are
pub rendered-append : (a b : Text) → is_rendered_text a ≡ true → is_rendered_text b ≡ true → is_rendered_text (a ++ b) ≡ true
rendered-append [] b h k = k
rendered-append (c ∷ a) b h k = grind (arith, and_parts, and_from, or_parts, or_from, rendered-append a b)

-- a line that begins with a break is empty
pub break-begins : (c : ℕ) (rest : Text) → is_break c ≡ true → begins_indented (c ∷ rest) ≡ true
break-begins c [] h = h
break-begins c (d ∷ rest) h = or_left _ _ h

-- a line's first character is kept
kept-begins : (setting : LineBreak) (a : ℕ) (rest : Text) → begins_indented (a ∷ rest) ≡ true
    → begins_indented (a ∷ with_breaks_written setting rest) ≡ true
kept-begins setting a [] h = h
kept-begins setting a (d ∷ rest) h = grind (arith, or_cases, break-begins, and_parts, eqb-true)

-- a line begins as before, or with a break
first-begins : (setting : LineBreak) (a : ℕ) (rest : Text) (x : Bool) → begins_indented (a ∷ rest) ≡ true
    → begins_indented ((if x then break_text setting else a ∷ []) ++ with_breaks_written setting rest) ≡ true
first-begins setting a rest x h = grind (arith, nat_tests, kept-begins, break-begins)

begins-written : (setting : LineBreak) (rest : Text) → begins_indented rest ≡ true
    → begins_indented (with_breaks_written setting rest) ≡ true
begins-written setting [] h = refl
begins-written setting (a ∷ rest) h = first-begins setting a rest (a == line_feed) h

character-written : (setting : LineBreak) (c : ℕ) (rest : Text) (x : Bool) → (c == line_feed) ≡ x
    → (not (is_break c) || begins_indented rest) ≡ true
    → is_indented_text (with_breaks_written setting rest) ≡ true
    → is_indented_text ((if x then break_text setting else c ∷ []) ++ with_breaks_written setting rest) ≡ true
character-written setting c rest x is h ih = grind (arith, nat_tests, eqb-true, and_from, break-begins, begins-written, or_cases, or_left, or_right)

-- an indented text stays so, however its line breaks are written
pub indented-written : (setting : LineBreak) (text : Text) → is_indented_text text ≡ true
    → is_indented_text (with_breaks_written setting text) ≡ true
indented-written setting [] h = refl
indented-written setting (c ∷ rest) h = grind (arith, and_parts, and_from, or_parts, or_from, character-written, indented-written setting rest)
