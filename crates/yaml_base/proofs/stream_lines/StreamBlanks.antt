-- Blank lines at the end of a text: they are lines of their own, and inside each column.
use Rattle.yaml_base.proofs.Common.{ℕ, zero, suc, Bool, false, true, List, [], ◌∷◌, ◌++◌, ◌≡◌, refl, ap, ◌∙◌, Text, Line, lines_of, line_feed}
use Rattle.yaml_base.proofs.Common.{without_skipped_lines}
use Rattle.yaml_base.proofs.stream_lines.StreamClosed.{closed_both, inside_both, lines_broken}
use Rattle.yaml_base.proofs.stream_lines.StreamInside.{AllInside}
use Rattle.yaml_base.proofs.stream_lines.StreamLineLaws.{is_closed, lines_after_break}
use Rattle.yaml_base.specs.CommentReading.{blank, blanks, blank_text}

-- the lines of their text
pub blanks_read : (breaks12 : Bool) (count : ℕ) → lines_of breaks12 (blank_text count) ≡ blanks count
blanks_read breaks12 zero = refl
blanks_read breaks12 (suc count) = lines_broken breaks12 [] (blank_text count) refl ∙ ap (λ ls. blank ∷ ls) (blanks_read breaks12 count)

-- after a text that ends with a break
pub blanks_after : (breaks12 : Bool) (text : Text) (count : ℕ) → is_closed breaks12 text ≡ true
    → lines_of breaks12 (text ++ blank_text count) ≡ lines_of breaks12 text ++ blanks count
blanks_after breaks12 text count ends =
    lines_after_break breaks12 text (blank_text count) ends ∙ ap (λ ls. lines_of breaks12 text ++ ls) (blanks_read breaks12 count)

-- a break ends them
blanks_closed : (breaks12 : Bool) (count : ℕ) → is_closed breaks12 (blank_text count) ≡ true
blanks_closed breaks12 zero = refl
blanks_closed breaks12 (suc count) = closed_both breaks12 (line_feed ∷ []) (blank_text count) (feed breaks12) (blanks_closed breaks12 count)
  where
    feed : (breaks12 : Bool) → is_closed breaks12 (line_feed ∷ []) ≡ true
    feed true = refl
    feed false = refl

pub closed_after : (breaks12 : Bool) (text : Text) (count : ℕ) → is_closed breaks12 text ≡ true → is_closed breaks12 (text ++ blank_text count) ≡ true
closed_after breaks12 text count ends = closed_both breaks12 text (blank_text count) ends (blanks_closed breaks12 count)

-- they are inside each column
blanks_inside : (q : Bool) (d count : ℕ) → AllInside q d (blanks count)
blanks_inside q d zero = refl
blanks_inside q d (suc count) = blanks_inside q d count

pub inside_after : (q : Bool) (d : ℕ) (lines : List Line) (count : ℕ) → AllInside q d lines → AllInside q d (lines ++ blanks count)
inside_after q d lines count inside = inside_both q d lines (blanks count) inside (blanks_inside q d count)

-- they are skipped before a node
pub blanks_skipped : (count : ℕ) → without_skipped_lines (blanks count) ≡ []
blanks_skipped zero = refl
blanks_skipped (suc count) = blanks_skipped count
