-- A break more at the end of a block scalar that strips its final breaks doesn't change its reading.
use Rattle.yaml_base.proofs.Common.{nat_tests, arith, ℕ, if◌then◌else◌, option_map, Option, Some, Bool, false, List, [], ◌++◌, ◌∷◌, refl, ◌≡◌}
use Rattle.yaml_base.proofs.Common.{ap, ◌∙◌, Text, line_feed, is_read_break, elements, strip, after_digit, chomping_first}
use Rattle.yaml_base.specs.reading.ReadBlock.{Element, content, line_end, prepend_to_elements, prepend_element, detected_indentation, all_unindented}
use Rattle.yaml_base.proofs.{Common.read_block, stream_lines.StreamCuts.none_not_some}
use Rattle.yaml_base.specs.reading.ReadBlock.{has_content, kept_lines, joined, unfolded, lines_read}

-- a break at the end, as text and as an element
abbrev feed : Text
feed = line_feed ∷ []

abbrev last_end : List Element
last_end = line_end line_feed ∷ []

-- a character before elements and that break
before_more : (x : Bool) (c : ℕ) (es : List Element)
    → (if x then line_end c ∷ (es ++ last_end) else prepend_to_elements c
    (es ++ last_end)) ≡ (if x then line_end c ∷ es else prepend_to_elements c es) ++ last_end
before_more x c es = grind (arith, nat_tests)

-- it is one element more
elements_more : (breaks12 : Bool) (body : Text) → elements breaks12 (body ++ feed) ≡ elements breaks12 body ++ last_end
elements_more breaks12 [] = refl
elements_more breaks12 (c ∷ body) = ap (prepend_element breaks12 c) (elements_more breaks12 body)
    ∙ before_more (is_read_break breaks12 c) c (elements breaks12 body)

-- it shows no read_indentation
detected_more : (es : List Element) → detected_indentation (es ++ last_end) ≡ detected_indentation es
detected_more [] = refl
detected_more (content text ∷ rest) = refl
detected_more (line_end b ∷ rest) = detected_more rest

-- it needs no indentation
unindented_more : (n : ℕ) (es : List Element) → all_unindented n (es ++ last_end) ≡ option_map (λ t. t ++ last_end) (all_unindented n es)
unindented_more n [] = refl
unindented_more n (e ∷ rest) = grind (arith, unindented_more n rest)

-- it is no content, and the kept lines end before it
content_more : (es : List Element) → has_content (es ++ last_end) ≡ has_content es
content_more [] = refl
content_more (content text ∷ rest) = refl
content_more (line_end b ∷ rest) = content_more rest

-- the lines that are kept stay
kept_more : (es : List Element) → kept_lines (es ++ last_end) ≡ kept_lines es
kept_more [] = refl
kept_more (content text ∷ rest) = ap (λ t. content text ∷ t) (kept_more rest)
kept_more (line_end b ∷ rest) = grind (arith, content_more, kept_more rest)

-- and their reading
lines_more : (folded : Bool) (es : List Element) → lines_read folded strip (es ++ last_end) ≡ lines_read folded strip es
lines_more folded es = ap (λ t. (if folded then unfolded false t else joined t) ++ []) (kept_more es)

-- a block scalar that strips reads the same with a break more at its end
pub strip_more : (breaks12 : Bool) (column : Option ℕ) (symbol : ℕ) (rest v : Text) → chomping_first (after_digit rest) ≡ strip
    → read_block breaks12 column (symbol ∷ rest) ≡ Some v → read_block breaks12 column ((symbol ∷ rest) ++ (line_feed ∷ [])) ≡ Some v
strip_more breaks12 column symbol rest v strips read =
    grind (arith, nat_tests, elements_more, detected_more, unindented_more, lines_more, none_not_some)
