-- A block scalar that doesn't keep its final breaks is read the same with one break more at its end.
use Rattle.yaml_base.proofs.Common.{ℕ, zero, suc, Bool, false, true, Option, Some, None, List, [], ◌∷◌, ◌++◌, ◌≡◌, ◌==◌, ◌&&◌, ◌||◌, not, refl, ap, sym, ◌∙◌}
use Rattle.yaml_base.proofs.Common.{append_assoc, and-true, list_all-append, option_map, option_and_then, unwrap_or, if◌then◌else◌, list_all, take, Text}
use Rattle.yaml_base.proofs.Common.{ScalarStyle, line_feed, space, is_read_break, Rules, Properties, Tree}
use Rattle.yaml_base.proofs.stream_lines.StreamLineLaws.{is_closed}
use Rattle.yaml_base.specs.CommentReading.{is_keep}
use Rattle.yaml_base.specs.reading.ReadBlock.{Chomping, Element, after_break, after_chomping, after_digit, all_unindented, chomped, chomping_first, clip}
use Rattle.yaml_base.specs.reading.ReadBlock.{content, detected_indentation, digit_first, element_unindented, elements, final_ends, has_content, keep}
use Rattle.yaml_base.specs.reading.ReadBlock.{kept_lines, line_end, joined, lines_read, prepend_element, prepend_to_elements, read_indentation, read_lines}
use Rattle.yaml_base.specs.reading.ReadBlock.{strip, unfolded, unindented}
use Rattle.yaml_base.specs.Characters.{is_between, is_blank}
use Rattle.yaml_base.specs.streams.StreamContent.{Stood}
use Rattle.yaml_base.specs.streams.StreamScalars.{scalar_of_style, scalar_parsed, stood_in_style, value_read}
use Rattle.yaml_base.specs.Event.{folded, literal}
use Rattle.yaml_base.specs.reading.TidyText.{begins_with_blank_line, begins_with_deep_line, begins_with_spaces, ends_line, has_deep_lines, is_tidy}
use Rattle.yaml_base.specs.reading.TidyText.{is_tidy_character, is_tidy_style}

-- a break more
abbrev pub more : Text
more = line_feed ∷ []

-- Deep lines

break_first : (breaks12 : Bool) → is_read_break breaks12 line_feed ≡ true
break_first true = refl
break_first false = refl

ends_more : (breaks12 : Bool) (text : Text) → ends_line breaks12 (text ++ more) ≡ ends_line breaks12 text
ends_more breaks12 [] = break_first breaks12
ends_more breaks12 (c ∷ rest) = refl

spaces_more : (n : ℕ) (text : Text) → begins_with_spaces n (text ++ more) ≡ begins_with_spaces n text
spaces_more zero text = refl
spaces_more (suc n) [] = refl
spaces_more (suc n) (c ∷ rest) = ap (λ b. c == space && b) (spaces_more n rest)

blank_more : (breaks12 : Bool) (text : Text) → begins_with_blank_line breaks12 (text ++ more) ≡ begins_with_blank_line breaks12 text
blank_more true [] = refl
blank_more false [] = refl
blank_more breaks12 (c ∷ rest) = ap (λ b. is_read_break breaks12 c || (is_blank c && b)) (blank_more breaks12 rest)

line_more : (breaks12 : Bool) (n : ℕ) (text : Text) → begins_with_deep_line breaks12 n (text ++ more) ≡ begins_with_deep_line breaks12 n text
line_more breaks12 n text =
    ap (λ b. b || (begins_with_spaces n (text ++ more) && not (begins_with_blank_line breaks12 (text ++ more)))) (ends_more breaks12 text)
    ∙ ap (λ b. ends_line breaks12 text || (b && not (begins_with_blank_line breaks12 (text ++ more)))) (spaces_more n text)
    ∙ ap (λ b. ends_line breaks12 text || (begins_with_spaces n text && not b)) (blank_more breaks12 text)

deep_more : (breaks12 : Bool) (n : ℕ) (text : Text) → has_deep_lines breaks12 n (text ++ more) ≡ has_deep_lines breaks12 n text
deep_more true n [] = refl
deep_more false n [] = refl
deep_more breaks12 n (c ∷ rest) =
    ap (λ b. (not (is_read_break breaks12 c) || b) && has_deep_lines breaks12 n (rest ++ more)) (line_more breaks12 n rest)
    ∙ ap (λ b. (not (is_read_break breaks12 c) || begins_with_deep_line breaks12 n rest) && b) (deep_more breaks12 n rest)

-- Elements

-- a break more ends one more line
abbrev ended : List Element → List Element
ended es = es ++ line_end line_feed ∷ []

prepended_more : (c : ℕ) (es : List Element) → prepend_to_elements c (ended es) ≡ ended (prepend_to_elements c es)
prepended_more c [] = refl
prepended_more c (content text ∷ rest) = refl
prepended_more c (line_end b ∷ rest) = refl

element_more : (b : Bool) (c : ℕ) (es : List Element)
    → (if b then line_end c ∷ ended es else prepend_to_elements c (ended es)) ≡ ended (if b then line_end c ∷ es else prepend_to_elements c es)
element_more true c es = refl
element_more false c es = prepended_more c es

elements_more : (breaks12 : Bool) (text : Text) → elements breaks12 (text ++ more) ≡ ended (elements breaks12 text)
elements_more true [] = refl
elements_more false [] = refl
elements_more breaks12 (c ∷ rest) =
    ap (prepend_element breaks12 c) (elements_more breaks12 rest) ∙ element_more (is_read_break breaks12 c) c (elements breaks12 rest)

detected_more : (es : List Element) → detected_indentation (ended es) ≡ detected_indentation es
detected_more [] = refl
detected_more (content text ∷ rest) = refl
detected_more (line_end b ∷ rest) = detected_more rest

indentation_more : (digit column : Option ℕ) (es : List Element) → read_indentation digit column (ended es) ≡ read_indentation digit column es
indentation_more None column es = detected_more es
indentation_more (Some digit) None es = refl
indentation_more (Some digit) (Some column) es = refl

mapped : (first : Option Element) (rest others : Option (List Element)) → others ≡ option_map ended rest
    → option_and_then (λ first. option_map (λ others. first ∷ others) others) first
    ≡ option_map ended (option_and_then (λ first. option_map (λ others. first ∷ others) rest) first)
mapped None rest others is = refl
mapped (Some first) None others is = ap (option_map (λ others. first ∷ others)) is
mapped (Some first) (Some rest) others is = ap (option_map (λ others. first ∷ others)) is

unindented_more : (n : ℕ) (es : List Element) → all_unindented n (ended es) ≡ option_map ended (all_unindented n es)
unindented_more n [] = refl
unindented_more n (element ∷ rest) =
    mapped (element_unindented n element) (all_unindented n rest) (all_unindented n (ended rest)) (unindented_more n rest)

content_more : (es : List Element) → has_content (ended es) ≡ has_content es
content_more [] = refl
content_more (content text ∷ rest) = refl
content_more (line_end b ∷ rest) = content_more rest

kept_more : (es : List Element) → kept_lines (ended es) ≡ kept_lines es
kept_more [] = refl
kept_more (content text ∷ rest) = ap (λ ls. content text ∷ ls) (kept_more rest)
kept_more (line_end b ∷ rest) =
    ap (λ x. if x then line_end b ∷ kept_lines (ended rest) else []) (content_more rest)
    ∙ ap (λ ls. if has_content rest then line_end b ∷ ls else []) (kept_more rest)

finals_more : (es : List Element) → final_ends (ended es) ≡ final_ends es ++ more
finals_more [] = refl
finals_more (content text ∷ rest) = finals_more rest
finals_more (line_end b ∷ rest) =
    ap (λ x. (if x then [] else b ∷ []) ++ final_ends (ended rest)) (content_more rest)
    ∙ ap (λ t. (if has_content rest then [] else b ∷ []) ++ t) (finals_more rest)
    ∙ sym (append_assoc (if has_content rest then [] else b ∷ []) (final_ends rest) more)

-- Final breaks

-- true of a text that has a character
abbrev has_some : Text → Bool
has_some [] = false
has_some (c ∷ rest) = true

some_after : (a b : Text) → has_some b ≡ true → has_some (a ++ b) ≡ true
some_after [] b h = h
some_after (c ∷ a) b h = refl

prepended_finals : (c : ℕ) (es : List Element) → final_ends (prepend_to_elements c es) ≡ final_ends es
prepended_finals c [] = refl
prepended_finals c (content text ∷ rest) = refl
prepended_finals c (line_end b ∷ rest) = refl

-- a text that ends with a break has final breaks
finals_before : (x : Bool) (c : ℕ) (es : List Element) → has_some (final_ends es) ≡ true
    → has_some (final_ends (if x then line_end c ∷ es else prepend_to_elements c es)) ≡ true
finals_before true c es some = some_after (if has_content es then [] else c ∷ []) (final_ends es) some
finals_before false c es some = ap has_some (prepended_finals c es) ∙ some

some_finals : (breaks12 : Bool) (c : ℕ) (text : Text) → is_closed breaks12 (c ∷ text) ≡ true
    → has_some (final_ends (elements breaks12 (c ∷ text))) ≡ true
some_finals breaks12 c [] ends =
    ap (λ x. has_some (final_ends (if x then line_end c ∷ [] else prepend_to_elements c []))) ends
some_finals breaks12 c (d ∷ text) ends =
    finals_before (is_read_break breaks12 c) c (elements breaks12 (d ∷ text)) (some_finals breaks12 d text ends)

first_more : (ends : Text) → has_some ends ≡ true → take 1 (ends ++ more) ≡ take 1 ends
first_more [] some = cc
first_more (c ∷ rest) some = refl

-- a break more is chomped, unless all are kept
chomped_more : (chomping : Chomping) (before : Bool) (ends : Text) → is_keep chomping ≡ false → (before ≡ true → has_some ends ≡ true)
    → chomped chomping before (ends ++ more) ≡ chomped chomping before ends
chomped_more strip before ends drops some = refl
chomped_more clip true ends drops some = first_more ends (some refl)
chomped_more clip false ends drops some = refl
chomped_more keep before ends drops some = cc

-- the text of elements is as without it
abbrev text_before : (folds : Bool) → List Element → Text
text_before folds es = if folds then unfolded false es else joined es

lines_more : (folds : Bool) (chomping : Chomping) (es : List Element) → is_keep chomping ≡ false → (has_content es ≡ true → has_some (final_ends es) ≡ true)
    → lines_read folds chomping (ended es) ≡ lines_read folds chomping es
lines_more folds chomping es drops some =
    ap (λ ls. text_before folds ls ++ chomped chomping (has_content (ended es)) (final_ends (ended es))) (kept_more es)
    ∙ ap (λ b. text_before folds (kept_lines es) ++ chomped chomping b (final_ends (ended es))) (content_more es)
    ∙ ap (λ t. text_before folds (kept_lines es) ++ chomped chomping (has_content es) t) (finals_more es)
    ∙ ap (λ t. text_before folds (kept_lines es) ++ t) (chomped_more chomping (has_content es) (final_ends es) drops some)

-- Without their indentation elements have the same final breaks.
abbrev SameEnds : List Element → Option (List Element) → Type 0
SameEnds es None = Unit {0}
SameEnds es (Some found) = (final_ends found ≡ final_ends es) × (has_content found ≡ has_content es)

content_ends : (text : Text) (rest : List Element) (own : Option Text) (others : Option (List Element)) → SameEnds rest others
    → SameEnds (content text ∷ rest) (option_and_then (λ first. option_map (λ others. first ∷ others) others) (option_map content own))
content_ends text rest None others same = tt
content_ends text rest (Some own) None same = tt
content_ends text rest (Some own) (Some found) same = (same.0, refl)

line_ends : (b : ℕ) (rest : List Element) (others : Option (List Element)) → SameEnds rest others
    → SameEnds (line_end b ∷ rest) (option_map (λ others. line_end b ∷ others) others)
line_ends b rest None same = tt
line_ends b rest (Some found) same = (
  ap (λ x. (if x then [] else b ∷ []) ++ final_ends found) same.1 ∙ ap (λ t. (if has_content rest then [] else b ∷ []) ++ t) same.0,
  same.1,
)

same_ends : (n : ℕ) (es : List Element) → SameEnds es (all_unindented n es)
same_ends n [] = (refl, refl)
same_ends n (content text ∷ rest) = content_ends text rest (unindented n text) (all_unindented n rest) (same_ends n rest)
same_ends n (line_end b ∷ rest) = line_ends b rest (all_unindented n rest) (same_ends n rest)

-- Block scalars

found_more : (folds : Bool) (chomping : Chomping) (es : List Element) (found : Option (List Element)) → SameEnds es found
    → is_keep chomping ≡ false → (has_content es ≡ true → has_some (final_ends es) ≡ true)
    → option_map (lines_read folds chomping) (option_map ended found) ≡ option_map (lines_read folds chomping) found
found_more folds chomping es None same drops some = refl
found_more folds chomping es (Some found) same drops some =
    ap Some (lines_more folds chomping found drops (λ h. ap has_some same.0 ∙ some (sym same.1 ∙ h)))

body_more : (breaks12 folds : Bool) (chomping : Chomping) (digit column : Option ℕ) (body : Text) → is_closed breaks12 body ≡ true
    → is_keep chomping ≡ false
    → read_lines folds chomping digit column (elements breaks12 (body ++ more)) ≡ read_lines folds chomping digit column (elements breaks12 body)
body_more breaks12 folds chomping digit column body ends drops =
    let es = elements breaks12 body in
    let n = read_indentation digit column es in
    ap (read_lines folds chomping digit column) (elements_more breaks12 body)
    ∙ ap (λ n. option_map (lines_read folds chomping) (all_unindented n (ended es))) (indentation_more digit column es)
    ∙ ap (option_map (lines_read folds chomping)) (unindented_more n es)
    ∙ found_more folds chomping es (all_unindented n es) (same_ends n es) drops (some body ends)
  where
    some : (body : Text) → is_closed breaks12 body ≡ true → has_content (elements breaks12 body) ≡ true
        → has_some (final_ends (elements breaks12 body)) ≡ true
    some [] ends h = cc
    some (c ∷ body) ends h = some_finals breaks12 c body ends

pub closed_rest : (breaks12 : Bool) (c : ℕ) (text : Text) → is_closed breaks12 (c ∷ text) ≡ true → is_closed breaks12 text ≡ true
closed_rest breaks12 c [] ends = refl
closed_rest breaks12 c (d ∷ text) ends = ends

pub if_more : (x : Bool) (a b : Text) → (if x then a ++ more else b ++ more) ≡ (if x then a else b) ++ more
if_more true a b = refl
if_more false a b = refl

either_closed : (breaks12 x : Bool) (a b : Text) → is_closed breaks12 a ≡ true → is_closed breaks12 b ≡ true
    → is_closed breaks12 (if x then a else b) ≡ true
either_closed breaks12 true a b one other = one
either_closed breaks12 false a b one other = other

pub first_chomping : (text : Text) → chomping_first (text ++ more) ≡ chomping_first text
first_chomping [] = refl
first_chomping (c ∷ rest) = refl

after_more : (text : Text) → after_chomping (text ++ more) ≡ after_chomping text ++ more
after_more [] = refl
after_more (c ∷ rest) = if_more (c == 45 || c == 43) rest (c ∷ rest)

after_closed : (breaks12 : Bool) (text : Text) → is_closed breaks12 text ≡ true → is_closed breaks12 (after_chomping text) ≡ true
after_closed breaks12 [] ends = refl
after_closed breaks12 (c ∷ rest) ends = either_closed breaks12 (c == 45 || c == 43) rest (c ∷ rest) (closed_rest breaks12 c rest ends) ends

-- the lines after a header, if its break comes first
header_more : (breaks12 folds : Bool) (chomping : Chomping) (digit column : Option ℕ) (header value : Text) → is_closed breaks12 header ≡ true
    → is_keep chomping ≡ false
    → option_and_then (λ body. read_lines folds chomping digit column (elements breaks12 body)) (after_break breaks12 header) ≡ Some value
    → option_and_then (λ body. read_lines folds chomping digit column (elements breaks12 body)) (after_break breaks12 (header ++ more)) ≡ Some value
header_more breaks12 folds chomping digit column [] value ends drops is = cc
header_more breaks12 folds chomping digit column (c ∷ body) value ends drops is = by (is_read_break breaks12 c) is
  where
    by : (x : Bool)
        → option_and_then (λ body. read_lines folds chomping digit column (elements breaks12 body)) (if x then Some body else None) ≡ Some value
        → option_and_then (λ body. read_lines folds chomping digit column (elements breaks12 body)) (if x then Some (body ++ more) else None)
        ≡ Some value
    by true is = body_more breaks12 folds chomping digit column body (closed_rest breaks12 c body ends) drops ∙ is
    by false is = cc

-- a block scalar after its indicator
scalar_rest_more : (breaks12 folds : Bool) (column : Option ℕ) (rest value : Text) → is_closed breaks12 rest ≡ true
    → is_keep (chomping_first (after_digit rest)) ≡ false
    → option_and_then (λ body. read_lines folds (chomping_first (after_digit rest)) (digit_first rest) column (elements breaks12 body))
    (after_break breaks12 (after_chomping (after_digit rest))) ≡ Some value
    → option_and_then (λ body. read_lines folds (chomping_first (after_digit (rest ++ more))) (digit_first (rest ++ more)) column (elements breaks12 body))
    (after_break breaks12 (after_chomping (after_digit (rest ++ more)))) ≡ Some value
scalar_rest_more breaks12 folds column [] value ends drops is = cc
scalar_rest_more breaks12 folds column (c ∷ rest) value ends drops is =
    let header = after_digit (c ∷ rest) in
    let digit = digit_first (c ∷ rest) in
    ap (λ t. option_and_then (λ body. read_lines folds (chomping_first t) digit column (elements breaks12 body)) (after_break breaks12 (after_chomping t)))
    (if_more (is_between 49 57 c) rest (c ∷ rest))
    ∙ ap (λ chomping. option_and_then (λ body. read_lines folds chomping digit column (elements breaks12 body))
    (after_break breaks12 (after_chomping (header ++ more)))) (first_chomping header)
    ∙ ap (λ t. option_and_then (λ body. read_lines folds (chomping_first header) digit column (elements breaks12 body)) (after_break breaks12 t))
    (after_more header)
    ∙ header_more breaks12 folds (chomping_first header) digit column (after_chomping header) value
    (after_closed breaks12 header (either_closed breaks12 (is_between 49 57 c) rest (c ∷ rest) (closed_rest breaks12 c rest ends) ends)) drops is

-- the indicator of a block style, and the style
abbrev pub symbol_of : (folds : Bool) → ℕ
symbol_of true = 0x3E
symbol_of false = 0x7C

abbrev style_in : (folds : Bool) → ScalarStyle
style_in true = folded
style_in false = literal

value_more : (breaks12 folds : Bool) (column : Option ℕ) (rest value : Text) → is_closed breaks12 rest ≡ true
    → is_keep (chomping_first (after_digit rest)) ≡ false
    → value_read (style_in folds) breaks12 false column (symbol_of folds ∷ rest) ≡ Some value
    → value_read (style_in folds) breaks12 false column (symbol_of folds ∷ (rest ++ more)) ≡ Some value
value_more breaks12 true column rest value ends drops is = scalar_rest_more breaks12 true column rest value ends drops is
value_more breaks12 false column rest value ends drops is = scalar_rest_more breaks12 false column rest value ends drops is

characters_more : (folds : Bool) (text : Text)
    → list_all (is_tidy_character (style_in folds)) (text ++ more) ≡ list_all (is_tidy_character (style_in folds)) text
characters_more true text = list_all-append (is_tidy_character folded) text more ∙ and-true (list_all (is_tidy_character folded) text)
characters_more false text = list_all-append (is_tidy_character literal) text more ∙ and-true (list_all (is_tidy_character literal) text)

style_tidy : (breaks12 folds : Bool) (text : Text) → is_tidy_style (style_in folds) breaks12 text ≡ true
style_tidy breaks12 true text = refl
style_tidy breaks12 false text = refl

tidy_more : (breaks12 folds : Bool) (column : Option ℕ) (text : Text)
    → is_tidy (style_in folds) breaks12 column (text ++ more) ≡ is_tidy (style_in folds) breaks12 column text
tidy_more breaks12 folds column text =
    let n = suc (unwrap_or column 0) in
    let style = style_in folds in
    ap (λ b. b && has_deep_lines breaks12 n (text ++ more) && is_tidy_style style breaks12 (text ++ more)) (characters_more folds text)
    ∙ ap (λ b. list_all (is_tidy_character style) text && b && is_tidy_style style breaks12 (text ++ more)) (deep_more breaks12 n text)
    ∙ ap (λ b. list_all (is_tidy_character style) text && has_deep_lines breaks12 n text && b)
    (style_tidy breaks12 folds (text ++ more) ∙ sym (style_tidy breaks12 folds text))

pub scalar_more : (folds : Bool) (rules : Rules) (column : Option ℕ) (properties : Properties) (rest : Text) (tree : Tree)
    → is_closed rules.breaks12 rest ≡ true → is_keep (chomping_first (after_digit rest)) ≡ false
    → scalar_of_style (style_in folds) rules false column properties (symbol_of folds ∷ rest) ≡ Some tree
    → scalar_of_style (style_in folds) rules false column properties (symbol_of folds ∷ (rest ++ more)) ≡ Some tree
scalar_more folds rules column properties rest tree ends drops is =
    ap (λ b. scalar_parsed properties stood (if b then value_read style breaks12 false column (symbol_of folds ∷ (rest ++ more)) else None))
    (tidy_more breaks12 folds column (symbol_of folds ∷ rest))
    ∙ by (value_read style breaks12 false column (symbol_of folds ∷ rest)) refl is
  where
    breaks12 : Bool
    breaks12 = rules.breaks12

    style : ScalarStyle
    style = style_in folds

    stood : Stood
    stood = stood_in_style (style_in folds)

    tidy : Bool
    tidy = is_tidy style breaks12 column (symbol_of folds ∷ rest)

    none : (x : Bool) → scalar_parsed properties stood (if x then None else None) ≡ Some tree → ⊥
    none true is = cc
    none false is = cc

    by : (value : Option Text) → value_read style breaks12 false column (symbol_of folds ∷ rest) ≡ value
        → scalar_parsed properties stood (if tidy then value else None) ≡ Some tree
        → scalar_parsed properties stood (if tidy then value_read style breaks12 false column (symbol_of folds ∷ (rest ++ more)) else None) ≡ Some tree
    by None same is = absurd (none tidy is)
    by (Some value) same is =
        ap (λ o. scalar_parsed properties stood (if tidy then o else None)) (value_more breaks12 folds column rest value ends drops same) ∙ is
