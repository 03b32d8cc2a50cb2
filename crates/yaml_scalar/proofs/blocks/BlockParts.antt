-- A value's parts, and that a reader divides indented parts at the places at which they were joined.
use Rattle.yaml_scalar.proofs.Common.{arith, suc, zero, ℕ, if◌then◌else◌, ◌==◌, option_map, Some, replicate, Bool, false, true, List, [], ◌++◌, ◌∷◌, refl, ◌≡◌}
use Rattle.yaml_scalar.proofs.Common.{ap, ◌∙◌, Text, carriage_return, next_line, space, is_space, is_blank, is_break, is_read_break, Element, content, line_end}
use Rattle.yaml_scalar.proofs.Common.{elements, all_unindented, joined, begins_with, Part, line, line_break, begun, parts, indented, nat_tests}
use Rattle.yaml_base.specs.reading.ReadBlock.{prepend_to_elements, leading_spaces, detected_indentation, unindented}

-- a character that a writer and a reader take for the same: a break or not, and without tabs a space or no blank;
-- and no break that reads as another
pub record Ordinary (tabs breaks12 : Bool) (c : ℕ) : Type 0 where
  pub same_break : is_read_break breaks12 c ≡ is_break c
  pub same_blank : tabs ≡ false → is_blank c ≡ is_space c
  pub no_return : (c == carriage_return) ≡ false
  pub no_next_line : (c == next_line) ≡ false

abbrev pub AllOrdinary : (tabs breaks12 : Bool) → Text → Type 0
AllOrdinary tabs breaks12 [] = Unit {0}
AllOrdinary tabs breaks12 (c ∷ rest) = Ordinary tabs breaks12 c × AllOrdinary tabs breaks12 rest

-- the characters of a line
abbrev pub IsLine : (tabs breaks12 : Bool) → Text → Type 0
IsLine tabs breaks12 [] = Unit {0}
IsLine tabs breaks12 (c ∷ rest) = Ordinary tabs breaks12 c × (is_break c ≡ false) × IsLine tabs breaks12 rest

-- parts that don't begin with a line
abbrev pub BeginsBroken : List Part → Type 0
BeginsBroken (line text ∷ rest) = ⊥
BeginsBroken _ = Unit {0}

-- parts as they come from a text: no line next to a line
abbrev pub Clean : (tabs breaks12 : Bool) → List Part → Type 0
Clean tabs breaks12 [] = Unit {0}
Clean tabs breaks12 (line text ∷ rest) = IsLine tabs breaks12 text × BeginsBroken rest × Clean tabs breaks12 rest
Clean tabs breaks12 (line_break b ∷ rest) = Ordinary tabs breaks12 b × (is_break b ≡ true) × Clean tabs breaks12 rest

-- a character of a line, before clean parts
pub clean-begun : (tabs breaks12 : Bool) (c : ℕ) (ps : List Part)
    → Ordinary tabs breaks12 c → is_break c ≡ false → Clean tabs breaks12 ps → Clean tabs breaks12 (begun c ps)
clean-begun tabs breaks12 c ps o e h = grind (arith, nat_tests)

clean-before : (tabs breaks12 : Bool) (c : ℕ) (ps : List Part) → Ordinary tabs breaks12 c → Clean tabs breaks12 ps
    → (b : Bool) → is_break c ≡ b → Clean tabs breaks12 (if b then line_break c ∷ ps else begun c ps)
clean-before tabs breaks12 c ps o h b e = grind (arith, nat_tests, clean-begun)

pub parts-clean : (tabs breaks12 : Bool) (value : Text) → AllOrdinary tabs breaks12 value → Clean tabs breaks12 (parts value)
parts-clean tabs breaks12 [] h = tt
parts-clean tabs breaks12 (c ∷ rest) h = clean-before tabs breaks12 c (parts rest) h.0 (parts-clean tabs breaks12 rest h.1) (is_break c) refl

-- the elements that a reader finds in parts by themselves
abbrev pub bare : List Part → List Element
bare [] = []
bare (line text ∷ rest) = content text ∷ bare rest
bare (line_break b ∷ rest) = line_end b ∷ bare rest

-- and in parts whose lines are indented
abbrev pub shifted : ℕ → List Part → List Element
shifted indent [] = []
shifted indent (line text ∷ rest) = content (replicate indent space ++ text) ∷ shifted indent rest
shifted indent (line_break b ∷ rest) = line_end b ∷ shifted indent rest

joined-begun : (c : ℕ) (ps : List Part) → joined (bare (begun c ps)) ≡ c ∷ joined (bare ps)
joined-begun c ps = grind (arith, nat_tests)

joined-before : (c : ℕ) (ps : List Part) (b : Bool) → joined (bare (if b then line_break c ∷ ps else begun c ps)) ≡ c ∷ joined (bare ps)
joined-before c ps b = grind (arith, nat_tests, joined-begun)

-- a value's parts, joined, are the value
pub joined-parts : (value : Text) → joined (bare (parts value)) ≡ value
joined-parts [] = refl
joined-parts (c ∷ rest) = joined-before c (parts rest) (is_break c) ∙ ap (λ t. c ∷ t) (joined-parts rest)

-- elements that don't begin with a content
abbrev NoContentFirst : List Element → Type 0
NoContentFirst (content text ∷ rest) = ⊥
NoContentFirst _ = Unit {0}

broken-shifted : (indent : ℕ) (ps : List Part) → BeginsBroken ps → NoContentFirst (shifted indent ps)
broken-shifted indent ps h = grind (arith, nat_tests)

-- text without a break, as the reader sees it
abbrev Unbroken : Bool → Text → Type 0
Unbroken breaks12 [] = Unit {0}
Unbroken breaks12 (c ∷ rest) = (is_read_break breaks12 c ≡ false) × Unbroken breaks12 rest

line-unbroken : (tabs breaks12 : Bool) (text : Text) → IsLine tabs breaks12 text → Unbroken breaks12 text
line-unbroken tabs breaks12 [] h = tt
line-unbroken tabs breaks12 (c ∷ rest) h = ((h.0).same_break ∙ h.1, line-unbroken tabs breaks12 rest h.2)

spaces-unbroken : (breaks12 : Bool) (n : ℕ) (text : Text) → Unbroken breaks12 text → Unbroken breaks12 (replicate n space ++ text)
spaces-unbroken breaks12 zero text h = h
spaces-unbroken true (suc n) text h = (refl, spaces-unbroken true n text h)
spaces-unbroken false (suc n) text h = (refl, spaces-unbroken false n text h)

prepend_to_elements-alone : (c : ℕ) (es : List Element) → NoContentFirst es → prepend_to_elements c es ≡ content (c ∷ []) ∷ es
prepend_to_elements-alone c es h = grind (arith, nat_tests)

element-unbroken : (breaks12 : Bool) (c : ℕ) (es : List Element) (b : Bool) → b ≡ false
    → (if b then line_end c ∷ es else prepend_to_elements c es) ≡ prepend_to_elements c es
element-unbroken breaks12 c es b e = rw e refl

-- a text without a break, and then one that doesn't begin with a content
elements-unbroken : (breaks12 : Bool) (c : ℕ) (text rest : Text) → Unbroken breaks12 (c ∷ text) → NoContentFirst (elements breaks12 rest)
    → elements breaks12 (c ∷ (text ++ rest)) ≡ content (c ∷ text) ∷ elements breaks12 rest
elements-unbroken breaks12 c [] rest h apart = grind (arith, nat_tests, element-unbroken, elements, is_read_break, prepend_to_elements-alone)
elements-unbroken breaks12 c (d ∷ text) rest h apart = grind (arith, element-unbroken, elements-unbroken breaks12 d text rest h.1 apart)

element-broken : (c : ℕ) (es : List Element) (b : Bool) → b ≡ true → (if b then line_end c ∷ es else prepend_to_elements c es) ≡ line_end c ∷ es
element-broken c es b e = rw e refl

-- a reader divides indented clean parts at the places at which they were joined
pub elements-indented : (tabs breaks12 : Bool) (less : ℕ) (ps : List Part)
    → Clean tabs breaks12 ps → elements breaks12 (indented (suc less) ps) ≡ shifted (suc less) ps
elements-indented tabs breaks12 less [] h = refl
elements-indented tabs breaks12 less (line text ∷ rest) h =
    let further : elements breaks12 (indented (suc less) rest) ≡ shifted (suc less) rest = elements-indented tabs breaks12 less rest h.2 in
    let apart : NoContentFirst (elements breaks12 (indented (suc less) rest)) = rw further (broken-shifted (suc less) rest h.1) in
    elements-unbroken breaks12 space (replicate less space ++ text) (indented (suc less) rest)
    (spaces-unbroken breaks12 (suc less) text (line-unbroken tabs breaks12 text h.0)) apart
    ∙ ap (λ es. content (space ∷ (replicate less space ++ text)) ∷ es) further
elements-indented tabs breaks12 less (line_break b ∷ rest) h = grind (arith, element-broken, elements-indented tabs breaks12 less rest h.2)

unindented-spaces : (n : ℕ) (text : Text) → unindented n (replicate n space ++ text) ≡ Some text
unindented-spaces zero text = refl
unindented-spaces (suc n) text = unindented-spaces n text

-- and takes the indentation away again
pub unindented-shifted : (n : ℕ) (ps : List Part) → all_unindented n (shifted n ps) ≡ Some (bare ps)
unindented-shifted n [] = refl
unindented-shifted n (line text ∷ rest) = grind (arith, nat_tests, unindented-spaces, option_map, unindented-shifted n rest)
unindented-shifted n (line_break b ∷ rest) = ap (option_map (λ others. line_end b ∷ others)) (unindented-shifted n rest)

-- the parts begin with a line, and that not with a space, or there are none
abbrev pub BeginsFlush : List Part → Type 0
BeginsFlush [] = Unit {0}
BeginsFlush (line text ∷ rest) = begins_with is_space text ≡ false
BeginsFlush (line_break b ∷ rest) = ⊥

leading-spaces : (n : ℕ) (text : Text) → begins_with is_space text ≡ false → leading_spaces (replicate n space ++ text) ≡ n
leading-spaces zero [] h = refl
leading-spaces zero (c ∷ rest) h = rw h refl
leading-spaces (suc n) text h = ap suc (leading-spaces n text h)

-- if no digit gives the indentation, the first line shows it
pub detected_indentation-shifted : (n : ℕ) (ps : List Part) → BeginsFlush ps
    → all_unindented (detected_indentation (shifted n ps)) (shifted n ps) ≡ Some (bare ps)
detected_indentation-shifted n ps h = grind (arith, nat_tests, all_unindented, shifted, leading-spaces, unindented-shifted)
