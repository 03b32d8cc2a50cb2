-- The breaks at a block scalar's end: the header's indicator says what chomping needs to keep them.
use Rattle.yaml_scalar.proofs.Common.{arith, ℕ, if◌then◌else◌, ◌==◌, Bool, false, true, ◌&&◌, List, [], ◌++◌, ◌∷◌, refl, ◌≡◌, append_assoc, ap, sym}
use Rattle.yaml_scalar.proofs.Common.{◌∙◌, cases_Bool, false≢true, Text, line_feed, is_break, Element, content, line_end, has_content, kept_lines, final_ends}
use Rattle.yaml_scalar.proofs.Common.{joined, begins_unindented, next_content_unindented, unfolded, chomped, Ending, WithoutBreak, OneBreak, MoreBreaks}
use Rattle.yaml_scalar.proofs.Common.{ending, Part, line_break, begun, parts, nat_tests}
use Rattle.yaml_base.specs.reading.ReadBlock.{fold_read, Chomping, strip, clip, keep}
use Rattle.yaml_scalar.proofs.blocks.BlockParts.{bare}

-- without content nothing is kept
kept-none : (es : List Element) → has_content es ≡ false → kept_lines es ≡ []
kept-none [] h = refl
kept-none (content text ∷ rest) h = cc h
kept-none (line_end b ∷ rest) h = rw h refl

even-none : (es : List Element) → has_content es ≡ false → next_content_unindented es ≡ false
even-none [] h = refl
even-none (content text ∷ rest) h = cc h
even-none (line_end b ∷ rest) h = even-none rest h

even-kept : (es : List Element) → next_content_unindented (kept_lines es) ≡ next_content_unindented es
even-kept (line_end b ∷ rest) = grind (arith, cases_Bool, even-none, even-kept rest)
even-kept _ = refl

fold-kept : (es : List Element) → fold_read (kept_lines es) ≡ fold_read es
fold-kept es = grind (arith, nat_tests, cases_Bool, has_content)

-- the text as which a line's end reads
abbrev break_read : Bool → ℕ → List Element → Text
break_read after_even b rest = if after_even && b == line_feed && next_content_unindented rest then fold_read rest else b ∷ []

break-none : (after_even : Bool) (b : ℕ) (rest : List Element) → next_content_unindented rest ≡ false → break_read after_even b rest ≡ b ∷ []
break-none after_even b rest h = grind (arith, nat_tests)

-- literal: the kept text and the final breaks make up all
pub joined-kept : (es : List Element) → joined (kept_lines es) ++ final_ends es ≡ joined es
joined-kept [] = refl
joined-kept (content text ∷ rest) = append_assoc text (joined (kept_lines rest)) (final_ends rest) ∙ ap (λ t. text ++ t) (joined-kept rest)
joined-kept (line_end b ∷ rest) = grind (arith, cases_Bool, kept-none, joined-kept rest)

-- folded: likewise
pub unfolded-kept : (after_even : Bool) (es : List Element) → unfolded after_even (kept_lines es) ++ final_ends es ≡ unfolded after_even es
unfolded-kept after_even [] = refl
unfolded-kept after_even (content text ∷ rest) = grind (arith, append_assoc, unfolded-kept (begins_unindented text) rest)
unfolded-kept after_even (line_end b ∷ rest) =
    grind (arith, cases_Bool, even-kept, fold-kept, append_assoc, kept-none, break-none, even-none, unfolded-kept false rest)

-- the final breaks, by an ending
abbrev pub Ends : Ending → List Element → Type 0
Ends WithoutBreak es = (has_content es ≡ true) × (final_ends es ≡ [])
Ends OneBreak es = (has_content es ≡ true) × ((b : ℕ) × (final_ends es ≡ b ∷ []))
Ends MoreBreaks es = Unit {0}

ends-begun : (e : Ending) (c : ℕ) (ps : List Part) → Ends e (bare ps) → Ends e (bare (begun c ps))
ends-begun e c ps h = grind (arith, nat_tests, false≢true)

ends-broken : (e : Ending) (c : ℕ) (es : List Element) → Ends e es → Ends e (line_end c ∷ es)
ends-broken e c es h = grind (arith, nat_tests)

ends-before : (e : Ending) (c : ℕ) (ps : List Part) (b : Bool) → Ends e (bare ps) → Ends e (bare (if b then line_break c ∷ ps else begun c ps))
ends-before e c ps b h = grind (arith, nat_tests, ends-broken, ends-begun)

-- a value of one character
ends-one : (c : ℕ) (b : Bool) → Ends (if b then MoreBreaks else WithoutBreak) (bare (if b then line_break c ∷ [] else begun c []))
ends-one c b = grind (arith, nat_tests)

-- of two characters
ends-two : (c d : ℕ) (a b : Bool) → Ends (if b then (if a then MoreBreaks else OneBreak) else WithoutBreak)
    (bare (if a then line_break c ∷ (if b then line_break d ∷ [] else begun d []) else begun c (if b then line_break d ∷ [] else begun d [])))
ends-two c d true true = tt
ends-two c d true false = (refl, refl)
ends-two c d false true = (refl, (d, refl))
ends-two c d false false = (refl, refl)

-- the ending of a value's parts, by its last two characters
pub ends-parts : (c : ℕ) (value : Text) → Ends (ending (c ∷ value)) (bare (parts (c ∷ value)))
ends-parts c [] = ends-one c (is_break c)
ends-parts c (d ∷ []) = ends-two c d (is_break c) (is_break d)
ends-parts c (d ∷ e ∷ rest) = ends-before (ending (d ∷ e ∷ rest)) c (parts (d ∷ e ∷ rest)) (is_break c) (ends-parts d (e ∷ rest))

-- the chomping that the header's indicator asks for
abbrev pub chomping_of : Ending → Chomping
chomping_of WithoutBreak = strip
chomping_of OneBreak = clip
chomping_of MoreBreaks = keep

pub chomped-ends : (e : Ending) (es : List Element) → Ends e es → chomped (chomping_of e) (has_content es) (final_ends es) ≡ final_ends es
chomped-ends WithoutBreak es h = sym (h.1)
chomped-ends OneBreak es h = rw (h.0, h.1.1) refl
chomped-ends MoreBreaks es h = refl
