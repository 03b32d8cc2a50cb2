-- Folded parts: they are clean, end as the value does, and read as the value.
use Rattle.yaml_scalar.proofs.Common.{arith, ℕ, ◌+◌, if◌then◌else◌, ◌==◌, Option, Bool, false, not, true, ◌&&◌, List, [], ◌++◌, ◌∷◌, refl, ◌≡◌, eqb-true, ap}
use Rattle.yaml_scalar.proofs.Common.{◌∙◌, and_parts, not-true, false≢true, Text, line_feed, is_space, is_break, has_content, final_ends, joined, nat_tests}
use Rattle.yaml_scalar.proofs.Common.{begins_unindented, next_content_unindented, unfolded, begins_with, folds, cut_from, cut_line}
use Rattle.yaml_scalar.proofs.Common.{next_line_unindented, folded_parts, Part, line, line_break, begun}
use Rattle.yaml_scalar.proofs.blocks.BlockParts.{Ordinary, IsLine, BeginsBroken, Clean, clean-begun, bare, BeginsFlush}

-- a line feed is ordinary
feed-ordinary : (breaks12 : Bool) → Ordinary false breaks12 line_feed
feed-ordinary breaks12 = grind (arith, nat_tests)

-- the reader finds a line that begins with a blank exactly if the writer finds one that begins with a space
even-flush : (breaks12 : Bool) (text : Text) → IsLine false breaks12 text → begins_unindented text ≡ not (begins_with is_space text)
even-flush breaks12 text h = grind (arith, nat_tests, not)

-- facts about a line that was cut, its first part and the others: before any rest they are clean, end as
-- the rest does, and read as the line
record Cut (breaks12 : Bool) (text first : Text) (others : List Part) : Type 0 where
  clean : (rest : List Part) → BeginsBroken rest → Clean false breaks12 rest → Clean false breaks12 (line first ∷ (others ++ rest))
  ends : (rest : List Part) → final_ends (bare (others ++ rest)) ≡ final_ends (bare rest)
  reads : (rest : List Part) → first ++ unfolded true (bare (others ++ rest)) ≡ text ++ unfolded true (bare rest)
  flush : begins_with is_space text ≡ false → begins_with is_space first ≡ false
  even : begins_with is_space text ≡ false → begins_unindented first ≡ true

abbrev IsCut : Bool → Text → List Part → Type 0
IsCut breaks12 text (line first ∷ others) = Cut breaks12 text first others
IsCut breaks12 text _ = ⊥

-- one character more
cut-step : (breaks12 : Bool) (c : ℕ) (rest : Text) → Ordinary false breaks12 c → is_break c ≡ false → (further : List Part) → IsCut breaks12 rest further
    → (fold : Bool) → (fold ≡ true → (is_space c ≡ true) × (begins_with is_space rest ≡ false))
    → IsCut breaks12 (c ∷ rest) (if fold then line [] ∷ line_break line_feed ∷ further else begun c further)
cut-step breaks12 c rest o e further k fold f = grind (arith, nat_tests, eqb-true, feed-ordinary, clean-begun)

-- a fold replaces a space before another character
pub fold-spaced : (limit : Option ℕ) (column c : ℕ) (rest : Text) → folds limit column c rest ≡ true → (is_space c ≡ true) × (begins_with is_space rest ≡ false)
fold-spaced limit column c rest h = grind (arith, and_parts, not-true)

cut-known : (breaks12 : Bool) (limit : Option ℕ) (indent column : ℕ) (text : Text) → IsLine false breaks12 text
    → IsCut breaks12 text (cut_from limit indent column text)
cut-known breaks12 limit indent column [] h = grind (arith)
cut-known breaks12 limit indent column (c ∷ rest) h =
    let at : ℕ = if folds limit column c rest then indent else column + 1 in
    cut-step breaks12 c rest h.0 h.1 (cut_from limit indent at rest) (cut-known breaks12 limit indent at rest h.2)
    (folds limit column c rest) (fold-spaced limit column c rest)

-- facts about a line's parts
record LineCut (breaks12 : Bool) (text : Text) (ps : List Part) : Type 0 where
  clean : (rest : List Part) → BeginsBroken rest → Clean false breaks12 rest → Clean false breaks12 (ps ++ rest)
  ends : (rest : List Part) → final_ends (bare (ps ++ rest)) ≡ final_ends (bare rest)
  reads : (after_even : Bool) (rest : List Part) → unfolded after_even (bare (ps ++ rest)) ≡ text ++ unfolded (not (begins_with is_space text)) (bare rest)
  even : (rest : List Part) → next_content_unindented (bare (ps ++ rest)) ≡ not (begins_with is_space text)
  some : (rest : List Part) → has_content (bare (ps ++ rest)) ≡ true
  flush : (rest : List Part) → begins_with is_space text ≡ false → BeginsFlush (ps ++ rest)

line-of-cut : (breaks12 : Bool) (text : Text) → IsLine false breaks12 text → begins_with is_space text ≡ false → (ps : List Part) → IsCut breaks12 text ps
    → LineCut breaks12 text ps
line-of-cut breaks12 text h x ps k = grind (arith, nat_tests)

line-cut : (breaks12 : Bool) (limit : Option ℕ) (indent : ℕ) (text : Text) → IsLine false breaks12 text → LineCut breaks12 text (cut_line limit indent text)
line-cut breaks12 limit indent text h = by (begins_with is_space text) refl
  where
    by : (spaced : Bool) → begins_with is_space text ≡ spaced → LineCut breaks12 text (if spaced then line text ∷ [] else cut_from limit indent indent text)
    by true e = record {
      clean = λ rest broken k. (h, broken, k);
      ends = λ rest. refl;
      reads = λ after_even rest. ap (λ b. text ++ unfolded b (bare rest)) (even-flush breaks12 text h);
      even = λ rest. even-flush breaks12 text h;
      some = λ rest. refl;
      flush = λ rest f. f;
    }
    by false e = line-of-cut breaks12 text h e (cut_from limit indent indent text) (cut-known breaks12 limit indent indent text h)

abbrev twice_or_once : Bool → ℕ → List Part
twice_or_once twice b = if twice then line_break b ∷ line_break b ∷ [] else line_break b ∷ []

-- a break once or twice, before other parts
twice-begins : (twice : Bool) (b : ℕ) (ps : List Part) → BeginsBroken (twice_or_once twice b ++ ps)
twice-begins twice b ps = grind (arith, nat_tests)

twice-clean : (breaks12 twice : Bool) (b : ℕ) (ps : List Part) → Ordinary false breaks12 b → is_break b ≡ true → Clean false breaks12 ps
    → Clean false breaks12 (twice_or_once twice b ++ ps)
twice-clean breaks12 twice b ps o e h = grind (arith, nat_tests)

twice-content : (twice : Bool) (b : ℕ) (ps : List Part) → has_content (bare (twice_or_once twice b ++ ps)) ≡ has_content (bare ps)
twice-content twice b ps = grind (arith, nat_tests)

twice-even : (twice : Bool) (b : ℕ) (ps : List Part) → next_content_unindented (bare (twice_or_once twice b ++ ps)) ≡ next_content_unindented (bare ps)
twice-even twice b ps = grind (arith, nat_tests)

-- it is doubled exactly if it would be folded, and then its second stays
twice-reads : (twice after_even : Bool) (b : ℕ) (ps : List Part) → (after_even && b == line_feed && next_content_unindented (bare ps)) ≡ twice
    → unfolded after_even (bare (twice_or_once twice b ++ ps)) ≡ b ∷ unfolded false (bare ps)
twice-reads twice after_even b ps e = grind (arith, nat_tests)

-- it is doubled only if a content follows, so not among the final breaks
twice-ends : (twice some : Bool) (b : ℕ) (ps : List Part) → has_content (bare ps) ≡ some → (twice ≡ true → some ≡ true)
    → final_ends (bare (twice_or_once twice b ++ ps)) ≡ (if some then [] else b ∷ []) ++ final_ends (bare ps)
twice-ends twice some b ps s f = grind (arith, nat_tests, false≢true)

-- a next line is a content
even-some : (ps : List Part) → next_line_unindented ps ≡ true → has_content (bare ps) ≡ true
even-some [] h = cc h
even-some (line text ∷ rest) h = refl
even-some (line_break b ∷ rest) h = even-some rest h

module _ (breaks12 : Bool) (limit : Option ℕ) (indent : ℕ) where
  folded-begins : (after_even : Bool) (ps : List Part) → BeginsBroken ps → BeginsBroken (folded_parts limit indent after_even ps)
  folded-begins after_even ps h = grind (arith, nat_tests, twice-begins, line_feed, next_line_unindented, folded_parts)

  -- folded parts are clean
  pub folded-clean : (after_even : Bool) (ps : List Part) → Clean false breaks12 ps → Clean false breaks12 (folded_parts limit indent after_even ps)
  folded-clean after_even [] h = tt
  folded-clean after_even (line text ∷ rest) h =
      let even = not (begins_with is_space text) in
      (line-cut breaks12 limit indent text h.0).clean (folded_parts limit indent even rest) (folded-begins even rest h.1) (folded-clean even rest h.2)
  folded-clean after_even (line_break b ∷ rest) h = grind (arith, twice-clean, folded-clean false rest h.2)

  -- hold content if the value does
  pub folded-content : (after_even : Bool) (ps : List Part) → Clean false breaks12 ps
      → has_content (bare (folded_parts limit indent after_even ps)) ≡ has_content (bare ps)
  folded-content after_even [] h = refl
  folded-content after_even (line text ∷ rest) h =
      (line-cut breaks12 limit indent text h.0).some (folded_parts limit indent (not (begins_with is_space text)) rest)
  folded-content after_even (line_break b ∷ rest) h =
      twice-content (after_even && b == line_feed && next_line_unindented rest) b (folded_parts limit indent false rest) ∙ folded-content false rest h.2

  -- are followed by a line without a leading blank if the value's are
  folded-even : (after_even : Bool) (ps : List Part) → Clean false breaks12 ps
      → next_content_unindented (bare (folded_parts limit indent after_even ps)) ≡ next_line_unindented ps
  folded-even after_even [] h = refl
  folded-even after_even (line text ∷ rest) h =
      (line-cut breaks12 limit indent text h.0).even (folded_parts limit indent (not (begins_with is_space text)) rest)
  folded-even after_even (line_break b ∷ rest) h =
      twice-even (after_even && b == line_feed && next_line_unindented rest) b (folded_parts limit indent false rest) ∙ folded-even false rest h.2

  -- read as the value
  pub folded-reads : (after_even : Bool) (ps : List Part) → Clean false breaks12 ps
      → unfolded after_even (bare (folded_parts limit indent after_even ps)) ≡ joined (bare ps)
  folded-reads after_even [] h = refl
  folded-reads after_even (line text ∷ rest) h =
      let even = not (begins_with is_space text) in
      (line-cut breaks12 limit indent text h.0).reads after_even (folded_parts limit indent even rest) ∙ ap (λ t. text ++ t) (folded-reads even rest h.2)
  folded-reads after_even (line_break b ∷ rest) h = grind (arith, twice-reads, folded-even, folded-reads false rest h.2)

  -- end as the value does
  pub folded-ends : (after_even : Bool) (ps : List Part) → Clean false breaks12 ps
      → final_ends (bare (folded_parts limit indent after_even ps)) ≡ final_ends (bare ps)
  folded-ends after_even [] h = refl
  folded-ends after_even (line text ∷ rest) h =
      let even = not (begins_with is_space text) in
      (line-cut breaks12 limit indent text h.0).ends (folded_parts limit indent even rest) ∙ folded-ends even rest h.2
  folded-ends after_even (line_break b ∷ rest) h = grind (arith, twice-ends, folded-content, even-some, and_parts, folded-ends false rest h.2)

  -- and begin with a line that shows the indentation if the value's do
  pub folded-flush : (ps : List Part) → Clean false breaks12 ps → BeginsFlush ps → BeginsFlush (folded_parts limit indent false ps)
  folded-flush [] h f = tt
  folded-flush (line text ∷ rest) h f =
      (line-cut breaks12 limit indent text h.0).flush (folded_parts limit indent (not (begins_with is_space text)) rest) f
  folded-flush (line_break b ∷ rest) h f = absurd f
