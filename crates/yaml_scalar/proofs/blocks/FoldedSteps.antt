-- Folded lines rendered character by character, as code writes them, are the folded layout.
use Rattle.yaml_scalar.proofs.Common.{arith, ℕ, ◌+◌, if◌then◌else◌, Option, replicate, Bool, false, not, true, ◌&&◌, List, [], ◌++◌, ◌∷◌, refl, ◌≡◌, nat_tests}
use Rattle.yaml_scalar.proofs.Common.{eqb-true, append_assoc, inl, inr, ap, sym, ◌∙◌, cases_Bool, false_from_ne_true, false≢true, Text, line_feed, space}
use Rattle.yaml_scalar.proofs.Common.{is_space, is_break, first_cursor, begins_with, render_lines, is_past_limit, folds, cut_from}
use Rattle.yaml_scalar.proofs.Common.{folded_parts, Part, line, line_break, begun, parts, indented, render_step, lines_from}
use Rattle.yaml_base.specs.scalars.Lines.{prepend_part}
use Rattle.yaml_scalar.proofs.blocks.BlockSteps.{after_text, spot, lines-cursor, ending-last, start-step, from-step, break-step, content-step, continued}
use Rattle.yaml_scalar.proofs.blocks.BlockSteps.{rendered-by}
use Rattle.yaml_scalar.specs.declared.block_lines.Place.TheVariants.{Fixed, Folding, LineStart}

-- a line of folded parts goes on, if it is never folded
abbrev fixed_text : Option ℕ → ℕ → List Part → Text
fixed_text limit indent [] = []
fixed_text limit indent (line text ∷ rest) = text ++ indented indent (folded_parts limit indent false rest)
fixed_text limit indent (line_break b ∷ rest) = indented indent (folded_parts limit indent false (line_break b ∷ rest))

-- and if it may be, from a column on
abbrev folding_text : Option ℕ → (indent column : ℕ) → List Part → Text
folding_text limit indent column [] = []
folding_text limit indent column (line text ∷ rest) = continued indent (cut_from limit indent column text ++ folded_parts limit indent true rest)
folding_text limit indent column (line_break b ∷ rest) = indented indent (folded_parts limit indent true (line_break b ∷ rest))

-- a line that was cut begins with a line
abbrev pub BeginsLine : List Part → Type 0
BeginsLine (line text ∷ rest) = Unit {0}
BeginsLine _ = ⊥

pub begun-line : (c : ℕ) (ps : List Part) → BeginsLine (begun c ps)
begun-line c ps = grind (arith, nat_tests)

cut-line-first : (limit : Option ℕ) (indent column : ℕ) (text : Text) → BeginsLine (cut_from limit indent column text)
cut-line-first limit indent column [] = tt
cut-line-first limit indent column (c ∷ rest) = by (folds limit column c rest)
    (cut_from limit indent (if folds limit column c rest then indent else column + 1) rest)
  where
    by : (fold : Bool) (ps : List Part) → BeginsLine (if fold then line [] ∷ line_break line_feed ∷ ps else begun c ps)
    by true ps = tt
    by false ps = begun-line c ps

indented-line : (indent : ℕ) (ps rest : List Part) → BeginsLine ps → indented indent (ps ++ rest) ≡ replicate indent space ++ continued indent (ps ++ rest)
indented-line indent [] rest h = absurd h
indented-line indent (line text ∷ others) rest h = append_assoc (replicate indent space) text (indented indent (others ++ rest))
indented-line indent (line_break b ∷ others) rest h = absurd h

continued-first : (indent c : ℕ) (ps rest : List Part) → BeginsLine ps → continued indent (begun c ps ++ rest) ≡ c ∷ continued indent (ps ++ rest)
continued-first indent c [] rest h = absurd h
continued-first indent c (line text ∷ others) rest h = refl
continued-first indent c (line_break b ∷ others) rest h = absurd h

-- a fold
fold-step : (limit : Option ℕ) (indent c : ℕ) (rest : Text) (column : ℕ) (fold : Bool) → is_break c ≡ false → folds limit column c rest ≡ fold
    → render_step limit indent Folding c rest (spot column false)
    ≡ record { text = if fold then line_feed ∷ replicate indent space else c ∷ []; cursor = spot (if fold then indent else column + 1) false }
fold-step limit indent c rest column fold e f = grind (arith, nat_tests)

-- the rest of a text begins with a space exactly if the rest of its line does
space-no-break : (d : ℕ) → is_break d ≡ true → is_space d ≡ false
space-no-break d e = false_from_ne_true (is_space d) (λ s. false≢true (rw (eqb-true d space s) at e))

abbrev head_line : List Part → Text
head_line [] = []
head_line (line text ∷ rest) = text
head_line (line_break b ∷ rest) = []

head-begun : (d : ℕ) (ps : List Part) → begins_with is_space (head_line (begun d ps)) ≡ is_space d
head-begun d [] = refl
head-begun d (line text ∷ rest) = refl
head-begun d (line_break b ∷ rest) = refl

head-spaced : (text : Text) → begins_with is_space text ≡ begins_with is_space (head_line (parts text))
head-spaced [] = refl
head-spaced (d ∷ rest) = grind (arith, cases_Bool, space-no-break, head-begun)

-- the fold that a line's cut sees is the one that the text shows
folds-head : (limit : Option ℕ) (column c : ℕ) (rest : Text) → folds limit column c (head_line (parts rest)) ≡ folds limit column c rest
folds-head limit column c rest = ap (λ b. is_space c && not b && is_past_limit limit column) (sym (head-spaced rest))

-- a line's first character, whether it is a space or not
fixed-begun : (limit : Option ℕ) (indent c : ℕ) (ps : List Part) → is_space c ≡ true
    → indented indent (folded_parts limit indent false (begun c ps)) ≡ (replicate indent space ++ c ∷ []) ++ fixed_text limit indent ps
fixed-begun limit indent c [] e = rw e refl
fixed-begun limit indent c (line text ∷ rest) e = grind (arith, append_assoc)
fixed-begun limit indent c (line_break b ∷ rest) e = rw e refl

fixed-inner : (limit : Option ℕ) (indent c : ℕ) (ps : List Part) → fixed_text limit indent (begun c ps) ≡ c ∷ fixed_text limit indent ps
fixed-inner limit indent c [] = refl
fixed-inner limit indent c (line text ∷ rest) = refl
fixed-inner limit indent c (line_break b ∷ rest) = refl

-- a character of a line that may be folded, and the rest of the line
cut-text : (limit : Option ℕ) (indent column c : ℕ) (text : Text) (rest : List Part) (fold : Bool) → folds limit column c text ≡ fold
    → continued indent (cut_from limit indent column (c ∷ text) ++ rest)
    ≡ (if fold then line_feed ∷ replicate indent space else c ∷ [])
    ++ continued indent (cut_from limit indent (if fold then indent else column + 1) text ++ rest)
cut-text limit indent column c text rest true e =
    rw e (ap (λ t. line_feed ∷ t) (indented-line indent (cut_from limit indent indent text) rest (cut-line-first limit indent indent text)))
cut-text limit indent column c text rest false e =
    rw e (continued-first indent c (cut_from limit indent (column + 1) text) rest (cut-line-first limit indent (column + 1) text))

folding-inner : (limit : Option ℕ) (indent column c : ℕ) (ps : List Part) (fold : Bool) → folds limit column c (head_line ps) ≡ fold
    → folding_text limit indent column (begun c ps)
    ≡ (if fold then line_feed ∷ replicate indent space else c ∷ []) ++ folding_text limit indent (if fold then indent else column + 1) ps
folding-inner limit indent column c [] fold e = cut-text limit indent column c [] [] fold e
folding-inner limit indent column c (line text ∷ rest) fold e = cut-text limit indent column c text (folded_parts limit indent true rest) fold e
folding-inner limit indent column c (line_break b ∷ rest) fold e =
    cut-text limit indent column c [] (folded_parts limit indent true (line_break b ∷ rest)) fold e

-- a line's first character, if it isn't a space, is never a fold
begun-first : (indent c : ℕ) (ps rest : List Part) → BeginsLine ps
    → indented indent (begun c ps ++ rest) ≡ (replicate indent space ++ c ∷ []) ++ continued indent (ps ++ rest)
begun-first indent c ps rest h = grind (arith, indented-line, begun-line, continued-first, append_assoc)

folding-begun : (limit : Option ℕ) (indent c : ℕ) (ps : List Part) → is_space c ≡ false
    → indented indent (folded_parts limit indent false (begun c ps)) ≡ (replicate indent space ++ c ∷ []) ++ folding_text limit indent (indent + 1) ps
folding-begun limit indent c [] e = rw e (begun-first indent c (line [] ∷ []) [] tt)
folding-begun limit indent c (line text ∷ rest) e = rw e
    (begun-first indent c (cut_from limit indent (indent + 1) text) (folded_parts limit indent true rest) (cut-line-first limit indent (indent + 1) text))
folding-begun limit indent c (line_break b ∷ rest) e = rw e
    (begun-first indent c (line [] ∷ []) (folded_parts limit indent true (line_break b ∷ rest)) tt)

-- folded lines, from each place
record FoldedFrom (limit : Option ℕ) (indent : ℕ) (text : Text) : Type 0 where
  start : (lines_from true limit indent LineStart text first_cursor).text ≡ indented indent (folded_parts limit indent false (parts text))
  inner : (column : ℕ) → (lines_from true limit indent Fixed text (spot column false)).text ≡ fixed_text limit indent (parts text)
  bent : (column : ℕ) → (lines_from true limit indent Folding text (spot column false)).text ≡ folding_text limit indent column (parts text)

twice-text : (indent c : ℕ) (twice : Bool) (ps : List Part)
    → (if twice then c ∷ c ∷ [] else c ∷ []) ++ indented indent ps
    ≡ indented indent ((if twice then line_break c ∷ line_break c ∷ [] else line_break c ∷ []) ++ ps)
twice-text indent c twice ps = grind (arith, nat_tests)

folded-broken : (limit : Option ℕ) (indent c : ℕ) (rest : Text) → is_break c ≡ true → FoldedFrom limit indent rest → FoldedFrom limit indent (c ∷ rest)
folded-broken limit indent c rest e more = grind (arith, from-step, break-step, twice-text)

folded-first : (limit : Option ℕ) (indent c : ℕ) (rest : Text) → is_break c ≡ false → FoldedFrom limit indent rest
    → (lines_from true limit indent LineStart (c ∷ rest) first_cursor).text ≡ indented indent (folded_parts limit indent false (begun c (parts rest)))
folded-first limit indent c rest e more =
    elim (cases_Bool (is_space c)) [
      | inl spaced ↦ from-step true limit indent LineStart Fixed c rest first_cursor _ (start-step limit indent c rest e) (rw (e, spaced) refl)
          ∙ ap (λ t. (replicate indent space ++ c ∷ []) ++ t) (more.inner (indent + 1)) ∙ sym (fixed-begun limit indent c (parts rest) spaced)
      | inr even ↦ from-step true limit indent LineStart Folding c rest first_cursor _ (start-step limit indent c rest e) (rw (e, even) refl)
          ∙ ap (λ t. (replicate indent space ++ c ∷ []) ++ t) (more.bent (indent + 1)) ∙ sym (folding-begun limit indent c (parts rest) even)
    ]

part-begun : (c : ℕ) (ps : List Part) → is_break c ≡ false → begun c ps ≡ prepend_part c ps
part-begun c ps e = rw e refl

folded-more : (limit : Option ℕ) (indent c : ℕ) (rest : Text) → is_break c ≡ false → FoldedFrom limit indent rest → FoldedFrom limit indent (c ∷ rest)
folded-more limit indent c rest e more =
    let same = part-begun c (parts rest) e in
    record {
      start = folded-first limit indent c rest e more ∙ ap (λ (ps : List Part). indented indent (folded_parts limit indent false ps)) same;
      inner = λ column.
          from-step true limit indent Fixed Fixed c rest (spot column false) _ (content-step limit indent c rest column e) (rw e refl)
          ∙ ap (λ (t : Text). c ∷ t) (more.inner (column + 1)) ∙ sym (fixed-inner limit indent c (parts rest)) ∙ ap (fixed_text limit indent) same;
      bent = λ column.
          let fold = folds limit column c rest in
          from-step true limit indent Folding Folding c rest (spot column false) _ (fold-step limit indent c rest column fold e refl) (rw e refl)
          ∙ ap (λ (t : Text). (if fold then line_feed ∷ replicate indent space else c ∷ []) ++ t) (more.bent (if fold then indent else column + 1))
          ∙ sym (folding-inner limit indent column c (parts rest) fold (folds-head limit column c rest)) ∙ ap (folding_text limit indent column) same;
    }

folded-from : (limit : Option ℕ) (indent : ℕ) (text : Text) → FoldedFrom limit indent text
folded-from limit indent [] = record { start = refl; inner = λ column. refl; bent = λ column. refl }
folded-from limit indent (c ∷ rest) =
    let more : FoldedFrom limit indent rest = folded-from limit indent rest in
    elim (cases_Bool (is_break c)) [
      | inl e ↦ folded-broken limit indent c rest e more
      | inr e ↦ folded-more limit indent c rest e more
    ]

-- a folded scalar's lines, character by character
pub folded-lines-from : (limit : Option ℕ) (indent c : ℕ) (rest : Text)
    → lines_from true limit indent LineStart (c ∷ rest) first_cursor
    ≡ render_lines (c ∷ rest) (indented indent (folded_parts limit indent false (parts (c ∷ rest)))) first_cursor
folded-lines-from limit indent c rest =
    rendered-by (c ∷ rest) (indented indent (folded_parts limit indent false (parts (c ∷ rest))))
    (lines_from true limit indent LineStart (c ∷ rest) first_cursor)
    (folded-from limit indent (c ∷ rest)).start
    (lines-cursor true limit indent LineStart (c ∷ rest) 0 true
    ∙ ap (λ b. after_text (lines_from true limit indent LineStart (c ∷ rest) first_cursor).text b 0) (sym (ending-last c rest)))
