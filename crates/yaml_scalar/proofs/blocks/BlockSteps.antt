-- Lines rendered character by character, as code writes them, are the literal and the folded layout.
use Rattle.yaml_scalar.proofs.Common.{ℕ, ◌+◌, if◌then◌else◌, Option, replicate, Bool, false, true, List, [], ◌++◌, ◌∷◌, refl, ◌≡◌, le-ltb, nat_tests}
use Rattle.yaml_scalar.proofs.Common.{append_assoc, inl, inr, ap, sym, ◌∙◌, arith, cases_Bool, and_right, or_parts, or_from, Text, space, is_break, Cursor}
use Rattle.yaml_scalar.proofs.Common.{Rendered, first_cursor, render_then, next_column, column_after, new_line, ending, render_lines, folds, Part, line}
use Rattle.yaml_scalar.proofs.Common.{line_break, begun, parts, indented, place_after, render_inner, is_doubled, render_block_break, render_step, lines_from}
use Rattle.yaml_base.proofs.Common.{ends_in_break}
use Rattle.std.proofs.lemmas.Bool.{ltb-false}
use Rattle.yaml_scalar.specs.{BlockSteps.render_fold_or_content, declared.block_lines.Place.Place}
use Rattle.yaml_scalar.specs.declared.block_lines.Place.TheVariants.{Fixed, Folding, LineStart}
use Rattle.yaml_pen.proofs.{NewLines.column_after-spaces, Writing.column_after-append}

-- a new line at the start of a line
new-line-first : (indent : ℕ) → new_line indent first_cursor
    ≡ record { text = replicate indent space; cursor = record { column = indent; whitespace = true; indention = true } }
new-line-first indent = grind (arith, or_from, le-ltb, and_right)

-- the column after a new line is the one that its text leads to
column-new-line : (at : ℕ) (cursor : Cursor) → column_after (new_line at cursor).text cursor.column ≡ at
column-new-line at cursor = grind (arith, column_after-spaces, or_parts, ltb-false)

-- the cursor after some text that began at a cursor in white space
abbrev pub after_text : Text → Bool → ℕ → Cursor
after_text text broken column = record { column = column_after text column; whitespace = true; indention = broken }

abbrev pub spot : ℕ → Bool → Cursor
spot column indention = record { column = column; whitespace = true; indention = indention }

-- the text's last character is a break
abbrev last_broken : Bool → Text → Bool
last_broken before [] = before
last_broken before (c ∷ rest) = last_broken (is_break c) rest

step-cursor : (limit : Option ℕ) (indent : ℕ) (place : Place) (c : ℕ) (rest : Text) (column : ℕ) (indention : Bool)
    → (render_step limit indent place c rest (spot column indention)).cursor
    ≡ after_text (render_step limit indent place c rest (spot column indention)).text (is_break c) column
step-cursor limit indent place c rest column indention = by (is_break c) refl
  where
    fold-cursor : (fold : Bool) → (render_fold_or_content fold indent c (spot column indention)).cursor
        ≡ after_text (render_fold_or_content fold indent c (spot column indention)).text false column
    fold-cursor true = ap (λ n. spot n false) (sym (column-new-line indent (spot column indention)))
    fold-cursor false = refl

    inner : (at : Place) → (render_inner limit indent at c rest (spot column indention)).cursor
        ≡ after_text (render_inner limit indent at c rest (spot column indention)).text false column
    inner LineStart = ap (λ n. spot n false)
        (ap (next_column c) (sym (column-new-line indent (spot column indention)))
        ∙ sym (column_after-append (new_line indent (spot column indention)).text (c ∷ []) column))
    inner Folding = fold-cursor (folds limit column c rest)
    inner Fixed = refl

    outer : (twice : Bool)
        → (render_block_break twice c (spot column indention)).cursor ≡ after_text (render_block_break twice c (spot column indention)).text true column
    outer true = refl
    outer false = refl

    by : (b : Bool) → is_break c ≡ b
        → (if b then render_block_break (is_doubled place c rest) c (spot column indention) else render_inner limit indent place c rest
        (spot column indention)).cursor
        ≡ after_text (if b then render_block_break (is_doubled place c rest) c (spot column indention) else
        render_inner limit indent place c rest (spot column indention)).text b column
    by true e = outer (is_doubled place c rest)
    by false e = inner place

pub lines-cursor : (folded : Bool) (limit : Option ℕ) (indent : ℕ) (place : Place) (text : Text) (column : ℕ) (indention : Bool)
    → (lines_from folded limit indent place text (spot column indention)).cursor
    ≡ after_text (lines_from folded limit indent place text (spot column indention)).text (last_broken indention text) column
lines-cursor folded limit indent place [] column indention = refl
lines-cursor folded limit indent place (c ∷ rest) column indention =
    let step : Rendered = render_step limit indent place c rest (spot column indention) in
    let at : ℕ = column_after step.text column in
    let next : Place = place_after folded place c in
    let is : step.cursor ≡ spot at (is_break c) = step-cursor limit indent place c rest column indention in
    let whole : lines_from folded limit indent place (c ∷ rest) (spot column indention)
    ≡ render_then (record { text = step.text; cursor = spot at (is_break c) }) (lines_from folded limit indent next rest) =
    ap (λ (k : Cursor). render_then (record { text = step.text; cursor = k }) (lines_from folded limit indent next rest)) is in
    ap (λ (l : Rendered). l.cursor) whole
    ∙ lines-cursor folded limit indent next rest at (is_break c)
    ∙ ap (λ n. spot n (last_broken (is_break c) rest))
    (sym (column_after-append step.text (lines_from folded limit indent next rest (spot at (is_break c))).text column)
    ∙ ap (λ (l : Rendered). column_after l.text column) (sym whole))

pub ending-last : (c : ℕ) (rest : Text) → ends_in_break (ending (c ∷ rest)) ≡ last_broken (is_break c) rest
ending-last c (d ∷ e ∷ rest) = ending-last d (e ∷ rest)
ending-last c _ = grind (arith)

-- the layout after a line's first character
pub start-step : (limit : Option ℕ) (indent c : ℕ) (rest : Text) → is_break c ≡ false
    → render_step limit indent LineStart c rest first_cursor ≡ record { text = replicate indent space ++ c ∷ []; cursor = spot (indent + 1) false }
start-step limit indent c rest e = grind (arith, nat_tests, spot, new-line-first)

-- one step further
pub from-step : (folded : Bool) (limit : Option ℕ) (indent : ℕ) (place next : Place) (c : ℕ) (rest : Text) (cursor : Cursor) (to : Rendered)
    → render_step limit indent place c rest cursor ≡ to → place_after folded place c ≡ next
    → (lines_from folded limit indent place (c ∷ rest) cursor).text ≡ to.text ++ (lines_from folded limit indent next rest to.cursor).text
from-step folded limit indent place next c rest cursor to e f = grind (arith)

-- a break, that isn't doubled
pub break-step : (limit : Option ℕ) (indent : ℕ) (place : Place) (c : ℕ) (rest : Text) (column : ℕ) (indention twice : Bool) → is_break c ≡ true
    → is_doubled place c rest ≡ twice
    → render_step limit indent place c rest (spot column indention) ≡ record { text = if twice then c ∷ c ∷ [] else c ∷ []; cursor = first_cursor }
break-step limit indent place c rest column indention twice e f = grind (arith, nat_tests)

-- a character that stays on its line
pub content-step : (limit : Option ℕ) (indent : ℕ) (c : ℕ) (rest : Text) (column : ℕ) → is_break c ≡ false
    → render_step limit indent Fixed c rest (spot column false) ≡ record { text = c ∷ []; cursor = spot (column + 1) false }
content-step limit indent c rest column e = rw e refl

-- parts that go on in a line
abbrev pub continued : ℕ → List Part → Text
continued indent [] = []
continued indent (line text ∷ rest) = text ++ indented indent rest
continued indent (line_break b ∷ rest) = b ∷ indented indent rest

indented-begun : (indent c : ℕ) (ps : List Part) → indented indent (begun c ps) ≡ (replicate indent space ++ c ∷ []) ++ continued indent ps
indented-begun indent c [] = refl
indented-begun indent c (line text ∷ rest) = grind (arith, append_assoc)
indented-begun indent c (line_break b ∷ rest) = refl

continued-begun : (indent c : ℕ) (ps : List Part) → continued indent (begun c ps) ≡ c ∷ continued indent ps
continued-begun indent c [] = refl
continued-begun indent c (line text ∷ rest) = refl
continued-begun indent c (line_break b ∷ rest) = refl

-- literal lines, from each place
record LiteralFrom (limit : Option ℕ) (indent : ℕ) (text : Text) : Type 0 where
  start : (lines_from false limit indent LineStart text first_cursor).text ≡ indented indent (parts text)
  inner : (column : ℕ) → (lines_from false limit indent Fixed text (spot column false)).text ≡ continued indent (parts text)

literal-more : (limit : Option ℕ) (indent c : ℕ) (rest : Text) → LiteralFrom limit indent rest → LiteralFrom limit indent (c ∷ rest)
literal-more limit indent c rest more =
    elim (cases_Bool (is_break c)) [
      | inl e ↦ record {
        start = from-step false limit indent LineStart LineStart c rest first_cursor _ (break-step limit indent LineStart c rest 0 true false e refl)
            (rw e refl)
            ∙ rw e (ap (λ t. c ∷ t) more.start);
        inner = λ column. from-step false limit indent Fixed LineStart c rest (spot column false) _
            (break-step limit indent Fixed c rest column false false e refl) (rw e refl)
            ∙ rw e (ap (λ t. c ∷ t) more.start);
      }
      | inr e ↦ record {
        start = from-step false limit indent LineStart Fixed c rest first_cursor _ (start-step limit indent c rest e) (rw e refl)
            ∙ rw e (ap (λ t. (replicate indent space ++ c ∷ []) ++ t) (more.inner (indent + 1)) ∙ sym (indented-begun indent c (parts rest)));
        inner = λ column. from-step false limit indent Fixed Fixed c rest (spot column false) _ (content-step limit indent c rest column e) (rw e refl)
            ∙ rw e (ap (λ t. c ∷ t) (more.inner (column + 1)) ∙ sym (continued-begun indent c (parts rest)));
      }
    ]

literal-from : (limit : Option ℕ) (indent : ℕ) (text : Text) → LiteralFrom limit indent text
literal-from limit indent [] = record { start = refl; inner = λ column. refl }
literal-from limit indent (c ∷ rest) = literal-more limit indent c rest (literal-from limit indent rest)

-- the rendered text, and the cursor, by the text alone
pub rendered-by : (text : Text) (lines : Text) (a : Rendered) → a.text ≡ lines → a.cursor ≡ after_text a.text (ends_in_break (ending text)) 0
    → a ≡ render_lines text lines first_cursor
rendered-by text lines a e f = λ i. record { text = e i; cursor = (f ∙ ap (λ t. after_text t (ends_in_break (ending text)) 0) e) i }

-- a literal scalar's lines, character by character
pub literal-lines-from : (limit : Option ℕ) (indent c : ℕ) (rest : Text)
    → lines_from false limit indent LineStart (c ∷ rest) first_cursor ≡ render_lines (c ∷ rest) (indented indent (parts (c ∷ rest))) first_cursor
literal-lines-from limit indent c rest =
    rendered-by (c ∷ rest) (indented indent (parts (c ∷ rest))) (lines_from false limit indent LineStart (c ∷ rest) first_cursor)
    (literal-from limit indent (c ∷ rest)).start
    (lines-cursor false limit indent LineStart (c ∷ rest) 0 true
    ∙ ap (λ b. after_text (lines_from false limit indent LineStart (c ∷ rest) first_cursor).text b 0) (sym (ending-last c rest)))
