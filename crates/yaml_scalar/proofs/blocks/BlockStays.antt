-- A character that stays in a block scalar's line is rendered as itself.
use Rattle.yaml_scalar.proofs.Common.{nat_tests}
use Rattle.yaml_scalar.proofs.Common.{arith, ℕ, Option, Ok, Bool, false, true, [], ◌∷◌, refl, ◌≡◌, eqb-true, ap, sym, line_feed, ◌∙◌, Text, is_break, Cursor, render_then, wrote_all}
use Rattle.yaml_scalar.proofs.Common.{render_text, Page, Wrote, place_after, render_content, render_inner, render_step, stays_at, lines_from, has_limit}
use Rattle.yaml_scalar.{proofs.RunsWritten.StandAlone, proofs.WholeRuns.no_fold, specs.BlockSteps.within, specs.BlockSteps.render_block_break, specs.declared.block_lines.Place.Place}
use Rattle.yaml_scalar.specs.declared.block_lines.Place.TheVariants.{Fixed, Folding, LineStart}
use Rattle.yaml_base.specs.Cursor.{with_flags}
use Rattle.yaml_scalar.proofs.StaysInLine as line

-- true for the place at which indentation goes on
abbrev pub starts_line : Place → Bool
starts_line LineStart = true
starts_line Folding = false
starts_line Fixed = false

-- in a line it is no break
pub stays_unbroken : (limit : Option ℕ) (place : Place) (c : ℕ) → starts_line place ≡ false → stays_at limit place c ≡ true → is_break c ≡ false
stays_unbroken limit LineStart c in_line h = cc
stays_unbroken limit Folding c in_line h = line.stays_unbroken (has_limit limit) false c h
stays_unbroken limit Fixed c in_line h = line.stays_unbroken false false c h

-- after a character of a line indentation is off, after a break it is on
inner_off : (limit : Option ℕ) (indent : ℕ) (place : Place) (c : ℕ) (rest : Text) (cursor : Cursor)
    → (render_inner limit indent place c rest cursor).cursor.indention ≡ false
inner_off limit indent place c rest cursor = grind (arith, nat_tests)

within_line : (folded : Bool) (place : Place) (c : ℕ) → starts_line (within folded place c) ≡ false
within_line folded place c = grind (arith, nat_tests)

broken_on : (twice : Bool) (c : ℕ) (cursor : Cursor) → (render_block_break twice c cursor).cursor.indention ≡ true
broken_on twice c cursor = grind (arith, nat_tests)

step_flag : (folded : Bool) (limit : Option ℕ) (indent : ℕ) (place : Place) (c : ℕ) (rest : Text) (cursor : Cursor)
    → (render_step limit indent place c rest cursor).cursor.indention ≡ starts_line (place_after folded place c)
step_flag folded limit indent place c rest cursor = grind (arith, inner_off, within_line, broken_on)

-- in a line a character that stays is rendered as itself
inner_kept : (limit : Option ℕ) (indent : ℕ) (place : Place) (c : ℕ) (rest : Text) (cursor : Cursor)
    → starts_line place ≡ false → stays_at limit place c ≡ true → render_inner limit indent place c rest cursor ≡ render_content c cursor
inner_kept limit indent LineStart c rest cursor in_line h = cc
inner_kept limit indent Folding c rest cursor in_line h = grind (arith, no_fold)
inner_kept limit indent Fixed c rest cursor in_line h = refl

stays_within : (folded : Bool) (limit : Option ℕ) (place : Place) (c : ℕ) → starts_line place ≡ false → within folded place c ≡ place
stays_within folded limit LineStart c in_line = cc
stays_within folded limit Folding c in_line = refl
stays_within folded limit Fixed c in_line = refl

line_stands : (folded : Bool) (limit : Option ℕ) (indent : ℕ) (place : Place) (c : ℕ) (rest : Text) (cursor : Cursor)
    → starts_line place ≡ false → stays_at limit place c ≡ true → cursor.indention ≡ false
    → lines_from folded limit indent place (c ∷ rest) cursor ≡ render_then (render_text (c ∷ []) cursor) (lines_from folded limit indent place rest)
line_stands folded limit indent place c rest cursor in_line h off = grind (arith, stays_unbroken, stays_within, inner_kept)

-- at the start of a line LF is
line_feed_stands : (folded : Bool) (limit : Option ℕ) (indent : ℕ) (rest : Text) (cursor : Cursor) → cursor.indention ≡ true
    → lines_from folded limit indent LineStart (line_feed ∷ rest) cursor
    ≡ render_then (render_text (line_feed ∷ []) cursor) (lines_from folded limit indent LineStart rest)
line_feed_stands folded limit indent rest cursor on = grind (arith, nat_tests, render_then, with_flags, render_text, line_feed, lines_from)

stands_at : (folded : Bool) (limit : Option ℕ) (indent : ℕ) (place : Place) (c : ℕ) (rest : Text) (cursor : Cursor)
    → stays_at limit place c ≡ true → cursor.indention ≡ starts_line place
    → lines_from folded limit indent place (c ∷ rest) cursor ≡ render_then (render_text (c ∷ []) cursor) (lines_from folded limit indent place rest)
stands_at folded limit indent LineStart c rest cursor h flag = rw (eqb-true c line_feed h) (line_feed_stands folded limit indent rest cursor flag)
stands_at folded limit indent Folding c rest cursor h flag = line_stands folded limit indent Folding c rest cursor refl h flag
stands_at folded limit indent Fixed c rest cursor h flag = line_stands folded limit indent Fixed c rest cursor refl h flag

-- so it is written as itself after a step
pub block_alone : (folded : Bool) (limit : Option ℕ) (indent : ℕ) (place placed : Place) (c : ℕ) (rest : Text) {here after : Page}
    → placed ≡ place_after folded place c → Wrote (render_step limit indent place c rest) here after (Ok tt)
    → StandAlone (λ before. lines_from folded limit indent placed) (stays_at limit placed) after.cursor
block_alone folded limit indent place placed c rest {here} {after} is wrote =
    record {
      stands = λ before d more column h.
          stands_at folded limit indent placed d more (record after.cursor { column = column }) h
          (ap (λ (k : Cursor). k.indention) (wrote_all wrote).cursor
          ∙ step_flag folded limit indent place c rest here.cursor ∙ ap starts_line (sym is));
    }
