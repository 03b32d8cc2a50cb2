-- A new line is a break if one is needed, and then spaces.
use Rattle.yaml_base.proofs.Common.{suc, zero, ℕ, ◌+◌, ◌-◌, ◌≤◌, if◌then◌else◌, replicate, Bool, true, [], ◌++◌, ◌∷◌, ◌≡◌, inl, inr, ap, sym, ◌∙◌, arith}
use Rattle.yaml_base.proofs.Common.{or_parts, Text, line_feed, space, Cursor, Rendered, render_nothing, render_then, column_after, breaks_line}
use Rattle.std.proofs.lemmas.Bool.{ltb-false, cases_Bool}
use Rattle.yaml_base.specs.Cursor.{render_text}
use Rattle.yaml_pen.specs.Lines.{render_line_break, spaces_to, line_begun}

pub column_after-spaces : (count column : ℕ) → column_after (replicate count space) column ≡ column + count
column_after-spaces zero column = omega arith
column_after-spaces (suc count) column = column_after-spaces count (column + 1) ∙ omega arith

spaces_at : (count at : ℕ) (prefix : Text) (cursor : Cursor) (column : ℕ) → column + count ≡ at
    → let l : Rendered = record { text = prefix ++ replicate count space; cursor = record cursor { column = column_after (replicate count space) column } } in
    let m : Rendered = record { text = prefix ++ replicate count space; cursor = record cursor { column = at } } in
    l ≡ m
spaces_at count at prefix cursor column is =
    ap (λ (n : ℕ). let l : Rendered = record { text = prefix ++ replicate count space; cursor = record cursor { column = n } } in l)
    (column_after-spaces count column ∙ is)

pub break-then-spaces : (at : ℕ) (cursor : Cursor) → render_then (render_line_break at cursor) (spaces_to at) ≡ line_begun at cursor
break-then-spaces at cursor =
    let F : Bool → Rendered = λ b. render_then (if b then render_text (line_feed ∷ []) cursor else render_nothing cursor) (spaces_to at) in
    let G : Bool → Rendered = λ b. record {
      text = if b then line_feed ∷ replicate at space else replicate (at - cursor.column) space;
      cursor = record cursor { column = at };
    } in
    elim (cases_Bool (breaks_line at cursor)) as (λ _. F (breaks_line at cursor) ≡ G (breaks_line at cursor)) [
      | inl breaks ↦
          let whole : at - 0 ≡ at = omega arith in
          ap F breaks ∙ spaces_at (at - 0) at (line_feed ∷ []) cursor 0 (omega arith)
          ∙ ap (λ (n : ℕ). let l : Rendered = record { text = line_feed ∷ replicate n space; cursor = record cursor { column = at } } in l) whole
          ∙ sym (ap G breaks)
      | inr goes ↦
          let below : cursor.column ≤ at = ltb-false _ _ (or_parts _ _ (or_parts _ _ goes).0).1 in
          ap F goes ∙ spaces_at (at - cursor.column) at [] cursor cursor.column (omega arith) ∙ sym (ap G goes)
    ]

-- if the line is broken, it is the text of a break and of spaces
pub broken_begun : (at : ℕ) (cursor : Cursor) → breaks_line at cursor ≡ true → render_text (line_feed ∷ replicate at space) cursor ≡ line_begun at cursor
broken_begun at cursor breaks =
    spaces_at at at (line_feed ∷ []) cursor 0 (omega arith)
    ∙ ap (λ (b : Bool). let l : Rendered = record {
      text = if b then line_feed ∷ replicate at space else replicate (at - cursor.column) space;
      cursor = record cursor { column = at };
    } in l) (sym breaks)
