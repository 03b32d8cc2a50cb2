-- A character that stays in its line is rendered as itself.
use Rattle.yaml_scalar.proofs.Common.{suc, ℕ, ◌+◌, ◌<◌, ◌≤◌, if◌then◌else◌, ◌==◌, IsUtf8, Option, length, take, encode_utf8_all as encodes}
use Rattle.yaml_scalar.proofs.Common.{Bool, false, true, ◌&&◌, List, [], ◌++◌, ◌∷◌, refl, ◌≡◌, length-take-le, ap, subst, sym, ◌∙◌, arith, and_parts}
use Rattle.yaml_scalar.proofs.Common.{or_parts, not-true, nat_tests, IsUtf8-take, encodes-chars, list_all, IsCharBoundary, Text, is_space, is_break, Cursor}
use Rattle.yaml_scalar.proofs.Common.{Rendered, render_then, next_column, render_text, is_past_width, CharacterKind, Space, Break, Other, kind_of, written_as}
use Rattle.yaml_scalar.proofs.Common.{step_text, render_steps, stays_in_line, last_from, HasRoom}
use Rattle.yaml_base.proofs.Common.{length-le-encodes, chars}
use Rattle.yaml_scalar.{proofs.LinesWritten.written_each, proofs.RunsWritten.RunStands, specs.WholeRuns.IsLineRun}

-- it is no break, no space that may become a fold, and no quote that is doubled
pub record Stays (folds quotes : Bool) (c : ℕ) : Type 0 where
  pub no_break : is_break c ≡ false
  pub no_fold : (is_space c && folds) ≡ false
  pub no_quote : (quotes && c == 39) ≡ false

pub stays_parts : (folds quotes : Bool) (c : ℕ) → stays_in_line folds quotes c ≡ true → Stays folds quotes c
stays_parts folds quotes c h = grind (arith, or_parts, not-true)

pub stays_unbroken : (folds quotes : Bool) (c : ℕ) → stays_in_line folds quotes c ≡ true → is_break c ≡ false
stays_unbroken folds quotes c h = (stays_parts folds quotes c h).no_break

-- by its kind
other_kept : (quoted : Bool) (c : ℕ) → (quoted && c == 39) ≡ false → written_as quoted (c ∷ []) ≡ c ∷ []
other_kept quoted c e = grind (arith, nat_tests, written_each)

step_kept : (quoted past : Bool) (indent : ℕ) (before : CharacterKind) (c : ℕ) (rest : Text) (is_space is_break : Bool)
    → is_break ≡ false → (is_space && past) ≡ false → (quoted && c == 39) ≡ false
    → step_text (written_as quoted) past indent before (if is_space then Space else if is_break then Break else Other) c rest ≡ c ∷ []
step_kept quoted past indent before c rest is_space is_break e f g = grind (arith, nat_tests, other_kept)

-- the text after a character in plain and single-quoted lines
abbrev pub lines_after : (quoted : Bool) (limit : Option ℕ) (indent : ℕ) → ℕ → Text → Cursor → Rendered
lines_after quoted limit indent before = render_steps (written_as quoted) limit indent (kind_of before)

-- a space of a run is not past the width
unpast : (folds is_space past : Bool) → (is_space && folds) ≡ false → (folds ≡ false → past ≡ false) → (is_space && past) ≡ false
unpast folds is_space past h room = grind (arith, nat_tests)

-- with room the cursor is not past the width
room_past : (limit : Option ℕ) (cursor : Cursor) (count : ℕ) → HasRoom limit cursor.column (suc count) → is_past_width limit cursor ≡ false
room_past limit cursor count h = grind (arith, nat_tests)

-- after a character there is room for the others
room_next : (limit : Option ℕ) (column count : ℕ) → HasRoom limit column (suc count) → HasRoom limit (column + 1) count
room_next limit column count h = grind (arith, nat_tests)

-- a number that isn't 0
pub positive : (n : ℕ) → (n ≡ 0 → ⊥) → 0 < n
positive n h = grind (arith, nat_tests)

-- with room for some characters there is room for fewer
pub room_less : (limit : Option ℕ) (column count less : ℕ) → less ≤ count → HasRoom limit column count → HasRoom limit column less
room_less limit column count less le h = grind (arith, nat_tests)

-- characters that stay, with room for them or no space among them, are rendered as themselves
pub line_at : (quoted : Bool) (limit : Option ℕ) (indent : ℕ) (folds : Bool) (before : ℕ) (run rest : Text) (cursor : Cursor)
    → list_all (stays_in_line folds quoted) run ≡ true → (folds ≡ false → HasRoom limit cursor.column (length run))
    → lines_after quoted limit indent before (run ++ rest) cursor
    ≡ render_then (render_text run cursor) (lines_after quoted limit indent (last_from before run) rest)
line_at quoted limit indent folds before [] rest cursor h room = refl
line_at quoted limit indent folds before (c ∷ run) rest cursor h room =
    let p = and_parts (stays_in_line folds quoted c) (list_all (stays_in_line folds quoted) run) h in
    let is = stays_parts folds quoted c p.0 in
    let past = is_past_width limit cursor in
    let kept = step_kept quoted past indent (kind_of before) c (run ++ rest) (is_space c) (is_break c) is.no_break
    (unpast folds (is_space c) past is.no_fold (λ e. room_past limit cursor (length run) (room e))) is.no_quote in
    let next : Cursor = record cursor { column = next_column c cursor.column } in
    let column : next_column c cursor.column ≡ cursor.column + 1 = ap (λ (b : Bool). if b then 0 else cursor.column + 1) is.no_break in
    ap (λ (t : Text). render_then (render_text t cursor) (render_steps (written_as quoted) limit indent (kind_of c) (run ++ rest))) kept
    ∙ ap (λ (l : Rendered). let m : Rendered = record { text = c ∷ l.text; cursor = l.cursor } in m)
    (line_at quoted limit indent folds c run rest next p.1
    (λ e. subst (λ n. HasRoom limit n (length run)) (sym column) (room_next limit cursor.column (length run) (room e))))

-- a run of a line has at most as many characters as bytes
few_characters : (bytes : List ℕ) (size : ℕ) → IsUtf8 bytes → IsCharBoundary bytes size → length (chars (take size bytes)) ≤ size
few_characters bytes size is_text boundary =
    let is = IsUtf8-take bytes size is_text boundary in
    let same : length (encodes (chars (take size bytes))) ≡ length (take size bytes) = ap length (encodes-chars (take size bytes) is) in
    omega (arith, length-le-encodes (chars (take size bytes)), same, length-take-le size bytes boundary.0)

-- so a run of a line is written as itself
pub line_stands : (quoted : Bool) (limit : Option ℕ) (indent : ℕ) (cursor : Cursor) {before last size : ℕ} {bytes run : List ℕ}
    → IsUtf8 bytes → (is : IsLineRun limit quoted cursor before bytes size last) → run ≡ take size bytes
    → RunStands (lines_after quoted limit indent) (chars run) cursor
line_stands quoted limit indent cursor {before} {last} {size} {bytes} {run} is_text is prefix =
    let few : length (chars run) ≤ size = subst (λ l. length (chars l) ≤ size) (sym prefix) (few_characters bytes size is_text is.run.boundary) in
    record {
      stands = λ before rest.
          line_at quoted limit indent is.folds before (chars run) rest cursor (ap (λ l. list_all (stays_in_line is.folds quoted) (chars l)) prefix ∙ is.run.all)
          (λ e. room_less limit cursor.column size (length (chars run)) few (is.room e));
    }
