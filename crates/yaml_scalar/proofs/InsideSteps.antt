-- The text between double quotes is written one character after another, and runs of unescaped ones as a whole.
use Rattle.yaml_scalar.proofs.Common.{ℕ, if◌then◌else◌, chars, Option, None, Some, nat_lt, Bool, false, not, true, ◌&&◌, ◌||◌, List, [], ◌∷◌, refl, ◌≡◌}
use Rattle.yaml_scalar.proofs.Common.{ap, ◌∙◌, arith, and_parts, and_from, not-false, not-true, nat_tests, list_all, Text, is_ascii, is_space, is_break}
use Rattle.yaml_scalar.proofs.Common.{is_printable, Cursor, Rendered, render_then, next_column, render_text, is_past_width, quote, backslash, escape_text}
use Rattle.yaml_scalar.proofs.Common.{needs_escape, character_text, may_fold, double_fold, double_character, double_inside, Page, is_unbroken_ascii, has_limit}
use Rattle.yaml_scalar.proofs.Common.{stays_where, stays, Result, Wrote, wrote_as}
use Rattle.yaml_base.specs.declared.errors.yaml_error_t.{yaml_error_t}
use Rattle.yaml_pen.proofs.StillToWrite.{StillToWrite}
use Rattle.yaml_scalar.proofs.{RunsWritten.StandAlone, Unbroken.unescaped, WholeRuns.no_fold}

-- the text still to be written between the quotes: these bytes' characters, after a character or at the start
abbrev pub StillInside : (unicode : Bool) (limit : Option ℕ) (indent : ℕ) (value : Text) (before : Option ℕ) (bytes : List ℕ) (start here : Page) → Type 0
StillInside unicode limit indent value before bytes start here =
    StillToWrite (double_inside unicode limit indent before (chars bytes)) (double_inside unicode limit indent None value) start here

-- a character that stays is neither escaped nor a fold, and no break
stays_parts : (unicode : Bool) (limit : Option ℕ) (c : ℕ) → stays unicode limit c ≡ true
    → (needs_escape unicode c ≡ false) × ((is_space c && has_limit limit) ≡ false)
stays_parts unicode limit c h = grind (arith, and_parts, not-true)

pub stays_unbroken : (unicode : Bool) (limit : Option ℕ) (c : ℕ) → stays unicode limit c ≡ true → is_break c ≡ false
stays_unbroken unicode limit c h = (unescaped unicode c (stays_parts unicode limit c h).0).no_break

-- such a character is rendered as itself
character_stays : (unicode : Bool) (limit : Option ℕ) (indent : ℕ) (before : Option ℕ) (c : ℕ) (rest : Text) (cursor : Cursor)
    → stays unicode limit c ≡ true → double_character unicode limit indent before c rest cursor ≡ render_text (c ∷ []) cursor
character_stays unicode limit indent before c rest cursor h =
    let p = stays_parts unicode limit c h in
    ap (λ (b : Bool). if b then double_fold indent rest cursor else render_text (character_text unicode c) cursor)
    (no_fold (λ l. is_past_width l cursor) refl (is_space c) (may_fold before rest) limit p.1)
    ∙ ap (λ (b : Bool). render_text (if b then escape_text c else c ∷ []) cursor) p.0

-- the text after a character between the quotes
abbrev pub inside_after : (unicode : Bool) (limit : Option ℕ) (indent : ℕ) → ℕ → Text → Cursor → Rendered
inside_after unicode limit indent before = double_inside unicode limit indent (Some before)

pub inside_alone : (unicode : Bool) (limit : Option ℕ) (indent : ℕ) (cursor : Cursor)
    → StandAlone (inside_after unicode limit indent) (stays unicode limit) cursor
inside_alone unicode limit indent cursor =
    record {
      stands = λ before c rest column h.
          ap (λ (l : Rendered). render_then l (double_inside unicode limit indent (Some c) rest))
          (character_stays unicode limit indent (Some before) c rest (record cursor { column = column }) h);
    }

-- characters that stay are rendered as themselves, from the value's first on
pub inside_stays : (unicode : Bool) (limit : Option ℕ) (indent : ℕ) (before : Option ℕ) (run : Text) (cursor : Cursor)
    → list_all (stays unicode limit) run ≡ true → double_inside unicode limit indent before run cursor ≡ render_text run cursor
inside_stays unicode limit indent before [] cursor h = refl
inside_stays unicode limit indent before (c ∷ run) cursor h =
    grind (arith, nat_tests, and_parts, list_all, next_column, render_then, double_inside, character_stays, inside_stays unicode limit indent (Some c) run)

-- a character that isn't escaped with `unicode` off isn't with it on
escaped_parts : (a b c d e : Bool) → (a || b || c || d || e) ≡ false → (b ≡ false) × ((a || false || c || d || e) ≡ false)
escaped_parts a b c d e h = grind (arith, nat_tests)

ascii_unescaped : (unicode : Bool) (c : ℕ) → needs_escape false c ≡ false → needs_escape unicode c ≡ false
ascii_unescaped unicode c h = grind (arith, nat_tests, escaped_parts, not, is_printable, is_ascii, is_break, quote, backslash)

pub ascii_stays : (unicode folds : Bool) (c : ℕ) → stays_where false folds c ≡ true → stays_where unicode folds c ≡ true
ascii_stays unicode folds c h = grind (arith, and_parts, and_from, ascii_unescaped, not-true)

low : (c : ℕ) → is_ascii c ≡ true → nat_lt c 128 ≡ true
low c h = grind (arith, nat_tests)

-- and it is of ASCII
pub ascii_stays_plain : (folds : Bool) (c : ℕ) → stays_where false folds c ≡ true → is_unbroken_ascii c ≡ true
ascii_stays_plain folds c h = grind (arith, not-true, and_parts, not-false, escaped_parts, and_from, low, unescaped)

-- a character that becomes a fold, and one that doesn't
pub wrote_fold : (unicode : Bool) (limit : Option ℕ) (indent : ℕ) (before : Option ℕ) (c : ℕ) (rest : Text) {start after : Page}
    {answer : Result (Unit {0}) yaml_error_t} → (is_space c && may_fold before rest && is_past_width limit start.cursor) ≡ true
    → Wrote (double_fold indent rest) start after answer
    → Wrote (double_character unicode limit indent before c rest) start after answer
wrote_fold unicode limit indent before c rest {start} folds wrote =
    grind (arith, nat_tests, wrote_as, double_character, double_fold, render_text, character_text)

pub wrote_unfolded : (unicode : Bool) (limit : Option ℕ) (indent : ℕ) (before : Option ℕ) (c : ℕ) (rest : Text) {start after : Page}
    {answer : Result (Unit {0}) yaml_error_t} → (is_space c && may_fold before rest && is_past_width limit start.cursor) ≡ false
    → Wrote (render_text (character_text unicode c)) start after answer
    → Wrote (double_character unicode limit indent before c rest) start after answer
wrote_unfolded unicode limit indent before c rest {start} unfolded wrote =
    grind (arith, nat_tests, wrote_as, double_character, double_fold, render_text, character_text)
