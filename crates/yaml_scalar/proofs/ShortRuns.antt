-- A short text of ASCII is rendered as it is.
use Rattle.yaml_scalar.proofs.Common.{ℕ, ◌≤◌, IsUtf8, Option, None, length, Bool, false, true, List, [], ◌≡◌, take_all, append-nil, ap, sym, ◌∙◌, encodes-chars}
use Rattle.yaml_scalar.proofs.Common.{list_all, Text, Cursor, Rendered, render_text, double_inside, Space, IsFreeRun, ImpliesTest, is_unbroken_ascii, stays}
use Rattle.yaml_scalar.proofs.Common.{written_as, render_steps, most_short, IsShortRun, IsShortLine, stays_where, has_limit, subst, arith, nat_tests}
use Rattle.std.{proofs.lemmas.Str.encodes-IsAscii, specs.Str.chars}
use Rattle.yaml_scalar.proofs.{ByteRuns.free_passes, EscapeBytes.plain-ascii, InsideSteps.inside_stays, InsideSteps.ascii_stays}
use Rattle.yaml_scalar.proofs.{InsideSteps.ascii_stays_plain, StaysInLine.line_at}

-- characters of ASCII are bytes
plain_bytes : (text : List ℕ) → IsUtf8 text → list_all is_unbroken_ascii (chars text) ≡ true → chars text ≡ text
plain_bytes text is_text all = sym (encodes-IsAscii (chars text) (plain-ascii (chars text) all)) ∙ encodes-chars text is_text

-- a text that is one run of bytes of no class
pub whole_run : {classes size : ℕ} {text : List ℕ} (test : ℕ → Bool) → IsUtf8 text → IsFreeRun classes text size → length text ≤ size
    → length text ≤ most_short → ImpliesTest classes is_unbroken_ascii → ImpliesTest classes test → IsShortRun test text
whole_run {classes} {size} {text} test is_text free whole few plain tells =
    let passes : (other : ℕ → Bool) → ImpliesTest classes other → list_all other (chars text) ≡ true =
    λ other by. ap (λ l. list_all other (chars l)) (sym (take_all size text whole)) ∙ free_passes by is_text free in
    let same = plain_bytes text is_text (passes is_unbroken_ascii plain) in
    record {
      few = few;
      ascii = same;
      plain = ap (list_all is_unbroken_ascii) (sym same) ∙ passes is_unbroken_ascii plain;
      all = ap (list_all test) (sym same) ∙ passes test tells;
    }

-- a text that is one line
pub short_line_rendered : (quoted : Bool) (limit : Option ℕ) (indent : ℕ) (cursor : Cursor) {text : List ℕ} → IsShortLine limit quoted cursor text
    → render_text text cursor ≡ render_steps (written_as quoted) limit indent Space (chars text) cursor
short_line_rendered quoted limit indent cursor {text} is =
    ap (λ (t : Text). let l : Rendered = record { text = t; cursor = (render_text text cursor).cursor } in l) (sym (append-nil text))
    ∙ sym (line_at quoted limit indent false 32 text [] cursor is.run.all (λ _. is.room))
    ∙ ap (λ (t : Text). render_steps (written_as quoted) limit indent Space t cursor) (append-nil text ∙ sym is.run.ascii)

-- such a text between double quotes, if its classes include those of bytes beyond ASCII
pub short_inside : {text : List ℕ} (classes : ℕ) (unicode : Bool) (limit : Option ℕ) (folds : Bool) → folds ≡ has_limit limit
    → ImpliesTest classes (stays_where false folds)
    → ((test : ℕ → Bool) → ImpliesTest classes is_unbroken_ascii → ImpliesTest classes test → IsShortRun test text)
    → IsShortRun (stays unicode limit) text
short_inside classes unicode limit folds is tells run =
    run (stays unicode limit) (λ d scalar free. ascii_stays_plain folds d (tells d scalar free))
    (λ d scalar free. subst (λ (f : Bool). stays_where unicode f d ≡ true) is (ascii_stays unicode folds d (tells d scalar free)))

-- a text between double quotes
pub short_inside_rendered : (unicode : Bool) (limit : Option ℕ) (indent : ℕ) (cursor : Cursor) {text : List ℕ} → IsShortRun (stays unicode limit) text
    → render_text text cursor ≡ double_inside unicode limit indent None (chars text) cursor
short_inside_rendered unicode limit indent cursor {text} is = grind (arith, nat_tests, inside_stays, double_inside)
