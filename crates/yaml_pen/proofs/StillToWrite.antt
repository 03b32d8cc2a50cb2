-- A loop that writes: the text that is still to be written.
use Rattle.yaml_pen.proofs.Common.{ℕ, Result, Err, Ok, length, List, [], ◌++◌, ◌≡◌, append-nil, ap, subst, sym, ◌∙◌, arith, nil_from_length, chars-nil}
use Rattle.yaml_pen.proofs.Common.{chars, Text, Cursor, Rendered, render_nothing, render_then, render_text, Page, IsReady, Wrote}
use Rattle.yaml_base.{proofs.Prefixes.prefix_itself, specs.declared.errors.yaml_error_t.yaml_error_t}
use Rattle.yaml_pen.proofs.Composing.{wrote_then, wrote_failed, wrote_as, render_text-append}

-- a call that writes the rest from here has written the whole from the start
pub record StillToWrite (rest whole : Cursor → Rendered) (start here : Page) : Type 0 where
  pub ready : IsReady here
  pub writes : (after : Page) (answer : Result (Unit {0}) yaml_error_t) → Wrote rest here after answer → Wrote whole start after answer

-- at the start all is still to be written
pub still_all : {whole : Cursor → Rendered} {start : Page} → IsReady start → StillToWrite whole whole start start
still_all ready = record { ready = ready; writes = λ after answer wrote. wrote }

-- a step that answered Ok leaves the rest
pub still_rest : {first next whole : Cursor → Rendered} {start here after : Page}
    → StillToWrite (λ cursor. render_then (first cursor) next) whole start here → Wrote first here after (Ok tt)
    → StillToWrite next whole start after
still_rest still step = record { ready = step.ready; writes = λ after answer wrote. still.writes after answer (wrote_then step wrote) }

-- a step that failed ends it
pub still_failed : {first whole : Cursor → Rendered} {start here after : Page} {error : yaml_error_t} (next : Cursor → Rendered)
    → StillToWrite (λ cursor. render_then (first cursor) next) whole start here → Wrote first here after (Err error)
    → Wrote whole start after (Err error)
still_failed {first} {whole} {start} {here} {after} {error} next still step = still.writes after (Err error) (wrote_failed next step)

-- the rest of a text, under another name
pub still_same : (layout : Text → Cursor → Rendered) {old new : Text} {whole : Cursor → Rendered} {start here : Page}
    → old ≡ new → StillToWrite (layout old) whole start here → StillToWrite (layout new) whole start here
still_same layout {old} {new} {whole} {start} {here} is still = subst (λ (t : Text). StillToWrite (layout t) whole start here) is still

-- the rest depends only on the text that its layout puts at the cursor
pub still_as : {rest whole : Cursor → Rendered} (other : Cursor → Rendered) {start here : Page}
    → rest here.cursor ≡ other here.cursor → StillToWrite rest whole start here → StillToWrite other whole start here
still_as {rest} other same still = record { ready = still.ready; writes = λ after answer wrote. still.writes after answer (wrote_as rest (sym same) wrote) }

-- the rest of a text is a part of it, and then another rest
pub still_part : (part rest : Text) {left : Text} {whole : Cursor → Rendered} {start here : Page} → left ≡ part ++ rest
    → StillToWrite (render_text left) whole start here → StillToWrite (λ cursor. render_then (render_text part cursor) (render_text rest)) whole start here
still_part part rest {left} {whole} {start} {here} is =
    still_as (λ cursor. render_then (render_text part cursor) (render_text rest))
    (ap (λ t. render_text t here.cursor) is ∙ sym (render_text-append part rest here.cursor))

-- at the end nothing is left
pub end_still : (layout : Text → Cursor → Rendered) {whole : Cursor → Rendered} (old : List ℕ) {start here : Page}
    → length old ≡ 0 → StillToWrite (layout (chars old)) whole start here → StillToWrite (layout []) whole start here
end_still layout old e still = still_same layout (ap chars (nil_from_length old e) ∙ chars-nil) still

-- after a step that answered Ok, writing nothing answers Ok
pub unfailed_after : {first : Cursor → Rendered} {start here : Page} → Wrote first start here (Ok tt) → Wrote render_nothing here here (Ok tt)
unfailed_after {first} {start} {here} step = grind (arith, append-nil, prefix_itself, step.answered, step.ready, step.sound_output)
