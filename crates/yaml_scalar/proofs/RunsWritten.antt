-- A loop that writes a character, and the run that follows it, in turn.
use Rattle.yaml_scalar.proofs.Common.{ℕ, chars, IsUtf8, Err, Ok, take, Bool, true, List, [], ◌++◌, ◌∷◌, refl, ◌≡◌, ap, sym, ◌∙◌, and_parts, arith, nat_tests}
use Rattle.yaml_scalar.proofs.Common.{chars_past_char, encode_utf8, list_all, Text, Cursor, Rendered, render_then, next_column}
use Rattle.yaml_scalar.proofs.Common.{render_text, chars-cut, Page, Wrote, last_from, IsRun}
use Rattle.yaml_base.proofs.Common.{drop}
use Rattle.yaml_base.specs.declared.errors.yaml_error_t.{yaml_error_t}
use Rattle.yaml_pen.proofs.StillToWrite.{StillToWrite, still_rest, still_failed, still_same, still_as}

-- in a layout of the text after a character, those that pass a test are written as themselves, at each column
pub record StandAlone (after : ℕ → Text → Cursor → Rendered) (test : ℕ → Bool) (cursor : Cursor) : Type 0 where
  pub stands : (before c : ℕ) (rest : Text) (column : ℕ) → test c ≡ true
      → after before (c ∷ rest) (record cursor { column = column })
      ≡ render_then (render_text (c ∷ []) (record cursor { column = column })) (after c rest)

-- and so does a run of them
run_at : {after : ℕ → Text → Cursor → Rendered} {test : ℕ → Bool} {cursor : Cursor} → StandAlone after test cursor
    → (before : ℕ) (run rest : Text) (column : ℕ) → list_all test run ≡ true
    → after before (run ++ rest) (record cursor { column = column })
    ≡ render_then (render_text run (record cursor { column = column })) (after (last_from before run) rest)
run_at alone before [] rest column h = refl
run_at {after} {test} {cursor} alone before (c ∷ run) rest column h =
    grind (arith, nat_tests, and_parts, list_all, next_column, run_at alone c run rest (next_column c column), test c)

-- the rest begins with a character
pub character_still : (layout : Text → Cursor → Rendered) {whole : Cursor → Rendered} (c : ℕ) (old new rest : List ℕ) {start here : Page}
    → IsUtf8 old → old ≡ encode_utf8 c ++ new → rest ≡ new → StillToWrite (layout (chars old)) whole start here
    → StillToWrite (layout (c ∷ chars rest)) whole start here
character_still layout c old new rest is_text e same still =
    still_same layout (chars_past_char old rest c is_text (e ∙ ap (λ l. encode_utf8 c ++ l) (sym same))) still

-- in a layout of the text after a character, a run is written as itself at a cursor
pub record RunStands (after : ℕ → Text → Cursor → Rendered) (run : Text) (cursor : Cursor) : Type 0 where
  pub stands : (before : ℕ) (rest : Text) → after before (run ++ rest) cursor ≡ render_then (render_text run cursor) (after (last_from before run) rest)

-- so does one whose characters each do
each_stands : {after : ℕ → Text → Cursor → Rendered} {test : ℕ → Bool} {cursor : Cursor} {before last size : ℕ} {bytes run : List ℕ}
    → StandAlone after test cursor → IsRun test before bytes size last → run ≡ take size bytes → RunStands after (chars run) cursor
each_stands {after} {test} {cursor} {before} {last} {size} {bytes} {run} alone is prefix = grind (arith, nat_tests, run_at, chars, list_all)

-- before a run it is the run, and the text after it
run_still : (after : ℕ → Text → Cursor → Rendered) {test : ℕ → Bool} {whole : Cursor
    → Rendered} {before last size : ℕ} {bytes run rest : List ℕ} {start here : Page}
    → RunStands after (chars run) here.cursor
    → IsUtf8 bytes → IsRun test before bytes size last → run ≡ take size bytes → rest ≡ drop size bytes
    → StillToWrite (after before (chars bytes)) whole start here
    → StillToWrite (λ cursor. render_then (render_text (chars run) cursor) (after last (chars rest))) whole start here
run_still after {test} {whole} {before} {last} {size} {bytes} {run} {rest} {start} {here} alone is_text is prefix behind still =
    let last_is : last_from before (chars run) ≡ last = ap (λ l. last_from before (chars l)) prefix ∙ sym is.last_is in
    still_as (λ cursor. render_then (render_text (chars run) cursor) (after last (chars rest)))
    (ap (λ t. after before t here.cursor) (chars-cut bytes run rest size is_text is.boundary prefix behind)
    ∙ alone.stands before (chars rest)
    ∙ ap (λ c. render_then (render_text (chars run) here.cursor) (after c (chars rest))) last_is)
    still

-- once a run that is written as itself was written, the text after it is left
pub standing_more : (after : ℕ → Text → Cursor → Rendered) {test : ℕ → Bool} {whole : Cursor
    → Rendered} {before last size : ℕ} {bytes run rest : List ℕ} {start here later : Page}
    → RunStands after (chars run) here.cursor
    → IsUtf8 bytes → IsRun test before bytes size last → run ≡ take size bytes → rest ≡ drop size bytes
    → StillToWrite (after before (chars bytes)) whole start here
    → Wrote (render_text (chars run)) here later (Ok tt)
    → StillToWrite (after last (chars rest)) whole start later
standing_more after stands is_text is prefix behind still wrote =
    still_rest (run_still after stands is_text is prefix behind still) wrote

-- one that failed ends it
pub standing_failed : (after : ℕ → Text → Cursor → Rendered) {test : ℕ → Bool} {whole : Cursor → Rendered} {before last size : ℕ} {bytes run : List ℕ}
    (rest : List ℕ) {start here later : Page} {error : yaml_error_t}
    → RunStands after (chars run) here.cursor
    → IsUtf8 bytes → IsRun test before bytes size last → run ≡ take size bytes → rest ≡ drop size bytes
    → StillToWrite (after before (chars bytes)) whole start here
    → Wrote (render_text (chars run)) here later (Err error)
    → Wrote whole start later (Err error)
standing_failed after {test} {whole} {before} {last} rest stands is_text is prefix behind still wrote =
    still_failed (after last (chars rest)) (run_still after stands is_text is prefix behind still) wrote

-- once a run was written, the text after it is left
pub run_more : (after : ℕ → Text → Cursor → Rendered) {test : ℕ → Bool} {whole : Cursor
    → Rendered} {before last size : ℕ} {bytes run rest : List ℕ} {start here later : Page}
    → StandAlone after test here.cursor
    → IsUtf8 bytes → IsRun test before bytes size last → run ≡ take size bytes → rest ≡ drop size bytes
    → StillToWrite (after before (chars bytes)) whole start here
    → Wrote (render_text (chars run)) here later (Ok tt)
    → StillToWrite (after last (chars rest)) whole start later
run_more after alone is_text is prefix behind still wrote =
    standing_more after (each_stands alone is prefix) is_text is prefix behind still wrote

-- a run that failed ends it
pub run_failed : (after : ℕ → Text → Cursor → Rendered) {test : ℕ → Bool} {whole : Cursor → Rendered} {before last size : ℕ} {bytes run : List ℕ}
    (rest : List ℕ) {start here later : Page} {error : yaml_error_t}
    → StandAlone after test here.cursor
    → IsUtf8 bytes → IsRun test before bytes size last → run ≡ take size bytes → rest ≡ drop size bytes
    → StillToWrite (after before (chars bytes)) whole start here
    → Wrote (render_text (chars run)) here later (Err error)
    → Wrote whole start later (Err error)
run_failed after rest alone is_text is prefix behind still wrote =
    standing_failed after rest (each_stands alone is prefix) is_text is prefix behind still wrote
