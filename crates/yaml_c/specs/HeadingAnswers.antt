-- The results of the function that writes a text as lines of comments.
use Rattle.std.specs.Prelude.{◌⊎◌, ℤ, ℕ, Option, None, Some, List, encode_utf8_all}
use Rattle.yaml_base.specs.Characters.{Text}
use Rattle.yaml_writer.specs.Headings.{comment_lines}
use Rattle.yaml_c.specs.Answers.{CopiesToCaller, nothing_reported, results_done, results_failed}
use Rattle.yaml_c.specs.declared.results.CallResult.{CallResult}

-- True if these results are those of a text: its lines of comments in UTF-8, 0 if they fit and 4 if they don't, or 3 if memory ran out; 8 if
-- the bytes are no text.
abbrev pub IsHeadingRun : Option Text → (old : List ℕ) → (status : ℤ) → (new : List ℕ) → CallResult → Type 0
IsHeadingRun None old status new report = CopiesToCaller (results_failed 8 nothing_reported old) status new report
IsHeadingRun (Some text) old status new report =
    CopiesToCaller (results_done (encode_utf8_all (comment_lines text)) 0 old) status new report
    ⊎ CopiesToCaller (results_failed 3 nothing_reported old) status new report
