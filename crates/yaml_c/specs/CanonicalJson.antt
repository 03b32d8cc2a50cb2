-- The results of the function that writes the canonical bytes of a JSON text.
use Rattle.std.specs.Prelude.{ℕ, ℤ, List, Result, Ok, Err, Vec, IsUtf8}
use Rattle.yaml_value.specs.declared.keys.Keys.{Keys}
use Rattle.yaml_json_value.specs.Typed.{ExplainsValueError, IsCanonicalOf}
use Rattle.yaml_json_value.specs.declared.error.ValueError.{ValueError}
use Rattle.yaml_json_value.specs.declared.error.ValueError.TheVariants as errors
use Rattle.yaml_base.specs.declared.places.Position.{Position}
use Rattle.yaml_c.specs.Answers.{CallResults, CopiesToCaller, at_place, results_done, results_failed}
use Rattle.yaml_c.specs.CanonicalAnswers.{keys_given}
use Rattle.yaml_c.specs.JsonAnswers.{IsNoText, error_results}
use Rattle.yaml_c.specs.declared.canonical.CanonicalOptions.{CanonicalOptions}
use Rattle.yaml_c.specs.declared.results.CallResult.{CallResult}

-- An answer: the canonical bytes of a text; the place at which the text stops to be UTF-8; or the error of a text that has none.
pub data Found : Type 0 where
  has_bytes : (bytes : List ℕ) → Found
  is_no_text : Position → Found
  has_none : ValueError → Found

-- True if the answer is right for the text. If the text is UTF-8, it is what `canonical_from_json` promises.
abbrev pub IsFound : Keys → (text : List ℕ) → Found → Type 0
IsFound mode text (has_bytes bytes) = IsUtf8 text × IsCanonicalOf mode text bytes
IsFound mode text (is_no_text position) = IsNoText text position
IsFound mode text (has_none error) = IsUtf8 text × ExplainsValueError mode text error

-- The answer of a call.
abbrev pub found_of : {A : Type 0} → Result (Vec ℕ A) ValueError → Found
found_of (Ok bytes) = has_bytes bytes.items
found_of (Err error) = has_none error

-- The results of an answer: 0 for bytes, or 4 if they don't fit; 5 if the text isn't JSON, 6 if it nests too deep, 7 if an object gives a
-- name twice, unless that is allowed, 12 if a number isn't an integer of 64 bits, all four with the place; 3 if memory ran out.
abbrev pub canonical_results : Found → (out : List ℕ) → CallResults
canonical_results (has_bytes bytes) out = results_done bytes 0 out
canonical_results (is_no_text position) out = results_failed 5 (at_place position) out
canonical_results (has_none (errors.Json error)) out = error_results error out
canonical_results (has_none (errors.NotInteger position)) out = results_failed 12 (at_place position) out

-- True if these results are those of an answer that is right for the text by these options.
abbrev pub IsCanonicalRun : CanonicalOptions → (text old : List ℕ) → (status : ℤ) → (new : List ℕ) → CallResult → Type 0
IsCanonicalRun given text old status new report =
    (found : Found) × IsFound (keys_given given) text found × CopiesToCaller (canonical_results found old) status new report
