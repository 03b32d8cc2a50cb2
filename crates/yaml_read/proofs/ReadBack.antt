-- A value that was written is read back.
use Rattle.yaml_read.proofs.Common.{ℕ, ◌<◌, ◌≤◌, ◌≡◌, List, Some, arith, encode, utf8, Err, IfErr, IfOk, Ok, Result, Vec, TypedValue, WritesValue}
use Rattle.yaml_read.proofs.Common.{most_nested, nesting, document_text, seen_value, Value, IsJust, CanBeRead, ReadError}
use Rattle.yaml_read.{proofs.Texts.texts_of, specs.ReadBack.IsAnswerTo}
use Rattle.yaml_value.proofs.WritingLemmas.{text_written}
use Rattle.yaml_read.specs.declared.errors.ReadError.TheVariants as told

-- a value that was written, and doesn't nest too deep, is readable
pub written_readable : (A : Type 0) (value : Value A) (bytes : List ℕ) → WritesValue (seen_value value) bytes
    → ¬ (most_nested < nesting (seen_value value)) → CanBeRead (seen_value value)
written_readable A value bytes written never =
    record { bits = written.bits; texts = texts_of A value; nested = not_deeper (nesting (seen_value value)) never }
  where
    not_deeper : (n : ℕ) → ¬ (most_nested < n) → n ≤ most_nested
    not_deeper n never = omega (arith, never)

-- bytes of a readable value are refused for want of memory alone
for_memory : (value : TypedValue) (bytes : List ℕ) (error : ReadError) → CanBeRead value → bytes ≡ encode (Some utf8) (document_text value)
    → IsJust bytes error → error ≡ told.Memory
for_memory value bytes error h1 h2 h3 = grind arith

-- they are read as this value, or memory gave out
pub read_back : {A : Type 0} (value : TypedValue) (bytes : Vec ℕ A) (answer : Result (Value A) ReadError) → CanBeRead value
    → WritesValue value bytes.items → IsAnswerTo bytes.items answer
    → IfOk answer (λ found. seen_value found ≡ value) × IfErr answer (λ error. error ≡ told.Memory)
read_back value bytes (Ok found) readable written answers = (written.only (seen_value found) answers.read.bits answers.read.reads, tt)
read_back value bytes (Err error) readable written answers = (tt, for_memory _ _ error readable (text_written value (Ok bytes) written) answers.complete)
