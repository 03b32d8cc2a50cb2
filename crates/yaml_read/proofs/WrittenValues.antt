-- A value that can be read has its bytes, and no other value has them.
use Rattle.yaml_base.proofs.Common.{false, ℕ, ◌+◌, ◌<◌, ◌≤◌, ◌≡◌, ◌∙◌, suc, List, ap, sym, arith, length, encode_utf8_all, canonical_content}
use Rattle.yaml_base.specs.values.TypedValues.{TypedValue, int_value, text_value, list_value, map_value, TypedValues, no_values, values_and, TypedPairs}
use Rattle.yaml_base.specs.values.TypedValues.{no_value_pairs, value_pairs_and, WritesValue, nesting, values_nesting, value_pairs_nesting, most_nested}
use Rattle.yaml_base.{proofs.Decoding.text_bytes-utf8, specs.Settings.largest_usize, specs.graphs.DumpedText.document_text}
use Rattle.yaml_value.{proofs.ContentLemmas.stream_tells_value, proofs.WritingLemmas.holds_bits, proofs.WritingLemmas.text_reads}
use Rattle.yaml_value.{proofs.WritingLemmas.writes_value, specs.WalkTexts.HoldsOfProgram, specs.WalkTexts.HoldOfProgram, specs.WalkTexts.PairsHoldOfProgram}
use Rattle.yaml_read.specs.Readable.{CanBeReadAt, AllCanBeReadAt, PairsCanBeReadAt}

mutual
  holds_of : (value : TypedValue) (depth : ℕ) → CanBeReadAt depth value → HoldsOfProgram value
  holds_of (int_value n) depth readable = readable
  holds_of (text_value text) depth readable = readable
  holds_of (list_value items) depth readable = all_hold items (suc depth) readable.1
  holds_of (map_value pairs) depth readable = pairs_hold pairs (suc depth) readable.1
  holds_of _ depth readable = tt

  all_hold : (items : TypedValues) (depth : ℕ) → AllCanBeReadAt depth items → HoldOfProgram items
  all_hold no_values depth readable = tt
  all_hold (values_and items item) depth readable = (all_hold items depth readable.0, holds_of item depth readable.1)

  pairs_hold : (pairs : TypedPairs) (depth : ℕ) → PairsCanBeReadAt depth pairs → PairsHoldOfProgram pairs
  pairs_hold no_value_pairs depth readable = tt
  pairs_hold (value_pairs_and pairs key value) depth readable =
      (pairs_hold pairs depth readable.0, (holds_of key depth readable.1.0, holds_of value depth readable.1.1))

mutual
  fits_of : (value : TypedValue) (depth : ℕ) → CanBeReadAt depth value → depth ≤ most_nested → depth + nesting value ≤ most_nested
  fits_of (list_value items) depth readable few = omega (arith, all_fit items (suc depth) readable.1 (omega (arith, readable.0)))
  fits_of (map_value pairs) depth readable few = omega (arith, pairs_fit pairs (suc depth) readable.1 (omega (arith, readable.0)))
  fits_of _ depth readable few = omega (arith, few)

  all_fit : (items : TypedValues) (depth : ℕ) → AllCanBeReadAt depth items → depth ≤ most_nested → depth + values_nesting items ≤ most_nested
  all_fit no_values depth readable few = omega (arith, few)
  all_fit (values_and items item) depth readable few = omega (arith, all_fit items depth readable.0 few, fits_of item depth readable.1 few)

  pairs_fit : (pairs : TypedPairs) (depth : ℕ) → PairsCanBeReadAt depth pairs → depth ≤ most_nested → depth + value_pairs_nesting pairs ≤ most_nested
  pairs_fit no_value_pairs depth readable few = omega (arith, few)
  pairs_fit (value_pairs_and pairs key value) depth readable few =
      omega (arith, pairs_fit pairs depth readable.0 few, fits_of key depth readable.1.0 few, fits_of value depth readable.1.1 few)

fits_root : (value : TypedValue) → CanBeReadAt 0 value → nesting value ≤ most_nested
fits_root value readable = omega (arith, fits_of value 0 readable (omega arith))

-- bytes that are those of its text
pub written_value : (value : TypedValue) (bytes : List ℕ) → CanBeReadAt 0 value → bytes ≡ encode_utf8_all (document_text value)
    → length bytes < largest_usize → WritesValue value bytes
written_value value bytes readable is few =
    writes_value value bytes (fits_root value readable) (holds_of value 0 readable) few (is ∙ sym (text_bytes-utf8 (document_text value)))

-- values that have one text are equal
pub text_tells : (first second : TypedValue) → CanBeReadAt 0 first → CanBeReadAt 0 second
    → encode_utf8_all (document_text first) ≡ encode_utf8_all (document_text second) → first ≡ second
text_tells first second one other same =
    let holds = holds_of first 0 one in
    let also = holds_of second 0 other in
    let bytes = text_bytes-utf8 (document_text first) ∙ same ∙ sym (text_bytes-utf8 (document_text second)) in
    stream_tells_value first second (holds_bits first holds) (holds_bits second also)
    (sym (text_reads first (fits_root first one) holds) ∙ ap (canonical_content false) bytes ∙ text_reads second (fits_root second other) also)
