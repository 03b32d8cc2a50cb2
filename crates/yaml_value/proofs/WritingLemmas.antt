-- The bytes of a value's canonical text are those that the definitions ask for, and read as the value.
use Rattle.yaml_value.proofs.Common.{ℕ, ◌<◌, ◌≤◌, Some, IfErr, Result, nat_le, length, false, true, List, [], ◌++◌, ◌∷◌, ◌⊎◌, refl, ◌≡◌, inr, ap, subst, sym, ◌∙◌}
use Rattle.yaml_value.proofs.Common.{arith, nat_tests, list_all, largest_usize, take_all, TypedValue, null_value, bool_value, int_value, text_value, TypedValues}
use Rattle.yaml_value.proofs.Common.{list_value, TypedPairs, map_value, no_values, values_and, no_value_pairs, value_pairs_and, node_events, nodes_events}
use Rattle.yaml_value.proofs.Common.{pairs_events, nesting, most_nested, Has64Bits, Have64Bits, PairsHave64Bits, value_node, value_nodes, value_pairs, value_events}
use Rattle.yaml_value.proofs.Common.{typed_settings, WritesValue, signed_decimal}
use Rattle.yaml_base.proofs.Common.{and_from, list_all-append, has_scalar_texts, document_end, stream_end, sequence_end, mapping_end, canonical_content, cut, encode, utf8, None}
use Rattle.yaml_base.proofs.DumpedOutputs.{tree_bytes, tree_output}
use Rattle.yaml_base.specs.{graphs.DumpedText.document_text, values.TypedValues.ReadsAs, values.TypedValues.typed_output}
use Rattle.yaml_emitter.proofs.canonical.Canonical.{canonical_bytes_read}
use Rattle.yaml_pen.proofs.AsciiRuns.{ascii-scalars}
use Rattle.std.proofs.lemmas.{Fmt.IsAscii-signed, List.length-take}
use Rattle.std.specs.Prelude.{Err, IfOk, Ok, Vec, ◌↔◌}
use Rattle.yaml_base.specs.{declared.errors.yaml_error_t.yaml_error_t, declared.errors.yaml_error_t.TheVariants.Memory}
use Rattle.yaml_base.specs.{declared.errors.yaml_error_t.TheVariants.TooDeep}
use Rattle.yaml_value.specs.WalkTexts.{HoldsOfProgram, HoldOfProgram, PairsHoldOfProgram}
use Rattle.yaml_value.proofs.{AcceptedLemmas.value_accepted, ContentLemmas.content_of-value_events, ContentLemmas.stream_tells_value}

-- ---- the scalars of a program

mutual
  pub holds_bits : (value : TypedValue) → HoldsOfProgram value → Has64Bits value
  holds_bits null_value holds = tt
  holds_bits (bool_value b) holds = tt
  holds_bits (int_value n) holds = holds
  holds_bits (text_value text) holds = tt
  holds_bits (list_value items) holds = hold_bits items holds
  holds_bits (map_value pairs) holds = pairs_bits pairs holds

  hold_bits : (items : TypedValues) → HoldOfProgram items → Have64Bits items
  hold_bits no_values holds = tt
  hold_bits (values_and items item) holds = (hold_bits items holds.0, holds_bits item holds.1)

  pairs_bits : (pairs : TypedPairs) → PairsHoldOfProgram pairs → PairsHave64Bits pairs
  pairs_bits no_value_pairs holds = tt
  pairs_bits (value_pairs_and pairs key value) holds = (pairs_bits pairs holds.0, (holds_bits key holds.1.0, holds_bits value holds.1.1))

mutual
  node_texts : (value : TypedValue) → HoldsOfProgram value → list_all has_scalar_texts (node_events (value_node value)) ≡ true
  node_texts null_value holds = refl
  node_texts (bool_value true) holds = refl
  node_texts (bool_value false) holds = refl
  node_texts (int_value n) holds = and_from _ true (ascii-scalars (signed_decimal n) (IsAscii-signed n holds)) refl
  node_texts (text_value text) holds = and_from _ true holds refl
  node_texts (list_value items) holds =
      list_all-append has_scalar_texts (nodes_events (value_nodes items)) (sequence_end ∷ []) ∙ and_from _ true (nodes_texts items holds) refl
  node_texts (map_value pairs) holds =
      list_all-append has_scalar_texts (pairs_events (value_pairs pairs)) (mapping_end ∷ []) ∙ and_from _ true (pairs_texts pairs holds) refl

  nodes_texts : (items : TypedValues) → HoldOfProgram items → list_all has_scalar_texts (nodes_events (value_nodes items)) ≡ true
  nodes_texts no_values holds = refl
  nodes_texts (values_and items item) holds =
      list_all-append has_scalar_texts (nodes_events (value_nodes items)) (node_events (value_node item))
      ∙ and_from _ _ (nodes_texts items holds.0) (node_texts item holds.1)

  pairs_texts : (pairs : TypedPairs) → PairsHoldOfProgram pairs → list_all has_scalar_texts (pairs_events (value_pairs pairs)) ≡ true
  pairs_texts no_value_pairs holds = refl
  pairs_texts (value_pairs_and pairs key value) holds =
      list_all-append has_scalar_texts (pairs_events (value_pairs pairs)) (node_events (value_node key) ++ node_events (value_node value))
      ∙ and_from _ _ (pairs_texts pairs holds.0)
      (list_all-append has_scalar_texts (node_events (value_node key)) (node_events (value_node value))
      ∙ and_from _ _ (node_texts key holds.1.0) (node_texts value holds.1.1))

pub events_texts : (value : TypedValue) → HoldsOfProgram value → list_all has_scalar_texts (value_events value) ≡ true
events_texts value holds =
    list_all-append has_scalar_texts (node_events (value_node value) ++ document_end true ∷ []) (stream_end ∷ [])
    ∙ and_from _ true
    (list_all-append has_scalar_texts (node_events (value_node value)) (document_end true ∷ []) ∙ and_from _ true (node_texts value holds) refl) refl

-- ---- bytes

-- no vector reaches the largest limit
pub below_limit : {A : Type 0} (bytes : Vec ℕ A) → length bytes.items < largest_usize
below_limit bytes = omega (arith, bytes.ok.0, bytes.ok.1, bytes.small)

-- bytes that a limit could have cut, and that are fewer, are whole
few_before : (limit : ℕ) (bytes : List ℕ) → length (cut limit bytes) < limit → length bytes ≤ limit
few_before limit bytes few = grind (arith, nat_tests, few, length-take limit bytes)

-- the output of a value is the encoding of its text
output_is : (value : TypedValue) → typed_output value ≡ cut largest_usize (encode (Some utf8) (document_text value))
output_is value = tree_output None true (value_node value)

-- the bytes of a value are those of its text
pub text_written : {A : Type 0} (value : TypedValue) (answer : Result (Vec ℕ A) yaml_error_t) → IfOk answer (λ bytes. WritesValue value bytes.items)
    → IfOk answer (λ bytes. bytes.items ≡ encode (Some utf8) (document_text value))
text_written value (Err error) writes = tt
text_written value (Ok bytes) writes =
    let text = encode (Some utf8) (document_text value) in
    let is : bytes.items ≡ cut largest_usize text = writes.bytes ∙ output_is value in
    is ∙ take_all largest_usize text (few_before largest_usize text (subst (λ found. length found < largest_usize) is (below_limit bytes)))

-- the canonical reader finds a value in its text, however long that is
pub text_reads : (value : TypedValue) → nesting value ≤ most_nested → HoldsOfProgram value → ReadsAs (encode (Some utf8) (document_text value)) value
text_reads value fits holds =
    ap (canonical_content false) (sym (tree_bytes None true (value_node value)))
    ∙ canonical_bytes_read typed_settings None (value_events value) refl (value_accepted value fits) (events_texts value holds)
    ∙ content_of-value_events value

-- the bytes of a value's canonical text are the value's
pub writes_value : (value : TypedValue) (bytes : List ℕ) → nesting value ≤ most_nested → HoldsOfProgram value → length bytes < largest_usize
    → bytes ≡ encode (Some utf8) (document_text value) → WritesValue value bytes
writes_value value bytes fits holds few is =
    let reads : ReadsAs bytes value = ap (canonical_content false) is ∙ text_reads value fits holds in
    record {
      bits = holds_bits value holds;
      bytes = sym (take_all largest_usize bytes (omega (arith, few))) ∙ ap (cut largest_usize) is ∙ sym (output_is value);
      reads = reads;
      only = λ other other_bits also. stream_tells_value other value other_bits (holds_bits value holds) (sym also ∙ reads);
    }

-- an answer that tells of no depth
pub too_deep_apart : {T : Type 0} (answer : Result T yaml_error_t) (value : TypedValue) → nesting value ≤ most_nested → IfErr answer (λ error. error ≡ Memory)
    → (answer ≡ Err TooDeep) ↔ (most_nested < nesting value)
too_deep_apart answer value fits
    memory = (λ is. absurd (apart (subst (λ answer. IfErr answer (λ error. error ≡ Memory)) is memory)), λ deep. absurd (omega (arith, fits, deep)))
  where
    apart : TooDeep ≡ Memory → ⊥
    apart is = cc

-- a test of the nesting
pub test_fits : (value : TypedValue) → nat_le (nesting value) most_nested ≡ true → nesting value ≤ most_nested
test_fits value is = grind (arith, nat_tests, is)

pub test_exceeds : (value : TypedValue) → nat_le (nesting value) most_nested ≡ false → most_nested < nesting value
test_exceeds value is = grind (arith, nat_tests, is)

-- the only error is memory
pub memory_alone : {T : Type 0} (answer : Result T yaml_error_t) → IfErr answer (λ error. error ≡ Memory)
    → IfErr answer (λ error. (error ≡ TooDeep) ⊎ (error ≡ Memory))
memory_alone (Ok value) is = tt
memory_alone (Err error) is = inr is
