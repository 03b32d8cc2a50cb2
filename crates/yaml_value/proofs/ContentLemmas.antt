-- A value's content tells the value, and is the content of its events.
use Rattle.yaml_value.proofs.Common.{suc, ℕ, ◌+◌, ◌<◌, Some, codes, Bool, false, true, List, [], ◌++◌, ◌∷◌, refl, ◌≡◌, ap, ap₂, sym, ◌∙◌, arith, nat_tests}
use Rattle.yaml_value.proofs.Common.{signed_decimal, Text, sequence_tag, mapping_tag, TypedValue, null_value, bool_value, int_value, text_value, TypedValues}
use Rattle.yaml_value.proofs.Common.{list_value, TypedPairs, map_value, no_values, values_and, no_value_pairs, value_pairs_and, null_tag, bool_tag, int_tag}
use Rattle.yaml_value.proofs.Common.{bool_text, Has64Bits, Have64Bits, PairsHave64Bits, value_node, value_nodes, value_pairs, value_stream, value_events}
use Rattle.yaml_base.proofs.Common.{◌%◌, ◌==◌, option_map, bytes_eq, None, negsuc, pos, ℤ, cond, digits_value, tagged, untagged, Content, scalar_content}
use Rattle.yaml_base.proofs.Common.{sequence_content, mapping_content, no_contents, contents_and, no_content_pairs, content_pairs_and, DocumentContent}
use Rattle.yaml_base.proofs.Common.{node_content}
use Rattle.std.{proofs.Math.IntN.neg_ℤ, proofs.lemmas.Fmt.decimal_by_steps, proofs.lemmas.Fmt.decimal_is_IsNumeral, specs.Fmt.decimal, specs.Int.Signed.mag}
use Rattle.std.{specs.Prelude.◌^◌}
use Rattle.yaml_base.proofs.Trees.{tree_of-stream_events}
use Rattle.yaml_base.specs.reading.Content.{ScalarTag, alias_content, Contents, ContentPairs, nodes_content, pairs_content, documents_content, content_of}
use Rattle.yaml_base.specs.values.TypedValues.{value_content, values_content, value_pairs_content, typed_content}

-- ---- a reader of contents, by which no two values have the same

-- a text that begins with a minus sign
abbrev has_minus : Text → Bool
has_minus [] = false
has_minus (c ∷ rest) = c == 45

abbrev after_first : Text → Text
after_first [] = []
after_first (c ∷ rest) = rest

-- the integer that a text writes
abbrev int_read : Text → ℤ
int_read text = cond (has_minus text) (neg_ℤ (pos (digits_value 10 (after_first text)))) (pos (digits_value 10 text))

-- the scalar of a tag and a text
abbrev scalar_read : (tag text : Text) → TypedValue
scalar_read tag text =
    cond (bytes_eq tag null_tag) null_value
    (cond (bytes_eq tag bool_tag) (bool_value (bytes_eq text (codes "true")))
    (cond (bytes_eq tag int_tag) (int_value (int_read text)) (text_value text)))

abbrev tagged_read : ScalarTag → Text → TypedValue
tagged_read (tagged tag) text = scalar_read tag text
tagged_read (untagged quoted_implicit) text = null_value

abbrev mutual
  value_read : Content → TypedValue
  value_read (alias_content name) = null_value
  value_read (scalar_content anchor tag text) = tagged_read tag text
  value_read (sequence_content anchor tag items) = list_value (values_read items)
  value_read (mapping_content anchor tag pairs) = map_value (pairs_read pairs)

  values_read : Contents → TypedValues
  values_read no_contents = no_values
  values_read (contents_and items item) = values_and (values_read items) (value_read item)

  pairs_read : ContentPairs → TypedPairs
  pairs_read no_content_pairs = no_value_pairs
  pairs_read (content_pairs_and pairs key value) = value_pairs_and (pairs_read pairs) (value_read key) (value_read value)

digit_no_minus : (n : ℕ) → (48 + n) == 45 ≡ false
digit_no_minus n = grind (arith, nat_tests)

decimal_no_minus : (n : ℕ) → n < 2 ^ 64 → has_minus (decimal n) ≡ false
decimal_no_minus =
    decimal_by_steps (λ n digits. has_minus digits ≡ false) (λ n small. digit_no_minus n) (λ n digits large before. more n digits before)
  where
    more : (n : ℕ) (digits : Text) → has_minus digits ≡ false → has_minus (digits ++ (48 + n % 10) ∷ []) ≡ false
    more n [] before = digit_no_minus (n % 10)
    more n (c ∷ rest) before = before

int_reads : (n : ℤ) → mag n < 2 ^ 63 → int_read (signed_decimal n) ≡ n
int_reads (pos n) fits =
    let small : n < 2 ^ 64 = omega (arith, fits) in
    ap (λ b. cond b (neg_ℤ (pos (digits_value 10 (after_first (decimal n))))) (pos (digits_value 10 (decimal n)))) (decimal_no_minus n small)
    ∙ ap pos (decimal_is_IsNumeral n small).1
int_reads (negsuc n) fits =
    let small : suc n < 2 ^ 64 = omega (arith, fits) in
    ap (λ m. neg_ℤ (pos m)) (decimal_is_IsNumeral (suc n) small).1

bool_reads : (b : Bool) → bytes_eq (bool_text b) (codes "true") ≡ b
bool_reads true = refl
bool_reads false = refl

mutual
  value_reads : (value : TypedValue) → Has64Bits value → value_read (value_content value) ≡ value
  value_reads null_value fits = refl
  value_reads (bool_value b) fits = ap bool_value (bool_reads b)
  value_reads (int_value n) fits = ap int_value (int_reads n fits)
  value_reads (text_value text) fits = refl
  value_reads (list_value items) fits = ap list_value (values_reads items fits)
  value_reads (map_value pairs) fits = ap map_value (pairs_reads pairs fits)

  values_reads : (items : TypedValues) → Have64Bits items → values_read (values_content items) ≡ items
  values_reads no_values fits = refl
  values_reads (values_and items item) fits = ap₂ values_and (values_reads items fits.0) (value_reads item fits.1)

  pairs_reads : (pairs : TypedPairs) → PairsHave64Bits pairs → pairs_read (value_pairs_content pairs) ≡ pairs
  pairs_reads no_value_pairs fits = refl
  pairs_reads (value_pairs_and pairs key value) fits =
      ap₂ (λ pairs key. value_pairs_and pairs key (value_read (value_content value))) (pairs_reads pairs fits.0) (value_reads key fits.1.0)
      ∙ ap (value_pairs_and pairs key) (value_reads value fits.1.1)

-- values with the same content are the same
pub content_tells_value : (x y : TypedValue) → Has64Bits x → Has64Bits y → value_content x ≡ value_content y → x ≡ y
content_tells_value x y x_fits y_fits same = sym (value_reads x x_fits) ∙ ap value_read same ∙ value_reads y y_fits

-- the root of the first of some documents, if there is one
abbrev first_root : List DocumentContent → Content → Content
first_root [] other = other
first_root (document ∷ documents) other = document.root

-- streams with the same content hold the same value
pub stream_tells_value : (x y : TypedValue) → Has64Bits x → Has64Bits y → Some (typed_content x) ≡ Some (typed_content y) → x ≡ y
stream_tells_value x y x_fits y_fits same =
    let inside : typed_content x ≡ typed_content y = cc in
    content_tells_value x y x_fits y_fits (ap (λ documents. first_root documents (value_content x)) inside)

-- ---- the events

mutual
  node_content-value : (value : TypedValue) → node_content (value_node value) ≡ value_content value
  node_content-value null_value = refl
  node_content-value (bool_value b) = refl
  node_content-value (int_value n) = refl
  node_content-value (text_value text) = refl
  node_content-value (list_value items) = ap (sequence_content None (Some sequence_tag)) (nodes_content-values items)
  node_content-value (map_value pairs) = ap (mapping_content None (Some mapping_tag)) (pairs_content-pairs pairs)

  nodes_content-values : (items : TypedValues) → nodes_content (value_nodes items) ≡ values_content items
  nodes_content-values no_values = refl
  nodes_content-values (values_and items item) = ap₂ contents_and (nodes_content-values items) (node_content-value item)

  pairs_content-pairs : (pairs : TypedPairs) → pairs_content (value_pairs pairs) ≡ value_pairs_content pairs
  pairs_content-pairs no_value_pairs = refl
  pairs_content-pairs (value_pairs_and pairs key value) =
      ap₂ (λ pairs key. content_pairs_and pairs key (node_content (value_node value))) (pairs_content-pairs pairs) (node_content-value key)
      ∙ ap (content_pairs_and (value_pairs_content pairs) (value_content key)) (node_content-value value)

-- the events of a value have its content
pub content_of-value_events : (value : TypedValue) → content_of (value_events value) ≡ Some (typed_content value)
content_of-value_events value =
    ap (option_map (λ stream. documents_content stream.documents)) (tree_of-stream_events (value_stream value))
    ∙ ap (λ root. Some (record { version = None; directives = []; root = root } ∷ [])) (node_content-value value)
