-- How a value's text begins.
use Rattle.yaml_read.proofs.Common.{ℕ, ◌+◌, ◌++◌, refl, ◌≡◌, ap, ◌∙◌, append_assoc, codes, Text, encode_utf8_all, node_pairs_text, nodes_text, TypedValue}
use Rattle.yaml_read.proofs.Common.{null_value, bool_value, int_value, text_value, list_value, map_value, TypedValues, no_values, values_and, TypedPairs}
use Rattle.yaml_read.proofs.Common.{no_value_pairs, value_pairs_and, bool_text, line_at, value_text, value_nodes, value_pairs, in_quotes, signed_decimal, arith}
use Rattle.yaml_read.proofs.Remaining.{items_behind, pairs_behind, items_open_text, pairs_open_text}
use Rattle.yaml_read.proofs.Encoded.{word_encoded}

-- a value's tag, and the space after it
abbrev pub value_word : TypedValue → Text
value_word null_value = codes "!!null "
value_word (bool_value b) = codes "!!bool "
value_word (int_value n) = codes "!!int "
value_word (text_value text) = codes "!!str "
value_word (list_value items) = codes "!!seq "
value_word (map_value pairs) = codes "!!map "

-- the text from a list's bracket on, before a rest
abbrev pub list_tail : ℕ → TypedValues → Text → Text
list_tail column no_values rest = codes "[]" ++ rest
list_tail column (values_and items item) rest =
    codes "[" ++ (line_at (column + 2) ++ items_behind (column + 2) items item (codes "," ++ (line_at column ++ (codes "]" ++ rest))))

abbrev pub map_tail : ℕ → TypedPairs → Text → Text
map_tail column no_value_pairs rest = codes "{}" ++ rest
map_tail column (value_pairs_and pairs key value) rest =
    codes "{" ++ (line_at (column + 2) ++ (codes "? " ++ pairs_behind (column + 2) pairs key value (codes "," ++ (line_at column ++ (codes "}" ++ rest)))))

-- the text after a value's tag, before a rest
abbrev pub value_tail : ℕ → TypedValue → Text → Text
value_tail column null_value rest = codes "\"null\"" ++ rest
value_tail column (bool_value b) rest = in_quotes (bool_text b) ++ rest
value_tail column (int_value n) rest = in_quotes (signed_decimal n) ++ rest
value_tail column (text_value text) rest = in_quotes text ++ rest
value_tail column (list_value items) rest = list_tail column items rest
value_tail column (map_value pairs) rest = map_tail column pairs rest

regroup : (inside line bracket rest : Text) → (inside ++ (line ++ bracket)) ++ rest ≡ inside ++ (line ++ (bracket ++ rest))
regroup inside line bracket rest = simp append_assoc

pub value_parts : (column : ℕ) (value : TypedValue) (rest : Text) → value_text column value ++ rest ≡ value_word value ++ value_tail column value rest
value_parts column (list_value (values_and items item)) rest =
    ap (λ t. codes "!!seq [" ++ t) (regroup (nodes_text (column + 2) (value_nodes (values_and items item))) (line_at column) (codes "]") rest
    ∙ items_open_text (column + 2) items item (line_at column ++ (codes "]" ++ rest)))
value_parts column (map_value (value_pairs_and pairs key value)) rest =
    ap (λ t. codes "!!map {" ++ t) (regroup (node_pairs_text (column + 2) (value_pairs (value_pairs_and pairs key value))) (line_at column) (codes "}") rest
    ∙ pairs_open_text (column + 2) pairs key value (line_at column ++ (codes "}" ++ rest)))
value_parts column (list_value no_values) rest = refl
value_parts column (map_value no_value_pairs) rest = refl
value_parts column null_value rest = refl
value_parts column (bool_value b) rest = refl
value_parts column (int_value n) rest = refl
value_parts column (text_value text) rest = refl

word_bytes : (value : TypedValue) (rest : Text) → encode_utf8_all (value_word value ++ rest) ≡ value_word value ++ encode_utf8_all rest
word_bytes value rest = grind (arith, word_encoded, codes)

-- the bytes of a value's text
pub value_bytes : (column : ℕ) (value : TypedValue) (rest : Text)
    → encode_utf8_all (value_text column value ++ rest) ≡ value_word value ++ encode_utf8_all (value_tail column value rest)
value_bytes column value rest = ap encode_utf8_all (value_parts column value rest) ∙ word_bytes value (value_tail column value rest)
