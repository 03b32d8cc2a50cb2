-- The rest of a value's text while it is read.
use Rattle.yaml_read.proofs.Common.{ℕ, ◌+◌, ◌≤◌, suc, ◌++◌, ◌≡◌, ◌∙◌, arith, append_assoc, codes, Text, node_pairs_text, nodes_text, TypedValue, int_value}
use Rattle.yaml_read.proofs.Common.{text_value, list_value, map_value, TypedValues, no_values, values_and, TypedPairs, no_value_pairs, value_pairs_and}
use Rattle.yaml_read.proofs.Common.{Has64Bits, Have64Bits, PairsHave64Bits, nesting, values_nesting, value_pairs_nesting, most_nested, line_at, value_text}
use Rattle.yaml_read.proofs.Common.{value_nodes, value_pairs, HasScalarTexts, HaveScalarTexts, PairsHaveScalarTexts, CanBeRead, CanBeReadAt, AllCanBeReadAt}
use Rattle.yaml_read.proofs.Common.{PairsCanBeReadAt}

-- ---- readable values

mutual
  readable_at : (value : TypedValue) (depth : ℕ) → Has64Bits value → HasScalarTexts value → depth + nesting value ≤ most_nested → CanBeReadAt depth value
  readable_at (int_value n) depth bits texts fits = bits
  readable_at (text_value text) depth bits texts fits = texts
  readable_at (list_value items) depth bits texts fits = (omega (arith, fits), all_readable_at items (suc depth) bits texts (omega (arith, fits)))
  readable_at (map_value pairs) depth bits texts fits = (omega (arith, fits), pairs_readable_at pairs (suc depth) bits texts (omega (arith, fits)))
  readable_at _ depth bits texts fits = tt

  all_readable_at : (items : TypedValues) (depth : ℕ) → Have64Bits items → HaveScalarTexts items → depth + values_nesting items ≤ most_nested
      → AllCanBeReadAt depth items
  all_readable_at no_values depth bits texts fits = tt
  all_readable_at (values_and items item) depth bits texts fits =
      (all_readable_at items depth bits.0 texts.0 (omega (arith, fits)), readable_at item depth bits.1 texts.1 (omega (arith, fits)))

  pairs_readable_at : (pairs : TypedPairs) (depth : ℕ) → PairsHave64Bits pairs → PairsHaveScalarTexts pairs
      → depth + value_pairs_nesting pairs ≤ most_nested → PairsCanBeReadAt depth pairs
  pairs_readable_at no_value_pairs depth bits texts fits = tt
  pairs_readable_at (value_pairs_and pairs key value) depth bits texts fits = (
    pairs_readable_at pairs depth bits.0 texts.0 (omega (arith, fits)),
    (readable_at key depth bits.1.0 texts.1.0 (omega (arith, fits)), readable_at value depth bits.1.1 texts.1.1 (omega (arith, fits))),
  )

pub readable_root : (value : TypedValue) → CanBeRead value → CanBeReadAt 0 value
readable_root value readable = readable_at value 0 readable.bits readable.texts (omega (arith, readable.nested))

-- ---- the entries of a list and of a map, after what leads to the first one

abbrev pub items_behind : ℕ → TypedValues → TypedValue → Text → Text
items_behind column no_values item rest = value_text column item ++ rest
items_behind column (values_and items last) item rest = items_behind column items last (codes "," ++ (line_at column ++ (value_text column item ++ rest)))

abbrev pub pairs_behind : ℕ → TypedPairs → (key value : TypedValue) → Text → Text
pairs_behind column no_value_pairs key value rest = value_text column key ++ (line_at column ++ (codes ": " ++ (value_text column value ++ rest)))
pairs_behind column (value_pairs_and pairs first second) key value rest =
    pairs_behind column pairs first second
    (codes "," ++ (line_at column ++ (codes "? " ++ (value_text column key ++ (line_at column ++ (codes ": " ++ (value_text column value ++ rest)))))))

pub items_open_text : (column : ℕ) (items : TypedValues) (item : TypedValue) (rest : Text)
    → nodes_text column (value_nodes (values_and items item)) ++ rest ≡ line_at column ++ items_behind column items item (codes "," ++ rest)
items_open_text column no_values item rest = one (line_at column) (value_text column item) rest
  where
    one : (line text rest : Text) → (line ++ (text ++ codes ",")) ++ rest ≡ line ++ (text ++ (codes "," ++ rest))
    one line text rest = simp append_assoc
items_open_text column (values_and items last) item rest =
    more (nodes_text column (value_nodes (values_and items last))) (line_at column) (value_text column item) rest
    ∙ items_open_text column items last (line_at column ++ (value_text column item ++ (codes "," ++ rest)))
  where
    more : (items line text rest : Text) → (items ++ (line ++ (text ++ codes ","))) ++ rest ≡ items ++ (line ++ (text ++ (codes "," ++ rest)))
    more items line text rest = simp append_assoc

pub pairs_open_text : (column : ℕ) (pairs : TypedPairs) (key value : TypedValue) (rest : Text)
    → node_pairs_text column (value_pairs (value_pairs_and pairs key value)) ++ rest
    ≡ line_at column ++ (codes "? " ++ pairs_behind column pairs key value (codes "," ++ rest))
pairs_open_text column no_value_pairs key value rest = one (line_at column) (value_text column key) (value_text column value) rest
  where
    one : (line key value rest : Text)
        → (line ++ (codes "? " ++ (key ++ (line ++ (codes ": " ++ (value ++ codes ",")))))) ++ rest
        ≡ line ++ (codes "? " ++ (key ++ (line ++ (codes ": " ++ (value ++ (codes "," ++ rest))))))
    one line key value rest = simp append_assoc
pairs_open_text column (value_pairs_and pairs first second) key value rest =
    more (node_pairs_text column (value_pairs (value_pairs_and pairs first second))) (line_at column) (value_text column key) (value_text column value) rest
    ∙ pairs_open_text column pairs first second _
  where
    more : (pairs line key value rest : Text)
        → (pairs ++ (line ++ (codes "? " ++ (key ++ (line ++ (codes ": " ++ (value ++ codes ","))))))) ++ rest
        ≡ pairs ++ (line ++ (codes "? " ++ (key ++ (line ++ (codes ": " ++ (value ++ (codes "," ++ rest)))))))
    more pairs line key value rest = simp append_assoc
