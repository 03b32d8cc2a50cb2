-- The rest of a value's text while it is read, by the lists and maps that are open.
use Rattle.std.specs.Prelude.{ℕ, suc, ◌+◌, ◌≡◌, List, [], ◌∷◌, ◌++◌, codes, length}
use Rattle.std.specs.Str.{encode_utf8_all}
use Rattle.yaml_base.specs.Characters.{Text, line_feed}
use Rattle.yaml_base.specs.values.TypedValues.{TypedValue, list_value, map_value, TypedValues, values_and, TypedPairs, value_pairs_and}
use Rattle.yaml_base.specs.graphs.DumpedText.{line_at, value_text}
use Rattle.yaml_value.specs.OpenLevels.{OpenLevel, items_open, pairs_open, value_due}
use Rattle.yaml_read.specs.Readable.{CanBeReadAt}

-- the column of entries, the innermost level first
abbrev pub column_in : List OpenLevel → ℕ
column_in [] = 0
column_in (level ∷ levels) = column_in levels + 2

-- after a value that has its place in the open lists and maps this text completes a whole value
pub data Completes (root : TypedValue) : List OpenLevel → TypedValue → Text → Type 0 where
  text_ends : (value : TypedValue) (text : Text) → value ≡ root → text ≡ line_feed ∷ [] → Completes root [] value text
  item_follows : (levels : List OpenLevel) (items : TypedValues) (value item : TypedValue) (rest text : Text)
      → CanBeReadAt (suc (length levels)) item
      → text ≡ codes "," ++ (line_at (column_in levels + 2) ++ (value_text (column_in levels + 2) item ++ rest))
      → Completes root (items_open (values_and items value) ∷ levels) item rest
      → Completes root (items_open items ∷ levels) value text
  list_ends : (levels : List OpenLevel) (items : TypedValues) (value : TypedValue) (rest text : Text)
      → text ≡ codes "," ++ (line_at (column_in levels) ++ (codes "]" ++ rest))
      → Completes root levels (list_value (values_and items value)) rest
      → Completes root (items_open items ∷ levels) value text
  value_follows : (levels : List OpenLevel) (pairs : TypedPairs) (key value : TypedValue) (rest text : Text)
      → CanBeReadAt (suc (length levels)) value
      → text ≡ line_at (column_in levels + 2) ++ (codes ": " ++ (value_text (column_in levels + 2) value ++ rest))
      → Completes root (value_due pairs key ∷ levels) value rest
      → Completes root (pairs_open pairs ∷ levels) key text
  pair_follows : (levels : List OpenLevel) (pairs : TypedPairs) (key value next : TypedValue) (rest text : Text)
      → CanBeReadAt (suc (length levels)) next
      → text ≡ codes "," ++ (line_at (column_in levels + 2) ++ (codes "? " ++ (value_text (column_in levels + 2) next ++ rest)))
      → Completes root (pairs_open (value_pairs_and pairs key value) ∷ levels) next rest
      → Completes root (value_due pairs key ∷ levels) value text
  map_ends : (levels : List OpenLevel) (pairs : TypedPairs) (key value : TypedValue) (rest text : Text)
      → text ≡ codes "," ++ (line_at (column_in levels) ++ (codes "}" ++ rest))
      → Completes root levels (map_value (value_pairs_and pairs key value)) rest
      → Completes root (value_due pairs key ∷ levels) value text

-- these bytes begin with a value that has its place in the open lists and maps of a whole value's text
pub record IsDue (root : TypedValue) (levels : List OpenLevel) (bytes : List ℕ) : Type 0 where
  pub value : TypedValue
  pub rest : Text
  pub readable : CanBeReadAt (length levels) value
  pub text : bytes ≡ encode_utf8_all (value_text (column_in levels) value ++ rest)
  pub completes : Completes root levels value rest

-- these bytes follow such a value
pub record IsRead (root : TypedValue) (levels : List OpenLevel) (value : TypedValue) (bytes : List ℕ) : Type 0 where
  pub rest : Text
  pub text : bytes ≡ encode_utf8_all rest
  pub completes : Completes root levels value rest
