-- The part of a value's text that was read, by the lists and maps that are open.
use Rattle.std.specs.Prelude.{ℕ, suc, ◌+◌, ◌*◌, ◌<◌, ◌≡◌, List, [], ◌∷◌, ◌++◌, codes, length}
use Rattle.std.specs.Str.{encode_utf8_all}
use Rattle.yaml_base.specs.Characters.{Text, line_feed}
use Rattle.yaml_base.specs.graphs.DumpedText.{line_at, node_pairs_text, nodes_text, value_text}
use Rattle.yaml_base.specs.values.TypedValues.{TypedPairs, TypedValue, TypedValues, most_nested, value_nodes, value_pairs}
use Rattle.yaml_value.specs.OpenLevels.{OpenLevel, items_open, pairs_open, seen_level, value_due}
use Rattle.yaml_value.specs.SeenValues.{seen_value}
use Rattle.yaml_read.specs.Readable.{CanBeReadAt, AllCanBeReadAt, PairsCanBeReadAt}
use Rattle.yaml_read.specs.Remaining.{column_in}
use Rattle.yaml_read.specs.declared.levels.Entry.{Entry}
use Rattle.yaml_read.specs.declared.levels.Entry.TheVariants.{Another, End}
use Rattle.yaml_read.specs.declared.levels.Turn.{Turn}
use Rattle.yaml_read.specs.declared.levels.Turn.TheVariants.{Continues, Ends}
use Rattle.yaml_read.specs.declared.levels.Next.{Next}
use Rattle.yaml_read.specs.declared.levels.Next.TheVariants.{Done, Node}

-- the text of a list up to its next item, and of a map up to its next key
abbrev pub list_begun : ℕ → TypedValues → Text
list_begun column items = codes "!!seq [" ++ (nodes_text (column + 2) (value_nodes items) ++ line_at (column + 2))

abbrev pub map_begun : ℕ → TypedPairs → Text
map_begun column pairs = codes "!!map {" ++ (node_pairs_text (column + 2) (value_pairs pairs) ++ (line_at (column + 2) ++ codes "? "))

-- the text of the lists and maps that are open, the innermost first, up to the next node
abbrev pub opened_text : List OpenLevel → Text
opened_text [] = []
opened_text (items_open items ∷ levels) = opened_text levels ++ list_begun (column_in levels) items
opened_text (pairs_open pairs ∷ levels) = opened_text levels ++ map_begun (column_in levels) pairs
opened_text (value_due pairs key ∷ levels) =
    opened_text levels
    ++ (map_begun (column_in levels) pairs ++ (value_text (column_in levels + 2) key ++ (line_at (column_in levels + 2) ++ codes ": ")))

-- The values that they hold could be written there.
abbrev pub OpenCanBeRead : List OpenLevel → Type 0
OpenCanBeRead [] = Unit {0}
OpenCanBeRead (items_open items ∷ levels) = OpenCanBeRead levels × ((length levels < most_nested) × AllCanBeReadAt (suc (length levels)) items)
OpenCanBeRead (pairs_open pairs ∷ levels) = OpenCanBeRead levels × ((length levels < most_nested) × PairsCanBeReadAt (suc (length levels)) pairs)
OpenCanBeRead (value_due pairs key ∷ levels) =
    OpenCanBeRead levels
    × ((length levels < most_nested) × (PairsCanBeReadAt (suc (length levels)) pairs × CanBeReadAt (suc (length levels)) key))

-- a whole text is that of what is open, and these bytes
pub record IsOpen (whole : List ℕ) (levels : List OpenLevel) (bytes : List ℕ) : Type 0 where
  pub text : whole ≡ encode_utf8_all (opened_text levels) ++ bytes
  pub readable : OpenCanBeRead levels

-- it is that of what is open, of a value that has its place there, and these bytes
pub record HasRead (whole : List ℕ) (levels : List OpenLevel) (value : TypedValue) (bytes : List ℕ) : Type 0 where
  pub text : whole ≡ encode_utf8_all (opened_text levels ++ value_text (column_in levels) value) ++ bytes
  pub outer : OpenCanBeRead levels
  pub readable : CanBeReadAt (length levels) value

-- ---- the code's answers

-- The text after an entry.
abbrev pub EntryCut : (depth : ℕ) → (lead end text : List ℕ) → Entry → Type 0
EntryCut depth lead end text (Another rest) = text ≡ codes "," ++ (line_at (depth * 2) ++ (lead ++ rest.now))
EntryCut depth lead end text (End rest) = text ≡ codes "," ++ (line_at (depth * 2) ++ (end ++ rest.now))

-- after a value in a list or a map
abbrev pub TurnRead : {A : Type 0} → List ℕ → List OpenLevel → Turn A → Type 0
TurnRead whole levels (Continues level rest) = IsOpen whole (seen_level level ∷ levels) rest.now
TurnRead whole levels (Ends value rest) = HasRead whole levels (seen_value value) rest.now

-- after a value
abbrev pub NextRead : {A : Type 0} → List ℕ → List OpenLevel → Next A → Type 0
NextRead whole levels (Done value) = (whole ≡ encode_utf8_all (value_text 0 (seen_value value) ++ line_feed ∷ [])) × CanBeReadAt 0 (seen_value value)
NextRead whole levels (Node rest) = IsOpen whole levels rest.now
