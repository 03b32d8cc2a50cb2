-- How the texts of values are related to the words of the grammar.
use Rattle.std.specs.Prelude.{ℕ, ◌≡◌, List, [], ◌∷◌, ◌++◌, flat_map, length}
use Rattle.std.specs.Str.{encode_utf8_all}
use Rattle.yaml_base.specs.Characters.{Text, line_feed}
use Rattle.yaml_base.specs.values.TypedValues.{TypedValue}
use Rattle.yaml_base.specs.graphs.DumpedText.{value_text}
use Rattle.yaml_read.specs.Readable.{CanBeReadAt}
use Rattle.yaml_value.specs.OpenLevels.{OpenLevel}
use Rattle.yaml_read.specs.Remaining.{Completes, column_in}

-- some of these words begin the bytes
pub record BeginsWith (These : List (List ℕ) → Type 0) (bytes : List ℕ) : Type 0 where
  pub words : List (List ℕ)
  pub rest : List ℕ
  pub are : These words
  pub parts : bytes ≡ flat_map (λ word. word) words ++ rest

-- the words begin the text of a value that can lie in these lists and maps
pub record BeginsText (levels : List OpenLevel) (words : List (List ℕ)) : Type 0 where
  pub value : TypedValue
  pub readable : CanBeReadAt (length levels) value
  pub rest : List ℕ
  pub is : encode_utf8_all (value_text (column_in levels) value) ≡ flat_map (λ word. word) words ++ rest

-- after a value that has its place a text goes on with the words, and completes a whole value
pub record GoesOnWith (levels : List OpenLevel) (value : TypedValue) (words : List (List ℕ)) : Type 0 where
  pub root : TypedValue
  pub text : Text
  pub completes : Completes root levels value text
  pub rest : List ℕ
  pub is : encode_utf8_all text ≡ flat_map (λ word. word) words ++ rest

-- these bytes begin what follows the first line of a canonical text
pub record BeginsValue (bytes : List ℕ) : Type 0 where
  pub root : TypedValue
  pub readable : CanBeReadAt 0 root
  pub rest : List ℕ
  pub text : encode_utf8_all (value_text 0 root ++ line_feed ∷ []) ≡ bytes ++ rest
