-- The state of an array or a table in braces while a value inside of it is read.
use Rattle.std.specs.Prelude.{◌≡◌, ℕ, suc, ◌==◌, false, ◌<◌, ◌≤◌, List, drop, length, Result, MatchResult, Some}
use Rattle.std.specs.Borrow.{Bor}
use Rattle.toml_parser.specs.Lexical.{first, left_brace, left_bracket, right_brace, right_bracket, skip_blank}
use Rattle.toml_parser.specs.Reading.{key_view}
use Rattle.toml.specs.Parse.{key_equals, read_map}
use Rattle.toml_ordered.specs.Data.{Items, array, items_view, node_view, table}
use Rattle.toml_ordered.specs.Keys.{table_view}
use Rattle.toml_ordered.specs.Firsts.{Firsts, HasFirst, table_firsts}
use Rattle.toml_ordered.specs.Grammar.{items, members, val}
use Rattle.toml_ordered.specs.Nesting.{ValueTells, after_items}
use Rattle.toml_ordered.specs.Places.{EndsWith, PairFirstDefines, after_pairs}
use Rattle.toml_ordered.specs.Reading.{IsGrammarRefusal}
use Rattle.toml_ordered.specs.declared.tree.Table.{Table as CodeTable}
use Rattle.toml_ordered.specs.declared.fault.Fault.{Fault}
use Rattle.toml_ordered.specs.declared.tree.Node.{Node}
use Rattle.toml_ordered.specs.declared.tree.Origin.TheVariants.{Closed}
use Rattle.toml_ordered.specs.declared.values.Found.{Found}
use Rattle.toml_ordered.specs.declared.values.Found.TheVariants.{Opened, Value}
use Rattle.toml_ordered.specs.declared.values.Open.{Open}
use Rattle.toml_ordered.specs.declared.values.Open.TheVariants.{Array, Braces}

-- An array begins the text, and its first items are read, up to the rest; the text is read as the array of these and of the items in the rest.
pub record ArrayUpTo (depth : ℕ) (text : List ℕ) (found : Items) (rest : List ℕ) : Type 0 where
  pub opens : first text ≡ left_bracket
  pub room : ℕ
  pub enough : length rest < room
  pub value : val (suc depth) text ≡ read_map array (items (val depth) room found rest)
  pub ends : EndsWith (drop 1 text) rest
  pub count : ℕ
  pub read : after_items depth count (drop 1 text) ≡ Some rest

-- each key was first defined by a pair, before the rest
abbrev pub KnowsPairs : (depth : ℕ) → (text : List ℕ) → Firsts → (rest : List ℕ) → Type 0
KnowsPairs depth text firsts rest =
    (path : List (List ℕ)) (key : List ℕ) (left : ℕ) → HasFirst firsts path key left → PairFirstDefines depth text path key left × (length rest < left)

-- a table in braces begins the text, and its first pairs are read, up to the rest
pub record BracesUpTo (depth : ℕ) (text : List ℕ) (found : CodeTable) (rest : List ℕ) : Type 0 where
  pub opens : first text ≡ left_brace
  pub room : ℕ
  pub enough : length rest < room
  pub value : val (suc depth) text ≡ read_map (table Closed) (members (val depth) room (table_view found) rest)
  pub ends : EndsWith (drop 1 text) rest
  pub knows : KnowsPairs depth (drop 1 text) (table_firsts found) rest
  pub count : ℕ
  pub read : after_pairs depth count (drop 1 text) ≡ Some (table_view found, rest)

-- An array or a table in braces begins the text; after the part of it that is read, the value of its next item or pair begins here.
abbrev pub IsNextInside : (depth : ℕ) (text : List ℕ) → Open → (at : List ℕ) → Type 0
IsNextInside depth text (Array found) at =
    (rest : List ℕ) × ArrayUpTo depth text (items_view found.items) rest × ((first (skip_blank rest) == right_bracket) ≡ false) × (at ≡ skip_blank rest)
IsNextInside depth text (Braces found) at =
    (rest : List ℕ) × BracesUpTo depth text found.table rest × ((first (skip_blank rest) == right_brace) ≡ false)
    × (key_equals (skip_blank rest) ≡ Some (key_view found.key, at)) × (found.left ≡ length (skip_blank rest))

-- the value that begins the text is this one, and the rest follows it
abbrev pub IsValueRead : (depth : ℕ) (text : List ℕ) → Node → (rest : List ℕ) → Type 0
IsValueRead depth text node rest = (val depth text ≡ Some (node_view node, rest)) × (length rest < length text)

-- it is read; or a value inside of it begins the rest
abbrev pub IsFoundHere : (depth : ℕ) (text : List ℕ) → Found → (rest : List ℕ) → Type 0
IsFoundHere depth text (Value node) rest = IsValueRead depth text node rest
IsFoundHere depth text (Opened inner) rest = (less : ℕ) × (depth ≡ suc less) × IsNextInside less text inner rest

-- no value begins the text, unless an allocation failed; and why
abbrev pub IsValueRefused : (depth : ℕ) (text : List ℕ) → Fault → Type 0
IsValueRefused depth text fault = IsGrammarRefusal (val depth text) (ValueTells depth text) fault

-- the finding in the value that begins the text, or its refusal
abbrev pub FindsHere : (depth : ℕ) (text : List ℕ) → Result (Found × Bor (List ℕ)) Fault → Type 0
FindsHere depth text r = MatchResult r (λ p. IsFoundHere depth text p.0 p.1.now × (length p.1.now < length text)) (IsValueRefused depth text)

-- of the value of each text in which one inside of it is read as this one
abbrev pub Went : Open → Node → (rest : List ℕ) → ((depth : ℕ) (text : List ℕ) → Type 0) → Type 0
Went outer node rest then = (depth : ℕ) (text at : List ℕ) → IsNextInside depth text outer at → IsValueRead depth at node rest → then (suc depth) text

-- the finding after this value, inside of the one that begins the text, was read; or the refusal
abbrev pub GoesOnInside : Open → Node → (rest : List ℕ) → Result (Found × Bor (List ℕ)) Fault → Type 0
GoesOnInside outer node rest r =
    MatchResult r
    (λ p. Went outer node rest (λ depth text. IsFoundHere depth text p.0 p.1.now) × (length p.1.now ≤ length rest))
    (λ fault. Went outer node rest (λ depth text. IsValueRefused depth text fault))

-- the next finding in an array, or in a table in braces; or the refusal
abbrev pub NextItem : Items → (from : List ℕ) → Found → (rest : List ℕ) → Type 0
NextItem items from found rest =
    ((depth : ℕ) (text : List ℕ) → ArrayUpTo depth text items from → IsFoundHere (suc depth) text found rest) × (length rest ≤ length from)

abbrev pub NextPair : CodeTable → (from : List ℕ) → Result (Found × Bor (List ℕ)) Fault → Type 0
NextPair found from r =
    MatchResult r
    (λ p. ((depth : ℕ) (text : List ℕ) → BracesUpTo depth text found from → IsFoundHere (suc depth) text p.0 p.1.now) × (length p.1.now ≤ length from))
    (λ fault. (depth : ℕ) (text : List ℕ) → BracesUpTo depth text found from → IsValueRefused (suc depth) text fault)
