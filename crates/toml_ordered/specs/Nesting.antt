-- Values in which arrays and tables in braces nest too deep to be read, and keys of too many parts.
use Rattle.std.specs.Prelude.{◌≡◌, ◌==◌, ◌<◌, ◌⊎◌, ℕ, zero, suc, List, [], drop, length, Option, Some, Result, MatchResult, if◌then◌else◌}
use Rattle.std.specs.Prelude.{option_and_then}
use Rattle.std.specs.Borrow.{Bor}
use Rattle.toml_parser.specs.Lexical.{Read, first, left_brace, left_bracket, right_bracket, skip_blank, skip_ws}
use Rattle.toml_parser.specs.Strings.{Key, key_after, recursion_limit, simple_key}
use Rattle.toml.specs.Parse.{after_element, key_equals}
use Rattle.toml_ordered.specs.Data.{TomlNodes}
use Rattle.toml_ordered.specs.Firsts.{FaultTells, IsOther}
use Rattle.toml_ordered.specs.Grammar.{is_doubled, val}
use Rattle.toml_ordered.specs.Places.{EndsWith, ExpressionsConflict, PairAt, PairsClash, ReadsUpTo, after_pairs, key_parts}
use Rattle.toml_ordered.specs.Reading.{IsGrammarRefusal}
use Rattle.toml_ordered.specs.Tables.{TomlDocument}
use Rattle.toml_ordered.specs.declared.fault.Fault.{Fault}

-- a key of any number of parts; the number only has to suffice for them
abbrev pub any_key : List ℕ → Read Key
any_key text = key_after (length text) [] text

-- a key of more than 80 parts begins the text, with this much left
pub record HasLongKey (left : ℕ) (text : List ℕ) : Type 0 where
  pub name : Key
  pub rest : List ℕ
  pub read : any_key text ≡ Some (name, rest)
  pub more : recursion_limit < length (key_parts name)
  pub here : left ≡ length text

-- why no key is read
abbrev pub KeyTells : (text : List ℕ) → Fault → Type 0
KeyTells text found = FaultTells found (λ key one two. ⊥) (λ left. HasLongKey left text)

-- a part of a key begins the text, and this rest follows it; or no part does, unless an allocation failed
abbrev pub PassesPart : (text : List ℕ) → Result (Bor (List ℕ)) Fault → Type 0
PassesPart text r =
    MatchResult r (λ rest. ((part : List ℕ) × (simple_key text ≡ Some (part, rest.now))) × (length rest.now < length text))
    (IsGrammarRefusal (simple_key text) IsOther)

-- the rest of the text after one more item of an array
abbrev pub next_item : (depth : ℕ) → List ℕ → Option (List ℕ)
next_item depth text = option_and_then (λ v. after_element right_bracket v.1) (val depth (skip_blank text))

-- the rest after the first items, so many, of the text after a bracket
abbrev pub after_items : (depth : ℕ) → ℕ → (text : List ℕ) → Option (List ℕ)
after_items depth zero text = Some text
after_items depth (suc count) text = option_and_then (next_item depth) (after_items depth count text)

-- an item begins here; the text is that of an array, after the bracket
pub record ItemAt (depth : ℕ) (text : List ℕ) (item : List ℕ) : Type 0 where
  pub rest : List ℕ
  pub ends : EndsWith text rest
  pub count : ℕ
  pub read : after_items depth count text ≡ Some rest
  pub here : item ≡ skip_blank rest

-- a pair begins here, if another one does; the text is that of a table in braces, after the brace
pub record PairComes (depth : ℕ) (text : List ℕ) (pair : List ℕ) : Type 0 where
  pub found : TomlNodes
  pub rest : List ℕ
  pub ends : EndsWith text rest
  pub count : ℕ
  pub read : after_pairs depth count text ≡ Some (found, rest)
  pub here : pair ≡ skip_blank rest

-- of the item of an array after those that are read; or of the pair of a table in braces after those that are read, and of its value
abbrev pub InItem : (depth : ℕ) → (List ℕ → Type 0) → (text : List ℕ) → Type 0
InItem depth holds text = (item : List ℕ) × ItemAt depth text item × holds item

abbrev pub AtPair : (depth : ℕ) → (List ℕ → Type 0) → (text : List ℕ) → Type 0
AtPair depth holds text = (pair : List ℕ) × PairComes depth text pair × holds pair

abbrev pub InPair : (depth : ℕ) → (List ℕ → Type 0) → (text : List ℕ) → Type 0
InPair depth holds text = (found : TomlNodes) × (name : Key) × (here : ℕ) × (at : PairAt depth text found name here) × holds at.after

-- so deep in the value that begins here another array or table in braces begins, or less deep a key of more than 80 parts, with this much left
abbrev pub NestsPast : (depth left : ℕ) → (text : List ℕ) → Type 0
NestsPast zero left text = ((first text ≡ left_bracket) ⊎ (first text ≡ left_brace)) × (left ≡ length text)
NestsPast (suc depth) left text =
    ((first text ≡ left_bracket) × InItem depth (NestsPast depth left) (drop 1 text))
    ⊎ ((first text ≡ left_brace) × (AtPair depth (HasLongKey left) (drop 1 text) ⊎ InPair depth (NestsPast depth left) (drop 1 text)))

-- In the value that begins here two pairs of a table in braces clash.
abbrev pub ClashesIn : (depth : ℕ) → (key : List ℕ) → (one two : ℕ) → (text : List ℕ) → Type 0
ClashesIn zero key one two text = ⊥
ClashesIn (suc depth) key one two text =
    ((first text ≡ left_bracket) × InItem depth (ClashesIn depth key one two) (drop 1 text))
    ⊎ ((first text ≡ left_brace) × (PairsClash depth (drop 1 text) key one two ⊎ InPair depth (ClashesIn depth key one two) (drop 1 text)))

-- why no value is read: by two definitions of a key in it, or since it nests so deep or has so long a key
abbrev pub ValueTells : (depth : ℕ) → (text : List ℕ) → Fault → Type 0
ValueTells depth text found = FaultTells found (λ key one two. ClashesIn depth key one two text) (λ left. NestsPast depth left text)

-- of the value of the pair that begins here
abbrev pub InValue : (List ℕ → Type 0) → (text : List ℕ) → Type 0
InValue holds text = (name : Key) × (value : List ℕ) × (key_equals text ≡ Some (name, value)) × holds value

-- it nests so past the limit
abbrev pub PairNestsPast : (text : List ℕ) → (left : ℕ) → Type 0
PairNestsPast text left = InValue (NestsPast recursion_limit left) text

-- two pairs of a table in braces clash in it
abbrev pub PairClashes : (text : List ℕ) → (key : List ℕ) → (one two : ℕ) → Type 0
PairClashes text key one two = InValue (ClashesIn recursion_limit key one two) text

-- the text from the key of an expression on: a header has it after one bracket or two, and blanks
abbrev pub own_key : List ℕ → List ℕ
own_key text =
    if is_doubled text then skip_ws (drop 2 text) else if first text == left_bracket then skip_ws (drop 1 text) else text

-- an expression has too many parts in its key, or is such a pair
abbrev pub ExpressionNestsPast : (text : List ℕ) → (left : ℕ) → Type 0
ExpressionNestsPast text left = HasLongKey left (own_key text) ⊎ PairNestsPast text left

-- why no expression is read, likewise
abbrev pub ExpressionTells : (text : List ℕ) → Fault → Type 0
ExpressionTells text found = FaultTells found (PairClashes text) (ExpressionNestsPast text)

-- the text is read up to such an expression
pub record NestsTooDeep (text : List ℕ) (left : ℕ) : Type 0 where
  pub doc : TomlDocument
  pub rest : List ℕ
  pub read : ReadsUpTo text doc rest
  pub nests : ExpressionNestsPast (skip_blank rest) left

-- the text is read up to an expression in which two pairs clash
pub record PairsConflictIn (text : List ℕ) (key : List ℕ) (one two : ℕ) : Type 0 where
  pub doc : TomlDocument
  pub rest : List ℕ
  pub read : ReadsUpTo text doc rest
  pub pairs : PairClashes (skip_blank rest) key one two

-- two expressions define the key, or two pairs of a table in braces
abbrev pub Conflict : (text : List ℕ) → (key : List ℕ) → (one two : ℕ) → Type 0
Conflict text key one two = ExpressionsConflict text key one two ⊎ PairsConflictIn text key one two

-- why a text is refused: by two definitions of a key, or by a value that nests too deep or a key of too many parts
abbrev pub HasReason : (text : List ℕ) → Fault → Type 0
HasReason text found = FaultTells found (Conflict text) (NestsTooDeep text)
