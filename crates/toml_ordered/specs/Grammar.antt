-- The value and the document that a text writes, by the sections of TOML 1.1 that are named below, with the keys of each table in the
-- order in which they are first defined, and with the characters of each float. The tokens (keys, strings, numbers, dates, blanks) are
-- those of `toml_parser`.
use Rattle.std.specs.Prelude.{ℕ, zero, suc, ◌&&◌, ◌||◌, ◌==◌, not, if◌then◌else◌, Bool, List, [], length, take, drop, slice_index, filter}
use Rattle.std.specs.Prelude.{codes, bytes_eq, Option, Some, None, option_map, option_and_then}
use Rattle.toml_parser.specs.Lexical.{Read, dash, plus, underscore, left_bracket, right_bracket, left_brace, right_brace}
use Rattle.toml_parser.specs.Lexical.{first, skip_ws, skip_blank}
use Rattle.toml_parser.specs.Strings.{Key, key, quoted, starts_string, recursion_limit}
use Rattle.toml_parser.specs.Numbers.{unquoted, word_len}
use Rattle.toml_parser.specs.declared.scalar.Scalar.{Scalar, TheVariants.Boolean, TheVariants.Integer, TheVariants.Float, TheVariants.Datetime}
use Rattle.toml.specs.Parse.{read_map, after_byte, after_element, key_equals, header_key, ends_line, skip_bom}
use Rattle.toml_ordered.specs.Data.{TomlNode, string, integer, decimal, infinity, not_a_number, boolean, datetime, array, table, Items, no_items, push_item}
use Rattle.toml_ordered.specs.Data.{TomlNodes, no_nodes}
use Rattle.toml_ordered.specs.Tables.{Expression, key_value, std_table, array_table, TomlDocument, put, define}
use Rattle.toml_ordered.specs.declared.tree.Origin.TheVariants.{Closed}

-- the characters of a word but underscores
abbrev pub plain_word : List ℕ → List ℕ
plain_word word = filter (λ c. not (c == underscore)) word

-- a word without the sign that begins it
abbrev pub without_sign : List ℕ → List ℕ
without_sign word = if first word == plus || first word == dash then drop 1 word else word

-- a float by its word
abbrev pub float_node : List ℕ → TomlNode
float_node word =
    if bytes_eq (without_sign word) (codes "inf") then infinity (first word == dash)
    else if bytes_eq (without_sign word) (codes "nan") then not_a_number
    else decimal word

-- a scalar, with the word that writes it
abbrev pub scalar_node : List ℕ → Scalar → TomlNode
scalar_node word (Boolean b) = boolean b
scalar_node word (Integer z) = integer z
scalar_node word (Float x) = float_node (plain_word word)
scalar_node word (Datetime d) = datetime d

-- A rule takes a value from the front of a text, and leaves the rest.
abbrev pub Rule : Type 0 → Type 0
Rule A = List ℕ → Read A

-- a value that was taken, and then the rule that it leads to
abbrev pub then_read : {A B : Type 0} → Read A → (A → Rule B) → Read B
then_read taken rule = option_and_then (λ p. rule p.0 p.1) taken

-- a value that was taken, and the byte after it
abbrev pub then_byte : {A B : Type 0} → ℕ → (A → B) → Read A → Read B
then_byte byte make taken = then_read taken (λ x rest. option_map (λ end. (make x, end)) (after_byte byte rest))

-- String, Integer, Float, Boolean and the four sections of dates and times: a value that holds no other
abbrev pub atom : Rule TomlNode
atom text =
    if starts_string text then read_map string (quoted text)
    else read_map (scalar_node (take (word_len text) text)) (unquoted text)

-- Keys: a key before this byte
abbrev pub key_before : ℕ → Rule Key
key_before byte text = then_byte byte (λ name. name) (key text)

-- Array and Inline Table: the closing bracket after those found, or else one more
abbrev pub end_or : {A : Type 0} → (closing : ℕ) → A → Rule A → Rule A
end_or closing found more text =
    let start = skip_blank text in
    if first start == closing then Some (found, drop 1 start) else more start

-- the end of an item or a pair, and on by this rule: a comma, unless the closing bracket is next
abbrev pub past_comma : {A : Type 0} → (closing : ℕ) → Rule A → Rule A
past_comma closing others text = option_and_then others (after_element closing text)

module _ (val : Rule TomlNode) where
  -- Key/Value Pair
  abbrev pub keyval : Rule (Key × TomlNode)
  keyval text = then_read (key_equals text) (λ name at. read_map (λ x. (name, x)) (val at))

  -- Array: its items after those found; the number only has to suffice for them
  unfoldable pub items : ℕ → Items → Rule Items
  items zero found _ = None
  items (suc n) found inner =
      end_or right_bracket found (λ start. then_read (val start) (λ x. past_comma right_bracket (items n (push_item found x)))) inner

  -- Inline Table: its keys after the pairs that follow those found, likewise
  unfoldable pub members : ℕ → TomlNodes → Rule TomlNodes
  members zero found _ = None
  members (suc n) found inner =
      end_or right_brace found
      (λ start. then_read (keyval start)
      (λ pair rest. option_and_then (λ more. past_comma right_brace (members n more) rest) (put pair.0 pair.1 found)))
      inner

-- by its first byte, a value in brackets, in braces, or in neither
abbrev pub by_bracket : {A : Type 0} → (brackets braces other : Rule A) → Rule A
by_bracket brackets braces other text =
    if first text == left_bracket then brackets (drop 1 text)
    else if first text == left_brace then braces (drop 1 text)
    else other text

-- any value, in which arrays and inline tables nest at most so deep
unfoldable pub val : ℕ → Rule TomlNode
val zero text = if first text == left_bracket || first text == left_brace then None else atom text
val (suc depth) text =
    by_bracket
    (λ inner. read_map array (items (val depth) (length text) no_items inner))
    (λ inner. read_map (table Closed) (members (val depth) (length text) no_nodes inner))
    atom text

-- two brackets begin the text
abbrev pub is_doubled : List ℕ → Bool
is_doubled text = first text == left_bracket && slice_index text 1 == left_bracket

-- Array of Tables, after two brackets; Table, after one; and Key/Value Pair
abbrev pub expression : Rule Expression
expression text =
    if is_doubled text then then_byte right_bracket (λ name. (name, array_table)) (header_key (drop 2 text))
    else if first text == left_bracket then read_map (λ name. (name, std_table)) (header_key (drop 1 text))
    else read_map (λ pair. (pair.0, key_value pair.1)) (keyval (val recursion_limit) text)

-- Key/Value Pair and Table: nothing but a comment follows it on its line
abbrev pub line : Rule Expression
line text = option_and_then (λ taken. if ends_line (skip_ws taken.1) then Some taken else None) (expression text)

-- the document after all that is left of the text; the number only has to suffice for its lines
unfoldable pub lines : ℕ → TomlDocument → List ℕ → Option TomlDocument
lines zero _ _ = None
lines (suc n) before left =
    let start = skip_blank left in
    if length start == 0 then Some before
    else option_and_then (λ taken. option_and_then (λ after. lines n after taken.1) (define before taken.0)) (line start)

-- the root table of the document that a text is
unfoldable pub ordered_document : List ℕ → Option TomlNodes
ordered_document text = option_map (λ all. all.0) (lines (suc (length text)) (no_nodes, []) (skip_bom text))
