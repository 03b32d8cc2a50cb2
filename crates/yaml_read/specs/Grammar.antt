-- The words that may come at each place of canonical bytes. Each definition is of the words that may come in turn.
use Rattle.std.specs.Prelude.{ℕ, ℤ, zero, suc, ◌<◌, ◌≤◌, ◌^◌, ◌≡◌, ◌⊎◌, true, List, [], ◌∷◌, codes, length}
use Rattle.std.specs.Fmt.{signed_decimal}
use Rattle.std.specs.Int.Signed.{mag}
use Rattle.std.specs.Str.{all_scalars, encode_utf8_all}
use Rattle.yaml_base.specs.scalars.DoubleQuoted.{character_text}
use Rattle.yaml_base.specs.values.TypedValues.{most_nested}
use Rattle.yaml_base.specs.graphs.DumpedText.{in_quotes}
use Rattle.yaml_read.specs.Heads.{tag_word}
use Rattle.yaml_value.specs.OpenLevels.{OpenLevel, items_open, pairs_open, value_due}
use Rattle.yaml_read.specs.declared.heads.Kind.{Kind}
use Rattle.yaml_read.specs.declared.heads.Kind.TheVariants as kind

-- no word more
abbrev pub nothing : List (List ℕ) → Type 0
nothing [] = Unit {0}
nothing (word ∷ words) = ⊥

-- this word, and then those
abbrev pub word_then : (first : List ℕ) → (More : List (List ℕ) → Type 0) → List (List ℕ) → Type 0
word_then first More [] = ⊥
word_then first More (word ∷ words) = (word ≡ first) × More words

-- these or those
abbrev pub these_or_those : (These Those : List (List ℕ) → Type 0) → List (List ℕ) → Type 0
these_or_those These Those words = These words ⊎ Those words

-- two spaces for each level, and then those
abbrev pub levels_then : (depth : ℕ) → (More : List (List ℕ) → Type 0) → List (List ℕ) → Type 0
levels_then zero More = More
levels_then (suc depth) More = word_then (codes "  ") (levels_then depth More)

-- a line's end and an indentation, and then those
abbrev pub line_then : (depth : ℕ) → (More : List (List ℕ) → Type 0) → List (List ℕ) → Type 0
line_then depth More = word_then (codes "\n") (levels_then depth More)

-- ---- nodes

-- characters, and the closing quote
abbrev pub characters : List (List ℕ) → Type 0
characters [] = ⊥
characters (word ∷ words) =
    ((word ≡ codes "\"") × nothing words)
    ⊎ ((c : ℕ) × (all_scalars (c ∷ []) ≡ true) × (word ≡ encode_utf8_all (character_text true c)) × characters words)

abbrev pub quoted_text : List (List ℕ) → Type 0
quoted_text = word_then (codes "\"") characters

-- an integer of 64 bits, and a truth value
abbrev pub integer : List (List ℕ) → Type 0
integer words = (n : ℤ) × (mag n < 2 ^ 63) × word_then (encode_utf8_all (in_quotes (signed_decimal n))) nothing words

abbrev pub truth : List (List ℕ) → Type 0
truth = these_or_those (word_then (codes "\"true\"") nothing) (word_then (codes "\"false\"") nothing)

-- after the opening bracket of a list or a map that lies in so many others: those, or no word if it lies too deep
abbrev pub unless_deep : (depth : ℕ) → (More : List (List ℕ) → Type 0) → List (List ℕ) → Type 0
unless_deep depth More words = ((depth < most_nested) × More words) ⊎ ((most_nested ≤ depth) × nothing words)

-- after the tag of a node that lies in so many lists and maps: up to its end, or to the first node in it
abbrev pub behind_tag : (depth : ℕ) → Kind → List (List ℕ) → Type 0
behind_tag depth kind.Null = word_then (codes "\"null\"") nothing
behind_tag depth kind.Bool = truth
behind_tag depth kind.Int = integer
behind_tag depth kind.Text = quoted_text
behind_tag depth kind.List =
    word_then (codes "[") (unless_deep depth (these_or_those (word_then (codes "]") nothing) (line_then (suc depth) nothing)))
behind_tag depth kind.Map =
    word_then (codes "{") (unless_deep depth (these_or_those (word_then (codes "}") nothing) (line_then (suc depth) (word_then (codes "? ") nothing))))

abbrev pub node : (depth : ℕ) → List (List ℕ) → Type 0
node depth words = (k : Kind) × word_then (tag_word k) (behind_tag depth k) words

-- ---- after a node

-- after an entry: up to the next one, or past the closing bracket
abbrev pub entry_end : (depth : ℕ) → (lead end : List ℕ) → List (List ℕ) → Type 0
entry_end depth lead end = word_then (codes ",") (line_then depth (these_or_those (word_then lead nothing) (word_then end nothing)))

-- after a value in a list or a map that lies so deep; after a key up to its value
abbrev pub behind_in : (depth : ℕ) → OpenLevel → List (List ℕ) → Type 0
behind_in depth (items_open items) = entry_end depth (codes "  ") (codes "]")
behind_in depth (value_due pairs key) = entry_end depth (codes "  ? ") (codes "}")
behind_in depth (pairs_open pairs) = line_then depth (word_then (codes "  : ") nothing)

-- after a value that has its place in the open lists and maps
abbrev pub behind_value : List OpenLevel → List (List ℕ) → Type 0
behind_value [] = word_then (codes "\n") nothing
behind_value (level ∷ levels) = behind_in (length levels) level
