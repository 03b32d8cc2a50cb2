-- Words at a text's beginning, and what follows them, in bytes.
use Rattle.std.specs.Prelude.{ℕ, ◌≡◌, ◌==◌, Option, None, Some, Result, Ok, Err, List, [], ◌∷◌, ◌++◌, if◌then◌else◌}
use Rattle.std.specs.Borrow.{Bor}
use Rattle.yaml_read.specs.declared.errors.Stop.{Stop}
use Rattle.yaml_read.specs.declared.errors.Stop.TheVariants as stop

-- The text after a word at a text's beginning.
abbrev pub past_word : (word text : List ℕ) → Option (List ℕ)
past_word [] text = Some text
past_word (w ∷ word) [] = None
past_word (w ∷ word) (c ∷ text) = if c == w then past_word word text else None

-- the text begins with the word, and this follows it; or it doesn't begin with the word
abbrev pub CutsIf : (word text : List ℕ) → Option (Bor (List ℕ)) → Type 0
CutsIf word text (Some rest) = text ≡ word ++ rest.now
CutsIf word text None = past_word word text ≡ None

abbrev pub Cuts : (word text : List ℕ) → Result (Bor (List ℕ)) Stop → Type 0
Cuts word text (Ok rest) = text ≡ word ++ rest.now
Cuts word text (Err error) = past_word word text ≡ None

-- memory gave out
abbrev pub IsMemory : Stop → Type 0
IsMemory stop.Memory = Unit {0}
IsMemory _ = ⊥

-- the answer is this, unless memory gave out
abbrev pub OrMemory : {T : Type 0} → (T → Type 0) → Result T Stop → Type 0
OrMemory Holds (Ok found) = Holds found
OrMemory Holds (Err error) = IsMemory error
