-- The places at which lexemes begin, computed on small texts.
use Rattle.yaml_json.proofs.Common.{codes, ◌≡◌, ℕ, ◌++◌, List, [], ◌∷◌, drop, take, refl, inl, inr, MayBegin, mode_over, Lexeme, colon, comma, token}
use Rattle.yaml_json.proofs.Common.{begin_array, begin_object}
use Rattle.json.specs.{Lex.between, Lex.lex, Text.content, Word.after_number, Word.word, Token.number, Token.string}

-- before the offset are these lexemes, and one may begin there, or the text ends
abbrev Begins : (text : List ℕ) → (at : ℕ) → List Lexeme → Type 0
Begins text at before = (before ++ lex between (drop at text) ≡ lex between text) × MayBegin (mode_over between (take at text)) (drop at text)

-- the colon of a string that isn't a name
colon_row : Begins (codes "[\"a\" :1]") 5 (token begin_array ∷ token (string (97 ∷ [])) ∷ [])
unfolding lex word after_number content
colon_row = (refl, inr tt)

-- Brackets that close too early.
closer_row : Begins (codes "[1, ]") 4 (token begin_array ∷ token (number (49 ∷ [])) ∷ comma ∷ [])
unfolding lex word after_number content
closer_row = (refl, inr tt)

-- a comma after a value
comma_row : Begins (codes "1 ,2") 2 (token (number (49 ∷ [])) ∷ [])
unfolding lex word after_number content
comma_row = (refl, inr tt)

-- the end
end_row : Begins (codes "{\"a\":") 5 (token begin_object ∷ token (string (97 ∷ [])) ∷ colon ∷ [])
unfolding lex word after_number content
end_row = (refl, inl refl)

-- not within a word
word_row : MayBegin (mode_over between (take 2 (codes "[tru]"))) (drop 2 (codes "[tru]")) → ⊥
word_row (inl none) = cc
word_row (inr ends) = cc

-- nor within a string
string_row : MayBegin (mode_over between (take 2 (codes "[\",\"]"))) (drop 2 (codes "[\",\"]")) → ⊥
string_row (inl none) = cc
string_row (inr never) = never
