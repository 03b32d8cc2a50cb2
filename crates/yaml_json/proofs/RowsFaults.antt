-- The faults of strings and numbers, computed on small texts.
use Rattle.yaml_json.proofs.Common.{codes, ◌≡◌, ℕ, List, ◌++◌, ◌∷◌, refl, said_at, Expected}
use Rattle.json.specs.Text.{code_unit, short_escape}
use Rattle.yaml_json.specs.declared.expecting.Expected.TheVariants as expected

-- of the lexeme at the first offset the error says this, at the second
abbrev Says : (text : List ℕ) → (lexeme : ℕ) → Expected → (at : ℕ) → Type 0
Says text lexeme says at = said_at text lexeme ≡ (says, at)

control_row : Says (codes "[\"ab" ++ 9 ∷ codes "\"]") 1 expected.Control 4
control_row = refl

escape_row : Says (codes "{\"a\\n\\x\":1}") 1 expected.Escape 5
unfolding short_escape
escape_row = refl

digits_row : Says (codes "[1,\"\\u12g4\"]") 3 expected.Escape 4
unfolding code_unit
digits_row = refl

-- a pair is whole, and half of one follows
half_row : Says (codes "\"\\ud83d\\ude00\\ud83d\\n\"") 0 expected.Surrogate 13
unfolding code_unit short_escape
half_row = refl

low_row : Says (codes "\"\\udc00\"") 0 expected.Surrogate 1
unfolding code_unit
low_row = refl

open_row : Says (codes "\"ab\\") 0 expected.Quote 4
open_row = refl

zero_row : Says (codes "{\"a\":-01}") 5 expected.LeadingZero 6
zero_row = refl

point_row : Says (codes "[1.]") 1 expected.Digit 3
point_row = refl

no_integer_row : Says (codes "[-.5]") 1 expected.Digit 2
no_integer_row = refl

exponent_row : Says (codes "[1.5E+]") 1 expected.Digit 6
exponent_row = refl

-- a number is no name, and after a value none is possible
name_row : Says (codes "{01:1}") 1 expected.NameOrEnd 1
name_row = refl

after_value_row : Says (codes "[1 \"\\x\"]") 3 expected.CommaOrBracket 3
after_value_row = refl

-- a word that is no number has no fault
word_row : Says (codes "[0x1]") 1 expected.ItemOrEnd 1
word_row = refl
