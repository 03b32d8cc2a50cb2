-- The offset of an error in its text, by the offset at which the last token that was read begins.
use Rattle.std.specs.Prelude.{◌≡◌, ◌≢◌, ◌<◌, ◌≤◌, ℕ, List, ◌∷◌, drop, length}
use Rattle.json.specs.Lex.{Lexeme, between, lex}
use Rattle.json.specs.Word.{head}
use Rattle.json.specs.Strict.{HasUniqueKeys}
use Rattle.yaml_json.specs.Ahead.{IsTrimmed}
use Rattle.yaml_json.specs.Lexing.{Leads}
use Rattle.yaml_json.specs.Places.{CannotStandAt, IsAny, IsWithinDepth}
use Rattle.yaml_json.specs.declared.values.Spot.TheVariants.{At, PastString, PastValue}
use Rattle.yaml_json.specs.declared.values.Stop.{Stop}
use Rattle.yaml_json.specs.declared.values.Stop.TheVariants as stops

-- one lexeme is passed, and the blanks after it
pub record PassesLexeme (text rest : List ℕ) : Type 0 where
  pub first : Lexeme
  pub parts : lex between text ≡ first ∷ lex between rest
  pub leads : Leads text rest
  pub trimmed : IsTrimmed rest

-- the lexeme is passed that begins here
abbrev pub IsPast : (text : List ℕ) → (last at : ℕ) → Type 0
IsPast text last at =
    (at ≤ length text)
    × (last < length text → head (drop last text) ≢ 92 → IsTrimmed (drop last text) → PassesLexeme (drop last text) (drop at text))

abbrev pub IsOffset : (text : List ℕ) → (last : ℕ) → Stop → (at : ℕ) → Type 0
IsOffset text last (stops.NotJson At) at = at ≡ last
IsOffset text last (stops.NotJson PastString) at = IsPast text last at
IsOffset text last (stops.NotJson PastValue) at = IsPast text last at
IsOffset text last stops.TooDeep at = at ≡ last
IsOffset text last stops.NameAgain at = at ≡ last
IsOffset text last (stops.Failed error) at = at ≡ last

-- the text stops the writing at the lexeme that begins here
abbrev pub StopsAtLexeme : (depth : ℕ) → (text : List ℕ) → (at : ℕ) → Stop → Type 0
StopsAtLexeme depth text at (stops.NotJson spot) = CannotStandAt IsAny text at
StopsAtLexeme depth text at stops.TooDeep = CannotStandAt (IsWithinDepth depth) text at
StopsAtLexeme depth text at stops.NameAgain = CannotStandAt HasUniqueKeys text at
StopsAtLexeme depth text at (stops.Failed error) = Unit {0}
