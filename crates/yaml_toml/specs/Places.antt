-- The places at which errors say that a text is refused.
use Rattle.std.specs.Prelude.{◌≡◌, ℕ, ◌-◌, ◌≤◌, true, List, drop, length, string_bytes}
use Rattle.toml_ordered.specs.Firsts.{NeitherTells}
use Rattle.toml_ordered.specs.Nesting.{Conflict, NestsTooDeep}
use Rattle.toml_ordered.specs.Places.{StopsAtExpression}
use Rattle.toml_ordered.specs.Syntax.{holds}
use Rattle.toml_ordered.specs.declared.syntax.SyntaxError.{SyntaxError}
use Rattle.yaml_base.specs.declared.places.Position.{Position}
use Rattle.yaml_base.specs.Positions.{IsPositionOf}
use Rattle.yaml_toml.specs.Walk.{DeniesToml}
use Rattle.yaml_toml.specs.declared.error.TomlError.{TomlError}
use Rattle.yaml_toml.specs.declared.error.TomlError.TheVariants as errors

-- an error of the text, whose position is that at which this much of it is left
abbrev pub IsBeforeLeft : (text : List ℕ) → (left : ℕ) → TomlError → Type 0
IsBeforeLeft text left (errors.NotToml position why) = IsPositionOf text (length text - left) position
IsBeforeLeft text left (errors.DefinedAgain key name first position) = IsPositionOf text (length text - left) position
IsBeforeLeft text left (errors.TooDeepToRead position) = IsPositionOf text (length text - left) position
IsBeforeLeft text left _ = ⊥

-- If an error says that the text is no document of TOML, the text is read up to an expression that is refused, and the error's place is
-- there or after.
abbrev pub HasTomlPlace : (text : List ℕ) → TomlError → Type 0
HasTomlPlace text error = DeniesToml error → (left : ℕ) × StopsAtExpression text left × IsBeforeLeft text left error

-- the reason holds of the bytes of the text from this position on
abbrev pub SaysWhy : (text : List ℕ) → Position → SyntaxError → Type 0
SaysWhy text position why =
    (left : ℕ) × (left ≤ length text) × IsPositionOf text (length text - left) position × (holds why (drop (length text - left) text) ≡ true)

-- If an error says that a key is defined again, the text defines this key at both places of the error, and the key takes no more; if it says
-- that nothing is read that deep, a value in the text nests so deep at its place, or a key of more than 80 parts begins there. If it says only
-- that the text isn't TOML, the text does neither, and the reason holds at its place.
abbrev pub HasTomlReason : (text : List ℕ) → TomlError → Type 0
HasTomlReason text (errors.TooDeepToRead position) = (left : ℕ) × NestsTooDeep text left × IsPositionOf text (length text - left) position
HasTomlReason text (errors.DefinedAgain key name first position) =
    (before : ℕ) × (here : ℕ) × Conflict text (string_bytes key) before here
    × IsPositionOf text (length text - before) first × IsPositionOf text (length text - here) position
HasTomlReason text (errors.NotToml position why) = NeitherTells (Conflict text) (NestsTooDeep text) × SaysWhy text position why
HasTomlReason text _ = Unit {0}
