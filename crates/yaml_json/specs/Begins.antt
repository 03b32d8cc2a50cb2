-- Tokens with which values of JSON begin.
use Rattle.std.specs.Prelude.{◌≡◌, ℕ, ◌≤◌, Bool, true, List, [], ◌∷◌, ◌++◌}
use Rattle.json.specs.Token.{Token}
use Rattle.json.specs.Json.{Json}
use Rattle.json.specs.Strict.{HasUniqueKeys}
use Rattle.json.specs.Tree.{depth as nesting, json_tokens}
use Rattle.yaml_base.specs.Prefix.{IsPrefix}

-- some value begins with these tokens
abbrev pub BeginsSome : List Token → Type 0
BeginsSome taken = (json : Json) × IsPrefix taken (json_tokens json)

-- some value nested at most `depth` deep begins with these tokens
pub record BeginsWithinDepth (depth : ℕ) (taken : List Token) : Type 0 where
  pub json : Json
  pub nested : nesting json ≤ depth
  pub begins : IsPrefix taken (json_tokens json)

-- The value nests at most `depth` deep; and if names must be unique, each object has each name once.
pub record IsAllowed (depth : ℕ) (unique : Bool) (json : Json) : Type 0 where
  pub nested : nesting json ≤ depth
  pub names : unique ≡ true → HasUniqueKeys json

-- some such value begins with these tokens
pub record BeginsAllowed (depth : ℕ) (unique : Bool) (taken : List Token) : Type 0 where
  pub json : Json
  pub allowed : IsAllowed depth unique json
  pub begins : IsPrefix taken (json_tokens json)

-- No value continues these tokens with the next of those; and if there is no next, no value ends here.
abbrev pub NoneGoesOn : (taken left : List Token) → Type 0
NoneGoesOn taken [] = (json : Json) → json_tokens json ≡ taken → ⊥
NoneGoesOn taken (next ∷ left) = BeginsSome (taken ++ next ∷ []) → ⊥
