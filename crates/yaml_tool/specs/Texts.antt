-- The meaning of a step in reading a text for the reading of the whole.
use Rattle.std.specs.Prelude.{List, ◌≡◌, ℕ, ◌<◌, Option, None, Some, [], ◌∷◌, ◌++◌, length, option_map}
use Rattle.std.specs.Str.{chars, IsUtf8}
use Rattle.yaml_base.specs.Characters.{Text}
use Rattle.yaml_base.specs.scripts.Script as notation
use Rattle.yaml_base.specs.scripts.Script.{stands_for, fails}
use Rattle.yaml_tool.specs.declared.texts.TextStep.{TextStep}
use Rattle.yaml_tool.specs.declared.texts.TextStep.TheVariants.{Ends, StandsFor, Fails}

-- a character, or none, as the notation has it
abbrev pub step_of : Option ℕ → notation.QuotedStep
step_of None = fails
step_of (Some character) = stands_for character

-- the reading of a text by its first step: the end of the text; a character before the shorter rest; or a fault, which has no reading
abbrev pub StepsTo : TextStep → Option Text → List ℕ → Type 0
StepsTo Ends read behind = read ≡ Some []
StepsTo (StandsFor character rest) read behind =
    (read ≡ option_map (λ others. character ∷ others) (notation.text_from notation.at_character (chars rest.now))) × (length rest.now < length behind)
    × IsUtf8 rest.now
StepsTo Fails read behind = read ≡ None

-- a text reads as its prefix, which means itself, before the rest
abbrev pub ReadsPrefix : Text → Text → Text → Type 0
ReadsPrefix whole prefix behind =
    notation.text_from notation.at_character whole ≡ option_map (λ more. prefix ++ more) (notation.text_from notation.at_character behind)
