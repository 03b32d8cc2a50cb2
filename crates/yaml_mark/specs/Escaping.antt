-- Escaping by bytes.
use Rattle.std.specs.Prelude.{◌≡◌, ℕ, Bool, true, false, List, ◌++◌, take, drop, chars}
use Rattle.std.specs.Str.{IsAscii, IsCharBoundary}
use Rattle.std.specs.List.{list_any}
use Rattle.yaml_base.specs.Characters.{is_break}
use Rattle.yaml_base.specs.Percent.{is_suffix_character, percent_escaped, prefix_escaped}
use Rattle.yaml_mark.specs.declared.writing.FlowIndicators.{FlowIndicators}
use Rattle.yaml_mark.specs.declared.writing.FlowIndicators.TheVariants.{Raw, Escaped}

-- flow indicators are escaped in portable mode
abbrev pub are_escaped : FlowIndicators → Bool
are_escaped Raw = false
are_escaped Escaped = true

-- true of a byte of a text's UTF-8 that stays as it is
abbrev pub stays_raw : FlowIndicators → ℕ → Bool
stays_raw indicators byte = is_suffix_character (are_escaped indicators) byte

-- that many bytes of a prefix stay as they are, and the rest is written as a tag is
pub record IsPrefixRun (portable : Bool) (prefix : List ℕ) (size : ℕ) : Type 0 where
  pub boundary : IsCharBoundary prefix size
  pub run : IsAscii (take size prefix)
  pub unbroken : list_any is_break (take size prefix) ≡ false
  pub written : prefix_escaped portable (chars prefix) ≡ take size prefix ++ percent_escaped (chars (drop size prefix))
