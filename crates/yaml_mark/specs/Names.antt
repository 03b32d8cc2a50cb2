-- The refusals of names.
use Rattle.std.specs.Prelude.{Option}
use Rattle.yaml_base.specs.Characters.{Text}
use Rattle.yaml_base.specs.Tags.{name_fault}
use Rattle.yaml_base.specs.declared.errors.yaml_error_t.{yaml_error_t}
use Rattle.yaml_base.specs.declared.errors.yaml_error_t.TheVariants.{AnchorEmpty, AnchorAlphabet, AliasEmpty, AliasAlphabet}
use Rattle.yaml_mark.specs.declared.names.Name.{Name}
use Rattle.yaml_mark.specs.declared.names.Name.TheVariants.{Anchor, Alias}

-- an empty name
abbrev pub empty_error : Name → yaml_error_t
empty_error Anchor = AnchorEmpty
empty_error Alias = AliasEmpty

-- a name with another character
abbrev pub alphabet_error : Name → yaml_error_t
alphabet_error Anchor = AnchorAlphabet
alphabet_error Alias = AliasAlphabet

-- the refusal of a name
abbrev pub refusal_of_name : Name → Text → Option yaml_error_t
refusal_of_name name text = name_fault (empty_error name) (alphabet_error name) text
