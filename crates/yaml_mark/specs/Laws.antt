-- The laws of written tags.
use Rattle.std.specs.Prelude.{◌≡◌, Bool, true, false, None, Some, List, ◌||◌, ◌≢◌, codes}
use Rattle.std.specs.List.{list_any}
use Rattle.std.specs.Str.{all_scalars}
use Rattle.yaml_base.specs.Characters.{Text, is_blank, is_break, is_among}
use Rattle.yaml_base.specs.Event.{TagDirective}
use Rattle.yaml_base.specs.Percent.{percent_escaped, suffix_escaped, prefix_escaped}
use Rattle.yaml_base.specs.Tags.{directives_fault, directives_in_force, spelling, spelled}
use Rattle.yaml_base.specs.reading.ReadPercent.{percent_read}
use Rattle.yaml_base.specs.reading.ReadTags.{name_parsed}
use Rattle.yaml_base.specs.reading.CanonicalReader.{read_tag}

-- decoding undoes escaping
abbrev pub EscapedTextReads : Text → Type 0
EscapedTextReads text = all_scalars text ≡ true → percent_read (percent_escaped text) ≡ Some text

-- and also after a handle, and in a prefix
abbrev pub EscapedSuffixReads : (portable : Bool) → Text → Type 0
EscapedSuffixReads portable text = all_scalars text ≡ true → percent_read (suffix_escaped portable text) ≡ Some text

-- a prefix is decoded as itself
abbrev pub EscapedPrefixReads : (portable : Bool) → Text → Type 0
EscapedPrefixReads portable text = all_scalars text ≡ true → percent_read (prefix_escaped portable text) ≡ Some text

-- in portable mode no flow indicator follows a handle
abbrev pub PortableSuffixHoldsNoFlowIndicator : Text → Type 0
PortableSuffixHoldsNoFlowIndicator text = list_any (is_among (codes ",[]")) (suffix_escaped true text) ≡ false

-- a tag as a document with these directives writes it
abbrev pub written_tag : (portable : Bool) → List TagDirective → Text → Text
written_tag portable own tag = spelled portable (spelling (directives_in_force own) tag)

-- a written tag is read as the tag
abbrev pub WrittenTagReads : (portable : Bool) → List TagDirective → Text → Type 0
WrittenTagReads portable own tag =
    directives_fault own ≡ None → all_scalars tag ≡ true → read_tag own (written_tag portable own tag) ≡ Some (name_parsed tag)

-- escaped text holds no character that could end it or that has a meaning in a tag
abbrev pub EscapedTextSeparatesNothing : Text → Type 0
EscapedTextSeparatesNothing text =
    list_any (λ c. is_blank c || is_break c || is_among (codes "!<>") c) (percent_escaped text) ≡ false

-- a written tag has no white space
abbrev pub WrittenTagIsOneWord : (portable : Bool) → List TagDirective → Text → Type 0
WrittenTagIsOneWord portable own tag =
    directives_fault own ≡ None → list_any (λ c. is_blank c || is_break c) (written_tag portable own tag) ≡ false

-- a written tag isn't the bare tag
abbrev pub WrittenTagIsNotBare : (portable : Bool) → List TagDirective → Text → Type 0
WrittenTagIsNotBare portable own tag = directives_fault own ≡ None → written_tag portable own tag ≢ codes "!"
