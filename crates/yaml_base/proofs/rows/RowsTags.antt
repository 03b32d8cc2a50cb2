-- Worked rows of tags, names and directives, computed.
use Rattle.yaml_base.proofs.Common.{ℕ, Option, None, Some, codes, pos, false, List, [], ◌++◌, ◌∷◌, refl, ◌≡◌, Text, TagDirective, percent_escaped, anchor_fault}
use Rattle.yaml_base.proofs.Common.{alias_fault, tag_fault, version_fault, directives_fault, directives_in_force, spelling, spelled, read_tag, percent_read}
use Rattle.yaml_base.proofs.Common.{bare_parsed, name_parsed}
use Rattle.std.specs.Str.{chars, is_utf8}
use lib.Utf8.{encode}
use Rattle.yaml_base.{proofs.rows.Cases.Gives, proofs.rows.Cases.GivesOfTwo, specs.declared.errors.yaml_error_t.yaml_error_t}
use Rattle.yaml_base.specs.declared.errors.yaml_error_t.TheVariants.{AliasAlphabet, AliasEmpty, AnchorAlphabet, AnchorEmpty, DuplicateDirective}
use Rattle.yaml_base.specs.declared.errors.yaml_error_t.TheVariants.{IncompatibleVersion, TagEmpty, TagHandleAlphabet, TagHandleEmpty, TagHandleEnd}
use Rattle.yaml_base.specs.declared.errors.yaml_error_t.TheVariants.{TagHandleStart, TagPrefixEmpty}

abbrev directive : Text → Text → TagDirective
directive handle prefix = record { handle = handle; prefix = prefix }

abbrev defaults : List TagDirective
defaults = directives_in_force []

percent_forms_written : Gives percent_escaped (
    (codes "a!b%c,[]<> ", codes "a%21b%25c,[]%3C%3E%20")  -- escapes signs
    ∷ (0 ∷ 0xE9 ∷ 0x1F600 ∷ [], codes "%00%C3%A9%F0%9F%98%80")  -- escapes utf8
    ∷ [])
unfolding encode
percent_forms_written = refl

percent_forms_read : Gives percent_read (
    (codes "a%21b%C3%a9%00c", Some (codes "a!b" ++ 0xE9 ∷ 0 ∷ codes "c"))  -- reads percent forms
    ∷ (codes "a%2", None)  -- reads no broken form
    ∷ (codes "%%34%31", None)  -- reads no sign in a form
    ∷ (codes "%C3", None)  -- reads no lone byte
    ∷ [])
unfolding is_utf8 chars encode
percent_forms_read = refl

spellings : Gives (spelled false) (
    (spelling defaults (codes "tag:yaml.org,2002:int"), codes "!!int")  -- own type
    ∷ (spelling defaults (codes "!foo"), codes "!foo")  -- local tag
    ∷ (spelling defaults (codes "!"), codes "!<%21>")  -- only the sign
    ∷ (spelling defaults (codes "!a!b"), codes "!a%21b")  -- sign within
    ∷ (spelling defaults (codes "tag:yaml.org,2002:"), codes "!<tag:yaml.org,2002:>")  -- as long as the prefix
    ∷ (spelling (directives_in_force (directive (codes "!e!") (codes "!x") ∷ [])) (codes "!xy"), codes "!e!y")  -- own handle
    ∷ (
      spelling (directives_in_force (directive (codes "!!") (codes "tag:e.com,2000:") ∷ [])) (codes "tag:yaml.org,2002:str"),
      codes "!<tag:yaml.org,2002:str>",
    )  -- other types
    ∷ (spelling defaults (codes "!" ++ 0xE9 ∷ 0 ∷ []), codes "!%C3%A9%00")  -- null and accent
    ∷ [])
unfolding encode
spellings = refl

tags_read : GivesOfTwo read_tag (
    ([], codes "!", Some bare_parsed)  -- reads bare
    ∷ (directive (codes "!e!") (codes "!x") ∷ [], codes "!e!y%21", Some (name_parsed (codes "!xy!")))  -- reads shorthand
    ∷ ([], codes "!!int", Some (name_parsed (codes "tag:yaml.org,2002:int")))  -- reads default
    ∷ ([], codes "!<%21>", Some (name_parsed (codes "!")))  -- reads verbatim
    ∷ ([], codes "!<a", None)  -- reads no open verbatim
    -- a space ends a tag in a canonical stream, so it may hold the flow indicators
    ∷ ([], codes "!a,[b]", Some (name_parsed (codes "!a,[b]")))  -- reads flow indicators
    ∷ [])
unfolding is_utf8 chars encode
tags_read = refl

-- outputs of wrong writers: a sign that isn't escaped, a handle that the document doesn't give, `%` left as it was
reads_other_tags :
    (read_tag [] (codes "!a!b") ≡ None) × (read_tag [] (codes "a") ≡ None) × (read_tag [] (codes "!%") ≡ None)
    × (read_tag [] (codes "!<a%2>") ≡ None) × (read_tag [] (codes "!%C3") ≡ None) × (read_tag [] [] ≡ None)
unfolding is_utf8 chars encode
reads_other_tags = (refl, refl, refl, refl, refl, refl)

-- a document's own directive comes before the one assumed, and the first of two before the second
reads_by_the_first_directive :
    (read_tag (directive (codes "!!") (codes "x:") ∷ directive (codes "!!") (codes "y:") ∷ []) (codes "!!a") ≡ Some (name_parsed (codes "x:a")))
    × (read_tag (directive (codes "!") (codes "x:") ∷ []) (codes "!a") ≡ Some (name_parsed (codes "x:a")))
    × (read_tag [] (codes "!!<a>") ≡ Some (name_parsed (codes "tag:yaml.org,2002:<a>")))
unfolding is_utf8 chars encode
reads_by_the_first_directive = (refl, refl, refl)

reads_no_unknown_handle : read_tag [] (codes "!e!y") ≡ None
reads_no_unknown_handle = refl

names : anchor_fault (codes "a-_9Z") ≡ None
names = refl

no_name : (anchor_fault [] ≡ Some AnchorEmpty) × (alias_fault [] ≡ Some AliasEmpty)
no_name = (refl, refl)

other_names : (anchor_fault (codes "a b") ≡ Some AnchorAlphabet) × (alias_fault (codes "a.b") ≡ Some AliasAlphabet)
other_names = (refl, refl)

abbrev version : ℕ → ℕ → Option yaml_error_t
version major minor = version_fault (record { major = pos major; minor = pos minor })

versions : (version 1 1 ≡ None) × (version 1 2 ≡ None) × (version 1 0 ≡ Some IncompatibleVersion) × (version 1 3 ≡ Some IncompatibleVersion)
    × (version 2 1 ≡ Some IncompatibleVersion)
versions = (refl, refl, refl, refl, refl)

abbrev fault_of : Text → Text → Option yaml_error_t
fault_of handle prefix = directives_fault (directive handle prefix ∷ [])

handles :
    (fault_of [] (codes "x") ≡ Some TagHandleEmpty) × (fault_of (codes "a!") (codes "x") ≡ Some TagHandleStart)
    × (fault_of (codes "!a") (codes "x") ≡ Some TagHandleEnd) × (fault_of (codes "!a.b!") (codes "x") ≡ Some TagHandleAlphabet)
    × (fault_of (codes "!e!") [] ≡ Some TagPrefixEmpty) × (fault_of (codes "!e!") (codes "x") ≡ None)
    × (fault_of (codes "!") (codes "x") ≡ None) × (fault_of (codes "!!") (codes "x") ≡ None)
handles = (refl, refl, refl, refl, refl, refl, refl, refl)

directives_given : Gives directives_fault (
    (directive (codes "!!") (codes "a") ∷ directive (codes "!!") (codes "b") ∷ [], Some DuplicateDirective)  -- given twice
    ∷ (directive (codes "!a!") [] ∷ directive [] (codes "b") ∷ [], Some TagPrefixEmpty)  -- first fault
    ∷ [])
directives_given = refl

no_tag : tag_fault [] ≡ Some TagEmpty
no_tag = refl
