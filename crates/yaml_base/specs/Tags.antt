-- Names, versions, tag directives and tags: their refusals, and how a tag is spelled by the directives in force (YAML 1.1, sections 7.1,
-- 8.1 and 8.2, and libyaml's own rules).
use Rattle.std.specs.Prelude.{ℕ, ℤ, pos, negsuc, Bool, false, Option, None, Some, List, [], ◌∷◌, ◌++◌, ◌==◌, ◌||◌, ◌&&◌, not, codes, bytes_eq, filter}
use Rattle.std.specs.Prelude.{if◌then◌else◌}
use Rattle.std.specs.List.{list_any, list_all}
use Rattle.std.specs.Option.{option_or}
use Rattle.yaml_base.specs.Characters.{Text, is_alpha}
use Rattle.yaml_base.specs.Event.{Version, TagDirective}
use Rattle.yaml_base.specs.Percent.{percent_escaped, suffix_escaped}
use Rattle.yaml_base.specs.declared.errors.yaml_error_t.{yaml_error_t}
use Rattle.yaml_base.specs.declared.errors.yaml_error_t.TheVariants.{IncompatibleVersion, TagHandleEmpty, TagHandleStart, TagHandleEnd, TagHandleAlphabet}
use Rattle.yaml_base.specs.declared.errors.yaml_error_t.TheVariants.{TagPrefixEmpty, DuplicateDirective, AnchorEmpty, AnchorAlphabet, AliasEmpty, AliasAlphabet}
use Rattle.yaml_base.specs.declared.errors.yaml_error_t.TheVariants.{TagEmpty}

-- the refusal of a name: it has at least one character, and all of them are of the anchor alphabet (YAML 1.1, section 8.1;
-- the alphabet is libyaml's)
abbrev pub name_fault : (if_empty if_other : yaml_error_t) → Text → Option yaml_error_t
name_fault if_empty if_other [] = Some if_empty
name_fault if_empty if_other (c ∷ rest) = if list_all is_alpha (c ∷ rest) then None else Some if_other

-- the refusal of an anchor's name
abbrev pub anchor_fault : Text → Option yaml_error_t
anchor_fault name = name_fault AnchorEmpty AnchorAlphabet name

-- the refusal of an alias's name
abbrev pub alias_fault : Text → Option yaml_error_t
alias_fault name = name_fault AliasEmpty AliasAlphabet name

-- the refusal of a tag that is to be written
abbrev pub tag_fault : Text → Option yaml_error_t
tag_fault [] = Some TagEmpty
tag_fault (_ ∷ _) = None

-- true if an integer is this number
abbrev pub equals_integer : ℕ → ℤ → Bool
equals_integer n (pos m) = n == m
equals_integer n (negsuc _) = false

-- the refusal of a version: it is 1.1 or 1.2 (YAML 1.1, section 7.1.1)
abbrev pub version_fault : Version → Option yaml_error_t
version_fault version =
    if equals_integer 1 version.major && (equals_integer 1 version.minor || equals_integer 2 version.minor) then None
    else Some IncompatibleVersion

-- the sign that begins a tag and is at both ends of a handle (YAML 1.1, section 7.1.2.2)
abbrev pub exclamation_mark : ℕ
exclamation_mark = 0x21

-- the last character of a text; of the empty text the given one
abbrev pub last_from : ℕ → Text → ℕ
last_from c [] = c
last_from c (next ∷ rest) = last_from next rest

-- a text without its last character
abbrev pub without_last : Text → Text
without_last [] = []
without_last (c ∷ []) = []
without_last (c ∷ next ∷ rest) = c ∷ without_last (next ∷ rest)

-- the refusal of a handle: it is `!`, or any number of characters of the anchor alphabet between two `!` (YAML 1.1, section 7.1.2.2)
abbrev pub handle_fault : Text → Option yaml_error_t
handle_fault [] = Some TagHandleEmpty
handle_fault (c ∷ rest) =
    if not (c == exclamation_mark) then Some TagHandleStart
    else (if not (last_from c rest == exclamation_mark) then Some TagHandleEnd
    else (if list_all is_alpha (without_last rest) then None else Some TagHandleAlphabet))

-- the refusal of a prefix: it has at least one character (YAML 1.1, section 7.1.2.1)
abbrev pub prefix_fault : Text → Option yaml_error_t
prefix_fault [] = Some TagPrefixEmpty
prefix_fault (_ ∷ _) = None

-- the refusal of a directive by itself
abbrev pub directive_fault : TagDirective → Option yaml_error_t
directive_fault directive = option_or (handle_fault directive.handle) (prefix_fault directive.prefix)

-- true if some directive gives this handle
abbrev pub gives_handle : Text → List TagDirective → Bool
gives_handle handle directives = list_any (λ directive. bytes_eq directive.handle handle) directives

-- the refusal of a directive after those before it: each handle is given once (YAML 1.1, section 7.1.2)
abbrev pub next_directive_fault : List TagDirective → TagDirective → Option yaml_error_t
next_directive_fault before directive =
    option_or (directive_fault directive)
    (if gives_handle directive.handle before then Some DuplicateDirective else None)

-- the first refusal of some directives after those before them
abbrev pub directives_fault_after : List TagDirective → List TagDirective → Option yaml_error_t
directives_fault_after before [] = None
directives_fault_after before (directive ∷ rest) =
    option_or (next_directive_fault before directive) (directives_fault_after (before ++ directive ∷ []) rest)

-- the first refusal of a document's directives, in order
abbrev pub directives_fault : List TagDirective → Option yaml_error_t
directives_fault directives = directives_fault_after [] directives

-- `!` means itself and `!!` YAML's own types, unless a document says otherwise (YAML 1.1, section 7.1.2.2)
abbrev pub default_directives : List TagDirective
default_directives =
    record { handle = codes "!"; prefix = codes "!" }
    ∷ record { handle = codes "!!"; prefix = codes "tag:yaml.org,2002:" } ∷ []

-- a document's directives in order, and the defaults whose handles it doesn't give
abbrev pub directives_in_force : List TagDirective → List TagDirective
directives_in_force own = own ++ filter (λ directive. not (gives_handle directive.handle own)) default_directives

-- the rest of a text after this prefix, if it has at least one character
abbrev pub behind : Text → Text → Option Text
behind [] [] = None
behind [] (c ∷ rest) = Some (c ∷ rest)
behind (p ∷ prefix) [] = None
behind (p ∷ prefix) (c ∷ rest) = if p == c then behind prefix rest else None

-- a tag as a handle and the text after its prefix, or as it is (YAML 1.1, section 8.2)
pub data Spelling : Type 0 where
  shorthand : Text → Text → Spelling
  verbatim : Text → Spelling

-- a handle with the text after its prefix, or else another spelling
abbrev pub spelling_by : Text → Option Text → Spelling → Spelling
spelling_by handle None otherwise = otherwise
spelling_by handle (Some suffix) otherwise = shorthand handle suffix

-- a tag is spelled by the first directive whose prefix it begins with and is longer than
abbrev pub spelling : List TagDirective → Text → Spelling
spelling [] tag = verbatim tag
spelling (directive ∷ rest) tag = spelling_by directive.handle (behind directive.prefix tag) (spelling rest tag)

-- the text of a spelling (YAML 1.1, section 8.2)
abbrev pub spelled : (portable : Bool) → Spelling → Text
spelled portable (shorthand handle suffix) = handle ++ suffix_escaped portable suffix
spelled portable (verbatim tag) = codes "!<" ++ percent_escaped tag ++ codes ">"
