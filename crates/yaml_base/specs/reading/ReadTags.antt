-- Reading written tags and handles, independently of the definitions that write them.
-- Source, unless a definition names its own: helpers of this project's reader for c-ns-tag-property (YAML 1.1, section 8.2 Node Tags).
use Rattle.std.specs.Prelude.{ℕ, Bool, false, Option, None, Some, List, [], ◌∷◌, ◌++◌, ◌==◌, ◌||◌, ◌&&◌, not, codes, bytes_eq, option_map, if◌then◌else◌}
use Rattle.std.specs.List.{list_all, list_any}
use Rattle.yaml_base.specs.Characters.{Text, is_alpha, is_among}
use Rattle.yaml_base.specs.Event.{TagDirective}
use Rattle.yaml_base.specs.reading.ReadPercent.{is_uri_character, percent_read}

-- a written tag as it is read: the bare tag `!`, or a tag by its name (YAML 1.1, section 8.2 Node Tags, c-ns-tag-property)
pub data ParsedTag : Type 0 where
  bare_parsed : ParsedTag
  name_parsed : Text → ParsedTag

-- a text cut in two
pub record CutText : Type 0 where
  pub prefix : Text
  pub rest : Text

-- the prefix that the first directive with this handle gives (YAML 1.1, section 7.1.2 "TAG" Directive, ns-tag-directive)
abbrev pub prefix_among : List TagDirective → Text → Option Text
prefix_among [] handle = None
prefix_among (directive ∷ rest) handle =
    if bytes_eq directive.handle handle then Some directive.prefix else prefix_among rest handle

-- the prefixes of `!` and `!!`, unless a document gives others (YAML 1.1, section 7.1.2.2 Tag Handles, c-primary-tag-handle,
-- ns-secondary-tag-handle)
abbrev pub directives_assumed : List TagDirective
directives_assumed =
    record { handle = codes "!"; prefix = codes "!" }
    ∷ record { handle = codes "!!"; prefix = codes "tag:yaml.org,2002:" } ∷ []

-- true of a text of the anchor alphabet, and then `!` (YAML 1.1, section 7.1.2.2 Tag Handles, c-named-tag-handle; the alphabet is
-- libyaml's)
abbrev pub closes_handle : Text → Bool
closes_handle [] = false
closes_handle (c ∷ []) = c == 0x21
closes_handle (c ∷ d ∷ rest) = is_alpha c && closes_handle (d ∷ rest)

-- true of `!`, and of the anchor alphabet between two `!` (YAML 1.1, section 7.1.2.2 Tag Handles, c-tag-handle; the alphabet is libyaml's)
abbrev pub is_handle_text : Text → Bool
is_handle_text [] = false
is_handle_text (c ∷ []) = c == 0x21
is_handle_text (c ∷ d ∷ rest) = c == 0x21 && closes_handle (d ∷ rest)

-- a character before a text that is cut after its last `!`
abbrev pub prepend_to_cut : ℕ → Text → Text → CutText
prepend_to_cut c [] rest = if c == 0x21 then record { prefix = c ∷ []; rest = rest } else record { prefix = []; rest = c ∷ rest }
prepend_to_cut c (d ∷ prefix) rest = record { prefix = c ∷ d ∷ prefix; rest = rest }

-- a text cut after its last `!` (YAML 1.1, section 7.1.2.2 Tag Handles, c-tag-handle)
abbrev pub cut_after_exclamation : Text → CutText
cut_after_exclamation [] = record { prefix = []; rest = [] }
cut_after_exclamation (c ∷ text) = let cut = cut_after_exclamation text in prepend_to_cut c cut.prefix cut.rest

-- true of a character that may come after a handle: one of a URI but for the flow indicators (this project, since readers end a tag at
-- these signs)
abbrev pub may_follow_handle : ℕ → Bool
may_follow_handle c = is_uri_character c && not (is_among (codes ",[]") c)

-- the tag of a prefix and the text after it (YAML 1.1, section 8.2 Node Tags, c-ns-shorthand-tag)
abbrev pub name_joined : Option Text → Option Text → Option ParsedTag
name_joined (Some prefix) (Some suffix) = Some (name_parsed (prefix ++ suffix))
name_joined _ _ = None

-- the tag of a handle and the text after it, which has at least one character (YAML 1.1, section 8.2 Node Tags, c-ns-shorthand-tag)
abbrev pub shorthand_parsed : List TagDirective → Text → Text → Option ParsedTag
shorthand_parsed own handle [] = None
shorthand_parsed own handle (c ∷ suffix) =
    if list_all may_follow_handle (c ∷ suffix) then name_joined (prefix_among (own ++ directives_assumed) handle) (percent_read (c ∷ suffix))
    else None

-- a text without the `>` that ends it; none if it doesn't end so (YAML 1.1, section 8.2 Node Tags, c-verbatim-tag)
abbrev pub without_closing_angle : Text → Option Text
without_closing_angle [] = None
without_closing_angle (c ∷ []) = if c == 0x3E then Some [] else None
without_closing_angle (c ∷ d ∷ rest) = option_map (λ text. c ∷ text) (without_closing_angle (d ∷ rest))

-- the tag of this name, which has at least one character (YAML 1.1, section 8.2 Node Tags, c-verbatim-tag)
abbrev pub verbatim_parsed : Option Text → Option ParsedTag
verbatim_parsed None = None
verbatim_parsed (Some []) = None
verbatim_parsed (Some (c ∷ name)) = if list_all is_uri_character (c ∷ name) then option_map name_parsed (percent_read (c ∷ name)) else None

-- a written tag, from its `!` to its last character, by a document's own directives and those assumed (YAML 1.1, section 8.2 Node Tags, c-ns-tag-property)
abbrev pub parse_tag : List TagDirective → Text → Option ParsedTag
parse_tag own [] = None
parse_tag own (c ∷ []) = if c == 0x21 then Some bare_parsed else None
parse_tag own (c ∷ d ∷ rest) =
    if not (c == 0x21) then None
    else (if d == 0x3C then verbatim_parsed (without_closing_angle rest)
    else (let cut = cut_after_exclamation (c ∷ d ∷ rest) in shorthand_parsed own cut.prefix cut.rest))

-- the prefix of a directive: percent forms and characters of a URI, at least one; a `!` may begin it (YAML 1.1, section 7.1.2.1 Tag
-- Prefixes, ns-tag-prefix)
abbrev pub prefix_parsed : Text → Option Text
prefix_parsed [] = None
prefix_parsed (c ∷ rest) =
    if (c == 0x21 || is_uri_character c) && list_all is_uri_character rest then percent_read (c ∷ rest) else None

-- true if some directive gives this handle (YAML 1.1, section 7.1.2 "TAG" Directive, ns-tag-directive)
abbrev pub is_handle_given : Text → List TagDirective → Bool
is_handle_given handle directives = list_any (λ directive. bytes_eq directive.handle handle) directives
