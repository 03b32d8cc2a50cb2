-- A document's directives, as they are written, are lines that are read as these directives.
use Rattle.yaml_base.proofs.Common.{or_from, or_parts}
use Rattle.yaml_base.proofs.Common.{ℕ, if◌then◌else◌, ◌==◌, fold, option_and_then, Option, None, Some, codes, pos, Bool, false, not, true, ◌&&◌, ◌||◌, List}
use Rattle.yaml_base.proofs.Common.{[], ◌++◌, ◌∷◌, ◌⊎◌, refl, ◌≡◌, int_eq, eqb-true, append-nil, append_assoc, inl, inr, ap, sym, ◌∙◌, arith, and_parts}
use Rattle.yaml_base.proofs.Common.{and_from, not-true, false≢true, nat_tests, list_all-append, list_all, slice_split, all_scalars, Text, line_feed, space}
use Rattle.yaml_base.proofs.Common.{is_alpha, is_space, is_blank, is_break, Version, TagDirective, DocumentStart, directive_scalars, is_tag_character}
use Rattle.yaml_base.proofs.Common.{character_written, percent_escaped, prefix_escaped, version_fault, exclamation_mark, handle_fault, prefix_fault}
use Rattle.yaml_base.proofs.Common.{next_directive_fault, directives_fault_after, directives_fault, is_uri_character, percent_read, Prologue, prologue_read}
use Rattle.yaml_base.{proofs.Common.Line, proofs.NoFaults.neither, proofs.NoFaults.not_given, proofs.TagForms.IsHandle, proofs.TagForms.handle_form}
use Rattle.yaml_base.{proofs.TagWords.handle_ends_no_word, specs.Layout.version_word, proofs.AllPass.none_pass, proofs.AllPass.uncut_by}
use Rattle.yaml_base.proofs.stream_nodes.StreamTags.{uri_character, uri_text}
use Rattle.yaml_base.proofs.stream_nodes.StreamProperties.{holds_white, has_no_space, no_white_no_space}
use Rattle.yaml_base.proofs.PercentLaws.{decoded_prefix, character_stands, escaped_stands, stands_in_prefix, prefix_stands, prefix_begins}
use Rattle.yaml_base.specs.reading.ReadTags.{closes_handle, is_handle_text, prefix_parsed, is_handle_given}
use Rattle.yaml_base.specs.streams.StreamDocuments.{with_directive, directive_by_words, directive_line}
use Rattle.std.proofs.lemmas.List.{Splits.slice_split_at, Splits.slice_split_none, Sums.fold-append}

-- Words

-- a word before a space
split_word : (word rest : Text) → has_no_space word ≡ true → slice_split is_space (word ++ (space ∷ rest)) ≡ word ∷ slice_split is_space rest
split_word word rest h =
    slice_split_at is_space word space rest (uncut_by (λ c. not (c == space)) is_space (λ c e. not-true (c == space) e) word h) refl

-- the last word
split_last : (word : Text) → has_no_space word ≡ true → slice_split is_space word ≡ word ∷ []
split_last word h = slice_split_none is_space word (uncut_by (λ c. not (c == space)) is_space (λ c e. not-true (c == space) e) word h)

-- Handles

closes_letters : (middle : Text) → list_all is_alpha middle ≡ true → closes_handle (middle ++ exclamation_mark ∷ []) ≡ true
closes_letters [] h = refl
closes_letters (c ∷ []) h = and_from (is_alpha c) true (and_parts (is_alpha c) true h).0 refl
closes_letters (c ∷ d ∷ middle) h = grind (arith, and_parts, and_from, or_parts, or_from, closes_letters (d ∷ middle))

-- a handle without a fault is a handle to the reader
pub handle_reads : (handle : Text) → IsHandle handle → is_handle_text handle ≡ true
handle_reads handle (inl e) = ap is_handle_text e
handle_reads handle (inr form) = ap is_handle_text form.1 ∙ by form.0 (closes_letters form.0 form.2)
  where
    by : (middle : Text) → closes_handle (middle ++ exclamation_mark ∷ []) ≡ true → is_handle_text ((exclamation_mark ∷ middle) ++ exclamation_mark ∷ []) ≡ true
    by [] h = refl
    by (c ∷ middle) h = h

-- Prefixes

-- a character that a prefix may hold isn't white
prefix_shows : (c : ℕ) → stands_in_prefix c ≡ true → (is_blank c || is_break c) ≡ false
prefix_shows c h = grind (arith, nat_tests)

pub prefix_no_white : (text : Text) → list_all stands_in_prefix text ≡ true → holds_white text ≡ false
prefix_no_white text h = none_pass stands_in_prefix (λ c. is_blank c || is_break c) prefix_shows text h

-- a `!` may begin a text of a URI
abbrev may_be_prefix : Text → Bool
may_be_prefix [] = false
may_be_prefix (c ∷ rest) = (c == exclamation_mark || is_uri_character c) && list_all is_uri_character rest

parsed_if : (text : Text) → may_be_prefix text ≡ true → prefix_parsed text ≡ percent_read text
parsed_if [] h = absurd (false≢true h)
parsed_if (c ∷ rest) h = ap (λ x. if x then percent_read (c ∷ rest) else None) h

uri_prefix : (c : ℕ) (text : Text) → list_all is_uri_character (c ∷ text) ≡ true → may_be_prefix (c ∷ text) ≡ true
uri_prefix c text h = grind (arith, and_parts, and_from)

-- a character that is itself at the start of a prefix may be there
kept_first : (portable : Bool) (c : ℕ) → ((portable && c == exclamation_mark) || is_tag_character c) ≡ true
    → (c == exclamation_mark || is_uri_character c) ≡ true
kept_first portable c h = grind (arith, uri_character, false≢true)

-- a written prefix may be one
written_prefix : (portable : Bool) (c : ℕ) (text : Text) → may_be_prefix (prefix_escaped portable (c ∷ text)) ≡ true
written_prefix portable c text = by ((portable && c == exclamation_mark) || is_tag_character c) (kept_first portable c) (prefix_begins portable c text)
  where
    rest : list_all is_uri_character (percent_escaped text) ≡ true
    rest = uri_text (percent_escaped text) (escaped_stands text)

    by : (kept : Bool) → (kept ≡ true → (c == exclamation_mark || is_uri_character c) ≡ true)
        → (d : ℕ) × (more : Text) × (character_written kept c ++ percent_escaped text ≡ d ∷ more)
        → may_be_prefix (character_written kept c ++ percent_escaped text) ≡ true
    by true k begins = and_from _ _ (k refl) rest
    by false k begins =
        let whole : list_all is_uri_character (character_written false c ++ percent_escaped text) ≡ true =
        list_all-append is_uri_character (character_written false c) (percent_escaped text)
        ∙ and_from _ _ (uri_text (character_written false c) (character_stands false c (λ e. absurd (false≢true e)))) rest in
        ap may_be_prefix begins.2 ∙ uri_prefix begins.0 begins.1 (ap (list_all is_uri_character) (sym begins.2) ∙ whole)

-- a written prefix of at least one character is read as it was given
pub prefix_reads : (portable : Bool) (prefix : Text) → prefix_fault prefix ≡ None → all_scalars prefix ≡ true
    → prefix_parsed (prefix_escaped portable prefix) ≡ Some prefix
prefix_reads portable prefix h k = grind (arith, nat_tests, parsed_if, written_prefix, decoded_prefix)

-- Lines

-- a line of one directive, without its break
abbrev pub directive_text : (portable : Bool) → TagDirective → Text
directive_text portable directive = codes "%TAG" ++ (space ∷ (directive.handle ++ (space ∷ prefix_escaped portable directive.prefix)))

-- its words
directive_words : (portable : Bool) (directive : TagDirective) → handle_fault directive.handle ≡ None
    → slice_split is_space (directive_text portable directive) ≡ codes "%TAG" ∷ directive.handle ∷ prefix_escaped portable directive.prefix ∷ []
directive_words portable directive sound =
    grind (arith, split_word, no_white_no_space, handle_ends_no_word, handle_form, split_last, prefix_no_white, prefix_stands)

-- a directive without a fault whose handle isn't given yet is read after those before it
directive_reads : (portable : Bool) (version : Option Version) (before : List TagDirective) (directive : TagDirective) (ending : Text)
    → next_directive_fault before directive ≡ None → directive_scalars directive ≡ true
    → directive_line (Some (record { version = version; directives = before })) (record { text = directive_text portable directive; ending = ending })
    ≡ Some (record { version = version; directives = before ++ directive ∷ [] })
directive_reads portable version before directive ending sound scalars =
    let with_prefix : Option Prologue = Some (record { version = version; directives = before ++ directive ∷ [] }) in
    let both = neither _ _ sound in
    let parts = neither _ _ both.0 in
    let made : Prologue = record { version = version; directives = before } in
    ap (directive_by_words made) (directive_words portable directive parts.0)
    ∙ ap (with_directive made directive.handle) (prefix_reads portable directive.prefix parts.1 scalars)
    ∙ ap (λ x. if x && not (is_handle_given directive.handle before) then with_prefix else None)
    (handle_reads directive.handle (handle_form directive.handle parts.0)) ∙ ap (λ x. if not x then with_prefix else None) (not_given _ _ both.1)

-- the lines of some directives
abbrev pub tag_lines : (portable : Bool) → List TagDirective → List Line
tag_lines portable [] = []
tag_lines portable (directive ∷ rest) = record { text = directive_text portable directive; ending = line_feed ∷ [] } ∷ tag_lines portable rest

-- directives without a fault are read after those before them
tags_read : (portable : Bool) (version : Option Version) (before directives : List TagDirective) → directives_fault_after before directives ≡ None
    → list_all directive_scalars directives ≡ true
    → fold directive_line (Some (record { version = version; directives = before })) (tag_lines portable directives)
    ≡ Some (record { version = version; directives = before ++ directives })
tags_read portable version before [] sound scalars =
    ap (λ (all : List TagDirective). let made : Option Prologue = Some (record { version = version; directives = all }) in made) (sym (append-nil before))
tags_read portable version before (directive ∷ rest) sound scalars =
    let both = neither (next_directive_fault before directive) (directives_fault_after (before ++ directive ∷ []) rest) sound in
    let texts = and_parts (directive_scalars directive) (list_all directive_scalars rest) scalars in
    ap (λ (prologue : Option Prologue). fold directive_line prologue (tag_lines portable rest))
    (directive_reads portable version before directive (line_feed ∷ []) both.0 texts.0)
    ∙ tags_read portable version (before ++ directive ∷ []) rest both.1 texts.1
    ∙ ap (λ (all : List TagDirective). let made : Option Prologue = Some (record { version = version; directives = all }) in made)
    (append_assoc before (directive ∷ []) rest)

-- Versions

-- the versions that may be given
abbrev pub version_of : ℕ → Version
version_of minor = record { major = pos 1; minor = pos minor }

pub version_form : (version : Version) → version_fault version ≡ None → (version ≡ version_of 1) ⊎ (version ≡ version_of 2)
version_form version h = grind (arith, false≢true, eqb-true)

-- the line of a version, if there is one
abbrev pub version_lines : Option Version → List Line
version_lines None = []
version_lines (Some version) = record { text = codes "%YAML" ++ (space ∷ (version_word version).text); ending = line_feed ∷ [] } ∷ []

-- Prologues

-- the lines of a document's version and directives
abbrev pub prologue_lines : (portable : Bool) → DocumentStart → List Line
prologue_lines portable start = version_lines start.version ++ tag_lines portable start.directives

-- they are read as the version and the directives
pub prologue_reads : (portable : Bool) (start : DocumentStart) → option_and_then version_fault start.version ≡ None
    → directives_fault start.directives ≡ None → list_all directive_scalars start.directives ≡ true
    → prologue_read (prologue_lines portable start) ≡ Some (record { version = start.version; directives = start.directives })
prologue_reads portable start version directives scalars = grind (arith, nat_tests, fold-append, int_eq, version_form, tags_read)
