-- The canonical reader's tokens for document markers and directives.
use Rattle.yaml_base.proofs.Common.{and-false, slice_split, is_blank, is_read_break}
use Rattle.yaml_base.proofs.AllPass.{all_pass, uncut_by}
use Rattle.std.proofs.lemmas.List.Splits.{slice_split_at, slice_split_none}
use Rattle.yaml_emitter.proofs.Common.{ℕ, ◌==◌, filter, Option, None, Some, codes, length, replicate, Bool, false, not, true, ◌||◌, List, [], ◌++◌, ◌∷◌, ◌⊎◌}
use Rattle.yaml_emitter.proofs.Common.{refl, ◌≡◌, append-nil, append_assoc, inl, inr, ap, subst, sym, ◌∙◌, arith, and_parts, and_from, nat_tests}
use Rattle.yaml_emitter.proofs.Common.{list_all-append, list_all, all_scalars, rendered-append, IsHandle, Text, line_feed, space, Cursor, new_line, space_if}
use Rattle.yaml_emitter.proofs.Common.{Version, TagDirective, render_indicator, spaced, yaml_directive, render_closing_marker, render_version}
use Rattle.yaml_emitter.proofs.Common.{render_tag_directive, render_tag_directives, render_document_marker, prefix_escaped, version_fault, exclamation_mark}
use Rattle.yaml_emitter.proofs.Common.{prefix_fault, version_line, tag_line, document_begins, document_ends, free, tokens_from}
use Rattle.yaml_base.proofs.PercentLaws.{decoded_prefix, prefix_begins}
use Rattle.yaml_base.proofs.stream_documents.StreamPrologues.{handle_reads, version_of, version_form}
use Rattle.yaml_base.specs.Indicators.{document_start, document_end}
use Rattle.yaml_base.specs.reading.CanonicalTokens.{in_line, words_of_line, tag_line_of, directive_token}
use Rattle.yaml_emitter.proofs.canonical.CanonicalNames.{is_written, all_written, all-scalars, all-rendered, prefix-written, handle_text}
use Rattle.yaml_emitter.proofs.canonical.CanonicalText.{anything, Says, all_scalars-append, says_after, says_text, says_nothing, says_white, space_if-white}
use Rattle.yaml_emitter.proofs.canonical.CanonicalText.{line_says, indicator_says}
use Rattle.yaml_emitter.proofs.canonical.CanonicalTokens.{version_tokens, tag_line_tokens}

-- Marks.

says_begins : (breaks12 : Bool) → Says breaks12 anything (codes "---") (document_begins ∷ [])
says_begins true = record { scalars = refl; rendered = refl; reads = λ rest meets. refl }
says_begins false = record { scalars = refl; rendered = refl; reads = λ rest meets. refl }

says_ends : (breaks12 : Bool) → Says breaks12 anything (codes "...") (document_ends ∷ [])
says_ends true = record { scalars = refl; rendered = refl; reads = λ rest meets. refl }
says_ends false = record { scalars = refl; rendered = refl; reads = λ rest meets. refl }

module _ (breaks12 : Bool) where
  pub closing_says : (cursor : Cursor) → Says breaks12 anything (render_closing_marker cursor).text (document_ends ∷ [])
  closing_says cursor =
      says_after (indicator_says true false false cursor (says_ends breaks12)) (line_says breaks12 0 (render_indicator document_end cursor).cursor)

  pub marker_says : (cursor : Cursor) → Says breaks12 anything (render_document_marker true cursor).text (document_begins ∷ [])
  marker_says cursor =
      let line = new_line 0 cursor in
      let symbol = render_indicator document_start line.cursor in
      says_after (says_after (line_says breaks12 0 cursor) (indicator_says true false false line.cursor (says_begins breaks12)))
      (line_says breaks12 0 symbol.cursor)

-- a new line breaks the line after a text that leaves indention off
pub line_breaks : (at : ℕ) (cursor : Cursor) → cursor.indention ≡ false → (new_line at cursor).text ≡ line_feed ∷ replicate at space
line_breaks at cursor e = rw e refl

-- Versions.

first_version : (breaks12 : Bool) → Says breaks12 anything (codes "%YAML 1.1\n") (version_line (version_of 1) ∷ [])
first_version true = record { scalars = refl; rendered = refl; reads = λ rest meets. refl }
first_version false = record { scalars = refl; rendered = refl; reads = λ rest meets. refl }

second_version : (breaks12 : Bool) → Says breaks12 anything (codes "%YAML 1.2\n") (version_line (version_of 2) ∷ [])
second_version true = record { scalars = refl; rendered = refl; reads = λ rest meets. refl }
second_version false = record { scalars = refl; rendered = refl; reads = λ rest meets. refl }

-- a line of two words is ended by a break
version_text_is : (cursor : Cursor) (word : Text) (end : Cursor) → end.indention ≡ false
    → ((space_if true cursor ++ codes "%YAML") ++ (space ∷ word)) ++ (new_line 0 end).text ≡ space_if true cursor
    ++ (codes "%YAML" ++ ((space ∷ word) ++ line_feed ∷ []))
version_text_is cursor word end e =
    ap (λ t. ((space_if true cursor ++ codes "%YAML") ++ (space ∷ word)) ++ t) (line_breaks 0 end e)
    ∙ append_assoc (space_if true cursor ++ codes "%YAML") (space ∷ word) (line_feed ∷ [])
    ∙ append_assoc (space_if true cursor) (codes "%YAML") ((space ∷ word) ++ line_feed ∷ [])

abbrev pub VersionOk : Option Version → Type 0
VersionOk None = Unit {0}
VersionOk (Some version) = version_fault version ≡ None

pub version_says : (breaks12 : Bool) (version : Option Version) (cursor : Cursor) → VersionOk version
    → Says breaks12 anything (render_version version cursor).text (version_tokens version)
version_says breaks12 None cursor ok = says_nothing breaks12
version_says breaks12 (Some version) cursor ok = by (version_form version ok)
  where
    says : (word : Text) (v : Version) → Says breaks12 anything (codes "%YAML" ++ ((space ∷ word) ++ line_feed ∷ [])) (version_line v ∷ [])
        → Says breaks12 anything (((space_if true cursor ++ codes "%YAML") ++ (space ∷ word))
        ++ (new_line 0 (render_indicator (spaced word) (render_indicator yaml_directive cursor).cursor).cursor).text) (version_line v ∷ [])
    says word v line =
        let end = (render_indicator (spaced word) (render_indicator yaml_directive cursor).cursor).cursor in
        says_text (((space_if true cursor ++ codes "%YAML") ++ (space ∷ word)) ++ (new_line 0 end).text) (version_text_is cursor word end (and-false _))
        (says_after (says_white breaks12 (space_if true cursor) (space_if-white true cursor)) line)

    by : (version ≡ version_of 1) ⊎ (version ≡ version_of 2) → Says breaks12 anything (render_version (Some version) cursor).text (version_line version ∷ [])
    by (inl e) = subst (λ v. Says breaks12 anything (render_version (Some v) cursor).text (version_line v ∷ [])) (sym e)
        (says (codes "1.1") (version_of 1) (first_version breaks12))
    by (inr e) = subst (λ v. Says breaks12 anything (render_version (Some v) cursor).text (version_line v ∷ [])) (sym e)
        (says (codes "1.2") (version_of 2) (second_version breaks12))

-- Tag directives.

-- true for a character within a line of a directive
abbrev in_a_line : ℕ → Bool
in_a_line c = is_written c || c == space

no_break : (breaks12 : Bool) (c : ℕ) → in_a_line c ≡ true → is_read_break breaks12 c ≡ false
no_break true c h = grind (arith, nat_tests)
no_break false c h = grind (arith, nat_tests)

line_goes : (breaks12 : Bool) (text seen rest : Text) → list_all in_a_line text ≡ true
    → tokens_from breaks12 (in_line seen) (text ++ line_feed ∷ rest) ≡ directive_token (words_of_line (seen ++ text)) ∷ tokens_from breaks12 free rest
line_goes breaks12 [] seen rest h = ap (λ t. directive_token (words_of_line t) ∷ tokens_from breaks12 free rest) (sym (append-nil seen))
line_goes breaks12 (c ∷ text) seen rest h =
    let p = and_parts (in_a_line c) (list_all in_a_line text) h in
    rw (no_break breaks12 c p.0)
    (line_goes breaks12 text (seen ++ c ∷ []) rest p.1
    ∙ ap (λ t. directive_token (words_of_line t) ∷ tokens_from breaks12 free rest) (append_assoc seen (c ∷ []) text))

written_in_line : (c : ℕ) → is_written c ≡ true → in_a_line c ≡ true
written_in_line c h = rw h refl

all_in_line : (text : Text) → all_written text ≡ true → list_all in_a_line text ≡ true
all_in_line text h = all_pass is_written in_a_line written_in_line text h

written_no_blank : (c : ℕ) → is_written c ≡ true → is_blank c ≡ false
written_no_blank c h = grind (arith, nat_tests)

split_word : (word rest : Text) → all_written word ≡ true → slice_split is_blank (word ++ space ∷ rest) ≡ word ∷ slice_split is_blank rest
split_word word rest h = slice_split_at is_blank word space rest (uncut_by is_written is_blank written_no_blank word h) refl

split_last : (word : Text) → all_written word ≡ true → slice_split is_blank word ≡ word ∷ []
split_last word h = slice_split_none is_blank word (uncut_by is_written is_blank written_no_blank word h)

-- a word with a character counts
abbrev counts : Text → Bool
counts word = not (length word == 0)

some_counts : (c : ℕ) (rest : Text) → counts (c ∷ rest) ≡ true
some_counts c rest = grind (arith, nat_tests)

line_words : (handle prefix : Text) → all_written handle ≡ true → all_written prefix ≡ true → counts handle ≡ true → counts prefix ≡ true
    → words_of_line ((codes "%TAG" ++ space ∷ []) ++ (handle ++ space ∷ prefix)) ≡ codes "%TAG" ∷ handle ∷ prefix ∷ []
line_words handle prefix h p m n =
    ap (filter counts) (split_word (codes "%TAG") (handle ++ space ∷ prefix) refl
    ∙ ap (λ ws. codes "%TAG" ∷ ws) (split_word handle prefix h ∙ ap (λ ws. handle ∷ ws) (split_last prefix p)))
    ∙ rw (m, n) refl

handle_written : (handle : Text) → IsHandle handle → all_written handle ≡ true
handle_written handle is = let tag = handle_text handle is in rw tag.is tag.written

handle_counts : (handle : Text) → IsHandle handle → counts handle ≡ true
handle_counts handle is = let tag = handle_text handle is in rw tag.is (some_counts exclamation_mark tag.rest)

-- a directive whose handle and prefix are as they must be
pub record DirectiveOk (directive : TagDirective) : Type 0 where
  pub handle : IsHandle directive.handle
  pub some : prefix_fault directive.prefix ≡ None
  pub scalars : all_scalars directive.prefix ≡ true

prefix_counts : (portable : Bool) (prefix : Text) → prefix_fault prefix ≡ None → counts (prefix_escaped portable prefix) ≡ true
prefix_counts portable [] h = absurd (cc)
prefix_counts portable (c ∷ prefix) h = let begins = prefix_begins portable c prefix in rw begins.2 (some_counts begins.0 begins.1)

abbrev pub EachDirective : List TagDirective → Type 0
EachDirective [] = Unit {0}
EachDirective (directive ∷ rest) = DirectiveOk directive × EachDirective rest

module _ (breaks12 portable : Bool) where
  enter_line : (rest : Text) → tokens_from breaks12 free (codes "%TAG" ++ (space ∷ rest)) ≡ tokens_from breaks12 (in_line (codes "%TAG" ++ space ∷ [])) rest
  enter_line rest = by breaks12
    where
      by : (b : Bool) → tokens_from b free (codes "%TAG" ++ (space ∷ rest)) ≡ tokens_from b (in_line (codes "%TAG" ++ space ∷ [])) rest
      by true = refl
      by false = refl

  -- the line itself, from its `%` to its break
  abbrev line_of : TagDirective → Text
  line_of directive = codes "%TAG" ++ (space ∷ ((directive.handle ++ space ∷ prefix_escaped portable directive.prefix) ++ line_feed ∷ []))

  whole_line : (directive : TagDirective) → DirectiveOk directive → Says breaks12 anything (line_of directive) (tag_line directive ∷ [])
  whole_line directive ok =
      let h = handle_written directive.handle ok.handle in
      let p = prefix-written portable directive.prefix in
      let inner = directive.handle ++ space ∷ prefix_escaped portable directive.prefix in
      let token : directive_token (words_of_line ((codes "%TAG" ++ space ∷ []) ++ inner)) ≡ tag_line directive =
      ap directive_token (line_words directive.handle (prefix_escaped portable directive.prefix) h p (handle_counts directive.handle ok.handle)
      (prefix_counts portable directive.prefix ok.some))
      ∙ ap (tag_line_of directive.handle) (decoded_prefix portable directive.prefix ok.scalars)
      ∙ rw (handle_reads directive.handle ok.handle) refl in
      record {
        scalars = all_scalars-append inner (line_feed ∷ [])
            (all_scalars-append directive.handle (space ∷ prefix_escaped portable directive.prefix) (all-scalars directive.handle h)
            (all-scalars (prefix_escaped portable directive.prefix) p)) refl;
        rendered = rendered-append inner (line_feed ∷ [])
            (rendered-append directive.handle (space ∷ prefix_escaped portable directive.prefix) (all-rendered directive.handle h)
            (all-rendered (prefix_escaped portable directive.prefix) p)) refl;
        reads = λ rest meets.
            enter_line ((inner ++ line_feed ∷ []) ++ rest)
            ∙ ap (tokens_from breaks12 (in_line (codes "%TAG" ++ space ∷ []))) (append_assoc inner (line_feed ∷ []) rest)
            ∙ line_goes breaks12 inner (codes "%TAG" ++ space ∷ []) rest
            (list_all-append in_a_line directive.handle (space ∷ prefix_escaped portable directive.prefix)
            ∙ and_from _ _ (all_in_line directive.handle h) (all_in_line (prefix_escaped portable directive.prefix) p))
            ∙ ap (λ t. t ∷ tokens_from breaks12 free rest) token;
      }

  directive_says : (directive : TagDirective) (cursor : Cursor) → DirectiveOk directive
      → Says breaks12 anything (render_tag_directive portable directive cursor).text (tag_line directive ∷ [])
  directive_says directive cursor ok =
      let sp = space_if true cursor in
      let esc = prefix_escaped portable directive.prefix in
      let e : (((sp ++ codes "%TAG") ++ (space ∷ directive.handle)) ++ (space ∷ esc)) ++ line_feed ∷ [] ≡ sp ++ line_of directive =
      append_assoc ((sp ++ codes "%TAG") ++ (space ∷ directive.handle)) (space ∷ esc) (line_feed ∷ [])
      ∙ append_assoc (sp ++ codes "%TAG") (space ∷ directive.handle) ((space ∷ esc) ++ line_feed ∷ [])
      ∙ append_assoc sp (codes "%TAG") ((space ∷ directive.handle) ++ ((space ∷ esc) ++ line_feed ∷ []))
      ∙ ap (λ t. sp ++ (codes "%TAG" ++ (space ∷ t))) (sym (append_assoc directive.handle (space ∷ esc) (line_feed ∷ []))) in
      says_text (render_tag_directive portable directive cursor).text e
      (says_after (says_white breaks12 sp (space_if-white true cursor)) (whole_line directive ok))

  pub directives_say : (directives : List TagDirective) (cursor : Cursor) → EachDirective directives
      → Says breaks12 anything (render_tag_directives portable directives cursor).text (tag_line_tokens directives)
  directives_say [] cursor ok = says_nothing breaks12
  directives_say (directive ∷ rest) cursor ok =
      let first = render_tag_directive portable directive cursor in
      says_after (directive_says directive cursor ok.0) (directives_say rest first.cursor ok.1)
