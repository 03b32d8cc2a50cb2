-- A tag as it is written in a stream is read as the tag.
use Rattle.yaml_base.proofs.Common.{ℕ, ◌==◌, None, codes, Bool, false, not, true, ◌||◌, List, [], ◌++◌, ◌∷◌, refl, ◌≡◌, inl, inr, ap, sym, ◌∙◌, arith}
use Rattle.yaml_base.proofs.Common.{and_parts, and_from, or_parts, or_from, not-true, nat_tests, list_any-append, list_all, list_any, all_scalars, Text}
use Rattle.yaml_base.proofs.Common.{is_among, is_alpha, TagDirective, percent_escaped, suffix_escaped, exclamation_mark}
use Rattle.yaml_base.proofs.Common.{directives_fault, directives_in_force, Spelling, verbatim, spelling, spelled, read_tag, is_uri_character, name_parsed}
use Rattle.yaml_base.proofs.PercentLaws.{stands_written, escaped_stands, suffix_stands, character_is_no_flow_indicator, portable_suffix_has_no_flow_indicator}
use Rattle.yaml_base.{proofs.Common.cut_after_exclamation, proofs.Common.parse_tag, proofs.TagWords.written_tag_ends_no_word}
use Rattle.yaml_base.{specs.StreamLaw.has_flow_indicator, specs.reading.ReadTags.may_follow_handle, proofs.stream_nodes.StreamProperties.WrittenTag}
use Rattle.yaml_base.{proofs.AllPass.all_pass, proofs.TagReads.stands_no_exclamation, proofs.TagReads.cut_at_handle, proofs.TagReads.written_tag_reads}
use Rattle.yaml_base.proofs.PercentLaws.{written_is_no_less, alpha_is_no_less, escaped_begins, suffix_begins}
use Rattle.yaml_base.proofs.TagForms.{closing_angle_dropped, IsHandle, handle_form, spelling_is, in_force_found}

-- Characters

-- a character that is written of a tag may be in a URI
pub uri_character : (c : ℕ) → stands_written c ≡ true → is_uri_character c ≡ true
uri_character c h = grind (arith, nat_tests)

pub uri_text : (text : Text) → list_all stands_written text ≡ true → list_all is_uri_character text ≡ true
uri_text text h = all_pass stands_written is_uri_character uri_character text h

-- a flow indicator
abbrev is_flow_indicator : ℕ → Bool
is_flow_indicator c = is_among (codes ",[]") c

-- after a handle no flow indicator is written, in portable mode or if the text holds none
pub suffix_has_no_flow_indicator : (portable : Bool) (text : Text) → (portable || not (list_any is_flow_indicator text)) ≡ true
    → list_any is_flow_indicator (suffix_escaped portable text) ≡ false
suffix_has_no_flow_indicator true text h = portable_suffix_has_no_flow_indicator text
suffix_has_no_flow_indicator false text h = by text (not-true (list_any is_flow_indicator text) h)
  where
    by : (text : Text) → list_any is_flow_indicator text ≡ false → list_any is_flow_indicator (suffix_escaped false text) ≡ false
    by [] h = refl
    by (c ∷ text) h = grind (arith, and_parts, and_from, or_parts, or_from, list_any-append, character_is_no_flow_indicator, by text)

-- a text in a URI without such an indicator may come after a handle
suffix_text : (text : Text) → list_all is_uri_character text ≡ true → list_any is_flow_indicator text ≡ false → list_all may_follow_handle text ≡ true
suffix_text [] h k = refl
suffix_text (c ∷ text) h k = grind (arith, and_parts, and_from, or_parts, or_from, suffix_text text)

-- a character that is written after a handle may come there
pub suffix_reads : (portable : Bool) (text : Text) → (portable || not (list_any is_flow_indicator text)) ≡ true
    → list_all may_follow_handle (suffix_escaped portable text) ≡ true
suffix_reads portable text h = grind (arith, suffix_text, uri_text, suffix_stands, suffix_has_no_flow_indicator)

-- Tags

-- if the characters of a tag may come there, a stream's tag has the meaning of a canonical one
verbatim_as_read : (own : List TagDirective) (c : ℕ) (name : Text) → list_all is_uri_character (c ∷ name) ≡ true
    → parse_tag own (codes "!<" ++ ((c ∷ name) ++ codes ">")) ≡ read_tag own (codes "!<" ++ ((c ∷ name) ++ codes ">"))
verbatim_as_read own c name h = grind (arith, closing_angle_dropped)

-- a text that begins with `!` and goes on with another character than `<`
by_handle : (own : List TagDirective) (d : ℕ) (rest handle : Text) (c : ℕ) (suffix : Text) → (d == 0x3C) ≡ false
    → cut_after_exclamation (exclamation_mark ∷ d ∷ rest) ≡ record { prefix = handle; rest = c ∷ suffix } → list_all may_follow_handle (c ∷ suffix) ≡ true
    → parse_tag own (exclamation_mark ∷ d ∷ rest) ≡ read_tag own (exclamation_mark ∷ d ∷ rest)
by_handle own d rest handle c suffix less cut h = grind (arith)

-- a handle and the text after it go on so
second_indicator : (handle : Text) (c : ℕ) (suffix : Text) → IsHandle handle → stands_written c ≡ true
    → (d : ℕ) × (rest : Text) × (handle ++ (c ∷ suffix) ≡ exclamation_mark ∷ d ∷ rest) × ((d == 0x3C) ≡ false)
second_indicator handle c suffix (inl e) h = (c, suffix, ap (λ t. t ++ (c ∷ suffix)) e, written_is_no_less c h)
second_indicator handle c suffix (inr form) h = by form.0 form.1 form.2
  where
    by : (middle : Text) → handle ≡ (exclamation_mark ∷ middle) ++ exclamation_mark ∷ [] → list_all is_alpha middle ≡ true
        → (d : ℕ) × (rest : Text) × (handle ++ (c ∷ suffix) ≡ exclamation_mark ∷ d ∷ rest) × ((d == 0x3C) ≡ false)
    by [] e k = (exclamation_mark, c ∷ suffix, ap (λ t. t ++ (c ∷ suffix)) e, refl)
    by (m ∷ middle) e k =
        let first = (and_parts (is_alpha m) (list_all is_alpha middle) k).0 in
        (m, (middle ++ exclamation_mark ∷ []) ++ (c ∷ suffix), ap (λ t. t ++ (c ∷ suffix)) e, alpha_is_no_less m first)

-- a shorthand has the meaning of a canonical one
shorthand_as_read : (own : List TagDirective) (handle : Text) (c : ℕ) (suffix : Text) → IsHandle handle → list_all stands_written (c ∷ suffix) ≡ true
    → list_all may_follow_handle (c ∷ suffix) ≡ true → parse_tag own (handle ++ (c ∷ suffix)) ≡ read_tag own (handle ++ (c ∷ suffix))
shorthand_as_read own handle c suffix form stands h =
    let second = second_indicator _ c _ form (and_parts _ _ stands).0 in
    ap (parse_tag own) second.2 ∙ by_handle own second.0 second.1 handle c suffix second.3
    (ap cut_after_exclamation (sym second.2) ∙ cut_at_handle _ _ form (stands_no_exclamation (c ∷ suffix) stands)) h ∙ ap (read_tag own) (sym second.2)

nothing_begins : {c : ℕ} {t : Text} → ◌≡◌ {A = Text} [] (c ∷ t) → ⊥
nothing_begins e = cc

-- a spelling is read as a canonical reader reads it
abbrev AsRead : (portable : Bool) → List TagDirective → Spelling → Type 0
AsRead portable own s =
    (portable || not (has_flow_indicator s)) ≡ true → parse_tag own (spelled portable s) ≡ read_tag own (spelled portable s)

spelling_as_read : (portable : Bool) (own : List TagDirective) (d : ℕ) (tag : Text) → directives_fault own ≡ None
    → AsRead portable own (spelling (directives_in_force own) (d ∷ tag))
spelling_as_read portable own d tag sound =
    spelling_is (AsRead portable own) own (directives_in_force own) (d ∷ tag) (in_force_found own sound) whole
    (λ handle prefix c suffix f g e k. by handle (handle_form handle f) (suffix_escaped portable (c ∷ suffix)) (suffix_begins portable c suffix)
    (suffix_stands portable (c ∷ suffix)) (suffix_reads portable (c ∷ suffix) k))
  where
    whole : AsRead portable own (verbatim (d ∷ tag))
    whole k = at (percent_escaped (d ∷ tag)) (escaped_begins d tag) (uri_text (percent_escaped (d ∷ tag)) (escaped_stands (d ∷ tag)))
      where
        at : (name : Text) → (c : ℕ) × (more : Text) × (name ≡ c ∷ more) → list_all is_uri_character name ≡ true
            → parse_tag own (codes "!<" ++ name ++ codes ">") ≡ read_tag own (codes "!<" ++ name ++ codes ">")
        at [] begins h = absurd (nothing_begins begins.2)
        at (c ∷ name) begins h = verbatim_as_read own c name h

    by : (handle : Text) → IsHandle handle → (suffix : Text) → (c : ℕ) × (more : Text) × (suffix ≡ c ∷ more) → list_all stands_written suffix ≡ true
        → list_all may_follow_handle suffix ≡ true → parse_tag own (handle ++ suffix) ≡ read_tag own (handle ++ suffix)
    by handle form [] begins stands h = absurd (nothing_begins begins.2)
    by handle form (c ∷ suffix) begins stands h = shorthand_as_read own handle c suffix form stands h

-- a written tag begins with `!`
begins_exclamation : (portable : Bool) (own : List TagDirective) (tag : Text) → directives_fault own ≡ None
    → (rest : Text) × (spelled portable (spelling (directives_in_force own) tag) ≡ exclamation_mark ∷ rest)
begins_exclamation portable own tag sound =
    spelling_is (λ s. (rest : Text) × (spelled portable s ≡ exclamation_mark ∷ rest)) own (directives_in_force own) tag (in_force_found own sound)
    (0x3C ∷ (percent_escaped tag ++ codes ">"), refl)
    (λ handle prefix c suffix f g e. by handle (handle_form handle f) (suffix_escaped portable (c ∷ suffix)))
  where
    by : (handle : Text) → IsHandle handle → (suffix : Text) → (rest : Text) × (handle ++ suffix ≡ exclamation_mark ∷ rest)
    by handle (inl e) suffix = (suffix, ap (λ t. t ++ suffix) e)
    by handle (inr form) suffix = ((form.0 ++ exclamation_mark ∷ []) ++ suffix, ap (λ t. t ++ suffix) form.1)

-- a tag of at least one character that is written is read as the tag, in portable mode or if no flow indicator follows its handle
pub written_tag : (portable : Bool) (own : List TagDirective) (c : ℕ) (tag : Text) → directives_fault own ≡ None → all_scalars (c ∷ tag) ≡ true
    → (portable || not (has_flow_indicator (spelling (directives_in_force own) (c ∷ tag)))) ≡ true
    → WrittenTag own (spelled portable (spelling (directives_in_force own) (c ∷ tag))) (name_parsed (c ∷ tag))
written_tag portable own c tag sound scalars allowed = record {
  rest = (begins_exclamation portable own (c ∷ tag) sound).0;
  begins = (begins_exclamation portable own (c ∷ tag) sound).1;
  no_white = written_tag_ends_no_word portable own (c ∷ tag) sound;
  says = spelling_as_read portable own c tag sound allowed ∙ written_tag_reads portable own (c ∷ tag) sound scalars;
}
