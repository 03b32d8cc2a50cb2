-- The written form of a tag, read with the document's own directives and the defaults, is the tag.
use Rattle.yaml_base.proofs.Common.{and_from, arith, or_from, or_parts}
use Rattle.yaml_base.proofs.Common.{ℕ, ◌==◌, option_map, None, Some, Bool, false, not, true, List, [], ◌++◌, ◌∷◌, refl, ◌≡◌, append_assoc, inl, inr, ap, subst}
use Rattle.yaml_base.proofs.Common.{sym, ◌∙◌, and_parts, not-true, list_all, scalars, Text, is_alpha, TagDirective, percent_escaped, suffix_escaped}
use Rattle.yaml_base.proofs.Common.{exclamation_mark, handle_fault, directives_fault, directives_in_force, Spelling, verbatim, spelling, spelled}
use Rattle.yaml_base.proofs.Common.{shorthand_read, verbatim_read, read_tag, percent_read, name_parsed, prefix_among, directives_assumed}
use Rattle.yaml_base.proofs.PercentLaws.{decoded_escaped, decoded_suffix, stands_written, suffix_stands, written_is_no_exclamation, written_is_no_less}
use Rattle.yaml_base.proofs.{Common.cut_after_exclamation, Common.name_joined, PercentLaws.alpha_is_no_less, PercentLaws.suffix_begins}
use Rattle.yaml_base.proofs.TagForms.{closing_angle_dropped, IsHandle, handle_form, scalars_behind, spelling_is, in_force_found}

-- Verbatim tags

pub verbatim_reads : (portable : Bool) (own : List TagDirective) (tag : Text) → scalars tag ≡ true
    → read_tag own (spelled portable (verbatim tag)) ≡ Some (name_parsed tag)
verbatim_reads portable own tag h = ap verbatim_read (closing_angle_dropped (percent_escaped tag)) ∙ ap (option_map name_parsed) (decoded_escaped tag h)

-- A text up to its last `!`

abbrev no_exclamation : Text → Bool
no_exclamation text = list_all (λ c. not (c == exclamation_mark)) text

uncut : (text : Text) → no_exclamation text ≡ true → cut_after_exclamation text ≡ record { prefix = []; rest = text }
uncut [] h = refl
uncut (c ∷ rest) h =
    let both = and_parts (not (c == exclamation_mark)) (no_exclamation rest) h in rw (uncut rest both.1, not-true _ both.0) refl

cut_at_exclamation : (text : Text) → no_exclamation text ≡ true
    → cut_after_exclamation (exclamation_mark ∷ text) ≡ record { prefix = exclamation_mark ∷ []; rest = text }
cut_at_exclamation text h = rw (uncut text h) refl

cut_further : (prefix : Text) (c : ℕ) (handle suffix text : Text) → cut_after_exclamation text ≡ record { prefix = c ∷ handle; rest = suffix }
    → cut_after_exclamation (prefix ++ text) ≡ record { prefix = prefix ++ (c ∷ handle); rest = suffix }
cut_further [] c handle suffix text e = e
cut_further (d ∷ []) c handle suffix text e = rw e refl
cut_further (d ∷ f ∷ prefix) c handle suffix text e = rw (cut_further (f ∷ prefix) c handle suffix text e) refl

pub stands_no_exclamation : (text : Text) → list_all stands_written text ≡ true → no_exclamation text ≡ true
stands_no_exclamation [] h = refl
stands_no_exclamation (c ∷ rest) h = grind (arith, and_parts, and_from, or_parts, or_from, written_is_no_exclamation, stands_no_exclamation rest)

-- Shorthands

within_exclamations : (handle middle text : Text) → handle ≡ (exclamation_mark ∷ middle) ++ exclamation_mark ∷ []
    → handle ++ text ≡ (exclamation_mark ∷ middle) ++ (exclamation_mark ∷ text)
within_exclamations handle middle text e = ap (λ x. x ++ text) e ∙ append_assoc (exclamation_mark ∷ middle) (exclamation_mark ∷ []) text

pub cut_at_handle : (handle text : Text) → IsHandle handle → no_exclamation text ≡ true
    → cut_after_exclamation (handle ++ text) ≡ record { prefix = handle; rest = text }
cut_at_handle handle text (inl e) h = rw e (cut_at_exclamation text h)
cut_at_handle handle text (inr form) h =
    ap cut_after_exclamation (within_exclamations handle form.0 text form.1)
    ∙ cut_further (exclamation_mark ∷ form.0) exclamation_mark [] text (exclamation_mark ∷ text) (cut_at_exclamation text h)
    ∙ ap (λ x. record { prefix = x; rest = text }) (sym form.1)

-- a text that begins with `!` and goes on with another character than `<`
by_shorthand : (own : List TagDirective) (d : ℕ) (rest : Text) → (d == 0x3C) ≡ false
    → read_tag own (exclamation_mark ∷ d ∷ rest) ≡ shorthand_read own (cut_after_exclamation (exclamation_mark ∷ d ∷ rest))
by_shorthand own d rest h = rw h refl

alpha_first : (own : List TagDirective) (middle text : Text) → list_all is_alpha middle ≡ true
    → read_tag own ((exclamation_mark ∷ middle) ++ (exclamation_mark ∷ text)) ≡ shorthand_read own
    (cut_after_exclamation ((exclamation_mark ∷ middle) ++ (exclamation_mark ∷ text)))
alpha_first own [] text h = by_shorthand own exclamation_mark text refl
alpha_first own (m ∷ middle) text h =
    by_shorthand own m (middle ++ (exclamation_mark ∷ text)) (alpha_is_no_less m (and_parts (is_alpha m) (list_all is_alpha middle) h).0)

handle_first : (own : List TagDirective) (handle : Text) (d : ℕ) (rest : Text) → IsHandle handle → stands_written d ≡ true
    → read_tag own (handle ++ (d ∷ rest)) ≡ shorthand_read own (cut_after_exclamation (handle ++ (d ∷ rest)))
handle_first own handle d rest (inl e) h = rw e (by_shorthand own d rest (written_is_no_less d h))
handle_first own handle d rest (inr form) h =
    let P : Text → Type 0 = λ text. read_tag own text ≡ shorthand_read own (cut_after_exclamation text) in
    subst P (sym (within_exclamations handle form.0 (d ∷ rest) form.1)) (alpha_first own form.0 (d ∷ rest) form.2)

-- a handle whose prefix is known, and the rest of a tag
shorthand_reads : (portable : Bool) (own : List TagDirective) (handle prefix : Text) (c : ℕ) (suffix : Text) → handle_fault handle ≡ None
    → prefix_among (own ++ directives_assumed) handle ≡ Some prefix → scalars (c ∷ suffix) ≡ true
    → read_tag own (handle ++ suffix_escaped portable (c ∷ suffix)) ≡ Some (name_parsed (prefix ++ (c ∷ suffix)))
shorthand_reads portable own handle prefix c suffix f g h =
    let written = suffix_escaped portable (c ∷ suffix) in
    let form = handle_form _ f in
    let begins = suffix_begins _ c _ in
    let stands : list_all stands_written written ≡ true = suffix_stands portable (c ∷ suffix) in
    let P : Text → Type 0 = λ text. list_all stands_written text ≡ true in
    let Q : Text → Type 0 = λ text. read_tag own (handle ++ text) ≡ shorthand_read own (cut_after_exclamation (handle ++ text)) in
    let first = (and_parts (stands_written begins.0) (list_all stands_written begins.1) (subst P begins.2 stands)).0 in
    subst Q (sym begins.2) (handle_first own handle begins.0 begins.1 form first)
    ∙ ap (shorthand_read own) (cut_at_handle handle written form (stands_no_exclamation written stands))
    ∙ ap (λ x. name_joined x (percent_read written)) g ∙ ap (name_joined (Some prefix)) (decoded_suffix portable (c ∷ suffix) h)

-- Written tags

pub written_tag_reads : (portable : Bool) (own : List TagDirective) (tag : Text) → directives_fault own ≡ None → scalars tag ≡ true
    → read_tag own (spelled portable (spelling (directives_in_force own) tag)) ≡ Some (name_parsed tag)
written_tag_reads portable own tag h k =
    let P : Spelling → Type 0 = λ s. read_tag own (spelled portable s) ≡ Some (name_parsed tag) in
    let IsText : Text → Type 0 = λ text. scalars text ≡ true in
    spelling_is P own _ tag (in_force_found own h) (verbatim_reads portable own tag k)
    (λ handle prefix c suffix f g whole. shorthand_reads portable own handle prefix c suffix f g (scalars_behind prefix _ (subst IsText (sym whole) k))
    ∙ ap (λ x. Some (name_parsed x)) whole)
