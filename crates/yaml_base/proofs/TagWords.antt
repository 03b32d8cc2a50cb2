-- A written tag is one word: it holds no white space, and it is never the bare tag.
use Rattle.yaml_base.proofs.Common.{ℕ, None, Bool, false, true, ◌||◌, List, [], ◌++◌, ◌∷◌, refl, ◌≡◌, ap, sym, ◌∙◌, arith, or_parts, or_from, nat_tests}
use Rattle.yaml_base.proofs.Common.{list_all, list_any, Text, is_alpha, is_blank, is_break, TagDirective, percent_escaped, suffix_escaped, exclamation_mark}
use Rattle.yaml_base.proofs.{TagForms.IsHandle, TagForms.handle_form, TagForms.spelling_is, TagForms.in_force_found, AllPass.none_pass, AllPass.fewer_pass}
use Rattle.yaml_base.proofs.Common.{handle_fault, directives_fault, directives_in_force, Spelling, spelling, spelled}
use Rattle.yaml_base.proofs.PercentLaws.{stands_written, escaped_stands, suffix_stands, separates, written_never_separates, suffix_begins}

any-append : (p : ℕ → Bool) (xs ys : Text) → list_any p xs ≡ false → list_any p ys ≡ false → list_any p (xs ++ ys) ≡ false
any-append p [] ys h k = k
any-append p (x ∷ xs) ys h k =
    let both = or_parts (p x) (list_any p xs) h in or_from _ _ both.0 (any-append p xs ys both.1 k)

-- true of a character at which a reader could end a word
abbrev pub ends_word : ℕ → Bool
ends_word c = is_blank c || is_break c

alpha_ends_no_word : (c : ℕ) → is_alpha c ≡ true → ends_word c ≡ false
alpha_ends_no_word c h = grind (arith, nat_tests)

pub letters_end_no_word : (text : Text) → list_all is_alpha text ≡ true → list_any ends_word text ≡ false
letters_end_no_word text h = none_pass is_alpha ends_word alpha_ends_no_word text h

pub handle_ends_no_word : (handle : Text) → IsHandle handle → list_any ends_word handle ≡ false
handle_ends_no_word handle h = grind (arith, nat_tests, any-append, letters_end_no_word)

never_separates : (text : Text) → list_all stands_written text ≡ true → list_any separates text ≡ false
never_separates text h = none_pass stands_written separates written_never_separates text h

-- percent forms hold no blank, no break, no `!`, no `<` and no `>`
pub escaped_never_separates : (text : Text) → list_any separates (percent_escaped text) ≡ false
escaped_never_separates text = never_separates (percent_escaped text) (escaped_stands text)

separates_not_ends : (text : Text) → list_any separates text ≡ false → list_any ends_word text ≡ false
separates_not_ends text h = fewer_pass separates ends_word (λ c e. (or_parts (ends_word c) _ e).0) text h

escaped_ends_no_word : (text : Text) → list_any ends_word (percent_escaped text) ≡ false
escaped_ends_no_word text = separates_not_ends (percent_escaped text) (escaped_never_separates text)

suffix_ends_no_word : (portable : Bool) (text : Text) → list_any ends_word (suffix_escaped portable text) ≡ false
suffix_ends_no_word portable text =
    separates_not_ends (suffix_escaped portable text) (never_separates (suffix_escaped portable text) (suffix_stands portable text))

-- a written tag holds no blank and no break
pub written_tag_ends_no_word : (portable : Bool) (own : List TagDirective) (tag : Text) → directives_fault own ≡ None
    → list_any ends_word (spelled portable (spelling (directives_in_force own) tag)) ≡ false
written_tag_ends_no_word portable own tag h =
    let P : Spelling → Type 0 = λ s. list_any ends_word (spelled portable s) ≡ false in
    spelling_is P own _ tag (in_force_found own h) (any-append ends_word (percent_escaped tag) (0x3E ∷ []) (escaped_ends_no_word tag) refl)
    (λ handle prefix c suffix f g whole. any-append _ handle _ (handle_ends_no_word handle (handle_form handle f)) (suffix_ends_no_word portable (c ∷ suffix)))

two_at_least : (handle : Text) (d : ℕ) (more : Text) → handle_fault handle ≡ None → handle ++ (d ∷ more) ≡ exclamation_mark ∷ [] → ⊥
two_at_least [] d more f e = cc
two_at_least (x ∷ []) d more f e = cc
two_at_least (x ∷ y ∷ handle) d more f e = cc

-- a written tag is never the bare tag
pub written_tag_is_not_bare : (portable : Bool) (own : List TagDirective) (tag : Text) → directives_fault own ≡ None
    → spelled portable (spelling (directives_in_force own) tag) ≡ exclamation_mark ∷ [] → ⊥
written_tag_is_not_bare portable own tag h =
    let P : Spelling → Type 0 = λ s. spelled portable s ≡ exclamation_mark ∷ [] → ⊥ in
    spelling_is P own (directives_in_force own) tag (in_force_found own h)
    (λ e. cc)
    (λ handle prefix c suffix f g whole e.
    let begins = suffix_begins portable c suffix in
    two_at_least handle begins.0 begins.1 f (ap (λ x. handle ++ x) (sym begins.2) ∙ e))
