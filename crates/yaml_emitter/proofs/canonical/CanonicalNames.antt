-- The canonical reader's tokens for anchors, aliases and tags.
use Rattle.yaml_emitter.proofs.Common.{ℕ, ◌==◌, None, codes, Bool, false, not, true, ◌||◌, List, [], ◌++◌, ◌∷◌, refl, ◌≡◌, append-nil, append_assoc, inl, inr}
use Rattle.yaml_emitter.proofs.Common.{ap, subst, sym, ◌∙◌, arith, and_parts, and_from, false≢true, nat_tests, list_all-append, list_all, all_scalars}
use Rattle.yaml_emitter.proofs.Common.{IsHandle, handle_form, spelling_is, in_force_found, Text, carriage_return, next_line, space, is_alpha, is_space}
use Rattle.yaml_emitter.proofs.Common.{TagDirective, is_rendered_text, percent_escaped, suffix_escaped, prefix_escaped, exclamation_mark, directives_fault}
use Rattle.yaml_emitter.proofs.Common.{directives_in_force, Spelling, spelling, spelled, anchor_token, alias_token, tag_token, free, moves_to}
use Rattle.yaml_emitter.proofs.Common.{step_between_tokens, tokens_from, begins_with}
use Rattle.yaml_base.proofs.Common.{is_among, if◌then◌else◌}
use lib.Utf8.{scalar}
use Rattle.yaml_base.proofs.PercentLaws.{stands_written, escaped_stands, suffix_stands, stands_in_prefix, prefix_stands}
use Rattle.yaml_base.specs.reading.CanonicalTokens.{Token, TokenPlace, CanonicalStep, in_anchor, in_alias, in_tag, anchor_named, alias_named}
use Rattle.yaml_base.specs.reading.CanonicalTokens.{completes_before, token_step, canonical_tokens_at_end}
use Rattle.yaml_emitter.proofs.canonical.CanonicalText.{name_ends, space_next, Says, step_fixed}
use Rattle.yaml_base.proofs.AllPass.{all_pass}

-- true for a character of a written tag, handle or prefix
abbrev pub is_written : ℕ → Bool
is_written c = stands_written c || is_among (codes "!<>") c

written-scalar : (c : ℕ) → is_written c ≡ true → scalar c ≡ true
written-scalar c h = grind (arith, nat_tests)

written-rendered : (c : ℕ) → is_written c ≡ true → not (c == carriage_return || c == next_line) ≡ true
written-rendered c h = grind (arith, nat_tests)

pub written-space : (c : ℕ) → is_written c ≡ true → (c == space) ≡ false
written-space c h = grind (arith, nat_tests)

alpha-written : (c : ℕ) → is_alpha c ≡ true → is_written c ≡ true
alpha-written c h = grind (arith, nat_tests)

stands-written : (c : ℕ) → stands_written c ≡ true → is_written c ≡ true
stands-written c h = rw h refl

abbrev pub all_written : Text → Bool
all_written text = list_all is_written text

pub all-scalars : (text : Text) → all_written text ≡ true → all_scalars text ≡ true
all-scalars [] h = refl
all-scalars (c ∷ text) h = let p = and_parts (is_written c) (all_written text) h in and_from _ _ (written-scalar c p.0) (all-scalars text p.1)

pub all-rendered : (text : Text) → all_written text ≡ true → is_rendered_text text ≡ true
all-rendered [] h = refl
all-rendered (c ∷ text) h = let p = and_parts (is_written c) (all_written text) h in and_from _ _ (written-rendered c p.0) (all-rendered text p.1)

pub alphas-written : (text : Text) → list_all is_alpha text ≡ true → all_written text ≡ true
alphas-written text h = all_pass is_alpha is_written alpha-written text h

stand-written : (text : Text) → list_all stands_written text ≡ true → all_written text ≡ true
stand-written text h = all_pass stands_written is_written stands-written text h

pub escaped-written : (text : Text) → all_written (percent_escaped text) ≡ true
escaped-written text = stand-written (percent_escaped text) (escaped_stands text)

pub suffix-written : (portable : Bool) (text : Text) → all_written (suffix_escaped portable text) ≡ true
suffix-written portable text = stand-written (suffix_escaped portable text) (suffix_stands portable text)

prefix_character : (c : ℕ) → stands_in_prefix c ≡ true → is_written c ≡ true
prefix_character c h = grind (arith, nat_tests)

stand-in-prefix : (text : Text) → list_all stands_in_prefix text ≡ true → all_written text ≡ true
stand-in-prefix text h = all_pass stands_in_prefix is_written prefix_character text h

pub prefix-written : (portable : Bool) (text : Text) → all_written (prefix_escaped portable text) ≡ true
prefix-written portable text = stand-in-prefix (prefix_escaped portable text) (prefix_stands portable text)

pub written-append : (a b : Text) → all_written a ≡ true → all_written b ≡ true → all_written (a ++ b) ≡ true
written-append a b h k = list_all-append is_written a b ∙ and_from _ _ h k

-- Names.

pub record IsName (name : Text) : Type 0 where
  pub some : begins_with is_alpha name ≡ true
  pub alphas : list_all is_alpha name ≡ true

-- letters go on in a name, and anything else ends it
name-goes : (breaks12 : Bool) (place : Text → TokenPlace) (named : Text → Token)
    → ((seen : Text) (c : ℕ) → token_step breaks12 (place seen) c
    ≡ (if is_alpha c then moves_to (place (seen ++ c ∷ [])) else completes_before (named seen) (step_between_tokens breaks12 c)))
    → ((seen : Text) → canonical_tokens_at_end (place seen) ≡ named seen ∷ []) → (name seen rest : Text) → list_all is_alpha name ≡ true
    → begins_with is_alpha rest ≡ false → tokens_from breaks12 (place seen) (name ++ rest) ≡ named (seen ++ name) ∷ tokens_from breaks12 free rest
name-goes breaks12 place named step end [] seen [] h k = end seen ∙ ap (λ t. named t ∷ []) (sym (append-nil seen))
name-goes breaks12 place named step end [] seen (c ∷ rest) h k =
    ap (λ (here : CanonicalStep). here.tokens ++ tokens_from breaks12 here.place rest)
    (step seen c ∙ ap (λ x. if x then moves_to (place (seen ++ c ∷ [])) else completes_before (named seen) (step_between_tokens breaks12 c)) k)
    ∙ ap (λ t. named t ∷ tokens_from breaks12 free (c ∷ rest)) (sym (append-nil seen))
name-goes breaks12 place named step end (c ∷ name) seen rest h k =
    let p = and_parts (is_alpha c) (list_all is_alpha name) h in
    ap (λ (here : CanonicalStep). here.tokens ++ tokens_from breaks12 here.place (name ++ rest))
    (step seen c ∙ ap (λ x. if x then moves_to (place (seen ++ c ∷ [])) else completes_before (named seen) (step_between_tokens breaks12 c)) p.0)
    ∙ name-goes breaks12 place named step end name (seen ++ c ∷ []) rest p.1 k
    ∙ ap (λ t. named t ∷ tokens_from breaks12 free rest) (append_assoc seen (c ∷ []) name)

named-anchor : (name : Text) → begins_with is_alpha name ≡ true → anchor_named name ≡ anchor_token name
named-anchor [] h = absurd (false≢true h)
named-anchor (c ∷ name) h = refl

named-alias : (name : Text) → begins_with is_alpha name ≡ true → alias_named name ≡ alias_token name
named-alias [] h = absurd (false≢true h)
named-alias (c ∷ name) h = refl

pub anchor_says : (breaks12 : Bool) (name : Text) → IsName name → Says breaks12 name_ends (codes "&" ++ name) (anchor_token name ∷ [])
anchor_says breaks12 name is = record {
  scalars = all-scalars name (alphas-written name is.alphas);
  rendered = all-rendered name (alphas-written name is.alphas);
  reads = λ rest meets.
      rw (step_fixed breaks12 0x26 refl)
      (name-goes breaks12 in_anchor anchor_named (λ seen c. refl) (λ seen. refl) name [] rest is.alphas meets
      ∙ ap (λ t. t ∷ tokens_from breaks12 free rest) (named-anchor name is.some));
}

pub alias_says : (breaks12 : Bool) (name : Text) → IsName name → Says breaks12 name_ends (codes "*" ++ name) (alias_token name ∷ [])
alias_says breaks12 name is = record {
  scalars = all-scalars name (alphas-written name is.alphas);
  rendered = all-rendered name (alphas-written name is.alphas);
  reads = λ rest meets.
      rw (step_fixed breaks12 0x2A refl)
      (name-goes breaks12 in_alias alias_named (λ seen c. refl) (λ seen. refl) name [] rest is.alphas meets
      ∙ ap (λ t. t ∷ tokens_from breaks12 free rest) (named-alias name is.some));
}

-- Tags.

tag-ends : (breaks12 : Bool) (seen rest : Text) → begins_with is_space rest ≡ true
    → tokens_from breaks12 (in_tag seen) rest ≡ tag_token seen ∷ tokens_from breaks12 free rest
tag-ends breaks12 seen [] h = absurd (false≢true h)
tag-ends breaks12 seen (c ∷ rest) h = rw h refl

tag-goes : (breaks12 : Bool) (text seen rest : Text) → all_written text ≡ true → begins_with is_space rest ≡ true
    → tokens_from breaks12 (in_tag seen) (text ++ rest) ≡ tag_token (seen ++ text) ∷ tokens_from breaks12 free rest
tag-goes breaks12 [] seen rest h k = tag-ends breaks12 seen rest k ∙ ap (λ t. tag_token t ∷ tokens_from breaks12 free rest) (sym (append-nil seen))
tag-goes breaks12 (c ∷ text) seen rest h k =
    let p : (is_written c ≡ true) × (all_written text ≡ true) = and_parts _ _ h in
    rw (written-space c p.0)
    (tag-goes breaks12 text (seen ++ c ∷ []) rest p.1 k
    ∙ ap (λ t. tag_token t ∷ tokens_from breaks12 free rest) (append_assoc seen (c ∷ []) text))

-- a text of a tag, from its `!` on
pub record IsTagText (text : Text) : Type 0 where
  pub rest : Text
  pub is : text ≡ exclamation_mark ∷ rest
  pub written : all_written rest ≡ true

pub tag_says : (breaks12 : Bool) (text : Text) → IsTagText text → Says breaks12 space_next text (tag_token text ∷ [])
tag_says breaks12 text tag =
    subst (λ t. Says breaks12 space_next t (tag_token t ∷ [])) (sym tag.is)
    (record {
      scalars = all-scalars tag.rest tag.written;
      rendered = all-rendered tag.rest tag.written;
      reads = λ rest meets. rw (step_fixed breaks12 0x21 refl) (tag-goes breaks12 tag.rest (0x21 ∷ []) rest tag.written meets);
    })

tag-append : (a b : Text) → IsTagText a → all_written b ≡ true → IsTagText (a ++ b)
tag-append a b tag h = record { rest = tag.rest ++ b; is = ap (λ t. t ++ b) tag.is; written = written-append tag.rest b tag.written h }

pub handle_text : (handle : Text) → IsHandle handle → IsTagText handle
handle_text handle (inl e) = record { rest = []; is = e; written = refl }
handle_text handle (inr form) = record {
  rest = form.0 ++ exclamation_mark ∷ [];
  is = form.1;
  written = written-append form.0 (exclamation_mark ∷ []) (alphas-written form.0 form.2) refl;
}

-- A written tag is such a text.
pub tag_text : (portable : Bool) (own : List TagDirective) (tag : Text) → directives_fault own ≡ None
    → IsTagText (spelled portable (spelling (directives_in_force own) tag))
tag_text portable own tag h =
    let P : Spelling → Type 0 = λ s. IsTagText (spelled portable s) in
    spelling_is P own (directives_in_force own) tag (in_force_found own h)
    (record {
      rest = (0x3C ∷ percent_escaped tag)
          ++ codes ">";
      is = refl;
      written = written-append (0x3C ∷ percent_escaped tag) (codes ">") (escaped-written tag) refl;
    })
    (λ handle prefix c suffix f g whole.
    tag-append handle (suffix_escaped portable (c ∷ suffix)) (handle_text handle (handle_form handle f)) (suffix-written portable (c ∷ suffix)))
