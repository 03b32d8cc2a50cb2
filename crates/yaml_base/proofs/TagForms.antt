-- The forms of handles and tags: their characters, and how a tag is spelled by the directives in force.
use Rattle.yaml_base.proofs.Common.{and_from, or_from}
use Rattle.yaml_base.proofs.Common.{nat_tests, arith, ℕ, ◌==◌, option_map, bytes_eq, Option, None, Some, codes, Bool, cond, false, not, true, List, [], ◌++◌}
use Rattle.yaml_base.proofs.Common.{◌∷◌, ◌⊎◌, refl, ◌≡◌, eqb-true, append_assoc, inr, ap, sym, ◌∙◌, and_parts, or_parts, not-false, bytes_eq-Decides, list_all}
use Rattle.yaml_base.proofs.Common.{scalars, Text, is_alpha, TagDirective, exclamation_mark, handle_fault, gives_handle}
use Rattle.yaml_base.proofs.Common.{directives_fault_after, directives_fault, directives_in_force, Spelling, shorthand, verbatim, spelling, prefix_among}
use Rattle.yaml_base.proofs.Common.{directives_assumed, without_closing_angle}
use lib.Utf8.{scalar}
use Rattle.yaml_base.{proofs.NoFaults.neither, specs.declared.errors.yaml_error_t.yaml_error_t}
use Rattle.yaml_base.specs.Tags.{last_from, without_last, behind, spelling_by}
use Rattle.yaml_base.specs.declared.errors.yaml_error_t.TheVariants.{TagHandleAlphabet, TagHandleEnd, TagHandleStart}

-- Ends of tags

pub last-append : (c : ℕ) (rest : Text) (end : ℕ) → last_from c (rest ++ end ∷ []) ≡ end
last-append c [] end = refl
last-append c (next ∷ rest) end = last-append next rest end

pub without_last-append : (text : Text) (end : ℕ) → without_last (text ++ end ∷ []) ≡ text
without_last-append (c ∷ next ∷ rest) end = ap (λ x. c ∷ x) (without_last-append (next ∷ rest) end)
without_last-append _ end = refl

-- the text before the sign at the end
pub closing_angle_dropped : (text : Text) → without_closing_angle (text ++ 0x3E ∷ []) ≡ Some text
closing_angle_dropped (c ∷ d ∷ rest) = ap (option_map (λ text. c ∷ text)) (closing_angle_dropped (d ∷ rest))
closing_angle_dropped _ = refl

-- Handles

pub prefix_and_last : (c d : ℕ) (rest : Text) → d ∷ rest ≡ without_last (d ∷ rest) ++ last_from c (d ∷ rest) ∷ []
prefix_and_last c d [] = refl
prefix_and_last c d (e ∷ rest) = ap (λ x. d ∷ x) (prefix_and_last d e rest)

handle_tests : (a b t : Bool) → cond {A = Option yaml_error_t} a (Some TagHandleStart)
    (cond b (Some TagHandleEnd) (cond t None (Some TagHandleAlphabet))) ≡ None → (a ≡ false) × (b ≡ false) × (t ≡ true)
handle_tests a b t h = grind (arith, nat_tests)

-- `!`, or characters of the anchor alphabet between two
abbrev pub IsHandle : Text → Type 0
IsHandle handle =
    (handle ≡ exclamation_mark ∷ [])
    ⊎ ((middle : Text) × (handle ≡ (exclamation_mark ∷ middle) ++ exclamation_mark ∷ []) × (list_all is_alpha middle ≡ true))

pub handle_form : (handle : Text) → handle_fault handle ≡ None → IsHandle handle
handle_form [] e = absurd (cc)
handle_form (c ∷ []) e = grind (arith, handle_tests, eqb-true, not-false)
handle_form (c ∷ d ∷ rest) e =
    let tests = handle_tests _ _ _ e in
    let first : c ≡ exclamation_mark = eqb-true _ _ (not-false _ tests.0) in
    let last : last_from c (d ∷ rest) ≡ exclamation_mark = eqb-true _ _ (not-false _ tests.1) in
    let whole =
    ap (λ x. c ∷ x) (prefix_and_last c d rest)
    ∙ ap (λ x. (c ∷ without_last (d ∷ rest)) ++ x ∷ []) last
    ∙ ap (λ x. (x ∷ without_last (d ∷ rest)) ++ exclamation_mark ∷ []) first in
    inr (without_last (d ∷ rest), whole, tests.2)

-- The text after a prefix

behind_step : (same : Bool) (p c : ℕ) (prefix text suffix : Text) → (p == c) ≡ same → cond same (behind prefix text) None ≡ Some suffix → (p ≡ c)
    × (behind prefix text ≡ Some suffix)
behind_step true p c prefix text suffix h e = (eqb-true p c h, e)
behind_step false p c prefix text suffix h e = absurd (cc)

-- with the prefix it is the text
pub behind-whole : (prefix text suffix : Text) → behind prefix text ≡ Some suffix → prefix ++ suffix ≡ text
behind-whole [] [] suffix e = cc
behind-whole [] (c ∷ text) suffix e = cc
behind-whole (p ∷ prefix) [] suffix e = cc
behind-whole (p ∷ prefix) (c ∷ text) suffix e = grind (arith, nat_tests, behind_step, behind-whole prefix text suffix)

-- and it is at least one character
pub behind_begins : (prefix text : Text) → behind prefix text ≡ Some [] → ⊥
behind_begins [] [] e = cc
behind_begins [] (c ∷ text) e = cc
behind_begins (p ∷ prefix) [] e = cc
behind_begins (p ∷ prefix) (c ∷ text) e =
    behind_begins prefix text (behind_step (p == c) p c prefix text [] refl e).1

pub scalars_behind : (prefix suffix : Text) → scalars (prefix ++ suffix) ≡ true → scalars suffix ≡ true
scalars_behind [] suffix h = h
scalars_behind (p ∷ prefix) suffix h = scalars_behind prefix suffix (and_parts (scalar p) (scalars (prefix ++ suffix)) h).1

-- How a tag is spelled

-- Directives that are found by their handles.
abbrev pub AreFound : List TagDirective → List TagDirective → Type 0
AreFound own [] = Unit {0}
AreFound own (directive ∷ rest) =
    (handle_fault directive.handle ≡ None)
    × (prefix_among (own ++ directives_assumed) directive.handle ≡ Some directive.prefix)
    × AreFound own rest

-- a tag is spelled as it is, or by the handle of a directive that is found, whose prefix and the rest are the tag
abbrev pub ByHandle : List TagDirective → Text → (Spelling → Type 0) → Type 0
ByHandle own tag P =
    (handle prefix : Text) (c : ℕ) (suffix : Text) →
    handle_fault handle ≡ None →
    prefix_among (own ++ directives_assumed) handle ≡ Some prefix →
    prefix ++ (c ∷ suffix) ≡ tag →
    P (shorthand handle (c ∷ suffix))

spelled_step : (P : Spelling → Type 0) (own : List TagDirective) (directive : TagDirective) (tag : Text) (otherwise : Spelling) (suffix : Option Text)
    → behind directive.prefix tag ≡ suffix → handle_fault directive.handle ≡ None
    → prefix_among (own ++ directives_assumed) directive.handle ≡ Some directive.prefix → ByHandle own tag P → P otherwise
    → P (spelling_by directive.handle suffix otherwise)
spelled_step P own directive tag otherwise None e f g by known = known
spelled_step P own directive tag otherwise (Some []) e f g by known = absurd (behind_begins directive.prefix tag e)
spelled_step P own directive tag otherwise (Some (c ∷ suffix)) e f g by known =
    by directive.handle directive.prefix c suffix f g (behind-whole directive.prefix tag (c ∷ suffix) e)

pub spelling_is : (P : Spelling → Type 0) (own directives : List TagDirective) (tag : Text) → AreFound own directives → P (verbatim tag) → ByHandle own tag P
    → P (spelling directives tag)
spelling_is P own [] tag found whole by = whole
spelling_is P own (directive ∷ rest) tag found whole by =
    spelled_step P own _ tag _ _ refl found.0 found.1 by (spelling_is P own rest tag found.2 whole by)

-- Directives in force are found

pub same_text : (text : Text) → bytes_eq text text ≡ true
same_text text = (bytes_eq-Decides text text).1 refl

-- directives that don't give a handle are passed over
passed_over : (before more : List TagDirective) (handle : Text) → gives_handle handle before ≡ false
    → prefix_among (before ++ more) handle ≡ prefix_among more handle
passed_over [] more handle h = refl
passed_over (d ∷ before) more handle h = grind (arith, and_parts, and_from, or_parts, or_from, passed_over before more handle)

found_after : (before : List TagDirective) (directive : TagDirective) (more : List TagDirective) → gives_handle directive.handle before ≡ false
    → prefix_among (before ++ (directive ∷ more)) directive.handle ≡ Some directive.prefix
found_after before directive more h =
    passed_over before (directive ∷ more) directive.handle h ∙ rw (same_text directive.handle) refl

all_found : (own before rest : List TagDirective) → own ≡ before ++ rest → directives_fault_after before rest ≡ None → AreFound own rest
all_found own before [] e h = tt
all_found own before (directive ∷ rest) e h =
    grind (arith, neither, append_assoc, found_after, all_found own (before ++ directive ∷ []) rest (e ∙ sym (append_assoc before (directive ∷ []) rest)))

abbrev primary : TagDirective
primary = record { handle = codes "!"; prefix = codes "!" }

abbrev secondary : TagDirective
secondary = record { handle = codes "!!"; prefix = codes "tag:yaml.org,2002:" }

defaults_found_by : (own : List TagDirective) (first second : Bool) → gives_handle primary.handle own ≡ first → gives_handle secondary.handle own ≡ second
    → AreFound own (cond (not first) (primary ∷ cond (not second) (secondary ∷ []) []) (cond (not second) (secondary ∷ []) []))
defaults_found_by own first second h k = grind (arith, nat_tests, passed_over)

found-append : (own xs ys : List TagDirective) → AreFound own xs → AreFound own ys → AreFound own (xs ++ ys)
found-append own [] ys f g = g
found-append own (x ∷ xs) ys f g = (f.0, f.1, found-append own xs ys f.2 g)

pub in_force_found : (own : List TagDirective) → directives_fault own ≡ None → AreFound own (directives_in_force own)
in_force_found own h =
    found-append own own _ (all_found own [] own refl h) (defaults_found_by own _ _ refl refl)
