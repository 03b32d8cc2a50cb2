-- Names and handles that aren't refused hold no break.
use Rattle.yaml_emitter.proofs.Common.{ℕ, if◌then◌else◌, ◌==◌, filter, option_and_then, Option, None, Some, Bool, cond, false, not, true, ◌||◌, List, []}
use Rattle.yaml_emitter.proofs.Common.{◌++◌, ◌∷◌, refl, ◌≡◌, eqb-true, ap, ◌∙◌, arith, and_parts, or_parts, nat_tests, list_all, list_any, option_or, Text}
use Rattle.yaml_emitter.proofs.Common.{is_alpha, is_break, TagDirective, name_fault, anchor_fault, alias_fault, exclamation_mark, last_from, without_last}
use Rattle.yaml_emitter.proofs.Common.{handle_fault, prefix_fault, directive_fault, gives_handle, next_directive_fault, directives_fault_after}
use Rattle.yaml_emitter.proofs.Common.{directives_fault, default_directives, directives_in_force, name_breaks, some_handle_breaks}
use Rattle.yaml_base.{proofs.Common.not-false, proofs.TagForms.prefix_and_last, specs.declared.errors.yaml_error_t.yaml_error_t}
use Rattle.yaml_base.specs.declared.errors.yaml_error_t.TheVariants.{AliasAlphabet, AliasEmpty, AnchorAlphabet, AnchorEmpty, TagHandleAlphabet, TagHandleEnd}
use Rattle.yaml_base.specs.declared.errors.yaml_error_t.TheVariants.{TagHandleStart}

letter_is_no_break : (c : ℕ) → is_alpha c ≡ true → is_break c ≡ false
letter_is_no_break c letter = grind (arith, nat_tests)

either_false : (a b : Bool) → a ≡ false → b ≡ false → (a || b) ≡ false
either_false a b here there = ap (λ x. x || b) here ∙ there

letters_no_break : (text : Text) → list_all is_alpha text ≡ true → list_any is_break text ≡ false
letters_no_break [] letters = refl
letters_no_break (c ∷ rest) letters =
    let parts = and_parts (is_alpha c) (list_all is_alpha rest) letters in
    either_false (is_break c) (list_any is_break rest) (letter_is_no_break c parts.0) (letters_no_break rest parts.1)

none_where : (error : yaml_error_t) (test : Bool) → (if test then None else Some error) ≡ None → test ≡ true
none_where error true none = refl
none_where error false none = cc

-- a name that isn't refused holds no break
pub sound_name : (if_empty if_other : yaml_error_t) (name : Text) → name_fault if_empty if_other name ≡ None → list_any is_break name ≡ false
sound_name if_empty if_other [] none = refl
sound_name if_empty if_other (c ∷ rest) none = letters_no_break (c ∷ rest) (none_where if_other (list_all is_alpha (c ∷ rest)) none)

pub sound_alias : (name : Text) → alias_fault name ≡ None → list_any is_break name ≡ false
sound_alias name none = sound_name AliasEmpty AliasAlphabet name none

-- an anchor, if there is one
pub sound_anchor : (anchor : Option Text) → option_and_then anchor_fault anchor ≡ None → name_breaks anchor ≡ false
sound_anchor None none = refl
sound_anchor (Some name) none = sound_name AnchorEmpty AnchorAlphabet name none

any-append : {T : Type 0} (p : T → Bool) (xs ys : List T) → list_any p xs ≡ false → list_any p ys ≡ false → list_any p (xs ++ ys) ≡ false
any-append p [] ys here there = there
any-append p (x ∷ xs) ys here there =
    let parts = or_parts (p x) (list_any p xs) here in
    either_false (p x) (list_any p (xs ++ ys)) parts.0 (any-append p xs ys parts.1 there)

three_tests : (m n k : yaml_error_t) (a b t : Bool) → (if a then Some m else (if b then Some n else (if t then None else Some k))) ≡ None
    → (a ≡ false) × (b ≡ false) × (t ≡ true)
three_tests m n k false false true none = (refl, refl, refl)
three_tests m n k _ _ _ none = cc

exclamation_is_no_break : (c : ℕ) → (c == exclamation_mark) ≡ true → is_break c ≡ false
exclamation_is_no_break c is = ap is_break (eqb-true c exclamation_mark is)

-- a handle that isn't refused holds no break
pub sound_handle : (handle : Text) → handle_fault handle ≡ None → list_any is_break handle ≡ false
sound_handle [] none = refl
sound_handle (c ∷ []) none =
    let tests = three_tests TagHandleStart TagHandleEnd TagHandleAlphabet (not (c == exclamation_mark)) (not (c == exclamation_mark)) true none in
    either_false (is_break c) false (exclamation_is_no_break c (not-false (c == exclamation_mark) tests.0)) refl
sound_handle (c ∷ d ∷ rest) none =
    let last = last_from c (d ∷ rest) in
    let tests = three_tests TagHandleStart TagHandleEnd TagHandleAlphabet (not (c == exclamation_mark)) (not (last == exclamation_mark))
    (list_all is_alpha (without_last (d ∷ rest))) none in
    let ends = either_false (is_break last) false (exclamation_is_no_break last (not-false (last == exclamation_mark) tests.1)) refl in
    either_false (is_break c) (list_any is_break (d ∷ rest)) (exclamation_is_no_break c (not-false (c == exclamation_mark) tests.0))
    (ap (list_any is_break) (prefix_and_last c d rest)
    ∙ any-append is_break (without_last (d ∷ rest)) (last ∷ []) (letters_no_break (without_last (d ∷ rest)) tests.2) ends)

first_none : (a b : Option yaml_error_t) → option_or a b ≡ None → (a ≡ None) × (b ≡ None)
first_none None b none = (refl, none)
first_none (Some n) b none = cc

handles_after : (before directives : List TagDirective) → directives_fault_after before directives ≡ None → some_handle_breaks directives ≡ false
handles_after before [] none = refl
handles_after before (directive ∷ rest) none =
    let one = first_none (next_directive_fault before directive) (directives_fault_after (before ++ directive ∷ []) rest) none in
    let own = first_none (directive_fault directive) _ one.0 in
    let handle = first_none (handle_fault directive.handle) (prefix_fault directive.prefix) own.0 in
    either_false (list_any is_break directive.handle) (some_handle_breaks rest) (sound_handle directive.handle handle.0)
    (handles_after (before ++ directive ∷ []) rest one.1)

-- directives that aren't refused
pub sound_handles : (own : List TagDirective) → directives_fault own ≡ None → some_handle_breaks own ≡ false
sound_handles own none = handles_after [] own none

some_kept : (keeps : TagDirective → Bool) (directives : List TagDirective) → some_handle_breaks directives ≡ false
    → some_handle_breaks (filter keeps directives) ≡ false
some_kept keeps [] none = refl
some_kept keeps (directive ∷ rest) none =
    let parts = or_parts (list_any is_break directive.handle) (some_handle_breaks rest) none in
    elim (keeps directive) as (λ (b : Bool). some_handle_breaks (cond b (directive ∷ filter keeps rest) (filter keeps rest)) ≡ false) [
      | true ↦ either_false (list_any is_break directive.handle) (some_handle_breaks (filter keeps rest)) parts.0 (some_kept keeps rest parts.1)
      | false ↦ some_kept keeps rest parts.1
    ]

-- the directives in force are a document's own and defaults
pub sound_in_force : (own : List TagDirective) → some_handle_breaks own ≡ false → some_handle_breaks (directives_in_force own) ≡ false
sound_in_force own none =
    any-append (λ (directive : TagDirective). list_any is_break directive.handle) own
    (filter (λ directive. not (gives_handle directive.handle own)) default_directives) none
    (some_kept (λ directive. not (gives_handle directive.handle own)) default_directives refl)
