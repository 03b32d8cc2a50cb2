-- Adding both defaults in turn gives the directives in force.
use Rattle.yaml_emitter.proofs.Common.{ℕ, if◌then◌else◌, OnOk, Some, Result, Err, Ok, codes, length, Bool, false, not, true, List, [], ◌++◌, ◌∷◌, refl}
use Rattle.yaml_emitter.proofs.Common.{◌≡◌, append-nil, append_assoc, ap, sym, ◌∙◌, list_any, TagDirective, gives_handle, default_directives}
use Rattle.yaml_emitter.proofs.Common.{directives_in_force}
use Rattle.std.{proofs.Common.bytes_eq, proofs.Math.Bool.or-false, proofs.lemmas.List.Folds.list_any-append, specs.Prelude.slice_get, specs.Str.chars}
use Rattle.yaml_base.specs.{declared.errors.yaml_error_t.yaml_error_t}
use Rattle.yaml_emitter.specs.InForce.{with_default}

abbrev pub own_default : TagDirective
own_default = record { handle = codes "!"; prefix = codes "!" }

abbrev pub yaml_default : TagDirective
yaml_default = record { handle = codes "!!"; prefix = codes "tag:yaml.org,2002:" }

abbrev one_if_not : Bool → TagDirective → List TagDirective
one_if_not given default = if not given then default ∷ [] else []

added : (own : List TagDirective) (default : TagDirective) → with_default own default ≡ own ++ one_if_not (gives_handle default.handle own) default
added own default = by (gives_handle default.handle own)
  where
    by : (given : Bool) → (if given then own else own ++ default ∷ []) ≡ own ++ one_if_not given default
    by true = sym (append-nil own)
    by false = refl

chosen_two : (own_given yaml_given : Bool) → one_if_not own_given own_default ++ one_if_not yaml_given yaml_default
    ≡ (if not own_given then own_default ∷ (if not yaml_given then yaml_default ∷ [] else []) else (if not yaml_given then yaml_default ∷ [] else []))
chosen_two true true = refl
chosen_two _ _ = refl

-- the first default has another handle than the second
still_given : (own : List TagDirective) (given : Bool)
    → gives_handle yaml_default.handle (own ++ one_if_not given own_default) ≡ gives_handle yaml_default.handle own
still_given own true = ap (gives_handle yaml_default.handle) (append-nil own)
still_given own false =
    let test : TagDirective → Bool = λ directive. bytes_eq directive.handle yaml_default.handle in
    list_any-append test own (own_default ∷ []) ∙ or-false (list_any test own)

pub both_defaults : (own : List TagDirective) → with_default (with_default own own_default) yaml_default ≡ directives_in_force own
both_defaults own =
    let first = own ++ one_if_not (gives_handle own_default.handle own) own_default in
    ap (λ list. with_default list yaml_default) (added own own_default)
    ∙ added first yaml_default
    ∙ ap (λ given. first ++ one_if_not given yaml_default) (still_given own (gives_handle own_default.handle own))
    ∙ append_assoc own (one_if_not (gives_handle own_default.handle own) own_default) (one_if_not (gives_handle yaml_default.handle own) yaml_default)
    ∙ ap (λ list. own ++ list) (chosen_two (gives_handle own_default.handle own) (gives_handle yaml_default.handle own))

-- a default as its texts' bytes give it
abbrev of_bytes : List ℕ → List ℕ → TagDirective
of_bytes handle prefix = record { handle = chars handle; prefix = chars prefix }

own_default_read : of_bytes (codes "!") (codes "!") ≡ own_default
unfolding chars
own_default_read = refl

yaml_default_read : of_bytes (codes "!!") (codes "tag:yaml.org,2002:") ≡ yaml_default
unfolding chars
yaml_default_read = refl

pub defaults_added : (own middle last : List TagDirective) (answer : Result (Unit {0}) yaml_error_t)
    → middle ≡ with_default own (of_bytes (codes "!") (codes "!"))
    → OnOk answer (last ≡ with_default middle (of_bytes (codes "!!") (codes "tag:yaml.org,2002:")))
    → OnOk answer (last ≡ directives_in_force own)
defaults_added own middle last (Ok _) first second =
    second
    ∙ ap (with_default middle) yaml_default_read
    ∙ ap (λ list. with_default list yaml_default) (first ∙ ap (with_default own) own_default_read)
    ∙ both_defaults own
defaults_added own middle last (Err _) first second = second

-- a list of just both is theirs
pub two_defaults : (list : List TagDirective) → length list ≡ 2 → slice_get list 0 ≡ Some (of_bytes (codes "!") (codes "!"))
    → slice_get list 1 ≡ Some (of_bytes (codes "!!") (codes "tag:yaml.org,2002:")) → list ≡ default_directives
two_defaults [] count first second = cc
two_defaults (a ∷ []) count first second = cc
two_defaults (a ∷ b ∷ []) count first second =
    ap (λ (d : TagDirective). d ∷ b ∷ []) (some_is a (of_bytes (codes "!") (codes "!")) first ∙ own_default_read)
    ∙ ap (λ (d : TagDirective). own_default ∷ d ∷ []) (some_is b (of_bytes (codes "!!") (codes "tag:yaml.org,2002:")) second ∙ yaml_default_read)
  where
    some_is : (x y : TagDirective) → Some x ≡ Some y → x ≡ y
    some_is x y h = cc
two_defaults (a ∷ b ∷ c ∷ more) count first second = cc
