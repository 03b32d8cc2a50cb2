-- Words of a schema, looked up in its table.
use Rattle.yaml_base.proofs.Common.{if◌then◌else◌, None, Some, Bool, false, true, List, [], ◌∷◌, refl, ◌≡◌, true≢false, ap, sym, ◌∙◌}
use Rattle.yaml_base.proofs.Common.{and_parts, bytes_eq-Decides, list_all, Text, is_word, named}

-- a text that differs from all words of a table in some test is none of them
pub named_unlike : {A : Type 0} (test : Text → Bool) (table : List (Text × A)) (text : Text)
    → list_all (λ entry. test entry.0) table ≡ true → test text ≡ false → named table text ≡ None
named_unlike test [] text all other = refl
named_unlike {A} test (entry ∷ table) text all other = by (is_word text entry.0) refl (named_unlike test table text both.1 other)
  where
    both : (test entry.0 ≡ true) × (list_all (λ e. test e.0) table ≡ true)
    both = and_parts (test entry.0) (list_all (λ e. test e.0) table) all

    by : (x : Bool) → is_word text entry.0 ≡ x → named table text ≡ None → (if x then Some entry.1 else named table text) ≡ None
    by true e ih = absurd (true≢false (sym both.0 ∙ ap test (sym ((bytes_eq-Decides text entry.0).0 e)) ∙ other))
    by false e ih = ih
