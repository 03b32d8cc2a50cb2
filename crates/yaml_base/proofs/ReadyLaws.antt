-- Ready events stay ready as a list grows.
use Rattle.yaml_base.proofs.Common.{ℕ, nat_lt, length, Bool, false, true, ◌||◌, List, [], map, ◌++◌, ◌∷◌, refl, ◌≡◌}
use Rattle.yaml_base.proofs.Common.{length-append, sym, ◌∙◌, arith, nat_tests, list_any, Event, awaited, is_balanced, nonempty_prefixes, is_ready}
use Rattle.yaml_base.specs.Ready.{ReadyStays}

pub any_map : (test : List Event → Bool) (extend : List Event → List Event) (lists : List (List Event))
    → list_any test (map extend lists) ≡ list_any (λ list. test (extend list)) lists
any_map test extend [] = refl
any_map test extend (list ∷ lists) = grind (arith, any_map test extend lists)

either : (a b c : Bool) → (b ≡ true → c ≡ true) → a || b ≡ true → a || c ≡ true
either true b c more given = refl
either false b c more given = more given

-- A prefix of a list is a prefix of every longer one.
pub any_prefix : (a b : List Event) (p : List Event → Bool) → list_any p (nonempty_prefixes a) ≡ true → list_any p (nonempty_prefixes (a ++ b)) ≡ true
any_prefix [] b p given = cc
any_prefix (x ∷ a) b p given =
    either _ _ _
    (λ some. any_map p _ _ ∙ any_prefix a b (λ prefix. p (x ∷ prefix)) (sym (any_map p _ _) ∙ some)) given

more_stand : (n : ℕ) (a b : List Event) → nat_lt n (length a) ≡ true → nat_lt n (length (a ++ b)) ≡ true
more_stand n a b given = grind (arith, nat_tests, length-append a b)

either_of : (a b c d : Bool) → (a ≡ true → c ≡ true) → (b ≡ true → d ≡ true) → a || b ≡ true → c || d ≡ true
either_of a b c d h k e = grind (arith, nat_tests)

pub ready_stays : (event : Event) (rest more : List Event) → is_ready event rest ≡ true → is_ready event (rest ++ more) ≡ true
ready_stays event rest more given =
    either_of _ _ _ (list_any is_balanced (nonempty_prefixes (event ∷ (rest ++ more)))) (either _ _ _ (more_stand (awaited event) (event ∷ rest) more))
    (any_prefix (event ∷ rest) more is_balanced) given

pub written_grows : ReadyStays
written_grows [] more = omega arith
written_grows (event ∷ rest) more = grind (arith, nat_tests, ready_stays, written_grows rest more)
