-- A name in a message: both ends of a long one, and all of another.
use Rattle.yaml_base.proofs.Common.{arith, nat_tests}
use Rattle.std.proofs.Common.{◌≡◌, ◌≤◌, ◌+◌, ℕ, Bool, true, false, IfSome, List, Option, None, Some, length, subst, codes, refl, if◌then◌else◌}
use Rattle.std.specs.Char.{is_ascii}
use Rattle.std.specs.Fmt.{◌++?◌, debug_str}
use Rattle.std.specs.List.{list_all}
use Rattle.yaml_base.specs.Quoting.{AreHalvesOf, half, quoted_ascii, quoted_text}

-- the text of two ends
abbrev pub both : (first last : List ℕ) → Option (List ℕ)
both first last = debug_str first ++? Some (codes "..") ++? debug_str last

long_ascii : (name first last : List ℕ) → AreHalvesOf name first last → both first last ≡ quoted_ascii name
long_ascii name first last halves = grind (arith, nat_tests)

-- what is shown is the text of the name
shown : (P : List ℕ → Type 0) (name : List ℕ) (ascii : Bool) (text : Option (List ℕ)) → list_all is_ascii name ≡ ascii
    → (list_all is_ascii name ≡ true → text ≡ quoted_ascii name) → IfSome text P → IfSome (if ascii then quoted_ascii name else None) P
shown P name true text is same shows = subst (λ t. IfSome t P) (same is) shows
shown P name false text is same shows = tt

pub shows_halves : (P : List ℕ → Type 0) (name first last : List ℕ) → (list_all is_ascii name ≡ true → AreHalvesOf name first last)
    → IfSome (both first last) P → IfSome (quoted_text name) P
shows_halves P name first last halves shows =
    shown P name (list_all is_ascii name) (both first last) refl (λ ascii. long_ascii name first last (halves ascii)) shows

pub shows_name : (P : List ℕ → Type 0) (name : List ℕ) → (list_all is_ascii name ≡ true → length name ≤ half + half)
    → IfSome (debug_str name) P → IfSome (quoted_text name) P
shows_name P name short shows = grind (arith, nat_tests, shown)
