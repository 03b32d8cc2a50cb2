-- Texts that are written out: ASCII without a break.
use Rattle.yaml_base.proofs.Common.{suc, zero, ℕ, nat_lt, Bool, false, not, true, ◌&&◌, List, [], ◌∷◌, ◌≡◌, ltb-true, ap, ◌∙◌, arith, and_parts, not-true}
use Rattle.yaml_base.proofs.{Common.chars-IsAscii, Common.list_all, Common.list_any, Common.chars, Common.is_break, AllPass.none_pass}
use Rattle.std.specs.Prelude.{IsAscii}

-- characters of ASCII that are no breaks; computes at a literal
abbrev pub are_plain : List ℕ → Bool
are_plain bytes = list_all (λ b. nat_lt b 128 && not (is_break b)) bytes

plain_ascii : (bytes : List ℕ) → are_plain bytes ≡ true → IsAscii bytes
plain_ascii [] h i = omega arith
plain_ascii (b ∷ bytes) h zero = ltb-true b 128
    (and_parts (nat_lt b 128) (not (is_break b)) (and_parts (nat_lt b 128 && not (is_break b)) (are_plain bytes) h).0).0
plain_ascii (b ∷ bytes) h (suc i) = plain_ascii bytes (and_parts (nat_lt b 128 && not (is_break b)) (are_plain bytes) h).1 i

plain_unbroken : (bytes : List ℕ) → are_plain bytes ≡ true → list_any is_break bytes ≡ false
plain_unbroken bytes h =
    none_pass (λ b. nat_lt b 128 && not (is_break b)) is_break (λ b e. not-true _ (and_parts (nat_lt b 128) (not (is_break b)) e).1) bytes h

-- the characters of a literal are its bytes
pub chars-literal : (bytes : List ℕ) → are_plain bytes ≡ true → chars bytes ≡ bytes
chars-literal bytes h = chars-IsAscii bytes (plain_ascii bytes h)

-- a literal holds no break
pub literal_unbroken : (bytes : List ℕ) → are_plain bytes ≡ true → list_any is_break (chars bytes) ≡ false
literal_unbroken bytes h = ap (list_any is_break) (chars-literal bytes h) ∙ plain_unbroken bytes h
