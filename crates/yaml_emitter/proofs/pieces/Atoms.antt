-- An atom's bytes are its characters, and none of them is a break.
use Rattle.yaml_emitter.proofs.Common.{ℕ, ◌<◌, ◌==◌, false, true, ◌||◌, List, [], ◌∷◌, refl, ◌≡◌, ne_eqb, ap, ◌∙◌, arith, and_parts, All-nil, All-cons}
use Rattle.yaml_emitter.proofs.Common.{chars-IsAscii, All, list_any, chars, is_break}
use Rattle.std.proofs.lemmas.{Bool.ltb-true, Str.Ascii.IsAscii-from_all}
use Rattle.yaml_emitter.specs.Atoms.{is_visible_ascii}

-- a character of an atom, by its number
indicator_range : (c : ℕ) (rest : List ℕ) → is_visible_ascii (c ∷ rest) ≡ true → (0x20 < c) × (c < 0x7F) × (is_visible_ascii rest ≡ true)
indicator_range c rest symbol =
    let whole = and_parts _ _ symbol in
    let here = and_parts _ _ whole.0 in
    (ltb-true 0x20 c here.0, ltb-true c 0x7F here.1, whole.1)

symbol-ascii : (bytes : List ℕ) → is_visible_ascii bytes ≡ true → All (λ b. b < 128) bytes
symbol-ascii [] symbol = All-nil (λ b. b < 128)
symbol-ascii (c ∷ rest) symbol =
    let r = indicator_range c rest symbol in
    let low : c < 128 = omega (arith, r.1) in
    All-cons (λ b. b < 128) c rest low (symbol-ascii rest r.2)

pub symbol-chars : (bytes : List ℕ) → is_visible_ascii bytes ≡ true → chars bytes ≡ bytes
symbol-chars bytes symbol = chars-IsAscii bytes (IsAscii-from_all bytes (symbol-ascii bytes symbol))

in_range-no_break : (c : ℕ) → 0x20 < c → c < 0x7F → is_break c ≡ false
in_range-no_break c low high =
    let a : (c == 0xA) ≡ false = ne_eqb c 0xA (λ e. omega arith) in
    let b : (c == 0xD) ≡ false = ne_eqb c 0xD (λ e. omega arith) in
    let d : (c == 0x85) ≡ false = ne_eqb c 0x85 (λ e. omega arith) in
    let e : (c == 0x2028) ≡ false = ne_eqb c 0x2028 (λ e. omega arith) in
    let f : (c == 0x2029) ≡ false = ne_eqb c 0x2029 (λ e. omega arith) in
    ap (λ x. x || (c == 0xD) || (c == 0x85) || (c == 0x2028) || (c == 0x2029)) a
    ∙ ap (λ x. x || (c == 0x85) || (c == 0x2028) || (c == 0x2029)) b
    ∙ ap (λ x. x || (c == 0x2028) || (c == 0x2029)) d
    ∙ ap (λ x. x || (c == 0x2029)) e
    ∙ f

pub symbol-no_break : (bytes : List ℕ) → is_visible_ascii bytes ≡ true → list_any is_break bytes ≡ false
symbol-no_break [] symbol = refl
symbol-no_break (c ∷ rest) symbol =
    let r = indicator_range c rest symbol in
    ap (λ x. x || list_any is_break rest) (in_range-no_break c r.0 r.1) ∙ symbol-no_break rest r.2
