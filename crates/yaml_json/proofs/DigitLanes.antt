-- Bytes that are no digits, sixteen at a time.
use Rattle.yaml_json.proofs.Common.{◌≡◌, ℕ, suc, ◌+◌, ◌*◌, ◌%◌, ◌^◌, ◌<◌, ◌≤◌, ltb, Bool, true, false, not, cond, List, [], ◌∷◌, map, drop, length, take}
use Rattle.yaml_json.proofs.Common.{replicate, refl, ap, ap₂, ◌∙◌, arith, length-map, zip2_splat, zip2_of_maps, map-map, mask_l-mod, zip2, chunk, mask_l, top}
use Rattle.yaml_json.proofs.Common.{is_ascii_digit, prefix_len}
use Rattle.std.proofs.{lemmas.Bool.agree_below_at, lemmas.Simd.splat_is_map, lemmas.Simd.trailing_mask_l, lemmas.Simd.length-chunk}
use lib.Bits.{bit_xor}
use lib.Count.{count_trailing_zeros}
use lib.Lanes.{Each1}
use mir.Syntax.{w8}
use mir.Val.{Fits}
use Rattle.yaml_json.specs.Lexemes.{is_no_digit}

abbrev below : ℕ → ℕ → ℕ
below a b = cond (ltb a b) 255 0

one_lane : (b : Bool) → top 7 (cond b 255 0) ≡ b
one_lane true = refl
one_lane false = refl

each_lane : (v : List ℕ) → Each1 (Fits w8) v → map (λ x. top 7 (below 9 (bit_xor x 48))) v ≡ map is_no_digit v
each_lane [] fits = refl
each_lane (x ∷ xs) fits =
    ap₂ (λ b bs. b ∷ bs) (one_lane (ltb 9 (bit_xor x 48)) ∙ agree_below_at (λ b. ltb 9 (bit_xor b 48)) is_no_digit 256 x refl fits.0.fits) (each_lane xs fits.1)

-- the bytes of a vector that are none
pub no_digits_masked : (v : List ℕ) → length v ≡ 16 → Each1 (Fits w8) v
    → mask_l (map (top 7) (zip2 below (replicate 16 9) (zip2 bit_xor v (replicate 16 48)))) % 2 ^ 64 ≡ mask_l (map is_no_digit v)
no_digits_masked v long fits =
    let all = zip2_of_maps below (λ x. 9) (λ x. bit_xor x 48) v (splat_is_map v 16 9 long) (zip2_splat bit_xor v 16 48 long) in
    ap (λ l. mask_l l % 2 ^ 64) (ap (map (top 7)) all ∙ map-map (top 7) (λ x. below 9 (bit_xor x 48)) v ∙ each_lane v fits)
    ∙ mask_l-mod (map is_no_digit v) 64 (omega (arith, length-map v is_no_digit))

-- If one of the first bytes is no digit, the run of digits is within them.
one_digit : (d : Bool) (m n k : ℕ) → 0 < cond (not d) 1 0 + 2 * m → (0 < m → n ≡ k) → cond (not (not d)) (1 + n) 0 ≡ cond d (1 + k) 0
one_digit true m n k some same = ap (λ x. 1 + x) (same (omega (arith, some)))
one_digit false m n k some same = refl

run_within : (n : ℕ) (text : List ℕ) → 0 < mask_l (map is_no_digit (take n text))
    → prefix_len (λ x. not (is_no_digit x)) (take n text) ≡ prefix_len is_ascii_digit text
run_within (suc n) (x ∷ xs) some =
    one_digit (is_ascii_digit x) (mask_l (map is_no_digit (take n xs))) (prefix_len (λ y. not (is_no_digit y)) (take n xs)) (prefix_len is_ascii_digit xs)
    some (run_within n xs)
run_within _ _ some = absurd (omega (arith, some))

-- a vector that holds it tells its length
pub run_told : (text : List ℕ) (from found : ℕ) → from + 16 ≤ length text → found ≡ mask_l (map is_no_digit (chunk from 16 text)) → 0 < found
    → count_trailing_zeros 64 found ≡ prefix_len is_ascii_digit (drop from text)
run_told text from found room is some =
    let seen : 0 < mask_l (map is_no_digit (chunk from 16 text)) = omega (arith, is, some) in
    let long : length (chunk from 16 text) ≡ 16 = length-chunk from 16 text room in
    ap (count_trailing_zeros 64) is ∙ trailing_mask_l is_no_digit 64 (chunk from 16 text) (omega (arith, long)) seen ∙ run_within 16 (drop from text) seen
