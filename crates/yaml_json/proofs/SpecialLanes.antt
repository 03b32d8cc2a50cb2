-- Bytes that may be special, 32 at a time.
use Rattle.yaml_json.proofs.Common.{◌≡◌, ℕ, zero, ◌%◌, ◌^◌, ◌<◌, ltb, Bool, true, false, cond, eqb, ◌||◌, ◌&&◌, List, [], ◌∷◌, map, length, get_or, arith}
use Rattle.yaml_json.proofs.Common.{replicate, refl, sym, ap, ap₂, ◌∙◌, bit_at, bit_and, zip2, mask_l, top, true≢false, ne_eqb, length-map, zip2_splat}
use Rattle.yaml_json.proofs.Common.{zip2_of_maps, map-map, mask_l-mod}
use lib.Bits.{bit_or}
use Rattle.yaml_json.specs.Specials.{may_change_scan}
use Rattle.std.proofs.{lemmas.List.get_or-map, lemmas.Simd.splat_is_map, lemmas.Simd.mask_l-lt, lemmas.Simd.bit_mask_l}

abbrev equal : ℕ → ℕ → ℕ
equal a b = cond (eqb a b) 255 0

abbrev below : ℕ → ℕ → ℕ
below a b = cond (ltb a b) 255 0

abbrev lane : ℕ → ℕ
lane byte = bit_or (equal byte 34) (bit_and (below 122 (bit_or byte 32)) (below (bit_or byte 32) 126))

abbrev pub may_be_special : ℕ → Bool
may_be_special byte = eqb byte 34 || (ltb 122 (bit_or byte 32) && ltb (bit_or byte 32) 126)

one_lane : (q g l : Bool) → top 7 (bit_or (cond q 255 0) (bit_and (cond g 255 0) (cond l 255 0))) ≡ (q || (g && l))
one_lane true true true = refl
one_lane true true false = refl
one_lane true false true = refl
one_lane true false false = refl
one_lane false true true = refl
one_lane false true false = refl
one_lane false false true = refl
one_lane false false false = refl

each_lane : (v : List ℕ) → map (λ x. top 7 (lane x)) v ≡ map may_be_special v
each_lane [] = refl
each_lane (x ∷ xs) = ap₂ (λ b bs. b ∷ bs) (one_lane (eqb x 34) (ltb 122 (bit_or x 32)) (ltb (bit_or x 32) 126)) (each_lane xs)

module _ (v : List ℕ) (long : length v ≡ 32) where
  abbrev pub mask : ℕ
  mask =
      let folded = zip2 bit_or v (replicate 32 32) in
      let is_bracket = zip2 bit_and (zip2 below (replicate 32 122) folded) (zip2 below folded (replicate 32 126)) in
      mask_l (map (top 7) (zip2 bit_or (zip2 equal v (replicate 32 34)) is_bracket)) % 2 ^ 64

  specials_masked : mask ≡ mask_l (map may_be_special v)
  specials_masked =
      let folded = zip2_splat bit_or v 32 32 long in
      let above = zip2_of_maps below (λ x. 122) (λ x. bit_or x 32) v (splat_is_map v 32 122 long) folded in
      let under = zip2_of_maps below (λ x. bit_or x 32) (λ x. 126) v folded (splat_is_map v 32 126 long) in
      let both = zip2_of_maps bit_and (λ x. below 122 (bit_or x 32)) (λ x. below (bit_or x 32) 126) v above under in
      let quotes = zip2_splat equal v 32 34 long in
      let all = zip2_of_maps bit_or (λ x. equal x 34) (λ x. bit_and (below 122 (bit_or x 32)) (below (bit_or x 32) 126)) v quotes both in
      ap (λ l. mask_l l % 2 ^ 64) (ap (map (top 7)) all ∙ map-map (top 7) lane v ∙ each_lane v)
      ∙ mask_l-mod (map may_be_special v) 64 (omega (arith, length-map v may_be_special))

  pub specials_small : mask < 2 ^ 32
  specials_small =
      let short : length (map may_be_special v) ≡ 32 = length-map v may_be_special ∙ long in
      let power : 2 ^ length (map may_be_special v) ≡ 2 ^ 32 = ap (λ n. 2 ^ n) short in
      omega (arith, specials_masked, mask_l-lt (map may_be_special v), power)

-- every special byte is among them
other : (byte value : ℕ) → may_be_special value ≡ true → may_be_special byte ≡ false → eqb byte value ≡ false
other byte value is none = ne_eqb byte value (λ e. true≢false (sym is ∙ ap may_be_special (sym e) ∙ none))

not_special : (byte : ℕ) → may_be_special byte ≡ false → may_change_scan byte ≡ false
not_special byte none =
    rw (other byte 34 refl none, other byte 92 refl none, other byte 123 refl none, other byte 91 refl none, other byte 125 refl none, other byte 93 refl none)

clear : (b : Bool) → cond b 1 0 ≡ zero → b ≡ false
clear true none = let never : ⊥ = omega arith in absurd never
clear false none = refl

pub only_specials : (v : List ℕ) (long : length v ≡ 32) (k : ℕ) → k < 32 → bit_at (mask v long) k ≡ 0 → may_change_scan (get_or v k 0) ≡ false
only_specials v long k small none =
    let unset : cond (get_or (map may_be_special v) k false) 1 0 ≡ zero =
    sym (bit_mask_l (map may_be_special v) k) ∙ ap (λ m. bit_at m k) (sym (specials_masked v long)) ∙ none in
    not_special (get_or v k 0) (sym (get_or-map may_be_special v k 0 false (omega (arith, long))) ∙ clear (get_or (map may_be_special v) k false) unset)
