-- Bytes that stop the plain text of a string, sixteen at a time.
use Rattle.yaml_json.proofs.Common.{◌≡◌, ℕ, suc, ◌+◌, ◌*◌, ◌%◌, ◌^◌, ◌<◌, ◌≤◌, ltb, Bool, true, false, not, cond, eqb, ◌||◌, List, [], ◌∷◌, map, length, get_or}
use Rattle.yaml_json.proofs.Common.{replicate, inl, inr, refl, ap, ap₂, ◌∙◌, arith, zip2, chunk, mask_l, top, prefix_len, ArePlain, is_stop, zip2_splat}
use Rattle.yaml_json.proofs.Common.{zip2_of_maps, map-map, mask_l-mod, length-map, cases_lt}
use lib.Bits.{bit_or}
use lib.Count.{count_trailing_zeros}
use Rattle.std.proofs.lemmas.Simd.{length-chunk, trailing_mask_l, run_in_chunk_fails, run_in_chunk_stops, none_from_empty_mask}

abbrev equal : ℕ → ℕ → ℕ
equal a b = cond (eqb a b) 255 0

abbrev below : ℕ → ℕ → ℕ
below a b = cond (ltb a b) 255 0

one_lane : (q b c : Bool) → top 7 (bit_or (bit_or (cond q 255 0) (cond b 255 0)) (cond c 255 0)) ≡ (q || b || c)
one_lane true true true = refl
one_lane true true false = refl
one_lane true false true = refl
one_lane true false false = refl
one_lane false true true = refl
one_lane false true false = refl
one_lane false false true = refl
one_lane false false false = refl

each_lane : (v : List ℕ) → map (λ x. top 7 (bit_or (bit_or (cond (eqb x 34) 255 0) (cond (eqb x 92) 255 0)) (cond (ltb x 32) 255 0))) v ≡ map is_stop v
each_lane [] = refl
each_lane (x ∷ xs) = ap₂ (λ b bs. b ∷ bs) (one_lane (eqb x 34) (eqb x 92) (ltb x 32)) (each_lane xs)

pub stops_masked : (v : List ℕ) → length v ≡ 16
    → mask_l (map (top 7) (zip2 bit_or (zip2 bit_or (zip2 (λ a b. cond (eqb a b) 255 0) v (replicate 16 34))
    (zip2 (λ a b. cond (eqb a b) 255 0) v (replicate 16 92))) (zip2 (λ a b. cond (ltb a b) 255 0) v (replicate 16 32)))) % 2 ^ 64 ≡ mask_l (map is_stop v)
stops_masked v long =
    let two = zip2_of_maps bit_or (λ x. equal x 34) (λ x. equal x 92) v (zip2_splat equal v 16 34 long) (zip2_splat equal v 16 92 long) in
    let all = zip2_of_maps bit_or (λ x. bit_or (equal x 34) (equal x 92)) (λ x. below x 32) v two (zip2_splat below v 16 32 long) in
    ap (λ l. mask_l l % 2 ^ 64) (ap (map (top 7)) all ∙ map-map (top 7) (λ x. bit_or (bit_or (equal x 34) (equal x 92)) (below x 32)) v ∙ each_lane v)
    ∙ mask_l-mod (map is_stop v) 64 (omega (arith, length-map v is_stop))

some_lane : (b : Bool) (m n l : ℕ) → 0 < cond b 1 0 + 2 * m → (0 < m → n < l) → cond (not b) (1 + n) 0 < suc l
some_lane true m n l h f = omega arith
some_lane false m n l h f = omega (arith, f (omega arith))

stops_within : (xs : List ℕ) → 0 < mask_l (map is_stop xs) → prefix_len (λ x. not (is_stop x)) xs < length xs
stops_within [] h = absurd (omega arith)
stops_within (x ∷ xs) h = some_lane (is_stop x) (mask_l (map is_stop xs)) (prefix_len (λ y. not (is_stop y)) xs) (length xs) h (stops_within xs)

-- no byte of a vector stops
pub vector_plain : (d : List ℕ) (from at : ℕ) → at + 16 ≤ length d → ((k : ℕ) → from ≤ k → k < at → is_stop (get_or d k 0) ≡ false)
    → mask_l (map is_stop (chunk at 16 d)) ≡ 0 → (k : ℕ) → from ≤ k → k < at + 16 → is_stop (get_or d k 0) ≡ false
vector_plain d from at room plain none k low high =
    elim (cases_lt k at) [
      | inl before ↦ plain k low before
      | inr after ↦ none_from_empty_mask is_stop d at 16 0 room none k after high
    ]

-- a byte of a vector stops
pub vector_stops : (d : List ℕ) (from at found : ℕ) → from ≤ at → at + 16 ≤ length d → ((k : ℕ) → from ≤ k → k < at → is_stop (get_or d k 0) ≡ false)
    → found ≡ mask_l (map is_stop (chunk at 16 d)) → 0 < found → ArePlain d from (at + count_trailing_zeros 64 found)
vector_stops d from at found ordered room plain is some =
    let c = chunk at 16 d in
    let long : length c ≡ 16 = length-chunk at 16 d room in
    let seen : 0 < mask_l (map is_stop c) = omega (arith, is) in
    let counted : count_trailing_zeros 64 found ≡ prefix_len (λ x. not (is_stop x)) c
    = ap (count_trailing_zeros 64) is ∙ trailing_mask_l is_stop 64 c (omega arith) seen in
    let short : count_trailing_zeros 64 found < 16 = omega (arith, stops_within c seen) in
    record {
      ordered = omega arith;
      within = omega arith;
      plain = λ k low high. elim (cases_lt k at) [
        | inl before ↦ plain k low before
        | inr after ↦ run_in_chunk_fails is_stop d at 16 (count_trailing_zeros 64 found) 0 room counted k after high
      ];
      stops = λ within. run_in_chunk_stops is_stop d at 16 (count_trailing_zeros 64 found) 0 room counted short;
    }
