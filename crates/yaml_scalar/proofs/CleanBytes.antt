-- Texts of ASCII without control characters: how vectors recognise them, and that they hold no break.
use Rattle.yaml_scalar.proofs.Common.{ℕ, suc, ◌+◌, ◌-◌, ◌%◌, ◌<◌, ◌≤◌, IsUtf8, length, take, false, true, ◌||◌, List, [], ◌∷◌, refl, ◌≡◌, take_all}
use Rattle.yaml_scalar.proofs.Common.{true≢false, inl, inr, ap, sym, ◌∙◌, arith, and_from, agree_below_at, nat_tests, list_all, list_any, is_break, is_free}
use Rattle.yaml_scalar.proofs.Common.{IsFreeRun, stays_in_line}
use Rattle.std.proofs.Common.{◌^◌, map, cond, ltb, leb, replicate, ap₂}
use Rattle.std.proofs.{lemmas.Bool.cases_lt, lemmas.List.length-map}
use Rattle.std.proofs.lemmas.Simd.{zip2_splat, map-map, bitmask_splat, none_from_empty_mask}
use Rattle.std.specs.Str.{chars}
use lib.Bits.{bit_xor}
use lib.Lanes.{Each1, zip2, chunk, mask_l, top}
use mir.Syntax.{w8}
use mir.Val.{Fits}
use Rattle.yaml_scalar.specs.CleanBytes.{IsClean, is_unclean}
use Rattle.yaml_scalar.proofs.{ByteRuns.free_run, ByteRuns.line_tells, StaysInLine.stays_unbroken, WholeRuns.run_unbroken}

-- a byte with its top bit flipped
each_byte : (byte : ℕ) → byte < 256 → ltb (bit_xor byte 128) 160 ≡ is_unclean byte
each_byte byte fits = agree_below_at (λ b. ltb (bit_xor b 128) 160) is_unclean 256 byte refl fits

each_lane : (v : List ℕ) → Each1 (Fits w8) v → map (λ x. ltb (bit_xor x 128) 160) v ≡ map is_unclean v
each_lane [] fits = refl
each_lane (x ∷ xs) fits = ap₂ (λ b bs. b ∷ bs) (each_byte x fits.0.fits) (each_lane xs fits.1)

-- the unclean bytes of a vector
pub unclean_masked : (n : ℕ) (v : List ℕ) → n ≤ 64 → length v ≡ n → Each1 (Fits w8) v
    → mask_l (map (top 7) (zip2 (λ a b. cond (ltb a b) 255 0) (zip2 bit_xor v (replicate n 128)) (replicate n 160))) % 2 ^ 64 ≡ mask_l (map is_unclean v)
unclean_masked n v few long fits =
    let flipped : zip2 bit_xor v (replicate n 128) ≡ map (λ x. bit_xor x 128) v = zip2_splat bit_xor v n 128 long in
    bitmask_splat w8 ltb (zip2 bit_xor v (replicate n 128)) n 160 (ap length flipped ∙ length-map v (λ x. bit_xor x 128) ∙ long) few
    ∙ ap (λ l. mask_l (map (λ x. ltb x 160) l)) flipped
    ∙ ap mask_l (map-map (λ x. ltb x 160) (λ x. bit_xor x 128) v ∙ each_lane v fits)

-- two vectors that cover a text have none
pub covered_clean : (n : ℕ) (text : List ℕ) → n ≤ length text → length text ≤ n + n → mask_l (map is_unclean (chunk 0 n text)) ≡ 0
    → mask_l (map is_unclean (chunk (length text - n) n text)) ≡ 0 → IsClean text
covered_clean n text one two first last k within = elim (cases_lt k n) [
  | inl early ↦ none_from_empty_mask is_unclean text 0 n 0 (omega arith) first k (omega arith) (omega arith)
  | inr late ↦ none_from_empty_mask is_unclean text (length text - n) n 0 (omega arith) last k (omega arith) (omega arith)
]

free_byte : (byte : ℕ) → is_unclean byte ≡ false → is_free 1 byte ≡ true
free_byte byte clean = elim (cases_lt byte 128) [
  | inl low ↦ sym (ap (λ b. b || is_free 1 byte) clean) ∙ agree_below_at (λ b. is_unclean b || is_free 1 b) (λ b. true) 128 byte refl low
  | inr wide ↦
      let past : leb 128 byte ≡ true = grind (arith, nat_tests) in
      absurd (true≢false (sym (ap (λ b. b || ltb byte 32) past) ∙ clean))
]

all_free : (text : List ℕ) → IsClean text → list_all (is_free 1) text ≡ true
all_free [] clean = refl
all_free (byte ∷ rest) clean =
    and_from _ _ (free_byte byte (clean 0 (omega arith))) (all_free rest (λ k within. clean (suc k) (omega (arith, within))))

-- such a text holds no break
pub clean_unbroken : {text : List ℕ} → IsUtf8 text → IsClean text → list_any is_break (chars text) ≡ false
clean_unbroken {text} is_text clean =
    let whole : take (length text) text ≡ text = take_all (length text) text (omega arith) in
    let free : IsFreeRun 1 text (length text) = record {
      within = omega arith;
      all = ap (list_all (is_free 1)) whole ∙ all_free text clean;
      stops = λ past. absurd (omega (arith, past));
    } in
    run_unbroken (stays_in_line false false) (stays_unbroken false false)
    (free_run {before = 0} (line_tells 1 false false refl refl refl) is_text free refl) (sym whole)
