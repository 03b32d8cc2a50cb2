-- A scan passes the bytes within an array, an object or a string that aren't special.
use Rattle.yaml_json.proofs.Common.{false, suc, zero, ℕ, ◌+◌, ◌-◌, ◌<◌, ◌≤◌, Some, length, List, ◌≡◌, inl, inr, ap, chunk, bit_at, ◌^◌, bit_and, subst, sym}
use Rattle.yaml_json.proofs.Common.{◌∙◌, arith, HasScanned, after_byte, cases_lt, true≢false, Cut, Scan}
use Rattle.yaml_json.proofs.{Common.slice_index_or as get_or, LowestBit.lowest_cleared, Cutting.within_stays, Cutting.string_stays, Cutting.one_scanned}
use Rattle.yaml_json.specs.Specials.{IsInside, MayBeSpecial, may_change_scan}
use Rattle.std.{specs.Int.trailing_zeros, proofs.Common.w64, proofs.lemmas.Nat.and_le_r, proofs.lemmas.Simd.get_or-chunk}
use Rattle.std.proofs.lemmas.Nat.Bits.{bit_at-trailing_zeros, bit_at_above, bit_at-zero}

plain_stays : (scan : Scan) (byte : ℕ) → IsInside scan → may_change_scan byte ≡ false → after_byte scan byte ≡ Some scan
plain_stays scan byte inside none =
    elim inside [
      | inl within ↦ within_stays scan byte within (grind arith)
      | inr string ↦ string_stays scan byte string (λ e. true≢false (ap may_change_scan (sym e) ∙ none)) (λ e. true≢false (ap may_change_scan (sym e) ∙ none))
    ]

-- over bytes that aren't special
passes : (text : List ℕ) (cut : Cut) (n : ℕ) → IsInside cut.scan → HasScanned text cut → cut.scanned + n ≤ length text
    → ((k : ℕ) → k < n → may_change_scan (get_or text (cut.scanned + k) 0) ≡ false)
    → HasScanned text (record { scan = cut.scan; scanned = cut.scanned + n })
passes text cut zero inside has room each =
    let none : cut.scanned ≡ cut.scanned + 0 = omega arith in
    subst (λ (at : ℕ). HasScanned text (record { scan = cut.scan; scanned = at })) none has
passes text cut (suc n) inside has room each =
    let next : cut.scanned + n + 1 ≡ cut.scanned + suc n = omega arith in
    let stays = plain_stays cut.scan (get_or text (cut.scanned + n) 0) inside (each n (omega arith)) in
    subst (λ (at : ℕ). HasScanned text (record { scan = cut.scan; scanned = at })) next
    (one_scanned _ _ (passes text cut n inside has (omega arith) (λ k low. each k (omega arith))) (omega arith) cut.scan stays)

-- So many of 32 bytes are scanned, and the bits that are left mark the other bytes that may be special.
pub record Left (text : List ℕ) (from : ℕ) (scan : Scan) (left : ℕ) : Type 0 where
  pub count : ℕ
  pub within : count ≤ 32
  pub inside : IsInside scan
  pub scanned : HasScanned text (record { scan = scan; scanned = from + count })
  pub small : left < 2 ^ 32
  pub clear : (k : ℕ) → k < count → bit_at left k ≡ 0
  pub specials : (k : ℕ) → count ≤ k → k < 32 → bit_at left k ≡ 0 → may_change_scan (get_or text (from + k) 0) ≡ false

pub left_first : (text : List ℕ) (cut : Cut) (found : ℕ) → IsInside cut.scan → HasScanned text cut → found < 2 ^ 32
    → cut.scanned + 32 ≤ length text → MayBeSpecial (chunk cut.scanned 32 text) found
    → Left text cut.scanned cut.scan found
left_first text cut found inside has small room specials =
    let none : cut.scanned ≡ cut.scanned + 0 = omega arith in
    record {
      count = 0;
      within = omega arith;
      inside = inside;
      scanned = subst (λ (at : ℕ). HasScanned text (record { scan = cut.scan; scanned = at })) none has;
      small = small;
      clear = λ k low. let never : ⊥ = omega arith in absurd never;
      specials = λ k low high none. ap may_change_scan (sym (get_or-chunk cut.scanned 32 text k 0 high)) ∙ specials k high none;
    }

module _ (text : List ℕ) (from : ℕ) (scan : Scan) (left : ℕ) (held : Left text from scan left) (room : from + 32 ≤ length text) where
  -- as far as no bit is set
  up_to : (end : ℕ) → held.count ≤ end → end ≤ 32 → ((k : ℕ) → k < end → bit_at left k ≡ 0) → HasScanned text (record { scan = scan; scanned = from + end })
  up_to end further within none =
      let count = held.count in
      let back : from + count + (end - count) ≡ from + end = omega (arith, further) in
      subst (λ (at : ℕ). HasScanned text (record { scan = scan; scanned = at })) back
      (passes text (record { scan = scan; scanned = from + count }) (end - count) held.inside held.scanned (omega (arith, further, within, room))
      (λ k low. let same : from + count + k ≡ from + (count + k) = omega arith in
      ap (λ (at : ℕ). may_change_scan (get_or text at 0)) same
      ∙ held.specials (count + k) (omega arith) (omega (arith, low, further, within)) (none (count + k) (omega (arith, low, further, within)))))

  pub left_none : left ≡ 0 → HasScanned text (record { scan = scan; scanned = from + 32 })
  left_none empty = up_to 32 held.within (omega arith) (λ k low. ap (λ m. bit_at m k) empty ∙ bit_at-zero k)

  module _ (some : 0 < left) where
    abbrev place : ℕ
    place = trailing_zeros w64 left

    lowest : (place < 64) × (bit_at left place ≡ 1) × ((k : ℕ) → k < place → bit_at left k ≡ 0)
    lowest = let small = held.small in bit_at-trailing_zeros w64 left some (omega (arith, small))

    pub place_within : place < 32
    place_within =
        elim (cases_lt place 32) [
          | inl low ↦ low
          | inr high ↦ let set = lowest.1 in let unset = bit_at_above left 32 place held.small high in
              let never : ⊥ = omega (arith, set, unset) in absurd never
        ]

    further : held.count ≤ place
    further =
        elim (cases_lt place held.count) [
          | inl low ↦ let set = lowest.1 in let unset = held.clear place low in
              let never : ⊥ = omega (arith, set, unset) in absurd never
          | inr high ↦ high
        ]

    -- up to the next special byte
    pub special_reached : HasScanned text (record { scan = scan; scanned = from + place })
    special_reached = let high = place_within in up_to place further (omega (arith, high)) lowest.2

    abbrev others : ℕ
    others = bit_and left (left - 1)

    pub others_fewer : others < left
    others_fewer = omega (arith, and_le_r left (left - 1))

    module _ (next : Scan) (is : after_byte scan (get_or text (from + place) 0) ≡ Some next) where
      pub special_passed : HasScanned text (record { scan = next; scanned = from + place + 1 })
      special_passed =
          let high = place_within in
          one_scanned text (record { scan = scan; scanned = from + place }) special_reached (omega (arith, high, room)) next is

      pub left_others : IsInside next → Left text from next others
      left_others inside =
          let high = place_within in
          let small = held.small in
          let one_more : from + place + 1 ≡ from + (place + 1) = omega arith in
          record {
            count = place + 1;
            within = omega (arith, high);
            inside = inside;
            scanned = subst (λ (at : ℕ). HasScanned text (record { scan = next; scanned = at })) one_more special_passed;
            small = omega (arith, small, others_fewer);
            clear = λ k low. (lowest_cleared place left lowest.1 lowest.2 k).0 (omega arith);
            specials = λ k low below none. held.specials k (omega (arith, low, further)) below
                (sym ((lowest_cleared place left lowest.1 lowest.2 k).1 (omega arith)) ∙ none);
          }
