-- The characters of a string that has no fault so far.
use Rattle.yaml_json.proofs.Common.{◌≡◌, ℕ, zero, suc, ◌+◌, ◌<◌, false, ◌==◌, if◌then◌else◌, List, [], ◌∷◌, drop, get_or, length, Ok, None, refl, sym, ap, ◌∙◌}
use Rattle.yaml_json.proofs.Common.{arith, drop-drop, drop_more, content_fault}
use Rattle.yaml_json.specs.Faults.{fault_or, size_after}

-- Bytes that belong to the character before are passed over.
pub skipped_over : (size : ℕ) (text : List ℕ) → content_fault size text ≡ content_fault 0 (drop size text)
skipped_over zero text = refl
skipped_over (suc more) [] = refl
skipped_over (suc more) (byte ∷ rest) = skipped_over more rest

module _ (text : List ℕ) (at : ℕ) (within : at < length text) where
  abbrev rest : List ℕ
  rest = drop (at + 1) text

  there : drop at text ≡ get_or text at 0 ∷ rest
  there = drop_more text at 0 within

  module _ (on : (get_or text at 0 == 34) ≡ false) where
    by_size : content_fault 0 (drop at text)
        ≡ fault_or (size_after (get_or text at 0) rest) (get_or text at 0 ∷ rest) (λ size. content_fault size rest)
    by_size =
        ap (content_fault 0) there
        ∙ ap (λ b. if b then None else fault_or (size_after (get_or text at 0) rest) (get_or text at 0 ∷ rest) (λ size. content_fault size rest)) on

    pub character_passed : (size : ℕ) → size_after (get_or text at 0) rest ≡ Ok size
        → content_fault 0 (drop (at + (1 + size)) text) ≡ content_fault 0 (drop at text)
    character_passed size is =
        let sum : at + 1 + size ≡ at + (1 + size) = omega arith in
        sym (by_size ∙ ap (λ r. fault_or r (get_or text at 0 ∷ rest) (λ n. content_fault n rest)) is ∙ skipped_over size rest
        ∙ ap (content_fault 0) (drop-drop size (at + 1) text ∙ ap (λ n. drop n text) sum))
