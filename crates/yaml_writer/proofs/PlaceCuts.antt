-- How the code cuts a number: at the place of a sign, and not at all if it holds no letter.
use Rattle.yaml_writer.proofs.Common.{suc, ℕ, ◌<◌, ◌≤◌, ◌==◌, option_map, None, Some, length, take, Bool, false, not, true, [], ◌++◌, ◌∷◌, refl}
use Rattle.yaml_writer.proofs.Common.{◌≡◌, true≢false, ap, subst, sym, ◌∙◌, arith, and_parts, list_all, Text}
use Rattle.yaml_base.proofs.Common.{nat_tests, if◌then◌else◌, nat_lt, slice_index_or as get_or, eq-eqb, eqb-true}
use Rattle.std.proofs.Common.{◌+◌, drop, add-one, drop-cons, take_all, take-append-drop}
use Rattle.std.proofs.{lemmas.List.get_or-take, lemmas.List.Folds.length-prefix_len}
use Rattle.std.proofs.lemmas.List.Sums.{prefix_len_passes, prefix_len_stops}
use Rattle.std.specs.List.{prefix_len}
use Rattle.yaml_writer.proofs.PartLemmas.{lacks, cut_none, cut_found, lacks_each}
use Rattle.yaml_writer.specs.NumberParts.{cut_at_first, around, exponent_cut}

-- The number of characters before the first that is a sign.
abbrev before : ℕ → Text → ℕ
before sign text = prefix_len (λ c. not (c == sign)) text

-- none of them is it
lacks_before : (sign : ℕ) (text : Text) → lacks sign (take (before sign text) text) ≡ true
lacks_before sign text = lacks_each sign (take (before sign text) text) none
  where
    none : (i : ℕ) → i < length (take (before sign text) text) → get_or (take (before sign text) text) i 0 ≡ sign → ⊥
    none i within is =
        let early : i < before sign text = omega (arith, within, length-prefix_len (λ c. not (c == sign)) text) in
        let same : (get_or text i 0 == sign) ≡ true = eq-eqb _ _ (sym (get_or-take (before sign text) text i 0 early) ∙ is) in
        true≢false (sym (prefix_len_passes (λ c. not (c == sign)) text i 0 early) ∙ ap not same)

-- The sign is at that place.
sign_found : (sign : ℕ) (text : Text) → before sign text < length text → get_or text (before sign text) 0 ≡ sign
sign_found sign text within = eqb-true _ _ (by _ (prefix_len_stops (λ c. not (c == sign)) text 0 within))
  where
    by : (b : Bool) → not b ≡ false → b ≡ true
    by true h = refl
    by false h = absurd (true≢false h)

-- the text as it is cut there
cut_parts : (sign : ℕ) (text : Text) → before sign text < length text
    → text ≡ take (before sign text) text ++ (sign ∷ drop (before sign text + 1) text)
cut_parts sign text within =
    sym (take-append-drop (before sign text) text)
    ∙ ap (λ t. take (before sign text) text ++ t)
    (drop-cons text (before sign text) 0 within ∙ ap (λ c. c ∷ drop (suc (before sign text)) text) (sign_found sign text within)
    ∙ ap (λ n. sign ∷ drop n text) (sym (add-one (before sign text))))

-- the place of a sign tells the cut
pub cut_by_place : (sign : ℕ) (text : Text) (place : ℕ) → place ≡ prefix_len (λ c. not (c == sign)) text → place < length text
    → (get_or text place 0 ≡ sign) × (cut_at_first sign text ≡ Some (take place text, drop (place + 1) text))
cut_by_place sign text place is =
    subst (λ n. n < length text → (get_or text n 0 ≡ sign) × (cut_at_first sign text ≡ Some (take n text, drop (n + 1) text))) (sym is)
    (λ within. (
      sign_found sign text within,
      ap (cut_at_first sign) (cut_parts sign text within)
          ∙ cut_found sign (take (before sign text) text) (drop (before sign text + 1) text) (lacks_before sign text),
    ))

-- There is none if the whole text precedes it.
pub uncut_by_place : (sign : ℕ) (text : Text) (place : ℕ) → place ≡ prefix_len (λ c. not (c == sign)) text → place ≡ length text
    → cut_at_first sign text ≡ None
uncut_by_place sign text place is whole =
    cut_none sign text (ap (lacks sign) (sym (take_all (before sign text) text (omega (arith, is, whole)))) ∙ lacks_before sign text)

-- no letter, no exponent
pub no_letter_cut : (sign : ℕ) (text : Text) → 0x41 ≤ sign → list_all (λ c. nat_lt c 0x41) text ≡ true → cut_at_first sign text ≡ None
no_letter_cut sign [] letter none = refl
no_letter_cut sign (c ∷ rest) letter none =
    let both = and_parts (nat_lt c 0x41) (list_all (λ d. nat_lt d 0x41) rest) none in
    let differs : (c == sign) ≡ false = grind (arith, nat_tests, both.0) in
    ap (λ x. if x then Some ([], rest) else option_map (λ parts. (c ∷ parts.0, parts.1)) (cut_at_first sign rest)) differs
    ∙ ap (option_map (λ parts. (c ∷ parts.0, parts.1))) (no_letter_cut sign rest letter both.1)

pub no_letter_uncut : (text : Text) → list_all (λ c. nat_lt c 0x41) text ≡ true → exponent_cut text ≡ (text, None)
no_letter_uncut text none =
    ap (λ o. around false o (around true (cut_at_first 0x45 text) (text, None))) (no_letter_cut 0x65 text (omega arith) none)
    ∙ ap (λ o. around true o (text, None)) (no_letter_cut 0x45 text (omega arith) none)
