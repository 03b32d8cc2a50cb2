-- The byte order mark that may begin a text.
use Rattle.toml_ordered.proofs.Common.{◌≡◌, ℕ, ◌&&◌, ◌==◌, Bool, true, false, cond, List, ◌∷◌, drop, slice_index, refl, sym, ap, arith, first, common_steps}
use Rattle.toml.specs.Parse.{skip_bom}
use Rattle.std.proofs.lemmas.Bool.Decides.{nat_tests}

abbrev pub marked : List ℕ → List ℕ
marked rest = 239 ∷ 187 ∷ 191 ∷ rest

pub marked_is : (text rest : List ℕ) → text ≡ marked rest → rest ≡ skip_bom text
unfolding skip_bom
marked_is text rest is = sym (ap skip_bom is)

by_bytes : (text : List ℕ) → first text ≡ 239 → slice_index text 1 ≡ 187 → slice_index text 2 ≡ 191 → text ≡ marked (drop 3 text)
by_bytes (x ∷ y ∷ z ∷ rest) a b c = rw (a, b, c)
by_bytes _ a b c = cc

pub unmarked_is : (text : List ℕ) → ((rest : List ℕ) → text ≡ marked rest → ⊥) → text ≡ skip_bom text
unfolding skip_bom
unmarked_is text lacks = by ((first text == 239 && slice_index text 1 == 187) && slice_index text 2 == 191) refl
  where
    by : (b : Bool) → ((first text == 239 && slice_index text 1 == 187) && slice_index text 2 == 191) ≡ b → text ≡ cond b (drop 3 text) text
    by true is =
        let one : first text ≡ 239 = grind (arith, nat_tests, common_steps) in
        let two : slice_index text 1 ≡ 187 = grind (arith, nat_tests, common_steps) in
        let three : slice_index text 2 ≡ 191 = grind (arith, nat_tests, common_steps) in
        absurd (lacks (drop 3 text) (by_bytes text one two three))
    by false is = refl
