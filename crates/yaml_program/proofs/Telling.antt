-- Texts that a sink is given one after another.
use Rattle.std.proofs.Common.{ℕ, Option, List, ◌∷◌, ◌++◌, ◌≡◌, flat_map, ap, subst, sym, ◌∙◌, append_assoc, Bor, ◌<◌, suc, drop, drop-cons, length, take}
use Rattle.std.proofs.Common.{take-append-drop, slice_index_or as get_or}
use Rattle.std.{proofs.KnownBytes.Appends-trans, specs.Io.KnownBytes.Appends}
use Rattle.yaml_base.{proofs.Common.flat_map-append, specs.Sinks.AppendsFirst}

abbrev bytes_of : List (Bor (List ℕ)) → List ℕ
bytes_of texts = flat_map (λ text. text.now) texts

-- One that isn't written whole.
one_cut : (texts : List (Bor (List ℕ))) (index : ℕ) (text : Bor (List ℕ)) (start held now : Option (List ℕ)) → index < length texts
    → Appends start held (bytes_of (take index texts)) → AppendsFirst held now (get_or texts index text).now → AppendsFirst start now (bytes_of texts)
one_cut texts index text start held now within before (first, begins, one) =
    let front = bytes_of (take index texts) in
    let later = bytes_of (drop (suc index) texts) in (
      front ++ first,
      record {
        rest = begins.rest ++ later;
        parts = append_assoc front first (begins.rest ++ later)
            ∙ ap (λ (bytes : List ℕ). front ++ bytes) (sym (append_assoc first begins.rest later) ∙ ap (λ (bytes : List ℕ). bytes ++ later) begins.parts)
            ∙ sym (flat_map-append (λ (t : Bor (List ℕ)). t.now) (take index texts) (get_or texts index text ∷ drop (suc index) texts))
            ∙ ap (λ (rest : List (Bor (List ℕ))). bytes_of (take index texts ++ rest)) (sym (drop-cons texts index text within))
            ∙ ap bytes_of (take-append-drop index texts);
      },
      Appends-trans start held now front first before one,
    )

pub one_failed : (texts : List (Bor (List ℕ))) (index : ℕ) (text : Bor (List ℕ)) (start held now : Option (List ℕ)) → index < length texts
    → Appends start held (bytes_of (take index texts)) → (bytes : List ℕ) → bytes ≡ (get_or texts index text).now → AppendsFirst held now bytes
    → AppendsFirst start now (bytes_of texts)
one_failed texts index text start held now within before bytes is one =
    one_cut texts index text start held now within before (subst (λ (b : List ℕ). AppendsFirst held now b) is one)
