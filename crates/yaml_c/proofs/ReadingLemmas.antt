-- The elements of an array, read one after another.
use Rattle.yaml_c.proofs.Common.{ℕ, ◌+◌, ◌<◌, option_map, Option, None, Some, drop, length, slice_index_or as get_or, List, [], ◌++◌, ◌∷◌, refl, ◌≡◌}
use Rattle.yaml_c.proofs.Common.{append_assoc, ap, sym, ◌∙◌, at_drop_more}
use Rattle.yaml_base.proofs.Common.{option_and_then, ◌≤◌}
use Rattle.std.proofs.lemmas.List.{append-nil, drop_all}
use Rattle.yaml_c.specs.EventRecords.{all_read}

-- readings before others
abbrev pub behind : {E : Type 0} → List E → Option (List E) → Option (List E)
behind so_far others = option_map (λ more. so_far ++ more) others

pub behind_more : {E : Type 0} (so_far : List E) (next : E) (others : Option (List E))
    → behind so_far (option_map (λ (more : List E). next ∷ more) others) ≡ behind (so_far ++ next ∷ []) others
behind_more so_far next None = refl
behind_more {E} so_far next (Some more) = ap (λ (xs : List E). Some xs) (sym (append_assoc so_far (next ∷ []) more))

pub behind_none : {E : Type 0} (others : Option (List E)) → others ≡ behind [] others
behind_none None = refl
behind_none (Some more) = refl

module _ {R E : Type 0} (read : R → Option E) where
  -- the readings of an array, by that of its first element
  abbrev led : (rest : List R) → Option E → Option (List E)
  led rest first = option_and_then (λ (one : E). option_map (λ (others : List E). one ∷ others) (all_read read rest)) first

  -- one more was read
  pub read_more : (all : List R) (i : ℕ) (d : R) (so_far : List E) (next : E) → i < length all → Some next ≡ read (get_or all i d)
      → all_read read all ≡ behind so_far (all_read read (drop i all))
      → all_read read all ≡ behind (so_far ++ next ∷ []) (all_read read (drop (i + 1) all))
  read_more all i d so_far next low is parts =
      parts
      ∙ at_drop_more (λ (xs : List R). behind so_far (all_read read xs)) all i d low
      ∙ ap (λ (o : Option E). behind so_far (led (drop (i + 1) all) o)) (sym is)
      ∙ behind_more so_far next (all_read read (drop (i + 1) all))

  -- none was read
  pub read_none : (all : List R) (so_far : List E) → so_far ≡ [] → all_read read all ≡ behind so_far (all_read read all)
  read_none all so_far none =
      behind_none (all_read read all) ∙ ap (λ (xs : List E). behind xs (all_read read all)) (sym none)

  -- the next has no reading
  pub read_bad : (all : List R) (i : ℕ) (d : R) (so_far : List E) → i < length all → None ≡ read (get_or all i d)
      → all_read read all ≡ behind so_far (all_read read (drop i all)) → None ≡ all_read read all
  read_bad all i d so_far low is parts =
      sym
      (parts
      ∙ at_drop_more (λ (xs : List R). behind so_far (all_read read xs)) all i d low
      ∙ ap (λ (o : Option E). behind so_far (led (drop (i + 1) all) o)) (sym is))

  -- all were read
  pub read_all : (all : List R) (i : ℕ) (so_far : List E) → length all ≤ i
      → all_read read all ≡ behind so_far (all_read read (drop i all)) → Some so_far ≡ all_read read all
  read_all all i so_far past parts =
      sym
      (parts
      ∙ ap (λ (xs : List R). behind so_far (all_read read xs)) (drop_all i all past)
      ∙ ap (λ (xs : List E). Some xs) (append-nil so_far))
