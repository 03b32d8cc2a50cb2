-- The rests fit the allowed depth, as collections are begun and go on.
use Rattle.yaml_toml.proofs.Common.{◌≡◌, ℕ, suc, ◌+◌, ◌-◌, ◌<◌, ◌≤◌, arith, ◌∷◌, ◌++◌, [], List, Some, Result, Ok, Err, IfSome, refl, ap, subst, sym, ◌∙◌}
use Rattle.yaml_toml.proofs.Common.{length, length-append, cases_lt, inl, inr, max, none-some, document_nesting, IsStopOf, fault_error, toml_writers_error}
use Rattle.yaml_toml.proofs.Common.{TomlError, Rest, Stop, TomlNodes, ordered_document, Fault, yaml_error_t, Memory}
use Rattle.std.specs.Prelude.{◌↔◌}
use Rattle.yaml_toml.specs.{Depth.ExplainsDepth, Places.IsBeforeLeft, Walk.IsOwnMemory, Walk.stop_error}
use Rattle.yaml_toml.specs.Fitting.{FitsAfter, NestsAfter, NodeFits, PendingFits, RestFits, rest_nesting}
use Rattle.toml_ordered.specs.Places.{place_left}
use Rattle.toml_ordered.specs.declared.fault.Fault.TheVariants as fault
use Rattle.yaml_toml.specs.declared.error.TomlError.TheVariants as errors
use Rattle.yaml_toml.specs.declared.walk.Stop.TheVariants as stop

-- ---- one more that is open

fits-push : (depth around : ℕ) (opened : List Rest) (r : Rest)
    → PendingFits depth around (opened ++ r ∷ []) ↔ ((rest_nesting r ≤ depth - suc (around + length opened)) × PendingFits depth around opened)
fits-push depth around [] r = (λ fits. (omega (arith, fits.0), tt), λ fits. (omega (arith, fits.0), tt))
fits-push depth around (outer ∷ inner) r =
    let both = fits-push depth (suc around) inner r in
    (λ fits. let more = both.0 fits.1 in (omega (arith, more.0), (fits.0, more.1)), λ fits. (fits.1.0, both.1 (omega (arith, fits.0), fits.1.1)))

module _ (depth : ℕ) (opened after : List Rest) (r : Rest) (is : after ≡ opened ++ r ∷ []) where
  pub fits_pushed : PendingFits depth 0 after ↔ RestFits depth (rest_nesting r) opened
  fits_pushed =
      let both = fits-push depth 0 opened r in
      subst (λ (all : List Rest). PendingFits depth 0 all ↔ RestFits depth (rest_nesting r) opened) (sym is)
      (λ fits. let more = both.0 fits in (omega (arith, more.0), more.1), λ fits. both.1 (omega (arith, fits.0), fits.1))

  -- a collection was begun
  pub fits_enter : length opened < depth → PendingFits depth 0 after ↔ NodeFits depth (suc (rest_nesting r)) opened
  fits_enter room = (
    λ fits. let more = fits_pushed.0 fits in (omega (arith, room, more.0), more.1),
    λ fits. fits_pushed.1 (omega (arith, room, fits.0), fits.1),
  )

  -- a value that is next, in a collection with this rest after it
  pub fits_next : (nested whole : ℕ) → max nested (rest_nesting r) ≡ whole → NodeFits depth nested after ↔ RestFits depth whole opened
  fits_next nested whole same =
      let long = ap length is ∙ length-append opened (r ∷ []) in (
        λ fits. let more = fits_pushed.0 fits.1 in (omega (arith, long, fits.0, more.0, same), more.1),
        λ fits. (omega (arith, long, fits.0, same), fits_pushed.1 (omega (arith, fits.0, same), fits.1)),
      )

-- ---- nothing more is open

pub fits_leaf : (depth : ℕ) (opened : List Rest) → PendingFits depth 0 opened ↔ NodeFits depth 0 opened
fits_leaf depth opened = (λ fits. (omega arith, fits), λ fits. fits.1)

pub fits_end : (depth : ℕ) (opened : List Rest) → PendingFits depth 0 opened ↔ RestFits depth 0 opened
fits_end depth opened = (λ fits. (omega arith, fits), λ fits. fits.1)

-- ---- the results of calls

pub fits_same : (depth : ℕ) (due same : Type 0) (result : Result (Unit {0}) Stop) (opened : List Rest) → due ↔ same → FitsAfter depth due result opened
    → FitsAfter depth same result opened
fits_same depth due same (Ok done) opened both after = (λ fits. both.0 (after.0 fits), λ fits. after.1 (both.1 fits))
fits_same depth due same (Err stop.TooDeep) opened both after = λ fits. after (both.1 fits)
fits_same depth due same (Err (stop.Failed error)) opened both after = tt

pub fits_failed : (depth : ℕ) (due : Type 0) (answer : Result (Unit {0}) yaml_error_t) (stopped : Stop) (opened : List Rest)
    → IsStopOf answer (Err stopped) → FitsAfter depth due (Err stopped) opened
fits_failed depth due (Ok done) stopped opened is = absurd is
fits_failed depth due (Err error) stopped opened is = subst (λ (s : Stop). FitsAfter depth due (Err s) opened) (sym is) tt

pub fits_memory : (depth : ℕ) (due : Type 0) (stopped : Stop) (opened : List Rest) → IsOwnMemory stopped → FitsAfter depth due (Err stopped) opened
fits_memory depth due stopped opened is = subst (λ (s : Stop). FitsAfter depth due (Err s) opened) (sym is) tt

-- ---- a whole document

-- the rests fit if and only if the document does
abbrev pub DocumentFits : (depth : ℕ) → TomlNodes → List Rest → Type 0
DocumentFits depth root opened = PendingFits depth 0 opened ↔ (document_nesting root ≤ depth)

module _ (depth : ℕ) (root : TomlNodes) where
  too_deep : (document_nesting root ≤ depth → ⊥) → depth < document_nesting root
  too_deep not = elim (cases_lt depth (document_nesting root)) [
    | inl deeper ↦ deeper
    | inr fits ↦ absurd (not fits)
  ]

  root_fits : NodeFits depth (document_nesting root) [] ↔ (document_nesting root ≤ depth)
  root_fits = (λ fits. omega (arith, fits.0), λ fits. (omega (arith, fits), tt))

  pub nests_first : (opened : List Rest) → FitsAfter depth (NodeFits depth (document_nesting root) []) (Ok tt) opened → DocumentFits depth root opened
  nests_first opened after = (λ fits. root_fits.0 (after.0 fits), λ fits. after.1 (root_fits.1 fits))

  nests_err : (due : Type 0) (stopped : Stop) (opened : List Rest) → (document_nesting root ≤ depth → due) → FitsAfter depth due (Err stopped) opened
      → NestsAfter depth root (Err stopped)
  nests_err due stop.TooDeep opened follows after = too_deep (λ fits. after (follows fits))
  nests_err due (stop.Failed error) opened follows after = tt

  pub nests_never : (stopped : Stop) (opened : List Rest) → FitsAfter depth (NodeFits depth (document_nesting root) []) (Err stopped) opened
      → NestsAfter depth root (Err stopped)
  nests_never stopped opened = nests_err (NodeFits depth (document_nesting root) []) stopped opened root_fits.1

  -- a step of the walk, of which this was left
  module _ (left after : List Rest) (r : Rest) (so : DocumentFits depth root (left ++ r ∷ [])) where
    pub nests_on : FitsAfter depth (RestFits depth (rest_nesting r) left) (Ok tt) after → DocumentFits depth root after
    nests_on step =
        let both = fits_pushed depth left (left ++ r ∷ []) r refl in
        (λ fits. so.0 (both.1 (step.0 fits)), λ fits. step.1 (both.0 (so.1 fits)))

    pub nests_stopped : (stopped : Stop) → FitsAfter depth (RestFits depth (rest_nesting r) left) (Err stopped) after → NestsAfter depth root (Err stopped)
    nests_stopped stopped =
        let both = fits_pushed depth left (left ++ r ∷ []) r refl in
        nests_err (RestFits depth (rest_nesting r) left) stopped after (λ fits. both.0 (so.1 fits))

-- ---- the statements of errors

module _ (depth : ℕ) (text : List ℕ) where
  -- a document was read, and the walk over it stopped
  pub stop_explained : (root : TomlNodes) (stopped : Stop) (error : TomlError) → ordered_document text ≡ Some root
      → toml_writers_error error ≡ stop_error stopped
      → NestsAfter depth root (Err stopped) → ExplainsDepth depth text error
  stop_explained root stop.TooDeep errors.TooDeep read is nests = record { root = root; read = read; deeper = nests }
  stop_explained root (stop.Failed failure) errors.TooDeep read is nests = absurd (none-some failure is)
  stop_explained root stopped _ read is nests = tt

  -- none was read
  pub fault_explained : (found : Fault) (error : TomlError) → toml_writers_error error ≡ fault_error found
      → IfSome (place_left found) (λ left. IsBeforeLeft text left error) → ExplainsDepth depth text error
  fault_explained fault.Memory errors.TooDeep is at = absurd (none-some Memory is)
  fault_explained (fault.NotToml left why) errors.TooDeep is at = absurd at
  fault_explained (fault.TooDeep left) errors.TooDeep is at = absurd at
  fault_explained (fault.DefinedAgain key name first second) errors.TooDeep is at = absurd at
  fault_explained found _ is at = tt
