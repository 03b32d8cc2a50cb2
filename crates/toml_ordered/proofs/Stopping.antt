-- The places at which a text is refused.
use Rattle.toml_ordered.proofs.Common.{◌≡◌, ℕ, ◌≤◌, List, length, sym, subst, arith, EndsWith, moved_to, IsMemory, Fault}
use Rattle.std.proofs.Common.{min}
use Rattle.toml_ordered.{proofs.Endings.same_end, specs.Places.FaultIsPlaced, specs.Places.HoldsHere, specs.Places.IsSettled, specs.Places.StopsAtExpression}
use Rattle.toml_ordered.specs.declared.fault.Fault.TheVariants as fault

-- a fault whose place was moved to one at which the text stops, unless it is a refused allocation
module _ (text : List ℕ) (here : ℕ) where
  pub placed : (f moved : Fault) → moved ≡ moved_to here f → ((IsMemory f → ⊥) → StopsAtExpression text here) → FaultIsPlaced text moved
  placed f moved is = subst (λ (m : Fault). ((IsMemory f → ⊥) → StopsAtExpression text here) → FaultIsPlaced text m) (sym is) (by f)
    where
      by : (f : Fault) → ((IsMemory f → ⊥) → StopsAtExpression text here) → FaultIsPlaced text (moved_to here f)
      by fault.Memory stops = tt
      by _ stops = stops (λ m. cc)

-- a fault that was settled in the expression that begins here
module _ (text start : List ℕ) where
  pub placed_within : (f moved : Fault) → IsSettled start f moved → ((IsMemory f → ⊥) → (left : ℕ) → left ≤ length start → StopsAtExpression text left)
      → FaultIsPlaced text moved
  placed_within fault.Memory moved is stops = subst (FaultIsPlaced text) (sym is) tt
  placed_within (fault.NotToml left why) (fault.NotToml l w) is stops = stops (λ m. cc) l is.1.0
  placed_within (fault.NotToml left why) _ is stops = absurd is.0
  placed_within (fault.TooDeep left) moved is stops = subst (FaultIsPlaced text) (sym is) (stops (λ m. cc) (min left (length start)) (omega arith))
  placed_within (fault.DefinedAgain key name first second) moved is stops =
      subst (FaultIsPlaced text) (sym is) (stops (λ m. cc) (min second (length start)) (omega arith))

  pub holds_within : (f moved : Fault) → IsSettled start f moved → EndsWith text start → HoldsHere text moved
  holds_within (fault.NotToml left why) (fault.NotToml l w) is ends =
      let (within, same) = same_end text start l ends is.1.0 in
      (within, rw (← same) is.1.1)
  holds_within (fault.NotToml left why) _ is ends = absurd is.0
  holds_within _ moved is ends = subst (HoldsHere text) (sym is) tt

pub settled_memory : (start : List ℕ) (f moved : Fault) → IsSettled start f moved → IsMemory f → IsMemory moved
settled_memory start fault.Memory moved is memory = is
settled_memory start _ moved is memory = absurd (cc)
