-- The place of an event that is impossible.
use Rattle.yaml_read.proofs.Common.{ℕ, None, Option, List, ◌++◌, ◌≡◌, refl, subst, sym, true, length, Event, Err, IfErr, Result, can_end, IsOpeningRead}
use Rattle.yaml_read.proofs.Common.{ReadOr, trail_behind_opening, Await, Pending, closing_text, lead_text, outside, trail_text, IsHere, IsWholeWord}
use Rattle.yaml_read.proofs.Common.{IsEventPlace, IsNodePlace, StopsBy, IsMemory, past_word, Stop, arith}
use Rattle.yaml_read.{specs.RunPlaces.after_bracket, specs.RunPlaces.after_node, specs.RunPlaces.in_event_at, proofs.Words.memory_only}
use Rattle.yaml_read.specs.declared.errors.Stop.TheVariants as stop

-- at the first word of the bytes
pub here_stops : (bytes : List ℕ) (error : Stop) → IsHere bytes error → StopsBy (λ left. left ≡ length bytes) error
here_stops bytes error is = subst (StopsBy (λ left. left ≡ length bytes)) (sym is) refl

-- at a word that is refused as a whole, if something is absent there
pub whole_placed : (Absent : Type 0) (IsPlace : ℕ → Type 0) (bytes : List ℕ) (reason error : Stop) → (Absent → IsPlace (length bytes))
    → IsWholeWord bytes reason error → ReadOr (λ (_ : List ℕ). Unit {0}) Absent (Err reason) → StopsBy IsPlace error
whole_placed Absent IsPlace bytes stop.Memory error place is none = subst (StopsBy IsPlace) (sym is) tt
whole_placed Absent IsPlace bytes _ error place is none = subst (StopsBy IsPlace) (sym is) (place none)

pub whole_placed_at : (IsPlace : ℕ → Type 0) (bytes : List ℕ) (reason error : Stop) → IsPlace (length bytes) → IsWholeWord bytes reason error
    → StopsBy IsPlace error
whole_placed_at IsPlace bytes stop.Memory error place is = subst (StopsBy IsPlace) (sym is) tt
whole_placed_at IsPlace bytes _ error place is = subst (StopsBy IsPlace) (sym is) place

-- memory has no place
pub memory_placed : (IsPlace : ℕ → Type 0) (error : Stop) → IsMemory error → StopsBy IsPlace error
memory_placed IsPlace error is = subst (StopsBy IsPlace) (sym (memory_only error is)) tt

-- another place has the property, too
placed_then : {T : Type 0} (One Other : ℕ → Type 0) (answer : Result T Stop) → ((left : ℕ) → One left → Other left) → IfErr answer (StopsBy One)
    → IfErr answer (StopsBy Other)
placed_then One Other (Err (stop.Refused left)) then_is place = then_is left place
placed_then One Other (Err (stop.TooDeep left)) then_is place = absurd place
placed_then One Other _ then_is place = tt

-- and so it has if something is absent there
placed_if : {T P : Type 0} (Read : T → Type 0) (One Other : ℕ → Type 0) (answer : Result T Stop) → (P → (left : ℕ) → One left → Other left)
    → ReadOr Read P answer → IfErr answer (StopsBy One) → IfErr answer (StopsBy Other)
placed_if Read One Other (Err (stop.Refused left)) then_is none place = then_is none left place
placed_if Read One Other (Err (stop.TooDeep left)) then_is none place = absurd place
placed_if Read One Other _ then_is none place = tt

-- the text after a node's beginning is missing only if it is the one after a node
trail_missing : (levels : List Pending) (opened : Option Await) (rest : List ℕ) → past_word (trail_behind_opening levels opened) rest ≡ None
    → past_word (trail_text levels) rest ≡ None
trail_missing levels opened rest h1 = grind arith

-- after a node
pub node_placed : {T : Type 0} (Read : T → Type 0) (levels : List Pending) (opened : Option Await) (text rest : List ℕ) (event : Event)
    (answer : Result T Stop) → IsOpeningRead text event rest
    → ReadOr Read (past_word (trail_behind_opening levels opened) rest ≡ None) answer
    → IfErr answer (StopsBy (λ left. left ≡ length rest)) → IfErr answer (StopsBy (IsNodePlace levels text))
node_placed Read levels opened text rest event answer read =
    placed_if Read (λ left. left ≡ length rest) (IsNodePlace levels text) answer
    (λ none left is. after_node event rest read.begins read.parts read.over (trail_missing levels opened rest none) is)

-- after what leads to it
pub lead_placed : {T : Type 0} (levels : List Pending) (text rest : List ℕ) (answer : Result T Stop) → text ≡ lead_text levels ++ rest
    → IfErr answer (StopsBy (IsNodePlace levels rest)) → IfErr answer (StopsBy (IsEventPlace levels text))
lead_placed levels text rest answer parts = placed_then (IsNodePlace levels rest) (IsEventPlace levels text) answer (λ left is. in_event_at rest parts is)

-- after a bracket
pub bracket_placed : {T : Type 0} (Read : T → Type 0) (levels outer : List Pending) (text rest : List ℕ) (answer : Result T Stop)
    → outer ≡ outside levels → (can_end levels ≡ true) × (text ≡ closing_text levels ++ rest)
    → ReadOr Read (past_word (trail_text outer) rest ≡ None) answer
    → IfErr answer (StopsBy (λ left. left ≡ length rest)) → IfErr answer (StopsBy (IsEventPlace levels text))
bracket_placed Read levels outer text rest answer off stands =
    placed_if Read (λ left. left ≡ length rest) (IsEventPlace levels text) answer
    (λ none left is. after_bracket rest stands.0 stands.1 (subst (λ (l : List Pending). past_word (trail_text l) rest ≡ None) off none) is)
