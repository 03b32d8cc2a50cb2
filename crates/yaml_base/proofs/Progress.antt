-- As a list grows, its steps go on from their last stage, over the events held back and the new ones.
use Rattle.yaml_base.proofs.Common.{suc, zero, ℕ, ◌+◌, ◌≤◌, if◌then◌else◌, Some, drop, length, take, Bool, List, [], ◌++◌, ◌∷◌, refl, ◌≡◌, ap, sym, ◌∙◌, arith}
use Rattle.yaml_base.proofs.Common.{Event, Partial, partial_of, completion, list_layout, is_ready, written, Effective, nat_tests}
use Rattle.yaml_base.{proofs.PieceLaws.begun_pieces, proofs.QueueLaws.written_within, proofs.ReadyLaws.ready_stays, specs.Pieces.pieces}
use Rattle.yaml_base.{specs.Ready.held_back, specs.Steps.progress}

-- An event that was ready stays ready, and the rest depends on the events held back and the new ones.
more_written : (event : Event) (rest more : List Event) (b : Bool) → is_ready event rest ≡ b
    → written (rest ++ more) ≡ written rest + written (drop (written rest) rest ++ more)
    → written (event ∷ (rest ++ more)) ≡ (if b then suc (written rest) else 0) + written (drop (if b then suc (written rest) else 0) (event ∷ rest) ++ more)
more_written event rest more b h h2 = grind (arith, nat_tests, ready_stays)

pub written-append : (events more : List Event) → written (events ++ more) ≡ written events + written (held_back events ++ more)
written-append [] more = omega arith
written-append (event ∷ rest) more = more_written event rest more (is_ready event rest) refl (written-append rest more)

-- The pieces of the ready events.
pub progress_pieces : (events : List Event) (p : Partial) (s : Effective) → partial_of (take (written events) events) ≡ Some p
    → pieces s events (written events) ≡ (progress s events).pieces
progress_pieces events p s begins =
    let prefix = take (written events) events in
    ap (λ n. take n (list_layout s (completion prefix))) (sym (count (written events) events (written_within _))) ∙ begun_pieces _ p s begins
  where
    count : (k : ℕ) (events : List Event) → k ≤ length events → length (take k events) ≡ k
    count zero _ h = refl
    count (suc k) [] h = absurd (omega arith)
    count (suc k) (x ∷ events) h = ap suc (count k events (omega arith))
