-- As a list of events with comments grows, the pieces of the ready ones stay.
use Rattle.yaml_base.proofs.Common.{ℕ, zero, suc, ◌≤◌, Bool, false, List, [], ◌∷◌, ◌++◌, ◌≡◌, ◌&&◌, refl, ap, subst, sym, ◌∙◌, and-false, drop, take}
use Rattle.yaml_base.proofs.Common.{length, map-append, length-map, Event, at_stream, ends_next, first_ends_collection, last_closes_at_once, written}
use Rattle.std.proofs.lemmas.List.{drop-append-le, drop-map, length-take-le, take-append-le, take-map}
use Rattle.std.proofs.Math.Seq.{take-add}
use Rattle.yaml_base.proofs.{CommentedPieces.begun_commented, CommentedPieces.commented_steps-append, CommentedPieces.open_commented, Progress.written-append}
use Rattle.yaml_base.proofs.QueueLaws.{open_at_written, written_within}
use Rattle.yaml_base.specs.{Pieces.last_begins_collection, Ready.held_back}
use Rattle.yaml_base.specs.Comments.{Commented, events_of}
use Rattle.yaml_base.specs.CommentedSteps.{CommentedSteps, commented_completion, commented_layout, commented_steps, first_commented}
use Rattle.yaml_base.specs.CommentedSteps.{ready_commented}
use Rattle.yaml_base.specs.CommentLaws.{ReadyPiecesAreFirst, ReadyPiecesStay}

abbrev event_of : Commented → Event
event_of commented = commented.event

ready_within : (all : List Commented) → written (events_of all) ≤ length all
ready_within all = subst (λ n. written (events_of all) ≤ n) (length-map all event_of) (written_within (events_of all))

pub ready_pieces_are_first : ReadyPiecesAreFirst
ready_pieces_are_first s all partial begins =
    let count : length (ready_commented all) ≡ written (events_of all) = length-take-le (written (events_of all)) all (ready_within all) in
    ap (λ n. take n (commented_layout s (commented_completion (ready_commented all)))) (sym count)
    ∙ begun_commented (ready_commented all) partial s begins

-- the ready events of the longer list after those of the list
abbrev added : (all more : List Commented) → List Commented
added all more = take (written (held_back (events_of all) ++ events_of more)) (drop (written (events_of all)) all ++ more)

ready_parts : (all more : List Commented) → ready_commented (all ++ more) ≡ ready_commented all ++ added all more
ready_parts all more =
    let k = written (events_of all) in
    let m = written (held_back (events_of all) ++ events_of more) in
    ap (λ n. take n (all ++ more)) (ap written (map-append event_of all more) ∙ written-append (events_of all) (events_of more))
    ∙ take-add k m (all ++ more)
    ∙ ap (λ first. first ++ take m (drop k (all ++ more))) (take-append-le k all more (ready_within all))
    ∙ ap (λ rest. take k all ++ take m rest) (drop-append-le k all more (ready_within all))

added_events : (all more : List Commented) → events_of (added all more)
    ≡ take (written (held_back (events_of all) ++ events_of more)) (held_back (events_of all) ++ events_of more)
added_events all more =
    let k = written (events_of all) in
    let m = written (held_back (events_of all) ++ events_of more) in
    sym (take-map event_of m (drop k all ++ more))
    ∙ ap (take m) (map-append event_of (drop k all) more ∙ ap (λ held. held ++ events_of more) (sym (drop-map event_of k all)))

first_ends_taken : (m : ℕ) (events : List Event) (b : Bool) → (b && first_ends_collection events) ≡ false
    → (b && first_ends_collection (take m events)) ≡ false
first_ends_taken zero events b other = and-false b
first_ends_taken (suc m) [] b other = other
first_ends_taken (suc m) (event ∷ rest) b other = other

added_opens : (all more : List Commented) → last_closes_at_once (events_of (ready_commented all)) (events_of (added all more)) ≡ false
added_opens all more =
    let m = written (held_back (events_of all) ++ events_of more) in
    ap (λ events. last_closes_at_once events (events_of (added all more))) (sym (take-map event_of (written (events_of all)) all))
    ∙ ap (last_closes_at_once (take (written (events_of all)) (events_of all))) (added_events all more)
    ∙ first_ends_taken m (held_back (events_of all) ++ events_of more) (last_begins_collection (take (written (events_of all)) (events_of all)))
    (open_at_written (events_of all) (events_of more))

pub ready_pieces_stay : ReadyPiecesStay
ready_pieces_stay s all more =
    let ready = ready_commented all in
    let others = events_of (added all more) in
    let first = commented_steps s (ends_next others false) ready at_stream first_commented in
    let after = commented_steps s false (added all more) first.stage first.standing in
    let opens = open_commented ready others s (last_begins_collection (events_of ready)) (first_ends_collection others) refl refl (added_opens all more) in
    record {
      rest = after.pieces;
      parts =
          ap (λ pieces. pieces ++ after.pieces) (sym opens)
          ∙ sym (ap (λ (made : CommentedSteps). made.pieces) (commented_steps-append ready (added all more) s false at_stream first_commented))
          ∙ sym (ap (λ events. (commented_steps s false events at_stream first_commented).pieces) (ready_parts all more));
    }
