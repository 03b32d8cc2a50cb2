use Rattle.yaml_dump.proofs.Common.{length, map, [], ◌++◌, ◌∷◌, ◌≡◌, ap, subst, sym, arith}
use Rattle.yaml_dump.proofs.Common.{IfOk-weaker, step_events, IsNamed, IsNumbered, seen_events_of, seen_step}
use Rattle.yaml_base.specs.{Event.alias, Seen.seen_text, graphs.SeenNodes.seen_node}
use Rattle.yaml_dump.specs.Events.{HoldsTexts}
use Rattle.yaml_dump.proofs.EventLemmas.{entered, met_again}
use Rattle.yaml_dump.proofs.HoldLemmas.{still_held}
use Rattle.yaml_dump.proofs.events.step_event.Goals as goal

pub overflow_sub-place : goal.overflow_sub-place
overflow_sub-place g c =
    let numbered = subst (λ step. IsNumbered (length c.args.places.now) (seen_step step)) c.in-Enters.is c.requires.placed.numbered in
    numbered.first

pub bounds-places-number : goal.bounds-places-number
bounds-places-number g c =
    let numbered = subst (λ step. IsNumbered (length c.args.places.now) (seen_step step)) c.in-Enters.is c.requires.placed.numbered in
    omega (arith, numbered.first, numbered.last)

pub opening_event_at-requires : goal.opening_event_at-requires
opening_event_at-requires g c =
    subst (λ count. IsNamed count c.in-Enters.number) c.requires.counted
    (subst (λ step. IsNumbered (length c.args.places.now) (seen_step step)) c.in-Enters.is c.requires.placed.numbered)

pub closing_event_at-requires : goal.closing_event_at-requires
closing_event_at-requires g c =
    subst (λ count. IsNamed count c.in-Leaves.number) c.requires.counted
    (subst (λ step. IsNumbered (length c.args.places.now) (seen_step step)) c.in-Leaves.is c.requires.placed.numbered)

pub overflow_sub-number : goal.overflow_sub-number
overflow_sub-number g c =
    let numbered = subst (λ step. IsNumbered (length c.args.places.now) (seen_step step)) c.in-MeetsAgain.is c.requires.placed.numbered in
    numbered.first

pub bounds-places-number-in-MeetsAgain : goal.bounds-places-number-in-MeetsAgain
bounds-places-number-in-MeetsAgain g c =
    let numbered = subst (λ step. IsNumbered (length c.args.places.now) (seen_step step)) c.in-MeetsAgain.is c.requires.placed.numbered in
    omega (arith, numbered.first, numbered.last)

pub returns-in-Enters-clause-held : goal.returns-in-Enters-clause-held
returns-in-Enters-clause-held g c graph before holds =
    subst (λ step. HoldsTexts graph (before ++ seen_step step ∷ []) (map seen_node c.opening_event_at.new.nodes)) (sym c.in-Enters.is)
    (c.opening_event_at.ensures.held graph before holds)

pub returns-in-Enters-clause-event : goal.returns-in-Enters-clause-event
returns-in-Enters-clause-event g c =
    let places = c.args.places.now in
    let numbered = subst (λ step. IsNumbered (length places) (seen_step step)) c.in-Enters.is c.requires.placed.numbered in
    IfOk-weaker c.opening_event_at.result _ _
    (λ event opens graph walk before has_places holds first.
    subst (λ step. seen_events_of event ≡ step_events graph walk (seen_step step)) (sym c.in-Enters.is)
    (entered graph walk places c.in-Enters.number (seen_events_of event) numbered has_places
    (opens graph before holds (first c.in-Enters.number (ap seen_step c.in-Enters.is)))))
    c.opening_event_at.ensures.event

pub returns-in-Leaves-clause-event : goal.returns-in-Leaves-clause-event
returns-in-Leaves-clause-event g c graph walk before has_places holds first =
    subst (λ step. seen_events_of c.closing_event_at.result ≡ step_events graph walk (seen_step step)) (sym c.in-Leaves.is)
    (c.closing_event_at.ensures graph before holds)

pub returns-in-Leaves-clause-held : goal.returns-in-Leaves-clause-held
returns-in-Leaves-clause-held g c graph before holds = still_held graph before (seen_step c.args.step) (map seen_node c.args.nodes.now) holds

pub returns-in_default-clause-held : goal.returns-in_default-clause-held
returns-in_default-clause-held g c graph before holds = still_held graph before (seen_step c.args.step) (map seen_node c.args.nodes.now) holds

pub returns-in-Ok-clause-held : goal.returns-in-Ok-clause-held
returns-in-Ok-clause-held g c graph before holds = still_held graph before (seen_step c.args.step) (map seen_node c.args.nodes.now) holds

pub returns-in-Ok-clause-event : goal.returns-in-Ok-clause-event
returns-in-Ok-clause-event g c graph walk before has_places holds first =
    let places = c.args.places.now in
    let name = seen_text c.in-Ok.anchor in
    let numbered = subst (λ step. IsNumbered (length places) (seen_step step)) c.in-MeetsAgain.is c.requires.placed.numbered in
    subst (λ step. alias name ∷ [] ≡ step_events graph walk (seen_step step)) (sym c.in-MeetsAgain.is)
    (met_again graph walk places c.in-MeetsAgain.number name numbered has_places
    (c.requires.placed.shared c.in-MeetsAgain.number (ap seen_step c.in-MeetsAgain.is)) c.in-Ok.ensures)

pub offset_bounds-places-number : goal.offset_bounds-places-number
offset_bounds-places-number g c =
    let numbered = subst (λ step. IsNumbered (length c.args.places.now) (seen_step step)) c.in-Enters.is c.requires.placed.numbered in
    omega (arith, numbered.last)

pub offset_bounds-places-number-in-MeetsAgain : goal.offset_bounds-places-number-in-MeetsAgain
offset_bounds-places-number-in-MeetsAgain g c =
    let numbered = subst (λ step. IsNumbered (length c.args.places.now) (seen_step step)) c.in-MeetsAgain.is c.requires.placed.numbered in
    omega (arith, numbered.last)
