use Rattle.yaml_dump.proofs.Common.{sym, ap, map, ◌∙◌, ◌≡◌, true, false, graph_of, refl, None, Some, option_map}
use Rattle.yaml_dump.specs.InOrder.{in_order}
use Rattle.yaml_base.specs.Seen.{seen_event}
use Rattle.yaml_dump.proofs.ComposingLemmas.{events_found, graph_found}
use Rattle.yaml_dump.proofs.composing.document_of_events.Goals as goal

pub returns-in_default : goal.returns-in_default
returns-in_default g c = record { has_events = tt; composes = λ graph is same. refl }

pub returns-in_default-found : goal.returns-in_default-found
returns-in_default-found g c = record {
  has_events = tt;
  composes = λ graph is same.
      absurd (let none : None ≡ Some (in_order graph) = sym (ap (option_map graph_of) c.in_default-found.is) ∙ c.in-Ok.ensures graph is same in cc);
}

pub returns-in_default-document_events : goal.returns-in_default-document_events
returns-in_default-document_events g c = record { has_events = tt; composes = λ graph is same. refl }

pub returns-then-not-are_same-clause-has_events : goal.returns-then-not-are_same-clause-has_events
returns-then-not-are_same-clause-has_events g c = tt

pub returns-then-not-are_same-clause-composes : goal.returns-then-not-are_same-clause-composes
returns-then-not-are_same-clause-composes g c graph is same =
    let dumps = ap (map seen_event) c.as_slice.ensures.value ∙ c.in-Ok-document_events.ensures.events in
    let found = events_found c.in-Ok.found c.in-Some.document graph (map seen_event c.args.events.now) (map seen_event c.as_slice.result.now) is same
    (c.in-Ok.ensures graph is same) c.in-Some.is dumps in
    absurd (let no : false ≡ true = sym c.if-not-are_same.true ∙ c.are_same.ensures.1 found in cc)

pub returns-clause-has_events : goal.returns-clause-has_events
returns-clause-has_events g c =
    sym c.in-Ok-document_events.ensures.events ∙ ap (map seen_event) (sym c.as_slice.ensures.value) ∙ c.are_same.ensures.0 c.if-not-are_same.false

pub returns-clause-composes : goal.returns-clause-composes
returns-clause-composes g c graph is same =
    graph_found c.in-Ok.found c.in-Some.document (in_order graph) (c.in-Ok.ensures graph is same) c.in-Some.is
