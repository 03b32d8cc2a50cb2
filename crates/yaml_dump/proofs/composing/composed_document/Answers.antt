use Rattle.yaml_dump.proofs.Common.{length, ◌-◌, ◌≤◌, rules, sym, ◌∙◌}
use Rattle.std.proofs.lemmas.Bool.{eqb-true}
use Rattle.yaml_base.specs.Settings.{largest_usize}
use Rattle.yaml_dump.proofs.ComposingLemmas.{first_is, last_is, last_place, some_events, no_heading, no_end, composed_so}
use Rattle.yaml_dump.proofs.composing.composed_document.Goals as goal

pub returns-then-is_empty : goal.returns-then-is_empty
returns-then-is_empty g c graph document same =
    absurd (some_events graph c.args.events.now document same (eqb-true _ 0 (sym c.is_empty.ensures ∙ c.if-is_empty.true)))

pub returns-in_default-found : goal.returns-in_default-found
returns-in_default-found g c graph document same =
    let begins = c.in-Ok.ensures graph.start (first_is graph c.args.events.now c.index-events-0.result document same c.index-events-0.is) in
    absurd (no_heading c.in-Ok.found graph.start begins c.in_default-found.is)

pub returns-in_default-end_of : goal.returns-in_default-end_of
returns-in_default-end_of g c graph document same =
    let events = c.args.events.now in
    let ends = c.end_of.ensures graph.end_implicit
    (last_is graph events (length events - 1) c.index-events-events.result document same (last_place graph events document same) c.index-events-events.is) in
    absurd (no_end c.end_of.result graph.end_implicit ends c.in_default-end_of.is)

pub returns : goal.returns
returns g c =
    let events = c.args.events.now in
    let fits : length events ≤ largest_usize = search (rules, c.well_formed) in
    composed_so events c.index-events-0.result c.index-events-events.result c.in-Ok.found c.in-Some.heading c.end_of.result c.in-Some-end_of.end_implicit
    c.in-Ok-composed_nodes.nodes.items c.document_of.result fits c.index-events-0.is c.index-events-events.is c.in-Ok.ensures c.in-Some.is c.end_of.ensures
    c.in-Some-end_of.is c.in-Ok-composed_nodes.ensures c.document_of.ensures
