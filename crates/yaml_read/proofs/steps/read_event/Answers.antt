use Rattle.yaml_read.proofs.Common.{◌++◌, ◌∷◌, ◌∙◌, [], List, ap, encode_utf8_all, map, refl, subst, sym, map-append, Event, seen_event, GoesTo, Pending}
use Rattle.yaml_read.proofs.Common.{left_open, outside, trail_text, NoEventBegins, Another, End, closing_event, seen_awaits, past_word, IsEventPlace}
use Rattle.yaml_read.proofs.Awaits.{awaits_length, innermost_is, lead_at, taken_off}
use Rattle.yaml_read.proofs.EventSteps.{end_due, end_read, event_read, it_comes, node_due, none_comes}
use Rattle.yaml_read.{proofs.EventPlaces.bracket_placed, proofs.EventPlaces.lead_placed, proofs.EventPlaces.whole_placed_at, proofs.NodeTexts.none_read}
use Rattle.yaml_read.{proofs.NodeTexts.read_or_then, proofs.Words.no_word, specs.RunPlaces.at_event}
use Rattle.yaml_read.proofs.steps.read_event.Goals as goal

pub returns-in-Another-clause-reads : goal.returns-in-Another-clause-reads
returns-in-Another-clause-reads g c =
    let rest = c.in-Another.rest.now in
    let stands = lead_at c.args.awaits.now.items _ _ c.args.text.now _ _
    c.innermost-last.ensures (c.len.ensures ∙ c.args.awaits.now.ok.0) c.in-Another.is c.in-Ok.ensures in
    read_or_then _ _ c.read_node.result
    (λ found node. record {
      event = node.event;
      pushed = node.pushed;
      read = event_read _ _ _ _ _ _ stands node.node;
      only = λ other tail in_node comes ends is.
          let due = node_due _ _ _ _ rest (it_comes _ _ _ _ in_node comes is) stands in
          node.only other tail due.0 ends due.1;
    }) (λ none other tail in_node comes ends is.
    let due = node_due _ _ _ _ rest (it_comes _ _ _ _ in_node comes is) stands in
    none other tail due.0 ends due.1) c.read_node.ensures.reads

pub returns-in-Ok-push-clause-reads : goal.returns-in-Ok-push-clause-reads
returns-in-Ok-push-clause-reads g c =
    let levels = seen_awaits c.args.awaits.now.items in
    let now = seen_awaits c.leave_node.new.awaits.items in
    let rest = c.in-End.rest.now in
    let stands = lead_at c.args.awaits.now.items _ _ c.args.text.now _ _
    c.innermost-last.ensures (c.len.ensures ∙ c.args.awaits.now.ok.0) c.in-End.is c.in-Ok.ensures in
    let off = taken_off c.args.awaits.now c.pop-last.new.self _ c.pop-last.ensures.items c.pop-last.ensures.cases in
    read_or_then _ _ c.leave_node.result (λ found goes.
    let ends = subst (λ (l : List Pending). GoesTo (left_open l) (trail_text l) rest now found) off goes in
    record {
      event = closing_event levels;
      pushed =
          ap (map seen_event) c.in-Ok-push.ensures ∙ map-append seen_event c.args.events.now.items (c.end_event.result ∷ [])
          ∙ ap (λ (e : Event). map seen_event c.args.events.now.items ++ e ∷ [])
          (c.end_event.ensures levels (innermost_is c.args.awaits.now.items _ c.innermost-last.ensures));
      read = end_read _ _ _ _ _ _ stands.0 stands.1 refl ends.0 ends.1;
      only = λ other tail in_node comes ends is.
          (end_due _ _ _ _ rest (it_comes _ _ _ _ in_node comes is) stands.0 stands.1).0;
    }) (λ none other tail in_node comes ends is.
    let due = end_due _ _ _ _ rest (it_comes _ _ _ _ in_node comes is) stands.0 stands.1 in
    no_word (trail_text (outside levels)) rest (encode_utf8_all tail) (ap (λ (l : List Pending). past_word (trail_text l) rest) (sym off) ∙ none) due.1)
    c.leave_node.ensures.goes

pub returns-in-Err-clause-reads : goal.returns-in-Err-clause-reads
returns-in-Err-clause-reads g c =
    let levels = seen_awaits c.args.awaits.now.items in
    none_read (NoEventBegins levels c.args.text.now) c.refused_whole.result (λ _ event tail in_node comes ends is.
    none_comes levels event tail c.args.text.now c.in-Err.stop (it_comes levels event tail c.args.text.now in_node comes is)
    (c.in-Err.ensures levels (innermost_is c.args.awaits.now.items c.innermost-last.result c.innermost-last.ensures)
    (c.len.ensures ∙ c.args.awaits.now.ok.0 ∙ sym (awaits_length c.args.awaits.now.items))))

pub returns-in-Another-clause-placed : goal.returns-in-Another-clause-placed
returns-in-Another-clause-placed g c =
    let stands = lead_at c.args.awaits.now.items c.innermost-last.result c.len.result c.args.text.now c.in-Ok.lead (Another c.in-Another.rest)
    c.innermost-last.ensures (c.len.ensures ∙ c.args.awaits.now.ok.0) c.in-Another.is c.in-Ok.ensures in
    lead_placed (seen_awaits c.args.awaits.now.items) c.args.text.now c.in-Another.rest.now c.read_node.result stands c.read_node.ensures.placed

pub returns-in-Ok-push-clause-placed : goal.returns-in-Ok-push-clause-placed
returns-in-Ok-push-clause-placed g c =
    let stands = lead_at c.args.awaits.now.items c.innermost-last.result c.len.result c.args.text.now c.in-Ok.lead (End c.in-End.rest)
    c.innermost-last.ensures (c.len.ensures ∙ c.args.awaits.now.ok.0) c.in-End.is c.in-Ok.ensures in
    let off = taken_off c.args.awaits.now c.pop-last.new.self c.pop-last.result c.pop-last.ensures.items c.pop-last.ensures.cases in
    bracket_placed _ (seen_awaits c.args.awaits.now.items) _ c.args.text.now c.in-End.rest.now c.leave_node.result off stands c.leave_node.ensures.goes
    c.leave_node.ensures.placed

pub returns-in-Err-clause-placed : goal.returns-in-Err-clause-placed
returns-in-Err-clause-placed g c =
    let stands = c.in-Err.ensures (seen_awaits c.args.awaits.now.items) (innermost_is c.args.awaits.now.items _ c.innermost-last.ensures)
    (c.len.ensures ∙ c.args.awaits.now.ok.0 ∙ sym (awaits_length c.args.awaits.now.items)) in
    whole_placed_at (IsEventPlace (seen_awaits c.args.awaits.now.items) c.args.text.now) c.args.text.now c.in-Err.stop c.refused_whole.result
    (at_event stands.0 stands.1 refl) c.refused_whole.ensures
