use Rattle.yaml_read.proofs.Common.{[], ◌∷◌, ◌++◌, Option, map, ap, sym, ◌∙◌, append_assoc, encode_utf8_all, map-append, seen_event, await_opened}
use Rattle.yaml_read.proofs.Common.{bytes_behind, open_behind_opening, trail_behind_opening, seen_awaits, NoOpening, opening_text, Await}
use Rattle.yaml_read.{proofs.NodeTexts.absent_then, proofs.NodeTexts.read_or_then, proofs.NodeTexts.whole_absent, specs.EventReads.NoNode}
use Rattle.yaml_read.{proofs.EventSteps.behind_encoded, proofs.EventSteps.node_read, proofs.EventSteps.trail_ends, proofs.EventPlaces.node_placed}
use Rattle.yaml_read.{proofs.Words.no_word}
use Rattle.yaml_read.proofs.steps.read_node.Goals as goal

pub returns-in-Ok-push-clause-reads : goal.returns-in-Ok-push-clause-reads
returns-in-Ok-push-clause-reads g c =
    let levels = seen_awaits c.args.awaits.now.items in
    let opened = c.opened_by-opened.result in
    let rest = c.in-Ok.rest.now in
    read_or_then _ _ c.go_behind.result
    (λ found goes. record {
      event = seen_event c.in-Ok.event;
      pushed = ap (map seen_event) c.in-Ok-push.ensures ∙ map-append seen_event c.args.events.now.items (c.in-Ok.event ∷ []);
      node =
          node_read _ _ _ _ _ _ c.in-Ok.ensures.begins c.in-Ok.ensures.parts
          c.in-Ok.ensures.over (ap (open_behind_opening levels) (sym c.opened_by-opened.ensures) ∙ goes.0)
          (goes.1 ∙ ap (λ (o : Option Await). trail_behind_opening levels o ++ bytes_behind found) c.opened_by-opened.ensures);
      only = λ other tail begins ends is.
          let trail = trail_behind_opening levels (await_opened other) in
          (c.in-Ok.ensures.only other (trail ++ tail) begins (trail_ends levels (await_opened other) tail ends)
          (is ∙ ap encode_utf8_all (append_assoc (opening_text other) trail tail))).0;
    }) (λ none other tail begins ends is.
    let trail = trail_behind_opening levels (await_opened other) in
    let same = c.in-Ok.ensures.only other (trail ++ tail) begins (trail_ends levels (await_opened other) tail ends)
    (is ∙ ap encode_utf8_all (append_assoc (opening_text other) trail tail)) in
    no_word (trail_behind_opening levels opened) rest (encode_utf8_all tail) none (same.1 ∙ behind_encoded levels (await_opened other) tail
    ∙ ap (λ (o : Option Await). trail_behind_opening levels o ++ encode_utf8_all tail) (sym (c.opened_by-opened.ensures ∙ ap await_opened same.0))))
    c.go_behind.ensures.goes

pub returns-in-Err-clause-reads : goal.returns-in-Err-clause-reads
returns-in-Err-clause-reads g c =
    let levels = seen_awaits c.args.awaits.now.items in
    whole_absent (NoNode levels c.args.text.now) c.args.text.now c.in-Err.stop c.refused_whole.result c.refused_whole.ensures
    (absent_then (NoOpening c.args.text.now) (NoNode levels c.args.text.now) c.in-Err.stop (λ none event tail begins ends is.
    let trail = trail_behind_opening levels (await_opened event) in
    none event (trail ++ tail) begins (record { ends = λ _. trail_ends levels (await_opened event) tail ends })
    (is ∙ ap encode_utf8_all (append_assoc (opening_text event) trail tail))) c.in-Err.ensures)

pub returns-in-Ok-push-clause-placed : goal.returns-in-Ok-push-clause-placed
returns-in-Ok-push-clause-placed g c =
    node_placed _ (seen_awaits c.args.awaits.now.items) c.opened_by-opened.result c.args.text.now c.in-Ok.rest.now (seen_event c.in-Ok.event)
    c.go_behind.result c.in-Ok.ensures c.go_behind.ensures.goes c.go_behind.ensures.placed
