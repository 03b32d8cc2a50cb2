use Rattle.yaml_read.proofs.Common.{List, ℕ, ap, inr, map, subst, sym, ◌∙◌, seen_event, AreRunBytes, DocumentStops}
use Rattle.yaml_read.proofs.DocumentsRead.{composed_answers, document_placed, document_stopped, dumped_utf8}
use Rattle.yaml_read.proofs.documents.read_document.Goals as goal

pub returns-in-Err-clause-complete : goal.returns-in-Err-clause-complete
returns-in-Err-clause-complete g c = inr (λ graph dumped. c.in-Err.ensures.1.not_utf8 (dumped_utf8 graph c.args.bytes.now dumped))

pub returns-in-Ok-read_events : goal.returns-in-Ok-read_events
returns-in-Ok-read_events g c =
    let found = c.in-Ok-read_events.ensures.sound in
    let answers = composed_answers c.args.bytes.now (map seen_event c.in-Ok-read_events.events.items) found.events
    (subst (λ (b : List ℕ). AreRunBytes b found.events) c.in-Ok.ensures.1 found.run) found.whole
    (λ other run. c.in-Ok-read_events.ensures.reads other (subst (λ (b : List ℕ). AreRunBytes b other) (sym c.in-Ok.ensures.1) run)) c.composed.result
    (c.composed.ensures found.events (ap (map seen_event) c.as_slice.ensures.value ∙ found.whole)) in
    record { read = answers.read; exact = answers.exact; one = answers.one; complete = answers.complete; placed = answers.placed }

pub returns-in-Err-read_events-clause-complete : goal.returns-in-Err-read_events-clause-complete
returns-in-Err-read_events-clause-complete g c =
    document_stopped _ _ c.in-Err-read_events.stop c.error_of.result c.in-Ok.ensures.1 c.error_of.ensures c.in-Err-read_events.ensures.reads

pub returns-in-Err-read_events-clause-placed : goal.returns-in-Err-read_events-clause-placed
returns-in-Err-read_events-clause-placed g c =
    document_placed c.args.bytes.now c.in-Err-read_events.stop c.error_of.result c.in-Ok.ensures.0 c.error_of.ensures
    (subst (λ (b : List ℕ). DocumentStops b c.in-Err-read_events.stop) c.in-Ok.ensures.1 c.in-Err-read_events.ensures.stops)
