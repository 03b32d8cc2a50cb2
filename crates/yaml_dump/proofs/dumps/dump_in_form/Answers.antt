use Rattle.yaml_dump.proofs.Common.{◌≡◌, ◌==◌, Option, List, Event, length, map, refl, ap, inl, subst, sym, ◌∙◌, Err, Result, seen_event, graph_of}
use Rattle.yaml_dump.proofs.Common.{document_event_list, none_from_result, Graph, State}
use Rattle.yaml_base.specs.{declared.errors.yaml_error_t.yaml_error_t, declared.errors.yaml_error_t.TheVariants.Memory}
use Rattle.std.specs.Prelude.{None}
use Rattle.yaml_dump.proofs.Emissions.{dumps_unopened, dumps_closing, dumps_document, emits_opening}
use Rattle.yaml_dump.specs.{Dumps.DumpsEvents, declared.emitting.EventForm.EventForm}
use Rattle.yaml_dump.specs.EventForms.{event_in_form, DumpsFrom, DumpsInForm}
use Rattle.yaml_dump.proofs.dumps.dump_in_form.Goals as goal

abbrev formed : EventForm → Graph → List Event
formed form graph = map (event_in_form form) (document_event_list graph)

from_none : (form : EventForm) (graph : Graph) (before after : State) (answer : Result (Unit {0}) yaml_error_t) → before.error ≡ None
    → DumpsEvents (length graph.nodes == 0) (formed form graph) before answer after → DumpsInForm form graph before answer after
from_none form graph before after answer none dumps =
    subst (λ (error : Option yaml_error_t). DumpsFrom error graph (formed form graph) before answer after) (sym none) dumps

pub returns-in-Some : goal.returns-in-Some
returns-in-Some g c =
    let before = c.args.emitter.now in
    subst
    (λ (error : Option yaml_error_t). DumpsFrom error (graph_of c.args.document) (formed c.args.form.now (graph_of c.args.document))
    before (Err c.in-Some.error) before)
    (sym c.in-Some.is ∙ c.error.ensures) (refl, refl)

pub returns-in_default-moved_events : goal.returns-in_default-moved_events
returns-in_default-moved_events g c =
    from_none c.args.form.now (graph_of c.args.document) c.args.emitter.now c.args.emitter.now (Err Memory) (sym c.error.ensures ∙ c.in_default.is)
    (inl (refl, refl))

pub returns-in-Err : goal.returns-in-Err
returns-in-Err g c =
    let none = sym c.error.ensures ∙ c.in_default.is in
    let graph = graph_of c.args.document in
    let before = c.args.emitter.now in
    from_none c.args.form.now graph before c.open_if_needed.new.emitter (Err c.in-Err.error) none
    (dumps_unopened (length graph.nodes == 0) (formed c.args.form.now graph) before c.open_if_needed.new.emitter before.opened c.in-Err.error refl none
    c.promised.ensures.promised c.in-Err.ensures)

pub returns-then-is_empty : goal.returns-then-is_empty
returns-then-is_empty g c =
    let none = sym c.error.ensures ∙ c.in_default.is in
    let graph = graph_of c.args.document in
    let before = c.args.emitter.now in
    let middle = c.open_if_needed.new.emitter in
    let opened = emits_opening before middle tt before.opened refl none c.in_default-open_if_needed.ensures in
    from_none c.args.form.now graph before c.yaml_emitter_close.new.emitter c.yaml_emitter_close.result none
    (dumps_closing (length graph.nodes == 0) (formed c.args.form.now graph) before middle c.yaml_emitter_close.new.emitter c.yaml_emitter_close.result
    (sym c.is_empty-is_empty.ensures ∙ c.if-is_empty.true) (none_from_result middle.error opened.emits.answered)
    c.promised-then-is_empty.ensures.promised opened
    c.yaml_emitter_close.ensures.closes)

pub returns : goal.returns
returns g c =
    let none = sym c.error.ensures ∙ c.in_default.is in
    let graph = graph_of c.args.document in
    let before = c.args.emitter.now in
    let middle = c.open_if_needed.new.emitter in
    let opened = emits_opening before middle tt before.opened refl none c.in_default-open_if_needed.ensures in
    from_none c.args.form.now graph before c.emit_in_form.new.emitter c.emit_in_form.result none
    (dumps_document (length graph.nodes == 0) (formed c.args.form.now graph) before middle c.emit_in_form.new.emitter
    (map (event_in_form c.args.form.now) (map seen_event c.in-Ok.events.items)) c.emit_in_form.result (sym c.is_empty-is_empty.ensures ∙ c.if-is_empty.false)
    (ap (map (event_in_form c.args.form.now)) c.in-Ok.ensures) opened c.emit_in_form.ensures.emits)

pub yaml_emitter_close-requires : goal.yaml_emitter_close-requires
yaml_emitter_close-requires g c =
    let opened = emits_opening c.args.emitter.now c.open_if_needed.new.emitter tt c.args.emitter.now.opened refl
    (sym c.error.ensures ∙ c.in_default.is) c.in_default-open_if_needed.ensures in
    record { opened = opened.emits.set.opened }

pub emit_in_form-requires : goal.emit_in_form-requires
emit_in_form-requires g c =
    let opened = emits_opening c.args.emitter.now c.open_if_needed.new.emitter tt c.args.emitter.now.opened refl
    (sym c.error.ensures ∙ c.in_default.is) c.in_default-open_if_needed.ensures in
    record { output = opened.emits.set.has_output ∙ c.requires; no_error = none_from_result c.open_if_needed.new.emitter.error opened.emits.answered }
