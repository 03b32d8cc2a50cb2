use Rattle.yaml_emitter.proofs.Common.{ap, sym, ◌∙◌, MachineState, Place, Stage, at_node, machine_state, is_mapping, seen_frame}
use Rattle.yaml_emitter.proofs.events_done.CollectionsDone.{may_end_here, end_done, ending_at_node}
use Rattle.yaml_base.specs.Steps.{stage_allows}
use Rattle.yaml_emitter.specs.NodeEvents.{end_of_kind}
use Rattle.yaml_emitter.proofs.events_done.NodesDone.{at_node_inside, seen_at_node, kept_advancing}
use Rattle.yaml_emitter.proofs.machine.Machine.end_collection.Goals as goal

pub invariant_of-self-in-Some : goal.invariant_of-self-in-Some
invariant_of-self-in-Some g c =
    kept_advancing c.self.inside c.write_collection_end.new.pen c.advance-self-inside.result c.advance-self-inside.new.self c.pop.new.self
    c.in-Some.frame.simple c.self.inside.open_ended c.self.invariant
    (c.advance-self-inside.ensures.stage c.self.inside.directives) (c.write_collection_end.ensures 0).ready

pub returns-in-Some : goal.returns-in-Some
returns-in-Some g c = λ empty.
    rw (← c.self.view_is)
    (end_done (machine_state c.self.inside) c.self.inside.directives
    (seen_frame c.in-Some.frame) c.pop.new.self (is_mapping c.args.kind) empty c.next_place-around.result.column _ c.write_collection_end.new.pen
    c.write_collection_end.result
    ((seen_at_node c.self.inside (at_node_inside c.self.inside c.self.view_is
    (ending_at_node c.args.self.now.stage (is_mapping c.args.kind) (sym c.may_end.ensures ∙ c.if-not-may_end.false))))
    ∙ ap (at_node c.self.inside.directives) c.in-Some.ensures)
    (may_end_here c.self.inside.frames
    (seen_frame c.in-Some.frame) c.pop.new.self (is_mapping c.args.kind) c.may_end.result c.in-Some.ensures
    (c.may_end.ensures
    ∙ ap (λ (st : Stage). stage_allows st (end_of_kind (is_mapping c.args.kind))) (sym (ap (λ (s : MachineState). s.stage) c.self.view_is)
    ∙ seen_at_node c.self.inside (at_node_inside c.self.inside c.self.view_is
    (ending_at_node c.args.self.now.stage (is_mapping c.args.kind) (sym c.may_end.ensures ∙ c.if-not-may_end.false)))))
    c.if-not-may_end.false)
    (ap (λ (p : Place). p.column) c.next_place-around.ensures.place)
    (c.advance-self-inside.ensures.stage c.self.inside.directives)
    (c.write_collection_end.ensures (machine_state c.self.inside).open_ended))
