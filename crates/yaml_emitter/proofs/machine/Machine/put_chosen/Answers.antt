use Rattle.yaml_emitter.proofs.Common.{machine_state, scalar, seen_place, MachineState, true, option_map, false, ap, sym, ◌∙◌, scalar_tag, spelling, seen_tag}
use Rattle.yaml_emitter.proofs.Common.{seen_scalar}
use Rattle.yaml_emitter.proofs.{pieces.AtomsWritten.written_is_some, pieces.WritingTags.spelled_handle}
use Rattle.yaml_emitter.proofs.events_done.NodesDone.{at_node_inside, seen_at_node, names_inside, lacks_given}
use Rattle.yaml_emitter.proofs.events_done.NodesDone.{scalar_refused, scalar_done, scalar_anchor}
use Rattle.yaml_emitter.proofs.machine.Machine.put_chosen.Goals as goal

pub returns-then-lacks_flag : goal.returns-then-lacks_flag
returns-then-lacks_flag g c = λ empty.
    let content = seen_scalar c.args.content.now in
    scalar_refused c.args.self.now c.self.inside.directives c.self.inside.frames content empty
    (sym (ap (λ (s : MachineState). s.stage) c.self.view_is) ∙ seen_at_node c.self.inside (at_node_inside c.self.inside c.self.view_is c.requires.stage))
    c.requires.names
    (lacks_given content c.lacks_flag.result c.self.inside.settings.canonical c.args.self.now.given.canonical true
    (c.self.invariant.canonical ∙ ap (λ (s : MachineState). s.given.canonical) c.self.view_is) c.if-lacks_flag.true c.lacks_flag.ensures)

pub write_scalar-requires-clause-checked : goal.write_scalar-requires-clause-checked
write_scalar-requires-clause-checked g c =
    let tag = scalar_tag c.self.inside.settings.canonical (seen_scalar c.args.content.now) in
    let spelled = c.spell-tag.ensures ∙ ap (option_map (spelling c.self.inside.directives)) c.written_scalar_tag-written.ensures in
    record {
      anchor = scalar_anchor c.args.self.now.given.canonical (seen_scalar c.args.content.now) c.requires.names;
      handle = spelled_handle c.self.inside.directives tag (seen_tag c.spell-tag.result) spelled c.self.invariant.handles;
      tag_written = written_is_some c.self.inside.directives tag c.spell-tag.result spelled;
      flags = sym c.lacks_flag.ensures ∙ c.if-lacks_flag.false;
    }

pub returns : goal.returns
returns g c = λ empty.
    let content = seen_scalar c.args.content.now in
    let spelled = c.spell-tag.ensures ∙ ap (option_map (spelling c.self.inside.directives)) c.written_scalar_tag-written.ensures in
    rw (← c.self.view_is)
    (scalar_done (machine_state c.self.inside) c.self.inside.directives c.self.inside.frames content empty c.is_simple_scalar_key-simple.result
    (seen_place c.next_place-place.result) _ _ c.write_scalar.new.pen c.write_scalar.result
    (seen_at_node c.self.inside (at_node_inside c.self.inside c.self.view_is c.requires.stage))
    (names_inside c.self.inside c.self.view_is (scalar content) c.requires.names)
    (lacks_given content c.lacks_flag.result c.self.inside.settings.canonical c.self.inside.given.canonical false
    c.self.invariant.canonical c.if-lacks_flag.false c.lacks_flag.ensures)
    c.next_place-place.ensures.place
    (c.is_simple_scalar_key-simple.ensures c.self.inside.directives spelled)
    (c.advance-self-inside.ensures.stage c.self.inside.directives)
    c.write_scalar.ensures.open_ended_is (c.write_scalar.ensures.written c.self.inside.directives spelled))
