use Rattle.yaml_emitter.proofs.Common.{machine_state, sym, ◌∙◌}
use Rattle.std.specs.Prelude.{chars}
use Rattle.yaml_emitter.proofs.{pieces.WritingNames.sound_alias}
use Rattle.yaml_emitter.proofs.events_done.NodesDone.{at_node_inside, seen_at_node, kept_advancing, alias_done}
use Rattle.yaml_emitter.proofs.machine.Machine.alias.Goals as goal

pub write_alias-requires-clause-name : goal.write_alias-requires-clause-name
write_alias-requires-clause-name g c = sound_alias (chars c.args.name.now) (sym c.in_ok-analyze_anchor.ensures)

pub invariant_of-self : goal.invariant_of-self
invariant_of-self g c =
    kept_advancing c.self.inside c.write_alias.new.pen c.advance-self-inside.result c.advance-self-inside.new.self c.self.inside.frames
    c.is_simple_alias_key-simple.result c.self.inside.open_ended c.self.invariant
    (c.advance-self-inside.ensures.stage c.self.inside.directives) (c.write_alias.ensures 0).ready

pub returns : goal.returns
returns g c = λ empty.
    rw (← c.self.view_is)
    (alias_done (machine_state c.self.inside) c.self.inside.directives c.self.inside.frames
    (chars c.args.name.now) empty c.is_simple_alias_key-simple.result _ _ c.write_alias.new.pen c.write_alias.result
    (seen_at_node c.self.inside (at_node_inside c.self.inside c.self.view_is (sym c.is_at_node.ensures ∙ c.if-not-is_at_node.false)))
    (sym c.in_ok-analyze_anchor.ensures) c.next_place-place.ensures.place
    c.is_simple_alias_key-simple.ensures
    (c.advance-self-inside.ensures.stage c.self.inside.directives)
    (c.write_alias.ensures (machine_state c.self.inside).open_ended))
