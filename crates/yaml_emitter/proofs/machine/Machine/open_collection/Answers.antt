use Rattle.yaml_emitter.proofs.Common.{common_steps, rules, option_map, nat_lt, length, ap, ◌∙◌, arith, any_layout, most_open, spelling, seen_collection}
use Rattle.yaml_emitter.proofs.Common.{machine_state, start_of_kind, is_mapping, seen_place, seen_frame, seen_stage, collection_tag, seen_tag}
use Rattle.std.proofs.lemmas.{Result.on_ok_weaker}
use Rattle.yaml_emitter.proofs.{events_done.ProcessedBy.processed_exit, pieces.WritingTags.spelled_handle}
use Rattle.yaml_emitter.proofs.events_done.CollectionsDone.{room_here, full_here, of_any_style, start_refused, start_cut, start_left}
use Rattle.yaml_emitter.proofs.events_done.NodesDone.{at_node_inside, seen_at_node, names_inside, pushed_at_node, collection_anchor}
use Rattle.yaml_emitter.proofs.machine.Machine.open_collection.Goals as goal

pub returns-then-is_full : goal.returns-then-is_full
returns-then-is_full g c =
    first_of (
      search (rules, at_node_inside, full_here, names_inside, of_any_style, seen_at_node, start_refused),
      grind (arith, common_steps, at_node_inside, full_here, names_inside, of_any_style, seen_at_node, start_refused),
    )

pub write_collection_start-requires-clause-handle : goal.write_collection_start-requires-clause-handle
write_collection_start-requires-clause-handle g c =
    spelled_handle c.self.inside.directives
    (collection_tag c.self.inside.settings.canonical (seen_collection c.args.content.now any_layout)) (seen_tag c.spell-tag.result)
    (c.spell-tag.ensures ∙ ap (option_map (spelling c.self.inside.directives)) (c.written_collection_tag-written.ensures any_layout))
    c.self.invariant.handles

pub write_collection_start-requires-clause-anchor : goal.write_collection_start-requires-clause-anchor
write_collection_start-requires-clause-anchor g c = collection_anchor c.args.self.now.given.canonical (is_mapping c.args.kind)
    (seen_collection c.args.content.now any_layout) c.requires.names

pub returns-in_err-write_collection_start : goal.returns-in_err-write_collection_start
returns-in_err-write_collection_start g c = λ style asked.
    rw (← c.self.view_is)
    (processed_exit (start_of_kind (is_mapping c.args.kind) (seen_collection c.args.content.now style)) c.args.empty
    (machine_state c.self.inside) _ c.in_err-write_collection_start.field-0.0 c.from_residual.result c.from_residual.ensures
    (start_cut (machine_state c.self.inside) c.self.inside.directives c.self.inside.frames (is_mapping c.args.kind)
    (seen_collection c.args.content.now style) c.args.empty c.is_simple_collection_key-simple.result
    (seen_place c.next_place-place.result) c.write_collection_start.new.pen c.in_err-write_collection_start.field-0.0
    (seen_at_node c.self.inside (at_node_inside c.self.inside c.self.view_is c.requires.stage))
    (of_any_style c.self.inside.given.canonical (is_mapping c.args.kind) (seen_collection c.args.content.now any_layout) style
    (names_inside c.self.inside c.self.view_is (start_of_kind (is_mapping c.args.kind) (seen_collection c.args.content.now any_layout)) c.requires.names))
    (room_here (nat_lt (length c.self.inside.frames) most_open) c.is_full.result c.is_full.ensures c.if-is_full.false)
    c.next_place-place.ensures.place
    (c.is_simple_collection_key-simple.ensures c.self.inside.directives style
    (c.spell-tag.ensures ∙ ap (option_map (spelling c.self.inside.directives)) (c.written_collection_tag-written.ensures style)))
    (c.in_err-write_collection_start.ensures.written c.self.inside.directives style (machine_state c.self.inside).open_ended
    (c.spell-tag.ensures ∙ ap (option_map (spelling c.self.inside.directives)) (c.written_collection_tag-written.ensures style)))))

pub returns : goal.returns
returns g c = λ style asked.
    rw (← c.self.view_is)
    (start_left (machine_state c.self.inside) c.self.inside.directives c.self.inside.frames (is_mapping c.args.kind)
    (seen_collection c.args.content.now style) c.args.empty c.is_simple_collection_key-simple.result c.is_written_in_flow-in_flow.result
    (seen_place c.next_place-place.result) (seen_frame c.opened_frame-frame.result)
    (seen_stage c.self.inside.stage c.self.inside.directives c.push.new.self) c.write_collection_start.new.pen c.push.result
    (seen_at_node c.self.inside (at_node_inside c.self.inside c.self.view_is c.requires.stage))
    (of_any_style c.self.inside.given.canonical (is_mapping c.args.kind) (seen_collection c.args.content.now any_layout) style
    (names_inside c.self.inside c.self.view_is (start_of_kind (is_mapping c.args.kind) (seen_collection c.args.content.now any_layout)) c.requires.names))
    (room_here (nat_lt (length c.self.inside.frames) most_open) c.is_full.result c.is_full.ensures c.if-is_full.false)
    c.next_place-place.ensures.place
    (c.is_simple_collection_key-simple.ensures c.self.inside.directives style
    (c.spell-tag.ensures ∙ ap (option_map (spelling c.self.inside.directives)) (c.written_collection_tag-written.ensures style)))
    (c.is_written_in_flow-in_flow.ensures (seen_collection c.args.content.now style) asked)
    c.opened_frame-frame.ensures.frame
    (on_ok_weaker c.push.result
    (pushed_at_node c.self.inside c.push.new.self (seen_frame c.opened_frame-frame.result)
    (at_node_inside c.self.inside c.self.view_is c.requires.stage)) c.push.ensures.ok)
    c.push.ensures.memory
    (c.in_ok-write_collection_start.ensures.written c.self.inside.directives style (machine_state c.self.inside).open_ended
    (c.spell-tag.ensures ∙ ap (option_map (spelling c.self.inside.directives)) (c.written_collection_tag-written.ensures style))))
