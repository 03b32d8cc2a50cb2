use Rattle.yaml_emitter.proofs.Common.{ap, refl, subst, sym, ◌∙◌, scalar, ChosenStyle, seen_scalar, seen_effective, machine_state, seen_place, MachineState}
use Rattle.yaml_emitter.proofs.Common.{StandsPlain, seen_open_ended, plain, deeper, render_scalar_text, wrote_then, wrote_failed}
use Rattle.yaml_emitter.proofs.Common.{FitsSigned as SFits, rules, w32, to_z-of_z, chars}
use Rattle.yaml_base.proofs.Common.{open_ended_after}
use Rattle.yaml_base.specs.declared.styles.yaml_scalar_style_t.TheVariants.{YAML_PLAIN_SCALAR_STYLE}
use Rattle.yaml_emitter.proofs.{events_done.ProcessedBy.processed_exit, pieces.SimpleAsciiChoices.simple_ascii_choice, pieces.SimpleAsciiChoices.not_lacking}
use Rattle.yaml_emitter.proofs.{pieces.SimpleAsciiChoices.wrote_simple_ascii, pieces.WritingScalars.wrote_plain}
use Rattle.yaml_emitter.proofs.events_done.NodesDone.{at_node_inside, seen_at_node, names_inside, kept_at_node, kept_advancing, scalar_cut}
use Rattle.yaml_emitter.proofs.events_done.NodesDone.{scalar_written}
use Rattle.yaml_emitter.proofs.machine.Machine.put_simple_ascii.Goals as goal

pub returns-in_err-write_lead : goal.returns-in_err-write_lead
returns-in_err-write_lead g c = λ content stands same names empty.
    let inside = subst (λ (s : MachineState). StandsPlain s.settings.canonical content) (sym c.self.view_is) stands in
    let s = seen_effective c.self.inside.settings in
    let place = c.next_place-place.result in
    let simple = c.is_simple_ascii_key-simple.result in
    rw (← c.self.view_is)
    (processed_exit (scalar (seen_scalar content)) empty
    (machine_state c.self.inside) _ c.in_err-write_lead.field-0.0 c.from_residual.result c.from_residual.ensures
    (scalar_cut (machine_state c.self.inside) c.self.inside.directives c.self.inside.frames
    (seen_scalar content) empty simple (seen_place place) c.write_lead.new.pen c.in_err-write_lead.field-0.0
    (seen_at_node c.self.inside (at_node_inside c.self.inside c.self.view_is c.requires.stage))
    (names_inside c.self.inside c.self.view_is (scalar (seen_scalar content)) names)
    (not_lacking c.self.inside.given.canonical stands)
    c.next_place-place.ensures.place
    (c.is_simple_ascii_key-simple.ensures c.self.inside.settings.canonical c.self.inside.directives content inside same)
    (wrote_simple_ascii s c.self.inside.directives (seen_place place) simple (seen_open_ended c.self.inside.open_ended) inside same
    (wrote_failed (render_scalar_text plain s place.in_flow simple (deeper s.indent place.column) (chars c.args.value.now)) c.in_err-write_lead.ensures))))

pub invariant_of-self-in_err-write_simple_ascii_scalar : goal.invariant_of-self-in_err-write_simple_ascii_scalar
invariant_of-self-in_err-write_simple_ascii_scalar g c =
    kept_at_node c.self.inside c.write_simple_ascii_scalar.new.pen c.self.inside.frames c.self.inside.open_ended c.self.invariant
    (at_node_inside c.self.inside c.self.view_is c.requires.stage)
    (c.in_err-write_simple_ascii_scalar.ensures c.next_place-place.result.in_flow).ready

pub returns-in_err-write_simple_ascii_scalar : goal.returns-in_err-write_simple_ascii_scalar
returns-in_err-write_simple_ascii_scalar g c = λ content stands same names empty.
    let inside = subst (λ (s : MachineState). StandsPlain s.settings.canonical content) (sym c.self.view_is) stands in
    let settings = c.self.inside.settings in
    let place = c.next_place-place.result in
    let simple = c.is_simple_ascii_key-simple.result in
    let fits : SFits w32 settings.width = search rules in
    let indent_fits : SFits w32 c.line_indent-indent.result = search rules in
    rw (← c.self.view_is)
    (processed_exit (scalar (seen_scalar content)) empty
    (machine_state c.self.inside) _ c.in_err-write_simple_ascii_scalar.field-0.0
    c.from_residual-in_err-write_simple_ascii_scalar.result c.from_residual-in_err-write_simple_ascii_scalar.ensures
    (scalar_cut (machine_state c.self.inside) c.self.inside.directives c.self.inside.frames
    (seen_scalar content) empty simple (seen_place place) c.write_simple_ascii_scalar.new.pen c.in_err-write_simple_ascii_scalar.field-0.0
    (seen_at_node c.self.inside (at_node_inside c.self.inside c.self.view_is c.requires.stage))
    (names_inside c.self.inside c.self.view_is (scalar (seen_scalar content)) names)
    (not_lacking c.self.inside.given.canonical stands)
    c.next_place-place.ensures.place
    (c.is_simple_ascii_key-simple.ensures c.self.inside.settings.canonical c.self.inside.directives content inside same)
    (wrote_simple_ascii (seen_effective settings) c.self.inside.directives (seen_place place) simple (seen_open_ended c.self.inside.open_ended) inside same
    (wrote_then c.in_ok-write_lead.ensures
    (wrote_plain settings place.in_flow simple (chars c.args.value.now)
    (to_z-of_z w32 c.line_indent-indent.result indent_fits ∙ c.line_indent-indent.ensures.value) (to_z-of_z w32 settings.width fits) settings.counts
    {style = YAML_PLAIN_SCALAR_STYLE} refl (c.in_err-write_simple_ascii_scalar.ensures place.in_flow))))))

pub invariant_of-self-2 : goal.invariant_of-self-2
invariant_of-self-2 g c =
    kept_advancing c.self.inside c.write_simple_ascii_scalar.new.pen c.advance-self-inside.result c.advance-self-inside.new.self c.self.inside.frames
    c.is_simple_ascii_key-simple.result c.self.inside.open_ended c.self.invariant
    (c.advance-self-inside.ensures.stage c.self.inside.directives) (c.in_ok-write_simple_ascii_scalar.ensures c.next_place-place.result.in_flow).ready

pub returns : goal.returns
returns g c = λ content stands same names empty.
    let inside = subst (λ (s : MachineState). StandsPlain s.settings.canonical content) (sym c.self.view_is) stands in
    let settings = c.self.inside.settings in
    let place = c.next_place-place.result in
    let simple = c.is_simple_ascii_key-simple.result in
    let fits : SFits w32 settings.width = search rules in
    let indent_fits : SFits w32 c.line_indent-indent.result = search rules in
    rw (← c.self.view_is)
    (scalar_written (machine_state c.self.inside) c.self.inside.directives c.self.inside.frames
    (seen_scalar content) empty simple (seen_place place) _ _ c.write_simple_ascii_scalar.new.pen
    (seen_at_node c.self.inside (at_node_inside c.self.inside c.self.view_is c.requires.stage))
    (names_inside c.self.inside c.self.view_is (scalar (seen_scalar content)) names)
    (not_lacking c.self.inside.given.canonical stands)
    c.next_place-place.ensures.place
    (c.is_simple_ascii_key-simple.ensures c.self.inside.settings.canonical c.self.inside.directives content inside same)
    (c.advance-self-inside.ensures.stage c.self.inside.directives)
    (sym (ap (λ (choice : ChosenStyle). open_ended_after choice.style (seen_scalar content).value (seen_open_ended c.self.inside.open_ended))
    (simple_ascii_choice (seen_effective c.self.inside.settings) (seen_place c.next_place-place.result) c.is_simple_ascii_key-simple.result inside)))
    (wrote_simple_ascii (seen_effective settings) c.self.inside.directives (seen_place place) simple (seen_open_ended c.self.inside.open_ended) inside same
    (wrote_then c.in_ok-write_lead.ensures
    (wrote_plain settings place.in_flow simple (chars c.args.value.now)
    (to_z-of_z w32 c.line_indent-indent.result indent_fits ∙ c.line_indent-indent.ensures.value) (to_z-of_z w32 settings.width fits) settings.counts
    {style = YAML_PLAIN_SCALAR_STYLE} refl (c.in_ok-write_simple_ascii_scalar.ensures place.in_flow)))))
