use Rattle.yaml_emitter.proofs.Common.{Bool, ap, sym, ◌∙◌, any_layout, is_mapping, name_or_tag_fault, seen_collection, start_of_kind, MachineState}
use Rattle.yaml_emitter.proofs.events_done.{DocumentsDone.names_refused, ProcessedBy.processed_exit}
use Rattle.yaml_emitter.proofs.machine.Machine.start_collection.Goals as goal

pub returns-in_err-check_collection_names : goal.returns-in_err-check_collection_names
returns-in_err-check_collection_names g c = λ style asked.
    let event = start_of_kind (is_mapping c.args.kind) (seen_collection c.args.content.now style) in
    processed_exit event c.args.empty c.args.self.now c.args.self.now c.in_err-check_collection_names.field-0.0 c.from_residual.result
    c.from_residual.ensures
    (names_refused event c.args.empty c.args.self.now c.in_err-check_collection_names.field-0.0
    (c.in_err-check_collection_names.ensures (is_mapping c.args.kind) style
    ∙ ap (λ (b : Bool). name_or_tag_fault b event) (c.self.invariant.canonical ∙ ap (λ (s : MachineState). s.given.canonical) c.self.view_is)))

pub open_collection-requires-clause-names : goal.open_collection-requires-clause-names
open_collection-requires-clause-names g c =
    let event = start_of_kind (is_mapping c.args.kind) (seen_collection c.args.content.now any_layout) in
    sym
    (c.in_ok-check_collection_names.ensures (is_mapping c.args.kind) any_layout
    ∙ ap (λ (b : Bool). name_or_tag_fault b event) c.self.invariant.canonical)
