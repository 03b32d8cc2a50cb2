-- The output of a list in canonical mode, if no limit cuts it, reads as its content.
use Rattle.yaml_emitter.proofs.Common.{List, take_all, ap, sym, ◌∙◌, Event, encoding_asked, settings_for, bytes_written, list_layout, Settings}
use Rattle.yaml_emitter.proofs.Common.{canonical_content}
use Rattle.yaml_emitter.{proofs.canonical.Canonical.canonical_bytes_read, specs.Uncut.OutputReads, specs.Uncut.OutputTells}

pub output_reads : (given : Settings) (events : List Event) → OutputReads given events
output_reads given events whole =
    let bytes = bytes_written (settings_for given events) (list_layout (settings_for given events) events) in
    ap (canonical_content given.breaks12) (take_all given.limit bytes whole.uncut)
    ∙ canonical_bytes_read given (encoding_asked events) events whole.canonical whole.accepted whole.scalars

pub output_tells : (given : Settings) (first second : List Event) → OutputTells given first second
output_tells given first second one other same =
    sym (output_reads given first one) ∙ ap (canonical_content given.breaks12) same ∙ output_reads given second other
