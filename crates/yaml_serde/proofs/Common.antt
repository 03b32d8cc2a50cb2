-- The names that most proofs here cite, passed on from one place. Declares nothing.
pub use Rattle.yaml_base.proofs.Common.{chars, ap, append-nil, append_assoc, arith, subst, sym, ◌∙◌, Bool, List, None, Option, Some, [], false, length, pos}
pub use Rattle.yaml_base.proofs.Common.{refl, take, true, ℕ, ◌++◌, ◌<◌, ◌∷◌, ◌≡◌, ◌≤◌, Text, Event, Settings}
pub use Rattle.yaml_emitter.proofs.Common.{State}
pub use Rattle.std.specs.{Fmt.signed_decimal, Io.KnownBytes.Appends, List.All}
pub use Rattle.std.specs.Prelude.{Err, Ok, Result, Vec, IfOk, OnOk}
pub use mathlib.Core.Logic.{∥∥₁_map}
pub use mir.Syntax.{w128}
pub use Rattle.yaml_pen.{proofs.Composing.grows_itself, specs.Wrote.Grows}
pub use Rattle.yaml_serde.specs.{Outlets.is_kept, Outlets.HandsOn}
pub use Rattle.yaml_writer.specs.NumberParts.{HasNumber}
pub use Rattle.yaml_serde.specs.Documents.{AreCalls, IsWriterEvent, int_call, IsDocument, AppendsDocument, GivesEvents}
pub use Rattle.yaml_serde.specs.Forms.{Form, form_for_values, form_of}
pub use Rattle.yaml_emitter.specs.Given.{seen_settings}
pub use Rattle.yaml_writer.specs.Given.{given_for_values}
pub use Rattle.yaml_writer.specs.Writing.{WriterState, opening, closing, with_collection, awaits_node, IsNewWriter, IsStream, Finishes}
