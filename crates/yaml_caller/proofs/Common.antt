-- The names that most proofs here cite, passed on from one place. Declares nothing.
pub use Rattle.yaml_base.proofs.Common.{ℕ, ◌<◌, ◌≤◌, if◌then◌else◌, ◌==◌, is_none, bytes_eq, Option, None, Some, codes, length, Bool, false, true, ◌||◌, List}
pub use Rattle.yaml_base.proofs.Common.{[], map, ◌++◌, ◌∷◌, ◌⊎◌, refl, ◌≡◌, append-nil, append_assoc, inl, inr, ap, subst, sym, ◌∙◌, arith, bytes_eq-Decides}
pub use Rattle.yaml_base.proofs.Common.{chars, Text, any_style, block, TagDirective, Event, stream_start, stream_end, scalar, scalar_node, no_documents}
pub use Rattle.yaml_base.proofs.Common.{documents_and, Stream, output_of, most_open, open_count, IsAccepted, Settings, IsDumpOf, GraphNode, Graph}
pub use Rattle.yaml_base.proofs.Common.{string_tag, mapping_tag, document_event_list, IsWholeGraph, agrees, stream_trees}
pub use Rattle.yaml_pen.proofs.Common.{result_of_error}
pub use Rattle.yaml_emitter.proofs.Common.{RefusedAt, Promised, State}
pub use Rattle.std.proofs.{Common.rules, lemmas.List.Elements.All-nil, lemmas.List.Elements.All-cons}
pub use Rattle.std.specs.Prelude.{Err, Ok, Result, Decides, IsErrAnd, IfErr, IsErr, OnOk}
pub use Rattle.yaml_base.proofs.Literals.{chars-literal}
pub use Rattle.yaml_base.specs.{Ready.held_back, Seen.seen_text, Seen.seen_directive, graphs.Documents.graph_of, graphs.Dumped.GraphsRead}
pub use Rattle.yaml_base.specs.{graphs.Isomorphic.bare, values.TypedValues.typed_settings}
pub use Rattle.yaml_caller.specs.{Cycle.cycle_graph, Cycle.cycle_bytes, Alone.graph_events, GraphBytes.IsRefused, Cycle.cycle_settings}
pub use Rattle.yaml_caller.specs.{Pair.portable_settings, Pair.pair_events}
pub use Rattle.yaml_dump.specs.Dumps.{opening_unless, closing_unless, Dumps}
