-- The names that most proofs here cite, passed on from one place. Declares nothing.
pub use Rattle.yaml_base.proofs.Common.{suc, zero, ℕ, ◌%◌, ◌+◌, ◌-◌, ◌/◌, ◌<◌, ◌≤◌, if◌then◌else◌, ◌==◌, unwrap_or, option_map, Option, None, Some, nat_le}
pub use Rattle.yaml_base.proofs.Common.{drop, length, replicate, slice_index_or, take, Bool, cond, false, not, true, ◌&&◌, ◌||◌, List, [], map, ◌++◌, ◌∷◌}
pub use Rattle.yaml_base.proofs.Common.{refl, ◌≡◌, eq-eqb, length-append, append-nil, append_assoc, inl, inr, ap, subst, sym, ◌∙◌, arith, false≢true}
pub use Rattle.yaml_base.proofs.Common.{nat_tests, length-map, map-append, list_all, list_any, Text, Event, stream_end, document_start, Settings, IsDumpOf}
pub use Rattle.yaml_base.proofs.Common.{GraphNode, Graph, children, is_whole, Step, enters, leaves, meets_again, is_entry_of, steps_from, numbered_name}
pub use Rattle.yaml_base.proofs.Common.{opening_events, step_events, document_event_list, DocumentTree}
pub use Rattle.yaml_emitter.proofs.Common.{Promised, State}
pub use Rattle.std.{proofs.lemmas.Int.to_z-of_z, proofs.lemmas.List.get_or-map, proofs.lemmas.Result.IfOk-weaker, specs.Fmt.styled_decimal}
pub use Rattle.std.{specs.List.slice_get, specs.Vec.Iter.into_iter_items}
pub use Rattle.std.proofs.Common.{get_or-set_other, get_or-set_same, length-set, rules, w32}
pub use Rattle.std.specs.Prelude.{Err, FitsSigned, Ok, Result, Vec, reverse, slice_set, ◌^◌, ◌≢◌, IfSome, OnOk, flat_map}
pub use Rattle.yaml_base.{proofs.ContentsUnfold.dumped_stream, proofs.DocumentsUnfold.document_unfolds, specs.Seen.seen_event, specs.Seen.seen_events}
pub use Rattle.yaml_base.{specs.graphs.Documents.graph_of, specs.graphs.Dumped.ContentsUnfold, specs.graphs.Meetings.graph_steps}
pub use Rattle.yaml_base.{specs.graphs.SeenNodes.seen_number, specs.graphs.Unfolding.content_shape}
pub use Rattle.yaml_dump.specs.{Events.seen_events_of, GraphTrees.tree_shape, GraphTrees.TreesUnfold, Named.IsNamed, Named.step_number, Named.AreNamed}
pub use Rattle.yaml_dump.specs.{WalkState.seen_walker, WalkSteps.seen_step}
pub use Rattle.yaml_dump.specs.Anchors.{IsNumbered, is_numbered, anchor_of_place, HasPlaces, Places}
pub use Rattle.yaml_dump.specs.Dumps.{EmitsAll, FailsAt, EmitsEach, opening_unless, closing_unless}
pub use Rattle.yaml_pen.{proofs.Composing.grows_then, proofs.Writing.none_from_result, proofs.Writing.some_from_result, specs.Wrote.Grows}
