-- The names that most proofs here cite, passed on from one place. Declares nothing.
pub use Rattle.yaml_base.proofs.Common.{ℕ, ◌+◌, ◌<◌, ◌≤◌, option_map, Option, None, Some, pos, ℤ, drop, length, slice_index_or, Bool, false, true, List, []}
pub use Rattle.yaml_base.proofs.Common.{map, ◌++◌, ◌∷◌, refl, ◌≡◌, append_assoc, inl, ap, subst, sym, ◌∙◌, TagDirective, Settings}
pub use Rattle.yaml_emitter.proofs.Common.{State}
pub use Rattle.yaml_tool.proofs.Common.{events_in}
pub use Rattle.std.proofs.Common.{of_z, rules, to_z, w32}
pub use Rattle.std.proofs.lemmas.List.{at_drop_more}
pub use Rattle.yaml_base.specs.Seen.{seen_directive}
pub use Rattle.yaml_c.specs.{EventRecords.directives_recorded, EventRecords.event_recorded, EventRecords.events_from, JsonAnswers.IsAnswer}
pub use Rattle.yaml_c.specs.{JsonAnswers.answer_of}
pub use Rattle.yaml_emitter.specs.Given.{seen_settings}
