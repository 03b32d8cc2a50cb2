-- Worked rows: a run that stops in its third document has written all bytes of the first two.
use Rattle.yaml_tool.proofs.Common.{ℕ, List, [], ◌++◌, ◌≡◌, Event, Numbered, State, events_in, RefusesAt}
use Rattle.yaml_emitter.proofs.Common.{nothing_given}
use Rattle.yaml_base.specs.Prefix.{IsPrefix}
use Rattle.yaml_base.specs.declared.errors.{yaml_error_t.yaml_error_t, yaml_error_t.TheVariants.ExpectedNode, yaml_error_t.TheVariants.Memory}
use Rattle.yaml_emitter.proofs.rows.RowsKeptDocuments.{two, third, begun, both, kept, not_empty}
use Rattle.yaml_tool.specs.Runs.{FlushFails}

module _ (all : List Numbered) (line : ℕ) (later : List Event) (state : State) where
  -- the first call that fails comes after the two documents
  stops : (error : yaml_error_t) (h : RefusesAt nothing_given all line error state) → events_in h.before ≡ two ++ later → IsPrefix both state.page.output
  stops error h is = kept (events_in h.before) later state.page.output is h.fails.documents

  -- an event of the third document that is refused, as the end of a mapping that wasn't begun
  refused_third : (h : RefusesAt nothing_given all line ExpectedNode state) → events_in h.before ≡ begun → IsPrefix both state.page.output
  refused_third h is = kept (events_in h.before) third state.page.output is h.fails.documents

  -- an event of it for which memory is refused
  memory_in_third : (h : RefusesAt nothing_given all line Memory state) → events_in h.before ≡ begun → IsPrefix both state.page.output
  memory_in_third h is = kept (events_in h.before) third state.page.output is h.fails.documents

  -- the last flush, for which memory is refused
  memory_in_flush : (h : FlushFails nothing_given all line Memory state) → events_in all ≡ begun → IsPrefix both state.page.output
  memory_in_flush h is = kept (events_in all) third state.page.output is h.fails.documents

  -- so no state whose output was emptied follows such a run
  emptied_refused : (error : yaml_error_t) (h : RefusesAt nothing_given all line error state) → events_in h.before ≡ two ++ later
      → state.page.output ≡ [] → ⊥
  emptied_refused error h is = not_empty state.page.output (stops error h is)

  emptied_in_flush : (error : yaml_error_t) (h : FlushFails nothing_given all line error state) → events_in all ≡ two ++ later
      → state.page.output ≡ [] → ⊥
  emptied_in_flush error h is = not_empty state.page.output (kept (events_in all) later state.page.output is h.fails.documents)
