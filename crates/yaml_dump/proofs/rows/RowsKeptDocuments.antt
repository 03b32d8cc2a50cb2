-- Worked rows: a dump that fails after two documents keeps all bytes of these.
use Rattle.yaml_dump.proofs.Common.{None, Err, List, [], ◌++◌, ◌≡◌, append_assoc, inl, inr, subst, sym, Event, Settings, Graph, FailsAt, Promised, State}
use Rattle.yaml_emitter.proofs.Common.{nothing_given}
use Rattle.yaml_emitter.specs.Emits.{IsPromised}
use Rattle.yaml_base.specs.{Prefix.IsPrefix, declared.errors.yaml_error_t.yaml_error_t}
use Rattle.yaml_dump.specs.Dumps.{Dumps, dumped_events}
use Rattle.yaml_emitter.proofs.rows.RowsKeptDocuments.{two, both, kept, not_empty}
use Rattle.yaml_emitter.proofs.standing.{KeptDocuments.documents_without_error, KeptDocuments.documents_stay}

-- an emitter was given the two documents and later events
abbrev HasTwo : List Event → State → Type 0
HasTwo later state = (state.given ≡ nothing_given) × (state.events ≡ two ++ later)

-- the two are in the output of an emitter that had no error after them and more events
stays : (all later : List Event) (state : State) → all ≡ two ++ later → Promised nothing_given all state → state.error ≡ None
    → IsPrefix both state.page.output
stays all later state is promised none = kept all later state.page.output is (documents_without_error nothing_given all state promised none)

-- an event of a later document fails, whatever its error is
fails : (later events : List Event) (error : yaml_error_t) (before after : State) → HasTwo later before → FailsAt before events error after
    → IsPrefix both after.page.output
fails later events error before after has h =
    let all = (two ++ later) ++ h.earlier in
    let promised : Promised nothing_given all h.kept.between =
    subst (λ (given : Settings). Promised given all h.kept.between) has.0
    (subst (λ (events : List Event). Promised before.given (events ++ h.earlier) h.kept.between) has.1 h.kept.promised) in
    kept all (later ++ h.earlier) after.page.output (append_assoc two later h.earlier)
    (documents_stay nothing_given all h.kept.between.page.output after.page.output
    (documents_without_error nothing_given all h.kept.between promised h.kept.no_error) h.kept.grows.output)

-- so no state whose output was emptied follows it, and none follows a whole dump that fails, even if it gave no event
emptied_dumping : (later : List Event) (graph : Graph) (error : yaml_error_t) (before after : State) → HasTwo later before → IsPromised before
    → before.error ≡ None → Dumps graph before (Err error) after → after.page.output ≡ [] → ⊥
emptied_dumping later graph error before after has promised none (inl nothing) =
    not_empty after.page.output
    (subst (λ (state : State). IsPrefix both state.page.output) (sym nothing.1)
    (stays before.events later before has.1 (subst (λ (given : Settings). Promised given before.events before) has.0 promised) none))
emptied_dumping later graph error before after has promised none (inr dump) =
    not_empty after.page.output (fails later (dumped_events before graph) error (record before { opened = after.opened }) after has dump.fails)
