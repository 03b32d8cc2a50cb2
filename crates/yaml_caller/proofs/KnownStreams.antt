-- The promises of an emitter for a whole stream that is known.
use Rattle.yaml_caller.proofs.Common.{None, true, List, [], ◌≡◌, subst, sym, ◌∙◌, Event, held_back, Settings, Promised, State}
use Rattle.yaml_emitter.specs.Promises.{HasRoomAndMemory, ends_stream, IsWritten}

-- a finished stream with no event queued and no error is written whole
pub whole : (given : Settings) (events : List Event) (state : State) → ends_stream events ≡ true → held_back events ≡ [] → Promised given events state
    → state.error ≡ None → IsWritten given events state
whole given events state ended ready promised none =
    let room : HasRoomAndMemory state.error = subst HasRoomAndMemory (sym none) tt in
    let accepted = (promised.ends ended room).1 (none, (promised.held none).held ∙ ready) in
    promised.whole none accepted
