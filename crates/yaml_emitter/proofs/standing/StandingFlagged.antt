-- Noting that a stream was opened or closed as a whole doesn't change which events an emitter's state comes after.
use Rattle.yaml_emitter.proofs.Common.{Bool, List, Event, Settings, StandsAfter, State}

pub stands_flagged : (given : Settings) (all : List Event) (state : State) (opened closed : Bool) → StandsAfter given all state
    → StandsAfter given all (record state { opened = opened; closed = closed })
stands_flagged given all state opened closed h = record { texts = h.texts; so = h.so }
