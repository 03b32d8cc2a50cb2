-- The fields of a machine, and their view in contracts.
use Rattle.std.specs.Prelude.{◌≡◌, false}
use Rattle.yaml_emitter.specs.Given.{seen_settings, seen_effective}
use Rattle.yaml_emitter.specs.Stages.{seen_stage}
use Rattle.yaml_emitter.specs.Atoms.{some_handle_breaks}
use Rattle.yaml_emitter.specs.State.{MachineState, FitsPage}
use Rattle.yaml_emitter.specs.WrittenPieces.{seen_open_ended}
use Rattle.yaml_emitter.specs.declared.machine.Machine.TheInside.{Inside}

-- the view of a machine in contracts
abbrev pub machine_state : {A : Type 0} → Inside A → MachineState
machine_state m =
    record {
      given = seen_settings m.given;
      settings = seen_effective m.settings;
      stage = seen_stage m.stage m.directives m.frames;
      open_ended = seen_open_ended m.open_ended;
      page = m.pen;
      error = m.error;
    }

-- no handle in force holds a break, canonical mode is as it was set, and the page was begun with the stream
pub record IsMachine {A : Type 0} (m : Inside A) : Type 0 where
  pub handles : some_handle_breaks m.directives ≡ false
  pub canonical : m.settings.canonical ≡ m.given.canonical
  pub page : FitsPage (seen_stage m.stage m.directives m.frames) m.pen
