-- The fields of an engine, and their view.
use Rattle.std.specs.Prelude.{◌≡◌, ◌≤◌, false, true, vec_capacity}
use Rattle.yaml_base.specs.Seen.{seen_events}
use Rattle.yaml_pen.specs.Page.{IsUntouched}
use Rattle.yaml_emitter.specs.Queue.{is_head_ready}
use Rattle.yaml_emitter.specs.State.{State, is_at_stream}
use Rattle.yaml_emitter.specs.declared.engine.Engine.TheInside.{Inside}

-- the view of an engine
abbrev pub state_of : {A : Type 0} → Inside A → State
state_of e =
    record {
      events = e.history.events;
      given = e.machine.given;
      settings = e.machine.settings;
      started = e.started;
      has_output = e.has_output;
      opened = e.opened;
      closed = e.closed;
      held = seen_events e.queue.items;
      stage = e.machine.stage;
      open_ended = e.machine.open_ended;
      page = e.machine.page;
      error = e.machine.error;
    }

-- before an output is set nothing is written, begun or opened; the first waiting event isn't ready, so at most three wait, and
-- there is room for one more
pub record IsEngine {A : Type 0} (e : Inside A) : Type 0 where
  pub untouched : e.has_output ≡ false → IsUntouched e.machine.page
  pub begun : is_at_stream e.machine.stage ≡ false → e.has_output ≡ true
  pub opened : e.opened ≡ true → e.has_output ≡ true
  pub room : 4 ≤ vec_capacity e.queue
  pub waits : is_head_ready (seen_events e.queue.items) ≡ false
