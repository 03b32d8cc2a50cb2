-- The view of an emitter in contracts.
use Rattle.std.specs.Prelude.{◌≡◌, ℕ, Bool, true, false, not, ◌||◌, is_some, Option, None, List, [], take}
use Rattle.yaml_base.specs.Settings.{largest_usize, Settings, Effective, effective, nothing_given}
use Rattle.yaml_base.specs.Event.{Event}
use Rattle.yaml_base.specs.Layout.{Standing}
use Rattle.yaml_base.specs.Steps.{Stage, at_stream}
use Rattle.yaml_base.specs.declared.errors.yaml_error_t.{yaml_error_t}
use Rattle.yaml_pen.specs.Page.{Page, new_page, all_taken, IsUntouched, IsReady}

-- An element of the list of what an emitter was given.
abbrev pub GivenEvent : Type 0
GivenEvent = Event

-- the events that were given; the settings as given, and in effect from the stream's start on; whether an event was given, an output
-- set, the stream opened and closed; the waiting events; the next stage; the open-ended state; the text so far, its cursor, the flushed
-- bytes and how many of them were taken; the first error
pub record State : Type 0 where
  pub events : List GivenEvent
  pub given : Settings
  pub settings : Effective
  pub started : Bool
  pub has_output : Bool
  pub opened : Bool
  pub closed : Bool
  pub held : List Event
  pub stage : Stage
  pub open_ended : ℕ
  pub page : Page
  pub error : Option yaml_error_t

-- the view of the machine that writes an emitter's events: the settings as given, and in effect from the stream's start on; the next
-- stage; the open-ended state; the text so far, its cursor and the flushed bytes; the first error
pub record MachineState : Type 0 where
  pub given : Settings
  pub settings : Effective
  pub stage : Stage
  pub open_ended : ℕ
  pub page : Page
  pub error : Option yaml_error_t

-- the machine of an emitter
abbrev pub machine_of : State → MachineState
machine_of state =
    record {
      given = state.given;
      settings = state.settings;
      stage = state.stage;
      open_ended = state.open_ended;
      page = state.page;
      error = state.error;
    }

-- a new machine
abbrev pub new_machine : MachineState
new_machine =
    record {
      given = nothing_given;
      settings = effective nothing_given None;
      stage = at_stream;
      open_ended = 0;
      page = new_page largest_usize;
      error = None;
    }

-- a new emitter
abbrev pub new_state : State
new_state =
    record {
      events = [];
      given = nothing_given;
      settings = effective nothing_given None;
      started = false;
      has_output = false;
      opened = false;
      closed = false;
      held = [];
      stage = at_stream;
      open_ended = 0;
      page = new_page largest_usize;
      error = None;
    }

-- a new emitter with these settings and an output, as the setters called one by one make it
abbrev pub new_state_with : Settings → State
new_state_with given =
    record new_state {
      given = given;
      settings = record new_state.settings { canonical = given.canonical };
      has_output = true;
      page = new_page given.limit;
    }

-- the cursor and the open-ended state
abbrev pub standing_of : MachineState → Standing
standing_of machine = record { cursor = machine.page.cursor; open_ended = machine.open_ended }

-- a page isn't begun before the stream's start, and is begun with it
abbrev pub FitsPage : Stage → Page → Type 0
FitsPage at_stream page = IsUntouched page × (page.bom_due ≡ false) × (page.output ≡ [])
FitsPage _ page = IsReady page

-- the emitter with all its output taken
abbrev pub with_all_taken : State → State
with_all_taken state = record state { page = all_taken state.page }

-- the bytes of the output that were taken
abbrev pub bytes_taken : State → List ℕ
bytes_taken state = take state.page.taken state.page.output

-- true if the stream has not begun
abbrev pub is_at_stream : Stage → Bool
is_at_stream at_stream = true
is_at_stream _ = false

-- true if the encoding was set, or the stream has begun
abbrev pub knows_encoding : State → Bool
knows_encoding state = is_some state.given.encoding || not (is_at_stream state.stage)

-- the settings stay, and the number of output bytes that were taken
pub record KeepsGiven (before after : MachineState) : Type 0 where
  pub given : after.given ≡ before.given
  pub taken : after.page.taken ≡ before.page.taken

-- all that the caller gave and set stays: the events, the settings, the output, the number of its bytes that were taken, and whether
-- the stream was begun, opened and closed
pub record KeepsSet (before after : State) : Type 0 where
  pub events : after.events ≡ before.events
  pub given : after.given ≡ before.given
  pub started : after.started ≡ before.started
  pub has_output : after.has_output ≡ before.has_output
  pub opened : after.opened ≡ before.opened
  pub closed : after.closed ≡ before.closed
  pub taken : after.page.taken ≡ before.page.taken
