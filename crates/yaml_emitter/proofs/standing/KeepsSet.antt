-- Calls that write keep all that the caller set.
use Rattle.yaml_emitter.proofs.Common.{Result, Err, Ok, Bool, List, refl, ◌≡◌, ap, ◌∙◌, Event, stream_start, Keeps, WritesPage, CutPage, unwritten}
use Rattle.yaml_emitter.proofs.Common.{partly_written, Processed, State, MachineState, machine_of, KeepsGiven, KeepsSet, Page}
use Rattle.yaml_base.specs.declared.errors.{yaml_error_t.yaml_error_t, yaml_error_t.TheVariants.Memory, yaml_error_t.TheVariants.WriteError}

pub keeps_given_same : (machine : MachineState) → KeepsGiven machine machine
keeps_given_same machine = record { given = refl; taken = refl }

pub keeps_given_then : (before middle after : MachineState) → KeepsGiven before middle → KeepsGiven middle after → KeepsGiven before after
keeps_given_then before middle after first second = record { given = second.given ∙ first.given; taken = second.taken ∙ first.taken }

-- writing keeps the number of taken bytes
written_keeps_taken : (event : Event) (empty : Bool) (before after : MachineState) → WritesPage event empty before after
    → after.page.taken ≡ before.page.taken
written_keeps_taken (stream_start encoding) empty before after writes = ap (λ (p : Page). p.taken) writes.1
written_keeps_taken event empty before after writes = writes.1.settings.taken

cut_keeps_taken : {error : yaml_error_t} {event : Event} {empty : Bool} {before after : MachineState} → CutPage error event empty before after
    → after.page.taken ≡ before.page.taken
cut_keeps_taken (unwritten memory same) = ap (λ (p : Page). p.taken) same
cut_keeps_taken (partly_written part) = part.wrote.settings.taken

by_keeping : (before after : MachineState) → Keeps before after → after.page.taken ≡ before.page.taken → KeepsGiven before after
by_keeping before after kept taken = record { given = ap (λ (m : MachineState). m.given) kept; taken = taken }

-- so does one event
pub processed_keeps_given : (event : Event) (empty : Bool) (before after : MachineState) (answer : Result (Unit {0}) yaml_error_t)
    → Processed event empty before after answer → KeepsGiven before after
processed_keeps_given event empty before after (Ok _) done = by_keeping before after done.kept (written_keeps_taken event empty before after done.page)
processed_keeps_given event empty before after (Err WriteError) done = by_keeping before after done.kept (cut_keeps_taken done.page)
processed_keeps_given event empty before after (Err Memory) done = by_keeping before after done.kept (cut_keeps_taken done.page)
processed_keeps_given event empty before after (Err error) done =
    record { given = ap (λ (m : MachineState). m.given) done.kept; taken = ap (λ (m : MachineState). m.page.taken) done.kept }

pub keeps_set_then : (before middle after : State) → KeepsSet before middle → KeepsSet middle after → KeepsSet before after
keeps_set_then before middle after first second =
    record {
      events = second.events ∙ first.events;
      given = second.given ∙ first.given;
      started = second.started ∙ first.started;
      has_output = second.has_output ∙ first.has_output;
      opened = second.opened ∙ first.opened;
      closed = second.closed ∙ first.closed;
      taken = second.taken ∙ first.taken;
    }

-- an emitter with the fields of a machine, if these events wait
abbrev pub with_machine : State → (held : List Event) → MachineState → State
with_machine before held machine =
    record before {
      held = held;
      given = machine.given;
      settings = machine.settings;
      stage = machine.stage;
      open_ended = machine.open_ended;
      page = machine.page;
      error = machine.error;
    }

-- it keeps all that the machine keeps, and its own fields
pub keeps_with_machine : (before : State) (held : List Event) (machine : MachineState) → KeepsGiven (machine_of before) machine
    → KeepsSet before (with_machine before held machine)
keeps_with_machine before held machine kept =
    record { events = refl; given = kept.given; started = refl; has_output = refl; opened = refl; closed = refl; taken = kept.taken }
