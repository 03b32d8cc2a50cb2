use Rattle.yaml_c.proofs.Common.{Option, None, Some, false, ◌≡◌, refl, option_map}
use Rattle.std.specs.Prelude.{Result, Ok, Err, IfErr}
use Rattle.yaml_base.specs.Event.{Event, alias, document_start, mapping_start, sequence_start}
use Rattle.yaml_c.specs.Arena.{is_on, text_in_arena}
use Rattle.yaml_c.specs.EventRecords.{collection_recorded, directives_at, version_recorded}
use Rattle.yaml_c.specs.Giving.{is_read_scalar}
use Rattle.yaml_c.proofs.records.event_of.Goals as goal

-- Memory may run out if no scalar is read.
no_scalar : {T E X : Type 0} (made : Result T E) (event : X → Event) → ((x : X) → is_read_scalar (Some (event x)) ≡ false) → (read : Option X)
    → IfErr made (λ error. is_read_scalar (option_map event read) ≡ false)
no_scalar (Ok made) event other read = tt
no_scalar (Err error) event other None = refl
no_scalar (Err error) event other (Some x) = other x

pub returns-in-1-clause-read : goal.returns-in-1-clause-read
returns-in-1-clause-read g c = rw c.in-1.is c.stream_start_of.ensures

pub returns-in-3-clause-read : goal.returns-in-3-clause-read
returns-in-3-clause-read g c = rw c.in-3.is c.document_start_of.ensures

pub returns-in-3-clause-no_room : goal.returns-in-3-clause-no_room
returns-in-3-clause-no_room g c =
    let event = c.args.event.now in
    rw c.in-3.is
    (no_scalar c.document_start_of.result
    (λ all. document_start (record { version = version_recorded event; directives = all; implicit = is_on event.implicit })) (λ all. refl)
    (directives_at c.args.arena.now c.args.directives.now event.directives))

pub returns-in-5-clause-read : goal.returns-in-5-clause-read
returns-in-5-clause-read g c = rw c.in-5.is c.alias_of.ensures

pub returns-in-5-clause-no_room : goal.returns-in-5-clause-no_room
returns-in-5-clause-no_room g c =
    rw c.in-5.is (no_scalar c.alias_of.result alias (λ name. refl) (text_in_arena c.args.arena.now c.args.event.now.anchor))

pub returns-in-6-clause-read : goal.returns-in-6-clause-read
returns-in-6-clause-read g c = rw c.in-6.is c.scalar_of.ensures

pub returns-in-7-clause-read : goal.returns-in-7-clause-read
returns-in-7-clause-read g c = rw c.in-7.is c.sequence_of.ensures

pub returns-in-7-clause-no_room : goal.returns-in-7-clause-no_room
returns-in-7-clause-no_room g c =
    rw c.in-7.is (no_scalar c.sequence_of.result sequence_start (λ start. refl) (collection_recorded c.args.arena.now c.args.event.now))

pub returns-in-9-clause-read : goal.returns-in-9-clause-read
returns-in-9-clause-read g c = rw c.in-9.is c.mapping_of.ensures

pub returns-in-9-clause-no_room : goal.returns-in-9-clause-no_room
returns-in-9-clause-no_room g c =
    rw c.in-9.is (no_scalar c.mapping_of.result mapping_start (λ start. refl) (collection_recorded c.args.arena.now c.args.event.now))
