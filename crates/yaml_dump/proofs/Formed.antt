-- Documents dumped in a form.
use Rattle.yaml_dump.proofs.Common.{◌==◌, Option, None, length, true, [], List, map, ◌∷◌, refl, ◌≡◌, false≢true, Event, arith, nat_tests}
use Rattle.yaml_dump.proofs.Common.{Graph, State, Result, OnOk, document_event_list}
use Rattle.std.specs.Prelude.{IsSome}
use Rattle.yaml_base.specs.declared.errors.yaml_error_t.{yaml_error_t}
use Rattle.yaml_pen.specs.Page.{result_of_error}
use Rattle.yaml_dump.proofs.Emissions.{keeps_dumping, opened_by}
use Rattle.yaml_dump.specs.{Dumps.DumpsEvents, TypedDumps.typed_event_list, declared.emitting.EventForm.EventForm}
use Rattle.yaml_dump.specs.EventForms.{event_in_form, DumpsFrom, DumpsInForm}
use Rattle.std.proofs.lemmas.List.{map-id}
use Rattle.yaml_dump.specs.declared.emitting.EventForm.TheVariants.{Same, Typed}

-- none are only of none
pub none_formed : (form : EventForm) (events : List Event) → map (event_in_form form) events ≡ [] → events ≡ []
none_formed form [] none = refl
none_formed form (event ∷ events) none = cc

-- the promises of a dump to its caller
pub record Told (error : Option yaml_error_t) (graph : Graph) (document : List Event) (before : State) (answer : Result (Unit {0}) yaml_error_t) (after : State)
    : Type 0 where
  pub failed : IsSome error → (after ≡ before) × (answer ≡ result_of_error error)
  pub dumps : error ≡ None → DumpsEvents (length graph.nodes == 0) document before answer after
  pub opened : OnOk answer (after.opened ≡ true)
  pub output : after.has_output ≡ before.has_output

told : (error : Option yaml_error_t) (graph : Graph) (document : List Event) (before after : State) (answer : Result (Unit {0}) yaml_error_t)
    → DumpsFrom error graph document before answer after → Told error graph document before answer after
told error graph document before after answer from = grind (arith, nat_tests, false≢true, opened_by, length, keeps_dumping)

-- of typed events, and of events as they are
pub typed_told : (graph : Graph) (before after : State) (answer : Result (Unit {0}) yaml_error_t) → DumpsInForm Typed graph before answer after
    → Told before.error graph (typed_event_list graph) before answer after
typed_told graph before after answer from = told before.error graph (typed_event_list graph) before after answer from

pub same_told : (graph : Graph) (before after : State) (answer : Result (Unit {0}) yaml_error_t) → DumpsInForm Same graph before answer after
    → Told before.error graph (document_event_list graph) before answer after
same_told graph before after answer from = grind (arith, nat_tests, told, document_event_list, map-id)
