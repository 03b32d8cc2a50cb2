-- A list of events is stored as the empty struct, whichever events it has.
use Rattle.yaml_pen.proofs.Common.{List, [], ◌∷◌, refl, emp, ent, vnil, vstruct, pure_i, !, done, qed, ◌$◌, ◌∵◌, Logic, Ura}
use types.Logic.{sem}
use mir.Val.{Val}
use Rattle.yaml_base.specs.Event.{Event}
use Rattle.yaml_emitter.specs.declared.history.History.{History}
use Rattle.yaml_emitter.specs.contracts.history.History as made

abbrev pub history_of : List Event → History
history_of events = record { events = events }

abbrev pub stored_history : Val
stored_history = vstruct vnil

-- it is made of nothing
pub history_made : {M : Type 1} {𝓤 : Ura M} (𝓛 : Logic 𝓤) (events : List Event)
    → ent 𝓤 (emp 𝓤) (sem 𝓛 (made.the_row.own_val (history_of events) (stored_history ∷ [])))
history_made 𝓛 events =
    qed 𝓛 [] ∵ pure_i ! (made.the_row.own_val (history_of events) (stored_history ∷ [])) ((λ vss. (tt, tt)), tt) ((tt, (refl, tt)), tt) $ done !
