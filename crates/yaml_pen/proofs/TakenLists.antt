-- A list of taken bytes is stored as the empty struct, whichever bytes it has.
use Rattle.yaml_pen.proofs.Common.{ℕ, List, [], ◌∷◌, refl, emp, ent, vnil, vstruct, pure_i, !, done, qed, ◌$◌, ◌∵◌, Logic, Ura}
use types.Logic.{sem}
use mir.Val.{Val}
use Rattle.yaml_pen.specs.declared.taken.TakenBytes.{TakenBytes}
use Rattle.yaml_pen.specs.contracts.taken.TakenBytes as made

abbrev pub list_of : List ℕ → TakenBytes
list_of bytes = record { bytes = bytes }

abbrev pub stored_list : Val
stored_list = vstruct vnil

-- it is made of nothing
pub list_made : {M : Type 1} {𝓤 : Ura M} (𝓛 : Logic 𝓤) (bytes : List ℕ) → ent 𝓤 (emp 𝓤) (sem 𝓛 (made.the_row.own_val (list_of bytes) (stored_list ∷ [])))
list_made 𝓛 bytes = qed 𝓛 [] ∵ pure_i ! (made.the_row.own_val (list_of bytes) (stored_list ∷ [])) ((λ vss. (tt, tt)), tt) ((tt, (refl, tt)), tt) $ done !
