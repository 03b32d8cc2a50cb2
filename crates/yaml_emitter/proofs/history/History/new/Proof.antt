-- No parameter is read: the walk makes the empty struct and gives the empty list for its ghost field.
use Rattle.yaml_pen.proofs.Common.{[], ◌∷◌, refl, alive, owns, ends_at, says, alloc_all, free_all, look_at, pass_all, sets, !, move}
use Rattle.yaml_pen.proofs.Common.{done, qed, raw, suffices, ‵, ◌$◌, ◌∵◌, agg, enter, no_more, returns}
use Rattle.std.proofs.raw_atomic.Walks.{proved}
use base.Fml.{ftrue}
use types.Kit.{drop, split, use0, ◌⊛◌}
use Rattle.yaml_emitter.proofs.Histories.{history_of, stored_history, history_made}
use Rattle.yaml_emitter.specs.contracts.history.History as made
use Rattle.yaml_emitter.specs.contracts.history.History.new as contract
use Rattle.yaml_emitter.proofs.history.History.new.{Statement.statement}
use Rattle.yaml_emitter.proofs.history.History.new.Code as code

pub new_spec : {M : Type 1} → statement M
new_spec 𝓤 𝓛 𝓜 𝓡 wired =
    let clauses = contract.clauses 𝓛 𝓜.mem 𝓡.returns in
    proved 𝓛 contract.ended tt clauses 𝓜 𝓡 tt contract.Key.name code.function (code.unfolded 𝓤 𝓛.H 𝓜 𝓡 wired)
    (λ κs. tt)
    (λ κs. tt)
    (λ κs qs bounds none g are.
    qed 𝓛 ((raw (alive 𝓛 contract.signature κs qs) ⊛ ‵ (owns [] tt tt)) ∷ ‵ ftrue ∷ []) ∵ move ! (1 ∷ []) $ drop ! $
    enter ! _ _ _ _ _ $ alloc_all ! (λ local. pass_all ! refl tt $
    sets ! (agg ! (no_more !)) refl (tt, tt) $ returns ! (look_at ! 0 refl) $ free_all ! refl $ split ! $
    -- [the tokens; the parameters, of which there are none]
    suffices ! _ (ends_at 𝓛 contract.ended tt clauses ((κs, qs, bounds, none, tt), g) stored_history (history_of []) tt tt) $ says ! refl $
    use0 𝓛 (‵ (made.the_row.own_val (history_of []) (stored_history ∷ []))) (history_made 𝓛 []) $ move ! (1 ∷ 2 ∷ 0 ∷ []) $ done !))
