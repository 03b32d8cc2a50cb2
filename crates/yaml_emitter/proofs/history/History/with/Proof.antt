-- Neither parameter is read: the walk makes the empty struct and gives the longer list for its ghost field.
use Rattle.yaml_pen.proofs.Common.{[], ◌∷◌, ◌++◌, refl, alive, owns, ends_at, says, alloc_all, free_all, look_at, pass_all, sets, ! }
use Rattle.yaml_pen.proofs.Common.{move, done, qed, raw, suffices, ‵, ◌$◌, ◌∵◌, agg, enter, no_more, returns, Stays}
use Rattle.std.proofs.raw_atomic.Walks.{proved}
use base.Logic.{fst∗, via}
use denote.Exit.{yes}
use denote.Param.{param, layouts}
use denote.RattleType.{RattleType, Valss}
use denote.Ref.{shr_Tells, shr_vals}
use denote.Signature.{Slot, plain, types_at}
use denote.Triple.Walked.{Goes-none_ref, stay_none_ref}
use mir.MapTy.{inst_fn}
use mir.Syntax.{a_type, named}
use mir.Syntax as syntax
use types.Kit.{use0}
use Rattle.yaml_emitter.proofs.Histories.{history_of, stored_history, history_made}
use Rattle.yaml_emitter.specs.contracts.history.History as made
use Rattle.yaml_emitter.specs.contracts.history.History.with as contract
use Rattle.yaml_emitter.proofs.history.History.with.{Statement.statement}
use Rattle.yaml_emitter.proofs.history.History.with.Code as code

-- the types that the two references refer to
abbrev list : Slot 3
list = plain (λ _. made.the_row)

abbrev given_type : RattleType → Slot 3
given_type T = plain (λ _. param 0 T)

abbrev layout : RattleType → syntax.Args
layout T = layouts (a_type ∷ []) (T, tt)

-- what a shared reference asks that isn't read
abbrev unread : Unit {0} × Unit {0}
unread = (tt, tt)

abbrev stayed : (T : RattleType) → Stays (contract.ended T).signature.params (contract.ended T).kept
stayed T = (stay_none_ref (0 ∷ []) tt list yes, (stay_none_ref (1 ∷ []) tt (given_type T) yes, tt))

pub with_spec : {M : Type 1} → statement M
with_spec 𝓤 𝓛 𝓜 𝓡 wired T LT =
    let clauses = contract.clauses T 𝓛 𝓜.mem 𝓡.returns in
    let signature = (contract.ended T).signature in
    proved 𝓛 (contract.ended T) (stayed T) clauses 𝓜 𝓡
    (Goes-none_ref 𝓛 3 (0 ∷ []) tt list yes, (Goes-none_ref 𝓛 3 (1 ∷ []) tt (given_type T) yes, tt))
    (contract.Key.name (layout T)) (inst_fn (layout T) code.function) (code.unfolded 𝓤 𝓛.H 𝓜 𝓡 wired (T, tt))
    (λ κs. (shr_vals, (shr_vals, tt)))
    (λ κs. (shr_Tells (named 0) κs.0 made.the_row, (shr_Tells (named 1) κs.1.0 (param 0 T), tt)))
    (λ κs qs bounds given event are.
    let stored : Valss (types_at signature.params κs) = (shr_vals given.0, (shr_vals given.1.0, tt)) in
    let longer = given.0.now.events ++ event ∷ [] in
    -- (nothing is required)
    via 𝓤 _ (fst∗ 𝓤 _ ((clauses κs given).requires event))
    (qed 𝓛 (raw (alive 𝓛 signature κs qs) ∷ ‵ (owns (types_at signature.params κs) given stored) ∷ []) ∵ enter ! _ _ _ _ _ $
    alloc_all ! (λ local. pass_all ! refl (unread, (unread, tt)) $
    sets ! (agg ! (no_more !)) refl unread $ returns ! (look_at ! 0 refl) $ free_all ! refl $
    -- [the tokens; the parameters]
    suffices ! _ (ends_at 𝓛 (contract.ended T) (stayed T) clauses ((κs, qs, bounds, given, stored), event) stored_history (history_of longer)
    (tt, (tt, tt)) (tt, (tt, tt))) $
    says ! refl $ use0 𝓛 (‵ (made.the_row.own_val (history_of longer) (stored_history ∷ []))) (history_made 𝓛 longer) $
    move ! (1 ∷ 2 ∷ 0 ∷ []) $ done !)))
