-- Neither parameter is read: the walk makes the empty struct and gives the longer list for its ghost field.
use Rattle.yaml_pen.proofs.Common.{[], ◌∷◌, ◌++◌, refl, alive, owns, ends_at, says, alloc_all, free_all, look_at, pass_all, sets, ! }
use Rattle.yaml_pen.proofs.Common.{move, done, qed, raw, suffices, ‵, ◌$◌, ◌∵◌, agg, enter, no_more, returns, Stays}
use Rattle.std.proofs.raw_atomic.Walks.{proved}
use base.Fml.{ftrue}
use denote.Builtin.{u8}
use denote.Exit.{yes}
use denote.RattleType.{Valss}
use denote.Ref.{shr_Tells, shr_vals}
use denote.Signature.{Slot, plain, types_at}
use denote.Slice.{shr_slice_Tells, shr_slice_vals}
use denote.Triple.Walked.{Goes-none_ref, Goes-none_slice, stay_none_ref, stay_none_slice}
use mir.Syntax.{named}
use types.Kit.{drop, split, use0, ◌⊛◌}
use Rattle.yaml_pen.proofs.TakenLists.{list_of, stored_list, list_made}
use Rattle.yaml_pen.specs.contracts.taken.TakenBytes as made
use Rattle.yaml_pen.specs.contracts.taken.TakenBytes.with as contract
use Rattle.yaml_pen.proofs.taken.TakenBytes.with.{Statement.statement}
use Rattle.yaml_pen.proofs.taken.TakenBytes.with.Code as code

-- the types that the two references refer to
abbrev list : Slot 2
list = plain (λ _. made.the_row)

abbrev byte : Slot 2
byte = plain (λ _. u8)

abbrev stayed : Stays (contract.ended).signature.params (contract.ended).kept
stayed = (stay_none_ref (0 ∷ []) tt list yes, (stay_none_slice (1 ∷ []) tt byte yes, tt))

pub with_spec : {M : Type 1} → statement M
with_spec 𝓤 𝓛 𝓜 𝓡 wired =
    let clauses = contract.clauses 𝓛 𝓜.mem 𝓡.returns in
    proved 𝓛 contract.ended stayed clauses 𝓜 𝓡
    (Goes-none_ref 𝓛 2 (0 ∷ []) tt list yes, (Goes-none_slice 𝓛 2 (1 ∷ []) tt byte yes, tt))
    contract.Key.name code.function (code.unfolded 𝓤 𝓛.H 𝓜 𝓡 wired)
    (λ κs. (shr_vals, (shr_slice_vals, tt)))
    (λ κs. (shr_Tells (named 0) κs.0 made.the_row, (shr_slice_Tells (named 1) κs.1.0 u8, tt)))
    (λ κs qs bounds given g are.
    let stored : Valss (types_at contract.signature.params κs) = (shr_vals given.0, (shr_slice_vals given.1.0, tt)) in
    let longer = given.0.now.bytes ++ given.1.0.now in
    qed 𝓛 ((raw (alive 𝓛 contract.signature κs qs) ⊛ ‵ (owns (types_at contract.signature.params κs) given stored)) ∷ ‵ ftrue ∷ []) ∵
    move ! (1 ∷ []) $ drop ! $ enter ! _ _ _ _ _ $
    alloc_all ! (λ local. pass_all ! refl ((tt, tt), ((tt, (tt, (record { fits = are.1.0.0.1.0 }, tt))), tt)) $
    sets ! (agg ! (no_more !)) refl (tt, tt) $ returns ! (look_at ! 0 refl) $ free_all ! refl $ split ! $
    -- [the tokens; the parameters]
    suffices ! _ (ends_at 𝓛 contract.ended stayed clauses ((κs, qs, bounds, given, stored), g) stored_list (list_of longer) (tt, (tt, tt)) (tt, (tt, tt))) $
    says ! refl $ use0 𝓛 (‵ (made.the_row.own_val (list_of longer) (stored_list ∷ []))) (list_made 𝓛 longer) $ move ! (1 ∷ 2 ∷ 0 ∷ []) $ done !))
