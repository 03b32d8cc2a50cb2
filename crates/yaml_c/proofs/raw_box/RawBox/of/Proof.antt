-- A box's pointer is kept, with what the box owns.
use Rattle.std.proofs.Common.{[], ◌∷◌, refl, ap}
use Rattle.std.proofs.raw_atomic.Walks.{proved}
use base.Fraction.{full_share}
use base.Logic.{id⊢, emp}
use base.Fml.{flft, ftrue}
use contract.BorrowLft.{◌⊑◌}
use contract.Monad.{fact, fact_i}
use contract.Running.{tables}
use denote.Exit.{no}
use denote.Param.{arg, bounded, layout, param}
use denote.Param.Laws.{arg_laws, param_laws}
use denote.Param.NoDrop.{glues}
use denote.RattleType.{owns}
use denote.RawPtr.{Ptr, RawPtr}
use denote.Signature.{plain, types_at}
use denote.Steps.{heard, nothing, only}
use denote.Triple.Call.{calls_at}
use denote.Triple.Clauses.{Lasts, lasts}
use denote.Triple.Spec.{triple_of}
use denote.Triple.Table.{framed}
use denote.Triple.Walked.{Stays, stay_dropped, walk_of, says, ends_at}
use mir.MapTy.{inst_fn}
use mir.Raw.{raw as bare}
use mir.Syntax.{a_type, dcons, dnil, impl, tcons, tnil}
use types.ByLocal.{alloc_all, pass_all, free_all, lands_as, look_at, get, sets}
use types.Kit.{‵, raw, ◌⊛◌, some, later, ◌$◌, ◌∵◌, !, await, qed, done, drop, feq_l, fjoin, join, move, pick, split, suffices, use0, use1}
use types.Part.{agg}
use types.Run.{enter, no_more, and_then, of_opd, returns}
use Rattle.std.proofs.alloc.Calls.{Goes-blank}
use Rattle.yaml_c.specs.Handle.{block_token}
use Rattle.std.specs.Box.Ownership.{box_owns}
use Rattle.std.specs.contracts.alloc.Global as global
use Rattle.std.specs.contracts.boxed.Box as box
use Rattle.std.specs.contracts.boxed.Box.into_raw as callee
use Rattle.std.specs.contracts.impls.GlobalAllocator.TheImpl as heap
use Rattle.std.proofs.alloc.Global.TheLaws as global_laws
use Rattle.std.proofs.boxed.Box.TheLaws as box_laws
use Rattle.std.proofs.boxed.Box.into_raw.Met.{met}
use Rattle.std.proofs.impls.GlobalAllocator.TheImpl.Met as heap_met
use Rattle.yaml_c.specs.contracts.raw_box.RawBox as raw_box
use Rattle.yaml_c.specs.contracts.raw_box.RawBox.of as f
use Rattle.yaml_c.proofs.Destruct++none.drop.Code as none_code
use Rattle.yaml_c.proofs.Pointers.{pointer_in, pointer_val, pointer_fits, struct_fits}
use Rattle.yaml_c.proofs.raw_box.RawBox.of.Statement.{statement}
use Rattle.yaml_c.proofs.raw_box.RawBox.of.Code as code

pub of_spec : {M : Type 1} → statement M
unfolding none_code.code
of_spec {M = M} 𝓤 𝓛 𝓜 𝓡 wired T L d glue =
    let args = bounded (a_type ∷ []) (T, tt) (dcons d dnil) in
    let fn = inst_fn args code.function in
    let En = f.ended T d in
    let c = f.clauses T d 𝓛 𝓜.mem 𝓡.returns in
    let R = param 0 T in
    let LR = param_laws 0 T L in
    let B = box.the_row R global.the_row heap.ghosts in
    let lowered = box_laws.lowered R global.the_row heap.ghosts LR global_laws.the_row_laws global_laws.the_told in
    let LB = (box_laws.the_row_laws R global.the_row heap.ghosts LR global_laws.the_row_laws).lawful 𝓛 in
    let stayed : Stays En.signature.params En.kept = (stay_dropped (plain (λ _. B)) no, tt) in
    let W = walk_of 𝓛 En stayed c in
    let A = arg (bare (layout global.the_row)) no global.the_row in
    let LA = arg_laws (bare (layout global.the_row)) no global.the_row global_laws.the_row_laws refl in
    let none = impl ("yaml_c::Destruct++none::drop" ∷ []) (tcons (layout A) tnil) dnil in
    let Ended = callee.ended T A heap.ghosts heap.dict none d in
    let G = triple_of 𝓛 (callee.signature T A heap.ghosts heap.dict none d)
    (callee.spec T A heap.ghosts heap.dict none d 𝓛 𝓜.mem 𝓡.returns) in
    let knows = met 𝓤 𝓛 𝓜 𝓡 (code.calls-std_alloc::boxed::Box::into_raw 𝓡.env wired) T A L LA heap.ghosts heap.dict none d
    (heap_met.passed 𝓡.env (code.calls-std_heap::GlobalAllocator::allocate 𝓡.env wired) (code.calls-std_heap::GlobalAllocator::deallocate 𝓡.env wired)
    (code.calls-std_heap::GlobalAllocator::grow 𝓡.env wired) (code.calls-std_heap::GlobalAllocator::shrink 𝓡.env wired) M 𝓤 𝓛 𝓜 𝓡)
    (glues "yaml_c::Destruct++none::drop" 𝓡.env (code.calls-yaml_c::Destruct++none::drop 𝓡.env wired) A LA M 𝓤 𝓛 𝓜 𝓡) glue in
    proved 𝓛 En stayed c 𝓜 𝓡 (Goes-blank 𝓛 1 (plain (λ _. B)) no (λ κs x w. tt), tt) (f.Key.name args) fn
    (code.unfolded 𝓤 𝓛.H 𝓜 𝓡 wired (T, tt) d) (λ κs. ((λ v. lowered v ∷ []), tt))
    (λ κs. ((box_laws.lowers R global.the_row heap.ghosts LR global_laws.the_row_laws global_laws.the_told).val_is, tt)) (λ κs qs bounds a _ are.
    let v = a.0 in
    let w = lowered v in
    let fits = (LB.typed v (w ∷ []) are.0).0 in
    let y : W.Ghost = ((κs, qs, bounds, a, (w ∷ [], tt)), tt) in
    let z : G.Ghost = (((κs.0, ([], tt)), (qs.0, (full_share, tt)), tt, (v, tt), (w ∷ [], tt)), tt) in
    qed 𝓛 (((‵ (flft κs.0 qs.0) ⊛ ‵ ftrue) ⊛ ‵ (owns (types_at En.signature.params κs) a (w ∷ [], tt))) ∷ (raw (fact 𝓤 (κs.0 ⊑ T.lives)) ⊛ ‵ ftrue) ∷ []) ∵
    move ! (1 ∷ []) $ split ! $ heard ! _ (λ longer. drop ! $ split ! $ split ! $
    -- [the token; nothing; the box]
    enter ! _ _ _ _ _ $ alloc_all ! (λ l. pass_all ! refl (fits, tt) $ sets ! (of_opd ! (get ! refl)) refl fits $
    move ! (1 ∷ []) $ use0 𝓛 (‵ (flft [] full_share)) (𝓛.lfts.lft-nil full_share) $ join ! $ move ! (1 ∷ 0 ∷ []) $ join ! $ join ! $
    nothing ! $ use0 𝓛 (raw (fact 𝓤 ([] ⊑ (global.the_row).lives))) (fact_i 𝓤 ([] ⊑ (global.the_row).lives) (emp 𝓤) (global_laws.the_within [])) $ join ! $
    use0 𝓛 (raw (fact 𝓤 (κs.0 ⊑ T.lives))) (fact_i 𝓤 (κs.0 ⊑ T.lives) (emp 𝓤) longer) $ join ! $ move ! (1 ∷ 0 ∷ []) $ join ! $
    use1 𝓛 (raw (G.pre z)) (id⊢ 𝓤 _) $
    calls_at ! (framed 𝓤 𝓛.H 𝓜 (tables 𝓤 𝓛.H 𝓜 𝓡 𝓡.env)) G knows z (and_then ! (get ! refl) (no_more !)) (λ u.
    use1 𝓛 (later (some (λ (r : Ptr). ((‵ (flft κs.0 qs.0) ⊛ ‵ (flft [] full_share) ⊛ ‵ ftrue) ⊛ ‵ (RawPtr.own_val r (u ∷ []))) ⊛
    some (λ (ls : Lasts Ended z.0.0 z.0.3). ‵ (lasts Ended z.0.0 z.0.3 ls) ⊛ ‵ (box_owns block_token R r v.value))))) (id⊢ 𝓤 _) $
    await ! tt $ pick ! (λ r. split ! $ split ! $ move ! (1 ∷ []) $ feq_l ! (λ is. move ! (1 ∷ []) $ pick ! (λ ls. split ! $ drop ! $
    -- [the box; the tokens]
    lands_as ! (ap only is) refl (pointer_fits 𝓛 r) $ sets ! (agg ! (and_then ! (get ! refl) (no_more !))) refl (struct_fits 𝓛 r (raw_box.struct R).name) $
    returns ! (look_at ! 0 refl) $ free_all ! refl $
    suffices ! _ (ends_at 𝓛 En stayed c y (pointer_val r) (record { address = r; value = v.value }) (tt, tt) (tt, tt)) $ says ! refl $
    pointer_in ! (raw_box.struct R).name (raw_box.struct R).types r $ fjoin ! $ move ! (1 ∷ []) $ split ! $ move ! (1 ∷ []) $ drop ! $ nothing ! $
    move ! (1 ∷ 0 ∷ []) $ join ! $
    nothing ! $ nothing ! $ join ! $ move ! (1 ∷ 0 ∷ 2 ∷ []) $ done !)))))))
