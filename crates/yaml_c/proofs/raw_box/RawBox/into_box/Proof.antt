-- A box is made of a pointer again.
use Rattle.std.proofs.Common.{◌≡◌, List, [], ◌∷◌, refl}
use Rattle.std.proofs.raw_atomic.Walks.{proved}
use base.Fraction.{full_share}
use base.Logic.{id⊢, emp}
use base.Fml.{flft, ftrue}
use contract.BorrowLft.{◌⊑◌}
use contract.Monad.{fact, fact_i}
use contract.Running.{tables}
use denote.Exit.{no, yes}
use denote.Laws.{Is, shows}
use denote.Param.{arg, bounded, layout, param}
use denote.Param.Laws.{arg_laws, param_laws}
use denote.Param.NoDrop.{glues}
use denote.RattleType.{Valss, owns}
use denote.RawPtr.{ptr_val}
use denote.Signature.{plain, types_at}
use denote.Steps.{heard, nothing, peeks}
use denote.Triple.Call.{calls_at_last}
use denote.Triple.Clauses.{Lasts, lasts}
use denote.Triple.Spec.{triple_of}
use denote.Triple.Table.{framed}
use denote.Triple.Walked.{Stays, stay_dropped, Goes-dropped, walk_of, says, ends_at}
use mir.MapTy.{inst_fn}
use mir.Raw.{raw as bare}
use mir.Val.{Val}
use mir.Syntax.{a_type, dcons, dnil, impl, tcons, tnil}
use types.ByLocal.{alloc_all, pass_all, free_all, lands_last, look_at, get, get_in, sets, env}
use types.Kit.{at_ret, feq_i, fsplit, ‵, raw, ◌⊛◌, some, later, ◌$◌, ◌∵◌, !, await, qed, done, drop, fjoin, join, move, pick, split, suffices, use0, use1}
use types.Part.{sub, whole}
use types.Run.{blocks, enter, exec, first, fld, no_more, and_then, of_opd, returns, stop}
use Rattle.std.proofs.alloc.Calls.{Goes-blank}
use Rattle.std.proofs.VecSteps.Shapes.{after}
use Rattle.std.specs.contracts.alloc.Global as global
use Rattle.std.specs.contracts.boxed.Box as box
use Rattle.std.specs.contracts.boxed.Box.from_raw as callee
use Rattle.std.specs.contracts.impls.GlobalAllocator.TheImpl as heap
use Rattle.std.proofs.alloc.Global.TheLaws as global_laws
use Rattle.std.proofs.boxed.Box.TheLaws as box_laws
use Rattle.std.proofs.boxed.Box.from_raw.Met.{met}
use Rattle.std.proofs.impls.GlobalAllocator.TheImpl.Met as heap_met
use Rattle.yaml_c.specs.contracts.raw_box.RawBox as raw_box
use Rattle.yaml_c.specs.contracts.raw_box.RawBox.into_box as f
use Rattle.yaml_c.proofs.Destruct++none.drop.Code as none_code
use Rattle.yaml_c.proofs.raw_box.RawBox.TheLaws as raw_box_laws
use Rattle.yaml_c.proofs.Pointers.{pointer_val, pointer_fits, struct_fits}
use Rattle.yaml_c.proofs.raw_box.RawBox.into_box.Statement.{statement}
use Rattle.yaml_c.proofs.raw_box.RawBox.into_box.Code as code

pub into_box_spec : {M : Type 1} → statement M
unfolding none_code.code
into_box_spec {M = M} 𝓤 𝓛 𝓜 𝓡 wired T L d glue =
    let 𝓣 = tables 𝓤 𝓛.H 𝓜 𝓡 𝓡.env in
    let args = bounded (a_type ∷ []) (T, tt) (dcons d dnil) in
    let fn = inst_fn args code.function in
    let En = f.ended T d in
    let c = f.clauses T d 𝓛 𝓜.mem 𝓡.returns in
    let R = param 0 T in
    let LR = param_laws 0 T L in
    let B = box.the_row R global.the_row heap.ghosts in
    let LB = (box_laws.the_row_laws R global.the_row heap.ghosts LR global_laws.the_row_laws).lawful 𝓛 in
    let stayed : Stays En.signature.params En.kept = (stay_dropped (plain (λ _. raw_box.the_row R)) no, (stay_dropped (plain (λ _. global.the_row)) yes, tt)) in
    let W = walk_of 𝓛 En stayed c in
    let A = arg (bare (layout global.the_row)) no global.the_row in
    let LA = arg_laws (bare (layout global.the_row)) no global.the_row global_laws.the_row_laws refl in
    let none = impl ("yaml_c::Destruct++none::drop" ∷ []) (tcons (layout A) tnil) dnil in
    let Ended = callee.ended T A heap.ghosts heap.dict none in
    let G = triple_of 𝓛 (callee.signature T A heap.ghosts heap.dict none) (callee.spec T A heap.ghosts heap.dict none 𝓛 𝓜.mem 𝓡.returns) in
    let knows = met 𝓤 𝓛 𝓜 𝓡 (code.calls-std_alloc::boxed::Box::from_raw 𝓡.env wired) T A L LA heap.ghosts heap.dict none
    (heap_met.passed 𝓡.env (code.calls-std_heap::GlobalAllocator::allocate 𝓡.env wired) (code.calls-std_heap::GlobalAllocator::deallocate 𝓡.env wired)
    (code.calls-std_heap::GlobalAllocator::grow 𝓡.env wired) (code.calls-std_heap::GlobalAllocator::shrink 𝓡.env wired) M 𝓤 𝓛 𝓜 𝓡)
    (glues "yaml_c::Destruct++none::drop" 𝓡.env (code.calls-yaml_c::Destruct++none::drop 𝓡.env wired) A LA M 𝓤 𝓛 𝓜 𝓡) in
    proved 𝓛 En stayed c 𝓜 𝓡 (
      Goes-blank 𝓛 1 (plain (λ _. raw_box.the_row R)) no (λ κs x w. tt),
      (Goes-dropped 𝓛 1 (plain (λ _. global.the_row)) yes (λ κs x w. refl), tt),
    )
    (f.Key.name args) fn (code.unfolded 𝓤 𝓛.H 𝓜 𝓡 wired (T, tt) d)
    (λ κs. ((λ v. pointer_val v.address ∷ []), ((λ v. global_laws.lowered v ∷ []), tt)))
    (λ κs. ((raw_box_laws.lowers R LR).val_is, (global_laws.lowers.val_is, tt))) (λ κs qs bounds a _ are.
    let v = a.0 in
    let at = v.address in
    let h = global_laws.lowered a.1.0 in
    let fits = ((global_laws.the_row_laws.lawful 𝓛).typed a.1.0 (h ∷ []) are.1.0).0 in
    let vss : Valss (types_at En.signature.params κs) = (pointer_val at ∷ [], (h ∷ [], tt)) in
    let y : W.Ghost = ((κs, qs, bounds, a, vss), tt) in
    let z : G.Ghost = (((κs.0, ([], tt)), (qs.0, (full_share, tt)), tt, (a.1.0, (at, tt)), (h ∷ [], (ptr_val at ∷ [], tt))), v.value) in
    qed 𝓛 (((‵ (flft κs.0 qs.0) ⊛ ‵ ftrue) ⊛ ‵ (owns (types_at En.signature.params κs) a vss)) ∷ (raw (fact 𝓤 (κs.0 ⊑ T.lives)) ⊛ ‵ ftrue) ∷ []) ∵
    move ! (1 ∷ []) $ split ! $ heard ! _ (λ longer. drop ! $ split ! $ split ! $ move ! (2 ∷ []) $ fsplit ! $ fsplit ! $ drop ! $ move ! (1 ∷ []) $ fsplit ! $
    -- [the allocator; nothing; the box; the token; nothing]
    enter ! _ _ _ _ _ $ alloc_all ! (λ l. pass_all ! refl (struct_fits 𝓛 at (raw_box.struct R).name, (fits, tt)) $
    sets ! (of_opd ! (get_in ! (fld ! refl (stop !)) (sub ! 0 refl (whole !)))) refl (pointer_fits 𝓛 at) $
    -- what the call is given
    move ! (1 ∷ []) $ feq_i ! (List Val) (ptr_val at ∷ []) (ptr_val at ∷ []) refl $ fjoin ! $ move ! (1 ∷ 0 ∷ []) $ fjoin ! $
    move ! (3 ∷ []) $ use0 𝓛 (‵ (flft [] full_share)) (𝓛.lfts.lft-nil full_share) $ join ! $ move ! (3 ∷ 0 ∷ []) $ join ! $ join ! $ move ! (1 ∷ []) $
    use0 𝓛 (raw (fact 𝓤 ([] ⊑ (global.the_row).lives))) (fact_i 𝓤 ([] ⊑ (global.the_row).lives) (emp 𝓤) (global_laws.the_within [])) $ join ! $
    use0 𝓛 (raw (fact 𝓤 (κs.0 ⊑ T.lives))) (fact_i 𝓤 (κs.0 ⊑ T.lives) (emp 𝓤) longer) $ join ! $ move ! (1 ∷ 0 ∷ []) $ join ! $
    use1 𝓛 (raw (G.pre z)) (id⊢ 𝓤 _) $ first ! $ blocks ! $
    calls_at_last ! (framed 𝓤 𝓛.H 𝓜 𝓣) G knows z (and_then ! (get ! refl) (and_then ! (get ! refl) (no_more !))) (λ u.
    use1 𝓛 (later (some (λ (r : B.Denot). ((‵ (flft κs.0 qs.0) ⊛ ‵ (flft [] full_share) ⊛ ‵ ftrue) ⊛ ‵ (B.own_val r (u ∷ []))) ⊛
    some (λ (ls : Lasts Ended z.0.0 z.0.3). ‵ (lasts Ended z.0.0 z.0.3 ls) ⊛ (raw (fact 𝓤 (r.value ≡ v.value)) ⊛ raw (fact 𝓤 (r.alloc ≡ a.1.0))))))) (id⊢ 𝓤 _) $
    await ! tt $ pick ! (λ r. split ! $ split ! $ move ! (2 ∷ []) $ pick ! (λ ls. split ! $ drop ! $ split ! $ heard ! _ (λ same. drop ! $ move ! (1 ∷ []) $
    -- [the box; the tokens]
    peeks ! B (Is B) (shows 𝓛 B) r (u ∷ []) (λ is. let good = (LB.typed r (u ∷ []) is).0 in
    lands_last ! refl good $ exec ! 𝓣.C 𝓣.Λ (env fn.locals l) (after 2 fn.body) (at_ret (env fn.locals l) (W.post y)) $
    sets ! (of_opd ! (get ! refl)) refl good $ returns ! (look_at ! 0 refl) $ free_all ! refl $
    suffices ! _ (ends_at 𝓛 En stayed c y u r (tt, (tt, tt)) (tt, (tt, tt))) $ says ! same $
    move ! (1 ∷ []) $ split ! $ move ! (1 ∷ []) $ drop ! $ nothing ! $ move ! (1 ∷ 0 ∷ []) $ join ! $
    nothing ! $ nothing ! $ join ! $ nothing ! $ join ! $ move ! (1 ∷ 0 ∷ 2 ∷ []) $ done !))))))))
