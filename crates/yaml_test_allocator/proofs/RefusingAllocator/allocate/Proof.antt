-- The count is asked first: the answer is a refusal, or that of the inner allocator. Assumes `Logic`.
use Rattle.std.proofs.Common.{Bool, Err, Ok, [], ap, refl, true, w64, ◌∷◌, ◌≡◌}
use Rattle.std.proofs.alloc.Calls.{Al, Answer, Answer-Ok, Answer-err, Answer-typed, Answered, Takes, Takes-gives, Takes-goes, answer_val, answers, at_takes, seen, token}
use Rattle.std.proofs.raw_atomic.Walks.{leaves, proved}
use Rattle.std.specs.Allocator.{block_if_ok}
use Rattle.std.proofs.alloc.Shapes.{after}
use base.Fml.{flft, ftrue}
use base.Logic.{id⊢}
use contract.BorrowLft.{⊑_trans, ◌⊑◌}
use contract.Monad.{fact}
use contract.Running.{tables}
use denote.Builtin.{bool}
use denote.Exit.{yes}
use denote.Memory.{hidden_shr}
use denote.Plain.{uint_Tells}
use denote.RattleType.{owns}
use denote.RawPtr.{block_ptr}
use denote.Ref.{shr_vals}
use denote.Signature.{types_at}
use denote.Steps.{heard, nothing, only}
use denote.Triple.Call.{calls_at}
use denote.Triple.Clauses.{Ended, lasts}
use denote.Triple.Spec.{triple_of}
use denote.Triple.Table.{framed}
use denote.Triple.Walked.{Goes-dropped, Stays, stay_dropped, walk_of}
use mir.MapTy.{inst_fn}
use mir.Val.{Val, vptr}
use prog.Memory.{align, capped, size}
use types.ByLocal.{alloc_all, env, free_all, get, lands_as, look_at, pass_all, sets, through}
use types.Kit.{ !, Sq, at_ret, await, done, drop, feq_i, feq_l, fjoin, frame, fsplit, group, keep, later, move, pick, prop, qed, raw, some, split, split3}
use types.Kit.{suffices, use0, use1, use2, ‵, ◌$◌, ◌∵◌, ◌⊛◌}
use types.Part.{agg}
use types.Run.{addr, and_then, branches, enter, exec, first, fld, lit, no_more, returns, returns_within, skips, stop}
use Rattle.yaml_test_allocator.proofs.Parts.{Count, failure, failure_typed, Number, stored_number, number_typed, self, inner_place, count_place, parts, instance}
use Rattle.yaml_test_allocator.specs.contracts.is_refused as count
use Rattle.yaml_test_allocator.proofs.is_refused.Met as counted
use Rattle.yaml_test_allocator.specs.contracts.RefusingAllocator.allocate as method
use Rattle.yaml_test_allocator.proofs.RefusingAllocator.allocate.Statement.{statement}
use Rattle.yaml_test_allocator.proofs.RefusingAllocator.allocate.Code as code

module _ (Z : Al) where
  abbrev ended : Ended
  ended = method.ended Z.row Z.g Z.d Z.drops

  abbrev stayed : Stays ended.signature.params ended.kept
  stayed = (stay_dropped (self Z) yes, (stay_dropped Number yes, (stay_dropped Number yes, tt)))

pub allocate_spec : {M : Type 1} → statement M
allocate_spec 𝓤 𝓛 𝓜 𝓡 wired row laws ghosts dict drops met dropped =
    let Z : Al = record { row = row; laws = laws; g = ghosts; d = dict; drops = drops } in
    let clauses = method.clauses row ghosts dict drops 𝓛 𝓜.mem 𝓡.returns in
    let 𝓣 = tables 𝓤 𝓛.H 𝓜 𝓡 𝓡.env in
    let W = walk_of 𝓛 (ended Z) (stayed Z) clauses in
    let body = inst_fn (instance Z) code.function in
    let number = Goes-dropped 𝓛 2 Number yes (λ κs x f. refl) in
    let told = uint_Tells w64 in
    proved 𝓛 (ended Z) (stayed Z) clauses 𝓜 𝓡 (Goes-dropped 𝓛 2 (self Z) yes (λ κs x f. refl), (number, (number, tt)))
    (method.Key.name (instance Z)) body (code.unfolded 𝓤 𝓛.H 𝓜 𝓡 wired (row, tt) dict drops)
    (λ κs. (shr_vals, (stored_number, (stored_number, tt))))
    (λ κs. ((λ it words is. is.0), (told, (told, tt))))
    (λ κs qs bounds a τ are.
    let handle = a.0 in
    let h = handle.now.inner in
    let κ = κs.0 in
    let ρ = κs.1.0 in
    let bound : W.Ghost = ((κs, qs, bounds, a, (shr_vals handle, (stored_number a.1.0, (stored_number a.1.1.0, tt)))), τ) in
    let tokens = ‵ (flft κ qs.0) ⊛ ‵ (flft ρ qs.1.0) ⊛ ‵ ftrue in
    let Said : Type 0 = (capped (size τ) ≡ a.1.0) × (capped (align τ) ≡ a.1.1.0) in
    let place = count_place Z handle in
    let Asks = triple_of 𝓛 count.signature (count.spec 𝓛 𝓜.mem 𝓡.returns) in
    let asked : Asks.Ghost = (((κ, tt), (qs.0, tt), tt, (record { ref_ptr = place; now = record { value = tt } }, tt), (vptr place.0 place.1 ∷ [], tt)), tt) in
    let takes = at_takes Z 𝓛 𝓜.mem 𝓡.returns κ qs.0 (inner_place Z handle) h a.1.0 a.1.1.0 τ in
    let out : (v : Val) (res : Answer.Denot) → Sq 𝓛 (‵ (Answer.own_val res (v ∷ [])) ∷ ‵ (block_if_ok (token Z h) τ res) ∷ ‵ (flft κ qs.0) ∷ ‵ (flft ρ qs.1.0) ∷ [])
    (prop (W.post bound v)) = λ v res.
    suffices ! _ (leaves 𝓛 (ended Z) (stayed Z) clauses bound v res (tt, (tt, (tt, tt))) (tt, (tt, (tt, tt)))) $
    nothing ! $ move ! (3 ∷ 4 ∷ 0 ∷ []) $ group ! 3 $ frame ! $
    nothing ! $ nothing ! $ fjoin ! $ nothing ! $ fjoin ! $ nothing ! $ fjoin ! $ done ! in
    let fails : Sq 𝓛 (‵ (flft κ qs.0) ∷ ‵ (flft ρ qs.1.0) ∷ []) (prop (W.post bound failure)) =
    nothing ! $ use0 𝓛 (‵ (Answer.own_val (Err (record {})) (failure ∷ []))) (Answer-err 𝓛) $ out failure (Err (record {})) in
    qed 𝓛 ((tokens ⊛ ‵ (owns (types_at (ended Z).signature.params κs) a bound.0.4)) ∷ (raw (fact 𝓤 (ρ ⊑ row.lives)) ⊛ raw (fact 𝓤 Said)) ∷ []) ∵
    split ! $ move ! (1 ∷ []) $ fsplit ! $ use1 𝓛 (‵ (seen Z κ (inner_place Z handle) h) ⊛ ‵ (hidden_shr Count κ (record { value = tt }) place.0 place.1))
    (parts Z handle 𝓛 κ ρ) $ split ! $ move ! (4 ∷ 3 ∷ []) $ split ! $
    heard ! _ (λ within. heard ! _ (λ said. split3 ! $
    -- [the token of κ; that of ρ; nothing; the inner allocator; the count; the other parameters]
    keep ! (0 ∷ 2 ∷ 4 ∷ 1 ∷ 3 ∷ []) $ group ! 2 $ move ! (1 ∷ []) $ feq_i ! _ (vptr place.0 place.1 ∷ []) _ refl $
    group ! 2 $ nothing ! $ move ! (2 ∷ 1 ∷ 0 ∷ []) $ group ! 3 $ nothing ! $ move ! (1 ∷ 0 ∷ []) $ use2 𝓛 (raw (Asks.pre asked)) (id⊢ 𝓤 _) $
    enter ! _ _ _ _ _ $
    alloc_all ! (λ local. pass_all ! refl ((tt, tt), (number_typed a.1.0 are.1.0.1, (number_typed a.1.1.0 are.1.1.0.1, tt))) $
    sets ! (addr ! (through ! refl (fld ! refl (stop !)))) refl (tt, tt) $
    calls_at ! (framed 𝓤 𝓛.H 𝓜 𝓣) Asks (counted.met 𝓤 𝓛 𝓜 𝓡 (code.calls-yaml_test_allocator::is_refused 𝓡.env wired)) asked
    (and_then ! (get ! refl) (no_more !)) (λ answer.
    use1 𝓛 (later (some (λ (refused : Bool). ((‵ (flft κ qs.0) ⊛ ‵ ftrue) ⊛ ‵ (bool.own_val refused (answer ∷ []))) ⊛
    some (λ (ws : Unit {0} × Unit {0}). ‵ (lasts count.ended (κ, tt) asked.0.3 ws) ⊛ ‵ ftrue)))) (id⊢ 𝓤 _) $
    await ! tt $ pick ! (λ refused. split ! $ split ! $ split ! $ move ! (2 ∷ []) $ feq_l ! (λ told_so. move ! (1 ∷ 2 ∷ []) $ drop ! $ drop ! $
    -- [the token of κ; that of ρ; the inner allocator; the locals]
    lands_as ! (ap only told_so) refl (tt, tt) $ first ! $ branches ! (get ! refl)
    (λ yes. sets ! (agg ! (no_more !)) refl (tt, tt) $ move ! (2 ∷ []) $ drop ! $
    sets ! (agg ! (and_then ! (lit ! tt) (and_then ! (get ! refl) (no_more !)))) refl (failure_typed) $
    returns_within ! (W.post bound) refl (look_at ! 0 refl) $ free_all ! refl $ fails)
    (λ no. skips ! $ exec ! 𝓣.C 𝓣.Λ (env body.locals local) (after 3 body.body) (at_ret (env body.locals local) (W.post bound)) $
    sets ! (addr ! (through ! refl (fld ! refl (stop !)))) refl (tt, tt) $ move ! (2 ∷ 0 ∷ []) $
    use2 𝓛 (raw ((Takes Z 𝓛 𝓜.mem 𝓡.returns).pre takes))
    (Takes-goes Z 𝓛 𝓜.mem 𝓡.returns κ qs.0 (inner_place Z handle) h (⊑_trans κ ρ row.lives bounds.0 within) a.1.0 a.1.1.0 τ said.0 said.1 are.1.0.1 are.1.1.0.1) $
    calls_at ! (framed 𝓤 𝓛.H 𝓜 𝓣) (Takes Z 𝓛 𝓜.mem 𝓡.returns) (met.allocate drops) takes
    (and_then ! (get ! refl) (and_then ! (get ! refl) (and_then ! (get ! refl) (no_more !)))) (λ reply.
    use1 𝓛 (later (raw (Answered Z 𝓛 𝓜.mem 𝓡.returns h τ reply) ⊛ ‵ (flft κ qs.0)))
    (Takes-gives Z 𝓛 𝓜.mem 𝓡.returns κ qs.0 (inner_place Z handle) h a.1.0 a.1.1.0 τ reply) $
    await ! tt $ split ! $ answers Z ! 𝓜.mem 𝓡.returns h τ reply
    (λ b o is. lands_as ! is refl (Answer-typed true b o) $ returns ! (look_at ! 0 refl) $ free_all ! refl $ fjoin ! $
    use0 𝓛 (‵ (Answer.own_val (Ok (block_ptr b o)) (answer_val true b o ∷ []))) (Answer-Ok 𝓛 b o) $ out (answer_val true b o) (Ok (block_ptr b o)))
    (λ is. lands_as ! is refl (failure_typed) $ returns ! (look_at ! 0 refl) $ free_all ! refl $ fails))))))))))
