-- The block goes to the inner allocator, and the count stays as it is. Assumes `Logic`.
use Rattle.std.proofs.Common.{◌≡◌, ◌∷◌, [], refl, w64}
use Rattle.std.proofs.alloc.Calls.{Al, Gives, Gives-Gives, Gives-goes, at_gives, seen, token}
use Rattle.std.proofs.raw_atomic.Walks.{leaves, proved}
use base.Fml.{flft, fsep, ftrue}
use base.Logic.{fst∗, never}
use contract.BorrowLft.{⊑_trans, ◌⊑◌}
use contract.Monad.{fact}
use contract.Running.{tables}
use denote.Builtin.{RawPtr}
use denote.Exit.{yes}
use denote.Memory.{hidden_shr}
use denote.Plain.{uint_Tells}
use denote.RattleType.{flat, owns}
use denote.RawPtr.{Ptr, block_ptr, in_a_block, null_ptr, rawptr_Tells, rawptr_vals, room_for}
use denote.Ref.{shr_vals}
use denote.Signature.{Slot, plain, types_at}
use denote.Steps.{heard}
use denote.Triple.Call.{calls_at}
use denote.Triple.Clauses.{Ended}
use denote.Triple.Table.{framed}
use denote.Triple.Walked.{Goes-dropped, Stays, stay_dropped, walk_of}
use mir.MapTy.{inst_fn}
use mir.Val.{vunit}
use prog.Memory.{align, capped, size}
use prog.Wp.{WpFn}
use types.ByLocal.{alloc_all, free_all, get, lands_as, look_at, pass_all, sets, through}
use types.Kit.{ !, await, by, frame, keep, fsplit, given, group, later, learn, move, prop, qed, raw, regoal, split, split3, suffices, use1, ‵, ◌$◌, ◌∵◌, ◌⊛◌}
use types.Logic.{sem}
use types.Run.{addr, enter, fld, of_opd, returns, stop, unit_lit}
use Rattle.yaml_test_allocator.proofs.Parts.{Count, four_values, Number, stored_number, number_typed, returns_unit, self, inner_place, count_place, parts, instance}
use Rattle.yaml_test_allocator.specs.contracts.RefusingAllocator.deallocate as method
use Rattle.yaml_test_allocator.proofs.RefusingAllocator.deallocate.Statement.{statement}
use Rattle.yaml_test_allocator.proofs.RefusingAllocator.deallocate.Code as code

abbrev Address : Slot 2
Address = plain (λ _. RawPtr)

module _ (Z : Al) where
  abbrev ended : Ended
  ended = method.ended Z.row Z.g Z.d Z.drops

  abbrev stayed : Stays ended.signature.params ended.kept
  stayed = (stay_dropped (self Z) yes, (stay_dropped Address yes, (stay_dropped Number yes, (stay_dropped Number yes, tt))))

pub deallocate_spec : {M : Type 1} → statement M
deallocate_spec 𝓤 𝓛 𝓜 𝓡 wired row laws ghosts dict drops met dropped =
    let Z : Al = record { row = row; laws = laws; g = ghosts; d = dict; drops = drops } in
    let clauses = method.clauses row ghosts dict drops 𝓛 𝓜.mem 𝓡.returns in
    let 𝓣 = tables 𝓤 𝓛.H 𝓜 𝓡 𝓡.env in
    let W = walk_of 𝓛 (ended Z) (stayed Z) clauses in
    let body = inst_fn (instance Z) code.function in
    let number = Goes-dropped 𝓛 2 Number yes (λ κs x f. refl) in
    let told = uint_Tells w64 in
    proved 𝓛 (ended Z) (stayed Z) clauses 𝓜 𝓡
    (Goes-dropped 𝓛 2 (self Z) yes (λ κs x f. refl), (Goes-dropped 𝓛 2 Address yes (λ κs x f. refl), (number, (number, tt))))
    (method.Key.name (instance Z)) body (code.unfolded 𝓤 𝓛.H 𝓜 𝓡 wired (row, tt) dict drops)
    (λ κs. (shr_vals, (rawptr_vals, (stored_number, (stored_number, tt)))))
    (λ κs. ((λ it words is. is.0), (rawptr_Tells, (told, (told, tt)))))
    (λ κs qs bounds a τ are.
    let handle = a.0 in
    let h = handle.now.inner in
    let κ = κs.0 in
    let ρ = κs.1.0 in
    let bound : Ptr → W.Ghost = λ p.
    ((κs, qs, bounds, (handle, (p, a.1.1)), (shr_vals handle, (rawptr_vals p, (stored_number a.1.1.0, (stored_number a.1.1.1.0, tt))))), τ) in
    let tokens = ‵ (flft κ qs.0) ⊛ ‵ (flft ρ qs.1.0) ⊛ ‵ ftrue in
    let Said : Type 0 = (capped (size τ) ≡ a.1.1.0) × (capped (align τ) ≡ a.1.1.1.0) in
    qed 𝓛 ((tokens ⊛ ‵ (owns (types_at (ended Z).signature.params κs) a (bound a.1.0).0.4)) ∷
    (raw (fact 𝓤 (ρ ⊑ row.lives)) ⊛ raw (fact 𝓤 Said) ⊛ ‵ (fsep (room_for τ a.1.0) (token Z h τ a.1.0))) ∷ []) ∵
    split ! $ move ! (1 ∷ []) $ fsplit ! $ use1 𝓛 (‵ (seen Z κ (inner_place Z handle) h) ⊛ ‵ (hidden_shr Count κ (record { value = tt }) (count_place Z handle).0 (count_place Z handle).1))
    (parts Z handle 𝓛 κ ρ) $ split ! $ move ! (4 ∷ 3 ∷ []) $ split3 ! $
    heard ! _ (λ within. heard ! _ (λ said.
    in_a_block ! a.1.0 (λ p. fsep (room_for τ p) (token Z h τ p)) (fst∗ 𝓤 (never 𝓤) (sem 𝓛 (token Z h τ null_ptr))) (λ b o at.
    regoal ! (λ p. prop (WpFn 𝓤 𝓛.H 𝓣.C 𝓣.Λ body (flat (types_at (ended Z).signature.params κs) (bound p).0.4) (W.post (bound p)))) at refl $
    fsplit ! $ move ! (2 ∷ []) $ split3 ! $ move ! (3 ∷ 4 ∷ 5 ∷ 0 ∷ []) $ group ! 4 $
    let given_back = at_gives Z 𝓛 𝓜.mem 𝓡.returns κ qs.0 (inner_place Z handle) h b o a.1.1.0 a.1.1.1.0 τ in
    use1 𝓛 (raw ((Gives Z 𝓛 𝓜.mem 𝓡.returns).pre given_back))
    (Gives-goes Z 𝓛 𝓜.mem 𝓡.returns κ qs.0 (inner_place Z handle) h (⊑_trans κ ρ row.lives bounds.0 within) b o a.1.1.0 a.1.1.1.0 τ said.0 said.1 are.1.1.0.1 are.1.1.1.0.1) $
    -- [the call's part; the token of ρ; nothing; the count; the other parameters]
    keep ! (0 ∷ 1 ∷ 2 ∷ []) $ enter ! _ _ _ _ _ $
    alloc_all ! (λ local. pass_all ! refl ((tt, tt), ((tt, tt), (number_typed a.1.1.0 are.1.1.0.1, (number_typed a.1.1.1.0 are.1.1.1.0.1, tt)))) $
    sets ! (addr ! (through ! refl (fld ! refl (stop !)))) refl (tt, tt) $
    calls_at ! (framed 𝓤 𝓛.H 𝓜 𝓣) (Gives Z 𝓛 𝓜.mem 𝓡.returns) (met.deallocate drops) given_back
    (four_values ! (get ! refl) (get ! refl) (get ! refl) (get ! refl)) (λ reply.
    use1 𝓛 (later (given (reply ≡ vunit) (‵ (flft κ qs.0)))) (Gives-Gives Z 𝓛 𝓜.mem 𝓡.returns κ qs.0 (inner_place Z handle) h b o a.1.1.0 a.1.1.1.0 τ reply) $
    await ! tt $ learn ! (λ is_unit.
    lands_as ! is_unit refl (tt, tt) $ sets ! (of_opd ! (unit_lit !)) refl (tt, tt) $ returns ! (look_at ! 0 refl) $ free_all ! refl $ group ! 3 $
    suffices ! _ (leaves 𝓛 (ended Z) (stayed Z) clauses (bound (block_ptr b o)) vunit tt (tt, (tt, (tt, (tt, tt)))) (tt, (tt, (tt, (tt, tt))))) $
    frame ! $ by ! (returns_unit 𝓛))))))))
