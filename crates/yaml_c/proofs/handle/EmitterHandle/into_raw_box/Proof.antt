-- The pointer goes from one struct to the other, with what it owns.
use Rattle.std.proofs.Common.{◌≡◌, [], ◌∷◌, Option, refl, sym, is_some, true}
use Rattle.std.proofs.raw_atomic.Walks.{proved}
use contract.Monad.{fact}
use denote.Steps.{heard, nothing}
use types.Kit.{rewrite, ‵, raw, ◌⊛◌, ◌$◌, ◌∵◌, !, qed, done, drop, fsplit, fjoin, join, move, split, suffices}
use types.Run.{enter, fld, stop, no_more, and_then, of_opd, returns}
use types.Part.{agg, sub, whole}
use types.ByLocal.{alloc_all, pass_all, free_all, look_at, get, get_in, sets}
use denote.Exit.{yes}
use denote.RattleType.{owns}
use denote.Signature.{plain, types_at}
use denote.Triple.Entry.{alive}
use denote.Triple.Walked.{Stays, stay_dropped, Goes-dropped, walk_of, says, ends_at}
use Rattle.yaml_c.specs.contracts.raw_box.RawBox as raw_box
use Rattle.yaml_c.specs.contracts.handle.EmitterHandle as handle
use Rattle.yaml_c.specs.contracts.handle.EmitterHandle.into_raw_box as f
use Rattle.yaml_c.proofs.handle.EmitterHandle.TheLaws as handle_laws
use Rattle.yaml_c.specs.Handle.{emitter_row, handle_owns}
use Rattle.yaml_c.proofs.Pointers.{pointer_in, value_of, pointer_val, pointer_fits, struct_fits}
use Rattle.yaml_c.proofs.handle.EmitterHandle.into_raw_box.Statement.{statement}
use Rattle.yaml_c.proofs.handle.EmitterHandle.into_raw_box.Code as code

abbrev stayed : Stays f.ended.signature.params f.ended.kept
stayed = (stay_dropped _ yes, tt)

pub into_raw_box_spec : {M : Type 1} → statement M
into_raw_box_spec 𝓤 𝓛 𝓜 𝓡 wired =
    let c = f.clauses 𝓛 𝓜.mem 𝓡.returns in
    let W = walk_of 𝓛 f.ended stayed c in
    proved 𝓛 f.ended stayed c 𝓜 𝓡 (Goes-dropped 𝓛 0 (plain (λ _. handle.the_row)) yes (λ κs x w. refl), tt) f.Key.name code.function
    (code.unfolded 𝓤 𝓛.H 𝓜 𝓡 wired) (λ κs. ((λ d. pointer_val d.address ∷ []), tt))
    (λ κs. (handle_laws.lowers.val_is, tt)) (λ κs qs bounds a _ are.
    let at = a.0.address in
    let y : W.Ghost = ((κs, qs, bounds, a, (pointer_val at ∷ [], tt)), tt) in
    qed 𝓛 ((raw (alive 𝓛 f.signature κs qs) ⊛ ‵ (owns (types_at f.signature.params κs) a (pointer_val at ∷ [], tt)))
    ∷ raw (fact 𝓤 (is_some a.0.state ≡ true)) ∷ []) ∵
    move ! (1 ∷ []) $ heard ! _ (λ some. let has = value_of a.0.state some in split ! $ move ! (1 ∷ []) $ fsplit ! $ fsplit ! $ drop ! $
    rewrite ! 0 (λ (value : Option (emitter_row).Denot). ‵ (handle_owns at value)) has.1 refl $
    -- [the box; nothing; the tokens]
    enter ! _ _ _ _ _ $ alloc_all ! (λ l. pass_all ! refl (struct_fits 𝓛 at handle.struct.name, tt) $
    sets ! (of_opd ! (get_in ! (fld ! refl (stop !)) (sub ! 0 refl (whole !)))) refl (pointer_fits 𝓛 at) $
    sets ! (of_opd ! (get ! refl)) refl (pointer_fits 𝓛 at) $
    sets ! (agg ! (and_then ! (get ! refl) (no_more !))) refl (struct_fits 𝓛 at (raw_box.struct emitter_row).name) $
    returns ! (look_at ! 0 refl) $ free_all ! refl $
    suffices ! _ (ends_at 𝓛 f.ended stayed c y (pointer_val at) (record { address = at; value = has.0 }) (tt, tt) (tt, tt)) $ says ! (sym has.1) $
    pointer_in ! (raw_box.struct emitter_row).name (raw_box.struct emitter_row).types at $ fjoin ! $ move ! (1 ∷ []) $ drop ! $ nothing ! $ nothing ! $
    join ! $ move ! (2 ∷ 0 ∷ 1 ∷ []) $ done !)))
