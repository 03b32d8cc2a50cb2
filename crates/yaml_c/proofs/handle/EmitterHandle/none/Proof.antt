-- A handle that owns nothing is made.
use Rattle.std.proofs.Common.{[], ◌∷◌, refl, None, lit<}
use Rattle.std.proofs.raw_atomic.Walks.{proved}
use base.Fml.{ftrue}
use types.Kit.{‵, raw, ◌⊛◌, ◌$◌, ◌∵◌, !, qed, done, drop, fjoin, move, split, suffices}
use types.Run.{enter, no_more, and_then, lit, returns}
use types.Part.{agg}
use types.ByLocal.{alloc_all, pass_all, free_all, look_at, sets}
use denote.RawPtr.{null_ptr}
use denote.Steps.{nothing}
use Rattle.yaml_c.specs.contracts.handle.EmitterHandle as handle
use denote.RattleType.{owns}
use denote.Triple.Entry.{alive}
use denote.Triple.Walked.{walk_of, says, ends_at}
use Rattle.yaml_c.specs.contracts.handle.EmitterHandle.none as f
use Rattle.yaml_c.proofs.Pointers.{pointer_in, pointer_val}
use Rattle.yaml_c.proofs.handle.EmitterHandle.none.Statement.{statement}
use Rattle.yaml_c.proofs.handle.EmitterHandle.none.Code as code

pub none_spec : {M : Type 1} → statement M
none_spec 𝓤 𝓛 𝓜 𝓡 wired =
    let c = f.clauses 𝓛 𝓜.mem 𝓡.returns in
    let W = walk_of 𝓛 f.ended tt c in
    proved 𝓛 f.ended tt c 𝓜 𝓡 tt f.Key.name code.function (code.unfolded 𝓤 𝓛.H 𝓜 𝓡 wired) (λ κs. tt) (λ κs. tt) (λ κs qs bounds a _ are.
    let y : W.Ghost = ((κs, qs, bounds, a, tt), tt) in
    qed 𝓛 ((raw (alive 𝓛 f.signature κs qs) ⊛ ‵ (owns [] a tt)) ∷ ‵ ftrue ∷ []) ∵ move ! (1 ∷ []) $ drop ! $ split ! $ enter ! _ _ _ _ _ $
    alloc_all ! (λ l. pass_all ! refl tt $
    sets ! (agg ! (and_then ! (lit ! tt) (no_more !))) refl (tt, (record { fits = lit< tt }, tt)) $
    returns ! (look_at ! 0 refl) $ free_all ! refl $
    suffices ! _ (ends_at 𝓛 f.ended tt c y (pointer_val null_ptr) (record { address = null_ptr; state = None }) tt tt) $ says ! refl $
    nothing ! $ pointer_in ! handle.struct.name handle.struct.types null_ptr $ fjoin ! $ move ! (1 ∷ 2 ∷ 0 ∷ []) $ done !))
