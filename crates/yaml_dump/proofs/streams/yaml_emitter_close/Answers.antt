use Rattle.yaml_dump.proofs.Common.{Bool, Ok, Err, false, true, [], ◌∷◌, refl, ap, subst, sym, ◌∙◌, stream_end, State, none_from_result}
use Rattle.yaml_dump.proofs.{Emissions.closed_already, Emissions.error_kept, GraphLemmas.graphs_read, GraphLemmas.trees_read}
use Rattle.yaml_dump.specs.Dumps.{ClosesFrom}
use Rattle.yaml_emitter.{proofs.Giving.emits_flagged, proofs.Giving.emits_under, specs.Emits.Emits}
use Rattle.yaml_dump.proofs.streams.yaml_emitter_close.Goals as goal

pub returns-then-is_closed-clause-closes : goal.returns-then-is_closed-clause-closes
returns-then-is_closed-clause-closes g c = closed_already c.args.emitter.now (sym c.is_closed.ensures ∙ c.if-is_closed.true)

pub yaml_emitter_emit-requires : goal.yaml_emitter_emit-requires
yaml_emitter_emit-requires g c = c.is_opened.ensures.output c.requires.opened

pub returns-in-Err-clause-closes : goal.returns-in-Err-clause-closes
returns-in-Err-clause-closes g c =
    let before = c.args.emitter.now in
    let running = sym c.is_closed.ensures ∙ c.if-is_closed.false in
    let emits = c.in-Err.ensures.emits in
    subst (λ (b : Bool). ClosesFrom b before (Err c.in-Err.error) c.yaml_emitter_emit.new.emitter) (sym running)
    (emits_flagged emits before.opened false emits.set.opened (emits.set.closed ∙ running))

-- the stream's end was emitted
pub returns : goal.returns
returns g c =
    let before = c.args.emitter.now in
    let after = c.mark_closed.new.self in
    let emits = c.in_default.ensures.emits in
    let none = none_from_result c.yaml_emitter_emit.new.emitter.error emits.answered in
    let unfailed = ap (λ (s : State). s.error) c.mark_closed.ensures.set ∙ none in
    record {
      closes =
          subst (λ (b : Bool). ClosesFrom b before (Ok tt) after) (sym c.if-is_closed.false ∙ c.is_closed.ensures)
          (subst (λ (s : State). Emits (record before { closed = true }) (stream_end ∷ []) (Ok tt) s) (sym c.mark_closed.ensures.set)
          (emits_flagged (emits_under c.yaml_emitter_emit.new.emitter.opened true emits) before.opened true emits.set.opened refl));
      kept = λ running. error_kept before c.yaml_emitter_emit.new.emitter _ c.yaml_emitter_emit.ensures.kept none;
      graphs = λ running. graphs_read after c.promised.ensures.promised unfailed;
      trees = λ running. trees_read after c.promised.ensures.promised unfailed;
    }
