use Rattle.yaml_tool.proofs.Common.{map, ap, subst, sym, ◌∙◌, into_iter_items, seen_numbered}
use Rattle.std.proofs.{Common.inl, lemmas.Iterator.Adapters.YieldsList-from_vec, lemmas.Iterator.Consumers.YieldsList-end, lemmas.List.map-id}
use Rattle.std.proofs.Common.{rules}
use Rattle.std.specs.Prelude.{Ok}
use Rattle.yaml_emitter.{proofs.Giving.emits_nothing, proofs.Giving.emits_then, specs.Emits.Emits}
use Rattle.yaml_pen.proofs.Writing.{none_from_result}
use Rattle.yaml_tool.proofs.RunLemmas.{events_more, parts_more, ends_more, is_after, fails_after, refused_at, ended}
use Rattle.yaml_tool.specs.Runs.{RunsTo}
use Rattle.yaml_tool.proofs.runs.emit_all.Goals as goal

pub returns-in-Err-clause-runs : goal.returns-in-Err-clause-runs
returns-in-Err-clause-runs g c new =
    let now = c.loop-numbered in
    let emits = now.invariant.4 in
    inl
    (refused_at now.yielded c.in-Some.numbered (into_iter_items c.next.new.self)
    (into_iter_items now.numbered-iterator) c.args.events.items
    now.invariant.3 c.in-Some.ensures.steps.0
    (fails_after (is_after new emits now.invariant.5) (none_from_result now.emitter.error emits.answered) c.in-Err.ensures.emits
    c.promised-in-loop-numbered.ensures.promised))

pub loop-numbered-init : goal.loop-numbered-init
loop-numbered-init g c = (
  search rules,
  search rules,
  search rules,
  search rules,
  emits_nothing c.args.emitter.now c.requires.no_error,
  c.promised.ensures.promised,
  search rules,
)

pub loop-numbered-preserved : goal.loop-numbered-preserved
loop-numbered-preserved g c =
    let now = c.loop-numbered in
    let emits = c.in_default.ensures.emits in (
      tt,
      tt,
      emits.set.has_output ∙ now.invariant.2,
      parts_more now.yielded c.in-Some.numbered (into_iter_items c.next.new.self)
          (into_iter_items now.numbered-iterator) c.args.events.items now.invariant.3 c.in-Some.ensures.steps.0,
      subst (λ events. Emits c.args.emitter.now events (Ok tt) c.yaml_emitter_emit-answer.new.emitter) (events_more now.yielded c.in-Some.numbered)
          (emits_then now.invariant.4 emits),
      c.promised-in-loop-numbered.ensures.promised,
      ends_more now.yielded c.in-Some.numbered,
    )

pub returns-clause-runs : goal.returns-clause-runs
returns-clause-runs g c new =
    let now = c.loop-numbered in
    let emits = now.invariant.4 in
    let road = YieldsList-from_vec {s = c.into_iter-numbered-iterator.result} c.args.events.items c.into_iter-numbered-iterator.ensures.into_iter_gives.0
    (c.into_iter-numbered-iterator.ensures.into_iter_gives.1 ∙ c.args.events.ok.0) in
    let whole = ap (map seen_numbered)
    (sym (map-id now.yielded) ∙ (YieldsList-end road now.yielded now.numbered-iterator now.yielded_by c.next.result c.next.new.self c.in-None.is
    c.next.ensures.steps).0) in
    subst (λ all. RunsTo c.args.emitter.now.given all c.flush_last-answer.result c.flush_last-answer.new.emitter) whole
    (ended c.args.emitter.now.given (map seen_numbered now.yielded) now.last c.flush_last-answer.result now.emitter c.flush_last-answer.new.emitter
    (is_after new emits now.invariant.5) (none_from_result now.emitter.error emits.answered) now.invariant.6 c.promised-2.ensures.promised
    c.flush_last-answer.ensures.flushed)
