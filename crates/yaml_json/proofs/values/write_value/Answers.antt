use Rattle.yaml_json.proofs.Common.{IfSome, Err, Ok, List, [], ◌≡◌, ◌∙◌, ap, length, subst, arith, failure_of, BeganFirstValue, FirstFailed, RefusesFirst}
use Rattle.yaml_json.proofs.Common.{kept_then, CollectionKind}
use Rattle.yaml_json.proofs.{Stopping.if_some, Stops.gave_no_more, Stops.first_stopped_writing, HeldNameLemmas.no_item, Taking.stood_nothing, Reaching.last_on}
use Rattle.yaml_json.proofs.KeepingNames.{names_begin, names_done, names_on}
use Rattle.yaml_json.proofs.WholeWalk.{all_written, first_failed, first_so_far, innermost_open, open_within, step_failed, step_stopped, steps_on}
use Rattle.yaml_json.proofs.values.write_value.Goals as goal

pub returns-in-Err-clause-steps : goal.returns-in-Err-clause-steps
returns-in-Err-clause-steps g c =
    let a = c.args in
    let s = a.settings.now in
    let now = c.write_first.new.writer in
    let stop = c.in-Err.stop in
    let step = c.in-Err.ensures.steps in
    let refuses = subst (λ (levels : List CollectionKind). RefusesFirst s.values.depth levels a.reader.now.ahead stop) c.requires.none.0 step.refused in
    record {
      refused = λ by_text. first_stopped_writing s.values.depth s.unique_names s.values.flow a.reader.now.ahead c.write_first.new.reader.before
          c.in-Err.ensures.before a.writer.now now stop refuses
          (gave_no_more s.values.flow [] a.writer.now now (step.same by_text) a.writer.now [] (stood_nothing s.values.flow a.writer.now c.requires.bare))
          (step.same by_text);
      unopened = λ some sound fewer. step.unmoved sound;
      kept = step.kept;
      failed = if_some (failure_of stop) (λ error. first_failed s.values.depth s.values.flow a.reader.now.ahead a.writer.now error now c.requires.bare)
          (subst (λ (levels : List CollectionKind). IfSome (failure_of stop)
          (λ error. FirstFailed s.values.depth s.values.flow a.reader.now.ahead levels a.writer.now error now))
          c.requires.none.0 step.failed);
    }

pub each_token-init : goal.each_token-init
each_token-init g c =
    let a = c.args in
    let s = a.settings.now in
    let step = c.in_default.ensures.steps in (
      first_so_far _ _ _ _ _ _ _ c.requires.bare (subst (λ (levels : List CollectionKind). BeganFirstValue s.values.depth s.values.flow a.reader.now.ahead
          levels a.writer.now c.write_first.new.reader.ahead c.write_first.new.nest.kinds.items c.write_first.new.writer) c.requires.none.0 step.began),
      step.fits,
      names_on _ _ _ _ _ (names_begin _ _ c.requires.none.2) step.names,
      step.kept,
      c.in_default.ensures.text,
      record { front = []; last = step.began.token; parts = step.began.first; were = c.in_default.ensures.before ∙ step.began.first },
    )

pub each_token-preserved : goal.each_token-preserved
each_token-preserved g c =
    let a = c.args in
    let l = c.each_token in
    let step = c.in_default-write_next.ensures.steps in (
      steps_on _ _ _ _ _ _ _ l.invariant.0 _ _ _ step.stepped,
      step.fits,
      names_on a.reader.now.ahead l.reader.ahead c.write_next.new.reader.ahead l.nest.names c.write_next.new.nest.names l.invariant.2 step.names,
      kept_then a.writer.now l.writer c.write_next.new.writer (Ok tt) l.invariant.3 step.kept,
      c.in_default-write_next.ensures.text ∙ l.invariant.4,
      last_on a.reader.now l.reader c.write_next.new.reader l.invariant.0.taken l.invariant.0.parts step.last,
    )

pub returns-in-Err-write_next-clause-steps : goal.returns-in-Err-write_next-clause-steps
returns-in-Err-write_next-clause-steps g c =
    let a = c.args in
    let s = a.settings.now in
    let l = c.each_token in
    let now = c.write_next.new.writer in
    let stop = c.in-Err-write_next.stop in
    let step = c.in-Err-write_next.ensures.steps in
    let outer = c.in-Some.ensures.outer in
    let kind = c.in-Some.kind in
    let is = c.in-Some.ensures.is in
    record {
      refused = λ by_text. step_stopped s.values.depth s.values.flow a.reader.now.ahead a.writer.now l.reader.ahead l.nest.kinds.items l.writer l.invariant.0
          outer kind is s.unique_names l.nest.names l.invariant.2 stop now c.write_next.new.reader.before (step.refused by_text);
      unopened = λ some sound fewer. absurd
          (open_within s.values.depth s.values.flow a.reader.now.ahead a.writer.now l.reader.ahead l.nest.kinds.items l.writer l.invariant.0
          outer kind is now (step.level sound) fewer);
      kept = kept_then a.writer.now l.writer now (Err stop) l.invariant.3 step.kept;
      failed = if_some (failure_of stop)
          (λ error. step_failed s.values.depth s.values.flow a.reader.now.ahead a.writer.now l.reader.ahead l.nest.kinds.items l.writer l.invariant.0
          outer kind is error now)
          step.failed;
    }

pub returns-clause-steps : goal.returns-clause-steps
returns-clause-steps g c =
    let a = c.args in
    let s = a.settings.now in
    let l = c.each_token in
    let none : l.nest.kinds.items ≡ [] = grind arith in
    let fits = l.invariant.1.1 in
    record {
      none = (none, fits.0, λ kept. no_item l.nest.names.levels.items (fits.1 kept ∙ ap length none));
      written = all_written s.values.depth s.values.flow a.reader.now.ahead a.writer.now l.reader.ahead l.nest.kinds.items l.writer l.invariant.0 none;
      names = names_done s.unique_names l.nest.kinds.items a.reader.now.ahead l.reader.ahead l.nest.names l.invariant.2 fits;
      last = l.invariant.5;
      kept = l.invariant.3;
    }

pub write_next-requires-clause-fits : goal.write_next-requires-clause-fits
write_next-requires-clause-fits g c = c.each_token.invariant.1

pub write_next-requires-clause-within : goal.write_next-requires-clause-within
write_next-requires-clause-within g c =
    let l = c.each_token in
    innermost_open _ _ _ _ _ _ _ l.invariant.0 _ c.in-Some.ensures

pub write_next-requires-clause-innermost : goal.write_next-requires-clause-innermost
write_next-requires-clause-innermost g c = c.in-Some.ensures

pub returns-clause-text : goal.returns-clause-text
returns-clause-text g c = c.each_token.invariant.4

pub returns-in-Err-clause-text : goal.returns-in-Err-clause-text
returns-in-Err-clause-text g c = c.in-Err.ensures.text

pub returns-in-Err-write_next-clause-text : goal.returns-in-Err-write_next-clause-text
returns-in-Err-write_next-clause-text g c = c.in-Err-write_next.ensures.text ∙ c.each_token.invariant.4
