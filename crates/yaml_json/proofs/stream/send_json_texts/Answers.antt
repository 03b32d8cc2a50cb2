use Rattle.yaml_json.proofs.Common.{None, refl, subst, sym, IsScanned, emitter_error}
use Rattle.yaml_json.proofs.{Growing.grew_itself, Growing.grew_reading, Growing.grew_then, SendingSteps.nowhere_by_reader, SendingSteps.stops_by_reader}
use Rattle.yaml_json.proofs.Coming.{comes_first, more_came, complete_given, comes_kept, complete_stopped, comes_stopped, ends_sending}
use Rattle.yaml_json.specs.declared.stream.Incoming.{Incoming}
use Rattle.yaml_json.specs.declared.error.StreamError.TheVariants as faults
use Rattle.yaml_json.proofs.stream.send_json_texts.Goals as goal

pub parts-init : goal.parts-init
parts-init g c =
    let a = c.args in (
      c.requires,
      c.new-incoming.ensures.scanned,
      comes_first _ _ _ _ _ _ _ _ c.new-incoming.ensures.nothing c.new-incoming.ensures.place c.requires,
      grew_itself a.writer.now,
    )

pub returns-in-Err : goal.returns-in-Err
returns-in-Err g c =
    let a = c.args in
    let l = c.parts in
    let s = a.settings in
    let start = g.W.Write.contents a.sink.now in
    let first = g.R.Read.remaining a.reader.now in
    let grew = grew_reading a.writer.now l.writer c.in-Err.error c.in-Err.ensures l.invariant.3 in
    record {
      grows = grew.grows;
      sound = grew.sound;
      stopped = comes_stopped s.values.depth s.values.flow s.unique_names a.writer.now start first l.incoming.held.items l.incoming.reading.position
          (g.R.Read.remaining l.reader) l.writer (g.W.Write.contents l.sink) c.in-Err.error
          (λ next left. stops_by_reader s.values.depth s.unique_names next left c.in-Err.error c.in-Err.ensures)
          (nowhere_by_reader s.values.depth c.in-Err.error c.in-Err.ensures) l.invariant.2;
    }

pub parts-preserved : goal.parts-preserved
parts-preserved g c =
    let a = c.args in
    let l = c.parts in
    let s = a.settings in
    let start = g.W.Write.contents a.sink.now in
    let first = g.R.Read.remaining a.reader.now in
    let later = g.R.Read.remaining c.read_more.new.reader in
    let comes = more_came s.values.depth s.values.flow s.unique_names a.writer.now start first l.incoming c.read_more.new.incoming (g.R.Read.remaining l.reader) later
    l.writer (g.W.Write.contents l.sink) c.in-Ok-true.ensures.come c.in-Ok-true.ensures.place l.invariant.2 in
    let done = complete_given s.values.depth s.values.flow s.unique_names a.writer.now start first c.read_more.new.incoming.held.items
    c.write_complete.new.incoming.held.items c.read_more.new.incoming.reading.position c.write_complete.new.incoming.reading.position later l.writer
    c.write_complete.new.writer (g.W.Write.contents l.sink) (g.W.Write.contents c.write_complete.new.sink) c.in_default.ensures.advances
    c.in_default.ensures.place comes in (
      c.in_default.ensures.bare,
      c.in_default.ensures.scanned,
      comes_kept _ _ _ _ _ _ _ _ _ _ _ _ c.flush.ensures.bytes done,
      grew_then a.writer.now l.writer c.write_complete.new.writer None l.invariant.3 c.in_default.ensures.grew,
    )

pub returns-in-Ok-false : goal.returns-in-Ok-false
returns-in-Ok-false g c =
    let a = c.args in
    let l = c.parts in
    let s = a.settings in
    let start = g.W.Write.contents a.sink.now in
    let first = g.R.Read.remaining a.reader.now in
    let later = g.R.Read.remaining c.read_more.new.reader in
    let end = c.in-Ok-false.ensures.end c.in-Ok-false.field-0-test in
    let scanned = subst (λ (i : Incoming g.row.A.Denot). IsScanned i) (sym end.1) l.invariant.1 in
    let comes = more_came s.values.depth s.values.flow s.unique_names a.writer.now start first l.incoming c.read_more.new.incoming (g.R.Read.remaining l.reader) later
    l.writer (g.W.Write.contents l.sink) c.in-Ok-false.ensures.come c.in-Ok-false.ensures.place l.invariant.2 in
    ends_sending s _ _ _ _ _ _ _ end.0 _ scanned.0 scanned.1 _ _ _ l.invariant.3 c.write_last-answer.ensures c.promised.ensures.stands.texts comes

pub returns-in-Err-write_complete : goal.returns-in-Err-write_complete
returns-in-Err-write_complete g c =
    let a = c.args in
    let l = c.parts in
    let s = a.settings in
    let start = g.W.Write.contents a.sink.now in
    let first = g.R.Read.remaining a.reader.now in
    let later = g.R.Read.remaining c.read_more.new.reader in
    let error = c.in-Err-write_complete.error in
    let comes = more_came s.values.depth s.values.flow s.unique_names a.writer.now start first l.incoming c.read_more.new.incoming (g.R.Read.remaining l.reader) later
    l.writer (g.W.Write.contents l.sink) c.in-Ok-true.ensures.come c.in-Ok-true.ensures.place l.invariant.2 in
    let grew = grew_then a.writer.now l.writer c.write_complete.new.writer (emitter_error error) l.invariant.3 c.in-Err-write_complete.ensures.grew in
    record {
      grows = grew.grows;
      sound = grew.sound;
      stopped = complete_stopped _ _ _ _ _ _ _ _ _ _ _ _ _ _ c.in-Err-write_complete.ensures.stops comes;
    }

pub returns-in-Err-flush : goal.returns-in-Err-flush
returns-in-Err-flush g c =
    let a = c.args in
    let l = c.parts in
    let s = a.settings in
    let start = g.W.Write.contents a.sink.now in
    let first = g.R.Read.remaining a.reader.now in
    let later = g.R.Read.remaining c.read_more.new.reader in
    let comes = more_came s.values.depth s.values.flow s.unique_names a.writer.now start first l.incoming c.read_more.new.incoming (g.R.Read.remaining l.reader) later
    l.writer (g.W.Write.contents l.sink) c.in-Ok-true.ensures.come c.in-Ok-true.ensures.place l.invariant.2 in
    let held = c.write_complete.new.incoming.held.items in
    let writer = c.write_complete.new.writer in
    let done = complete_given s.values.depth s.values.flow s.unique_names a.writer.now start first c.read_more.new.incoming.held.items held
    c.read_more.new.incoming.reading.position c.write_complete.new.incoming.reading.position later l.writer writer
    (g.W.Write.contents l.sink) (g.W.Write.contents c.write_complete.new.sink) c.in_default.ensures.advances c.in_default.ensures.place comes in
    let grew = grew_then a.writer.now l.writer writer None l.invariant.3 c.in_default.ensures.grew in
    record {
      grows = grew.grows;
      sound = grew.sound;
      stopped = comes_stopped _ _ _ _ _ _ _ _ _ _ _ _ (λ next left. refl) (λ front part. tt) (comes_kept _ _ _ _ _ _ _ _ _ _ _ _ c.flush.ensures.bytes done);
    }

pub returns : goal.returns
returns g c =
    let l = c.parts in
    let grew = l.invariant.3 in
    record {
      grows = grew.grows;
      sound = grew.sound;
      stopped = comes_stopped _ _ _ _ _ _ _ _ _ _ _ _ (λ next left. refl) (λ front part. tt) l.invariant.2;
    }

pub read_more-requires : goal.read_more-requires
read_more-requires g c = c.parts.invariant.1

pub write_last-answer-requires : goal.write_last-answer-requires
write_last-answer-requires g c = c.parts.invariant.0

pub write_complete-requires-clause-bare : goal.write_complete-requires-clause-bare
write_complete-requires-clause-bare g c = c.parts.invariant.0

pub write_complete-requires-clause-incoming : goal.write_complete-requires-clause-incoming
write_complete-requires-clause-incoming g c = c.in-Ok-true.ensures.incoming
