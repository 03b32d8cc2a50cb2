use Rattle.yaml_json.proofs.Common.{yaml_error_t, writers_error, IsSome, Option, subst}
use Rattle.yaml_json.proofs.{Refusing.why_no_json, TextsInTurn.text_names}
use Rattle.yaml_json.proofs.TextStops.{explained, placed_whole, said_as, text_stopped}
use Rattle.yaml_json.proofs.texts.write_json.Goals as goal

pub returns-in-Err : goal.returns-in-Err
returns-in-Err g c =
    let s = c.args.settings in
    let text = c.args.text.now in
    let error = c.error_of.result in
    let failed = c.in-Err.ensures in
    let stopped = text_stopped s.values.depth s.unique_names s.values.flow text c.args.writer.now c.write_text_by.new.writer c.in-Err.stopped.0 error c.error_of.ensures.says
    failed.refused failed.failed in
    record {
      grows = failed.kept.grows;
      sound = said_as c.args.writer.now c.write_text_by.new.writer c.in-Err.stopped.0 (writers_error error) c.error_of.ensures.by_writer failed.kept;
      refused = why_no_json _ _ _ _ (explained _ _ _ _ _ _ _ stopped);
      stopped = stopped;
      place = placed_whole _ _ _ _ _ c.error_of.ensures.says failed.place c.error_of.ensures.place c.error_of.ensures.fault;
      unopened = λ some. failed.unopened (subst (λ (e : Option yaml_error_t). IsSome e) c.error_of.ensures.by_writer some);
    }

pub returns-in-Ok : goal.returns-in-Ok
returns-in-Ok g c =
    let wrote = c.in-Ok.ensures in
    record {
      grows = wrote.kept.grows;
      sound = wrote.kept.sound;
      written = wrote.written;
      names = text_names c.args.settings.unique_names c.args.text.now wrote.names;
    }
