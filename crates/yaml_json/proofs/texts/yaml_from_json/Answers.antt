use Rattle.yaml_json.proofs.Common.{bare_awaits_none, writers_error, refl, inl}
use Rattle.yaml_emitter.specs.Given.{seen_settings}
use Rattle.yaml_json.proofs.{Stopping.if_some, TextStops.explained, TextStops.writer_failed, WhyFailed.text_failed, WhyFailed.finish_failed, YamlOf.yaml_of}
use Rattle.yaml_json.proofs.texts.yaml_from_json.Goals as goal

pub returns-in_default : goal.returns-in_default
returns-in_default g c = record { refused = λ denied. absurd denied; why = tt; failed = inl refl; place = (0, (tt, tt)) }

pub returns-in-Err : goal.returns-in-Err
returns-in-Err g c =
    let s = c.args.settings in
    let text = c.args.text.now in
    let error = c.in-Err.error in
    let first = c.in-Ok in
    let now = c.write_json.new.writer in
    let unwritten = c.in-Err.ensures in
    record {
      refused = unwritten.refused;
      why = explained s.values.depth s.unique_names s.values.flow text first.writer now error unwritten.stopped;
      failed = if_some _ (λ code. text_failed _ _ _ _ _ _ _ first.ensures.made c.promised.ensures.stands)
          (writer_failed _ _ _ _ _ _ _ unwritten.stopped unwritten.sound);
      place = unwritten.place;
    }

pub returns-in-Ok-finish : goal.returns-in-Ok-finish
returns-in-Ok-finish g c =
    let first = c.in-Ok in
    let wrote = c.in_default-write_json.ensures in
    record {
      stream = yaml_of _ _ _ _ _ _ _ first.ensures.made wrote.written c.promised-2.ensures.stands.texts c.in-Ok-finish.ensures.finishes;
      names = wrote.names;
    }

pub returns-in-Err-finish : goal.returns-in-Err-finish
returns-in-Err-finish g c =
    let s = c.args.settings in
    let first = c.in-Ok in
    let now = c.write_json.new.writer in
    let written = c.in_default-write_json.ensures.written in
    record {
      refused = λ denied. absurd denied;
      why = tt;
      failed = finish_failed (seen_settings s.values.emitter) s.values.flow s.values.depth c.args.text.now first.writer now c.in-Err-finish.error first.ensures.made
          c.promised-2.ensures.stands written (c.in-Err-finish.ensures.unfinished (bare_awaits_none now written.wrote.bare));
      place = (0, (tt, tt));
    }
