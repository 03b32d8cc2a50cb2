use Rattle.yaml_writer.proofs.GivenLemmas.{bare_awaits_none}
use Rattle.yaml_emitter.specs.Given.{seen_settings}
use Rattle.yaml_toml.proofs.{Common.refl, Common.inl, WhyFailed.finish_failed, WhyFailed.text_failed, YamlOf.yaml_of}
use Rattle.yaml_toml.proofs.texts.yaml_from_toml.Goals as goal

pub returns-in_default : goal.returns-in_default
returns-in_default c = record { refused = λ denied. absurd denied; deep = tt; failed = inl refl; place = λ denied. absurd denied; reason = tt }

pub returns-in-Err : goal.returns-in-Err
returns-in-Err c =
    let first = c.in-Ok in
    let unwritten = c.in-Err.ensures in
    record {
      refused = unwritten.refused;
      deep = unwritten.deep;
      failed = text_failed _ _ _ _ _ _ first.ensures.made c.promised.ensures.stands _ unwritten.stopped unwritten.sound;
      place = unwritten.place;
      reason = unwritten.reason;
    }

pub returns-in-Ok-finish : goal.returns-in-Ok-finish
returns-in-Ok-finish c =
    let first = c.in-Ok in
    let wrote = c.in_default-write_toml.ensures in
    record {
      stream = yaml_of _ _ _ _ _ _ first.ensures.made wrote.written c.promised-2.ensures.stands.texts c.in-Ok-finish.ensures.finishes;
      nests = wrote.nests;
    }

pub returns-in-Err-finish : goal.returns-in-Err-finish
returns-in-Err-finish c =
    let s = c.args.settings in
    let first = c.in-Ok in
    let now = c.write_toml.new.writer in
    let wrote = c.in_default-write_toml.ensures in
    record {
      refused = λ denied. absurd denied;
      deep = tt;
      failed = finish_failed (seen_settings s.emitter) s.flow s.depth c.args.text.now first.writer now first.ensures.made c.promised-2.ensures.stands
          wrote.written wrote.nests c.in-Err-finish.error (c.in-Err-finish.ensures.unfinished (bare_awaits_none now wrote.written.wrote.bare));
      place = λ denied. absurd denied;
      reason = tt;
    }
