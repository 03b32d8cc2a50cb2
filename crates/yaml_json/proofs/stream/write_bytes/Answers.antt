use Rattle.yaml_json.proofs.Common.{List, ℕ, [], refl, subst, sym, tokens, writers_error, StopsInPart}
use Rattle.yaml_writer.proofs.GivenLemmas.{wrote_nothing}
use Rattle.yaml_json.{proofs.Growing.grew_itself, proofs.Growing.grew_said, proofs.SentParts.part_stopped, specs.WalkSteps.TextGiven}
use Rattle.yaml_json.proofs.TextStops.{placed_first, placed_no_text, placed_whole, text_stopped}
use Rattle.std.specs.{Prelude.IsUtf8, Str.IsValidUpTo}
use Rattle.yaml_json.specs.declared.error.StreamError.TheVariants as faults
use Rattle.yaml_json.proofs.stream.write_bytes.Goals as goal

pub returns-in-Err : goal.returns-in-Err
returns-in-Err g c =
    let writer = c.args.writer.now in
    record {
      ready = tt;
      gives = record {
        stopped = record {
          taken = [];
          left = tokens c.args.bytes.now;
          split = refl;
          why = (refl, c.in-Err.ensures.cases.0);
          place = placed_no_text c.args.settings.now.values.depth c.args.bytes.now c.valid_up_to.result c.position_of-position.result c.position_of-position.ensures
              (subst (IsValidUpTo c.args.bytes.now) (sym c.valid_up_to.ensures) c.in-Err.ensures.cases.1);
          gave = wrote_nothing writer c.requires.bare;
        };
        grew = grew_itself writer;
      };
    }

pub returns-in-Ok-write_text_in : goal.returns-in-Ok-write_text_in
returns-in-Ok-write_text_in g c =
    let s = c.args.settings.now in
    let given = c.in-Ok-write_text_in.ensures.gives in
    let same = c.in-Ok.ensures.cases.0 in
    record {
      ready = c.in-Ok-write_text_in.ensures.ready;
      gives = record { utf8 = c.in-Ok.ensures.cases.1; given = subst (λ (t : List ℕ). TextGiven s t c.args.writer.now c.write_text_in.new.writer) same given };
    }

pub returns-in-Err-write_text_in : goal.returns-in-Err-write_text_in
returns-in-Err-write_text_in g c =
    let s = c.args.settings.now in
    let was = c.args.writer.now in
    let now = c.write_text_in.new.writer in
    let error = c.error_of.result in
    let failed = c.in-Err-write_text_in.ensures.gives in
    record {
      ready = tt;
      gives = record {
        stopped = subst (λ (t : List ℕ). StopsInPart s.values.depth s.unique_names s.values.flow [] t was (faults.Refused error) now) c.in-Ok.ensures.cases.0
            (part_stopped _ _ _ _ _ _ _ (subst IsUtf8 (sym c.in-Ok.ensures.cases.0) c.in-Ok.ensures.cases.1)
            (text_stopped _ _ _ _ _ _ _ _ c.error_of.ensures.says failed.refused failed.failed)
            (placed_first _ _ _ (placed_whole _ _ _ _ _ c.error_of.ensures.says failed.place c.error_of.ensures.place c.error_of.ensures.fault)));
        grew = grew_said was now c.in-Err-write_text_in.stopped.0 (writers_error error) c.error_of.ensures.by_writer failed.kept;
      };
    }
