use Rattle.yaml_pen.proofs.Composing.{grows_itself}
use Rattle.yaml_toml.proofs.{Common.◌≡◌, Common.Some, Common.refl, WhyFailed.stops_read, WhyFailed.stops_unread, Fitting.fault_explained}
use Rattle.yaml_toml.proofs.{Fitting.stop_explained, Refusing.denied, Refusing.placed_of, Refusing.said_of}
use Rattle.toml_ordered.specs.{Keys.table_view, Grammar.ordered_document}
use Rattle.yaml_toml.specs.declared.error.TomlError.TheVariants as errors
use Rattle.yaml_toml.specs.declared.walk.Stop.TheVariants as stop
use Rattle.yaml_toml.proofs.texts.write_toml.Goals as goal

pub returns-in-Err : goal.returns-in-Err
returns-in-Err g c =
    let s = c.args.settings in
    let text = c.args.text.now in
    let was = c.args.writer.now in
    let fault = c.in-Err.fault in
    let found = c.in-Err.ensures in
    let error = c.error_of.result in
    let says = c.error_of.ensures in
    record {
      grows = grows_itself was.emitter.page;
      sound = said_of was fault error says.error;
      refused = λ denies. found.value (denied fault error says.error denies);
      deep = fault_explained s.depth text fault error says.error says.place;
      stopped = stops_unread s.depth s.flow text was error fault c.requires says.error;
      place = placed_of text fault error says.error found.placed says.place;
      reason = says.reason found.reason found.holds;
    }

pub returns-in-Ok-write_root : goal.returns-in-Ok-write_root
returns-in-Ok-write_root g c =
    let root = table_view c.in-Ok.root in
    let read : ordered_document c.args.text.now ≡ Some root = c.in-Ok.ensures.value in
    let step = c.in-Ok-write_root.ensures in
    record {
      grows = step.kept.grows;
      sound = step.kept.sound;
      written = record { root = root; read = read; numbers = step.numbers; wrote = step.written };
      nests = record { root = root; read = read; within = step.nests };
    }

pub returns-in-Err-TooDeep : goal.returns-in-Err-TooDeep
returns-in-Err-TooDeep g c =
    let s = c.args.settings in
    let text = c.args.text.now in
    let was = c.args.writer.now in
    let now = c.write_root.new.writer in
    let root = table_view c.in-Ok.root in
    let read : ordered_document text ≡ Some root = c.in-Ok.ensures.value in
    let step = rw c.in-Err-TooDeep.field-0-is at c.in-Err-TooDeep.ensures in
    record {
      grows = step.kept.grows;
      sound = step.kept.sound;
      refused = λ denies. absurd denies;
      deep = stop_explained s.depth text root stop.TooDeep errors.TooDeep read refl step.nests;
      stopped = stops_read s.depth s.flow text was errors.TooDeep now root read step.stopped;
      place = λ denies. absurd denies;
      reason = tt;
    }

pub returns : goal.returns
returns g c =
    let s = c.args.settings in
    let text = c.args.text.now in
    let was = c.args.writer.now in
    let now = c.write_root.new.writer in
    let root = table_view c.in-Ok.root in
    let read : ordered_document text ≡ Some root = c.in-Ok.ensures.value in
    let step = rw c.in-Err-Failed.field-0-is at c.in-Err-Failed.ensures in
    record {
      grows = step.kept.grows;
      sound = step.kept.sound;
      refused = λ denies. absurd denies;
      deep = stop_explained s.depth text root (stop.Failed c.in-Err-Failed.error) (errors.Emitter c.in-Err-Failed.error) read refl step.nests;
      stopped = stops_read s.depth s.flow text was (errors.Emitter c.in-Err-Failed.error) now root read step.stopped;
      place = λ denies. absurd denies;
      reason = tt;
    }
