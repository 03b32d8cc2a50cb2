use Rattle.std.proofs.Common.{None, Some, rules}
use Rattle.yaml_writer.proofs.Common.{◌≡◌, ℕ, List, Option, chars, subst, arith, common_steps, WriterState}
use Rattle.toml_datetime.specs.Text.{datetime_text}
use Rattle.yaml_writer.specs.SeenTimes.{seen_timestamp}
use Rattle.yaml_writer.specs.Times.{Moment}
use Rattle.yaml_writer.specs.TomlDates.{moment_event, moment_of}
use Rattle.yaml_writer.specs.Writing.{Gives, text_event}
use Rattle.yaml_writer.proofs.toml_dates.write_datetime.Goals as goal

pub returns-in-Some : goal.returns-in-Some
returns-in-Some g c =
    let before : WriterState = c.args.writer.now in
    let d = c.args.datetime.now in
    let moment = seen_timestamp c.in-Some.timestamp in
    let made : Some moment ≡ moment_of d = first_of (search rules, grind (arith, common_steps)) in
    subst (λ (found : Option Moment). Gives before (moment_event before d found) c.write_timestamp.result c.write_timestamp.new.writer) made
    c.write_timestamp.ensures

pub returns-in-Ok : goal.returns-in-Ok
returns-in-Ok g c =
    let before : WriterState = c.args.writer.now in
    let d = c.args.datetime.now in
    let spelled : c.as_str.result.now ≡ datetime_text d = grind (arith, common_steps) in
    let none : None ≡ moment_of d = first_of (search rules, grind (arith, common_steps)) in
    subst (λ (found : Option Moment). Gives before (moment_event before d found) c.text.result c.text.new.self) none
    (subst (λ (bytes : List ℕ). Gives before (text_event before (chars bytes)) c.text.result c.text.new.self) spelled c.text.ensures)
