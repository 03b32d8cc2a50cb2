use Rattle.yaml_json.specs.{Reached.AreFrom, Refused.IsByText, Walk.TextStopsWriting}
use Rattle.yaml_json.proofs.{Common.List, Common.ℕ, Common.◌∙◌, Common.subst, Common.Token, Placing.stops_at_lexeme}
use Rattle.yaml_json.proofs.texts.write_text_in.Goals as goal

pub returns-in-Ok : goal.returns-in-Ok
returns-in-Ok g c =
    let wrote = c.in-Ok.ensures.steps in
    record {
      ready = wrote.none;
      gives = record { written = rw c.new-tokens.ensures.ahead at wrote.written; names = rw c.new-tokens.ensures.ahead at wrote.names; kept = wrote.kept };
    }

pub returns-in-Err : goal.returns-in-Err
returns-in-Err g c =
    let failed = c.in-Err.ensures.steps in
    let s = c.args.settings.now in
    let text = c.args.text.now in
    let reader = c.write_only_value.new.reader in
    let now = c.write_only_value.new.writer in
    let stop = c.in-Err.stop in
    let stopped = λ (by_text : IsByText stop). subst
    (λ (all : List Token). TextStopsWriting s.values.depth s.unique_names s.values.flow all reader.before c.args.writer.now stop now) c.new-tokens.ensures.ahead
    (failed.refused by_text) in
    let from = subst (λ (t : List ℕ). AreFrom t reader.before c.last_offset.result) (c.in-Err.ensures.text ∙ c.new-tokens.ensures.text)
    c.last_offset.ensures in
    record {
      ready = tt;
      gives = record {
        refused = λ by_text. (reader.before, stopped by_text);
        place = λ by_text. stops_at_lexeme _ _ _ _ _ _ _ _ _ from _ (stopped by_text) c.offset_of-at.ensures;
        unopened = failed.unopened;
        kept = failed.kept;
        failed = rw c.new-tokens.ensures.ahead at failed.failed;
      };
    }
