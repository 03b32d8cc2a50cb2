use Rattle.yaml_json.proofs.Common.{value-json_tokens_back, ℕ, Bool, true, false≢true, Err, List, [], ◌∷◌, ◌++◌, refl, ◌≡◌, append_assoc, append_cancel_right}
use Rattle.yaml_json.proofs.Common.{sym, ◌∙◌, json_tokens, NamesOnce, json_events, tokens_events, Token, WriterState, TextStopsWriting, at, PastValue}
use Rattle.yaml_json.proofs.Common.{gave_same, kept_then}
use Rattle.yaml_json.{proofs.Refusing.past_refused, proofs.Refusing.value_names, proofs.Stopping.kept_by_text, proofs.TokenLemmas.value_closed}
use Rattle.yaml_json.{proofs.TokenLemmas.value_given, proofs.WalkCalls.only_value, specs.Wrote.WroteValue}
use Rattle.yaml_json.specs.declared.values.Stop.TheVariants as stops
use Rattle.yaml_json.proofs.values.write_only_value.Goals as goal

no_push : (front : List Token) (last : Token) → front ++ last ∷ [] ≡ [] → ⊥
no_push [] last none = cc
no_push (first ∷ front) last none = cc

-- The writing is stopped by the token after the value.
past_stopped : (left : List Token) (depth : ℕ) (unique flow : Bool) (start before front : List Token) (last : Token) (was now : WriterState)
    → (wrote : WroteValue depth flow start was left now) → (unique ≡ true → NamesOnce [] (json_tokens wrote.json))
    → start ≡ front ++ last ∷ left → before ≡ last ∷ left → (left ≡ [] → ⊥) → TextStopsWriting depth unique flow start before was (stops.NotJson PastValue) now
past_stopped [] depth unique flow start before front last was now wrote once parts were more = absurd (more refl)
past_stopped (token ∷ after) depth unique flow start before front last was now wrote once parts were more =
    let spelled = value-json_tokens_back depth start (token ∷ after) wrote.json wrote.read in
    let whole = append_cancel_right (json_tokens wrote.json) (front ++ last ∷ []) (token ∷ after)
    (sym spelled ∙ parts ∙ sym (append_assoc front (last ∷ []) (token ∷ after))) in
    record {
      taken = json_tokens wrote.json;
      left = token ∷ after;
      parts = sym spelled;
      why = past_refused depth unique start wrote.json token after wrote.read once;
      place = ((wrote.json, refl), more);
      were = (front, (last, (whole, were)));
      gave = gave_same was now (json_events was.canonical flow wrote.json) (tokens_events was.canonical flow (json_tokens wrote.json)) (sym (value_given _ _ _))
          (record {
            emits = wrote.wrote.emits;
            canonical = wrote.wrote.canonical;
            levels = wrote.wrote.levels ∙ sym (value_closed wrote.json was.canonical flow was.levels);
            bare = wrote.wrote.bare;
          });
      unchanged = λ none. absurd (no_push front last (sym whole ∙ none));
    }

pub returns-else-is_at_end-clause-steps : goal.returns-else-is_at_end-clause-steps
returns-else-is_at_end-clause-steps g c =
    let a = c.args in
    let s = a.settings.now in
    let now = c.write_value.new.writer in
    let step = c.in_default.ensures.steps in
    let last = step.last in
    record {
      refused = λ by_text. past_stopped c.write_value.new.reader.ahead s.values.depth s.unique_names s.values.flow a.reader.now.ahead
          c.write_value.new.reader.before last.front last.last a.writer.now now step.written (value_names s.values.depth s.unique_names a.reader.now.ahead
          c.write_value.new.reader.ahead step.written.json step.written.read step.names) last.parts last.were (c.is_at_end.ensures.more c.if-is_at_end.false);
      unopened = λ some. absurd (false≢true some);
      kept = kept_then a.writer.now now now (Err (stops.NotJson PastValue)) step.kept (kept_by_text now (stops.NotJson PastValue) tt);
      failed = tt;
    }

pub returns-then-is_at_end-clause-steps : goal.returns-then-is_at_end-clause-steps
returns-then-is_at_end-clause-steps g c =
    only_value _ _ _ _ _ (c.is_at_end.ensures.end c.if-is_at_end.true) c.in_default.ensures.steps

pub write_value-requires-clause-bare : goal.write_value-requires-clause-bare
write_value-requires-clause-bare g c = c.requires.bare

pub write_value-requires-clause-none : goal.write_value-requires-clause-none
write_value-requires-clause-none g c = c.requires.none

pub returns-in-Err : goal.returns-in-Err
returns-in-Err g c = record { steps = c.in-Err.ensures.steps; text = c.in-Err.ensures.text }
