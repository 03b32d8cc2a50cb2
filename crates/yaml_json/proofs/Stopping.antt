-- The answers of a writer to the walk, and the results of the walk.
use Rattle.yaml_json.proofs.Common.{IfSome, OnErr, OnOk, Option, None, Some, Result, Ok, Err, List, ◌≡◌, refl, ap, subst, sym, failure_of, emitter_error_of}
use Rattle.yaml_json.proofs.Common.{RefusesText, Token, Event, WriterState, yaml_error_t, FailsAt, Kept, IsByText, ReadsNone, Stop}
use Rattle.yaml_writer.{specs.Answering.Answers, specs.Answering.StaysUnlessFailed, proofs.AnswerLemmas.kept_memory, proofs.AnswerLemmas.kept_same}
use Rattle.yaml_json.specs.Failing.{IsStopOf}
use Rattle.yaml_json.specs.declared.values.Stop.TheVariants as stops

-- A consequence for a value, if there is one.
pub if_some : {A : Type 0} {P Q : A → Type 0} (found : Option A) → ((value : A) → P value → Q value) → IfSome found P → IfSome found Q
if_some None follows held = tt
if_some (Some value) follows held = follows value held

-- A call of the writer that gives this event, by the walk's result: if it succeeds, this holds; and it doesn't refuse the text.
pub record Answered (P : Type 0) (before : WriterState) (event : Event) (result : Result (Unit {0}) Stop) (after : WriterState) : Type 0 where
  pub done : OnOk result P
  pub never : RefusesText result → ⊥
  pub unmoved : OnErr result (StaysUnlessFailed before after)
  pub kept : Kept before result after
  pub failed : IfSome (emitter_error_of result) (λ error. FailsAt before event error after)

pub answered : (P : Type 0) (before after : WriterState) (event : Event) (answer : Result (Unit {0}) yaml_error_t) (result : Result (Unit {0}) Stop)
    → IsStopOf answer result → OnOk answer P → Answers before event answer after → Answered P before event result after
answered P before after event (Ok done) (Ok same) is held answers =
    record { done = held; never = λ refused. refused; unmoved = tt; kept = record { grows = answers.kept.grows; sound = answers.kept.sound }; failed = tt }
answered P before after event (Err error) (Err stop) is held answers =
    subst (λ (s : Stop). Answered P before event (Err s) after) (sym is)
    (record {
      done = tt;
      never = λ refused. refused;
      unmoved = answers.unmoved;
      kept = record { grows = answers.kept.grows; sound = answers.kept.sound };
      failed = answers.failed;
    })
answered P before after event _ _ is held answers = absurd is

-- ---- nothing changed

no_failure : (stop : Stop) → IsByText stop → failure_of stop ≡ None
no_failure (stops.Failed error) by_text = absurd by_text
no_failure _ by_text = refl

-- the text stops the walk
pub kept_by_text : (before : WriterState) (stop : Stop) → IsByText stop → Kept before (Err stop) before
kept_by_text before stop by_text = kept_same failure_of before stop (no_failure stop by_text)

-- no token was read
pub kept_unread : (before : WriterState) (ahead : List Token) (stop : Stop) → ReadsNone ahead stop → Kept before (Err stop) before
kept_unread before ahead (stops.NotJson spot) none = kept_by_text before (stops.NotJson spot) tt
kept_unread before ahead (stops.Failed error) none = kept_memory failure_of before (stops.Failed error) (ap (λ (e : yaml_error_t). Some e) none)
kept_unread before ahead _ none = absurd none
