-- Values that a writer over an emitter wrote, and the outcomes of calls that give them.
use Rattle.std.specs.Prelude.{◌≡◌, pos, true, false, Option, None, Some, List, [], ◌∷◌, Result, Ok, Err, is_some, if◌then◌else◌}
use Rattle.std.specs.Float.Ieee.{nan, inf, fin}
use Rattle.std.specs.Str.{chars}
use Rattle.std.proofs.Common.{ap, inl, inr, refl, subst, sym, ◌∙◌}
use Rattle.std.proofs.lemmas.Bool.{true≢false}
use Rattle.yaml_base.specs.Event.{Event}
use Rattle.yaml_base.specs.declared.errors.yaml_error_t.{yaml_error_t}
use Rattle.yaml_emitter.specs.Emits.{Emits, is_taken}
use Rattle.yaml_emitter.specs.State.{State}
use Rattle.yaml_pen.proofs.Writing.{none_from_result, some_from_result}
use Rattle.yaml_pen.specs.Page.{result_of_error}
use Rattle.yaml_writer.specs.Floats.{special_event}
use Rattle.yaml_writer.specs.Writing.{Gives, WriterState, bool_event, int_event, null_event, number_event, text_event, writer_over}
use Rattle.yaml_writer.specs.declared.floats.SpecialFloat.TheVariants.{Infinity, NegativeInfinity, NotANumber}
use Rattle.yaml_c.specs.Places.{Place}
use Rattle.yaml_c.specs.Values.{EndedDocument, EndedInner, GaveByWriter, GaveDocumentEnd, GaveEnd, GaveNode, GaveSuch, IsEventOf, WritesValue}
use Rattle.yaml_c.specs.Values.{failed_within}
use Rattle.yaml_c.specs.declared.kept.Kept.{Kept}
use Rattle.yaml_c.specs.declared.place.Spot.{Spot}
use Rattle.yaml_c.specs.declared.values.Value.{Value}
use Rattle.yaml_c.specs.declared.values.Value.TheVariants as values
use Rattle.yaml_c.specs.declared.values.ValueGiving.TheVariants.{Answered}

-- the event of a value that a writer wrote
wrote : (value : Value) (before after : WriterState) (answer : Result (Unit {0}) yaml_error_t) → WritesValue value before answer after
    → (event : Event) × IsEventOf value before event × Gives before event answer after
wrote values.Null before after answer gives = (null_event before, refl, gives)
wrote (values.Bool value) before after answer gives = (bool_event before value, refl, gives)
wrote (values.Int value) before after answer gives = (int_event before value, refl, gives)
wrote (values.Unsigned value) before after answer gives = (int_event before (pos value), refl, gives)
wrote (values.Double nan) before after answer gives = (special_event before NotANumber, refl, gives)
wrote (values.Double (inf negative)) before after answer gives =
    (special_event before (if negative then NegativeInfinity else Infinity), refl, gives)
wrote (values.Double (fin negative significand exponent)) before after answer (number, reads, gives) =
    (number_event before number, (number, reads, refl), gives)
wrote (values.Text text) before after answer gives = (text_event before (chars text.now), refl, gives)

-- an error isn't the answer of an emitter without one
no_error : (found : Option yaml_error_t) (error : yaml_error_t) → Err error ≡ result_of_error found → is_some found ≡ false → ⊥
no_error None error is none = absurd (cc is)
no_error (Some other) error is none = true≢false none

-- a value that the emitter took
took : (before : State) (event : Event) (answer : Result (Unit {0}) yaml_error_t) (after : WriterState) → Gives (writer_over before) event answer after
    → before.error ≡ None → is_taken answer after.emitter.error ≡ true → Emits before (event ∷ []) answer after.emitter
took before event (Ok done) after gave sound taken = gave.emits
took before event (Err error) after (inl gave) sound taken = gave.emits
took before event (Err error) after (inr failed) sound taken =
    absurd (true≢false (sym taken ∙ ap (λ (w : WriterState). is_some w.emitter.error) failed.1 ∙ ap is_some sound))

-- a value that it didn't take
left : (before : State) (event : Event) (answer : Result (Unit {0}) yaml_error_t) (after : WriterState) → Gives (writer_over before) event answer after
    → is_taken answer after.emitter.error ≡ false → after.emitter ≡ before
left before event (Ok done) after gave untaken = absurd (true≢false untaken)
left before event (Err error) after (inl gave) untaken = absurd (no_error after.emitter.error error gave.emits.answered untaken)
left before event (Err error) after (inr failed) untaken = ap (λ (w : WriterState). w.emitter) failed.1

-- The effect of giving a value through a writer over the emitter.
module _ (value : Value) (before after : State) (was now : WriterState) (answer : Result (Unit {0}) yaml_error_t) where
  pub taken_by_writer : was ≡ writer_over before → after ≡ now.emitter → WritesValue value was answer now → before.error ≡ None
      → is_taken answer after.error ≡ true → GaveByWriter value (Some answer) before after
  taken_by_writer over into writes sound taken =
      let found = wrote value (writer_over before) now answer (subst (λ (w : WriterState). WritesValue value w answer now) over writes) in (
        found.0,
        found.1,
        subst (λ (e : State). Emits before (found.0 ∷ []) answer e) (sym into)
            (took before found.0 answer now found.2 sound (ap (λ (e : State). is_taken answer e.error) (sym into) ∙ taken)),
      )

  pub left_by_writer : was ≡ writer_over before → after ≡ now.emitter → WritesValue value was answer now
      → is_taken answer after.error ≡ false → after ≡ before
  left_by_writer over into writes untaken =
      let found = wrote value (writer_over before) now answer (subst (λ (w : WriterState). WritesValue value w answer now) over writes) in
      into ∙ left before found.0 answer now found.2 (ap (λ (e : State). is_taken answer e.error) (sym into) ∙ untaken)

-- The outcome of a call that gave events, by the emitter's answer.
pub gave_such : (is : State → Event → Type 0) (leaves : Spot → Place → Place) (answer : Result (Unit {0}) yaml_error_t) (before after : Kept)
    → answer ≡ result_of_error after.emitter.error → GaveNode is leaves before after → GaveSuch is leaves (Answered answer) before after
gave_such is leaves (Ok done) before after answered node = (node, none_from_result after.emitter.error answered)
gave_such is leaves (Err error) before after answered node = failed_within node (some_from_result after.emitter.error error answered)

pub gave_end : (answer : Result (Unit {0}) yaml_error_t) (before after : Kept) → answer ≡ result_of_error after.emitter.error
    → EndedInner before after → GaveEnd (Answered answer) before after
gave_end (Ok done) before after answered ended = (ended, none_from_result after.emitter.error answered)
gave_end (Err error) before after answered ended = failed_within ended (some_from_result after.emitter.error error answered)

pub gave_document_end : (events : List Event) (next : Spot) (answer : Result (Unit {0}) yaml_error_t) (before after : Kept)
    → answer ≡ result_of_error after.emitter.error → EndedDocument events next before after
    → GaveDocumentEnd events next (Answered answer) before after
gave_document_end events next (Ok done) before after answered ended = (ended, none_from_result after.emitter.error answered)
gave_document_end events next (Err error) before after answered ended =
    failed_within ended (some_from_result after.emitter.error error answered)
