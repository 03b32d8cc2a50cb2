-- The state of an emitter after the events of some calls, and the documents that they make.
use Rattle.yaml_serde.proofs.Common.{ℕ, OnOk, Option, Result, Err, Ok, List, [], ◌++◌, ◌∷◌, refl, ◌≡◌, append-nil, ap, subst, sym, ◌∙◌, length, ◌≤◌}
use Rattle.yaml_serde.proofs.Common.{Appends, ∥∥₁_map, Event, Settings, State, grows_itself, AreCalls, Form, IsWriterEvent, IsDocument, AppendsDocument}
use Rattle.yaml_serde.proofs.Common.{GivesEvents, IsNewWriter, WriterState, opening, closing, IsStream, Finishes}
use Rattle.yaml_base.proofs.Common.{inl, inr, ◌⊎◌}
use Rattle.yaml_base.proofs.Prefixes.{prefix_itself}
use Rattle.yaml_base.specs.declared.errors.yaml_error_t.{yaml_error_t}
use Rattle.yaml_emitter.{proofs.Common.with_all_taken, specs.Emits.Emits}
use Rattle.yaml_pen.specs.Page.{output_left}
use Rattle.yaml_writer.proofs.{GivenAndTaken.emits_taking_more, GivenAndTaken.emits_taking_then, GivenAndTaken.emits_untaken, GivenAndTaken.stream_finished}
use Rattle.yaml_writer.{proofs.Taken.emits_none, proofs.Taken.takes_rest}
use Rattle.yaml_writer.specs.WasGiven.{EmitsTaking, levels_after, levels_after_event}
use Rattle.std.{proofs.lemmas.List.Elements.All-nil, proofs.lemmas.List.Elements.All-cons, proofs.lemmas.List.Elements.All-append}
use Rattle.std.specs.Prelude.{OnErr}
use Rattle.std.specs.Result.{result_and}
use Rattle.yaml_base.specs.Sinks.{AppendsFirst}
use Rattle.yaml_pen.proofs.Composing.{grows_then}
use Rattle.std.proofs.KnownBytes.{Appends-nil, Appends-trans}
use Rattle.yaml_serde.proofs.{Handing.appends_first, Nesting.nests_more, Nesting.nests_none}
use Rattle.yaml_serde.specs.Documents.{AppendsBeginning, GaveEvents, IsPartial, SendsEvents}
use Rattle.yaml_serde.specs.ValueCalls.{GavePart, GivesValue, SendsBeginning, SendsValue}
use Rattle.yaml_serde.specs.declared.error.Error.{Error}

-- ---- the emitter

-- nothing was given yet
abbrev pub gave_none : (form : Form) (start : State) → GaveEvents form start [] start
gave_none form start = record {
  events = [];
  are = (All-nil (IsWriterEvent form.flow), nests_none form.depth);
  emits = emits_untaken (emits_none start);
  grows = grows_itself start.page;
}

-- one call more
abbrev pub gave_more : {form : Form} {start : State} {bytes : List ℕ} {before after : State} (event : Event) {answer : Result (Unit {0}) yaml_error_t}
    → IsWriterEvent form.flow event → Emits before (event ∷ []) answer after → (gave : GaveEvents form start bytes before)
    → length (levels_after_event event (levels_after gave.events [])) ≤ form.depth → GaveEvents form start bytes after
gave_more {form} event call emits gave few = record {
  events = gave.events ++ event ∷ [];
  are = (
    All-append (IsWriterEvent form.flow) gave.events (event ∷ []) gave.are.0
        (All-cons (IsWriterEvent form.flow) event [] call (All-nil (IsWriterEvent form.flow))),
    nests_more form.depth gave.events event gave.are.1 few,
  );
  emits = emits_taking_more gave.emits emits;
  grows = grows_then gave.grows emits.grows;
}

-- all that is left is taken
abbrev pub gave_taken : {form : Form} {start : State} {bytes : List ℕ} {before : State} → GaveEvents form start bytes before
    → GaveEvents form start (bytes ++ output_left before.page) (with_all_taken before)
gave_taken {form} {start} {bytes} {before} gave = record {
  events = gave.events;
  are = gave.are;
  emits =
      subst (λ (events : List Event). EmitsTaking start events (bytes ++ output_left before.page) (with_all_taken before)) (append-nil gave.events)
      (emits_taking_then gave.emits (takes_rest before));
  grows = record { text = gave.grows.text; output = gave.grows.output };
}

-- ---- the document of a new writer

module _ {given : Settings} {form : Form} {first : WriterState} (new : IsNewWriter given first) (emitter : State) (rest : List ℕ)
    (finishes : Finishes emitter rest) where
  gave_document : (bytes : List ℕ) → GaveEvents form first.emitter bytes emitter
      → (events : List Event) × AreCalls form events × IsStream given (opening ++ events ++ closing) (bytes ++ rest)
  gave_document bytes gave = (
    gave.events,
    gave.are,
    stream_finished emitter rest (gave.emits.given ∙ new.settings)
        (gave.emits.appended ∙ ap (λ (e : List Event). e ++ gave.events) new.events)
        (gave.emits.taken ∙ ap (λ (t : List ℕ). t ++ bytes) new.untaken) finishes,
  )

  -- the document that was asked for
  pub finished_document : GivesEvents form first.emitter emitter → IsDocument given form rest
  finished_document gives = ∥∥₁_map gives (gave_document [])

  module _ (held mid now : Option (List ℕ)) (sends : SendsEvents form held first.emitter mid emitter) where
    -- the rest was handed on, too
    sent_document : Appends mid now rest → AppendsDocument given form held now
    sent_document appends = ∥∥₁_map sends whole
      where
        whole : (bytes : List ℕ) × Appends held mid bytes × GaveEvents form first.emitter bytes emitter
            → (bytes : List ℕ) × Appends held now bytes × IsDocument given form bytes
        whole sent = (sent.0 ++ rest, Appends-trans held mid now sent.0 rest sent.1 appends, ∣ gave_document sent.0 sent.2 ∣₁)

    -- or a beginning of it was
    sent_beginning : AppendsFirst mid now rest → AppendsBeginning given form held now
    sent_beginning begins = ∥∥₁_map sends part
      where
        part : (bytes : List ℕ) × Appends held mid bytes × GaveEvents form first.emitter bytes emitter
            → (bytes : List ℕ) × AppendsFirst held now bytes × ((bytes ≡ []) ⊎ (IsPartial given form bytes ⊎ IsDocument given form bytes))
        part sent = (sent.0 ++ rest, appends_first held mid now sent.0 rest sent.1 begins, inr (inr ∣ gave_document sent.0 sent.2 ∣₁))

    -- the facts that an answer tells of both
    pub written_by : {E : Type 0} (answer : Result (Unit {0}) E) → OnOk answer (Appends mid now rest) → OnOk answer (AppendsDocument given form held now)
    written_by (Ok done) appends = sent_document appends
    written_by (Err error) appends = tt

    pub begun_by : {E : Type 0} (answer : Result (Unit {0}) E) → OnErr answer (AppendsFirst mid now rest) → OnErr answer (AppendsBeginning given form held now)
    begun_by (Ok done) begins = tt
    begun_by (Err error) begins = sent_beginning begins

-- or of one that isn't finished
pub new_begins : {given : Settings} (form : Form) {first : WriterState} (held now : Option (List ℕ)) → IsNewWriter given first
    → SendsBeginning form held first.emitter now → AppendsBeginning given form held now
new_begins form held now new sends = subst (λ (g : Settings). AppendsBeginning g form held now) new.settings (sends new.events new.untaken)

-- facts that hold after any error
pub fails_with : {E P : Type 0} (answer : Result (Unit {0}) E) → P → OnErr answer P
fails_with (Ok done) holds = tt
fails_with (Err error) holds = holds

-- nothing of it
pub begins_nothing : (given : Settings) (form : Form) (held : Option (List ℕ)) → AppendsBeginning given form held held
begins_nothing given form held = ∣ ([], ([], prefix_itself [], Appends-nil held), inl refl) ∣₁

-- ---- a value, whatever the answer is

module _ (form : Form) where
  part_of : (before after : WriterState) (answer : Result (Unit {0}) Error) → GivesValue form before answer after → GavePart form before after
  part_of before after (Ok done) gave = gave.part
  part_of before after (Err error) gave = gave

  -- and of two the first error
  pub gives_and : (before after : WriterState) (first whole answer : Result (Unit {0}) Error) → answer ≡ result_and first whole
      → GivesValue form before whole after → GivesValue form before answer after
  gives_and before after (Ok done) whole answer is gave = subst (λ (a : Result (Unit {0}) Error). GivesValue form before a after) (sym is) gave
  gives_and before after (Err error) whole answer is gave =
      subst (λ (a : Result (Unit {0}) Error). GivesValue form before a after) (sym is) (part_of before after whole gave)

  beginning_of : (held now : Option (List ℕ)) (before after : State) (answer : Result (Unit {0}) Error) → SendsValue form held before answer now after
      → SendsBeginning form held before now
  beginning_of held now before after (Ok done) sent = sent.first
  beginning_of held now before after (Err error) sent = sent

  pub sends_and : (held now : Option (List ℕ)) (before after : State) (first whole answer : Result (Unit {0}) Error) → answer ≡ result_and first whole
      → SendsValue form held before whole now after → SendsValue form held before answer now after
  sends_and held now before after (Ok done) whole answer is sent =
      subst (λ (a : Result (Unit {0}) Error). SendsValue form held before a now after) (sym is) sent
  sends_and held now before after (Err error) whole answer is sent =
      subst (λ (a : Result (Unit {0}) Error). SendsValue form held before a now after) (sym is) (beginning_of held now before after whole sent)
