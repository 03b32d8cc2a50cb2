-- The state of an emitter that failed after all events that are still given; of a new one; and of one that was flushed.
use Rattle.yaml_emitter.proofs.Common.{suc, zero, ℕ, ◌<◌, ◌≤◌, if◌then◌else◌, Option, None, Some, Result, Err, Ok, drop, length, take, Bool, false, true}
use Rattle.yaml_emitter.proofs.Common.{List, [], ◌++◌, ◌∷◌, ◌⊎◌, refl, ◌≡◌, length-append, take-append-drop, length-take-le, append-nil, append_assoc, inl}
use Rattle.yaml_emitter.proofs.Common.{inr, ap, subst, sym, ◌∙◌, arith, written_within, encode, Event, sequence_start, sequence_end, mapping_start}
use Rattle.yaml_emitter.proofs.Common.{mapping_end, before_stream, first_standing, Piece, Standing, settings_for, is_ready, written, most_open, open_count}
use Rattle.yaml_emitter.proofs.Common.{IsAcceptedPrefix, Settings, Effective, at_stream, steps, progress, nothing_given, closes_at_once, HoldsPiecesWith}
use Rattle.yaml_emitter.proofs.Common.{HoldsPieces, StandsWithoutError, FailedAt, closes_last, StandsRefused, HoldsCut, StandsCut, StandsUnflushed}
use Rattle.yaml_emitter.proofs.Common.{StandsStopped, at_event, between_events, StandsFailed, MachineStands, StateStands, State, MachineState, machine_of}
use Rattle.yaml_emitter.proofs.Common.{new_machine, StaysFlushed, none_from_result, some_from_result, Page, new_page, Flushed}
use Rattle.yaml_base.{proofs.Accepted.begins_from_stands, proofs.ReadyLaws.written_grows, specs.declared.errors.yaml_error_t.yaml_error_t}
use Rattle.yaml_base.{specs.declared.errors.yaml_error_t.TheVariants.Memory, specs.declared.errors.yaml_error_t.TheVariants.WriteError}
use Rattle.yaml_emitter.proofs.standing.Flushing.{flushed_none, flushed_output, flushed_grown}
use Rattle.yaml_emitter.proofs.standing.Standing.{settings_grown, taken_grown, settled_same}

-- More events after a failure.
failed_grown : (all prefix : List Event) (event : Event) (later more : List Event) → FailedAt all prefix event later
    → FailedAt (all ++ more) prefix event (later ++ more)
failed_grown all prefix event later more h =
    record {
      parts = sym (append_assoc prefix (event ∷ later) more) ∙ ap (λ events. events ++ more) h.parts;
      became_ready = omega (arith, h.became_ready, written_grows all more);
    }

pub settings_failed : (prefix : List Event) (given : Settings) (all : List Event) (event : Event) (later more : List Event) → prefix ++ event ∷ later ≡ all
    → settings_for given (all ++ more) ≡ settings_for given all
settings_failed [] given all event later more parts = settings_grown given event [] later all more parts
settings_failed (x ∷ prefix) given all event later more parts = settings_grown given x prefix (event ∷ later) all more parts

-- An event that became ready was ready by the events after it.
ready_if : (b : Bool) (n m : ℕ) → n < (if b then suc m else 0) → b ≡ true
ready_if true n m h = refl
ready_if false n m h = absurd (omega (arith, h))

ready_later : (b : Bool) (n m : ℕ) → suc n < (if b then suc m else 0) → n < m
ready_later true n m h = omega (arith, h)
ready_later false n m h = absurd (omega (arith, h))

pub ready_at : (prefix : List Event) (event : Event) (later : List Event) → length prefix < written (prefix ++ event ∷ later) → is_ready event later ≡ true
ready_at [] event later h = ready_if (is_ready event later) 0 (written later) h
ready_at (x ∷ prefix) event later h =
    ready_at prefix event later (ready_later (is_ready x (prefix ++ event ∷ later)) (length prefix) (written (prefix ++ event ∷ later)) h)

closes_grown : (event : Event) (later more : List Event) → is_ready event later ≡ true → closes_at_once event (later ++ more) ≡ closes_at_once event later
closes_grown (sequence_start c) [] more is = cc
closes_grown (mapping_start c) [] more is = cc
closes_grown (sequence_start c) (sequence_end ∷ later) more is = refl
closes_grown (mapping_start c) (mapping_end ∷ later) more is = refl
closes_grown event later more is = refl

pub closes_one : (event next : Event) (later more : List Event) → closes_at_once event (next ∷ (later ++ more)) ≡ closes_at_once event (next ∷ later)
closes_one (sequence_start c) sequence_end later more = refl
closes_one (mapping_start c) mapping_end later more = refl
closes_one event next later more = refl

closes_last_grown : (prefix : List Event) (event : Event) (later more : List Event)
    → closes_last prefix (event ∷ (later ++ more)) ≡ closes_last prefix (event ∷ later)
closes_last_grown [] event later more = refl
closes_last_grown (x ∷ []) event later more = closes_one x event later more
closes_last_grown (x ∷ y ∷ rest) event later more = closes_last_grown (y ∷ rest) event later more

refused_grown : (given : Settings) (all more : List Event) (error : yaml_error_t) (machine : MachineState)
    → StandsRefused given all error machine → StandsRefused given (all ++ more) error machine
refused_grown given all more error machine h =
    record {
      prefix = h.prefix;
      event = h.event;
      later = h.later ++ more;
      failed = failed_grown all h.prefix h.event h.later more h.failed;
      progress = taken_grown h.prefix (h.event ∷ h.later) all more given false machine h.failed.parts h.progress;
      refusal = h.refusal;
    }

-- The bytes flushed before it stay.
flushed_prefix : (prefix : List Event) (given : Settings) (all rest more : List Event) (count : ℕ) (output : List ℕ) → prefix ++ rest ≡ all
    → length prefix ≡ count → StaysFlushed given all count output → StaysFlushed given (all ++ more) count output
flushed_prefix [] given all rest more count output parts is h =
    subst (λ count. StaysFlushed given (all ++ more) count output) is (flushed_none given (all ++ more) output)
flushed_prefix (x ∷ prefix) given all rest more count output parts is h =
    flushed_grown given all more count output (omega (arith, is, ap length parts, length-append (x ∷ prefix) rest))
    (settings_grown given x prefix rest all more parts) h

cut_grown : (given : Settings) (all more : List Event) (error : yaml_error_t) (machine : MachineState) → StandsCut given all error machine
    → StandsCut given (all ++ more) error machine
cut_grown given all more error machine h =
    let settings = sym (settings_failed h.prefix given all h.event h.later more h.failed.parts) in
    let ready = ready_at h.prefix h.event h.later (subst (λ events. length h.prefix < written events) (sym h.failed.parts) h.failed.became_ready) in
    let at_prefix = sym (closes_last_grown h.prefix h.event h.later more) in
    let at_event = sym (closes_grown h.event h.later more ready) in
    let CutBy : Effective → Bool → Bool → Page → Type 0 = λ s at_prefix at_event page.
    HoldsCut given s h.prefix h.event (steps s at_prefix h.prefix at_stream first_standing)
    (steps s at_event (h.prefix ++ h.event ∷ []) at_stream first_standing) error page in
    record {
      prefix = h.prefix;
      event = h.event;
      later = h.later ++ more;
      failed = failed_grown all h.prefix h.event h.later more h.failed;
      given_kept = h.given_kept;
      stands = h.stands;
      page =
          subst (λ s. CutBy s (closes_last h.prefix (h.event ∷ (h.later ++ more))) (closes_at_once h.event (h.later ++ more)) machine.page) settings
          (subst (λ b. CutBy (settings_for given all) b (closes_at_once h.event (h.later ++ more)) machine.page) at_prefix
          (subst (λ b. CutBy (settings_for given all) (closes_last h.prefix (h.event ∷ h.later)) b machine.page) at_event h.page));
      flushed = flushed_prefix h.prefix given all (h.event ∷ h.later) more (length h.prefix) machine.page.output h.failed.parts refl h.flushed;
    }

holds_grown : (prefix : List Event) (given : Settings) (all rest more : List Event) (error : Option yaml_error_t) (page : Page) → prefix ++ rest ≡ all
    → HoldsPiecesWith error (settings_for given all) prefix (steps (settings_for given all) false prefix at_stream first_standing).pieces page
    → HoldsPiecesWith error (settings_for given (all ++ more)) prefix
    (steps (settings_for given (all ++ more)) false prefix at_stream first_standing).pieces page
holds_grown [] given all rest more error page parts h = h
holds_grown (x ∷ prefix) given all rest more error page parts h =
    subst (λ s. HoldsPiecesWith error s (x ∷ prefix) (steps s false (x ∷ prefix) at_stream first_standing).pieces page)
    (sym (settings_grown given x prefix rest all more parts)) h

unflushed_grown : (given : Settings) (all more : List Event) (error : yaml_error_t) (machine : MachineState)
    → StandsUnflushed given all error machine → StandsUnflushed given (all ++ more) error machine
unflushed_grown given all more error machine h =
    let prefix = take (written h.before) h.before in
    let rest = drop (written h.before) h.before in
    let whole : prefix ++ (rest ++ h.later) ≡ all =
    sym (append_assoc prefix rest h.later) ∙ ap (λ events. events ++ h.later) (take-append-drop (written h.before) h.before) ∙ h.parts in
    record {
      before = h.before;
      later = h.later ++ more;
      parts = sym (append_assoc h.before h.later more) ∙ ap (λ events. events ++ more) h.parts;
      given_kept = h.given_kept;
      stands = h.stands;
      page = holds_grown prefix given all (rest ++ h.later) more (Some error) machine.page whole h.page;
      sound_output = h.sound_output;
      flushed =
          flushed_prefix prefix given all (rest ++ h.later) more (written h.before) machine.page.output whole
          (length-take-le (written h.before) h.before (written_within h.before)) h.flushed;
    }

stopped_grown : (given : Settings) (all more : List Event) (error : yaml_error_t) (machine : MachineState)
    → StandsStopped given all error machine → StandsStopped given (all ++ more) error machine
stopped_grown given all more error machine h =
    elim h [
      | at_event cut ↦ at_event (cut_grown given all more error machine cut)
      | between_events other ↦ between_events
          (unflushed_grown given all more error machine other)
    ]

failed_grown_by : (error : yaml_error_t) (given : Settings) (all more : List Event) (machine : MachineState)
    → StandsFailed given all error machine → StandsFailed given (all ++ more) error machine
failed_grown_by WriteError given all more machine h = stopped_grown given all more WriteError machine h
failed_grown_by Memory given all more machine h = stopped_grown given all more Memory machine h
failed_grown_by error given all more machine h = refused_grown given all more error machine h

-- After a failure another event changes nothing.
pub failed_more : (given : Settings) (all : List Event) (event : Event) (state : State) (error : yaml_error_t) → StateStands given all state
    → state.error ≡ Some error
    → StateStands given (all ++ event ∷ []) (record state { started = true })
failed_more given all event state error h is =
    let machine = machine_of state in
    let was : MachineStands given all (Some error) state.held machine = subst (λ e. MachineStands given all e state.held machine) is h in
    subst (λ e. MachineStands given (all ++ event ∷ []) e state.held machine) (sym is) (was.0, failed_grown_by error given all (event ∷ []) machine was.1)

-- Nothing was given yet.
no_open : (prefix rest : List Event) → prefix ++ rest ≡ [] → open_count prefix ≤ most_open
no_open [] rest h = omega arith
no_open (x ∷ prefix) rest h = cc

pub nothing_begins : (canonical : Bool) → IsAcceptedPrefix canonical []
nothing_begins canonical = begins_from_stands canonical [] (record { partial = before_stream; is_partial = refl; sound = refl; shallow = no_open })

pub new_stands : (given : Settings) (state : State) → state.given ≡ given → state.page ≡ new_page given.limit → state.stage ≡ at_stream → state.open_ended ≡ 0
    → state.held ≡ [] → state.error ≡ None
    → StateStands given [] state
new_stands given state is_handle_given page stage open_ended held none =
    let well : StandsWithoutError given [] state.held (machine_of state) =
    record {
      progress = record {
        given_kept = is_handle_given;
        settled = tt;
        stands = nothing_begins given.canonical;
        stage = stage;
        standing =
            ap (λ (page : Page). let made : Standing = record { cursor = page.cursor; open_ended = state.open_ended } in made) page
            ∙ ap (λ open_ended. let made : Standing = record { cursor = first_standing.cursor; open_ended = open_ended } in made) open_ended;
        page = page;
        flushed_whole = λ hands. cc;
        flushed = flushed_none given [] state.page.output;
      };
      held = held;
    } in
    subst (λ e. MachineStands given [] e state.held (machine_of state)) (sym none) well

-- an emitter around a machine, before any event
abbrev around : MachineState → List Event → State
around m held =
    record {
      events = [];
      given = m.given;
      settings = m.settings;
      started = false;
      has_output = false;
      opened = false;
      closed = false;
      held = held;
      stage = m.stage;
      open_ended = m.open_ended;
      page = m.page;
      error = m.error;
    }

pub new_emitter_stands : {m : MachineState} {held : List Event} → m ≡ new_machine → held ≡ [] → StateStands nothing_given [] (around m held)
new_emitter_stands {m} {held} made none =
    new_stands nothing_given (around m held) (ap (λ (m : MachineState). m.given) made) (ap (λ (m : MachineState). m.page) made)
    (ap (λ (m : MachineState). m.stage) made) (ap (λ (m : MachineState). m.open_ended) made) none (ap (λ (m : MachineState). m.error) made)

-- A flush moves the written bytes to the output.
take-nil : (n : ℕ) → take {A = ℕ} n [] ≡ []
take-nil zero = refl
take-nil (suc n) = refl

flushed_page : (prefix : List Event) (s : Effective) (pieces : List Piece) (before after : Page) (answer : Result (Unit {0}) yaml_error_t)
    → HoldsPieces s prefix pieces before → Flushed before after answer
    → HoldsPiecesWith after.error s prefix pieces after
flushed_page [] s pieces before after answer h flushed =
    let encoding : after.encoding ≡ None = ap (λ (p : Page). p.encoding) flushed.kept ∙ ap (λ (p : Page). p.encoding) h in
    let output : after.output ≡ [] =
    flushed.sound_output.prefix ∙ ap (λ e. take (length after.output) (encode e after.text)) encoding ∙ take-nil (length after.output) in
    flushed.kept
    ∙ ap (λ (p : Page). let made : Page = record p { output = after.output; error = after.error } in made) h
    ∙ ap (λ output. let made : Page = record (new_page s.limit) { output = output; error = after.error } in made) output
flushed_page (x ∷ prefix) s pieces before after answer h flushed = (
  record {
    encoding = ap (λ (p : Page). p.encoding) flushed.kept ∙ h.0.encoding;
    bom_written = ap (λ (p : Page). p.bom_due) flushed.kept ∙ h.0.bom_written;
    line_break = ap (λ (p : Page). p.line_break) flushed.kept ∙ h.0.line_break;
    limit = ap (λ (p : Page). p.limit) flushed.kept ∙ h.0.limit;
    sound_output = flushed.sound_output;
  },
  ap (λ (p : Page). p.text) flushed.kept ∙ h.1,
  refl,
)

flushed_stands : (given : Settings) (all held : List Event) (machine : MachineState) (page : Page) → StandsWithoutError given all held machine
    → Flushed machine.page page (Ok tt)
    → StandsWithoutError given all held (record machine { page = page; error = page.error })
flushed_stands given all held machine page h flushed =
    let s = settings_for given all in
    let prefix = take (written all) all in
    let now = record machine { page = page; error = page.error } in
    record {
      progress = record {
        given_kept = h.progress.given_kept;
        settled = settled_same s prefix machine now refl h.progress.settled;
        stands = h.progress.stands;
        stage = h.progress.stage;
        standing =
            ap (λ (p : Page). let made : Standing = record { cursor = p.cursor; open_ended = machine.open_ended } in made) flushed.kept ∙ h.progress.standing;
        page =
            subst (λ error. HoldsPiecesWith error s prefix (progress s all).pieces page) (none_from_result page.error flushed.answered)
            (flushed_page prefix s (progress s all).pieces machine.page page (Ok tt) h.progress.page flushed);
        flushed_whole = λ hands. (flushed.all (none_from_result page.error flushed.answered)).1;
        flushed = flushed_output given all (length prefix) machine.page.output page.output h.progress.flushed flushed.output;
      };
      held = h.held;
    }

-- a flush sets the page alone, and its error
abbrev pub HasPage : (before after : MachineState) → Type 0
HasPage before after = after ≡ record before { page = after.page; error = after.page.error }

pub flush_stands : (given : Settings) (all held : List Event) (before after : MachineState) → MachineStands given all before.error held before
    → before.error ≡ None → HasPage before after
    → Flushed before.page after.page (Ok tt) → MachineStands given all after.error held after
flush_stands given all held before after h none same flushed =
    let well : StandsWithoutError given all held before = subst (λ e. MachineStands given all e held before) none h in
    subst (λ e. MachineStands given all e held after) (sym (ap (λ (m : MachineState). m.error) same ∙ none_from_result after.page.error flushed.answered))
    (subst (λ (m : MachineState). StandsWithoutError given all held m) (sym same) (flushed_stands given all held before after.page well flushed))

unflushed_stands : (given : Settings) (all held : List Event) (machine : MachineState) (page : Page) (error : yaml_error_t)
    → StandsWithoutError given all held machine
    → Flushed machine.page page (Err error) → StandsUnflushed given all error (record machine { page = page; error = page.error })
unflushed_stands given all held machine page error h flushed =
    let s = settings_for given all in
    let prefix = take (written all) all in
    record {
      before = all;
      later = [];
      parts = append-nil all;
      given_kept = h.progress.given_kept;
      stands = h.progress.stands;
      page =
          subst (λ error. HoldsPiecesWith error s prefix (progress s all).pieces page) (some_from_result page.error error flushed.answered)
          (flushed_page prefix s (progress s all).pieces machine.page page (Err error) h.progress.page flushed);
      sound_output = flushed.sound_output;
      flushed =
          subst (λ count. StaysFlushed given all count page.output) (length-take-le (written all) all (written_within all))
          (flushed_output given all (length prefix) machine.page.output page.output h.progress.flushed flushed.output);
    }

-- A flush that fails does so by the output's limit or by memory.
limit_or_memory : (given : Option yaml_error_t) (error : yaml_error_t) → given ≡ Some error
    → (given ≡ None) ⊎ (given ≡ Some WriteError) ⊎ (given ≡ Some Memory)
    → (error ≡ WriteError) ⊎ (error ≡ Memory)
limit_or_memory given error is named =
    elim named [
      | inl none ↦ let wrong : Some error ≡ None = sym is ∙ none in cc
      | inr other ↦ elim other [
        | inl full ↦ let same : Some error ≡ Some WriteError = sym is ∙ full in inl cc
        | inr memory ↦ let same : Some error ≡ Some Memory = sym is ∙ memory in inr cc
      ]
    ]

failed_if_stopped : (given : Settings) (all : List Event) (error : yaml_error_t) (machine : MachineState) → (error ≡ WriteError) ⊎ (error ≡ Memory)
    → StandsStopped given all error machine → StandsFailed given all error machine
failed_if_stopped given all error machine why stopped =
    elim why [
      | inl full ↦ subst (λ e. StandsFailed given all e machine) (sym full) (subst (λ e. StandsStopped given all e machine) full stopped)
      | inr memory ↦ subst (λ e. StandsFailed given all e machine) (sym memory) (subst (λ e. StandsStopped given all e machine) memory stopped)
    ]

pub flush_failed : (given : Settings) (all held : List Event) (before after : MachineState) (error : yaml_error_t)
    → MachineStands given all before.error held before
    → before.error ≡ None → HasPage before after
    → Flushed before.page after.page (Err error)
    → MachineStands given all after.error [] after
flush_failed given all held before after error h none same flushed =
    let well : StandsWithoutError given all held before = subst (λ e. MachineStands given all e held before) none h in
    let returned = some_from_result after.page.error error flushed.answered in
    let now : MachineState = record before { page = after.page; error = after.page.error } in
    let failed : StandsFailed given all error now =
    failed_if_stopped given all error now (limit_or_memory after.page.error error returned flushed.sound_output.named)
    (between_events (unflushed_stands given all held before after.page error well flushed)) in
    subst (λ e. MachineStands given all e [] after) (sym (ap (λ (m : MachineState). m.error) same ∙ returned))
    (refl, subst (λ (m : MachineState). StandsFailed given all error m) (sym same) failed)
