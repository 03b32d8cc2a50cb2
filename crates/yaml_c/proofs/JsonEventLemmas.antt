-- JSON texts whose events were given to an emitter, through a writer over it.
use Rattle.std.specs.Prelude.{◌≡◌, ◌≢◌, ◌⊎◌, ◌∷◌, ◌++◌, ◌&&◌, Bool, true, false, Option, None, Some, List, [], ℕ, Result, Ok, Err, IsUtf8, is_none, length}
use Rattle.std.specs.Prelude.{if◌then◌else◌}
use Rattle.std.proofs.Common.{ap, arith, inl, inr, refl, subst, sym, ◌∙◌}
use Rattle.std.proofs.lemmas.Bool.{true≢false}
use Rattle.json.specs.Json.{Json, null, boolean, number, string, array, object}
use Rattle.json.specs.Token.{Token, bad}
use Rattle.json.specs.Tree.{json_tokens}
use Rattle.yaml_base.specs.Event.{Event}
use Rattle.yaml_base.specs.Prefix.{IsPrefix}
use Rattle.yaml_base.specs.declared.errors.yaml_error_t.{yaml_error_t}
use Rattle.yaml_base.specs.declared.errors.yaml_error_t.TheVariants.{Memory}
use Rattle.yaml_emitter.specs.State.{State}
use Rattle.yaml_writer.specs.Writing.{WriterState, writer_over}
use Rattle.yaml_json.specs.Failing.{IsSound, writers_error}
use Rattle.yaml_writer.specs.Failing.{HasErrorSaid}
use Rattle.yaml_json.specs.Stopped.{StopsInText}
use Rattle.yaml_json.specs.TokenEvents.{token_events, tokens_events}
use Rattle.yaml_json.specs.WritingCalls.{WritesText}
use Rattle.yaml_json.specs.declared.error.JsonError.{JsonError}
use Rattle.yaml_json.specs.declared.error.JsonError.TheVariants as errors
use Rattle.yaml_json.specs.declared.settings.JsonSettings.{JsonSettings}
use Rattle.yaml_c.specs.JsonEvents.{GaveJson, SettlesAs, closed_after, is_writers_error}
use Rattle.yaml_c.specs.Kept.{lasting_error}
use Rattle.yaml_c.specs.declared.json_events.TextGiving.{TextGiving}
use Rattle.yaml_c.specs.declared.json_events.TextGiving.TheVariants.{Answered, NoMemory}

-- An error that is said of a writer is said of its emitter.
said_of_emitter : (was : WriterState) (found : Option yaml_error_t) (now : WriterState) → HasErrorSaid was found now
    → HasErrorSaid was found (writer_over now.emitter)
said_of_emitter was None now said = said
said_of_emitter was (Some error) now said = said

-- An emitter that is closed if it has no error tells the error of the text.
lasting_by : (state : State) (code : yaml_error_t) (found : Option yaml_error_t) → state.error ≡ found → state.closed ≡ false
    → ((code ≡ Memory) × (found ≡ None)) ⊎ (found ≡ Some code)
    → lasting_error (if is_none found then record state { closed = true } else state) ≡ Some code
lasting_by state code None is unclosed (inl (memory, none)) = sym (ap (λ (e : yaml_error_t). Some e) memory)
lasting_by state code None is unclosed (inr same) = absurd (cc same)
lasting_by state code (Some error) is unclosed (inl (memory, none)) = absurd (cc none)
lasting_by state code (Some error) is unclosed (inr same) =
    ap (λ (closed : Bool). if closed then Some Memory else state.error) unclosed ∙ is ∙ same

sound_or_same : (was : WriterState) (code : yaml_error_t) (now : WriterState) → was.emitter.error ≡ None → HasErrorSaid was (Some code) now
    → ((code ≡ Memory) × (now.emitter.error ≡ None)) ⊎ (now.emitter.error ≡ Some code)
sound_or_same was code now none (inl (memory, sound)) = inl (memory, sound none)
sound_or_same was code now none (inr same) = inr same

lasts : (was now : WriterState) (error : JsonError) → was.emitter.error ≡ None → now.emitter.closed ≡ false → IsSound was (Err error) now
    → (code : yaml_error_t) → error ≡ errors.Emitter code → lasting_error (closed_after (Err error) now.emitter) ≡ Some code
lasts was now error none unclosed sound code is =
    let said : HasErrorSaid was (Some code) now = subst (λ (e : JsonError). HasErrorSaid was (writers_error e) now) is sound in
    subst (λ (e : JsonError). lasting_error (closed_after (Err e) now.emitter) ≡ Some code) (sym is)
    (lasting_by now.emitter code now.emitter.error refl unclosed (sound_or_same was code now none said))

-- The outcome of a text without an error of the writer's, with one that the emitter has, and with another, after which it is closed.
pub settles_text : (result : Result (Unit {0}) JsonError) (levels : ℕ) (state : State) → is_writers_error result ≡ false
    → SettlesAs result levels (Answered result) state state
settles_text result levels state other = (
  refl,
  sym (ap (λ (writers : Bool). if writers && is_none state.error then record state { closed = true } else state) other),
  λ writers. absurd (true≢false (sym writers ∙ other)),
)

still_open : (writers : Bool) (state : State) → (if writers && false then record state { closed = true } else state) ≡ state
still_open true state = refl
still_open false state = refl

some_or_none : (found : Option yaml_error_t) (error : yaml_error_t) → found ≡ Some error → found ≡ None → ⊥
some_or_none found error some none = cc

pub settles_failed : (result : Result (Unit {0}) JsonError) (levels : ℕ) (state : State) (error : yaml_error_t) → state.error ≡ Some error
    → SettlesAs result levels (Answered result) state state
settles_failed result levels state error has = (
  refl,
  sym (ap (λ (found : Option yaml_error_t). if is_writers_error result && is_none found then record state { closed = true } else state) has
      ∙ still_open (is_writers_error result) state),
  λ writers none. absurd (some_or_none state.error error has none),
)

pub settles_closed : (result : Result (Unit {0}) JsonError) (levels : ℕ) (before after : State) → is_writers_error result ≡ true → before.error ≡ None
    → levels ≢ 0 → after ≡ record before { closed = true } → SettlesAs result levels (Answered result) before after
settles_closed result levels before after writers none some closes = (
  refl,
  closes ∙ sym
      (ap (λ (yes : Bool). if yes && is_none before.error then record before { closed = true } else before) writers
      ∙ ap (λ (found : Option yaml_error_t). if true && is_none found then record before { closed = true } else before) none),
  λ also absent. some,
)

-- A bad token begins no value, and any other has an event.
bad_begins_none : (json : Json) (rest : List Token) → bad ∷ rest ≡ json_tokens json → ⊥
bad_begins_none null rest is = cc
bad_begins_none (boolean _) rest is = cc
bad_begins_none (number _) rest is = cc
bad_begins_none (string _) rest is = cc
bad_begins_none (array _) rest is = cc
bad_begins_none (object _) rest is = cc

token_given : (canonical in_flow : Bool) (token : Token) (more : List Event) → (token ≡ bad → ⊥) → token_events canonical in_flow token ++ more ≢ []
token_given canonical in_flow bad more good = absurd (good refl)
token_given canonical in_flow token more good = λ none. absurd (cc none)

-- If some tokens begin a value, and there are some, so are there events of them.
tokens_given : (canonical in_flow : Bool) (taken : List Token) (json : Json) → IsPrefix taken (json_tokens json) → taken ≢ []
    → tokens_events canonical in_flow taken ≢ []
tokens_given canonical in_flow [] json begins some = absurd (some refl)
tokens_given canonical in_flow (token ∷ taken) json begins some =
    token_given canonical in_flow token (tokens_events canonical in_flow taken)
    (λ is. bad_begins_none json (taken ++ begins.rest) (ap (λ (t : Token). t ∷ taken ++ begins.rest) (sym is) ∙ begins.parts))

-- If nothing was taken, the emitter has no error, and nothing is open.
begun : (settings : JsonSettings) (text : List ℕ) (before : State) (now : WriterState) (error : JsonError) → before.error ≡ None
    → (stops : StopsInText settings.values.depth settings.unique_names settings.values.flow text (writer_over before) error now)
    → (is_writers_error (Err error) ≡ true → now.emitter.error ≡ None → length now.levels ≢ 0) → is_writers_error (Err error) ≡ true
    → tokens_events before.given.canonical settings.values.flow stops.taken ≢ []
begun settings text before now (errors.Emitter code) none stops some writers =
    tokens_given before.given.canonical settings.values.flow stops.taken stops.why.json stops.why.begins
    (λ taken. some writers (ap (λ (w : WriterState). w.emitter.error) (stops.unchanged taken) ∙ none)
    (ap (λ (w : WriterState). length w.levels) (stops.unchanged taken)))
begun settings text before now _ none stops some writers = absurd (true≢false (sym writers))

over_emitter : (settings : JsonSettings) (text : List ℕ) (before : State) (now : WriterState) (result : Result (Unit {0}) JsonError) → IsUtf8 text
    → before.error ≡ None → before.closed ≡ false → WritesText settings text (writer_over before) result now
    → (is_writers_error result ≡ true → now.emitter.error ≡ None → length now.levels ≢ 0)
    → GaveJson settings.values.depth settings.unique_names settings.values.flow text (Answered result) before (closed_after result now.emitter)
over_emitter settings text before now (Ok done) utf8 none unclosed writes some =
    let wrote = writes.written in
    record {
      sound = none;
      utf8 = utf8;
      json = wrote.json;
      read = wrote.read;
      names = writes.names;
      emits = wrote.wrote.emits;
      no_error = writes.sound;
    }
over_emitter settings text before now (Err error) utf8 none unclosed writes some =
    let stops = writes.stopped in
    let still : now.emitter.closed ≡ false = stops.emits.set.closed ∙ unclosed in
    inr
    (record {
      sound = none;
      stopped = now.emitter;
      stops = record {
        utf8 = utf8;
        taken = stops.taken;
        left = stops.left;
        split = stops.split;
        why = stops.why;
        emits = stops.emits;
        sound = said_of_emitter (writer_over before) (writers_error error) now writes.sound;
        place = writes.place;
        unchanged = λ taken. ap (λ (w : WriterState). w.emitter) (stops.unchanged taken);
      };
      closes = refl;
      begun = begun settings text before now error none stops some;
      lasts = lasts (writer_over before) now error none still writes.sound;
    })

-- Nothing changed, since memory ran out before an event was given.
same_emitter : (settings : JsonSettings) (text : List ℕ) (before : State) (now : WriterState) (result : Result (Unit {0}) JsonError)
    → WritesText settings text (writer_over before) result now → is_writers_error result ≡ true → now.emitter.error ≡ None → length now.levels ≡ 0
    → now.emitter ≡ before
same_emitter settings text before now (Err (errors.Emitter code)) writes is sound none =
    ap (λ (w : WriterState). w.emitter) (writes.unopened refl sound (omega (arith, none)))
same_emitter settings text before now (Err (errors.NotJson position says)) writes is sound none = absurd (true≢false (sym is))
same_emitter settings text before now (Err (errors.Marked position)) writes is sound none = absurd (true≢false (sym is))
same_emitter settings text before now (Err (errors.TooDeep position)) writes is sound none = absurd (true≢false (sym is))
same_emitter settings text before now (Err (errors.DuplicateName position)) writes is sound none = absurd (true≢false (sym is))
same_emitter settings text before now (Ok done) writes is sound none = absurd (true≢false (sym is))

by_outcome : (settings : JsonSettings) (text : List ℕ) (before after : State) (now : WriterState) (result : Result (Unit {0}) JsonError) (outcome : TextGiving)
    → IsUtf8 text → before.error ≡ None → before.closed ≡ false → WritesText settings text (writer_over before) result now
    → SettlesAs result (length now.levels) outcome now.emitter after
    → GaveJson settings.values.depth settings.unique_names settings.values.flow text outcome before after
by_outcome settings text before after now result (Answered same) utf8 none unclosed writes settles =
    subst (λ (e : State). GaveJson settings.values.depth settings.unique_names settings.values.flow text (Answered same) before e) (sym settles.1)
    (subst (λ (r : Result (Unit {0}) JsonError).
    GaveJson settings.values.depth settings.unique_names settings.values.flow text (Answered r) before (closed_after result now.emitter))
    (sym settles.0) (over_emitter settings text before now result utf8 none unclosed writes settles.2))
by_outcome settings text before after now result NoMemory utf8 none unclosed writes settles =
    (none, settles.3 ∙ same_emitter settings text before now result writes settles.0 settles.1 settles.2)

-- By a writer that was made of the emitter, which was put back and maybe closed.
pub gave_json : (settings : JsonSettings) (text : List ℕ) (before stopped after : State) (was now : WriterState) (result : Result (Unit {0}) JsonError)
    (levels : ℕ) (outcome : TextGiving) → was ≡ writer_over before → now.emitter ≡ stopped → levels ≡ length now.levels
    → SettlesAs result levels outcome stopped after → IsUtf8 text → before.error ≡ None → before.closed ≡ false → WritesText settings text was result now
    → GaveJson settings.values.depth settings.unique_names settings.values.flow text outcome before after
gave_json settings text before stopped after was now result levels outcome over back depth settles utf8 none unclosed writes =
    by_outcome settings text before after now result outcome utf8 none unclosed
    (subst (λ (w : WriterState). WritesText settings text w result now) over writes)
    (subst (λ (s : State). SettlesAs result (length now.levels) outcome s after) (sym back)
    (subst (λ (n : ℕ). SettlesAs result n outcome stopped after) depth settles))
