-- The calls of a walk over the tokens of a text, by the calls of its writer and its lists.
use Rattle.yaml_json.proofs.Common.{suc, ℕ, ◌-◌, ◌<◌, IfSome, OnOk, Result, Ok, Err, length, take, Bool, true, List, [], ◌++◌, ◌∷◌, refl, ◌≡◌, inl, inr, ap}
use Rattle.yaml_json.proofs.Common.{sym, ◌∙◌, arith, chars, Event, scalar, Token, token_events, HoldsNames, AddsName, text_content, failure_of, IsScalar}
use Rattle.yaml_json.proofs.Common.{opener, closer, KeepsNamesAfter, BeganValue, BeginFailed, RefusesToken, Refuses, append-nil, subst, Some, NamesOnce, IsBare}
use Rattle.yaml_json.proofs.Common.{WroteEvent, start_event, WriterState, text_event, with_collection, GaveEvent, EndsInnermost, end_event, kept_then, Kept}
use Rattle.yaml_json.proofs.Common.{Reader, IsByText, Spot, Stop, at, FailsAt, levels_after_event, Memory, yaml_error_t, CollectionKind, Mapping, Sequence}
use Rattle.yaml_json.proofs.Common.{ReadsNone, StepFailed}
use Rattle.yaml_json.proofs.{Reaching.one_read, Refusing.unrefused, Walking.longer}
use Rattle.yaml_json.proofs.Stopping.{Answered, answered, if_some, kept_by_text, kept_unread}
use Rattle.yaml_json.proofs.KeepingNames.{keeps_closer, keeps_name, keeps_scalar, keeps_then}
use Rattle.yaml_json.proofs.Stops.{first_stopped, first_unread, item_stopped, named_stopped, unread, unread_memory}
use Rattle.yaml_json.proofs.Taking.{event_keeps, fails_event, gives_scalar, innermost_gone, opener_began, opener_failed, opener_without_memory, scalar_began}
use Rattle.yaml_json.proofs.Taking.{scalar_failed, scalar_keeps, step_closes, step_item, step_member, step_no_item, step_no_member, step_unclosed, step_unnamed}
use Rattle.yaml_json.proofs.Taking.{step_unread, step_without_memory}
use Rattle.yaml_json.specs.{Walk.IsInnermost, Walk.GivesTaken as GivesTokens, Walk.LeavesNames, Failing.IsStopOf, Nests.IsNesting, declared.names.Names.Names}
use Rattle.yaml_json.specs.{declared.settings.JsonSettings.JsonSettings, declared.values.Nesting.Nesting}
use Rattle.yaml_json.specs.WalkSteps.{FirstStep, OnlyGiven, TokenStep, ValueGiven, JsonWalk, WalkStep}
use Rattle.yaml_writer.proofs.{Taken.begins_ok, Taken.gives_ok, GivenLemmas.on_ok, GivenLemmas.text_is, GivenLemmas.wrote_event}
use Rattle.yaml_writer.proofs.AnswerLemmas.{answers_end, answers_event, answers_start, kept_memory}
use Rattle.yaml_writer.specs.Writing.{Begins, Gives}
use Rattle.yaml_json.specs.declared.values.Stop.TheVariants as stops

-- ---- by their results

-- a call of the writer that gives the event of a token with which a value begins
answered_step : {A P : Type 0} (settings : JsonSettings) (token : Token) (event : Event) (before after : JsonWalk A) (result : Result (Unit {0}) Stop)
    → Answered P before.writer event result after.writer
    → (P → BeganValue settings.values.depth settings.values.flow token before.nest.kinds.items before.writer after.nest.kinds.items after.writer)
    → ((error : yaml_error_t) → FailsAt before.writer event error after.writer
    → BeginFailed settings.values.depth settings.values.flow token before.nest.kinds.items before.writer error after.writer)
    → IsNesting settings.values.depth settings.unique_names after.nest → KeepsNamesAfter before.nest.names (token ∷ []) after.nest.names
    → TokenStep settings token before result after
answered_step settings token event before after (Ok done) all began failed fits names =
    record { began = began all.done; fits = fits; names = names; kept = record { grows = all.kept.grows; sound = all.kept.sound } }
answered_step settings token event before after (Err stop) all began failed fits names =
    record {
      refused = unrefused stop all.never (RefusesToken settings.values.depth before.nest.kinds.items token) (λ error. tt);
      same = λ by_text. absurd (all.never by_text);
      unmoved = all.unmoved;
      kept = all.kept;
      failed = if_some (failure_of stop) failed all.failed;
    }

-- ---- one token

-- a scalar or a name
pub answered_scalar : (before after : WriterState) (given event : Event) → given ≡ event → levels_after_event event before.levels ≡ before.levels
    → (answer : Result (Unit {0}) yaml_error_t) (result : Result (Unit {0}) Stop) → IsStopOf answer result → Gives before given answer after
    → Answered (WroteEvent before event after) before event result after
answered_scalar before after given event same keeps answer result answers gives =
    answered _ _ _ _ _ _ answers (on_ok _ (wrote_event before after _ _ same) (gives_ok _ _ _ _ gives)) (answers_event _ _ _ _ _ same keeps gives)

pub scalar_step : {A : Type 0} (settings : JsonSettings) (token : Token) (event : Bool → Event) → IsScalar token
    → ((canonical : Bool) → token_events canonical settings.values.flow token ≡ event canonical ∷ []) → (nest : Nesting A)
    → IsNesting settings.values.depth settings.unique_names nest → (before after : WriterState) (given : Event) → given ≡ event before.canonical
    → (answer : Result (Unit {0}) yaml_error_t) (result : Result (Unit {0}) Stop) → IsStopOf answer result → Gives before given answer after
    → TokenStep settings token (at nest before) result (at nest after)
scalar_step settings token event is events nest fits before after given same answer result answers gives =
    answered_step settings token (event before.canonical) (at nest before) (at nest after) result (answered_scalar before after given (event before.canonical)
    same (event_keeps settings.values.flow token event (scalar_keeps token is) events before.canonical before.levels) answer result answers gives)
    (scalar_began settings.values.depth settings.values.flow nest.kinds.items before after token event is events)
    (scalar_failed settings.values.depth settings.values.flow nest.kinds.items before after token event is events) fits (keeps_scalar token nest.names is)

-- a collection begins, for which there is room
pub opener_step : {A : Type 0} (settings : JsonSettings) (kind : CollectionKind) (before after : JsonWalk A)
    → length before.nest.kinds.items < settings.values.depth → after.nest.kinds.items ≡ before.nest.kinds.items ++ kind ∷ []
    → IsNesting settings.values.depth settings.unique_names after.nest → KeepsNamesAfter before.nest.names (opener kind ∷ []) after.nest.names
    → (answer : Result (Unit {0}) yaml_error_t) (result : Result (Unit {0}) Stop) → IsStopOf answer result
    → Begins kind before.writer (start_event settings.values.flow kind) answer after.writer → TokenStep settings (opener kind) before result after
opener_step settings kind before after room opened fits names answer result answers begins =
    let event = start_event settings.values.flow kind in
    let levels = before.nest.kinds.items in
    answered_step settings (opener kind) event before after result (answered _ _ _ _ _ _ answers (begins_ok kind before.writer _ _ _ begins)
    (answers_start settings.values.flow kind _ _ _ begins)) (opener_began settings.values.depth settings.values.flow levels before.writer after.writer _ kind
    room opened) (opener_failed settings.values.depth settings.values.flow levels before.writer after.writer kind room) fits names

-- for which there is no memory
pub opener_without_room : {A : Type 0} (settings : JsonSettings) (kind : CollectionKind) (nest later : Nesting A) (writer : WriterState)
    → length nest.kinds.items < settings.values.depth → TokenStep settings (opener kind) (at nest writer) (Err (stops.Failed Memory)) (at later writer)
opener_without_room settings kind nest later writer room =
    record {
      refused = tt;
      same = λ by_text. refl;
      unmoved = λ sound. refl;
      kept = kept_memory failure_of writer (stops.Failed Memory) refl;
      failed = opener_without_memory settings.values.depth settings.values.flow nest.kinds.items writer writer kind room refl;
    }

-- no value begins with the token
pub refused_step : {A : Type 0} (settings : JsonSettings) (token : Token) (nest : Nesting A) (writer : WriterState) (spot : Spot)
    → RefusesToken settings.values.depth nest.kinds.items token (stops.NotJson spot)
    → TokenStep settings token (at nest writer) (Err (stops.NotJson spot)) (at nest writer)
refused_step settings token nest writer spot refused =
    record { refused = refused; same = λ by_text. refl; unmoved = λ sound. refl; kept = kept_by_text writer (stops.NotJson spot) tt; failed = tt }

-- ---- the first token of a reader

module _ {A : Type 0} (settings : JsonSettings) (reader left : Reader) where
  pub first_step : (before after : JsonWalk A) (token : Token) → reader.ahead ≡ token ∷ left.ahead → (result : Result (Unit {0}) Stop)
      → TokenStep settings token before result after → FirstStep settings reader before result left after
  first_step before after token first (Ok done) step =
      record {
        began = record { token = token; first = first; began = step.began };
        fits = step.fits;
        names = record { taken = token ∷ []; parts = first; keeps = step.names };
        kept = step.kept;
      }
  first_step before after token first (Err stop) step =
      record {
        refused = first_stopped settings.values.depth before.nest.kinds.items reader.ahead token left.ahead first stop step.refused;
        same = step.same;
        unmoved = step.unmoved;
        kept = step.kept;
        failed = if_some (failure_of stop) (λ error failed. inr (record { token = token; after = left.ahead; first = first; failed = failed })) step.failed;
      }

  -- there is none
  pub first_missing : (nest : Nesting A) (writer : WriterState) (stop : Stop) → ReadsNone reader.ahead stop
      → FirstStep settings reader (at nest writer) (Err stop) left (at nest writer)
  first_missing nest writer stop none =
      record {
        refused = first_unread settings.values.depth nest.kinds.items reader.ahead stop none;
        same = λ by_text. refl;
        unmoved = λ sound. refl;
        kept = kept_unread writer reader.ahead stop none;
        failed = if_some (failure_of stop) (λ error memory. inl (memory, refl)) (unread_memory reader.ahead stop none);
      }

-- ---- an item, a member, or an end

-- the text stops the walk at the next token, or an allocation failed before it
module _ {A : Type 0} (settings : JsonSettings) (reader left : Reader) (before : JsonWalk A) (nest : Nesting A) where
  pub walk_refused : (stop : Stop) → IsByText stop
      → Refuses settings.values.depth settings.unique_names settings.values.flow before.nest.kinds.items before.nest.names reader.ahead left.before before.writer stop
      before.writer
      → IfSome (failure_of stop)
      (λ error. StepFailed settings.values.depth settings.values.flow reader.ahead before.nest.kinds.items before.writer error before.writer)
      → WalkStep settings reader before (Err stop) left (at nest before.writer)
  walk_refused stop by_text refuses failed =
      record { refused = λ also. refuses; level = λ sound. refl; kept = kept_by_text before.writer stop by_text; failed = failed }

  pub walk_without_memory : WalkStep settings reader before (Err (stops.Failed Memory)) left (at nest before.writer)
  walk_without_memory =
      record {
        refused = λ by_text. absurd by_text;
        level = λ sound. refl;
        kept = kept_memory failure_of before.writer (stops.Failed Memory) refl;
        failed = step_without_memory settings.values.depth settings.values.flow reader.ahead before.nest.kinds.items before.writer before.writer refl;
      }

module _ {A : Type 0} (settings : JsonSettings) (reader left : Reader) (before after : JsonWalk A) (outer : List CollectionKind)
    (fits : IsNesting settings.values.depth settings.unique_names before.nest) where
  -- no token is left
  pub walk_missing : (kind : CollectionKind) → before.nest.kinds.items ≡ outer ++ kind ∷ [] → left.before ≡ reader.ahead → (stop : Stop)
      → ReadsNone reader.ahead stop → WalkStep settings reader before (Err stop) left before
  walk_missing kind is were stop none =
      record {
        refused = unread settings.values.depth settings.unique_names settings.values.flow before.nest.kinds.items outer before.nest.names fits.1 reader.ahead
            before.writer before.writer refl left.before were kind is stop none;
        level = λ sound. refl;
        kept = kept_unread before.writer reader.ahead stop none;
        failed = step_unread settings.values.depth settings.values.flow reader.ahead before.nest.kinds.items before.writer stop none;
      }

  -- the innermost ends
  left_fits : (kind : CollectionKind) → before.nest.kinds.items ≡ outer ++ kind ∷ []
      → after.nest.kinds.items ≡ take (length before.nest.kinds.items - 1) before.nest.kinds.items → LeavesNames before.nest.names after.nest.names
      → IsNesting settings.values.depth settings.unique_names after.nest
  left_fits kind is rest leaves =
      let gone : length after.nest.kinds.items ≡ length outer = ap length (innermost_gone before.nest.kinds.items outer after.nest.kinds.items kind is rest) in
      let more : length before.nest.kinds.items ≡ suc (length outer) = ap length is ∙ longer outer kind in
      let deep = fits.0 in
      let as_many : after.nest.names.are_kept ≡ true → length after.nest.names.levels.items ≡ length after.nest.kinds.items =
      λ kept. let was = sym leaves.0 ∙ kept in
      let fewer = leaves.2 was in
      let level = fits.1.1 was in omega (arith, fewer, level, more, gone) in
      (omega (arith, deep, more, gone), (leaves.0 ∙ fits.1.0, as_many))

  pub walk_closed : (kind : CollectionKind) → before.nest.kinds.items ≡ outer ++ kind ∷ [] → reader.ahead ≡ closer kind ∷ left.ahead
      → left.before ≡ reader.ahead → after.nest.kinds.items ≡ take (length before.nest.kinds.items - 1) before.nest.kinds.items
      → LeavesNames before.nest.names after.nest.names → (result : Result (Unit {0}) Stop)
      → Answered (EndsInnermost before.writer (Ok tt) after.writer) before.writer (end_event kind) result after.writer
      → WalkStep settings reader before result left after
  walk_closed kind is first were rest leaves (Ok done) all =
      record {
        stepped = step_closes _ _ _ _ outer kind is _ _ _ _ first rest all.done;
        fits = left_fits kind is rest leaves;
        names = record { taken = closer kind ∷ []; parts = first; keeps = keeps_closer kind before.nest.names after.nest.names leaves };
        last = one_read reader left (closer kind) were first;
        kept = record { grows = all.kept.grows; sound = all.kept.sound };
      }
  walk_closed kind is first were rest leaves (Err stop) all =
      record {
        refused = λ by_text. absurd (all.never by_text);
        level = λ sound. ap (λ (w : WriterState). w.levels) (all.unmoved sound);
        kept = all.kept;
        failed = if_some (failure_of stop) (λ error. step_unclosed settings.values.depth settings.values.flow reader.ahead before.nest.kinds.items outer kind is
            before.writer left.ahead error after.writer first) all.failed;
      }

  -- an item
  pub walk_item : before.nest.kinds.items ≡ outer ++ Sequence ∷ [] → (token : Token) → (token ≡ Token.end_array → ⊥)
      → reader.ahead ≡ token ∷ left.ahead → left.before ≡ reader.ahead → (result : Result (Unit {0}) Stop) → TokenStep settings token before result after
      → WalkStep settings reader before result left after
  walk_item is token isn't first were (Ok done) step =
      record {
        stepped = step_item _ _ _ outer is _ isn't _ _ _ first _ _ step.began;
        fits = step.fits;
        names = record { taken = token ∷ []; parts = first; keeps = step.names };
        last = one_read reader left token were first;
        kept = step.kept;
      }
  walk_item is token isn't first were (Err stop) step =
      record {
        refused = λ by_text. item_stopped _ _ _ _ outer _ fits.1 _ _ _ (step.same by_text) _ were is token left.ahead first isn't _ step.refused;
        level = λ sound. ap (λ (w : WriterState). w.levels) (step.unmoved sound);
        kept = step.kept;
        failed = if_some (failure_of stop) (λ error. step_no_item settings.values.depth settings.values.flow before.nest.kinds.items outer is token isn't
            before.writer reader.ahead left.ahead first error after.writer) step.failed;
      }

-- the end of a collection
pub answered_end : (before after : WriterState) (kind : CollectionKind) → IsInnermost kind before.levels → IsBare before
    → (answer : Result (Unit {0}) yaml_error_t) (result : Result (Unit {0}) Stop) → IsStopOf answer result → EndsInnermost before answer after
    → Answered (EndsInnermost before (Ok tt) after) before (end_event kind) result after
answered_end before after kind inner bare answer result answers ends =
    answered (EndsInnermost before (Ok tt) after) before after (end_event kind) answer result answers (ended answer ends)
    (answers_end before after answer inner.outer kind inner.is bare ends) where
      ended : (answer : Result (Unit {0}) yaml_error_t) → EndsInnermost before answer after → OnOk answer (EndsInnermost before (Ok tt) after)
      ended (Ok done) ends = ends
      ended (Err error) ends = tt

-- the event of a key
abbrev pub key_event : List ℕ → Event
key_event key = scalar (text_content (chars key))

pub answered_key : (before after : WriterState) (key : List ℕ) → IsBare before → (answer : Result (Unit {0}) yaml_error_t) (result : Result (Unit {0}) Stop)
    → IsStopOf answer result → Gives before (text_event before (chars key)) answer after
    → Answered (WroteEvent before (key_event key) after) before (key_event key) result after
answered_key before after key bare answer result answers gives =
    answered_scalar before after (text_event before (chars key)) (key_event key) (text_is before (chars key) bare) refl answer result answers gives

module _ {A : Type 0} (settings : JsonSettings) (reader middle left : Reader) (before after : JsonWalk A) (outer : List CollectionKind)
    (fits : IsNesting settings.values.depth settings.unique_names before.nest) (is : before.nest.kinds.items ≡ outer ++ Mapping ∷ []) (key : List ℕ)
    (first : reader.ahead ≡ Token.key key ∷ middle.ahead) (later : Names A) (named : WriterState) where
  -- at which the writer failed
  pub walk_unnamed : (stop : Stop) → Answered (WroteEvent before.writer (key_event key) named) before.writer (key_event key) (Err stop) named
      → WalkStep settings reader before (Err stop) middle (at (record before.nest { names = later }) named)
  walk_unnamed stop all =
      record {
        refused = λ by_text. absurd (all.never by_text);
        level = λ sound. ap (λ (w : WriterState). w.levels) (all.unmoved sound);
        kept = all.kept;
        failed = if_some _ (λ error failed. step_unnamed _ _ _ outer is key _ _ middle.ahead first _ _ (fails_event settings.values.flow before.nest.kinds.items
            before.writer named (Token.key key) (λ k. key_event key) error (λ k. refl) failed)) all.failed;
      }

  -- and the value after it begins
  module _ (same : later.are_kept ≡ before.nest.names.are_kept) (new : Bool) (adds :
      (names : List (List ℕ)) → (more : List (List (List ℕ))) → HoldsNames (names ∷ more) before.nest.names → AddsName names more key new later)
      (fresh : new ≡ true) (wrote : WroteEvent before.writer (key_event key) named) (kept : Kept before.writer (Ok tt) named)
      (were : left.before ≡ middle.ahead) where
    gave : GivesTokens settings.values.flow before.nest.kinds.items before.writer (Token.key key ∷ []) before.nest.kinds.items named
    gave = gives_scalar settings.values.flow before.nest.kinds.items before.writer named (Token.key key) (λ k. key_event key) (λ c f l. refl) (λ k. refl) wrote

    pub walk_member : (result : Result (Unit {0}) Stop)
        → FirstStep settings middle (at (record before.nest { names = later }) named) result left after → WalkStep settings reader before result left after
    walk_member (Ok done) step =
        record {
          stepped = step_member _ _ _ outer is key _ _ _ first _ gave _ _ _ step.began;
          fits = step.fits;
          names = record {
            taken = Token.key key ∷ step.names.taken;
            parts = first ∙ ap (λ (all : List Token). Token.key key ∷ all) step.names.parts;
            keeps = keeps_then before.nest.names later after.nest.names (Token.key key ∷ []) step.names.taken (keeps_name before.nest.kinds.items outer Mapping
                is settings.unique_names key before.nest.names later fits.1 same new adds fresh) step.names.keeps;
          };
          last = record {
            front = Token.key key ∷ [];
            last = step.began.token;
            parts = first ∙ ap (λ (all : List Token). Token.key key ∷ all) step.began.first;
            were = were ∙ step.began.first;
          };
          kept = kept_then before.writer named after.writer (Ok tt) kept step.kept;
        }
    walk_member (Err stop) step =
        record {
          refused = λ by_text. named_stopped _ _ _ _ outer _ fits.1 _ _ _ is key _ first later same _ adds named gave _ were fresh (step.same by_text) _
              step.refused;
          level = λ sound. ap (λ (w : WriterState). w.levels) (step.unmoved sound) ∙ wrote.levels;
          kept = kept_then before.writer named after.writer (Err stop) kept step.kept;
          failed = if_some (failure_of stop) (λ error. step_no_member settings.values.depth settings.values.flow before.nest.kinds.items outer is key
              before.writer reader.ahead middle.ahead first named gave error after.writer) step.failed;
        }

-- ---- a value

-- Nothing is left after it.
pub only_value : {A : Type 0} (settings : JsonSettings) (reader left : Reader) (before after : JsonWalk A) → left.ahead ≡ []
    → ValueGiven settings reader before left after → OnlyGiven settings reader before after
only_value settings reader left before after none given =
    record {
      none = given.none;
      written = record {
        json = given.written.json;
        read = given.written.read ∙ ap (λ (rest : List Token). Some (given.written.json, rest)) none;
        wrote = given.written.wrote;
      };
      names = λ wanted. let once = given.names wanted in
          subst (NamesOnce []) (sym (append-nil once.0) ∙ ap (λ (rest : List Token). once.0 ++ rest) (sym none) ∙ once.1) once.2;
      kept = given.kept;
    }
