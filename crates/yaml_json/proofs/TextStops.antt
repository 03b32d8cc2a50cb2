-- The meaning of an error for a text, and for the writer that was given its first tokens.
use Rattle.yaml_json.proofs.Common.{usable_by, ℕ, IfSome, Option, Some, Err, Bool, List, ◌≡◌, inl, inr, refl, subst, sym, failure_of, FailedInText, ap, ◌∙◌}
use Rattle.yaml_json.proofs.Common.{◌++◌, ◌⊎◌, WriterState, Token, ExplainsError, WhyStopped, ◌+◌, ◌<◌, ◌≤◌, [], arith, length, tokens_events, Kept}
use Rattle.yaml_json.proofs.Common.{writers_error, IsByText, StopsInText, JsonError, HasPlaceWithin, Stop, said_at, IsPositionAfter, Expected, yaml_error_t}
use Rattle.yaml_json.proofs.Common.{Memory, Position, GaveEvents}
use Rattle.yaml_base.specs.Positions.{IsPositionOf}
use Rattle.std.specs.Str.{IsValidUpTo}
use Rattle.yaml_json.{specs.Refused.TokensStopAt, specs.Walk.MatchesStop, specs.Walk.StopsText, specs.Offsets.StopsAtLexeme, proofs.FaultPlaces.said_within}
use Rattle.yaml_json.specs.Places.{HasPlaceAfter, HasPlace, IsAt, IsAtIn, IsPlacedAt, SaysFault, offset_by, many_bytes}
use Rattle.yaml_writer.specs.Failing.{HasErrorSaid}
use Rattle.yaml_json.specs.declared.error.StreamError.TheVariants as faults
use Rattle.yaml_json.specs.declared.error.JsonError.TheVariants as errors
use Rattle.yaml_json.specs.declared.values.Stop.TheVariants as stops

module _ (depth : ℕ) (unique in_flow : Bool) (text : List ℕ) (was now : WriterState) where
  why_returned : (taken left : List Token) (stop : Stop) (error : JsonError) → MatchesStop text stop error → IsByText stop
      → WhyStopped depth unique taken left stop → TokensStopAt depth unique text taken left error
  why_returned taken left (stops.NotJson spot) (errors.NotJson position says) same is why = (why, same)
  why_returned taken left (stops.NotJson spot) (errors.Marked position) same is why = (why, same)
  why_returned taken left stops.TooDeep (errors.TooDeep position) same is why = why
  why_returned taken left stops.NameAgain (errors.DuplicateName position) same is why = why
  why_returned taken left (stops.Failed code) error same is why = absurd is
  why_returned taken left _ _ same is why = absurd same

  stopped_by_text : (stop : Stop) (error : JsonError) → MatchesStop text stop error → IsByText stop
      → StopsText depth unique in_flow text was stop now → StopsInText depth unique in_flow text was error now
  stopped_by_text stop error same is stopped =
      record {
        taken = stopped.1.taken;
        left = stopped.1.left;
        split = stopped.1.parts;
        why = why_returned stopped.1.taken stopped.1.left stop error same is stopped.1.why;
        emits = stopped.1.gave.emits;
        usable = usable_by was now (tokens_events was.canonical in_flow stopped.1.taken) stopped.1.gave;
        unchanged = stopped.1.unchanged;
      }

  stopped_by_writer : (code returned : yaml_error_t) → FailedInText depth in_flow text was code now
      → StopsInText depth unique in_flow text was (errors.Emitter returned) now
  stopped_by_writer code returned failed =
      record {
        taken = failed.0;
        left = failed.1.0.left;
        split = failed.1.0.parts;
        why = failed.1.1;
        emits = failed.1.0.gave.gave.emits;
        usable = usable_by was now (tokens_events was.canonical in_flow failed.0) failed.1.0.gave.gave;
        unchanged = failed.1.0.unchanged;
      }

  -- An error has the same meaning as the stop.
  pub text_stopped : (stop : Stop) (error : JsonError) → MatchesStop text stop error
      → (IsByText stop → StopsText depth unique in_flow text was stop now)
      → IfSome (failure_of stop) (λ code. FailedInText depth in_flow text was code now) → StopsInText depth unique in_flow text was error now
  text_stopped (stops.NotJson spot) error same refused failed = stopped_by_text (stops.NotJson spot) error same tt (refused tt)
  text_stopped stops.TooDeep error same refused failed = stopped_by_text stops.TooDeep error same tt (refused tt)
  text_stopped stops.NameAgain error same refused failed = stopped_by_text stops.NameAgain error same tt (refused tt)
  text_stopped (stops.Failed code) (errors.Emitter returned) same refused failed = stopped_by_writer code returned failed
  text_stopped _ _ same refused failed = absurd same

  -- which explains the error
  pub explained : (error : JsonError) → StopsInText depth unique in_flow text was error now → ExplainsError depth unique text error
  explained (errors.TooDeep position) stops =
      let why = stops.why in
      record {
        taken = stops.taken;
        next = why.next;
        left = why.after;
        parts = ap (λ (all : List Token). stops.taken ++ all) (sym why.first) ∙ stops.split;
        begins = why.begins;
        some = why.some;
        deeper = why.deeper;
      }
  explained (errors.DuplicateName position) stops =
      let why = stops.why in
      record {
        wanted = why.wanted;
        taken = stops.taken;
        name = why.name;
        left = why.after;
        parts = ap (λ (all : List Token). stops.taken ++ all) (sym why.first) ∙ stops.split;
        begins = why.begins;
        some = why.some;
        twice = why.twice;
      }
  explained (errors.Emitter code) stops = tt
  explained _ stops = (
    record { taken = stops.taken; left = stops.left; parts = stops.split; begins = stops.why.0.begins; breaks = stops.why.0.breaks },
    stops.why.1,
  )

  -- and the writer's failure
  code_said : (code : yaml_error_t) → HasErrorSaid was (Some code) now → (code ≡ Memory) ⊎ (now.emitter.error ≡ Some code)
  code_said code (inl memory) = inl memory.0
  code_said code (inr has) = inr has

  pub given_by : {error : JsonError} → (stops : StopsInText depth unique in_flow text was error now)
      → GaveEvents was (tokens_events was.canonical in_flow stops.taken) now
  given_by stops = record { emits = stops.emits; canonical = stops.usable.canonical; levels = stops.usable.levels; bare = stops.usable.bare }

  pub writer_failed : (error : JsonError) → StopsInText depth unique in_flow text was error now → HasErrorSaid was (writers_error error) now
      → IfSome (writers_error error) (λ code. FailedInText depth in_flow text was code now)
  writer_failed (errors.Emitter code) stops said = (
    stops.taken,
    (
      record { left = stops.left; parts = stops.split; gave = record { gave = given_by stops; is_error = code_said code said }; unchanged = stops.unchanged },
      stops.why,
    ),
  )
  writer_failed _ stops said = tt

-- the emitter's error is the one that is said
pub said_as : (was now : WriterState) (stop : Stop) (found : Option yaml_error_t) → found ≡ failure_of stop → Kept was (Err stop) now
    → HasErrorSaid was found now
said_as was now stop found is kept = subst (λ (f : Option yaml_error_t). HasErrorSaid was f now) (sym is) kept.sound

-- The error is at the place of the stop, or at the fault there.
pub placed_as : (depth : ℕ) (text : List ℕ) (lexeme : ℕ) (stop : Stop) (error : JsonError) → MatchesStop text stop error
    → (IsByText stop → StopsAtLexeme depth text lexeme stop) → SaysFault text lexeme error → IsPlacedAt depth text (offset_by text lexeme error) error
placed_as depth text lexeme (stops.NotJson spot) (errors.NotJson position says) same placed fault =
    (lexeme, (placed tt, (λ i. (sym fault i, (said_at text lexeme).1))))
placed_as depth text lexeme (stops.NotJson spot) (errors.Marked position) same placed fault = placed tt
placed_as depth text lexeme stops.TooDeep (errors.TooDeep position) same placed fault = placed tt
placed_as depth text lexeme stops.NameAgain (errors.DuplicateName position) same placed fault = placed tt
placed_as depth text lexeme stop (errors.Emitter returned) same placed fault = tt
placed_as depth text lexeme _ _ same placed fault = absurd same

offset_within : (text : List ℕ) (lexeme : ℕ) (error : JsonError) → lexeme ≤ length text → offset_by text lexeme error ≤ length text
offset_within text lexeme (errors.NotJson position says) within = said_within text lexeme within
offset_within text lexeme _ within = within

-- and in the text that it is in
module _ (depth : ℕ) (text part front : List ℕ) (lexeme before : ℕ) (is_front : before ≡ length front) (fits : length front + length part ≤ length text) where
  placed_there : (stop : Stop) (error : JsonError) → MatchesStop part stop error → (IsByText stop → StopsAtLexeme depth part lexeme stop)
      → IsAtIn text before part lexeme error → SaysFault part lexeme error → lexeme ≤ length part → HasPlaceAfter depth text front part error
  placed_there stop error same placed is fault within =
      let at = offset_by part lexeme error in
      let less : at ≤ length part = offset_within part lexeme error within in (
        at,
        (subst (λ n. IsAt text (n + at) error) is_front (is (omega (arith, is_front, fits, less))), placed_as depth part lexeme stop error same placed fault),
      )

  pub placed_after : (stop : Stop) (error : JsonError) → MatchesStop part stop error → (IsByText stop → StopsAtLexeme depth part lexeme stop)
      → IsAtIn text before part lexeme error → SaysFault part lexeme error → HasPlaceAfter depth text front part error
  placed_after stop (errors.Emitter returned) same placed is fault = (0, (tt, tt))
  placed_after (stops.NotJson spot) error same placed is fault = placed_there (stops.NotJson spot) error same placed is fault (placed tt).start.within
  placed_after stops.TooDeep error same placed is fault = placed_there stops.TooDeep error same placed is fault (placed tt).start.within
  placed_after stops.NameAgain error same placed is fault = placed_there stops.NameAgain error same placed is fault (placed tt).start.within
  placed_after _ _ same placed is fault = absurd same

-- in a text before which none came
pub placed_whole : (depth : ℕ) (text : List ℕ) (lexeme : ℕ) (stop : Stop) (error : JsonError) → MatchesStop text stop error
    → (IsByText stop → StopsAtLexeme depth text lexeme stop) → IsAtIn text 0 text lexeme error → SaysFault text lexeme error → HasPlace depth text error
placed_whole depth text lexeme stop error same placed is fault =
    let (at, (is_at, placed_at)) = placed_after depth text text [] lexeme 0 refl (omega arith) stop error same placed is fault in
    let whole : length {A = ℕ} [] + at ≡ at = omega arith in
    (at, (subst (λ n. IsAt text n error) whole is_at, placed_at))

pub placed_first : (depth : ℕ) (text : List ℕ) (error : JsonError) → HasPlace depth text error → HasPlaceWithin depth [] text (faults.Refused error)
placed_first depth text error (at, (is, placed)) =
    let whole : at ≡ length {A = ℕ} [] + at = omega arith in
    (at, ((λ less. subst (λ n. IsAt text n error) whole is), placed))

-- The position is counted from a place before the text, and the fault stays.
pub fault_shifted : (depth : ℕ) (front part : List ℕ) (start position later : Position) (says : Expected) → IsPositionAfter front start
    → ((before text : List ℕ) (at : ℕ) → IsPositionAfter before start → IsPositionOf text at position → at ≤ length text
    → length before + at < many_bytes → IsPositionOf (before ++ text) (length before + at) later)
    → HasPlaceWithin depth [] part (faults.Refused (errors.NotJson position says))
    → HasPlaceWithin depth front part (faults.Refused (errors.NotJson later says))
fault_shifted depth front part start position later says follows moves (at, (is, (lexeme, (cannot, said)))) =
    let within : at ≤ length part = subst (λ (found : Expected × ℕ). found.1 ≤ length part) said (said_within part lexeme cannot.start.within) in
    let whole : length {A = ℕ} [] + at ≡ at = omega arith in (
      at,
      (
        (λ less. moves front part at follows (subst (λ n. IsPositionOf part n position) whole (is (omega (arith, less)))) within less),
        (lexeme, (cannot, said)),
      ),
    )

pub placed_no_text : (depth : ℕ) (bytes : List ℕ) (at : ℕ) (position : Position) → IsPositionOf bytes at position → IsValidUpTo bytes at
    → HasPlaceWithin depth [] bytes (faults.NotText position)
placed_no_text depth bytes at position is valid =
    let e : at ≡ length {A = ℕ} [] + at = omega arith in (at, ((λ less. subst (λ n. IsPositionOf bytes n position) e is), valid))
