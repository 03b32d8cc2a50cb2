-- The walk from its start on.
use Rattle.yaml_toml.proofs.Common.{CollectionKind, sequence_start, open_count, ◌≡◌, ℕ, length, ◌≤◌, ◌∷◌, ◌++◌, [], List, Bool, Ok, refl, ap, subst, sym, ◌∙◌}
use Rattle.yaml_toml.proofs.Common.{append-nil, append_assoc, arith, Event, WriterState, WasGiven, toml_events, count_after, Moved, GaveSome, KeysHaveNumbers}
use Rattle.yaml_toml.proofs.Common.{PendingHaveNumbers, RestHasNumbers, kinds_of, rest_kind, pending, rest_events, value_due, walk_at, Rest, Stop, kept_then}
use Rattle.yaml_toml.proofs.Common.{gave_events_then, TomlNodes, table, Header, IsBare, ValueSettings}
use Rattle.yaml_emitter.proofs.AcceptedLists.{Stays, after_event, few_open}
use Rattle.yaml_toml.proofs.{Answering.moved_then, Fitting.DocumentFits, Fitting.nests_first, Fitting.nests_never, Pending.kinds-push, Pending.pending-push}
use Rattle.yaml_toml.specs.{Failing.GaveFirst, OpenCounts.OpensAtMost, WalkSteps.RootStopped, WalkSteps.StepGiven, WalkSteps.StepStopped}
use Rattle.yaml_toml.specs.Walk.{StepsStop, KeptAfterStop, HasInnermost}
use Rattle.yaml_writer.{proofs.GivenLemmas.leaves_same, specs.WasGiven.GivenLeaving, specs.WasGiven.levels_after}

numbers-pull : (opened : List Rest) (r : Rest) → RestHasNumbers r → PendingHaveNumbers opened → PendingHaveNumbers (opened ++ r ∷ [])
numbers-pull [] r have rest = (have, tt)
numbers-pull (outer ∷ inner) r have rest = (rest.0, numbers-pull inner r have rest.1)

-- ---- how many are open

pub opens_fit : (most before behind : ℕ) (events : List Event) → OpensAtMost most before events behind → behind ≤ most
opens_fit most before behind [] opens = omega (arith, opens.0, opens.1)
opens_fit most before behind (event ∷ events) opens = opens_fit most (count_after event before) behind events opens.1

pub opens_then : (most before between behind : ℕ) (first second : List Event) → OpensAtMost most before first between → OpensAtMost most between second behind
    → OpensAtMost most before (first ++ second) behind
opens_then most before between behind [] second one other = subst (λ n. OpensAtMost most n second behind) (sym one.1) other
opens_then most before between behind (event ∷ first) second one other =
    (one.0, opens_then most (count_after event before) between behind first second one.1 other)

same_after : (event : Event) (n : ℕ) → count_after event n ≡ after_event event n
same_after (sequence_start start) n = refl
same_after _ _ = refl

stays_if : (most before behind : ℕ) (events : List Event) → OpensAtMost most before events behind → Stays most before events
stays_if most before behind [] opens = opens.0
stays_if most before behind (event ∷ events) opens =
    (opens.0, subst (λ n. Stays most n events) (same_after event before) (stays_if most (count_after event before) behind events opens.1))

-- no more after any prefix
pub few_of : (most behind : ℕ) (events : List Event) → OpensAtMost most 0 events behind → (prefix rest : List Event) → prefix ++ rest ≡ events
    → open_count prefix ≤ most
few_of most behind events opens prefix rest is = few_open most events prefix rest (stays_if most 0 behind events opens) is

-- ---- the walk so far

pub record Running (most : ℕ) (in_flow : Bool) (start : WriterState) (all : List Event) (numbers : Type 0) (now : WriterState) (opened : List Rest)
    : Type 0 where
  pub given : List Event
  pub moved : Moved start given [] (kinds_of opened) now
  pub parts : given ++ pending start.canonical in_flow opened ≡ all
  pub numbers_in : PendingHaveNumbers opened → numbers
  pub kept : KeptAfterStop start (Ok tt) now
  pub few : OpensAtMost most 0 given (length (kinds_of opened))

-- the given events leave these collections open, within those that were
module _ {most : ℕ} {in_flow : Bool} {start now : WriterState} {all : List Event} {numbers : Type 0} {opened : List Rest}
    (so : Running most in_flow start all numbers now opened) where
  pub so_given : GivenLeaving start so.given (start.levels ++ kinds_of opened) now
  so_given =
      let moved = so.moved start.levels (sym (append-nil start.levels)) in
      leaves_same start now so.given (levels_after so.given start.levels) (start.levels ++ kinds_of opened) (sym moved.0.levels ∙ moved.1) moved.0

-- its root table was begun
module _ (settings : ValueSettings) (start now : WriterState) (root : TomlNodes) (after : List Rest) where
  abbrev pub root_due : List Event
  root_due = toml_events start.canonical settings.flow (table Header root)

  pub runs_first : StepGiven settings (value_due (table Header root)) (walk_at start []) (walk_at now after)
      → DocumentFits settings.depth root after × Running settings.depth settings.flow start root_due (KeysHaveNumbers root) now after
  runs_first step = (
    nests_first settings.depth root after step.nests,
    record {
      given = step.written.given;
      moved = step.written.moved;
      parts = step.written.parts ∙ append-nil root_due;
      numbers_in = λ have. (step.written.numbers_in have).0;
      kept = step.kept;
      few = step.written.few (omega arith);
    },
  )

  -- or not
  pub stopped_first : (stopped : Stop) → IsBare start → StepStopped settings (value_due (table Header root)) (walk_at start []) stopped (walk_at now after)
      → RootStopped settings root start stopped now
  stopped_first stopped bare step =
      let stops = subst (λ (events : List Event). StepsStop settings.depth start events [] now) (append-nil root_due) step.stopped in
      let few = stops.few (omega arith) in
      record {
        nests = nests_never settings.depth root stopped after step.nests;
        stopped = record { given = stops.given; begins = stops.begins; few = few_of settings.depth few.0 stops.given few.1; gave = stops.gave bare };
        kept = step.kept;
      }

module _ {most : ℕ} {in_flow : Bool} {start between : WriterState} {all : List Event} {numbers : Type 0} (left : List Rest) (r : Rest)
    (so : Running most in_flow start all numbers between (left ++ r ∷ [])) where
  so_far : GivenLeaving start so.given (start.levels ++ kinds_of (left ++ r ∷ [])) between
  so_far = so_given so

  same : between.canonical ≡ start.canonical
  same = so_far.canonical

  due_is : so.given ++ (rest_events between.canonical in_flow r ++ pending between.canonical in_flow left) ≡ all
  due_is =
      ap (λ (c : Bool). so.given ++ (rest_events c in_flow r ++ pending c in_flow left)) same
      ∙ ap (λ (events : List Event). so.given ++ events) (sym (pending-push start.canonical in_flow left r)) ∙ so.parts

  so_few : OpensAtMost most 0 so.given (length (kinds_of left ++ rest_kind r ∷ []))
  so_few = subst (λ (ks : List CollectionKind). OpensAtMost most 0 so.given (length ks)) (kinds-push left r) so.few

  -- the innermost is of its kind
  pub innermost : HasInnermost between (kinds_of left) (rest_kind r)
  innermost = (start.levels, so_far.levels ∙ ap (λ (ks : List CollectionKind). start.levels ++ ks) (kinds-push left r))

  -- the walk stopped
  pub runs_stopped : (now : WriterState) → StepsStop most between (rest_events between.canonical in_flow r ++ pending between.canonical in_flow left)
      (kinds_of left ++ rest_kind r ∷ []) now → GaveFirst most all start now
  runs_stopped now stop =
      let few = stop.few (opens_fit most 0 (length (kinds_of left ++ rest_kind r ∷ [])) so.given so_few) in
      record {
        given = so.given ++ stop.given;
        begins = record {
          rest = stop.begins.rest;
          parts = append_assoc so.given stop.given stop.begins.rest ∙ ap (λ (events : List Event). so.given ++ events) stop.begins.parts ∙ due_is;
        };
        few =
            few_of most few.0 (so.given ++ stop.given) (opens_then most 0 (length (kinds_of left ++ rest_kind r ∷ [])) few.0 so.given stop.given so_few few.1);
        gave = gave_events_then start between now so.given stop.given (so.moved start.levels (sym (append-nil start.levels))).0 (stop.gave so_far.bare);
      }

  pub runs_on : (now : WriterState) (after : List Rest) (size : ℕ)
      → GaveSome most in_flow between (rest_events between.canonical in_flow r ++ pending between.canonical in_flow left) (kinds_of left ++ rest_kind r ∷ [])
      (RestHasNumbers r × PendingHaveNumbers left) size now after → KeptAfterStop between (Ok tt) now → Running most in_flow start all numbers now after
  runs_on now after size steps kept = record {
    given = so.given ++ steps.given;
    moved = moved_then start between now so.given steps.given [] (kinds_of (left ++ r ∷ [])) (kinds_of after) so.moved
        (subst (λ (ks : List CollectionKind). Moved between steps.given ks (kinds_of after) now) (sym (kinds-push left r)) steps.moved);
    parts =
        append_assoc so.given steps.given (pending start.canonical in_flow after)
        ∙ ap (λ (c : Bool). so.given ++ (steps.given ++ pending c in_flow after)) (sym same)
        ∙ ap (λ (events : List Event). so.given ++ events) steps.parts ∙ due_is;
    numbers_in = λ have. let both = steps.numbers_in have in so.numbers_in (numbers-pull left r both.0 both.1);
    kept = kept_then start between now (Ok tt) so.kept kept;
    few = opens_then most 0 (length (kinds_of left ++ rest_kind r ∷ [])) (length (kinds_of after)) so.given steps.given so_few
        (steps.few (opens_fit most 0 (length (kinds_of left ++ rest_kind r ∷ [])) so.given so_few));
  }

-- nothing is left
module _ {most : ℕ} {in_flow : Bool} {start now : WriterState} {all : List Event} {numbers : Type 0} where
  pub runs_out : Running most in_flow start all numbers now [] → WasGiven start all now
  runs_out so =
      subst (λ (events : List Event). WasGiven start events now) (sym (append-nil so.given) ∙ so.parts)
      (leaves_same start now so.given (start.levels ++ []) start.levels (append-nil start.levels) (so_given so))
