-- The state of an emitter that was given no event, by its caller's settings.
use Rattle.yaml_emitter.proofs.Common.{ℕ, Option, None, Some, take, List, [], ◌++◌, ◌∷◌, refl, ◌≡◌, ap, subst, sym, ◌∙◌, arith, Event, Standing}
use Rattle.yaml_emitter.proofs.Common.{settings_for, written, Settings, Effective, progress, HoldsPiecesWith, StandsWithoutError, FailedAt, StandsUnflushed}
use Rattle.yaml_emitter.proofs.Common.{StandsStopped, at_event, between_events, StandsFailed, MachineStands, StandsAfter, State, MachineState, machine_of}
use Rattle.yaml_emitter.proofs.Common.{Page, encoded, IsFlushedOutput, new_page}
use Rattle.yaml_base.specs.declared.errors.{yaml_error_t.yaml_error_t, yaml_error_t.TheVariants.Memory, yaml_error_t.TheVariants.WriteError}
use Rattle.yaml_emitter.proofs.standing.{Flushing.flushed_none, StandingMore.nothing_begins}

-- the settings: as given, in effect, and the page's limit
abbrev pub IsSet : MachineState → MachineState → Type 0
IsSet before after =
    after
    ≡ record before {
      given = after.given;
      settings = after.settings;
      page = record before.page { limit = after.given.limit };
    }

nothing_failed : (prefix : List Event) (event : Event) (later : List Event) → FailedAt [] prefix event later → ⊥
nothing_failed [] event later h = let wrong : event ∷ later ≡ [] = h.parts in cc
nothing_failed (x ∷ prefix) event later h = let wrong : x ∷ (prefix ++ event ∷ later) ≡ [] = h.parts in cc

nothing_before : (before later : List Event) → before ++ later ≡ [] → before ≡ []
nothing_before [] later h = refl
nothing_before (x ∷ before) later h = cc

-- The page before the first event is new, but for an error.
unset_unflushed : (error : yaml_error_t) (machine : MachineState) → StandsUnflushed machine.given [] error machine
    → machine.page ≡ record (new_page machine.given.limit) { error = Some error }
unset_unflushed error machine h =
    subst (λ prefix. HoldsPiecesWith (Some error) (settings_for machine.given []) (take (written prefix) prefix)
    (progress (settings_for machine.given []) prefix).pieces machine.page)
    (nothing_before h.before h.later h.parts) h.page

unset_stopped : (error : yaml_error_t) (machine : MachineState) → StandsStopped machine.given [] error machine
    → machine.page ≡ record (new_page machine.given.limit) { error = Some error }
unset_stopped error machine h =
    elim h [
      | at_event cut ↦ absurd (nothing_failed cut.prefix cut.event cut.later cut.failed)
      | between_events other ↦ unset_unflushed error machine other
    ]

unset_failed : (error : yaml_error_t) (machine : MachineState) → StandsFailed machine.given [] error machine
    → machine.page ≡ record (new_page machine.given.limit) { error = Some error }
unset_failed WriteError machine h = unset_stopped WriteError machine h
unset_failed Memory machine h = unset_stopped Memory machine h
unset_failed error machine h = absurd (nothing_failed h.prefix h.event h.later h.failed)

pub unset_page : (error : Option yaml_error_t) (held : List Event) (machine : MachineState) → MachineStands machine.given [] error held machine
    → machine.page ≡ record (new_page machine.given.limit) { error = error }
unset_page None held machine h = h.progress.page
unset_page (Some error) held machine h = unset_failed error machine h.1

page_set : (before after : Page) (limit most : ℕ) (error : Option yaml_error_t) → before ≡ record (new_page limit) { error = error }
    → after ≡ record before { limit = most } → after ≡ record (new_page most) { error = error }
page_set before after limit most error h is = is ∙ ap (λ (p : Page). let made : Page = record p { limit = most } in made) h

well_set : (held : List Event) (before after : MachineState) → IsSet before after → StandsWithoutError before.given [] held before
    → StandsWithoutError after.given [] held after
well_set held before after set h =
    let page : after.page ≡ new_page after.given.limit =
    page_set before.page after.page before.given.limit after.given.limit None h.progress.page (ap (λ (s : MachineState). s.page) set) in
    record {
      progress = record {
        given_kept = refl;
        settled = tt;
        stands = nothing_begins after.given.canonical;
        stage = ap (λ (s : MachineState). s.stage) set ∙ h.progress.stage;
        standing =
            ap (λ (page : Page). let made : Standing = record { cursor = page.cursor; open_ended = after.open_ended } in made)
            (ap (λ (s : MachineState). s.page) set)
            ∙ ap (λ open_ended. let made : Standing = record { cursor = before.page.cursor; open_ended = open_ended } in made)
            (ap (λ (s : MachineState). s.open_ended) set)
            ∙ h.progress.standing;
        page = page;
        flushed_whole = λ hands. cc;
        flushed = flushed_none after.given [] after.page.output;
      };
      held = h.held;
    }

handed_set : (limit most : ℕ) (error : yaml_error_t) → IsFlushedOutput [] [] limit (Some error) → IsFlushedOutput [] [] most (Some error)
handed_set limit most error h =
    record {
      prefix = refl;
      within = omega arith;
      full = λ full. absurd (omega (arith, (h.full full).0));
      named = h.named;
    }

unflushed_set : (before after : MachineState) (error : yaml_error_t) → IsSet before after → StandsUnflushed before.given [] error before
    → StandsUnflushed after.given [] error after
unflushed_set before after error set h =
    let was : before.page ≡ record (new_page before.given.limit) { error = Some error } = unset_unflushed error before h in
    let page : after.page ≡ record (new_page after.given.limit) { error = Some error } =
    page_set before.page after.page before.given.limit after.given.limit (Some error) was (ap (λ (s : MachineState). s.page) set) in
    let sound_output : IsFlushedOutput [] [] before.given.limit (Some error) =
    subst (λ (page : Page). IsFlushedOutput (encoded page) page.output page.limit page.error) was h.sound_output in
    record {
      before = [];
      later = [];
      parts = refl;
      given_kept = refl;
      stands = nothing_begins after.given.canonical;
      page = page;
      sound_output =
          subst (λ (page : Page). IsFlushedOutput (encoded page) page.output page.limit page.error) (sym page)
          (handed_set before.given.limit after.given.limit error sound_output);
      flushed = flushed_none after.given [] after.page.output;
    }

stopped_set : (before after : MachineState) (error : yaml_error_t) → IsSet before after → StandsStopped before.given [] error before
    → StandsStopped after.given [] error after
stopped_set before after error set h =
    elim h [
      | at_event cut ↦ absurd (nothing_failed cut.prefix cut.event cut.later cut.failed)
      | between_events other ↦ between_events (unflushed_set before after error set other)
    ]

failed_set : (error : yaml_error_t) (before after : MachineState) → IsSet before after → StandsFailed before.given [] error before
    → StandsFailed after.given [] error after
failed_set WriteError before after set h = stopped_set before after WriteError set h
failed_set Memory before after set h = stopped_set before after Memory set h
failed_set error before after set h = absurd (nothing_failed h.prefix h.event h.later h.failed)

set_by : (error : Option yaml_error_t) (held : List Event) (before after : MachineState) → IsSet before after → MachineStands before.given [] error held before
    → MachineStands after.given [] error held after
set_by None held before after set h = well_set held before after set h
set_by (Some error) held before after set h = (h.0, failed_set error before after set h.1)

-- Whatever is set, with its limit.
pub stands_set : (before after : State) → IsSet (machine_of before) (machine_of after) → after.held ≡ before.held → StandsAfter before.given [] before
    → StandsAfter after.given [] after
stands_set before after set held h =
    record {
      texts = refl;
      so =
          subst (λ e. MachineStands after.given [] e after.held (machine_of after)) (sym (ap (λ (m : MachineState). m.error) set))
          (subst (λ (l : List Event). MachineStands after.given [] before.error l (machine_of after)) (sym held)
          (set_by before.error before.held (machine_of before) (machine_of after) set h.so));
    }

-- Settings without a limit.
pub stands_given : (before after : State) (given : Settings) (settings : Effective) → after ≡ record before { given = given; settings = settings }
    → given.limit ≡ before.given.limit
    → StandsAfter before.given [] before → StandsAfter after.given [] after
stands_given before after given settings set same h =
    let now : State = record before { given = given; settings = settings } in
    let limit : before.page.limit ≡ given.limit =
    ap (λ (p : Page). p.limit) (unset_page before.error before.held (machine_of before) h.so) ∙ sym same in
    let is : IsSet (machine_of before) (machine_of now) =
    ap (λ limit. let page : Page = record before.page { limit = limit } in
    let made : MachineState = record (machine_of before) { given = given; settings = settings; page = page } in made) limit in
    subst (λ (s : State). StandsAfter s.given [] s) (sym set) (stands_set before now is refl h)
