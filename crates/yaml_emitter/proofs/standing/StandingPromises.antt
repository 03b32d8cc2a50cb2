-- The promises of an emitter to its caller.
use Rattle.yaml_emitter.proofs.Common.{◌≤◌, option_and_then, Option, None, Some, drop, length, take, Bool, false, true, List, [], ◌++◌, ◌∷◌, refl, ◌≡◌}
use Rattle.yaml_emitter.proofs.Common.{take-append-drop, length-take-le, append_assoc, ap, subst, sym, ◌∙◌, arith, false≢true, stands_from_begins}
use Rattle.yaml_emitter.proofs.Common.{refused_exactly, steps-append, prefix_same, prefix_then, written_within, cut, Event, document_start, sequence_start}
use Rattle.yaml_emitter.proofs.Common.{sequence_end, mapping_start, mapping_end, before_stream, first_standing, Piece, settings_for, text_written}
use Rattle.yaml_emitter.proofs.Common.{list_layout, pieces, last_begins_collection, IsPrefix, is_ready, written, held_back, ends_collection, refusal_at}
use Rattle.yaml_emitter.proofs.Common.{refusal, IsAccepted, IsAcceptedPrefix, Settings, Effective, at_stream, ends_next, Steps, steps, closes_at_once}
use Rattle.yaml_emitter.proofs.Common.{RefusedAt, BeginsOutput, OutputBegins, IsRefusal, is_head_ready, HoldsPiecesWith, StandsWithoutError, closes_last}
use Rattle.yaml_emitter.proofs.Common.{StandsRefused, holds_before, holds_part, StandsCut, StandsUnflushed, StandsStopped, at_event, between_events}
use Rattle.yaml_emitter.proofs.Common.{StandsFailed, MachineStands, StateStands, State, machine_of, StaysFlushed, Page}
use Rattle.yaml_base.proofs.{Common.and-false, PieceLaws.steps_count, Progress.progress_pieces, QueueLaws.held_waits, QueueLaws.held_is_short}
use Rattle.yaml_base.specs.declared.errors.{yaml_error_t.yaml_error_t, yaml_error_t.TheVariants.Memory, yaml_error_t.TheVariants.WriteError}
use Rattle.yaml_emitter.proofs.standing.{Standing.open_last, Standing.end_next, StandingFailed.own_accepted, StandingSteps.closes_last-append}
use Rattle.yaml_emitter.proofs.{standing.StandingSteps.awaits_few, standing.StandingTexts.holds_output}
use Rattle.yaml_emitter.proofs.standing.StandingTexts.{holds_text, pieces_prefix, begin_take, prefix_longer, ContinuesScript, goes_on, output_begins}
use Rattle.yaml_emitter.specs.Promises.{HasText, begins_with_start, most_held, QueuesUnready, StopsWriting, stops_before, stops_within}

pub stands_well : (given : Settings) (all : List Event) (state : State) → StateStands given all state → state.error ≡ None
    → StandsWithoutError given all state.held (machine_of state)
stands_well given all state h none = subst (λ e. MachineStands given all e state.held (machine_of state)) none h

pub stands_failed : (given : Settings) (all : List Event) (state : State) (error : yaml_error_t) → StateStands given all state → state.error ≡ Some error
    → StandsFailed given all error (machine_of state)
stands_failed given all state error h is = (subst (λ e. MachineStands given all e state.held (machine_of state)) is h).1

-- Without an error the text is that of the ready events' pieces.
pub promises_text : (given : Settings) (all : List Event) (state : State) → StateStands given all state → state.error ≡ None
    → HasText given all (written all) state
promises_text given all state h none =
    let s = settings_for given all in
    let prefix = take (written all) all in
    let well = stands_well given all state h none in
    let stands = stands_from_begins given.canonical prefix well.progress.stands in
    holds_text prefix s false None state.page well.progress.page
    ∙ ap (text_written s) (sym (progress_pieces all stands.partial s stands.is_partial))

-- The events that wait.
starts_if : (event : Event) (rest : List Event) → is_ready event rest ≡ false → begins_with_start (event ∷ rest) ≡ true
starts_if (document_start start) rest h = refl
starts_if (sequence_start start) rest h = refl
starts_if (mapping_start start) rest h = refl
starts_if event rest h = cc

waiting : (held : List Event) → ((event : Event) (rest : List Event) → held ≡ event ∷ rest → is_ready event rest ≡ false) → (is_head_ready held ≡ false)
    × (begins_with_start held ≡ true)
waiting [] h = (refl, refl)
waiting (event ∷ rest) h = let waits : is_ready event rest ≡ false = h event rest refl in (waits, starts_if event rest waits)

pub held_few : (held : List Event) → is_head_ready held ≡ false → length held ≤ most_held held
held_few [] h = omega arith
held_few (event ∷ rest) h = held_is_short event rest h

pub most_few : (held : List Event) → most_held held ≤ 3
most_few [] = omega arith
most_few (event ∷ rest) = awaits_few event

pub promises_held : (given : Settings) (all : List Event) (state : State) → StateStands given all state → state.error ≡ None → QueuesUnready all state
promises_held given all state h none =
    let well = stands_well given all state h none in
    let waits = waiting (held_back all) (held_waits all) in
    record {
      held = well.held;
      few = subst (λ held. length held ≤ most_held held) (sym well.held) (held_few (held_back all) waits.0);
      starts = ap begins_with_start well.held ∙ waits.1;
    }

-- The output begins that of an accepted list.
output_by_pieces : (given : Settings) (all prefix later : List Event) (follows : Bool) (error : Option yaml_error_t) (state : State) → prefix ++ later ≡ all
    → HoldsPiecesWith error (settings_for given all) prefix (steps (settings_for given all) follows prefix at_stream first_standing).pieces state.page
    → StaysFlushed given all (length prefix) state.page.output
    → ContinuesScript given.canonical (settings_for given all) prefix (steps (settings_for given all) follows prefix at_stream first_standing).pieces
    → BeginsOutput given all prefix (length prefix) state
output_by_pieces given all prefix later follows error state parts h flushed on =
    let s = settings_for given all in
    let begun = (steps s follows prefix at_stream first_standing).pieces in
    let whole = list_layout s (prefix ++ on.more) in
    let first : take (length prefix) whole ≡ begun = begin_take (length prefix) begun whole on.begins (steps_count prefix s follows at_stream first_standing) in
    let text : state.page.text ≡ text_written s (take (length prefix) whole) = holds_text prefix s follows error state.page h
    ∙ ap (text_written s) (sym first) in
    record {
      later = later;
      parts = parts;
      more = on.more;
      accepted = on.accepted;
      least = prefix_same (text_written s (take (length prefix) whole)) state.page.text (sym text);
      most = prefix_same state.page.text (text_written s (take (length prefix) whole)) text;
      output = holds_output prefix s follows error state.page whole h on.begins;
      flushed = flushed;
    }

output_from : (given : Settings) (all prefix later : List Event) (error : Option yaml_error_t) (state : State) → prefix ++ later ≡ all
    → IsAcceptedPrefix given.canonical prefix
    → HoldsPiecesWith error (settings_for given all) prefix (steps (settings_for given all) false prefix at_stream first_standing).pieces state.page
    → StaysFlushed given all (length prefix) state.page.output
    → BeginsOutput given all prefix (length prefix) state
output_from given all prefix later error state parts begins h flushed =
    output_by_pieces given all prefix later false error state parts h flushed (goes_on given.canonical (settings_for given all) prefix begins)

-- A refusal.
refused_at : (given : Settings) (all : List Event) (state : State) (error : yaml_error_t) → StandsRefused given all error (machine_of state)
    → RefusedAt given all error state
refused_at given all state error h =
    let s = settings_for given all in
    let stands = stands_from_begins given.canonical h.prefix h.progress.stands in
    record {
      prefix = h.prefix;
      event = h.event;
      later = h.later;
      parts = h.failed.parts;
      became_ready = h.failed.became_ready;
      refusal = h.refusal;
      begins = h.progress.stands;
      ends = (λ more. let none : refusal given.canonical h.prefix h.event
          ≡ None = (refused_exactly given.canonical h.prefix h.event h.progress.stands).1 more in cc);
      text =
          holds_text h.prefix s false None state.page h.progress.page
          ∙ ap (text_written s) (sym (pieces_prefix h.prefix (h.event ∷ h.later) all s stands.partial h.failed.parts stands.is_partial));
      output = output_from given all h.prefix (h.event ∷ h.later) None state h.failed.parts h.progress.stands h.progress.page h.progress.flushed;
    }

refused_by : (error : yaml_error_t) (given : Settings) (all : List Event) (state : State) → IsRefusal error → StandsFailed given all error (machine_of state)
    → StandsRefused given all error (machine_of state)
refused_by WriteError given all state is h = absurd is
refused_by Memory given all state is h = absurd is
refused_by error given all state is h = h

pub promises_refusal : (given : Settings) (all : List Event) (state : State) (error : yaml_error_t) → StateStands given all state → state.error ≡ Some error
    → IsRefusal error → RefusedAt given all error state
promises_refusal given all state error h failed is =
    refused_at given all state error (refused_by error given all state is (stands_failed given all state error h failed))

-- The steps of a prefix begin those of the whole.
pub steps_begin : (prefix rest : List Event) (s : Effective) (follows : Bool)
    → IsPrefix (steps s (ends_next rest follows) prefix at_stream first_standing).pieces (steps s follows (prefix ++ rest) at_stream first_standing).pieces
steps_begin prefix rest s follows =
    let before = steps s (ends_next rest follows) prefix at_stream first_standing in
    record {
      rest = (steps s follows rest before.stage before.standing).pieces;
      parts = sym (ap (λ (all : Steps). all.pieces) (steps-append prefix rest s follows at_stream first_standing));
    }

-- The event that closes a collection is its end.
ends_one : (event next : Event) (later : List Event) → closes_at_once event (next ∷ later) ≡ true → ends_collection next ≡ true
ends_one (sequence_start c) sequence_end later h = refl
ends_one (mapping_start c) mapping_end later h = refl
ends_one event next later h = cc

ends_if : (prefix : List Event) (next : Event) (later : List Event) → closes_last prefix (next ∷ later) ≡ true → ends_collection next ≡ true
ends_if [] next later h = cc
ends_if (event ∷ []) next later h = ends_one event next later h
ends_if (event ∷ other ∷ more) next later h = ends_if (other ∷ more) next later h

-- A prefix whose last event may be closed at once by the next: both ways a list goes on.
closing_more : (canonical : Bool) (s : Effective) (prefix later : List Event) (closes : Bool) → closes_last prefix later ≡ closes
    → IsAcceptedPrefix canonical prefix
    → ContinuesScript canonical s prefix (steps s (closes_last prefix later) prefix at_stream first_standing).pieces
closing_more canonical s prefix later false is begins =
    subst (λ follows. ContinuesScript canonical s prefix (steps s follows prefix at_stream first_standing).pieces) (sym is) (goes_on canonical s prefix begins)
closing_more canonical s prefix [] true is begins = absurd (false≢true (sym (open_last prefix [] (and-false (last_begins_collection prefix))) ∙ is))
closing_more canonical s prefix (next ∷ later) true is begins =
    let stands = stands_from_begins canonical prefix begins in
    let none : refusal canonical prefix next ≡ None =
    ap (λ o. option_and_then (λ q. refusal_at canonical q next) o) stands.is_partial
    ∙ own_accepted prefix next later canonical before_stream stands.partial stands.is_partial is in
    let longer = (refused_exactly canonical prefix next begins).0 none in
    let on = goes_on canonical s (prefix ++ next ∷ []) longer in
    let ends : ends_collection next ≡ closes_last prefix (next ∷ later) = ends_if prefix next later is ∙ sym is in
    let first : IsPrefix (steps s (ends_collection next) prefix at_stream first_standing).pieces
    (steps s false (prefix ++ next ∷ []) at_stream first_standing).pieces =
    steps_begin prefix (next ∷ []) s false in
    let same = append_assoc prefix (next ∷ []) on.more in
    record {
      more = next ∷ on.more;
      accepted = subst (IsAccepted canonical) same on.accepted;
      begins =
          subst (λ follows. IsPrefix (steps s follows prefix at_stream first_standing).pieces (list_layout s (prefix ++ next ∷ on.more))) ends
          (subst (λ events. IsPrefix (steps s (ends_collection next) prefix at_stream first_standing).pieces (list_layout s events)) same
          (prefix_then first on.begins));
    }

-- After an error.
abbrev Stops : Settings → List Event → State → Type 0
Stops given all state = (prefix : List Event) × StopsWriting given all prefix state

cut_output : (given : Settings) (all : List Event) (error : yaml_error_t) (state : State) → StandsCut given all error (machine_of state)
    → Stops given all state
cut_output given all error state h =
    let s = settings_for given all in
    elim h.page [
      | holds_before memory page ↦
          let follows = closes_last h.prefix (h.event ∷ h.later) in (
            h.prefix,
            stops_before
                (output_by_pieces given all h.prefix (h.event ∷ h.later) follows None state h.failed.parts page h.flushed
                (closing_more given.canonical s h.prefix (h.event ∷ h.later) follows refl h.stands)),
          )
      | holds_part begun page failed least most ↦
          let longer = h.prefix ++ h.event ∷ [] in
          let empty = closes_at_once h.event h.later in
          let pieces = (steps s empty longer at_stream first_standing).pieces in
          let last = closes_last-append h.prefix h.later h.event in
          let on : ContinuesScript given.canonical s longer pieces =
          subst (λ follows. ContinuesScript given.canonical s longer (steps s follows longer at_stream first_standing).pieces) last
          (closing_more given.canonical s longer h.later (closes_last longer h.later) refl begun) in
          let whole = list_layout s (longer ++ on.more) in
          let stands = stands_from_begins given.canonical longer begun in
          let shorter = (steps s (ends_collection h.event) h.prefix at_stream first_standing).pieces in
          let first : take (length h.prefix) whole ≡ shorter =
          begin_take (length h.prefix) shorter whole (prefix_then (steps_begin h.prefix (h.event ∷ []) s empty) on.begins)
          (steps_count h.prefix s (ends_collection h.event) at_stream first_standing) in
          let same : take (length h.prefix) whole ≡ (steps s (closes_last h.prefix (h.event ∷ h.later)) h.prefix at_stream first_standing).pieces =
          first ∙ ap (λ (made : Steps). made.pieces)
          (end_next h.prefix h.later h.event stands.partial s (last_begins_collection h.prefix) refl stands.is_partial) in (
            h.prefix,
            stops_within h.event
                (record {
                  later = h.later;
                  parts = append_assoc h.prefix (h.event ∷ []) h.later ∙ h.failed.parts;
                  more = on.more;
                  accepted = on.accepted;
                  least = subst (λ pieces. IsPrefix (text_written s pieces) state.page.text) (sym same) least;
                  most = subst (λ pieces. IsPrefix state.page.text (text_written s pieces))
                      (sym (begin_take (length longer) pieces whole on.begins (steps_count longer s empty at_stream first_standing))) most;
                  output = output_begins s state.page whole page (prefix_longer s state.page.text pieces whole most on.begins);
                  flushed = h.flushed;
                }),
          )
    ]

unflushed_output : (given : Settings) (all : List Event) (error : yaml_error_t) (state : State) → StandsUnflushed given all error (machine_of state)
    → Stops given all state
unflushed_output given all error state h =
    let prefix = take (written h.before) h.before in
    let rest = drop (written h.before) h.before in
    let whole : prefix ++ (rest ++ h.later) ≡ all =
    sym (append_assoc prefix rest h.later) ∙ ap (λ events. events ++ h.later) (take-append-drop (written h.before) h.before) ∙ h.parts in (
      prefix,
      stops_before
          (output_from given all prefix (rest ++ h.later) (Some error) state whole h.stands h.page
          (subst (λ count. StaysFlushed given all count state.page.output)
          (sym (length-take-le (written h.before) h.before (written_within h.before))) h.flushed)),
    )

refused_output : (given : Settings) (all : List Event) (error : yaml_error_t) (state : State) → StandsRefused given all error (machine_of state)
    → Stops given all state
refused_output given all error state h =
    let refused = refused_at given all state error h in (refused.prefix, stops_before refused.output)

stopped_output : (given : Settings) (all : List Event) (error : yaml_error_t) (state : State) → StandsStopped given all error (machine_of state)
    → Stops given all state
stopped_output given all error state h = elim h [
  | at_event cut ↦ cut_output given all error state cut
  | between_events other ↦ unflushed_output given all error state other
]

failed_output : (error : yaml_error_t) (given : Settings) (all : List Event) (state : State) → StandsFailed given all error (machine_of state)
    → Stops given all state
failed_output WriteError given all state h = stopped_output given all WriteError state h
failed_output Memory given all state h = stopped_output given all Memory state h
failed_output error given all state h = refused_output given all error state h

output_by : (error : Option yaml_error_t) (given : Settings) (all : List Event) (state : State) → MachineStands given all error state.held (machine_of state)
    → OutputBegins given all error state
output_by None given all state h =
    subst (λ count. BeginsOutput given all (take (written all) all) count state) (length-take-le (written all) all (written_within all))
    (output_from given all (take (written all) all) (held_back all) None state
    (take-append-drop (written all) all) h.progress.stands h.progress.page h.progress.flushed)
output_by (Some error) given all state h = failed_output error given all state h.1

-- After every call the output begins that of an accepted list, which begins with the events written so far.
pub promises_output : (given : Settings) (all : List Event) (state : State) → StateStands given all state → OutputBegins given all state.error state
promises_output given all state h = output_by state.error given all state h

-- The output is within its limit.
holds_within : (prefix : List Event) (s : Effective) (pieces : List Piece) (error : Option yaml_error_t) (page : Page)
    → HoldsPiecesWith error s prefix pieces page → length page.output ≤ s.limit
holds_within [] s pieces error page h = omega (arith, ap (λ (p : Page). length p.output) h)
holds_within (x ∷ prefix) s pieces error page h = omega (arith, h.0.sound_output.within, h.0.limit)

cut_within : (given : Settings) (all : List Event) (error : yaml_error_t) (state : State) → StandsCut given all error (machine_of state)
    → length state.page.output ≤ given.limit
cut_within given all error state h =
    elim h.page [
      | holds_before memory page ↦ holds_within h.prefix (settings_for given all) _ None state.page page
      | holds_part begun page failed least most ↦ omega (arith, page.sound_output.within, page.limit)
    ]

stopped_within : (given : Settings) (all : List Event) (error : yaml_error_t) (state : State) → StandsStopped given all error (machine_of state)
    → length state.page.output ≤ given.limit
stopped_within given all error state h =
    elim h [
      | at_event cut ↦ cut_within given all error state cut
      | between_events other ↦ holds_within (take (written other.before) other.before) (settings_for given all) _ (Some error) state.page other.page
    ]

failed_within : (error : yaml_error_t) (given : Settings) (all : List Event) (state : State) → StandsFailed given all error (machine_of state)
    → length state.page.output ≤ given.limit
failed_within WriteError given all state h = stopped_within given all WriteError state h
failed_within Memory given all state h = stopped_within given all Memory state h
failed_within error given all state h = holds_within h.prefix (settings_for given all) _ None state.page h.progress.page

scan_within : (error : Option yaml_error_t) (given : Settings) (all : List Event) (state : State) → MachineStands given all error state.held (machine_of state)
    → length state.page.output ≤ given.limit
scan_within None given all state h = holds_within (take (written all) all) (settings_for given all) _ None state.page h.progress.page
scan_within (Some error) given all state h = failed_within error given all state h.1

pub promises_within : (given : Settings) (all : List Event) (state : State) → StateStands given all state → length state.page.output ≤ given.limit
promises_within given all state h = scan_within state.error given all state h
