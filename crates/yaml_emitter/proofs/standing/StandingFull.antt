-- The promises of an emitter whose output passed its limit.
use Rattle.yaml_emitter.proofs.Common.{ℕ, ◌<◌, ◌≤◌, Some, drop, length, take, Bool, false, true, List, [], ◌++◌, ◌∷◌, refl, ◌≡◌, take-append-drop}
use Rattle.yaml_emitter.proofs.Common.{append_assoc, ap, subst, sym, ◌∙◌, arith, prefix_is_partial, steps_same, list_layout_steps, prefix_layout, prefix_same}
use Rattle.yaml_emitter.proofs.Common.{open_at_written, stream_pushed, cut, Event, sequence_start, mapping_start, Partial, before_stream, after_stream}
use Rattle.yaml_emitter.proofs.Common.{partial_of, first_standing, Piece, settings_for, text_written, bytes_written, list_layout}
use Rattle.yaml_emitter.proofs.Common.{last_begins_collection, IsPrefix, is_ready, written, begins_collection, IsAccepted, Settings, Effective, at_stream}
use Rattle.yaml_emitter.proofs.Common.{ends_next, Steps, steps, closes_at_once, IsPage, HoldsPiecesWith, holds_before, holds_part, StandsCut, StandsUnflushed}
use Rattle.yaml_emitter.proofs.Common.{at_event, between_events, StateStands, State, machine_of, IsUncut, Page, encoded, IsFlushedOutput}
use Rattle.yaml_base.specs.declared.errors.yaml_error_t.TheVariants.{Memory, WriteError}
use Rattle.yaml_emitter.proofs.standing.{Room.more_bytes, Standing.settings_grown, Standing.own_end, StandingMore.settings_failed, StandingMore.ready_at}
use Rattle.yaml_emitter.proofs.standing.{StandingPromises.stands_failed, StandingPromises.steps_begin, StandingSteps.closes_last-append}
use Rattle.yaml_emitter.proofs.standing.{StandingTexts.begin_taken, StandingTexts.prefix_longer, StandingTexts.output_fills}
use Rattle.yaml_emitter.specs.Promises.{FillsLimit}
use Rattle.yaml_base.specs.Pieces as closes

-- The output's limit.
not_memory : WriteError ≡ Memory → ⊥
not_memory wrong = cc

pub drop-all : (events : List Event) → drop (length events) events ≡ []
drop-all [] = refl
drop-all (x ∷ events) = drop-all events

pub take-length : (events : List Event) → take (length events) events ≡ events
take-length [] = refl
take-length (x ∷ events) = ap (λ l. x ∷ l) (take-length events)

no_start_alone : (event : Event) → is_ready event [] ≡ true → begins_collection event ≡ false
no_start_alone (sequence_start c) ready = cc
no_start_alone (mapping_start c) ready = cc
no_start_alone event ready = refl

last_begins_collection-append : (prefix : List Event) (event : Event) → last_begins_collection (prefix ++ event ∷ []) ≡ begins_collection event
last_begins_collection-append (x ∷ y ∷ more) event = last_begins_collection-append (y ∷ more) event
last_begins_collection-append _ event = refl

follows_ready : (prefix rest more : List Event) (event : Event) (s : Effective) (last : Bool) → begins_collection event ≡ last → is_ready event rest ≡ true
    → (q : Partial) → partial_of (((prefix ++ event ∷ []) ++ rest) ++ more) ≡ Some q
    → (steps s (ends_next (rest ++ more) false) (prefix ++ event ∷ []) at_stream first_standing).pieces
    ≡ (steps s (closes_at_once event rest) (prefix ++ event ∷ []) at_stream first_standing).pieces
follows_ready prefix rest more event s false is ready q h =
    ap (λ (made : Steps). made.pieces)
    (steps_same (prefix ++ event ∷ []) s (ends_next (rest ++ more) false) (closes_at_once event rest) at_stream first_standing
    (last_begins_collection-append prefix event ∙ is))
follows_ready prefix [] more event s true is ready q h = let no : begins_collection event ≡ false = no_start_alone event ready in cc
follows_ready prefix (next ∷ rest) more event s true is ready q h =
    let longer = prefix ++ event ∷ [] in
    let begun = prefix_is_partial (longer ++ next ∷ []) (rest ++ more) q
    (ap partial_of (append_assoc longer (next ∷ []) (rest ++ more) ∙ sym (append_assoc longer (next ∷ rest) more)) ∙ h) in
    ap (λ follows. (steps s follows longer at_stream first_standing).pieces)
    (sym (own_end longer next rest before_stream begun.0 begun.1 (last_begins_collection-append prefix event ∙ is))
    ∙ closes_last-append prefix (next ∷ rest) event)

layout_begins : (canonical : Bool) (s : Effective) (prefix rest : List Event) → IsAccepted canonical (prefix ++ rest)
    → IsPrefix (steps s (ends_next rest false) prefix at_stream first_standing).pieces (list_layout s (prefix ++ rest))
layout_begins canonical s prefix rest accepted =
    subst (IsPrefix (steps s (ends_next rest false) prefix at_stream first_standing).pieces)
    (sym (list_layout_steps (prefix ++ rest) accepted.stream s (ap partial_of (sym accepted.is_stream) ∙ stream_pushed accepted.stream)))
    (steps_begin prefix rest s false)

-- the pieces up to an event that was ready begin every layout that goes on
begun_layout : (canonical : Bool) (s : Effective) (prefix later more all : List Event) (event : Event) → (prefix ++ event ∷ []) ++ later ≡ all
    → is_ready event later ≡ true → IsAccepted canonical (all ++ more)
    → IsPrefix (steps s (closes_at_once event later) (prefix ++ event ∷ []) at_stream first_standing).pieces (list_layout s (all ++ more))
begun_layout canonical s prefix later more all event parts ready accepted =
    let longer = prefix ++ event ∷ [] in
    let begun = (steps s (closes_at_once event later) longer at_stream first_standing).pieces in
    let whole : longer ++ (later ++ more) ≡ all ++ more = sym (append_assoc longer later more) ∙ ap (λ events. events ++ more) parts in
    let pushes : partial_of ((longer ++ later) ++ more) ≡ Some (after_stream accepted.stream) =
    ap (λ events. partial_of (events ++ more)) parts ∙ ap partial_of (sym accepted.is_stream) ∙ stream_pushed accepted.stream in
    let same : (steps s (ends_next (later ++ more) false) longer at_stream first_standing).pieces ≡ begun =
    follows_ready prefix later more event s (begins_collection event) refl ready (after_stream accepted.stream) pushes in
    subst (λ pieces. IsPrefix pieces (list_layout s (all ++ more))) same
    (subst (λ events. IsPrefix (steps s (ends_next (later ++ more) false) longer at_stream first_standing).pieces (list_layout s events)) whole
    (layout_begins canonical s longer (later ++ more) (subst (IsAccepted canonical) (sym whole) accepted)))

passes : (limit : ℕ) (page : Page) → page.limit ≡ limit → page.limit < length (encoded page) → limit < length (encoded page)
passes limit page is h = subst (λ limit. limit < length (encoded page)) is h

-- A page whose bytes pass the limit, and begin those of every accepted list that begins with the events.
fills_by : (given : Settings) (all : List Event) (state : State) (begun : List Piece) → IsPage (settings_for given all) state.page
    → state.page.error ≡ Some WriteError
    → IsPrefix state.page.text (text_written (settings_for given all) begun)
    → ((more : List Event) → settings_for given (all ++ more) ≡ settings_for given all)
    → ((more : List Event) → IsAccepted given.canonical (all ++ more) → IsPrefix begun (list_layout (settings_for given all) (all ++ more)))
    → FillsLimit given all state
fills_by given all state begun page failed most same begins =
    record {
      passed = passed;
      full = (output_fills s state.page begun page most failed).0;
      output = λ more accepted.
          (output_fills s state.page (list_layout s (all ++ more)) page (text more accepted) failed).1
          ∙ ap (λ (s : Effective). cut s.limit (bytes_written s (list_layout s (all ++ more)))) (sym (same more));
      unfit = λ fits. unfit fits.more fits.accepted fits.uncut;
    }
  where
    s : Effective
    s = settings_for given all

    passed : given.limit < length (encoded state.page)
    passed = passes given.limit state.page page.limit (page.sound_output.full failed).0

    text : (more : List Event) → IsAccepted given.canonical (all ++ more) → IsPrefix state.page.text (text_written s (list_layout s (all ++ more)))
    text more accepted = prefix_longer s state.page.text begun (list_layout s (all ++ more)) most (begins more accepted)

    unfit : (more : List Event) → IsAccepted given.canonical (all ++ more) → IsUncut given (all ++ more) → ⊥
    unfit more accepted uncut =
        let within : length (bytes_written s (list_layout s (all ++ more))) ≤ given.limit =
        subst (λ (s : Effective). length (bytes_written s (list_layout s (all ++ more))) ≤ given.limit) (same more) uncut in
        omega (arith, passed, within, more_bytes s state.page (list_layout s (all ++ more)) page.encoding (text more accepted))

cut_fills : (given : Settings) (all : List Event) (state : State) → StandsCut given all WriteError (machine_of state) → FillsLimit given all state
cut_fills given all state h =
    let s = settings_for given all in
    let longer = h.prefix ++ h.event ∷ [] in
    let parts : longer ++ h.later ≡ all = append_assoc h.prefix (h.event ∷ []) h.later ∙ h.failed.parts in
    let ready = ready_at h.prefix h.event h.later (subst (λ events. length h.prefix < written events) (sym h.failed.parts) h.failed.became_ready) in
    elim h.page [
      | holds_before memory page ↦ absurd (not_memory memory)
      | holds_part begun page returned least most ↦
          fills_by given all state (steps s (closes_at_once h.event h.later) longer at_stream first_standing).pieces page (returned refl) most
          (λ more. settings_failed h.prefix given all h.event h.later more h.failed.parts)
          (λ more accepted. begun_layout given.canonical s h.prefix h.later more all h.event parts ready accepted)
    ]

between_fills : (prefix rest : List Event) (given : Settings) (all : List Event) (state : State) → prefix ++ rest ≡ all
    → HoldsPiecesWith (Some WriteError) (settings_for given all) prefix (steps (settings_for given all) false prefix at_stream first_standing).pieces state.page
    → IsFlushedOutput (encoded state.page) state.page.output state.page.limit state.page.error
    → ((more : List Event) → closes.last_closes_at_once prefix (rest ++ more) ≡ false)
    → FillsLimit given all state
between_fills [] rest given all state parts h sound_output opens =
    let full = sound_output.full (ap (λ (p : Page). p.error) h) in
    let none : length (encoded state.page) ≡ 0 = ap (λ (p : Page). length (encoded p)) h in
    absurd (omega (arith, full.0, none))
between_fills (x ∷ prefix) rest given all state parts h sound_output opens =
    let s = settings_for given all in
    let begun_pieces = (steps s false (x ∷ prefix) at_stream first_standing).pieces in
    fills_by given all state begun_pieces h.0 h.2 (prefix_same state.page.text (text_written s begun_pieces) h.1)
    (λ more. settings_grown given x prefix rest all more parts)
    (λ more accepted.
    let whole : (x ∷ prefix) ++ (rest ++ more) ≡ all ++ more = sym (append_assoc (x ∷ prefix) rest more) ∙ ap (λ events. events ++ more) parts in
    let pushes : partial_of ((x ∷ prefix) ++ (rest ++ more)) ≡ Some (after_stream accepted.stream) =
    ap partial_of whole ∙ ap partial_of (sym accepted.is_stream) ∙ stream_pushed accepted.stream in
    subst (λ events. IsPrefix begun_pieces (list_layout s events)) whole
    (begin_taken (length (x ∷ prefix)) begun_pieces (list_layout s ((x ∷ prefix) ++ (rest ++ more)))
    (prefix_layout (x ∷ prefix) (rest ++ more) accepted.stream s pushes (opens more))))

unflushed_fills : (given : Settings) (all : List Event) (state : State) → StandsUnflushed given all WriteError (machine_of state) → FillsLimit given all state
unflushed_fills given all state h =
    let prefix = take (written h.before) h.before in
    let rest = drop (written h.before) h.before in
    between_fills prefix (rest ++ h.later) given all state
    (sym (append_assoc prefix rest h.later) ∙ ap (λ events. events ++ h.later) (take-append-drop (written h.before) h.before) ∙ h.parts)
    h.page h.sound_output
    (λ more. ap (λ events. closes.last_closes_at_once prefix events) (append_assoc rest h.later more) ∙ open_at_written h.before (h.later ++ more))

-- After the output's limit was passed the output is full.
pub promises_full : (given : Settings) (all : List Event) (state : State) → StateStands given all state → state.error ≡ Some WriteError
    → FillsLimit given all state
promises_full given all state h failed =
    elim (stands_failed given all state WriteError h failed) [
      | at_event cut ↦ cut_fills given all state cut
      | between_events other ↦ unflushed_fills given all state other
    ]
