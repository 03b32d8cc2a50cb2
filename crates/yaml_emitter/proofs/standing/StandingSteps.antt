-- The state of an emitter as each event that is ready is written, and when no more is.
use Rattle.yaml_emitter.proofs.Common.{suc, ◌+◌, ◌≤◌, if◌then◌else◌, option_and_then, Some, Ok, drop, length, take, Bool, false, true, ◌&&◌, List, [], ◌++◌}
use Rattle.yaml_emitter.proofs.Common.{◌∷◌, refl, ◌≡◌, length-append, take_at, append_assoc, ap, subst, sym, ◌∙◌, arith, stands_from_begins, pushed-append}
use Rattle.yaml_emitter.proofs.Common.{encode, Event, stream_end, document_start, document_end, Partial, before_stream, pushed}
use Rattle.yaml_emitter.proofs.Common.{partial_of, first_standing, Piece, Standing, settings_for, bytes_written, flushes, last_begins_collection}
use Rattle.yaml_emitter.proofs.Common.{first_ends_collection, awaited, is_ready, written, held_back, IsAcceptedPrefix, Settings, Effective, at_stream, step}
use Rattle.yaml_emitter.proofs.Common.{Steps, steps, closes_at_once, event_stepped, render_event, WritesEvent, Processed, is_head_ready, HoldsPieces}
use Rattle.yaml_emitter.proofs.Common.{HasProgress, StandsWithoutError, closes_last, HasReached, MachineState, standing_of, wrote_all, Page, encoded}
use Rattle.std.proofs.lemmas.List.{drop_at}
use Rattle.yaml_base.proofs.QueueLaws.{no_end_held}
use Rattle.yaml_emitter.proofs.standing.{Flushing.last_flushes-append, Flushing.flushed_more, StandingTexts.pieces_prefix}
use Rattle.yaml_emitter.proofs.standing.Standing.{open_last, IsLater, starts_only, not_begun, pushes_later, one_more, next_steps, accepted_next, page_more}
use Rattle.yaml_emitter.proofs.standing.Standing.{writes_later, taken_first}

-- Any later event: its piece is the next.
pub stepped_steps : (given : Settings) (all : List Event) (x : Event) (prefix rest : List Event) (event : Event) (q : Partial) (before : MachineState)
    → HasProgress given all (x ∷ prefix) (steps (settings_for given all) (closes_last (x ∷ prefix) (event ∷ rest)) (x ∷ prefix) at_stream first_standing) before
    → partial_of ((x ∷ prefix) ++ event ∷ []) ≡ Some q
    → steps (settings_for given all) (closes_at_once event rest) ((x ∷ prefix) ++ event ∷ []) at_stream first_standing
    ≡ one_more (steps (settings_for given all) (closes_last (x ∷ prefix) (event ∷ rest)) (x ∷ prefix) at_stream first_standing)
    (event_stepped before event (closes_at_once event rest))
stepped_steps given all x prefix rest event q before h pushes =
    let s = settings_for given all in
    let empty = closes_at_once event rest in
    let progress = steps s (closes_last (x ∷ prefix) (event ∷ rest)) (x ∷ prefix) at_stream first_standing in
    let same : event_stepped before event empty ≡ step s progress.stage event empty progress.standing =
    ap (λ settings. step settings before.stage event empty (standing_of before)) h.settled
    ∙ ap (λ stage. step s stage event empty (standing_of before)) h.stage
    ∙ ap (λ standing. step s progress.stage event empty standing) h.standing in
    next_steps (x ∷ prefix) rest event q s empty pushes ∙ ap (one_more progress) (sym same)

-- An event that flushes isn't closed at once.
hands_open : (event : Event) (rest : List Event) → flushes event ≡ true → closes_at_once event rest ≡ false
hands_open (document_end implicit) rest hands = refl
hands_open stream_end rest hands = refl
hands_open event rest hands = cc

-- All bytes of a page that was flushed are those of its pieces.
flushed_bytes : (s : Effective) (x : Event) (prefix : List Event) (rendered : List Piece) (page : Page) → HoldsPieces s (x ∷ prefix) rendered page
    → page.output ≡ encoded page → bytes_written s rendered ≡ page.output
flushed_bytes s x prefix rendered page h all = sym (all ∙ ap (λ e. encode e page.text) h.0.encoding ∙ ap (encode (Some s.encoding)) h.1)

taken_later : (given : Settings) (all : List Event) (x : Event) (prefix rest : List Event) (event : Event) (q : Partial) (before after : MachineState)
    → IsLater event → (x ∷ prefix) ++ event ∷ rest ≡ all
    → HasProgress given all (x ∷ prefix) (steps (settings_for given all) (closes_last (x ∷ prefix) (event ∷ rest)) (x ∷ prefix) at_stream first_standing) before
    → partial_of ((x ∷ prefix) ++ event ∷ []) ≡ Some q
    → IsAcceptedPrefix given.canonical ((x ∷ prefix) ++ event ∷ [])
    → WritesEvent event (closes_at_once event rest) before after
    → HasProgress given all ((x ∷ prefix) ++ event ∷ [])
    (steps (settings_for given all) (closes_at_once event rest) ((x ∷ prefix) ++ event ∷ []) at_stream first_standing) after
taken_later given all x prefix rest event q before after later parts h pushes begun done =
    let s = settings_for given all in
    let empty = closes_at_once event rest in
    let progress = steps s (closes_last (x ∷ prefix) (event ∷ rest)) (x ∷ prefix) at_stream first_standing in
    let stepped = event_stepped before event empty in
    let wrote = writes_later event empty before after later done.page in
    let whole : steps s empty ((x ∷ prefix) ++ event ∷ []) at_stream first_standing ≡ one_more progress stepped =
    stepped_steps given all x prefix rest event q before h pushes in
    let holds = page_more s x prefix progress.pieces stepped.rendered.piece (render_event before event empty) before.page after.page h.page wrote.1 refl in
    subst (λ steps. HasProgress given all ((x ∷ prefix) ++ event ∷ []) steps after) (sym whole)
    (record {
      given_kept = ap (λ (s : MachineState). s.given) done.kept ∙ h.given_kept;
      settled = wrote.0 ∙ h.settled;
      stands = begun;
      stage = done.stage;
      standing =
          ap (λ cursor. let made : Standing = record { cursor = cursor; open_ended = after.open_ended } in made) (wrote_all wrote.1).cursor
          ∙ ap (λ open_ended. let made : Standing = record { cursor = stepped.rendered.standing.cursor; open_ended = open_ended } in made) done.open_ended;
      page = holds;
      flushed_whole = λ hands. done.flushed_whole (sym (last_flushes-append (x ∷ prefix) event) ∙ hands);
      flushed =
          flushed_more given all (x ∷ prefix) event rest before.page.output after.page.output parts h.flushed wrote.1.output
          (λ hands.
          ap (bytes_written s)
          (pieces_prefix ((x ∷ prefix) ++ event ∷ []) rest all s q (append_assoc (x ∷ prefix) (event ∷ []) rest ∙ parts) pushes
          ∙ ap (λ follows. (steps s follows ((x ∷ prefix) ++ event ∷ []) at_stream first_standing).pieces) (sym (hands_open event rest hands))
          ∙ ap (λ (made : Steps). made.pieces) whole)
          ∙ flushed_bytes s x prefix (progress.pieces ++ stepped.rendered.piece ∷ []) after.page holds (done.flushed_whole hands));
    })

taken_next : (prefix rest : List Event) (given : Settings) (all : List Event) (event : Event) (q : Partial) (before after : MachineState)
    → prefix ++ event ∷ rest ≡ all
    → HasProgress given all prefix (steps (settings_for given all) (closes_last prefix (event ∷ rest)) prefix at_stream first_standing) before
    → partial_of (prefix ++ event ∷ []) ≡ Some q
    → IsAcceptedPrefix given.canonical (prefix ++ event ∷ [])
    → WritesEvent event (closes_at_once event rest) before after
    → HasProgress given all (prefix ++ event ∷ [])
    (steps (settings_for given all) (closes_at_once event rest) (prefix ++ event ∷ []) at_stream first_standing) after
taken_next [] rest given all event q before after parts h pushes begun done =
    let empty = closes_at_once event rest in
    subst (λ all. HasProgress given all (event ∷ []) (steps (settings_for given all) empty (event ∷ []) at_stream first_standing) after) parts
    (taken_first event rest given empty before after (starts_only event q pushes)
    (subst (λ all. HasProgress given all [] (steps (settings_for given all) false [] at_stream first_standing) before) (sym parts) h)
    begun done)
taken_next (x ∷ prefix) rest given all event q before after parts h pushes begun done =
    let stands = stands_from_begins given.canonical (x ∷ prefix) h.stands in
    let one : pushed stands.partial (event ∷ []) ≡ Some q =
    ap (λ o. option_and_then (λ r. pushed r (event ∷ [])) o) (sym stands.is_partial)
    ∙ sym (pushed-append (x ∷ prefix) (event ∷ []) before_stream)
    ∙ pushes in
    let begins : stands.partial ≡ before_stream → ⊥ = (λ same. not_begun x prefix (stands.is_partial ∙ ap (λ p. Some p) same)) in
    taken_later given all x prefix rest event q before after (pushes_later event stands.partial q begins one) parts h pushes begun done

pub closes_last-append : (prefix rest : List Event) (event : Event) → closes_last (prefix ++ event ∷ []) rest ≡ closes_at_once event rest
closes_last-append (x ∷ y ∷ more) rest event = closes_last-append (y ∷ more) rest event
closes_last-append _ rest event = refl

-- A ready event is written.
pub reached_next : (given : Settings) (all prefix rest : List Event) (event : Event) (before after : MachineState)
    → HasReached given all prefix (event ∷ rest) before
    → is_ready event rest ≡ true
    → Processed event (closes_at_once event rest) before after (Ok tt)
    → HasReached given all (prefix ++ event ∷ []) rest after
reached_next given all prefix rest event before after h is done =
    let s = settings_for given all in
    let follows = closes_last prefix (event ∷ rest) in
    let begun = accepted_next given all prefix event follows s before h.progress done.accepted in
    let stands = stands_from_begins given.canonical (prefix ++ event ∷ []) begun in
    let count : written (event ∷ rest) ≡ suc (written rest) = ap (λ b. if b then suc (written rest) else 0) is in
    record {
      parts = append_assoc prefix (event ∷ []) rest ∙ h.parts;
      ready = omega (arith, h.ready, count, length-append prefix (event ∷ []));
      progress =
          subst (λ follows. HasProgress given all (prefix ++ event ∷ []) (steps s follows (prefix ++ event ∷ []) at_stream first_standing) after)
          (sym (closes_last-append prefix rest event))
          (taken_next prefix rest given all event stands.partial before after h.parts h.progress stands.is_partial begun done);
    }

-- No more is ready.
pub none_ready : (rest : List Event) → is_head_ready rest ≡ false → written rest ≡ 0
none_ready [] h = refl
none_ready (event ∷ rest) h = ap (λ b. if b then suc (written rest) else 0) h

none_ends : (rest : List Event) → is_head_ready rest ≡ false → first_ends_collection rest ≡ false
none_ends [] h = refl
none_ends (event ∷ rest) h = no_end_held event rest h

pub awaits_few : (event : Event) → awaited event ≤ 3
awaits_few (document_start start) = omega arith
awaits_few _ = omega arith

and_left_false : (a b : Bool) → b ≡ false → a && b ≡ false
and_left_false true b h = h
and_left_false false b h = refl

pub reached_end : (given : Settings) (all prefix rest : List Event) (state : MachineState) → HasReached given all prefix rest state → is_head_ready rest ≡ false
    → StandsWithoutError given all rest state
reached_end given all prefix rest state h none =
    let s = settings_for given all in
    let count : written all ≡ length prefix = h.ready ∙ ap (λ n. length prefix + n) (none_ready rest none) ∙ omega arith in
    let begins : take (written all) all ≡ prefix =
    ap (λ n. take n all) count ∙ ap (take (length prefix)) (sym h.parts) ∙ take_at prefix rest (length prefix) refl in
    let holds : held_back all ≡ rest =
    ap (λ n. drop n all) count ∙ ap (drop (length prefix)) (sym h.parts) ∙ drop_at prefix rest (length prefix) refl in
    let opens : closes_last prefix rest ≡ false = open_last prefix rest
    (and_left_false (last_begins_collection prefix) (first_ends_collection rest) (none_ends rest none)) in
    record {
      progress =
          subst (λ prefix. HasProgress given all prefix (steps s false prefix at_stream first_standing) state) (sym begins)
          (subst (λ follows. HasProgress given all prefix (steps s follows prefix at_stream first_standing) state) opens h.progress);
      held = sym holds;
    }
