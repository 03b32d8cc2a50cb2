-- The state of a machine after its events: as one more comes, as each that is ready is written, and when no more is ready.
use Rattle.yaml_emitter.proofs.Common.{◌+◌, option_and_then, Option, None, Some, Result, Ok, length, take, Bool, false, true, ◌&&◌, List, [], ◌++◌, ◌∷◌, refl}
use Rattle.yaml_emitter.proofs.Common.{◌≡◌, length-append, take-append-drop, length-take-le, append-nil, append_assoc, inl, ap, subst, sym, ◌∙◌, arith, Cursor}
use Rattle.yaml_emitter.proofs.Common.{flat_map-append, stands_from_begins, refused_exactly, steps-append, steps_same, written-append, written_within, Rendered}
use Rattle.yaml_emitter.proofs.Common.{open_at_written, Event, stream_start, sequence_start, sequence_end, mapping_start, mapping_end, at_item, at_key, Partial}
use Rattle.yaml_emitter.proofs.Common.{at_value, before_stream, within_document, push, pushed, partial_of, first_standing, stream_start_piece, Piece, text_of}
use Rattle.yaml_emitter.proofs.Common.{piece_text, Standing, with_breaks_written, encoding_asked, settings_for, text_written, last_flushes, written, held_back}
use Rattle.yaml_emitter.proofs.Common.{last_begins_collection, first_ends_collection, begins_collection, ends_collection, refusal, IsAcceptedPrefix, Encoding}
use Rattle.yaml_emitter.proofs.Common.{Settings, Effective, effective, at_stream, step, Steps, steps, stage_refusal, closes_at_once, render_event, refusal_now}
use Rattle.yaml_emitter.proofs.Common.{WritesPage, WritesEvent, IsPage, HoldsPieces, HasProgress, StandsWithoutError, closes_last, HasReached, MachineState}
use Rattle.yaml_emitter.proofs.Common.{standing_of, StaysFlushed, wrote_all, Page, encoded, new_page, Wrote}
use Rattle.yaml_base.proofs.Common.{Stepped}
use Rattle.yaml_base.{proofs.Pushes.partial_of_events, proofs.Stages.stage_refusal_after, specs.declared.errors.yaml_error_t.yaml_error_t}
use Rattle.yaml_emitter.proofs.standing.Flushing.{flushed_none, flushed_first, flushed_grown}
use Rattle.yaml_emitter.specs.StandsAfter.{IsSettled}
use Rattle.yaml_pen.{proofs.Composing.with_breaks_written-append, proofs.Composing.wrote_no_error, specs.Wrote.named_text}

-- Settings are those of the first event.
asked_more : (event : Event) (rest more : List Event) → encoding_asked (event ∷ (rest ++ more)) ≡ encoding_asked (event ∷ rest)
asked_more (stream_start encoding) rest more = refl
asked_more event rest more = refl

settings_prefix : (given : Settings) (event : Event) (prefix rest all : List Event) → (event ∷ prefix) ++ rest ≡ all
    → settings_for given all ≡ settings_for given (event ∷ prefix)
settings_prefix given event prefix rest all parts = ap (settings_for given) (sym parts) ∙ ap (effective given) (asked_more event prefix rest)

pub settings_grown : (given : Settings) (event : Event) (prefix rest all more : List Event) → (event ∷ prefix) ++ rest ≡ all
    → settings_for given (all ++ more) ≡ settings_for given all
settings_grown given event prefix rest all more parts =
    settings_prefix given event prefix (rest ++ more) (all ++ more) (sym (append_assoc (event ∷ prefix) rest more) ∙ ap (λ events. events ++ more) parts)
    ∙ sym (settings_prefix given event prefix rest all parts)

-- The text written of a prefix stays as the list grows.
pub taken_grown : (prefix rest all more : List Event) (given : Settings) (follows : Bool) (state : MachineState) → prefix ++ rest ≡ all
    → HasProgress given all prefix (steps (settings_for given all) follows prefix at_stream first_standing) state
    → HasProgress given (all ++ more) prefix (steps (settings_for given (all ++ more)) follows prefix at_stream first_standing) state
taken_grown [] rest all more given follows state parts h =
    record {
      given_kept = h.given_kept;
      settled = tt;
      stands = h.stands;
      stage = h.stage;
      standing = h.standing;
      page = h.page;
      flushed_whole = h.flushed_whole;
      flushed = flushed_none given (all ++ more) state.page.output;
    }
taken_grown (event ∷ prefix) rest all more given follows state parts h =
    let same = sym (settings_grown given event prefix rest all more parts) in
    record {
      given_kept = h.given_kept;
      settled = h.settled ∙ same;
      stands = h.stands;
      stage = h.stage ∙ ap (λ (s : Effective). (steps s follows (event ∷ prefix) at_stream first_standing).stage) same;
      standing = h.standing ∙ ap (λ (s : Effective). (steps s follows (event ∷ prefix) at_stream first_standing).standing) same;
      page =
          subst (λ (s : Effective). HoldsPieces s (event ∷ prefix) (steps s follows (event ∷ prefix) at_stream first_standing).pieces state.page) same h.page;
      flushed_whole = h.flushed_whole;
      flushed =
          flushed_grown given all more (length (event ∷ prefix)) state.page.output (omega (arith, ap length parts, length-append (event ∷ prefix) rest))
          (sym same) h.flushed;
    }

-- A collection that isn't ended at once.
open_one : (event : Event) (rest : List Event) → begins_collection event && first_ends_collection rest ≡ false → closes_at_once event rest ≡ false
open_one (sequence_start c) (sequence_end ∷ rest) h = cc
open_one (mapping_start c) (mapping_end ∷ rest) h = cc
open_one event rest h = refl

pub open_last : (prefix rest : List Event) → last_begins_collection prefix && first_ends_collection rest ≡ false → closes_last prefix rest ≡ false
open_last [] rest h = refl
open_last (event ∷ []) rest h = open_one event rest h
open_last (event ∷ next ∷ more) rest h = open_last (next ∷ more) rest h

-- The written text depends on the settings, on the page and on the next stage.
pub settled_same : (s : Effective) (prefix : List Event) (before after : MachineState) → after.settings ≡ before.settings → IsSettled s prefix before
    → IsSettled s prefix after
settled_same s [] before after same h = tt
settled_same s (event ∷ prefix) before after same h = same ∙ h

pub taken_same : (given : Settings) (all prefix : List Event) (progress : Steps) (before after : MachineState)
    → after.given ≡ before.given → after.settings ≡ before.settings → after.stage ≡ before.stage → after.open_ended ≡ before.open_ended
    → after.page ≡ before.page
    → HasProgress given all prefix progress before → HasProgress given all prefix progress after
taken_same given all prefix progress before after is_handle_given is_settings is_stage is_open_ended is_page h =
    record {
      given_kept = is_handle_given ∙ h.given_kept;
      settled = settled_same (settings_for given all) prefix before after is_settings h.settled;
      stands = h.stands;
      stage = is_stage ∙ h.stage;
      standing =
          ap (λ (page : Page). let made : Standing = record { cursor = page.cursor; open_ended = after.open_ended } in made) is_page
          ∙ ap (λ open_ended. let made : Standing = record { cursor = before.page.cursor; open_ended = open_ended } in made) is_open_ended
          ∙ h.standing;
      page = subst (λ page. HoldsPieces (settings_for given all) prefix progress.pieces page) (sym is_page) h.page;
      flushed_whole = subst (λ (page : Page). last_flushes prefix ≡ true → page.output ≡ encoded page) (sym is_page) h.flushed_whole;
      flushed = subst (λ (page : Page). StaysFlushed given all (length prefix) page.output) (sym is_page) h.flushed;
    }

-- The first of a call: an event comes to those that are held.
pub reached_first : (given : Settings) (all : List Event) (event : Event) (held : List Event) (machine : MachineState)
    → StandsWithoutError given all held machine
    → HasReached given (all ++ event ∷ []) (take (written all) all) (held ++ event ∷ []) machine
reached_first given all event held machine h =
    let prefix = take (written all) all in
    let more = event ∷ [] in
    let rest = held_back all in
    let whole : prefix ++ rest ≡ all = take-append-drop (written all) all in
    let count : length prefix ≡ written all = length-take-le (written all) all (written_within all) in
    let opens : closes_last prefix (rest ++ more) ≡ false = open_last prefix (rest ++ more) (open_at_written all more) in
    subst (λ held. HasReached given (all ++ more) prefix (held ++ more) machine) (sym h.held)
    (record {
      parts = sym (append_assoc prefix rest more) ∙ ap (λ events. events ++ more) whole;
      ready = written-append all more ∙ ap (λ n. n + written (rest ++ more)) (sym count);
      progress =
          subst (λ follows. HasProgress given (all ++ more) prefix (steps (settings_for given (all ++ more)) follows prefix at_stream first_standing) machine)
          (sym opens)
          (taken_grown prefix rest all more given false machine whole h.progress);
    })

-- An event that is written after a prefix.

-- the events that come before all others, and those that don't
abbrev IsStreamStart : Event → Type 0
IsStreamStart (stream_start encoding) = Unit {0}
IsStreamStart _ = ⊥

abbrev pub IsLater : Event → Type 0
IsLater (stream_start encoding) = ⊥
IsLater _ = Unit {0}

pub starts_only : (event : Event) (q : Partial) → pushed before_stream (event ∷ []) ≡ Some q → IsStreamStart event
starts_only (stream_start encoding) q h = tt
starts_only event q h = cc

pub not_begun : (x : Event) (prefix : List Event) → partial_of (x ∷ prefix) ≡ Some before_stream → ⊥
not_begun x prefix h = let events : [] ≡ x ∷ prefix = partial_of_events (x ∷ prefix) before_stream h in cc

pub pushes_later : (event : Event) (p q : Partial) → (p ≡ before_stream → ⊥) → pushed p (event ∷ []) ≡ Some q → IsLater event
pushes_later (stream_start encoding) before_stream q begun h = begun refl
pushes_later (stream_start encoding) (within_document e d s []) q begun h = cc
pushes_later (stream_start encoding) (within_document e d s (at_item c items ∷ levels)) q begun h = cc
pushes_later (stream_start encoding) (within_document e d s (at_key c pairs ∷ levels)) q begun h = cc
pushes_later (stream_start encoding) (within_document e d s (at_value c pairs key ∷ levels)) q begun h = cc
pushes_later (stream_start encoding) p q begun h = cc
pushes_later event p q begun h = tt

-- An accepted end after a collection's start is that collection's own.
own_end_one : (event next : Event) (rest : List Event) (p q : Partial) → pushed p (event ∷ next ∷ []) ≡ Some q → begins_collection event ≡ true
    → closes_at_once event (next ∷ rest) ≡ ends_collection next
own_end_one (sequence_start c) mapping_end rest (within_document e d s levels) q h begins = cc
own_end_one (mapping_start c) sequence_end rest (within_document e d s levels) q h begins = cc
own_end_one (sequence_start c) mapping_end rest p q h begins = cc
own_end_one (mapping_start c) sequence_end rest p q h begins = cc
own_end_one (sequence_start c) next rest p q h begins = refl
own_end_one (mapping_start c) next rest p q h begins = refl
own_end_one event next rest p q h begins = cc

abbrev pub OwnEnd : List Event → Event → List Event → Type 0
OwnEnd prefix next rest = (p q : Partial) → pushed p (prefix ++ next ∷ []) ≡ Some q → last_begins_collection prefix ≡ true
    → closes_last prefix (next ∷ rest) ≡ ends_collection next

own_end_later : (prefix : List Event) (next : Event) (rest : List Event) → OwnEnd prefix next rest → (made : Option Partial) (q : Partial)
    → option_and_then (λ r. pushed r (prefix ++ next ∷ [])) made ≡ Some q → last_begins_collection prefix ≡ true
    → closes_last prefix (next ∷ rest) ≡ ends_collection next
own_end_later prefix next rest others None q h begins = cc
own_end_later prefix next rest others (Some r) q h begins = others r q h begins

pub own_end : (prefix : List Event) (next : Event) (rest : List Event) → OwnEnd prefix next rest
own_end [] next rest p q h begins = cc
own_end (event ∷ []) next rest p q h begins = own_end_one event next rest p q h begins
own_end (event ∷ other ∷ more) next rest p q h begins = own_end_later (other ∷ more) next rest (own_end (other ∷ more) next rest) (push p event) q h begins

-- So the steps of a prefix are those with this event after it.
pub end_next : (prefix rest : List Event) (event : Event) (q : Partial) (s : Effective) (last : Bool) → last_begins_collection prefix ≡ last
    → partial_of (prefix ++ event ∷ []) ≡ Some q
    → steps s (ends_collection event) prefix at_stream first_standing ≡ steps s (closes_last prefix (event ∷ rest)) prefix at_stream first_standing
end_next prefix rest event q s false is h = steps_same prefix s (ends_collection event) (closes_last prefix (event ∷ rest)) at_stream first_standing is
end_next prefix rest event q s true is h =
    ap (λ follows. steps s follows prefix at_stream first_standing) (sym (own_end prefix event rest before_stream q h is))

-- steps, and one more
abbrev pub one_more : Steps → Stepped → Steps
one_more before stepped = record { pieces = before.pieces ++ stepped.rendered.piece ∷ []; standing = stepped.rendered.standing; stage = stepped.stage }

pub next_steps : (prefix rest : List Event) (event : Event) (q : Partial) (s : Effective) (empty : Bool) → partial_of (prefix ++ event ∷ []) ≡ Some q
    → steps s empty (prefix ++ event ∷ []) at_stream first_standing
    ≡ (let before = steps s (closes_last prefix (event ∷ rest)) prefix at_stream first_standing in
    one_more before (step s before.stage event empty before.standing))
next_steps prefix rest event q s empty h =
    steps-append prefix (event ∷ []) s empty at_stream first_standing
    ∙ ap (λ (before : Steps). one_more before (step s before.stage event empty before.standing))
    (end_next prefix rest event q s (last_begins_collection prefix) refl h)

-- The refusal by an emitter's state is that after the prefix.
pub refusal_same : (given : Settings) (all prefix : List Event) (event : Event) (follows : Bool) (s : Effective) (state : MachineState)
    → HasProgress given all prefix (steps s follows prefix at_stream first_standing) state → refusal_now state event ≡ refusal given.canonical prefix event
refusal_same given all prefix event follows s state h =
    let before = stands_from_begins given.canonical prefix h.stands in
    ap (λ (g : Settings). stage_refusal g.canonical state.stage event) h.given_kept
    ∙ ap (λ stage. stage_refusal given.canonical stage event) h.stage
    ∙ stage_refusal_after given.canonical prefix event before.partial s follows before.is_partial

-- An event that isn't refused goes on with an accepted list.
pub accepted_next : (given : Settings) (all prefix : List Event) (event : Event) (follows : Bool) (s : Effective) (state : MachineState)
    → HasProgress given all prefix (steps s follows prefix at_stream first_standing) state → refusal_now state event ≡ None
    → IsAcceptedPrefix given.canonical (prefix ++ event ∷ [])
accepted_next given all prefix event follows s state h none =
    (refused_exactly given.canonical prefix event h.stands).0 (sym (refusal_same given all prefix event follows s state h) ∙ none)

-- The text of pieces.
pub text_written-append : (s : Effective) (a b : List Piece) → text_written s (a ++ b) ≡ text_written s a ++ text_written s b
text_written-append s a b =
    ap (with_breaks_written s.line_break) (flat_map-append piece_text a b) ∙ with_breaks_written-append s.line_break (text_of a) (text_of b)

pub text_written-one : (s : Effective) (piece : Piece) → text_written s (piece ∷ []) ≡ with_breaks_written s.line_break (piece_text piece)
text_written-one s piece = ap (with_breaks_written s.line_break) (append-nil (piece_text piece))

-- A page that is written on.
pub is_page_wrote : {s : Effective} {render : Cursor → Rendered} {before after : Page} {answer : Result (Unit {0}) yaml_error_t} → IsPage s before
    → Wrote render before after answer → IsPage s after
is_page_wrote h wrote =
    record {
      encoding = wrote.settings.encoding ∙ h.encoding;
      bom_written = wrote.ready.bom_written;
      line_break = wrote.settings.line_break ∙ h.line_break;
      limit = wrote.settings.limit ∙ h.limit;
      sound_output = wrote.sound_output;
    }

pub named_more : (s : Effective) (x : Event) (prefix : List Event) (pieces : List Piece) (piece : Piece) (render : Cursor → Rendered) (before : Page)
    → HoldsPieces s (x ∷ prefix) pieces before → piece_text piece ≡ (render before.cursor).text
    → before.text ++ named_text render before ≡ text_written s (pieces ++ piece ∷ [])
named_more s x prefix pieces piece render before h is =
    ap (λ text. text ++ named_text render before) h.1
    ∙ ap (λ b. text_written s pieces ++ with_breaks_written b (render before.cursor).text) h.0.line_break
    ∙ ap (λ text. text_written s pieces ++ with_breaks_written s.line_break text) (sym is)
    ∙ sym (text_written-append s pieces (piece ∷ []) ∙ ap (λ text. text_written s pieces ++ text) (text_written-one s piece))

pub page_more : (s : Effective) (x : Event) (prefix : List Event) (pieces : List Piece) (piece : Piece) (render : Cursor → Rendered) (before after : Page)
    → HoldsPieces s (x ∷ prefix) pieces before → Wrote render before after (Ok tt) → piece_text piece ≡ (render before.cursor).text
    → HoldsPieces s (x ∷ prefix) (pieces ++ piece ∷ []) after
page_more s x prefix pieces piece render before after h wrote is =
    (is_page_wrote h.0 wrote, (wrote_all wrote).text ∙ named_more s x prefix pieces piece render before h is, wrote_no_error wrote)

pub writes_later : (event : Event) (empty : Bool) (before after : MachineState) → IsLater event → WritesPage event empty before after
    → (after.settings ≡ before.settings)
    × Wrote (render_event before event empty) before.page after.page (Ok tt)
writes_later (stream_start encoding) empty before after later h = absurd later
writes_later event empty before after later h = h

-- The stream's start.
abbrev page_begun : Effective → Page → Page
page_begun s page = record page { encoding = Some s.encoding; line_break = s.line_break; bom_due = false }

page_started : (s : Effective) (encoding : Option Encoding)
    → HoldsPieces s (stream_start encoding ∷ []) ((stream_start_piece first_standing).piece ∷ []) (page_begun s (new_page s.limit))
page_started s encoding = (
  record {
    encoding = refl;
    bom_written = refl;
    line_break = refl;
    limit = refl;
    sound_output = record { prefix = refl; within = omega arith; full = λ h. cc; named = inl refl };
  },
  refl,
  refl,
)

pub taken_first : (event : Event) (rest : List Event) (given : Settings) (empty : Bool) (before after : MachineState)
    → IsStreamStart event
    → HasProgress given (event ∷ rest) [] (steps (settings_for given (event ∷ rest)) false [] at_stream first_standing) before
    → IsAcceptedPrefix given.canonical (event ∷ [])
    → WritesEvent event empty before after
    → HasProgress given (event ∷ rest) (event ∷ []) (steps (settings_for given (event ∷ rest)) empty (event ∷ []) at_stream first_standing) after
taken_first (stream_start encoding) rest given empty before after start h begun done =
    let kept : after.given ≡ before.given = ap (λ (s : MachineState). s.given) done.kept in
    let settings : after.settings ≡ effective given encoding = done.page.0 ∙ ap (λ g. effective g encoding) h.given_kept in
    record {
      given_kept = kept ∙ h.given_kept;
      settled = settings;
      stands = begun;
      stage = done.stage ∙ ap (λ stage. (step before.settings stage (stream_start encoding) empty (standing_of before)).stage) h.stage;
      standing =
          ap (λ (page : Page). let made : Standing = record { cursor = page.cursor; open_ended = after.open_ended } in made) (done.page.1)
          ∙ ap (λ open_ended. let made : Standing = record { cursor = before.page.cursor; open_ended = open_ended } in made)
          (done.open_ended ∙ ap (λ stage. (step before.settings stage (stream_start encoding) empty (standing_of before)).rendered.standing.open_ended) h.stage)
          ∙ h.standing;
      page =
          subst (λ page. HoldsPieces (effective given encoding) (stream_start encoding ∷ []) ((stream_start_piece first_standing).piece ∷ []) page)
          (sym (done.page.1
          ∙ ap (λ (g : Settings). page_begun (effective g encoding) before.page) h.given_kept
          ∙ ap (page_begun (effective given encoding)) h.page))
          (page_started (effective given encoding) encoding);
      flushed_whole = λ hands. cc;
      flushed = flushed_first given encoding rest after.page.output;
    }
taken_first event rest given empty before after start h begun done = absurd start
