-- The bytes of whole documents are in the output, and stay there.
use Rattle.yaml_emitter.proofs.Common.{ℕ, ◌≤◌, Option, None, length, take, true, List, [], ◌++◌, ◌∷◌, refl, ◌≡◌, take_at, append_assoc, ap, subst, sym, ◌∙◌}
use Rattle.yaml_emitter.proofs.Common.{arith, prefix_then, Event, stream_start, document_start, document_end, Document, Documents, documents_and, node_events}
use Rattle.yaml_emitter.proofs.Common.{documents_events, last_flushes, IsPrefix, written, Encoding, Settings, BeginsOutput, OutputBegins, Promised, State, inl}
use Rattle.yaml_emitter.proofs.Common.{whole_documents, KeepsDocuments, RefusedAt, IsRefusal, IsAccepted, IsAcceptedPrefix, inr}
use Rattle.std.proofs.lemmas.Bool.{cases_lt}
use Rattle.std.specs.Prelude.{◌<◌, Some}
use Rattle.yaml_base.specs.declared.errors.yaml_error_t.TheVariants.{Memory, WriteError}
use Rattle.yaml_emitter.specs.{Promises.StopsWriting, Promises.stops_before, Promises.stops_within, KeptDocuments.DocumentsStay}
use Rattle.yaml_emitter.specs.{KeptDocuments.KeepsFirstDocuments, KeptDocuments.KeepsAcceptedDocuments}
use Rattle.yaml_base.{proofs.QueueLaws.documents_whole, specs.declared.errors.yaml_error_t.yaml_error_t}
use Rattle.yaml_emitter.proofs.standing.Flushing.{last_flushes-append}

-- whole documents are written, whatever follows
documents_written : (encoding : Option Encoding) (documents : Documents) (last : Document) (later : List Event)
    → length (whole_documents encoding documents last) ≤ written (whole_documents encoding documents last ++ later)
documents_written encoding documents last later =
    let inside = documents_whole (documents_and documents last) later in omega (arith, inside.count)

-- and their end flushes the text before it
documents_hand_out : (encoding : Option Encoding) (documents : Documents) (last : Document) → last_flushes (whole_documents encoding documents last) ≡ true
documents_hand_out encoding documents last =
    let before = stream_start encoding ∷ documents_events documents in
    let inside = document_start last.start ∷ node_events last.root in
    let end = document_end last.end_implicit in
    ap last_flushes (sym (append_assoc before inside (end ∷ []))) ∙ last_flushes-append (before ++ inside) end

-- the documents that are complete in the written events are in the output
documents_begun : (given : Settings) (all prefix : List Event) (count : ℕ) (state : State) → BeginsOutput given all prefix count state
    → KeepsFirstDocuments given all count state.page.output
documents_begun given all prefix count state begun encoding documents last later parts within =
    begun.flushed (length whole) within (ap last_flushes first ∙ documents_hand_out encoding documents last)
  where
    whole : List Event
    whole = whole_documents encoding documents last

    first : take (length whole) all ≡ whole
    first = ap (take (length whole)) (sym parts) ∙ take_at whole later (length whole) refl

-- a prefix of a list that is longer than another of its prefixes begins with that and the next event
longer_begins : (prefix whole : List Event) (event : Event) (rest later : List Event) → prefix ++ event ∷ rest ≡ whole ++ later
    → length prefix < length whole
    → IsPrefix (prefix ++ event ∷ []) whole
longer_begins prefix [] event rest later is longer = absurd (omega (arith, longer))
longer_begins [] (x ∷ whole) event rest later is longer =
    let same : event ≡ x = cc in record { rest = whole; parts = ap (λ first. first ∷ whole) same }
longer_begins (y ∷ prefix) (x ∷ whole) event rest later is longer =
    let same : y ≡ x = cc in
    let tail : prefix ++ event ∷ rest ≡ whole ++ later = cc in
    let more = longer_begins prefix whole event rest later tail (omega (arith, longer)) in
    record { rest = more.rest; parts = ap (λ events. y ∷ events) more.parts ∙ ap (λ first. first ∷ whole) same }

-- of the events given, those that begin an accepted list come before the one that was refused
accepted_before : (given : Settings) (all whole later : List Event) (error : yaml_error_t) (state : State) (h : RefusedAt given all error state)
    → whole ++ later ≡ all → IsAcceptedPrefix given.canonical whole → length whole ≤ length h.prefix
accepted_before given all whole later error state h parts begins =
    elim (cases_lt (length h.prefix) (length whole)) [
      | inl longer ↦
          let with_event = longer_begins h.prefix whole h.event h.later later (h.parts ∙ sym parts) longer in
          absurd
          (h.ends
          (record {
            rest = with_event.rest ++ begins.rest;
            accepted =
                subst (IsAccepted given.canonical)
                (ap (λ events. events ++ begins.rest) (sym with_event.parts) ∙ append_assoc (h.prefix ++ h.event ∷ []) with_event.rest begins.rest)
                begins.accepted;
          }))
      | inr within ↦ within
    ]

-- without an error
all_kept : (given : Settings) (all : List Event) (state : State) → BeginsOutput given all (take (written all) all) (written all) state
    → KeepsDocuments given all state.page.output
all_kept given all state begun encoding documents last later parts =
    documents_begun given all (take (written all) all) (written all) state begun encoding documents last later parts
    (subst (λ events. length (whole_documents encoding documents last) ≤ written events) parts (documents_written encoding documents last later))

-- after a refusal
accepted_kept : (given : Settings) (all : List Event) (error : yaml_error_t) (state : State) → RefusedAt given all error state
    → KeepsAcceptedDocuments given all state.page.output
accepted_kept given all error state h encoding documents last later parts begins =
    documents_begun given all h.prefix (length h.prefix) state h.output encoding documents last later parts
    (accepted_before given all (whole_documents encoding documents last) later error state h parts begins)

-- after a failure of memory or the limit
first_kept : (given : Settings) (all prefix : List Event) (state : State) → StopsWriting given all prefix state
    → KeepsFirstDocuments given all (length prefix) state.page.output
first_kept given all prefix state (stops_before begun) = documents_begun given all prefix (length prefix) state begun
first_kept given all prefix state (stops_within event begun) = documents_begun given all (prefix ++ event ∷ []) (length prefix) state begun

stays_by : (error : Option yaml_error_t) (given : Settings) (all : List Event) (state : State) → OutputBegins given all error state
    → ((other : yaml_error_t) → error ≡ Some other → IsRefusal other → RefusedAt given all other state) → DocumentsStay error given all state
stays_by None given all state begun refused = all_kept given all state begun
stays_by (Some WriteError) given all state (prefix, stops) refused = (prefix, (stops, first_kept given all prefix state stops))
stays_by (Some Memory) given all state (prefix, stops) refused = (prefix, (stops, first_kept given all prefix state stops))
stays_by (Some error) given all state stops refused = accepted_kept given all error state (refused error refl tt)

-- the documents that were complete stay in the output, whatever failed after them
pub documents_kept : (given : Settings) (all : List Event) (state : State) → Promised given all state → DocumentsStay state.error given all state
documents_kept given all state promised = stays_by state.error given all state promised.output promised.refused

-- without an error, all that are complete
pub documents_without_error : (given : Settings) (all : List Event) (state : State) → Promised given all state → state.error ≡ None
    → KeepsDocuments given all state.page.output
documents_without_error given all state promised none =
    subst (λ (error : Option yaml_error_t). DocumentsStay error given all state) none (documents_kept given all state promised)

-- and stay there as the output grows
pub documents_stay : (given : Settings) (all : List Event) (before after : List ℕ) → KeepsDocuments given all before → IsPrefix before after
    → KeepsDocuments given all after
documents_stay given all before after kept grows encoding documents last later parts = prefix_then (kept encoding documents last later parts) grows
