-- A partial tree's events: each push adds its event at their end.
use Rattle.yaml_base.proofs.Common.{nat_tests, arith, option_and_then, Option, Some, List, [], ◌++◌, ◌∷◌, refl, ◌≡◌, append-nil, append_assoc, ap, sym}
use Rattle.yaml_base.proofs.Common.{◌∙◌, DocumentStart, Event, stream_start, stream_end, document_start, document_end, sequence_start, mapping_start}
use Rattle.yaml_base.proofs.Common.{Document, Documents, no_documents, documents_and, node_events, nodes_events, pairs_events, documents_events, stream_events}
use Rattle.yaml_base.proofs.Common.{Level, at_item, at_key, at_value, Partial, before_stream, between_documents, within_document, after_root, after_stream}
use Rattle.yaml_base.proofs.Common.{push_within, push, pushed, partial_of, Encoding}

abbrev pub level_events : Level → List Event
level_events (at_item c items) = sequence_start c ∷ nodes_events items
level_events (at_key c pairs) = mapping_start c ∷ pairs_events pairs
level_events (at_value c pairs key) = mapping_start c ∷ (pairs_events pairs ++ node_events key)

abbrev pub levels_events : List Level → List Event
levels_events [] = []
levels_events (level ∷ outer) = levels_events outer ++ level_events level

-- the events of a document that has begun
abbrev pub begun_events : Option Encoding → Documents → DocumentStart → List Event → List Event
begun_events e d s inside = (stream_start e ∷ (documents_events d ++ document_start s ∷ [])) ++ inside

abbrev pub partial_events : Partial → List Event
partial_events before_stream = []
partial_events (between_documents e d) = stream_start e ∷ documents_events d
partial_events (within_document e d s levels) = begun_events e d s (levels_events levels)
partial_events (after_root e d s root) = begun_events e d s (node_events root)
partial_events (after_stream t) = stream_events t

abbrev AddsEvent : Partial → Event → Partial → Type 0
AddsEvent p event q = partial_events q ≡ partial_events p ++ event ∷ []

within_added : (e : Option Encoding) (d : Documents) (s : DocumentStart) (levels : List Level) (event : Event) (q : Partial)
    → push_within e d s levels event ≡ Some q → AddsEvent (within_document e d s levels) event q
within_added e d s levels event q h = grind (arith, nat_tests, append-nil, append_assoc)

with_read_document : (e : Option Encoding) (d : Documents) (x : Document)
    → stream_start e ∷ documents_events (documents_and d x) ≡ begun_events e d x.start (node_events x.root) ++ document_end x.end_implicit ∷ []
with_read_document e d x = grind (arith, append_assoc)

pub push_events : (p : Partial) (event : Event) (q : Partial) → push p event ≡ Some q → AddsEvent p event q
push_events before_stream (stream_start encoding) q given =
    let same : between_documents encoding no_documents ≡ q = cc in ap partial_events (sym same)
push_events (between_documents e d) (document_start s) q given = grind (arith, append-nil)
push_events (between_documents e d) stream_end q given = grind (arith)
push_events (within_document e d s levels) event q given = within_added e d s levels event q given
push_events (after_root e d s root) (document_end implicit) q given =
    let x : Document = record { start = s; root = root; end_implicit = implicit } in
    let same : between_documents e (documents_and d x) ≡ q = cc in
    ap partial_events (sym same) ∙ with_read_document e d x
push_events p event q given = cc

abbrev AddsEvents : List Event → Partial → Partial → Type 0
AddsEvents events p q = pushed p events ≡ Some q → partial_events q ≡ partial_events p ++ events

one_more : (event : Event) (events : List Event) (p q : Partial) → ((r : Partial) → AddsEvents events r q) → (next : Option Partial) → push p event ≡ next
    → option_and_then (λ r. pushed r events) next ≡ Some q → partial_events q ≡ partial_events p ++ event ∷ events
one_more event events p q h next k e = grind (arith, nat_tests, push_events, append_assoc)

-- Pushing several events adds them all.
pub pushed_events : (events : List Event) (p q : Partial) → AddsEvents events p q
pushed_events [] p q given =
    let same : p ≡ q = cc in ap partial_events (sym same) ∙ sym (append-nil (partial_events p))
pushed_events (event ∷ events) p q given =
    one_more event events p q (λ r. pushed_events events r q) (push p event) refl given

pub partial_of_events : (events : List Event) (p : Partial) → partial_of events ≡ Some p → partial_events p ≡ events
partial_of_events events p given = pushed_events events before_stream p given
