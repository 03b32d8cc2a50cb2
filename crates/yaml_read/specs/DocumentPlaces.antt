-- The reasons why bytes are not read as a document, and their places.
use Rattle.std.specs.Prelude.{ℕ, ◌≡◌, ◌≢◌, ◌⊎◌, None, Result, Ok, Err, IfErr, IfOk, List, Vec, [], ◌∷◌, ◌++◌, All, codes, length, map}
use Rattle.std.specs.Str.{encode_utf8_all}
use Rattle.yaml_base.specs.Characters.{Text, line_feed}
use Rattle.yaml_base.specs.Event.{Event}
use Rattle.yaml_base.specs.Seen.{seen_event}
use Rattle.yaml_base.specs.graphs.Documents.{graph_of}
use Rattle.yaml_base.specs.graphs.Meetings.{Graph, document_event_list}
use Rattle.yaml_base.specs.graphs.Unfolding.{IsWholeGraph}
use Rattle.yaml_base.specs.declared.documents.yaml_document_t.{yaml_document_t}
use Rattle.yaml_base.specs.declared.events.yaml_event_t.{yaml_event_t}
use Rattle.yaml_dump.specs.InOrder.{in_order}
use Rattle.yaml_read.specs.EventTexts.{HasRunText, IsInNode}
use Rattle.yaml_read.specs.Places.{EndsUtf8, IsBehindMarker, IsPlaceOf}
use Rattle.yaml_read.specs.RunPlaces.{StopsInRun, in_document}
use Rattle.yaml_read.specs.Words.{OrMemory, past_word}
use Rattle.yaml_read.specs.declared.errors.ReadError.{ReadError}
use Rattle.yaml_read.specs.declared.errors.ReadError.TheVariants as told
use Rattle.yaml_read.specs.declared.errors.Stop.{Stop}
use Rattle.yaml_read.specs.declared.errors.Stop.TheVariants as stop

-- the bytes are a document's first line, the text of the events of a node, and a line's end
pub record AreRunBytes (bytes : List ℕ) (events : List Event) : Type 0 where
  pub node : Text
  pub run : HasRunText [] events node
  pub in_node : All IsInNode events
  pub parts : bytes ≡ codes "---\n" ++ encode_utf8_all (node ++ line_feed ∷ [])

-- the events of a document, those of its node among them, have these bytes
pub record AreEventsOf (bytes : List ℕ) (all : List Event) : Type 0 where
  pub events : List Event
  pub whole : all ≡ in_document events
  pub run : AreRunBytes bytes events

-- so far before their end a document's first line is missing, or an event or the end after it
abbrev pub StopsInDumpedBytes : (bytes : List ℕ) → (left : ℕ) → Type 0
StopsInDumpedBytes bytes left =
    ((past_word (codes "---\n") bytes ≡ None) × (left ≡ length bytes)) ⊎ IsBehindMarker bytes (λ whole. StopsInRun whole left)

-- the bytes are those of the events of a node, and no graph with nodes has these events
pub record AreNotNumbered (bytes : List ℕ) : Type 0 where
  pub events : List Event
  pub run : AreRunBytes bytes events
  pub none : (graph : Graph) → IsWholeGraph graph → document_event_list graph ≢ in_document events

-- An error has the position at which the bytes stop to be UTF-8, or else at which they stop to be those of events; or they are those of
-- events that no graph has.
abbrev pub IsDocumentPlaced : (bytes : List ℕ) → ReadError → Type 0
IsDocumentPlaced bytes (told.NotCanonical position) = EndsUtf8 bytes position ⊎ IsPlaceOf (StopsInDumpedBytes bytes) bytes position
IsDocumentPlaced bytes told.NotNumbered = AreNotNumbered bytes
IsDocumentPlaced bytes told.Memory = Unit {0}
IsDocumentPlaced bytes _ = ⊥

-- ---- the code's answers

-- why reading events stops
abbrev pub DocumentStops : (bytes : List ℕ) → Stop → Type 0
DocumentStops bytes (stop.Refused left) = StopsInDumpedBytes bytes left
DocumentStops bytes (stop.TooDeep left) = ⊥
DocumentStops bytes stop.Memory = Unit {0}

-- the events of a document of these bytes
pub record DocumentEventsRead {A : Type 0} (bytes : List ℕ) (result : Result (Vec (yaml_event_t A) A) Stop) : Type 0 where
  pub reads : (events : List Event) → AreRunBytes bytes events → OrMemory (λ found. map seen_event found.items ≡ in_document events) result
  pub sound : IfOk result (λ found. AreEventsOf bytes (map seen_event found.items))
  pub stops : IfErr result (DocumentStops bytes)

-- a document has the events of this node, and is each graph that has them, with its nodes in order; or none has, or memory gave out
abbrev pub ComposesNode : {A : Type 0} → List Event → Result (yaml_document_t A) ReadError → Type 0
ComposesNode events (Ok document) =
    IsWholeGraph (graph_of document) × (document_event_list (graph_of document) ≡ in_document events)
    × ((graph : Graph) → IsWholeGraph graph → document_event_list graph ≡ in_document events → graph_of document ≡ in_order graph)
ComposesNode events (Err told.NotNumbered) = (graph : Graph) → IsWholeGraph graph → document_event_list graph ≢ in_document events
ComposesNode events (Err told.Memory) = Unit {0}
ComposesNode events (Err _) = ⊥
