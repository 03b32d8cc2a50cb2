-- Trees of events, and their events in order (YAML 1.1, section 3.2.2, and libyaml's event grammar).
use Rattle.std.specs.Prelude.{◌≡◌, Bool, Option, None, Some, List, [], ◌∷◌, ◌++◌, option_and_then}
use Rattle.yaml_base.specs.Characters.{Text}
use Rattle.yaml_base.specs.Settings.{Encoding}
use Rattle.yaml_base.specs.Event.{DocumentStart, Scalar, Collection, Event, stream_start, stream_end, document_start, document_end, alias, scalar}
use Rattle.yaml_base.specs.Event.{sequence_start, sequence_end, mapping_start, mapping_end}

-- a node is an alias, a scalar, a sequence of nodes or a mapping of pairs; nodes and pairs grow at their end
mutual
  pub data Node : Type 0 where
    alias_node : Text → Node
    scalar_node : Scalar → Node
    sequence_node : Collection → Nodes → Node
    mapping_node : Collection → Pairs → Node

  pub data Nodes : Type 0 where
    no_nodes : Nodes
    nodes_and : Nodes → Node → Nodes

  pub data Pairs : Type 0 where
    no_pairs : Pairs
    pairs_and : Pairs → Node → Node → Pairs

-- a document has one root
pub record Document : Type 0 where
  pub start : DocumentStart
  pub root : Node
  pub end_implicit : Bool

-- documents, the last one outermost
pub data Documents : Type 0 where
  no_documents : Documents
  documents_and : Documents → Document → Documents

-- a stream: its encoding and its documents
pub record Stream : Type 0 where
  pub encoding : Option Encoding
  pub documents : Documents

-- the events of a node, in order
abbrev mutual
  pub node_events : Node → List Event
  node_events (alias_node name) = alias name ∷ []
  node_events (scalar_node content) = scalar content ∷ []
  node_events (sequence_node start items) = sequence_start start ∷ (nodes_events items ++ sequence_end ∷ [])
  node_events (mapping_node start pairs) = mapping_start start ∷ (pairs_events pairs ++ mapping_end ∷ [])

  pub nodes_events : Nodes → List Event
  nodes_events no_nodes = []
  nodes_events (nodes_and items item) = nodes_events items ++ node_events item

  pub pairs_events : Pairs → List Event
  pairs_events no_pairs = []
  pairs_events (pairs_and pairs key value) = pairs_events pairs ++ (node_events key ++ node_events value)

-- a document's events
abbrev pub document_events : Document → List Event
document_events document =
    document_start document.start ∷ (node_events document.root ++ document_end document.end_implicit ∷ [])

-- the events of some documents, in order
abbrev pub documents_events : Documents → List Event
documents_events no_documents = []
documents_events (documents_and documents document) = documents_events documents ++ document_events document

-- a stream's events
abbrev pub stream_events : Stream → List Event
stream_events stream = stream_start stream.encoding ∷ (documents_events stream.documents ++ stream_end ∷ [])

-- an open collection with its contents so far: it awaits an item, a key, or the value of a key
pub data Level : Type 0 where
  at_item : Collection → Nodes → Level
  at_key : Collection → Pairs → Level
  at_value : Collection → Pairs → Node → Level

-- a prefix of a stream, as a tree whose last parts are missing; within a document the open collections are listed with the innermost first
pub data Partial : Type 0 where
  before_stream : Partial
  between_documents : Option Encoding → Documents → Partial
  within_document : Option Encoding → Documents → DocumentStart → List Level → Partial
  after_root : Option Encoding → Documents → DocumentStart → Node → Partial
  after_stream : Stream → Partial

-- a finished node joins the innermost open collection, or is the root
abbrev pub with_node : Option Encoding → Documents → DocumentStart → List Level → Node → Partial
with_node encoding documents start [] node = after_root encoding documents start node
with_node encoding documents start (at_item c items ∷ levels) node =
    within_document encoding documents start (at_item c (nodes_and items node) ∷ levels)
with_node encoding documents start (at_key c pairs ∷ levels) node =
    within_document encoding documents start (at_value c pairs node ∷ levels)
with_node encoding documents start (at_value c pairs key ∷ levels) node =
    within_document encoding documents start (at_key c (pairs_and pairs key node) ∷ levels)

-- the node that an end event makes of the innermost open collection
abbrev pub closed : Level → Event → Option Node
closed (at_item c items) sequence_end = Some (sequence_node c items)
closed (at_key c pairs) mapping_end = Some (mapping_node c pairs)
closed _ _ = None

-- within a document an event is a node, begins a collection, or ends the innermost open one
abbrev pub push_within : Option Encoding → Documents → DocumentStart → List Level → Event → Option Partial
push_within encoding documents start levels (alias name) =
    Some (with_node encoding documents start levels (alias_node name))
push_within encoding documents start levels (scalar content) =
    Some (with_node encoding documents start levels (scalar_node content))
push_within encoding documents start levels (sequence_start c) =
    Some (within_document encoding documents start (at_item c no_nodes ∷ levels))
push_within encoding documents start levels (mapping_start c) =
    Some (within_document encoding documents start (at_key c no_pairs ∷ levels))
push_within encoding documents start (level ∷ levels) event =
    option_and_then (λ node. Some (with_node encoding documents start levels node)) (closed level event)
push_within _ _ _ [] _ = None

-- a partial tree after one more event; none if the event may not follow
abbrev pub push : Partial → Event → Option Partial
push before_stream (stream_start encoding) = Some (between_documents encoding no_documents)
push (between_documents encoding documents) (document_start start) = Some (within_document encoding documents start [])
push (between_documents encoding documents) stream_end =
    Some (after_stream (record { encoding = encoding; documents = documents }))
push (within_document encoding documents start levels) event = push_within encoding documents start levels event
push (after_root encoding documents start root) (document_end implicit) =
    Some (between_documents encoding
    (documents_and documents (record { start = start; root = root; end_implicit = implicit })))
push _ _ = None

-- a partial tree after some more events; none if one of them may not follow
abbrev pub pushed : Partial → List Event → Option Partial
pushed partial [] = Some partial
pushed partial (event ∷ events) = option_and_then (λ next. pushed next events) (push partial event)

-- the partial tree of a list of events
abbrev pub partial_of : List Event → Option Partial
partial_of events = pushed before_stream events

-- the stream, if it has ended
abbrev pub finish_stream : Partial → Option Stream
finish_stream (after_stream stream) = Some stream
finish_stream _ = None

-- the tree of a whole list, if it has one
abbrev pub tree_of : List Event → Option Stream
tree_of events = option_and_then finish_stream (partial_of events)

-- a list is the events of at most one stream
abbrev pub OneTree : Type 0
OneTree = (t u : Stream) → stream_events t ≡ stream_events u → t ≡ u
