-- Streams of dumped graphs, and the reading of their bytes.
use Rattle.std.specs.Prelude.{◌≡◌, Bool, Option, Some, List, [], ◌∷◌, ◌++◌, ℕ, ⊤, All, flat_map}
use Rattle.yaml_base.specs.Settings.{Encoding}
use Rattle.yaml_base.specs.Event.{Event, stream_start, stream_end}
use Rattle.yaml_base.specs.reading.Content.{DocumentContent}
use Rattle.yaml_base.specs.reading.CanonicalReader.{canonical_content}
use Rattle.yaml_base.specs.graphs.Meetings.{Graph, document_event_list}
use Rattle.yaml_base.specs.graphs.Unfolding.{IsWholeGraph, ContentUnfolds}

-- events are a dump of graphs: those of a stream of documents with these graphs, in order
pub record IsDumpOf (graphs : List Graph) (events : List Event) : Type 0 where
  pub encoding : Option Encoding
  pub documents : All IsWholeGraph graphs
  pub parts : stream_start encoding ∷ (flat_map document_event_list graphs ++ stream_end ∷ []) ≡ events

-- a document's content unfolds a graph but for its styles, and has its version and directives
pub record DocumentContentUnfolds (graph : Graph) (content : DocumentContent) : Type 0 where
  pub version : content.version ≡ graph.start.version
  pub directives : content.directives ≡ graph.start.directives
  pub unfolds : ContentUnfolds graph content.root

-- each content unfolds its graph, in order and as many
abbrev pub ContentsUnfold : List Graph → List DocumentContent → Type 0
ContentsUnfold [] [] = ⊤
ContentsUnfold (graph ∷ graphs) (content ∷ contents) = DocumentContentUnfolds graph content × ContentsUnfold graphs contents
ContentsUnfold _ _ = ⊥

-- the canonical reader finds contents in some bytes, and they unfold these graphs
pub record GraphsRead (breaks12 : Bool) (graphs : List Graph) (bytes : List ℕ) : Type 0 where
  pub contents : List DocumentContent
  pub read : canonical_content breaks12 bytes ≡ Some contents
  pub unfolds : ContentsUnfold graphs contents
