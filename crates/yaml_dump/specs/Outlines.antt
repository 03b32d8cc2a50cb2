-- The parts of a document's events, except those of its nodes.
use Rattle.std.specs.Prelude.{◌≡◌, ◌∷◌, [], true, map, length}
use Rattle.yaml_base.specs.Event.{document_start}
use Rattle.yaml_base.specs.Seen.{seen_events}
use Rattle.yaml_base.specs.graphs.Meetings.{Graph, graph_steps}
use Rattle.yaml_dump.specs.Anchors.{is_numbered}
use Rattle.yaml_dump.specs.WalkSteps.{seen_step}
use Rattle.yaml_dump.specs.declared.outlines.Outline.{Outline}

-- the outline of a graph: its start, the steps of its walk, each about one of its nodes, and its end
pub record IsOutline {A : Type 0} (graph : Graph) (outline : Outline A) : Type 0 where
  pub begun : seen_events outline.events.items ≡ document_start graph.start ∷ []
  pub walked : map seen_step outline.walk.items ≡ graph_steps graph
  pub numbered : is_numbered (length graph.nodes) (map seen_step outline.walk.items) ≡ true
  pub end_implicit : outline.end_implicit ≡ graph.end_implicit
