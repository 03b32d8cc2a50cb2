-- Documents that are dumped with their types: they read back with all tags of their nodes, whichever schema resolves them.
use Rattle.std.specs.Prelude.{◌≡◌, ◌==◌, ℕ, Bool, true, None, Some, Result, List, map, length}
use Rattle.std.specs.List.{list_all}
use Rattle.yaml_base.specs.Event.{Event}
use Rattle.yaml_base.specs.graphs.Meetings.{Graph, document_event_list}
use Rattle.yaml_base.specs.graphs.Dumped.{IsDumpOf}
use Rattle.yaml_base.specs.Meaning.{has_scalar_texts}
use Rattle.yaml_base.specs.declared.errors.yaml_error_t.{yaml_error_t}
use Rattle.yaml_base.specs.streams.StreamContent.{DocumentTree}
use Rattle.yaml_base.specs.StreamLaw.{reads_alike}
use Rattle.yaml_base.specs.streams.StreamReader.{stream_trees}
use Rattle.yaml_base.specs.values.SchemaCore.{resolved_by_core}
use Rattle.yaml_base.specs.values.SchemaOf11.{resolved_by_11}
use Rattle.yaml_emitter.specs.Emits.{IsPromised}
use Rattle.yaml_emitter.specs.State.{State}
use Rattle.yaml_writer.specs.TypedEvents.{typed_event, document_by}
use Rattle.yaml_dump.specs.Dumps.{DumpsEvents}
use Rattle.yaml_dump.specs.GraphTrees.{TreesUnfold}

-- the events of a document, typed
abbrev pub typed_event_list : Graph → List Event
typed_event_list graph = map typed_event (document_event_list graph)

-- a typed dump on an emitter without an error: as a dump, with these events
abbrev pub DumpsTyped : Graph → State → Result (Unit {0}) yaml_error_t → State → Type 0
DumpsTyped graph before answer after = DumpsEvents (length graph.nodes == 0) (typed_event_list graph) before answer after

-- the reader of whole streams finds documents in these bytes that unfold the graphs with all their tags, if either schema gives its tag
-- to each scalar without one
pub record TypesReadBack (breaks12 : Bool) (graphs : List Graph) (bytes : List ℕ) : Type 0 where
  pub documents : List DocumentTree
  pub read : stream_trees breaks12 bytes ≡ Some documents
  pub by_11 : TreesUnfold graphs (map (document_by resolved_by_11) documents)
  pub by_core : TreesUnfold graphs (map (document_by resolved_by_core) documents)

-- this holds for an emitter that was given the typed events of dumped graphs, with texts of strings, and has no error: in portable mode
-- for all events, in other modes for those that lose no document and have no flow indicator in a tag
abbrev pub TypedDumpsReadBack : Type 0
TypedDumpsReadBack =
    (graphs : List Graph) (events : List Event) (state : State) → IsDumpOf graphs events → IsPromised state
    → state.events ≡ map typed_event events → list_all has_scalar_texts state.events ≡ true → state.error ≡ None
    → reads_alike state.given.portable state.given.canonical state.events ≡ true
    → TypesReadBack state.given.breaks12 graphs state.page.output
