-- A document as a graph of numbered nodes, the walk over it, and its events (libyaml's dumper; here a shared node gets its anchor at any
-- depth).
use Rattle.std.specs.Prelude.{ℕ, zero, suc, Bool, true, false, Option, None, Some, List, [], ◌∷◌, ◌++◌, ◌==◌, ◌+◌, ◌-◌, ◌&&◌, nat_le, not, length, replicate}
use Rattle.std.specs.Prelude.{filter, filter_map, flat_map, fold, position, codes, bytes_eq, slice_get, option_map, unwrap_or, if◌then◌else◌}
use Rattle.std.specs.List.{list_any, list_all}
use Rattle.std.specs.Fmt.{digits_onto}
use Rattle.yaml_base.specs.Characters.{Text}
use Rattle.yaml_base.specs.Event.{Event, DocumentStart, ScalarStyle, CollectionStyle, document_start, document_end, alias, scalar, sequence_start, sequence_end}
use Rattle.yaml_base.specs.Event.{mapping_start, mapping_end}

-- ---- documents of nodes

-- a pair of a mapping, by the numbers of its key and its value
pub record NumberPair : Type 0 where
  pub key : ℕ
  pub value : ℕ

-- the contents of a node: a value, or the numbers of other nodes
pub data Held : Type 0 where
  scalar_held : Text → ScalarStyle → Held
  sequence_held : List ℕ → CollectionStyle → Held
  mapping_held : List NumberPair → CollectionStyle → Held

-- a node: its tag and its contents
pub record GraphNode : Type 0 where
  pub tag : Text
  pub held : Held

-- a document: its nodes are numbered from 1
pub record Graph : Type 0 where
  pub start : DocumentStart
  pub nodes : List GraphNode
  pub end_implicit : Bool

-- the node of a number
abbrev pub node_numbered : Graph → ℕ → Option GraphNode
node_numbered graph zero = None
node_numbered graph (suc before) = slice_get graph.nodes before

-- the numbers that a node contains, in order, keys before values
abbrev pub numbers_held : Held → List ℕ
numbers_held (scalar_held value style) = []
numbers_held (sequence_held items style) = items
numbers_held (mapping_held pairs style) = flat_map (λ pair. pair.key ∷ pair.value ∷ []) pairs

-- the numbers that a node refers to; none if there is no such node
abbrev pub numbers_in : Option GraphNode → List ℕ
numbers_in None = []
numbers_in (Some node) = numbers_held node.held

-- the children of the node of a number
abbrev pub children : Graph → ℕ → List ℕ
children graph number = numbers_in (node_numbered graph number)

-- true if each number that a node of the graph contains names a node of it
abbrev pub is_whole : Graph → Bool
is_whole graph = list_all (λ node. list_all (λ number. nat_le 1 number && nat_le number (length graph.nodes)) (numbers_held node.held)) graph.nodes

-- ---- the walk

-- a step of the walk: it enters a node at the first meeting and leaves it after its children; at each other meeting it meets it again
pub data Step : Type 0 where
  enters : ℕ → Step
  leaves : ℕ → Step
  meets_again : ℕ → Step

-- true if a step of the walk enters this node
abbrev pub is_entry_of : ℕ → Step → Bool
is_entry_of number (enters other) = number == other
is_entry_of number _ = false

-- steps, and then those of the walk from a node on, to this depth
abbrev pub steps_from : ℕ → Graph → List Step → ℕ → List Step
steps_from zero graph before number = before
steps_from (suc depth) graph before number =
    elim (list_any (is_entry_of number) before) as (λ _. List Step) [
      | true ↦ before ++ meets_again number ∷ []
      | false ↦ fold (steps_from depth graph) (before ++ enters number ∷ []) (children graph number) ++ leaves number ∷ []
    ]

-- the depth-first walk from node 1; its depth never exceeds the number of nodes
abbrev pub graph_steps : Graph → List Step
graph_steps graph = steps_from (suc (length graph.nodes)) graph [] 1

-- the node that a step meets
abbrev pub node_met : Step → Option ℕ
node_met (enters number) = Some number
node_met (leaves number) = None
node_met (meets_again number) = Some number

-- the nodes in the order of the walk's meetings
abbrev pub meetings : Graph → List ℕ
meetings graph = filter_map node_met (graph_steps graph)

-- ---- anchors

-- the node that a step meets again
abbrev pub node_met_again : Step → Option ℕ
node_met_again (meets_again number) = Some number
node_met_again _ = None

-- each number of a list once, at its first place
abbrev pub first_of_each : List ℕ → List ℕ
first_of_each [] = []
first_of_each (number ∷ rest) = number ∷ filter (λ other. not (other == number)) (first_of_each rest)

-- the nodes that are met at least twice, in the order of their second meetings
abbrev pub shared_nodes : List Step → List ℕ
shared_nodes walk = first_of_each (filter_map node_met_again walk)

-- the decimal digits of a number, without a bound on their number
unfoldable pub decimal_digits : ℕ → Text
decimal_digits number = digits_onto (suc number) 10 false number []

-- `id` and the digits of a number, at least three
abbrev pub numbered_name : ℕ → Text
numbered_name number = codes "id" ++ replicate (3 - length (decimal_digits number)) 0x30 ++ decimal_digits number

-- the anchor of a node: shared nodes are numbered from 1
abbrev pub anchor_of : List Step → ℕ → Option Text
anchor_of walk number = option_map (λ place. numbered_name (place + 1)) (position (λ other. other == number) (shared_nodes walk))

-- ---- events

-- the tag of texts
abbrev pub string_tag : Text
string_tag = codes "tag:yaml.org,2002:str"

-- the tag of sequences
abbrev pub sequence_tag : Text
sequence_tag = codes "tag:yaml.org,2002:seq"

-- the tag of mappings
abbrev pub mapping_tag : Text
mapping_tag = codes "tag:yaml.org,2002:map"

-- the event that begins a node; its flags are on exactly if it has the tag of its kind
abbrev pub opening_event_of : Option Text → Text → Held → Event
opening_event_of anchor tag (scalar_held value style) =
    let implicit = bytes_eq tag string_tag in
    scalar (record { anchor = anchor; tag = Some tag; value = value; plain_implicit = implicit; quoted_implicit = implicit; style = style })
opening_event_of anchor tag (sequence_held items style) =
    sequence_start (record { anchor = anchor; tag = Some tag; implicit = bytes_eq tag sequence_tag; style = style })
opening_event_of anchor tag (mapping_held pairs style) =
    mapping_start (record { anchor = anchor; tag = Some tag; implicit = bytes_eq tag mapping_tag; style = style })

-- the event that begins a node, if there is one
abbrev pub opening_events : Option Text → Option GraphNode → List Event
opening_events anchor None = []
opening_events anchor (Some node) = opening_event_of anchor node.tag node.held ∷ []

-- the event that ends a node, if it has one
abbrev pub closing_event_of : Held → List Event
closing_event_of (scalar_held value style) = []
closing_event_of (sequence_held items style) = sequence_end ∷ []
closing_event_of (mapping_held pairs style) = mapping_end ∷ []

-- the event that ends a node, if it is a collection
abbrev pub closing_events : Option GraphNode → List Event
closing_events None = []
closing_events (Some node) = closing_event_of node.held

-- the events of a step of a walk
abbrev pub step_events : Graph → List Step → Step → List Event
step_events graph walk (enters number) = opening_events (anchor_of walk number) (node_numbered graph number)
step_events graph walk (leaves number) = closing_events (node_numbered graph number)
step_events graph walk (meets_again number) = alias (unwrap_or (anchor_of walk number) []) ∷ []

-- the events of a document; a document without nodes has none
abbrev pub document_event_list : Graph → List Event
document_event_list graph =
    let walk = graph_steps graph in
    if length graph.nodes == 0 then []
    else document_start graph.start ∷ (flat_map (step_events graph walk) walk ++ document_end graph.end_implicit ∷ [])
