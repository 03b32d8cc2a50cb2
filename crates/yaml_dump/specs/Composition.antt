-- The state of a composer, which takes the events of a document one by one.
use Rattle.std.specs.Prelude.{ℕ, suc, ◌+◌, ◌-◌, ◌*◌, ◌/◌, ◌&&◌, nat_le, Option, None, Some, List, [], ◌∷◌, ◌++◌, length, replicate, unwrap_or, if◌then◌else◌}
use Rattle.std.specs.Prelude.{fold}
use Rattle.std.specs.Prelude.{slice_index_or, slice_set}
use Rattle.yaml_base.specs.Characters.{Text}
use Rattle.yaml_base.specs.Settings.{largest_usize}
use Rattle.yaml_base.specs.Event.{Event, alias, scalar, sequence_start, sequence_end, mapping_start, mapping_end, any_style}
use Rattle.yaml_base.specs.graphs.Meetings.{NumberPair, Held, scalar_held, sequence_held, mapping_held, GraphNode}

-- a collection that hasn't ended: its place among the nodes, and the numbers of its children so far
pub record Unended : Type 0 where
  pub place : ℕ
  pub children : List ℕ

-- the nodes that have begun, collections without children until they end; the collections that haven't ended, the innermost first; and for
-- each number that a name can have the number of the node that carries it
pub record Composition : Type 0 where
  pub nodes : List GraphNode
  pub unended : List Unended
  pub carriers : List ℕ

-- the state before the first event, for `count` numbers of names
abbrev pub nothing_composed : ℕ → Composition
nothing_composed count = record { nodes = []; unended = []; carriers = replicate count 0 }

-- ---- names

-- a number with one more digit, if the result fits; other characters change nothing
abbrev pub with_digit : ℕ → ℕ → ℕ
with_digit number character =
    if nat_le 0x30 character && nat_le character 0x39 && nat_le number ((largest_usize - (character - 0x30)) / 10) then number * 10 + (character - 0x30)
    else number

-- the number that the digits in a name give
abbrev pub number_in_name : Text → ℕ
number_in_name name = fold with_digit 0 name

-- the number in the name of an anchor; 0 without one
abbrev pub number_of_anchor : Option Text → ℕ
number_of_anchor None = 0
number_of_anchor (Some name) = number_in_name name

-- ---- steps

-- the collections with these numbers as further children of the innermost one
abbrev pub adding : List ℕ → List Unended → List Unended
adding numbers [] = []
adding numbers (collection ∷ outer) = record { place = collection.place; children = collection.children ++ numbers } ∷ outer

-- a composition with these numbers as further children of the innermost collection
abbrev pub with_children : List ℕ → Composition → Composition
with_children numbers standing = record standing { unended = adding numbers standing.unended }

-- a composition in which `carrier` is the node that carries a name of this number
abbrev pub carried : ℕ → ℕ → Composition → Composition
carried number carrier standing = record standing { carriers = slice_set standing.carriers number carrier }

-- a composition in which a node begins whose anchor has this number
abbrev pub begun_node : ℕ → GraphNode → Composition → Composition
begun_node anchor node standing =
    let number = suc (length standing.nodes) in
    record {
      nodes = standing.nodes ++ node ∷ [];
      unended = adding (number ∷ []) standing.unended;
      carriers = slice_set standing.carriers anchor number;
    }

-- a composition in which a collection begins whose anchor has this number
abbrev pub opened_node : ℕ → GraphNode → Composition → Composition
opened_node anchor node standing =
    let next = begun_node anchor node standing in
    record next { unended = record { place = length standing.nodes; children = [] } ∷ next.unended }

-- a composition in which a node of these parts begins
abbrev pub node_begun : Option Text → Text → Held → Composition → Composition
node_begun anchor tag held standing = begun_node (number_of_anchor anchor) (record { tag = tag; held = held }) standing

-- a composition in which a collection of these parts begins
abbrev pub collection_begun : Option Text → Text → Held → Composition → Composition
collection_begun anchor tag held standing = opened_node (number_of_anchor anchor) (record { tag = tag; held = held }) standing

-- the pairs of a list of numbers, two by two
abbrev pub pairs_of_list : List ℕ → List NumberPair
pairs_of_list [] = []
pairs_of_list (key ∷ []) = []
pairs_of_list (key ∷ value ∷ rest) = record { key = key; value = value } ∷ pairs_of_list rest

-- a node's contents with these children
abbrev pub held_with : List ℕ → Held → Held
held_with children (scalar_held value style) = scalar_held value style
held_with children (sequence_held items style) = sequence_held children style
held_with children (mapping_held pairs style) = mapping_held (pairs_of_list children) style

-- the node at a place; an empty one after the last
abbrev pub node_at_place : List GraphNode → ℕ → GraphNode
node_at_place nodes place = slice_index_or nodes place (record { tag = []; held = scalar_held [] any_style })

-- a node with these children
abbrev pub node_with : List ℕ → GraphNode → GraphNode
node_with children node = record { tag = node.tag; held = held_with children node.held }

-- nodes of which the one at a place gets these children
abbrev pub filled : List ℕ → ℕ → List GraphNode → List GraphNode
filled children place nodes = slice_set nodes place (node_with children (node_at_place nodes place))

-- a composition in which the innermost collection ends
abbrev pub ended : List Unended → Composition → Composition
ended [] standing = standing
ended (collection ∷ outer) standing =
    record standing { nodes = filled collection.children collection.place standing.nodes; unended = outer }

-- a composition after one more event; events that are no part of a node change nothing
abbrev pub composed : Composition → Event → Composition
composed standing (alias name) = record standing { unended = adding (slice_index_or standing.carriers (number_in_name name) 0 ∷ []) standing.unended }
composed standing (scalar content) = node_begun content.anchor (unwrap_or content.tag []) (scalar_held content.value content.style) standing
composed standing (sequence_start start) = collection_begun start.anchor (unwrap_or start.tag []) (sequence_held [] start.style) standing
composed standing (mapping_start start) = collection_begun start.anchor (unwrap_or start.tag []) (mapping_held [] start.style) standing
composed standing sequence_end = ended standing.unended standing
composed standing mapping_end = ended standing.unended standing
composed standing _ = standing
