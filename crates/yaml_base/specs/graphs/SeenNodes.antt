-- Nodes and documents as contracts see them: numbered nodes as plain data, without capacity and allocator.
use Rattle.std.specs.Prelude.{ℕ, ℤ, pos, negsuc, Bool, false, ◌&&◌, nat_le, not, Option, List, [], ◌∷◌, map, option_map, find}
use Rattle.std.specs.List.{flat_map}
use Rattle.yaml_base.specs.graphs.Meetings.{NumberPair, Held, scalar_held, sequence_held, mapping_held, GraphNode, Graph}
use Rattle.yaml_base.specs.Seen.{seen_text, seen_scalar_style, seen_sequence_style, seen_mapping_style, seen_version, seen_directive}
use Rattle.yaml_base.specs.declared.directives.yaml_version_directive_t.{yaml_version_directive_t}
use Rattle.yaml_base.specs.declared.directives.yaml_tag_directive_t.{yaml_tag_directive_t}
use Rattle.yaml_base.specs.declared.nodes.yaml_node_pair_t.{yaml_node_pair_t}
use Rattle.yaml_base.specs.declared.nodes.yaml_node_data_t.{yaml_node_data_t}
use Rattle.yaml_base.specs.declared.nodes.yaml_node_data_t.TheVariants.{Scalar, Sequence, Mapping}
use Rattle.yaml_base.specs.declared.nodes.yaml_node_t.{yaml_node_t}

-- a node's number; a negative one is seen as 0, and neither names a node
abbrev pub seen_number : ℤ → ℕ
seen_number (pos number) = number
seen_number (negsuc _) = 0

-- a pair's two numbers
abbrev pub seen_pair : yaml_node_pair_t → NumberPair
seen_pair pair = record { key = seen_number pair.key; value = seen_number pair.value }

-- the contents of a node
abbrev pub seen_held : {A : Type 0} → yaml_node_data_t A → Held
seen_held (Scalar value style) = scalar_held (seen_text value) (seen_scalar_style style)
seen_held (Sequence items style) = sequence_held (map seen_number items.items) (seen_sequence_style style)
seen_held (Mapping pairs style) = mapping_held (map seen_pair pairs.items) (seen_mapping_style style)

-- a node
abbrev pub seen_node : {A : Type 0} → yaml_node_t A → GraphNode
seen_node node = record { tag = seen_text node.tag; held = seen_held node.contents }

-- a document of these parts
abbrev pub seen_document : {A : Type 0} → Option yaml_version_directive_t → List (yaml_tag_directive_t A) → List (yaml_node_t A) → Bool → Bool → Graph
seen_document version directives nodes start_implicit end_implicit = record {
  start = record { version = option_map seen_version version; directives = map seen_directive directives; implicit = start_implicit };
  nodes = map seen_node nodes;
  end_implicit = end_implicit;
}

-- true if one of so many nodes has this number
abbrev pub names_node : ℕ → ℤ → Bool
names_node count (pos number) = nat_le 1 number && nat_le number count
names_node count (negsuc _) = false

-- the numbers of pairs, keys before their values
abbrev pub numbers_of_pairs : List yaml_node_pair_t → List ℤ
numbers_of_pairs pairs = flat_map (λ pair. pair.key ∷ pair.value ∷ []) pairs

-- the numbers that a node contains, in order, keys before values
abbrev pub numbers_of : {A : Type 0} → yaml_node_data_t A → List ℤ
numbers_of (Scalar value style) = []
numbers_of (Sequence items style) = items.items
numbers_of (Mapping pairs style) = numbers_of_pairs pairs.items

-- the numbers that nodes contain, in order
abbrev pub all_numbers : {A : Type 0} → List (yaml_node_t A) → List ℤ
all_numbers nodes = flat_map (λ node. numbers_of node.contents) nodes

-- the first number that names none of so many nodes; none if each names one
abbrev pub first_outside : ℕ → List ℤ → Option ℤ
first_outside count numbers = find (λ number. not (names_node count number)) numbers
