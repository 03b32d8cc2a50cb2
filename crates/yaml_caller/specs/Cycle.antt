-- A document that holds itself, and its canonical bytes.
use Rattle.std.specs.Prelude.{ℕ, true, None, Some, List, [], ◌∷◌, negsuc, codes}
use Rattle.yaml_base.specs.Settings.{Settings, nothing_given}
use Rattle.yaml_base.specs.Event.{any_style, block}
use Rattle.yaml_base.specs.graphs.Meetings.{Graph, GraphNode, scalar_held, mapping_held, string_tag, mapping_tag}

-- canonical, no width, 100 bytes
abbrev pub cycle_settings : Settings
cycle_settings = record nothing_given { limit = 100; canonical = true; width = Some (negsuc 0) }

-- a mapping that is the value of its own key, node 2
abbrev pub map_node : GraphNode
map_node = record { tag = mapping_tag; held = mapping_held (record { key = 2; value = 1 } ∷ []) block }

-- the key
abbrev pub key_node : GraphNode
key_node = record { tag = string_tag; held = scalar_held (codes "k") any_style }

-- the document, with neither version nor directives, its markers implicit
abbrev pub cycle_graph : Graph
cycle_graph =
    record {
      start = record { version = None; directives = []; implicit = true };
      nodes = map_node ∷ key_node ∷ [];
      end_implicit = true;
    }

-- its canonical bytes
abbrev pub cycle_bytes : List ℕ
cycle_bytes = codes "---\n&id001 !!map {\n  ? !!str \"k\"\n  : *id001,\n}\n"
