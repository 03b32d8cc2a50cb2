-- Worked rows: the meaning of arrays of nodes, numbers and an arena.
use Rattle.yaml_c.proofs.Common.{ℕ, ℤ, None, Some, pos, true, List, [], ◌∷◌, refl, ◌≡◌}
use Rattle.yaml_base.proofs.Common.{codes, alias, scalar, sequence_start}
use Rattle.std.specs.Prelude.{negsuc}
use Rattle.std.specs.{Char.encode_utf8, Str.chars, Str.is_utf8}
use Rattle.yaml_base.specs.Event.{any_layout, any_style, block, double_quoted, flow, sequence_end}
use Rattle.yaml_base.specs.graphs.Meetings.{decimal_digits, mapping_held, mapping_tag, scalar_held, sequence_held, sequence_tag, string_tag}
use Rattle.yaml_c.specs.NodeRecords.{graph_recorded, graph_with, node_recorded, root_recorded}
use Rattle.yaml_c.specs.declared.{arena.Span.Span, nodes.NodeRecord.NodeRecord}

-- "ab!x" and a byte that is in no UTF-8
abbrev arena : List ℕ
arena = 0x61 ∷ 0x62 ∷ 0x21 ∷ 0x78 ∷ 0xFF ∷ []

abbrev numbers : List ℤ
numbers = pos 2 ∷ pos 2 ∷ pos 3 ∷ pos 0 ∷ negsuc 0 ∷ []

abbrev span : ℕ → ℕ → Span
span start length = record { start = start; length = length }

-- a node with this content, and the tag "!x" if the flag is on
abbrev node : (kind style has_tag start length : ℕ) → NodeRecord
node kind style has_tag start length =
    record { kind = kind; style = style; has_tag = has_tag; tag = span 2 2; content = span start length }

-- ---- one node

is_scalar : node_recorded arena numbers (node 1 3 0 0 2) ≡ Some (record { tag = string_tag; held = scalar_held (codes "ab") double_quoted })
unfolding chars is_utf8 encode_utf8
is_scalar = refl

has_tag : node_recorded arena numbers (node 1 0 7 1 0) ≡ Some (record { tag = codes "!x"; held = scalar_held [] any_style })
unfolding chars is_utf8 encode_utf8
has_tag = refl

is_sequence : node_recorded arena numbers (node 2 2 0 1 2) ≡ Some (record { tag = sequence_tag; held = sequence_held (2 ∷ 3 ∷ []) flow })
is_sequence = refl

is_mapping :
    node_recorded arena numbers (node 3 1 0 1 2)
    ≡ Some (record { tag = mapping_tag; held = mapping_held (record { key = 2; value = 3 } ∷ []) block })
is_mapping = refl

no_kind : node_recorded arena numbers (node 0 0 0 0 0) ≡ None
no_kind = refl

past_kinds : node_recorded arena numbers (node 4 0 0 0 0) ≡ None
past_kinds = refl

bad_text : node_recorded arena numbers (node 1 0 0 3 2) ≡ None
unfolding chars is_utf8 encode_utf8
bad_text = refl

past_texts : node_recorded arena numbers (node 1 0 0 5 1) ≡ None
past_texts = refl

past_numbers : node_recorded arena numbers (node 2 0 0 4 2) ≡ None
past_numbers = refl

no_value : node_recorded arena numbers (node 3 0 0 0 3) ≡ None
no_value = refl

no_scalar_style : node_recorded arena numbers (node 1 6 0 0 0) ≡ None
no_scalar_style = refl

no_sequence_style : node_recorded arena numbers (node 2 3 0 0 0) ≡ None
no_sequence_style = refl

no_mapping_style : node_recorded arena numbers (node 3 3 0 0 0) ≡ None
no_mapping_style = refl

-- ---- the array

abbrev letters : NodeRecord
letters = node 1 0 0 0 2

is_graph :
    graph_recorded arena numbers (node 2 0 0 0 2 ∷ letters ∷ [])
    ≡ Some
    (graph_with
    (record { tag = sequence_tag; held = sequence_held (2 ∷ 2 ∷ []) any_layout }
    ∷ record { tag = string_tag; held = scalar_held (codes "ab") any_style } ∷ []))
unfolding chars is_utf8 encode_utf8
is_graph = refl

no_nodes : graph_recorded arena numbers [] ≡ None
no_nodes = refl

number_past : graph_recorded arena numbers (node 2 0 0 2 1 ∷ letters ∷ []) ≡ None
unfolding chars is_utf8 encode_utf8
number_past = refl

number_zero : graph_recorded arena numbers (node 2 0 0 3 1 ∷ letters ∷ []) ≡ None
unfolding chars is_utf8 encode_utf8
number_zero = refl

number_negative : graph_recorded arena numbers (node 2 0 0 4 1 ∷ letters ∷ []) ≡ None
unfolding chars is_utf8 encode_utf8
number_negative = refl

bad_second : graph_recorded arena numbers (letters ∷ node 0 0 0 0 0 ∷ []) ≡ None
unfolding chars is_utf8 encode_utf8
bad_second = refl

-- ---- the events of the root

is_shared :
    root_recorded arena numbers (node 2 0 0 0 2 ∷ letters ∷ [])
    ≡ Some
    (sequence_start (record { anchor = None; tag = Some sequence_tag; implicit = true; style = any_layout })
    ∷ scalar
    (record {
      anchor = Some (codes "id001");
      tag = Some string_tag;
      value = codes "ab";
      plain_implicit = true;
      quoted_implicit = true;
      style = any_style;
    })
    ∷ alias (codes "id001")
    ∷ sequence_end
    ∷ [])
unfolding chars is_utf8 encode_utf8 decimal_digits
is_shared = refl
