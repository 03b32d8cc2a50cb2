-- Documents of nodes, computed: their meetings and their events.
use Rattle.yaml_base.proofs.Common.{suc, zero, ℕ, Option, None, Some, codes, length, false, true, List, [], ◌++◌, ◌∷◌, refl, ◌≡◌, Text, any_style, block}
use Rattle.yaml_base.proofs.Common.{DocumentStart, Event, document_start, document_end, alias, scalar, sequence_start, sequence_end, mapping_start, mapping_end}
use Rattle.yaml_base.proofs.Common.{Settings, NumberPair, scalar_held, sequence_held, mapping_held, GraphNode, Graph, string_tag, sequence_tag, mapping_tag}
use Rattle.yaml_base.proofs.Common.{document_event_list}
use Rattle.std.specs.{Char.encode_utf8, Prelude.slice_get, Prelude.filter_map, Prelude.flat_map}
use Rattle.yaml_base.{proofs.rows.Cases.Gives, specs.graphs.Meetings.meetings, specs.graphs.Meetings.decimal_digits}
use Rattle.yaml_base.proofs.rows.RowEvents.{plain_settings, canonical_settings, stream_of, rendered_under}

-- nodes with the tags of their kinds, in a document without directives whose markers are implicit
abbrev pub string_of : Text → GraphNode
string_of value = record { tag = string_tag; held = scalar_held value any_style }

abbrev pub sequence_of : List ℕ → GraphNode
sequence_of items = record { tag = sequence_tag; held = sequence_held items block }

abbrev pub mapping_of : List NumberPair → GraphNode
mapping_of pairs = record { tag = mapping_tag; held = mapping_held pairs block }

abbrev start : DocumentStart
start = record { version = None; directives = []; implicit = true }

abbrev pub graph_of : List GraphNode → Graph
graph_of nodes = record { start = start; nodes = nodes; end_implicit = true }

-- their events
abbrev a_string : Option Text → Text → Event
a_string anchor value = scalar (record {
  anchor = anchor;
  tag = Some string_tag;
  value = value;
  plain_implicit = true;
  quoted_implicit = true;
  style = any_style;
})

abbrev a_sequence : Option Text → Event
a_sequence anchor = sequence_start (record { anchor = anchor; tag = Some sequence_tag; implicit = true; style = block })

-- a node shared two levels down
shared_below : (meetings (graph_of (sequence_of (2 ∷ []) ∷ sequence_of (3 ∷ 3 ∷ []) ∷ string_of (codes "a") ∷ [])) ≡ 1 ∷ 2 ∷ 3 ∷ 3 ∷ [])
    × (document_event_list (graph_of (sequence_of (2 ∷ []) ∷ sequence_of (3 ∷ 3 ∷ []) ∷ string_of (codes "a") ∷ []))
    ≡ document_start start ∷ a_sequence None ∷ a_sequence None ∷ a_string (Some (codes "id001")) (codes "a") ∷ alias (codes "id001")
    ∷ sequence_end ∷ sequence_end ∷ document_end true ∷ [])
unfolding decimal_digits
shared_below = (refl, refl)

-- a sequence that is its own item
holds_itself : document_event_list (graph_of (sequence_of (1 ∷ []) ∷ []))
    ≡ document_start start ∷ a_sequence (Some (codes "id001")) ∷ alias (codes "id001") ∷ sequence_end ∷ document_end true ∷ []
unfolding decimal_digits
holds_itself = refl

-- anchors are numbered by second meetings: the inner node's comes first
shared_twice : (meetings (graph_of (sequence_of (2 ∷ 2 ∷ []) ∷ sequence_of (3 ∷ 3 ∷ []) ∷ string_of (codes "a") ∷ [])) ≡ 1 ∷ 2 ∷ 3 ∷ 3 ∷ 2 ∷ [])
    × (document_event_list (graph_of (sequence_of (2 ∷ 2 ∷ []) ∷ sequence_of (3 ∷ 3 ∷ []) ∷ string_of (codes "a") ∷ []))
    ≡ document_start start ∷ a_sequence None ∷ a_sequence (Some (codes "id002")) ∷ a_string (Some (codes "id001")) (codes "a") ∷ alias (codes "id001")
    ∷ sequence_end ∷ alias (codes "id002") ∷ sequence_end ∷ document_end true ∷ [])
unfolding decimal_digits
shared_twice = (refl, refl)

-- a mapping that is a value of its own
mapping_within_itself : document_event_list (graph_of (mapping_of (record { key = 2; value = 1 } ∷ []) ∷ string_of (codes "k") ∷ []))
    ≡ document_start start ∷ mapping_start (record { anchor = Some (codes "id001"); tag = Some mapping_tag; implicit = true; style = block })
    ∷ a_string None (codes "k") ∷ alias (codes "id001") ∷ mapping_end ∷ document_end true ∷ []
unfolding decimal_digits
mapping_within_itself = refl

-- a scalar with another tag has its flags off; a node that isn't reached is left out; no nodes have no events
other_tag : (document_event_list
    (graph_of (record { tag = codes "tag:yaml.org,2002:int"; held = scalar_held (codes "5") any_style } ∷ string_of (codes "b") ∷ []))
    ≡ document_start start
    ∷ scalar (record {
      anchor = None;
      tag = Some (codes "tag:yaml.org,2002:int");
      value = codes "5";
      plain_implicit = false;
      quoted_implicit = false;
      style = any_style;
    })
    ∷ document_end true ∷ [])
    × (document_event_list (graph_of []) ≡ [])
other_tag = (refl, refl)

-- nodes 1 to 40, each a sequence of the next one twice, and a string
abbrev doubling : ℕ → ℕ → List GraphNode
doubling zero number = string_of (codes "a") ∷ []
doubling (suc more) number = sequence_of (suc number ∷ suc number ∷ []) ∷ doubling more (suc number)

abbrev alias_in : Event → Option Text
alias_in (alias name) = Some name
alias_in _ = None

-- 2 events for the document, 80 for the sequences, 1 scalar and 40 aliases; each node but the first is met twice
doubled_forty_times : (length (document_event_list (graph_of (doubling 40 1))) ≡ 123)
    × (length (filter_map alias_in (document_event_list (graph_of (doubling 40 1)))) ≡ 40)
    × (length (meetings (graph_of (doubling 40 1))) ≡ 81)
unfolding decimal_digits
doubled_forty_times = (refl, refl, refl)

-- a sequence of so many strings from a number on
abbrev numbers_from : ℕ → ℕ → List ℕ
numbers_from number zero = []
numbers_from number (suc more) = number ∷ numbers_from (suc number) more

abbrev strings : ℕ → List GraphNode
strings zero = []
strings (suc more) = string_of (codes "x") ∷ strings more

-- a sequence of 100 strings and again of these: the last one's anchor and alias have three digits
many_shared : (slice_get (document_event_list (graph_of (sequence_of (numbers_from 2 100 ++ numbers_from 2 100) ∷ strings 100))) 101
    ≡ Some (a_string (Some (codes "id100")) (codes "x")))
    × (slice_get (document_event_list (graph_of (sequence_of (numbers_from 2 100 ++ numbers_from 2 100) ∷ strings 100))) 201
    ≡ Some (alias (codes "id100")))
unfolding decimal_digits
many_shared = (refl, refl)

-- ---- the text of documents in a stream

abbrev pub dumped : Settings → List (List GraphNode) → Text
dumped settings documents = rendered_under settings (stream_of (flat_map (λ nodes. document_event_list (graph_of nodes)) documents))

abbrev dumped_alone : List GraphNode → Text
dumped_alone nodes = dumped plain_settings (nodes ∷ [])

texts_of_documents : Gives dumped_alone (
    (sequence_of (2 ∷ 2 ∷ []) ∷ string_of (codes "a") ∷ [], codes "- &id001 a\n- *id001\n")  -- shared items
    ∷ (sequence_of (2 ∷ []) ∷ sequence_of (3 ∷ 3 ∷ []) ∷ string_of (codes "a") ∷ [], codes "- - &id001 a\n  - *id001\n")  -- shared below text
    ∷ (sequence_of (1 ∷ []) ∷ [], codes "&id001\n- *id001\n")  -- holds itself text
    -- shared twice text
    ∷ (sequence_of (2 ∷ 2 ∷ []) ∷ sequence_of (3 ∷ 3 ∷ []) ∷ string_of (codes "a") ∷ [], codes "- &id002\n  - &id001 a\n  - *id001\n- *id002\n")
    ∷ (mapping_of (record { key = 2; value = 1 } ∷ []) ∷ string_of (codes "k") ∷ [], codes "&id001\nk: *id001\n")  -- mapping within itself text
    ∷ (string_of (codes "a") ∷ string_of (codes "b") ∷ [], codes "a\n")  -- unreached text
    ∷ (record { tag = codes "tag:yaml.org,2002:int"; held = scalar_held (codes "5") any_style } ∷ [], codes "!!int 5\n")  -- other tag text
    ∷ [])
unfolding decimal_digits encode_utf8
texts_of_documents = refl

-- numbers begin anew in each document
dumped_twice : (let nodes = sequence_of (2 ∷ 2 ∷ []) ∷ string_of (codes "a") ∷ [] in dumped plain_settings (nodes ∷ nodes ∷ []))
    ≡ codes "- &id001 a\n- *id001\n---\n- &id001 a\n- *id001\n"
unfolding decimal_digits encode_utf8
dumped_twice = refl

canonical_texts : Gives (dumped canonical_settings) (
    -- mapping within itself canonical
    ((mapping_of (record { key = 2; value = 1 } ∷ []) ∷ string_of (codes "k") ∷ []) ∷ [], codes "---\n&id001 !!map {\n  ? !!str \"k\"\n  : *id001,\n}\n")
    -- the numbers of nodes don't show: nodes 2 and 3 exchanged
    ∷ (
      (sequence_of (2 ∷ 2 ∷ []) ∷ sequence_of (3 ∷ 3 ∷ []) ∷ string_of (codes "a") ∷ []) ∷ [],
      dumped canonical_settings ((sequence_of (3 ∷ 3 ∷ []) ∷ string_of (codes "a") ∷ sequence_of (2 ∷ 2 ∷ []) ∷ []) ∷ []),
    )  -- exchanged
    ∷ [])
unfolding decimal_digits encode_utf8
canonical_texts = refl
