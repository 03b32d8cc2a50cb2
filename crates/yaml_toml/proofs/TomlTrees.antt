-- The tree of the events of a TOML document, which is written alike in every mode.
use Rattle.yaml_toml.proofs.Common.{None, Some, Option, Bool, true, false, List, [], ◌++◌, ◌∷◌, ◌||◌, refl, ◌≡◌, append-nil, append_assoc, ap, sym, ◌∙◌, chars}
use Rattle.yaml_toml.proofs.Common.{Event, scalar, sequence_start, sequence_end, Nodes, mapping_start, mapping_end, scalar_node, Pairs, no_nodes, nodes_and}
use Rattle.yaml_toml.proofs.Common.{no_pairs, pairs_and, Stream, collection_tag, directives_in_force, text_content, bool_content, collection_in, opening}
use Rattle.yaml_toml.proofs.Common.{closing, bool_tag, bool_text, int_tag, float_tag, number_tag, number_in, yaml_number, is_json_integer, signed_decimal}
use Rattle.yaml_toml.proofs.Common.{Header, json_word, integer_content, decimal_content, infinite, special_content, moment_content, date_content, toml_events}
use Rattle.yaml_toml.proofs.Common.{toml_items_events, keys_events, special_text, Moment, ClockTime, moment_of, datetime_text}
use Rattle.yaml_writer.{proofs.DocumentsOf.stream_of, proofs.DocumentsOf.stream_flat as one_flat, specs.declared.floats.SpecialFloat.TheVariants.NotANumber}
use Rattle.yaml_writer.proofs.Unsigned.{collection_unsigned, number_unsigned, text_unsigned, word_unsigned}
use Rattle.yaml_base.proofs.Common.{Node, sequence_node, mapping_node, node_events, nodes_events, pairs_events, stream_events, or_from}
use Rattle.yaml_base.specs.StreamLaw.{tag_has_flow_indicator, node_has_flow_indicator, nodes_have_flow_indicator, pairs_have_flow_indicator}
use Rattle.toml_datetime.specs.declared.datetime.Datetime.{Datetime}
use Rattle.toml_ordered.specs.Data as toml

-- a value as a node; items, and keys with their values, after others
abbrev mutual
  pub toml_node : toml.TomlNode → (canonical in_flow : Bool) → Node
  toml_node (toml.string text) canonical in_flow = scalar_node (text_content (chars text))
  toml_node (toml.integer z) canonical in_flow = scalar_node (integer_content canonical z)
  toml_node (toml.decimal word) canonical in_flow = scalar_node (decimal_content canonical word)
  toml_node (toml.infinity negative) canonical in_flow = scalar_node (special_content canonical (infinite negative))
  toml_node toml.not_a_number canonical in_flow = scalar_node (special_content canonical NotANumber)
  toml_node (toml.boolean flag) canonical in_flow = scalar_node (bool_content canonical flag)
  toml_node (toml.datetime date) canonical in_flow = scalar_node (date_content canonical date (moment_of date))
  toml_node (toml.array items) canonical in_flow = sequence_node (collection_in in_flow) (items_nodes items canonical in_flow no_nodes)
  toml_node (toml.table origin keys) canonical in_flow = mapping_node (collection_in in_flow) (keys_pairs keys canonical in_flow no_pairs)
  toml_node (toml.tables done last) canonical in_flow =
      sequence_node (collection_in in_flow)
      (nodes_and (items_nodes done canonical in_flow no_nodes) (mapping_node (collection_in in_flow) (keys_pairs last canonical in_flow no_pairs)))

  pub items_nodes : toml.Items → (canonical in_flow : Bool) → Nodes → Nodes
  items_nodes toml.no_items canonical in_flow before = before
  items_nodes (toml.item x items) canonical in_flow before = items_nodes items canonical in_flow (nodes_and before (toml_node x canonical in_flow))

  pub keys_pairs : toml.TomlNodes → (canonical in_flow : Bool) → Pairs → Pairs
  keys_pairs toml.no_nodes canonical in_flow before = before
  keys_pairs (toml.node key x keys) canonical in_flow before =
      keys_pairs keys canonical in_flow (pairs_and before (scalar_node (text_content (chars key))) (toml_node x canonical in_flow))

-- ---- their events are those of the value

last_table : (start : Event) (items keys : List Event)
    → (items ++ (start ∷ (keys ++ mapping_end ∷ []))) ++ sequence_end ∷ [] ≡ items ++ start ∷ (keys ++ mapping_end ∷ sequence_end ∷ [])
last_table start items keys =
    append_assoc items (start ∷ (keys ++ mapping_end ∷ [])) (sequence_end ∷ [])
    ∙ ap (λ (events : List Event). items ++ start ∷ events) (append_assoc keys (mapping_end ∷ []) (sequence_end ∷ []))

mutual
  pub node_flat : (x : toml.TomlNode) (canonical in_flow : Bool) → node_events (toml_node x canonical in_flow) ≡ toml_events canonical in_flow x
  node_flat (toml.array items) canonical in_flow =
      ap (λ (events : List Event). sequence_start (collection_in in_flow) ∷ (events ++ sequence_end ∷ [])) (items_flat items canonical in_flow no_nodes)
  node_flat (toml.table origin keys) canonical in_flow =
      ap (λ (events : List Event). mapping_start (collection_in in_flow) ∷ (events ++ mapping_end ∷ [])) (keys_flat keys canonical in_flow no_pairs)
  node_flat (toml.tables done last) canonical in_flow =
      ap (λ (events : List Event). sequence_start (collection_in in_flow) ∷ ((events ++ (mapping_start (collection_in in_flow)
      ∷ (pairs_events (keys_pairs last canonical in_flow no_pairs) ++ mapping_end ∷ []))) ++ sequence_end ∷ [])) (items_flat done canonical in_flow no_nodes)
      ∙ ap (λ (events : List Event). sequence_start (collection_in in_flow) ∷ ((toml_items_events canonical in_flow done ++
      (mapping_start (collection_in in_flow) ∷ (events ++ mapping_end ∷ []))) ++ sequence_end ∷ [])) (keys_flat last canonical in_flow no_pairs)
      ∙ ap (λ (events : List Event). sequence_start (collection_in in_flow) ∷ events)
      (last_table (mapping_start (collection_in in_flow)) (toml_items_events canonical in_flow done) (keys_events canonical in_flow last))
  node_flat _ canonical in_flow = refl

  items_flat : (items : toml.Items) (canonical in_flow : Bool) (before : Nodes)
      → nodes_events (items_nodes items canonical in_flow before) ≡ nodes_events before ++ toml_items_events canonical in_flow items
  items_flat toml.no_items canonical in_flow before = sym (append-nil (nodes_events before))
  items_flat (toml.item x items) canonical in_flow before =
      items_flat items canonical in_flow (nodes_and before (toml_node x canonical in_flow))
      ∙ append_assoc (nodes_events before) (node_events (toml_node x canonical in_flow)) (toml_items_events canonical in_flow items)
      ∙ ap (λ (events : List Event). nodes_events before ++ (events ++ toml_items_events canonical in_flow items)) (node_flat x canonical in_flow)

  keys_flat : (keys : toml.TomlNodes) (canonical in_flow : Bool) (before : Pairs)
      → pairs_events (keys_pairs keys canonical in_flow before) ≡ pairs_events before ++ keys_events canonical in_flow keys
  keys_flat toml.no_nodes canonical in_flow before = sym (append-nil (pairs_events before))
  keys_flat (toml.node key x keys) canonical in_flow before =
      let named = scalar_node (text_content (chars key)) in
      let node = toml_node x canonical in_flow in
      keys_flat keys canonical in_flow (pairs_and before named node)
      ∙ append_assoc (pairs_events before) (node_events named ++ node_events node) (keys_events canonical in_flow keys)
      ∙ ap (λ (events : List Event). pairs_events before ++ (scalar (text_content (chars key)) ∷ (events ++ keys_events canonical in_flow keys)))
      (node_flat x canonical in_flow)

-- the root of a document
abbrev pub root_of : toml.TomlNodes → toml.TomlNode
root_of keys = toml.table Header keys

abbrev pub all_events : toml.TomlNodes → (canonical in_flow : Bool) → List Event
all_events keys canonical in_flow = opening ++ toml_events canonical in_flow (root_of keys) ++ closing

abbrev pub toml_stream : toml.TomlNodes → (canonical in_flow : Bool) → Stream
toml_stream keys canonical in_flow = stream_of (toml_node (root_of keys) canonical in_flow ∷ [])

pub stream_flat : (keys : toml.TomlNodes) (canonical in_flow : Bool) → stream_events (toml_stream keys canonical in_flow) ≡ all_events keys canonical in_flow
stream_flat keys canonical in_flow =
    one_flat (toml_node (root_of keys) canonical in_flow) []
    ∙ ap (λ (events : List Event). opening ++ events ++ closing) (node_flat (root_of keys) canonical in_flow)

-- ---- no tag has a flow indicator

no_more : (x y : Bool) → y ≡ false → (x || y) ≡ x
no_more true y h = refl
no_more false y h = h

moment_unsigned : (moment : Moment) (canonical : Bool) (time : Option ClockTime)
    → node_has_flow_indicator canonical (directives_in_force []) (scalar_node (moment_content canonical (record { date = moment.date; time = time }))) ≡ false
moment_unsigned moment true None = refl
moment_unsigned moment true (Some time) = refl
moment_unsigned moment false None = refl
moment_unsigned moment false (Some time) = refl

date_unsigned : (date : Datetime) (canonical : Bool) (found : Option Moment)
    → node_has_flow_indicator canonical (directives_in_force []) (scalar_node (date_content canonical date found)) ≡ false
date_unsigned date canonical None = text_unsigned (chars (datetime_text date)) canonical
date_unsigned date canonical (Some moment) = moment_unsigned moment canonical moment.time

mutual
  pub value_unsigned : (x : toml.TomlNode) (canonical in_flow : Bool)
      → node_has_flow_indicator canonical (directives_in_force []) (toml_node x canonical in_flow) ≡ false
  value_unsigned (toml.string text) canonical in_flow = text_unsigned (chars text) canonical
  value_unsigned (toml.integer z) canonical in_flow = word_unsigned int_tag refl canonical (signed_decimal z)
  value_unsigned (toml.decimal word) canonical in_flow =
      let number = number_in (json_word word) in word_unsigned (number_tag number) (number_unsigned (is_json_integer number)) canonical (yaml_number number)
  value_unsigned (toml.infinity negative) canonical in_flow = word_unsigned float_tag refl canonical (special_text (infinite negative))
  value_unsigned toml.not_a_number canonical in_flow = word_unsigned float_tag refl canonical (special_text NotANumber)
  value_unsigned (toml.boolean flag) canonical in_flow = word_unsigned bool_tag refl canonical (bool_text flag)
  value_unsigned (toml.datetime date) canonical in_flow = date_unsigned date canonical (moment_of date)
  value_unsigned (toml.array items) canonical in_flow =
      or_from (tag_has_flow_indicator (directives_in_force []) (collection_tag canonical (collection_in in_flow)))
      (nodes_have_flow_indicator canonical (directives_in_force []) (items_nodes items canonical in_flow no_nodes)) (collection_unsigned canonical in_flow)
      (items_unsigned items canonical in_flow no_nodes)
  value_unsigned (toml.table origin keys) canonical in_flow =
      or_from (tag_has_flow_indicator (directives_in_force []) (collection_tag canonical (collection_in in_flow)))
      (pairs_have_flow_indicator canonical (directives_in_force []) (keys_pairs keys canonical in_flow no_pairs)) (collection_unsigned canonical in_flow)
      (keys_unsigned keys canonical in_flow no_pairs)
  value_unsigned (toml.tables done last) canonical in_flow =
      or_from (tag_has_flow_indicator (directives_in_force []) (collection_tag canonical (collection_in in_flow)))
      (nodes_have_flow_indicator canonical (directives_in_force []) (items_nodes done canonical in_flow no_nodes)
      || node_has_flow_indicator canonical (directives_in_force []) (mapping_node (collection_in in_flow) (keys_pairs last canonical in_flow no_pairs)))
      (collection_unsigned canonical in_flow)
      (or_from (nodes_have_flow_indicator canonical (directives_in_force []) (items_nodes done canonical in_flow no_nodes))
      (node_has_flow_indicator canonical (directives_in_force []) (mapping_node (collection_in in_flow) (keys_pairs last canonical in_flow no_pairs)))
      (items_unsigned done canonical in_flow no_nodes)
      (or_from (tag_has_flow_indicator (directives_in_force []) (collection_tag canonical (collection_in in_flow)))
      (pairs_have_flow_indicator canonical (directives_in_force []) (keys_pairs last canonical in_flow no_pairs)) (collection_unsigned canonical in_flow)
      (keys_unsigned last canonical in_flow no_pairs)))

  items_unsigned : (items : toml.Items) (canonical in_flow : Bool) (before : Nodes)
      → nodes_have_flow_indicator canonical (directives_in_force []) (items_nodes items canonical in_flow before)
      ≡ nodes_have_flow_indicator canonical (directives_in_force []) before
  items_unsigned toml.no_items canonical in_flow before = refl
  items_unsigned (toml.item x items) canonical in_flow before =
      items_unsigned items canonical in_flow (nodes_and before (toml_node x canonical in_flow))
      ∙ no_more (nodes_have_flow_indicator canonical (directives_in_force []) before)
      (node_has_flow_indicator canonical (directives_in_force []) (toml_node x canonical in_flow)) (value_unsigned x canonical in_flow)

  keys_unsigned : (keys : toml.TomlNodes) (canonical in_flow : Bool) (before : Pairs)
      → pairs_have_flow_indicator canonical (directives_in_force []) (keys_pairs keys canonical in_flow before)
      ≡ pairs_have_flow_indicator canonical (directives_in_force []) before
  keys_unsigned toml.no_nodes canonical in_flow before = refl
  keys_unsigned (toml.node key x keys) canonical in_flow before =
      let named = scalar_node (text_content (chars key)) in
      keys_unsigned keys canonical in_flow (pairs_and before named (toml_node x canonical in_flow))
      ∙ no_more (pairs_have_flow_indicator canonical (directives_in_force []) before || node_has_flow_indicator canonical (directives_in_force []) named)
      (node_has_flow_indicator canonical (directives_in_force []) (toml_node x canonical in_flow)) (value_unsigned x canonical in_flow)
      ∙ no_more (pairs_have_flow_indicator canonical (directives_in_force []) before) (node_has_flow_indicator canonical (directives_in_force []) named)
      (text_unsigned (chars key) canonical)
