-- A node's text by itself: the text that is rendered for it after the indicators of its place, as one text in place of pieces.
use Rattle.yaml_base.proofs.Common.{arith, ℕ, if◌then◌else◌, Option, None, Bool, false, List, [], ◌++◌, ◌∷◌, refl, ◌≡◌, append-nil, append_assoc, ap, ◌∙◌}
use Rattle.yaml_base.proofs.Common.{flat_map-append, Text, Cursor, Rendered, render_nothing, render_then, TagDirective, Scalar, scalar_tag, collection_tag}
use Rattle.yaml_base.proofs.Common.{Node, alias_node, scalar_node, Nodes, sequence_node, Pairs, mapping_node, no_nodes, nodes_and, no_pairs, pairs_and, Piece}
use Rattle.yaml_base.proofs.Common.{piece_text, text_of, Standing, RenderedPieces, then_pieces, render_properties, render_alias, render_separation, render_body}
use Rattle.yaml_base.proofs.Common.{choice_of, is_written_in_flow, Brackets, square, curly, render_end, entry_place, render_node, render_nodes, render_pairs}
use Rattle.yaml_base.proofs.Common.{as_item, as_key, as_value, Place, is_undented, deeper, entries_column, has_no_nodes, has_no_pairs, is_simple, is_simple_at}
use Rattle.yaml_base.proofs.Common.{render_place, Effective}

-- a scalar's anchor, tag, space and body
abbrev pub scalar_own : Effective → List TagDirective → Place → (simple : Bool) → Scalar → Cursor → Rendered
scalar_own s directives place simple content cursor =
    let choice = choice_of s place simple content in
    render_then
    (render_then (render_properties s.portable directives content.anchor (scalar_tag s.canonical content) choice.bare cursor)
    (render_separation choice.style place.in_flow content.value))
    (render_body choice.style s (if simple then None else s.width) (deeper s.indent place.column) content.value)

-- a collection's anchor and tag, its entries at their column, and its end
abbrev pub collection_own : Effective → Brackets → (in_flow undented empty : Bool) → Option ℕ → Rendered → (ℕ → Cursor → Rendered) → Rendered
collection_own s brackets in_flow undented empty column begun entries =
    render_then (render_then begun (entries (entries_column in_flow undented s.indent column begun.cursor))) (render_end s brackets in_flow empty column)

-- a node after other text: the text that its place puts before it, and its own
abbrev pub placed_own : Effective → Place → (simple : Bool) → Rendered → (Cursor → Rendered) → Rendered
placed_own s place simple before own = render_then before (λ after. render_then (render_place s place simple after) own)

-- a node's text after its place's indicators; with it, the items of a sequence and the pairs of a mapping with their indicators
abbrev mutual
  pub node_own : Node → Effective → List TagDirective → Place → Cursor → Rendered
  node_own (alias_node name) s directives place cursor = render_alias name (is_simple_at place s.canonical directives (alias_node name)) cursor
  node_own (scalar_node content) s directives place cursor =
      scalar_own s directives place (is_simple_at place s.canonical directives (scalar_node content)) content cursor
  node_own (sequence_node start items) s directives place cursor =
      collection_own s square (is_written_in_flow s place start (has_no_nodes items)) (is_undented s place.role) (has_no_nodes items) place.column
      (render_properties s.portable directives start.anchor (collection_tag s.canonical start) false cursor)
      (items_own items s directives (is_written_in_flow s place start (has_no_nodes items)))
  node_own (mapping_node start pairs) s directives place cursor =
      collection_own s curly (is_written_in_flow s place start (has_no_pairs pairs)) false (has_no_pairs pairs) place.column
      (render_properties s.portable directives start.anchor (collection_tag s.canonical start) false cursor)
      (pairs_own pairs s directives (is_written_in_flow s place start (has_no_pairs pairs)))

  pub items_own : Nodes → Effective → List TagDirective → (in_flow : Bool) → ℕ → Cursor → Rendered
  items_own no_nodes s directives in_flow column cursor = render_nothing cursor
  items_own (nodes_and items last) s directives in_flow column cursor =
      let place = entry_place in_flow (as_item (has_no_nodes items)) column in
      placed_own s place false (items_own items s directives in_flow column cursor) (node_own last s directives place)

  pub pairs_own : Pairs → Effective → List TagDirective → (in_flow : Bool) → ℕ → Cursor → Rendered
  pairs_own no_pairs s directives in_flow column cursor = render_nothing cursor
  pairs_own (pairs_and pairs key value) s directives in_flow column cursor =
      let key_place = entry_place in_flow (as_key (has_no_pairs pairs)) column in
      let value_place = entry_place in_flow (as_value (is_simple s.canonical directives key)) column in
      placed_own s value_place false
      (placed_own s key_place (is_simple s.canonical directives key) (pairs_own pairs s directives in_flow column cursor) (node_own key s directives key_place))
      (node_own value s directives value_place)

-- a node's text with the indicators of its place
abbrev pub node_placed : Node → Effective → List TagDirective → Place → Cursor → Rendered
node_placed node s directives place cursor =
    render_then (render_place s place (is_simple_at place s.canonical directives node) cursor) (node_own node s directives place)

-- some pieces are a text
abbrev pub Joined : RenderedPieces → Rendered → Type 0
Joined pieces rendered = (text_of pieces.pieces ≡ rendered.text) × (pieces.standing.cursor ≡ rendered.cursor)

-- the text of pieces, and of those after them
text_both : (a b : List Piece) → text_of (a ++ b) ≡ text_of a ++ text_of b
text_both a b = flat_map-append piece_text a b

-- pieces and those after them are a text and that after it
joined_both : (first : RenderedPieces) (next : Standing → RenderedPieces) (a : Rendered) (b : Cursor → Rendered) → Joined first a
    → ((standing : Standing) → Joined (next standing) (b standing.cursor)) → Joined (then_pieces first next) (render_then a b)
joined_both first next a b one two = grind (arith, text_both)

-- regrouped: indicators, properties, a space and a body
assoc_three : (a b c d : Text) → (((a ++ b) ++ c) ++ d) ++ [] ≡ a ++ ((b ++ c) ++ d)
assoc_three a b c d =
    append-nil (((a ++ b) ++ c) ++ d) ∙ ap (λ t. t ++ d) (append_assoc a b c) ∙ append_assoc a (b ++ c) d

-- a collection's pieces, after its place's indicators
collection_joined : (a b e f : Text) (x y z : Text) → x ≡ (a ++ b) ++ [] → y ≡ e → z ≡ f ++ [] → (x ++ y) ++ z ≡ a ++ ((b ++ e) ++ f)
collection_joined a b e f x y z h k l = grind (arith, append-nil, append_assoc)

-- a collection's pieces and the cursor after them, from those of its entries
collection_parts : (symbols begun : Rendered) (entries : RenderedPieces) (own : Rendered) (ending : Cursor → Rendered) → Joined entries own
    → (text_of ((record { lead = symbols.text ++ begun.text; body = None } ∷ [] ++ entries.pieces)
    ++ record { lead = (ending entries.standing.cursor).text; body = None } ∷ [])
    ≡ symbols.text ++ ((begun.text ++ own.text) ++ (ending own.cursor).text))
    × ((ending entries.standing.cursor).cursor ≡ (ending own.cursor).cursor)
collection_parts symbols begun entries own ending all = (
  text_both (record { lead = symbols.text ++ begun.text; body = None } ∷ [] ++ entries.pieces)
      (record { lead = (ending entries.standing.cursor).text; body = None } ∷ [])
      ∙ collection_joined _ _ own.text _ _ _ _ refl all.0 (append-nil ((ending entries.standing.cursor).text ++ []) ∙ ap (λ c. (ending c).text ++ []) all.1),
  ap (λ c. (ending c).cursor) all.1,
)

-- the pieces of a node are its text with its place's indicators
mutual
  pub node_joined : (n : Node) (s : Effective) (directives : List TagDirective) (place : Place) (standing : Standing)
      → Joined (render_node n s directives place standing) (node_placed n s directives place standing.cursor)
  node_joined (alias_node name) s directives place standing = grind (arith, append-nil)
  node_joined (scalar_node content) s directives place standing = grind (arith, assoc_three)
  node_joined (sequence_node start items) s directives place standing =
      let in_flow = is_written_in_flow s place start (has_no_nodes items) in
      let symbols = render_place s place (is_simple_at place s.canonical directives (sequence_node start items)) standing.cursor in
      let begun = render_properties s.portable directives start.anchor (collection_tag s.canonical start) false symbols.cursor in
      let column = entries_column in_flow _ _ _ begun.cursor in
      let before : Standing = record { cursor = begun.cursor; open_ended = standing.open_ended } in
      collection_parts symbols begun (render_nodes items s directives in_flow column before) (items_own items s directives in_flow column begun.cursor)
      (render_end s square in_flow (has_no_nodes items) place.column) (items_joined items s directives in_flow _ before)
  node_joined (mapping_node start pairs) s directives place standing =
      let in_flow = is_written_in_flow s place start (has_no_pairs pairs) in
      let symbols = render_place s place (is_simple_at place s.canonical directives (mapping_node start pairs)) standing.cursor in
      let begun = render_properties s.portable directives start.anchor (collection_tag s.canonical start) false symbols.cursor in
      let column = entries_column in_flow false s.indent place.column begun.cursor in
      let before : Standing = record { cursor = begun.cursor; open_ended = standing.open_ended } in
      collection_parts symbols begun (render_pairs pairs s directives in_flow column before) (pairs_own pairs s directives in_flow column begun.cursor)
      (render_end s curly in_flow (has_no_pairs pairs) place.column) (pairs_joined pairs s directives in_flow column before)

  pub items_joined : (items : Nodes) (s : Effective) (directives : List TagDirective) (in_flow : Bool) (column : ℕ) (standing : Standing)
      → Joined (render_nodes items s directives in_flow column standing) (items_own items s directives in_flow column standing.cursor)
  items_joined no_nodes s directives in_flow column standing = (refl, refl)
  items_joined (nodes_and items last) s directives in_flow column standing =
      let place = entry_place in_flow (as_item (has_no_nodes items)) column in
      joined_both (render_nodes items s directives in_flow column standing) (render_node last s directives place)
      (items_own items s directives in_flow column standing.cursor) (node_placed last s directives place)
      (items_joined items s directives in_flow column standing) (node_joined last s directives place)

  pub pairs_joined : (pairs : Pairs) (s : Effective) (directives : List TagDirective) (in_flow : Bool) (column : ℕ) (standing : Standing)
      → Joined (render_pairs pairs s directives in_flow column standing) (pairs_own pairs s directives in_flow column standing.cursor)
  pairs_joined no_pairs s directives in_flow column standing = (refl, refl)
  pairs_joined (pairs_and pairs key value) s directives in_flow column standing =
      let key_place = entry_place in_flow (as_key (has_no_pairs pairs)) column in
      let value_place = entry_place in_flow (as_value (is_simple s.canonical directives key)) column in
      let before = render_pairs pairs s directives in_flow column standing in
      let own = pairs_own pairs s directives in_flow column standing.cursor in
      joined_both (then_pieces before (render_node key s directives key_place)) (render_node value s directives value_place)
      (render_then own (node_placed key s directives key_place)) (node_placed value s directives value_place)
      (joined_both before (render_node key s directives key_place) own (node_placed key s directives key_place)
      (pairs_joined pairs s directives in_flow column standing) (node_joined key s directives key_place)) (node_joined value s directives value_place)
