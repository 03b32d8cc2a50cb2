-- The layout of a tree of events, under the settings of canonical values, is its canonical text.
use Rattle.yaml_base.proofs.Common.{ℕ, Bool, true, false, Option, None, Some, [], ◌∷◌, ◌++◌, refl, ◌≡◌, ap, subst, sym, ◌∙◌, append_assoc, append-nil}
use Rattle.yaml_base.proofs.Common.{and-false, codes, Text, Cursor, Rendered, render_then, Standing, RenderedPieces, text_of, one_piece, then_pieces, Place}
use Rattle.yaml_base.proofs.Common.{root_place, entry_place, Role, as_item, as_key, as_value, is_key, line_column, deeper, is_written_in_flow, has_no_nodes}
use Rattle.yaml_base.proofs.Common.{has_no_pairs, render_node, render_nodes, render_pairs, is_simple, Brackets, square, curly, start_piece, is_undented}
use Rattle.yaml_base.proofs.Common.{render_properties, opening_or_comma, flow_break, key_indicator, Collection, Node, alias_node, scalar_node, sequence_node}
use Rattle.yaml_base.proofs.DumpedLeaves.{Writes, alias_writes, force, lead, led, properties_are, s, scalar_writes, standing_at, text_of-append, writes_text}
use Rattle.yaml_base.{specs.Cursor.space_if, specs.graphs.DumpedText.in_quotes, specs.graphs.DumpedText.line_at, proofs.DumpedLeaves.writes_then}
use Rattle.yaml_base.proofs.Common.{mapping_node, Nodes, no_nodes, nodes_and, Pairs, no_pairs, pairs_and, arith, nat_tests}
use Rattle.yaml_base.specs.Indicators.{render_indicator, opening_bracket}
use Rattle.yaml_base.specs.NodeLayout.{alias_piece, end_piece, render_collection, scalar_piece}
use Rattle.yaml_base.specs.graphs.DumpedText.{scalar_properties, collection_properties, closing_line, node_text, nodes_text, node_pairs_text}

-- ---- collections

-- a bracket, a space before it if none precedes
opening_is : (bracket : Text) (cursor : Cursor)
    → render_indicator (opening_bracket bracket) cursor
    ≡ record {
      text = space_if true cursor ++ bracket;
      cursor = record { column = (render_indicator (opening_bracket bracket) cursor).cursor.column; whitespace = true; indention = false };
    }
opening_is bracket cursor =
    ap (λ b. let made : Rendered = record {
      text = space_if true cursor ++ bracket;
      cursor = record { column = (render_indicator (opening_bracket bracket) cursor).cursor.column; whitespace = true; indention = b };
    } in made) (and-false cursor.indention)

-- brackets with nothing between them
empty_writes : (brackets : Brackets) (column : Option ℕ) (from : Standing)
    → Writes (space_if true from.cursor ++ (brackets.opening ++ brackets.closing)) from.open_ended (one_piece (end_piece s brackets true true column from))
empty_writes brackets column from = grind (arith, and-false, append_assoc, append-nil)

-- after the last entry a comma, and the closing bracket on a line of its own
closing_writes : (brackets : Brackets) (column : Option ℕ) (at open_ended : ℕ)
    → Writes (codes "," ++ (line_at (line_column column) ++ brackets.closing)) open_ended
    (one_piece (end_piece s brackets true false column (standing_at at open_ended)))
closing_writes brackets column at open_ended = grind (arith, nat_tests, append-nil)

-- properties, and then the pieces of a collection's entries and its end
collection_writes : (brackets : Brackets) (start : Collection) (place : Place) (undented empty : Bool)
    (entries : ℕ → Standing → RenderedPieces) (text : Text) (standing : Standing)
    → ((from : Standing) → Writes (space_if true from.cursor ++ text) from.open_ended
    (then_pieces (entries (deeper 2 place.column) from) (λ after. one_piece (end_piece s brackets true empty place.column after))))
    → Writes (led (lead place standing) (collection_properties start ++ text)) standing.open_ended
    (render_collection s brackets true undented empty place.column (start_piece s force place false start standing) entries)
collection_writes brackets start place undented empty entries text standing goes =
    let before = lead place standing in
    let properties = render_properties false force start.anchor start.tag false before.cursor in
    let first = start_piece s force place false start standing in
    let inner = entries (deeper 2 place.column) first.standing in
    let end = one_piece (end_piece s brackets true empty place.column inner.standing) in
    let rest = goes first.standing in
    record {
      is =
          text_of-append ((first.piece ∷ []) ++ inner.pieces) end.pieces
          ∙ ap (λ t. t ++ text_of end.pieces) (text_of-append (first.piece ∷ []) inner.pieces)
          ∙ append_assoc (text_of (first.piece ∷ [])) (text_of inner.pieces) (text_of end.pieces)
          ∙ ap (λ t. text_of (first.piece ∷ []) ++ t) (sym (text_of-append inner.pieces end.pieces) ∙ rest.is)
          ∙ (simp (append_assoc, append-nil))
          ∙ ap (λ t. before.text ++ (t ++ text)) (properties_are start.anchor start.tag false before.cursor)
          ∙ ap (λ t. before.text ++ t) (append_assoc (space_if true before.cursor) (collection_properties start) text);
      column = rest.column;
      stands = rest.stands;
    }

-- ---- entries

-- a bracket, a space before it if none precedes, and the line of the first item
item_first : (bracket : Text) (column : ℕ) (cursor : Cursor) (text : Text)
    → led (render_then (opening_or_comma bracket true cursor) (flow_break s (Some column))) text
    ≡ space_if true cursor ++ (bracket ++ (line_at column ++ text))
item_first bracket column cursor text =
    ap (λ r. led (render_then r (flow_break s (Some column))) text) (opening_is bracket cursor) ∙ simp append_assoc

key_first : (column : ℕ) (cursor : Cursor) (text : Text)
    → led (render_then (render_then (opening_or_comma (codes "{") true cursor) (flow_break s (Some column))) (key_indicator false false)) text
    ≡ space_if true cursor ++ (codes "{" ++ (line_at column ++ (codes "? " ++ text)))
key_first column cursor text = grind (arith, nat_tests, opening_is, append_assoc)

-- after a node
item_next : (column at open_ended : ℕ) (text : Text)
    → led (lead (entry_place true (as_item false) column) (standing_at at open_ended)) text ≡ codes "," ++ (line_at column ++ text)
item_next column at open_ended text = refl

key_next : (column at open_ended : ℕ) (text : Text)
    → led (lead (entry_place true (as_key false) column) (standing_at at open_ended)) text ≡ codes "," ++ (line_at column ++ (codes "? " ++ text))
key_next column at open_ended text = simp append_assoc

value_next : (column at open_ended : ℕ) (text : Text)
    → led (lead (entry_place true (as_value false) column) (standing_at at open_ended)) text ≡ line_at column ++ (codes ": " ++ text)
value_next column at open_ended text = simp append_assoc

-- ---- nodes

-- the places of a node: the root, or an entry in a role at a column
abbrev pub Spot : Type 0
Spot = Option (Role × ℕ)

abbrev pub place_of : Spot → Place
place_of None = root_place
place_of (Some spot) = entry_place true spot.0 spot.1

in_flow : (spot : Spot) (start : Collection) (empty : Bool) → is_written_in_flow s (place_of spot) start empty ≡ true
in_flow spot start empty = grind (arith, nat_tests)

no_key_is_simple : (key : Node) → is_simple true force key ≡ false
no_key_is_simple key = grind (arith, nat_tests)

-- the text between a collection's brackets but for the last comma, if there are entries
abbrev WritesItems : ℕ → Nodes → Standing → RenderedPieces → Type 0
WritesItems column no_nodes from rendered = Unit {0}
WritesItems column (nodes_and items item) from rendered =
    Writes (space_if true from.cursor ++ (codes "[" ++ (nodes_text column items ++ (line_at column ++ node_text column item)))) from.open_ended rendered

abbrev pair_text : ℕ → Node → Node → Text
pair_text column key value = line_at column ++ (codes "? " ++ (node_text column key ++ (line_at column ++ (codes ": " ++ node_text column value))))

abbrev WritesPairs : ℕ → Pairs → Standing → RenderedPieces → Type 0
WritesPairs column no_pairs from rendered = Unit {0}
WritesPairs column (pairs_and pairs key value) from rendered =
    Writes (space_if true from.cursor ++ (codes "{" ++ (node_pairs_text column pairs ++ pair_text column key value))) from.open_ended rendered

-- with the end after them
items_end : (items : Nodes) (column : Option ℕ) (from : Standing)
    → WritesItems (deeper 2 column) items from (render_nodes items s force true (deeper 2 column) from)
    → Writes
    (space_if true from.cursor
    ++ (codes "[" ++ (nodes_text (deeper 2 column) items ++ (closing_line (line_column column) (has_no_nodes items) ++ codes "]"))))
    from.open_ended
    (then_pieces (render_nodes items s force true (deeper 2 column) from) (λ after. one_piece (end_piece s square true (has_no_nodes items) column after)))
items_end no_nodes column from entries = empty_writes square column from
items_end (nodes_and items item) column from entries =
    writes_text _ _ (simp append_assoc)
    (writes_then (render_nodes (nodes_and items item) s force true (deeper 2 column) from) (λ after. one_piece (end_piece s square true false column after))
    entries (closing_writes square column entries.column from.open_ended))

pairs_end : (pairs : Pairs) (column : Option ℕ) (from : Standing)
    → WritesPairs (deeper 2 column) pairs from (render_pairs pairs s force true (deeper 2 column) from)
    → Writes
    (space_if true from.cursor
    ++ (codes "{" ++ (node_pairs_text (deeper 2 column) pairs ++ (closing_line (line_column column) (has_no_pairs pairs) ++ codes "}"))))
    from.open_ended
    (then_pieces (render_pairs pairs s force true (deeper 2 column) from) (λ after. one_piece (end_piece s curly true (has_no_pairs pairs) column after)))
pairs_end no_pairs column from entries = empty_writes curly column from
pairs_end (pairs_and pairs key value) column from entries =
    writes_text _ _ (simp append_assoc)
    (writes_then (render_pairs (pairs_and pairs key value) s force true (deeper 2 column) from)
    (λ after. one_piece (end_piece s curly true false column after))
    entries (closing_writes curly column entries.column from.open_ended))

-- a value after its key
value_behind : (key value : Node) (column open_ended : ℕ) {text : Text} (first : RenderedPieces) → (before : Writes text open_ended first)
    → ((at : ℕ) → Writes (led (lead (entry_place true (as_value false) column) (standing_at at open_ended)) (node_text column value)) open_ended
    (render_node value s force (entry_place true (as_value false) column) (standing_at at open_ended)))
    → Writes (text ++ (line_at column ++ (codes ": " ++ node_text column value))) open_ended
    (then_pieces first (render_node value s force (entry_place true (as_value (is_simple true force key)) column)))
value_behind key value column open_ended {text} first before goes =
    let render = λ (simple : Bool) (after : Standing). render_node value s force (entry_place true (as_value simple) column) after in
    subst (λ simple. Writes (text ++ (line_at column ++ (codes ": " ++ node_text column value))) open_ended (then_pieces first (render simple)))
    (sym (no_key_is_simple key))
    (writes_then first (render false) before
    (writes_text _ _ (value_next column before.column open_ended (node_text column value)) (goes before.column)))

mutual
  pub node_writes : (node : Node) (spot : Spot) (standing : Standing)
      → Writes (led (lead (place_of spot) standing) (node_text (line_column (place_of spot).column) node)) standing.open_ended
      (render_node node s force (place_of spot) standing)
  node_writes (alias_node name) spot standing =
      let place = place_of spot in
      subst (λ simple. Writes (led (lead place standing) (codes "*" ++ name)) standing.open_ended (one_piece (alias_piece s place simple name standing)))
      (sym (and-false (is_key place.role))) (alias_writes name place standing)
  node_writes (scalar_node content) spot standing =
      let place = place_of spot in
      subst
      (λ simple. Writes (led (lead place standing) (scalar_properties content ++ in_quotes content.value)) standing.open_ended
      (one_piece (scalar_piece s force place simple content standing))) (sym (and-false (is_key place.role))) (scalar_writes content place standing)
  node_writes (sequence_node start items) spot standing =
      let place = place_of spot in
      let goal = led (lead place standing) (node_text (line_column place.column) (sequence_node start items)) in
      let render = λ (simple flow : Bool). render_collection s square flow (is_undented s place.role) (has_no_nodes items) place.column
      (start_piece s force place simple start standing) (render_nodes items s force flow) in
      subst (λ simple. Writes goal standing.open_ended (render simple (is_written_in_flow s place start (has_no_nodes items))))
      (sym (and-false (is_key place.role)))
      (subst (λ flow. Writes goal standing.open_ended (render false flow)) (sym (in_flow spot start (has_no_nodes items)))
      (collection_writes square start place (is_undented s place.role) (has_no_nodes items) (render_nodes items s force true) _ standing
      (λ from. items_end items _ from (items_write items (deeper 2 place.column) from))))
  node_writes (mapping_node start pairs) spot standing =
      let place = place_of spot in
      let goal = led (lead place standing) (node_text (line_column place.column) (mapping_node start pairs)) in
      let render = λ (simple flow : Bool). render_collection s curly flow false (has_no_pairs pairs) place.column
      (start_piece s force place simple start standing) (render_pairs pairs s force flow) in
      subst (λ simple. Writes goal standing.open_ended (render simple (is_written_in_flow s place start (has_no_pairs pairs))))
      (sym (and-false (is_key place.role)))
      (subst (λ flow. Writes goal standing.open_ended (render false flow)) (sym (in_flow spot start (has_no_pairs pairs)))
      (collection_writes curly start place false (has_no_pairs pairs) (render_pairs pairs s force true) _ standing
      (λ from. pairs_end pairs _ from (pairs_write pairs (deeper 2 place.column) from))))

  items_write : (items : Nodes) (column : ℕ) (from : Standing) → WritesItems column items from (render_nodes items s force true column from)
  items_write no_nodes column from = tt
  items_write (nodes_and no_nodes item) column from =
      writes_text _ _ (item_first (codes "[") column from.cursor (node_text column item)) (node_writes item (Some (as_item true, column)) from)
  items_write (nodes_and (nodes_and items before) item) column from =
      let entries = items_write (nodes_and items before) column from in
      let last = λ (after : Standing). render_node item s force (entry_place true (as_item false) column) after in
      let behind : Writes (codes "," ++ (line_at column ++ node_text column item)) from.open_ended (last (standing_at entries.column from.open_ended)) =
      writes_text _ _ (item_next column entries.column from.open_ended (node_text column item))
      (node_writes item (Some (as_item false, column)) (standing_at entries.column from.open_ended)) in
      writes_text _ _ (simp append_assoc) (writes_then _ last entries behind)

  pairs_write : (pairs : Pairs) (column : ℕ) (from : Standing) → WritesPairs column pairs from (render_pairs pairs s force true column from)
  pairs_write no_pairs column from = tt
  pairs_write (pairs_and no_pairs key value) column from =
      let place = entry_place true (as_key true) column in
      let of_key : Writes (space_if true from.cursor ++ (codes "{" ++ (line_at column ++ (codes "? " ++ node_text column key)))) from.open_ended
      (render_node key s force place from) =
      writes_text _ _ (key_first column from.cursor (node_text column key)) (node_writes key (Some (as_key true, column)) from) in
      writes_text _ _ (simp append_assoc) (value_behind key value column _ _ of_key
      (λ at. node_writes value (Some (as_value false, column)) (standing_at at from.open_ended)))
  pairs_write (pairs_and (pairs_and pairs first second) key value) column from =
      let entries = pairs_write (pairs_and pairs first second) column from in
      let before = render_pairs (pairs_and pairs first second) s force true column from in
      let middle = λ (after : Standing). render_node key s force (entry_place true (as_key false) column) after in
      let of_key : Writes (codes "," ++ (line_at column ++ (codes "? " ++ node_text column key))) from.open_ended
      (middle (standing_at entries.column from.open_ended)) =
      writes_text _ _ (key_next column entries.column from.open_ended (node_text column key))
      (node_writes key (Some (as_key false, column)) (standing_at entries.column from.open_ended)) in
      writes_text _ _ (regroup (space_if true from.cursor) (node_pairs_text column pairs) (line_at column) (node_text column first) (node_text column second)
      (node_text column key) (node_text column value)) (value_behind key value column _ _ (writes_then before middle entries of_key)
      (λ at. node_writes value (Some (as_value false, column)) (standing_at at from.open_ended)))
    where
      regroup : (a b c d e f g : Text)
          → ((a ++ (codes "{" ++ (b ++ (c ++ (codes "? " ++ (d ++ (c ++ (codes ": " ++ e)))))))) ++ (codes "," ++ (c ++ (codes "? " ++ f))))
          ++ (c ++ (codes ": " ++ g))
          ≡ a ++ (codes "{" ++ ((b ++ (c ++ (codes "? " ++ (d ++ (c ++ (codes ": " ++ (e ++ codes ",")))))))
          ++ (c ++ (codes "? " ++ (f ++ (c ++ (codes ": " ++ g)))))))
      regroup a b c d e f g = simp append_assoc
