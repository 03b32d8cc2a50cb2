-- Each line of a collection in flow after its first is deeper than the column around.
use Rattle.yaml_base.proofs.Common.{suc, ℕ, ◌≤◌, if◌then◌else◌, Option, None, Some, codes, Bool, false, true, ◌&&◌, List, [], ◌++◌, ◌∷◌, refl, ◌≡◌, ap, ◌∙◌}
use Rattle.yaml_base.proofs.Common.{arith, and_parts, false≢true, list_any, Text, Cursor, Rendered, render_nothing, render_then, new_line, space_if, indicator}
use Rattle.yaml_base.proofs.Common.{ScalarStyle, TagDirective, Scalar, Collection, scalar_tag, collection_tag, Node, alias_node, scalar_node, Nodes}
use Rattle.yaml_base.proofs.Common.{sequence_node, Pairs, mapping_node, no_nodes, nodes_and, no_pairs, pairs_and, render_properties, render_alias}
use Rattle.yaml_base.proofs.Common.{render_separation, render_body, choice_of, is_written_in_flow, Brackets, square, curly, empty_or_comma, render_end}
use Rattle.yaml_base.proofs.Common.{entry_place, Role, as_item, as_key, as_value, Place, is_key, line_column, deeper, has_no_nodes, has_no_pairs, is_simple}
use Rattle.yaml_base.proofs.Common.{is_simple_at, flow_break, opening_or_comma, render_flow_place, render_place, is_read_break, Effective, ends_white}
use Rattle.yaml_base.proofs.stream_nodes.StreamStands.{tag_written, tag_meant, TagStands, NamesStand, AllNamesStand, PairsNamesStand, BodyStands, body_from}
use Rattle.yaml_base.proofs.{stream_flow.StreamPropertyWords.lead, stream_lines.StreamClosed.spaces_line, stream_lines.StreamTidyLaws.deep_lines_fewer}
use Rattle.yaml_base.proofs.{stream_nodes.StreamAliasFits.name_line, stream_nodes.StreamBegun.lead_line, stream_nodes.StreamLeads.lead_rendered}
use Rattle.yaml_base.proofs.{stream_nodes.StreamLeads.tag_is_written, stream_nodes.StreamProperties.IsNamed, stream_nodes.StreamProperties.name_letters}
use Rattle.yaml_base.proofs.Common.{has_clean_edges, is_tidy_style, is_tidy, name_read, is_break, nat_tests}
use Rattle.yaml_base.proofs.stream_lines.StreamLineLaws.{OneLine, one_line_both, unbroken_line, break_line}
use Rattle.yaml_base.proofs.stream_flow.StreamFlowScalars.{rules_of, is_flow_style, chosen_in_flow, separation_in_flow}
use Rattle.yaml_base.proofs.stream_lines.StreamDeepBreaks.{Deep, deep_both, deep_line, deep_new_line, deep_tidy, ends_as_last, line_prefix, space_line}
use Rattle.yaml_base.proofs.stream_nodes.StreamStands.{BodiesHold, ItemsHold, PairsHold}
use Rattle.yaml_base.proofs.stream_nodes.StreamTexts.{placed_own, node_own, items_own, pairs_own}

-- Properties

-- the anchor and the tag are on one line
pub properties_line : (s : Effective) (own directives : List TagDirective) (anchor tag : Option Text) (bare : Bool) (cursor : Cursor) → IsNamed anchor
    → TagStands s.portable own directives tag → OneLine s.breaks12 (render_properties s.portable directives anchor tag bare cursor).text
properties_line s own directives anchor tag bare cursor named stands =
    let rendered = render_properties s.portable directives anchor tag bare cursor in
    let written = tag_written s.portable directives tag bare in
    line_prefix s.breaks12 rendered.text (space_if true rendered.cursor)
    (ap (list_any (is_read_break s.breaks12)) (lead_rendered s.portable directives anchor tag bare cursor)
    ∙ one_line_both s.breaks12 (space_if true cursor) (lead anchor written) (space_line s.breaks12 true cursor)
    (lead_line (rules_of s own) anchor written (tag_meant tag bare) named (tag_is_written s.portable own directives tag bare stands)))

-- Bodies

-- a text with clean edges ends with nothing white
clean_shown : (breaks12 : Bool) (t : Text) → has_clean_edges breaks12 t ≡ true → ends_white breaks12 t ≡ false
clean_shown breaks12 [] h = refl
clean_shown breaks12 (c ∷ t) h = grind (arith, and_parts, false≢true)

-- a body in a style of flow that is tidy ends with nothing white
body_shown : (s : Effective) (style : ScalarStyle) (limit : Option ℕ) (indent : ℕ) (value : Text) (cursor : Cursor) → is_flow_style style ≡ true
    → is_tidy_style style s.breaks12 (render_body style s limit indent value cursor).text ≡ true
    → ends_white s.breaks12 (render_body style s limit indent value cursor).text ≡ false
body_shown s style limit indent value cursor h h2 = grind (arith, nat_tests, clean_shown, and_parts, ends_as_last, break_line, false≢true)

-- the lines of such a body are deep
body_deep : (s : Effective) (style : ScalarStyle) (limit : Option ℕ) (count indent column : ℕ) (value : Text) (cursor : Cursor) → count ≤ suc column
    → is_flow_style style ≡ true → is_tidy style s.breaks12 (Some column) (render_body style s limit indent value cursor).text ≡ true
    → Deep s.breaks12 count (render_body style s limit indent value cursor).text
body_deep s style limit count indent column value cursor le flow tidy =
    let text = (render_body style s limit indent value cursor).text in
    let parts = and_parts _ _ tidy in
    deep_tidy _ count text (deep_lines_fewer _ count _ text le (and_parts _ _ parts.0).1) (body_shown s style limit indent value cursor flow parts.1)

-- Indicators

-- an indicator on one line, and the space before it
pub indicator_deep : (breaks12 : Bool) (count : ℕ) (symbol : Text) (need white indented : Bool) (cursor : Cursor)
    → list_any is_break symbol ≡ false
    → Deep breaks12 count (indicator symbol need white indented cursor).text
indicator_deep breaks12 count symbol need white indented cursor one = grind (arith, deep_line, one_line_both, space_line, unbroken_line)

-- a new line if one is too long
break_deep : (s : Effective) (count column : ℕ) (cursor : Cursor) → count ≤ column → Deep s.breaks12 count (flow_break s (Some column) cursor).text
break_deep s count column cursor le = grind (arith, deep_new_line)

-- the text before a first entry, or between two
begin_deep : (s : Effective) (count column : ℕ) (bracket : Text) (first : Bool) (cursor : Cursor) → count ≤ column
    → list_any is_break bracket ≡ false
    → Deep s.breaks12 count (render_then (opening_or_comma bracket first cursor) (flow_break s (Some column))).text
begin_deep s count column bracket true cursor le one =
    let symbol = indicator bracket true true false cursor in
    deep_both s.breaks12 count symbol.text (flow_break s (Some column) symbol.cursor).text (indicator_deep s.breaks12 count bracket true true false cursor one)
    (break_deep s count column symbol.cursor le)
begin_deep s count column bracket false cursor le one =
    let symbol = indicator (codes ",") false false false cursor in
    deep_both s.breaks12 count symbol.text (flow_break s (Some column) symbol.cursor).text
    (indicator_deep s.breaks12 count (codes ",") false false false cursor refl) (break_deep s count column symbol.cursor le)

-- the indicators of a place in flow
place_deep : (s : Effective) (count column : ℕ) (role : Role) (simple : Bool) (cursor : Cursor) → count ≤ column
    → Deep s.breaks12 count (render_flow_place s role simple (Some column) cursor).text
place_deep s count column role simple cursor h = grind (arith, nat_tests, begin_deep, deep_both, indicator_deep, break_deep)

-- the end of a collection at a column
end_deep : (s : Effective) (count : ℕ) (brackets : Brackets) (empty : Bool) (column : Option ℕ) (cursor : Cursor)
    → list_any is_break brackets.opening ≡ false → list_any is_break brackets.closing ≡ false → (s.canonical ≡ true → count ≤ line_column column)
    → Deep s.breaks12 count (render_end s brackets true empty column cursor).text
end_deep s count brackets empty column cursor opening closing le =
    let begun = empty_or_comma s brackets.opening empty column cursor in
    deep_both s.breaks12 count begun.text (indicator brackets.closing false false false begun.cursor).text (by empty)
    (indicator_deep s.breaks12 count brackets.closing false false false begun.cursor closing)
  where
    comma : Rendered
    comma = indicator (codes ",") false false false cursor

    line : (x : Bool) → s.canonical ≡ x
        → Deep s.breaks12 count (let rendered : Rendered = if x then render_then comma
        (new_line (line_column column)) else render_nothing cursor in rendered.text)
    line true e =
        deep_both s.breaks12 count comma.text (new_line (line_column column) comma.cursor).text
        (indicator_deep s.breaks12 count (codes ",") false false false cursor refl)
        (deep_new_line s.breaks12 count (line_column column) comma.cursor (le e))
    line false e = refl

    by : (x : Bool) → Deep s.breaks12 count (empty_or_comma s brackets.opening x column cursor).text
    by true = indicator_deep s.breaks12 count brackets.opening true true false cursor opening
    by false = line s.canonical refl

-- Nodes

-- an alias
pub alias_deep : (s : Effective) (count : ℕ) (name : Text) (simple : Bool) (cursor : Cursor) → name_read name ≡ Some name
    → Deep s.breaks12 count (render_alias name simple cursor).text
alias_deep s count name simple cursor named = grind (arith, deep_both, indicator_deep, deep_line, name_line, name_letters, spaces_line)

-- a scalar
scalar_deep : (s : Effective) (own directives : List TagDirective) (count column : ℕ) (role : Role) (cursor : Cursor) (content : Scalar) → count ≤ column
    → NamesStand s.portable own s.canonical directives (scalar_node content)
    → BodyStands s (body_from s directives (entry_place true role column) content cursor)
    → Deep s.breaks12 count (node_own (scalar_node content) s directives (entry_place true role column) cursor).text
scalar_deep s own directives count column role cursor content le names body =
    let simple = is_key role && is_simple s.canonical directives (scalar_node content) in
    let tag = scalar_tag s.canonical content in
    let choice = choice_of s (entry_place true role column) simple content in
    let properties = render_properties s.portable directives content.anchor tag choice.bare cursor in
    let separation = render_separation choice.style true content.value properties.cursor in
    let limit = if simple then None else s.width in
    let text = (render_body choice.style s limit (deeper s.indent (Some column)) content.value separation.cursor).text in
    deep_both s.breaks12 count (properties.text ++ separation.text) text
    (deep_line s.breaks12 count (properties.text ++ separation.text)
    (one_line_both s.breaks12 properties.text separation.text
    (properties_line s own directives content.anchor tag choice.bare cursor names.0 names.1)
    (ap (list_any (is_read_break s.breaks12)) (separation_in_flow choice.style content.value properties.cursor)
    ∙ space_line s.breaks12 true properties.cursor)))
    (body_deep s choice.style limit count (deeper s.indent (Some column)) column content.value separation.cursor (omega arith)
    (chosen_in_flow s role column simple content) body.tidy)

-- a collection, if its entries are so
collection_deep : (s : Effective) (own directives : List TagDirective) (count : ℕ) (brackets : Brackets) (anchor tag : Option Text) (empty : Bool)
    (column : Option ℕ) (cursor : Cursor) (entries : Rendered) → list_any is_break brackets.opening ≡ false → list_any is_break brackets.closing ≡ false
    → (s.canonical ≡ true → count ≤ line_column column) → IsNamed anchor → TagStands s.portable own directives tag → Deep s.breaks12 count entries.text
    → Deep s.breaks12 count
    (((render_properties s.portable directives anchor tag false cursor).text ++ entries.text) ++ (render_end s brackets true empty column entries.cursor).text)
collection_deep s own directives count brackets anchor tag empty column cursor entries opening closing le named stands deep =
    grind (arith, deep_both, deep_line, properties_line, end_deep)

-- a node after text that is so deep
placed_deep : (s : Effective) (count column : ℕ) (role : Role) (simple : Bool) (before : Rendered) (own : Cursor → Rendered) → count ≤ column
    → Deep s.breaks12 count before.text
    → Deep s.breaks12 count (own (render_place s (entry_place true role column) simple before.cursor).cursor).text
    → Deep s.breaks12 count (placed_own s (entry_place true role column) simple before own).text
placed_deep s count column role simple before own le deep node = grind (arith, nat_tests, deep_both, place_deep)

module _ (s : Effective) (own directives : List TagDirective) (count : ℕ) where
  -- each node in flow at a column, the items of each sequence and the pairs of each mapping have lines as deep as that column
  mutual
    node_deep : (n : Node) (column : ℕ) (role : Role) (cursor : Cursor) → count ≤ column → NamesStand s.portable own s.canonical directives n
        → BodiesHold (BodyStands s) n s directives (entry_place true role column) cursor
        → Deep s.breaks12 count (node_own n s directives (entry_place true role column) cursor).text
    node_deep (alias_node name) column role cursor le names bodies =
        alias_deep s count name (is_simple_at (entry_place true role column) s.canonical directives (alias_node name)) cursor names
    node_deep (scalar_node content) column role cursor le names bodies =
        scalar_deep s own directives count column role cursor content le names bodies
    node_deep (sequence_node start items) column role cursor le names bodies =
        let begun = render_properties s.portable directives start.anchor (collection_tag s.canonical start) false cursor in
        collection_deep s own directives count square start.anchor (collection_tag s.canonical start) (has_no_nodes items) (Some column) cursor
        (items_own items s directives true (deeper s.indent (Some column)) begun.cursor) refl refl (λ h. le) names.0 names.1
        (items_deep items (deeper s.indent (Some column)) begun.cursor (omega arith) names.2 bodies)
    node_deep (mapping_node start pairs) column role cursor le names bodies =
        let begun = render_properties s.portable directives start.anchor (collection_tag s.canonical start) false cursor in
        collection_deep s own directives count curly start.anchor (collection_tag s.canonical start) (has_no_pairs pairs) (Some column) cursor
        (pairs_own pairs s directives true (deeper s.indent (Some column)) begun.cursor) refl refl (λ h. le) names.0 names.1
        (pairs_deep pairs (deeper s.indent (Some column)) begun.cursor (omega arith) names.2 bodies)

    pub items_deep : (items : Nodes) (column : ℕ) (cursor : Cursor) → count ≤ column → AllNamesStand s.portable own s.canonical directives items
        → ItemsHold (BodyStands s) items s directives true column cursor → Deep s.breaks12 count (items_own items s directives true column cursor).text
    items_deep no_nodes column cursor le names bodies = refl
    items_deep (nodes_and items last) column cursor le names bodies =
        let role = as_item (has_no_nodes items) in
        placed_deep s count column role false (items_own items s directives true column cursor) (node_own last s directives (entry_place true role column)) le
        (items_deep items column cursor le names.0 bodies.0) (node_deep last column role _ le names.1 bodies.1)

    pub pairs_deep : (pairs : Pairs) (column : ℕ) (cursor : Cursor) → count ≤ column → PairsNamesStand s.portable own s.canonical directives pairs
        → PairsHold (BodyStands s) pairs s directives true column cursor → Deep s.breaks12 count (pairs_own pairs s directives true column cursor).text
    pairs_deep no_pairs column cursor le names bodies = refl
    pairs_deep (pairs_and pairs key value) column cursor le names bodies =
        let key_role = as_key (has_no_pairs pairs) in
        let value_role = as_value (is_simple s.canonical directives key) in
        let before = pairs_own pairs s directives true column cursor in
        let key_own = node_own key s directives (entry_place true key_role column) in
        placed_deep s count column value_role false (placed_own s (entry_place true key_role column) (is_simple s.canonical directives key) before key_own)
        (node_own value s directives (entry_place true value_role column)) le
        (placed_deep s count column key_role (is_simple s.canonical directives key) before key_own le
        (pairs_deep pairs column cursor le names.0 bodies.0) (node_deep key column key_role _ le names.1 bodies.1))
        (node_deep value column value_role _ le names.2 bodies.2)

-- Collections in a block

-- a sequence that is written in flow, if its bracket is on no line of its own or as deep
pub sequence_deep : (s : Effective) (own directives : List TagDirective) (count : ℕ) (place : Place) (cursor : Cursor) (start : Collection) (items : Nodes)
    → count ≤ deeper s.indent place.column → (s.canonical ≡ true → count ≤ line_column place.column)
    → is_written_in_flow s place start (has_no_nodes items) ≡ true → NamesStand s.portable own s.canonical directives (sequence_node start items)
    → BodiesHold (BodyStands s) (sequence_node start items) s directives place cursor
    → Deep s.breaks12 count (node_own (sequence_node start items) s directives place cursor).text
sequence_deep s own directives count place cursor start items le ends in_flow names bodies =
    rw in_flow (collection_deep s own _ count square _ _ (has_no_nodes items) _ cursor _ refl refl ends names.0 names.1
    (items_deep s own _ count items _ _ le names.2 (rw in_flow at bodies)))

-- and such a mapping
pub mapping_deep : (s : Effective) (own directives : List TagDirective) (count : ℕ) (place : Place) (cursor : Cursor) (start : Collection) (pairs : Pairs)
    → count ≤ deeper s.indent place.column → (s.canonical ≡ true → count ≤ line_column place.column)
    → is_written_in_flow s place start (has_no_pairs pairs) ≡ true → NamesStand s.portable own s.canonical directives (mapping_node start pairs)
    → BodiesHold (BodyStands s) (mapping_node start pairs) s directives place cursor
    → Deep s.breaks12 count (node_own (mapping_node start pairs) s directives place cursor).text
mapping_deep s own directives count place cursor start pairs le ends in_flow names bodies =
    rw in_flow (collection_deep s own _ count curly _ _ (has_no_pairs pairs) _ cursor _ refl refl ends names.0 names.1
    (pairs_deep s own _ count pairs _ _ le names.2 (rw in_flow at bodies)))
