-- The text of a node, one piece for each of its events.
-- Source, unless a definition names its own: libyaml's emitter.
use Rattle.std.specs.Prelude.{ℕ, Bool, true, false, Option, None, Some, List, [], ◌∷◌, ◌++◌, ◌||◌, ◌&&◌, not, codes, is_some, filter_map, flat_map}
use Rattle.std.specs.Prelude.{if◌then◌else◌}
use Rattle.yaml_base.specs.Characters.{Text}
use Rattle.yaml_base.specs.Settings.{Effective, escapes_separators}
use Rattle.yaml_base.specs.Cursor.{Cursor, Rendered, render_nothing, render_then, render_text, new_line, space_if, render_name}
use Rattle.yaml_base.specs.Indicators as indicators
use Rattle.yaml_base.specs.Event.{ScalarStyle, plain, single_quoted, double_quoted, literal, folded, CollectionStyle, flow, TagDirective, Scalar, Collection}
use Rattle.yaml_base.specs.Percent.{percent_escaped, suffix_escaped}
use Rattle.yaml_base.specs.Tags.{Spelling, shorthand, verbatim, spelling}
use Rattle.yaml_base.specs.scalars.Analysis.{Allowances, Charset, is_empty, allows_block, allows_literal, allowances}
use Rattle.yaml_base.specs.scalars.Style.{ChosenStyle, is_block, is_literal, chosen}
use Rattle.yaml_base.specs.scalars.Plain.{plain_body}
use Rattle.yaml_base.specs.scalars.SingleQuoted.{single_quoted_body}
use Rattle.yaml_base.specs.scalars.DoubleQuoted.{double_quoted_body}
use Rattle.yaml_base.specs.scalars.BlockHeader.{begins_blank, header_open_ended}
use Rattle.yaml_base.specs.scalars.Literal.{literal_body}
use Rattle.yaml_base.specs.scalars.Folded.{folded_body}
use Rattle.yaml_base.specs.Grammar.{Node, alias_node, scalar_node, sequence_node, mapping_node, Nodes, no_nodes, nodes_and, Pairs, no_pairs, pairs_and}
use Rattle.yaml_base.specs.Event.{scalar_tag, collection_tag}
use Rattle.yaml_base.specs.Places.{Role, as_item, as_key, as_value, Place, is_root, is_undented, line_column, deeper, entries_column, has_no_nodes}
use Rattle.yaml_base.specs.Places.{has_no_pairs}
use Rattle.yaml_base.specs.Places.{is_simple, is_simple_at, render_place}

-- Pieces. Source: this project.

-- a scalar's own text: its value in the chosen style, in flow or in a block, in a block whose entries are at a column (none: the root)
pub record Body : Type 0 where
  pub style : ScalarStyle
  pub in_flow : Bool
  pub column : Option ℕ
  pub value : Text
  pub text : Text

-- the text of an event: a lead, and for a scalar its body
pub record Piece : Type 0 where
  pub lead : Text
  pub body : Option Body

-- the text of a scalar's body; no text for other events
abbrev pub body_text : Option Body → Text
body_text None = []
body_text (Some body) = body.text

-- a piece's whole text
abbrev pub piece_text : Piece → Text
piece_text piece = piece.lead ++ body_text piece.body

-- the pieces joined
abbrev pub text_of : List Piece → Text
text_of pieces = flat_map piece_text pieces

-- the scalars' bodies in their order
abbrev pub bodies_of : List Piece → List Body
bodies_of pieces = filter_map (λ piece. piece.body) pieces

-- the state of writing: the cursor, and the open-ended state, which is 1 after an implicit document end and 2 after a block scalar that
-- keeps its final breaks (libyaml's emitter)
pub record Standing : Type 0 where
  pub cursor : Cursor
  pub open_ended : ℕ

-- one event's piece, and the state of writing after it
pub record RenderedPiece : Type 0 where
  pub piece : Piece
  pub standing : Standing

-- several events' pieces in order, and the state of writing after them
pub record RenderedPieces : Type 0 where
  pub pieces : List Piece
  pub standing : Standing

-- no pieces
abbrev pub no_pieces : Standing → RenderedPieces
no_pieces standing = record { pieces = []; standing = standing }

-- a piece alone
abbrev pub one_piece : RenderedPiece → RenderedPieces
one_piece rendered = record { pieces = rendered.piece ∷ []; standing = rendered.standing }

-- pieces, and then those that are written from the state after them
abbrev pub then_pieces : RenderedPieces → (Standing → RenderedPieces) → RenderedPieces
then_pieces first next =
    let second = next first.standing in
    record { pieces = first.pieces ++ second.pieces; standing = second.standing }

-- a piece without a body, with the open-ended state after it
abbrev pub piece_without_body : ℕ → Rendered → RenderedPiece
piece_without_body open_ended rendered =
    record {
      piece = record { lead = rendered.text; body = None };
      standing = record { cursor = rendered.cursor; open_ended = open_ended };
    }

-- Anchors and tags. Source: libyaml's emitter.

-- `&` and the name, if there is an anchor (YAML 1.1, section 8.1 Node Anchors, c-ns-anchor-property)
abbrev pub render_anchor : Option Text → Cursor → Rendered
render_anchor None cursor = render_nothing cursor
render_anchor (Some name) cursor = render_then (indicators.render_indicator indicators.anchor cursor) (render_name name)

-- a tag handle, with a space before it if one is needed (YAML 1.1, section 7.1.2.2 Tag Handles, c-tag-handle)
abbrev pub render_handle : Text → Cursor → Rendered
render_handle handle cursor = render_name (space_if true cursor ++ handle) cursor

-- a tag as it is spelled (YAML 1.1, section 8.2 Node Tags, c-ns-shorthand-tag, c-verbatim-tag; `portable` is this project's)
abbrev pub render_spelling : (portable : Bool) → Spelling → Cursor → Rendered
render_spelling portable (shorthand handle suffix) cursor =
    render_then (render_handle handle cursor) (render_name (suffix_escaped portable suffix))
render_spelling portable (verbatim tag) cursor =
    render_then
    (render_then (indicators.render_indicator indicators.verbatim_start cursor) (render_name (percent_escaped tag)))
    (indicators.render_indicator indicators.verbatim_end)

-- the tag that is written, or the bare tag (YAML 1.1, section 8.2 Node Tags, c-ns-tag-property)
abbrev pub render_tag : (portable : Bool) → List TagDirective → Option Text → (bare : Bool) → Cursor → Rendered
render_tag portable directives (Some tag) bare cursor = render_spelling portable (spelling directives tag) cursor
render_tag portable directives None true cursor = render_handle (codes "!") cursor
render_tag portable directives None false cursor = render_nothing cursor

-- the anchor, and then the tag (YAML 1.1, chapter 8 Nodes, c-ns-properties(n,c); this order is libyaml's)
abbrev pub render_properties :
    (portable : Bool) → List TagDirective → Option Text → Option Text → (bare : Bool) → Cursor → Rendered
render_properties portable directives anchor tag bare cursor =
    render_then (render_anchor anchor cursor) (render_tag portable directives tag bare)

-- Nodes. Source: libyaml's emitter.

-- an alias; a simple key is followed by a space (YAML 1.1, section 8.4 Alias Nodes, c-ns-alias-node; the space is libyaml's)
abbrev pub render_alias : Text → (simple : Bool) → Cursor → Rendered
render_alias name simple cursor =
    render_then (render_then (indicators.render_indicator indicators.alias cursor) (render_name name))
    (render_text (if simple then codes " " else []))

-- the space before a scalar's body: an empty plain scalar in a block needs none (YAML 1.1, section 6.3 Separation Spaces, s-separate(n,c);
-- when it is written is libyaml's)
abbrev pub render_separation : ScalarStyle → (in_flow : Bool) → Text → Cursor → Rendered
render_separation plain in_flow value cursor = render_text (space_if (in_flow || not (is_empty value)) cursor) cursor
render_separation style in_flow value cursor = render_text (space_if true cursor) cursor

-- a scalar's body by its style, with the limit of its lines and its indentation
-- (YAML 1.1, chapter 9 Scalar Styles, c-double-quoted(n,c), c-single-quoted(n,c), ns-plain(n,c), c-l+literal(n), c-l+folded(n))
abbrev pub render_body : ScalarStyle → Effective → Option ℕ → ℕ → Text → Cursor → Rendered
render_body plain s limit indent value cursor = plain_body limit indent value cursor
render_body single_quoted s limit indent value cursor = single_quoted_body limit indent value cursor
render_body literal s limit indent value cursor = literal_body indent s.indent value cursor
render_body folded s limit indent value cursor = folded_body limit indent s.indent value cursor
render_body _ s limit indent value cursor = double_quoted_body s.unicode limit indent value cursor

-- the open-ended state after a body: a block scalar sets it
abbrev pub open_ended_after : ScalarStyle → Text → ℕ → ℕ
open_ended_after literal value open_ended = header_open_ended value
open_ended_after folded value open_ended = header_open_ended value
open_ended_after _ value open_ended = open_ended

-- the characters that may be written as themselves
abbrev pub charset_of : Effective → Charset
charset_of s = record { unicode = s.unicode; breaks12 = escapes_separators s }

-- the styles that a value allows: no single quotes if double quotes are asked for in their place (this project)
abbrev pub allowed_by_quotes : (double_quotes : Bool) → Allowances → Allowances
allowed_by_quotes double_quotes allowed = record allowed { single_quoted_allowed = not double_quotes && allowed.single_quoted_allowed }

-- the styles that a value allows; if blanks are literal, it allows block styles exactly if it allows literal (this project)
abbrev pub allowed_by_blanks : (blanks : Bool) → Charset → Text → Allowances
allowed_by_blanks blanks charset value =
    record (allowances charset value) { block_allowed = if blanks then allows_literal charset value else allows_block charset value }

-- the styles that a scalar's value allows under the settings; blanks are literal only if literal is asked for
abbrev pub allowed_under : Effective → Scalar → Allowances
allowed_under s content =
    allowed_by_quotes s.double_quotes (allowed_by_blanks (is_literal content.style && s.literal_blanks) (charset_of s) content.value)

-- the style that is asked for at a place: in portable mode a root asks for double quotes in place of a block style whose header would have
-- a digit, since readers of YAML 1.2 count that digit in two ways (this project)
abbrev pub style_asked_at : Effective → Place → Scalar → ScalarStyle
style_asked_at s place content =
    if is_block content.style && is_root place && s.portable && begins_blank content.value
    then double_quoted else content.style

-- the style of a scalar at its place
abbrev pub choice_of : Effective → Place → (simple : Bool) → Scalar → ChosenStyle
choice_of s place simple content =
    chosen
    (allowed_under s content)
    (style_asked_at s place content) (is_empty content.value) (is_some (scalar_tag s.canonical content))
    content.plain_implicit content.quoted_implicit (place.in_flow) simple s.canonical

-- the text before a scalar's body: its place's indicators, its anchor and tag, and a space
abbrev pub scalar_lead : Effective → List TagDirective → Place → (simple : Bool) → ChosenStyle → Scalar → Cursor → Rendered
scalar_lead s directives place simple choice content cursor =
    render_then
    (render_then
    (render_place s place simple cursor)
    (render_properties s.portable directives content.anchor (scalar_tag s.canonical content) choice.bare))
    (render_separation choice.style place.in_flow content.value)

-- a scalar's body as a piece of the layout (this project)
abbrev pub body_at : Place → ScalarStyle → Text → Rendered → Body
body_at place style value body =
    record { style = style; in_flow = place.in_flow; column = place.column; value = value; text = body.text }

-- a scalar's piece; a simple key has no fold
abbrev pub scalar_piece : Effective → List TagDirective → Place → (simple : Bool) → Scalar → Standing → RenderedPiece
scalar_piece s directives place simple content standing =
    let choice = choice_of s place simple content in
    let lead = scalar_lead s directives place simple choice content standing.cursor in
    let limit = if simple then None else s.width in
    let body = render_body choice.style s limit (deeper s.indent place.column) content.value lead.cursor in
    record {
      piece = record { lead = lead.text; body = Some (body_at place choice.style content.value body) };
      standing = record { cursor = body.cursor; open_ended = open_ended_after choice.style content.value standing.open_ended };
    }

-- an alias's piece at its place
abbrev pub alias_piece : Effective → Place → (simple : Bool) → Text → Standing → RenderedPiece
alias_piece s place simple name standing =
    piece_without_body standing.open_ended (render_then (render_place s place simple standing.cursor) (render_alias name simple))

-- the piece of a collection's start; its brackets come with the next event
abbrev pub start_piece : Effective → List TagDirective → Place → (simple : Bool) → Collection → Standing → RenderedPiece
start_piece s directives place simple start standing =
    piece_without_body standing.open_ended
    (render_then
    (render_place s place simple standing.cursor)
    (render_properties s.portable directives start.anchor (collection_tag s.canonical start) false))

-- true of the style that asks for flow
abbrev pub asks_flow : CollectionStyle → Bool
asks_flow flow = true
asks_flow _ = false

-- true if a collection is written in flow: it is inside a flow collection, in canonical mode, of flow style, or empty
abbrev pub is_written_in_flow : Effective → Place → Collection → (empty : Bool) → Bool
is_written_in_flow s place start empty = place.in_flow || s.canonical || asks_flow start.style || empty

-- the brackets of a kind of collection (YAML 1.1, sections 10.1.1 Flow Sequences and 10.2.1 Flow Mappings, c-flow-sequence(n,c),
-- c-flow-mapping(n,c))
pub record Brackets : Type 0 where
  pub opening : Text
  pub closing : Text

-- the brackets of a sequence in flow (YAML 1.1, section 10.1.1 Flow Sequences, c-flow-sequence(n,c))
abbrev pub square : Brackets
square = record { opening = codes "["; closing = codes "]" }

-- the brackets of a mapping in flow (YAML 1.1, section 10.2.1 Flow Mappings, c-flow-mapping(n,c))
abbrev pub curly : Brackets
curly = record { opening = codes "{"; closing = codes "}" }

-- the text before the closing bracket: the opening one if nothing is between them; in canonical mode a comma after the last entry, and a
-- new line (YAML 1.1, section 5.3 Indicator Characters, c-sequence-start, c-mapping-start, c-collect-entry; when each comes is libyaml's)
abbrev pub empty_or_comma : Effective → Text → (empty : Bool) → Option ℕ → Cursor → Rendered
empty_or_comma s bracket true column cursor = indicators.render_indicator (indicators.opening_bracket bracket) cursor
empty_or_comma s bracket false column cursor =
    if s.canonical
    then render_then (indicators.render_indicator indicators.flow_entry cursor) (new_line (line_column column))
    else render_nothing cursor

-- the text of a collection's end; the end of a block collection writes nothing (YAML 1.1, section 5.3 Indicator Characters,
-- c-sequence-end, c-mapping-end)
abbrev pub render_end : Effective → Brackets → (in_flow empty : Bool) → Option ℕ → Cursor → Rendered
render_end s brackets false empty column cursor = render_nothing cursor
render_end s brackets true empty column cursor =
    render_then (empty_or_comma s brackets.opening empty column cursor) (indicators.render_indicator (indicators.tight brackets.closing))

-- the piece of a collection's end
abbrev pub end_piece : Effective → Brackets → (in_flow empty : Bool) → Option ℕ → Standing → RenderedPiece
end_piece s brackets in_flow empty column standing =
    piece_without_body standing.open_ended (render_end s brackets in_flow empty column standing.cursor)

-- the place of an entry in a collection
abbrev pub entry_place : (in_flow : Bool) → Role → ℕ → Place
entry_place in_flow role column = record { in_flow = in_flow; role = role; column = Some column }

-- a collection's start, its entries at their column, and its end
abbrev pub render_collection :
    Effective → Brackets → (in_flow undented empty : Bool) → Option ℕ → RenderedPiece → (ℕ → Standing → RenderedPieces)
    → RenderedPieces
render_collection s brackets in_flow undented empty column start entries =
    then_pieces
    (then_pieces (one_piece start)
    (entries (entries_column in_flow undented s.indent column start.standing.cursor)))
    (λ standing. one_piece (end_piece s brackets in_flow empty column standing))

-- a node at its place: its events' pieces, in order; with it, the items of a sequence and the pairs of a mapping (YAML 1.1, section 8.5
-- Complete Nodes, ns-flow-node(n,c), s-l+block-node(n,c); which is libyaml's choice)
abbrev mutual
  pub render_node : Node → Effective → List TagDirective → Place → Standing → RenderedPieces
  render_node (alias_node name) s directives place standing =
      one_piece (alias_piece s place (is_simple_at place s.canonical directives (alias_node name)) name standing)
  render_node (scalar_node content) s directives place standing =
      one_piece
      (scalar_piece s directives place (is_simple_at place s.canonical directives (scalar_node content)) content standing)
  render_node (sequence_node start items) s directives place standing =
      let in_flow = is_written_in_flow s place start (has_no_nodes items) in
      render_collection s square in_flow (is_undented s place.role) (has_no_nodes items) place.column
      (start_piece s directives place (is_simple_at place s.canonical directives (sequence_node start items))
      start standing)
      (render_nodes items s directives in_flow)
  render_node (mapping_node start pairs) s directives place standing =
      let in_flow = is_written_in_flow s place start (has_no_pairs pairs) in
      render_collection s curly in_flow false (has_no_pairs pairs) place.column
      (start_piece s directives place (is_simple_at place s.canonical directives (mapping_node start pairs))
      start standing)
      (render_pairs pairs s directives in_flow)

  pub render_nodes : Nodes → Effective → List TagDirective → (in_flow : Bool) → ℕ → Standing → RenderedPieces
  render_nodes no_nodes s directives in_flow column standing = no_pieces standing
  render_nodes (nodes_and items last) s directives in_flow column standing =
      then_pieces (render_nodes items s directives in_flow column standing)
      (render_node last s directives (entry_place in_flow (as_item (has_no_nodes items)) column))

  pub render_pairs : Pairs → Effective → List TagDirective → (in_flow : Bool) → ℕ → Standing → RenderedPieces
  render_pairs no_pairs s directives in_flow column standing = no_pieces standing
  render_pairs (pairs_and pairs last_key last_value) s directives in_flow column standing =
      then_pieces
      (then_pieces (render_pairs pairs s directives in_flow column standing)
      (render_node last_key s directives (entry_place in_flow (as_key (has_no_pairs pairs)) column)))
      (render_node last_value s directives
      (entry_place in_flow (as_value (is_simple s.canonical directives last_key)) column))
