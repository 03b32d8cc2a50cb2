-- The canonical reader's tokens for the text of a node, after any text before it.
use Rattle.yaml_base.proofs.{Common.and-false, DumpedLeaves.text_of-append}
use Rattle.yaml_emitter.proofs.Common.{ℕ, ◌≤◌, if◌then◌else◌, is_some, Option, None, Some, codes, Bool, false, not, true, ◌&&◌, List, [], ◌++◌, ◌∷◌, refl, ◌≡◌}
use Rattle.yaml_emitter.proofs.Common.{true≢false, append-nil, append_assoc, ap, subst, sym, ◌∙◌, arith, all_scalars, Text, space, Cursor}
use Rattle.yaml_emitter.proofs.Common.{render_then, new_line, space_if, indicator, TagDirective, Scalar, Collection, Event, alias, scalar, sequence_start, Node}
use Rattle.yaml_emitter.proofs.Common.{mapping_start, alias_node, scalar_node, Nodes, sequence_node, Pairs, mapping_node, no_nodes, nodes_and, no_pairs, Piece}
use Rattle.yaml_emitter.proofs.Common.{pairs_and, text_of, Standing, RenderedPieces, render_properties, choice_of, scalar_lead, scalar_piece, curly}
use Rattle.yaml_emitter.proofs.Common.{alias_piece, start_piece, is_written_in_flow, Brackets, square, render_end, end_piece, render_node, as_item, as_key}
use Rattle.yaml_emitter.proofs.Common.{as_value, is_key, line_column, deeper, has_no_nodes, has_no_pairs, render_place, Effective, directives_fault, Token}
use Rattle.yaml_emitter.proofs.Common.{directives_in_force, alias_token, scalar_token, opens_sequence, closes_sequence, opens_mapping, closes_mapping, comma}
use Rattle.yaml_emitter.proofs.{Common.double_quoted_body, canonical.CanonicalText.symbol_says, canonical.CanonicalTokens.pairs_tokens}
use Rattle.yaml_base.specs.Layout.{is_undented, one_piece, is_simple, render_collection, render_nodes, render_pairs}
use Rattle.yaml_emitter.proofs.canonical.{CanonicalEvents.EachNode, CanonicalEvents.EachItem, CanonicalEvents.EachPair, CanonicalNames.IsName}
use Rattle.yaml_emitter.proofs.canonical.{CanonicalNames.alias_says, CanonicalQuotes.body_says}
use Rattle.yaml_emitter.proofs.canonical.CanonicalPlaces.{in_canonical, Spot, place_of, spot_tokens, Fits, Entered, Follows, place_says, opening_opens}
use Rattle.yaml_emitter.proofs.canonical.CanonicalPlaces.{place_opens, AnchorOk, demand_of, properties_say, properties_fit}
use Rattle.yaml_emitter.proofs.canonical.CanonicalText.{Demand, anything, name_ends, space_next, Says, Opens, opens_append, opens_any, says_then, says_after}
use Rattle.yaml_emitter.proofs.canonical.CanonicalText.{says_text, says_tokens, says_less, says_white, space_if-white, new_line-white, indicator_says}
use Rattle.yaml_emitter.proofs.canonical.CanonicalTokens.{anchor_tokens, tag_tokens, properties_tokens, entry_indicator, node_tokens, nodes_tokens}

-- conditions on an event's names and value
abbrev pub EventOk : Event → Type 0
EventOk (alias name) = IsName name
EventOk (scalar content) = AnchorOk content.anchor × (all_scalars content.value ≡ true)
EventOk (sequence_start start) = AnchorOk start.anchor
EventOk (mapping_start start) = AnchorOk start.anchor
EventOk _ = Unit {0}

-- pieces that were rendered after a text have these tokens with it, leave indention off and keep the open-ended state
pub record After (breaks12 : Bool) (text : Text) (tokens : List Token) (before : Standing) (rendered : RenderedPieces) : Type 0 where
  pub says : Says breaks12 name_ends (text ++ text_of rendered.pieces) tokens
  pub off : rendered.standing.cursor.indention ≡ false
  pub open_ended : rendered.standing.open_ended ≡ before.open_ended

-- the demand on the text after entries: that after the collection's start if there are none
abbrev demand_at : (empty : Bool) → Demand → Demand
demand_at true demand = demand
demand_at false demand = name_ends

record EntriesAfter (breaks12 : Bool) (empty : Bool) (demand : Demand) (text : Text) (tokens : List Token) (before : Standing)
    (rendered : RenderedPieces) : Type 0 where
  says : Says breaks12 (demand_at empty demand) (text ++ text_of rendered.pieces) tokens
  entered : Entered empty (demand_at empty demand) rendered.standing.cursor
  open_ended : rendered.standing.open_ended ≡ before.open_ended

pub more_text : (text : Text) (a b : List Piece) → text ++ text_of (a ++ b) ≡ (text ++ text_of a) ++ text_of b
more_text text a b = ap (λ t. text ++ t) (text_of-append a b) ∙ sym (append_assoc text (text_of a) (text_of b))

-- the text of a lead by itself
pub lead_text : (lead : Text) → (lead ++ []) ++ [] ≡ lead
lead_text lead = append-nil (lead ++ []) ∙ append-nil lead

space_opens : (demand : Demand) (cursor : Cursor) → Fits demand cursor → Opens demand (space_if true cursor)
space_opens anything cursor h = opens_any (space_if true cursor)
space_opens name_ends cursor h = by cursor.whitespace h
  where
    by : (w : Bool) → w ≡ false → Opens name_ends (if true && not w then space ∷ [] else [])
    by true e = absurd (true≢false e)
    by false e = record { meets = λ rest. refl }
space_opens space_next cursor h = by cursor.whitespace h
  where
    by : (w : Bool) → w ≡ false → Opens space_next (if true && not w then space ∷ [] else [])
    by true e = absurd (true≢false e)
    by false e = record { meets = λ rest. refl }

-- the bare tag is written if there is neither a tag nor the quoted flag
bare_tokens : (portable : Bool) (own : List TagDirective) (tag : Option Text) (quoted : Bool)
    → tag_tokens portable own tag (not (is_some tag) && not quoted && not false) ≡ tag_tokens portable own tag (not quoted)
bare_tokens portable own None true = refl
bare_tokens portable own _ _ = refl

-- the tokens for brackets
record BracketsSay (breaks12 : Bool) (brackets : Brackets) (opens closes : Token) : Type 0 where
  opening : Says breaks12 anything brackets.opening (opens ∷ [])
  closing : Says breaks12 anything brackets.closing (closes ∷ [])
  apart : Opens name_ends brackets.opening

squares_say : (breaks12 : Bool) → BracketsSay breaks12 square opens_sequence closes_sequence
squares_say breaks12 = record {
  opening = symbol_says breaks12 0x5B opens_sequence refl refl refl refl;
  closing = symbol_says breaks12 0x5D closes_sequence refl refl refl refl;
  apart = record { meets = λ rest. refl };
}

curlies_say : (breaks12 : Bool) → BracketsSay breaks12 curly opens_mapping closes_mapping
curlies_say breaks12 = record {
  opening = symbol_says breaks12 0x7B opens_mapping refl refl refl refl;
  closing = symbol_says breaks12 0x7D closes_mapping refl refl refl refl;
  apart = record { meets = λ rest. refl };
}

in_flow : (s : Effective) (at : Option Spot) (start : Collection) (empty : Bool) → is_written_in_flow (in_canonical s) (place_of at) start empty ≡ true
in_flow s None start empty = refl
in_flow s (Some spot) start empty = refl

module _ (breaks12 : Bool) (s : Effective) (wide : 2 ≤ s.indent) (own : List TagDirective) (sound : directives_fault own ≡ None) where
  abbrev force : List TagDirective
  force = directives_in_force own

  -- a place's indicators and a node's properties, after a text
  starts : (at : Option Spot) (demand : Demand) (text : Text) (tokens : List Token) (anchor tag : Option Text) (bare : Bool) (cursor : Cursor)
      → Says breaks12 demand text tokens → Follows at demand cursor → AnchorOk anchor
      → Says breaks12 (demand_of anchor tag bare)
      (text ++ (render_then (render_place (in_canonical s) (place_of at) false cursor) (render_properties s.portable force anchor tag bare)).text)
      (tokens ++ (spot_tokens at ++ properties_tokens s.portable own anchor tag bare))
  starts at demand text tokens anchor tag bare cursor says follows ok =
      let place = render_place (in_canonical s) (place_of at) false cursor in
      let properties = render_properties s.portable force anchor tag bare place.cursor in
      says_then says (opens_append place.text properties.text (place_opens s at demand cursor follows))
      (says_after (place_says breaks12 s at cursor) (properties_say breaks12 s.portable own sound anchor tag bare place.cursor ok))

  scalar_after : (at : Option Spot) (demand : Demand) (text : Text) (tokens : List Token) (content : Scalar) (standing : Standing)
      → Says breaks12 demand text tokens → Follows at demand standing.cursor → EventOk (scalar content)
      → After breaks12 text (tokens ++ (spot_tokens at ++ node_tokens s.portable (scalar_node content) own)) standing
      (one_piece (scalar_piece (in_canonical s) force (place_of at) false content standing))
  scalar_after at demand text tokens content standing says follows ok =
      let bare = not (is_some content.tag) && not content.quoted_implicit && not false in
      let lead = render_then (render_place (in_canonical s) (place_of at) false standing.cursor)
      (render_properties s.portable force content.anchor content.tag bare) in
      let separation = space_if true lead.cursor in
      let whole = scalar_lead (in_canonical s) force (place_of at) false (choice_of (in_canonical s) (place_of at) false content) content standing.cursor in
      let body = double_quoted_body s.unicode s.width (deeper s.indent (place_of at).column) content.value whole.cursor in
      let started = starts at demand text tokens content.anchor content.tag bare standing.cursor says follows ok.0 in
      let fits = properties_fit breaks12 s.portable own sound content.anchor content.tag bare
      (render_place (in_canonical s) (place_of at) false standing.cursor).cursor in
      let spaced = says_then started (space_opens (demand_of content.anchor content.tag bare) lead.cursor fits)
      (says_white breaks12 separation (space_if-white true lead.cursor)) in
      let below : 2 ≤ deeper s.indent (place_of at).column = omega arith in
      let all = says_after spaced (body_says s.unicode s.width (deeper s.indent (place_of at).column) breaks12 content.value whole.cursor below ok.1) in
      let props = properties_tokens s.portable own content.anchor content.tag bare in
      let last : List Token = scalar_token content.value ∷ [] in
      record {
        says =
            says_tokens (tokens ++ (spot_tokens at ++ node_tokens s.portable (scalar_node content) own))
            (ap (λ k. k ++ last) (append-nil (tokens ++ (spot_tokens at ++ props)))
            ∙ append_assoc tokens (spot_tokens at ++ props) last
            ∙ ap (λ k. tokens ++ k) (append_assoc (spot_tokens at) props last)
            ∙ ap (λ k. tokens ++ (spot_tokens at ++ ((anchor_tokens content.anchor ++ k) ++ last)))
            (bare_tokens s.portable own content.tag content.quoted_implicit))
            (says_text (text ++ (((lead.text ++ separation) ++ body.text) ++ []))
            (ap (λ t. text ++ t) (append-nil ((lead.text ++ separation) ++ body.text))
            ∙ sym (ap (λ t. t ++ body.text) (append_assoc text lead.text separation) ∙ append_assoc text (lead.text ++ separation) body.text))
            (says_less name_ends all));
        off = and-false _;
        open_ended = refl;
      }

  alias_after : (at : Option Spot) (demand : Demand) (text : Text) (tokens : List Token) (name : Text) (standing : Standing)
      → Says breaks12 demand text tokens → Follows at demand standing.cursor → IsName name
      → After breaks12 text (tokens ++ (spot_tokens at ++ alias_token name ∷ [])) standing
      (one_piece (alias_piece (in_canonical s) (place_of at) false name standing))
  alias_after at demand text tokens name standing says follows ok =
      let place = render_place (in_canonical s) (place_of at) false standing.cursor in
      let separation = space_if true place.cursor in
      let star = separation ++ codes "*" in
      let named = says_text (star ++ name) (append_assoc separation (codes "*") name)
      (says_after (says_white breaks12 separation (space_if-white true place.cursor)) (alias_says breaks12 name ok)) in
      let all = says_then says (opens_append place.text (star ++ name) (place_opens s at demand standing.cursor follows))
      (says_after (place_says breaks12 s at standing.cursor) named) in
      record {
        says =
            says_text (text ++ (((place.text ++ ((star ++ name) ++ [])) ++ []) ++ []))
            (ap (λ t. text ++ t) (lead_text (place.text ++ ((star ++ name) ++ [])) ∙ ap (λ t. place.text ++ t) (append-nil (star ++ name))))
            all;
        off = refl;
        open_ended = refl;
      }

  -- a collection whose entries go on from its start
  collection_after : (at : Option Spot) (demand : Demand) (text : Text) (tokens : List Token) (brackets : Brackets) (opens closes : Token)
      → BracketsSay breaks12 brackets opens closes
      → (start : Collection) (undented empty : Bool) (entries : ℕ → Standing → RenderedPieces) (held : List Token) (standing : Standing)
      → Says breaks12 demand text tokens → Follows at demand standing.cursor → AnchorOk start.anchor
      → ((d : Demand) (before : Text) (j : List Token) (column : ℕ) (from : Standing) → Says breaks12 d before j → Fits d from.cursor
      → EntriesAfter breaks12 empty d before (j ++ held) from (entries column from))
      → After breaks12 text
      (tokens ++ (spot_tokens at ++ ((properties_tokens s.portable own start.anchor start.tag false ++ held) ++ (entry_indicator opens empty ∷ closes ∷ []))))
      standing
      (render_collection (in_canonical s) brackets true undented empty (place_of at).column
      (start_piece (in_canonical s) force (place_of at) false start standing) entries)
  collection_after at demand text tokens brackets opens closes symbols start undented empty entries held standing says follows ok goes =
      let lead = render_then (render_place (in_canonical s) (place_of at) false standing.cursor)
      (render_properties s.portable force start.anchor start.tag false) in
      let piece = start_piece (in_canonical s) force (place_of at) false start standing in
      let d = demand_of start.anchor start.tag false in
      let props = properties_tokens s.portable own start.anchor start.tag false in
      let k = tokens ++ (spot_tokens at ++ props) in
      let tail = entry_indicator opens empty ∷ closes ∷ [] in
      let started = starts at demand text tokens start.anchor start.tag false standing.cursor says follows ok in
      let fits = properties_fit breaks12 s.portable own sound start.anchor start.tag false
      (render_place (in_canonical s) (place_of at) false standing.cursor).cursor in
      let column = deeper s.indent (place_of at).column in
      let inner = entries column piece.standing in
      let first : Says breaks12 d (text ++ text_of (piece.piece ∷ [])) k = says_text (text ++ text_of (piece.piece ∷ []))
      (ap (λ t. text ++ t) (lead_text lead.text)) started in
      let within = goes d (text ++ text_of (piece.piece ∷ [])) k column piece.standing first fits in
      let end = render_end (in_canonical s) brackets true empty (place_of at).column inner.standing.cursor in
      let ended = says_then within.says (end_opens empty (demand_at empty d) inner.standing.cursor within.entered) (end_says empty inner.standing.cursor) in
      let last = end_piece (in_canonical s) brackets true empty (place_of at).column inner.standing in
      record {
        says =
            says_tokens (tokens ++ (spot_tokens at ++ ((props ++ held) ++ tail)))
            (append_assoc k held tail
            ∙ append_assoc tokens (spot_tokens at ++ props) (held ++ tail)
            ∙ ap (λ t. tokens ++ t) (append_assoc (spot_tokens at) props (held ++ tail))
            ∙ ap (λ t. tokens ++ (spot_tokens at ++ t)) (sym (append_assoc props held tail)))
            (says_text (text ++ text_of (((piece.piece ∷ []) ++ inner.pieces) ++ last.piece ∷ []))
            (more_text text ((piece.piece ∷ []) ++ inner.pieces) (last.piece ∷ [])
            ∙ ap (λ t. t ++ text_of (last.piece ∷ [])) (more_text text (piece.piece ∷ []) inner.pieces)
            ∙ ap (λ t. ((text ++ text_of (piece.piece ∷ [])) ++ text_of inner.pieces) ++ t) (lead_text end.text))
            (says_less name_ends ended));
        off = and-false _;
        open_ended = within.open_ended;
      }
    where
      end_says : (none : Bool) (cursor : Cursor)
          → Says breaks12 anything (render_end (in_canonical s) brackets true none (place_of at).column cursor).text (entry_indicator opens none ∷ closes ∷ [])
      end_says true cursor =
          says_after (indicator_says true true false cursor symbols.opening)
          (indicator_says false false false (indicator brackets.opening true true false cursor).cursor symbols.closing)
      end_says false cursor =
          let symbol = indicator (codes ",") false false false cursor in
          let line = new_line (line_column (place_of at).column) symbol.cursor in
          says_after (says_after (indicator_says false false false cursor (symbol_says breaks12 0x2C comma refl refl refl refl))
          (says_white breaks12 line.text (new_line-white (line_column (place_of at).column) symbol.cursor)))
          (indicator_says false false false line.cursor symbols.closing)

      end_opens : (none : Bool) (d : Demand) (cursor : Cursor) → Entered none d cursor
          → Opens d (render_end (in_canonical s) brackets true none (place_of at).column cursor).text
      end_opens true d cursor h =
          opens_append (indicator brackets.opening true true false cursor).text
          (indicator brackets.closing false false false (indicator brackets.opening true true false cursor).cursor).text
          (opening_opens brackets.opening d true cursor symbols.apart h)
      end_opens false d cursor h =
          let symbol = indicator (codes ",") false false false cursor in
          let line = new_line (line_column (place_of at).column) symbol.cursor in
          opens_append (symbol.text ++ line.text) (indicator brackets.closing false false false line.cursor).text
          (opens_append symbol.text line.text (opening_opens brackets.opening d false cursor symbols.apart h))

  mutual
    pub node_after : (n : Node) (at : Option Spot) (demand : Demand) (text : Text) (tokens : List Token) (standing : Standing)
        → Says breaks12 demand text tokens → Follows at demand standing.cursor → EachNode n EventOk
        → After breaks12 text (tokens ++ (spot_tokens at ++ node_tokens s.portable n own)) standing
        (render_node n (in_canonical s) force (place_of at) standing)
    node_after (alias_node name) at demand text tokens standing says follows ok =
        subst (λ b. After breaks12 text (tokens ++ (spot_tokens at ++ alias_token name ∷ [])) standing
        (one_piece (alias_piece (in_canonical s) (place_of at) b name standing)))
        (sym (and-false (is_key (place_of at).role)))
        (alias_after at demand text tokens name standing says follows ok)
    node_after (scalar_node content) at demand text tokens standing says follows ok =
        subst (λ b. After breaks12 text (tokens ++ (spot_tokens at ++ node_tokens s.portable (scalar_node content) own)) standing
        (one_piece (scalar_piece (in_canonical s) force (place_of at) b content standing)))
        (sym (and-false (is_key (place_of at).role)))
        (scalar_after at demand text tokens content standing says follows ok)
    node_after (sequence_node start items) at demand text tokens standing says follows ok =
        let empty = has_no_nodes items in
        let k = tokens ++ (spot_tokens at ++ node_tokens s.portable (sequence_node start items) own) in
        let undented = is_undented (in_canonical s) (place_of at).role in
        subst (λ b. After breaks12 text k standing
        (render_collection (in_canonical s) square (is_written_in_flow (in_canonical s) (place_of at) start empty) undented empty (place_of at).column
        (start_piece (in_canonical s) force (place_of at) b start standing)
        (render_nodes items (in_canonical s) force (is_written_in_flow (in_canonical s) (place_of at) start empty))))
        (sym (and-false (is_key (place_of at).role)))
        (subst (λ b. After breaks12 text k standing
        (render_collection (in_canonical s) square b undented empty (place_of at).column (start_piece (in_canonical s) force (place_of at) false start standing)
        (render_nodes items (in_canonical s) force b)))
        (sym (in_flow s at start empty))
        (collection_after at demand text tokens square opens_sequence closes_sequence (squares_say breaks12) start undented empty
        (render_nodes items (in_canonical s) force true) (nodes_tokens s.portable items own) standing says follows ok.0
        (λ d before j column from parsed fits. items_after items d before j column from parsed fits ok.1)))
    node_after (mapping_node start pairs) at demand text tokens standing says follows ok =
        let empty = has_no_pairs pairs in
        let k = tokens ++ (spot_tokens at ++ node_tokens s.portable (mapping_node start pairs) own) in
        subst (λ b. After breaks12 text k standing
        (render_collection (in_canonical s) curly (is_written_in_flow (in_canonical s) (place_of at) start empty) false empty (place_of at).column
        (start_piece (in_canonical s) force (place_of at) b start standing)
        (render_pairs pairs (in_canonical s) force (is_written_in_flow (in_canonical s) (place_of at) start empty))))
        (sym (and-false (is_key (place_of at).role)))
        (subst (λ b. After breaks12 text k standing
        (render_collection (in_canonical s) curly b false empty (place_of at).column (start_piece (in_canonical s) force (place_of at) false start standing)
        (render_pairs pairs (in_canonical s) force b)))
        (sym (in_flow s at start empty))
        (collection_after at demand text tokens curly opens_mapping closes_mapping (curlies_say breaks12) start false empty
        (render_pairs pairs (in_canonical s) force true) (pairs_tokens s.portable pairs own) standing says follows ok.0
        (λ d before j column from parsed fits. pairs_after pairs d before j column from parsed fits ok.1)))

    items_after : (items : Nodes) (d : Demand) (text : Text) (tokens : List Token) (column : ℕ) (standing : Standing)
        → Says breaks12 d text tokens → Fits d standing.cursor → EachItem items EventOk
        → EntriesAfter breaks12 (has_no_nodes items) d text (tokens ++ nodes_tokens s.portable items own) standing
        (render_nodes items (in_canonical s) force true column standing)
    items_after no_nodes d text tokens column standing says fits ok = record {
      says = says_text (text ++ []) (append-nil text) (says_tokens (tokens ++ []) (sym (append-nil tokens)) says);
      entered = fits;
      open_ended = refl;
    }
    items_after (nodes_and items last) d text tokens column standing says fits ok =
        let before = items_after items d text tokens column standing says fits ok.0 in
        let prefix = render_nodes items (in_canonical s) force true column standing in
        let at : Option Spot = Some (record { role = as_item (has_no_nodes items); column = column }) in
        let node = node_after last at (demand_at (has_no_nodes items) d) (text ++ text_of prefix.pieces)
        (tokens ++ nodes_tokens s.portable items own) prefix.standing before.says before.entered ok.1 in
        let back = render_node last (in_canonical s) force (place_of at) prefix.standing in
        record {
          says =
              says_tokens (tokens ++ nodes_tokens s.portable (nodes_and items last) own)
              (append_assoc tokens (nodes_tokens s.portable items own) (spot_tokens at ++ node_tokens s.portable last own))
              (says_text (text ++ text_of (prefix.pieces ++ back.pieces)) (more_text text prefix.pieces back.pieces) node.says);
          entered = refl;
          open_ended = node.open_ended ∙ before.open_ended;
        }

    pairs_after : (pairs : Pairs) (d : Demand) (text : Text) (tokens : List Token) (column : ℕ) (standing : Standing)
        → Says breaks12 d text tokens → Fits d standing.cursor → EachPair pairs EventOk
        → EntriesAfter breaks12 (has_no_pairs pairs) d text (tokens ++ pairs_tokens s.portable pairs own) standing
        (render_pairs pairs (in_canonical s) force true column standing)
    pairs_after no_pairs d text tokens column standing says fits ok = record {
      says = says_text (text ++ []) (append-nil text) (says_tokens (tokens ++ []) (sym (append-nil tokens)) says);
      entered = fits;
      open_ended = refl;
    }
    pairs_after (pairs_and pairs key value) d text tokens column standing says fits ok =
        let before = pairs_after pairs d text tokens column standing says fits ok.0 in
        let prefix = render_pairs pairs (in_canonical s) force true column standing in
        let key_at : Option Spot = Some (record { role = as_key (has_no_pairs pairs); column = column }) in
        let value_at : Option Spot = Some (record { role = as_value (is_simple true force key); column = column }) in
        let prefix_tokens = tokens ++ pairs_tokens s.portable pairs own in
        let key_parsed = node_after key key_at (demand_at (has_no_pairs pairs) d)
        (text ++ text_of prefix.pieces) prefix_tokens prefix.standing before.says before.entered ok.1 in
        let middle = render_node key (in_canonical s) force (place_of key_at) prefix.standing in
        let key_tokens = spot_tokens key_at ++ node_tokens s.portable key own in
        let value_parsed = node_after value value_at name_ends ((text ++ text_of prefix.pieces) ++ text_of middle.pieces)
        (prefix_tokens ++ key_tokens) middle.standing key_parsed.says refl ok.2 in
        let back = render_node value (in_canonical s) force (place_of value_at) middle.standing in
        let value_tokens = spot_tokens value_at ++ node_tokens s.portable value own in
        record {
          says =
              says_tokens (tokens ++ pairs_tokens s.portable (pairs_and pairs key value) own)
              (append_assoc prefix_tokens key_tokens value_tokens
              ∙ append_assoc tokens (pairs_tokens s.portable pairs own) (key_tokens ++ value_tokens)
              ∙ ap (λ t. tokens ++ t) (sym (append_assoc (pairs_tokens s.portable pairs own) key_tokens value_tokens)))
              (says_text (text ++ text_of ((prefix.pieces ++ middle.pieces) ++ back.pieces))
              (more_text text (prefix.pieces ++ middle.pieces) back.pieces ∙ ap (λ t. t ++ text_of back.pieces) (more_text text prefix.pieces middle.pieces))
              value_parsed.says);
          entered = refl;
          open_ended = value_parsed.open_ended ∙ key_parsed.open_ended ∙ before.open_ended;
        }
