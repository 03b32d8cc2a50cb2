-- Each kind of node in flow takes the reader of flow collections to its place with its tree, if its entries do.
use Rattle.yaml_base.proofs.Common.{arith, ℕ, if◌then◌else◌, Option, None, Some, Bool, false, not, true, ◌&&◌, List, [], ◌++◌, ◌∷◌, refl, ◌≡◌, true≢false}
use Rattle.yaml_base.proofs.Common.{append-nil, append_assoc, ap, sym, ◌∙◌, false≢true, Text, space, Cursor, Rendered, space_if, TagDirective, Scalar}
use Rattle.yaml_base.proofs.Common.{Collection, scalar_tag, collection_tag, Node, alias_node, scalar_node, Nodes, Pairs, no_nodes, nodes_and, no_pairs}
use Rattle.yaml_base.proofs.Common.{pairs_and, render_properties, render_alias, render_separation, render_body, choice_of, entry_place, Role, is_key, deeper}
use Rattle.yaml_base.proofs.Common.{is_simple, Effective, is_plain, Tree, alias_tree, and-false, is_alias, is_key_text, no_key, key_held, OpenFlow, in_sequence}
use Rattle.yaml_base.proofs.Common.{in_mapping, with_tree, level_opened, Rules, name_read, begins_bracket, class_of, is_pair, word_after, option_map}
use Rattle.yaml_base.proofs.{Common.collection_tag_parsed, stream_flow.StreamPropertyWords.lead}
use Rattle.yaml_base.proofs.stream_flow.StreamTakes.{takes_both, takes_simple_key}
use Rattle.yaml_base.proofs.stream_flow.StreamWhites.{spaces_end_word, alias_blank}
use Rattle.yaml_base.proofs.stream_flow.StreamFlowScalars.{rules_of, chosen_in_flow, bare_not_plain, body_flow_word, body_ended, scalar_whole}
use Rattle.yaml_base.proofs.stream_flow.StreamFlowTakes.{FlowNode, FlowEntries, takes_word, takes_collection, opens_more, FlowEnd}
use Rattle.yaml_base.proofs.stream_flow.StreamFlowWords.{opens_inside, FlowWord, Given, lead_opens, alias_flow_word, empty_word}
use Rattle.yaml_base.proofs.stream_nodes.StreamAgrees.{node_tree, nodes_tree, pairs_tree}
use Rattle.yaml_base.proofs.stream_nodes.StreamLeads.{EndedCollection, lead_rendered, tag_is_written}
use Rattle.yaml_base.proofs.stream_nodes.StreamProperties.{IsNamed}
use Rattle.yaml_base.proofs.stream_nodes.StreamStands.{tag_written, tag_meant, TagStands, NamesStand, BodyStands, body_from, BodiesHold}
use Rattle.yaml_base.proofs.stream_nodes.StreamTexts.{node_own, items_own, pairs_own}

-- the space after an alias that is a simple key
abbrev pub alias_space : Node → Text
alias_space (alias_node name) = space ∷ []
alias_space _ = []

-- the text of each simple key, without the space before it and that after an alias, is on one line and not too long
abbrev pub KeysFit : Effective → List TagDirective → List TagDirective → Type 0
KeysFit s own directives =
    (n : Node) (role : Role) (column : ℕ) (cursor : Cursor) (text : Text) → (is_key role && is_simple s.canonical directives n) ≡ true
    → NamesStand s.portable own s.canonical directives n → BodiesHold (BodyStands s) n s directives (entry_place true role column) cursor
    → (node_own n s directives (entry_place true role column) cursor).text ≡ space_if true cursor ++ (text ++ alias_space n)
    → is_key_text s.breaks12 (node_tree n s directives (entry_place true role 0)) text ≡ true

-- the rendered text of a node in flow takes the reader to its place with its tree
abbrev pub NodeTakes : Effective → List TagDirective → List TagDirective → Role → ℕ → Cursor → Node → Type 0
NodeTakes s own directives role column cursor node =
    FlowNode (rules_of s own) (is_key role && is_simple s.canonical directives node) cursor
    (node_own node s directives (entry_place true role column) cursor) (node_tree node s directives (entry_place true role 0))

-- Words

-- a word is a node in flow, and a key if it may be one
word_node : (rules : Rules) (simple : Bool) (cursor : Cursor) (own : Rendered) (text : Text) (tree : Tree) → own.text ≡ space_if true cursor ++ text
    → EndedCollection own.cursor
    → FlowWord rules text tree → is_alias tree ≡ false → (simple ≡ true → is_key_text rules.breaks12 tree text ≡ true) → FlowNode rules simple cursor own tree
word_node rules simple cursor own text tree whole ended of other fits = grind (arith, takes_word, takes_simple_key)

-- an alias, with a space after it if it is a simple key
pub alias_step : (s : Effective) (own directives : List TagDirective) (fits : KeysFit s own directives) (role : Role) (column : ℕ) (cursor : Cursor)
    (name : Text) → name_read name ≡ Some name
    → (simple : Bool) → (is_key role && is_simple s.canonical directives (alias_node name)) ≡ simple
    → FlowNode (rules_of s own) simple cursor (render_alias name simple cursor) (alias_tree name)
alias_step s own directives fits role column cursor name named false e = record {
  content = 0x2A ∷ name;
  whole = append-nil ((space_if true cursor ++ (0x2A ∷ [])) ++ name) ∙ append_assoc (space_if true cursor) (0x2A ∷ []) name;
  ended = record { white = refl; indention = refl };
  opens = refl;
  takes = λ h levels open_level spaced. takes_word _ _ _ _ _
      (alias_flow_word _ name named) open_level;
  key = λ h. absurd (false≢true h);
}
alias_step s own directives fits role column cursor name named true e =
    let whole : (render_alias name true cursor).text ≡ space_if true cursor ++ ((0x2A ∷ name) ++ (space ∷ [])) =
    ap (λ t. t ++ (space ∷ [])) (append_assoc (space_if true cursor) (0x2A ∷ []) name) ∙ append_assoc (space_if true cursor) (0x2A ∷ name) (space ∷ []) in
    record {
      content = (0x2A ∷ name) ++ (space ∷ []);
      whole = whole;
      ended = record { white = refl; indention = refl };
      opens = refl;
      takes = λ h. absurd (true≢false h);
      key = λ h anchor tag pairs levels.
          let of = alias_flow_word (rules_of s own) name named in
          takes_both (takes_simple_key (rules_of s own) anchor tag pairs levels (0x2A ∷ name) (alias_tree name) of.says of.reads
          (fits (alias_node name) role column cursor (0x2A ∷ name) e named tt (ap (λ x. (render_alias name x cursor).text) e ∙ whole)))
          (alias_blank (rules_of s own) (in_mapping anchor tag pairs (key_held (alias_tree name)) ∷ levels))
          (spaces_end_word s.breaks12 1);
    }

-- a scalar
pub scalar_step : (s : Effective) (own directives : List TagDirective) (fits : KeysFit s own directives) (role : Role) (column : ℕ) (cursor : Cursor)
    (content : Scalar)
    → NamesStand s.portable own s.canonical directives (scalar_node content)
    → BodyStands s (body_from s directives (entry_place true role column) content cursor)
    → NodeTakes s own directives role column cursor (scalar_node content)
scalar_step s own directives fits role column cursor content names body =
    let simple = is_key role && is_simple s.canonical directives (scalar_node content) in
    let tag = scalar_tag s.canonical content in
    let choice = choice_of s (entry_place true role column) simple content in
    let properties = render_properties s.portable directives content.anchor tag choice.bare cursor in
    let separation = render_separation choice.style true content.value properties.cursor in
    let limit = if simple then None else s.width in
    let text = (render_body choice.style s limit (deeper s.indent (Some column)) content.value separation.cursor).text in
    let whole = scalar_whole s.portable directives content.anchor tag choice.bare choice.style content.value cursor text in
    let flow = chosen_in_flow s role column simple content in
    word_node _ simple cursor _ _ _ whole (body_ended s _ limit (deeper s.indent (Some column)) content.value separation.cursor flow)
    (body_flow_word s own _ _ tag _ _ limit _ column _ _
    (record { named = names.0; tagged = tag_is_written _ own _ tag choice.bare names.1 })
    flow (bare_not_plain _ _ (is_plain choice.style)) body.tidy body.reads) refl
    (λ h. fits (scalar_node content) role column cursor (lead content.anchor (tag_written s.portable directives tag choice.bare) ++ text) h names body
    (whole ∙ ap (λ t. space_if true cursor ++ t) (sym (append-nil (lead content.anchor (tag_written s.portable directives tag choice.bare) ++ text)))))

-- Collections

-- an empty collection's text
pub empty_whole : (properties : Rendered) (cursor : Cursor) (before : Text) (a b : ℕ)
    → properties.text ++ space_if true properties.cursor ≡ space_if true cursor ++ before
    → (properties.text ++ []) ++ ((space_if true properties.cursor ++ (a ∷ [])) ++ (b ∷ [])) ≡ space_if true cursor ++ (before ++ (a ∷ b ∷ []))
empty_whole properties cursor before a b e = grind (arith, append-nil, append_assoc)

-- the text of a collection that holds something
pub collection_whole : (properties : Rendered) (cursor : Cursor) (before : Text) (bracket : ℕ) (inside entries ending : Text)
    → properties.text ++ space_if true properties.cursor ≡ space_if true cursor ++ before
    → entries ≡ space_if true properties.cursor ++ (bracket ∷ inside)
    → (properties.text ++ entries) ++ ending ≡ space_if true cursor ++ (before ++ (bracket ∷ (inside ++ ending)))
collection_whole properties cursor before bracket inside entries ending e whole = grind (arith, append_assoc)

-- an empty collection
pub empty_step : (s : Effective) (own directives : List TagDirective) (simple : Bool) (cursor last : Cursor) (start : Collection) (bracket closing : ℕ)
    (tree : Option Text → Tree)
    → (let tag = collection_tag s.canonical start in
    let properties = render_properties s.portable directives start.anchor tag false cursor in
    let rendered : Rendered =
    record { text = (properties.text ++ []) ++ ((space_if true properties.cursor ++ (bracket ∷ [])) ++ (closing ∷ [])); cursor = last } in
    IsNamed start.anchor → TagStands s.portable own directives tag → class_of s.breaks12 bracket ≡ begins_bracket → is_pair bracket closing ≡ true
    → word_after (rules_of s own) true None (record { anchor = start.anchor; tag = tag_meant tag false }) (bracket ∷ closing ∷ [])
    ≡ option_map tree (collection_tag_parsed (tag_meant tag false))
    → is_alias (tree tag) ≡ false → EndedCollection last
    → ((text : Text) → simple ≡ true → rendered.text ≡ space_if true cursor ++ (text ++ []) → is_key_text s.breaks12 (tree tag) text ≡ true)
    → FlowNode (rules_of s own) simple cursor rendered (tree tag))
empty_step s own directives simple cursor last start bracket closing tree named tagged class pair read other ended fits =
    let tag = collection_tag s.canonical start in
    let properties = render_properties s.portable directives start.anchor tag false cursor in
    let before = lead start.anchor (tag_written s.portable directives tag false) in
    let text = before ++ (bracket ∷ closing ∷ []) in
    let whole = empty_whole properties cursor before bracket closing (lead_rendered s.portable directives start.anchor tag false cursor) in
    word_node _ simple cursor _ text (tree tag) whole ended
    (empty_word (rules_of s own) start.anchor (tag_written s.portable directives tag false) tag bracket closing tree
    (record { named = named; tagged = tag_is_written s.portable own directives tag false tagged }) class pair read) other
    (λ h. fits text h (whole ∙ ap (λ t. space_if true cursor ++ t) (sym (append-nil text))))

-- a collection that holds something
pub collection_step : (s : Effective) (own directives : List TagDirective) (simple : Bool) (cursor : Cursor) (start : Collection) (bracket : ℕ)
    (entries ending : Rendered) (last : Option Text → Option Text → OpenFlow) (tree : Tree)
    → (let tag = collection_tag s.canonical start in
    let properties = render_properties s.portable directives start.anchor tag false cursor in
    IsNamed start.anchor → TagStands s.portable own directives tag → class_of s.breaks12 bracket ≡ begins_bracket → opens_inside (bracket ∷ []) ≡ true
    → FlowEntries (rules_of s own) bracket properties.cursor entries (level_opened bracket) last
    → ((levels : List OpenFlow) → FlowEnd (rules_of s own) ending (last start.anchor tag ∷ levels) (with_tree levels tree)) → simple ≡ false
    → FlowNode (rules_of s own) simple cursor (record { text = (properties.text ++ entries.text) ++ ending.text; cursor = ending.cursor }) tree)
collection_step s own directives simple cursor start bracket entries ending last tree named tagged class open_bracket of end other =
    let tag = collection_tag s.canonical start in
    let properties = render_properties s.portable directives start.anchor tag false cursor in
    let written = tag_written s.portable directives tag false in
    let given : Given (rules_of s own) start.anchor written (tag_meant tag false) =
    record { named = named; tagged = tag_is_written s.portable own directives tag false tagged } in
    record {
      content = lead start.anchor written ++ (bracket ∷ (of.inside ++ ending.text));
      whole =
          collection_whole properties cursor (lead start.anchor written) bracket of.inside entries.text ending.text
          (lead_rendered s.portable directives start.anchor tag false cursor) of.whole;
      ended = (end []).ended;
      opens = lead_opens (rules_of s own) start.anchor written _ _ given open_bracket;
      takes = λ h levels open_level spaced.
          takes_collection (rules_of s own) levels spaced bracket start.anchor written _ _ _ given open_level class
          (opens_more of.inside ending.text of.opens) (takes_both (of.takes start.anchor tag levels) (end levels).takes (end levels).ends);
      key = λ h. absurd (true≢false (sym h ∙ other));
    }

-- that is no simple key
pub no_simple_key : (key canonical : Bool) → (key && (not canonical && false)) ≡ false
no_simple_key key canonical = ap (λ x. key && x) (and-false (not canonical)) ∙ and-false key

-- the items of a sequence in flow
abbrev pub ItemsTake : Effective → List TagDirective → List TagDirective → Nodes → ℕ → Cursor → Type 0
ItemsTake s own directives no_nodes column cursor = Unit {0}
ItemsTake s own directives (nodes_and items last) column cursor =
    FlowEntries (rules_of s own) 0x5B cursor (items_own (nodes_and items last) s directives true column cursor) (level_opened 0x5B)
    (λ anchor tag. in_sequence anchor tag (nodes_tree (nodes_and items last) s directives true))

-- the pairs of a mapping in flow
abbrev pub PairsTake : Effective → List TagDirective → List TagDirective → Pairs → ℕ → Cursor → Type 0
PairsTake s own directives no_pairs column cursor = Unit {0}
PairsTake s own directives (pairs_and pairs key value) column cursor =
    FlowEntries (rules_of s own) 0x7B cursor (pairs_own (pairs_and pairs key value) s directives true column cursor) (level_opened 0x7B)
    (λ anchor tag. in_mapping anchor tag (pairs_tree (pairs_and pairs key value) s directives true) no_key)
