-- Simple keys in flow: the text of each is on one line and isn't too long.
use Rattle.yaml_base.proofs.Common.{suc, ℕ, ◌+◌, ◌≤◌, None, Some, length, Bool, false, not, true, ◌&&◌, List, [], ◌++◌, ◌∷◌, refl, ◌≡◌, le-leb, leb-true}
use Rattle.yaml_base.proofs.Common.{length-append, append-nil, append_assoc, ap, subst, sym, ◌∙◌, arith, and_parts, and_from, false≢true, length-le-encodes}
use Rattle.yaml_base.proofs.Common.{list_any, Text, space, is_break, Cursor, space_if, ScalarStyle, TagDirective, Scalar, Collection, scalar_tag}
use Rattle.yaml_base.proofs.Common.{collection_tag, alias_node, scalar_node, sequence_node, mapping_node, no_nodes, nodes_and, no_pairs, pairs_and}
use Rattle.yaml_base.proofs.Common.{render_properties, render_alias, render_separation, render_body, choice_of, entry_place, Role, is_key, deeper, byte_count}
use Rattle.yaml_base.proofs.Common.{name_count, tag_count, is_short, is_simple, most_key_bytes, Effective, Allowances, fitting_style, and-false, Tree}
use Rattle.yaml_base.proofs.Common.{longest_key, is_key_text, name_read}
use Rattle.std.proofs.lemmas.List.{append_cancel_left, append_cancel_right}
use Rattle.yaml_base.{proofs.stream_keys.StreamKeyLengths.body_length, proofs.stream_keys.StreamKeyLengths.lead_length}
use Rattle.yaml_base.{proofs.stream_lines.StreamLineLaws.OneLine, proofs.stream_lines.StreamLineLaws.one_line_both}
use Rattle.yaml_base.proofs.stream_flow.{StreamFlowKinds.KeysFit, StreamFlowKinds.empty_whole, StreamFlowScalars.rules_of, StreamFlowScalars.is_flow_style}
use Rattle.yaml_base.proofs.stream_flow.{StreamFlowScalars.scalar_whole, StreamPropertyWords.lead}
use Rattle.yaml_base.proofs.stream_keys.StreamKeyBodies.{key_body, body_alone, key_unbroken}
use Rattle.yaml_base.proofs.stream_nodes.{StreamAgrees.node_tree, StreamAliasFits.name_line, StreamBegun.lead_line, StreamLeads.lead_rendered}
use Rattle.yaml_base.proofs.stream_nodes.{StreamLeads.tag_is_written, StreamProperties.IsNamed, StreamProperties.name_letters, StreamStands.tag_written}
use Rattle.yaml_base.proofs.stream_nodes.{StreamStands.tag_meant, StreamStands.TagStands, StreamTexts.scalar_own, StreamTexts.node_own}
use Rattle.yaml_base.proofs.stream_lines.StreamLineLaws.{unbroken_line}

-- the text of a simple key is on one line, and with a space after it not too long
pub record KeyText (breaks12 : Bool) (text : Text) : Type 0 where
  pub short : suc (length text) ≤ longest_key
  pub line : OneLine breaks12 text

-- such a text may be a key's in flow
pub key_text_fits : (breaks12 : Bool) (tree : Tree) (text : Text) → KeyText breaks12 text → is_key_text breaks12 tree text ≡ true
key_text_fits breaks12 tree text of = grind (arith, and_from, le-leb)

-- Styles

-- in which no block style fits
style_of_key : (allowed : Allowances) (fits block : Bool) (asked : ScalarStyle) → block ≡ false → is_flow_style (fitting_style allowed fits block asked) ≡ true
style_of_key allowed fits block asked h = grind (arith)

-- the style of a simple key
pub key_style : (s : Effective) (in_flow : Bool) (role : Role) (column : ℕ) (content : Scalar)
    → is_flow_style (choice_of s (entry_place in_flow role column) true content).style ≡ true
key_style s in_flow role column content = grind (arith, style_of_key, and-false)

-- Scalars

-- the conditions for a scalar that is a simple key
pub record SimpleScalar (directives : List TagDirective) (canonical : Bool) (content : Scalar) : Type 0 where
  pub whole : list_any is_break content.value ≡ false
  pub short : byte_count content.value + name_count content.anchor + tag_count directives (scalar_tag canonical content) ≤ most_key_bytes

pub simple_scalar : (canonical : Bool) (directives : List TagDirective) (content : Scalar) → is_simple canonical directives (scalar_node content) ≡ true
    → SimpleScalar directives canonical content
simple_scalar canonical directives content h = grind (arith, and_parts, leb-true, false≢true)

-- its text, after its anchor and tag
pub scalar_key_text : (s : Effective) (own directives : List TagDirective) (content : Scalar) (style : ScalarStyle) (bare : Bool)
    → IsNamed content.anchor → TagStands s.portable own directives (scalar_tag s.canonical content) → SimpleScalar directives s.canonical content
    → KeyText s.breaks12 (lead content.anchor (tag_written s.portable directives (scalar_tag s.canonical content) bare)
    ++ key_body style s.unicode content.value)
scalar_key_text s own directives content style bare named stands simple =
    let tag = scalar_tag s.canonical content in
    let before = lead content.anchor (tag_written s.portable directives tag bare) in
    let body = key_body style s.unicode content.value in
    let both = length-append before body in
    let one = lead_length s.portable directives content.anchor tag bare in
    let two = body_length style s.unicode content.value in
    let all = simple.short in
    record {
      short = omega arith;
      line =
          one_line_both s.breaks12 before body
          (lead_line (rules_of s own) content.anchor (tag_written s.portable directives tag bare) (tag_meant tag bare) named
          (tag_is_written s.portable own directives tag bare stands))
          (unbroken_line s.breaks12 body (key_unbroken style s.unicode content.value simple.whole));
    }

-- Aliases and empty collections

-- the text of an alias
pub alias_key_text : (breaks12 : Bool) (name : Text) → name_read name ≡ Some name → byte_count name ≤ most_key_bytes → KeyText breaks12 (0x2A ∷ name)
alias_key_text breaks12 name named short = grind (arith, length-le-encodes, one_line_both, name_line, name_letters)

-- the text of an empty collection, after its anchor and tag
pub empty_key_text : (s : Effective) (own directives : List TagDirective) (start : Collection) (a b : ℕ)
    → list_any is_break (a ∷ b ∷ []) ≡ false → IsNamed start.anchor → TagStands s.portable own directives (collection_tag s.canonical start)
    → name_count start.anchor + tag_count directives (collection_tag s.canonical start) ≤ most_key_bytes
    → KeyText s.breaks12 (lead start.anchor (tag_written s.portable directives (collection_tag s.canonical start) false) ++ (a ∷ b ∷ []))
empty_key_text s own directives start a b line named stands short =
    let tag = collection_tag s.canonical start in
    let before = lead start.anchor (tag_written s.portable directives tag false) in
    let both = length-append before (a ∷ b ∷ []) in
    let one = lead_length s.portable directives start.anchor tag false in
    record {
      short = omega arith;
      line =
          one_line_both s.breaks12 before (a ∷ b ∷ [])
          (lead_line (rules_of s own) start.anchor (tag_written s.portable directives tag false) (tag_meant tag false) named
          (tag_is_written s.portable own directives tag false stands))
          (unbroken_line s.breaks12 (a ∷ b ∷ []) line);
    }

-- a collection that is a simple key is empty, and short
pub simple_collection : (canonical empty : Bool) (count : ℕ) → (not canonical && (empty && is_short count)) ≡ true → (empty ≡ true) × (count ≤ most_key_bytes)
simple_collection canonical empty count h =
    let parts = and_parts empty (is_short count) (and_parts (not canonical) (empty && is_short count) h).1 in (parts.0, leb-true count most_key_bytes parts.1)

-- In flow

-- the rendered text after a space is the key's text
cancelled : (cursor : Cursor) (text whole rendered : Text) → rendered ≡ space_if true cursor ++ (text ++ []) → rendered ≡ space_if true cursor ++ whole
    → text ≡ whole
cancelled cursor text whole rendered e f = sym (append-nil text) ∙ append_cancel_left (space_if true cursor) (text ++ []) whole (sym e ∙ f)

-- a scalar's
scalar_fits : (s : Effective) (own directives : List TagDirective) (content : Scalar) (role : Role) (column : ℕ) (cursor : Cursor) (text : Text)
    → IsNamed content.anchor → TagStands s.portable own directives (scalar_tag s.canonical content) → SimpleScalar directives s.canonical content
    → (scalar_own s directives (entry_place true role column) true content cursor).text ≡ space_if true cursor ++ (text ++ [])
    → KeyText s.breaks12 text
scalar_fits s own directives content role column cursor text named stands simple e =
    let tag = scalar_tag s.canonical content in
    let choice = choice_of s (entry_place true role column) true content in
    let properties = render_properties s.portable directives content.anchor tag choice.bare cursor in
    let separation = render_separation choice.style true content.value properties.cursor in
    let body = (render_body choice.style s None (deeper s.indent (Some column)) content.value separation.cursor).text in
    subst (KeyText s.breaks12) (sym (cancelled cursor text _ _ e
    (scalar_whole s.portable directives content.anchor tag choice.bare choice.style content.value cursor body)))
    (subst (λ t. KeyText s.breaks12 (lead content.anchor (tag_written s.portable directives tag choice.bare) ++ t))
    (sym (body_alone s _ (deeper s.indent (Some column)) _ separation.cursor (key_style s true role column content) simple.whole))
    (scalar_key_text s own _ content choice.style choice.bare named stands simple))

-- each simple key in flow
pub keys_fit : (s : Effective) (own directives : List TagDirective) → KeysFit s own directives
keys_fit s own directives (alias_node name) role column cursor text h names bodies e =
    let simple = (and_parts (is_key role) (not s.canonical && is_short (byte_count name)) h).1 in
    let short = leb-true (byte_count name) most_key_bytes (and_parts (not s.canonical) (is_short (byte_count name)) simple).1 in
    subst (λ t. is_key_text s.breaks12 (node_tree (alias_node name) s directives (entry_place true role 0)) t ≡ true) (sym (same (sym (rendered h) ∙ e)))
    (key_text_fits s.breaks12 (node_tree (alias_node name) s directives (entry_place true role 0)) (0x2A ∷ name) (alias_key_text s.breaks12 name names short))
  where
    rendered : (is_key role && (not s.canonical && is_short (byte_count name))) ≡ true
        → (render_alias name (is_key role && (not s.canonical && is_short (byte_count name))) cursor).text ≡ space_if true cursor ++
        ((0x2A ∷ name) ++ (space ∷ []))
    rendered h =
        ap (λ x. (render_alias name x cursor).text) h
        ∙ ap (λ t. t ++ (space ∷ [])) (append_assoc (space_if true cursor) (0x2A ∷ []) name)
        ∙ append_assoc (space_if true cursor) (0x2A ∷ name) (space ∷ [])

    same : space_if true cursor ++ ((0x2A ∷ name) ++ (space ∷ [])) ≡ space_if true cursor ++ (text ++ (space ∷ [])) → text ≡ 0x2A ∷ name
    same e =
        append_cancel_right text (0x2A ∷ name) (space ∷ [])
        (append_cancel_left (space_if true cursor) (text ++ (space ∷ [])) ((0x2A ∷ name) ++ (space ∷ [])) (sym e))
keys_fit s own directives (scalar_node content) role column cursor text h names bodies e =
    key_text_fits s.breaks12 (node_tree (scalar_node content) s directives (entry_place true role 0)) text
    (scalar_fits s own directives content role column cursor text names.0 names.1
    (simple_scalar s.canonical directives content (and_parts (is_key role) (is_simple s.canonical directives (scalar_node content)) h).1)
    (ap (λ x. (scalar_own s directives (entry_place true role column) x content cursor).text) (sym h) ∙ e))
keys_fit s own directives (sequence_node start no_nodes) role column cursor text h names bodies e =
    let tag = collection_tag s.canonical start in
    let whole = lead start.anchor (tag_written s.portable directives tag false) ++ (0x5B ∷ 0x5D ∷ []) in
    let short = (simple_collection s.canonical true (name_count start.anchor + tag_count directives tag)
    (and_parts (is_key role) (is_simple s.canonical directives (sequence_node start no_nodes)) h).1).1 in
    key_text_fits s.breaks12 (node_tree (sequence_node start no_nodes) s directives (entry_place true role 0)) text
    (subst (KeyText s.breaks12)
    (sym (cancelled cursor text whole (node_own (sequence_node start no_nodes) s directives (entry_place true role column) cursor).text e
    (empty_whole (render_properties s.portable directives start.anchor tag false cursor) cursor
    (lead start.anchor (tag_written s.portable directives tag false)) 0x5B 0x5D
    (lead_rendered s.portable directives start.anchor tag false cursor))))
    (empty_key_text s own directives start 0x5B 0x5D refl names.0 names.1 short))
keys_fit s own directives (sequence_node start (nodes_and items last)) role column cursor text h names bodies e =
    absurd (false≢true (simple_collection s.canonical false 0 (and_parts (is_key role)
    (is_simple s.canonical directives (sequence_node start (nodes_and items last))) h).1).0)
keys_fit s own directives (mapping_node start no_pairs) role column cursor text h names bodies e =
    let tag = collection_tag s.canonical start in
    let whole = lead start.anchor (tag_written s.portable directives tag false) ++ (0x7B ∷ 0x7D ∷ []) in
    let short = (simple_collection s.canonical true (name_count start.anchor + tag_count directives tag)
    (and_parts (is_key role) (is_simple s.canonical directives (mapping_node start no_pairs)) h).1).1 in
    key_text_fits s.breaks12 (node_tree (mapping_node start no_pairs) s directives (entry_place true role 0)) text
    (subst (KeyText s.breaks12)
    (sym (cancelled cursor text whole (node_own (mapping_node start no_pairs) s directives (entry_place true role column) cursor).text e
    (empty_whole (render_properties s.portable directives start.anchor tag false cursor) cursor
    (lead start.anchor (tag_written s.portable directives tag false)) 0x7B 0x7D
    (lead_rendered s.portable directives start.anchor tag false cursor))))
    (empty_key_text s own directives start 0x7B 0x7D refl names.0 names.1 short))
keys_fit s own directives (mapping_node start (pairs_and pairs key value)) role column cursor text h names bodies e =
    absurd (false≢true (simple_collection s.canonical false 0 (and_parts (is_key role)
    (is_simple s.canonical directives (mapping_node start (pairs_and pairs key value))) h).1).0)
