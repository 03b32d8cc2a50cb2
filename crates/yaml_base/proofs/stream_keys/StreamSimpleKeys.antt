-- Each simple key of the layout in a block is cut off before its `:`, if its names and its body are readable.
use Rattle.yaml_base.proofs.Common.{nat_tests, suc, ℕ, ◌+◌, ◌≤◌, if◌then◌else◌, is_some, Option, None, Some, nat_le, length, Bool, false, not, true, List, []}
use Rattle.yaml_base.proofs.Common.{◌++◌, ◌∷◌, refl, ◌≡◌, le-leb, leb-true, length-append, true≢false, ap, subst, sym, ◌∙◌, arith, and_parts, false≢true}
use Rattle.yaml_base.proofs.Common.{flat_map, list_all, Text, space, is_alpha, Cursor, Rendered, space_if, ScalarStyle, any_style, plain, single_quoted}
use Rattle.yaml_base.proofs.Common.{double_quoted, literal, folded, TagDirective, Scalar, Collection, scalar_tag, collection_tag, alias_node, scalar_node}
use Rattle.yaml_base.proofs.Common.{sequence_node, Pairs, mapping_node, no_nodes, nodes_and, no_pairs, pairs_and, Body, render_properties, ◌==◌, render_alias}
use Rattle.yaml_base.proofs.Common.{render_separation, render_body, choice_of, body_at, entry_place, Role, as_key, Place, deeper, byte_count, name_count}
use Rattle.yaml_base.proofs.Common.{tag_count, is_short, has_no_pairs, read_in_style, most_key_bytes, Effective, is_tidy, is_empty, character_text}
use Rattle.yaml_base.proofs.Common.{quotes_doubled, is_plain, Tree, alias_tree, scalar_tree, longest_key, Rules, word_after, is_break, list_any, is_among}
use Rattle.yaml_base.proofs.stream_keys.StreamKeysFit.{KeyText, key_style, SimpleScalar, simple_scalar, scalar_key_text, alias_key_text, empty_key_text}
use Rattle.yaml_base.proofs.{Common.codes, stream_flow.StreamFlowKinds.empty_whole, stream_flow.StreamFlowWords.Given, stream_flow.StreamFlowWords.scalar_in}
use Rattle.yaml_base.proofs.{stream_flow.StreamFlowWords.tag_of_collection, stream_flow.StreamPropertyWords.lead, stream_keys.StreamAliasKeys.alias_key}
use Rattle.yaml_base.proofs.{stream_keys.StreamKeyBodies.key_body, stream_keys.StreamKeyBodies.body_alone, stream_lines.StreamClosed.margin_cursor}
use Rattle.yaml_base.proofs.{stream_lines.StreamClosed.spaces_line, stream_lines.StreamCuts.none_not_some, stream_lines.StreamLineLaws.one_line_both}
use Rattle.yaml_base.proofs.{stream_lines.StreamTidyLaws.tidy_at_root, stream_nodes.StreamAgrees.tagging_in, stream_nodes.StreamAgrees.plain_fits}
use Rattle.yaml_base.proofs.{stream_nodes.StreamLeaves.SimpleKeysFit, stream_nodes.StreamNodesFit.render_begun, stream_nodes.StreamPairs.KeyFits}
use Rattle.yaml_base.proofs.{stream_nodes.StreamPairs.key_place, stream_keys.StreamPlainKeys.begins, stream_keys.StreamPlainKeys.reads_plain}
use Rattle.yaml_base.proofs.{stream_keys.StreamPlainKeys.tidy_begins, stream_nodes.StreamLeads.lead_rendered, stream_nodes.StreamLeads.tag_is_written}
use Rattle.yaml_base.proofs.{stream_keys.StreamKeysFit.simple_collection, stream_nodes.StreamTexts.scalar_own, stream_keys.StreamNoKeys.nowhere_clear}
use Rattle.yaml_base.proofs.stream_flow.StreamFlowScalars.{rules_of, is_flow_style, bare_not_plain}
use Rattle.yaml_base.proofs.stream_nodes.StreamProperties.{IsNamed, name_letters, begins_content}
use Rattle.yaml_base.proofs.stream_keys.StreamKeyPrefixes.{prefix_markerless, key_fits, other_prefix, lead_prefix, plain_prefix}
use Rattle.yaml_base.proofs.stream_keys.StreamKeyReads.{quoted_key_read, plain_key_read, given_key}
use Rattle.yaml_base.proofs.stream_nodes.StreamStands.{tag_written, tag_meant, TagStands, NamesStand, BodyStands}

-- Styles

-- a plain simple key isn't empty
plain_not_empty : (s : Effective) (in_flow : Bool) (role : Role) (column : ℕ) (content : Scalar)
    → is_plain (choice_of s (entry_place in_flow role column) true content).style ≡ true → is_empty content.value ≡ false
plain_not_empty s in_flow role column content h = grind (arith, and_parts, plain_fits, false≢true)

-- Scalars

-- readable names are read as they were given
written_given : (s : Effective) (own directives : List TagDirective) (anchor tag : Option Text) (bare : Bool) → IsNamed anchor
    → TagStands s.portable own directives tag → Given (rules_of s own) anchor (tag_written s.portable directives tag bare) (tag_meant tag bare)
written_given s own directives anchor tag bare named stands =
    record { named = named; tagged = tag_is_written s.portable own directives tag bare stands }

-- a key's text isn't too long by itself
key_short : {breaks12 : Bool} {text : Text} → KeyText breaks12 text → nat_le (length text) longest_key ≡ true
key_short {breaks12} {text} of = let short = of.short in le-leb (length text) longest_key (omega arith)

-- a key of a style, after its anchor and its tag
scalar_key_fits : (s : Effective) (own : List TagDirective) (anchor tag given_tag : Option Text) (style : ScalarStyle) (bare : Bool) (column : Option ℕ)
    (value : Text)
    → Given (rules_of s own) anchor tag (tag_meant given_tag bare) → is_flow_style style ≡ true → (bare ≡ true → is_plain style ≡ false)
    → (is_plain style ≡ true → is_empty value ≡ false) → is_tidy style s.breaks12 column (key_body style s.unicode value) ≡ true
    → read_in_style style s.breaks12 false column (key_body style s.unicode value) ≡ Some value
    → KeyText s.breaks12 (lead anchor tag ++ key_body style s.unicode value)
    → KeyFits (rules_of s own) (lead anchor tag ++ key_body style s.unicode value) (scalar_in anchor given_tag style bare value)
scalar_key_fits s own anchor tag given_tag plain true column value given flow h some tidy read of = absurd (true≢false (h refl))
scalar_key_fits s own anchor tag given_tag plain false column [] given flow h some tidy read of = absurd (true≢false (some refl))
scalar_key_fits s own anchor tag given_tag plain false column (c ∷ t) given flow h some tidy read of =
    let rules = rules_of s own in
    let parts = reads_plain s.breaks12 false c t (c ∷ t) read in
    let b = begins s.breaks12 c t parts.0 (tidy_begins s.breaks12 c t (tidy_at_root plain s.breaks12 column (c ∷ t) tidy)) in
    let key = plain_key_read rules anchor tag given_tag column c t (c ∷ t) given b tidy read (key_short of) in
    key_fits rules (lead anchor tag ++ (c ∷ t)) (scalar_in anchor given_tag plain false (c ∷ t))
    (lead_prefix rules anchor tag (tag_meant given_tag false) (c ∷ t) given (plain_prefix s.breaks12 c t parts.0 b)) of key.clear key.reads
scalar_key_fits s own anchor tag given_tag single_quoted bare column value given flow h some tidy read of =
    let rules = rules_of s own in
    let t = quotes_doubled value ++ (39 ∷ []) in
    let key = quoted_key_read rules false anchor tag given_tag bare column t value given tidy read (key_short of) in
    key_fits rules (lead anchor tag ++ (0x27 ∷ t)) (scalar_in anchor given_tag single_quoted bare value)
    (lead_prefix rules anchor tag (tag_meant given_tag bare) (0x27 ∷ t) given (other_prefix 0x27 t refl refl)) of key.clear key.reads
scalar_key_fits s own anchor tag given_tag double_quoted bare column value given flow h some tidy read of =
    let rules = rules_of s own in
    let t = flat_map (character_text s.unicode) value ++ (0x22 ∷ []) in
    let key = quoted_key_read rules true anchor tag given_tag bare column t value given tidy read (key_short of) in
    key_fits rules (lead anchor tag ++ (0x22 ∷ t)) (scalar_in anchor given_tag double_quoted bare value)
    (lead_prefix rules anchor tag (tag_meant given_tag bare) (0x22 ∷ t) given (other_prefix 0x22 t refl refl)) of key.clear key.reads
scalar_key_fits s own anchor tag given_tag any_style bare column value given flow h some tidy read of = absurd (none_not_some read)
scalar_key_fits s own anchor tag given_tag literal bare column value given flow h some tidy read of = absurd (false≢true flow)
scalar_key_fits s own anchor tag given_tag folded bare column value given flow h some tidy read of = absurd (false≢true flow)

-- a space precedes each body but an empty plain one, if one is needed
separated : (style : ScalarStyle) (value : Text) (cursor : Cursor) → (is_plain style ≡ true → is_empty value ≡ false)
    → (render_separation style false value cursor).text ≡ space_if true cursor
separated style value cursor h = grind (arith, nat_tests)

-- the body that is rendered for a scalar at its place, as a simple key or not
abbrev body_where : Effective → List TagDirective → Place → (simple : Bool) → Scalar → Cursor → Body
body_where s directives place simple content cursor =
    let choice = choice_of s place simple content in
    let properties = render_properties s.portable directives content.anchor (scalar_tag s.canonical content) choice.bare cursor in
    let separation = render_separation choice.style place.in_flow content.value properties.cursor in
    body_at place choice.style content.value
    (render_body choice.style s (if simple then None else s.width) (deeper s.indent place.column) content.value separation.cursor)

-- the tree of such a scalar
abbrev tree_where : Effective → Place → (simple : Bool) → Scalar → Tree
tree_where s place simple content = scalar_tree content.anchor (tagging_in (scalar_tag s.canonical content) (choice_of s place simple content)) content.value

-- a scalar that is a simple key
scalar_key_placed : (s : Effective) (own directives : List TagDirective) (content : Scalar) (pairs : Pairs) (e : ℕ)
    → SimpleScalar directives s.canonical content → NamesStand s.portable own s.canonical directives (scalar_node content)
    → BodyStands s (body_where s directives (key_place pairs e) true content (margin_cursor e))
    → KeyFits (rules_of s own) (scalar_own s directives (key_place pairs e) true content (margin_cursor e)).text (tree_where s (key_place pairs e) true content)
scalar_key_placed s own directives content pairs e simple names body =
    let place = key_place pairs e in
    let cursor = margin_cursor e in
    let tag = scalar_tag s.canonical content in
    let choice = choice_of s place true content in
    let written = tag_written s.portable directives tag choice.bare in
    let properties = render_properties s.portable directives content.anchor tag choice.bare cursor in
    let separation = render_separation choice.style false content.value properties.cursor in
    let rendered = (render_body choice.style s None (deeper s.indent (Some e)) content.value separation.cursor).text in
    let flow = key_style s false (as_key (has_no_pairs pairs)) e content in
    let some = plain_not_empty s false (as_key (has_no_pairs pairs)) e content in
    let alone = body_alone s choice.style (deeper s.indent (Some e)) content.value separation.cursor flow simple.whole in
    subst (λ t. KeyFits (rules_of s own) t (tree_where s place true content))
    (sym (ap (λ t. (properties.text ++ t) ++ rendered) (separated choice.style content.value properties.cursor some)
    ∙ ap (λ t. t ++ rendered) (lead_rendered s.portable directives content.anchor tag choice.bare cursor)
    ∙ ap (λ t. lead content.anchor written ++ t) alone))
    (scalar_key_fits s own content.anchor written tag choice.style choice.bare (Some e) content.value
    (written_given s own directives content.anchor tag choice.bare names.0 names.1) flow
    (bare_not_plain (is_some tag) content.quoted_implicit (is_plain choice.style)) some
    (ap (is_tidy choice.style s.breaks12 (Some e)) (sym alone) ∙ body.tidy)
    (ap (read_in_style choice.style s.breaks12 false (Some e)) (sym alone) ∙ body.reads)
    (scalar_key_text s own directives content choice.style choice.bare names.0 names.1 simple))

-- Aliases

-- an alias, with the space after it
alias_key_fits : (rules : Rules) (n : ℕ) (name : Text) → list_all is_alpha (n ∷ name) ≡ true → suc (length (0x2A ∷ n ∷ name)) ≤ longest_key
    → KeyText rules.breaks12 (0x2A ∷ n ∷ name) → KeyFits rules (0x2A ∷ n ∷ (name ++ (space ∷ []))) (alias_tree (n ∷ name))
alias_key_fits rules n name letters short of =
    grind (arith, other_prefix, length-append, one_line_both, spaces_line, prefix_markerless, alias_key, le-leb)

-- Collections

-- an empty collection that is a simple key
empty_key_fits : (s : Effective) (own directives : List TagDirective) (start : Collection) (a b : ℕ) (tree : Tree) (cursor : Cursor)
    → IsNamed start.anchor → TagStands s.portable own directives (collection_tag s.canonical start)
    → name_count start.anchor + tag_count directives (collection_tag s.canonical start) ≤ most_key_bytes
    → list_any is_break (a ∷ b ∷ []) ≡ false → is_among (codes "?:-.") a ≡ false → begins_content (a ∷ []) ≡ true → (a == space) ≡ false → (a == 0x2A) ≡ false
    → (a == 0x3A) ≡ false → (b == 0x3A) ≡ false
    → word_after (rules_of s own) false None (record { anchor = start.anchor; tag = tag_meant (collection_tag s.canonical start) false }) (a ∷ b ∷ [])
    ≡ Some tree
    → (let begun : Rendered = render_begun s directives start cursor in
    space_if true cursor ≡ [] → KeyFits (rules_of s own) ((begun.text ++ []) ++ ((space_if true begun.cursor ++ (a ∷ [])) ++ (b ∷ []))) tree)
empty_key_fits s own directives start a b tree cursor named stands count line other content shows star colon_a colon_b read nothing =
    let rules = rules_of s own in
    let tag = collection_tag s.canonical start in
    let before = lead start.anchor (tag_written s.portable directives tag false) in
    let given = written_given s own directives start.anchor tag false named stands in
    let of = empty_key_text s own directives start a b line named stands count in
    let key = given_key rules start.anchor (tag_written s.portable directives tag false) (tag_meant tag false) a (b ∷ []) tree given content star
    (λ after. nowhere_clear rules before (a ∷ b ∷ []) after
    ((λ h. absurd (false≢true (sym colon_a ∙ h))), ((λ h. absurd (false≢true (sym colon_b ∙ h))), tt))) read (key_short of) in
    subst (λ t. KeyFits rules t tree)
    (sym (empty_whole (render_begun s directives start cursor) cursor before a b (lead_rendered s.portable directives start.anchor tag false cursor)
    ∙ ap (λ t. t ++ (before ++ (a ∷ b ∷ []))) nothing))
    (key_fits rules (before ++ (a ∷ b ∷ [])) tree
    (lead_prefix rules start.anchor (tag_written s.portable directives tag false) (tag_meant tag false) (a ∷ b ∷ [])
    given (other_prefix a (b ∷ []) shows other))
    of key.clear key.reads)

-- Keys

-- each simple key in a block is cut off
pub simple_keys_fit : (s : Effective) (own directives : List TagDirective) → SimpleKeysFit s own directives
simple_keys_fit s own directives (alias_node []) pairs e h names bodies = absurd (none_not_some names)
simple_keys_fit s own directives (alias_node (n ∷ name)) pairs e h names bodies =
    let short = leb-true (byte_count (n ∷ name)) most_key_bytes (and_parts (not s.canonical) (is_short (byte_count (n ∷ name))) h).1 in
    let of = alias_key_text s.breaks12 (n ∷ name) names short in
    subst (λ x. KeyFits (rules_of s own) (render_alias (n ∷ name) x (margin_cursor e)).text (alias_tree (n ∷ name))) (sym h)
    (alias_key_fits (rules_of s own) n name (name_letters (n ∷ name) names) of.short of)
simple_keys_fit s own directives (scalar_node content) pairs e h names body =
    let place = key_place pairs e in
    subst (λ x. BodyStands s (body_where s directives place x content (margin_cursor e)) → KeyFits (rules_of s own)
    (scalar_own s directives place x content (margin_cursor e)).text (tree_where s place x content))
    (sym h)
    (λ stands. scalar_key_placed s own directives content pairs e (simple_scalar s.canonical directives content h) names stands)
    body
simple_keys_fit s own directives (sequence_node start no_nodes) pairs e h names bodies =
    grind (arith, empty_key_fits, simple_collection, tag_of_collection)
simple_keys_fit s own directives (sequence_node start (nodes_and items last)) pairs e h names bodies =
    absurd (false≢true (simple_collection s.canonical false 0 h).0)
simple_keys_fit s own directives (mapping_node start no_pairs) pairs e h names bodies =
    grind (arith, empty_key_fits, simple_collection, tag_of_collection)
simple_keys_fit s own directives (mapping_node start (pairs_and before key value)) pairs e h names bodies =
    absurd (false≢true (simple_collection s.canonical false 0 h).0)
