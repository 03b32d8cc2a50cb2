-- No line of a leaf at the root after its first is a document's marker.
use Rattle.yaml_base.proofs.Common.{ℕ, ◌≤◌, if◌then◌else◌, ◌==◌, Option, None, Some, Bool, false, not, true, ◌&&◌, ◌||◌, List, [], ◌++◌, ◌∷◌, refl, ◌≡◌}
use Rattle.yaml_base.proofs.Common.{eqb-true, append-nil, append_assoc, ap, ◌∙◌, arith, and_parts, and_from, false≢true, list_all, Text, line_feed, and-false}
use Rattle.yaml_base.proofs.Common.{is_tidy_character, Cursor, Rendered, ScalarStyle, plain, TagDirective, Scalar, scalar_tag, collection_tag, Node}
use Rattle.yaml_base.proofs.Common.{alias_node, scalar_node, sequence_node, mapping_node, root_place, render_properties, render_alias, render_separation}
use Rattle.yaml_base.proofs.Common.{render_body, choice_of, Brackets, square, curly, empty_or_comma, render_end, deeper, has_no_nodes, has_no_pairs, Effective}
use Rattle.yaml_base.proofs.stream_lines.StreamDeepBreaks.{after_breaks, begins_deep, Deep, Keeps, after_both, after_weaker, after_line_of, deep_keeps}
use Rattle.yaml_base.proofs.{stream_documents.StreamRootsStand.is_leaf, stream_nodes.StreamOwnWords.deep_more, stream_nodes.StreamProperties.IsNamed}
use Rattle.yaml_base.proofs.Common.{has_deep_lines, is_tidy_style, is_empty, lines_of, name_read, is_break, list_any, nat_tests}
use Rattle.yaml_base.proofs.stream_lines.StreamLineLaws.{OneLine, one_line_both, unbroken_line}
use Rattle.yaml_base.proofs.stream_lines.StreamSections.{is_content, all_content, AreContent}
use Rattle.yaml_base.proofs.stream_lines.StreamMarkerless.{inside_content, all_markerless}
use Rattle.yaml_base.proofs.Common.{subst, sym}
use Rattle.yaml_base.proofs.stream_flow.StreamFlowDeep.{properties_line, indicator_deep, alias_deep, items_deep, pairs_deep}
use Rattle.yaml_base.proofs.stream_lines.StreamClosed.{closing, closed, spaces_line, after_line}
use Rattle.yaml_base.proofs.stream_lines.StreamDeepBreaks.{space_line, lines_pass, deep_first}
use Rattle.yaml_base.proofs.stream_lines.StreamTidyLaws.{first_text, lines_after_first, first_extended, deep_lines_inside}
use Rattle.yaml_base.proofs.stream_nodes.StreamStands.{TagStands, NamesStand, BodyStands, body_from, BodiesHold}
use Rattle.yaml_base.proofs.stream_nodes.StreamTexts.{node_own, items_own, pairs_own}

-- Collections in flow

-- a text begins with a bracket that closes
abbrev begins_closing : Text → Bool
begins_closing [] = false
begins_closing (c ∷ rest) = c == 0x5D || c == 0x7D

-- a text begins with a break, a space or such a bracket
abbrev begins_markerless : Bool → Text → Bool
begins_markerless breaks12 text = begins_deep breaks12 1 text || begins_closing text

-- more text doesn't change that
markerless_keeps : (breaks12 : Bool) → Keeps (begins_markerless breaks12)
markerless_keeps breaks12 [] b h = absurd (false≢true h)
markerless_keeps breaks12 (c ∷ a) b h = grind (arith, deep_keeps)

-- the first line of a text that begins as no marker does is no marker
first_markerless : (breaks12 : Bool) (u : Text) → begins_markerless breaks12 u ≡ true
    → is_content (first_text (lines_of breaks12 (u ++ (line_feed ∷ [])))) ≡ true
first_markerless breaks12 u h = grind (false≢true, nat_tests, arith, first_extended, eqb-true, inside_content, deep_first)

-- after each break of a text something begins a line that is no marker
abbrev Markerless : Bool → Text → Type 0
Markerless breaks12 text = after_breaks breaks12 (begins_markerless breaks12) text ≡ true

-- a deep text is so
deep_markerless : (breaks12 : Bool) (t : Text) → Deep breaks12 1 t → Markerless breaks12 t
deep_markerless breaks12 t h =
    after_weaker breaks12 (begins_deep breaks12 1) (begins_markerless breaks12) (λ u deep. ap (λ x. x || begins_closing u) deep) t h

-- two such texts
markerless_text : (breaks12 : Bool) (a b : Text) → Markerless breaks12 a → Markerless breaks12 b → Markerless breaks12 (a ++ b)
markerless_text breaks12 a b h k = after_both breaks12 (begins_markerless breaks12) (markerless_keeps breaks12) a b h k

-- the end of a collection at the root
end_markerless : (s : Effective) (brackets : Brackets) (empty : Bool) (cursor : Cursor)
    → list_any is_break brackets.opening ≡ false → list_any is_break brackets.closing ≡ false
    → begins_closing brackets.closing ≡ true → Markerless s.breaks12 (render_end s brackets true empty None cursor).text
end_markerless s brackets empty cursor h h2 h3 =
    grind (arith, nat_tests, markerless_text, deep_markerless, indicator_deep, after_line_of, unbroken_line, and_from, spaces_line)

-- Lines after the first

-- no line of a text up to its end after the first is a marker
abbrev pub AfterMarkerless : Bool → Rendered → Type 0
AfterMarkerless breaks12 own = AreContent (lines_after_first (lines_of breaks12 (closed own)))

-- so it is for a text that is so, whose last line a break ends
fed_markerless : (breaks12 : Bool) (own : Rendered) → own.cursor.indention ≡ false → Markerless breaks12 own.text → AfterMarkerless breaks12 own
fed_markerless breaks12 own ends h =
    all_content _ (ap (λ x. list_all (λ line. is_content line.text)
    (lines_after_first (lines_of breaks12 (own.text ++ (if x then [] else line_feed ∷ []))))) ends
    ∙ lines_pass breaks12 (begins_markerless breaks12) is_content (first_markerless breaks12) own.text h)

-- a collection in flow at the root, if its entries are deep
collection_markerless : (s : Effective) (own directives : List TagDirective) (brackets : Brackets) (anchor tag : Option Text) (empty : Bool) (cursor : Cursor)
    (entries : Rendered) → list_any is_break brackets.opening ≡ false → list_any is_break brackets.closing ≡ false → begins_closing brackets.closing ≡ true
    → IsNamed anchor → TagStands s.portable own directives tag → Deep s.breaks12 1 entries.text
    → (let ending : Rendered = render_end s brackets true empty None entries.cursor in
    AfterMarkerless s.breaks12
    (record { text = ((render_properties s.portable directives anchor tag false cursor).text ++ entries.text) ++ ending.text; cursor = ending.cursor }))
collection_markerless s own directives brackets anchor tag empty cursor entries opening closing h named stands deep =
    let begun = render_properties s.portable directives anchor tag false cursor in
    let ending = render_end s brackets true empty None entries.cursor in
    fed_markerless s.breaks12 (record { text = (begun.text ++ entries.text) ++ ending.text; cursor = ending.cursor })
    (and-false (empty_or_comma s brackets.opening empty None entries.cursor).cursor.indention)
    (markerless_text s.breaks12 (begun.text ++ entries.text) ending.text
    (markerless_text s.breaks12 begun.text entries.text
    (after_line_of s.breaks12 (begins_markerless s.breaks12) begun.text (properties_line s own directives anchor tag false cursor named stands))
    (deep_markerless s.breaks12 entries.text deep))
    (end_markerless s brackets empty entries.cursor opening closing h))

-- an alias
alias_markerless : (s : Effective) (name : Text) (simple : Bool) (cursor : Cursor) → name_read name ≡ Some name
    → AfterMarkerless s.breaks12 (render_alias name simple cursor)
alias_markerless s name simple cursor named =
    fed_markerless s.breaks12 (render_alias name simple cursor) refl
    (deep_markerless s.breaks12 (render_alias name simple cursor).text (alias_deep s 1 name simple cursor named))

-- the break after a text, if it is there, leaves its lines deep
closed_deep : (breaks12 : Bool) (count : ℕ) (own : Rendered) → has_deep_lines breaks12 count own.text ≡ true → has_deep_lines breaks12 count (closed own) ≡ true
closed_deep breaks12 count own h = grind (arith, append-nil, deep_more)

-- the space before a scalar's body
separation_line : (breaks12 : Bool) (style : ScalarStyle) (in_flow : Bool) (value : Text) (cursor : Cursor)
    → OneLine breaks12 (render_separation style in_flow value cursor).text
separation_line breaks12 plain in_flow value cursor = space_line breaks12 (in_flow || not (is_empty value)) cursor
separation_line breaks12 style in_flow value cursor = space_line breaks12 true cursor

-- a scalar
scalar_markerless : (s : Effective) (own directives : List TagDirective) (cursor : Cursor) (content : Scalar)
    → NamesStand s.portable own s.canonical directives (scalar_node content) → BodyStands s (body_from s directives root_place content cursor)
    → AfterMarkerless s.breaks12 (node_own (scalar_node content) s directives root_place cursor)
scalar_markerless s own directives cursor content names stands =
    let tag = scalar_tag s.canonical content in
    let choice = choice_of s root_place false content in
    let properties = render_properties s.portable directives content.anchor tag choice.bare cursor in
    let separation = render_separation choice.style false content.value properties.cursor in
    let body = render_body choice.style s s.width (deeper s.indent None) content.value separation.cursor in
    let prefix = properties.text ++ separation.text in
    let one = one_line_both s.breaks12 properties.text separation.text
    (properties_line s own directives content.anchor tag choice.bare cursor names.0 names.1)
    (separation_line s.breaks12 choice.style false content.value properties.cursor) in
    let tidy = and_parts (list_all (is_tidy_character choice.style) body.text && has_deep_lines s.breaks12 1 body.text)
    (is_tidy_style choice.style s.breaks12 body.text) stands.tidy in
    subst AreContent
    (sym (ap (λ t. lines_after_first (lines_of s.breaks12 t)) (append_assoc prefix body.text (closing body.cursor))
    ∙ after_line s.breaks12 prefix (closed body) one))
    (all_markerless true (lines_after_first (lines_of s.breaks12 (closed body)))
    (deep_lines_inside s.breaks12 0 (closed body)
    (closed_deep s.breaks12 1 body (and_parts (list_all (is_tidy_character choice.style) body.text) (has_deep_lines s.breaks12 1 body.text) tidy.0).1)))

-- Nodes

-- no line of a leaf at the root after its first is a marker, if its names and bodies are readable
pub leaf_markerless : (n : Node) (s : Effective) (own directives : List TagDirective) (cursor : Cursor) → 1 ≤ s.indent → is_leaf s n ≡ true
    → NamesStand s.portable own s.canonical directives n → BodiesHold (BodyStands s) n s directives root_place cursor
    → AfterMarkerless s.breaks12 (node_own n s directives root_place cursor)
leaf_markerless (alias_node name) s own directives cursor deep leaf names bodies = alias_markerless s name false cursor names
leaf_markerless (scalar_node content) s own directives cursor deep leaf names bodies = scalar_markerless s own directives cursor content names bodies
leaf_markerless (sequence_node start items) s own directives cursor deep leaf names bodies =
    let begun = render_properties s.portable directives start.anchor (collection_tag s.canonical start) false cursor in
    rw leaf
    (collection_markerless s own directives square start.anchor (collection_tag s.canonical start) (has_no_nodes items) cursor
    (items_own items s directives true (deeper s.indent None) begun.cursor)
    refl refl refl names.0 names.1
    (items_deep s own directives 1 items (deeper s.indent None) begun.cursor (omega arith) names.2 (rw leaf at bodies)))
leaf_markerless (mapping_node start pairs) s own directives cursor deep leaf names bodies =
    let begun = render_properties s.portable directives start.anchor (collection_tag s.canonical start) false cursor in
    rw leaf
    (collection_markerless s own directives curly start.anchor (collection_tag s.canonical start) (has_no_pairs pairs) cursor
    (pairs_own pairs s directives true (deeper s.indent None) begun.cursor)
    refl refl refl names.0 names.1
    (pairs_deep s own directives 1 pairs (deeper s.indent None) begun.cursor (omega arith) names.2 (rw leaf at bodies)))
