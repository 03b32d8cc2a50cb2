-- A document's root that is a leaf is readable, if its names, its bodies and the keys in it are.
use Rattle.yaml_base.proofs.Common.{◌≤◌, is_some, Option, None, Bool, false, not, true, ◌&&◌, List, [], refl, ◌≡◌, true≢false, ap, sym, ◌∙◌, arith, and_parts}
use Rattle.yaml_base.proofs.Common.{and_from, Text, Cursor, TagDirective, Scalar, scalar_tag, collection_tag, Node, alias_node, scalar_node, sequence_node}
use Rattle.yaml_base.proofs.Common.{mapping_node, Document, root_place, render_properties, choice_of, as_root, deeper, Effective, is_written_as_nothing}
use Rattle.yaml_base.proofs.stream_documents.StreamRootBegins.{properties_begin, alias_begins, flow_begins, body_head, empty_begins, styled_begins}
use Rattle.yaml_base.proofs.{stream_documents.StreamLeafMarkers.leaf_markerless, stream_flow.StreamFlowFits.flows_fit, stream_flow.StreamFlowKinds.KeysFit}
use Rattle.yaml_base.proofs.{stream_flow.StreamFlowScalars.rules_of, stream_nodes.StreamAgrees.node_tree, stream_nodes.StreamLeads.tag_is_written}
use Rattle.yaml_base.proofs.{stream_nodes.StreamTexts.node_own, stream_documents.StreamRootBegins.plain_asked, stream_documents.StreamRootStood.root_settled}
use Rattle.yaml_base.proofs.Common.{directives_in_force, is_empty, ChosenStyle, is_plain, and-false}
use Rattle.yaml_base.proofs.stream_flow.StreamFlowReads.{sequence_reads, mapping_reads}
use Rattle.yaml_base.proofs.stream_nodes.StreamLeaves.{ScalarsFit, SimpleKeysFit, leaves_stand}
use Rattle.yaml_base.proofs.stream_documents.StreamRootsStand.{root_cursor, Begins, LeafStands, is_leaf, PropertiesStand, RootStands}
use Rattle.yaml_base.proofs.stream_nodes.StreamStands.{tag_written, NamesStand, BodyStands, body_from, BodiesHold}

-- Scalars

-- a scalar that is chosen to be plain, is empty and has no properties is written as nothing
nothing_written : (s : Effective) (content : Scalar) → is_plain (choice_of s root_place false content).style ≡ true → is_empty content.value ≡ true
    → content.anchor ≡ None → scalar_tag s.canonical content ≡ None → is_written_as_nothing s.canonical (scalar_node content) ≡ true
nothing_written s content is empty no_anchor no_tag = grind (arith, and_from, plain_asked, and_parts)

-- a scalar of which something is written
scalar_begins : (s : Effective) (own directives : List TagDirective) (cursor : Cursor) (content : Scalar)
    → NamesStand s.portable own s.canonical directives (scalar_node content) → BodyStands s (body_from s directives root_place content cursor)
    → is_written_as_nothing s.canonical (scalar_node content) ≡ false
    → Begins s.breaks12 cursor (node_own (scalar_node content) s directives root_place cursor)
scalar_begins s own directives cursor content names stands some = by (is_plain choice.style && is_empty content.value) refl
  where
    choice : ChosenStyle
    choice = choice_of s root_place false content

    tag : Option Text
    tag = scalar_tag s.canonical content

    by : (x : Bool) → (is_plain choice.style && is_empty content.value) ≡ x
        → Begins s.breaks12 cursor (node_own (scalar_node content) s directives root_place cursor)
    by false h =
        styled_begins s own _ _ tag _ _ s.width _ _ cursor names.0 names.1 h (body_head s _ s.width _ None _ _ h (and_parts _ _ stands.tidy).1 stands.reads)
    by true h =
        let parts = and_parts (is_plain choice.style) (is_empty content.value) h in
        empty_begins s own directives content.anchor tag choice.bare choice.style s.width (deeper s.indent None) content.value cursor names.1 parts.0 parts.1
        (ap (λ x. not (is_some tag) && not content.quoted_implicit && not x) parts.0 ∙ and-false (not (is_some tag) && not content.quoted_implicit))
        (λ no_anchor no_tag. true≢false (sym (nothing_written s content parts.0 parts.1 no_anchor no_tag) ∙ some))

-- Roots

-- a leaf begins with a character that shows
leaf_begins : (n : Node) (s : Effective) (own directives : List TagDirective) (cursor : Cursor) → KeysFit s own directives → is_leaf s n ≡ true
    → NamesStand s.portable own s.canonical directives n → BodiesHold (BodyStands s) n s directives root_place cursor
    → is_written_as_nothing s.canonical n ≡ false → Begins s.breaks12 cursor (node_own n s directives root_place cursor)
leaf_begins (alias_node name) s own directives cursor keys leaf names bodies some = alias_begins s name cursor
leaf_begins (scalar_node content) s own directives cursor keys leaf names bodies some = scalar_begins s own directives cursor content names bodies some
leaf_begins (sequence_node start items) s own directives cursor keys leaf names bodies some =
    let tag = collection_tag s.canonical start in
    flow_begins (rules_of s own) cursor (node_own (sequence_node start items) s directives root_place cursor) start.anchor
    (tag_written s.portable directives tag false) tag (node_tree (sequence_node start items) s directives root_place)
    (sequence_reads s own directives keys root_place cursor start items leaf names bodies)
    (record { named = names.0; tagged = tag_is_written s.portable own directives tag false names.1 })
leaf_begins (mapping_node start pairs) s own directives cursor keys leaf names bodies some =
    let tag = collection_tag s.canonical start in
    flow_begins (rules_of s own) cursor (node_own (mapping_node start pairs) s directives root_place cursor) start.anchor
    (tag_written s.portable directives tag false) tag (node_tree (mapping_node start pairs) s directives root_place)
    (mapping_reads s own directives keys root_place cursor start pairs leaf names bodies)
    (record { named = names.0; tagged = tag_is_written s.portable own directives tag false names.1 })

-- a document's root that is a leaf is readable
pub leaf_stands : (s : Effective) (document : Document) (on_marker : Bool)
    → (let own = document.start.directives in let directives = directives_in_force own in
    1 ≤ s.indent → KeysFit s own directives → NamesStand s.portable own s.canonical directives document.root
    → BodiesHold (BodyStands s) document.root s directives root_place (root_cursor on_marker) → is_leaf s document.root ≡ true
    → LeafStands on_marker s document)
leaf_stands s document on_marker deep keys names bodies leaf = grind (arith, leaf_begins, leaf_markerless)

-- without properties nothing is rendered for them
rendered_as_nothing : (s : Effective) (directives : List TagDirective) (anchor tag : Option Text) (cursor : Cursor) → anchor ≡ None → tag ≡ None
    → (render_properties s.portable directives anchor tag false cursor).text ≡ []
rendered_as_nothing s directives anchor tag cursor no_anchor no_tag = grind (arith)

-- and the properties of one that isn't begin so
pub properties_stand : (n : Node) (s : Effective) (own directives : List TagDirective) (on_marker : Bool)
    → NamesStand s.portable own s.canonical directives n → PropertiesStand on_marker s directives n
properties_stand (alias_node name) s own directives on_marker names = tt
properties_stand (scalar_node content) s own directives on_marker names = tt
properties_stand (sequence_node start items) s own directives on_marker names = λ some.
    properties_begin s own directives start.anchor (collection_tag s.canonical start) (root_cursor on_marker) names.1
    (λ no_anchor no_tag. some (rendered_as_nothing s directives start.anchor (collection_tag s.canonical start) (root_cursor on_marker) no_anchor no_tag))
properties_stand (mapping_node start pairs) s own directives on_marker names = λ some.
    properties_begin s own directives start.anchor (collection_tag s.canonical start) (root_cursor on_marker) names.1
    (λ no_anchor no_tag. some (rendered_as_nothing s directives start.anchor (collection_tag s.canonical start) (root_cursor on_marker) no_anchor no_tag))

-- so a root is readable at its place, if all in it fits
pub root_stands : (s : Effective) (document : Document) (on_marker : Bool)
    → (let own = document.start.directives in let directives = directives_in_force own in
    2 ≤ s.indent → ScalarsFit s own directives → SimpleKeysFit s own directives → KeysFit s own directives
    → NamesStand s.portable own s.canonical directives document.root
    → BodiesHold (BodyStands s) document.root s directives root_place (root_cursor on_marker) → RootStands s document on_marker)
root_stands s document on_marker deep scalars simple_keys keys names bodies =
    let own = document.start.directives in
    let directives = directives_in_force own in
    record {
      leaves =
          leaves_stand s own directives scalars (flows_fit s own directives keys deep) simple_keys document.root as_root None
          (root_cursor on_marker) (λ h. refl) refl
          (root_settled on_marker) names bodies;
      leaf = λ leaf. leaf_stands s document on_marker (omega arith) keys names bodies leaf;
      block = λ block. properties_stand document.root s own directives on_marker names;
    }
