-- The trees that a layout's nodes are to be read as, and that they agree with the events.
use Rattle.yaml_base.proofs.Common.{arith, if◌then◌else◌, is_some, Option, None, Some, Bool, false, not, true, ◌&&◌, ◌||◌, List, [], ◌∷◌, refl, ◌≡◌, ap, ◌∙◌}
use Rattle.yaml_base.proofs.Common.{and_parts, and_from, false≢true, Decides-int_eq, Text, ScalarStyle, TagDirective, Scalar, scalar_tag, collection_tag, Node}
use Rattle.yaml_base.proofs.Common.{alias_node, scalar_node, Nodes, sequence_node, Pairs, mapping_node, no_nodes, nodes_and, no_pairs, pairs_and, Document}
use Rattle.yaml_base.proofs.Common.{root_place, allowed_under, style_asked_at, choice_of, is_written_in_flow, entry_place, as_item, as_key, as_value, Place}
use Rattle.yaml_base.proofs.Common.{has_no_nodes, has_no_pairs, is_simple, is_simple_at, Effective, directives_in_force, Allowances, is_empty, ChosenStyle}
use Rattle.yaml_base.proofs.Common.{lacks_tag_and_flags, is_plain, requested_style, fitting_style, fits_plain, Stood, stood_plain, stood_quoted, stood_bare}
use Rattle.yaml_base.proofs.Common.{Tagging, with_tag, without_tag, Tree, alias_tree, scalar_tree, Trees, sequence_tree, TreePairs, mapping_tree, no_trees}
use Rattle.yaml_base.proofs.Common.{trees_and, no_tree_pairs, tree_pairs_and, DocumentTree, document_agrees, nat_tests}
use Rattle.yaml_base.specs.streams.StreamContent.{may_stand, is_same_text, tagging_agrees, tree_agrees, trees_agree, tree_pairs_agree, are_same_directives}
use Rattle.yaml_base.proofs.TagForms.{same_text}

-- the form of a scalar in a style, after the bare tag or not
abbrev pub standing_in : ScalarStyle → (bare : Bool) → Stood
standing_in style bare = if bare then stood_bare else if is_plain style then stood_plain else stood_quoted

-- how a scalar is tagged in the style that was chosen
abbrev pub tagging_in : Option Text → ChosenStyle → Tagging
tagging_in None choice = without_tag (standing_in choice.style choice.bare)
tagging_in (Some tag) choice = with_tag tag

-- the tree of a node at a place, if the column doesn't matter
abbrev mutual
  pub node_tree : Node → Effective → List TagDirective → Place → Tree
  node_tree (alias_node name) s directives place = alias_tree name
  node_tree (scalar_node content) s directives place =
      scalar_tree content.anchor
      (tagging_in (scalar_tag s.canonical content) (choice_of s place (is_simple_at place s.canonical directives (scalar_node content)) content))
      content.value
  node_tree (sequence_node start items) s directives place =
      sequence_tree start.anchor (collection_tag s.canonical start)
      (nodes_tree items s directives (is_written_in_flow s place start (has_no_nodes items)))
  node_tree (mapping_node start pairs) s directives place =
      mapping_tree start.anchor (collection_tag s.canonical start)
      (pairs_tree pairs s directives (is_written_in_flow s place start (has_no_pairs pairs)))

  pub nodes_tree : Nodes → Effective → List TagDirective → (in_flow : Bool) → Trees
  nodes_tree no_nodes s directives in_flow = no_trees
  nodes_tree (nodes_and items last) s directives in_flow =
      trees_and (nodes_tree items s directives in_flow)
      (node_tree last s directives (entry_place in_flow (as_item (has_no_nodes items)) 0))

  pub pairs_tree : Pairs → Effective → List TagDirective → (in_flow : Bool) → TreePairs
  pairs_tree no_pairs s directives in_flow = no_tree_pairs
  pairs_tree (pairs_and pairs last_key last_value) s directives in_flow =
      tree_pairs_and (pairs_tree pairs s directives in_flow)
      (node_tree last_key s directives (entry_place in_flow (as_key (has_no_pairs pairs)) 0))
      (node_tree last_value s directives (entry_place in_flow (as_value (is_simple s.canonical directives last_key)) 0))

-- the tree of a document
abbrev pub document_tree : Effective → Document → DocumentTree
document_tree s document =
    record {
      version = document.start.version;
      directives = document.start.directives;
      root = node_tree document.root s (directives_in_force document.start.directives) root_place;
    }

-- each scalar of a tree has a tag that is written, or a flag
abbrev mutual
  pub node_is_tagged : Bool → Node → Bool
  node_is_tagged canonical (alias_node name) = true
  node_is_tagged canonical (scalar_node content) =
      not (lacks_tag_and_flags (is_some (scalar_tag canonical content)) content.plain_implicit content.quoted_implicit)
  node_is_tagged canonical (sequence_node start items) = nodes_are_tagged canonical items
  node_is_tagged canonical (mapping_node start pairs) = pairs_are_tagged canonical pairs

  pub nodes_are_tagged : Bool → Nodes → Bool
  nodes_are_tagged canonical no_nodes = true
  nodes_are_tagged canonical (nodes_and items last) = nodes_are_tagged canonical items && node_is_tagged canonical last

  pub pairs_are_tagged : Bool → Pairs → Bool
  pairs_are_tagged canonical no_pairs = true
  pairs_are_tagged canonical (pairs_and pairs key value) =
      pairs_are_tagged canonical pairs && node_is_tagged canonical key && node_is_tagged canonical value

same_option : (text : Option Text) → is_same_text text text ≡ true
same_option None = refl
same_option (Some text) = same_text text

-- plain is chosen only if it fits
pub plain_fits : (allowed : Allowances) (fits block_fits : Bool) (style : ScalarStyle)
    → is_plain (fitting_style allowed fits block_fits style) ≡ true → fits ≡ true
plain_fits allowed fits block_fits style h = grind (arith, nat_tests, false≢true)

-- a scalar without a written tag has a form that its flags allow
stands : (content : Scalar) (style : ScalarStyle) → (is_plain style ≡ true → content.plain_implicit ≡ true)
    → not (lacks_tag_and_flags false content.plain_implicit content.quoted_implicit) ≡ true
    → may_stand content (standing_in style (not false && not content.quoted_implicit && not (is_plain style))) ≡ true
stands content style fits flags = grind (arith, and_from, false≢true)

tagging_is : (s : Effective) (place : Place) (simple : Bool) (content : Scalar) (tag : Option Text)
    → scalar_tag s.canonical content ≡ tag
    → not (lacks_tag_and_flags (is_some tag) content.plain_implicit content.quoted_implicit) ≡ true
    → tagging_agrees content tag (tagging_in tag (choice_of s place simple content)) ≡ true
tagging_is s place simple content (Some tag) e flags = same_text tag
tagging_is s place simple content None e flags =
    ap (λ t. may_stand content (standing_in (style t) (not (is_some t) && not content.quoted_implicit && not (is_plain (style t))))) e
    ∙ stands content _ fits flags
  where
    allowed : Allowances
    allowed = allowed_under s content

    fit : Option Text → Bool
    fit t = fits_plain allowed (is_empty content.value) (is_some t) content.plain_implicit place.in_flow simple

    style : Option Text → ScalarStyle
    style t =
        fitting_style allowed (fit t) (allowed.block_allowed && not place.in_flow && not simple)
        (requested_style (s.canonical || (simple && allowed.multiline)) (style_asked_at s place content))

    fits : is_plain (style None) ≡ true → content.plain_implicit ≡ true
    fits h =
        (and_parts
        ((if place.in_flow then allowed.flow_plain_allowed else allowed.block_plain_allowed) && not (is_empty content.value && (place.in_flow || simple)))
        (false || content.plain_implicit) (plain_fits allowed _ _ _ h)).1

-- the tree of a node agrees with it
mutual
  pub node_agrees : (n : Node) (s : Effective) (directives : List TagDirective) (place : Place) → node_is_tagged s.canonical n ≡ true
      → tree_agrees s.canonical n (node_tree n s directives place) ≡ true
  node_agrees (alias_node name) s directives place h = same_text name
  node_agrees (scalar_node content) s directives place h = grind (arith, and_from, same_option, tagging_is, same_text)
  node_agrees (sequence_node start items) s directives place h =
      let in_flow = is_written_in_flow s place start (has_no_nodes items) in
      grind (arith, and_from, trees_agree, same_option, nodes_agree items s directives in_flow h)
  node_agrees (mapping_node start pairs) s directives place h =
      let in_flow = is_written_in_flow s place start (has_no_pairs pairs) in
      grind (arith, and_from, same_option, pairs_agree pairs s directives in_flow h)

  pub nodes_agree : (items : Nodes) (s : Effective) (directives : List TagDirective) (in_flow : Bool) → nodes_are_tagged s.canonical items ≡ true
      → trees_agree s.canonical items (nodes_tree items s directives in_flow) ≡ true
  nodes_agree no_nodes s directives in_flow h = refl
  nodes_agree (nodes_and items last) s directives in_flow h =
      let parts = and_parts _ _ h in
      let place = entry_place in_flow (as_item (has_no_nodes items)) 0 in
      and_from _ _ (nodes_agree items s directives in_flow parts.0) (node_agrees last s directives place parts.1)

  pub pairs_agree : (pairs : Pairs) (s : Effective) (directives : List TagDirective) (in_flow : Bool) → pairs_are_tagged s.canonical pairs ≡ true
      → tree_pairs_agree s.canonical pairs (pairs_tree pairs s directives in_flow) ≡ true
  pairs_agree no_pairs s directives in_flow h = refl
  pairs_agree (pairs_and pairs key value) s directives in_flow h =
      let parts = and_parts _ _ h in
      let before = and_parts _ _ parts.0 in
      let key_place = entry_place in_flow (as_key (has_no_pairs pairs)) 0 in
      let value_place = entry_place in_flow (as_value (is_simple s.canonical directives key)) 0 in
      let each = node_agrees key s directives key_place before.1 in
      let one = node_agrees value s directives value_place parts.1 in
      let other = pairs_agree pairs s directives in_flow before.0 in
      grind (arith, and_parts, and_from, each, one, other)

same_directives : (directives : List TagDirective) → are_same_directives directives directives ≡ true
same_directives [] = refl
same_directives (d ∷ rest) = grind (arith, and_from, same_text, same_directives rest)

-- the tree of a document agrees with it
pub document_tree_agrees : (s : Effective) (document : Document) → node_is_tagged s.canonical document.root ≡ true
    → document_agrees s.canonical document (document_tree s document) ≡ true
document_tree_agrees s document h = grind (arith, nat_tests, and_from, node_tree, Decides-int_eq, same_directives, node_agrees)
