-- A readable root, with a document's directives as given, fits at its place, and its lines are those of a root.
use Rattle.yaml_base.proofs.Common.{and_from, and_parts, nat_tests, or_from}
use Rattle.yaml_base.proofs.Common.{suc, ℕ, ◌≤◌, if◌then◌else◌, option_map, Option, None, Some, Bool, false, not, true, ◌||◌, List, [], ◌∷◌, refl, ◌≡◌}
use Rattle.yaml_base.proofs.Common.{true≢false, ap, subst, sym, ◌∙◌, arith, or_parts, false≢true, Text, Rendered, TagDirective, Collection, collection_tag}
use Rattle.yaml_base.proofs.Common.{Node, alias_node, scalar_node, sequence_node, mapping_node, Document, root_place, asks_flow, is_written_in_flow}
use Rattle.yaml_base.proofs.Common.{has_no_nodes, has_no_pairs, Effective, is_written_as_nothing, directives_in_force, Tagging, Tree, scalar_tree}
use Rattle.yaml_base.proofs.Common.{sequence_tree, mapping_tree, stands_at_margin, Line, lines_of, without_skipped_lines, past_indentation, blanked}
use Rattle.yaml_base.proofs.Common.{LinesReader, NodeKind, begins_sequence, begins_mapping, begins_text, kind_of_node, ReadsText, node_by_kind, node_at}
use Rattle.yaml_base.proofs.{stream_documents.StreamRoots.marker_cursor, stream_lines.StreamClosed.closed, stream_lines.StreamCuts.none_not_some}
use Rattle.yaml_base.{proofs.stream_nodes.StreamAgrees.node_tree, specs.streams.StreamLines.is_skipped}
use Rattle.yaml_base.proofs.Common.{begins_properties, text_or_properties, node_read, Rules, no_properties}
use Rattle.yaml_base.proofs.stream_documents.StreamRootLines.{FirstStands, Stood, begins_stands, block_stands}
use Rattle.yaml_base.proofs.stream_documents.StreamRootsStand.{rules_of, root_cursor, render_root, is_leaf, PropertiesStand, RootStands}
use Rattle.yaml_base.proofs.stream_nodes.StreamFits.{size, Opens, Fits, blanked_lines}
use Rattle.yaml_base.proofs.stream_nodes.StreamNodesFit.{render_begun, BegunReads, Leaves, ItemLeaves, PairLeaves, Stands, node_fits, items_fit, pairs_fit}
use Rattle.yaml_base.proofs.stream_nodes.StreamTexts.{node_own, items_own, pairs_own}

-- Collections in blocks

-- a collection that isn't written in flow isn't empty
not_empty : (s : Effective) (start : Collection) (empty : Bool) → is_written_in_flow s root_place start empty ≡ false → empty ≡ false
not_empty s start empty h = (or_parts (false || s.canonical || asks_flow start.style) empty h).1

-- a collection in a block
block_stood : (n : Node) (given : List TagDirective) (s : Effective) (directives : List TagDirective) (on_marker : Bool) → 2 ≤ s.indent → is_leaf s n ≡ false
    → Leaves n (record { breaks12 = s.breaks12; directives = given }) s directives root_place (root_cursor on_marker) → PropertiesStand on_marker s directives n
    → Stood on_marker (lines_of s.breaks12 (closed (node_own n s directives root_place (root_cursor on_marker))))
block_stood (alias_node name) given s directives on_marker deep block leaves properties = absurd (true≢false block)
block_stood (scalar_node content) given s directives on_marker deep block leaves properties = absurd (true≢false block)
block_stood (sequence_node start items) given s directives on_marker deep block leaves properties =
    let rules : Rules = record { breaks12 = s.breaks12; directives = given } in
    let begun : Rendered = render_begun s directives start (root_cursor on_marker) in
    let asked : BegunReads rules s directives start (root_cursor on_marker) × ItemLeaves items rules s directives 0 = rw block at leaves in
    let laid = (items_fit rules s directives deep items 0 begun.cursor asked.1).laid in
    let some = not_empty s start (has_no_nodes items) block in
    rw block
    (block_stands rules on_marker start.anchor (collection_tag s.canonical start) begun (items_own items s directives false 0 begun.cursor) laid.text _
    asked.0 (laid.lays some) (laid.opened some) laid.reads.within properties)
block_stood (mapping_node start pairs) given s directives on_marker deep block leaves properties =
    let rules : Rules = record { breaks12 = s.breaks12; directives = given } in
    let begun : Rendered = render_begun s directives start (root_cursor on_marker) in
    let asked : BegunReads rules s directives start (root_cursor on_marker) × PairLeaves pairs rules s directives 0 = rw block at leaves in
    let laid = (pairs_fit rules s directives deep pairs 0 begun.cursor asked.1).laid in
    let some = not_empty s start (has_no_pairs pairs) block in
    rw block
    (block_stands rules on_marker start.anchor (collection_tag s.canonical start) begun (pairs_own pairs s directives false 0 begun.cursor) laid.text _
    asked.0 (laid.lays some) (laid.opened some) laid.reads.within properties)

-- Scalars

abbrev is_scalar : Tree → Bool
is_scalar (scalar_tree anchor tagging value) = true
is_scalar _ = false

-- a tree that isn't a scalar's isn't read as one
no_scalar : {A : Type 0} (make : A → Tree) → ((a : A) → is_scalar (make a) ≡ false) → (o : Option A) (anchor : Option Text) (tagging : Tagging) (value : Text)
    → option_map make o ≡ Some (scalar_tree anchor tagging value) → ⊥
no_scalar make none None anchor tagging value h = none_not_some h
no_scalar make none (Some a) anchor tagging value h = grind (arith, false≢true)

-- if no text may begin, a scalar is read of nothing
nothing_left : (rules : Rules) (reads : LinesReader) (reads_text : ReadsText) (lines : List Line) (anchor : Option Text) (tagging : Tagging) (value : Text)
    → node_at rules reads reads_text no_properties true false lines ≡ Some (scalar_tree anchor tagging value) → lines ≡ []
nothing_left rules reads reads_text [] anchor tagging value h = refl
nothing_left rules reads reads_text (line ∷ rest) anchor tagging value h = absurd (by (kind_of_node rules (past_indentation line.text).text) h)
  where
    by : (kind : NodeKind) → node_by_kind kind rules reads reads_text no_properties true false (past_indentation line.text) line.ending rest (line ∷ rest)
        ≡ Some (scalar_tree anchor tagging value) → ⊥
    by begins_sequence h = no_scalar (sequence_tree None None) (λ a. refl) _ anchor tagging value h
    by begins_mapping h = no_scalar (mapping_tree None None) (λ a. refl) _ anchor tagging value h
    by begins_text h = none_not_some h

-- a scalar after a marker: its first line isn't skipped, or nothing follows
scalar_stands : (rules : Rules) (n : ℕ) (own : Rendered) (anchor : Option Text) (tagging : Tagging) (value : Text)
    → Fits rules n own (scalar_tree anchor tagging value) root_place marker_cursor
    → FirstStands true (lines_of rules.breaks12 (closed own))
scalar_stands rules n own anchor tagging value fit = subst (FirstStands true) (sym o.is) (by (is_skipped o.head) refl)
  where
    o : Opens rules.breaks12 (closed own)
    o = fit.opens refl

    line : Line
    line = blanked 3 o.head o.ending

    texts : ReadsText
    texts at text = text_or_properties (begins_properties text) rules (node_read n rules) None at text

    whole : node_read (suc n) rules false None (line ∷ o.rest) ≡ Some (scalar_tree anchor tagging value)
    whole = ap (node_read (suc n) rules false None) (sym (blanked_lines _ 3 _ o))
        ∙ fit.reads (suc n) (omega arith) false 3 (λ h. absurd (false≢true h))

    by : (x : Bool) → is_skipped o.head ≡ x → (not x || stands_at_margin (without_skipped_lines o.rest)) ≡ true
    by false e = refl
    by true e =
        ap stands_at_margin (nothing_left rules (node_read n rules) texts (without_skipped_lines o.rest) anchor tagging value
        (sym (ap (λ x. node_at rules (node_read n rules) texts no_properties (false || x) (not x) (if x then without_skipped_lines o.rest else line ∷ o.rest))
        e) ∙ whole))

-- a root that is written as nothing
nothing_stands : (n : Node) (given : List TagDirective) (s : Effective) (directives : List TagDirective) → is_written_as_nothing s.canonical n ≡ true
    → Leaves n (record { breaks12 = s.breaks12; directives = given }) s directives root_place marker_cursor
    → FirstStands true (lines_of s.breaks12 (closed (node_own n s directives root_place marker_cursor)))
nothing_stands (alias_node name) given s directives h leaves = absurd (false≢true h)
nothing_stands (scalar_node content) given s directives h leaves =
    scalar_stands _ 1 _ _ _ _ leaves.fits
nothing_stands (sequence_node start items) given s directives h leaves = absurd (false≢true h)
nothing_stands (mapping_node start pairs) given s directives h leaves = absurd (false≢true h)

-- Roots

-- the tree of a document's root
abbrev pub root_tree : Effective → Document → Tree
root_tree s document = node_tree document.root s (directives_in_force document.start.directives) root_place

-- its cursor is one at which a root begins
pub root_settled : (on_marker : Bool) → Stands None (root_cursor on_marker)
root_settled true = λ h. absurd (false≢true h)
root_settled false = λ h. (refl, refl)

-- it fits
pub root_fits : (s : Effective) (document : Document) (on_marker : Bool) → 2 ≤ s.indent → RootStands s document on_marker
    → Fits (rules_of s document) (size document.root) (render_root on_marker s document) (root_tree s document) root_place (root_cursor on_marker)
root_fits s document on_marker deep root =
    (node_fits (rules_of s document) s (directives_in_force document.start.directives) deep document.root root_place (root_cursor on_marker)
    (root_settled on_marker) root.leaves).fits

-- its lines are those of a root, unless it is nothing on a line of its own
pub root_stood : (s : Effective) (document : Document) (on_marker : Bool) → 2 ≤ s.indent → RootStands s document on_marker
    → (on_marker ≡ false → is_written_as_nothing s.canonical document.root ≡ false)
    → Stood on_marker (lines_of s.breaks12 (closed (render_root on_marker s document)))
root_stood s document on_marker deep root some = by (is_leaf s document.root) refl
  where
    first : (x : Bool) → on_marker ≡ x → is_leaf s document.root ≡ true
        → FirstStands on_marker (lines_of s.breaks12 (closed (render_root on_marker s document)))
    first false e leaf = begins_stands s.breaks12 on_marker (render_root on_marker s document) ((root.leaf leaf).begins (some e))
    first true e leaf = written (is_written_as_nothing s.canonical document.root) refl
      where
        written : (x : Bool) → is_written_as_nothing s.canonical document.root ≡ x
            → FirstStands on_marker (lines_of s.breaks12 (closed (render_root on_marker s document)))
        written false h = begins_stands s.breaks12 on_marker (render_root on_marker s document) ((root.leaf leaf).begins h)
        written true h = grind (arith, nat_tests, and_parts, and_from, or_parts, or_from, nothing_stands, Leaves)

    by : (x : Bool) → is_leaf s document.root ≡ x → Stood on_marker (lines_of s.breaks12 (closed (render_root on_marker s document)))
    by true h = ((root.leaf h).after, first on_marker refl h)
    by false h =
        block_stood document.root document.start.directives s (directives_in_force document.start.directives) on_marker deep h root.leaves (root.block h)
