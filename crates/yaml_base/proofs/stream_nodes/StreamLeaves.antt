-- The parts of a node in a block are read, if its names and bodies are readable: the conditions for scalars and for flow collections by themselves,
-- and from them those of the central law for the whole tree.
use Rattle.yaml_base.proofs.Common.{arith, ℕ, Option, None, Some, Bool, false, true, ◌&&◌, ◌||◌, List, [], ◌∷◌, refl, ◌≡◌, sym, ◌∙◌, or_parts, false≢true, Text}
use Rattle.yaml_base.proofs.Common.{Cursor, Rendered, TagDirective, Scalar, Collection, Node, alias_node, scalar_node, Nodes, sequence_node, Pairs}
use Rattle.yaml_base.proofs.Common.{mapping_node, no_nodes, nodes_and, no_pairs, pairs_and, asks_flow, is_written_in_flow, Role, as_item, as_key, as_value}
use Rattle.yaml_base.proofs.Common.{Place, is_key, is_undented, entries_column, has_no_nodes, has_no_pairs, is_simple, render_place, Effective, name_read}
use Rattle.yaml_base.proofs.{stream_flow.StreamFlowScalars.rules_of, stream_lines.StreamCuts.none_not_some, stream_nodes.StreamAgrees.node_tree}
use Rattle.yaml_base.proofs.{stream_nodes.StreamAliasFits.alias_fits, stream_nodes.StreamBegun.begun_reads, stream_nodes.StreamPairReads.colon_ends}
use Rattle.yaml_base.proofs.{stream_nodes.StreamProperties.name_letters, stream_nodes.StreamTexts.node_own, stream_nodes.StreamTexts.pairs_own}
use Rattle.yaml_base.proofs.stream_lines.StreamClosed.{indicator_cursor, margin_cursor}
use Rattle.yaml_base.proofs.stream_nodes.StreamNodesFit.{EitherType, LeafFits, render_begun, BegunReads, Leaves, ItemLeaves, PairLeaves, Stands, either_of}
use Rattle.yaml_base.proofs.stream_nodes.StreamPairs.{KeyFits, key_place, value_place, colon_cursor, simple_key}
use Rattle.yaml_base.proofs.stream_nodes.StreamStands.{NamesStand, AllNamesStand, PairsNamesStand, BodyStands, body_from, BodiesHold, ItemsHold, PairsHold}

-- a place in a block (no column: the root's)
abbrev pub block_place : Role → Option ℕ → Place
block_place role column = record { in_flow = false; role = role; column = column }

-- each scalar in a block that is no simple key fits, if its names and its body are readable
abbrev pub ScalarsFit : Effective → List TagDirective → List TagDirective → Type 0
ScalarsFit s own directives =
    (content : Scalar) (role : Role) (column : Option ℕ) (cursor : Cursor)
    → (is_key role && is_simple s.canonical directives (scalar_node content)) ≡ false
    → Stands column cursor
    → NamesStand s.portable own s.canonical directives (scalar_node content)
    → BodyStands s (body_from s directives (block_place role column) content cursor)
    → LeafFits (rules_of s own) s directives (scalar_node content) (block_place role column) cursor

-- a collection that is written in flow at its place
abbrev pub is_flow_node : Effective → Place → Node → Bool
is_flow_node s place (sequence_node start items) = is_written_in_flow s place start (has_no_nodes items)
is_flow_node s place (mapping_node start pairs) = is_written_in_flow s place start (has_no_pairs pairs)
is_flow_node s place _ = false

-- in canonical mode no node is in a block but the root
abbrev pub MayStand : Effective → Option ℕ → Type 0
MayStand s column = s.canonical ≡ true → column ≡ None

-- each flow collection in a block that is no simple key fits, if its names and its bodies are readable
abbrev pub FlowsFit : Effective → List TagDirective → List TagDirective → Type 0
FlowsFit s own directives =
    (n : Node) (role : Role) (column : Option ℕ) (cursor : Cursor)
    → MayStand s column
    → is_flow_node s (block_place role column) n ≡ true
    → (is_key role && is_simple s.canonical directives n) ≡ false
    → Stands column cursor
    → NamesStand s.portable own s.canonical directives n
    → BodiesHold (BodyStands s) n s directives (block_place role column) cursor
    → LeafFits (rules_of s own) s directives n (block_place role column) cursor

-- each simple key in a block is cut off before its `:`, if its names and its body are readable
abbrev pub SimpleKeysFit : Effective → List TagDirective → List TagDirective → Type 0
SimpleKeysFit s own directives =
    (key : Node) (pairs : Pairs) (e : ℕ)
    → is_simple s.canonical directives key ≡ true
    → NamesStand s.portable own s.canonical directives key
    → BodiesHold (BodyStands s) key s directives (key_place pairs e) (margin_cursor e)
    → KeyFits (rules_of s own) (simple_key pairs key s directives e).text (node_tree key s directives (key_place pairs e))

-- an alias in a block that is no simple key
alias_leaf : (s : Effective) (own directives : List TagDirective) (name : Text) (role : Role) (column : Option ℕ) (cursor : Cursor)
    → (is_key role && is_simple s.canonical directives (alias_node name)) ≡ false → name_read name ≡ Some name
    → LeafFits (rules_of s own) s directives (alias_node name) (block_place role column) cursor
alias_leaf s own directives [] role column cursor simple named = absurd (none_not_some named)
alias_leaf s own directives (c ∷ t) role column cursor simple named =
    alias_fits (rules_of s own) s directives c t (block_place role column) cursor (name_letters (c ∷ t) named) simple

-- a pair's parts are read
pair_leaves : (s : Effective) (own directives : List TagDirective) (keys : SimpleKeysFit s own directives) (pairs : Pairs) (key value : Node) (e : ℕ)
    (before : Cursor)
    → NamesStand s.portable own s.canonical directives key
    → (x : Bool) → is_simple s.canonical directives key ≡ x
    → (let symbols : Rendered = render_place s (key_place pairs e) x before in
    BodiesHold (BodyStands s) key s directives (key_place pairs e) symbols.cursor
    × BodiesHold (BodyStands s) value s directives (value_place x e)
    (render_place s (value_place x e) false (node_own key s directives (key_place pairs e) symbols.cursor).cursor).cursor)
    → (is_simple s.canonical directives key ≡ false → BodiesHold (BodyStands s) key s directives (key_place pairs e) (indicator_cursor e)
    → Leaves key (rules_of s own) s directives (key_place pairs e) (indicator_cursor e))
    → ((y : Bool) (cursor : Cursor) → Stands (Some e) cursor → BodiesHold (BodyStands s) value s directives (value_place y e) cursor
    → Leaves value (rules_of s own) s directives (value_place y e) cursor)
    → EitherType x
    (KeyFits (rules_of s own) (simple_key pairs key s directives e).text (node_tree key s directives (key_place pairs e))
    × Leaves value (rules_of s own) s directives (value_place true e) (colon_cursor (simple_key pairs key s directives e).cursor))
    (Leaves key (rules_of s own) s directives (key_place pairs e) (indicator_cursor e)
    × Leaves value (rules_of s own) s directives (value_place false e) (indicator_cursor e))
pair_leaves s own directives keys pairs key value e before names true h bodies of_key of_value = grind (arith, false≢true, colon_ends)
pair_leaves s own directives keys pairs key value e before names false h bodies of_key of_value =
    (of_key h bodies.0, of_value false (indicator_cursor e) (refl, λ i. refl) bodies.1)

-- a collection that is written in a block isn't written in canonical mode
no_canonical : (s : Effective) (start : Collection) (empty : Bool) → (s.canonical || asks_flow start.style || empty) ≡ false → s.canonical ≡ false
no_canonical s start empty h =
    (or_parts s.canonical (asks_flow start.style) (or_parts (s.canonical || asks_flow start.style) empty h).0).0

-- so its parts may be at any column
may_stand : (s : Effective) (column : Option ℕ) → s.canonical ≡ false → MayStand s column
may_stand s column block h = absurd (false≢true (sym block ∙ h))

module _ (s : Effective) (own directives : List TagDirective) (scalars : ScalarsFit s own directives) (flows : FlowsFit s own directives)
    (keys : SimpleKeysFit s own directives) where
  -- the conditions for the parts of a node in a block, if its names and bodies are readable
  mutual
    pub leaves_stand : (n : Node) (role : Role) (column : Option ℕ) (cursor : Cursor) → MayStand s column
        → (is_key role && is_simple s.canonical directives n) ≡ false → Stands column cursor → NamesStand s.portable own s.canonical directives n
        → BodiesHold (BodyStands s) n s directives (block_place role column) cursor → Leaves n (rules_of s own) s directives (block_place role column) cursor
    leaves_stand (alias_node name) role column cursor may simple stands names bodies =
        alias_leaf s own directives name role column cursor simple names
    leaves_stand (scalar_node content) role column cursor may simple stands names bodies =
        scalars content role column cursor simple stands names bodies
    leaves_stand (sequence_node start items) role column cursor may simple stands names bodies =
        let place = block_place role column in
        let begun = render_begun s directives start cursor in
        let e = entries_column false (is_undented s role) s.indent column begun.cursor in
        either_of _ _ _
        (λ h. flows (sequence_node start items) role column cursor may h simple stands names bodies)
        (λ h. (
          begun_reads s own _ start cursor names.0 names.1,
          items_stand items (no_canonical s start _ h) e begun.cursor names.2 (rw h at bodies),
        ))
    leaves_stand (mapping_node start pairs) role column cursor may simple stands names bodies =
        let place = block_place role column in
        let begun = render_begun s directives start cursor in
        let e = entries_column false false s.indent column begun.cursor in
        either_of (LeafFits (rules_of s own) s directives (mapping_node start pairs) place cursor)
        (BegunReads (rules_of s own) s directives start cursor × PairLeaves pairs (rules_of s own) s directives e)
        (is_written_in_flow s place start (has_no_pairs pairs))
        (λ h. flows (mapping_node start pairs) role column cursor may h simple stands names bodies)
        (λ h. (
          begun_reads s own directives start cursor names.0 names.1,
          pairs_stand pairs (no_canonical s start (has_no_pairs pairs) h) e begun.cursor names.2 (rw h at bodies),
        ))

    items_stand : (items : Nodes) → s.canonical ≡ false → (e : ℕ) (cursor : Cursor) → AllNamesStand s.portable own s.canonical directives items
        → ItemsHold (BodyStands s) items s directives false e cursor → ItemLeaves items (rules_of s own) s directives e
    items_stand no_nodes block e cursor names hold = tt
    items_stand (nodes_and items last) block e cursor names hold = (
      items_stand items block e cursor names.0 hold.0,
      leaves_stand last (as_item (has_no_nodes items)) (Some e) (indicator_cursor e)
          (may_stand s (Some e) block) refl (refl, λ h. refl) names.1 hold.1,
    )

    pairs_stand : (pairs : Pairs) → s.canonical ≡ false → (e : ℕ) (cursor : Cursor) → PairsNamesStand s.portable own s.canonical directives pairs
        → PairsHold (BodyStands s) pairs s directives false e cursor → PairLeaves pairs (rules_of s own) s directives e
    pairs_stand no_pairs block e cursor names hold = tt
    pairs_stand (pairs_and pairs key value) block e cursor names hold = (
      pairs_stand pairs block e cursor names.0 hold.0,
      pair_leaves s own directives keys pairs key value e (pairs_own pairs s directives false e cursor).cursor names.1
          (is_simple s.canonical directives key) refl (hold.1, hold.2)
          (λ h bodies. leaves_stand key (as_key (has_no_pairs pairs)) (Some e) (indicator_cursor e)
          (may_stand s (Some e) block) h (refl, λ i. refl) names.1 bodies)
          (λ y at stands bodies. leaves_stand value (as_value y) (Some e) at (may_stand s (Some e) block) refl stands names.2 bodies),
    )
