-- Trees that don't unfold their graphs: an alias before its node, children exchanged, a style changed, an alias of a node
-- without an anchor, a node written twice.
use Rattle.yaml_base.proofs.Common.{suc, zero, ℕ, Contains, count_by, option_map, Option, None, Some, codes, Bool, false, true, [], ◌∷◌, refl, ◌≡◌, ap, subst}
use Rattle.yaml_base.proofs.Common.{sym, ◌∙◌, arith, Text, ScalarStyle, any_style, double_quoted, block, Node, alias_node, sequence_node, no_nodes, nodes_and}
use Rattle.yaml_base.proofs.Common.{Graph, node_numbered, children, sequence_tag, scalar_kind, sequence_kind, mapping_kind, Label, node_shape_of, Placed}
use Rattle.yaml_base.proofs.Common.{node_placed, none_placed, number_at, label_of, HasShape, Occurrence, alias_occurrence, node_occurrence, occurrences}
use Rattle.yaml_base.{specs.graphs.Unfolding.StyledKind, proofs.rows.RowsUnfolding.a_sequence, proofs.rows.RowsUnfolding.a_string}
use Rattle.yaml_base.proofs.Common.{has_anchor, is_occurrence_of, NameTheirNodes, IsReached, first_reached, child_reached, TreeUnfolds, nat_tests}
use Rattle.yaml_base.proofs.rows.RowsMeetings.{graph_of, sequence_of, string_of}

-- ---- an alias before its node

abbrev shared : Graph
shared = graph_of (sequence_of (2 ∷ 2 ∷ []) ∷ string_of (codes "a") ∷ [])

abbrev alias_first : Node
alias_first = a_sequence None (alias_node (codes "id001")) (a_string (Some (codes "id001")) (codes "a") any_style)

abbrev anchor_stated : Occurrence → Option Text
anchor_stated (alias_occurrence name number) = None
anchor_stated (node_occurrence anchor number) = anchor

not_before : (anchor : Option Text) (number other : ℕ) (name : Text) → anchor ≡ None
    → Contains (node_occurrence anchor number ∷ []) (node_occurrence (Some name) other)
    → ⊥
not_before anchor number other name none (zero, within, is) = let both : None ≡ Some name = sym none ∙ ap anchor_stated is in cc
not_before anchor number other name none (suc k, within, is) = omega (arith, within)

alias_first_fails : (p : Placed) → HasShape true shared p (node_shape_of alias_first) → NameTheirNodes (occurrences p) [] (occurrences p) → ⊥
alias_first_fails p h h2 = grind (arith, nat_tests, not_before)

alias_first_refused : TreeUnfolds shared alias_first → ⊥
alias_first_refused u = alias_first_fails u.placed u.fits u.named

-- ---- children exchanged

abbrev two_strings : Graph
two_strings = graph_of (sequence_of (2 ∷ 3 ∷ []) ∷ string_of (codes "a") ∷ string_of (codes "b") ∷ [])

abbrev exchanged : Node
exchanged = a_sequence None (a_string None (codes "b") any_style) (a_string None (codes "a") any_style)

abbrev value_in : StyledKind → Text
value_in (scalar_kind value style) = value
value_in (sequence_kind style) = []
value_in (mapping_kind style) = []

abbrev value_stated : Option Label → Text
value_stated None = []
value_stated (Some label) = value_in label.kind

first_differs : (number first second : ℕ) → number ≡ 1 → first ∷ second ∷ [] ≡ children two_strings number
    → value_stated (option_map (label_of true) (node_numbered two_strings first)) ≡ codes "b" → ⊥
first_differs number first second root numbers stated = grind (arith)

exchanged_fails : (p : Placed) → number_at p ≡ 1 → HasShape true two_strings p (node_shape_of exchanged) → ⊥
exchanged_fails p h h2 = grind (arith, nat_tests, first_differs)

exchanged_refused : TreeUnfolds two_strings exchanged → ⊥
exchanged_refused u = exchanged_fails u.placed u.root u.fits

-- ---- a style changed

abbrev one_string : Graph
one_string = graph_of (string_of (codes "a") ∷ [])

abbrev quoted : Node
quoted = a_string None (codes "a") double_quoted

abbrev is_quoted : Option ScalarStyle → Bool
is_quoted (Some double_quoted) = true
is_quoted _ = false

abbrev quotes_in : StyledKind → Bool
quotes_in (scalar_kind value style) = is_quoted style
quotes_in _ = false

abbrev quotes_stated : Option Label → Bool
quotes_stated None = false
quotes_stated (Some label) = quotes_in label.kind

style_differs : (number : ℕ) → number ≡ 1 → quotes_stated (option_map (label_of true) (node_numbered one_string number)) ≡ true → ⊥
style_differs number root stated = let is : false
    ≡ true = subst (λ n. quotes_stated (option_map (label_of true) (node_numbered one_string n)) ≡ true) root stated in cc

quoted_fails : (p : Placed) → number_at p ≡ 1 → HasShape true one_string p (node_shape_of quoted) → ⊥
quoted_fails (node_placed anchor number none_placed) root fits = style_differs number root (ap quotes_stated fits.1)
quoted_fails p root fits = absurd assumption

quoted_refused : TreeUnfolds one_string quoted → ⊥
quoted_refused u = quoted_fails u.placed u.root u.fits

-- ---- anchors counted at the root's children alone: the string that is shared two levels down has none

abbrev shared_below : Graph
shared_below = graph_of (sequence_of (2 ∷ []) ∷ sequence_of (3 ∷ 3 ∷ []) ∷ string_of (codes "a") ∷ [])

abbrev a_sequence_of_one : Node → Node
a_sequence_of_one item = sequence_node (record { anchor = None; tag = Some sequence_tag; implicit = true; style = block }) (nodes_and no_nodes item)

abbrev without_anchor : Node
without_anchor = a_sequence_of_one (a_sequence None (a_string None (codes "a") any_style) (alias_node []))

none_carries : (a b c : Option Text) (w x y z : ℕ) (name : Text) → a ≡ None → b ≡ None → c ≡ None
    → count_by (has_anchor name) (node_occurrence a w ∷ node_occurrence b x ∷ node_occurrence c y ∷ alias_occurrence name z ∷ []) ≡ 1 → ⊥
none_carries a b c w x y z name is_a is_b is_c counted = grind (arith)

without_anchor_fails : (p : Placed) → HasShape true shared_below p (node_shape_of without_anchor) → NameTheirNodes (occurrences p) [] (occurrences p) → ⊥
without_anchor_fails p h h2 = grind (arith, nat_tests, none_carries)

without_anchor_refused : TreeUnfolds shared_below without_anchor → ⊥
without_anchor_refused u = without_anchor_fails u.placed u.fits u.named

-- ---- a node written wherever it is met

abbrev written_twice : Node
written_twice = a_sequence None (a_string None (codes "a") any_style) (a_string None (codes "a") any_style)

second_reached : IsReached shared 2
second_reached = child_reached first_reached (0, omega arith, refl)

counted_twice : (a b c : Option Text) (number first second : ℕ) → number ≡ 1 → first ∷ second ∷ [] ≡ children shared number
    → count_by (is_occurrence_of 2) (node_occurrence a number ∷ node_occurrence b first ∷ node_occurrence c second ∷ []) ≡ 1 → ⊥
counted_twice a b c number first second root numbers once = grind (arith)

written_twice_fails : (p : Placed) → number_at p ≡ 1 → HasShape true shared p (node_shape_of written_twice) → count_by (is_occurrence_of 2) (occurrences p) ≡ 1
    → ⊥
written_twice_fails p h h2 h3 = grind (arith, nat_tests, counted_twice)

written_twice_refused : TreeUnfolds shared written_twice → ⊥
written_twice_refused u = written_twice_fails u.placed u.root u.fits (u.once 2 second_reached)
