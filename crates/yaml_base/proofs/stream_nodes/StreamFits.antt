-- The effect of a node in a block on the reader of lines, from its place and its cursor on; and of the items of a sequence, if each of them has it:
-- their lines split into one entry each, lie inside the columns around, and read as their trees.
use Rattle.yaml_base.proofs.Common.{arith, suc, ℕ, ◌+◌, ◌≤◌, Option, None, Some, Bool, false, true, ◌&&◌, List, [], ◌++◌, ◌∷◌, refl, ◌≡◌, true≢false, Text}
use Rattle.yaml_base.proofs.Common.{Cursor, Rendered, TagDirective, Node, alias_node, scalar_node, Nodes, sequence_node, Pairs, mapping_node, no_nodes}
use Rattle.yaml_base.proofs.Common.{nodes_and, no_pairs, pairs_and, entry_place, Role, Place, is_in_mapping, Effective, Tree, Line, lines_of, ends_indicator}
use Rattle.yaml_base.proofs.Common.{spaces, blanked, node_read, Rules, first_cursor}
use Rattle.yaml_base.specs.CommentReading.{blank_text}
use Rattle.yaml_base.proofs.Common.{ap, sym, ◌∙◌, append_assoc}
use Rattle.yaml_base.proofs.{stream_lines.StreamInside.Passes, stream_lines.StreamSections.AreContent}
use Rattle.yaml_base.proofs.{stream_lines.StreamTidyLaws.lines_after_first, stream_nodes.StreamAgrees.node_tree}
use Rattle.yaml_base.proofs.stream_lines.StreamLineLaws.{is_closed, OneLine}
use Rattle.yaml_base.proofs.stream_lines.StreamClosed.{closed, Settled, spaces_line, lines_behind, closed_behind, rank}

-- Sizes

-- how deep a node is read at most: itself and the nodes in it
abbrev mutual
  pub size : Node → ℕ
  size (alias_node name) = 1
  size (scalar_node content) = 1
  size (sequence_node start items) = suc (items_size items)
  size (mapping_node start pairs) = suc (pairs_size pairs)

  pub items_size : Nodes → ℕ
  items_size no_nodes = 0
  items_size (nodes_and items last) = items_size items + size last

  pub pairs_size : Pairs → ℕ
  pairs_size no_pairs = 0
  pairs_size (pairs_and pairs key value) = pairs_size pairs + (size key + size value)

-- Fits

-- a place lies inside a column, in a mapping by one more if a `-` at its column counts
abbrev pub WithinColumn : Bool → ℕ → Role → Option ℕ → Type 0
WithinColumn s d role None = ⊥
WithinColumn s d role (Some c) = d + rank (s && is_in_mapping role) ≤ c

-- if a cursor is in indentation, a block may begin on the line, which has that many spaces
abbrev pub Here : Cursor → (here : Bool) → ℕ → Type 0
Here cursor here k = cursor.indention ≡ true → (here ≡ true) × (k ≡ cursor.column)

-- a text that an indicator may open: a space or a break comes first
pub record Opens (breaks12 : Bool) (text : Text) : Type 0 where
  pub head : Text
  pub ending : Text
  pub rest : List Line
  pub is : lines_of breaks12 text ≡ record { text = head; ending = ending } ∷ rest
  pub symbol : ends_indicator head ≡ true

-- the rendered text of a node in a block from a cursor on: it ends settled at a line's end, may follow an indicator, lies inside the columns around,
-- and reads as a tree at every depth from its size on
pub record Fits (rules : Rules) (size : ℕ) (own : Rendered) (tree : Tree) (place : Place) (cursor : Cursor) : Type 0 where
  pub settled : Settled own.cursor
  pub ends : is_closed rules.breaks12 (closed own) ≡ true
  pub opens : cursor.whitespace ≡ false → Opens rules.breaks12 (closed own)
  pub inside : (s : Bool) (d : ℕ) → WithinColumn s d place.role place.column → Passes s d (lines_after_first (lines_of rules.breaks12 (closed own)))
  pub within : (c : ℕ) → place.column ≡ Some c → AreContent (lines_after_first (lines_of rules.breaks12 (closed own)))
  pub reads : (depth : ℕ) → size ≤ depth → (here : Bool) (k : ℕ) → Here cursor here k
      → node_read depth rules here place.column (lines_of rules.breaks12 (spaces k ++ closed own)) ≡ Some tree

-- a rendered text up to its last line's end, and blank lines after it
abbrev pub with_blanks : ℕ → Rendered → Rendered
with_blanks count own = record { text = closed own ++ blank_text count; cursor = first_cursor }

-- regrouped: a text after others, with blank lines after its last line's end
pub ended : (a b own end blank : Text) → a ++ (b ++ ((own ++ end) ++ blank)) ≡ ((a ++ (b ++ own)) ++ end) ++ blank
ended a b own end blank =
    ap (λ t. a ++ t) (sym (append_assoc b (own ++ end) blank) ∙ ap (λ t. t ++ blank) (sym (append_assoc b own end)))
    ∙ sym (append_assoc a ((b ++ own) ++ end) blank) ∙ ap (λ t. t ++ blank) (sym (append_assoc a (b ++ own) end))

-- a node fits, also with any number of blank lines after it, unless these are barred
pub record FitsOr (rules : Rules) (size : ℕ) (own : Rendered) (tree : Tree) (place : Place) (cursor : Cursor) (bars : Bool) : Type 0 where
  pub fits : Fits rules size own tree place cursor
  pub spares : bars ≡ false → (count : ℕ) → Fits rules size (with_blanks count own) tree place cursor

-- so does one after which they are barred less often
pub sparing : {rules : Rules} {size : ℕ} {own : Rendered} {tree : Tree} {place : Place} {cursor : Cursor} (bars more : Bool)
    → (more ≡ false → bars ≡ false) → FitsOr rules size own tree place cursor bars → FitsOr rules size own tree place cursor more
sparing bars more less fit = record { fits = fit.fits; spares = λ allowed. fit.spares (less allowed) }

-- the tree of a node doesn't depend on the column
pub tree_anywhere : (n : Node) (s : Effective) (directives : List TagDirective) (in_flow : Bool) (role : Role) (c d : ℕ)
    → node_tree n s directives (entry_place in_flow role c) ≡ node_tree n s directives (entry_place in_flow role d)
tree_anywhere (alias_node name) s directives in_flow role c d = refl
tree_anywhere (scalar_node content) s directives in_flow role c d = refl
tree_anywhere (sequence_node start items) s directives in_flow role c d = refl
tree_anywhere (mapping_node start pairs) s directives in_flow role c d = refl

-- After an indicator

-- the lines of an indicator and a text that it opens
pub indicated_lines : (breaks12 : Bool) (e c : ℕ) (t : Text) (o : Opens breaks12 t) → OneLine breaks12 (c ∷ [])
    → lines_of breaks12 (spaces e ++ (c ∷ t)) ≡ record { text = spaces e ++ (c ∷ o.head); ending = o.ending } ∷ o.rest
indicated_lines breaks12 e c t o one =
    lines_behind breaks12 _ (c ∷ t) _ o.ending o.rest (spaces_line breaks12 e) (lines_behind breaks12 (c ∷ []) t o.head o.ending o.rest one o.is)

-- the lines of the text alone, if the indicator is blanked
pub blanked_lines : (breaks12 : Bool) (k : ℕ) (t : Text) (o : Opens breaks12 t) → lines_of breaks12 (spaces k ++ t) ≡ blanked k o.head o.ending ∷ o.rest
blanked_lines breaks12 k t o = lines_behind breaks12 (spaces k) t o.head o.ending o.rest (spaces_line breaks12 k) o.is

-- the text that an indicator opens is closed if its own text is
pub indicated_ends : (breaks12 : Bool) (e c : ℕ) (t : Text) → Opens breaks12 t → is_closed breaks12 t ≡ true → is_closed breaks12 (spaces e ++ (c ∷ t)) ≡ true
indicated_ends breaks12 e c [] o h = grind (arith, true≢false)
indicated_ends breaks12 e c (d ∷ t) o h = closed_behind breaks12 (spaces e) c (d ∷ t) h
