-- The conditions under which a document's part of a stream is read back: its root's parts are read, its root begins with a character that no reader
-- skips, its lines are no markers, and its directives are read.
use Rattle.yaml_base.proofs.Common.{ℕ, if◌then◌else◌, ◌==◌, Some, Bool, false, not, true, ◌&&◌, ◌||◌, List, [], ◌++◌, ◌∷◌, ◌≡◌, list_all, Text, space, Cursor}
use Rattle.yaml_base.proofs.Common.{Rendered, render_then, TagDirective, DocumentStart, Node, alias_node, scalar_node, sequence_node, mapping_node, Document}
use Rattle.yaml_base.proofs.Common.{Documents, no_documents, documents_and, render_version, render_tag_directives, is_explicit, root_place, has_no_documents}
use Rattle.yaml_base.proofs.Common.{is_written_in_flow, has_no_nodes, has_no_pairs, is_read_break, Effective, is_written_as_nothing, directives_in_force}
use Rattle.yaml_base.proofs.Common.{prologue_read, begins_with_percent, lines_of, spaces, Rules}
use Rattle.yaml_base.proofs.{stream_documents.StreamRoots.marker_cursor, stream_lines.StreamClosed.closed, stream_lines.StreamClosed.margin_cursor}
use Rattle.yaml_base.proofs.{stream_lines.StreamLineLaws.is_closed, stream_lines.StreamSections.AreContent, stream_lines.StreamTidyLaws.lines_after_first}
use Rattle.yaml_base.proofs.{stream_nodes.StreamNodesFit.render_begun, stream_nodes.StreamNodesFit.Leaves, stream_nodes.StreamTexts.node_own}

-- Places

-- the rules for reading a document
abbrev pub rules_of : Effective → Document → Rules
rules_of s document = record { breaks12 = s.breaks12; directives = document.start.directives }

-- the cursor at which a root begins: after `---` on its line, or at a line's start
abbrev pub root_cursor : (on_marker : Bool) → Cursor
root_cursor on_marker = if on_marker then marker_cursor else margin_cursor 0

-- a root as it is rendered there
abbrev pub render_root : (on_marker : Bool) → Effective → Document → Rendered
render_root on_marker s document = node_own document.root s (directives_in_force document.start.directives) root_place (root_cursor on_marker)

-- Roots

-- the rendered text begins, after a space if one is needed, with a character that no reader skips
pub record Begins (breaks12 : Bool) (cursor : Cursor) (own : Rendered) : Type 0 where
  pub count : ℕ
  pub head : ℕ
  pub tail : Text
  pub text : own.text ≡ spaces count ++ (head ∷ tail)
  pub margin : cursor.whitespace ≡ true → count ≡ 0
  pub shows : (head == space) ≡ false
  pub uncommented : (head == 0x23) ≡ false
  pub goes_on : is_read_break breaks12 head ≡ false

-- a root that is an alias, a scalar or written in flow: it begins so if anything is written, and no line after its first is a marker
pub record LeafStands (on_marker : Bool) (s : Effective) (document : Document) : Type 0 where
  pub begins : is_written_as_nothing s.canonical document.root ≡ false → Begins s.breaks12 (root_cursor on_marker) (render_root on_marker s document)
  pub after : AreContent (lines_after_first (lines_of s.breaks12 (closed (render_root on_marker s document))))

-- the root of a document is one of these
abbrev pub is_leaf : Effective → Node → Bool
is_leaf s (alias_node name) = true
is_leaf s (scalar_node content) = true
is_leaf s (sequence_node start items) = is_written_in_flow s root_place start (has_no_nodes items)
is_leaf s (mapping_node start pairs) = is_written_in_flow s root_place start (has_no_pairs pairs)

-- a collection in a block whose properties are written: these begin so
abbrev pub PropertiesStand : (on_marker : Bool) → Effective → List TagDirective → Node → Type 0
PropertiesStand on_marker s directives (sequence_node start items) =
    ((render_begun s directives start (root_cursor on_marker)).text ≡ [] → ⊥)
    → Begins s.breaks12 (root_cursor on_marker) (render_begun s directives start (root_cursor on_marker))
PropertiesStand on_marker s directives (mapping_node start pairs) =
    ((render_begun s directives start (root_cursor on_marker)).text ≡ [] → ⊥)
    → Begins s.breaks12 (root_cursor on_marker) (render_begun s directives start (root_cursor on_marker))
PropertiesStand on_marker s directives node = Unit {0}

-- the root of a document, if it begins after `---` or on a line of its own
pub record RootStands (s : Effective) (document : Document) (on_marker : Bool) : Type 0 where
  pub leaves : Leaves document.root (rules_of s document) s (directives_in_force document.start.directives) root_place (root_cursor on_marker)
  pub leaf : is_leaf s document.root ≡ true → LeafStands on_marker s document
  pub block : is_leaf s document.root ≡ false → PropertiesStand on_marker s (directives_in_force document.start.directives) document.root

-- Directives

-- the lines of a document's directives
abbrev pub prologue_text : Effective → DocumentStart → Text
prologue_text s start = (render_then (render_version start.version (margin_cursor 0)) (render_tag_directives s.portable start.directives)).text

-- the directives are read
pub record PrologueStands (s : Effective) (start : DocumentStart) : Type 0 where
  pub ends : is_closed s.breaks12 (prologue_text s start) ≡ true
  pub percents : list_all (λ line. begins_with_percent line.text) (lines_of s.breaks12 (prologue_text s start)) ≡ true
  pub reads : prologue_read (lines_of s.breaks12 (prologue_text s start)) ≡ Some (record { version = start.version; directives = start.directives })

-- Documents

-- true if a root begins on the line of `---`: the marker is written and isn't alone on its line
abbrev pub is_on_marker : Effective → (first : Bool) → DocumentStart → Bool
is_on_marker s first start = is_explicit (s.canonical || s.portable) first start && not s.canonical

-- a document's root at its place, and its directives
pub record DocumentStands (s : Effective) (first : Bool) (document : Document) : Type 0 where
  pub root : RootStands s document (is_on_marker s first document.start)
  pub prologue : PrologueStands s document.start

-- each of some documents
abbrev pub DocumentsStand : Effective → Documents → Type 0
DocumentsStand s no_documents = Unit {0}
DocumentsStand s (documents_and before document) = DocumentsStand s before × DocumentStands s (has_no_documents before) document
