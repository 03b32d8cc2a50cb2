-- The canonical reader's tokens for the text of a stream.
use Rattle.yaml_emitter.proofs.Common.{ℕ, ◌≤◌, if◌then◌else◌, ◌==◌, None, Bool, false, not, true, ◌&&◌, ◌||◌, List, [], ◌++◌, ◌∷◌, refl, ◌≡◌, append-nil}
use Rattle.yaml_emitter.proofs.Common.{append_assoc, ap, subst, sym, ◌∙◌, false≢true, Text, Cursor, new_line, Document, Documents, no_documents}
use Rattle.yaml_emitter.proofs.Common.{documents_and, Stream, render_if, render_closing_marker, render_version, render_tag_directives, has_directives}
use Rattle.yaml_emitter.proofs.Common.{is_explicit, render_document_marker, render_document_start, document_start_piece, document_end_piece, root_place}
use Rattle.yaml_emitter.proofs.Common.{first_standing, stream_end_piece, stream_start_piece, layout, text_of, Standing, RenderedPieces, render_node}
use Rattle.yaml_emitter.proofs.Common.{Effective, directives_in_force, Token, document_begins}
use Rattle.yaml_base.proofs.Common.{render_document, has_no_documents, render_documents}
use Rattle.yaml_emitter.proofs.canonical.{CanonicalNodes.more_text, CanonicalNodes.lead_text, CanonicalNodes.node_after, CanonicalPlaces.in_canonical}
use Rattle.yaml_emitter.proofs.canonical.{CanonicalSound.DocumentOk, CanonicalSound.DocumentsOk}
use Rattle.yaml_emitter.proofs.canonical.CanonicalLines.{closing_says, marker_says, line_breaks, version_says, directives_say}
use Rattle.yaml_emitter.proofs.canonical.CanonicalText.{anything, name_ends, Says, Opens, opens_append, says_then, says_after, says_text, says_tokens}
use Rattle.yaml_emitter.proofs.canonical.CanonicalText.{says_nothing, says_white, new_line-white}
use Rattle.yaml_emitter.proofs.canonical.CanonicalTokens.{node_tokens, version_tokens, tag_line_tokens, end_tokens, document_tokens, left_open}
use Rattle.yaml_emitter.proofs.canonical.CanonicalTokens.{documents_tokens}

-- the open-ended state between documents, after one that was left open or not
abbrev open_ended_of : Bool → ℕ
open_ended_of true = 1
open_ended_of false = 0

open_ended_tells : (open_ended : ℕ) (left : Bool) → open_ended ≡ open_ended_of left → not (open_ended == 0) ≡ left
open_ended_tells open_ended left e = ap (λ m. not (m == 0)) e ∙ by left
  where
    by : (b : Bool) → not (open_ended_of b == 0) ≡ b
    by true = refl
    by false = refl

open_ended_kept : (open_ended : ℕ) (left : Bool) → open_ended ≡ open_ended_of left → (open_ended == 2) ≡ false
open_ended_kept open_ended left e = ap (λ m. m == 2) e ∙ by left
  where
    by : (b : Bool) → (open_ended_of b == 2) ≡ false
    by true = refl
    by false = refl

explicit : (a b d : Bool) → (a || b || true || d) ≡ true
explicit true b d = refl
explicit false true d = refl
explicit false false d = refl

-- documents that were rendered after a text
record Between (breaks12 : Bool) (text : Text) (tokens : List Token) (left : Bool) (rendered : RenderedPieces) : Type 0 where
  says : Says breaks12 anything (text ++ text_of rendered.pieces) tokens
  open_ended : rendered.standing.open_ended ≡ open_ended_of left

module _ (breaks12 : Bool) (s : Effective) (wide : 2 ≤ s.indent) where
  closing_if : (b : Bool) (cursor : Cursor) → Says breaks12 anything (render_if b render_closing_marker cursor).text (end_tokens b)
  closing_if true cursor = closing_says breaks12 cursor
  closing_if false cursor = says_nothing breaks12

  marker_if : (b : Bool) (cursor : Cursor) → b ≡ true → Says breaks12 anything (render_if b (render_document_marker true) cursor).text (document_begins ∷ [])
  marker_if true cursor e = marker_says breaks12 cursor
  marker_if false cursor e = absurd (false≢true e)

  head_says : (first left : Bool) (x : Document) (standing : Standing) → DocumentOk x → standing.open_ended ≡ open_ended_of left
      → Says breaks12 anything (render_document_start (in_canonical s) first x.start standing).text
      (((end_tokens (has_directives x.start && left) ++ version_tokens x.start.version) ++ tag_line_tokens x.start.directives) ++ document_begins ∷ [])
  head_says first left x standing ok e =
      let some = has_directives x.start in
      let closing = render_if (some && not (standing.open_ended == 0)) render_closing_marker standing.cursor in
      let version = render_version x.start.version closing.cursor in
      let lines = render_tag_directives s.portable x.start.directives version.cursor in
      says_tokens (((end_tokens (some && left) ++ version_tokens x.start.version) ++ tag_line_tokens x.start.directives) ++ document_begins ∷ [])
      (ap (λ b. ((end_tokens (some && b) ++ version_tokens x.start.version) ++ tag_line_tokens x.start.directives) ++ document_begins ∷ [])
      (open_ended_tells standing.open_ended left e))
      (says_after
      (says_after
      (says_after (closing_if (some && not (standing.open_ended == 0)) standing.cursor) (version_says breaks12 x.start.version closing.cursor ok.version))
      (directives_say breaks12 s.portable x.start.directives version.cursor ok.directives))
      (marker_if (is_explicit true first x.start) lines.cursor (explicit (not x.start.implicit) (not first) some)))

  end_says : (implicit : Bool) (standing : Standing) → Says breaks12 anything (document_end_piece implicit standing).piece.lead (end_tokens (not implicit))
  end_says true standing = says_white breaks12 (new_line 0 standing.cursor).text (new_line-white 0 standing.cursor)
  end_says false standing =
      says_after (says_white breaks12 (new_line 0 standing.cursor).text (new_line-white 0 standing.cursor))
      (closing_says breaks12 (new_line 0 standing.cursor).cursor)

  line_opens : (cursor : Cursor) → cursor.indention ≡ false → Opens name_ends (new_line 0 cursor).text
  line_opens cursor e = subst (λ t. Opens name_ends t) (sym (line_breaks 0 cursor e)) (record { meets = λ rest. refl })

  end_opens : (implicit : Bool) (standing : Standing) → standing.cursor.indention ≡ false → Opens name_ends (document_end_piece implicit standing).piece.lead
  end_opens true standing e = line_opens standing.cursor e
  end_opens false standing e =
      let line = new_line 0 standing.cursor in
      opens_append line.text (render_closing_marker line.cursor).text (line_opens standing.cursor e)

  end_open_ended : (implicit : Bool) (standing : Standing) → standing.open_ended ≡ 0
      → (document_end_piece implicit standing).standing.open_ended ≡ open_ended_of implicit
  end_open_ended true standing e = ap (λ m. if m == 0 then 1 else m) e
  end_open_ended false standing e = refl

  document_says : (x : Document) (first left : Bool) (text : Text) (tokens : List Token) (standing : Standing) → Says breaks12 anything text tokens
      → standing.open_ended ≡ open_ended_of left → DocumentOk x
      → Between breaks12 text (tokens ++ document_tokens s.portable left x) x.end_implicit (render_document (in_canonical s) first x standing)
  document_says x first left text tokens standing says e ok =
      let own = x.start.directives in
      let head = render_document_start (in_canonical s) first x.start standing in
      let start = document_start_piece (in_canonical s) first x.start standing in
      let node = render_node x.root (in_canonical s) (directives_in_force own) root_place start.standing in
      let end = document_end_piece x.end_implicit node.standing in
      let h = ((end_tokens (has_directives x.start && left) ++ version_tokens x.start.version) ++ tag_line_tokens own) ++ document_begins ∷ [] in
      let n = node_tokens s.portable x.root own in
      let t = end_tokens (not x.end_implicit) in
      let before : Says breaks12 anything (text ++ text_of (start.piece ∷ [])) (tokens ++ h) =
      says_text (text ++ text_of (start.piece ∷ [])) (ap (λ u. text ++ u) (lead_text head.text)) (says_after says (head_says first left x standing ok e)) in
      let after = node_after breaks12 s wide own ok.sound x.root None anything (text ++ text_of (start.piece ∷ []))
      (tokens ++ h) start.standing before refl ok.root in
      let all = says_then after.says (end_opens x.end_implicit node.standing after.off) (end_says x.end_implicit node.standing) in
      record {
        says =
            says_tokens (tokens ++ ((h ++ n) ++ t))
            (ap (λ k. k ++ t) (append_assoc tokens h n) ∙ append_assoc tokens (h ++ n) t)
            (says_text (text ++ text_of (((start.piece ∷ []) ++ node.pieces) ++ end.piece ∷ []))
            (more_text text ((start.piece ∷ []) ++ node.pieces) (end.piece ∷ [])
            ∙ ap (λ u. u ++ text_of (end.piece ∷ [])) (more_text text (start.piece ∷ []) node.pieces)
            ∙ ap (λ u. ((text ++ text_of (start.piece ∷ [])) ++ text_of node.pieces) ++ u) (end_text x.end_implicit node.standing))
            all);
        open_ended = end_open_ended x.end_implicit node.standing after.open_ended;
      }
    where
      end_text : (implicit : Bool) (standing : Standing)
          → text_of ((document_end_piece implicit standing).piece ∷ []) ≡ (document_end_piece implicit standing).piece.lead
      end_text true standing = lead_text (document_end_piece true standing).piece.lead
      end_text false standing = lead_text (document_end_piece false standing).piece.lead

  documents_say : (x : Documents) (text : Text) (tokens : List Token) (standing : Standing) → Says breaks12 anything text tokens
      → standing.open_ended ≡ 0 → DocumentsOk x
      → Between breaks12 text (tokens ++ documents_tokens s.portable x) (left_open x) (render_documents (in_canonical s) x standing)
  documents_say no_documents text tokens standing says e ok = record {
    says = says_text (text ++ []) (append-nil text) (says_tokens (tokens ++ []) (sym (append-nil tokens)) says);
    open_ended = e;
  }
  documents_say (documents_and before last) text tokens standing says e ok =
      let prefix = render_documents (in_canonical s) before standing in
      let parsed = documents_say before text tokens standing says e ok.0 in
      let back = render_document (in_canonical s) (has_no_documents before) last prefix.standing in
      let more = document_says last (has_no_documents before) (left_open before) (text ++ text_of prefix.pieces)
      (tokens ++ documents_tokens s.portable before) prefix.standing parsed.says parsed.open_ended ok.1 in
      record {
        says =
            says_tokens (tokens ++ documents_tokens s.portable (documents_and before last))
            (append_assoc tokens (documents_tokens s.portable before) (document_tokens s.portable (left_open before) last))
            (says_text (text ++ text_of (prefix.pieces ++ back.pieces)) (more_text text prefix.pieces back.pieces) more.says);
        open_ended = more.open_ended;
      }

  -- The tokens of a stream's text are those of its documents.
  pub stream_says : (stream : Stream) → DocumentsOk stream.documents
      → Says breaks12 anything (text_of (layout (in_canonical s) stream)) (documents_tokens s.portable stream.documents)
  stream_says stream ok =
      let start = stream_start_piece first_standing in
      let inner = render_documents (in_canonical s) stream.documents start.standing in
      let parsed = documents_say stream.documents [] [] start.standing (says_nothing breaks12) refl ok in
      let end = stream_end_piece inner.standing in
      let none : text_of (end.piece ∷ []) ≡ [] =
      lead_text end.piece.lead ∙ ap (λ b. (render_if b render_closing_marker inner.standing.cursor).text)
      (open_ended_kept inner.standing.open_ended (left_open stream.documents) parsed.open_ended) in
      says_text (text_of (((start.piece ∷ []) ++ inner.pieces) ++ end.piece ∷ []))
      (more_text [] ((start.piece ∷ []) ++ inner.pieces) (end.piece ∷ []) ∙ ap (λ u. text_of inner.pieces ++ u) none ∙ append-nil (text_of inner.pieces))
      parsed.says
