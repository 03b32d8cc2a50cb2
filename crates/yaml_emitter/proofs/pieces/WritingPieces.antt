-- A piece without a body is its lead; the pieces of documents as their parts.
use Rattle.yaml_emitter.proofs.Common.{ℕ, if◌then◌else◌, ◌==◌, Result, Bool, false, not, true, ◌&&◌, ◌||◌, ◌≡◌, append-nil, append_assoc, ap, sym, ◌∙◌, Text}
use Rattle.yaml_emitter.proofs.Common.{Cursor, Rendered, render_then, new_line, DocumentStart, render_indicator, render_closing_marker, has_directives}
use Rattle.yaml_emitter.proofs.Common.{is_explicit, render_document_start, document_start_piece, document_end_piece, Effective, piece_at, render_document_end}
use Rattle.yaml_emitter.proofs.Common.{wrote_as, Page, Wrote, refl, render_if, render_document_marker}
use Rattle.yaml_base.proofs.stream_documents.StreamDocumentReads.{no_directives}
use Rattle.yaml_base.specs.{Indicators.document_end, Layout.piece_without_body, declared.errors.yaml_error_t.yaml_error_t}
use Rattle.yaml_emitter.specs.WrittenPieces.{rendered_of, render_document_head}

-- a lead by itself is the whole text
pub lead-rendered : (open_ended : ℕ) (rendered : Rendered) → rendered ≡ rendered_of (piece_without_body open_ended rendered)
lead-rendered open_ended rendered = ap (λ (text : Text). let l : Rendered = record { text = text; cursor = rendered.cursor } in l)
    (sym (append-nil rendered.text))

-- a rendered text is written as a piece
pub wrote_lead : (render : Cursor → Rendered) (open_ended : ℕ) {before after : Page} {answer : Result (Unit {0}) yaml_error_t}
    → Wrote render before after answer → Wrote (λ cursor. rendered_of (piece_without_body open_ended (render cursor))) before after answer
wrote_lead render open_ended {before} wrote = wrote_as (λ cursor. rendered_of (piece_without_body open_ended (render cursor)))
    (lead-rendered open_ended (render before.cursor)) wrote

document_end-rendered : (implicit : Bool) (open_ended : ℕ) (cursor : Cursor)
    → render_document_end implicit cursor ≡ piece_at (document_end_piece implicit) open_ended cursor
document_end-rendered true open_ended cursor = lead-rendered (if open_ended == 0 then 1 else open_ended) (new_line 0 cursor)
document_end-rendered false open_ended cursor =
    let line = new_line 0 cursor in
    let dots = render_indicator document_end line.cursor in
    let last = new_line 0 dots.cursor in
    ap (λ (text : Text). let l : Rendered = record { text = text; cursor = last.cursor } in l) (append_assoc line.text dots.text last.text)
    ∙ lead-rendered 0 (render_then line render_closing_marker)

-- a document's end as a piece
pub wrote_document_end : (implicit : Bool) (open_ended : ℕ) {before after : Page} {answer : Result (Unit {0}) yaml_error_t}
    → Wrote (render_document_end implicit) before after answer
    → Wrote (piece_at (document_end_piece implicit) open_ended) before after answer
wrote_document_end implicit open_ended {before} wrote =
    wrote_as (piece_at (document_end_piece implicit) open_ended) (document_end-rendered implicit open_ended before.cursor) wrote

-- a document's start: its head, with `...` and `---` if they are due
pub wrote_document_start : (s : Effective) (first : Bool) (start : DocumentStart) (open_ended : ℕ) {closes explicit : Bool}
    {before after : Page} {answer : Result (Unit {0}) yaml_error_t}
    → closes ≡ (has_directives start && not (open_ended == 0)) → explicit ≡ is_explicit (s.canonical || s.portable) first start
    → Wrote (render_document_head s closes start.version start.directives explicit) before after answer
    → Wrote (piece_at (document_start_piece s first start) open_ended) before after answer
wrote_document_start s first start open_ended {closes} {explicit} {before} closing marking wrote =
    wrote_as (piece_at (document_start_piece s first start) open_ended)
    (ap (λ (c : Bool). render_document_head s c start.version start.directives explicit before.cursor) closing
    ∙ ap (λ (e : Bool). render_document_head s (has_directives start && not (open_ended == 0)) start.version start.directives e before.cursor) marking
    ∙ lead-rendered 0 (render_document_start s first start (record { cursor = before.cursor; open_ended = open_ended })))
    wrote

-- without directives no text precedes `---`
no_lines : (s : Effective) (start : DocumentStart) (explicit : Bool) (cursor : Cursor) → has_directives start ≡ false
    → render_if explicit (render_document_marker s.canonical) cursor ≡ render_document_head s false start.version start.directives explicit cursor
no_lines s start explicit cursor bare =
    let none = no_directives start bare in
    rw (none.0, none.1) refl

-- a document's start without directives: `---` if it is due
pub wrote_bare_start : (s : Effective) (first : Bool) (start : DocumentStart) (open_ended : ℕ) {explicit : Bool}
    {before after : Page} {answer : Result (Unit {0}) yaml_error_t}
    → has_directives start ≡ false → explicit ≡ is_explicit (s.canonical || s.portable) first start
    → Wrote (render_if explicit (render_document_marker s.canonical)) before after answer
    → Wrote (piece_at (document_start_piece s first start) open_ended) before after answer
wrote_bare_start s first start open_ended {explicit} {before} bare marking wrote =
    wrote_document_start s first start open_ended (sym (ap (λ (directed : Bool). directed && not (open_ended == 0)) bare)) marking
    (wrote_as (render_document_head s false start.version start.directives explicit)
    (no_lines s start explicit before.cursor bare) wrote)
