-- A stream's text as far as it is read: its lines cut into sections, whatever markers follow them, and the reading of these.
use Rattle.yaml_base.proofs.Common.{arith, ℕ, if◌then◌else◌, fold, option_and_then, None, Some, Bool, false, true, List, [], ◌++◌, ◌∷◌, refl, ◌≡◌, eqb-true}
use Rattle.yaml_base.proofs.Common.{append-nil, append_assoc, ap, sym, ◌∙◌, and_parts, false≢true, list_all, Text, marker_of, Section, sections_of}
use Rattle.yaml_base.proofs.Common.{Prologue, prologue_read, after_prologue, with_prologue, begins_with_percent, prefix_kind, lines_before_marker_read}
use Rattle.yaml_base.proofs.Common.{documents_at_end, sections_read, Line, lines_of, without_skipped_lines}
use Rattle.yaml_base.specs.streams.StreamLines.{is_skipped, begins_comment}
use Rattle.std.proofs.lemmas.Grind.{fold-append}
use Rattle.yaml_base.proofs.stream_lines.{StreamClosed.closed_both, StreamLineLaws.is_closed, StreamLineLaws.lines_after_break}
use Rattle.yaml_base.proofs.stream_lines.StreamSections.{is_markerless, is_content, all_content, AreContent, content_kept, markerless_before}
use Rattle.yaml_base.proofs.stream_lines.StreamSections.{IsMarker, markers_one}
use Rattle.yaml_base.proofs.Common.{and_from, not, directive_lines, document_lines}
use Rattle.yaml_base.specs.streams.StreamDocuments.{StreamRead, section_read, may_end}
use Rattle.yaml_base.proofs.AllPass.{all_pass}

-- a text, up to its last line's end, whose lines are read as this
pub record WalkProgress (breaks12 : Bool) (depth : ℕ) (text : Text) (read : StreamRead) : Type 0 where
  pub ends : is_closed breaks12 text ≡ true
  pub prefix : List Line
  pub sections : List Section
  pub cuts : (rest : List Line) → (sections_of rest).before ≡ []
      → sections_of (lines_of breaks12 text ++ rest) ≡ record { before = prefix; sections = sections ++ (sections_of rest).sections }
  pub reads : fold (section_read depth breaks12) (lines_before_marker_read (prefix_kind prefix) depth breaks12 prefix) sections ≡ Some read

-- lines without a marker, which are read by their beginning
pub prefix_alone : (breaks12 : Bool) (depth : ℕ) (text : Text) (read : StreamRead) → is_closed breaks12 text ≡ true → AreContent (lines_of breaks12 text)
    → lines_before_marker_read (prefix_kind (lines_of breaks12 text)) depth breaks12 (lines_of breaks12 text) ≡ Some read
    → WalkProgress breaks12 depth text read
prefix_alone breaks12 depth text read ends markerless reads = record {
  ends = ends;
  prefix = lines_of breaks12 text;
  sections = [];
  cuts = λ rest none.
      markerless_before (lines_of breaks12 text) rest markerless
      ∙ ap (λ b. record { before = lines_of breaks12 text ++ b; sections = (sections_of rest).sections }) none
      ∙ ap (λ b. record { before = b; sections = (sections_of rest).sections }) (append-nil (lines_of breaks12 text));
  reads = reads;
}

-- one section more
pub one_more : (breaks12 : Bool) (depth : ℕ) (text more : Text) (read next : StreamRead) (line : Line) (body : List Line)
    → WalkProgress breaks12 depth text read
    → is_closed breaks12 more ≡ true → lines_of breaks12 more ≡ line ∷ body → IsMarker (marker_of line.text) → AreContent body
    → section_read depth breaks12 (Some read) (record { marker = marker_of line.text; line = line; rest = body }) ≡ Some next
    → WalkProgress breaks12 depth (text ++ more) next
one_more breaks12 depth text more read next line body so ends is marker markerless reads =
    let one : List Section = record { marker = marker_of line.text; line = line; rest = body } ∷ [] in
    record {
      ends = closed_both breaks12 text more so.ends ends;
      prefix = so.prefix;
      sections = so.sections ++ one;
      cuts = λ rest none.
          let after = (markers_one line body marker markerless).markers rest none in
          ap (λ ls. sections_of (ls ++ rest)) (lines_after_break breaks12 text more so.ends ∙ ap (λ ls. lines_of breaks12 text ++ ls) is)
          ∙ ap sections_of (append_assoc (lines_of breaks12 text) (line ∷ body) rest)
          ∙ so.cuts ((line ∷ body) ++ rest) (ap (λ g. g.before) after)
          ∙ ap (λ g. record { before = so.prefix; sections = so.sections ++ g.sections }) after
          ∙ ap (λ g. record { before = so.prefix; sections = g }) (sym (append_assoc so.sections one (sections_of rest).sections));
      reads =
          fold-append (section_read depth breaks12) (lines_before_marker_read (prefix_kind so.prefix) depth breaks12 so.prefix) so.sections one
          ∙ ap (λ r. section_read depth breaks12 r (record { marker = marker_of line.text; line = line; rest = body })) so.reads
          ∙ reads;
    }

-- the documents of a stream that may end so
pub documents_so_far : (breaks12 : Bool) (depth : ℕ) (text : Text) (read : StreamRead) → WalkProgress breaks12 depth text read → may_end read.place ≡ true
    → sections_read depth breaks12 (sections_of (lines_of breaks12 text)) ≡ Some read.documents
documents_so_far breaks12 depth text read so ends =
    ap (λ ls. sections_read depth breaks12 (sections_of ls)) (sym (append-nil (lines_of breaks12 text)))
    ∙ ap (sections_read depth breaks12) (so.cuts [] refl ∙ ap (λ t. record { before = so.prefix; sections = t }) (append-nil so.sections))
    ∙ ap (option_and_then documents_at_end) so.reads
    ∙ ap (λ x. if x then Some read.documents else None) ends

-- Directives

-- each line begins with `%`
abbrev pub Percents : List Line → Type 0
Percents lines = list_all (λ line. begins_with_percent line.text) lines ≡ true

-- such a line is no marker
percent_markerless : (t : Text) → begins_with_percent t ≡ true → is_markerless (marker_of t) ≡ true
percent_markerless t h = grind (false≢true, arith, eqb-true)

-- and no comment
percent_uncommented : (t : Text) → begins_with_percent t ≡ true → begins_comment t ≡ false
percent_uncommented [] h = refl
percent_uncommented (c ∷ t) h = ap (λ d. begins_comment (d ∷ t)) (eqb-true c 0x25 h)

-- none of them is
pub percents_markerless : (lines : List Line) → Percents lines → AreContent lines
percents_markerless lines h =
    all_content lines (all_pass (λ line. begins_with_percent line.text) (λ line. is_content line.text)
    (λ line e. and_from _ _ (percent_markerless line.text e) (ap not (percent_uncommented line.text e))) lines h)

-- nor is such a line skipped
percent_shows : (t : Text) → begins_with_percent t ≡ true → is_skipped t ≡ false
percent_shows [] h = absurd (false≢true h)
percent_shows (c ∷ t) h = ap (λ d. is_skipped (d ∷ t)) (eqb-true c 0x25 h)

-- so none of them is left out
pub percents_shown : (lines : List Line) → Percents lines → without_skipped_lines lines ≡ lines
percents_shown [] h = refl
percents_shown (line ∷ rest) h = grind (arith, and_parts, percent_shows)

-- at a stream's start directives are read, or nothing
pub prefix_prologue : (breaks12 : Bool) (depth : ℕ) (lines : List Line) (parsed : Prologue) → Percents lines → prologue_read lines ≡ Some parsed
    → lines_before_marker_read (prefix_kind lines) depth breaks12 lines ≡ Some (record { documents = []; place = after_prologue parsed })
prefix_prologue breaks12 depth [] parsed percents reads = ap (with_prologue []) reads
prefix_prologue breaks12 depth (line ∷ rest) parsed percents reads =
    ap (λ x. lines_before_marker_read (if x then directive_lines else document_lines) depth breaks12 (line ∷ rest))
    (and_parts (begins_with_percent line.text) (list_all (λ line. begins_with_percent line.text) rest) percents).0
    ∙ ap (λ ls. with_prologue [] (prologue_read ls)) (content_kept (line ∷ rest) (percents_markerless (line ∷ rest) percents))
    ∙ ap (with_prologue []) reads
