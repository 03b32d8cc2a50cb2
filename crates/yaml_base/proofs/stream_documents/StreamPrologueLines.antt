-- The lines of a document's directives: each begins with `%`, and they are read as its version and its directives.
use Rattle.yaml_base.proofs.Common.{nat_tests}
use Rattle.yaml_base.proofs.Common.{option_and_then, Option, None, Bool, true, List, [], ◌++◌, ◌∷◌, refl, ◌≡◌, int_eq, append-nil, append_assoc, ap, sym}
use Rattle.yaml_base.proofs.Common.{◌∙◌, arith, list_all, Text, line_feed, Rendered, first_cursor, render_then, Version, TagDirective, DocumentStart}
use Rattle.yaml_base.proofs.Common.{render_version, render_tag_directives, directive_scalars, Effective, version_fault}
use Rattle.yaml_base.proofs.{NoFaults.neither, PercentLaws.prefix_stands, TagForms.handle_form, TagWords.handle_ends_no_word}
use Rattle.yaml_base.proofs.{stream_documents.StreamSoFar.Percents, stream_nodes.StreamBegun.shown_line}
use Rattle.yaml_base.proofs.Common.{directives_fault_after, directives_fault, prologue_read, begins_with_percent, Line, lines_of, text_of_lines}
use Rattle.yaml_base.proofs.stream_documents.StreamRootsStand.{prologue_text, PrologueStands}
use Rattle.yaml_base.proofs.stream_lines.StreamClosed.{character_line, lines_broken, closed_behind}
use Rattle.yaml_base.proofs.stream_lines.StreamLineLaws.{is_closed, OneLine, one_line_both}
use Rattle.yaml_base.proofs.stream_documents.StreamPrologues.{prefix_no_white, tag_lines, version_lines, prologue_lines, prologue_reads}

-- Lines with their breaks

-- each line is one, and a break ends it
abbrev pub WholeLines : Bool → List Line → Type 0
WholeLines breaks12 [] = Unit {0}
WholeLines breaks12 (line ∷ rest) = OneLine breaks12 line.text × (line.ending ≡ line_feed ∷ []) × WholeLines breaks12 rest

-- they are the first lines of the text with more after them
whole_lines : (breaks12 : Bool) (lines : List Line) (rest : Text) → WholeLines breaks12 lines
    → lines_of breaks12 (text_of_lines lines ++ rest) ≡ lines ++ lines_of breaks12 rest
whole_lines breaks12 [] rest h = refl
whole_lines breaks12 (line ∷ lines) rest h = grind (arith, append_assoc, lines_broken, whole_lines breaks12 lines rest h.2)

-- lines, and then others
whole_both : (breaks12 : Bool) (some others : List Line) → WholeLines breaks12 some → WholeLines breaks12 others → WholeLines breaks12 (some ++ others)
whole_both breaks12 [] others h k = k
whole_both breaks12 (line ∷ rest) others h k = (h.0, h.1, whole_both breaks12 rest others h.2 k)

-- the text of lines, and then of others
text_of_both : (some others : List Line) → text_of_lines (some ++ others) ≡ text_of_lines some ++ text_of_lines others
text_of_both [] others = refl
text_of_both (line ∷ rest) others = grind (arith, append_assoc, text_of_both rest others)

-- A prologue's lines

tags_whole : (breaks12 portable : Bool) (before directives : List TagDirective) → directives_fault_after before directives ≡ None
    → WholeLines breaks12 (tag_lines portable directives)
tags_whole breaks12 portable before [] sound = tt
tags_whole breaks12 portable before (directive ∷ rest) sound =
    grind (
      arith,
      nat_tests,
      neither,
      one_line_both,
      shown_line,
      handle_ends_no_word,
      handle_form,
      character_line,
      prefix_no_white,
      prefix_stands,
      tags_whole breaks12 portable (before ++ directive ∷ []) rest,
    )

version_whole : (breaks12 : Bool) (version : Option Version) → WholeLines breaks12 (version_lines version)
version_whole breaks12 version = grind (arith, int_eq)

-- the lines of a prologue without a fault
prologue_whole : (breaks12 portable : Bool) (start : DocumentStart) → directives_fault start.directives ≡ None
    → WholeLines breaks12 (prologue_lines portable start)
prologue_whole breaks12 portable start sound =
    whole_both breaks12 _ _ (version_whole breaks12 start.version) (tags_whole breaks12 portable [] _ sound)

-- they are the first lines of the text with more after them
prologue_first : (breaks12 portable : Bool) (start : DocumentStart) (rest : Text) → directives_fault start.directives ≡ None
    → lines_of breaks12 (text_of_lines (prologue_lines portable start) ++ rest) ≡ prologue_lines portable start ++ lines_of breaks12 rest
prologue_first breaks12 portable start rest sound =
    whole_lines breaks12 (prologue_lines portable start) rest (prologue_whole breaks12 portable start sound)

-- Each begins with a `%`

tags_percent : (portable : Bool) (directives : List TagDirective) → Percents (tag_lines portable directives)
tags_percent portable [] = refl
tags_percent portable (directive ∷ rest) = tags_percent portable rest

-- each line of a prologue does
prologue_percent : (portable : Bool) (start : DocumentStart) → Percents (prologue_lines portable start)
prologue_percent portable start = grind (arith, tags_percent)

-- As they are rendered

tags_are : (portable : Bool) (directives : List TagDirective)
    → render_tag_directives portable directives first_cursor ≡ record { text = text_of_lines (tag_lines portable directives); cursor = first_cursor }
tags_are portable [] = refl
tags_are portable (directive ∷ rest) = grind (arith, append_assoc, tags_are portable rest)

-- the version and the directives are rendered as these lines
prologue_rendered : (portable : Bool) (start : DocumentStart)
    → render_then (render_version start.version first_cursor) (render_tag_directives portable start.directives)
    ≡ record { text = text_of_lines (prologue_lines portable start); cursor = first_cursor }
prologue_rendered portable start = grind (arith, int_eq, tags_are, text_of_both)

-- A prologue as it is rendered

-- the last of whole lines ends their text
whole_closed : (breaks12 : Bool) (lines : List Line) → WholeLines breaks12 lines → is_closed breaks12 (text_of_lines lines) ≡ true
whole_closed breaks12 [] h = refl
whole_closed breaks12 (line ∷ rest) h = grind (arith, closed_behind, whole_closed breaks12 rest h.2)

-- the lines of its text
prologue_text_lines : (s : Effective) (start : DocumentStart) → directives_fault start.directives ≡ None
    → lines_of s.breaks12 (prologue_text s start) ≡ prologue_lines s.portable start
prologue_text_lines s start sound =
    ap (λ (rendered : Rendered). lines_of s.breaks12 rendered.text) (prologue_rendered _ start)
    ∙ ap (lines_of s.breaks12) (sym (append-nil (text_of_lines (prologue_lines s.portable start))))
    ∙ prologue_first _ _ start [] sound ∙ append-nil (prologue_lines s.portable start)

-- it ends with a break, each of its lines begins with a `%`, and they are read as the version and the directives
pub prologue_stands : (s : Effective) (start : DocumentStart) → option_and_then version_fault start.version ≡ None
    → directives_fault start.directives ≡ None → list_all directive_scalars start.directives ≡ true → PrologueStands s start
prologue_stands s start version directives scalars =
    let lines = prologue_text_lines s start directives in
    record {
      ends = ap (λ (rendered : Rendered). is_closed s.breaks12 rendered.text) (prologue_rendered s.portable start)
          ∙ whole_closed s.breaks12 (prologue_lines s.portable start) (prologue_whole s.breaks12 s.portable start directives);
      percents = ap (list_all (λ line. begins_with_percent line.text)) lines ∙ prologue_percent s.portable start;
      reads = ap prologue_read lines ∙ prologue_reads s.portable start version directives scalars;
    }
