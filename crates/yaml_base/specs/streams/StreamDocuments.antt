-- The documents of a stream: its lines are cut at the markers `---` and `...`; the lines before the first marker are the first document or
-- its directives.
-- Source, unless a definition names its own: that of its part.
use Rattle.std.specs.Prelude.{ℕ, suc, pos, Bool, true, false, Option, None, Some, List, [], ◌∷◌, ◌++◌, ◌==◌, ◌||◌, ◌&&◌, not, length, fold, codes}
use Rattle.std.specs.Prelude.{bytes_eq, option_map, option_and_then, is_some, if◌then◌else◌}
use Rattle.std.specs.List.{slice_split, list_any}
use Rattle.yaml_base.specs.Characters.{Text, is_space, is_among}
use Rattle.yaml_base.specs.Event.{Version, TagDirective}
use Rattle.yaml_base.specs.reading.ReadTags.{is_handle_text, prefix_parsed, is_handle_given}
use Rattle.yaml_base.specs.streams.StreamContent.{Tree, DocumentTree}
use Rattle.yaml_base.specs.streams.StreamLines.{Line, lines_of, begins_comment, is_skipped, without_skipped_lines, all_blank, ends_indicator, blanked}
use Rattle.yaml_base.specs.streams.StreamScalars.{Rules}
use Rattle.yaml_base.specs.streams.StreamNodes.{begins_properties, node_read}

-- Markers. Source: helpers of this project's reader for c-document-start, c-document-end (YAML 1.1, section 7.2 Document Boundary Markers).

-- true if a line begins with three of an indicator, before a space or its end (YAML 1.1, section 7.2 Document Boundary Markers,
-- c-document-start, c-document-end)
abbrev pub begins_with_marker : ℕ → Text → Bool
begins_with_marker symbol (a ∷ b ∷ c ∷ rest) = a == symbol && b == symbol && c == symbol && ends_indicator rest
begins_with_marker symbol _ = false

-- the kind of a line: it begins a document, ends one, or is inside
pub data MarkerKind : Type 0 where
  start_marker : MarkerKind
  end_marker : MarkerKind
  no_exclamation : MarkerKind

-- `---`, `...`, or neither (YAML 1.1, section 7.2 Document Boundary Markers, c-document-start, c-document-end)
abbrev pub marker_of : Text → MarkerKind
marker_of text =
    if begins_with_marker 0x2D text then start_marker else (if begins_with_marker 0x2E text then end_marker else no_exclamation)

-- a line with a marker, and those after it up to the next marker
pub record Section : Type 0 where
  pub marker : MarkerKind
  pub line : Line
  pub rest : List Line

-- the lines before the first marker, and then a section for each marker
pub record Sections : Type 0 where
  pub before : List Line
  pub sections : List Section

-- a line before sections
abbrev pub prepend_section : MarkerKind → Line → Sections → Sections
prepend_section no_exclamation line after = record { before = line ∷ after.before; sections = after.sections }
prepend_section marker line after =
    record { before = []; sections = record { marker = marker; line = line; rest = after.before } ∷ after.sections }

-- the lines of a stream, cut at its markers
abbrev pub sections_of : List Line → Sections
sections_of [] = record { before = []; sections = [] }
sections_of (line ∷ rest) = prepend_section (marker_of line.text) line (sections_of rest)

-- Comments. Source: helpers of this project's reader for l-comment (YAML 1.1, section 6.2 Comments).

-- a line before others of its section, if these are without the comments at their end; a comment at column 0 that precedes blank lines alone
-- is at the end, too
abbrev pub prepend_content : Line → List Line → List Line
prepend_content line rest = if begins_comment line.text && all_blank rest then [] else line ∷ rest

-- lines without the comments at column 0 after their last other line, and without the blank lines after these comments; blank lines before
-- them may belong to a block scalar
abbrev pub without_last_comments : List Line → List Line
without_last_comments [] = []
without_last_comments (line ∷ rest) = prepend_content line (without_last_comments rest)

-- true of a word that opens a block scalar, if it says no indentation past 1 (YAML 1.1, section 9.2 Block Scalar Header, c-b-block-header)
abbrev pub opens_block_scalar : Text → Bool
opens_block_scalar [] = false
opens_block_scalar (c ∷ rest) = (c == 0x7C || c == 0x3E) && not (list_any (is_among (codes "23456789")) rest)

-- true of words that are properties and then such a word
abbrev pub are_block_header : List Text → Bool
are_block_header [] = false
are_block_header (word ∷ rest) = opens_block_scalar word || ((length word == 0 || begins_properties word) && are_block_header rest)

-- the lines after a text without the comments at their end; if the text opens a block scalar and has no other line, readers disagree on
-- whether such a comment is the scalar's first line, so it stays, and is refused (this project)
abbrev pub content_after : Text → List Line → List Line
content_after text lines =
    if are_block_header (slice_split is_space text) && all_blank (without_last_comments lines) then lines else without_last_comments lines

-- the lines of a root or of directives without the comments at their end; the first line, which is none, stays
abbrev pub content_lines : List Line → List Line
content_lines [] = []
content_lines (line ∷ rest) = line ∷ content_after line.text rest

-- Directives. Source: helpers of this project's reader for l-directive (YAML 1.1, section 7.1 Directives).

-- a document's prologue: the directives before its `---`
pub record Prologue : Type 0 where
  pub version : Option Version
  pub directives : List TagDirective

-- the empty prologue
abbrev pub no_prologue : Prologue
no_prologue = record { version = None; directives = [] }

-- true of the empty prologue
abbrev pub is_no_prologue : Prologue → Bool
is_no_prologue prologue = not (is_some prologue.version) && length prologue.directives == 0

-- 1.1 and 1.2 (YAML 1.1, section 7.1.1 "YAML" Directive, ns-yaml-version; 1.2 is libyaml's)
abbrev pub version_parsed : Text → Option Version
version_parsed word =
    if bytes_eq word (codes "1.1") then Some (record { major = pos 1; minor = pos 1 })
    else (if bytes_eq word (codes "1.2") then Some (record { major = pos 1; minor = pos 2 }) else None)

-- a prologue with a version, which comes first (this project; YAML 1.1, section 7.1.1 "YAML" Directive, ns-yaml-directive, asks for one at
-- most)
abbrev pub with_version : Prologue → Option Version → Option Prologue
with_version prologue version =
    if is_no_prologue prologue then option_map (λ parsed. record { version = Some parsed; directives = [] }) version else None

-- a prologue with one more directive; a handle is given once (YAML 1.1, section 7.1.2 "TAG" Directive, ns-tag-directive)
abbrev pub with_directive : Prologue → Text → Option Text → Option Prologue
with_directive prologue handle prefix =
    if is_handle_text handle && not (is_handle_given handle prologue.directives)
    then option_map
    (λ parsed. record { version = prologue.version; directives = prologue.directives ++ record { handle = handle; prefix = parsed } ∷ [] })
    prefix else None

-- a directive by its words (YAML 1.1, section 7.1 Directives, l-directive)
abbrev pub directive_by_words : Prologue → List Text → Option Prologue
directive_by_words prologue (name ∷ word ∷ []) = if bytes_eq name (codes "%YAML") then with_version prologue (version_parsed word) else None
directive_by_words prologue (name ∷ handle ∷ prefix ∷ []) =
    if bytes_eq name (codes "%TAG") then with_directive prologue handle (prefix_parsed prefix) else None
directive_by_words prologue _ = None

-- a prologue with one more line of directives, whose words are one space apart (this project; YAML 1.1, section 7.1 Directives,
-- l-directive, allows more white space)
abbrev pub directive_line : Option Prologue → Line → Option Prologue
directive_line None line = None
directive_line (Some prologue) line = directive_by_words prologue (slice_split is_space line.text)

-- the directives of some lines (YAML 1.1, section 7.1 Directives, l-directive)
abbrev pub prologue_read : List Line → Option Prologue
prologue_read lines = fold directive_line (Some no_prologue) lines

-- Documents. Source: YAML 1.1, section 7.3 Documents, l-explicit-document.

-- true if a line begins with a character that is no space and no `#` (this project)
abbrev pub stands_at_margin : List Line → Bool
stands_at_margin [] = true
stands_at_margin (line ∷ rest) = not (ends_indicator line.text) && not (begins_comment line.text)

-- a root on lines of its own, the first of which begins at column 0; without lines it is the empty scalar (this project, for YAML 1.1,
-- section 7.3 Documents, l-implicit-document)
abbrev pub root_below : ℕ → Rules → List Line → Option Tree
root_below depth rules lines = if stands_at_margin lines then node_read depth rules true None (content_lines lines) else None

-- a root on the line of `---` or, if the line holds nothing or a comment alone, below it; no block begins on that line
-- (libyaml's scanner, for YAML 1.1, section 7.3 Documents, l-explicit-document)
abbrev pub root_after_marker : (marker_alone : Bool) → ℕ → Rules → Line → List Line → Option Tree
root_after_marker true depth rules line rest = root_below depth rules (without_skipped_lines rest)
root_after_marker false depth rules line rest = node_read depth rules false None (content_lines (line ∷ rest))

-- the text after a marker (YAML 1.1, section 7.2 Document Boundary Markers, c-document-start)
abbrev pub after_marker : Text → Text
after_marker (a ∷ b ∷ c ∷ rest) = rest
after_marker _ = []

-- the root of a document that begins with `---` (YAML 1.1, section 7.3 Documents, l-explicit-document)
abbrev pub root_with_marker : ℕ → Rules → Line → List Line → Option Tree
root_with_marker depth rules line rest =
    root_after_marker (is_skipped (after_marker line.text)) depth rules (blanked 3 (after_marker line.text) line.ending) rest

-- Streams. Source: helpers of this project's reader for l-yaml-stream (YAML 1.1, section 7.4 Complete Stream).

-- the state between documents: a marker of either kind may come, or after directives and `...` only `---`
pub data StreamPlace : Type 0 where
  after_root : StreamPlace
  after_prologue : Prologue → StreamPlace

-- the documents and the state of a stream so far
pub record StreamRead : Type 0 where
  pub documents : List DocumentTree
  pub place : StreamPlace

-- one document more (YAML 1.1, section 7.3 Documents, l-implicit-document, l-explicit-document)
abbrev pub with_read_document : List DocumentTree → Prologue → Option Tree → Option StreamRead
with_read_document documents prologue root =
    option_map
    (λ tree. record {
      documents = documents ++ record { version = prologue.version; directives = prologue.directives; root = tree } ∷ [];
      place = after_root;
    })
    root

-- the document of `---`, with the directives before it (YAML 1.1, section 7.3 Documents, l-explicit-document)
abbrev pub document_read : ℕ → Bool → List DocumentTree → Prologue → Section → Option StreamRead
document_read depth breaks12 documents prologue section =
    with_read_document documents prologue
    (root_with_marker depth (record { breaks12 = breaks12; directives = prologue.directives }) section.line section.rest)

-- directives before a `---` (YAML 1.1, section 7.1 Directives, l-directive)
abbrev pub with_prologue : List DocumentTree → Option Prologue → Option StreamRead
with_prologue documents prologue = option_map (λ parsed. record { documents = documents; place = after_prologue parsed }) prologue

-- one section more: `...` is alone on its line, blank lines and comment lines may follow it, and then directives (YAML 1.1, sections
-- 7.2 Document Boundary Markers and 7.3 Documents, l-document-suffix, l-explicit-document; `...` alone on its line is this project's rule)
abbrev pub section_by_kind : MarkerKind → ℕ → Bool → List DocumentTree → StreamPlace → Section → Option StreamRead
section_by_kind start_marker depth breaks12 documents after_root section = document_read depth breaks12 documents no_prologue section
section_by_kind start_marker depth breaks12 documents (after_prologue prologue) section = document_read depth breaks12 documents prologue section
section_by_kind end_marker depth breaks12 documents after_root section =
    if length section.line.text == 3
    then with_prologue documents (prologue_read (without_skipped_lines (without_last_comments section.rest))) else None
section_by_kind _ depth breaks12 documents place section = None

-- one section more of a stream
abbrev pub section_read : ℕ → Bool → Option StreamRead → Section → Option StreamRead
section_read depth breaks12 None section = None
section_read depth breaks12 (Some read) section = section_by_kind section.marker depth breaks12 read.documents read.place section

-- the kind of the lines before the first marker
pub data PrefixKind : Type 0 where
  no_lines : PrefixKind
  directive_lines : PrefixKind
  document_lines : PrefixKind

-- true if a line begins with `%` (YAML 1.1, section 5.3 Indicator Characters, c-directive)
abbrev pub begins_with_percent : Text → Bool
begins_with_percent [] = false
begins_with_percent (c ∷ rest) = c == 0x25

-- nothing, a `%`, or a document's text
abbrev pub prefix_kind : List Line → PrefixKind
prefix_kind [] = no_lines
prefix_kind (line ∷ rest) = if begins_with_percent line.text then directive_lines else document_lines

-- the lines before the first marker: none, directives, or a document that has no `---`
-- (YAML 1.1, sections 7.1 Directives and 7.3 Documents, l-directive, l-implicit-document)
abbrev pub lines_before_marker_read : PrefixKind → ℕ → Bool → List Line → Option StreamRead
lines_before_marker_read no_lines depth breaks12 lines = Some (record { documents = []; place = after_prologue no_prologue })
lines_before_marker_read directive_lines depth breaks12 lines = with_prologue [] (prologue_read (content_lines lines))
lines_before_marker_read document_lines depth breaks12 lines =
    with_read_document [] no_prologue (root_below depth (record { breaks12 = breaks12; directives = [] }) lines)

-- true if a stream may end: after a document, or if no directives wait for one
abbrev pub may_end : StreamPlace → Bool
may_end after_root = true
may_end (after_prologue prologue) = is_no_prologue prologue

-- the documents of a stream that may end
abbrev pub documents_at_end : StreamRead → Option (List DocumentTree)
documents_at_end read = if may_end read.place then Some read.documents else None

-- the documents of a stream's lines, cut at its markers
abbrev pub sections_read : ℕ → Bool → Sections → Option (List DocumentTree)
sections_read depth breaks12 all =
    option_and_then documents_at_end
    (fold (section_read depth breaks12) (lines_before_marker_read (prefix_kind all.before) depth breaks12 all.before) all.sections)

-- the documents of a text whose line breaks are read; blank lines alone hold none (YAML 1.1, section 7.4 Complete Stream, l-yaml-stream)
abbrev pub documents_of : Bool → Text → Option (List DocumentTree)
documents_of breaks12 text =
    let lines = lines_of breaks12 text in
    if all_blank lines then Some [] else sections_read (suc (length text)) breaks12 (sections_of lines)
