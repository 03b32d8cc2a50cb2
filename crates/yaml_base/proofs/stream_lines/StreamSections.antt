-- Lines that are these sections of a stream, whatever sections follow them.
use Rattle.yaml_base.proofs.Common.{and_from, or_from, or_parts, and-false, eqb-true, list_all-append, sym, ◌==◌, space, is_spaces}
use Rattle.yaml_base.proofs.{AllPass.all_pass, stream_lines.StreamTidyLaws.lines_after_first}
use Rattle.yaml_base.proofs.Common.{arith, Bool, false, true, List, [], ◌++◌, ◌∷◌, refl, ◌≡◌, true≢false, append-nil, and_parts, list_all}
use Rattle.yaml_base.proofs.Common.{end_marker, no_exclamation, marker_of, Section, sections_of, Line}
use Rattle.yaml_base.proofs.Common.{ap, ◌∙◌, not, ◌&&◌, not-true, if◌then◌else◌, Text}
use Rattle.yaml_base.specs.streams.StreamDocuments.{MarkerKind, prepend_content, without_last_comments, are_block_header, content_after, content_lines}
use Rattle.std.specs.List.{slice_split}
use Rattle.yaml_base.specs.Characters.{is_space}
use Rattle.yaml_base.specs.streams.StreamLines.{begins_comment, all_blank}

-- a line is no marker
abbrev pub is_markerless : MarkerKind → Bool
is_markerless no_exclamation = true
is_markerless _ = false

-- true of a line that is no marker and no comment at column 0
abbrev pub is_content : Text → Bool
is_content text = is_markerless (marker_of text) && not (begins_comment text)

-- true if the last of some lines that isn't blank is no comment at column 0, or all are blank
abbrev pub ends_content : List Line → Bool
ends_content [] = true
ends_content (line ∷ rest) = if all_blank rest then not (begins_comment line.text) else ends_content rest

-- lines within a document: none is a marker, and none is left out at their end
pub record AreContent (lines : List Line) : Type 0 where
  pub markerless : list_all (λ line. is_markerless (marker_of line.text)) lines ≡ true
  pub ends : ends_content lines ≡ true

-- a blank line begins no comment
blank_uncommented : (t : Text) → is_spaces t ≡ true → begins_comment t ≡ false
blank_uncommented [] h = refl
blank_uncommented (c ∷ t) h = ap (λ d. begins_comment (d ∷ t)) (eqb-true c space (and_parts (c == space) (is_spaces t) h).0)

-- blank lines end so
blank_ends : (lines : List Line) → all_blank lines ≡ true → ends_content lines ≡ true
blank_ends [] h = refl
blank_ends (line ∷ rest) h =
    let parts = and_parts (is_spaces line.text) (all_blank rest) h in
    ap (λ b. if b then not (begins_comment line.text) else ends_content rest) parts.1 ∙ ap not (blank_uncommented line.text parts.0)

-- and lines do if they do with a line before them
later_ends : (line : Line) (rest : List Line) → ends_content (line ∷ rest) ≡ true → ends_content rest ≡ true
later_ends line rest h = by (all_blank rest) refl h
  where
    by : (x : Bool) → all_blank rest ≡ x → (if x then not (begins_comment line.text) else ends_content rest) ≡ true → ends_content rest ≡ true
    by true e h = blank_ends rest e
    by false e h = h

-- so the lines after the first are within a document, too
pub content_later : (line : Line) (rest : List Line) → AreContent (line ∷ rest) → AreContent rest
content_later line rest h = record {
  markerless =
      (and_parts (is_markerless (marker_of line.text)) (list_all (λ line. is_markerless (marker_of line.text)) rest) h.markerless).1;
  ends = later_ends line rest h.ends;
}

pub later_content : (lines : List Line) → AreContent lines → AreContent (lines_after_first lines)
later_content [] h = h
later_content (line ∷ rest) h = content_later line rest h

-- lines of which none is a marker or a comment at column 0
pub all_content : (lines : List Line) → list_all (λ line. is_content line.text) lines ≡ true → AreContent lines
all_content lines h = record {
  markerless = all_pass (λ line. is_content line.text) (λ line. is_markerless (marker_of line.text)) (λ line e. (parts line e).0) lines h;
  ends = ends lines h;
}
  where
    parts : (line : Line) → is_content line.text ≡ true → (is_markerless (marker_of line.text) ≡ true) × (not (begins_comment line.text) ≡ true)
    parts line e = and_parts (is_markerless (marker_of line.text)) (not (begins_comment line.text)) e

    ends : (lines : List Line) → list_all (λ line. is_content line.text) lines ≡ true → ends_content lines ≡ true
    ends [] h = refl
    ends (line ∷ rest) h =
        let both = and_parts (is_content line.text) (list_all (λ line. is_content line.text) rest) h in
        by (all_blank rest) (parts line both.0).1 (ends rest both.1)
      where
        by : (x : Bool) → not (begins_comment line.text) ≡ true → ends_content rest ≡ true
            → (if x then not (begins_comment line.text) else ends_content rest) ≡ true
        by true last more = last
        by false last more = more

-- blank lines at the end of two texts are so at the end of the first
blank_front : (a b : List Line) → all_blank (a ++ b) ≡ true → all_blank a ≡ true
blank_front [] b h = refl
blank_front (line ∷ a) b h =
    let parts = and_parts (is_spaces line.text) (all_blank (a ++ b)) h in and_from (is_spaces line.text) (all_blank a) parts.0 (blank_front a b parts.1)

-- lines, and then others
ends_both : (a b : List Line) → ends_content a ≡ true → ends_content b ≡ true → ends_content (a ++ b) ≡ true
ends_both [] b h k = k
ends_both (line ∷ a) b h k = by (all_blank (a ++ b)) refl (ends_both a b (later_ends line a h) k)
  where
    by : (x : Bool) → all_blank (a ++ b) ≡ x → ends_content (a ++ b) ≡ true
        → (if x then not (begins_comment line.text) else ends_content (a ++ b)) ≡ true
    by true e more = sym (ap (λ x. if x then not (begins_comment line.text) else ends_content a) (blank_front a b e)) ∙ h
    by false e more = more

pub content_both : (a b : List Line) → AreContent a → AreContent b → AreContent (a ++ b)
content_both a b h k = record {
  markerless =
      list_all-append (λ line. is_markerless (marker_of line.text)) a b
      ∙ and_from (list_all (λ line. is_markerless (marker_of line.text)) a) (list_all (λ line. is_markerless (marker_of line.text)) b)
      h.markerless k.markerless;
  ends = ends_both a b h.ends k.ends;
}

-- comments may precede lines that aren't blank
blank_last : (a b : List Line) → all_blank b ≡ false → all_blank (a ++ b) ≡ false
blank_last [] b h = h
blank_last (line ∷ a) b h = ap (λ x. is_spaces line.text && x) (blank_last a b h) ∙ and-false (is_spaces line.text)

ends_after : (a b : List Line) → all_blank b ≡ false → ends_content b ≡ true → ends_content (a ++ b) ≡ true
ends_after [] b some h = h
ends_after (line ∷ a) b some h =
    ap (λ x. if x then not (begins_comment line.text) else ends_content (a ++ b)) (blank_last a b some) ∙ ends_after a b some h

pub content_after_head : (head lines : List Line) → list_all (λ line. is_markerless (marker_of line.text)) head ≡ true → all_blank lines ≡ false
    → AreContent lines → AreContent (head ++ lines)
content_after_head head lines none some h = record {
  markerless =
      list_all-append (λ line. is_markerless (marker_of line.text)) head lines
      ∙ and_from (list_all (λ line. is_markerless (marker_of line.text)) head) (list_all (λ line. is_markerless (marker_of line.text)) lines)
      none h.markerless;
  ends = ends_after head lines some h.ends;
}

-- so no comment is left out at their end
lines_kept : (lines : List Line) → ends_content lines ≡ true → without_last_comments lines ≡ lines
lines_kept [] h = refl
lines_kept (line ∷ rest) h = ap (prepend_content line) (lines_kept rest (later_ends line rest h)) ∙ by (all_blank rest) h
  where
    by : (x : Bool) → (if x then not (begins_comment line.text) else ends_content rest) ≡ true
        → (if begins_comment line.text && x then [] else line ∷ rest) ≡ line ∷ rest
    by true h = ap (λ b. if b && true then [] else line ∷ rest) (not-true (begins_comment line.text) h)
    by false h = ap (λ b. if b then [] else line ∷ rest) (and-false (begins_comment line.text))

pub all_kept : (lines : List Line) → AreContent lines → without_last_comments lines ≡ lines
all_kept lines h = lines_kept lines h.ends

either_way : {A : Type 0} (x : Bool) (a : A) → (if x then a else a) ≡ a
either_way true a = refl
either_way false a = refl

-- whatever text is before them
pub kept_after : (text : Text) (lines : List Line) → AreContent lines → content_after text lines ≡ lines
kept_after text lines h =
    ap (λ ls. if are_block_header (slice_split is_space text) && all_blank ls then lines else ls) (all_kept lines h)
    ∙ either_way (are_block_header (slice_split is_space text) && all_blank lines) lines

-- all these lines stay
pub content_kept : (lines : List Line) → AreContent lines → content_lines lines ≡ lines
content_kept [] h = refl
content_kept (line ∷ rest) h =
    ap (λ ls. line ∷ ls) (kept_after line.text rest (content_later line rest h))

-- lines without a marker precede the first section
all_before : (body lines : List Line) → list_all (λ line. is_markerless (marker_of line.text)) body ≡ true
    → sections_of (body ++ lines) ≡ record { before = body ++ (sections_of lines).before; sections = (sections_of lines).sections }
all_before [] lines h = refl
all_before (line ∷ body) lines h = grind (arith, and_parts, and_from, or_parts, or_from, end_marker, all_before body lines)

pub markerless_before : (body lines : List Line) → AreContent body
    → sections_of (body ++ lines) ≡ record { before = body ++ (sections_of lines).before; sections = (sections_of lines).sections }
markerless_before body lines h = all_before body lines h.markerless

-- lines that are these sections
pub record Marks (lines : List Line) (sections : List Section) : Type 0 where
  pub markers : (rest : List Line) → (sections_of rest).before ≡ []
      → sections_of (lines ++ rest) ≡ record { before = []; sections = sections ++ (sections_of rest).sections }

-- a marker is one
abbrev pub IsMarker : MarkerKind → Type 0
IsMarker marker = is_markerless marker ≡ false

-- a line with a marker, and lines without one
pub markers_one : (line : Line) (body : List Line) → IsMarker (marker_of line.text) → AreContent body
    → Marks (line ∷ body) (record { marker = marker_of line.text; line = line; rest = body } ∷ [])
markers_one line body is h = grind (arith, markerless_before, append-nil, true≢false)
