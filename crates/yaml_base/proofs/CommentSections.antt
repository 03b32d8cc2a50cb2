-- A head around documents: it has no marker; at a stream's start, and after a document's last line, it is left out.
use Rattle.yaml_base.proofs.Common.{ℕ, zero, suc, Bool, false, true, List, [], ◌∷◌, ◌++◌, ◌≡◌, ◌&&◌, not, refl, ap, ◌∙◌, map, append_assoc, subst}
use Rattle.yaml_base.proofs.Common.{if◌then◌else◌, or_parts, and_from, list_all, list_any, Text, line_feed, space, Line, spaces, marker_of, is_read_break}
use Rattle.yaml_base.proofs.CommentLines.{comment_hashed, comment_on_line, head_line, head_lines_alone}
use Rattle.yaml_base.proofs.stream_documents.StreamNoComment.{no_marker}
use Rattle.yaml_base.proofs.stream_lines.StreamLineLaws.{OneLine}
use Rattle.yaml_base.specs.Comments.{HeadLine, blank_line, comment_line, comment_written}
use Rattle.yaml_base.specs.CommentReading.{HeadsAreHeadings, HeadsAreNoContent, HeadsAreNoMarkers, head_text, is_no_marker}
use Rattle.yaml_base.specs.streams.StreamDocuments.{no_exclamation, prepend_content, without_last_comments}
use Rattle.yaml_base.specs.streams.StreamLines.{all_blank, begins_comment}
use Rattle.yaml_base.specs.streams.StreamReader.{after_comments}

-- Markers

no_marker_after_space : (text : Text) → marker_of (space ∷ text) ≡ no_exclamation
no_marker_after_space [] = refl
no_marker_after_space (c ∷ []) = refl
no_marker_after_space (c ∷ d ∷ rest) = refl

comment_no_marker : (column : ℕ) (text : Text) → marker_of (spaces column ++ comment_written text) ≡ no_exclamation
comment_no_marker zero text = let found = comment_hashed text in ap marker_of found.is ∙ no_marker found.rest
comment_no_marker (suc column) text = no_marker_after_space (spaces column ++ comment_written text)

line_no_marker : (column : ℕ) (line : HeadLine) → is_no_marker (marker_of (head_line column line).text) ≡ true
line_no_marker column blank_line = refl
line_no_marker column (comment_line text) = ap is_no_marker (comment_no_marker column text)

pub lines_no_markers : (column : ℕ) (lines : List HeadLine)
    → list_all (λ line. is_no_marker (marker_of line.text)) (map (head_line column) lines) ≡ true
lines_no_markers column [] = refl
lines_no_markers column (line ∷ rest) =
    and_from (is_no_marker (marker_of (head_line column line).text))
    (list_all (λ line. is_no_marker (marker_of line.text)) (map (head_line column) rest)) (line_no_marker column line) (lines_no_markers column rest)

pub heads_are_no_markers : HeadsAreNoMarkers
heads_are_no_markers breaks12 column lines =
    ap (list_all (λ line. is_no_marker (marker_of line.text))) (head_lines_alone breaks12 column lines) ∙ lines_no_markers column lines

-- Last comments

begins : (text : Text) → begins_comment (comment_written text) ≡ true
begins text = ap begins_comment (comment_hashed text).is

-- a comment, and then only blank lines
comment_dropped : (text ending : Text) (rest : List Line) → all_blank rest ≡ true
    → prepend_content (record { text = comment_written text; ending = ending }) rest ≡ []
comment_dropped text ending rest blank =
    ap (λ b. if b && all_blank rest then [] else record { text = comment_written text; ending = ending } ∷ rest) (begins text)
    ∙ ap (λ b. if b then [] else record { text = comment_written text; ending = ending } ∷ rest) blank

-- of a head at most blank lines stay
blank_left : (lines : List HeadLine) → all_blank (without_last_comments (map (head_line 0) lines)) ≡ true
blank_left [] = refl
blank_left (blank_line ∷ rest) = blank_left rest
blank_left (comment_line text ∷ rest) =
    ap all_blank (comment_dropped text (line_feed ∷ []) (without_last_comments (map (head_line 0) rest)) (blank_left rest))

-- nothing of one that begins with a comment
none_left : (comment : Text) (lines : List HeadLine) → without_last_comments (map (head_line 0) (comment_line comment ∷ lines)) ≡ []
none_left comment lines = comment_dropped comment (line_feed ∷ []) (without_last_comments (map (head_line 0) lines)) (blank_left lines)

left_after : (before more : List Line) → without_last_comments more ≡ [] → without_last_comments (before ++ more) ≡ without_last_comments before
left_after [] more none = none
left_after (line ∷ before) more none = ap (prepend_content line) (left_after before more none)

pub heads_are_no_content : HeadsAreNoContent
heads_are_no_content breaks12 comment lines before =
    ap (λ ls. without_last_comments (before ++ ls)) (head_lines_alone breaks12 0 (comment_line comment ∷ lines))
    ∙ left_after before (map (head_line 0) (comment_line comment ∷ lines)) (none_left comment lines)

-- Headings

-- a break ends a comment
break_ends : (breaks12 : Bool) (text : Text) → after_comments breaks12 true (line_feed ∷ text) ≡ after_comments breaks12 false text
break_ends true text = refl
break_ends false text = refl

-- the rest of a comment's line
rest_skipped : (breaks12 : Bool) (own text : Text) → OneLine breaks12 own
    → after_comments breaks12 true (own ++ (line_feed ∷ text)) ≡ after_comments breaks12 false text
rest_skipped breaks12 [] text one = break_ends breaks12 text
rest_skipped breaks12 (c ∷ own) text one =
    let parts : (is_read_break breaks12 c ≡ false) × OneLine breaks12 own = or_parts (is_read_break breaks12 c) (list_any (is_read_break breaks12) own) one in
    ap (λ b. after_comments breaks12 (not b) (own ++ (line_feed ∷ text))) parts.0 ∙ rest_skipped breaks12 own text parts.1

hash_skipped : (breaks12 : Bool) (rest text : Text) → OneLine breaks12 (0x23 ∷ rest)
    → after_comments breaks12 false ((0x23 ∷ rest) ++ (line_feed ∷ text)) ≡ after_comments breaks12 false text
hash_skipped breaks12 rest text one =
    rest_skipped breaks12 rest text (or_parts (is_read_break breaks12 0x23) (list_any (is_read_break breaks12) rest) one).1

-- a comment and its break
comment_skipped : (breaks12 : Bool) (comment text : Text)
    → after_comments breaks12 false (comment_written comment ++ (line_feed ∷ text)) ≡ after_comments breaks12 false text
comment_skipped breaks12 comment text =
    let found = comment_hashed comment in
    ap (λ t. after_comments breaks12 false (t ++ (line_feed ∷ text))) found.is
    ∙ hash_skipped breaks12 found.rest text (subst (OneLine breaks12) found.is (comment_on_line breaks12 0 comment))

-- an empty line
break_skipped : (breaks12 : Bool) (text : Text) → after_comments breaks12 false (line_feed ∷ text) ≡ after_comments breaks12 false text
break_skipped true text = refl
break_skipped false text = refl

pub heads_are_headings : HeadsAreHeadings
heads_are_headings breaks12 [] text = refl
heads_are_headings breaks12 (blank_line ∷ rest) text = break_skipped breaks12 (head_text 0 rest ++ text) ∙ heads_are_headings breaks12 rest text
heads_are_headings breaks12 (comment_line comment ∷ rest) text =
    let own = comment_written comment in
    let others = head_text 0 rest in
    ap (after_comments breaks12 false)
    (append_assoc (own ++ (line_feed ∷ [])) others text ∙ append_assoc own (line_feed ∷ []) (others ++ text))
    ∙ comment_skipped breaks12 comment (others ++ text) ∙ heads_are_headings breaks12 rest text
