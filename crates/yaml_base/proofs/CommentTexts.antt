-- Texts of comments: each is a comment, and each line of a head is blank or spaces and a comment.
use Rattle.yaml_base.proofs.Common.{ℕ, zero, suc, Bool, false, true, List, [], ◌∷◌, ◌++◌, ◌≡◌, ◌==◌, ◌||◌, ◌&&◌, refl, ap, sym, ◌∙◌, append_assoc, replicate}
use Rattle.yaml_base.proofs.Common.{if◌then◌else◌, and_parts, and_from, or_right, list_all, list_all-append, flat_map, not-true, Text, line_feed, space}
use Rattle.yaml_base.proofs.Common.{is_break, is_printable, not, Cursor}
use Rattle.std.proofs.lemmas.List.Splits.{slice_split_at}
use Rattle.yaml_base.proofs.AllPass.{uncut_by}
use Rattle.yaml_base.specs.scalars.Analysis.{is_empty}
use Rattle.yaml_base.specs.Comments.{HeadLine, after_hash, allowed_lines, bars_blank, blank_line, comment_line, comment_text, comment_written, fits_comment}
use Rattle.yaml_base.specs.Comments.{hash, in_comment, line_text, onto_trimmed, render_lines, single_blanks, text_lines}
use Rattle.yaml_base.specs.CommentLaws.{CommentsAreComments, HeadsAreComments, is_comment, is_comment_line}

in_comment_fits : (c : ℕ) (b : Bool) → fits_comment c ≡ b → fits_comment (if b then c else space) ≡ true
in_comment_fits c true is = is
in_comment_fits c false is = refl

trimmed_if : (c : ℕ) (b : Bool) → fits_comment c ≡ true → list_all fits_comment (if b then [] else c ∷ []) ≡ true
trimmed_if c true fits = refl
trimmed_if c false fits = and_from (fits_comment c) true fits refl

trimmed_fits : (c : ℕ) (text : Text) → fits_comment c ≡ true → list_all fits_comment text ≡ true → list_all fits_comment (onto_trimmed c text) ≡ true
trimmed_fits c [] fits others = trimmed_if c (c == space) fits
trimmed_fits c (d ∷ rest) fits others = and_from (fits_comment c) (list_all fits_comment (d ∷ rest)) fits others

pub comment_fits : (text : Text) → list_all fits_comment (comment_text text) ≡ true
comment_fits [] = refl
comment_fits (c ∷ rest) = trimmed_fits (in_comment c) (comment_text rest) (in_comment_fits c (fits_comment c) refl) (comment_fits rest)

hashed_if : (c : ℕ) (rest : Text) (b : Bool) → list_all fits_comment (c ∷ rest) ≡ true
    → is_comment (if b then hash ∷ c ∷ rest else hash ∷ space ∷ c ∷ rest) ≡ true
hashed_if c rest true fits = fits
hashed_if c rest false fits = fits

hashed_is : (text : Text) → list_all fits_comment text ≡ true → is_comment (after_hash text) ≡ true
hashed_is [] fits = refl
hashed_is (c ∷ rest) fits = hashed_if c rest (c == hash) fits

pub comments_are_comments : CommentsAreComments
comments_are_comments text = hashed_is (comment_text text) (comment_fits text)

-- No character of one ends a line.
first_of_five : (a b c d e : Bool) → (a || b || c || d || e) ≡ false → a ≡ false
first_of_five false b c d e none = refl
first_of_five true b c d e none = none

fits_no_end : (c : ℕ) → fits_comment c ≡ true → (c == line_feed) ≡ false
fits_no_end c fits =
    first_of_five (c == line_feed) (c == 0xD) (c == 0x85) (c == 0x2028) (c == 0x2029)
    (not-true (is_break c) (and_parts (is_printable c) (not (is_break c)) fits).1)

spaces_fit : (n : ℕ) → list_all fits_comment (replicate n space) ≡ true
spaces_fit zero = refl
spaces_fit (suc n) = spaces_fit n

hashed_fits_if : (c : ℕ) (rest : Text) (b : Bool) → list_all fits_comment (c ∷ rest) ≡ true
    → list_all fits_comment (if b then hash ∷ c ∷ rest else hash ∷ space ∷ c ∷ rest) ≡ true
hashed_fits_if c rest true fits = fits
hashed_fits_if c rest false fits = fits

hashed_fits : (text : Text) → list_all fits_comment text ≡ true → list_all fits_comment (after_hash text) ≡ true
hashed_fits [] fits = refl
hashed_fits (c ∷ rest) fits = hashed_fits_if c rest (c == hash) fits

pub indented_fits : (n : ℕ) (text : Text) → list_all fits_comment (replicate n space ++ comment_written text) ≡ true
indented_fits n text =
    list_all-append fits_comment (replicate n space) (comment_written text)
    ∙ and_from (list_all fits_comment (replicate n space)) (list_all fits_comment (comment_written text)) (spaces_fit n)
    (hashed_fits (comment_text text) (comment_fits text))

-- It is a line of spaces and a comment.
hashed_line_if : (c : ℕ) (rest : Text) (b : Bool) → list_all fits_comment (c ∷ rest) ≡ true
    → is_comment_line (if b then hash ∷ c ∷ rest else hash ∷ space ∷ c ∷ rest) ≡ true
hashed_line_if c rest true fits = fits
hashed_line_if c rest false fits = fits

hashed_line : (text : Text) → list_all fits_comment text ≡ true → is_comment_line (after_hash text) ≡ true
hashed_line [] fits = refl
hashed_line (c ∷ rest) fits = hashed_line_if c rest (c == hash) fits

indented_line : (n : ℕ) (text : Text) → is_comment_line (replicate n space ++ comment_written text) ≡ true
indented_line zero text = hashed_line (comment_text text) (comment_fits text)
indented_line (suc n) text = indented_line n text

abbrev pub passes : Text → Bool
passes line = is_empty line || is_comment_line line

abbrev pub AllLinesPass : Text → Type 0
AllLinesPass text = list_all passes (text_lines text) ≡ true

lines_pass : (column : ℕ) (lines : List HeadLine) → AllLinesPass (flat_map (line_text column) lines)
lines_pass column [] = refl
lines_pass column (blank_line ∷ rest) = lines_pass column rest
lines_pass column (comment_line text ∷ rest) =
    let line = replicate column space ++ comment_written text in
    let others = flat_map (line_text column) rest in
    let joined : line_text column (comment_line text) ++ others ≡ line ++ line_feed ∷ others =
    ap (λ t. t ++ others) (sym (append_assoc (replicate column space) (comment_written text) (line_feed ∷ [])))
    ∙ append_assoc line (line_feed ∷ []) others in
    ap (λ t. list_all passes (text_lines t)) joined
    ∙ ap (list_all passes)
    (slice_split_at (λ c. c == line_feed) line line_feed others
    (uncut_by fits_comment (λ c. c == line_feed) fits_no_end line (indented_fits column text)) refl)
    ∙ and_from (passes line) (list_all passes (text_lines others))
    (or_right (is_empty line) (is_comment_line line) (indented_line column text)) (lines_pass column rest)

ended_pass : (text : Text) (b : Bool) → AllLinesPass text → AllLinesPass ((if b then [] else line_feed ∷ []) ++ text)
ended_pass text true pass = pass
ended_pass text false pass = pass

rendered_pass : (column : ℕ) (lines : List HeadLine) (cursor : Cursor) → AllLinesPass (render_lines column lines cursor).text
rendered_pass column [] cursor = refl
rendered_pass column (line ∷ rest) cursor =
    ended_pass (flat_map (line_text column) (line ∷ rest)) (cursor.indention && cursor.column == 0) (lines_pass column (line ∷ rest))

pub heads_are_comments : HeadsAreComments
heads_are_comments column keeps_breaks lines cursor =
    rendered_pass column (allowed_lines (bars_blank keeps_breaks cursor) (single_blanks lines)) cursor
