-- The lines of a head, as the reader has them: each is blank or a comment at the head's column.
use Rattle.yaml_base.proofs.Common.{ℕ, zero, suc, Bool, false, true, List, [], ◌∷◌, ◌++◌, ◌≡◌, ◌==◌, ◌&&◌, ◌||◌, not, refl, ap, sym, ◌∙◌, append_assoc}
use Rattle.yaml_base.proofs.Common.{append-nil, map, if◌then◌else◌, not-true, and_parts, Text, Cursor, line_feed, space, is_break, is_printable, is_spaces}
use Rattle.yaml_base.proofs.Common.{Line, lines_of, without_skipped_lines, spaces}
use Rattle.yaml_base.proofs.{AllPass.none_pass, CommentTexts.indented_fits}
use Rattle.yaml_base.proofs.stream_lines.{StreamLineLaws.OneLine, StreamLineLaws.unbroken_line, StreamClosed.lines_broken}
use Rattle.yaml_base.specs.Comments.{HeadLine, after_hash, allowed_lines, bars_blank, blank_line, comment_line, comment_text, comment_written, fits_comment}
use Rattle.yaml_base.specs.Comments.{hash, line_end, render_lines, single_blanks}
use Rattle.yaml_base.specs.CommentReading.{HeadsAreSkipped, head_text}
use Rattle.yaml_base.specs.streams.StreamLines.{is_comment, is_skipped}

-- Lines

-- a text that begins with `#`
pub record Hashed (text : Text) : Type 0 where
  pub rest : Text
  pub is : text ≡ hash ∷ rest

hashed_if : (c : ℕ) (rest : Text) (b : Bool) → Hashed (if b then hash ∷ c ∷ rest else hash ∷ space ∷ c ∷ rest)
hashed_if c rest true = record { rest = c ∷ rest; is = refl }
hashed_if c rest false = record { rest = space ∷ c ∷ rest; is = refl }

hashed : (text : Text) → Hashed (after_hash text)
hashed [] = record { rest = []; is = refl }
hashed (c ∷ rest) = hashed_if c rest (c == hash)

-- a comment does
pub comment_hashed : (text : Text) → Hashed (comment_written text)
comment_hashed text = hashed (comment_text text)

fits_no_break : (c : ℕ) → fits_comment c ≡ true → is_break c ≡ false
fits_no_break c fits = not-true (is_break c) (and_parts (is_printable c) (not (is_break c)) fits).1

-- and it is on one line
pub comment_on_line : (breaks12 : Bool) (column : ℕ) (text : Text) → OneLine breaks12 (spaces column ++ comment_written text)
comment_on_line breaks12 column text =
    unbroken_line breaks12 (spaces column ++ comment_written text)
    (none_pass fits_comment is_break fits_no_break (spaces column ++ comment_written text) (indented_fits column text))

-- a head line as the reader has it
abbrev pub head_line : ℕ → HeadLine → Line
head_line column blank_line = record { text = []; ending = line_feed ∷ [] }
head_line column (comment_line text) = record { text = spaces column ++ comment_written text; ending = line_feed ∷ [] }

-- the lines of a head, and of a text after it
pub head_lines_read : (breaks12 : Bool) (column : ℕ) (lines : List HeadLine) (text : Text)
    → lines_of breaks12 (head_text column lines ++ text) ≡ map (head_line column) lines ++ lines_of breaks12 text
head_lines_read breaks12 column [] text = refl
head_lines_read breaks12 column (blank_line ∷ rest) text =
    lines_broken breaks12 [] (head_text column rest ++ text) refl
    ∙ ap (λ ls. head_line column blank_line ∷ ls) (head_lines_read breaks12 column rest text)
head_lines_read breaks12 column (comment_line comment ∷ rest) text =
    let line = spaces column ++ comment_written comment in
    let others = head_text column rest in
    ap (λ t. lines_of breaks12 (t ++ text)) (regrouped (spaces column) (comment_written comment) others)
    ∙ ap (lines_of breaks12) (append_assoc line (line_feed ∷ others) text)
    ∙ lines_broken breaks12 line (others ++ text) (comment_on_line breaks12 column comment)
    ∙ ap (λ ls. head_line column (comment_line comment) ∷ ls) (head_lines_read breaks12 column rest text)
  where
    regrouped : (a b c : Text) → (a ++ (b ++ line_feed ∷ [])) ++ c ≡ (a ++ b) ++ (line_feed ∷ c)
    regrouped a b c =
        ap (λ t. t ++ c) (sym (append_assoc a b (line_feed ∷ []))) ∙ append_assoc (a ++ b) (line_feed ∷ []) c

-- of a head alone
pub head_lines_alone : (breaks12 : Bool) (column : ℕ) (lines : List HeadLine)
    → lines_of breaks12 (head_text column lines) ≡ map (head_line column) lines
head_lines_alone breaks12 column lines =
    ap (lines_of breaks12) (sym (append-nil (head_text column lines))) ∙ head_lines_read breaks12 column lines []
    ∙ append-nil (map (head_line column) lines)

-- Skipped lines

-- `#` after spaces begins a comment
comment_after_spaces : (column : ℕ) (rest : Text) → is_comment (spaces column ++ (hash ∷ rest)) ≡ true
comment_after_spaces zero rest = refl
comment_after_spaces (suc column) rest = comment_after_spaces column rest

or_last : (a b : Bool) → b ≡ true → (a || b) ≡ true
or_last true b h = refl
or_last false b h = h

-- so each line of a head is skipped
pub head_line_skipped : (column : ℕ) (line : HeadLine) → is_skipped (head_line column line).text ≡ true
head_line_skipped column blank_line = refl
head_line_skipped column (comment_line text) =
    let found = comment_hashed text in
    or_last (is_spaces (spaces column ++ comment_written text)) (is_comment (spaces column ++ comment_written text))
    (ap (λ t. is_comment (spaces column ++ t)) found.is ∙ comment_after_spaces column found.rest)

-- all are
pub head_lines_skipped : (column : ℕ) (lines : List HeadLine) (others : List Line)
    → without_skipped_lines (map (head_line column) lines ++ others) ≡ without_skipped_lines others
head_lines_skipped column [] others = refl
head_lines_skipped column (line ∷ rest) others =
    let after = map (head_line column) rest ++ others in
    ap (λ x. if x then without_skipped_lines after else head_line column line ∷ after) (head_line_skipped column line)
    ∙ head_lines_skipped column rest others

-- the break before them, too
ended_skipped : (breaks12 b : Bool) (text : Text)
    → without_skipped_lines (lines_of breaks12 ((if b then [] else line_feed ∷ []) ++ text)) ≡ without_skipped_lines (lines_of breaks12 text)
ended_skipped breaks12 true text = refl
ended_skipped breaks12 false text = ap without_skipped_lines (lines_broken breaks12 [] text refl)

rendered_skipped : (breaks12 : Bool) (column : ℕ) (lines : List HeadLine) (cursor : Cursor) (text : Text)
    → without_skipped_lines (lines_of breaks12 ((render_lines column lines cursor).text ++ text)) ≡ without_skipped_lines (lines_of breaks12 text)
rendered_skipped breaks12 column [] cursor text = refl
rendered_skipped breaks12 column (line ∷ rest) cursor text =
    let own = head_text column (line ∷ rest) in
    ap (λ t. without_skipped_lines (lines_of breaks12 t)) (append_assoc (line_end cursor) own text)
    ∙ ended_skipped breaks12 (cursor.indention && cursor.column == 0) (own ++ text)
    ∙ ap without_skipped_lines (head_lines_read breaks12 column (line ∷ rest) text)
    ∙ head_lines_skipped column (line ∷ rest) (lines_of breaks12 text)

pub heads_are_skipped : HeadsAreSkipped
heads_are_skipped breaks12 column keeps_breaks lines cursor text =
    rendered_skipped breaks12 column (allowed_lines (bars_blank keeps_breaks cursor) (single_blanks lines)) cursor text
