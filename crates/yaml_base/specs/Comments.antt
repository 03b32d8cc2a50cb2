-- Comments and blank lines that are given beside events, and their texts (YAML 1.1, section 6.2 Comments, c-nb-comment-text, l-comment; the
-- form of a comment and its lines is this project's).
use Rattle.std.specs.Prelude.{ℕ, Bool, true, false, Option, None, Some, List, [], ◌∷◌, ◌++◌, ◌==◌, ◌||◌, ◌&&◌, not, map, replicate, flat_map}
use Rattle.std.specs.Prelude.{if◌then◌else◌}
use Rattle.std.specs.List.{join_with_byte, slice_split}
use Rattle.yaml_base.specs.Characters.{Text, is_break, is_printable, line_feed, space}
use Rattle.yaml_base.specs.Cursor.{Cursor, Rendered, first_cursor, render_nothing, render_name}
use Rattle.yaml_base.specs.Event.{Event}
use Rattle.yaml_base.specs.scalars.Style.{is_block}
use Rattle.yaml_base.specs.NodeLayout.{Body, Piece, RenderedPiece, Standing, body_text}

-- a line before the text of an event: blank, or a comment
pub data HeadLine : Type 0 where
  blank_line : HeadLine
  comment_line : Text → HeadLine

-- the comments of an event: head comments and blank lines before its text, and a line comment at the end of its line
pub record Comments : Type 0 where
  pub head : List HeadLine
  pub line : Option Text

-- an event and its comments
pub record Commented : Type 0 where
  pub comments : Comments
  pub event : Event

-- an event that has none
abbrev pub without_comments : Event → Commented
without_comments event = record { comments = record { head = []; line = None }; event = event }

-- the events, without their comments
abbrev pub events_of : List Commented → List Event
events_of all = map (λ commented. commented.event) all

-- Texts

-- the number sign, which begins a comment
abbrev pub hash : ℕ
hash = 0x23

-- true of a character that a comment may hold: it is printable and breaks no line
abbrev pub fits_comment : ℕ → Bool
fits_comment c = is_printable c && not (is_break c)

-- a character of a comment: a space in place of one that a comment may not hold
abbrev pub in_comment : ℕ → ℕ
in_comment c = if fits_comment c then c else space

-- a character before a text that doesn't end with a space: nothing, if it is a space before nothing
abbrev pub onto_trimmed : ℕ → Text → Text
onto_trimmed c [] = if c == space then [] else c ∷ []
onto_trimmed c (d ∷ rest) = c ∷ d ∷ rest

-- the characters of a comment, without spaces at its end
abbrev pub comment_text : Text → Text
comment_text [] = []
comment_text (c ∷ rest) = onto_trimmed (in_comment c) (comment_text rest)

-- `#`, a space and a text; no space if the text is empty or begins with `#` itself
abbrev pub after_hash : Text → Text
after_hash [] = hash ∷ []
after_hash (c ∷ rest) = if c == hash then hash ∷ c ∷ rest else hash ∷ space ∷ c ∷ rest

-- a comment as it is written
abbrev pub comment_written : Text → Text
comment_written text = after_hash (comment_text text)

-- the lines of a text, which end at LF; a CR before it becomes a space at a comment's end, so that CR LF ends a line, too
abbrev pub text_lines : Text → List Text
text_lines text = slice_split (λ c. c == line_feed) text

-- a text as head comments, one for each of its lines
abbrev pub head_lines : Text → List HeadLine
head_lines text = map comment_line (text_lines text)

-- a text as one line: its lines, joined by spaces
abbrev pub one_line : Text → Text
one_line text = join_with_byte space (map comment_text (text_lines text))

-- Head lines

-- a line before others; a blank line before another one is no line
abbrev pub onto_lines : HeadLine → List HeadLine → List HeadLine
onto_lines blank_line (blank_line ∷ rest) = blank_line ∷ rest
onto_lines line rest = line ∷ rest

-- lines, where blank lines in a row are one
abbrev pub single_blanks : List HeadLine → List HeadLine
single_blanks [] = []
single_blanks (line ∷ rest) = onto_lines line (single_blanks rest)

-- true if the next line may not be blank: only indicators precede the cursor in its line, or a block scalar that keeps its final breaks
-- ends right before it, and a blank line would be one more of these
abbrev pub bars_blank : (keeps_breaks : Bool) → Cursor → Bool
bars_blank keeps_breaks cursor = cursor.indention && (keeps_breaks || not (cursor.column == 0))

-- lines without a first blank one, if it is barred
abbrev pub allowed_lines : (bars : Bool) → List HeadLine → List HeadLine
allowed_lines true (blank_line ∷ rest) = rest
allowed_lines bars lines = lines

-- a line at a column, and its break
abbrev pub line_text : (column : ℕ) → HeadLine → Text
line_text column blank_line = line_feed ∷ []
line_text column (comment_line text) = replicate column space ++ (comment_written text ++ line_feed ∷ [])

-- the break that ends the line before the cursor; none at a line's start, where not even a scalar without text precedes it
abbrev pub line_end : Cursor → Text
line_end cursor = if cursor.indention && cursor.column == 0 then [] else line_feed ∷ []

-- lines at a column; after them the cursor is at a line's start
abbrev pub render_lines : (column : ℕ) → List HeadLine → Cursor → Rendered
render_lines column [] cursor = render_nothing cursor
render_lines column (line ∷ rest) cursor =
    record { text = line_end cursor ++ flat_map (line_text column) (line ∷ rest); cursor = first_cursor }

-- head lines at a column, as they are given
abbrev pub render_head : (column : ℕ) → (keeps_breaks : Bool) → List HeadLine → Cursor → Rendered
render_head column keeps_breaks lines cursor =
    render_lines column (allowed_lines (bars_blank keeps_breaks cursor) (single_blanks lines)) cursor

-- Line comments

-- a line comment after two spaces
abbrev pub line_comment_text : Text → Text
line_comment_text text = space ∷ space ∷ comment_written (one_line text)

-- a text with another one at the end of its first line
abbrev pub at_line_end : (added : Text) → Text → Text
at_line_end added [] = added
at_line_end added (c ∷ rest) = if c == line_feed then added ++ c ∷ rest else c ∷ at_line_end added rest

-- true of the body of a block scalar, whose first line is its header
abbrev pub has_header : Option Body → Bool
has_header None = false
has_header (Some body) = is_block body.style

-- a piece with a line comment: after the header of a block scalar, after any other piece
abbrev pub text_with_line : (comment : Text) → Piece → Text
text_with_line comment piece =
    piece.lead ++ (if has_header piece.body then at_line_end comment (body_text piece.body) else body_text piece.body ++ comment)

-- the state of writing after it; one after a header is followed by the scalar's lines
abbrev pub standing_with_line : (comment : Text) → RenderedPiece → Standing
standing_with_line [] rendered = rendered.standing
standing_with_line (c ∷ rest) rendered =
    if has_header rendered.piece.body then rendered.standing
    else record { cursor = (render_name (c ∷ rest) rendered.standing.cursor).cursor; open_ended = rendered.standing.open_ended }

-- Pieces with comments

-- the piece of an event between the texts of its comments
pub record CommentedPiece : Type 0 where
  pub head : Text
  pub piece : Piece
  pub line : Text

-- a piece that has none
abbrev pub piece_alone : Piece → CommentedPiece
piece_alone piece = record { head = []; piece = piece; line = [] }

-- its whole text
abbrev pub commented_text : CommentedPiece → Text
commented_text commented = commented.head ++ text_with_line commented.line commented.piece

-- the texts of pieces, joined
abbrev pub commented_text_of : List CommentedPiece → Text
commented_text_of pieces = flat_map commented_text pieces
