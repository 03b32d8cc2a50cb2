-- Laws of the reader on head lines: it skips them before a node and at a stream's start; between the entries of a collection, and after the
-- last one, they add nothing; after a document's last line they are no content.
use Rattle.std.specs.Prelude.{◌≡◌, ◌<◌, ℕ, Bool, true, false, Option, Some, None, List, [], ◌∷◌, ◌++◌, ◌==◌, ◌||◌, ◌&&◌, fold, flat_map, replicate}
use Rattle.std.specs.List.{list_all}
use Rattle.yaml_base.specs.Characters.{Text, line_feed}
use Rattle.yaml_base.specs.LineBreaks.{is_read_break}
use Rattle.yaml_base.specs.Cursor.{Cursor}
use Rattle.yaml_base.specs.Comments.{HeadLine, comment_line, line_text, render_head}
use Rattle.yaml_base.specs.reading.ReadBlock.{Chomping, after_digit, chomping_first, keep}
use Rattle.yaml_base.specs.streams.StreamContent.{Tree, TreePairs, Trees}
use Rattle.yaml_base.specs.streams.StreamLines.{Entries, Line, all_blank, belongs_to_entry, entries_at, item_follows, lines_of, text_of_lines}
use Rattle.yaml_base.specs.streams.StreamLines.{without_skipped_lines}
use Rattle.yaml_base.specs.streams.StreamScalars.{Properties, Rules}
use Rattle.yaml_base.specs.streams.StreamNodes.{HeldPairs, LinesReader, pair_or_comment, text_read, with_item_or_comment}
use Rattle.yaml_base.specs.streams.StreamDocuments.{MarkerKind, marker_of, no_exclamation, without_last_comments}
use Rattle.yaml_base.specs.streams.StreamReader.{without_heading}

-- head lines at a column, from a line's start
abbrev pub head_text : (column : ℕ) → List HeadLine → Text
head_text column lines = flat_map (line_text column) lines

-- Nodes

-- before a node the reader skips a head, wherever it is written, exactly to the text after it
abbrev pub HeadsAreSkipped : Type 0
HeadsAreSkipped =
    (breaks12 : Bool) (column : ℕ) (keeps_breaks : Bool) (lines : List HeadLine) (cursor : Cursor) (text : Text)
    → without_skipped_lines (lines_of breaks12 ((render_head column keeps_breaks lines cursor).text ++ text))
    ≡ without_skipped_lines (lines_of breaks12 text)

-- Entries

-- the entries of a collection at a column, of the lines of a text
abbrev pub text_entries : Bool → (in_sequence : Bool) → ℕ → Text → Entries
text_entries breaks12 in_sequence column text = entries_at in_sequence column (lines_of breaks12 text)

-- only blank lines of some entries belong to the entry above them
abbrev pub AddsBlanks : Entries → Type 0
AddsBlanks all = all_blank all.before ≡ true

-- before an item of a sequence, or after the last, head lines at its column add nothing but blank lines to the item above
abbrev pub HeadsAddNoItem : Type 0
HeadsAddNoItem =
    (breaks12 : Bool) (column : ℕ) (lines : List HeadLine) (text : Text) (reads : LinesReader) (items : Option Trees)
    → (text_entries breaks12 true column text).before ≡ []
    → AddsBlanks (text_entries breaks12 true column (head_text column lines ++ text))
    × (fold (with_item_or_comment reads column) items (text_entries breaks12 true column (head_text column lines ++ text)).entries
    ≡ fold (with_item_or_comment reads column) items (text_entries breaks12 true column text).entries)

-- pairs so far that have their values
abbrev pub held_pairs : TreePairs → Option HeldPairs
held_pairs pairs = Some (record { pairs = pairs; key = None })

-- so it is for a pair of a mapping, after pairs that have their values
abbrev pub HeadsAddNoPair : Type 0
HeadsAddNoPair =
    (breaks12 : Bool) (column : ℕ) (lines : List HeadLine) (text : Text) (rules : Rules) (reads : LinesReader) (pairs : TreePairs)
    → (text_entries breaks12 false column text).before ≡ [] → item_follows column (lines_of breaks12 text) ≡ false
    → AddsBlanks (text_entries breaks12 false column (head_text column lines ++ text))
    × (fold (pair_or_comment rules reads column) (held_pairs pairs) (text_entries breaks12 false column (head_text column lines ++ text)).entries
    ≡ fold (pair_or_comment rules reads column) (held_pairs pairs) (text_entries breaks12 false column text).entries)

-- a head that begins with a comment adds no line to the entry above it
abbrev pub CommentsEndEntries : Type 0
CommentsEndEntries =
    (breaks12 in_sequence : Bool) (column : ℕ) (comment : Text) (lines : List HeadLine) (text : Text)
    → (in_sequence ≡ false → item_follows column (lines_of breaks12 text) ≡ false)
    → (text_entries breaks12 in_sequence column (head_text column (comment_line comment ∷ lines) ++ text)).before ≡ []

-- before an item of a sequence at the column of its mapping, head lines belong to the entry above, as the item does
abbrev pub HeadsGoOn : Type 0
HeadsGoOn =
    (breaks12 : Bool) (column : ℕ) (lines : List HeadLine) (text : Text) → item_follows column (lines_of breaks12 text) ≡ true
    → text_entries breaks12 false column (head_text column lines ++ text)
    ≡ record {
      before = lines_of breaks12 (head_text column lines) ++ (text_entries breaks12 false column text).before;
      entries = (text_entries breaks12 false column text).entries;
    }

-- head lines deeper than a column are inside it
abbrev pub HeadsAreInside : Type 0
HeadsAreInside =
    (breaks12 in_sequence : Bool) (outer column : ℕ) (lines : List HeadLine) → outer < column
    → list_all (λ line. belongs_to_entry in_sequence outer line.text) (lines_of breaks12 (head_text column lines)) ≡ true

-- Blank lines

-- an empty line
abbrev pub blank : Line
blank = record { text = []; ending = line_feed ∷ [] }

-- some empty lines
abbrev pub blanks : ℕ → List Line
blanks count = replicate count blank

-- their text
abbrev pub blank_text : ℕ → Text
blank_text count = replicate count line_feed

-- true if all final breaks of a block scalar are kept
abbrev pub is_keep : Chomping → Bool
is_keep keep = true
is_keep _ = false

-- true of a block scalar's text that keeps them
abbrev pub keeps_breaks : Text → Bool
keeps_breaks [] = false
keeps_breaks (c ∷ rest) = (c == 0x7C || c == 0x3E) && is_keep (chomping_first (after_digit rest))

-- after a text that ends with a break a blank line adds nothing, unless the text is a block scalar that keeps its final breaks
abbrev pub BlankLinesAddNothing : Type 0
BlankLinesAddNothing =
    (rules : Rules) (column : Option ℕ) (properties : Properties) (text ending front : Text) (last : ℕ) (rest : List Line) (tree : Tree)
    → front ++ last ∷ [] ≡ text ++ (ending ++ text_of_lines rest) → is_read_break rules.breaks12 last ≡ true
    → keeps_breaks (text ++ (ending ++ text_of_lines rest)) ≡ false
    → text_read rules column properties text ending rest ≡ Some tree
    → text_read rules column properties text ending (rest ++ blank ∷ []) ≡ Some tree

-- Documents

-- no head line is a marker
abbrev pub is_no_marker : MarkerKind → Bool
is_no_marker no_exclamation = true
is_no_marker _ = false

abbrev pub HeadsAreNoMarkers : Type 0
HeadsAreNoMarkers =
    (breaks12 : Bool) (column : ℕ) (lines : List HeadLine)
    → list_all (λ line. is_no_marker (marker_of line.text)) (lines_of breaks12 (head_text column lines)) ≡ true

-- after a document's last line a head that begins with a comment is left out
abbrev pub HeadsAreNoContent : Type 0
HeadsAreNoContent =
    (breaks12 : Bool) (comment : Text) (lines : List HeadLine) (before : List Line)
    → without_last_comments (before ++ lines_of breaks12 (head_text 0 (comment_line comment ∷ lines))) ≡ without_last_comments before

-- at a stream's start any head is skipped
abbrev pub HeadsAreHeadings : Type 0
HeadsAreHeadings =
    (breaks12 : Bool) (lines : List HeadLine) (text : Text)
    → without_heading breaks12 (head_text 0 lines ++ text) ≡ without_heading breaks12 text
