-- Reading whole streams back, in every mode, independently of the definitions that write them: bytes to documents, or nothing. The reader
-- skips comment lines: those that begin at column 0 before, after and between documents, of which the first are the heading, and any before
-- blocks and between entries. It is strict: it refuses all that readers of YAML 1.1 disagree on, and also comments on the line of a text,
-- tabs outside literal text and comments, and characters that aren't printable, so that all of them give a text that it reads the same
-- meaning.
--     stream_trees breaks12 bytes      the documents in some bytes, or nothing
-- Source, unless a definition names its own: YAML 1.1, section 7.4 Complete Stream, l-yaml-stream, as this project narrows it.
use Rattle.std.specs.Prelude.{ℕ, Bool, true, false, Option, None, List, [], ◌∷◌, ◌==◌, ◌||◌, not, option_and_then, if◌then◌else◌}
use Rattle.std.specs.List.{list_all}
use Rattle.yaml_base.specs.Characters.{Text, carriage_return, tab, is_printable}
use Rattle.yaml_base.specs.LineBreaks.{is_read_break, with_line_breaks_read}
use Rattle.yaml_base.specs.reading.ReadBytes.{characters_read}
use Rattle.yaml_base.specs.streams.StreamContent.{DocumentTree}
use Rattle.yaml_base.specs.streams.StreamDocuments.{documents_of}

-- true of a character that a stream may hold as itself, tabs in literal text and comments alone; CR and LF break its lines (YAML 1.1,
-- section 5.1 Character Set, c-printable; without U+0085 and U+FEFF by this project)
abbrev pub may_stand_raw : ℕ → Bool
may_stand_raw c = c == carriage_return || c == tab || is_printable c

-- the text after empty lines and lines that begin with `#`, from within such a comment or from the start of any line (YAML 1.1, section
-- 6.2 Comments, c-nb-comment-text, l-comment; without white space before the `#` by this project)
abbrev pub after_comments : Bool → (within : Bool) → Text → Text
after_comments breaks12 within [] = []
after_comments breaks12 true (c ∷ rest) = after_comments breaks12 (not (is_read_break breaks12 c)) rest
after_comments breaks12 false (c ∷ rest) =
    if c == 0x23 then after_comments breaks12 true rest
    else (if is_read_break breaks12 c then after_comments breaks12 false rest else c ∷ rest)

-- a stream's characters without its heading: the comments and empty lines at its front (YAML 1.1, section 7.4 Complete Stream, l-yaml-stream)
abbrev pub without_heading : Bool → Text → Text
without_heading breaks12 text = after_comments breaks12 false text

-- the documents of a stream's characters (YAML 1.1, section 7.4 Complete Stream, l-yaml-stream)
abbrev pub text_trees : Bool → Text → Option (List DocumentTree)
text_trees breaks12 text =
    if list_all may_stand_raw text then documents_of breaks12 (without_heading breaks12 (with_line_breaks_read text)) else None

-- the documents in some bytes (YAML 1.1, sections 5.2 Character Encoding and 7.4 Complete Stream, c-byte-order-mark, l-yaml-stream)
abbrev pub stream_trees : Bool → List ℕ → Option (List DocumentTree)
stream_trees breaks12 bytes = option_and_then (text_trees breaks12) (characters_read bytes)
