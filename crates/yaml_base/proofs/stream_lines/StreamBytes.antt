-- A text of printable characters and tabs, however its line breaks are written, is read as its documents.
use Rattle.yaml_base.proofs.Common.{or_from, or_parts}
use Rattle.yaml_base.proofs.Common.{nat_tests, arith, ℕ, if◌then◌else◌, option_and_then, None, Some, Bool, true, List, [], ◌∷◌, refl, ◌≡◌, eqb-true, ap}
use Rattle.yaml_base.proofs.Common.{◌∙◌, and_parts, and_from, list_all-append, list_all, Text, is_tidy_character, with_breaks_written}
use Rattle.yaml_base.{proofs.AllPass.all_pass, proofs.BreakLaws.breaks-round, specs.streams.StreamReader.may_stand_raw, specs.streams.StreamReader.text_trees}
use Rattle.yaml_base.proofs.Common.{with_line_breaks_read, is_rendered_text, LineBreak, characters_read, documents_of, stream_trees, or_left, ScalarStyle}
use Rattle.yaml_base.proofs.Common.{literal, DocumentTree}
use Rattle.yaml_base.{proofs.stream_documents.StreamNoComment.heading_dropped, specs.streams.StreamReader.without_heading}

-- printable characters and tabs, which are those of literal text
abbrev pub is_shown : ℕ → Bool
is_shown c = is_tidy_character literal c

-- such a text has no CR and no U+0085
printable_rendered : (text : Text) → list_all is_shown text ≡ true → is_rendered_text text ≡ true
printable_rendered [] h = refl
printable_rendered (c ∷ rest) h = grind (arith, and_parts, and_from, or_parts, or_from, eqb-true, printable_rendered rest)

-- the characters of a tidy text of any style are such
style_shown : (style : ScalarStyle) (c : ℕ) → is_tidy_character style c ≡ true → is_shown c ≡ true
style_shown style c h = grind (arith, nat_tests, or_left)

-- so it has no CR and no U+0085 either
pub tidy_rendered : (style : ScalarStyle) (text : Text) → list_all (is_tidy_character style) text ≡ true → is_rendered_text text ≡ true
tidy_rendered style text h = printable_rendered text (all_pass (is_tidy_character style) is_shown (style_shown style) text h)

-- in whatever form its breaks are written, such a text may be raw
pub printable_raw : (setting : LineBreak) (text : Text) → list_all is_shown text ≡ true → list_all may_stand_raw (with_breaks_written setting text) ≡ true
printable_raw setting [] h = refl
printable_raw setting (c ∷ rest) h = grind (arith, and_parts, and_from, or_parts, or_from, list_all-append, printable_raw setting rest)

-- such a text with its breaks written reads as the documents of the text, if it has some
pub trees_of_text : (breaks12 : Bool) (setting : LineBreak) (text : Text) (documents : List DocumentTree) → list_all is_shown text ≡ true
    → documents_of breaks12 text ≡ Some documents → text_trees breaks12 (with_breaks_written setting text) ≡ Some documents
trees_of_text breaks12 setting text documents h is =
    let read = λ (t : Text). documents_of breaks12 (without_heading breaks12 t) in
    ap (λ (raw : Bool). if raw then read (with_line_breaks_read (with_breaks_written setting text)) else None) (printable_raw setting text h)
    ∙ ap read (breaks-round setting text (printable_rendered text h)) ∙ heading_dropped breaks12 text documents is

-- so do its bytes, from which its characters are read
pub trees_of_bytes : (breaks12 : Bool) (setting : LineBreak) (text : Text) (bytes : List ℕ) (documents : List DocumentTree) → list_all is_shown text ≡ true
    → characters_read bytes ≡ Some (with_breaks_written setting text) → documents_of breaks12 text ≡ Some documents
    → stream_trees breaks12 bytes ≡ Some documents
trees_of_bytes breaks12 setting text bytes documents h read is =
    ap (option_and_then (text_trees breaks12)) read ∙ trees_of_text breaks12 setting text documents h is
