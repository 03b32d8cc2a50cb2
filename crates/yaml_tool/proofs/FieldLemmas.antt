-- A line is cut at its first separator, character by character, and read field by field.
use Rattle.yaml_tool.proofs.Common.{ℕ, ◌≤◌, if◌then◌else◌, ◌==◌, Option, None, Some, length, Bool, false, true, List, [], ◌++◌, ◌∷◌, refl, ◌≡◌, ap, subst}
use Rattle.yaml_tool.proofs.Common.{sym, ◌∙◌, arith, nat_tests, onto_first, IsUtf8, chars, Text, outside, separates, pieces_from, field_read, field_and}
use Rattle.yaml_tool.proofs.Common.{fields_read, IsFree, prefix_of, SkipsTo, prepend_to_first_piece, SkipsRunTo, later_fields, FieldOrUnparsed}
use Rattle.std.specs.{Borrow.Bor, Option.is_some}
use Rattle.yaml_base.specs.scripts.Script.{inside, escaped, state_after, cut_before, read_fields}
use Rattle.yaml_tool.proofs.CharacterLemmas.{ends_in_itself, PassedEvents, passed_to, empty_prefix, run_passed, run_prefix}
use Rattle.yaml_tool.proofs.CutLemmas.{free_parts}
use Rattle.yaml_base.specs.scripts.Script as notation

attached_one : (prefix : Text) (c : ℕ) (pieces : List Text)
    → prepend_to_first_piece (prefix ++ c ∷ []) pieces ≡ prepend_to_first_piece prefix (onto_first c pieces)
attached_one [] c pieces = refl
attached_one (d ∷ prefix) c pieces = ap (onto_first d) (attached_one prefix c pieces)

attached_empty : (prefix : Text) (pieces : List Text) → prepend_to_first_piece prefix ([] ∷ pieces) ≡ prefix ∷ pieces
attached_empty [] pieces = refl
attached_empty (c ∷ prefix) pieces = ap (onto_first c) (attached_empty prefix pieces)

-- the whole line is one piece
pub whole_line : (line : Text) → prepend_to_first_piece line ([] ∷ []) ≡ line ∷ []
whole_line line = attached_empty line []

behind_separator : (standing : notation.FieldState) (c : ℕ) → separates standing c ≡ true → state_after standing c ≡ outside
behind_separator standing c h1 = grind (arith, nat_tests, state_after, outside)

-- a separator ends the first piece
pub stops_first : (standing : notation.FieldState) (c : ℕ) (prefix text rest : Text) → text ≡ c ∷ rest → separates standing c ≡ true
    → prepend_to_first_piece prefix (pieces_from standing text) ≡ prefix ∷ pieces_from outside rest
stops_first standing c prefix text rest begins is =
    let opened : pieces_from standing text ≡ cut_before (separates standing c) c (pieces_from (state_after standing c) rest) =
    ap (pieces_from standing) begins in
    let cut : cut_before (separates standing c) c (pieces_from (state_after standing c) rest) ≡ [] ∷ pieces_from outside rest =
    subst (λ (b : Bool). cut_before b c (pieces_from (state_after standing c) rest) ≡ [] ∷ pieces_from outside rest) (sym is)
    (ap (λ (s : notation.FieldState). [] ∷ pieces_from s rest) (behind_separator standing c is)) in
    ap (prepend_to_first_piece prefix) (opened ∙ cut) ∙ attached_empty prefix (pieces_from outside rest)

-- any other character belongs to the first piece
pub goes_first : (standing : notation.FieldState) (c : ℕ) (prefix grown text rest : Text) → text ≡ c ∷ rest → separates standing c ≡ false
    → grown ≡ prefix ++ c ∷ []
    → prepend_to_first_piece prefix (pieces_from standing text) ≡ prepend_to_first_piece grown (pieces_from (state_after standing c) rest)
goes_first standing c prefix grown text rest begins is_not grows =
    grind (arith, pieces_from, state_after, cut_before, separates, onto_first, prepend_to_first_piece, attached_one)

pub attached_both : (prefix more : Text) (pieces : List Text)
    → prepend_to_first_piece (prefix ++ more) pieces ≡ prepend_to_first_piece prefix (prepend_to_first_piece more pieces)
attached_both [] more pieces = refl
attached_both (c ∷ prefix) more pieces = ap (onto_first c) (attached_both prefix more pieces)

-- outside texts only a space and a quotation mark matter
pub run_outside : (prefix rest : Text) → IsFree 0x20 prefix → IsFree 0x22 prefix
    → pieces_from outside (prefix ++ rest) ≡ prepend_to_first_piece prefix (pieces_from outside rest)
run_outside [] rest no_space no_exclamation = refl
run_outside (c ∷ prefix) rest no_space no_exclamation =
    let space = free_parts (c == 0x20) _ no_space in
    let quotation = free_parts (c == 0x22) _ no_exclamation in
    ap (λ (b : Bool). cut_before b c (pieces_from (state_after outside c) (prefix ++ rest))) space.0
    ∙ ap (λ (b : Bool). onto_first c (pieces_from (if b then inside else outside) (prefix ++ rest))) quotation.0
    ∙ ap (onto_first c) (run_outside prefix rest space.1 quotation.1)

-- inside texts only a quotation mark and a backslash matter
pub run_inside : (prefix rest : Text) → IsFree 0x22 prefix → IsFree 0x5C prefix
    → pieces_from inside (prefix ++ rest) ≡ prepend_to_first_piece prefix (pieces_from inside rest)
run_inside [] rest no_exclamation no_backslash = refl
run_inside (c ∷ prefix) rest no_exclamation no_backslash =
    let quotation = free_parts (c == 0x22) _ no_exclamation in
    let backslash = free_parts (c == 0x5C) _ no_backslash in
    ap (λ (b : Bool). onto_first c (pieces_from (if b then outside else (if c == 0x5C then escaped else inside)) (prefix ++ rest))) quotation.0
    ∙ ap (λ (b : Bool). onto_first c (pieces_from (if b then escaped else inside) (prefix ++ rest))) backslash.0
    ∙ ap (onto_first c) (run_inside prefix rest quotation.1 backslash.1)

-- so the characters before such a character are a run
pub runs_outside : (text end : List ℕ) → IsUtf8 text → SkipsTo 0x20 0x22 text end → SkipsRunTo outside text end
runs_outside text end is skipped = record {
  ends = skipped.ends;
  is_end = skipped.is_end;
  run = ap (pieces_from outside) (passed_to text end skipped.ends is skipped.is_end).all
      ∙ run_outside (chars (prefix_of text end)) (chars end) skipped.free.0 skipped.free.1;
}

pub runs_inside : (text end : List ℕ) → IsUtf8 text → SkipsTo 0x22 0x5C text end → SkipsRunTo inside text end
runs_inside text end is skipped = record {
  ends = skipped.ends;
  is_end = skipped.is_end;
  run = ap (pieces_from inside) (passed_to text end skipped.ends is skipped.is_end).all
      ∙ run_inside (chars (prefix_of text end)) (chars end) skipped.free.0 skipped.free.1;
}

-- no character is a run, too
pub runs_nowhere : (standing : notation.FieldState) (text : List ℕ) → IsUtf8 text → SkipsRunTo standing text text
runs_nowhere standing text is = record {
  ends = ends_in_itself text;
  is_end = is;
  run = ap (λ (prefix : Text). prepend_to_first_piece prefix (pieces_from standing (chars text))) (sym (empty_prefix text));
}

-- after a run the pieces are those of the rest, with a longer prefix
pub further_on : (standing : notation.FieldState) (line text end : List ℕ) (pieces : List Text) → PassedEvents line text → SkipsRunTo standing text end
    → pieces ≡ prepend_to_first_piece (chars (prefix_of line text)) (pieces_from standing (chars text))
    → pieces ≡ prepend_to_first_piece (chars (prefix_of line end)) (pieces_from standing (chars end))
further_on standing line text end pieces passed runs is =
    let before = chars (prefix_of line text) in
    let run = chars (prefix_of text end) in
    is ∙ ap (prepend_to_first_piece before) runs.run ∙ sym (attached_both before run (pieces_from standing (chars end)))
    ∙ ap (λ (prefix : Text). prepend_to_first_piece prefix (pieces_from standing (chars end))) (sym (run_prefix line text end passed runs.ends))

-- a run is passed
pub skip_run : (standing : notation.FieldState) (line text end : List ℕ) → PassedEvents line text → SkipsRunTo standing text end → PassedEvents line end
skip_run standing line text end passed runs = run_passed line text end passed runs.ends runs.is_end

-- the text after it is no longer
pub run_within : (standing : notation.FieldState) (text end : List ℕ) → SkipsRunTo standing text end → length end ≤ length text
run_within standing text end runs = runs.ends.within

-- ---- fields

-- if the line ends at its first separator
pub field_before : (line field rest : Text) → pieces_from outside line ≡ field ∷ pieces_from outside rest
    → fields_read line ≡ field_and (field_read field) (fields_read rest)
field_before line field rest cut = ap read_fields cut

-- and if it has none
pub field_alone : (line field : Text) → pieces_from outside line ≡ field ∷ [] → fields_read line ≡ field_and (field_read field) (Some [])
field_alone line field cut = ap read_fields cut

-- a line has a field
line_has_field : (line : Text) → FieldOrUnparsed (fields_read line)
line_has_field [] = tt
line_has_field (c ∷ rest) = go (separates outside c) (pieces_from (state_after outside c) rest)
  where
    one : (field : Option notation.Field) (others : Option (List notation.Field)) → FieldOrUnparsed (field_and field others)
    one None others = tt
    one (Some field) None = tt
    one (Some field) (Some more) = tt

    go : (b : Bool) (pieces : List Text) → FieldOrUnparsed (read_fields (cut_before b c pieces))
    go true pieces = tt
    go false [] = one (field_read (c ∷ [])) (Some [])
    go false (piece ∷ pieces) = one (field_read (c ∷ piece)) (read_fields pieces)

-- nothing is left at the end of a line
pub none_left : (rest : Option (Bor (List ℕ))) → is_some rest ≡ false → later_fields rest ≡ Some []
none_left rest h1 = grind arith

-- before it a field is left
pub field_left : (rest : Option (Bor (List ℕ))) → is_some rest ≡ true → FieldOrUnparsed (later_fields rest)
field_left None is = cc
field_left (Some rest) is = line_has_field (chars rest.now)
