-- Lines that are no document's marker: those inside column 0, and those that begin with an indicator of an entry.
use Rattle.yaml_base.proofs.Common.{Bool, true, List, [], ◌∷◌, ◌≡◌, eqb-true, arith, and_parts, and_from, false≢true}
use Rattle.yaml_base.proofs.Common.{Text, space, marker_of, Line, ends_indicator, belongs_to_entry, nat_tests}
use Rattle.yaml_base.{specs.streams.StreamLines.begins_comment, proofs.stream_lines.StreamInside.AllInside}
use Rattle.yaml_base.proofs.Common.{refl, ap, not, false}
use Rattle.yaml_base.proofs.stream_lines.StreamSections.{is_markerless, is_content, all_content, AreContent}
use Rattle.yaml_base.proofs.AllPass.{all_pass}

-- a line that begins with a space is no marker
space_markerless : (t : Text) → is_markerless (marker_of (space ∷ t)) ≡ true
space_markerless t = grind (arith, nat_tests)

-- nor is one that begins with a `-` and the text that an indicator opens
pub dash_markerless : (t : Text) → ends_indicator t ≡ true → is_markerless (marker_of (0x2D ∷ t)) ≡ true
dash_markerless t h = grind (arith, nat_tests, eqb-true)

-- nor one that begins with `?`
pub question_markerless : (t : Text) → is_markerless (marker_of (0x3F ∷ t)) ≡ true
question_markerless t = grind (arith, nat_tests)

-- nor one that begins with `:`
pub colon_markerless : (t : Text) → is_markerless (marker_of (0x3A ∷ t)) ≡ true
colon_markerless t = grind (arith, nat_tests)

-- a line inside column 0 is no marker
pub inside_markerless : (s : Bool) (t : Text) → belongs_to_entry s 0 t ≡ true → is_markerless (marker_of t) ≡ true
inside_markerless s t h = grind (arith, nat_tests, eqb-true, space_markerless, false≢true, and_parts, dash_markerless)

-- and no comment at column 0
inside_uncommented : (s : Bool) (t : Text) → belongs_to_entry s 0 t ≡ true → begins_comment t ≡ false
inside_uncommented s [] h = refl
inside_uncommented s (c ∷ t) h = grind (arith, nat_tests, eqb-true, false≢true, and_parts)

pub inside_content : (s : Bool) (t : Text) → belongs_to_entry s 0 t ≡ true → is_content t ≡ true
inside_content s t h = and_from _ _ (inside_markerless s t h) (ap not (inside_uncommented s t h))

-- nor is any of some lines there
pub all_markerless : (s : Bool) (lines : List Line) → AllInside s 0 lines → AreContent lines
all_markerless s lines h =
    all_content lines
    (all_pass (λ line. belongs_to_entry s 0 line.text) (λ line. is_content line.text) (λ line e. inside_content s line.text e) lines h)
