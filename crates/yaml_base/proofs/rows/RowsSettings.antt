-- Settings that are given, and those that result, computed.
use Rattle.yaml_base.proofs.Common.{ℕ, Option, None, Some, negsuc, pos, ℤ, false, [], map, ◌∷◌, refl, ◌≡◌, utf8, utf16_little, utf16_big, line_feed_break}
use Rattle.yaml_base.proofs.{Common.both_break, Common.effective, rows.RowEvents.plain_settings, rows.RowEvents.of_indent}

-- the indent that results
abbrev indent_of : ℤ → ℕ
indent_of indent = (effective (of_indent indent) None).indent

-- 2 to 9 are kept; 0, 1, 10, -1 and the least `i32` become 2
indents : map indent_of (pos 0 ∷ pos 1 ∷ pos 2 ∷ pos 9 ∷ pos 10 ∷ negsuc 0 ∷ negsuc 2147483647 ∷ []) ≡ 2 ∷ 2 ∷ 2 ∷ 9 ∷ 2 ∷ 2 ∷ 2 ∷ []
indents = refl

-- the width that results at an indent
abbrev width_at : ℤ → ℤ → Option ℕ
width_at indent width = (effective (record (of_indent indent) { width = Some width }) None).width

-- 0 and twice the indent become 80, one more is kept; -1, the least and the largest `i32` are no limit
widths : map (width_at (pos 2)) (pos 0 ∷ pos 4 ∷ pos 5 ∷ pos 80 ∷ negsuc 0 ∷ negsuc 2147483647 ∷ pos 2147483646 ∷ pos 2147483647 ∷ [])
    ≡ Some 80 ∷ Some 80 ∷ Some 5 ∷ Some 80 ∷ None ∷ None ∷ Some 2147483646 ∷ None ∷ []
widths = refl

widths_at_nine : map (width_at (pos 9)) (pos 0 ∷ pos 5 ∷ pos 18 ∷ pos 19 ∷ negsuc 0 ∷ []) ≡ Some 80 ∷ Some 80 ∷ Some 80 ∷ Some 19 ∷ None ∷ []
widths_at_nine = refl

-- it is the indent in force that counts: 10 becomes 2
width_at_ten : map (width_at (pos 10)) (pos 4 ∷ pos 5 ∷ []) ≡ Some 80 ∷ Some 5 ∷ []
width_at_ten = refl

-- no setting is given
nothing_set : effective plain_settings None
    ≡ record {
      encoding = utf8;
      canonical = false;
      unicode = false;
      double_quotes = false;
      indent = 2;
      width = Some 80;
      line_break = line_feed_break;
      breaks12 = false;
      portable = false;
      indented_sequences = false;
      literal_blanks = false;
      limit = 1000000000;
    }
nothing_set = refl

-- the emitter's encoding comes before the stream's
encodings :
    ((effective plain_settings (Some utf16_big)).encoding ≡ utf16_big)
    × ((effective (record plain_settings { encoding = Some utf16_little }) (Some utf16_big)).encoding ≡ utf16_little)
    × ((effective (record plain_settings { line_break = Some both_break }) None).line_break ≡ both_break)
encodings = (refl, refl, refl)
