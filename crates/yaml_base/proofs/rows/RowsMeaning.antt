-- Worked rows: the readings of a layout's bodies, and that their lines are indented.
use Rattle.yaml_base.proofs.Common.{Option, None, Some, codes, pos, true, List, [], map, ◌∷◌, refl, ◌≡◌, Text, double_quoted, literal, folded, block, flow}
use Rattle.yaml_base.{proofs.rows.Cases.GivesOfTwo, specs.Meaning.body_written, specs.Meaning.body_read}
use Rattle.yaml_base.proofs.Common.{Event, bodies_of, is_indented_text, list_layout, both_break, Settings, effective}
use Rattle.yaml_base.proofs.rows.RowEvents.{plain_settings, of_width, of_indent, untagged, leaf, sequence, mapping, alone}

abbrev written : Settings → List Event → List Text
written given events = let s = effective given None in map (body_written s) (bodies_of (list_layout s events))

abbrev read : Settings → List Event → List (Option Text)
read given events = let s = effective given None in map (body_read s) (bodies_of (list_layout s events))

-- a digit counts from the column of the entries around it
abbrev nested : List Event
nested = alone (mapping block (leaf (codes "k") ∷ sequence block (untagged (codes " a\nb\n\n") literal ∷ [])))

-- a folded scalar at the root, with line breaks of two characters
abbrev two_breaks : Settings
two_breaks = record plain_settings { line_break = Some both_break; width = Some (pos 5) }

abbrev folded_root : List Event
folded_root = alone (untagged (codes "aaaaaa b\nc") folded ∷ [])

-- plain in block, single quotes for a text that plain may not hold in flow, double quotes for a tab
abbrev three : List Event
three = alone (sequence flow (leaf (codes "a") ∷ leaf (codes "a, b") ∷ leaf (codes "a\tb") ∷ []))

-- a fold in double quotes is indented by the indent
abbrev quoted_root : List Event
quoted_root = alone (untagged (codes "aaaaaa  b") double_quoted ∷ [])

bodies_written : GivesOfTwo written (
    (of_indent (pos 4), nested, codes "k" ∷ codes "|4+\n     a\n    b\n\n" ∷ [])
    ∷ (two_breaks, folded_root, codes ">-\r\n  aaaaaa\r\n  b\r\n\r\n  c" ∷ [])
    ∷ (plain_settings, three, codes "a" ∷ codes "'a, b'" ∷ codes "\"a\\tb\"" ∷ [])
    ∷ (of_width (pos 5), quoted_root, codes "\"aaaaaa\n  \\ b\"" ∷ [])
    ∷ [])
unfolding lib.Utf8.encode
bodies_written = refl

bodies_read : GivesOfTwo read (
    (of_indent (pos 4), nested, Some (codes "k") ∷ Some (codes " a\nb\n\n") ∷ [])
    ∷ (two_breaks, folded_root, Some (codes "aaaaaa b\nc") ∷ [])
    ∷ (plain_settings, three, Some (codes "a") ∷ Some (codes "a, b") ∷ Some (codes "a\tb") ∷ [])
    ∷ (of_width (pos 5), quoted_root, Some (codes "aaaaaa  b") ∷ [])
    ∷ [])
unfolding lib.Utf8.encode
bodies_read = refl

quoted_is_indented : map is_indented_text (written (of_width (pos 5)) quoted_root) ≡ true ∷ []
quoted_is_indented = refl
