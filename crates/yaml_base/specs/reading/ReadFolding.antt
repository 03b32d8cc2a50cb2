-- How blanks and breaks fold in plain and quoted text.
-- Source, unless a definition names its own: helpers of this project's reader for b-l-folded-any(n,s)
-- (YAML 1.1, section 6.5 Line Folding), as libyaml has it.
use Rattle.std.specs.Prelude.{ℕ, Bool, List, [], ◌∷◌, ◌++◌, ◌==◌, if◌then◌else◌}
use Rattle.yaml_base.specs.Characters.{Text, is_blank, line_feed, space}
use Rattle.yaml_base.specs.LineBreaks.{is_read_break}

-- a text inside a scalar is a list of blanks, breaks, and characters that mean themselves, escapes among them (YAML 1.1, sections 5.4 Line
-- Break Characters and 5.5 Miscellaneous Characters, b-normalized, s-char, ns-char)
pub data FoldUnit : Type 0 where
  literal_blank : ℕ → FoldUnit
  literal_break : ℕ → FoldUnit
  itself : ℕ → FoldUnit

-- the unit of a character that isn't escaped (YAML 1.1, sections 5.4 Line Break Characters and 5.5 Miscellaneous Characters, b-normalized,
-- s-char, ns-char)
abbrev pub unit_of : Bool → ℕ → FoldUnit
unit_of breaks12 c =
    if is_blank c then literal_blank c else if is_read_break breaks12 c then literal_break c else itself c

-- a text seen from its start: the blanks or the run of breaks there, and the reading of the rest
pub record FoldState : Type 0 where
  pub blanks : Text
  pub breaks : Text
  pub rest : Text

-- the reading of a run of breaks: if it begins with LF, a space if it is that LF alone, else the breaks after it; a run that begins with
-- U+2028 or U+2029 is kept (YAML 1.1, section 6.5 Line Folding, b-l-folded-specific(n,s), b-l-folded-as-space, b-l-folded-trimmed(n,s))
abbrev pub run_read : Text → Text
run_read [] = []
run_read (first ∷ []) = if first == line_feed then space ∷ [] else first ∷ []
run_read (first ∷ second ∷ more) = if first == line_feed then second ∷ more else first ∷ second ∷ more

-- the text of a fold state
abbrev pub fold_state_text : FoldState → Text
fold_state_text prefix = prefix.blanks ++ (run_read prefix.breaks ++ prefix.rest)

-- one blank more before other blanks; before a run of breaks it is dropped (YAML 1.1, sections 6.4 Ignored Line Prefix and 9.1 Flow Scalar
-- Styles, s-ignored-prefix(n,s))
abbrev pub blanks_before : (breaks : Text) → (blanks : Text) → Text
blanks_before [] blanks = blanks
blanks_before (first ∷ more) blanks = []

-- one more unit before a fold state: blanks before, between and after the breaks of a run are dropped
-- (YAML 1.1, sections 6.4 Ignored Line Prefix and 9.1 Flow Scalar Styles, s-ignored-prefix(n,s))
abbrev pub prepend_unit : FoldUnit → FoldState → FoldState
prepend_unit (literal_blank c) prefix = record prefix { blanks = blanks_before prefix.breaks (c ∷ prefix.blanks) }
prepend_unit (literal_break c) prefix = record prefix { blanks = []; breaks = c ∷ prefix.breaks }
prepend_unit (itself c) prefix = record { blanks = []; breaks = []; rest = c ∷ fold_state_text prefix }

-- the fold state of some units, read from the last to the first
abbrev pub fold_state_of : List FoldUnit → FoldState
fold_state_of [] = record { blanks = []; breaks = []; rest = [] }
fold_state_of (unit ∷ units) = prepend_unit unit (fold_state_of units)

-- the reading of units: runs of breaks fold, blanks beside them are dropped, all else stays (YAML 1.1, section 6.5 Line Folding,
-- b-l-folded-any(n,s))
abbrev pub folding_read : List FoldUnit → Text
folding_read units = fold_state_text (fold_state_of units)
