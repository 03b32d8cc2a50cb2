-- The text of one character of a line, by its kind.
use Rattle.yaml_scalar.proofs.Common.{arith, nat_tests}
use Rattle.yaml_scalar.proofs.Common.{ℕ, if◌then◌else◌, ◌==◌, Bool, not, ◌&&◌, ◌||◌, [], ◌++◌, ◌∷◌, refl, ◌≡◌, eqb-true, Text}
use Rattle.yaml_scalar.proofs.Common.{Option, Result, Page, Wrote, wrote_as, is_past_width, render_text, written_as, line_feed, space, is_space, is_break}
use Rattle.yaml_scalar.proofs.Common.{is_empty, CharacterKind, Space, Break, Other, kind_of, is_same_kind, indentation, begins_kind, step_text}
use Rattle.yaml_base.specs.declared.errors.yaml_error_t.{yaml_error_t}
use Rattle.yaml_scalar.specs.LineSteps.{render_line_step}

space_of_kind : (c : ℕ) → Space ≡ kind_of c → space ≡ c
space_of_kind c kind = by (is_space c) (is_break c) refl kind
  where
    by : (spaced broken : Bool) → is_space c ≡ spaced → Space ≡ (if spaced then Space else if broken then Break else Other) → space ≡ c
    by spaced broken e k = grind (arith, nat_tests, eqb-true, space)

-- A character's text is written as its step.
module _ (quoted : Bool) (limit : Option ℕ) (indent : ℕ) (before : CharacterKind) (c : ℕ) (rest : Text) where
  abbrev Writes : Page → Page → Result (Unit {0}) yaml_error_t → Text → Type 0
  Writes at to answer text = Wrote (render_text text) at to answer → Wrote (render_line_step (written_as quoted) limit indent before c rest) at to answer

  by_kind : {at to : Page} {answer : Result (Unit {0}) yaml_error_t} {text : Text} (kind : CharacterKind) → kind ≡ kind_of c
      → text ≡ step_text (written_as quoted) (is_past_width limit at.cursor) indent before kind c rest → Writes at to answer text
  by_kind {at} kind is same = grind (arith, nat_tests, wrote_as, render_line_step, written_as, render_text, step_text, is_past_width)

  -- a space, or a fold in its place
  pub space_written : {at to : Page} {answer : Result (Unit {0}) yaml_error_t} (folds : Bool) → Space ≡ kind_of c
      → folds ≡ (is_past_width limit at.cursor && not (is_same_kind before Space || (is_empty rest || begins_kind Space rest)))
      → Writes at to answer (if folds then line_feed ∷ indentation indent else space ∷ [])
  space_written {at} folds kind is = grind (arith, nat_tests, by_kind, line_feed, indentation, space, step_text, written_as, is_past_width, space_of_kind)

  -- a break, with the text before and after it
  pub break_written : {at to : Page} {answer : Result (Unit {0}) yaml_error_t} (doubled goes_on : Bool) → Break ≡ kind_of c
      → doubled ≡ (c == line_feed && not (is_same_kind before Break)) → goes_on ≡ begins_kind Break rest
      → Writes at to answer ((if doubled then line_feed ∷ [] else []) ++ (c ∷ (if goes_on then [] else indentation indent)))
  break_written doubled goes_on kind twice goes = grind (arith, nat_tests, by_kind, line_feed, indentation, not, is_same_kind)

  -- any other character
  pub other_written : {at to : Page} {answer : Result (Unit {0}) yaml_error_t} → Other ≡ kind_of c → Writes at to answer (written_as quoted (c ∷ []))
  other_written kind = by_kind Other kind refl
