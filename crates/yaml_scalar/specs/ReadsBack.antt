-- The value that a reader finds in a scalar's text.
use Rattle.std.specs.Prelude.{◌≡◌, true, Option, Some, ◌++◌}
use Rattle.std.specs.List.{list_all}
use Rattle.yaml_base.specs.Characters.{Text, is_space}
use Rattle.yaml_base.specs.LineBreaks.{is_indented_text, with_line_breaks_read}

-- a text grew by a lead of spaces and a body: once its line breaks are read the body reads as the value, and
-- each of its nonempty lines after the first begins with at least two spaces
pub record ReadsBack (read : Text → Option Text) (value before after : Text) : Type 0 where
  pub lead : Text
  pub body : Text
  pub grown : after ≡ before ++ (lead ++ body)
  pub spaces : list_all is_space lead ≡ true
  pub reads : read (with_line_breaks_read body) ≡ Some value
  pub indented : is_indented_text body ≡ true
