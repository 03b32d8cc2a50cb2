-- How the texts of a writer are read.
use Rattle.std.specs.Prelude.{◌≡◌, Bool}
use Rattle.yaml_base.specs.scalars.Analysis.{Allowances}
use Rattle.yaml_base.specs.Characters.{Text}
use Rattle.yaml_base.specs.Event.{ScalarStyle, plain}
use Rattle.yaml_base.specs.values.Resolved.{meant_text}
use Rattle.yaml_base.specs.values.SchemaCore.{resolved_by_core}
use Rattle.yaml_base.specs.values.SchemaOf11.{resolved_by_11}
use Rattle.yaml_base.specs.scalars.Style.{chosen}
use Rattle.yaml_writer.specs.Writing.{style_asked}

-- If a text is written plain, it means a text by both schemas, at every place, whatever it allows and whichever style was asked for.
abbrev pub PlainTextsAreTexts : Type 0
PlainTextsAreTexts =
    (asked : ScalarStyle) (text : Text) (allowed : Allowances) (empty tag_written plain_implicit quoted_implicit flow simple_key canonical : Bool)
    → (chosen allowed (style_asked asked text) empty tag_written plain_implicit quoted_implicit flow simple_key canonical).style ≡ plain
    → (resolved_by_11 text ≡ meant_text) × (resolved_by_core text ≡ meant_text)
