-- How the numbers of a writer are read.
use Rattle.std.specs.Prelude.{◌≡◌, Bool, true, false, ◌||◌}
use Rattle.yaml_base.specs.scalars.Analysis.{Charset, allowances, is_empty}
use Rattle.yaml_base.specs.Event.{plain}
use Rattle.yaml_base.specs.values.JsonNumbers.{JsonNumber, is_json_number, json_value, means_number, yaml_number}
use Rattle.yaml_base.specs.values.SchemaCore.{resolved_by_core}
use Rattle.yaml_base.specs.values.SchemaOf11.{resolved_by_11}
use Rattle.yaml_base.specs.scalars.Style.{chosen}

-- A number of JSON is written plain at every place outside canonical form, whichever characters are written as themselves, if its tag is
-- written or its flag for plain text is set; and its text is exactly that number by both schemas.
abbrev pub WrittenNumbersAreRead : Type 0
WrittenNumbersAreRead =
    (number : JsonNumber) (charset : Charset) (tag_written plain_implicit quoted_implicit flow simple_key : Bool)
    → is_json_number number ≡ true → (tag_written || plain_implicit) ≡ true
    → let text = yaml_number number in
    ((chosen (allowances charset text) plain (is_empty text) tag_written plain_implicit quoted_implicit flow simple_key false).style ≡ plain)
    × (means_number (json_value number) (resolved_by_11 text) ≡ true)
    × (means_number (json_value number) (resolved_by_core text) ≡ true)
