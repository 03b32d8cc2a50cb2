-- The contents of the events of a value that has no anchor, and no tag but its type's.
use Rattle.std.specs.Prelude.{Bool, true, Option, None, Some, codes, is_none, if◌then◌else◌}
use Rattle.yaml_base.specs.Characters.{Text}
use Rattle.yaml_base.specs.Event.{Collection, CollectionStyle, block, flow, Scalar, ScalarStyle, plain}
use Rattle.yaml_base.specs.values.JsonNumbers.{JsonNumber, yaml_number}
use Rattle.yaml_base.specs.values.TypedValues.{null_tag, bool_tag, bool_text}
use Rattle.yaml_writer.specs.Writing.{number_tag, text_style}

-- A scalar without an anchor; a tag is written if there is one.
abbrev pub content_with : Option Text → Text → ScalarStyle → Scalar
content_with tag value style =
    record { anchor = None; tag = tag; value = value; plain_implicit = is_none tag; quoted_implicit = is_none tag; style = style }

-- A plain word, with its type's tag in canonical form.
abbrev pub word_content : (canonical : Bool) → (tag word : Text) → Scalar
word_content canonical tag word = content_with (if canonical then Some tag else None) word plain

-- nothing
abbrev pub null_content : (canonical : Bool) → Scalar
null_content canonical = word_content canonical null_tag (codes "null")

-- a boolean
abbrev pub bool_content : (canonical : Bool) → Bool → Scalar
bool_content canonical flag = word_content canonical bool_tag (bool_text flag)

-- a number, spelled as both schemas of YAML read it
abbrev pub number_content : (canonical : Bool) → JsonNumber → Scalar
number_content canonical parts = word_content canonical (number_tag parts) (yaml_number parts)

-- A text, plain only if both schemas of YAML read it as a text.
abbrev pub text_content : Text → Scalar
text_content text = content_with None text (text_style text)

-- a collection in flow or in a block, without anchor and tag
abbrev pub style_of : (in_flow : Bool) → CollectionStyle
style_of in_flow = if in_flow then flow else block

abbrev pub collection_in : (in_flow : Bool) → Collection
collection_in in_flow = record { anchor = None; tag = None; implicit = true; style = style_of in_flow }
