-- The meaning of a scalar that was read, and its tag (yaml.org/type).
use Rattle.std.specs.Prelude.{bytes_eq, codes, if◌then◌else◌, []}
use Rattle.yaml_base.specs.Characters.{Text}
use Rattle.yaml_base.specs.streams.StreamContent.{Tagging, with_tag, without_tag, stood_plain}
use Rattle.yaml_base.specs.values.Resolved.{Resolved, meant_null, meant_boolean, meant_integer, meant_decimal, meant_infinity, meant_nan, meant_timestamp}
use Rattle.yaml_base.specs.values.Resolved.{meant_merge, meant_value, meant_text, meant_by_nobody}

-- the reading of plain scalars without a tag by a schema
abbrev pub Schema : Type 0
Schema = Text → Resolved

-- the tag of a reading
abbrev pub canonical_tag : Resolved → Text
canonical_tag meant_null = codes "tag:yaml.org,2002:null"
canonical_tag (meant_boolean flag) = codes "tag:yaml.org,2002:bool"
canonical_tag (meant_integer integer) = codes "tag:yaml.org,2002:int"
canonical_tag (meant_decimal decimal) = codes "tag:yaml.org,2002:float"
canonical_tag (meant_infinity negative) = codes "tag:yaml.org,2002:float"
canonical_tag meant_nan = codes "tag:yaml.org,2002:float"
canonical_tag meant_timestamp = codes "tag:yaml.org,2002:timestamp"
canonical_tag meant_merge = codes "tag:yaml.org,2002:merge"
canonical_tag meant_value = codes "tag:yaml.org,2002:value"
canonical_tag meant_text = codes "tag:yaml.org,2002:str"
canonical_tag meant_by_nobody = []

-- the meaning of a scalar: plain, the schema's reading; in quotes, a text; with a tag, the schema's reading if it has that tag
abbrev pub scalar_meant : Schema → Tagging → Text → Resolved
scalar_meant schema (without_tag stood_plain) value = schema value
scalar_meant schema (without_tag _) value = meant_text
scalar_meant schema (with_tag tag) value = if bytes_eq tag (canonical_tag (schema value)) then schema value else meant_by_nobody

-- the tag of a scalar that was read: its written tag, or else that of its meaning
abbrev pub tag_meant : Schema → Tagging → Text → Text
tag_meant schema (with_tag tag) value = tag
tag_meant schema (without_tag standing) value = canonical_tag (scalar_meant schema (without_tag standing) value)
