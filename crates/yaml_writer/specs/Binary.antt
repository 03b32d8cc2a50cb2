-- Bytes, as base64 (yaml.org/type/binary; RFC 4648, section 4).
use Rattle.std.specs.Prelude.{ℕ, true, List, codes, chars}
use Rattle.base64.specs.Engines.{standard}
use Rattle.base64.specs.GeneralPurpose.{encode_of}
use Rattle.yaml_base.specs.Characters.{Text}
use Rattle.yaml_base.specs.Event.{Event}
use Rattle.yaml_writer.specs.Writing.{WriterState, scalar_event, tag_or_default, text_style}

-- the tag of bytes
abbrev pub binary_tag : Text
binary_tag = codes "tag:yaml.org,2002:binary"

-- The text of bytes: their base64 by the standard alphabet, with padding.
abbrev pub binary_text : List ℕ → Text
binary_text bytes = chars (encode_of standard bytes)

-- The event of bytes, with their tag if none was given.
abbrev pub bytes_event : WriterState → List ℕ → Event
bytes_event writer bytes = scalar_event writer (tag_or_default writer.tag true binary_tag) (binary_text bytes) (text_style (binary_text bytes))
