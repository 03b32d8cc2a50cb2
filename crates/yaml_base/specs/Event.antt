-- Events and their parts as plain data (the serialization tree of YAML 1.1, section 3.2.2, in libyaml's events).
use Rattle.std.specs.Prelude.{ℤ, Bool, Option, None, List, ◌||◌, ◌&&◌, not, if◌then◌else◌}
use Rattle.yaml_base.specs.Characters.{Text}
use Rattle.yaml_base.specs.Settings.{Encoding}

-- the style in which a scalar is to be written (chapter 9)
pub data ScalarStyle : Type 0 where
  any_style : ScalarStyle
  plain : ScalarStyle
  single_quoted : ScalarStyle
  double_quoted : ScalarStyle
  literal : ScalarStyle
  folded : ScalarStyle

-- the style in which a sequence or a mapping is to be written (chapter 10)
pub data CollectionStyle : Type 0 where
  any_layout : CollectionStyle
  block : CollectionStyle
  flow : CollectionStyle

-- the version of a `%YAML` directive (YAML 1.1, section 7.1.1)
pub record Version : Type 0 where
  pub major : ℤ
  pub minor : ℤ

-- a handle, and the prefix that it means (YAML 1.1, section 7.1.2)
pub record TagDirective : Type 0 where
  pub handle : Text
  pub prefix : Text

-- the start of a document; implicit asks for no `---`
pub record DocumentStart : Type 0 where
  pub version : Option Version
  pub directives : List TagDirective
  pub implicit : Bool

-- a scalar; its flags say when its tag may be left out: if it is written plain, and if it is written in any other style
pub record Scalar : Type 0 where
  pub anchor : Option Text
  pub tag : Option Text
  pub value : Text
  pub plain_implicit : Bool
  pub quoted_implicit : Bool
  pub style : ScalarStyle

-- the start of a sequence or a mapping
pub record Collection : Type 0 where
  pub anchor : Option Text
  pub tag : Option Text
  pub implicit : Bool
  pub style : CollectionStyle

-- the events of a stream, in the order in which they are given
pub data Event : Type 0 where
  stream_start : Option Encoding → Event
  stream_end : Event
  document_start : DocumentStart → Event
  document_end : Bool → Event
  alias : Text → Event
  scalar : Scalar → Event
  sequence_start : Collection → Event
  sequence_end : Event
  mapping_start : Collection → Event
  mapping_end : Event

-- the tag that is written with a scalar: none if a flag lets it be left out
abbrev pub scalar_tag : Bool → Scalar → Option Text
scalar_tag canonical content =
    if canonical || (not content.plain_implicit && not content.quoted_implicit) then content.tag else None

-- the tag that is written with a collection: none if its flag lets it be left out
abbrev pub collection_tag : Bool → Collection → Option Text
collection_tag canonical start = if canonical || not start.implicit then start.tag else None
