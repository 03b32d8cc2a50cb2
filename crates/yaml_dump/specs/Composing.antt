-- The view of a document that is composed.
use Rattle.std.specs.Prelude.{map, option_map}
use Rattle.yaml_base.specs.Event.{DocumentStart}
use Rattle.yaml_base.specs.Seen.{seen_version, seen_directive}
use Rattle.yaml_dump.specs.declared.composing.Heading.{Heading}

-- a document's start
abbrev pub seen_heading : {A : Type 0} → Heading A → DocumentStart
seen_heading heading = record {
  version = option_map seen_version heading.version;
  directives = map seen_directive heading.tags.items;
  implicit = heading.implicit;
}
