-- The view of a composer in contracts.
use Rattle.std.specs.Prelude.{map, reverse}
use Rattle.yaml_base.specs.graphs.SeenNodes.{seen_number, seen_node}
use Rattle.yaml_dump.specs.Composition as composition
use Rattle.yaml_dump.specs.Composition.{Composition}
use Rattle.yaml_dump.specs.declared.composer.Unended.{Unended}
use Rattle.yaml_dump.specs.declared.composer.Composer.{Composer}

-- a collection that hasn't ended
abbrev pub seen_unended : {A : Type 0} → Unended A → composition.Unended
seen_unended collection = record { place = collection.place; children = map seen_number collection.children.items }

-- a composer's state, the innermost collection first
abbrev pub seen_composer : {A : Type 0} → Composer A → Composition
seen_composer composer = record {
  nodes = map seen_node composer.nodes.items;
  unended = reverse (map seen_unended composer.unended.items);
  carriers = map seen_number composer.carriers.items;
}
