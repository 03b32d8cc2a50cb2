-- The events of a value of JSON.
use Rattle.std.specs.Prelude.{Bool, List, [], ◌∷◌, ◌++◌}
use Rattle.std.specs.Str.{chars}
use Rattle.json.specs.Json.{Json, null, boolean, number, string, array, object, Items, no_items, item, Members, no_members, member}
use Rattle.yaml_base.specs.Event.{Event, scalar, sequence_start, sequence_end, mapping_start, mapping_end}
use Rattle.yaml_writer.specs.Contents.{bool_content, collection_in, null_content, number_content, text_content}
use Rattle.yaml_writer.specs.NumberParts.{number_in}

-- the events of a value, of the items of an array, of the members of an object
abbrev mutual
  pub json_events : (canonical in_flow : Bool) → Json → List Event
  json_events canonical in_flow null = scalar (null_content canonical) ∷ []
  json_events canonical in_flow (boolean flag) = scalar (bool_content canonical flag) ∷ []
  json_events canonical in_flow (number text) = scalar (number_content canonical (number_in text)) ∷ []
  json_events canonical in_flow (string text) = scalar (text_content (chars text)) ∷ []
  json_events canonical in_flow (array items) =
      sequence_start (collection_in in_flow) ∷ (items_events canonical in_flow items ++ sequence_end ∷ [])
  json_events canonical in_flow (object members) =
      mapping_start (collection_in in_flow) ∷ (members_events canonical in_flow members ++ mapping_end ∷ [])

  pub items_events : (canonical in_flow : Bool) → Items → List Event
  items_events canonical in_flow no_items = []
  items_events canonical in_flow (item json items) = json_events canonical in_flow json ++ items_events canonical in_flow items

  pub members_events : (canonical in_flow : Bool) → Members → List Event
  members_events canonical in_flow no_members = []
  members_events canonical in_flow (member key json members) =
      scalar (text_content (chars key)) ∷ (json_events canonical in_flow json ++ members_events canonical in_flow members)
