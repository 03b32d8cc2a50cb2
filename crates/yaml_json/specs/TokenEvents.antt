-- The events of the tokens of a text: one of each, in order.
use Rattle.std.specs.Prelude.{Bool, List, [], ◌∷◌, flat_map}
use Rattle.std.specs.Str.{chars}
use Rattle.json.specs.Token.{Token, begin_object, end_object, begin_array, end_array, key, string, number, boolean, null, bad}
use Rattle.yaml_base.specs.Event.{Event, scalar, sequence_start, sequence_end, mapping_start, mapping_end}
use Rattle.yaml_writer.specs.NumberParts.{number_in}
use Rattle.yaml_writer.specs.Contents.{bool_content, collection_in, null_content, number_content, text_content}

-- The event of a token. A bad token has none.
abbrev pub token_events : (canonical in_flow : Bool) → Token → List Event
token_events canonical in_flow begin_object = mapping_start (collection_in in_flow) ∷ []
token_events canonical in_flow end_object = mapping_end ∷ []
token_events canonical in_flow begin_array = sequence_start (collection_in in_flow) ∷ []
token_events canonical in_flow end_array = sequence_end ∷ []
token_events canonical in_flow (key text) = scalar (text_content (chars text)) ∷ []
token_events canonical in_flow (string text) = scalar (text_content (chars text)) ∷ []
token_events canonical in_flow (number text) = scalar (number_content canonical (number_in text)) ∷ []
token_events canonical in_flow (boolean flag) = scalar (bool_content canonical flag) ∷ []
token_events canonical in_flow null = scalar (null_content canonical) ∷ []
token_events canonical in_flow bad = []

-- the events of some tokens
abbrev pub tokens_events : (canonical in_flow : Bool) → List Token → List Event
tokens_events canonical in_flow all = flat_map (token_events canonical in_flow) all
