-- The state of a walk over tokens that builds a typed value.
use Rattle.std.specs.Prelude.{Option, None, Some, option_and_then, List, [], ◌∷◌}
use Rattle.std.specs.Str.{chars}
use Rattle.json.specs.Token.{Token}
use Rattle.yaml_base.specs.values.TypedValues.{TypedValue, null_value, bool_value, int_value, text_value, list_value, map_value, no_values, no_value_pairs}
use Rattle.yaml_value.specs.OpenLevels.{OpenLevel, items_open, pairs_open, value_due, with_value}
use Rattle.yaml_json_value.specs.Typed.{integer_of}

-- a value is whole, or it is within these levels, the innermost first
pub data ValueStanding : Type 0 where
  whole : TypedValue → ValueStanding
  within : List OpenLevel → ValueStanding

-- after a value, which is misplaced if a name is due
abbrev pub give : List OpenLevel → TypedValue → Option ValueStanding
give [] value = Some (whole value)
give (pairs_open pairs ∷ outer) value = None
give (level ∷ outer) value = Some (within (with_value level value ∷ outer))

-- after the end of a list, of a map, and after a name
abbrev pub end_list_in : OpenLevel → List OpenLevel → Option ValueStanding
end_list_in (items_open items) outer = give outer (list_value items)
end_list_in (pairs_open pairs) outer = None
end_list_in (value_due pairs name) outer = None

abbrev pub end_list : List OpenLevel → Option ValueStanding
end_list [] = None
end_list (level ∷ outer) = end_list_in level outer

abbrev pub end_map_in : OpenLevel → List OpenLevel → Option ValueStanding
end_map_in (items_open items) outer = None
end_map_in (pairs_open pairs) outer = give outer (map_value pairs)
end_map_in (value_due pairs name) outer = None

abbrev pub end_map : List OpenLevel → Option ValueStanding
end_map [] = None
end_map (level ∷ outer) = end_map_in level outer

abbrev pub name_member_in : OpenLevel → List OpenLevel → TypedValue → Option ValueStanding
name_member_in (items_open items) outer name = None
name_member_in (pairs_open pairs) outer name = Some (within (value_due pairs name ∷ outer))
name_member_in (value_due pairs other) outer name = None

abbrev pub name_member : List OpenLevel → TypedValue → Option ValueStanding
name_member [] name = None
name_member (level ∷ outer) name = name_member_in level outer name

-- after a token
abbrev pub take_token : Token → List OpenLevel → Option ValueStanding
take_token Token.begin_object levels = Some (within (pairs_open no_value_pairs ∷ levels))
take_token Token.end_object levels = end_map levels
take_token Token.begin_array levels = Some (within (items_open no_values ∷ levels))
take_token Token.end_array levels = end_list levels
take_token (Token.key name) levels = name_member levels (text_value (chars name))
take_token (Token.string text) levels = give levels (text_value (chars text))
take_token (Token.number text) levels = give levels (int_value (integer_of text))
take_token (Token.boolean flag) levels = give levels (bool_value flag)
take_token Token.null levels = give levels null_value
take_token Token.bad levels = None

-- after a token more; none may follow a whole value
abbrev pub next : Token → ValueStanding → Option ValueStanding
next token (whole value) = None
next token (within levels) = take_token token levels

-- after some tokens
abbrev pub run : List Token → ValueStanding → Option ValueStanding
run [] standing = Some standing
run (token ∷ tokens) standing = option_and_then (run tokens) (next token standing)
