-- What is left of the lists and maps of a program, as it is seen.
use Rattle.std.specs.Prelude.{List, [], ◌∷◌, map}
use Rattle.yaml_value.specs.SeenValues.{seen_value}
use Rattle.yaml_json_value.specs.Untyped.{Left, items_left, members_left}
use Rattle.yaml_json_value.specs.declared.back.Rest.{Rest}

abbrev pub seen_rest : {A : Type 0} → Rest A → Left
seen_rest (Rest.Items items) = items_left (map seen_value items.now)
seen_rest (Rest.Members members) = members_left (map (λ member. (seen_value member.0, seen_value member.1)) members.now)

-- the innermost first, before outer ones
abbrev pub onto : {A : Type 0} → List Left → List (Rest A) → List Left
onto outer [] = outer
onto outer (rest ∷ rests) = onto (seen_rest rest ∷ outer) rests

abbrev pub seen_rests : {A : Type 0} → List (Rest A) → List Left
seen_rests rests = onto [] rests
