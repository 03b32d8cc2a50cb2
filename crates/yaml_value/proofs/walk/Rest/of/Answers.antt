use Rattle.yaml_value.proofs.Common.{List, [], map, ◌∷◌, ap, sym, ◌∙◌, TypedValue, seen_value}
use Rattle.yaml_value.{proofs.WalkLemmas.items_seen, proofs.WalkLemmas.pairs_seen, specs.Walk.entered, specs.Walk.seen_flat, specs.Walk.Left}
use Rattle.yaml_value.specs.Walk.{item_next, key_next}
use Rattle.yaml_value.proofs.SeenLevels.{seen_list, seen_map}
use Rattle.yaml_value.proofs.walk.Rest.of.Goals as goal

abbrev items_left : List TypedValue → List Left
items_left values = record { values = values; next = item_next } ∷ []

abbrev fields_left : List TypedValue → List Left
fields_left values = record { values = values; next = key_next } ∷ []

pub returns-in-List : goal.returns-in-List
returns-in-List g c =
    ap items_left (ap (map seen_value) c.as_slice.ensures.value ∙ sym (items_seen c.in-List.items.items))
    ∙ sym (ap entered (seen_list c.in-List.items)) ∙ sym (ap (λ value. entered (seen_value value)) c.in-List.is)

pub returns-in-Map : goal.returns-in-Map
returns-in-Map g c =
    ap fields_left (ap seen_flat c.as_slice-in-Map.ensures.value ∙ sym (pairs_seen c.in-Map.pairs.items))
    ∙ sym (ap entered (seen_map c.in-Map.pairs)) ∙ sym (ap (λ value. entered (seen_value value)) c.in-Map.is)
