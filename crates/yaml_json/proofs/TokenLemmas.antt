-- The events of the tokens of a value are those of the value.
use Rattle.yaml_json.proofs.Common.{events_with_separators, between, levels_after, levels_after_event, ℕ, Bool, List, [], ◌++◌, ◌∷◌, refl, ◌≡◌, append_assoc}
use Rattle.yaml_json.proofs.Common.{ap, ap₂, sym, ◌∙◌, flat_map-append, chars, Json, Items, array, Members, object, no_items, item, no_members, member, Token}
use Rattle.yaml_json.proofs.Common.{json_tokens, items_tokens, members_tokens, Event, scalar, sequence_start, sequence_end, mapping_start, mapping_end}
use Rattle.yaml_json.proofs.Common.{text_content, collection_in, json_events, items_events, members_events, token_events, tokens_events, CollectionKind}
use Rattle.yaml_json.proofs.Common.{Mapping, Sequence}
use Rattle.yaml_writer.proofs.OpenLevels.{levels_after-append, levels_after_end}

pub some_then : (canonical in_flow : Bool) (first second : List Token)
    → tokens_events canonical in_flow (first ++ second) ≡ tokens_events canonical in_flow first ++ tokens_events canonical in_flow second
some_then canonical in_flow first second = flat_map-append (token_events canonical in_flow) first second

-- A value, the tokens after it, and the end.
ends_after : (canonical in_flow : Bool) (first second : List Token) (events later : List Event) (end : Event)
    → tokens_events canonical in_flow first ≡ events → tokens_events canonical in_flow second ≡ later ++ end ∷ []
    → tokens_events canonical in_flow (first ++ second) ≡ (events ++ later) ++ end ∷ []
ends_after canonical in_flow first second events later end one other =
    some_then canonical in_flow first second ∙ ap₂ (λ (a b : List Event). a ++ b) one other ∙ sym (append_assoc events later (end ∷ []))

mutual
  pub value_given : (json : Json) (canonical in_flow : Bool) → tokens_events canonical in_flow (json_tokens json) ≡ json_events canonical in_flow json
  value_given (array inner) canonical in_flow =
      ap (λ (events : List Event). sequence_start (collection_in in_flow) ∷ events) (items_given inner canonical in_flow)
  value_given (object inner) canonical in_flow =
      ap (λ (events : List Event). mapping_start (collection_in in_flow) ∷ events) (members_given inner canonical in_flow)
  value_given _ canonical in_flow = refl

  items_given : (inner : Items) (canonical in_flow : Bool)
      → tokens_events canonical in_flow (items_tokens inner) ≡ items_events canonical in_flow inner ++ sequence_end ∷ []
  items_given no_items canonical in_flow = refl
  items_given (item json more) canonical in_flow =
      ends_after canonical in_flow (json_tokens json) (items_tokens more) (json_events canonical in_flow json) (items_events canonical in_flow more)
      sequence_end (value_given json canonical in_flow) (items_given more canonical in_flow)

  members_given : (inner : Members) (canonical in_flow : Bool)
      → tokens_events canonical in_flow (members_tokens inner) ≡ members_events canonical in_flow inner ++ mapping_end ∷ []
  members_given no_members canonical in_flow = refl
  members_given (member key json more) canonical in_flow =
      ap (λ (events : List Event). scalar (text_content (chars key)) ∷ events)
      (ends_after canonical in_flow (json_tokens json) (members_tokens more) (json_events canonical in_flow json)
      (members_events canonical in_flow more) mapping_end (value_given json canonical in_flow) (members_given more canonical in_flow))

-- ---- a value leaves open the collections that were open before it

mutual
  pub value_closed : (json : Json) (canonical in_flow : Bool) (levels : List CollectionKind) → levels_after (json_events canonical in_flow json) levels ≡ levels
  value_closed (array inner) canonical in_flow levels =
      levels_after-append (items_events canonical in_flow inner) (sequence_end ∷ []) (levels ++ Sequence ∷ [])
      ∙ ap (levels_after_event sequence_end) (items_closed inner canonical in_flow (levels ++ Sequence ∷ [])) ∙ levels_after_end Sequence levels
  value_closed (object inner) canonical in_flow levels =
      levels_after-append (members_events canonical in_flow inner) (mapping_end ∷ []) (levels ++ Mapping ∷ [])
      ∙ ap (levels_after_event mapping_end) (members_closed inner canonical in_flow (levels ++ Mapping ∷ [])) ∙ levels_after_end Mapping levels
  value_closed _ canonical in_flow levels = refl

  items_closed : (inner : Items) (canonical in_flow : Bool) (levels : List CollectionKind) → levels_after (items_events canonical in_flow inner) levels ≡ levels
  items_closed no_items canonical in_flow levels = refl
  items_closed (item json more) canonical in_flow levels =
      levels_after-append (json_events canonical in_flow json) (items_events canonical in_flow more) levels
      ∙ ap (levels_after (items_events canonical in_flow more)) (value_closed json canonical in_flow levels) ∙ items_closed more canonical in_flow levels

  members_closed : (inner : Members) (canonical in_flow : Bool) (levels : List CollectionKind)
      → levels_after (members_events canonical in_flow inner) levels ≡ levels
  members_closed no_members canonical in_flow levels = refl
  members_closed (member key json more) canonical in_flow levels =
      levels_after-append (json_events canonical in_flow json) (members_events canonical in_flow more) levels
      ∙ ap (levels_after (members_events canonical in_flow more)) (value_closed json canonical in_flow levels) ∙ members_closed more canonical in_flow levels

-- So do some texts, with a document begun after each.
pub texts_closed : (canonical in_flow : Bool) (parts : List (List ℕ × Json)) (levels : List CollectionKind)
    → levels_after (events_with_separators canonical in_flow parts) levels ≡ levels
texts_closed canonical in_flow [] levels = refl
texts_closed canonical in_flow (part ∷ parts) levels =
    let one = json_events canonical in_flow part.1 in
    levels_after-append (one ++ between) (events_with_separators canonical in_flow parts) levels
    ∙ ap (levels_after (events_with_separators canonical in_flow parts)) (levels_after-append one between levels)
    ∙ ap (λ (kinds : List CollectionKind). levels_after (events_with_separators canonical in_flow parts) (levels_after between kinds))
    (value_closed part.1 canonical in_flow levels)
    ∙ texts_closed canonical in_flow parts levels
