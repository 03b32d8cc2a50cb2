-- The texts of events are strings, so they consist of Unicode scalar values.
use Rattle.yaml_emitter.proofs.Common.{option_map, Option, None, Some, true, List, [], map, ◌++◌, ◌∷◌, refl, ◌≡◌, and_parts, and_from, list_all, all_scalars}
use Rattle.yaml_emitter.proofs.Common.{Event, scalar, has_scalar_values, option_scalars, directive_scalars, has_scalar_texts, seen_directive, seen_event}
use Rattle.std.{proofs.Common.String, proofs.lemmas.Str.IsUtf8-string_bytes, proofs.lemmas.Str.scalars-chars, specs.String.string_bytes}
use Rattle.yaml_base.specs.{Seen.seen_text, declared.directives.yaml_tag_directive_t.yaml_tag_directive_t, declared.events.yaml_event_t.yaml_event_t}
use Rattle.yaml_base.specs.declared.events.yaml_event_t.TheVariants.{YAML_DOCUMENT_START_EVENT, YAML_MAPPING_START_EVENT, YAML_SCALAR_EVENT}
use Rattle.yaml_base.specs.declared.events.yaml_event_t.TheVariants.{YAML_SEQUENCE_START_EVENT}

string_scalars : {A : Type 0} (text : String A) → all_scalars (seen_text text) ≡ true
string_scalars text = scalars-chars (string_bytes text) (IsUtf8-string_bytes text)

choice_scalars : {A : Type 0} (choice : Option (String A)) → option_scalars (option_map seen_text choice) ≡ true
choice_scalars None = refl
choice_scalars (Some text) = string_scalars text

directives_scalars : {A : Type 0} (directives : List (yaml_tag_directive_t A)) → list_all directive_scalars (map seen_directive directives) ≡ true
directives_scalars [] = refl
directives_scalars (directive ∷ rest) = and_from _ _ (string_scalars directive.prefix) (directives_scalars rest)

-- The view of an event.
pub seen_scalars : {A : Type 0} (event : yaml_event_t A) → has_scalar_texts (seen_event event) ≡ true
seen_scalars (YAML_DOCUMENT_START_EVENT version directives implicit) = directives_scalars directives.items
seen_scalars (YAML_SCALAR_EVENT anchor tag value plain_implicit quoted_implicit style) = and_from _ _ (choice_scalars tag) (string_scalars value)
seen_scalars (YAML_SEQUENCE_START_EVENT anchor tag implicit style) = choice_scalars tag
seen_scalars (YAML_MAPPING_START_EVENT anchor tag implicit style) = choice_scalars tag
seen_scalars event = refl

-- One more event.
pub texts_more : (all : List Event) (event : Event) → list_all has_scalar_texts all ≡ true → has_scalar_texts event ≡ true
    → list_all has_scalar_texts (all ++ event ∷ []) ≡ true
texts_more [] event texts text = and_from _ _ text refl
texts_more (first ∷ rest) event texts text =
    let parts = and_parts (has_scalar_texts first) (list_all has_scalar_texts rest) texts in
    and_from _ _ parts.0 (texts_more rest event parts.1 text)

-- Of the texts values alone.
value_scalars : (event : Event) → has_scalar_texts event ≡ true → has_scalar_values event ≡ true
value_scalars (scalar content) h = (and_parts (option_scalars content.tag) (all_scalars content.value) h).1
value_scalars event h = refl

pub values_of_texts : (all : List Event) → list_all has_scalar_texts all ≡ true → list_all has_scalar_values all ≡ true
values_of_texts [] h = refl
values_of_texts (event ∷ rest) h =
    let parts = and_parts (has_scalar_texts event) (list_all has_scalar_texts rest) h in
    and_from _ _ (value_scalars event parts.0) (values_of_texts rest parts.1)
