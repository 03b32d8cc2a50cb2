-- The events of a service's configuration.
use Rattle.std.specs.Prelude.{ℕ, pos, Bool, false, List, [], ◌∷◌, ◌++◌, String, codes, flat_map, map}
use Rattle.std.specs.Fmt.{signed_decimal}
use Rattle.yaml_base.specs.Characters.{Text}
use Rattle.yaml_base.specs.Event.{Event, scalar, sequence_end, mapping_end}
use Rattle.yaml_base.specs.Seen.{seen_text}
use Rattle.yaml_base.specs.values.TypedValues.{int_tag}
use Rattle.yaml_base.specs.declared.kinds.CollectionKind.TheVariants.{Mapping, Sequence}
use Rattle.yaml_writer.specs.Contents.{text_content, word_content}
use Rattle.yaml_writer.specs.WasGiven.{start_event}
use Rattle.yaml_writer.specs.Writing.{closing, opening}
use Rattle.yaml_caller.specs.declared.service.Service.{Service}

-- The event of a text.
abbrev pub text_scalar : Text → Event
text_scalar text = scalar (text_content text)

-- The events of a key and a text.
abbrev pub text_entry : (key value : Text) → List Event
text_entry key value = text_scalar key ∷ text_scalar value ∷ []

-- The events of a key and a number.
abbrev pub number_entry : (canonical : Bool) → (key : Text) → ℕ → List Event
number_entry canonical key value = text_scalar key ∷ scalar (word_content canonical int_tag (signed_decimal (pos value))) ∷ []

-- The events of texts.
abbrev pub text_items : {A : Type 0} → List (String A) → List Event
text_items texts = map (λ text. text_scalar (seen_text text)) texts

-- The events of a key and a list of texts.
abbrev pub list_entry : {A : Type 0} → (key : Text) → List (String A) → List Event
list_entry key texts = text_scalar key ∷ start_event false Sequence ∷ (text_items texts ++ sequence_end ∷ [])

-- The events of labels.
abbrev pub label_entries : {A : Type 0} → List (String A × String A) → List Event
label_entries labels = flat_map (λ label. text_entry (seen_text label.0) (seen_text label.1)) labels

-- The events of a key and a mapping of labels.
abbrev pub labels_entry : {A : Type 0} → (key : Text) → List (String A × String A) → List Event
labels_entry key labels = text_scalar key ∷ start_event false Mapping ∷ (label_entries labels ++ mapping_end ∷ [])

-- The events of a service's fields.
abbrev pub service_entries : {A : Type 0} → (canonical : Bool) → Service A → List Event
service_entries canonical service =
    text_entry (codes "name") (seen_text service.name)
    ++ (number_entry canonical (codes "port") service.port
    ++ (number_entry canonical (codes "replicas") service.replicas
    ++ (list_entry (codes "hosts") service.hosts.items ++ labels_entry (codes "labels") service.labels.items)))

-- The events of a service's configuration.
abbrev pub service_events : {A : Type 0} → (canonical : Bool) → Service A → List Event
service_events canonical service = start_event false Mapping ∷ (service_entries canonical service ++ mapping_end ∷ [])

-- The events of a stream of one document that is a service's configuration.
abbrev pub service_stream : {A : Type 0} → Service A → List Event
service_stream service = opening ++ (service_events false service ++ closing)
