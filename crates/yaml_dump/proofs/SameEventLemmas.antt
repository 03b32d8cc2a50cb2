-- The meaning of `==` for events: whether their views are equal.
use Rattle.yaml_dump.proofs.Common.{arith, nat_tests}
use Rattle.yaml_dump.proofs.Common.{◌≡◌, refl, false≢true, ap, sym, ◌∙◌, Bool, ◌&&◌, List, [], ◌∷◌, map, Option, option_map, seen_event}
use Rattle.std.proofs.lemmas.{Bool.Decides.Decides-at, Bool.Decides.Decides-like, Bool.Decides.Decides-and}
use Rattle.std.proofs.lemmas.{Slice.Eq.bytes_eq-Decides, Str.encodes-chars}
use Rattle.std.proofs.lemmas.Str.{IsUtf8-string_bytes}
use Rattle.std.specs.{Bool.Decides, Cmp.booleans_Decides, Cmp.Lexicographic.pointwise, Option.option_eq, String.string_eq, String.string_bytes, Str.chars}
use Rattle.std.specs.{Str.encode_utf8_all, Prelude.String, declared.alloc.Allocator.Ghosts}
use Rattle.yaml_base.specs.Event.{DocumentStart, Scalar, Collection}
use Rattle.yaml_base.specs.{Event.document_start, Event.alias, Event.scalar, Event.sequence_start, Event.mapping_start}
use Rattle.yaml_base.specs.Seen.{seen_text, seen_version, seen_directive, seen_encoding, seen_scalar_style, seen_sequence_style, seen_mapping_style}
use Rattle.yaml_base.specs.{declared.encodings.yaml_encoding_t.yaml_encoding_t, declared.styles.yaml_scalar_style_t.yaml_scalar_style_t}
use Rattle.yaml_base.specs.{declared.styles.yaml_mapping_style_t.yaml_mapping_style_t}
use Rattle.yaml_base.specs.{declared.styles.yaml_sequence_style_t.yaml_sequence_style_t, declared.directives.yaml_version_directive_t.yaml_version_directive_t}
use Rattle.yaml_base.specs.{declared.directives.yaml_tag_directive_t.yaml_tag_directive_t, declared.events.yaml_event_t.yaml_event_t}
use Rattle.yaml_base.specs.declared.events.yaml_event_t.TheVariants.{YAML_STREAM_START_EVENT, YAML_STREAM_END_EVENT, YAML_DOCUMENT_START_EVENT}
use Rattle.yaml_base.specs.declared.events.yaml_event_t.TheVariants.{YAML_DOCUMENT_END_EVENT, YAML_ALIAS_EVENT, YAML_SCALAR_EVENT, YAML_SEQUENCE_START_EVENT}
use Rattle.yaml_base.specs.declared.events.yaml_event_t.TheVariants.{YAML_SEQUENCE_END_EVENT, YAML_MAPPING_START_EVENT, YAML_MAPPING_END_EVENT}
use Rattle.yaml_base.specs.contracts.encodings.yaml_encoding_tPartialEq.TheImpl as encodings
use Rattle.yaml_base.specs.contracts.styles.yaml_scalar_style_tPartialEq.TheImpl as scalars
use Rattle.yaml_base.specs.contracts.styles.yaml_sequence_style_tPartialEq.TheImpl as sequences
use Rattle.yaml_base.specs.contracts.styles.yaml_mapping_style_tPartialEq.TheImpl as mappings
use Rattle.yaml_base.specs.contracts.directives.yaml_version_directive_tPartialEq.TheImpl as versions
use Rattle.yaml_base.specs.contracts.events.yaml_event_tPartialEq.TheImpl as events
use denote.RattleType.{RattleType}
use mir.Syntax.{Dict}

same_encodings : (x y : yaml_encoding_t) → Decides (encodings.eq-value.it x y) (seen_encoding x ≡ seen_encoding y)
same_encodings x y = grind (arith, nat_tests, false≢true)

same_scalar_styles : (x y : yaml_scalar_style_t) → Decides (scalars.eq-value.it x y) (seen_scalar_style x ≡ seen_scalar_style y)
same_scalar_styles x y = grind (arith, nat_tests, false≢true)

same_sequence_styles : (x y : yaml_sequence_style_t) → Decides (sequences.eq-value.it x y) (seen_sequence_style x ≡ seen_sequence_style y)
same_sequence_styles x y = grind (arith, nat_tests, false≢true)

same_mapping_styles : (x y : yaml_mapping_style_t) → Decides (mappings.eq-value.it x y) (seen_mapping_style x ≡ seen_mapping_style y)
same_mapping_styles x y = grind (arith, nat_tests, false≢true)

same_texts : {A : Type 0} (x y : String A) → Decides (string_eq x y) (seen_text x ≡ seen_text y)
same_texts x y =
    Decides-like _ (ap chars)
    (λ is. sym (encodes-chars _ (IsUtf8-string_bytes x)) ∙ ap encode_utf8_all is ∙ encodes-chars _ (IsUtf8-string_bytes y))
    (bytes_eq-Decides (string_bytes x) (string_bytes y))

same_options : {X Y : Type 0} (E : X → X → Bool) (seen : X → Y) → ((x y : X) → Decides (E x y) (seen x ≡ seen y)) → (x y : Option X)
    → Decides (option_eq E x y) (option_map seen x ≡ option_map seen y)
same_options E seen x y z = grind (arith, nat_tests, false≢true)

same_lists : {X Y : Type 0} (E : X → X → Bool) (seen : X → Y) → ((x y : X) → Decides (E x y) (seen x ≡ seen y)) → (xs ys : List X)
    → Decides (pointwise E xs ys) (map seen xs ≡ map seen ys)
same_lists E seen same [] [] = (λ _. refl, λ _. refl)
same_lists E seen same (x ∷ xs) (y ∷ ys) = grind (arith, nat_tests, same_lists E seen same xs ys, E x y, same x y)
same_lists E seen same _ _ = (λ no. absurd (false≢true no), λ no. cc)

same_versions : (x y : yaml_version_directive_t) → Decides (versions.eq-value.it x y) (seen_version x ≡ seen_version y)
same_versions x y = grind (arith, nat_tests)

same_directives : {A : Type 0} (x y : yaml_tag_directive_t A)
    → Decides (string_eq x.handle y.handle && string_eq x.prefix y.prefix) (seen_directive x ≡ seen_directive y)
same_directives x y = grind (arith, nat_tests, same_texts)

same_names : {A : Type 0} (x y : Option (String A)) → Decides (option_eq string_eq x y) (option_map seen_text x ≡ option_map seen_text y)
same_names x y = same_options string_eq seen_text same_texts x y

start_of : {x y : DocumentStart} → document_start x ≡ document_start y → x ≡ y
start_of is = cc

content_of : {x y : Scalar} → scalar x ≡ scalar y → x ≡ y
content_of is = cc

sequence_of : {x y : Collection} → sequence_start x ≡ sequence_start y → x ≡ y
sequence_of is = cc

mapping_of : {x y : Collection} → mapping_start x ≡ mapping_start y → x ≡ y
mapping_of is = cc

scalar_parts : {x y : Scalar} → x ≡ y
    → (x.anchor ≡ y.anchor) × ((x.tag ≡ y.tag) × ((x.value ≡ y.value)
    × ((x.plain_implicit ≡ y.plain_implicit) × ((x.quoted_implicit ≡ y.quoted_implicit) × (x.style ≡ y.style)))))
scalar_parts same = grind (arith, nat_tests)

collection_parts : {x y : Collection} → x ≡ y → (x.anchor ≡ y.anchor) × ((x.tag ≡ y.tag) × ((x.implicit ≡ y.implicit) × (x.style ≡ y.style)))
collection_parts same = (λ i. (same i).anchor, (λ i. (same i).tag, (λ i. (same i).implicit, λ i. (same i).style)))

same_events : (A : RattleType) (allocator : Ghosts A.Denot) (own drops : Dict) (x y : yaml_event_t A.Denot)
    → Decides ((events.eq-value A allocator own drops).it x y) (seen_event x ≡ seen_event y)
same_events A allocator own drops (YAML_STREAM_START_EVENT encoding) (YAML_STREAM_START_EVENT other) = grind (arith, nat_tests, same_encodings)
same_events A allocator own drops YAML_STREAM_END_EVENT YAML_STREAM_END_EVENT = (λ _. refl, λ _. refl)
same_events A allocator own drops (YAML_DOCUMENT_START_EVENT version directives implicit) (YAML_DOCUMENT_START_EVENT other others also) =
    grind (arith, nat_tests, start_of, same_options, seen_version, same_versions, same_lists, seen_directive, same_directives, booleans_Decides)
same_events A allocator own drops (YAML_DOCUMENT_END_EVENT implicit) (YAML_DOCUMENT_END_EVENT other) = grind (arith, nat_tests, booleans_Decides)
same_events A allocator own drops (YAML_ALIAS_EVENT anchor) (YAML_ALIAS_EVENT other) = Decides-like _ (ap alias) (λ is. cc) (same_texts anchor other)
same_events A allocator own drops (YAML_SCALAR_EVENT anchor tag value plain quoted style) (YAML_SCALAR_EVENT name kind text bare marked shape) =
    Decides-like _
    (λ all i. scalar record {
      anchor = all.0 i;
      tag = all.1.0 i;
      value = all.1.1.0 i;
      plain_implicit = all.1.1.1.0 i;
      quoted_implicit = all.1.1.1.1.0 i;
      style = all.1.1.1.1.1 i;
    }) (λ is. scalar_parts (content_of is))
    (Decides-and _ _ (same_names anchor name) (Decides-and _ _ (same_names tag kind) (Decides-and _ _ (same_texts value text)
    (Decides-and _ _ (booleans_Decides plain bare) (Decides-and _ _ (booleans_Decides quoted marked) (same_scalar_styles style shape))))))
same_events A allocator own drops (YAML_SEQUENCE_START_EVENT anchor tag implicit style) (YAML_SEQUENCE_START_EVENT name kind also shape) =
    grind (arith, nat_tests, collection_parts, sequence_of, same_names, booleans_Decides, same_sequence_styles)
same_events A allocator own drops YAML_SEQUENCE_END_EVENT YAML_SEQUENCE_END_EVENT = (λ _. refl, λ _. refl)
same_events A allocator own drops (YAML_MAPPING_START_EVENT anchor tag implicit style) (YAML_MAPPING_START_EVENT name kind also shape) =
    grind (arith, nat_tests, collection_parts, mapping_of, same_names, booleans_Decides, same_mapping_styles)
same_events A allocator own drops YAML_MAPPING_END_EVENT YAML_MAPPING_END_EVENT = (λ _. refl, λ _. refl)
same_events A allocator own drops _ _ = (λ no. absurd (false≢true no), λ no. cc)

-- so for the result of comparing two lists
pub events_told : (A : RattleType) (allocator : Ghosts A.Denot) (own drops : Dict) (first second : List (yaml_event_t A.Denot)) (result : Bool)
    → result ≡ pointwise (events.eq-value A allocator own drops).it first second → Decides result (map seen_event first ≡ map seen_event second)
events_told A allocator own drops first second result is =
    Decides-at result _ is (same_lists (events.eq-value A allocator own drops).it seen_event (same_events A allocator own drops) first second)
