-- A line's fields, read one after another, are those that the notation asks for.
use Rattle.yaml_base.proofs.Common.{option_map, option_and_then, Option, None, Some, Bool, List, [], map, ◌++◌, ◌∷◌, refl, ◌≡◌, append_assoc, ap, sym, ◌∙◌}
use Rattle.yaml_base.proofs.Common.{map-append, Text, ScalarStyle, TagDirective, Event, named, arith}
use Rattle.yaml_base.specs.{Event.CollectionStyle, Seen.seen_directive, declared.directives.yaml_tag_directive_t.yaml_tag_directive_t}
use Rattle.yaml_base.specs.scripts.Script.{Field, bare, quoted, flags, text_or_none, scalar_styles, directives_of, collection_styles, scalar_with, scalar_of}
use Rattle.yaml_base.specs.scripts.Script.{collection_with, collection_of}
use Rattle.yaml_tool.specs.{Events.scalar_from, Events.start_of, Fields.prepend_field, Fields.FieldOrUnparsed, Fields.field_of}
use Rattle.yaml_base.specs.declared.kinds.CollectionKind.{CollectionKind}

-- the field of a choice is read as that choice
choice_read : (choice : Option Text) → text_or_none (field_of choice) ≡ Some choice
choice_read choice = grind arith

scalar_parts : (style : Option ScalarStyle) (plain quoted' : Option Bool) (value : Text) (anchor tag : Option Text)
    → option_and_then (scalar_from style plain quoted')
    (prepend_field (field_of anchor) (prepend_field (field_of tag) (prepend_field (quoted value) (Some []))))
    ≡ scalar_with style plain quoted' (Some anchor) (Some tag) value
scalar_parts style plain quoted' value anchor tag = grind (arith, scalar_with, text_or_none, field_of, choice_read)

-- the fields after a scalar's words, each read by itself
pub record TextsRead (value : Text) (anchor tag : Option Text) (f0 f1 f2 f3 : Option (List Field)) : Type 0 where
  pub anchor_read : f0 ≡ prepend_field (field_of anchor) f1
  pub tag_read : f1 ≡ prepend_field (field_of tag) f2
  pub value_read : f2 ≡ prepend_field (quoted value) f3

texts_joined : {value : Text} {anchor tag : Option Text} {f0 f1 f2 f3 : Option (List Field)} → TextsRead value anchor tag f0 f1 f2 f3
    → f0 ≡ prepend_field (field_of anchor) (prepend_field (field_of tag) (prepend_field (quoted value) f3))
texts_joined {value} {anchor} {tag} read = grind (arith, prepend_field, field_of)

-- are the scalar
pub scalar_joined : (style : Option ScalarStyle) (plain quoted' : Option Bool) {value : Text} {anchor tag : Option Text} {f0 f1 f2 f3 : Option (List Field)}
    (result : Option Event)
    → TextsRead value anchor tag f0 f1 f2 f3 → f3 ≡ Some []
    → result ≡ scalar_with style plain quoted' (Some anchor) (Some tag) value → result ≡ option_and_then (scalar_from style plain quoted') f0
scalar_joined style plain quoted' {value} {anchor} {tag} result read end gives =
    grind (arith, scalar_parts, option_and_then, scalar_from, texts_joined, prepend_field, field_of, quoted)

-- and if a further field follows, there is no scalar
pub no_scalar : (style : Option ScalarStyle) (plain quoted' : Option Bool) {value : Text} {anchor tag : Option Text} {f0 f1 f2 f3 : Option (List Field)}
    → TextsRead value anchor tag f0 f1 f2 f3 → FieldOrUnparsed f3 → None ≡ option_and_then (scalar_from style plain quoted') f0
no_scalar style plain quoted' {value} {anchor} {tag} {f3 = f3} read has =
    grind (arith, option_and_then, scalar_from, texts_joined, prepend_field, field_of, quoted)

words_parts : (style plain quoted' : Text) (fields : Option (List Field))
    → option_and_then (scalar_from (named scalar_styles style) (named flags plain) (named flags quoted')) fields
    ≡ option_and_then scalar_of (prepend_field (bare style) (prepend_field (bare plain) (prepend_field (bare quoted') fields)))
words_parts style plain quoted' fields = grind arith

-- a scalar's words, each read by itself, and the fields after them are its fields
pub words_joined : (style plain quoted' : Text) (a : Option ScalarStyle) (b c : Option Bool) {f0 f1 f2 : Option (List Field)}
    (f3 : Option (List Field))
    → f0 ≡ prepend_field (bare style) f1 → f1 ≡ prepend_field (bare plain) f2 → f2 ≡ prepend_field (bare quoted') f3
    → a ≡ named scalar_styles style → b ≡ named flags plain → c ≡ named flags quoted'
    → option_and_then (scalar_from a b c) f3 ≡ option_and_then scalar_of f0
words_joined style plain quoted' a b c f3 e0 e1 e2 is_a is_b is_c =
    grind (arith, option_and_then, scalar_from, named, scalar_styles, flags, words_parts, scalar_of, prepend_field, bare)

collection_parts : (style implicit : Text) (anchor tag : Option Text)
    → option_and_then collection_of (prepend_field (bare style)
    (prepend_field (bare implicit) (prepend_field (field_of anchor) (prepend_field (field_of tag) (Some [])))))
    ≡ collection_with (named collection_styles style) (named flags implicit) (Some anchor) (Some tag)
collection_parts style implicit anchor tag = grind (arith, collection_with, named, collection_styles, flags, text_or_none, field_of, choice_read)

-- a collection's parts, each read by itself, are its start
pub collection_joined : (kind : CollectionKind) (style implicit : Text) (anchor tag : Option Text) (f0 f1 f2 f3 f4 : Option (List Field))
    (result : Option Event)
    → (a : Option CollectionStyle) (b : Option Bool)
    → f0 ≡ prepend_field (bare style) f1 → f1 ≡ prepend_field (bare implicit) f2 → f2 ≡ prepend_field (field_of anchor) f3
    → f3 ≡ prepend_field (field_of tag) f4 → f4 ≡ Some []
    → a ≡ named collection_styles style → b ≡ named flags implicit
    → result ≡ option_map (start_of kind) (collection_with a b (Some anchor) (Some tag))
    → result ≡ option_map (start_of kind) (option_and_then collection_of f0)
collection_joined kind style implicit anchor tag f0 f1 f2 f3 f4 result a b e0 e1 e2 e3 e4 is_a is_b gives =
    gives
    ∙ ap (λ x. option_map (start_of kind) (collection_with x b (Some anchor) (Some tag))) is_a
    ∙ ap (λ x. option_map (start_of kind) (collection_with (named collection_styles style) x (Some anchor) (Some tag))) is_b
    ∙ ap (option_map (start_of kind)) (sym (collection_parts style implicit anchor tag))
    ∙ sym (ap (λ fields. option_map (start_of kind) (option_and_then collection_of fields))
    (e0 ∙ ap (prepend_field (bare style)) (e1
    ∙ ap (prepend_field (bare implicit)) (e2 ∙ ap (prepend_field (field_of anchor)) (e3 ∙ ap (prepend_field (field_of tag)) e4)))))

-- a further field is one too many
pub no_collection : (kind : CollectionKind) (style implicit : Text) (anchor tag : Option Text) (f0 f1 f2 f3 f4 : Option (List Field))
    → f0 ≡ prepend_field (bare style) f1 → f1 ≡ prepend_field (bare implicit) f2 → f2 ≡ prepend_field (field_of anchor) f3
    → f3 ≡ prepend_field (field_of tag) f4 → FieldOrUnparsed f4
    → None ≡ option_map (start_of kind) (option_and_then collection_of f0)
no_collection kind style implicit anchor tag f0 f1 f2 f3 f4 e0 e1 e2 e3 has =
    grind (arith, option_map, start_of, option_and_then, collection_of, prepend_field, bare, field_of)

-- ---- directives

-- the list after one more, before the rest that is still to be read
one_directive : {A : Type 0} (directives grown : List (yaml_tag_directive_t A)) (directive : yaml_tag_directive_t A) (more : Option (List TagDirective))
    → grown ≡ directives ++ directive ∷ []
    → option_map (λ others. map seen_directive directives ++ others) (option_map (λ others. seen_directive directive ∷ others) more)
    ≡ option_map (λ others. map seen_directive grown ++ others) more
one_directive directives grown directive more h1 = grind (arith, append_assoc, map, seen_directive, map-append)

pair_read : (handle prefix : Text) (fields : Option (List Field))
    → option_and_then directives_of (prepend_field (quoted handle) (prepend_field (quoted prefix) fields))
    ≡ option_map (λ others. record { handle = handle; prefix = prefix } ∷ others) (option_and_then directives_of fields)
pair_read handle prefix fields = grind arith

-- the directives read so far and those to come, past one more
pub directive_read : {A : Type 0} (directives grown : List (yaml_tag_directive_t A)) (directive : yaml_tag_directive_t A) (f0 f1 f2 : Option (List Field))
    (whole : Option (List TagDirective))
    → whole ≡ option_map (λ others. map seen_directive directives ++ others) (option_and_then directives_of f0)
    → f0 ≡ prepend_field (quoted (seen_directive directive).handle) f1 → f1 ≡ prepend_field (quoted (seen_directive directive).prefix) f2
    → grown ≡ directives ++ directive ∷ []
    → whole ≡ option_map (λ others. map seen_directive grown ++ others) (option_and_then directives_of f2)
directive_read directives grown directive f0 f1 f2 whole before first second grows =
    before
    ∙ ap (λ fields. option_map (λ others. map seen_directive directives ++ others) (option_and_then directives_of fields))
    (first ∙ ap (prepend_field (quoted (seen_directive directive).handle)) second)
    ∙ ap (option_map (λ others. map seen_directive directives ++ others)) (pair_read (seen_directive directive).handle (seen_directive directive).prefix f2)
    ∙ one_directive directives grown directive (option_and_then directives_of f2) grows
