-- The tree that is read of typed events has the tags of the events.
use Rattle.yaml_writer.proofs.Common.{if◌then◌else◌, is_some, option_map, Option, None, Some, Bool, false, not, true, ◌&&◌, ◌||◌, List, [], map, ◌++◌, ◌∷◌, ◌≡◌}
use Rattle.yaml_writer.proofs.Common.{refl, ap, sym, ◌∙◌, and_parts, and_from, list_all-append, list_all, Text, Event, stream_end, document_end, sequence_start}
use Rattle.yaml_writer.proofs.Common.{mapping_start, Effective, surely_text}
use Rattle.yaml_base.proofs.Common.{bytes_eq, bytes_eq-Decides, false≢true, map-append, unwrap_or, ScalarStyle, stream_start, document_start, sequence_end}
use Rattle.yaml_base.proofs.Common.{mapping_end, Scalar, TagDirective, scalar_tag, collection_tag, Node, alias_node, scalar_node, Nodes, sequence_node, Pairs}
use Rattle.yaml_base.proofs.Common.{mapping_node, no_nodes, nodes_and, no_pairs, pairs_and, Document, Documents, no_documents, documents_and, Stream, Place}
use Rattle.yaml_base.proofs.Common.{node_events, nodes_events, pairs_events, document_events, documents_events, stream_events, ChosenStyle, charset_of}
use Rattle.yaml_base.proofs.Common.{choice_of}
use Rattle.yaml_base.proofs.Common.{style_asked_at, allowed_under, allowances, is_empty, chosen, is_simple_at, is_simple, entry_place, as_item, as_key, Tagging}
use Rattle.yaml_base.proofs.Common.{as_value, has_no_nodes, has_no_pairs, is_written_in_flow, is_plain, stood_plain, stood_quoted, stood_bare, with_tag, agrees}
use Rattle.yaml_base.proofs.Common.{without_tag, DocumentTree, document_agrees, documents_in_order, resolved_by_core, resolved_by_11, meant_text, Collection}
use Rattle.yaml_base.proofs.Common.{effective, directives_in_force, root_place}
use Rattle.yaml_base.proofs.{PlainUnderQuotes.plain_under, TagForms.same_text, stream_nodes.StreamAgrees.document_tree_agrees}
use Rattle.yaml_base.proofs.Trees.{tree_of-stream_events, one_tree}
use Rattle.yaml_base.proofs.stream_documents.{StreamLawStands.agree_more, StreamWholeReads.document_trees}
use Rattle.yaml_base.proofs.stream_nodes.StreamAgrees.{standing_in, tagging_in, node_tree, nodes_tree, pairs_tree, document_tree, node_agrees}
use Rattle.yaml_base.specs.graphs.Meetings.{string_tag, sequence_tag, mapping_tag}
use Rattle.yaml_base.specs.streams.StreamContent.{is_same_text, tagging_agrees, tree_agrees, trees_agree, tree_pairs_agree, is_same_version, documents_agree}
use Rattle.yaml_base.specs.{streams.StreamContent.are_same_directives, values.SurelyText.is_surely_text}
use Rattle.yaml_base.specs.values.CanonicalTags.{Schema, canonical_tag, tag_meant}
use Rattle.yaml_emitter.proofs.layouts.StreamsReadBack.{stream_found}
use Rattle.yaml_writer.proofs.PlainTagLemmas.{plain_tags_read}
use Rattle.yaml_writer.specs.PlainTags.{plain_tag, implies_tag, IsWrittenPlain}
use Rattle.yaml_writer.specs.TypedEvents.{typed_by, typed_as, typed_from, typed_scalar, typed_event, tree_by, trees_by, pairs_by, document_by, says_tag}
use Rattle.yaml_writer.specs.TypedEvents.{ReadsTags, TypedEventsAreRead}

-- ---- typed trees, and their events

abbrev mutual
  pub typed_node : Node → Node
  typed_node (alias_node name) = alias_node name
  typed_node (scalar_node content) = scalar_node (typed_scalar content)
  typed_node (sequence_node start items) = sequence_node start (typed_nodes items)
  typed_node (mapping_node start pairs) = mapping_node start (typed_pairs pairs)

  pub typed_nodes : Nodes → Nodes
  typed_nodes no_nodes = no_nodes
  typed_nodes (nodes_and items item) = nodes_and (typed_nodes items) (typed_node item)

  pub typed_pairs : Pairs → Pairs
  typed_pairs no_pairs = no_pairs
  typed_pairs (pairs_and pairs key value) = pairs_and (typed_pairs pairs) (typed_node key) (typed_node value)

abbrev pub typed_document : Document → Document
typed_document document = record document { root = typed_node document.root }

abbrev pub typed_documents : Documents → Documents
typed_documents no_documents = no_documents
typed_documents (documents_and documents document) = documents_and (typed_documents documents) (typed_document document)

abbrev pub typed_stream : Stream → Stream
typed_stream stream = record stream { documents = typed_documents stream.documents }

-- events on both sides of others
both_typed : (first second one other : List Event) → one ≡ map typed_event first → other ≡ map typed_event second
    → one ++ other ≡ map typed_event (first ++ second)
both_typed first second one other a b =
    ap (λ (events : List Event). events ++ other) a ∙ ap (λ (events : List Event). map typed_event first ++ events) b
    ∙ sym (map-append typed_event first second)

mutual
  node_typed : (node : Node) → node_events (typed_node node) ≡ map typed_event (node_events node)
  node_typed (sequence_node start items) =
      ap (λ (events : List Event). sequence_start start ∷ events)
      (both_typed (nodes_events items) (sequence_end ∷ []) (nodes_events (typed_nodes items)) (sequence_end ∷ []) (nodes_typed items) refl)
  node_typed (mapping_node start pairs) =
      ap (λ (events : List Event). mapping_start start ∷ events)
      (both_typed (pairs_events pairs) (mapping_end ∷ []) (pairs_events (typed_pairs pairs)) (mapping_end ∷ []) (pairs_typed pairs) refl)
  node_typed _ = refl

  nodes_typed : (items : Nodes) → nodes_events (typed_nodes items) ≡ map typed_event (nodes_events items)
  nodes_typed no_nodes = refl
  nodes_typed (nodes_and items item) =
      both_typed (nodes_events items) (node_events item) (nodes_events (typed_nodes items)) (node_events (typed_node item))
      (nodes_typed items) (node_typed item)

  pairs_typed : (pairs : Pairs) → pairs_events (typed_pairs pairs) ≡ map typed_event (pairs_events pairs)
  pairs_typed no_pairs = refl
  pairs_typed (pairs_and pairs key value) =
      both_typed (pairs_events pairs) (node_events key ++ node_events value) (pairs_events (typed_pairs pairs))
      (node_events (typed_node key) ++ node_events (typed_node value)) (pairs_typed pairs)
      (both_typed (node_events key) (node_events value) (node_events (typed_node key)) (node_events (typed_node value)) (node_typed key) (node_typed value))

document_typed : (document : Document) → document_events (typed_document document) ≡ map typed_event (document_events document)
document_typed document =
    ap (λ (events : List Event). document_start document.start ∷ events)
    (both_typed (node_events document.root) (document_end document.end_implicit ∷ []) (node_events (typed_node document.root))
    (document_end document.end_implicit ∷ []) (node_typed document.root) refl)

documents_typed : (documents : Documents) → documents_events (typed_documents documents) ≡ map typed_event (documents_events documents)
documents_typed no_documents = refl
documents_typed (documents_and documents document) =
    both_typed (documents_events documents) (document_events document) (documents_events (typed_documents documents))
    (document_events (typed_document document)) (documents_typed documents) (document_typed document)

-- the events of a typed stream are those of the stream, typed
pub stream_typed : (stream : Stream) → stream_events (typed_stream stream) ≡ map typed_event (stream_events stream)
stream_typed stream =
    ap (λ (events : List Event). stream_start stream.encoding ∷ events)
    (both_typed (documents_events stream.documents) (stream_end ∷ []) (documents_events (typed_documents stream.documents)) (stream_end ∷ [])
    (documents_typed stream.documents) refl)

-- ---- tags

same_option : (text : Option Text) → is_same_text text text ≡ true
same_option None = refl
same_option (Some text) = same_text text

option_is : (a b : Option Text) → is_same_text a b ≡ true → a ≡ b
option_is None None h = refl
option_is (Some a) (Some b) h = ap (λ (t : Text). Some t) ((bytes_eq-Decides a b).0 h)
option_is _ _ h = absurd (false≢true h)

-- a collection has its tag, written or not
collection_kept : (canonical : Bool) (start : Collection) (own : Text) → is_same_text (Some (unwrap_or (collection_tag false start) own)) start.tag ≡ true
    → is_same_text (collection_tag true start) (Some (unwrap_or (collection_tag canonical start) own)) ≡ true
collection_kept canonical start own h = by canonical
  where
    said : Text
    said = unwrap_or (collection_tag false start) own

    is : Some said ≡ start.tag
    is = option_is (Some said) start.tag h

    by : (x : Bool) → is_same_text start.tag (Some (unwrap_or (collection_tag x start) own)) ≡ true
    by true = ap (λ (tag : Option Text). is_same_text tag (Some (unwrap_or tag own))) (sym is) ∙ same_text said
    by false = ap (λ (tag : Option Text). is_same_text tag (Some said)) (sym is) ∙ same_text said

-- How a schema reads texts that may be plain.
pub record ReadsPlain (schema : Schema) : Type 0 where
  pub text : (text : Text) → is_surely_text text ≡ true → schema text ≡ meant_text
  pub tag : (text tag : Text) → plain_tag text ≡ Some tag → canonical_tag (schema text) ≡ tag

plain_by_11 : ReadsPlain resolved_by_11
plain_by_11 = record { text = λ text sure. (surely_text text sure).0; tag = λ text tag e. let read = plain_tags_read text tag e in ap canonical_tag read.1 ∙ read.2 }

plain_by_core : ReadsPlain resolved_by_core
plain_by_core = record { text = λ text sure. (surely_text text sure).1; tag = λ text tag e. (plain_tags_read text tag e).2 }

module _ (schema : Schema) (reads : ReadsPlain schema) (s : Effective) (directives : List TagDirective) where
  module _ (place : Place) where
    -- how a scalar is tagged there
    abbrev simple_at : Scalar → Bool
    simple_at content = is_simple_at place s.canonical directives (scalar_node content)

    abbrev tagging_at : Scalar → Tagging
    tagging_at content = tagging_in (scalar_tag s.canonical content) (choice_of s place (simple_at content) content)

    -- a written tag
    written : (content : Scalar) (tag : Text) → scalar_tag s.canonical content ≡ Some tag → tag_meant schema (tagging_at content) content.value ≡ tag
    written content tag e = ap (λ (o : Option Text). tag_meant schema (tagging_in o (choice_of s place (simple_at content) content)) content.value) e

    -- a text without one
    flagged : (x y : Bool) → not (not x && not y && not true) ≡ true
    flagged true y = refl
    flagged false true = refl
    flagged false false = refl

    text_read : (implied : Bool) (content : Scalar) → (implied ≡ true → schema content.value ≡ meant_text)
        → (tag : Option Text) (tagging : Tagging)
        → tag ≡ None
        → tagging_agrees (typed_by true implied content) tag tagging ≡ true → tag_meant schema tagging content.value ≡ string_tag
    text_read implied content text None (without_tag stood_plain) none agree = ap canonical_tag (text agree)
    text_read implied content text None (without_tag stood_quoted) none agree = refl
    text_read true content text None (without_tag stood_bare) none agree = absurd (false≢true agree)
    text_read false content text None (without_tag stood_bare) none agree = absurd (false≢true agree)
    text_read implied content text None (with_tag tag) none agree = absurd (false≢true agree)
    text_read implied content text (Some tag) tagging none agree = absurd (by none)
      where
        by : Some tag ≡ None → ⊥
        by e = cc

    text_kept : (implied : Bool) (content : Scalar) (tag : Text) → content.tag ≡ Some tag → tag ≡ string_tag
        → (implied ≡ true → schema content.value ≡ meant_text)
        → tag_meant schema (tagging_at (typed_by true implied content)) content.value ≡ tag
    text_kept implied content tag has is text = by s.canonical refl
      where
        now : Scalar
        now = typed_by true implied content

        none : (x : Bool) → (if false || (not x && not true) then content.tag else None) ≡ None
        none true = refl
        none false = refl

        agree : tagging_agrees now (scalar_tag s.canonical now) (tagging_at now) ≡ true
        agree =
            (and_parts (is_same_text now.anchor now.anchor) (tagging_agrees now (scalar_tag s.canonical now) (tagging_at now))
            (and_parts (is_same_text now.anchor now.anchor && tagging_agrees now (scalar_tag s.canonical now) (tagging_at now)) (bytes_eq now.value now.value)
            (node_agrees (scalar_node now) s directives place (flagged (is_some (scalar_tag s.canonical now)) implied))).0).1

        by : (x : Bool) → s.canonical ≡ x → tag_meant schema (tagging_at now) content.value ≡ tag
        by true e = written now tag (ap (λ x. scalar_tag x now) e ∙ has)
        by false e = text_read implied content text (scalar_tag s.canonical now) (tagging_at now) (ap (λ x. scalar_tag x now) e ∙ none implied) agree ∙ sym is

    -- A plain scalar of another type.
    plain_kept : (content : Scalar) (tag : Text) → content.tag ≡ Some tag → IsWrittenPlain content.value → canonical_tag (schema content.value) ≡ tag
        → tag_meant schema (tagging_at (typed_by false true content)) content.value ≡ tag
    plain_kept content tag has plainly read = by s.canonical
      where
        now : Scalar
        now = typed_by false true content

        choice_by : Bool → ChosenStyle
        choice_by canonical =
            chosen (allowed_under s now) (style_asked_at s place now) (is_empty now.value) (is_some (scalar_tag canonical now)) true false
            place.in_flow (simple_at now) canonical

        by : (x : Bool) → tag_meant schema (tagging_in (scalar_tag x now) (choice_by x)) content.value ≡ tag
        by true = ap (λ (o : Option Text). tag_meant schema (tagging_in o (choice_by true)) content.value) has
        by false =
            ap (λ (style : ScalarStyle). tag_meant schema (without_tag (standing_in style (not (is_plain style)))) content.value)
            (plain_under s.double_quotes (allowances (charset_of s) now.value) (style_asked_at s place now) (is_empty now.value)
            (is_some (scalar_tag false now)) true false place.in_flow (simple_at now) false (plainly (charset_of s) place.in_flow (simple_at now)))
            ∙ read

    -- any scalar
    scalar_kept : (is_text implied : Bool) (content : Scalar) (tag : Text) → content.tag ≡ Some tag → bytes_eq tag string_tag ≡ is_text
        → implies_tag content.value tag ≡ implied
        → tag_meant schema (tagging_at (typed_by is_text implied content)) content.value ≡ tag
    scalar_kept true implied content tag has text implies =
        text_kept implied content tag has ((bytes_eq-Decides tag string_tag).0 text)
        (λ on. reads.text content.value
        (sym (ap (λ x. if x then is_surely_text content.value else is_same_text (plain_tag content.value) (Some tag)) text) ∙ implies ∙ on))
    scalar_kept false true content tag has text implies =
        let is =
        option_is (plain_tag content.value) (Some tag)
        (sym (ap (λ x. if x then is_surely_text content.value else is_same_text (plain_tag content.value) (Some tag)) text) ∙ implies)
        in
        plain_kept content tag has (plain_tags_read content.value tag is).0 (reads.tag content.value tag is)
    scalar_kept false false content tag has text implies = written (typed_by false false content) tag (by s.canonical)
      where
        by : (x : Bool) → scalar_tag x (typed_by false false content) ≡ Some tag
        by true = has
        by false = has

    scalar_agrees : (content : Scalar) (tag : Option Text) → content.tag ≡ tag → is_some tag ≡ true
        → tree_agrees true (scalar_node content) (tree_by schema (node_tree (scalar_node (typed_from tag content)) s directives place)) ≡ true
    scalar_agrees content None has some = absurd (false≢true some)
    scalar_agrees content (Some tag) has some =
        let found = tag_meant schema (tagging_at (typed_as tag content)) content.value in
        let kept = scalar_kept (bytes_eq tag string_tag) (implies_tag content.value tag) content tag has refl refl in
        and_from (is_same_text content.anchor content.anchor && tagging_agrees content content.tag (with_tag found)) (bytes_eq content.value content.value)
        (and_from (is_same_text content.anchor content.anchor) (tagging_agrees content content.tag (with_tag found)) (same_option content.anchor)
        (ap (λ (o : Option Text). tagging_agrees content o (with_tag found)) has ∙ (bytes_eq-Decides tag found).1 (sym kept)))
        (same_text content.value)

  -- ---- trees

  abbrev AllSay : List Event → Type 0
  AllSay events = list_all says_tag events ≡ true

  say_both : (first second : List Event) → AllSay (first ++ second) → AllSay first × AllSay second
  say_both first second h = and_parts (list_all says_tag first) (list_all says_tag second) (sym (list_all-append says_tag first second) ∙ h)

  mutual
    node_kept : (node : Node) (place : Place) → AllSay (node_events node)
        → tree_agrees true node (tree_by schema (node_tree (typed_node node) s directives place)) ≡ true
    node_kept (alias_node name) place say = same_text name
    node_kept (scalar_node content) place say = scalar_agrees place content content.tag refl (and_parts (is_some content.tag) true say).0
    node_kept (sequence_node start items) place say =
        let in_flow = is_written_in_flow s place start (has_no_nodes (typed_nodes items)) in
        let parts = and_parts (says_tag (sequence_start start)) (list_all says_tag (nodes_events items ++ sequence_end ∷ [])) say in
        let tag = Some (unwrap_or (collection_tag s.canonical start) sequence_tag) in
        let trees = trees_by schema (nodes_tree (typed_nodes items) s directives in_flow) in
        and_from (is_same_text start.anchor start.anchor && is_same_text start.tag tag) (trees_agree true items trees)
        (and_from (is_same_text start.anchor start.anchor) (is_same_text start.tag tag) (same_option start.anchor)
        (collection_kept s.canonical start sequence_tag parts.0))
        (nodes_kept items in_flow (say_both (nodes_events items) (sequence_end ∷ []) parts.1).0)
    node_kept (mapping_node start pairs) place say =
        let in_flow = is_written_in_flow s place start (has_no_pairs (typed_pairs pairs)) in
        let parts = and_parts (says_tag (mapping_start start)) (list_all says_tag (pairs_events pairs ++ mapping_end ∷ [])) say in
        let tag = Some (unwrap_or (collection_tag s.canonical start) mapping_tag) in
        let trees = pairs_by schema (pairs_tree (typed_pairs pairs) s directives in_flow) in
        and_from (is_same_text start.anchor start.anchor && is_same_text start.tag tag) (tree_pairs_agree true pairs trees)
        (and_from (is_same_text start.anchor start.anchor) (is_same_text start.tag tag) (same_option start.anchor)
        (collection_kept s.canonical start mapping_tag parts.0))
        (pairs_kept pairs in_flow (say_both (pairs_events pairs) (mapping_end ∷ []) parts.1).0)

    nodes_kept : (items : Nodes) (in_flow : Bool) → AllSay (nodes_events items)
        → trees_agree true items (trees_by schema (nodes_tree (typed_nodes items) s directives in_flow)) ≡ true
    nodes_kept no_nodes in_flow say = refl
    nodes_kept (nodes_and items item) in_flow say =
        let parts = say_both (nodes_events items) (node_events item) say in
        let place = entry_place in_flow (as_item (has_no_nodes (typed_nodes items))) 0 in
        and_from (trees_agree true items (trees_by schema (nodes_tree (typed_nodes items) s directives in_flow)))
        (tree_agrees true item (tree_by schema (node_tree (typed_node item) s directives place)))
        (nodes_kept items in_flow parts.0) (node_kept item place parts.1)

    pairs_kept : (pairs : Pairs) (in_flow : Bool) → AllSay (pairs_events pairs)
        → tree_pairs_agree true pairs (pairs_by schema (pairs_tree (typed_pairs pairs) s directives in_flow)) ≡ true
    pairs_kept no_pairs in_flow say = refl
    pairs_kept (pairs_and pairs key value) in_flow say =
        let parts = say_both (pairs_events pairs) (node_events key ++ node_events value) say in
        let last = say_both (node_events key) (node_events value) parts.1 in
        let key_place = entry_place in_flow (as_key (has_no_pairs (typed_pairs pairs))) 0 in
        let value_place = entry_place in_flow (as_value (is_simple s.canonical directives (typed_node key))) 0 in
        let before = tree_pairs_agree true pairs (pairs_by schema (pairs_tree (typed_pairs pairs) s directives in_flow)) in
        let key_agrees = tree_agrees true key (tree_by schema (node_tree (typed_node key) s directives key_place)) in
        and_from (before && key_agrees) (tree_agrees true value (tree_by schema (node_tree (typed_node value) s directives value_place)))
        (and_from before key_agrees (pairs_kept pairs in_flow parts.0) (node_kept key key_place last.0))
        (node_kept value value_place last.1)

-- ---- documents

module _ (schema : Schema) (reads : ReadsPlain schema) where
  document_kept : (s : Effective) (document : Document) → list_all says_tag (document_events document) ≡ true
      → document_agrees true document (document_by schema (document_tree s (typed_document document))) ≡ true
  document_kept s document say =
      let directives = directives_in_force document.start.directives in
      let bare : Document = record document { root = alias_node [] } in
      let start : (is_same_version document.start.version document.start.version
      && are_same_directives document.start.directives document.start.directives) ≡ true =
      (and_parts
      (is_same_version document.start.version document.start.version && are_same_directives document.start.directives document.start.directives)
      (tree_agrees s.canonical (alias_node []) (node_tree (alias_node []) s directives root_place))
      (document_tree_agrees s bare refl)).0 in
      and_from
      (is_same_version document.start.version document.start.version && are_same_directives document.start.directives document.start.directives)
      (tree_agrees true document.root (tree_by schema (node_tree (typed_node document.root) s directives root_place)))
      start
      (node_kept schema reads s directives document.root root_place
      (say_both schema reads s directives (node_events document.root) (document_end document.end_implicit ∷ []) say).0)

  documents_kept : (s : Effective) (documents : Documents) → list_all says_tag (documents_events documents) ≡ true
      → documents_agree true (documents_in_order documents) (map (document_by schema) (document_trees s (typed_documents documents))) ≡ true
  documents_kept s no_documents say = refl
  documents_kept s (documents_and documents document) say =
      let parts = and_parts (list_all says_tag (documents_events documents)) (list_all says_tag (document_events document))
      (sym (list_all-append says_tag (documents_events documents) (document_events document)) ∙ say)
      in
      ap (documents_agree true (documents_in_order documents ++ document ∷ []))
      (map-append (document_by schema) (document_trees s (typed_documents documents)) (document_tree s (typed_document document) ∷ []))
      ∙ agree_more true (documents_in_order documents) (map (document_by schema) (document_trees s (typed_documents documents))) document
      (document_by schema (document_tree s (typed_document document))) (documents_kept s documents parts.0) (document_kept s document parts.1)

  -- ---- streams

  pub tags_read : ReadsTags schema
  tags_read given encoding stream typed is accepted texts portable say =
      let s = effective given encoding in
      let trees = map (document_by schema) (document_trees s (typed_documents stream.documents)) in
      ap (λ (read : Option (List DocumentTree)). agrees true (stream_events stream) (option_map (map (document_by schema)) read))
      (stream_found given encoding typed accepted texts portable
      ∙ ap (λ (t : Stream). Some (document_trees s t.documents))
      (one_tree accepted.stream (typed_stream stream) (accepted.is_stream ∙ sym is ∙ sym (stream_typed stream))))
      ∙ ap
      (λ (found : Option Stream). unwrap_or (option_map (λ (t : Stream). documents_agree true (documents_in_order t.documents) trees) found) false)
      (tree_of-stream_events stream)
      ∙ documents_kept s stream.documents
      (and_parts (list_all says_tag (documents_events stream.documents)) (list_all says_tag (stream_end ∷ []))
      (sym (list_all-append says_tag (documents_events stream.documents) (stream_end ∷ [])) ∙ say)).0

pub typed_read : TypedEventsAreRead
typed_read = (tags_read resolved_by_11 plain_by_11, tags_read resolved_by_core plain_by_core)
