-- The names and tags of an accepted list read as they were given, in each of its documents.
use Rattle.yaml_base.proofs.Common.{or_from, or_parts}
use Rattle.yaml_base.proofs.Common.{arith, if◌then◌else◌, option_and_then, Option, None, Some, Bool, false, not, true, ◌&&◌, ◌||◌, List, [], ◌++◌, ◌∷◌, refl}
use Rattle.yaml_base.proofs.Common.{◌≡◌, ap, sym, ◌∙◌, and_parts, and_from, false≢true, list_all, list_any, all_scalars, Text, TagDirective, Event}
use Rattle.yaml_base.proofs.Common.{stream_start, stream_end, alias, scalar, sequence_start, sequence_end, mapping_start, mapping_end, scalar_tag}
use Rattle.yaml_base.proofs.Common.{collection_tag, Node, alias_node, scalar_node, Nodes, sequence_node, Pairs, mapping_node, no_nodes, nodes_and, no_pairs}
use Rattle.yaml_base.proofs.Common.{pairs_and, Document, Stream, node_events, nodes_events, pairs_events, document_events, documents_events, stream_events}
use Rattle.yaml_base.proofs.Common.{tree_of, directive_scalars, has_scalar_texts, name_or_tag_fault, content_fault, is_sound, IsAccepted, Settings}
use Rattle.yaml_base.proofs.Common.{loses_document, document_has_flow_indicator, reads_alike, name_fault, anchor_fault, tag_fault, version_fault}
use Rattle.yaml_base.proofs.Common.{directives_fault, directives_in_force, documents_in_order, name_read, nat_tests}
use Rattle.yaml_base.{proofs.Trees.tree_of-stream_events, proofs.stream_nodes.StreamProperties.IsNamed, proofs.stream_nodes.StreamTags.written_tag}
use Rattle.yaml_base.{specs.Meaning.option_scalars, specs.Refusal.properties_fault, specs.declared.errors.yaml_error_t.yaml_error_t}
use Rattle.yaml_base.proofs.NoFaults.{neither, is_none_none}
use Rattle.yaml_base.proofs.stream_documents.StreamEachDocument.{AllDocuments, all_of_both, each_document, documents_given}
use Rattle.yaml_base.proofs.stream_nodes.StreamStands.{TagStands, NamesStand, AllNamesStand, PairsNamesStand}
use Rattle.yaml_base.specs.StreamLaw.{tag_has_flow_indicator, node_has_flow_indicator, nodes_have_flow_indicator, pairs_have_flow_indicator}
use Rattle.yaml_base.specs.declared.errors.yaml_error_t.TheVariants.{AliasAlphabet, AliasEmpty}

-- Events

-- an event is sound, and its texts are of scalar values
abbrev pub is_good : Bool → Event → Bool
is_good canonical event = is_sound canonical event && has_scalar_texts event

-- both tests on each event
pub all_good : (canonical : Bool) (events : List Event) → list_all (is_sound canonical) events ≡ true → list_all has_scalar_texts events ≡ true
    → list_all (is_good canonical) events ≡ true
all_good canonical [] h k = refl
all_good canonical (event ∷ rest) h k = grind (arith, and_parts, and_from, or_parts, or_from, all_good canonical rest)

-- no fault of such an event is returned
pub no_faults : (canonical : Bool) (event : Event) → is_good canonical event ≡ true
    → (name_or_tag_fault canonical event ≡ None) × (content_fault canonical event ≡ None) × (has_scalar_texts event ≡ true)
no_faults canonical event h = grind (arith, and_parts, neither, is_none_none)

-- Names

-- a name without a fault is read as it is
name_reads : (if_empty if_other : yaml_error_t) (name : Text) → name_fault if_empty if_other name ≡ None → name_read name ≡ Some name
name_reads if_empty if_other name h = grind (arith, nat_tests)

-- so is an anchor
anchor_named : (anchor tag : Option Text) → properties_fault anchor tag ≡ None → IsNamed anchor
anchor_named anchor tag h = grind (arith, nat_tests, name_reads, neither)

-- Tags

-- portable mode, or neither of two holds
open_parts : (portable a b : Bool) → (portable || not (a || b)) ≡ true → ((portable || not a) ≡ true) × ((portable || not b) ≡ true)
open_parts true a b h = (refl, refl)
open_parts false true b h = absurd (false≢true h)
open_parts false false b h = (refl, h)

-- a tag that is given or left out
given_scalars : (x : Bool) (tag : Option Text) → option_scalars tag ≡ true → option_scalars (if x then tag else None) ≡ true
given_scalars true tag h = h
given_scalars false tag h = refl

module _ (portable canonical : Bool) (own : List TagDirective) (sound : directives_fault own ≡ None) where
  abbrev directives : List TagDirective
  directives = directives_in_force own

  -- a tag without a fault reads as it was given
  tag_stands : (anchor tag : Option Text) → properties_fault anchor tag ≡ None → option_scalars tag ≡ true
      → (portable || not (tag_has_flow_indicator directives tag)) ≡ true → TagStands portable own directives tag
  tag_stands anchor None h scalars allowed = tt
  tag_stands anchor (Some []) h scalars allowed = absurd (by (neither (option_and_then anchor_fault anchor) (tag_fault []) h).1)
    where
      by : tag_fault [] ≡ None → ⊥
      by e = cc
  tag_stands anchor (Some (c ∷ tag)) h scalars allowed = written_tag portable own c tag sound scalars allowed

  -- the names and tags of a node are readable; with it, those of items and of pairs
  mutual
    pub names_stand : (node : Node) → list_all (is_good canonical) (node_events node) ≡ true
        → (portable || not (node_has_flow_indicator canonical directives node)) ≡ true → NamesStand portable own canonical directives node
    names_stand (alias_node name) good allowed =
        name_reads AliasEmpty AliasAlphabet name (no_faults canonical (alias name) (and_parts (is_good canonical (alias name)) true good).0).0
    names_stand (scalar_node content) good allowed =
        let facts = no_faults canonical (scalar content) (and_parts (is_good canonical (scalar content)) true good).0 in
        let texts = and_parts (option_scalars content.tag) (all_scalars content.value) facts.2 in (
          anchor_named content.anchor (scalar_tag canonical content) facts.0,
          tag_stands content.anchor (scalar_tag canonical content) facts.0
              (given_scalars (canonical || (not content.plain_implicit && not content.quoted_implicit)) content.tag texts.0) allowed,
        )
    names_stand (sequence_node start items) good allowed =
        let parts = and_parts (is_good canonical (sequence_start start)) (list_all (is_good canonical) (nodes_events items ++ sequence_end ∷ [])) good in
        let facts = no_faults canonical (sequence_start start) parts.0 in
        let tag = collection_tag canonical start in
        let both = open_parts portable (tag_has_flow_indicator directives tag) (nodes_have_flow_indicator canonical directives items) allowed in (
          anchor_named start.anchor tag facts.0,
          tag_stands start.anchor tag facts.0 (given_scalars (canonical || not start.implicit) start.tag facts.2) both.0,
          all_names_stand items (all_of_both (is_good canonical) (nodes_events items) (sequence_end ∷ []) parts.1).0 both.1,
        )
    names_stand (mapping_node start pairs) good allowed =
        let parts = and_parts (is_good canonical (mapping_start start)) (list_all (is_good canonical) (pairs_events pairs ++ mapping_end ∷ [])) good in
        let facts = no_faults canonical (mapping_start start) parts.0 in
        let tag = collection_tag canonical start in
        let both = open_parts portable (tag_has_flow_indicator directives tag) (pairs_have_flow_indicator canonical directives pairs) allowed in (
          anchor_named start.anchor tag facts.0,
          tag_stands start.anchor tag facts.0 (given_scalars (canonical || not start.implicit) start.tag facts.2) both.0,
          pairs_names_stand pairs (all_of_both (is_good canonical) (pairs_events pairs) (mapping_end ∷ []) parts.1).0 both.1,
        )

    all_names_stand : (items : Nodes) → list_all (is_good canonical) (nodes_events items) ≡ true
        → (portable || not (nodes_have_flow_indicator canonical directives items)) ≡ true → AllNamesStand portable own canonical directives items
    all_names_stand no_nodes good allowed = tt
    all_names_stand (nodes_and items last) good allowed =
        let all = all_of_both (is_good canonical) (nodes_events items) (node_events last) good in
        let both = open_parts portable (nodes_have_flow_indicator canonical directives items) (node_has_flow_indicator canonical directives last) allowed in
        (all_names_stand items all.0 both.0, names_stand last all.1 both.1)

    pairs_names_stand : (pairs : Pairs) → list_all (is_good canonical) (pairs_events pairs) ≡ true
        → (portable || not (pairs_have_flow_indicator canonical directives pairs)) ≡ true → PairsNamesStand portable own canonical directives pairs
    pairs_names_stand no_pairs good allowed = tt
    pairs_names_stand (pairs_and pairs key value) good allowed =
        let all = all_of_both (is_good canonical) (pairs_events pairs) (node_events key ++ node_events value) good in
        let two = all_of_both (is_good canonical) (node_events key) (node_events value) all.1 in
        let before = pairs_have_flow_indicator canonical directives pairs in
        let of_key = node_has_flow_indicator canonical directives key in
        let rest = open_parts portable (before || of_key) (node_has_flow_indicator canonical directives value) allowed in
        let both = open_parts portable before of_key rest.0 in
        (pairs_names_stand pairs all.0 both.0, names_stand key two.0 both.1, names_stand value two.1 rest.1)

-- Documents

-- of a sound document its version and its directives are without a fault, its prefixes are of scalar values, and its names and tags are readable
pub record IsSoundDocument (portable canonical : Bool) (document : Document) : Type 0 where
  pub version : option_and_then version_fault document.start.version ≡ None
  pub directives : directives_fault document.start.directives ≡ None
  pub prefixes : list_all directive_scalars document.start.directives ≡ true
  pub names : NamesStand portable document.start.directives canonical (directives_in_force document.start.directives) document.root

-- a document of such events is sound, in portable mode or if no tag has a flow indicator
document_is_sound : (portable canonical : Bool) (document : Document) → list_all (is_good canonical) (document_events document) ≡ true
    → (portable || not (document_has_flow_indicator canonical document)) ≡ true → IsSoundDocument portable canonical document
document_is_sound portable canonical document good allowed = grind (arith, and_parts, no_faults, neither, all_of_both, names_stand)

-- portable mode, or no tag of any document has such an indicator
all_allowed : (portable canonical : Bool) (documents : List Document) → (portable || not (list_any (document_has_flow_indicator canonical) documents)) ≡ true
    → AllDocuments (λ document. (portable || not (document_has_flow_indicator canonical document)) ≡ true) documents
all_allowed portable canonical [] h = tt
all_allowed portable canonical (document ∷ rest) h = grind (arith, nat_tests, open_parts, all_allowed portable canonical rest)

-- the facts about a list's documents in portable mode, and if no tag has a flow indicator
pub accepted_allowed : (portable canonical : Bool) (events : List Event) (stream : Stream) → tree_of events ≡ Some stream
    → reads_alike portable canonical events ≡ true
    → ((portable || not (loses_document canonical (documents_in_order stream.documents))) ≡ true)
    × ((portable || not (list_any (document_has_flow_indicator canonical) (documents_in_order stream.documents))) ≡ true)
accepted_allowed portable canonical events stream tree h = grind (arith, and_parts)

-- so is each document of an accepted list
pub accepted_names_stand : (given : Settings) (events : List Event) (stream : Stream) → IsAccepted given.canonical events
    → list_all has_scalar_texts events ≡ true → reads_alike given.portable given.canonical events ≡ true → tree_of events ≡ Some stream
    → AllDocuments (IsSoundDocument given.portable given.canonical) (documents_in_order stream.documents)
accepted_names_stand given events stream accepted texts portable tree =
    let one_stream : Some accepted.stream ≡ Some stream = sym (tree_of-stream_events accepted.stream) ∙ ap tree_of accepted.is_stream ∙ tree in
    let same : accepted.stream ≡ stream = let e : Some accepted.stream ≡ Some stream = one_stream in cc in
    let events_of : stream_events stream ≡ events = ap stream_events (sym same) ∙ accepted.is_stream in
    let canonical = given.canonical in
    let Sound = IsSoundDocument given.portable canonical in
    let Allowed : Document → Type 0 = λ document. (given.portable || not (document_has_flow_indicator canonical document)) ≡ true in
    let own : list_all (is_good canonical) (stream_events stream) ≡ true =
    ap (list_all (is_good canonical)) events_of ∙ all_good canonical events accepted.sound texts in
    let rest : List Event = documents_events stream.documents ++ stream_end ∷ [] in
    let parts = and_parts (is_good canonical (stream_start stream.encoding)) (list_all (is_good canonical) rest) own in
    let good = all_of_both (is_good canonical) (documents_events stream.documents) (stream_end ∷ []) parts.1 in
    documents_given Allowed Sound (documents_in_order stream.documents)
    (each_document (λ document. Allowed document → Sound document) (is_good canonical) (document_is_sound given.portable canonical) stream.documents good.0)
    (all_allowed given.portable canonical (documents_in_order stream.documents)
    (accepted_allowed given.portable canonical events stream tree portable).1)
