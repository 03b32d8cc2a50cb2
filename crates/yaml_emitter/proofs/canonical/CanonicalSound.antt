-- Accepted events have names, tags and directives that the canonical reader reads.
use Rattle.yaml_emitter.proofs.Common.{if◌then◌else◌, option_and_then, Option, None, Some, Bool, false, true, List, [], ◌++◌, ◌∷◌, refl, ◌≡◌, ap, and_parts}
use Rattle.yaml_emitter.proofs.Common.{list_all, option_or, all_scalars, neither, handle_form, all_of_both, Text, is_alpha, Version, TagDirective, Event}
use Rattle.yaml_emitter.proofs.Common.{document_start, document_end, alias, scalar, sequence_start, mapping_start, Document, Documents, no_documents}
use Rattle.yaml_emitter.proofs.Common.{documents_and, node_events, documents_events, option_scalars, directive_scalars, properties_fault, name_fault}
use Rattle.yaml_emitter.proofs.Common.{anchor_fault, tag_fault, version_fault, handle_fault, prefix_fault, directive_fault, gives_handle}
use Rattle.yaml_emitter.proofs.Common.{next_directive_fault, directives_fault_after, directives_fault}
use Rattle.yaml_base.{proofs.TagReads.written_tag_reads, proofs.stream_nodes.StreamNames.is_good, proofs.stream_nodes.StreamNames.no_faults}
use Rattle.yaml_base.{specs.Grammar.document_events, specs.declared.errors.yaml_error_t.yaml_error_t}
use Rattle.yaml_base.specs.declared.errors.yaml_error_t.TheVariants.{AliasAlphabet, AliasEmpty, AnchorAlphabet, AnchorEmpty, DuplicateDirective}
use Rattle.yaml_emitter.proofs.canonical.{CanonicalDocuments.EachDocument, CanonicalEvents.EachNode, CanonicalEvents.each_node, CanonicalFold.TagReads}
use Rattle.yaml_emitter.proofs.canonical.{CanonicalFold.TagOf, CanonicalLines.VersionOk, CanonicalLines.EachDirective, CanonicalNames.IsName}
use Rattle.yaml_emitter.proofs.canonical.{CanonicalNodes.EventOk, CanonicalPlaces.AnchorOk}

-- an event is sound in canonical mode, and its texts are of scalar values
abbrev pub is_good_canonical : Event → Bool
is_good_canonical = is_good true

pub name_is : (a b : yaml_error_t) (name : Text) → name_fault a b name ≡ None → IsName name
name_is a b [] h = absurd (cc)
name_is a b (c ∷ rest) h = by (list_all is_alpha (c ∷ rest)) refl h
  where
    by : (t : Bool) → list_all is_alpha (c ∷ rest) ≡ t → ◌≡◌ {A = Option yaml_error_t} (if t then None else Some b) None → IsName (c ∷ rest)
    by true e h = record { some = (and_parts (is_alpha c) (list_all is_alpha rest) e).0; alphas = e }
    by false e h = absurd (cc)

pub anchor_is : (anchor tag : Option Text) → properties_fault anchor tag ≡ None → AnchorOk anchor
anchor_is None tag h = tt
anchor_is (Some name) tag h = name_is AnchorEmpty AnchorAlphabet name (neither (anchor_fault name) (option_and_then tag_fault tag) h).0

pub event_ok : (event : Event) → is_good_canonical event ≡ true → EventOk event
event_ok (alias name) h = name_is AliasEmpty AliasAlphabet name (no_faults true (alias name) h).0
event_ok (scalar content) h =
    let facts = no_faults true (scalar content) h in
    (anchor_is content.anchor content.tag facts.0, (and_parts (option_scalars content.tag) (all_scalars content.value) facts.2).1)
event_ok (sequence_start start) h = anchor_is start.anchor start.tag
    (neither (properties_fault start.anchor start.tag) None (ap (λ f. option_or f None) (no_faults true (sequence_start start) h).0)).0
event_ok (mapping_start start) h = anchor_is start.anchor start.tag
    (neither (properties_fault start.anchor start.tag) None (ap (λ f. option_or f None) (no_faults true (mapping_start start) h).0)).0
event_ok _ h = tt

module _ (portable : Bool) (own : List TagDirective) (sound : directives_fault own ≡ None) where
  tag_reads : (tag : Option Text) → option_scalars tag ≡ true → TagReads portable own tag
  tag_reads None h = tt
  tag_reads (Some tag) h = written_tag_reads portable own tag sound h

  tag_of : (event : Event) → is_good_canonical event ≡ true → TagOf portable own event
  tag_of (scalar content) h = tag_reads content.tag (and_parts (option_scalars content.tag) (all_scalars content.value) (no_faults true (scalar content) h).2).0
  tag_of (sequence_start start) h = tag_reads start.tag (no_faults true (sequence_start start) h).2
  tag_of (mapping_start start) h = tag_reads start.tag (no_faults true (mapping_start start) h).2
  tag_of _ h = tt

directives_ok : (before directives : List TagDirective) → directives_fault_after before directives ≡ None → list_all directive_scalars directives ≡ true
    → EachDirective directives
directives_ok before [] h k = tt
directives_ok before (directive ∷ rest) h k =
    let scalars = and_parts (directive_scalars directive) (list_all directive_scalars rest) k in
    let both = neither (next_directive_fault before directive) (directives_fault_after (before ++ directive ∷ []) rest) h in
    let own = neither (directive_fault directive) (if gives_handle directive.handle before then Some DuplicateDirective else None) both.0 in
    let parts = neither (handle_fault directive.handle) (prefix_fault directive.prefix) own.0 in (
      record { handle = handle_form directive.handle parts.0; some = parts.1; scalars = scalars.0 },
      directives_ok (before ++ directive ∷ []) rest both.1 scalars.1,
    )

version_ok : (version : Option Version) → option_and_then version_fault version ≡ None → VersionOk version
version_ok None h = tt
version_ok (Some version) h = h

pub record DocumentOk (document : Document) : Type 0 where
  pub sound : directives_fault document.start.directives ≡ None
  pub version : VersionOk document.start.version
  pub directives : EachDirective document.start.directives
  pub root : EachNode document.root EventOk
  pub tags : (portable : Bool) → EachNode document.root (TagOf portable document.start.directives)

pub document_ok : (document : Document) → list_all is_good_canonical (document_events document) ≡ true → DocumentOk document
document_ok document h =
    let rest : List Event = node_events document.root ++ document_end document.end_implicit ∷ [] in
    let parts : (is_good_canonical (document_start document.start) ≡ true) × (list_all is_good_canonical rest ≡ true) = and_parts _ _ h in
    let facts = no_faults true (document_start document.start) parts.0 in
    let both = neither (option_and_then version_fault document.start.version) (directives_fault document.start.directives) facts.1 in
    let root = (all_of_both is_good_canonical (node_events document.root) (document_end document.end_implicit ∷ []) parts.1).0 in
    record {
      sound = both.1;
      version = version_ok document.start.version both.0;
      directives = directives_ok [] document.start.directives both.1 facts.2;
      root = each_node document.root EventOk is_good_canonical event_ok root;
      tags = λ portable. each_node document.root (TagOf portable document.start.directives) is_good_canonical
          (tag_of portable document.start.directives both.1) root;
    }

abbrev pub DocumentsOk : Documents → Type 0
DocumentsOk no_documents = Unit {0}
DocumentsOk (documents_and before document) = DocumentsOk before × DocumentOk document

pub documents_ok : (documents : Documents) → list_all is_good_canonical (documents_events documents) ≡ true → DocumentsOk documents
documents_ok no_documents h = tt
documents_ok (documents_and before document) h =
    let parts = all_of_both is_good_canonical (documents_events before) (document_events document) h in
    (documents_ok before parts.0, document_ok document parts.1)

pub each_document : (portable : Bool) (documents : Documents) → DocumentsOk documents → EachDocument portable documents
each_document portable no_documents ok = tt
each_document portable (documents_and before document) ok = (each_document portable before ok.0, ok.1.tags portable)
