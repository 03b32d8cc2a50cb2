-- Each document of an accepted list is readable: its names and tags by acceptance, its scalars by their bodies.
use Rattle.yaml_base.proofs.Common.{nat_tests, ◌≤◌, Option, Some, true, List, [], ◌∷◌, refl, ◌≡◌, leb-true, subst, arith, list_all, Rendered, Event, Documents}
use Rattle.yaml_base.proofs.Common.{no_documents, documents_and, root_place, has_no_documents, render_documents, first_standing, text_of, has_scalar_values}
use Rattle.yaml_base.proofs.Common.{MeaningIsKept, has_scalar_texts, text_written, bytes_written, list_layout, IsAccepted, Encoding, Settings, Effective}
use Rattle.yaml_base.{proofs.Trees.tree_of-stream_events, proofs.stream_documents.StreamEachDocument.AllDocuments}
use Rattle.yaml_base.{proofs.stream_documents.StreamPrologueLines.prologue_stands, proofs.stream_documents.StreamRootLeaves.root_stands}
use Rattle.yaml_base.{proofs.stream_keys.StreamKeysFit.keys_fit, proofs.stream_keys.StreamSimpleKeys.simple_keys_fit}
use Rattle.yaml_base.{proofs.stream_lines.StreamClosed.margin_cursor, proofs.stream_nodes.StreamScalarLeaves.scalars_fit, specs.StreamLaw.StreamReadsBack}
use Rattle.yaml_base.{proofs.stream_lines.StreamBytes.is_shown, proofs.stream_nodes.StreamStands.BodyStands, proofs.stream_nodes.StreamStands.BodiesHold}
use Rattle.yaml_base.proofs.Common.{effective, reads_alike, directives_in_force, BodiesAreTidy, characters_read, documents_in_order}
use Rattle.yaml_base.proofs.stream_documents.StreamDocumentTexts.{start_rendered, end_cursor}
use Rattle.yaml_base.proofs.stream_documents.StreamRootsStand.{is_on_marker, DocumentsStand}
use Rattle.yaml_base.proofs.stream_nodes.StreamBodies.{DocumentsHold, roots_stand}
use Rattle.yaml_base.proofs.stream_nodes.StreamNames.{IsSoundDocument, accepted_names_stand}
use Rattle.yaml_base.proofs.stream_documents.StreamLawStands.{documents_parts, indent_deep, StreamStands, stream_agrees}

-- Documents

-- after each document a line begins
documents_end : (s : Effective) (documents : Documents) → (render_documents s documents first_standing).standing.cursor ≡ margin_cursor 0
documents_end s no_documents = refl
documents_end s (documents_and before document) = end_cursor document.end_implicit _

-- each document
documents_stand : (s : Effective) (documents : Documents) → 2 ≤ s.indent → s.indent ≤ 9
    → AllDocuments (IsSoundDocument s.portable s.canonical) (documents_in_order documents) → DocumentsHold (BodyStands s) documents s
    → DocumentsStand s documents
documents_stand s no_documents low high sound bodies = tt
documents_stand s (documents_and before document) low high sound bodies =
    let parts = documents_parts (IsSoundDocument s.portable s.canonical) (documents_in_order before) (document ∷ []) sound in
    let own = document.start.directives in
    let at = start_rendered s (has_no_documents before) document.start (render_documents s before first_standing).standing (documents_end s before) in (
      documents_stand s before low high parts.0 bodies.0,
      record {
        root = root_stands s document (is_on_marker s (has_no_documents before) document.start) low (scalars_fit s own (directives_in_force own) low high)
            (simple_keys_fit s own (directives_in_force own))
            (keys_fit s own (directives_in_force own)) parts.1.0.names
            (subst (λ (l : Rendered). BodiesHold (BodyStands s) document.root s (directives_in_force own) root_place l.cursor) at bodies.1);
        prologue = prologue_stands s document.start parts.1.0.version parts.1.0.directives parts.1.0.prefixes;
      },
    )

-- The law

-- texts of Unicode scalar values are values of them
abbrev pub TextsAreValues : Type 0
TextsAreValues = (events : List Event) → list_all has_scalar_texts events ≡ true → list_all has_scalar_values events ≡ true

-- under all settings the text of an accepted list is of printable characters and tabs
abbrev pub LayoutsAreShown : Type 0
LayoutsAreShown =
    (given : Settings) (encoding : Option Encoding) (events : List Event) → IsAccepted given.canonical events
    → list_all is_shown (text_of (list_layout (effective given encoding) events)) ≡ true

-- and its characters, with the line breaks of the settings, are read from its bytes
abbrev pub LayoutsAreRead : Type 0
LayoutsAreRead =
    (given : Settings) (encoding : Option Encoding) (events : List Event) → IsAccepted given.canonical events
    → characters_read (bytes_written (effective given encoding) (list_layout (effective given encoding) events))
    ≡ Some (text_written (effective given encoding) (list_layout (effective given encoding) events))

-- every stream that is read alike is readable
abbrev pub StreamsStand : Type 0
StreamsStand =
    (given : Settings) (encoding : Option Encoding) (events : List Event) (accepted : IsAccepted given.canonical events)
    → list_all has_scalar_texts events ≡ true → reads_alike given.portable given.canonical events ≡ true
    → StreamStands (effective given encoding) events accepted.stream

-- it is if bodies are tidy and keep their meaning, and texts are of such characters and read from their bytes
pub streams_stand : BodiesAreTidy → MeaningIsKept → TextsAreValues → LayoutsAreShown → LayoutsAreRead → StreamsStand
streams_stand tidy kept values shown characters given encoding events accepted texts portable =
    grind (arith, nat_tests, documents_stand, indent_deep, leb-true, accepted_names_stand, tree_of-stream_events, roots_stand)

-- and then reads back
pub streams_read_back : StreamsStand → StreamReadsBack
streams_read_back stand given encoding events accepted texts portable =
    stream_agrees given encoding events accepted portable (stand given encoding events accepted texts portable)
