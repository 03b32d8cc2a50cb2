-- The canonical output of one document without directives, whose end isn't written, is the encoding of its text.
use Rattle.yaml_base.proofs.Common.{Bool, true, false, Option, None, Some, List, [], ◌∷◌, ◌++◌, refl, ◌≡◌, ap, sym, ◌∙◌, append_assoc, append-nil, codes, Text}
use Rattle.yaml_base.proofs.Common.{line_feed, eqb-true, option_map, unwrap_or, flat_map-append, Standing, Piece, text_of, piece_text, layout, root_place}
use Rattle.yaml_base.proofs.Common.{render_node, document_end_piece, stream_end_piece, first_standing, with_breaks_written, line_feed_break, encode, cut, utf8}
use Rattle.yaml_base.proofs.Common.{text_written, bytes_written, list_layout, output_of, Encoding, Event, stream_start, stream_end, DocumentStart, arith}
use Rattle.yaml_base.{specs.Settings.largest_usize, specs.values.TypedValues.typed_settings, proofs.DocumentsUnfold.document_unfolds}
use Rattle.yaml_base.{proofs.DumpedTexts.node_writes, proofs.Trees.one_tree, proofs.Trees.tree_of-stream_events}
use Rattle.yaml_base.proofs.Common.{Document, Documents, documents_and, no_documents, Stream, stream_events, Node, Graph, document_event_list, IsDumpOf}
use Rattle.yaml_base.proofs.Common.{IsWholeGraph, All-head}
use Rattle.yaml_base.specs.graphs.DumpedText.{HasDumpedText, HaveText, IsBareDocument, dumped_text, node_text}
use Rattle.yaml_base.proofs.DumpedLeaves.{Writes, force, s}

-- a document without directives, whose end isn't written, and a stream of it alone
abbrev pub bare_document : (implicit : Bool) → Node → Document
bare_document implicit root =
    record { start = record { version = None; directives = []; implicit = implicit }; root = root; end_implicit = true }

abbrev pub stream_alone : Option Encoding → Document → Stream
stream_alone encoding document = record { encoding = encoding; documents = documents_and no_documents document }

more_text : (a b c : List Piece) → text_of ((a ++ b) ++ c) ≡ text_of a ++ (text_of b ++ text_of c)
more_text a b c =
    flat_map-append piece_text (a ++ b) c ∙ ap (λ t. t ++ text_of c) (flat_map-append piece_text a b) ∙ append_assoc (text_of a) (text_of b) (text_of c)

-- the text of the last document
abbrev root_text : Documents → Text
root_text no_documents = []
root_text (documents_and before document) = dumped_text document.root

-- a root, the end of its document and that of the stream
rest_is : (root : Node)
    → (let node = render_node root s force root_place first_standing in
    let end = document_end_piece true node.standing in
    text_of ((node.pieces ++ end.piece ∷ []) ++ (stream_end_piece end.standing).piece ∷ []) ≡ node_text 0 root ++ line_feed ∷ [])
rest_is root =
    let node = render_node root s force root_place first_standing in
    let end = document_end_piece true node.standing in
    let last = stream_end_piece end.standing in
    let written : Writes (node_text 0 root) 0 node = node_writes root None first_standing in
    let ends : text_of (end.piece ∷ []) ++ text_of (last.piece ∷ []) ≡ line_feed ∷ [] =
    ap
    (λ (from : Standing). let made = document_end_piece true from in text_of (made.piece ∷ []) ++ text_of ((stream_end_piece made.standing).piece ∷ []))
    written.stands in
    more_text node.pieces (end.piece ∷ []) (last.piece ∷ []) ∙ ap (λ t. t ++ (text_of (end.piece ∷ []) ++ text_of (last.piece ∷ []))) written.is
    ∙ ap (λ t. node_text 0 root ++ t) ends

layout_is : (encoding : Option Encoding) (implicit : Bool) (root : Node)
    → text_of (layout s (stream_alone encoding (bare_document implicit root))) ≡ dumped_text root
layout_is encoding true root = ap (λ t. codes "---\n" ++ t) (rest_is root)
layout_is encoding false root = ap (λ t. codes "---\n" ++ t) (rest_is root)

-- LF means itself
breaks_same : (text : Text) → with_breaks_written line_feed_break text ≡ text
breaks_same [] = refl
breaks_same (c ∷ rest) = grind (arith, eqb-true, breaks_same rest)

-- the text of a tree
pub tree_text : (encoding : Option Encoding) (implicit : Bool) (root : Node)
    → text_written s (layout s (stream_alone encoding (bare_document implicit root))) ≡ dumped_text root
tree_text encoding implicit root =
    breaks_same (text_of (layout s (stream_alone encoding (bare_document implicit root)))) ∙ layout_is encoding implicit root

-- the bytes of its events, before any limit
pub tree_bytes : (encoding : Option Encoding) (implicit : Bool) (root : Node)
    → bytes_written s (list_layout s (stream_events (stream_alone encoding (bare_document implicit root)))) ≡ encode (Some utf8) (dumped_text root)
tree_bytes encoding implicit root =
    ap (λ (t : Option Stream). bytes_written s (unwrap_or (option_map (layout s) t) []))
    (tree_of-stream_events (stream_alone encoding (bare_document implicit root)))
    ∙ ap (encode (Some utf8)) (tree_text encoding implicit root)

-- their output
pub tree_output : (encoding : Option Encoding) (implicit : Bool) (root : Node)
    → output_of typed_settings (stream_events (stream_alone encoding (bare_document implicit root))) ≡ cut largest_usize (encode (Some utf8) (dumped_text root))
tree_output encoding implicit root = ap (cut largest_usize) (tree_bytes encoding implicit root)

-- a document that is bare
bare_is : (document : Document) → IsBareDocument document.start document.end_implicit → document ≡ bare_document document.start.implicit document.root
bare_is document bare = grind (arith)

-- the output of a bare document is the encoding of its text
pub text_output : (encoding : Option Encoding) (events : List Event) (text : Text) (has : HaveText events text)
    → IsBareDocument has.document.start has.document.end_implicit
    → output_of typed_settings (stream_start encoding ∷ (events ++ stream_end ∷ [])) ≡ cut largest_usize (encode (Some utf8) text)
text_output encoding events text has bare =
    let document = has.document in
    ap (λ (inside : List Event). output_of typed_settings (stream_start encoding ∷ (inside ++ stream_end ∷ []))) (sym has.is_document)
    ∙ ap (λ (d : Document). output_of typed_settings (stream_events (stream_alone encoding d))) (bare_is document bare)
    ∙ tree_output encoding document.start.implicit document.root
    ∙ ap (λ t. cut largest_usize (encode (Some utf8) t)) (sym has.is_text)

-- a dump of such a document has a text, of which its output is the encoding
pub dump_output : (graph : Graph) (events : List Event) → IsDumpOf (graph ∷ []) events → IsBareDocument graph.start graph.end_implicit
    → (text : Text) × HasDumpedText graph text × (output_of typed_settings events ≡ cut largest_usize (encode (Some utf8) text))
dump_output graph events dumped bare =
    let unfolded = document_unfolds graph (All-head IsWholeGraph graph [] dumped.documents) in
    let document = unfolded.document in
    let text = dumped_text document.root in
    let has : HaveText (document_event_list graph) text = record { document = document; is_document = unfolded.is_document; is_text = refl } in
    let parts : stream_start dumped.encoding ∷ (document_event_list graph ++ stream_end ∷ []) ≡ events =
    ap (λ (inside : List Event). stream_start dumped.encoding ∷ (inside ++ stream_end ∷ [])) (sym (append-nil (document_event_list graph))) ∙ dumped.parts in (
      text,
      record { events = has; unfolds = unfolded.unfolds },
      sym (ap (output_of typed_settings) parts)
          ∙ text_output _ _ text has (record {
            version = ap (λ (start : DocumentStart). start.version) unfolded.start ∙ bare.version;
            directives = ap (λ (start : DocumentStart). start.directives) unfolded.start ∙ bare.directives;
            implicit = unfolded.end_implicit ∙ bare.implicit;
          }),
    )

-- events have no other text
pub one_text : (events : List Event) (first second : Text) → HaveText events first → HaveText events second → first ≡ second
one_text events first second one other =
    let streams : stream_alone None one.document ≡ stream_alone None other.document =
    one_tree _ _ (ap (λ (inside : List Event). stream_start None ∷ (inside ++ stream_end ∷ [])) (one.is_document ∙ sym other.is_document)) in
    one.is_text ∙ ap (λ (stream : Stream). root_text stream.documents) streams ∙ sym other.is_text
