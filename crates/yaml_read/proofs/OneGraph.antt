-- Graphs of the same events are isomorphic, and so are a graph and one of its events without styles.
use Rattle.yaml_read.proofs.Common.{ℕ, false, Option, None, List, [], ◌∷◌, ◌++◌, ◌≡◌, ap, subst, sym, ◌∙◌, map, option_map, Event, stream_start, stream_end}
use Rattle.yaml_read.proofs.Common.{alias_node, Document, documents_and, no_documents, Graph, GraphNode, node_numbered, document_event_list, Isomorphic}
use Rattle.yaml_read.proofs.Common.{IsWholeGraph, Held, node_content, Contains, Unfolds, content_shape, content_unfolds, document_unfolds, same_shape}
use Rattle.yaml_read.proofs.Common.{unstyled_graph, unstyled_node, arith}
use Rattle.yaml_base.proofs.Common.{Node, Documents, Stream, IsReached, child_reached, first_reached, label_of, label_at}
use Rattle.yaml_base.proofs.Trees.{one_tree}
use Rattle.yaml_read.proofs.UnstyledGraphs.{children_unstyled, node_unstyled}

-- ---- events

-- a document as the only one of a stream, and the root of the last one
abbrev alone : Document → Stream
alone document = record { encoding = None; documents = documents_and no_documents document }

abbrev last_root : Documents → Node
last_root no_documents = alias_node []
last_root (documents_and before document) = document.root

pub same_events : (first second : Graph) → IsWholeGraph first → IsWholeGraph second → document_event_list first ≡ document_event_list second
    → Isomorphic first second
same_events first second whole also_whole same =
    let one = document_unfolds first whole in
    let two = document_unfolds second also_whole in
    let streams : alone one.document ≡ alone two.document =
    one_tree (alone one.document) (alone two.document)
    (ap (λ (inside : List Event). stream_start None ∷ (inside ++ stream_end ∷ [])) (one.is_document ∙ same ∙ sym two.is_document)) in
    let roots : one.document.root ≡ two.document.root = ap (λ (stream : Stream). last_root stream.documents) streams in
    same_shape first second (content_shape (node_content one.document.root)) (content_unfolds first one.document.root one.unfolds)
    (subst (λ (root : Node). Unfolds false second (content_shape (node_content root))) (sym roots) (content_unfolds second two.document.root two.unfolds))

-- ---- styles

held_label : (tag : List ℕ) (held : Held)
    → label_of false (unstyled_node (record { tag = tag; held = held })) ≡ label_of false (record { tag = tag; held = held })
held_label tag held = grind arith

found_label : (found : Option GraphNode) → option_map (label_of false) (option_map unstyled_node found) ≡ option_map (label_of false) found
found_label found = grind (arith, held_label)

label_unstyled : (graph : Graph) (number : ℕ) → label_at (unstyled_graph graph) number ≡ label_at graph number
label_unstyled graph number = ap (option_map (label_of false)) (node_unstyled graph number) ∙ found_label (node_numbered graph number)

reached_unstyled : (graph : Graph) {number : ℕ} → IsReached graph number → IsReached (unstyled_graph graph) number
reached_unstyled graph first_reached = first_reached
reached_unstyled graph (child_reached {number = parent} {child = child} reached within) =
    child_reached (reached_unstyled graph reached) (subst (λ (numbers : List ℕ). Contains numbers child) (sym (children_unstyled graph parent)) within)

-- graphs that are isomorphic without styles are so with them
pub styled_isomorphic : (graph other : Graph) → Isomorphic (unstyled_graph graph) other → Isomorphic graph other
styled_isomorphic graph other alike =
    record {
      partner = alike.partner;
      back = alike.back;
      root = alike.root;
      labels = λ number reached. alike.labels number (reached_unstyled graph reached) ∙ label_unstyled graph number;
      kept = λ number reached.
          alike.kept number (reached_unstyled graph reached) ∙ ap (map alike.partner) (children_unstyled graph number);
      one_to_one = λ number reached. alike.one_to_one number (reached_unstyled graph reached);
      onto = alike.onto;
    }

pub isomorphic_styled : (graph other : Graph) → Isomorphic graph (unstyled_graph other) → Isomorphic graph other
isomorphic_styled graph other alike =
    record {
      partner = alike.partner;
      back = alike.back;
      root = alike.root;
      labels = λ number reached. sym (label_unstyled other (alike.partner number)) ∙ alike.labels number reached;
      kept = λ number reached. sym (children_unstyled other (alike.partner number)) ∙ alike.kept number reached;
      one_to_one = alike.one_to_one;
      onto = λ number reached. alike.onto number (reached_unstyled other reached);
    }
