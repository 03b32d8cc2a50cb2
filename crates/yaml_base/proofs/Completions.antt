-- The completion of a list that begins a stream is a stream.
use Rattle.yaml_base.proofs.Common.{nat_tests, arith, option_and_then, Option, None, Some, true, List, [], ◌++◌, ◌∷◌, refl, ◌≡◌, any_style, DocumentStart, Node}
use Rattle.yaml_base.proofs.Common.{Event, scalar_node, sequence_node, mapping_node, no_nodes, nodes_and, no_pairs, pairs_and, Documents, no_documents, Stream}
use Rattle.yaml_base.proofs.Common.{documents_and, Level, at_item, at_key, at_value, Partial, before_stream, between_documents, within_document, after_root}
use Rattle.yaml_base.proofs.Common.{after_stream, with_node, push, pushed, partial_of, outer_missing, levels_missing, missing, completion, Encoding}
use Rattle.std.specs.Prelude.{flat_map}

append_next : (a b : List Event) (next : Option Partial) → ((q : Partial) → pushed q (a ++ b) ≡ option_and_then (λ r. pushed r b) (pushed q a))
    → option_and_then (λ q. pushed q (a ++ b)) next ≡ option_and_then (λ q. pushed q b) (option_and_then (λ q. pushed q a) next)
append_next a b None others = refl
append_next a b (Some q) others = others q

-- Pushing a list and then another is pushing both.
pub pushed-append : (a b : List Event) (p : Partial) → pushed p (a ++ b) ≡ option_and_then (λ q. pushed q b) (pushed p a)
pushed-append [] b p = refl
pushed-append (event ∷ a) b p = append_next a b (push p event) (λ q. pushed-append a b q)

abbrev empty_node : Node
empty_node = scalar_node (record { anchor = None; tag = None; value = []; plain_implicit = true; quoted_implicit = true; style = any_style })

-- the innermost collection, completed
abbrev innermost_node : Level → Node
innermost_node (at_item c no_nodes) = sequence_node c (nodes_and no_nodes empty_node)
innermost_node (at_item c (nodes_and items last)) = sequence_node c (nodes_and items last)
innermost_node (at_key c no_pairs) = mapping_node c (pairs_and no_pairs empty_node empty_node)
innermost_node (at_key c (pairs_and pairs key value)) = mapping_node c (pairs_and pairs key value)
innermost_node (at_value c pairs key) = mapping_node c (pairs_and pairs key empty_node)

-- the root, when a node is the last in these open collections
abbrev root_around : List Level → Node → Node
root_around [] n = n
root_around (at_item c items ∷ outer) n = root_around outer (sequence_node c (nodes_and items n))
root_around (at_key c pairs ∷ outer) n = root_around outer (mapping_node c (pairs_and pairs n empty_node))
root_around (at_value c pairs key ∷ outer) n = root_around outer (mapping_node c (pairs_and pairs key n))

abbrev root_completed : List Level → Node
root_completed [] = empty_node
root_completed (innermost ∷ outer) = root_around outer (innermost_node innermost)

abbrev with_document : Option Encoding → Documents → DocumentStart → Node → Stream
with_document e d s root =
    record { encoding = e; documents = documents_and d (record { start = s; root = root; end_implicit = true }) }

-- the stream that completes a partial tree
abbrev pub stream_completed : Partial → Stream
stream_completed before_stream = record { encoding = None; documents = no_documents }
stream_completed (between_documents e d) = record { encoding = e; documents = d }
stream_completed (within_document e d s levels) = with_document e d s (root_completed levels)
stream_completed (after_root e d s root) = with_document e d s root
stream_completed (after_stream t) = t

outer_pushed : (outer : List Level) (n : Node) (e : Option Encoding) (d : Documents) (s : DocumentStart) (rest : List Event)
    → pushed (with_node e d s outer n) (flat_map outer_missing outer ++ rest) ≡ pushed (after_root e d s (root_around outer n)) rest
outer_pushed [] n e d s rest = refl
outer_pushed (at_item c items ∷ outer) n e d s rest = outer_pushed outer (sequence_node c (nodes_and items n)) e d s rest
outer_pushed (at_key c pairs ∷ outer) n e d s rest = outer_pushed outer (mapping_node c (pairs_and pairs n empty_node)) e d s rest
outer_pushed (at_value c pairs key ∷ outer) n e d s rest = outer_pushed outer (mapping_node c (pairs_and pairs key n)) e d s rest

levels_pushed : (levels : List Level) (e : Option Encoding) (d : Documents) (s : DocumentStart) (rest : List Event)
    → pushed (within_document e d s levels) (levels_missing levels ++ rest) ≡ pushed (after_root e d s (root_completed levels)) rest
levels_pushed levels e d s rest = grind (arith, nat_tests, outer_pushed)

pub missing_pushed : (p : Partial) → pushed p (missing p) ≡ Some (after_stream (stream_completed p))
missing_pushed p = grind (arith, nat_tests, levels_pushed)

pub completion_pushed : (events : List Event) (p : Partial) → partial_of events ≡ Some p
    → partial_of (completion events) ≡ Some (after_stream (stream_completed p))
completion_pushed events p begins = grind (arith, pushed-append, missing_pushed)

-- If a list begins a list that is a whole stream's, it begins a stream.
pub prefix_is_partial : (a b : List Event) (q : Partial) → partial_of (a ++ b) ≡ Some q → (p : Partial) × (partial_of a ≡ Some p)
prefix_is_partial a b q whole = grind (arith, pushed-append)
