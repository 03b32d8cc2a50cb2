-- The events held back: they begin with an event that awaits others, and no event of a whole stream is held back.
use Rattle.yaml_base.proofs.Common.{suc, ℕ, ◌+◌, ◌≤◌, if◌then◌else◌, ◌==◌, count_by, nat_lt, drop, length, take, Bool, cond, false, true, ◌&&◌, ◌||◌, List, []}
use Rattle.yaml_base.proofs.Common.{◌++◌, ◌∷◌, refl, ◌≡◌, eq-eqb, length-append, append_assoc, ap, ◌∙◌, arith, sum_by-append, and_right, or_right, list_any}
use Rattle.yaml_base.proofs.Common.{Event, document_start, document_end, sequence_start, sequence_end, mapping_start, mapping_end, Node, nat_tests}
use Rattle.yaml_base.proofs.Common.{Nodes, sequence_node, Pairs, mapping_node, no_nodes, nodes_and, no_pairs, pairs_and, Document, Documents}
use Rattle.yaml_base.proofs.Common.{no_documents, documents_and, Stream, node_events, nodes_events, pairs_events, document_events, documents_events}
use Rattle.yaml_base.proofs.Common.{stream_events, first_ends_collection, last_closes_at_once, awaited, is_balanced, nonempty_prefixes, is_ready, written}
use Rattle.yaml_base.{proofs.ReadyLaws.any_map, proofs.ReadyLaws.any_prefix, specs.Ready.is_start, specs.Ready.is_end}
use Rattle.yaml_base.proofs.Common.{begins_collection, ends_collection}

-- No more events are ready than there are.
written_if : (b : Bool) (m n : ℕ) → m ≤ n → (if b then suc m else 0) ≤ suc n
written_if true m n h = omega arith
written_if false m n h = omega arith

pub written_within : (events : List Event) → written events ≤ length events
written_within [] = omega arith
written_within (event ∷ rest) = written_if (is_ready event rest) (written rest) (length rest) (written_within rest)

-- the first of the held events isn't ready
abbrev HeldWaits : List Event → ℕ → Type 0
HeldWaits events k = (event : Event) (rest : List Event) → drop k events ≡ event ∷ rest → is_ready event rest ≡ false

held_if : (first : Event) (others : List Event) (b : Bool) → is_ready first others ≡ b → HeldWaits others (written others)
    → HeldWaits (first ∷ others) (if b then suc (written others) else 0)
held_if first others true is h event rest given = h event rest given
held_if first others false is h event rest given = grind (arith)

pub held_waits : (events : List Event) → HeldWaits events (written events)
held_waits [] = λ event rest given. cc
held_waits (first ∷ others) = held_if first others (is_ready first others) refl (held_waits others)

-- So the first held event awaits at least as many events as there are from it on.
pub held_is_short : (event : Event) (rest : List Event) → is_ready event rest ≡ false → length (event ∷ rest) ≤ awaited event
held_is_short event rest waits = grind (arith, nat_tests)

-- The first held event isn't a collection's end: it doesn't close a collection that the ready events begin last.
pub no_end_held : (event : Event) (rest : List Event) → is_ready event rest ≡ false → ends_collection event ≡ false
no_end_held event rest h = grind (arith, nat_tests)

no_start_alone : (event : Event) → is_ready event [] ≡ true → begins_collection event ≡ false
no_start_alone event h = grind (arith, nat_tests)

abbrev OpenAt : List Event → List Event → ℕ → Type 0
OpenAt events more k = last_closes_at_once (take k events) (drop k events ++ more) ≡ false

open_next : (first next : Event) (rest more : List Event) (b : Bool) → is_ready next rest ≡ b → OpenAt (next ∷ rest) more (if b then suc (written rest) else 0)
    → OpenAt (first ∷ next ∷ rest) more (suc (if b then suc (written rest) else 0))
open_next first next rest more true is others = others
open_next first next rest more false is others = and_right (begins_collection first) (ends_collection next) (no_end_held next rest is)

open_first : (first : Event) (rest more : List Event) (b : Bool) → is_ready first rest ≡ b → OpenAt rest more (written rest)
    → OpenAt (first ∷ rest) more (if b then suc (written rest) else 0)
open_first first rest more false is others = refl
open_first first [] more true is others = ap (λ a. a && first_ends_collection more) (no_start_alone first is)
open_first first (next ∷ rest) more true is others = open_next first next rest more (is_ready next rest) refl others

pub open_at_written : (events more : List Event) → OpenAt events more (written events)
open_at_written [] more = refl
open_at_written (first ∷ rest) more = open_first first rest more (is_ready first rest) refl (open_at_written rest more)

-- as many starts as ends
record Balanced (events : List Event) : Type 0 where
  counts : count_by is_start events ≡ count_by is_end events

balanced_both : (a b : List Event) → Balanced a → Balanced b → Balanced (a ++ b)
balanced_both a b h k =
    record { counts = omega (arith, sum_by-append (λ x. cond (is_start x) 1 0) a b, sum_by-append (λ x. cond (is_end x) 1 0) a b, h.counts, k.counts) }

balanced_around : (start end : Event) (inside : List Event) → count_by is_start (start ∷ []) ≡ 1 → count_by is_end (start ∷ []) ≡ 0
    → count_by is_start (end ∷ []) ≡ 0 → count_by is_end (end ∷ []) ≡ 1 → Balanced inside → Balanced (start ∷ (inside ++ end ∷ []))
balanced_around start end inside a b c d h =
    let tail = inside ++ end ∷ [] in
    record {
      counts =
          omega (
            arith,
            sum_by-append (λ x. cond (is_start x) 1 0) (start ∷ []) (inside ++ end ∷ []),
            sum_by-append (λ x. cond (is_end x) 1 0) (start ∷ []) (inside ++ end ∷ []),
            sum_by-append (λ x. cond (is_start x) 1 0) inside (end ∷ []),
            sum_by-append (λ x. cond (is_end x) 1 0) inside (end ∷ []),
            h.counts,
          );
    }

mutual
  node_balanced : (n : Node) → Balanced (node_events n)
  node_balanced (sequence_node c items) = balanced_around (sequence_start c) sequence_end (nodes_events items) refl refl refl refl (nodes_balanced items)
  node_balanced (mapping_node c pairs) = balanced_around (mapping_start c) mapping_end (pairs_events pairs) refl refl refl refl (pairs_balanced pairs)
  node_balanced _ = record { counts = refl }

  nodes_balanced : (items : Nodes) → Balanced (nodes_events items)
  nodes_balanced no_nodes = record { counts = refl }
  nodes_balanced (nodes_and items last) = balanced_both (nodes_events items) (node_events last) (nodes_balanced items) (node_balanced last)

  pairs_balanced : (pairs : Pairs) → Balanced (pairs_events pairs)
  pairs_balanced no_pairs = record { counts = refl }
  pairs_balanced (pairs_and pairs key value) = grind (arith, balanced_both, node_balanced key, node_balanced value, pairs_balanced pairs)

document_balanced : (x : Document) → Balanced (document_events x)
document_balanced x = balanced_around (document_start x.start) (document_end x.end_implicit) (node_events x.root) refl refl refl refl (node_balanced x.root)

-- A list is a prefix of itself.
whole_prefix : (first : Event) (rest : List Event) (p : List Event → Bool) → p (first ∷ rest) ≡ true → list_any p (nonempty_prefixes (first ∷ rest)) ≡ true
whole_prefix first [] p h = ap (λ b. b || false) h
whole_prefix first (next ∷ rest) p h = grind (arith, nat_tests, any_map, whole_prefix next rest (λ prefix. p (first ∷ prefix)) h)

-- A start is ready if its end is there.
balanced_ready : (start : Event) (inside rest : List Event) → Balanced (start ∷ inside) → is_ready start (inside ++ rest) ≡ true
balanced_ready start inside rest h =
    or_right (awaited start == 0 || nat_lt (awaited start) (length (start ∷ (inside ++ rest))))
    (list_any is_balanced (nonempty_prefixes (start ∷ (inside ++ rest))))
    (any_prefix (start ∷ inside) rest is_balanced
    (whole_prefix start inside is_balanced (eq-eqb (count_by is_start (start ∷ inside)) (count_by is_end (start ∷ inside)) h.counts)))

-- all of a list is ready before any other
abbrev AllReady : List Event → List Event → Type 0
AllReady events rest = written (events ++ rest) ≡ length events + written rest

pub record Whole (events : List Event) (rest : List Event) : Type 0 where
  pub count : AllReady events rest

whole_both : (a b rest : List Event) → Whole a (b ++ rest) → Whole b rest → Whole (a ++ b) rest
whole_both a b rest h k =
    record { count = ap written (append_assoc a b rest) ∙ omega (arith, length-append a b, h.count, k.count) }

whole_around : (start : Event) (end : Event) (inside rest : List Event) → is_ready end rest ≡ true → Balanced (start ∷ (inside ++ end ∷ []))
    → Whole inside (end ∷ rest) → Whole (start ∷ (inside ++ end ∷ [])) rest
whole_around start end inside rest ends balanced h = grind (arith, balanced_ready, append_assoc, length-append)

mutual
  node_whole : (n : Node) (rest : List Event) → Whole (node_events n) rest
  node_whole (sequence_node c items) rest = whole_around (sequence_start c) sequence_end (nodes_events items) rest refl (node_balanced (sequence_node c items))
      (nodes_whole items (sequence_end ∷ rest))
  node_whole (mapping_node c pairs) rest = whole_around (mapping_start c) mapping_end (pairs_events pairs) rest refl (node_balanced (mapping_node c pairs))
      (pairs_whole pairs (mapping_end ∷ rest))
  node_whole _ rest = record { count = omega arith }

  nodes_whole : (items : Nodes) (rest : List Event) → Whole (nodes_events items) rest
  nodes_whole no_nodes rest = record { count = omega arith }
  nodes_whole (nodes_and items last) rest = whole_both (nodes_events items) (node_events last) rest (nodes_whole items (node_events last ++ rest))
      (node_whole last rest)

  pairs_whole : (pairs : Pairs) (rest : List Event) → Whole (pairs_events pairs) rest
  pairs_whole no_pairs rest = record { count = omega arith }
  pairs_whole (pairs_and pairs key value) rest =
      whole_both (pairs_events pairs) (node_events key ++ node_events value) rest (pairs_whole pairs ((node_events key ++ node_events value) ++ rest))
      (whole_both (node_events key) (node_events value) rest (node_whole key (node_events value ++ rest)) (node_whole value rest))

document_whole : (x : Document) (rest : List Event) → Whole (document_events x) rest
document_whole x rest = whole_around (document_start x.start) (document_end x.end_implicit) (node_events x.root) rest refl (document_balanced x)
    (node_whole x.root (document_end x.end_implicit ∷ rest))

pub documents_whole : (d : Documents) (rest : List Event) → Whole (documents_events d) rest
documents_whole no_documents rest = record { count = omega arith }
documents_whole (documents_and d x) rest = whole_both (documents_events d) (document_events x) rest (documents_whole d (document_events x ++ rest))
    (document_whole x rest)

-- Nothing of a whole stream is held back.
pub stream_written : (t : Stream) → written (stream_events t) ≡ length (stream_events t)
stream_written t = grind (arith, documents_whole, length-append)
