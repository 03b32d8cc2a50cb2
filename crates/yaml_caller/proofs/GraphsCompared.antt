-- Two graphs are isomorphic exactly if their bytes are the same.
use Rattle.yaml_caller.proofs.Common.{ℕ, ◌<◌, ◌==◌, Decides, is_none, bytes_eq, None, Result, Err, Ok, length, Bool, false, true, List, [], map, ◌++◌, ◌∷◌, ◌⊎◌}
use Rattle.yaml_caller.proofs.Common.{refl, ◌≡◌, append_assoc, inl, inr, ap, subst, sym, ◌∙◌, arith, bytes_eq-Decides, GraphsRead, State, bare, GraphNode}
use Rattle.yaml_caller.proofs.Common.{Graph, IsWholeGraph, typed_settings, graph_events, IsRefused}
use Rattle.yaml_base.proofs.Common.{suc, zero, option_map, eqb-true, ne_eqb, false≢true, label_at, Isomorphic, node_numbered, numbers_in, is_whole, label_of}
use Rattle.yaml_base.proofs.Common.{IsReached, first_reached, child_reached}
use Rattle.std.specs.Prelude.{slice_get}
use Rattle.yaml_base.{proofs.ContentsUnfold.dumped_stream, proofs.GraphRefusals.refused_so, proofs.GraphRefusals.stream_writable, proofs.Twins.IsIn}
use Rattle.yaml_base.{proofs.Twins.in_right, specs.Settings.largest_usize, specs.declared.errors.yaml_error_t.yaml_error_t}
use Rattle.yaml_base.{specs.graphs.Isomorphic.IsWrittenAlike}
use Rattle.yaml_base.specs.declared.errors.yaml_error_t.TheVariants.{Memory, TagEmpty, TooDeep, WriteError}
use Rattle.yaml_caller.proofs.DumpedAlone.{one_dumped}
use Rattle.yaml_caller.specs.{Alone.DumpsAlone, GraphBytes.WritesGraph}
use Rattle.yaml_dump.proofs.EqualBytesLemmas.{one_reading, equal_graphs_give_bytes}

-- ---- a graph and its nodes alone

bare_reached : (graph : Graph) {number : ℕ} → IsReached graph number → IsReached (bare graph) number
bare_reached graph first_reached = first_reached
bare_reached graph (child_reached {number = parent} {child = child} reached within) = child_reached (bare_reached graph reached) within

of_bare : (graph : Graph) {number : ℕ} → IsReached (bare graph) number → IsReached graph number
of_bare graph first_reached = first_reached
of_bare graph (child_reached {number = parent} {child = child} reached within) = child_reached (of_bare graph reached) within

from_bare : (first second : Graph) → Isomorphic (bare first) (bare second) → Isomorphic first second
from_bare first second iso =
    record {
      partner = iso.partner;
      back = iso.back;
      root = iso.root;
      labels = λ number reached. iso.labels number (bare_reached first reached);
      kept = λ number reached. iso.kept number (bare_reached first reached);
      one_to_one = λ number reached. iso.one_to_one number (bare_reached first reached);
      onto = λ number reached. iso.onto number (bare_reached second reached);
    }

to_bare : (first second : Graph) → Isomorphic first second → Isomorphic (bare first) (bare second)
to_bare first second iso =
    record {
      partner = iso.partner;
      back = iso.back;
      root = iso.root;
      labels = λ number reached. iso.labels number (of_bare first reached);
      kept = λ number reached. iso.kept number (of_bare first reached);
      one_to_one = λ number reached. iso.one_to_one number (of_bare first reached);
      onto = λ number reached. iso.onto number (of_bare second reached);
    }

-- ---- by their bytes

pub graphs_decide : (first second : Graph) (first_bytes second_bytes : List ℕ) (answer : Bool) → IsWholeGraph (bare first) → IsWholeGraph (bare second)
    → WritesGraph first first_bytes → WritesGraph second second_bytes → answer ≡ bytes_eq first_bytes second_bytes
    → Decides answer (Isomorphic first second)
graphs_decide first second first_bytes second_bytes answer is also writes writes_also same = (
  λ yes.
      let equal = (bytes_eq-Decides first_bytes second_bytes).0 (sym same ∙ yes) in
      from_bare first second
      (one_reading false (bare first ∷ []) (bare second ∷ []) first_bytes writes.reads
      (subst (λ bytes. GraphsRead false (bare second ∷ []) bytes) (sym equal) writes_also.reads)).0.graphs,
  λ iso.
      let alike : IsWrittenAlike (bare first) (bare second) =
      record { says = record { version = refl; directives = refl; graphs = to_bare first second iso }; end_implicit = refl } in
      let outputs = equal_graphs_give_bytes typed_settings (bare first ∷ []) (bare second ∷ []) (graph_events (bare first)) (graph_events (bare second)) refl
      (one_dumped (bare first) is) (one_dumped (bare second) also) refl (alike, tt) in
      same ∙ (bytes_eq-Decides first_bytes second_bytes).1 (writes.output ∙ outputs ∙ sym writes_also.output),
)

-- ---- without nodes

no_nodes : (nodes : List GraphNode) → (length nodes == 0) ≡ true → nodes ≡ []
no_nodes [] none = refl
no_nodes (node ∷ nodes) none = absurd (omega (arith, eqb-true (length (node ∷ nodes)) 0 none))

none_numbered : (graph : Graph) (number : ℕ) → graph.nodes ≡ [] → node_numbered graph number ≡ None
none_numbered graph zero none = refl
none_numbered graph (suc before) none = ap (λ (nodes : List GraphNode). slice_get nodes before) none

empty_isomorphic : (first second : Graph) → first.nodes ≡ [] → second.nodes ≡ [] → Isomorphic first second
empty_isomorphic first second none also =
    record {
      partner = λ number. number;
      back = λ number. number;
      root = refl;
      labels = λ number reached.
          ap (option_map (label_of false)) (none_numbered second number also ∙ sym (none_numbered first number none));
      kept = λ number reached.
          ap numbers_in (none_numbered second number also) ∙ sym (ap (λ found. map (λ (n : ℕ). n) (numbers_in found)) (none_numbered first number none));
      one_to_one = λ number reached. refl;
      onto = λ number reached. refl;
    }

root_none : (nodes : List GraphNode) → is_none (option_map (label_of false) (slice_get nodes 0)) ≡ (length nodes == 0)
root_none [] = refl
root_none (node ∷ nodes) = sym (ne_eqb (length (node ∷ nodes)) 0 (λ none. omega (arith, none)))

both_empty : (first second : Graph) → Isomorphic first second → (length first.nodes == 0) ≡ (length second.nodes == 0)
both_empty first second iso =
    sym (root_none first.nodes)
    ∙ ap is_none (sym (iso.labels 1 first_reached) ∙ ap (label_at second) iso.root)
    ∙ root_none second.nodes

pub first_empty : (first second : Graph) (answer : Bool) → (length first.nodes == 0) ≡ true → answer ≡ (length second.nodes == 0)
    → Decides answer (Isomorphic first second)
first_empty first second answer none is = (
  λ yes. empty_isomorphic first second (no_nodes first.nodes none) (no_nodes second.nodes (sym is ∙ yes)),
  λ iso. is ∙ sym (both_empty first second iso) ∙ none,
)

pub second_empty : (first second : Graph) → (length first.nodes == 0) ≡ false → (length second.nodes == 0) ≡ true → Decides false (Isomorphic first second)
second_empty first second some none = (λ yes. absurd (false≢true yes), λ iso. sym some ∙ both_empty first second iso ∙ none)

-- only an empty tag and too great a depth are refused
pub refused_named : (graph : Graph) (error : yaml_error_t) → IsWholeGraph (bare graph) → IsRefused graph error → (error ≡ TagEmpty) ⊎ (error ≡ TooDeep)
refused_named graph error is refused =
    let dumped = dumped_stream (bare graph ∷ []) (graph_events (bare graph)) (one_dumped (bare graph) is) in
    refused_so dumped.stream refused.prefix refused.event refused.later error (refused.parts ∙ sym dumped.is)
    (stream_writable (bare graph) refl refl refused.event
    (subst (λ events. IsIn refused.event events) refused.parts
    (in_right refused.event refused.prefix (refused.event ∷ refused.later) (inl refl))))
    refused.refusal

-- ---- a document and its nodes alone

pub is_document : (graph : Graph) → is_whole graph ≡ true → (length graph.nodes == 0) ≡ false → IsWholeGraph (bare graph)
is_document graph whole some = record { whole = whole; has_nodes = some }

-- the result of a dump of its nodes
dump_is : (graph made : Graph) (after : State) (answer result : Result (Unit {0}) yaml_error_t) → made ≡ bare graph → answer ≡ result
    → DumpsAlone typed_settings made answer after → DumpsAlone typed_settings (bare graph) result after
dump_is graph made after answer result is same dumps =
    subst (λ (g : Graph). DumpsAlone typed_settings g result after) is (subst (λ a. DumpsAlone typed_settings made a after) same dumps)

-- the bytes of one that went well
pub dump_writes : (graph made : Graph) (bytes : List ℕ) (after : State) (answer : Result (Unit {0}) yaml_error_t) (done : Unit {0})
    → made ≡ bare graph → answer ≡ Ok done → bytes ≡ after.page.output → DumpsAlone typed_settings made answer after → WritesGraph graph bytes
dump_writes graph made bytes after answer done is ok same dumps =
    let dumped = dump_is graph made after answer (Ok done) is ok dumps in
    record { output = same ∙ dumped.output_is; reads = subst (GraphsRead false (bare graph ∷ [])) (sym same) (dumped.reads refl) }

-- why one failed, if its output is less than full
pub dump_refused : (graph made : Graph) (error : yaml_error_t) (bytes : List ℕ) (after : State) (answer : Result (Unit {0}) yaml_error_t)
    → made ≡ bare graph → answer ≡ Err error → bytes ≡ after.page.output → length bytes < largest_usize → DumpsAlone typed_settings made answer after
    → (error ≡ Memory) ⊎ IsRefused graph error
dump_refused graph made error bytes after answer is failed same few dumps = by error (dump_is graph made after answer (Err error) is failed dumps)
  where
    by : (error : yaml_error_t) → DumpsAlone typed_settings (bare graph) (Err error) after → (error ≡ Memory) ⊎ IsRefused graph error
    by error (inl memory) = inl memory
    by WriteError (inr fails) = absurd (omega (arith, few, ap length same, (fails.promised.full fails.is).full))
    by Memory (inr fails) = inl refl
    by error (inr fails) =
        let at = fails.promised.refused error fails.is tt in
        inr
        (record {
          prefix = at.prefix;
          event = at.event;
          later = at.later ++ fails.rest;
          parts = sym (append_assoc at.prefix (at.event ∷ at.later) fails.rest) ∙ ap (λ given. given ++ fails.rest) at.parts ∙ fails.parts;
          refusal = at.refusal;
        })

-- a refusal's name
pub named_so : (graph : Graph) (error : yaml_error_t) → IsWholeGraph (bare graph) → (error ≡ Memory) ⊎ IsRefused graph error
    → (error ≡ Memory) ⊎ ((error ≡ TagEmpty) ⊎ (error ≡ TooDeep))
named_so graph error is (inl memory) = inl memory
named_so graph error is (inr refused) = inr (refused_named graph error is refused)

pub first_refused : (first second : Graph) (error : yaml_error_t) → (error ≡ Memory) ⊎ IsRefused first error
    → (error ≡ Memory) ⊎ (IsRefused first error ⊎ IsRefused second error)
first_refused first second error (inl memory) = inl memory
first_refused first second error (inr refused) = inr (inl refused)

pub second_refused : (first second : Graph) (error : yaml_error_t) → (error ≡ Memory) ⊎ IsRefused second error
    → (error ≡ Memory) ⊎ (IsRefused first error ⊎ IsRefused second error)
second_refused first second error (inl memory) = inl memory
second_refused first second error (inr refused) = inr (inr refused)
