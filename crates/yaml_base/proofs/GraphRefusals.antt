-- Of the events of a graph none is refused but for an empty tag or too great a depth.
use Rattle.yaml_base.proofs.Common.{suc, zero, ℕ, ◌+◌, ◌/◌, ◌<◌, if◌then◌else◌, ◌==◌, is_none, unwrap_or, option_map, option_and_then, Option, None}
use Rattle.yaml_base.proofs.Common.{Some, length, replicate, Bool, false, true, ◌||◌, List, [], ◌++◌, ◌∷◌, ◌⊎◌, refl, ◌≡◌, eq-eqb, append_assoc}
use Rattle.yaml_base.proofs.Common.{inl, inr, ap, subst, sym, ◌∙◌, arith, or-true, nat_tests, list_all-append, digit_glyph, digits_onto, filter_map, list_all}
use Rattle.yaml_base.proofs.Common.{position, option_or, Text, is_alpha, DocumentStart, Event, stream_start, stream_end, document_start, document_end, alias}
use Rattle.yaml_base.proofs.Common.{sequence_end, mapping_end, Stream, stream_events, Partial, after_stream, partial_of, some_if, name_or_tag_fault}
use Rattle.yaml_base.proofs.Common.{content_fault, expected, place_fault, refusal_at, refusal, name_fault, anchor_fault, alias_fault, tag_fault, Held}
use Rattle.yaml_base.proofs.Common.{scalar_held, sequence_held, mapping_held, GraphNode, Graph, node_numbered, Step, enters, leaves, meets_again}
use Rattle.yaml_base.proofs.Common.{node_met_again, shared_nodes, numbered_name, anchor_of, opening_event_of, opening_events, closing_event_of, closing_events}
use Rattle.yaml_base.{proofs.Common.step_events, proofs.Common.document_event_list, proofs.Accepted.pushed_next, proofs.Completions.prefix_is_partial}
use Rattle.yaml_base.{proofs.SharedNodes.has, proofs.SharedNodes.shared_named, proofs.Trees.stream_pushed, proofs.Twins.IsIn, proofs.Twins.in_either}
use Rattle.yaml_base.{specs.declared.errors.yaml_error_t.yaml_error_t, specs.graphs.Meetings.graph_steps, specs.graphs.Meetings.decimal_digits}
use Rattle.yaml_base.specs.declared.errors.yaml_error_t.TheVariants.{AnchorAlphabet, AnchorEmpty, TagEmpty, TooDeep}
use Rattle.std.specs.Prelude.{flat_map}

-- ---- events of a stream

-- an event has no fault of its own but an empty tag
pub record IsWritable (event : Event) : Type 0 where
  pub named : (error : yaml_error_t) → name_or_tag_fault true event ≡ Some error → error ≡ TagEmpty
  pub content : content_fault true event ≡ None

first_fault : (own place content depth : Option yaml_error_t) (error : yaml_error_t) → place ≡ None → content ≡ None
    → option_or own (option_or place (option_or content depth)) ≡ Some error → (own ≡ Some error) ⊎ (depth ≡ Some error)
first_fault None None None depth error stands sound is = inr is
first_fault (Some fault) place content depth error stands sound is = inl is
first_fault None _ _ depth error stands sound is = cc

only_depth : (deep : Bool) (error : yaml_error_t) → some_if deep TooDeep ≡ Some error → error ≡ TooDeep
only_depth deep error is = grind (arith, nat_tests)

stands : (pushed : Option Partial) (after : Partial) (fault : yaml_error_t) → option_and_then (λ next. Some next) pushed ≡ Some after
    → some_if (is_none pushed) fault ≡ None
stands pushed after fault is = grind (arith, nat_tests)

-- an event of a stream is refused for its tag or its depth
pub refused_so : (stream : Stream) (prefix : List Event) (event : Event) (later : List Event) (error : yaml_error_t)
    → prefix ++ event ∷ later ≡ stream_events stream → IsWritable event → refusal true prefix event ≡ Some error
    → (error ≡ TagEmpty) ⊎ (error ≡ TooDeep)
refused_so stream prefix event later error parts writable refused =
    let whole : partial_of (prefix ++ event ∷ later) ≡ Some (after_stream stream) = ap partial_of parts ∙ stream_pushed stream in
    let before = prefix_is_partial prefix _ _ whole in
    let after = prefix_is_partial (prefix ++ event ∷ []) later (after_stream stream) (ap partial_of (append_assoc prefix (event ∷ []) later) ∙ whole) in
    let at : refusal_at true before.0 event ≡ Some error =
    sym (ap (option_and_then (λ partial. refusal_at true partial event)) before.1) ∙ refused in
    let placed : place_fault before.0 event ≡ None =
    stands _ after.0 (expected before.0) (sym (pushed_next prefix event before.0 before.1) ∙ after.1) in
    elim (first_fault _ _ _ _ error placed writable.content at) as (λ _. (error ≡ TagEmpty) ⊎ (error ≡ TooDeep)) [
      | inl own ↦ inl (writable.named error own)
      | inr depth ↦ inr (only_depth _ error depth)
    ]

-- ---- names

digit_alpha : (digit : ℕ) → digit < 10 → is_alpha (digit_glyph false digit) ≡ true
digit_alpha digit small = grind (arith, nat_tests, small)

digits_alpha : (room number : ℕ) (rest : List ℕ) → list_all is_alpha rest ≡ true → list_all is_alpha (digits_onto room 10 false number rest) ≡ true
digits_alpha zero number rest all = all
digits_alpha (suc room) number rest all = grind (arith, nat_tests, digit_alpha, digits_alpha room (number / 10))

zeros_alpha : (count : ℕ) → list_all is_alpha (replicate count 0x30) ≡ true
zeros_alpha zero = refl
zeros_alpha (suc count) = zeros_alpha count

name_alpha : (number : ℕ) → list_all is_alpha (numbered_name number) ≡ true
unfolding decimal_digits
name_alpha number = grind (arith, nat_tests, list_all-append, zeros_alpha, digits_alpha)

no_name_fault : (if_empty if_other : yaml_error_t) (number : ℕ) → name_fault if_empty if_other (numbered_name number) ≡ None
no_name_fault if_empty if_other number =
    ap (λ (b : Bool). if b then None else Some if_other) (name_alpha number)

anchor_stands : (walk : List Step) (number : ℕ) → option_and_then anchor_fault (anchor_of walk number) ≡ None
anchor_stands walk number = by (position (λ other. other == number) (shared_nodes walk))
  where
    by : (found : Option ℕ) → option_and_then anchor_fault (option_map (λ place. numbered_name (place + 1)) found) ≡ None
    by None = refl
    by (Some place) = no_name_fault AnchorEmpty AnchorAlphabet (place + 1)

alias_stands : (walk : List Step) (number : ℕ) (name : Text) → anchor_of walk number ≡ Some name → alias_fault (unwrap_or (anchor_of walk number) []) ≡ None
alias_stands walk number name is = grind (arith, no_name_fault)

-- ---- the events of a graph

only_tag : (tag : Text) (anchored : Option yaml_error_t) (error : yaml_error_t) → anchored ≡ None → option_or anchored (tag_fault tag) ≡ Some error
    → error ≡ TagEmpty
only_tag tag anchored error h h2 = grind (arith, nat_tests)

prefix_writable : (anchor : Option Text) (tag : Text) (held : Held) → option_and_then anchor_fault anchor ≡ None
    → IsWritable (opening_event_of anchor tag held)
prefix_writable anchor tag held none =
    record { named = λ error is. only_tag tag (option_and_then anchor_fault anchor) error none (grind (arith, is)); content = grind (arith) }

-- each of some events
abbrev AreWritable : List Event → Type 0
AreWritable events = (event : Event) → IsIn event events → IsWritable event

one_writable : (event : Event) → IsWritable event → AreWritable (event ∷ [])
one_writable event writable other (inl is) = subst IsWritable is writable
one_writable event writable other (inr none) = absurd none

both_writable : (some others : List Event) → AreWritable some → AreWritable others → AreWritable (some ++ others)
both_writable some others all more event within =
    elim (in_either event some others within) as (λ _. IsWritable event) [ inl earlier ↦ all event earlier | inr later ↦ more event later ]

prefixes_writable : (anchor : Option Text) (found : Option GraphNode) → option_and_then anchor_fault anchor ≡ None → AreWritable (opening_events anchor found)
prefixes_writable anchor None none event within = absurd within
prefixes_writable anchor (Some node) none event within =
    one_writable (opening_event_of anchor node.tag node.held) (prefix_writable anchor node.tag node.held none) event within

held_writable : (held : Held) → AreWritable (closing_event_of held)
held_writable (scalar_held value style) event within = absurd within
held_writable (sequence_held items style) event within =
    one_writable sequence_end (record { named = λ error is. cc; content = refl }) event within
held_writable (mapping_held pairs style) event within =
    one_writable mapping_end (record { named = λ error is. cc; content = refl }) event within

endings_writable : (found : Option GraphNode) → AreWritable (closing_events found)
endings_writable None event within = absurd within
endings_writable (Some node) event within = held_writable node.held event within

again_has : (number : ℕ) (walk : List Step) → IsIn (meets_again number) walk → has number (filter_map node_met_again walk) ≡ true
again_has number [] within = absurd within
again_has number (meets_again other ∷ walk) (inl is) = grind (arith, eq-eqb)
again_has number (enters other ∷ walk) (inr later) = again_has number walk later
again_has number (leaves other ∷ walk) (inr later) = again_has number walk later
again_has number (meets_again other ∷ walk) (inr later) =
    ap (λ (b : Bool). other == number || b) (again_has number walk later) ∙ or-true (other == number)
again_has number _ (inl is) = cc

step_writable : (graph : Graph) (walk : List Step) (step : Step) → IsIn step walk → AreWritable (step_events graph walk step)
step_writable graph walk (enters number) within = prefixes_writable (anchor_of walk number) (node_numbered graph number) (anchor_stands walk number)
step_writable graph walk (leaves number) within = endings_writable (node_numbered graph number)
step_writable graph walk (meets_again number) within =
    let name = shared_named walk number (again_has number walk within) in
    let stands_so = alias_stands walk number name.0 name.1 in
    one_writable (alias (unwrap_or (anchor_of walk number) []))
    (record { named = λ error is. let no : None ≡ Some error = sym stands_so ∙ is in cc; content = refl })

walk_writable : (graph : Graph) (walk part : List Step) → ((step : Step) → IsIn step part → IsIn step walk)
    → AreWritable (flat_map (step_events graph walk) part)
walk_writable graph walk [] inside event within = absurd within
walk_writable graph walk (step ∷ part) inside event within =
    both_writable (step_events graph walk step) (flat_map (step_events graph walk) part) (step_writable graph walk step (inside step (inl refl)))
    (walk_writable graph walk part (λ other there. inside other (inr there))) event within

-- those of a document without version and directives
pub document_writable : (graph : Graph) → graph.start.version ≡ None → graph.start.directives ≡ [] → AreWritable (document_event_list graph)
document_writable graph none no_directives = by (length graph.nodes == 0)
  where
    start_writable : (start : DocumentStart) → start.version ≡ None → start.directives ≡ [] → IsWritable (document_start start)
    start_writable start version directives =
        record {
          named = λ error is. cc;
          content =
              ap (λ v. content_fault true (document_start (record { version = v; directives = start.directives; implicit = start.implicit }))) version
              ∙ ap (λ d. content_fault true (document_start (record { version = None; directives = d; implicit = start.implicit }))) directives;
        }

    all_writable : AreWritable
        (document_start graph.start ∷ (flat_map (step_events graph (graph_steps graph)) (graph_steps graph) ++ document_end graph.end_implicit ∷ []))
    all_writable =
        both_writable (document_start graph.start ∷ [])
        (flat_map (step_events graph (graph_steps graph)) (graph_steps graph) ++ document_end graph.end_implicit ∷ [])
        (one_writable _ (start_writable graph.start none no_directives)) (both_writable _ _
        (walk_writable graph (graph_steps graph) (graph_steps graph) (λ step within. within))
        (one_writable (document_end graph.end_implicit) (record { named = λ error is. cc; content = refl })))

    by : (empty : Bool) → AreWritable
        (if empty then [] else
        document_start graph.start ∷ (flat_map (step_events graph (graph_steps graph)) (graph_steps graph) ++ document_end graph.end_implicit ∷ []))
    by true event within = absurd within
    by false event within = all_writable event within

-- a stream of such a document
pub stream_writable : (graph : Graph) → graph.start.version ≡ None → graph.start.directives ≡ []
    → AreWritable (stream_start None ∷ (document_event_list graph ++ stream_end ∷ []))
stream_writable graph none no_directives =
    both_writable (stream_start None ∷ []) (document_event_list graph ++ stream_end ∷ [])
    (one_writable (stream_start None) (record { named = λ error is. cc; content = refl }))
    (both_writable (document_event_list graph) (stream_end ∷ []) (document_writable graph none no_directives)
    (one_writable stream_end (record { named = λ error is. cc; content = refl })))
