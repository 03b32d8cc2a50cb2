-- Of the events of a stream, each of which is in order, none is refused but for its depth.
use Rattle.yaml_base.proofs.Common.{◌≤◌, is_none, unwrap_or, option_and_then, Option, None, Some, length, Bool, false, not, true, ◌&&◌, List, [], ◌++◌, ◌∷◌, ap}
use Rattle.yaml_base.proofs.Common.{refl, ◌≡◌, append_assoc, sym, ◌∙◌, and_parts, list_all-append, list_all, Event, Stream, after_stream, partial_of, most_open}
use Rattle.yaml_base.proofs.Common.{begins_collection, open_count, is_sound, option_or, nat_lt, Partial, before_stream, push, pushed, some_if, content_fault}
use Rattle.yaml_base.proofs.Common.{name_or_tag_fault, expected, place_fault, open_levels, depth_fault, refusal_at, refusal, stream_events}
use Rattle.yaml_base.{proofs.Accepted.begins_from_stands, proofs.Trees.stream_pushed}
use Rattle.yaml_base.{proofs.Completions.pushed-append, proofs.Completions.prefix_is_partial, proofs.NoFaults.neither, proofs.NoFaults.is_none_none}
use Rattle.yaml_base.specs.Refusal.{IsAcceptedPrefix}
use Rattle.yaml_base.{specs.declared.errors.yaml_error_t.yaml_error_t, specs.declared.errors.yaml_error_t.TheVariants.TooDeep}

-- ---- a fault that is returned is that of the depth, if there is no other

last_fault : (name place content last : Option yaml_error_t) (error : yaml_error_t) → name ≡ None → place ≡ None → content ≡ None
    → option_or name (option_or place (option_or content last)) ≡ Some error → last ≡ Some error
last_fault name place content last error no_name no_place no_content is =
    sym (ap (λ (o : Option yaml_error_t). option_or o (option_or place (option_or content last))) no_name
    ∙ ap (λ (o : Option yaml_error_t). option_or o (option_or content last)) no_place
    ∙ ap (λ (o : Option yaml_error_t). option_or o last) no_content)
    ∙ is

depth_returned : (wrong : Bool) (error : yaml_error_t) → some_if wrong TooDeep ≡ Some error → error ≡ TooDeep
depth_returned true error is = sym (ap (λ (o : Option yaml_error_t). unwrap_or o TooDeep) is)
depth_returned false error is = cc

same_next : (o : Option Partial) → option_and_then (λ next. Some next) o ≡ o
same_next None = refl
same_next (Some p) = refl

module _ (canonical : Bool) (all : List Event) (tree : Stream) (flat : stream_events tree ≡ all) (in_order : list_all (is_sound canonical) all ≡ true) where
  -- ---- a prefix begins a stream

  pushes : (prefix rest : List Event) → prefix ++ rest ≡ all → partial_of (prefix ++ rest) ≡ Some (after_stream tree)
  pushes prefix rest parts = ap partial_of (parts ∙ sym flat) ∙ stream_pushed tree

  both_in_order : (prefix rest : List Event) → prefix ++ rest ≡ all
      → (list_all (is_sound canonical) prefix ≡ true) × (list_all (is_sound canonical) rest ≡ true)
  both_in_order prefix rest parts =
      and_parts (list_all (is_sound canonical) prefix) (list_all (is_sound canonical) rest)
      (sym (list_all-append (is_sound canonical) prefix rest) ∙ ap (list_all (is_sound canonical)) parts ∙ in_order)

  -- An accepted one, if it doesn't leave too many collections open.
  pub begins_if_shallow : (prefix rest : List Event) → prefix ++ rest ≡ all
      → ((first later : List Event) → first ++ later ≡ prefix → open_count first ≤ most_open) → IsAcceptedPrefix canonical prefix
  begins_if_shallow prefix rest parts shallow =
      let begun = prefix_is_partial prefix rest (after_stream tree) (pushes prefix rest parts) in
      begins_from_stands canonical prefix
      (record { partial = begun.0; is_partial = begun.1; sound = (both_in_order prefix rest parts).0; shallow = shallow })

  -- ---- an event that is refused

  module _ (prefix later : List Event) (event : Event) (parts : prefix ++ event ∷ later ≡ all) where
    with_event : (p : Partial) × (partial_of (prefix ++ event ∷ []) ≡ Some p)
    with_event =
        let cut = append_assoc prefix (event ∷ []) later ∙ parts in
        prefix_is_partial (prefix ++ event ∷ []) later (after_stream tree) (pushes (prefix ++ event ∷ []) later cut)

    before : (p : Partial) × (partial_of prefix ≡ Some p)
    before = prefix_is_partial prefix (event ∷ []) with_event.0 with_event.1

    pushed_after : push before.0 event ≡ Some with_event.0
    pushed_after =
        sym (same_next (push before.0 event))
        ∙ sym (ap (λ (o : Option Partial). option_and_then (λ q. pushed q (event ∷ [])) o) before.1)
        ∙ sym (pushed-append prefix (event ∷ []) before_stream) ∙ with_event.1

    event_in_order : is_sound canonical event ≡ true
    event_in_order = (and_parts (is_sound canonical event) (list_all (is_sound canonical) later) (both_in_order prefix (event ∷ later) parts).1).0

    pub refused_by_depth : (error : yaml_error_t) → refusal canonical prefix event ≡ Some error → error ≡ TooDeep
    refused_by_depth error refused =
        let p = before.0 in
        let none = neither (name_or_tag_fault canonical event) (content_fault canonical event)
        (is_none_none (option_or (name_or_tag_fault canonical event) (content_fault canonical event)) event_in_order) in
        let returned : refusal_at canonical p event ≡ Some error =
        sym (ap (λ (o : Option Partial). option_and_then (λ partial. refusal_at canonical partial event) o) before.1) ∙ refused in
        let no_place : place_fault p event ≡ None = ap (λ (o : Option Partial). some_if (is_none o) (expected p)) pushed_after in
        let last : depth_fault p event ≡ Some error =
        last_fault (name_or_tag_fault canonical event) (place_fault p event) (content_fault canonical event) (depth_fault p event) error
        none.0 no_place none.1 returned in
        let wrong = begins_collection event && not (nat_lt (length (open_levels p)) most_open) in
        depth_returned wrong error last
