-- The events of a JSON value that isn't nested too deep are an accepted list.
use Rattle.yaml_json.proofs.Common.{suc, ℕ, ◌+◌, ◌≤◌, Bool, true, List, [], ◌++◌, ◌∷◌, ◌≡◌, refl, append_assoc, ap, subst, sym, ◌∙◌, arith, le-max_left}
use Rattle.yaml_json.proofs.Common.{le-max_right, chars, Json, null, boolean, number, string, Items, array, Members, object, no_items, most_open, IsAccepted}
use Rattle.yaml_json.proofs.Common.{Stream, is_json_integer, yaml_number, bool_text, null_content, bool_content, number_content, text_content, collection_in}
use Rattle.yaml_json.proofs.Common.{json_events, items_events, members_events, number_in, opening, closing, item, no_members, member, Event, scalar}
use Rattle.yaml_json.proofs.Common.{sequence_start, sequence_end, mapping_start, mapping_end}
use Rattle.yaml_base.proofs.Common.{stream_events}
use Rattle.yaml_emitter.proofs.AcceptedLists.{sound, both_sound, Stays, few_open}
use Rattle.yaml_writer.proofs.{WhyFailed.NeverPasses, DocumentsOf.stream_flat, DocumentsOf.stream_of as one_stream}
use Rattle.yaml_writer.proofs.Accepting.{bool_sound, closing_stays, first_sound, mapping_sound, null_sound, number_sound, opening_stays, sequence_sound}
use Rattle.yaml_writer.proofs.Accepting.{stream_of_sound, text_sound}
use Rattle.yaml_json.proofs.{Trees.json_node, Trees.node_flat, Common.depth as nesting}
use Rattle.json.specs.Tree.{items_depth as items_nesting, members_depth as members_nesting}

-- the events of the stream of a value
abbrev pub stream_of : (canonical in_flow : Bool) → Json → List Event
stream_of canonical in_flow json = opening ++ json_events canonical in_flow json ++ closing

-- ---- each event is in order

mutual
  value_sound : (json : Json) (canonical in_flow : Bool) → sound canonical (json_events canonical in_flow json) ≡ true
  value_sound null canonical in_flow = first_sound canonical (scalar (null_content canonical)) [] (null_sound canonical) refl
  value_sound (boolean flag) canonical in_flow = first_sound canonical (scalar (bool_content canonical flag)) [] (bool_sound canonical (bool_text flag)) refl
  value_sound (number text) canonical in_flow =
      let parts = number_in text in
      first_sound canonical (scalar (number_content canonical parts)) [] (number_sound canonical (is_json_integer parts) (yaml_number parts)) refl
  value_sound (string text) canonical in_flow = first_sound canonical (scalar (text_content (chars text))) [] (text_sound canonical (chars text)) refl
  value_sound (array inner) canonical in_flow =
      first_sound canonical (sequence_start (collection_in in_flow)) (items_events canonical in_flow inner ++ sequence_end ∷ [])
      (sequence_sound canonical in_flow)
      (both_sound canonical (items_events canonical in_flow inner) (sequence_end ∷ []) (items_sound inner canonical in_flow) refl)
  value_sound (object inner) canonical in_flow =
      first_sound canonical (mapping_start (collection_in in_flow)) (members_events canonical in_flow inner ++ mapping_end ∷ [])
      (mapping_sound canonical in_flow)
      (both_sound canonical (members_events canonical in_flow inner) (mapping_end ∷ []) (members_sound inner canonical in_flow) refl)

  items_sound : (inner : Items) (canonical in_flow : Bool) → sound canonical (items_events canonical in_flow inner) ≡ true
  items_sound no_items canonical in_flow = refl
  items_sound (item json more) canonical in_flow =
      both_sound canonical (json_events canonical in_flow json) (items_events canonical in_flow more) (value_sound json canonical in_flow)
      (items_sound more canonical in_flow)

  members_sound : (inner : Members) (canonical in_flow : Bool) → sound canonical (members_events canonical in_flow inner) ≡ true
  members_sound no_members canonical in_flow = refl
  members_sound (member key json more) canonical in_flow =
      first_sound canonical (scalar (text_content (chars key))) (json_events canonical in_flow json ++ members_events canonical in_flow more)
      (text_sound canonical (chars key)) (both_sound canonical (json_events canonical in_flow json) (members_events canonical in_flow more)
      (value_sound json canonical in_flow) (members_sound more canonical in_flow))

pub stream_sound : (canonical in_flow : Bool) (json : Json) → sound canonical (stream_of canonical in_flow json) ≡ true
stream_sound canonical in_flow json = stream_of_sound canonical (json_events canonical in_flow json) (value_sound json canonical in_flow)

-- ---- how many collections are open

mutual
  value_stays : (json : Json) (canonical in_flow : Bool) (most now : ℕ) (rest : List Event) → now + nesting json ≤ most → Stays most now rest
      → Stays most now (json_events canonical in_flow json ++ rest)
  value_stays (array inner) canonical in_flow most now rest fits later =
      let first : now ≤ most = omega (arith, fits) in
      let inside : suc now + items_nesting inner ≤ most = omega (arith, fits) in
      let second : suc now ≤ most = omega (arith, fits) in (
        first,
        subst (Stays most (suc now)) (sym (append_assoc (items_events canonical in_flow inner) (sequence_end ∷ []) rest))
            (items_stay inner canonical in_flow most (suc now) (sequence_end ∷ rest) inside (second, later)),
      )
  value_stays (object inner) canonical in_flow most now rest fits later =
      let first : now ≤ most = omega (arith, fits) in
      let inside : suc now + members_nesting inner ≤ most = omega (arith, fits) in
      let second : suc now ≤ most = omega (arith, fits) in (
        first,
        subst (Stays most (suc now)) (sym (append_assoc (members_events canonical in_flow inner) (mapping_end ∷ []) rest))
            (members_stay inner canonical in_flow most (suc now) (mapping_end ∷ rest) inside (second, later)),
      )
  value_stays _ canonical in_flow most now rest fits later = (omega (arith, fits), later)

  items_stay : (inner : Items) (canonical in_flow : Bool) (most now : ℕ) (rest : List Event) → now + items_nesting inner ≤ most → Stays most now rest
      → Stays most now (items_events canonical in_flow inner ++ rest)
  items_stay no_items canonical in_flow most now rest fits later = later
  items_stay (item json more) canonical in_flow most now rest fits later =
      let left = le-max_left (nesting json) (items_nesting more) in
      let right = le-max_right (nesting json) (items_nesting more) in
      subst (Stays most now) (sym (append_assoc (json_events canonical in_flow json) (items_events canonical in_flow more) rest))
      (value_stays json canonical in_flow most now (items_events canonical in_flow more ++ rest) (omega (arith, fits, left))
      (items_stay more canonical in_flow most now rest (omega (arith, fits, right)) later))

  members_stay : (inner : Members) (canonical in_flow : Bool) (most now : ℕ) (rest : List Event) → now + members_nesting inner ≤ most → Stays most now rest
      → Stays most now (members_events canonical in_flow inner ++ rest)
  members_stay no_members canonical in_flow most now rest fits later = later
  members_stay (member key json more) canonical in_flow most now rest fits later =
      let left = le-max_left (nesting json) (members_nesting more) in
      let right = le-max_right (nesting json) (members_nesting more) in
      let first : now ≤ most = omega (arith, fits) in (
        first,
        subst (Stays most now) (sym (append_assoc (json_events canonical in_flow json) (members_events canonical in_flow more) rest))
            (value_stays json canonical in_flow most now (members_events canonical in_flow more ++ rest) (omega (arith, fits, left))
            (members_stay more canonical in_flow most now rest (omega (arith, fits, right)) later)),
      )

-- no prefix leaves more open than the value nests
pub never_passes : (canonical in_flow : Bool) (json : Json) (most : ℕ) → nesting json ≤ most → NeverPasses most (stream_of canonical in_flow json)
never_passes canonical in_flow json most fits = λ prefix rest is.
    let fits_whole : 0 + nesting json ≤ most = omega (arith, fits) in
    few_open most (stream_of canonical in_flow json) prefix rest
    (opening_stays most (json_events canonical in_flow json ++ closing) (value_stays json canonical in_flow most 0 closing fits_whole (closing_stays most))) is

-- ---- all

abbrev pub tree_of : (canonical in_flow : Bool) → Json → Stream
tree_of canonical in_flow json = one_stream (json_node json canonical in_flow ∷ [])

pub tree_flat : (canonical in_flow : Bool) (json : Json) → stream_events (tree_of canonical in_flow json) ≡ stream_of canonical in_flow json
tree_flat canonical in_flow json =
    stream_flat (json_node json canonical in_flow) [] ∙ ap (λ (events : List Event). opening ++ events ++ closing) (node_flat json canonical in_flow)

pub json_accepted : (canonical in_flow : Bool) (json : Json) → nesting json ≤ most_open → IsAccepted canonical (stream_of canonical in_flow json)
json_accepted canonical in_flow json fits =
    record {
      stream = tree_of canonical in_flow json;
      is_stream = tree_flat canonical in_flow json;
      sound = stream_sound canonical in_flow json;
      shallow = never_passes canonical in_flow json most_open fits;
    }
