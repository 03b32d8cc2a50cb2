-- Laws of the definitions that serve callers.
use Rattle.yaml_base.proofs.Common.{and_from, and_parts, or_from}
use Rattle.yaml_base.proofs.Common.{arith, ℕ, if◌then◌else◌, unwrap_or, option_map, Option, None, Some, Bool, false, true, ◌&&◌, ◌||◌, List, []}
use Rattle.yaml_base.proofs.Common.{◌++◌, ◌∷◌, refl, ◌≡◌, ap, sym, ◌∙◌, or_parts, Text, Cursor, Rendered, render_then, encode, cut, ScalarStyle, any_style}
use Rattle.yaml_base.proofs.Common.{TagDirective, Scalar, Collection, Event, stream_start, stream_end}
use Rattle.yaml_base.proofs.Common.{document_start, document_end, alias, scalar, sequence_start, sequence_end, mapping_start, mapping_end, scalar_tag}
use Rattle.yaml_base.proofs.Common.{Stream, stream_events, tree_of, first_standing, layout, Piece, Standing, RenderedPiece, piece_without_body}
use Rattle.yaml_base.proofs.Common.{render_properties, render_alias, render_separation, render_body, open_ended_after, choice_of, body_at}
use Rattle.yaml_base.proofs.Common.{Brackets, square, curly, render_end, Role, as_root, as_item, as_key, Place, is_key}
use Rattle.yaml_base.proofs.Common.{is_undented, is_simple_scalar, is_simple_collection, render_flow_place, render_place, settings_for, text_written}
use Rattle.yaml_base.proofs.Common.{bytes_written, list_layout, Encoding, Effective, effective, Frame, Stage, at_stream, at_document, at_node, at_document_end}
use Rattle.yaml_base.proofs.Common.{next_place, Stepped, leaf_step, start_step, step, ends_next, Steps, then_steps, steps}
use Rattle.yaml_base.proofs.Common.{begins_no_plain, holds_no_plain, read_plain, ChosenStyle}
use Rattle.yaml_base.{proofs.Common.nat_tests, proofs.Decoding.decode-encode, proofs.StepLaws.stream_steps, proofs.Trees.tree_of-stream_events}
use Rattle.yaml_base.{specs.Decode.decode, specs.Settings.escapes_separators, specs.Steps.end_step, specs.Steps.node_step}
use Rattle.yaml_base.specs.Layout.{scalar_piece}
use Rattle.yaml_base.specs.Laws.{TreeIsFound, IsPlainInside, PlainHoldsNoIndicator, LimitCuts, EncodingsAgree, BreaksAgree}
use Rattle.std.proofs.lemmas.List.{take-take}

pub tree_found : TreeIsFound
tree_found stream events is = ap tree_of (sym is) ∙ tree_of-stream_events stream

-- Plain texts.
then_false : (a b : Bool) → a ≡ true → a && b ≡ false → b ≡ false
then_false true b is h = h
then_false false b is h = cc

inside_here : (breaks12 flow : Bool) (before : Text) (c : ℕ) (rest : Text) → holds_no_plain breaks12 flow (before ++ c ∷ rest) ≡ false
    → IsPlainInside breaks12 flow c rest
inside_here breaks12 flow [] c rest h = grind (arith, or_parts, then_false)
inside_here breaks12 flow (x ∷ before) c rest h = inside_here breaks12 flow before c rest (or_parts _ _ h).1

read_if : (a b : Bool) (read value : Text) → (if a || b then None else Some read) ≡ Some value → b ≡ false
read_if a b read value h = grind (arith, nat_tests)

read_holds : (breaks12 flow : Bool) (c : ℕ) (rest value : Text) → read_plain breaks12 flow (c ∷ rest) ≡ Some value
    → holds_no_plain breaks12 flow (c ∷ rest) ≡ false
read_holds breaks12 flow c rest value h = read_if (begins_no_plain breaks12 (c ∷ rest)) (holds_no_plain breaks12 flow (c ∷ rest)) _ value h

pub plain_holds_no_indicator : PlainHoldsNoIndicator
plain_holds_no_indicator breaks12 flow [] c rest value h = inside_here breaks12 flow [] c rest (read_holds breaks12 flow c rest value h)
plain_holds_no_indicator breaks12 flow (x ∷ before) c rest value h =
    inside_here breaks12 flow (x ∷ before) c rest (read_holds breaks12 flow x (before ++ c ∷ rest) value h)

-- a scalar's piece after the text of its place, with its body
abbrev lead_after : Effective → List TagDirective → Place → ChosenStyle → Scalar → Rendered → Rendered
lead_after s directives place choice content placed =
    render_then
    (render_then placed (render_properties s.portable directives content.anchor (scalar_tag s.canonical content) choice.bare))
    (render_separation choice.style place.in_flow content.value)

abbrev scalar_made : Place → ChosenStyle → Scalar → ℕ → (lead body : Rendered) → RenderedPiece
scalar_made place choice content open_ended lead body =
    record {
      piece = record { lead = lead.text; body = Some (body_at place choice.style content.value body) };
      standing = record { cursor = body.cursor; open_ended = open_ended_after choice.style content.value open_ended };
    }

-- No layout depends on the encoding or the limit; it depends on the line breaks only by the characters that they make special.
module _ (s : Effective) (e : Encoding) (limit : ℕ) (breaks12 : Bool) (same : (breaks12 || s.portable) ≡ escapes_separators s) where
  abbrev other : Effective
  other = record s { encoding = e; limit = limit; breaks12 = breaks12 }

  flow_place_other : (role : Role) (simple : Bool) (column : Option ℕ) (cursor : Cursor)
      → render_flow_place other role simple column cursor ≡ render_flow_place s role simple column cursor
  flow_place_other as_root simple column cursor = refl
  flow_place_other _ simple column cursor = refl

  place_other : (place : Place) (simple : Bool) (cursor : Cursor)
      → render_place other place simple cursor ≡ render_place s place simple cursor
  place_other place simple cursor = grind (arith, nat_tests, and_parts, and_from, or_parts, or_from)

  body_other : (style : ScalarStyle) (width : Option ℕ) (indent : ℕ) (value : Text) (cursor : Cursor)
      → render_body style other width indent value cursor ≡ render_body style s width indent value cursor
  body_other any_style width indent value cursor = refl
  body_other _ width indent value cursor = refl

  choice_other : (place : Place) (simple : Bool) (content : Scalar) → choice_of other place simple content ≡ choice_of s place simple content
  choice_other place simple content = grind (arith, nat_tests, and_parts, and_from, or_parts, or_from)

  scalar_other : (directives : List TagDirective) (place : Place) (simple : Bool) (content : Scalar) (standing : Standing)
      → scalar_piece other directives place simple content standing ≡ scalar_piece s directives place simple content standing
  scalar_other directives place simple content standing = grind (arith, choice_of, render_place, render_body, choice_other, place_other, body_other)

  end_other : (brackets : Brackets) (in_flow empty : Bool) (column : Option ℕ) (cursor : Cursor)
      → render_end other brackets in_flow empty column cursor ≡ render_end s brackets in_flow empty column cursor
  end_other brackets false empty column cursor = refl
  end_other brackets true _ column cursor = refl

  start_other : (directives : List TagDirective) (frames : List Frame) (undented simple empty : Bool) (role : Role)
      (start : Collection) (standing : Standing)
      → start_step other directives frames undented simple empty role start standing
      ≡ start_step s directives frames undented simple empty role start standing
  start_other directives frames undented simple empty role start standing = grind (arith, nat_tests, and_parts, and_from, or_parts, or_from)

  end_step_other : (brackets : Brackets) (directives : List TagDirective) (frames : List Frame) (standing : Standing)
      → end_step other brackets directives frames standing ≡ end_step s brackets directives frames standing
  end_step_other brackets directives [] standing = refl
  end_step_other brackets directives (frame ∷ outer) standing = grind (arith, nat_tests, and_parts, and_from, or_parts, or_from)

  node_other : (directives : List TagDirective) (frames : List Frame) (event : Event) (empty : Bool)
      (standing : Standing)
      → node_step other directives frames event empty standing ≡ node_step s directives frames event empty standing
  node_other directives frames (alias name) empty standing =
      grind (arith, is_key, next_place, leaf_step, piece_without_body, render_then, render_alias, place_other)
  node_other directives frames (scalar content) empty standing = grind (arith, is_key, next_place, is_simple_scalar, leaf_step, scalar_other)
  node_other directives frames (sequence_start start) empty standing =
      grind (arith, start_other, is_undented, next_place, is_key, is_simple_collection, as_item)
  node_other directives frames (mapping_start start) empty standing = grind (arith, start_other, is_key, next_place, is_simple_collection, as_key)
  node_other directives frames sequence_end empty standing = end_step_other square directives frames standing
  node_other directives frames mapping_end empty standing = end_step_other curly directives frames standing
  node_other directives frames event empty standing = refl

  step_other : (stage : Stage) (event : Event) (empty : Bool) (standing : Standing)
      → step other stage event empty standing ≡ step s stage event empty standing
  step_other (at_node directives frames) event empty standing = node_other directives frames event empty standing
  step_other at_stream (stream_start encoding) empty standing = refl
  step_other (at_document first) (document_start start) empty standing = refl
  step_other (at_document first) stream_end empty standing = refl
  step_other at_document_end (document_end implicit) empty standing = refl
  step_other stage event empty standing = refl

  steps_other : (events : List Event) (follows : Bool) (stage : Stage) (standing : Standing)
      → steps other follows events stage standing ≡ steps s follows events stage standing
  steps_other [] follows stage standing = refl
  steps_other (event ∷ rest) follows stage standing =
      let stepped = step s stage event (ends_next rest follows) standing in
      ap (λ (made : Stepped). then_steps made (steps other follows rest)) (step_other stage event (ends_next rest follows) standing)
      ∙ ap (λ (after : Steps). let made : Steps = record { pieces = stepped.rendered.piece ∷ after.pieces; standing = after.standing; stage = after.stage } in
      made)
      (steps_other rest follows stepped.stage stepped.rendered.standing)

  layout_other : (stream : Stream) → layout other stream ≡ layout s stream
  layout_other stream =
      sym (stream_steps stream other)
      ∙ ap (λ (made : Steps). made.pieces) (steps_other (stream_events stream) false at_stream first_standing)
      ∙ stream_steps stream s

  list_other : (events : List Event) → list_layout other events ≡ list_layout s events
  list_other events = by (tree_of events)
    where
      by : (tree : Option Stream) → ◌≡◌ {A = List Piece} (unwrap_or (option_map (layout other) tree) []) (unwrap_or (option_map (layout s) tree) [])
      by None = refl
      by (Some stream) = layout_other stream

pub limit_cuts : LimitCuts
limit_cuts given limit more events within =
    let s = settings_for (record given { limit = more }) events in
    ap (λ (pieces : List Piece). cut limit (bytes_written s pieces)) (list_other s s.encoding limit s.breaks12 refl events)
    ∙ sym (take-take limit more (bytes_written s (list_layout s events)) within)

pub encodings_agree : EncodingsAgree
encodings_agree given encoding events scalars =
    let s = settings_for given events in
    ap (λ (pieces : List Piece). decode (Some encoding) (encode (Some encoding) (text_written s pieces)))
    (list_other s encoding given.limit s.breaks12 refl events) ∙ decode-encode _ _ scalars

pub breaks_agree : BreaksAgree
breaks_agree given breaks12 encoding events portable =
    let s = effective given encoding in
    list_other s s.encoding s.limit breaks12 (special breaks12 ∙ sym (special given.breaks12)) events
  where
    special : (x : Bool) → (x || given.portable) ≡ true
    special true = refl
    special false = portable
