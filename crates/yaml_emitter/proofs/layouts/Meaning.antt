-- A fact about each body that a value allows holds for all bodies of a stream's layout: so each scalar of it reads back as exactly
-- its value.
use Rattle.yaml_emitter.proofs.Common.{ℕ, if◌then◌else◌, unwrap_or, option_map, Option, None, Some, nat_le, pos, ℤ, Bool, false, true, ◌&&◌, List, []}
use Rattle.yaml_emitter.proofs.Common.{◌∷◌, refl, ◌≡◌, ap, subst, sym, ◌∙◌, arith, and_parts, All-nil, All-cons, All, list_all, tree_of-stream_events, Cursor}
use Rattle.yaml_emitter.proofs.Common.{ScalarStyle, TagDirective, Scalar, Event, stream_start, stream_end, document_start, document_end, scalar, sequence_end}
use Rattle.yaml_emitter.proofs.Common.{mapping_end, Stream, stream_events, first_standing, layout, Piece, Standing, render_body, choice_of, scalar_lead, Place}
use Rattle.yaml_emitter.proofs.Common.{body_at, scalar_piece, deeper, BodyMeans, has_scalar_values, list_layout, IsAccepted, Effective, effective, Frame, Stage}
use Rattle.yaml_emitter.proofs.Common.{at_stream, at_document, at_node, at_document_end, node_step, step, ends_next, steps}
use Rattle.yaml_base.proofs.Common.{leb-true, Body, bodies_of, MeaningIsKept, effective_indent}
use Rattle.yaml_base.proofs.StepLaws.{stream_steps}
use Rattle.yaml_emitter.proofs.layouts.{MeaningBodies.IsIndent, MeaningBodies.body_means, MeaningStyles.AllowsUnder, MeaningStyles.choice_allowed}

module _ (s : Effective) (Holds : Body → Type 0) (is_good : Event → Bool)
    (each : (place : Place) (style : ScalarStyle) (limit : Option ℕ) (content : Scalar) (cursor : Cursor) → is_good (scalar content) ≡ true
    → AllowsUnder s place.in_flow content.value style
    → Holds (body_at place style content.value (render_body style s limit (deeper s.indent place.column) content.value cursor))) where
  -- a fact about a piece's body, if it has one
  abbrev HoldsOf : Option Body → Type 0
  HoldsOf None = Unit {0}
  HoldsOf (Some body) = Holds body

  -- a scalar's body
  scalar_holds : (directives : List TagDirective) (place : Place) (simple : Bool) (content : Scalar) (standing : Standing)
      → is_good (scalar content) ≡ true → HoldsOf (scalar_piece s directives place simple content standing).piece.body
  scalar_holds directives place simple content standing good =
      let choice = choice_of s place simple content in
      each place choice.style (if simple then None else s.width) content
      (scalar_lead s directives place simple choice content standing.cursor).cursor good
      (choice_allowed s place simple content)

  -- that of an event within a document
  node_step_holds : (directives : List TagDirective) (frames : List Frame) (event : Event) (empty : Bool) (standing : Standing)
      → is_good event ≡ true → HoldsOf (node_step s directives frames event empty standing).rendered.piece.body
  node_step_holds directives frames (scalar content) empty standing good = scalar_holds directives _ _ content standing good
  node_step_holds directives [] sequence_end empty standing good = tt
  node_step_holds directives (frame ∷ outer) sequence_end empty standing good = tt
  node_step_holds directives [] mapping_end empty standing good = tt
  node_step_holds directives (frame ∷ outer) mapping_end empty standing good = tt
  node_step_holds directives frames (document_end true) empty standing good = tt
  node_step_holds directives frames _ empty standing good = tt

  -- that of an event at any stage
  step_holds : (stage : Stage) (event : Event) (empty : Bool) (standing : Standing)
      → is_good event ≡ true → HoldsOf (step s stage event empty standing).rendered.piece.body
  step_holds (at_node directives frames) event empty standing good = node_step_holds directives frames event empty standing good
  step_holds at_stream (stream_start encoding) empty standing good = tt
  step_holds (at_document first) (document_start start) empty standing good = tt
  step_holds (at_document first) stream_end empty standing good = tt
  step_holds at_document_end (document_end true) empty standing good = tt
  step_holds at_document_end (document_end false) empty standing good = tt
  step_holds _ event empty standing good = tt

  -- a piece before others
  first_piece : (piece : Piece) (rest : List Piece) → HoldsOf piece.body → All Holds (bodies_of rest) → All Holds (bodies_of (piece ∷ rest))
  first_piece piece rest h k = go piece.body refl h
    where
      go : (body : Option Body) → piece.body ≡ body → HoldsOf body → All Holds (bodies_of (piece ∷ rest))
      go None e h = rw e k
      go (Some body) e h = rw e (All-cons Holds body (bodies_of rest) h k)

  -- A fact about each body that a value allows holds for the bodies of all events' pieces.
  pub steps_hold : (events : List Event) (follows : Bool) (stage : Stage) (standing : Standing)
      → list_all is_good events ≡ true → All Holds (bodies_of (steps s follows events stage standing).pieces)
  steps_hold [] follows stage standing good = All-nil Holds
  steps_hold (event ∷ rest) follows stage standing good =
      let stepped = step s stage event (ends_next rest follows) standing in
      let parts : (is_good event ≡ true) × (list_all is_good rest ≡ true) = and_parts _ _ good in
      first_piece stepped.rendered.piece (steps s follows rest stepped.stage stepped.rendered.standing).pieces
      (step_holds stage event (ends_next rest follows) standing parts.0)
      (steps_hold rest follows stepped.stage stepped.rendered.standing parts.1)

  -- those of a stream's layout
  layout_holds : (stream : Stream) → list_all is_good (stream_events stream) ≡ true → All Holds (bodies_of (layout s stream))
  layout_holds stream good =
      subst (λ (pieces : List Piece). All Holds (bodies_of pieces)) (stream_steps stream s)
      (steps_hold (stream_events stream) false at_stream first_standing good)

  -- And of those of an accepted list's layout.
  pub list_holds : (canonical : Bool) (events : List Event) → IsAccepted canonical events → list_all is_good events ≡ true
      → All Holds (bodies_of (list_layout s events))
  list_holds canonical events accepted good =
      let stream = accepted.stream in
      let of_stream : list_layout s (stream_events stream) ≡ layout s stream =
      ap (λ (tree : Option Stream). unwrap_or (option_map (layout s) tree) []) (tree_of-stream_events stream) in
      let same : list_layout s events ≡ layout s stream = ap (list_layout s) (sym accepted.is_stream) ∙ of_stream in
      subst (λ (pieces : List Piece). All Holds (bodies_of pieces)) (sym same)
      (layout_holds stream (ap (list_all is_good) accepted.is_stream ∙ good))

-- an indent that is set is from 2 to 9
bounded : (n : ℕ) (b : Bool) → (b ≡ true → IsIndent n) → IsIndent (if b then n else 2)
bounded n true h = h refl
bounded n false h = record { low = omega arith; high = omega arith }

-- so is the indent that settings come to
pub is_indent : (indent : Option ℤ) → IsIndent (effective_indent indent)
is_indent (Some (pos n)) =
    bounded n (nat_le 2 n && nat_le n 9) (λ e.
    let parts : (nat_le 2 n ≡ true) × (nat_le n 9 ≡ true) = and_parts _ _ e in
    record { low = leb-true 2 n parts.0; high = leb-true n 9 parts.1 })
is_indent _ = record { low = omega arith; high = omega arith }

-- A body that a value allows reads as the value.
scalar_means : (s : Effective) → IsIndent s.indent → (place : Place) (style : ScalarStyle) (limit : Option ℕ) (content : Scalar) (cursor : Cursor)
    → has_scalar_values (scalar content) ≡ true → AllowsUnder s place.in_flow content.value style
    → BodyMeans s (body_at place style content.value (render_body style s limit (deeper s.indent place.column) content.value cursor))
scalar_means s is place style limit content cursor scalars allowed = body_means s place style limit content.value cursor is scalars allowed

-- Every body of an accepted list reads as its value.
pub meaning_is_kept : MeaningIsKept
meaning_is_kept given encoding events accepted scalars =
    let s = effective given encoding in
    list_holds s (BodyMeans s) has_scalar_values (scalar_means s (is_indent given.indent)) given.canonical events accepted scalars
