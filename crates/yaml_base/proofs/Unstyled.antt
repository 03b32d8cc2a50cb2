-- In canonical mode no layout depends on the styles of events, nor on whether a document's start is implicit.
use Rattle.yaml_base.proofs.Common.{arith, ◌==◌, Option, Bool, false, not, true, ◌&&◌, ◌||◌, List, [], map, ◌∷◌, refl, ◌≡◌, ap, sym, ◌∙◌, render_then, cut}
use Rattle.yaml_base.proofs.Common.{any_style, any_layout, TagDirective, DocumentStart, Scalar, Collection, Event, document_start, scalar, sequence_start}
use Rattle.yaml_base.proofs.Common.{mapping_start, Stream, stream_events, render_if, render_closing_marker, render_version, render_tag_directives}
use Rattle.yaml_base.proofs.Common.{has_directives, is_explicit, render_document_marker, first_standing, layout, Piece, Standing, piece_without_body, Role}
use Rattle.yaml_base.proofs.Common.{encoding_asked, settings_for, bytes_written, output_of, list_layout, ends_collection, Encoding, Settings, Effective}
use Rattle.yaml_base.proofs.Common.{effective, Frame, Stage, at_stream, at_document, at_node, Stepped, start_step, step, ends_next, Steps, steps}
use Rattle.yaml_base.proofs.{Common.directives_in_force, Common.or_left, Common.or_right, Common.nat_tests, StepLaws.stream_steps, Trees.tree_of-stream_events}

-- an event of no style; a document's start is implicit
abbrev pub unstyled : Event → Event
unstyled (document_start start) = document_start (record start { implicit = true })
unstyled (scalar content) = scalar (record content { style = any_style })
unstyled (sequence_start start) = sequence_start (record start { style = any_layout })
unstyled (mapping_start start) = mapping_start (record start { style = any_layout })
unstyled event = event

-- ---- scalars

scalar_unstyled : (s : Effective) → s.canonical ≡ true → (directives : List TagDirective) (frames : List Frame) (content : Scalar) (empty : Bool)
    (standing : Standing)
    → step s (at_node directives frames) (scalar (record content { style = any_style })) empty standing
    ≡ step s (at_node directives frames) (scalar content) empty standing
scalar_unstyled s on directives frames content empty standing = grind (arith, nat_tests)

-- ---- collections

in_flow_canonical : (a b c d e : Bool) → b ≡ true → (a || b || c || d) ≡ (a || b || e || d)
in_flow_canonical a b c d e h = grind (arith, nat_tests)

start_unstyled : (s : Effective) → s.canonical ≡ true → (directives : List TagDirective) (frames : List Frame) (undented simple empty : Bool) (role : Role)
    (start : Collection) (standing : Standing)
    → start_step s directives frames undented simple empty role (record start { style = any_layout }) standing
    ≡ start_step s directives frames undented simple empty role start standing
start_unstyled s on directives frames undented simple empty role start standing = grind (arith, in_flow_canonical)

-- ---- a document's start

third_on : (a b c d : Bool) → c ≡ true → (a || b || c || d) ≡ true
third_on a b c d on = or_left ((a || b) || c) d (or_right (a || b) c on)

always_explicit : (s : Effective) (first : Bool) (start : DocumentStart) → s.canonical ≡ true → is_explicit (s.canonical || s.portable) first start ≡ true
always_explicit s first start on =
    third_on (not start.implicit) (not first) (s.canonical || s.portable) (has_directives start) (or_left s.canonical s.portable on)

abbrev document_by : Effective → DocumentStart → Standing → (explicit : Bool) → Stepped
document_by s start standing explicit =
    record {
      rendered =
          piece_without_body 0
          (render_then
          (render_then
          (render_then
          (render_if (has_directives start && not (standing.open_ended == 0)) render_closing_marker standing.cursor)
          (render_version start.version))
          (render_tag_directives s.portable start.directives))
          (render_if explicit (render_document_marker s.canonical)));
      stage = at_node (directives_in_force start.directives) [];
    }

document_unstyled : (s : Effective) → s.canonical ≡ true → (first empty : Bool) (start : DocumentStart) (standing : Standing)
    → step s (at_document first) (document_start (record start { implicit = true })) empty standing
    ≡ step s (at_document first) (document_start start) empty standing
document_unstyled s on first empty start standing =
    ap (document_by s start standing) (always_explicit s first (record start { implicit = true }) on ∙ sym (always_explicit s first start on))

-- ---- lists of events

step_unstyled : (s : Effective) → s.canonical ≡ true → (stage : Stage) (event : Event) (empty : Bool) (standing : Standing)
    → step s stage (unstyled event) empty standing ≡ step s stage event empty standing
step_unstyled s h stage event empty standing = grind (arith, nat_tests, scalar_unstyled, start_unstyled, document_unstyled)

still_ends : (event : Event) → ends_collection (unstyled event) ≡ ends_collection event
still_ends event = grind (arith)

next_ends : (events : List Event) (follows : Bool) → ends_next (map unstyled events) follows ≡ ends_next events follows
next_ends [] follows = refl
next_ends (event ∷ events) follows = still_ends event

steps_unstyled : (events : List Event) (s : Effective) → s.canonical ≡ true → (follows : Bool) (stage : Stage) (standing : Standing)
    → steps s follows (map unstyled events) stage standing ≡ steps s follows events stage standing
steps_unstyled [] s on follows stage standing = refl
steps_unstyled (event ∷ rest) s on follows stage standing = grind (arith, nat_tests, next_ends, step_unstyled, steps_unstyled rest s on follows)

-- streams that differ in styles alone
pub layouts_same : (s : Effective) → s.canonical ≡ true → (one two : Stream) → map unstyled (stream_events one) ≡ map unstyled (stream_events two)
    → layout s one ≡ layout s two
layouts_same s on one two same =
    sym (stream_steps one s)
    ∙ ap (λ (made : Steps). made.pieces) (sym (steps_unstyled (stream_events one) s on false at_stream first_standing))
    ∙ ap (λ (events : List Event). (steps s false events at_stream first_standing).pieces) same
    ∙ ap (λ (made : Steps). made.pieces) (steps_unstyled (stream_events two) s on false at_stream first_standing)
    ∙ stream_steps two s

list_is : (s : Effective) (stream : Stream) (events : List Event) → stream_events stream ≡ events → list_layout s events ≡ layout s stream
list_is s stream events is = grind (arith, tree_of-stream_events)

asked_unstyled : (events : List Event) → encoding_asked (map unstyled events) ≡ encoding_asked events
asked_unstyled events = grind (arith, nat_tests)

-- their output is the same
pub outputs_same : (given : Settings) → given.canonical ≡ true → (first second : List Event) (one two : Stream) → stream_events one ≡ first
    → stream_events two ≡ second → map unstyled first ≡ map unstyled second → output_of given first ≡ output_of given second
outputs_same given on first second one two is_one is_two same =
    let asked : encoding_asked first ≡ encoding_asked second = sym (asked_unstyled first) ∙ ap encoding_asked same ∙ asked_unstyled second in
    let s = settings_for given first in
    let layouts : list_layout s first ≡ list_layout s second =
    list_is s one first is_one
    ∙ layouts_same s on one two (ap (map unstyled) is_one ∙ same ∙ sym (ap (map unstyled) is_two))
    ∙ sym (list_is s two second is_two) in
    ap (λ (pieces : List Piece). cut s.limit (bytes_written s pieces)) layouts
    ∙ ap (λ (asks : Option Encoding). cut given.limit (bytes_written (effective given asks) (list_layout (effective given asks) second))) asked
