-- The pieces of a stream's events hold no character that meets a test which spares printable ASCII and LF, if no body that a value
-- allows does.
use Rattle.yaml_emitter.proofs.Common.{ℕ, if◌then◌else◌, ◌==◌, option_and_then, Option, None, Bool, false, not, true, ◌&&◌, List, [], ◌++◌, ◌∷◌, refl, ◌≡◌}
use Rattle.yaml_emitter.proofs.Common.{and_parts, list_all, list_any, neither, AreFound, in_force_found, Text, is_alpha, Cursor, Rendered, render_then, Scalar}
use Rattle.yaml_emitter.proofs.Common.{new_line, ScalarStyle, TagDirective, Collection, Event, stream_start, stream_end, document_start, document_end, alias}
use Rattle.yaml_emitter.proofs.Common.{scalar, sequence_start, sequence_end, mapping_start, mapping_end, scalar_tag, collection_tag, render_if, Piece, text_of}
use Rattle.yaml_emitter.proofs.Common.{render_closing_marker, render_document_start, document_end_piece, piece_text, Standing, render_properties, render_alias}
use Rattle.yaml_emitter.proofs.Common.{render_separation, render_body, choice_of, scalar_lead, scalar_piece, start_piece, Brackets, square, curly, render_end}
use Rattle.yaml_emitter.proofs.Common.{end_piece, Place, is_key, deeper, is_simple_alias, render_place, name_or_tag_fault, content_fault, is_sound, Effective}
use Rattle.yaml_emitter.proofs.Common.{Frame, Stage, at_stream, at_document, at_node, at_document_end, next_place, stage_after, is_first, node_step, step}
use Rattle.yaml_emitter.proofs.Common.{ends_next, steps, version_fault, directives_fault, any_both, Spares, lacks_line}
use Rattle.yaml_base.proofs.NoFaults.{is_none_none}
use Rattle.yaml_base.specs.declared.errors.yaml_error_t.TheVariants.{AliasAlphabet, AliasEmpty}
use Rattle.yaml_emitter.proofs.canonical.{CanonicalPlaces.AnchorOk, CanonicalSound.name_is, CanonicalSound.anchor_is}
use Rattle.yaml_emitter.proofs.layouts.MeaningStyles.{AllowsUnder, choice_allowed}
use Rattle.yaml_emitter.proofs.layouts.SparingPlaces.{Lacks, lacks_then, lacks_place, lacks_properties, lacks_alias, lacks_separation, lacks_end, lacks_if}
use Rattle.yaml_emitter.proofs.layouts.SparingPlaces.{lacks_closing, lacks_document}

-- the names of an event are of the anchor alphabet, and no directive of it is refused
abbrev pub NamesOk : Event → Type 0
NamesOk (alias name) = list_all is_alpha name ≡ true
NamesOk (scalar content) = AnchorOk content.anchor
NamesOk (sequence_start start) = AnchorOk start.anchor
NamesOk (mapping_start start) = AnchorOk start.anchor
NamesOk (document_start start) = directives_fault start.directives ≡ None
NamesOk _ = Unit {0}

-- so it is with sound events
pub names_ok : (canonical : Bool) (event : Event) → is_sound canonical event ≡ true → NamesOk event
names_ok canonical event h = by event (neither (name_or_tag_fault canonical event) (content_fault canonical event) (is_none_none _ h))
  where
    by : (event : Event) → (name_or_tag_fault canonical event ≡ None) × (content_fault canonical event ≡ None) → NamesOk event
    by (alias name) p = (name_is AliasEmpty AliasAlphabet name p.0).alphas
    by (scalar content) p = anchor_is content.anchor (scalar_tag canonical content) p.0
    by (sequence_start start) p = anchor_is start.anchor (collection_tag canonical start) p.0
    by (mapping_start start) p = anchor_is start.anchor (collection_tag canonical start) p.0
    by (document_start start) p = (neither (option_and_then version_fault start.version) (directives_fault start.directives) p.1).1
    by _ p = tt

-- the directives of a stage are found by their handles
abbrev pub StageFound : Stage → Type 0
StageFound (at_node directives frames) = (own : List TagDirective) × AreFound own directives
StageFound _ = Unit {0}

-- after a node
found_after : (directives : List TagDirective) (frames : List Frame) (simple : Bool) → (own : List TagDirective) × AreFound own directives
    → StageFound (stage_after directives frames simple)
found_after directives [] simple found = tt
found_after directives (frame ∷ outer) simple found = found

-- they stay so
node_step_found : (s : Effective) (directives : List TagDirective) (frames : List Frame) (event : Event) (empty : Bool) (standing : Standing)
    → (own : List TagDirective) × AreFound own directives → StageFound (node_step s directives frames event empty standing).stage
node_step_found s directives frames (alias name) empty standing found = found_after directives frames _ found
node_step_found s directives frames (scalar content) empty standing found = found_after directives frames _ found
node_step_found s directives frames (sequence_start start) empty standing found = found
node_step_found s directives frames (mapping_start start) empty standing found = found
node_step_found s directives (frame ∷ outer) sequence_end empty standing found = found_after directives outer frame.simple found
node_step_found s directives (frame ∷ outer) mapping_end empty standing found = found_after directives outer frame.simple found
node_step_found s directives _ _ empty standing found = tt

-- at any stage
pub step_found : (s : Effective) (stage : Stage) (event : Event) (empty : Bool) (standing : Standing) → StageFound stage → NamesOk event
    → StageFound (step s stage event empty standing).stage
step_found s (at_node directives frames) event empty standing found ok = node_step_found s directives frames event empty standing found
step_found s at_stream (stream_start encoding) empty standing found ok = tt
step_found s (at_document first) (document_start start) empty standing found ok = (start.directives, in_force_found start.directives ok)
step_found s (at_document first) stream_end empty standing found ok = tt
step_found s at_document_end (document_end implicit) empty standing found ok = tt
step_found s _ event empty standing found ok = tt

-- a document's own directives are among those in force
prefix_found : (own prefix rest : List TagDirective) → AreFound own (prefix ++ rest) → AreFound own prefix
prefix_found own [] rest found = tt
prefix_found own (directive ∷ prefix) rest found = (found.0, found.1, prefix_found own prefix rest found.2)

-- directives that none is refused of are found
own_found : (own : List TagDirective) → directives_fault own ≡ None → AreFound own own
own_found own h = prefix_found own own _ (in_force_found own h)

-- the conditions on a test: it spares printable ASCII and LF, and no body that a value allows holds a character of it
pub record Spared (s : Effective) (test : ℕ → Bool) : Type 0 where
  pub spares : Spares test
  pub bodies : (place : Place) (style : ScalarStyle) (limit : Option ℕ) (value : Text) (cursor : Cursor)
      → AllowsUnder s place.in_flow value style
      → list_any test (render_body style s limit (deeper s.indent place.column) value cursor).text ≡ false

module _ (s : Effective) (test : ℕ → Bool) (spared : Spared s test) where
  -- a piece's text holds no character that meets the test
  abbrev LacksPiece : Piece → Type 0
  LacksPiece piece = list_any test (piece_text piece) ≡ false

  -- a piece without a body
  lacks_alone : (rendered : Rendered) → Lacks test spared.spares rendered → list_any test (rendered.text ++ []) ≡ false
  lacks_alone rendered h = any_both test rendered.text [] h refl

  -- a scalar's piece
  lacks_scalar : (directives : List TagDirective) (place : Place) (simple : Bool) (content : Scalar) (standing : Standing)
      → (own : List TagDirective) × AreFound own directives → AnchorOk content.anchor
      → LacksPiece (scalar_piece s directives place simple content standing).piece
  lacks_scalar directives place simple content standing found ok =
      let choice = choice_of s place simple content in
      let tag = scalar_tag s.canonical content in
      let placed = render_place s place simple standing.cursor in
      let named = render_then placed (render_properties s.portable directives content.anchor tag choice.bare) in
      let lead = scalar_lead s directives place simple choice content standing.cursor in
      any_both test lead.text _
      (lacks_then test spared.spares named (render_separation choice.style place.in_flow content.value)
      (lacks_then test spared.spares placed (render_properties s.portable directives content.anchor tag choice.bare)
      (lacks_place test spared.spares s place simple standing.cursor)
      (λ after. lacks_properties test spared.spares s.portable found.0 directives content.anchor tag choice.bare after found.1 ok))
      (λ after. lacks_separation test spared.spares choice.style place.in_flow content.value after))
      (spared.bodies place choice.style (if simple then None else s.width) content.value lead.cursor
      (choice_allowed s place simple content))

  -- a collection's start
  lacks_start : (directives : List TagDirective) (place : Place) (simple : Bool) (start : Collection) (standing : Standing)
      → (own : List TagDirective) × AreFound own directives → AnchorOk start.anchor → LacksPiece (start_piece s directives place simple start standing).piece
  lacks_start directives place simple start standing found ok =
      let placed = render_place s place simple standing.cursor in
      let tag = collection_tag s.canonical start in
      lacks_alone (render_then placed (render_properties s.portable directives start.anchor tag false))
      (lacks_then test spared.spares placed (render_properties s.portable directives start.anchor tag false)
      (lacks_place test spared.spares s place simple standing.cursor)
      (λ after. lacks_properties test spared.spares s.portable found.0 directives start.anchor tag false after found.1 ok))

  -- a collection's end
  lacks_closed : (brackets : Brackets) (in_flow empty : Bool) (column : Option ℕ) (standing : Standing)
      → Lacks test spared.spares (render_end s brackets in_flow empty column standing.cursor)
      → LacksPiece (end_piece s brackets in_flow empty column standing).piece
  lacks_closed brackets in_flow empty column standing h = lacks_alone (render_end s brackets in_flow empty column standing.cursor) h

  -- an event within a document
  lacks_node_step : (directives : List TagDirective) (frames : List Frame) (event : Event) (empty : Bool) (standing : Standing)
      → (own : List TagDirective) × AreFound own directives → NamesOk event → LacksPiece (node_step s directives frames event empty standing).rendered.piece
  lacks_node_step directives frames (alias name) empty standing found ok =
      let place = next_place frames in
      let simple = is_key place.role && (not s.canonical && is_simple_alias name) in
      lacks_alone (render_then (render_place s place simple standing.cursor) (render_alias name simple))
      (lacks_then test spared.spares (render_place s place simple standing.cursor) (render_alias name simple)
      (lacks_place test spared.spares s place simple standing.cursor)
      (λ after. lacks_alias test spared.spares name simple after ok))
  lacks_node_step directives frames (scalar content) empty standing found ok = lacks_scalar directives (next_place frames) _ content standing found ok
  lacks_node_step directives frames (sequence_start start) empty standing found ok = lacks_start directives (next_place frames) _ start standing found ok
  lacks_node_step directives frames (mapping_start start) empty standing found ok = lacks_start directives (next_place frames) _ start standing found ok
  lacks_node_step directives (frame ∷ outer) sequence_end empty standing found ok =
      lacks_closed square frame.place.in_flow (is_first frame.place.role) (next_place outer).column standing
      (lacks_end test spared.spares s square frame.place.in_flow (is_first frame.place.role) (next_place outer).column standing.cursor refl refl)
  lacks_node_step directives (frame ∷ outer) mapping_end empty standing found ok =
      lacks_closed curly frame.place.in_flow (is_first frame.place.role) (next_place outer).column standing
      (lacks_end test spared.spares s curly frame.place.in_flow (is_first frame.place.role) (next_place outer).column standing.cursor refl refl)
  lacks_node_step directives _ _ empty standing found ok = refl

  -- a document's end
  lacks_document_end : (implicit : Bool) (standing : Standing) → LacksPiece (document_end_piece implicit standing).piece
  lacks_document_end true standing = lacks_alone (new_line 0 standing.cursor) (lacks_line test spared.spares 0 standing.cursor)
  lacks_document_end false standing =
      lacks_alone (render_then (new_line 0 standing.cursor) render_closing_marker)
      (lacks_then test spared.spares (new_line 0 standing.cursor) render_closing_marker (lacks_line test spared.spares 0 standing.cursor)
      (lacks_closing test spared.spares))

  -- an event at any stage
  lacks_step : (stage : Stage) (event : Event) (empty : Bool) (standing : Standing) → StageFound stage → NamesOk event
      → LacksPiece (step s stage event empty standing).rendered.piece
  lacks_step (at_node directives frames) event empty standing found ok = lacks_node_step directives frames event empty standing found ok
  lacks_step at_stream (stream_start encoding) empty standing found ok = refl
  lacks_step (at_document first) (document_start start) empty standing found ok =
      lacks_alone (render_document_start s first start standing)
      (lacks_document test spared.spares s first start.directives start standing (own_found start.directives ok))
  lacks_step (at_document first) stream_end empty standing found ok =
      lacks_alone (render_if (standing.open_ended == 2) render_closing_marker standing.cursor)
      (lacks_if test spared.spares (standing.open_ended == 2) render_closing_marker standing.cursor (lacks_closing test spared.spares standing.cursor))
  lacks_step at_document_end (document_end implicit) empty standing found ok = lacks_document_end implicit standing
  lacks_step _ event empty standing found ok = refl

  -- the text of sound events holds no such character
  pub lacks_steps : (canonical : Bool) (events : List Event) (follows : Bool) (stage : Stage) (standing : Standing) → StageFound stage
      → list_all (is_sound canonical) events ≡ true → list_any test (text_of (steps s follows events stage standing).pieces) ≡ false
  lacks_steps canonical [] follows stage standing found sound = refl
  lacks_steps canonical (event ∷ rest) follows stage standing found sound =
      let parts : (is_sound canonical event ≡ true) × (list_all (is_sound canonical) rest ≡ true) = and_parts _ _ sound in
      let ok = names_ok canonical event parts.0 in
      let stepped = step s stage event (ends_next rest follows) standing in
      any_both test (piece_text stepped.rendered.piece) _
      (lacks_step stage event (ends_next rest follows) standing found ok)
      (lacks_steps canonical rest follows stepped.stage stepped.rendered.standing
      (step_found s stage event (ends_next rest follows) standing found ok) parts.1)
