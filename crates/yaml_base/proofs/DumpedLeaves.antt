-- The text of scalars and aliases under the settings of canonical values.
use Rattle.yaml_base.proofs.Common.{ℕ, Bool, true, false, not, ◌&&◌, Option, None, Some, List, [], ◌∷◌, ◌++◌, refl, ◌≡◌, subst, sym, append_assoc, append-nil}
use Rattle.yaml_base.proofs.Common.{and-false, codes, true≢false, Text, space, is_some, flat_map-append, flat_map, Cursor, Rendered, Standing, RenderedPieces}
use Rattle.yaml_base.proofs.Common.{Piece, text_of, piece_text, one_piece, then_pieces, Place, render_place, Effective, effective, directives_in_force}
use Rattle.yaml_base.proofs.Common.{TagDirective, character_text, double_inside, render_properties, render_anchor, Spelling, shorthand, verbatim, spelled}
use Rattle.yaml_base.specs.{Cursor.render_text, Cursor.space_if, graphs.DumpedText.in_quotes, values.TypedValues.typed_settings}
use Rattle.yaml_base.proofs.Common.{Scalar, arith, nat_tests}
use Rattle.yaml_base.specs.NodeLayout.{alias_piece, render_spelling, scalar_piece}
use Rattle.yaml_base.specs.graphs.DumpedText.{anchor_text, tag_text, scalar_properties}

-- the settings of canonical values, and the directives in force
abbrev pub s : Effective
s = effective typed_settings None

abbrev pub force : List TagDirective
force = directives_in_force []

-- the state after a node: the cursor is neither after white space nor in indentation
abbrev pub standing_at : (column open_ended : ℕ) → Standing
standing_at column open_ended = record { cursor = record { column = column; whitespace = false; indention = false }; open_ended = open_ended }

-- pieces with this text
pub record Writes (text : Text) (open_ended : ℕ) (rendered : RenderedPieces) : Type 0 where
  pub is : text_of rendered.pieces ≡ text
  pub column : ℕ
  pub stands : rendered.standing ≡ standing_at column open_ended

pub writes_text : {open_ended : ℕ} {rendered : RenderedPieces} (a b : Text) → a ≡ b → Writes a open_ended rendered → Writes b open_ended rendered
writes_text {open_ended} {rendered} a b e w = subst (λ t. Writes t open_ended rendered) e w

pub text_of-append : (a b : List Piece) → text_of (a ++ b) ≡ text_of a ++ text_of b
text_of-append a b = flat_map-append piece_text a b

-- pieces after pieces
pub writes_then : {open_ended : ℕ} {a b : Text} (first : RenderedPieces) (next : Standing → RenderedPieces) → (before : Writes a open_ended first)
    → Writes b open_ended (next (standing_at before.column open_ended)) → Writes (a ++ b) open_ended (then_pieces first next)
writes_then {open_ended} {a} {b} first next before after = grind (arith, text_of-append)

-- ---- anchors and tags

-- the rendered text, and a space if none precedes, are this text, with a space before it if none precedes the cursor
abbrev pub IsProperty : Text → Cursor → Rendered → Type 0
IsProperty text cursor rendered = rendered.text ++ space_if true rendered.cursor ≡ space_if true cursor ++ text

anchor_is : (anchor : Option Text) (cursor : Cursor) → IsProperty (anchor_text anchor) cursor (render_anchor anchor cursor)
anchor_is None cursor = sym (append-nil (space_if true cursor))
anchor_is (Some name) cursor = simp append_assoc

spelled_is : (tag : Spelling) (cursor : Cursor) → IsProperty (spelled false tag ++ space ∷ []) cursor (render_spelling false tag cursor)
spelled_is (shorthand handle suffix) cursor = simp append_assoc
spelled_is (verbatim tag) cursor = simp append_assoc

pub properties_are : (anchor tag : Option Text) (bare : Bool) (cursor : Cursor)
    → IsProperty (anchor_text anchor ++ tag_text tag bare) cursor (render_properties false force anchor tag bare cursor)
properties_are anchor tag bare cursor = grind (arith, nat_tests, append_assoc, spelled_is, append-nil, anchor_is)

-- ---- scalars and aliases

-- without a width there are no folds
inside_is : (indent : ℕ) (before : Option ℕ) (text : Text) (cursor : Cursor)
    → (double_inside true None indent before text cursor).text ≡ flat_map (character_text true) text
inside_is indent before [] cursor = refl
inside_is indent before (c ∷ rest) cursor =
    grind (arith, and-false, true≢false, inside_is indent (Some c) rest (render_text (character_text true c) cursor).cursor)

-- the text before a node at its place
abbrev pub lead : Place → Standing → Rendered
lead place standing = render_place s place false standing.cursor

-- a node's text after that
abbrev pub led : Rendered → Text → Text
led before text = before.text ++ (space_if true before.cursor ++ text)

-- true if the bare tag is written
abbrev is_bare : Scalar → Bool
is_bare content = not (is_some content.tag) && not content.quoted_implicit && true

pub scalar_writes : (content : Scalar) (place : Place) (standing : Standing)
    → Writes (led (lead place standing) (scalar_properties content ++ in_quotes content.value)) standing.open_ended
    (one_piece (scalar_piece s force place false content standing))
scalar_writes content place standing = grind (arith, append-nil, inside_is, properties_are, append_assoc, and-false)

pub alias_writes : (name : Text) (place : Place) (standing : Standing)
    → Writes (led (lead place standing) (codes "*" ++ name)) standing.open_ended (one_piece (alias_piece s place false name standing))
alias_writes name place standing =
    record { is = simp (append_assoc, append-nil); column = _; stands = refl }
