-- The text of a node's anchor and tag as the layout puts it: a space if one is needed, and then each with a space after it.
use Rattle.yaml_base.proofs.Common.{nat_tests, arith, ℕ, if◌then◌else◌, Option, Bool, false, not, true, ◌&&◌, List, [], ◌++◌, ◌∷◌, refl, ◌≡◌, ◌<◌, true≢false}
use Rattle.yaml_base.proofs.Common.{append-nil, append_assoc, ap, Text, space, Cursor, Rendered, space_if, TagDirective, render_properties, suffix_escaped}
use Rattle.yaml_base.proofs.Common.{Spelling, shorthand, verbatim, spelled, spaces}
use Rattle.yaml_base.{proofs.stream_flow.StreamPropertyWords.lead, specs.Layout.render_spelling}
use Rattle.yaml_base.proofs.stream_nodes.StreamProperties.{IsTagged, properties_text, has_properties}
use Rattle.yaml_base.proofs.stream_nodes.StreamStands.{tag_written, tag_meant, TagStands}

-- after some text white space has ended
pub record EndedCollection (cursor : Cursor) : Type 0 where
  pub white : cursor.whitespace ≡ false
  pub indention : cursor.indention ≡ false

-- a tag as it is rendered, after a space if one is needed
pub spelling_text : (portable : Bool) (s : Spelling) (cursor : Cursor) → (render_spelling portable s cursor).text ≡ space_if true cursor ++ spelled portable s
spelling_text portable (shorthand handle suffix) cursor = append_assoc (space_if true cursor) handle (suffix_escaped portable suffix)
spelling_text portable (verbatim tag) cursor = grind (arith, append_assoc)

pub spelling_ended : (portable : Bool) (s : Spelling) (cursor : Cursor) → EndedCollection (render_spelling portable s cursor).cursor
spelling_ended portable (shorthand handle suffix) cursor = record { white = refl; indention = refl }
spelling_ended portable (verbatim tag) cursor = record { white = refl; indention = refl }

-- a space follows a text that has ended
pub space_after_text : (cursor : Cursor) → EndedCollection cursor → space_if true cursor ≡ space ∷ []
space_after_text cursor ended = ap (λ x. if true && not x then space ∷ [] else []) ended.white

-- an anchor and a tag, and the space before the text after them
pub lead_rendered : (portable : Bool) (directives : List TagDirective) (anchor tag : Option Text) (bare : Bool) (cursor : Cursor)
    → (let rendered : Rendered = render_properties portable directives anchor tag bare cursor in rendered.text ++ space_if true rendered.cursor)
    ≡ space_if true cursor ++ lead anchor (tag_written portable directives tag bare)
lead_rendered portable directives anchor tag bare cursor = grind (arith, nat_tests, append-nil, append_assoc, spelling_text, space_after_text, spelling_ended)

-- the text after them, after one space if they are there
abbrev pub lead_spaces : Option Text → Option Text → ℕ
lead_spaces anchor tag = if has_properties anchor tag then 1 else 0

pub lead_then : (anchor tag : Option Text) (rest : Text) → lead anchor tag ++ rest ≡ properties_text anchor tag ++ (spaces (lead_spaces anchor tag) ++ rest)
lead_then anchor tag rest = grind (arith, nat_tests, append_assoc)

-- a readable tag, or the bare tag, is a written tag
pub tag_is_written : (portable : Bool) (own directives : List TagDirective) (tag : Option Text) (bare : Bool) → TagStands portable own directives tag
    → IsTagged own (tag_written portable directives tag bare) (tag_meant tag bare)
tag_is_written portable own directives tag bare h = grind (arith, nat_tests)

-- the number of spaces before a text that needs one
abbrev pub before_count : Bool → ℕ
before_count true = 0
before_count false = 1

pub before_spaces : (white : Bool) → (if true && not white then space ∷ [] else []) ≡ spaces (before_count white)
before_spaces white = grind (arith, nat_tests)

pub before_some : (white : Bool) → white ≡ false → 0 < before_count white
before_some true h = absurd (true≢false h)
before_some false h = omega arith
