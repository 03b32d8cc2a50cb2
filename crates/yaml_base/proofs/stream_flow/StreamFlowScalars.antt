-- A scalar of the layout in flow is one word that reads as its tree.
use Rattle.yaml_base.proofs.Common.{nat_tests, arith, ℕ, is_some, Option, None, Some, Bool, false, not, true, ◌&&◌, ◌||◌, List, [], ◌++◌, ◌∷◌, refl, ◌≡◌}
use Rattle.yaml_base.proofs.Common.{true≢false, append_assoc, false≢true, Text, Cursor, Rendered, space_if, ScalarStyle, any_style, plain}
use Rattle.yaml_base.proofs.Common.{single_quoted, double_quoted, literal, folded, TagDirective, Scalar, scalar_tag, render_properties, render_separation}
use Rattle.yaml_base.proofs.Common.{render_body, allowed_under, style_asked_at, choice_of, entry_place, Role, read_in_style, Effective, read_plain, is_tidy}
use Rattle.yaml_base.proofs.Common.{Allowances, is_empty, and-false, double_inside, render_quote, runs, render_runs, quotes_doubled, single_quote, is_plain}
use Rattle.yaml_base.proofs.{stream_flow.StreamPropertyWords.lead, stream_lines.StreamCuts.none_not_some, stream_nodes.StreamLeads.EndedCollection}
use Rattle.yaml_base.proofs.{stream_nodes.StreamLeads.lead_rendered, stream_nodes.StreamStands.tag_written, stream_nodes.StreamStands.tag_meant}
use Rattle.yaml_base.proofs.Common.{requested_style, fitting_style, fits_plain, Rules}
use Rattle.yaml_base.proofs.stream_flow.StreamFlowWords.{FlowWord, Given, scalar_in, quoted_flow_word, plain_flow_word}

-- the rules for reading a document of the layout
abbrev pub rules_of : Effective → List TagDirective → Rules
rules_of s own = record { breaks12 = s.breaks12; directives = own }

-- a style that flow allows
abbrev pub is_flow_style : ScalarStyle → Bool
is_flow_style literal = false
is_flow_style folded = false
is_flow_style _ = true

-- if no block style fits, the style is one of flow
style_in_flow : (allowed : Allowances) (fits x : Bool) (asked : ScalarStyle)
    → is_flow_style (fitting_style allowed fits (allowed.block_allowed && not true && not x) asked) ≡ true
style_in_flow allowed fits x asked = grind (arith, nat_tests)

-- so is the style that is chosen in flow
pub chosen_in_flow : (s : Effective) (role : Role) (column : ℕ) (simple : Bool) (content : Scalar)
    → is_flow_style (choice_of s (entry_place true role column) simple content).style ≡ true
chosen_in_flow s role column simple content =
    let allowed = allowed_under s content in
    style_in_flow allowed
    (fits_plain allowed (is_empty content.value) (is_some (scalar_tag s.canonical content)) content.plain_implicit true simple) simple
    (requested_style (s.canonical || (simple && allowed.multiline)) (style_asked_at s (entry_place true role column) content))

-- the bare tag precedes no plain scalar
pub bare_not_plain : (tag quoted plain_style : Bool) → (not tag && not quoted && not plain_style) ≡ true → plain_style ≡ false
bare_not_plain tag quoted plain_style h = grind (arith, nat_tests, false≢true)

-- a plain text isn't empty in flow
plain_case : (s : Effective) (own : List TagDirective) (anchor tag given_tag : Option Text) (column : ℕ) (text value : Text)
    → Given (rules_of s own) anchor tag (tag_meant given_tag false) → is_tidy plain s.breaks12 (Some column) text ≡ true
    → read_plain s.breaks12 true text ≡ Some value
    → FlowWord (rules_of s own) (lead anchor tag ++ text) (scalar_in anchor given_tag plain false value)
plain_case s own anchor tag given_tag column [] value given tidy read = absurd (none_not_some read)
plain_case s own anchor tag given_tag column (c ∷ t) value given tidy read =
    plain_flow_word (rules_of s own) anchor tag given_tag (Some column) c t value given tidy read

-- a body that is rendered in a style of flow is a word with the properties before it
pub body_flow_word : (s : Effective) (own : List TagDirective) (anchor tag given_tag : Option Text) (style : ScalarStyle) (bare : Bool) (limit : Option ℕ)
    (indent column : ℕ)
    (value : Text) (cursor : Cursor) → Given (rules_of s own) anchor tag (tag_meant given_tag bare) → is_flow_style style ≡ true
    → (bare ≡ true → is_plain style ≡ false)
    → is_tidy style s.breaks12 (Some column) (render_body style s limit indent value cursor).text ≡ true
    → read_in_style style s.breaks12 true (Some column) (render_body style s limit indent value cursor).text ≡ Some value
    → FlowWord (rules_of s own) (lead anchor tag ++ (render_body style s limit indent value cursor).text) (scalar_in anchor given_tag style bare value)
body_flow_word s own anchor tag given_tag plain true limit indent column value cursor given flow h tidy read = absurd (true≢false (h refl))
body_flow_word s own anchor tag given_tag plain false limit indent column value cursor given flow h tidy read =
    plain_case s own anchor tag given_tag column (render_body plain s limit indent value cursor).text value given tidy read
body_flow_word s own anchor tag given_tag single_quoted bare limit indent column value cursor given flow h tidy read =
    quoted_flow_word (rules_of s own) false anchor tag given_tag bare (Some column)
    ((render_runs quotes_doubled limit indent true (runs value) (single_quote cursor).cursor).text ++ (0x27 ∷ [])) value given tidy read
body_flow_word s own anchor tag given_tag double_quoted bare limit indent column value cursor given flow h tidy read =
    quoted_flow_word (rules_of s own) true anchor tag given_tag bare (Some column)
    ((double_inside s.unicode limit indent None value (render_quote cursor).cursor).text ++ (0x22 ∷ [])) value given tidy read
body_flow_word s own anchor tag given_tag any_style bare limit indent column value cursor given flow h tidy read = absurd (none_not_some read)
body_flow_word s own anchor tag given_tag literal bare limit indent column value cursor given flow h tidy read = absurd (false≢true flow)
body_flow_word s own anchor tag given_tag folded bare limit indent column value cursor given flow h tidy read = absurd (false≢true flow)

-- after such a body white space has ended
pub body_ended : (s : Effective) (style : ScalarStyle) (limit : Option ℕ) (indent : ℕ) (value : Text) (cursor : Cursor) → is_flow_style style ≡ true
    → EndedCollection (render_body style s limit indent value cursor).cursor
body_ended s style limit indent value cursor h = grind (arith, nat_tests, and-false, false≢true)

-- in flow a space precedes each body, if none is there
pub separation_in_flow : (style : ScalarStyle) (value : Text) (cursor : Cursor) → (render_separation style true value cursor).text ≡ space_if true cursor
separation_in_flow style value cursor = grind (arith, nat_tests)

-- a scalar's text is a space if one is needed, and the properties before its body, and the body
pub scalar_whole : (portable : Bool) (directives : List TagDirective) (anchor tag : Option Text) (bare : Bool) (style : ScalarStyle) (value : Text)
    (cursor : Cursor) (body : Text)
    → (let properties : Rendered = render_properties portable directives anchor tag bare cursor in
    (properties.text ++ (render_separation style true value properties.cursor).text) ++ body)
    ≡ space_if true cursor ++ (lead anchor (tag_written portable directives tag bare) ++ body)
scalar_whole portable directives anchor tag bare style value cursor body = grind (arith, separation_in_flow, lead_rendered, append_assoc)
