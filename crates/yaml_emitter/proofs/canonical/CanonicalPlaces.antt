-- The canonical reader's tokens for the indicators of places and the properties of nodes.
use Rattle.yaml_emitter.proofs.Common.{ℕ, Option, None, Some, codes, Bool, false, true, List, [], ◌++◌, ◌∷◌, refl, ◌≡◌, append-nil, append_assoc, subst, sym}
use Rattle.yaml_emitter.proofs.Common.{Text, Cursor, new_line, space_if, indicator, TagDirective, root_place, render_anchor, render_spelling, render_properties}
use Rattle.yaml_emitter.proofs.Common.{entry_place, Role, as_root, as_item, as_key, as_value, Place, opening_or_comma, render_place, Effective, spelling, Token}
use Rattle.yaml_emitter.proofs.Common.{directives_fault, directives_in_force, spelled, tag_token, opens_sequence, opens_mapping, key_token, value_token, comma}
use Rattle.yaml_base.proofs.stream_nodes.StreamLeads.{spelling_text, spelling_ended}
use Rattle.yaml_emitter.proofs.canonical.CanonicalNames.{IsName, anchor_says, IsTagText, tag_says, tag_text}
use Rattle.yaml_emitter.proofs.canonical.CanonicalText.{Demand, anything, name_ends, space_next, Says, Opens, opens_append, opens_any, says_then, says_after}
use Rattle.yaml_emitter.proofs.canonical.CanonicalText.{says_text, says_nothing, says_white, white-opens, space_if-white, new_line-white, indicator_says}
use Rattle.yaml_emitter.proofs.canonical.CanonicalText.{indicator_opens, line_says, space_first, symbol_says}
use Rattle.yaml_emitter.proofs.canonical.CanonicalTokens.{anchor_tokens, properties_tokens, entry_indicator}

-- settings in canonical mode
abbrev pub in_canonical : Effective → Effective
in_canonical s = record s { canonical = true }

-- an entry of a flow collection, or else the root
pub record Spot : Type 0 where
  pub role : Role
  pub column : ℕ

abbrev pub place_of : Option Spot → Place
place_of None = root_place
place_of (Some spot) = entry_place true spot.role spot.column

abbrev pub role_tokens : Role → List Token
role_tokens as_root = []
role_tokens (as_item first) = entry_indicator opens_sequence first ∷ []
role_tokens (as_key first) = entry_indicator opens_mapping first ∷ key_token ∷ []
role_tokens (as_value simple) = value_token ∷ []

abbrev pub spot_tokens : Option Spot → List Token
spot_tokens None = []
spot_tokens (Some spot) = role_tokens spot.role

-- a demand that a text at this cursor meets, written after a space
abbrev pub Fits : Demand → Cursor → Type 0
Fits anything cursor = Unit {0}
Fits name_ends cursor = cursor.whitespace ≡ false
Fits space_next cursor = cursor.whitespace ≡ false

abbrev pub Entered : (first : Bool) → Demand → Cursor → Type 0
Entered true demand cursor = Fits demand cursor
Entered false demand cursor = demand ≡ name_ends

abbrev pub RoleFollows : Role → Demand → Cursor → Type 0
RoleFollows as_root demand cursor = demand ≡ anything
RoleFollows (as_item first) demand cursor = Entered first demand cursor
RoleFollows (as_key first) demand cursor = Entered first demand cursor
RoleFollows (as_value simple) demand cursor = demand ≡ name_ends

abbrev pub Follows : Option Spot → Demand → Cursor → Type 0
Follows None demand cursor = demand ≡ anything
Follows (Some spot) demand cursor = RoleFollows spot.role demand cursor

-- Indicators.

module _ (breaks12 : Bool) (s : Effective) where
  opening_says : (bracket : Text) (token : Token) → Says breaks12 anything bracket (token ∷ []) → (first : Bool) (cursor : Cursor)
      → Says breaks12 anything (opening_or_comma bracket first cursor).text (entry_indicator token first ∷ [])
  opening_says bracket token says true cursor = indicator_says true true false cursor says
  opening_says bracket token says false cursor = indicator_says false false false cursor (symbol_says breaks12 0x2C comma refl refl refl refl)

  role_says : (role : Role) (column : ℕ) (cursor : Cursor)
      → Says breaks12 anything (render_place (in_canonical s) (entry_place true role column) false cursor).text (role_tokens role)
  role_says as_root column cursor = says_nothing breaks12
  role_says (as_item first) column cursor =
      let opening = opening_or_comma (codes "[") first cursor in
      says_after (opening_says (codes "[") opens_sequence (symbol_says breaks12 0x5B opens_sequence refl refl refl refl) first cursor)
      (line_says breaks12 column opening.cursor)
  role_says (as_key first) column cursor =
      let opening = opening_or_comma (codes "{") first cursor in
      let line = new_line column opening.cursor in
      says_after (says_after (opening_says (codes "{") opens_mapping (symbol_says breaks12 0x7B opens_mapping refl refl refl refl) first cursor)
      (line_says breaks12 column opening.cursor))
      (indicator_says true false false line.cursor (symbol_says breaks12 0x3F key_token refl refl refl refl))
  role_says (as_value true) column cursor = indicator_says false false false cursor (symbol_says breaks12 0x3A value_token refl refl refl refl)
  role_says (as_value false) column cursor =
      let line = new_line column cursor in
      says_after (line_says breaks12 column cursor) (indicator_says true false false line.cursor (symbol_says breaks12 0x3A value_token refl refl refl refl))

  pub place_says : (at : Option Spot) (cursor : Cursor)
      → Says breaks12 anything (render_place (in_canonical s) (place_of at) false cursor).text (spot_tokens at)
  place_says None cursor = says_nothing breaks12
  place_says (Some spot) cursor = role_says spot.role spot.column cursor

pub opening_opens : (bracket : Text) (demand : Demand) (first : Bool) (cursor : Cursor) → Opens name_ends bracket → Entered first demand cursor
    → Opens demand (opening_or_comma bracket first cursor).text
opening_opens bracket anything true cursor o h = opens_any (opening_or_comma bracket true cursor).text
opening_opens bracket name_ends true cursor o h = indicator_opens bracket true true false cursor o
opening_opens bracket space_next true cursor o h = space_first cursor bracket h
opening_opens bracket demand false cursor o h =
    subst (λ d. Opens d (opening_or_comma bracket false cursor).text) (sym h)
    (indicator_opens (codes ",") false false false cursor (record { meets = λ rest. refl }))

module _ (s : Effective) where
  role_opens : (role : Role) (column : ℕ) (demand : Demand) (cursor : Cursor) → RoleFollows role demand cursor
      → Opens demand (render_place (in_canonical s) (entry_place true role column) false cursor).text
  role_opens as_root column demand cursor h = subst (λ d. Opens d []) (sym h) (opens_any [])
  role_opens (as_item first) column demand cursor h =
      let opening = opening_or_comma (codes "[") first cursor in
      opens_append opening.text (new_line column opening.cursor).text
      (opening_opens (codes "[") demand first cursor (record { meets = λ rest. refl }) h)
  role_opens (as_key first) column demand cursor h =
      let opening = opening_or_comma (codes "{") first cursor in
      let line = new_line column opening.cursor in
      opens_append (opening.text ++ line.text) (indicator (codes "?") true false false line.cursor).text
      (opens_append opening.text line.text (opening_opens (codes "{") demand first cursor (record { meets = λ rest. refl }) h))
  role_opens (as_value true) column demand cursor h =
      subst (λ d. Opens d (render_place (in_canonical s) (entry_place true (as_value true) column) false cursor).text) (sym h)
      (indicator_opens (codes ":") false false false cursor (record { meets = λ rest. refl }))
  role_opens (as_value false) column demand cursor h =
      let line = new_line column cursor in
      subst (λ d. Opens d (render_place (in_canonical s) (entry_place true (as_value false) column) false cursor).text) (sym h)
      (white-opens line.text (indicator (codes ":") true false false line.cursor).text (new_line-white column cursor)
      (indicator_opens (codes ":") true false false line.cursor (record { meets = λ rest. refl })))

  pub place_opens : (at : Option Spot) (demand : Demand) (cursor : Cursor) → Follows at demand cursor
      → Opens demand (render_place (in_canonical s) (place_of at) false cursor).text
  place_opens None demand cursor h = subst (λ d. Opens d []) (sym h) (opens_any [])
  place_opens (Some spot) demand cursor h = role_opens spot.role spot.column demand cursor h

-- Properties.

abbrev pub AnchorOk : Option Text → Type 0
AnchorOk None = Unit {0}
AnchorOk (Some name) = IsName name

-- the demand on the text after a node's properties
abbrev pub demand_of : Option Text → Option Text → (bare : Bool) → Demand
demand_of anchor (Some tag) bare = space_next
demand_of anchor None true = space_next
demand_of (Some name) None false = name_ends
demand_of None None false = anything

abbrev anchor_demand : Option Text → Demand
anchor_demand None = anything
anchor_demand (Some name) = name_ends

tag_opens : (demand : Demand) (cursor : Cursor) (text : Text) → IsTagText text → Opens name_ends (space_if true cursor ++ text)
tag_opens demand cursor text tag =
    white-opens (space_if true cursor) text (space_if-white true cursor)
    (subst (λ t. Opens name_ends t) (sym tag.is) (record { meets = λ rest. refl }))

module _ (breaks12 portable : Bool) (own : List TagDirective) (sound : directives_fault own ≡ None) where
  anchored : (anchor : Option Text) (cursor : Cursor) → AnchorOk anchor
      → Says breaks12 (anchor_demand anchor) (render_anchor anchor cursor).text (anchor_tokens anchor)
  anchored None cursor ok = says_nothing breaks12
  anchored (Some name) cursor ok =
      says_text (render_anchor (Some name) cursor).text (append_assoc (space_if true cursor) (codes "&") name)
      (says_after (says_white breaks12 (space_if true cursor) (space_if-white true cursor)) (anchor_says breaks12 name ok))

  -- a tag's text after an anchor or none
  tag_after : (anchor : Option Text) (cursor : Cursor) (text tag : Text) → AnchorOk anchor → IsTagText tag
      → text ≡ space_if true (render_anchor anchor cursor).cursor ++ tag
      → Says breaks12 space_next ((render_anchor anchor cursor).text ++ text) (anchor_tokens anchor ++ tag_token tag ∷ [])
  tag_after anchor cursor text tag ok is e =
      let after = (render_anchor anchor cursor).cursor in
      let tag_part = says_after (says_white breaks12 (space_if true after) (space_if-white true after)) (tag_says breaks12 tag is) in
      says_then (anchored anchor cursor ok) (subst (λ t. Opens (anchor_demand anchor) t) (sym e) (opens anchor after)) (says_text text e tag_part)
    where
      opens : (given : Option Text) (after : Cursor) → Opens (anchor_demand given) (space_if true after ++ tag)
      opens None after = opens_any (space_if true after ++ tag)
      opens (Some name) after = tag_opens anything after tag is

  pub properties_say : (anchor tag : Option Text) (bare : Bool) (cursor : Cursor) → AnchorOk anchor
      → Says breaks12 (demand_of anchor tag bare) (render_properties portable (directives_in_force own) anchor tag bare cursor).text
      (properties_tokens portable own anchor tag bare)
  properties_say anchor (Some tag) bare cursor ok =
      let after = (render_anchor anchor cursor).cursor in
      tag_after anchor cursor (render_spelling portable (spelling (directives_in_force own) tag) after).text
      (spelled portable (spelling (directives_in_force own) tag)) ok
      (tag_text portable own tag sound) (spelling_text portable (spelling (directives_in_force own) tag) after)
  properties_say anchor None true cursor ok =
      let after = (render_anchor anchor cursor).cursor in
      tag_after anchor cursor (space_if true after ++ codes "!") (codes "!") ok (record { rest = []; is = refl; written = refl }) refl
  properties_say None None false cursor ok = says_nothing breaks12
  properties_say (Some name) None false cursor ok =
      says_text ((render_anchor (Some name) cursor).text ++ []) (append-nil (render_anchor (Some name) cursor).text) (anchored (Some name) cursor ok)

  pub properties_fit : (anchor tag : Option Text) (bare : Bool) (cursor : Cursor)
      → Fits (demand_of anchor tag bare) (render_properties portable (directives_in_force own) anchor tag bare cursor).cursor
  properties_fit anchor (Some tag) bare cursor =
      (spelling_ended portable (spelling (directives_in_force own) tag) (render_anchor anchor cursor).cursor).white
  properties_fit anchor None true cursor = refl
  properties_fit None None false cursor = tt
  properties_fit (Some name) None false cursor = refl
