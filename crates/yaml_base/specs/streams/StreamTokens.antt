-- The tokens of a flow collection's text, one character after another: words, each the whole text of a scalar, an alias or an empty
-- collection with its properties, and indicators, blanks and breaks.
-- Source, unless a definition names its own: helpers of this project's reader for c-flow-sequence(n,c) and c-flow-mapping(n,c)
-- (YAML 1.1, sections 10.1.1 Flow Sequences and 10.2.1 Flow Mappings).
use Rattle.std.specs.Prelude.{ℕ, Bool, true, false, List, [], ◌∷◌, ◌++◌, ◌==◌, ◌||◌, ◌&&◌, map, codes, if◌then◌else◌}
use Rattle.yaml_base.specs.Characters.{Text, is_among, space}
use Rattle.yaml_base.specs.LineBreaks.{is_read_break}

-- a node's own text; a bracket that opens a collection, after the text of its properties; an indicator; a blank; a break; a
-- fault of the text
pub data FlowToken : Type 0 where
  word : Text → FlowToken
  opens : (properties : Text) (bracket : ℕ) → FlowToken
  symbol : ℕ → FlowToken
  blank : FlowToken
  line_end : FlowToken
  bad : FlowToken

-- the place of a character: between tokens; in the word of an anchor or a tag, or after blanks that follow one; in plain text or in white
-- space after it; in double quotes, also after a backslash; in single quotes, also after a quote; or after a bracket
pub data FlowPlace : Type 0 where
  free : FlowPlace
  in_property : Text → FlowPlace
  after_property : Text → FlowPlace
  in_plain : Text → (white : Text) → FlowPlace
  in_double : Text → FlowPlace
  after_backslash : Text → FlowPlace
  in_single : Text → FlowPlace
  after_quote : Text → FlowPlace
  after_bracket : (properties : Text) (bracket : ℕ) → FlowPlace

-- the tokens that a character completes, and the place after it
pub record FlowStep : Type 0 where
  pub tokens : List FlowToken
  pub place : FlowPlace

-- a character that completes nothing
abbrev pub goes_to : FlowPlace → FlowStep
goes_to place = record { tokens = []; place = place }

-- a character that is a token or ends one
abbrev pub completes : FlowToken → FlowStep
completes token = record { tokens = token ∷ []; place = free }

-- tokens before a turn
abbrev pub prepend_tokens : List FlowToken → FlowStep → FlowStep
prepend_tokens tokens turn = record { tokens = tokens ++ turn.tokens; place = turn.place }

-- the class of a character between tokens
pub data FlowClass : Type 0 where
  is_white_blank : FlowClass
  is_white_break : FlowClass
  is_flow_indicator : FlowClass
  begins_property : FlowClass
  begins_double : FlowClass
  begins_single : FlowClass
  begins_bracket : FlowClass
  begins_plain : FlowClass

-- the class of a character: a space, a break, one of `]},:?`, one of `&!`, a quote, a bracket, or any other
-- (YAML 1.1, sections 5.3 Indicator Characters, 5.4 Line Break Characters and 5.5 Miscellaneous Characters, c-indicator, b-normalized, s-char)
abbrev pub class_of : Bool → ℕ → FlowClass
class_of breaks12 c =
    if c == space then is_white_blank
    else (if is_read_break breaks12 c then is_white_break
    else (if is_among (codes "]},:?") c then is_flow_indicator
    else (if is_among (codes "&!") c then begins_property
    else (if c == 0x22 then begins_double
    else (if c == 0x27 then begins_single
    else (if is_among (codes "[{") c then begins_bracket else begins_plain))))))

-- the step of a token's first character, after the text of properties before it
abbrev pub begun_token : FlowClass → (properties : Text) → ℕ → FlowStep
begun_token is_white_blank properties c = completes blank
begun_token is_white_break properties c = completes line_end
begun_token is_flow_indicator properties c = completes (symbol c)
begun_token begins_property properties c = goes_to (in_property (properties ++ c ∷ []))
begun_token begins_double properties c = goes_to (in_double (properties ++ c ∷ []))
begun_token begins_single properties c = goes_to (in_single (properties ++ c ∷ []))
begun_token begins_bracket properties c = goes_to (after_bracket properties c)
begun_token begins_plain properties c = goes_to (in_plain (properties ++ c ∷ []) [])

-- the step after properties: more blanks, or the node that they belong to, on the same line (this project, stricter than YAML 1.1, section
-- 6.3 Separation Spaces, s-separate(n,c))
abbrev pub begun_after_property : FlowClass → Text → ℕ → FlowStep
begun_after_property is_white_blank text c = goes_to (after_property (text ++ c ∷ []))
begun_after_property is_white_break text c = completes bad
begun_after_property is_flow_indicator text c = completes bad
begun_after_property class text c = begun_token class text c

-- the step in an anchor or a tag, which goes on to a blank (YAML 1.1, sections 8.1 Node Anchors and 8.2 Node Tags, c-ns-anchor-property,
-- c-ns-tag-property)
abbrev pub property_step : FlowClass → Text → ℕ → FlowStep
property_step is_white_blank text c = goes_to (after_property (text ++ c ∷ []))
property_step is_white_break text c = completes bad
property_step class text c = goes_to (in_property (text ++ c ∷ []))

-- the token of a class of white characters
abbrev pub white_of_class : FlowClass → FlowToken
white_of_class is_white_blank = blank
white_of_class _ = line_end

-- the token of a white character
abbrev pub white_token : Bool → ℕ → FlowToken
white_token breaks12 c = white_of_class (class_of breaks12 c)

-- a word that ended, the white space after it, and the indicator that ended it
abbrev pub word_ends : Bool → Text → Text → FlowStep → FlowStep
word_ends breaks12 text white turn = prepend_tokens (word text ∷ map (white_token breaks12) white) turn

-- the step in plain text, which goes on, also over white space, to a flow indicator (YAML 1.1, section 9.1.3 Plain, ns-plain(n,c))
abbrev pub plain_step : FlowClass → Bool → Text → Text → ℕ → FlowStep
plain_step is_white_blank breaks12 text white c = goes_to (in_plain text (white ++ c ∷ []))
plain_step is_white_break breaks12 text white c = goes_to (in_plain text (white ++ c ∷ []))
plain_step is_flow_indicator breaks12 text white c = word_ends breaks12 text white (begun_token is_flow_indicator [] c)
plain_step begins_bracket breaks12 text white c = word_ends breaks12 text white (begun_token begins_bracket [] c)
plain_step class breaks12 text white c = goes_to (in_plain (text ++ (white ++ c ∷ [])) [])

-- the step after a bracket: the one that closes it makes a word, all else is inside
abbrev pub bracket_step : (closes : Bool) → FlowClass → Text → ℕ → ℕ → FlowStep
bracket_step true class properties bracket c = completes (word (properties ++ (bracket ∷ c ∷ [])))
bracket_step false class properties bracket c = prepend_tokens (opens properties bracket ∷ []) (begun_token class [] c)

-- true if a closing bracket matches an opening one (YAML 1.1, section 5.3 Indicator Characters, c-sequence-start to c-mapping-end)
abbrev pub is_pair : ℕ → ℕ → Bool
is_pair bracket c = (bracket == 0x5B && c == 0x5D) || (bracket == 0x7B && c == 0x7D)

-- the step of a character at a place
abbrev pub flow_step_at : Bool → FlowPlace → ℕ → FlowStep
flow_step_at breaks12 free c = begun_token (class_of breaks12 c) [] c
flow_step_at breaks12 (in_property text) c = property_step (class_of breaks12 c) text c
flow_step_at breaks12 (after_property text) c = begun_after_property (class_of breaks12 c) text c
flow_step_at breaks12 (in_plain text white) c = plain_step (class_of breaks12 c) breaks12 text white c
flow_step_at breaks12 (in_double text) c =
    if c == 0x22 then completes (word (text ++ c ∷ []))
    else goes_to (if c == 0x5C then after_backslash (text ++ c ∷ []) else in_double (text ++ c ∷ []))
flow_step_at breaks12 (after_backslash text) c = goes_to (in_double (text ++ c ∷ []))
flow_step_at breaks12 (in_single text) c = goes_to (if c == 0x27 then after_quote (text ++ c ∷ []) else in_single (text ++ c ∷ []))
flow_step_at breaks12 (after_quote text) c =
    if c == 0x27 then goes_to (in_single (text ++ c ∷ []))
    else prepend_tokens (word text ∷ []) (begun_token (class_of breaks12 c) [] c)
flow_step_at breaks12 (after_bracket properties bracket) c =
    bracket_step (is_pair bracket c) (class_of breaks12 c) properties bracket c

-- the tokens at the end of a text: it ends between tokens, and is cut short anywhere else
abbrev pub tokens_at_end : FlowPlace → List FlowToken
tokens_at_end free = []
tokens_at_end _ = bad ∷ []

-- the tokens of a text from a place on
abbrev pub flow_tokens : Bool → FlowPlace → Text → List FlowToken
flow_tokens breaks12 place [] = tokens_at_end place
flow_tokens breaks12 place (c ∷ rest) =
    let here = flow_step_at breaks12 place c in here.tokens ++ flow_tokens breaks12 here.place rest
