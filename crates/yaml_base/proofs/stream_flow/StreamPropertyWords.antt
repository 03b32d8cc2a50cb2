-- The tokens of a word in flow with its anchor and tag before it: it is one word with them, and so is a bracket that opens a collection.
use Rattle.yaml_base.proofs.Common.{and_from, and_parts, or_from}
use Rattle.yaml_base.proofs.Common.{ℕ, Option, None, Some, Bool, false, true, ◌||◌, List, [], ◌++◌, ◌∷◌, refl, ◌≡◌, true≢false, append-nil, append_assoc, ap}
use Rattle.yaml_base.proofs.Common.{sym, ◌∙◌, arith, or_parts, false≢true, nat_tests, Text, space, is_blank, is_break, TagDirective, read_plain, ParsedTag}
use Rattle.yaml_base.proofs.Common.{has_clean_edges, word, opens, FlowPlace, free, FlowStep, FlowClass, begins_property, begins_double, begins_single}
use Rattle.yaml_base.proofs.{TagWords.letters_end_no_word, stream_lines.StreamCuts.quote_of, stream_lines.StreamCuts.read_quoted}
use Rattle.yaml_base.proofs.Common.{begins_bracket, begins_plain, class_of, begun_token, bracket_step, is_pair, flow_tokens}
use Rattle.yaml_base.proofs.stream_flow.StreamPlainWords.{is_white_class, shown_at, plain_word}
use Rattle.yaml_base.proofs.stream_flow.StreamWords.{shifted, double_quoted_word, single_quoted_word}
use Rattle.yaml_base.proofs.stream_flow.StreamSays.{Says, ends_unquoted, class_fixed}
use Rattle.yaml_base.proofs.stream_nodes.StreamProperties.{holds_white, WrittenTag, IsTagged, IsNamed, name_letters}
use Rattle.yaml_base.specs.streams.StreamTokens.{in_property, after_property, begun_after_property, property_step}

-- the anchor and the tag as they are written, and a space after them
abbrev pub lead : Option Text → Option Text → Text
lead None None = []
lead (Some name) None = 0x26 ∷ (name ++ (space ∷ []))
lead None (Some tag) = tag ++ (space ∷ [])
lead (Some name) (Some tag) = (0x26 ∷ (name ++ (space ∷ tag))) ++ (space ∷ [])

-- the place of the tokens after such a text
abbrev pub lead_place : Text → FlowPlace
lead_place [] = free
lead_place (c ∷ text) = after_property (c ∷ text)

-- a character that is neither a blank nor a break is of no white class
not_white : (breaks12 : Bool) (c : ℕ) → (is_blank c || is_break c) ≡ false → is_white_class (class_of breaks12 c) ≡ false
not_white breaks12 c h = grind (arith, nat_tests, shown_at)

-- a character of a property is passed
property_passes : (class : FlowClass) (text : Text) (c : ℕ) → is_white_class class ≡ false
    → property_step class text c ≡ record { tokens = []; place = in_property (text ++ (c ∷ [])) }
property_passes class text c h = grind (arith, nat_tests, true≢false)

-- the rest of a property is passed whole
rest_passes : (breaks12 : Bool) (before text rest : Text) → holds_white text ≡ false
    → flow_tokens breaks12 (in_property before) (text ++ rest) ≡ flow_tokens breaks12 (in_property (before ++ text)) rest
rest_passes breaks12 before [] rest h = ap (λ t. flow_tokens breaks12 (in_property t) rest) (sym (append-nil before))
rest_passes breaks12 before (c ∷ text) rest h =
    grind (arith, and_parts, and_from, or_parts, or_from, property_passes, not_white, append_assoc, rest_passes breaks12 (before ++ (c ∷ [])) text rest)

-- the place at which it begins: between tokens or after another
begin_property : (breaks12 : Bool) (c : ℕ) (rest : Text) → class_of breaks12 c ≡ begins_property
    → flow_tokens breaks12 free (c ∷ rest) ≡ flow_tokens breaks12 (in_property (c ∷ [])) rest
begin_property breaks12 c rest e =
    ap (λ class. (let here : FlowStep = begun_token class [] c in here.tokens ++ flow_tokens breaks12 here.place rest)) e

next_property : (breaks12 : Bool) (before : Text) (c : ℕ) (rest : Text) → class_of breaks12 c ≡ begins_property
    → flow_tokens breaks12 (after_property before) (c ∷ rest) ≡ flow_tokens breaks12 (in_property (before ++ (c ∷ []))) rest
next_property breaks12 before c rest e =
    ap (λ class. (let here : FlowStep = begun_after_property class before c in here.tokens ++ flow_tokens breaks12 here.place rest)) e

-- the rest of a tag isn't white
rest_not_white : (directives : List TagDirective) (tag : Text) (parsed : ParsedTag) (tagged : WrittenTag directives tag parsed)
    → holds_white tagged.rest ≡ false
rest_not_white directives tag parsed tagged =
    (or_parts (is_blank 0x21 || is_break 0x21) (holds_white tagged.rest) (ap holds_white (sym tagged.begins) ∙ tagged.no_white)).1

-- the space after it ends it
property_ends : (breaks12 : Bool) (before rest : Text)
    → flow_tokens breaks12 (in_property before) (space ∷ rest) ≡ flow_tokens breaks12 (after_property (before ++ (space ∷ []))) rest
property_ends breaks12 before rest = grind (arith, nat_tests, class_fixed)

-- tokens after an anchor and a tag, and the space after them
pub lead_passes : (breaks12 : Bool) (directives : List TagDirective) (anchor tag : Option Text) (parsed : Option ParsedTag) (rest : Text)
    → IsNamed anchor → IsTagged directives tag parsed
    → flow_tokens breaks12 free (lead anchor tag ++ rest) ≡ flow_tokens breaks12 (lead_place (lead anchor tag)) rest
lead_passes breaks12 directives None None None rest named tagged = refl
lead_passes breaks12 directives (Some name) None None rest named tagged =
    grind (arith, begin_property, class_fixed breaks12 0x26 refl, append_assoc, rest_passes, letters_end_no_word, name_letters, property_ends)
lead_passes breaks12 directives None (Some tag) (Some parsed) rest named tagged =
    grind (arith, begin_property, class_fixed breaks12 0x21 refl, append_assoc, rest_passes, rest_not_white, property_ends)
lead_passes breaks12 directives (Some name) (Some tag) (Some parsed) rest named tagged =
    grind (arith, begin_property, class_fixed, rest_passes, letters_end_no_word, name_letters, property_ends, next_property, append_assoc, rest_not_white)
lead_passes breaks12 directives None None (Some parsed) rest named tagged = absurd tagged
lead_passes breaks12 directives None (Some tag) None rest named tagged = absurd tagged
lead_passes breaks12 directives (Some name) None (Some parsed) rest named tagged = absurd tagged
lead_passes breaks12 directives (Some name) (Some tag) None rest named tagged = absurd tagged

-- Words after properties

-- the first character of a node's own text
abbrev pub begins_own : FlowClass → Bool
begins_own begins_double = true
begins_own begins_single = true
begins_own begins_bracket = true
begins_own begins_plain = true
begins_own _ = false

-- after properties or without them, it begins a word with these
begun_with : (breaks12 : Bool) (before : Text) (c : ℕ) (rest : Text) (class : FlowClass) → class_of breaks12 c ≡ class → begins_own class ≡ true
    → flow_tokens breaks12 (lead_place before) (c ∷ rest)
    ≡ (let here : FlowStep = begun_token class before c in here.tokens ++ flow_tokens breaks12 here.place rest)
begun_with breaks12 before c rest class h h2 = grind (arith, nat_tests, false≢true)

-- the tokens pass over a text, to a place at which the next text begins a word with it
abbrev pub Leads : Bool → Text → Type 0
Leads breaks12 before = (rest : Text) → flow_tokens breaks12 free (before ++ rest) ≡ flow_tokens breaks12 (lead_place before) rest

-- a word that begins after such a text
begun_after : (breaks12 : Bool) (before : Text) (c : ℕ) (t rest : Text) (class : FlowClass) → Leads breaks12 before → class_of breaks12 c ≡ class
    → begins_own class ≡ true
    → flow_tokens breaks12 free ((before ++ (c ∷ t)) ++ rest)
    ≡ (let here : FlowStep = begun_token class before c in here.tokens ++ flow_tokens breaks12 here.place (t ++ rest))
begun_after breaks12 before c t rest class leads e own =
    ap (flow_tokens breaks12 free) (append_assoc before (c ∷ t) rest) ∙ leads (c ∷ (t ++ rest)) ∙ begun_with breaks12 before c (t ++ rest) class e own

-- a scalar in quotes, with its properties
pub says_quoted_after : (double breaks12 : Bool) (before t v : Text) → Leads breaks12 before → read_quoted double breaks12 (quote_of double ∷ t) ≡ Some v
    → Says breaks12 (before ++ (quote_of double ∷ t)) (word (before ++ (quote_of double ∷ t)) ∷ [])
says_quoted_after true breaks12 before t v leads read = record {
  says = λ rest h.
      begun_after _ _ 0x22 t rest _ leads (class_fixed _ 0x22 refl) refl ∙ double_quoted_word _ _ t rest v read ∙ shifted _ _ 0x22 t rest;
}
says_quoted_after false breaks12 before t v leads read = record {
  says = λ rest h.
      begun_after _ _ 0x27 t rest _ leads (class_fixed _ 0x27 refl) refl
      ∙ single_quoted_word _ _ t rest v read (ends_unquoted _ rest h) ∙ shifted _ _ 0x27 t rest;
}

-- a plain one
pub says_plain_after : (breaks12 : Bool) (before : Text) (c : ℕ) (t v : Text) → Leads breaks12 before → class_of breaks12 c ≡ begins_plain
    → read_plain breaks12 true (c ∷ t) ≡ Some v → has_clean_edges breaks12 (c ∷ t) ≡ true
    → Says breaks12 (before ++ (c ∷ t)) (word (before ++ (c ∷ t)) ∷ [])
says_plain_after breaks12 before c t v leads e read clean = record {
  says = λ rest h.
      begun_after _ _ c t rest _ leads e refl ∙ plain_word _ _ c t rest v read clean h ∙ shifted _ _ c t rest;
}

-- an empty collection
pub says_empty_after : (breaks12 : Bool) (before : Text) (b c : ℕ) → Leads breaks12 before → class_of breaks12 b ≡ begins_bracket → is_pair b c ≡ true
    → Says breaks12 (before ++ (b ∷ c ∷ [])) (word (before ++ (b ∷ c ∷ [])) ∷ [])
says_empty_after breaks12 before b c leads e pair = record {
  says = λ rest h.
      begun_after breaks12 before b (c ∷ []) rest begins_bracket leads e refl
      ∙ ap (λ x. (let here : FlowStep = bracket_step x (class_of breaks12 c) before b c in here.tokens ++ flow_tokens breaks12 here.place rest)) pair;
}

-- a bracket opens a collection with its properties, if the next character doesn't close it
pub opens_after : (breaks12 : Bool) (before : Text) (b c : ℕ) (rest : Text) → Leads breaks12 before → class_of breaks12 b ≡ begins_bracket → is_pair b c ≡ false
    → flow_tokens breaks12 free (before ++ (b ∷ c ∷ rest)) ≡ opens before b ∷ flow_tokens breaks12 free (c ∷ rest)
opens_after breaks12 before b c rest leads e pair = grind (arith, begun_with)
