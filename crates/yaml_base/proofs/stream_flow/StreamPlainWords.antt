-- Plain text is one word among the tokens of flow, before white space and a flow indicator.
use Rattle.yaml_base.proofs.Common.{and_from, or_from}
use Rattle.yaml_base.proofs.Common.{nat_tests, arith, ℕ, Some, codes, Bool, false, not, true, List, [], map, ◌++◌, ◌∷◌, refl, ◌≡◌, true≢false}
use Rattle.yaml_base.proofs.Common.{append-nil, append_assoc, ap, ◌∙◌, and_parts, or_parts, false≢true, map-append, list_all, Text, is_among, is_read_white}
use Rattle.yaml_base.proofs.Common.{holds_no_plain, read_plain, ends_white, has_clean_edges, FlowToken, word, free, FlowStep, FlowClass, is_white_blank}
use Rattle.yaml_base.proofs.{stream_flow.StreamWords.GivesWord, stream_keys.StreamPlainKeys.reads_plain}
use Rattle.yaml_base.proofs.Common.{is_white_break, is_flow_indicator, begins_bracket, class_of, flow_tokens, not-true}
use Rattle.yaml_base.specs.streams.StreamTokens.{in_plain, white_token, plain_step}

-- a character of a class ends a word, if white space does when the text after it does
abbrev pub ends_by : FlowClass → Bool → Bool
ends_by is_white_blank more = more
ends_by is_white_break more = more
ends_by is_flow_indicator more = true
ends_by begins_bracket more = true
ends_by _ more = false

-- a word ends before white space and then a flow indicator or a bracket
abbrev pub ends_word : Bool → Text → Bool
ends_word breaks12 [] = false
ends_word breaks12 (c ∷ rest) = ends_by (class_of breaks12 c) (ends_word breaks12 rest)

-- the tokens of some white characters
abbrev white_tokens : Bool → Text → List FlowToken
white_tokens breaks12 white = map (white_token breaks12) white

-- plain text ends there, and the white space after it is free again
plain_ends : (breaks12 : Bool) (text white rest : Text) → ends_word breaks12 rest ≡ true
    → flow_tokens breaks12 (in_plain text white) rest ≡ word text ∷ (white_tokens breaks12 white ++ flow_tokens breaks12 free rest)
plain_ends breaks12 text white [] h = absurd (false≢true h)
plain_ends breaks12 text white (c ∷ rest) h = grind (arith, map-append, append_assoc, plain_ends breaks12 text (white ++ (c ∷ [])) rest)

-- a class of characters that plain text goes on over
abbrev pub stays_plain : FlowClass → Bool
stays_plain is_flow_indicator = false
stays_plain begins_bracket = false
stays_plain _ = true

-- a class of white characters
abbrev pub is_white_class : FlowClass → Bool
is_white_class is_white_blank = true
is_white_class is_white_break = true
is_white_class _ = false

-- a text holds no flow indicator
abbrev pub all_stay : Bool → Text → Bool
all_stay breaks12 text = list_all (λ c. stays_plain (class_of breaks12 c)) text

-- the last character of a text isn't white
abbrev pub ends_shown : Bool → Text → Bool
ends_shown breaks12 [] = false
ends_shown breaks12 (c ∷ []) = not (is_white_class (class_of breaks12 c))
ends_shown breaks12 (c ∷ d ∷ rest) = ends_shown breaks12 (d ∷ rest)

-- one character that isn't white
passes_one : (breaks12 : Bool) (c : ℕ) (text white rest : Text) → (class : FlowClass) → stays_plain class ≡ true → not (is_white_class class) ≡ true
    → (let here : FlowStep = plain_step class breaks12 text white c in here.tokens ++ flow_tokens breaks12 here.place rest)
    ≡ flow_tokens breaks12 (in_plain (text ++ (white ++ (c ∷ []))) []) rest
passes_one breaks12 c text white rest class h k = grind (arith, nat_tests, false≢true)

-- plain text is passed whole, with the white space inside it
pub plain_passes : (breaks12 : Bool) (c : ℕ) (t text white rest : Text) → all_stay breaks12 (c ∷ t) ≡ true → ends_shown breaks12 (c ∷ t) ≡ true
    → flow_tokens breaks12 (in_plain text white) ((c ∷ t) ++ rest) ≡ flow_tokens breaks12 (in_plain (text ++ (white ++ (c ∷ t))) []) rest
plain_passes breaks12 c [] text white rest h k =
    passes_one _ c text white rest _ (and_parts _ true h).0 k
plain_passes breaks12 c (d ∷ t) text white rest h k =
    let parts = and_parts _ _ h in
    by (is_white_class (class_of breaks12 c)) (class_of breaks12 c) refl parts.0
    (λ text white. plain_passes breaks12 d t text white rest parts.1 k)
  where
    by : (w : Bool) (class : FlowClass) → is_white_class class ≡ w → stays_plain class ≡ true
        → ((text white : Text) → flow_tokens breaks12 (in_plain text white) ((d ∷ t) ++ rest)
        ≡ flow_tokens breaks12 (in_plain (text ++ (white ++ (d ∷ t))) []) rest)
        → (let here : FlowStep = plain_step class breaks12 text white c in here.tokens ++ flow_tokens breaks12 here.place ((d ∷ t) ++ rest))
        ≡ flow_tokens breaks12 (in_plain (text ++ (white ++ (c ∷ d ∷ t))) []) rest
    by false class e h ih =
        passes_one breaks12 c text white ((d ∷ t) ++ rest) class h (ap not e)
        ∙ ih (text ++ (white ++ (c ∷ []))) [] ∙ ap (λ s. flow_tokens breaks12 (in_plain s []) rest)
        (append_assoc text (white ++ (c ∷ [])) (d ∷ t) ∙ ap (λ s. text ++ s) (append_assoc white (c ∷ []) (d ∷ t)))
    by true is_white_blank e h ih =
        ih text (white ++ (c ∷ [])) ∙ ap (λ s. flow_tokens breaks12 (in_plain (text ++ s) []) rest) (append_assoc white (c ∷ []) (d ∷ t))
    by true is_white_break e h ih =
        ih text (white ++ (c ∷ [])) ∙ ap (λ s. flow_tokens breaks12 (in_plain (text ++ s) []) rest) (append_assoc white (c ∷ []) (d ∷ t))
    by true class e h ih = absurd (false≢true e)

-- a text without flow indicators, whose last character isn't white, is a word after its first character
pub plain_text_word : (breaks12 : Bool) (before : Text) (c : ℕ) (t rest : Text) → all_stay breaks12 t ≡ true → ends_shown breaks12 (c ∷ t) ≡ true
    → ends_word breaks12 rest ≡ true → GivesWord breaks12 (in_plain (before ++ (c ∷ [])) []) (before ++ (c ∷ [])) t rest
plain_text_word breaks12 before c t rest h k e = grind (arith, nat_tests, plain_ends, append-nil, plain_passes)

-- Texts that read as plain

-- a character that is none of the flow indicators
stays_at : (breaks12 : Bool) (c : ℕ) → is_among (codes ",?:[]{}") c ≡ false → stays_plain (class_of breaks12 c) ≡ true
stays_at breaks12 c h = grind (arith, or_parts)

-- a character of plain text in flow is no flow indicator
pub plain_stays : (breaks12 : Bool) (t : Text) → holds_no_plain breaks12 true t ≡ false → all_stay breaks12 t ≡ true
plain_stays breaks12 [] h = refl
plain_stays breaks12 (c ∷ t) h = grind (arith, and_parts, and_from, or_parts, or_from, stays_at, plain_stays breaks12 t)

-- a character that isn't white is of no white class
pub shown_at : (breaks12 : Bool) (c : ℕ) → is_read_white breaks12 c ≡ false → is_white_class (class_of breaks12 c) ≡ false
shown_at breaks12 c h = grind (arith, or_parts, true≢false)

-- the last character of a text with clean edges isn't white
pub clean_shown : (breaks12 : Bool) (c : ℕ) (t : Text) → ends_white breaks12 (c ∷ t) ≡ false → ends_shown breaks12 (c ∷ t) ≡ true
clean_shown breaks12 c [] h = ap not (shown_at breaks12 c h)
clean_shown breaks12 c (d ∷ t) h = clean_shown breaks12 d t h

-- a text that reads as plain in flow, with clean edges, is a word after its first character
pub plain_word : (breaks12 : Bool) (before : Text) (c : ℕ) (t rest v : Text) → read_plain breaks12 true (c ∷ t) ≡ Some v
    → has_clean_edges breaks12 (c ∷ t) ≡ true → ends_word breaks12 rest ≡ true
    → GivesWord breaks12 (in_plain (before ++ (c ∷ [])) []) (before ++ (c ∷ [])) t rest
plain_word breaks12 before c t rest v read clean ends =
    plain_text_word breaks12 before c t rest (and_parts _ _ (plain_stays breaks12 (c ∷ t) ((reads_plain breaks12 true c t v read).1))).1
    (clean_shown breaks12 c t (not-true (ends_white breaks12 (c ∷ t)) (and_parts _ _ clean).1)) ends
