-- A line that begins with the bracket of a collection in flow, after its properties, holds no simple key, so it begins no mapping
-- in a block.
use Rattle.yaml_base.proofs.Common.{nat_tests, arith, ℕ, ◌==◌, Option, None, Bool, false, true, [], ◌++◌, ◌∷◌, refl, ◌≡◌, append_assoc, ap, ◌∙◌}
use Rattle.yaml_base.proofs.Common.{and_parts, false≢true, Text, plain, read_plain, ParsedTag, begins_with_indicator, begins_text, kind_of_node, Rules}
use Rattle.yaml_base.proofs.{stream_flow.StreamPropertyWords.lead, stream_nodes.StreamOwnTexts.own_kind}
use Rattle.yaml_base.proofs.{stream_flow.StreamFlowWords.opens_inside, stream_flow.StreamFlowWords.Given, stream_keys.StreamKeys.none_parsed}
use Rattle.yaml_base.proofs.{stream_keys.StreamKeyReads.lead_no_text, stream_keys.StreamNoKeys.KeyNowhere, stream_keys.StreamNoKeys.nowhere_alone}
use Rattle.yaml_base.proofs.Common.{Properties, scalar_of_style, word_after}

-- the bracket that begins a sequence, and the one that begins a mapping
abbrev pub opening : (is_sequence : Bool) → ℕ
opening true = 0x5B
opening false = 0x7B

-- the text after a bracket on its line closes no collection at once
abbrev pub keeps_open : Text → Bool
keeps_open [] = true
keeps_open (c ∷ rest) = opens_inside (c ∷ rest)

-- the prefix of a text that keeps a bracket open does so too
pub keeps_prefix : (a b : Text) → keeps_open (a ++ b) ≡ true → keeps_open a ≡ true
keeps_prefix [] b h = refl
keeps_prefix (c ∷ a) b h = h

-- No words

-- no plain text begins with a bracket
no_plain_read : (breaks12 q : Bool) (t : Text) → read_plain breaks12 false (opening q ∷ t) ≡ None
no_plain_read breaks12 q t = grind (arith, nat_tests)

-- so no plain scalar does
no_scalar : (rules : Rules) (q : Bool) (properties : Properties) (t : Text) → scalar_of_style plain rules false None properties (opening q ∷ t) ≡ None
no_scalar rules q properties t = grind (arith, no_plain_read, none_parsed)

-- a character that closes nothing is no closing bracket
not_closing : (c : ℕ) → opens_inside (c ∷ []) ≡ true → ((c == 0x5D) ≡ false) × ((c == 0x7D) ≡ false)
not_closing c h = grind (arith, and_parts, false≢true)

-- a bracket and a text that keeps it open are no word, whatever properties it has
no_word : (rules : Rules) (q : Bool) (properties : Properties) (t : Text) → keeps_open t ≡ true → word_after rules false None properties (opening q ∷ t) ≡ None
no_word rules true properties [] h = no_scalar rules true properties []
no_word rules true properties (c ∷ []) h = grind (arith, nat_tests, not_closing, no_scalar)
no_word rules true properties (c ∷ d ∷ t) h = no_scalar rules true properties (c ∷ d ∷ t)
no_word rules false properties [] h = no_scalar rules false properties []
no_word rules false properties (c ∷ []) h = grind (arith, nat_tests, not_closing, no_scalar)
no_word rules false properties (c ∷ d ∷ t) h = no_scalar rules false properties (c ∷ d ∷ t)

-- No keys

-- no `:` after it ends a key
bracket_nowhere : (rules : Rules) (anchor tag : Option Text) (parsed : Option ParsedTag) (q : Bool) (b t : Text)
    → Given rules anchor tag parsed → keeps_open (b ++ t) ≡ true
    → KeyNowhere rules (lead anchor tag ++ (opening q ∷ b)) t
bracket_nowhere rules anchor tag parsed q b [] given h = tt
bracket_nowhere rules anchor tag parsed q b (x ∷ t) given h =
    let each = bracket_nowhere rules anchor tag parsed q (b ++ (x ∷ [])) t given (ap keeps_open (append_assoc b (x ∷ []) t) ∙ h) in
    grind (arith, nat_tests, lead_no_text, no_word, keeps_prefix, append_assoc, each)

-- Kinds

-- a bracket is no indicator of an item and none of a key
bracket_indicator : (q : Bool) (t : Text) → (begins_with_indicator 0x2D (opening q ∷ t) ≡ false) × (begins_with_indicator 0x3F (opening q ∷ t) ≡ false)
bracket_indicator true t = (refl, refl)
bracket_indicator false t = (refl, refl)

-- the first line of a collection in flow that holds something is a text
pub collection_kind : (rules : Rules) (anchor tag : Option Text) (parsed : Option ParsedTag) (q : Bool) (t : Text)
    → Given rules anchor tag parsed → keeps_open t ≡ true
    → kind_of_node rules (lead anchor tag ++ (opening q ∷ t)) ≡ begins_text
collection_kind rules anchor tag parsed q t given h = grind (arith, own_kind, bracket_indicator, bracket_nowhere, nowhere_alone)

-- and so is an empty one
pub empty_kind : (rules : Rules) (anchor tag : Option Text) (parsed : Option ParsedTag) → Given rules anchor tag parsed
    → (kind_of_node rules (lead anchor tag ++ (0x5B ∷ 0x5D ∷ [])) ≡ begins_text) × (kind_of_node rules (lead anchor tag ++ (0x7B ∷ 0x7D ∷ [])) ≡ begins_text)
empty_kind rules anchor tag parsed given =
    (own_kind rules anchor tag parsed 0x5B (0x5D ∷ []) given refl refl refl, own_kind rules anchor tag parsed 0x7B (0x7D ∷ []) given refl refl refl)
