-- The tokens of a text in flow for its reader, before anything that ends a word.
use Rattle.yaml_base.proofs.Common.{arith, ℕ, Bool, false, true, List, [], ◌++◌, ◌∷◌, refl, ◌≡◌, eqb-true, ap, false≢true, Text, FlowToken, opens, symbol}
use Rattle.yaml_base.proofs.{stream_flow.StreamWords.begins_unquoted, stream_lines.StreamLineLaws.break_line}
use Rattle.yaml_base.proofs.Common.{blank, free, is_white_blank, is_flow_indicator, begins_bracket, class_of, is_pair, is_break, flow_tokens}
use Rattle.yaml_base.proofs.stream_flow.StreamPlainWords.{ends_by, ends_word}

-- a text is these tokens if the text after it ends a word
pub record Says (breaks12 : Bool) (text : Text) (tokens : List FlowToken) : Type 0 where
  pub says : (rest : Text) → ends_word breaks12 rest ≡ true → flow_tokens breaks12 free (text ++ rest) ≡ tokens ++ flow_tokens breaks12 free rest

-- a text ends a word before it, if the text after it does
abbrev pub EndsWord : Bool → Text → Type 0
EndsWord breaks12 text = (rest : Text) → ends_word breaks12 rest ≡ true → ends_word breaks12 (text ++ rest) ≡ true

-- a text that ends a word whatever follows
pub ends_anyhow : (breaks12 : Bool) (c : ℕ) (text : Text) → ((more : Bool) → ends_by (class_of breaks12 c) more ≡ true) → EndsWord breaks12 (c ∷ text)
ends_anyhow breaks12 c text h rest k = h (ends_word breaks12 (text ++ rest))

-- a flow indicator
pub says_indicator : (breaks12 : Bool) (c : ℕ) → class_of breaks12 c ≡ is_flow_indicator → Says breaks12 (c ∷ []) (symbol c ∷ [])
says_indicator breaks12 c e = grind (arith)

-- a blank
pub says_blank : (breaks12 : Bool) (c : ℕ) → class_of breaks12 c ≡ is_white_blank → Says breaks12 (c ∷ []) (blank ∷ [])
says_blank breaks12 c e = grind (arith)

-- a character that is no break has one class, with either rule of breaks
pub class_fixed : (breaks12 : Bool) (c : ℕ) → is_break c ≡ false → class_of breaks12 c ≡ class_of true c
class_fixed true c h = refl
class_fixed false c h = rw (break_line false c h, break_line true c h) refl

-- an indicator ends a word
pub indicator_ends : (breaks12 : Bool) (c : ℕ) (text : Text) → class_of breaks12 c ≡ is_flow_indicator → EndsWord breaks12 (c ∷ text)
indicator_ends breaks12 c text e = ends_anyhow breaks12 c text (λ more. ap (λ class. ends_by class more) e)

-- a character that ends a word is no quote
pub ends_unquoted : (breaks12 : Bool) (rest : Text) → ends_word breaks12 rest ≡ true → begins_unquoted rest ≡ true
ends_unquoted breaks12 rest h = grind (false≢true, arith, eqb-true, class_fixed)

-- Words

-- a bracket opens a collection if the next character doesn't close it
pub opens_before : (breaks12 : Bool) (b c : ℕ) (rest : Text) → class_of breaks12 b ≡ begins_bracket → is_pair b c ≡ false
    → flow_tokens breaks12 free (b ∷ c ∷ rest) ≡ opens [] b ∷ flow_tokens breaks12 free (c ∷ rest)
opens_before breaks12 b c rest e h = grind (arith)
