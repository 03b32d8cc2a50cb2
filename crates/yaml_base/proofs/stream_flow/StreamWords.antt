-- The text of a quoted scalar is one word among the tokens of flow, whatever may follow it.
use Rattle.yaml_base.proofs.Common.{arith, suc, zero, ℕ, ◌*◌, ◌+◌, if◌then◌else◌, ◌==◌, option_map, Option, None, Some, Bool, false, true, List, [], map, ◌++◌}
use Rattle.yaml_base.proofs.Common.{◌∷◌, refl, ◌≡◌, eqb-true, append_assoc, ap, sym, ◌∙◌, false≢true, Text, QuotePlace, between, goes_on, gives, ends_quotes}
use Rattle.yaml_base.proofs.Common.{has_no_reading, Quoted, with_unit, after_step, quoted_from, quoted_reading, value_alone, read_double, FoldUnit, unit_of}
use Rattle.yaml_base.proofs.Common.{folding_read, unquoted, read_single, FlowToken, word, FlowPlace, free, FlowStep, flow_tokens}
use Rattle.yaml_base.{proofs.stream_lines.StreamCuts.none_not_some, specs.reading.ReadFolding.itself}
use Rattle.yaml_base.specs.reading.ReadDouble.{after_backslash as backslash_place, within_digits, letter_meaning, digits_after_first, digit_meaning}
use Rattle.yaml_base.specs.reading.ReadDouble.{is_scalar_number, digit_step, escape_step}
use Rattle.yaml_base.specs.streams.StreamTokens.{in_double, after_backslash, in_single, after_quote, goes_to, completes}

-- a character more at the end of the text before another
pub shifted : (breaks12 : Bool) (before : Text) (c : ℕ) (t rest : Text)
    → ◌≡◌ {A = List FlowToken} (word ((before ++ (c ∷ [])) ++ t) ∷ flow_tokens breaks12 free rest) (word (before ++ (c ∷ t)) ∷ flow_tokens breaks12 free rest)
shifted breaks12 before c t rest = ap (λ s. word s ∷ flow_tokens breaks12 free rest) (append_assoc before (c ∷ []) t)

-- Double quotes

-- the place of the scan of flow while the reader of double quotes is at a place
abbrev scan_place : QuotePlace → Text → FlowPlace
scan_place between before = in_double before
scan_place backslash_place before = after_backslash before
scan_place (within_digits more number) before = in_double before

-- a reading that leaves nothing
abbrev Ends : Option Quoted → Type 0
Ends None = ⊥
Ends (Some quoted) = quoted.rest ≡ []

unit_ends : (unit : FoldUnit) (quoted : Option Quoted) → Ends (with_unit unit quoted) → Ends quoted
unit_ends unit None h = h
unit_ends unit (Some quoted) h = h

-- the tokens of the rest of a word
abbrev pub GivesWord : Bool → FlowPlace → (before t rest : Text) → Type 0
GivesWord breaks12 place before t rest = flow_tokens breaks12 place (t ++ rest) ≡ word (before ++ t) ∷ flow_tokens breaks12 free rest

-- a text in which the reader of quotes ends is a word, from any of its places
abbrev IsQuoted : Bool → Text → Type 0
IsQuoted breaks12 t =
    (place : QuotePlace) → Ends (quoted_from breaks12 place t) → (before rest : Text) → GivesWord breaks12 (scan_place place before) before t rest

-- a digit is not this character, which is no digit
no_digit : (c d n : ℕ) → digit_meaning n ≡ None → digit_meaning c ≡ Some d → (c == n) ≡ false
no_digit c d n none h = grind (arith, none_not_some, eqb-true)

-- between the quotes a character that is neither a quote nor a backslash is passed
passed : (breaks12 : Bool) (before : Text) (c : ℕ) (t : Text) → (c == 0x22) ≡ false → (c == 0x5C) ≡ false
    → flow_tokens breaks12 (in_double before) (c ∷ t) ≡ flow_tokens breaks12 (in_double (before ++ (c ∷ []))) t
passed breaks12 before c t e f = rw (e, f) refl

at_between : (breaks12 : Bool) (c : ℕ) (t : Text) → IsQuoted breaks12 t → Ends (quoted_from breaks12 between (c ∷ t)) → (before rest : Text)
    → GivesWord breaks12 (in_double before) before (c ∷ t) rest
at_between breaks12 c t ih ends before rest = by (c == 0x22) (c == 0x5C) ends
  where
    by : (x y : Bool) → Ends (after_step (if x then ends_quotes else (if y then goes_on backslash_place else gives (unit_of breaks12 c)))
        (λ next. quoted_from breaks12 next t) t)
        → (let here : FlowStep = if x then completes (word (before ++ (c ∷ []))) else
        goes_to (if y then after_backslash (before ++ (c ∷ [])) else in_double (before ++ (c ∷ []))) in here.tokens
        ++ flow_tokens breaks12 here.place (t ++ rest))
        ≡ word (before ++ (c ∷ t)) ∷ flow_tokens breaks12 free rest
    by true y ends =
        ap (λ s. word (before ++ (c ∷ [])) ∷ flow_tokens breaks12 free (s ++ rest)) ends
        ∙ ap (λ s. word (before ++ (c ∷ s)) ∷ flow_tokens breaks12 free rest) (sym ends)
    by false true ends = ih backslash_place ends (before ++ (c ∷ [])) rest ∙ shifted breaks12 before c t rest
    by false false ends = ih between (unit_ends (unit_of breaks12 c) (quoted_from breaks12 between t) ends) (before ++ (c ∷ [])) rest
        ∙ shifted breaks12 before c t rest

at_backslash : (breaks12 : Bool) (c : ℕ) (t : Text) → IsQuoted breaks12 t → Ends (quoted_from breaks12 backslash_place (c ∷ t)) → (before rest : Text)
    → GivesWord breaks12 (after_backslash before) before (c ∷ t) rest
at_backslash breaks12 c t ih ends before rest = by (letter_meaning c) (digits_after_first c) ends
  where
    by : (meaning digits : Option ℕ) → Ends (after_step (escape_step meaning digits) (λ next. quoted_from breaks12 next t) t)
        → GivesWord breaks12 (after_backslash before) before (c ∷ t) rest
    by (Some n) digits ends = ih between (unit_ends (itself n) (quoted_from breaks12 between t) ends) (before ++ (c ∷ [])) rest
        ∙ shifted breaks12 before c t rest
    by None (Some more) ends = ih (within_digits more 0) ends (before ++ (c ∷ [])) rest ∙ shifted breaks12 before c t rest
    by None None ends = absurd ends

at_digits : (breaks12 : Bool) (c : ℕ) (t : Text) (more number : ℕ) → IsQuoted breaks12 t → Ends (quoted_from breaks12 (within_digits more number) (c ∷ t))
    → (before rest : Text)
    → GivesWord breaks12 (in_double before) before (c ∷ t) rest
at_digits breaks12 c t more number ih ends before rest = by (digit_meaning c) refl more ends
  where
    within : (place : QuotePlace) → (d : ℕ) → digit_meaning c ≡ Some d → scan_place place (before ++ (c ∷ [])) ≡ in_double (before ++ (c ∷ []))
        → Ends (quoted_from breaks12 place t)
        → GivesWord breaks12 (in_double before) before (c ∷ t) rest
    within place d e same ends =
        passed _ _ c _ (no_digit c d 0x22 refl e) (no_digit c d 0x5C refl e)
        ∙ ap (λ p. flow_tokens breaks12 p (t ++ rest)) (sym same) ∙ ih place ends (before ++ (c ∷ [])) rest ∙ shifted _ _ c t rest

    number_ends : (b : Bool) (n : ℕ) → Ends (after_step (if b then gives (itself n) else has_no_reading) (λ next. quoted_from breaks12 next t) t)
        → Ends (quoted_from breaks12 between t)
    number_ends true n ends = unit_ends _ _ ends
    number_ends false n ends = absurd ends

    by : (meaning : Option ℕ) → digit_meaning c ≡ meaning → (more : ℕ)
        → Ends (after_step (digit_step more number meaning) (λ next. quoted_from breaks12 next t) t)
        → GivesWord breaks12 (in_double before) before (c ∷ t) rest
    by None e more ends = absurd ends
    by (Some d) e zero ends = within between d e refl (number_ends (is_scalar_number (number * 16 + d)) (number * 16 + d) ends)
    by (Some d) e (suc more) ends = within (within_digits more (number * 16 + d)) d e refl ends

is_quoted : (breaks12 : Bool) (t : Text) → IsQuoted breaks12 t
is_quoted breaks12 [] place ends before rest = absurd ends
is_quoted breaks12 (c ∷ t) between ends before rest = at_between breaks12 c t (is_quoted breaks12 t) ends before rest
is_quoted breaks12 (c ∷ t) backslash_place ends before rest = at_backslash breaks12 c t (is_quoted breaks12 t) ends before rest
is_quoted breaks12 (c ∷ t) (within_digits more number) ends before rest = at_digits breaks12 c t more number (is_quoted breaks12 t) ends before rest

-- a text that reads alone leaves nothing
alone_ends : (quoted : Option Quoted) (v : Text) → value_alone (quoted_reading quoted) ≡ Some v → Ends quoted
alone_ends quoted v e = grind (arith, none_not_some)

-- a text that reads as double-quoted is a word after its first quote, and after any text before that
pub double_quoted_word : (breaks12 : Bool) (before t rest v : Text) → read_double breaks12 (0x22 ∷ t) ≡ Some v
    → GivesWord breaks12 (in_double (before ++ (0x22 ∷ []))) (before ++ (0x22 ∷ [])) t rest
double_quoted_word breaks12 before t rest v read =
    is_quoted breaks12 t between (alone_ends (quoted_from breaks12 between t) v read) (before ++ (0x22 ∷ [])) rest

-- Single quotes

-- some character comes next, and it is no quote
abbrev pub begins_unquoted : Text → Bool
begins_unquoted [] = false
begins_unquoted (c ∷ rest) = if c == 0x27 then false else true

-- two characters more
shifted_twice : (breaks12 : Bool) (before : Text) (c d : ℕ) (t rest : Text)
    → ◌≡◌ {A = List FlowToken} (word (((before ++ (c ∷ [])) ++ (d ∷ [])) ++ t) ∷ flow_tokens breaks12 free rest)
    (word (before ++ (c ∷ d ∷ t)) ∷ flow_tokens breaks12 free rest)
shifted_twice breaks12 before c d t rest = shifted breaks12 (before ++ (c ∷ [])) d t rest ∙ shifted breaks12 before c (d ∷ t) rest

-- a text that a quote closes is a word
abbrev IsUnquoted : Bool → Text → Type 0
IsUnquoted breaks12 t = (unquoted t ≡ None → ⊥) → (before rest : Text) → begins_unquoted rest ≡ true → GivesWord breaks12 (in_single before) before t rest

at_closing : (breaks12 : Bool) (c : ℕ) → IsUnquoted breaks12 (c ∷ [])
at_closing breaks12 c closes before rest h = grind (arith, false≢true)

at_inside : (breaks12 : Bool) (c d : ℕ) (t : Text) → IsUnquoted breaks12 t → IsUnquoted breaks12 (d ∷ t) → IsUnquoted breaks12 (c ∷ d ∷ t)
at_inside breaks12 c d t one two closes before rest h = by (c == 0x27) (d == 0x27) refl closes
  where
    quote_passed : (text : Text) → (d == 0x27) ≡ true
        → flow_tokens breaks12 (after_quote text) (d ∷ (t ++ rest)) ≡ flow_tokens breaks12 (in_single (text ++ (d ∷ []))) (t ++ rest)
    quote_passed text e = rw e refl

    by : (x y : Bool) → (d == 0x27) ≡ y
        → ((if x then (if y then option_map (λ t. 39 ∷ t) (unquoted t) else None) else option_map (λ t. c ∷ t) (unquoted (d ∷ t))) ≡ None → ⊥)
        → flow_tokens breaks12 (if x then after_quote (before ++ (c ∷ [])) else in_single (before ++ (c ∷ []))) (d ∷ (t ++ rest))
        ≡ word (before ++ (c ∷ d ∷ t)) ∷ flow_tokens breaks12 free rest
    by true true e closes =
        quote_passed (before ++ (c ∷ [])) e
        ∙ one (λ none. closes (ap (option_map (λ t. 39 ∷ t)) none)) ((before ++ (c ∷ [])) ++ (d ∷ [])) rest h ∙ shifted_twice breaks12 before c d t rest
    by true false e closes = absurd (closes refl)
    by false y e closes = two (λ none. closes (ap (option_map (λ t. c ∷ t)) none)) (before ++ (c ∷ [])) rest h ∙ shifted breaks12 before c (d ∷ t) rest

is_unquoted : (breaks12 : Bool) (t : Text) → IsUnquoted breaks12 t
is_unquoted breaks12 [] closes before rest h = absurd (closes refl)
is_unquoted breaks12 (c ∷ []) closes before rest h = at_closing breaks12 c closes before rest h
is_unquoted breaks12 (c ∷ d ∷ t) closes before rest h =
    at_inside breaks12 c d t (is_unquoted breaks12 t) (is_unquoted breaks12 (d ∷ t)) closes before rest h

-- a text that reads as single-quoted is a word after its first quote, before a text that begins with no quote
pub single_quoted_word : (breaks12 : Bool) (before t rest v : Text) → read_single breaks12 (0x27 ∷ t) ≡ Some v → begins_unquoted rest ≡ true
    → GivesWord breaks12 (in_single (before ++ (0x27 ∷ []))) (before ++ (0x27 ∷ [])) t rest
single_quoted_word breaks12 before t rest v read h =
    is_unquoted _ t
    (λ none. none_not_some (sym (ap (option_map (λ t. folding_read (map (unit_of breaks12) t))) none) ∙ read)) (before ++ (0x27 ∷ [])) rest h
