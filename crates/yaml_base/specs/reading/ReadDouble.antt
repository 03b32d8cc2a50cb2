-- Reading a double-quoted scalar, one character after another.
-- Source, unless a definition names its own: helpers of this project's reader for c-double-quoted(n,c) (YAML 1.1, section 9.1.1 Double Quoted).
use Rattle.std.specs.Prelude.{ℕ, zero, suc, Bool, Option, None, Some, List, [], ◌∷◌, ◌==◌, ◌||◌, ◌+◌, ◌-◌, ◌*◌, nat_lt, codes, if◌then◌else◌}
use Rattle.yaml_base.specs.Characters.{Text, is_between}
use Rattle.yaml_base.specs.reading.ReadFolding.{FoldUnit, itself, unit_of, folding_read}

-- the place of a character between the quotes: at a character or an escape, after a backslash, or in an escape's digits, with so many
-- digits after the next one and the number of those before
pub data QuotePlace : Type 0 where
  between : QuotePlace
  after_backslash : QuotePlace
  within_digits : (more number : ℕ) → QuotePlace

-- the step of one character: it goes on, gives a unit, ends the quotes, or has no reading there
pub data QuoteStep : Type 0 where
  goes_on : QuotePlace → QuoteStep
  gives : FoldUnit → QuoteStep
  ends_quotes : QuoteStep
  has_no_reading : QuoteStep

-- the element of the second list at the place of this character in the first
abbrev pub meaning_among : (letters meanings : Text) → ℕ → Option ℕ
meaning_among (letter ∷ letters) (meaning ∷ meanings) c =
    if c == letter then Some meaning else meaning_among letters meanings c
meaning_among _ _ c = None

-- the meaning of a short escape's letter; a space means itself (YAML 1.1, section 5.6 Escape Sequences, ns-esc-null to
-- ns-esc-paragraph-separator)
abbrev pub letter_meaning : ℕ → Option ℕ
letter_meaning c =
    meaning_among
    (codes "0abtnvfre\"\\N_LP ")
    (0 ∷ 7 ∷ 8 ∷ 9 ∷ 0xA ∷ 0xB ∷ 0xC ∷ 0xD ∷ 0x1B ∷ 0x22 ∷ 0x5C ∷ 0x85 ∷ 0xA0 ∷ 0x2028 ∷ 0x2029 ∷ 0x20 ∷ [])
    c

-- the number of digits after the first one of `\x`, `\u` and `\U` (YAML 1.1, section 5.6 Escape Sequences, ns-esc-8-bit, ns-esc-16-bit,
-- ns-esc-32-bit)
abbrev pub digits_after_first : ℕ → Option ℕ
digits_after_first c = meaning_among (codes "xuU") (1 ∷ 3 ∷ 7 ∷ []) c

-- the value of an upper-case hexadecimal digit (YAML 1.1, section 5.5 Miscellaneous Characters, ns-hex-digit; upper case alone by this project)
abbrev pub digit_meaning : ℕ → Option ℕ
digit_meaning c =
    if is_between 48 57 c then Some (c - 48) else (if is_between 65 70 c then Some (c - 55) else None)

-- true of the number of a character: no surrogate, at most U+10FFFF (libyaml's scanner)
abbrev pub is_scalar_number : ℕ → Bool
is_scalar_number n = nat_lt n 0xD800 || is_between 0xE000 0x10FFFF n

-- the step that completes an escape's number: it gives a unit if the number is a character's (YAML 1.1, section 5.6 Escape Sequences,
-- ns-esc-8-bit, ns-esc-16-bit, ns-esc-32-bit)
abbrev pub number_step : ℕ → QuoteStep
number_step n = if is_scalar_number n then gives (itself n) else has_no_reading

-- the step of one digit more: the number grows, and is complete if no digit follows (YAML 1.1, section 5.6 Escape Sequences, ns-esc-8-bit,
-- ns-esc-16-bit, ns-esc-32-bit)
abbrev pub digit_step : (more number : ℕ) → Option ℕ → QuoteStep
digit_step more number None = has_no_reading
digit_step zero number (Some digit) = number_step (number * 16 + digit)
digit_step (suc more) number (Some digit) = goes_on (within_digits more (number * 16 + digit))

-- the step after a backslash: a letter's meaning, or the digits that its letter asks for (YAML 1.1, section 5.6 Escape Sequences,
-- ns-esc-char)
abbrev pub escape_step : (meaning digits : Option ℕ) → QuoteStep
escape_step (Some meaning) digits = gives (itself meaning)
escape_step None (Some more) = goes_on (within_digits more 0)
escape_step None None = has_no_reading

-- the step of a character at a place (YAML 1.1, section 9.1.1 Double Quoted, nb-double-char)
abbrev pub quote_step : Bool → QuotePlace → ℕ → QuoteStep
quote_step breaks12 between c =
    if c == 0x22 then ends_quotes else (if c == 0x5C then goes_on after_backslash else gives (unit_of breaks12 c))
quote_step breaks12 after_backslash c = escape_step (letter_meaning c) (digits_after_first c)
quote_step breaks12 (within_digits more number) c = digit_step more number (digit_meaning c)

-- the units up to the closing quote, and the text after it
pub record Quoted : Type 0 where
  pub units : List FoldUnit
  pub rest : Text

-- the value of a quoted text, and the text after the quotes
pub record QuotedReading : Type 0 where
  pub value : Text
  pub rest : Text

-- a unit before those that were read
abbrev pub with_unit : FoldUnit → Option Quoted → Option Quoted
with_unit unit None = None
with_unit unit (Some quoted) = Some (record { units = unit ∷ quoted.units; rest = quoted.rest })

-- the reading after a step: that of the rest from a place, or the rest if the quotes ended
abbrev pub after_step : QuoteStep → (QuotePlace → Option Quoted) → Text → Option Quoted
after_step (goes_on place) read rest = read place
after_step (gives unit) read rest = with_unit unit (read between)
after_step ends_quotes read rest = Some (record { units = []; rest = rest })
after_step has_no_reading read rest = None

-- the reading from a place between the quotes; none without a closing quote (YAML 1.1, section 9.1.1 Double Quoted, nb-double-text(n,c))
abbrev pub quoted_from : Bool → QuotePlace → Text → Option Quoted
quoted_from breaks12 place [] = None
quoted_from breaks12 place (c ∷ rest) =
    after_step (quote_step breaks12 place c) (λ next. quoted_from breaks12 next rest) rest

-- the value to which the units fold, and the text after the quotes (YAML 1.1, section 6.5 Line Folding, b-l-folded-any(n,s))
abbrev pub quoted_reading : Option Quoted → Option QuotedReading
quoted_reading None = None
quoted_reading (Some quoted) = Some (record { value = folding_read quoted.units; rest = quoted.rest })

-- a text that begins with a double-quoted scalar: its value, and the text after the closing quote (YAML 1.1, section 9.1.1 Double Quoted,
-- c-double-quoted(n,c))
abbrev pub double_quoted_prefix : Bool → Text → Option QuotedReading
double_quoted_prefix breaks12 [] = None
double_quoted_prefix breaks12 (c ∷ rest) =
    if c == 0x22 then quoted_reading (quoted_from breaks12 between rest) else None

-- the value, if nothing follows it
abbrev pub value_before : (rest value : Text) → Option Text
value_before [] value = Some value
value_before (c ∷ rest) value = None

-- the value of a reading that leaves nothing
abbrev pub value_alone : Option QuotedReading → Option Text
value_alone None = None
value_alone (Some reading) = value_before reading.rest reading.value

-- the value of a text that is a double-quoted scalar (YAML 1.1, section 9.1.1 Double Quoted, c-double-quoted(n,c))
abbrev pub read_double : Bool → Text → Option Text
read_double breaks12 text = value_alone (double_quoted_prefix breaks12 text)
