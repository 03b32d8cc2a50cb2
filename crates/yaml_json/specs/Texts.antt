-- The texts of JSON that follow one another in a text: the end of each, by brackets, quotes and blanks alone.
use Rattle.std.specs.Prelude.{◌≡◌, ◌⊎◌, ℕ, suc, ◌-◌, ◌<◌, Bool, ◌||◌, ◌&&◌, ◌==◌, nat_le, Option, None, Some, List, [], ◌∷◌, ◌++◌, length, if◌then◌else◌}
use Rattle.json.specs.Ascii as ascii
use Rattle.json.specs.Word.{is_operator, is_space}
use Rattle.yaml_json.specs.declared.cuts.Mode.{Mode}
use Rattle.yaml_json.specs.declared.cuts.Mode.TheVariants.{Before, Within, InString, AfterBackslash, InWord, Behind}
use Rattle.yaml_json.specs.declared.cuts.Scan.{Scan}

abbrev pub is_opener : ℕ → Bool
is_opener byte = (byte == ascii.open_brace) || (byte == ascii.open_bracket)

abbrev pub is_closer : ℕ → Bool
is_closer byte = (byte == ascii.close_brace) || (byte == ascii.close_bracket)

-- no character of UTF-8 begins with the byte
abbrev pub is_inner_byte : ℕ → Bool
is_inner_byte byte = nat_le 128 byte && nat_le (suc byte) 192

abbrev scan_at : Mode → ℕ → Scan
scan_at mode levels = record { mode = mode; levels = levels }

-- The scan after the first byte of a text, or after a blank before it.
abbrev pub scan_first_byte : ℕ → Scan
scan_first_byte byte =
    if is_space byte then scan_at Before 0
    else (if byte == ascii.quote then scan_at InString 0
    else (if is_opener byte then scan_at Within 1
    else (if is_operator byte then scan_at Behind 0 else scan_at InWord 0)))

-- within an array or an object, until all that is open is closed
abbrev pub scan_within : ℕ → ℕ → Scan
scan_within levels byte =
    if byte == ascii.quote then scan_at InString levels
    else (if is_opener byte then scan_at Within (suc levels)
    else (if is_closer byte then (if nat_le levels 1 then scan_at Behind 0 else scan_at Within (levels - 1)) else scan_at Within levels))

-- within a string, until the quote that isn't escaped
abbrev pub scan_in_string : ℕ → ℕ → Scan
scan_in_string levels byte =
    if byte == ascii.backslash then scan_at AfterBackslash levels
    else (if byte == ascii.quote then (if levels == 0 then scan_at Behind 0 else scan_at Within levels) else scan_at InString levels)

-- The scan after a byte of the same text and its blanks; none if the byte begins the next text.
abbrev scan_by_mode : Mode → ℕ → ℕ → Option Scan
scan_by_mode Before levels byte = Some (scan_first_byte byte)
scan_by_mode Within levels byte = Some (scan_within levels byte)
scan_by_mode InString levels byte = Some (scan_in_string levels byte)
scan_by_mode AfterBackslash levels byte = Some (scan_at InString levels)
scan_by_mode InWord levels byte = if is_space byte then Some (scan_at Behind 0) else (if is_operator byte then None else Some (scan_at InWord levels))
scan_by_mode Behind levels byte = if is_space byte || is_inner_byte byte then Some (scan_at Behind levels) else None

abbrev pub after_byte : Scan → ℕ → Option Scan
after_byte scan byte = scan_by_mode scan.mode scan.levels byte

-- a byte before the first of some texts
abbrev pub onto_first : ℕ → List (List ℕ) → List (List ℕ)
onto_first byte [] = (byte ∷ []) ∷ []
onto_first byte (text ∷ texts) = (byte ∷ text) ∷ texts

-- the byte goes on with the text, or begins the next one; then come more
abbrev pub cut_text_before : ℕ → Option Scan → (Scan → List (List ℕ)) → List (List ℕ)
cut_text_before byte None more = [] ∷ onto_first byte (more (scan_first_byte byte))
cut_text_before byte (Some scan) more = onto_first byte (more scan)

-- The rest of a text, and the texts after it.
abbrev pub texts_after : Scan → List ℕ → List (List ℕ)
texts_after scan [] = [] ∷ []
texts_after scan (byte ∷ bytes) = cut_text_before byte (after_byte scan byte) (λ next. texts_after next bytes)

-- the texts of a text; the first may be blank
abbrev pub texts_in : List ℕ → List (List ℕ)
texts_in text = texts_after (scan_at Before 0) text

-- this is the first of the texts, and these are the others, of which there may be none
abbrev pub CutsFirstText : (text first more : List ℕ) → Type 0
CutsFirstText text first more =
    (first ++ more ≡ text)
    × (((more ≡ []) × (texts_in text ≡ first ∷ []))
    ⊎ ((more ≡ [] → ⊥) × (length more < length text) × (texts_in text ≡ first ∷ texts_in more)))
