-- Reading percent forms, in tags and prefixes, independently of the definitions that write them.
-- Source, unless a definition names its own: helpers of this project's reader for ns-uri-char (YAML 1.1, section 5.5 Miscellaneous Characters), after
-- RFC 2396, section 2.4, over the bytes of UTF-8.
use Rattle.std.specs.Prelude.{ℕ, Bool, Option, None, Some, List, [], ◌∷◌, ◌++◌, ◌==◌, ◌||◌, ◌+◌, ◌-◌, ◌*◌, codes, chars, encode_utf8, if◌then◌else◌}
use Rattle.std.specs.Str.{is_utf8}
use Rattle.yaml_base.specs.Characters.{Text, is_alpha, is_among, is_between}

-- true of a character that a tag or a prefix may hold: the anchor alphabet, the signs of a URI, and `%` (YAML 1.1, section 5.5
-- Miscellaneous Characters, ns-uri-char; without `!` by this project)
abbrev pub is_uri_character : ℕ → Bool
is_uri_character c = is_alpha c || is_among (codes "%;/?:@&=+$,.~*'()[]") c

-- the place of a character: between percent forms, after a `%`, or after the first character of a form, with its value if it is a digit
pub data PercentPlace : Type 0 where
  between_forms : PercentPlace
  after_percent : PercentPlace
  after_high : Option ℕ → PercentPlace

-- the value of a hexadecimal digit in either case (YAML 1.1, section 5.5 Miscellaneous Characters, ns-hex-digit)
abbrev pub digit_given : ℕ → Option ℕ
digit_given c =
    if is_between 48 57 c then Some (c - 48)
    else (if is_between 65 70 c then Some (c - 55) else (if is_between 97 102 c then Some (c - 87) else None))

-- the byte of two digits; if one of them is no digit, 255, which occurs nowhere in UTF-8
abbrev pub byte_given : Option ℕ → Option ℕ → ℕ
byte_given (Some high) (Some low) = high * 16 + low
byte_given _ _ = 255

-- the bytes of a text from a place on; a form that is cut short gives the byte 255 (YAML 1.1, section 5.5 Miscellaneous Characters, ns-uri-char)
abbrev pub form_bytes : PercentPlace → Text → List ℕ
form_bytes between_forms [] = []
form_bytes _ [] = 255 ∷ []
form_bytes between_forms (c ∷ rest) =
    (if c == 0x25 then [] else encode_utf8 c) ++ form_bytes (if c == 0x25 then after_percent else between_forms) rest
form_bytes after_percent (c ∷ rest) = form_bytes (after_high (digit_given c)) rest
form_bytes (after_high high) (c ∷ rest) = byte_given high (digit_given c) ∷ form_bytes between_forms rest

-- the text of percent forms; none if a form is broken or the bytes aren't UTF-8 (YAML 1.1, section 5.5 Miscellaneous Characters,
-- ns-uri-char)
abbrev pub percent_read : Text → Option Text
percent_read text = let bytes = form_bytes between_forms text in if is_utf8 bytes then Some (chars bytes) else None
