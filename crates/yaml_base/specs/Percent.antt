-- Percent forms: how a tag or a prefix is written in the characters that it may hold (YAML 1.1, section 5.5, after RFC 2396, section 2.4,
-- over the bytes of UTF-8).
use Rattle.std.specs.Prelude.{ℕ, Bool, [], ◌∷◌, ◌++◌, ◌==◌, ◌||◌, ◌&&◌, not, codes, encode_utf8, if◌then◌else◌}
use Rattle.std.specs.List.{flat_map}
use Rattle.yaml_base.specs.Characters.{Text, is_alpha, is_among, hex_digits}

-- the sign that begins a percent form
abbrev pub percent_sign : ℕ
percent_sign = 0x25

-- true if a character may be itself in a written tag: the anchor alphabet and some signs, neither `!` nor `%` (libyaml's own choice)
abbrev pub is_tag_character : ℕ → Bool
is_tag_character c = is_alpha c || is_among (codes ";/?:@&=+$,.~*'()[]") c

-- the percent form of a byte: `%` and two digits
abbrev pub byte_escaped : ℕ → Text
byte_escaped byte = percent_sign ∷ hex_digits 2 byte

-- a character as itself if it may be written so, else as the percent forms of its UTF-8
abbrev pub character_written : (stands : Bool) → ℕ → Text
character_written stands c = if stands then c ∷ [] else flat_map byte_escaped (encode_utf8 c)

-- a character of a tag as it is written
abbrev pub character_escaped : ℕ → Text
character_escaped c = character_written (is_tag_character c) c

-- a text as it is written
abbrev pub percent_escaped : Text → Text
percent_escaped text = flat_map character_escaped text

-- true if a character may be itself after a tag's handle: in portable mode not the flow indicators, at which readers end a tag
abbrev pub is_suffix_character : (portable : Bool) → ℕ → Bool
is_suffix_character portable c = not (portable && is_among (codes ",[]") c) && is_tag_character c

-- the text after a tag's handle, as it is written
abbrev pub suffix_escaped : (portable : Bool) → Text → Text
suffix_escaped portable text = flat_map (λ c. character_written (is_suffix_character portable c) c) text

-- a prefix as it is written: in portable mode a `!` that begins it stays raw, since readers know a local prefix by it
abbrev pub prefix_escaped : (portable : Bool) → Text → Text
prefix_escaped portable [] = []
prefix_escaped portable (c ∷ rest) = character_written ((portable && c == 0x21) || is_tag_character c) c ++ percent_escaped rest
