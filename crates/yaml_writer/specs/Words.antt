-- Words, and how those that are reserved begin and go on.
use Rattle.std.specs.Prelude.{ℕ, Bool, ◌||◌, ◌&&◌, ◌==◌, not, nat_le, nat_lt, codes}
use Rattle.std.specs.List.{list_any, slice_split}
use Rattle.yaml_base.specs.Characters.{Text, is_among, is_space}
use Rattle.yaml_base.specs.Words.{is_word}
use Rattle.yaml_base.specs.values.SurelyText.{reserved_words}

-- a text is one of these words, one space apart
abbrev pub is_one_of : Text → Text → Bool
is_one_of words text = list_any (is_word text) (slice_split is_space words)

-- begins a reserved word
abbrev pub begins_reserved : ℕ → Bool
begins_reserved c = is_among (codes "~ntfyo<=.i+-") c

-- begins a reserved word, a symbol or a number
abbrev pub begins_doubtful : ℕ → Bool
begins_doubtful c = is_among (codes "~nNtTfFyYoOiI<=.+-_:eE0123456789") c

-- a space, or a character of ASCII from the letters on, that is neither the second nor the third of a reserved word
abbrev pub leaves_reserved : ℕ → Bool
leaves_reserved c = c == 0x20 || (nat_le 0x41 c && nat_lt c 0x80 && not (is_among (codes "AEFILNORSUaefilnorsu") c))

-- a text is a reserved word
abbrev pub is_reserved_word : Text → Bool
is_reserved_word text = list_any (is_word text) reserved_words
