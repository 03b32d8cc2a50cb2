-- How the lexer goes over the bytes of a JSON text, and the places at which a lexeme may begin.
use Rattle.std.specs.Prelude.{◌≡◌, ◌⊎◌, ℕ, true, List, [], ◌∷◌, ◌++◌}
use Rattle.json.specs.Lex.{Class, Mode, backslash, between, class, in_escape, in_string, in_word, operator, other, quote, space}
use Rattle.json.specs.Word.{ends_word}

-- The mode of the lexer after a byte of this class.
abbrev pub mode_after : Mode → Class → Mode
mode_after between quote = in_string
mode_after between backslash = in_word
mode_after between operator = between
mode_after between space = between
mode_after between other = in_word
mode_after in_word quote = in_word
mode_after in_word backslash = in_word
mode_after in_word operator = between
mode_after in_word space = between
mode_after in_word other = in_word
mode_after in_string quote = between
mode_after in_string backslash = in_escape
mode_after in_string operator = in_string
mode_after in_string space = in_string
mode_after in_string other = in_string
mode_after in_escape c = in_string

abbrev pub mode_over : Mode → List ℕ → Mode
mode_over mode [] = mode
mode_over mode (byte ∷ bytes) = mode_over (mode_after mode (class byte)) bytes

-- No lexeme goes on into the rest.
abbrev pub EndsBefore : Mode → (rest : List ℕ) → Type 0
EndsBefore between rest = Unit {0}
EndsBefore in_word rest = ends_word rest ≡ true
EndsBefore in_string rest = ⊥
EndsBefore in_escape rest = ⊥

-- The text ends here, or no lexeme goes on into the rest.
abbrev pub MayBegin : Mode → (rest : List ℕ) → Type 0
MayBegin mode rest = (rest ≡ []) ⊎ EndsBefore mode rest

-- The lexer goes over some bytes of a text to the rest.
pub record GoesOver (from : Mode) (text rest : List ℕ) (to : Mode) : Type 0 where
  pub passed : List ℕ
  pub parts : passed ++ rest ≡ text
  pub mode : mode_over from passed ≡ to

-- From this mode it goes over some bytes of a text, and a lexeme may begin with the rest.
abbrev pub LeadsFrom : Mode → (text rest : List ℕ) → Type 0
LeadsFrom from text rest = (to : Mode) × GoesOver from text rest to × MayBegin to rest

-- If a lexeme may begin with the text, one may begin with the rest.
abbrev pub Leads : (text rest : List ℕ) → Type 0
Leads text rest = (from : Mode) → MayBegin from text → LeadsFrom from text rest

-- The lexer goes over the rest of a word, which ends before the bytes that are left.
abbrev pub EndsWord : (text rest : List ℕ) → Type 0
EndsWord text rest = GoesOver in_word text rest in_word × (ends_word rest ≡ true)
