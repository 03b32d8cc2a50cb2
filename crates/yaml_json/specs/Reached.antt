-- The view of the reader of tokens in contracts: its progress in its text.
use Rattle.std.specs.Prelude.{◌≡◌, ◌≤◌, ℕ, ◌-◌, List, [], ◌∷◌, ◌++◌, drop, length, refl}
use Rattle.std.specs.Coded.{Coded, code_by, coded×, coded_ℕ, coded_list}
use Rattle.json.specs.Lex.{Lexeme, Place, after_comma, after_value, between, fresh, lex, punctuate, tokens}
use Rattle.json.specs.Token.{Token, bad, tokens_code}
use Rattle.yaml_json.specs.Ahead.{FollowsAs, IsTidy, ahead}
use Rattle.yaml_json.specs.Lexing.{LeadsFrom}
use Rattle.yaml_json.specs.declared.tokens.Stage.{Stage}
use Rattle.yaml_json.specs.declared.tokens.Stage.TheVariants.{Open, Behind, Owed, Over}

-- the text, the tokens that are still to come, and those that were when the last was read
pub record Reader : Type 0 where
  pub text : List ℕ
  pub ahead : List Token
  pub before : List Token

-- a token was read, the last of some
pub record LastRead (old new : Reader) : Type 0 where
  pub front : List Token
  pub last : Token
  pub parts : old.ahead ≡ front ++ last ∷ new.ahead
  pub were : new.before ≡ last ∷ new.ahead

abbrev pub reader_code : Coded Reader
reader_code =
    code_by (List ℕ × (List Token × List Token)) (coded× (coded_list coded_ℕ) (coded× tokens_code tokens_code)) (λ r. (r.text, (r.ahead, r.before)))
    (λ p. record { text = p.0; ahead = p.1.0; before = p.1.1 }) (λ _. refl)

-- The text's lexemes up to the rest have these tokens, and any lexemes after them have the tokens that they have from this place on.
pub record HaveTokens (text : List ℕ) (taken : List Token) (place : Place) (rest : List ℕ) : Type 0 where
  pub passed : List Lexeme
  pub parts : passed ++ lex between rest ≡ lex between text
  pub reads : (more : List Lexeme) → FollowsAs more rest → punctuate fresh (passed ++ more) ≡ taken ++ punctuate place more

-- these tokens end with a bad one
abbrev pub EndsBad : List Token → Type 0
EndsBad taken = (front : List Token) × (taken ≡ front ++ bad ∷ [])

abbrev pub Passed : (text : List ℕ) → (taken : List Token) → Stage → (rest : List ℕ) → Type 0
Passed text taken Open rest = HaveTokens text taken fresh rest
Passed text taken Behind rest = HaveTokens text taken after_value rest
Passed text taken Owed rest = HaveTokens text taken after_comma rest
Passed text taken Over rest = EndsBad taken

-- These tokens of the text were read, and the rest begins at a place at which a lexeme may begin.
pub record HasReadTokens (text : List ℕ) (taken : List Token) (stage : Stage) (rest : List ℕ) : Type 0 where
  pub all : taken ++ ahead stage rest ≡ tokens text
  pub passed : Passed text taken stage rest
  pub leads : LeadsFrom between text rest
  pub tidy : IsTidy stage rest

-- the end of a text
abbrev pub last_bytes : (text : List ℕ) → (count : ℕ) → List ℕ
last_bytes text count = drop (length text - count) text

abbrev pub reader_of : (text : List ℕ) → Stage → (rest : List ℕ) → (was : Stage) → (left : ℕ) → Reader
reader_of text stage rest was left = record { text = text; ahead = ahead stage rest; before = ahead was (last_bytes text left) }

-- The reader is in this state, and was in that when the last token was read.
pub record IsReader (text : List ℕ) (stage : Stage) (rest : List ℕ) (was : Stage) (left : ℕ) : Type 0 where
  pub taken : List Token
  pub stands : HasReadTokens text taken stage rest
  pub once : List Token
  pub stood : HasReadTokens text once was (last_bytes text left)

-- these tokens are read from an offset of the text on
pub record AreFrom (text : List ℕ) (before : List Token) (at : ℕ) : Type 0 where
  pub within : at ≤ length text
  pub taken : List Token
  pub stage : Stage
  pub stood : HasReadTokens text taken stage (drop at text)
  pub are : before ≡ ahead stage (drop at text)
