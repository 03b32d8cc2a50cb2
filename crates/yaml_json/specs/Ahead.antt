-- The tokens that are still to come.
use Rattle.std.specs.Prelude.{◌≡◌, ◌≢◌, ◌⊎◌, ℕ, Bool, true, false, List, [], ◌∷◌, ◌++◌, Option, IfSome, MatchOption}
use Rattle.json.specs.Ascii as ascii
use Rattle.json.specs.Lex.{Lexeme, Place, after_comma, after_value, begins_colon, between, fresh, lex, punctuate, token}
use Rattle.json.specs.Reads.{token_of}
use Rattle.json.specs.Token.{Token, bad}
use Rattle.json.specs.Word.{head, is_space}
use Rattle.yaml_json.specs.Lexing.{Leads}
use Rattle.yaml_json.specs.declared.tokens.Stage.{Stage}
use Rattle.yaml_json.specs.declared.tokens.Stage.TheVariants.{Open, Behind, Owed, Over}
use Rattle.yaml_json.specs.declared.tokens.Step.{Step}

-- The tokens of the rest of a text.
abbrev pub ahead : Stage → (rest : List ℕ) → List Token
ahead Open rest = punctuate fresh (lex between rest)
ahead Behind rest = punctuate after_value (lex between rest)
ahead Owed rest = punctuate after_comma (lex between rest)
ahead Over rest = []

abbrev pub begins_here : Stage → Bool
begins_here Open = true
begins_here Behind = false
begins_here Owed = true
begins_here Over = false

abbrev pub closes_here : Stage → Bool
closes_here Open = true
closes_here Behind = true
closes_here Owed = false
closes_here Over = false

-- The place from which the tokens are read.
abbrev pub place_of : Stage → Place
place_of Open = fresh
place_of Behind = after_value
place_of Owed = after_comma
place_of Over = after_value

-- These lexemes begin with a colon only if those of the rest do.
abbrev pub FollowsAs : (more : List Lexeme) → (rest : List ℕ) → Type 0
FollowsAs more rest = begins_colon more ≡ true → begins_colon (lex between rest) ≡ true

-- The rest begins with a token, if any is left.
abbrev pub IsTrimmed : (rest : List ℕ) → Type 0
IsTrimmed rest = is_space (head rest) ≡ true → rest ≡ []

-- a comma was passed
abbrev pub PassedComma : Stage → (rest : List ℕ) → Type 0
PassedComma stage rest = stage ≡ Behind → head rest ≢ ascii.comma

pub record IsTidy (stage : Stage) (rest : List ℕ) : Type 0 where
  pub trimmed : IsTrimmed rest
  pub comma : PassedComma stage rest

-- The token ends a value, and the text after it was passed up to the next token.
pub record Ends (token : Token) (text : List ℕ) (step : Step) : Type 0 where
  pub same : token_of step.token ≡ token
  pub good : step.stage ≢ Over
  pub left : ahead step.stage step.rest.now ≡ punctuate after_value (lex between text)
  pub passed : List Lexeme
  pub parts : lex between text ≡ passed ++ lex between step.rest.now
  pub follows : (more : List Lexeme) → FollowsAs more step.rest.now → FollowsAs (passed ++ more) text
  pub reads : (more : List Lexeme) → punctuate after_value (passed ++ more) ≡ punctuate (place_of step.stage) more
  pub over : Leads text step.rest.now
  pub tidy : IsTidy step.stage step.rest.now

-- After the token a value or a name may begin.
pub record Opens (token : Token) (text : List ℕ) (step : Step) : Type 0 where
  pub same : token_of step.token ≡ token
  pub opens : step.stage ≡ Open
  pub left : ahead step.stage step.rest.now ≡ punctuate fresh (lex between text)
  pub parts : lex between text ≡ lex between step.rest.now
  pub over : Leads text step.rest.now
  pub tidy : IsTidy step.stage step.rest.now

-- From this place the lexemes are those of the step's token and of the rest; and after these, the tokens of any further lexemes are read.
pub record Passes (place : Place) (lexemes : List Lexeme) (step : Step) : Type 0 where
  pub good : step.stage ≢ Over
  pub first : Token
  pub others : List Lexeme
  pub parts : lexemes ≡ token first ∷ (others ++ lex between step.rest.now)
  pub reads : (more : List Lexeme) → FollowsAs more step.rest.now
      → punctuate place (token first ∷ (others ++ more)) ≡ token_of step.token ∷ punctuate (place_of step.stage) more

-- or the token is bad, and ends them
abbrev pub PassesOrEnds : Place → List Lexeme → Step → Type 0
PassesOrEnds place lexemes step = ((step.stage ≡ Over) × (token_of step.token ≡ bad)) ⊎ Passes place lexemes step

-- At each place that allows such a token, these lexemes begin with it, and the step leaves the others.
pub record StepsFrom (may_stand : Place → Bool) (lexemes : List Lexeme) (step : Step) : Type 0 where
  pub first : (place : Place) → may_stand place ≡ true → punctuate place lexemes ≡ token_of step.token ∷ ahead step.stage step.rest.now
  pub passes : (place : Place) → may_stand place ≡ true → PassesOrEnds place lexemes step
  pub tidy : IsTidy step.stage step.rest.now

-- Of the tokens of the rest the step has the first, and leaves the others.
pub record ReadsFirst (stage : Stage) (text : List ℕ) (step : Step) : Type 0 where
  pub first : ahead stage text ≡ token_of step.token ∷ ahead step.stage step.rest.now
  pub passes : PassesOrEnds (place_of stage) (lex between text) step
  pub tidy : IsTidy step.stage step.rest.now

-- If there is no step, no token is left.
abbrev pub Reads : Stage → (text : List ℕ) → Option Step → Type 0
Reads stage text found = MatchOption found (ahead stage text ≡ []) (ReadsFirst stage text)

-- the step is from this text on
pub record StepsOver (may_stand : Place → Bool) (text : List ℕ) (step : Step) : Type 0 where
  pub steps : StepsFrom may_stand (lex between text) step
  pub over : Leads text step.rest.now

pub record ReadsOn (stage : Stage) (text : List ℕ) (found : Option Step) : Type 0 where
  pub reads : Reads stage text found
  pub over : IfSome found (λ step. Leads text step.rest.now)
