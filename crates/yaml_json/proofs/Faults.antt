-- At which lexeme of its text the writing is stopped.
use Rattle.yaml_json.proofs.Common.{◌≡◌, ℕ, ◌<◌, ◌≤◌, Bool, true, false, List, [], ◌∷◌, ◌++◌, drop, take, length, refl, sym, subst, ap, ◌∙◌, inl, inr}
use Rattle.yaml_json.proofs.Common.{append_assoc, append-nil, take-append-drop, IsPrefix, IsTidy, IsTrimmed, ahead, place_of, BeginsSome, NoneGoesOn, LeadsFrom}
use Rattle.yaml_json.proofs.Common.{MayBegin, mode_over, PassesLexeme, IsAny, AreFrom, NoStringNext, Json, HasUniqueKeys, json_tokens, Lexeme, after_key}
use Rattle.yaml_json.proofs.Common.{after_value, begins_colon, colon, comma, fresh, if_allowed, in_word, lex, place_token, may_begin, token, tokens, Token, bad}
use Rattle.yaml_json.proofs.Common.{key, Stage, Over, cases_lt, true≢false, append_cancel_right, drop_all}
use Rattle.yaml_json.proofs.{LexSteps.lex-none, ModeSteps.goes_on, Refusing.nothing_past, Reaching.is_placed, Reaching.no_key_place}
use Rattle.yaml_json.proofs.FirstLexemes.{EndsValue, IsOfString, IsOfValue, as_string, comma_first, ends_good, first_of, of_string, of_value, some_token}
use Rattle.yaml_json.proofs.PunctuateSteps.{as_placed, lex-stray, put-key, put-string}
use Rattle.yaml_json.proofs.Spelling.{AllGood, AreSpelled, are_spelled, due_at, goes_on_at, good_back, good_front, json_ends, json_good, last_same}
use Rattle.yaml_json.proofs.Spelling.{nothing_left, spelled, spelled_colon}
use Rattle.yaml_json.specs.{Ahead.FollowsAs, Offsets.IsPast, Places.BeginLexemes, Places.CannotStandAt, Places.IsLexemeStart, Places.NoneGoOn, Reached.EndsBad}
use Rattle.yaml_json.specs.{Reached.HaveTokens, Reached.Passed, Walk.IsBeginner, declared.tokens.Stage.TheVariants.Behind}
use Rattle.json.specs.{Lex.Place, Lex.between, Lex.punctuate, Token.string}

-- ---- the beginning of a lexeme

pub is_start : (text : List ℕ) (at : ℕ) → at ≤ length text → LeadsFrom between text (drop at text) → IsTrimmed (drop at text) → IsLexemeStart text at
is_start text at within leads trimmed =
    let passed : leads.1.passed ≡ take at text =
    append_cancel_right leads.1.passed (take at text) (drop at text) (leads.1.parts ∙ sym (take-append-drop at text)) in
    record { within = within; begins = subst (λ m. MayBegin m (drop at text)) (sym leads.1.mode ∙ ap (mode_over between) passed) leads.2; trimmed = trimmed }

-- ---- a reader that isn't past a bad token

-- no value begins with a bad token
bad_begins_none : (taken : List Token) → EndsBad taken → (json : Json) → IsPrefix taken (json_tokens json) → ⊥
bad_begins_none taken (front, is) json begins =
    let all = subst AllGood (sym begins.parts) (json_good json) in
    let here = good_back front (bad ∷ []) (subst AllGood is (good_front taken begins.rest all)) in
    here.0 refl

not_over : (text : List ℕ) (taken : List Token) (stage : Stage) (rest : List ℕ) → Passed text taken stage rest → (json : Json)
    → IsPrefix taken (json_tokens json) → stage ≡ Over → ⊥
not_over text taken Over rest passed json begins e = bad_begins_none taken passed json begins
not_over text taken _ rest passed json begins e = cc

ahead_is : (stage : Stage) (rest : List ℕ) → (stage ≡ Over → ⊥) → ahead stage rest ≡ punctuate (place_of stage) (lex between rest)
ahead_is Over rest some = absurd (some refl)
ahead_is _ rest some = refl

-- ---- lexemes and colons

rest_same : (a b : Lexeme) (one other : List Lexeme) → a ∷ one ≡ b ∷ other → one ≡ other
rest_same a b one other e = cc

first_token : (a b : Token) (one other : List Lexeme) → token a ∷ one ≡ token b ∷ other → b ≡ a
first_token a b one other e = cc

none_is : (t : Token) (others : List Lexeme) → [] ≡ token t ∷ others → ⊥
none_is t others e = cc

less_than : (a b : ℕ) → (b ≤ a → ⊥) → a < b
less_than a b never = elim (cases_lt a b) [ inl less ↦ less | inr more ↦ absurd (never more) ]

colon_alone : (l : Lexeme) (one other : List Lexeme) → begins_colon (l ∷ one) ≡ begins_colon (l ∷ other)
colon_alone (token t) one other = refl
colon_alone _ one other = refl

follows_first : (rest : List ℕ) (l : Lexeme) (ls more : List Lexeme) → lex between rest ≡ l ∷ ls → FollowsAs (l ∷ more) rest
follows_first rest l ls more is e = ap begins_colon is ∙ colon_alone l ls more ∙ e

pub some_append : (front : List Token) (x : Token) (u : List Token) (json : Json) → front ++ x ∷ u ≡ json_tokens json
    → IsPrefix (front ++ x ∷ []) (json_tokens json)
some_append front x u json is = record { rest = u; parts = append_assoc front (x ∷ []) u ∙ is }

-- ---- the reader when the writing stops

-- of a text these tokens were read, and these are left, from this offset on
pub record StandsHere (text : List ℕ) (taken left : List Token) (at : ℕ) : Type 0 where
  pub within : at ≤ length text
  pub stage : Stage
  pub have : HaveTokens text taken (place_of stage) (drop at text)
  pub leads : LeadsFrom between text (drop at text)
  pub trimmed : IsTrimmed (drop at text)
  pub no_comma : place_of stage ≡ after_value → (more : List Lexeme) → lex between (drop at text) ≡ comma ∷ more → ⊥
  pub left_is : left ≡ punctuate (place_of stage) (lex between (drop at text))

no_comma_behind : (stage : Stage) (rest : List ℕ) → (stage ≡ Over → ⊥) → IsTidy stage rest → place_of stage ≡ after_value → (more : List Lexeme)
    → lex between rest ≡ comma ∷ more → ⊥
no_comma_behind Behind rest some tidy e more is = tidy.comma refl (comma_first rest tidy.trimmed more is)
no_comma_behind Over rest some tidy e more is = absurd (some refl)
no_comma_behind _ rest some tidy e more is = cc

pub stands_here : (text : List ℕ) (taken left : List Token) (at : ℕ) → AreFrom text left at → taken ++ left ≡ tokens text → (json : Json)
    → IsPrefix taken (json_tokens json) → StandsHere text taken left at
stands_here text taken left at from parts json begins =
    let stood = from.stood in
    let same : from.taken ≡ taken = append_cancel_right from.taken taken left (ap (λ (l : List Token). from.taken ++ l) from.are ∙ stood.all ∙ sym parts) in
    let passed = subst (λ (ts : List Token). Passed text ts from.stage (drop at text)) same stood.passed in
    let going = not_over text taken from.stage (drop at text) passed json begins in
    record {
      within = from.within;
      stage = from.stage;
      have = is_placed text taken from.stage (drop at text) going passed;
      leads = stood.leads;
      trimmed = stood.tidy.trimmed;
      no_comma = no_comma_behind from.stage (drop at text) going stood.tidy;
      left_is = from.are ∙ ahead_is from.stage (drop at text) going;
    }

-- ---- at the token itself

module _ (allowed : Json → Type 0) (text : List ℕ) (taken left : List Token) (at : ℕ) (here : StandsHere text taken left at) where
  abbrev rest : List ℕ
  rest = drop at text

  -- some allowed value goes on with a value or a name
  begins_here : (json : Json) → allowed json → (x : Token) → IsBeginner x → IsPrefix (taken ++ x ∷ []) (json_tokens json)
      → BeginLexemes allowed here.have.passed
  begins_here json is x beginner begins =
      let tokens_are : taken ++ x ∷ begins.rest ≡ json_tokens json = sym (append_assoc taken (x ∷ []) begins.rest) ∙ begins.parts in
      let good = good_back taken (x ∷ begins.rest) (subst AllGood (sym tokens_are) (json_good json)) in
      let more = spelled (due_at here.stage) (x ∷ begins.rest) in (
        json,
        (
          is,
          (
            more,
            here.have.reads more (λ e. absurd (true≢false (sym e ∙ spelled_colon (due_at here.stage) (x ∷ begins.rest))))
                ∙ ap (λ (l : List Token). taken ++ l) (goes_on_at here.stage x beginner begins.rest good.1) ∙ tokens_are,
          ),
        ),
      )

  -- The first token that is left isn't possible there.
  pub none_here : (ls : List Lexeme) → lex between rest ≡ ls → NoStringNext left
      → ((json : Json) → allowed json → taken ++ left ≡ json_tokens json → ⊥)
      → ((x : Token) (u : List Token) → left ≡ x ∷ u → (json : Json) → allowed json → IsPrefix (taken ++ x ∷ []) (json_tokens json) → ⊥)
      → NoneGoOn allowed here.have.passed ls
  none_here [] is other ends goes = λ json allow e.
      ends json allow (ap (λ (l : List Token). taken ++ l) (here.left_is ∙ ap (punctuate (place_of here.stage)) is)
      ∙ sym (here.have.reads [] (λ f. absurd (true≢false (sym f)))) ∙ ap (punctuate fresh) (append-nil here.have.passed) ∙ e)
  none_here (l ∷ ls) is other ends goes = λ found.
      let json = found.0 in
      let allow = found.1.0 in
      let more = found.1.1.0 in
      let e = found.1.1.1 in
      let left_is : left ≡ punctuate (place_of here.stage) (l ∷ ls) = here.left_is ∙ ap (punctuate (place_of here.stage)) is in
      let first = first_of (place_of here.stage) l ls (no_key_place here.stage)
      (λ behind comma_is. here.no_comma behind ls (is ∙ ap (λ (c : Lexeme). c ∷ ls) comma_is)) (subst NoStringNext left_is other) in
      let read = here.have.reads (l ∷ more) (follows_first rest l ls more is) in
      goes first.token_is (first.rest_of ls) (left_is ∙ first.is ls) json allow (some_append taken first.token_is (first.rest_of more) json
      (ap (λ (u : List Token). taken ++ u) (sym (first.is more)) ∙ sym read ∙ ap (punctuate fresh) (sym (append_assoc here.have.passed (l ∷ []) more)) ∙ e))

  pub at_token : (json : Json) → allowed json → (x : Token) → IsBeginner x → IsPrefix (taken ++ x ∷ []) (json_tokens json)
      → NoneGoOn allowed here.have.passed (lex between rest) → CannotStandAt allowed text at
  at_token json is x beginner begins none = record {
    start = is_start text at here.within here.leads here.trimmed;
    before = here.have.passed;
    parts = here.have.parts;
    begins = begins_here json is x beginner begins;
    none = none;
  }

-- ---- past a string

string_may : (p : Place) (s : List ℕ) (b : Bool) (ts : List Token) → may_begin p ≡ true → AreSpelled ts
    → (more : List Lexeme) × (punctuate p (token (string s) ∷ more) ≡ as_string b s ∷ ts)
string_may p s true ts may so = (colon ∷ spelled false ts, put-key p s (spelled false ts) may ∙ ap (λ (l : List Token). key s ∷ l) so.0)
string_may p s false ts may so = (spelled true ts, put-string p s (spelled true ts) may (spelled_colon true ts) ∙ ap (λ (l : List Token). string s ∷ l) so.1)

as_read : (p : Place) (s : List ℕ) (l : Lexeme) (ls : List Lexeme) (b : Bool) → may_begin p ≡ true → begins_colon (l ∷ ls) ≡ b
    → (u : List Token) × (punctuate p (token (string s) ∷ l ∷ ls) ≡ as_string b s ∷ u)
as_read p s colon ls true may e = (punctuate fresh ls, put-key p s ls may)
as_read p s l ls false may e = (punctuate after_value (l ∷ ls), put-string p s (l ∷ ls) may e)
as_read p s _ ls true may e = absurd (true≢false (sym e))

abbrev not_bool : Bool → Bool
not_bool true = false
not_bool false = true

module _ (text : List ℕ) (taken left : List Token) (last at : ℕ) (here : StandsHere text taken left last) (past : IsPast text last at) where
  abbrev after_last : List ℕ
  after_last = drop last text

  nothing_there : length text ≤ last → lex between after_last ≡ []
  nothing_there all = ap (lex between) (drop_all last text all) ∙ lex-none between

  -- Lexemes of which the first is good were passed.
  passes_good : (t : Token) (others : List Lexeme) → (t ≡ bad → ⊥) → lex between after_last ≡ token t ∷ others → PassesLexeme after_last (drop at text)
  passes_good t others good is =
      past.1 (less_than last (length text) (λ all. none_is t others (sym (nothing_there all) ∙ is)))
      (λ slash. good (first_token bad t (lex in_word (drop 1 after_last)) others (sym (lex-stray after_last slash) ∙ is))) here.trimmed

  start_past : PassesLexeme after_last (drop at text) → IsLexemeStart text at
  start_past passes =
      let next = passes.leads here.leads.0 here.leads.2 in
      is_start text at past.0 (next.0, goes_on between here.leads.0 next.0 text after_last (drop at text) here.leads.1 next.1, next.2) passes.trimmed

  pub past_string : (b : Bool) (s : List ℕ) (after : List Token) → left ≡ as_string b s ∷ after → NoneGoesOn taken left
      → BeginsSome (taken ++ as_string (not_bool b) s ∷ []) → CannotStandAt IsAny text at
  past_string b s after is none some =
      let found = of_string (place_of here.stage) (lex between after_last) b s after (no_key_place here.stage) here.no_comma (sym here.left_is ∙ is) in
      let passes = passes_good (string s) found.others (λ e. cc) found.are in
      let others_are : found.others ≡ lex between (drop at text) = rest_same (token (string s)) passes.first found.others (lex between (drop at text))
      (sym found.are ∙ passes.parts) in
      let whole : lex between after_last ≡ token (string s) ∷ lex between (drop at text) =
      found.are ∙ ap (λ (l : List Lexeme). token (string s) ∷ l) others_are in
      record {
        start = start_past passes;
        before = here.have.passed ++ token (string s) ∷ [];
        parts = append_assoc here.have.passed (token (string s) ∷ []) (lex between (drop at text)) ∙ ap (λ (l : List Lexeme). here.have.passed ++ l) (sym whole)
            ∙ here.have.parts;
        begins = begins_as found.may;
        none = none_as (lex between (drop at text)) found others_are;
      } where
        read_as : (more : List Lexeme) → punctuate fresh (here.have.passed ++ (token (string s) ∷ more))
            ≡ taken ++ punctuate (place_of here.stage) (token (string s) ∷ more)
        read_as more = here.have.reads (token (string s) ∷ more) (λ e. absurd (true≢false (sym e)))

        begins_as : may_begin (place_of here.stage) ≡ true → BeginLexemes IsAny (here.have.passed ++ token (string s) ∷ [])
        begins_as may =
            let json = some.0 in
            let tokens_are : taken ++ as_string (not_bool b) s ∷ some.1.rest ≡ json_tokens json =
            sym (append_assoc taken (as_string (not_bool b) s ∷ []) some.1.rest) ∙ some.1.parts in
            let good = good_back taken (as_string (not_bool b) s ∷ some.1.rest) (subst AllGood (sym tokens_are) (json_good json)) in
            let more = string_may (place_of here.stage) s (not_bool b) some.1.rest may (are_spelled some.1.rest good.1) in (
              json,
              (
                tt,
                (
                  more.0,
                  ap (punctuate fresh) (append_assoc here.have.passed (token (string s) ∷ []) more.0) ∙ read_as more.0
                      ∙ ap (λ (l : List Token). taken ++ l) more.1 ∙ tokens_are,
                ),
              ),
            )

        never : (json : Json) (u : List Token) → taken ++ as_string b s ∷ u ≡ json_tokens json → ⊥
        never json u e = subst (NoneGoesOn taken) is none (json, some_append taken (as_string b s) u json e)

        none_as : (ls : List Lexeme) → (others : IsOfString (place_of here.stage) s (lex between after_last) b)
            → others.others ≡ ls → NoneGoOn IsAny (here.have.passed ++ token (string s) ∷ []) ls
        none_as [] found same = λ json allow e.
            never json after (ap (λ (l : List Token). taken ++ l) (sym is ∙ here.left_is ∙ ap (punctuate (place_of here.stage))
            (found.are ∙ ap (λ (l : List Lexeme). token (string s) ∷ l) same))
            ∙ sym (read_as []) ∙ e)
        none_as (l ∷ ls) found same = λ so.
            let json = so.0 in
            let more = so.1.1.0 in
            let e = so.1.1.1 in
            let read = as_read (place_of here.stage) s l more b found.may (colon_alone l more ls ∙ ap begins_colon (sym same) ∙ found.follows) in
            never json read.0 (ap (λ (u : List Token). taken ++ u) (sym read.1) ∙ sym (read_as (l ∷ more))
            ∙ ap (punctuate fresh) (sym (append_assoc here.have.passed (token (string s) ∷ l ∷ []) more)
            ∙ ap (λ (u : List Lexeme). u ++ more) (sym (append_assoc here.have.passed (token (string s) ∷ []) (l ∷ [])))) ∙ e)

-- ---- past a value

first_exists : (ts : List Token) → (ts ≡ [] → ⊥) → (x : Token) × ((u : List Token) × (ts ≡ x ∷ u))
first_exists [] some = absurd (some refl)
first_exists (x ∷ u) some = (x, (u, refl))

module _ (text : List ℕ) (front : List Token) (t : Token) (left : List Token) (last at : ℕ) (here : StandsHere text front (t ∷ left) last)
    (past : IsPast text last at) (json : Json) (whole : json_tokens json ≡ front ++ t ∷ []) (some : left ≡ [] → ⊥) where
  ends_it : EndsValue t
  ends_it =
      let found = json_ends json in
      subst EndsValue (sym (last_same front found.front t found.last (sym whole ∙ found.parts))) found.ends

  pub past_value : CannotStandAt IsAny text at
  past_value =
      let found = of_value (place_of here.stage) (lex between (drop last text)) t left ends_it (no_key_place here.stage) here.no_comma (sym here.left_is) in
      let passes = passes_good text front (t ∷ left) last at here past t found.others (ends_good t ends_it) found.are in
      let others_are : found.others ≡ lex between (drop at text) = rest_same (token t) passes.first found.others (lex between (drop at text))
      (sym found.are ∙ passes.parts) in
      let all : lex between (drop last text) ≡ token t ∷ lex between (drop at text) = found.are ∙ ap (λ (l : List Lexeme). token t ∷ l) others_are in
      record {
        start = start_past text front (t ∷ left) last at here past passes;
        before = here.have.passed ++ token t ∷ [];
        parts = append_assoc here.have.passed (token t ∷ []) (lex between (drop at text)) ∙ ap (λ (l : List Lexeme). here.have.passed ++ l) (sym all)
            ∙ here.have.parts;
        begins = (
          json,
          (
            tt,
            (
              [],
              ap (punctuate fresh) (append-nil (here.have.passed ++ token t ∷ [])) ∙ read_as []
                  ∙ ap (λ (l : List Token). front ++ l) (found.reads [] (λ e. absurd (true≢false (sym e))) ∙ ap (λ (l : List Token). t ∷ l) nothing_after)
                  ∙ sym whole,
            ),
          ),
        );
        none = none_as (lex between (drop at text)) found others_are;
      } where
        nothing_after : punctuate after_value [] ≡ []
        nothing_after = nothing_left after_value refl

        read_as : (more : List Lexeme) → punctuate fresh (here.have.passed ++ (token t ∷ more)) ≡ front ++ punctuate (place_of here.stage) (token t ∷ more)
        read_as more = here.have.reads (token t ∷ more) (λ e. absurd (true≢false (sym e)))

        none_as : (ls : List Lexeme) → (found : IsOfValue (place_of here.stage) t (lex between (drop last text)) left) → found.others ≡ ls
            → NoneGoOn IsAny (here.have.passed ++ token t ∷ []) ls
        none_as [] found same = λ other allow e. some (sym found.left_is ∙ ap (punctuate after_value) same ∙ nothing_after)
        none_as (l ∷ ls) found same = λ so.
            let other = so.0 in
            let more = so.1.1.0 in
            let e = so.1.1.1 in
            let first = first_exists (punctuate after_value (l ∷ more)) (some_token after_value l more (λ e. cc)) in
            let read = found.reads (l ∷ more) (λ f. ap begins_colon same ∙ colon_alone l ls more ∙ f) in
            let tokens_are : json_tokens json ++ first.0 ∷ first.1.0 ≡ json_tokens other =
            ap (λ (u : List Token). u ++ first.0 ∷ first.1.0) whole ∙ append_assoc front (t ∷ []) (first.0 ∷ first.1.0)
            ∙ ap (λ (u : List Token). front ++ t ∷ u) (sym first.1.1) ∙ ap (λ (u : List Token). front ++ u) (sym read) ∙ sym (read_as (l ∷ more))
            ∙ ap (punctuate fresh) (sym (append_assoc here.have.passed (token t ∷ l ∷ []) more)
            ∙ ap (λ (u : List Lexeme). u ++ more) (sym (append_assoc here.have.passed (token t ∷ []) (l ∷ [])))) ∙ e in
            nothing_past json first.0 (other, some_append (json_tokens json) first.0 first.1.0 other tokens_are)

-- ---- a name that comes again

either_read : (p : Place) (s : List ℕ) (more : List Lexeme) (b : Bool) → begins_colon more ≡ b → may_begin p ≡ true
    → (u : List Token) × (punctuate p (token (string s) ∷ more) ≡ as_string b s ∷ u)
either_read p s more true e may = (
  punctuate after_key more,
  as_placed p (string s) more ∙ (λ i. place_token p (string s) (e i) (λ next. punctuate next more))
      ∙ ap (λ b. if_allowed b (key s) (λ next. punctuate next more) after_key) may,
)
either_read p s more false e may = (
  punctuate after_value more,
  as_placed p (string s) more ∙ (λ i. place_token p (string s) (e i) (λ next. punctuate next more))
      ∙ ap (λ b. if_allowed b (string s) (λ next. punctuate next more) after_value) may,
)

lexeme_is : (a b : Lexeme) (one other : List Lexeme) → a ∷ one ≡ b ∷ other → a ≡ b
lexeme_is a b one other e = cc

module _ (text : List ℕ) (taken : List Token) (name : List ℕ) (after : List Token) (at : ℕ) (here : StandsHere text taken (key name ∷ after) at)
    (twice : (json : Json) → IsPrefix (taken ++ key name ∷ []) (json_tokens json) → HasUniqueKeys json → ⊥)
    (no_string : BeginsSome (taken ++ string name ∷ []) → ⊥) where
  neither : (b : Bool) (u : List Token) (json : Json) → HasUniqueKeys json → taken ++ as_string b name ∷ u ≡ json_tokens json → ⊥
  neither true u json allow e = twice json (some_append taken (key name) u json e) allow
  neither false u json allow e = no_string (json, some_append taken (string name) u json e)

  pub none_again : (ls : List Lexeme) → lex between (drop at text) ≡ ls → NoneGoOn HasUniqueKeys here.have.passed ls
  none_again [] is = λ json allow e.
      neither true after json allow (ap (λ (l : List Token). taken ++ l) (here.left_is ∙ ap (punctuate (place_of here.stage)) is)
      ∙ sym (here.have.reads [] (λ f. absurd (true≢false (sym f)))) ∙ ap (punctuate fresh) (append-nil here.have.passed) ∙ e)
  none_again (l ∷ ls) is = λ so.
      let json = so.0 in
      let allow = so.1.0 in
      let more = so.1.1.0 in
      let e = so.1.1.1 in
      let found = of_string (place_of here.stage) (l ∷ ls) true name after (no_key_place here.stage)
      (λ behind more comma_is. here.no_comma behind more (is ∙ comma_is)) (sym (here.left_is ∙ ap (punctuate (place_of here.stage)) is)) in
      let first = lexeme_is l (token (string name)) ls found.others found.are in
      let read = either_read (place_of here.stage) name more (begins_colon more) refl found.may in
      neither (begins_colon more) read.0 json allow
      (ap (λ (u : List Token). taken ++ u) (sym read.1 ∙ ap (λ (x : Lexeme). punctuate (place_of here.stage) (x ∷ more)) (sym first))
      ∙ sym (here.have.reads (l ∷ more) (follows_first (drop at text) l ls more is))
      ∙ ap (punctuate fresh) (sym (append_assoc here.have.passed (l ∷ []) more)) ∙ e)
