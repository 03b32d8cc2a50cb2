-- The reader of tokens, from token to token.
use Rattle.yaml_json.proofs.Common.{◌≡◌, ◌⊎◌, ℕ, ◌+◌, ◌-◌, List, [], ◌∷◌, ◌++◌, drop, length, refl, sym, subst, ap, ◌∙◌, append_assoc, arith, inl, inr}
use Rattle.yaml_json.proofs.Common.{true≢false, after_comma, after_key, after_value, fresh, token, token_of, Token, IsTidy, IsTrimmed, ahead, place_of, Leads}
use Rattle.yaml_json.proofs.Common.{Reader, length-append, Stage, Open, Owed, Over}
use Rattle.json.specs.Lex.{Place, between, lex, punctuate}
use Rattle.yaml_json.specs.{Ahead.Passes, Ahead.PassesOrEnds, Ahead.ReadsFirst, declared.tokens.Step.Step, declared.tokens.Stage.TheVariants.Behind}
use Rattle.yaml_json.specs.Reached.{HasReadTokens, HaveTokens, IsReader, LastRead, Passed, last_bytes}
use Rattle.yaml_json.proofs.{ModeSteps.goes_on, FirstLexemes.some_after_comma, FirstLexemes.some_ahead}

-- ---- the rest is the text's end

drop_front : (front rest : List ℕ) → drop (length front) (front ++ rest) ≡ rest
drop_front [] rest = refl
drop_front (x ∷ xs) rest = drop_front xs rest

pub last_is : (text front rest : List ℕ) → front ++ rest ≡ text → last_bytes text (length rest) ≡ rest
last_is text front rest parts =
    let size : length text ≡ length front + length rest = ap length (sym parts) ∙ length-append front rest in
    let count : length text - length rest ≡ length front = omega (arith, size) in
    ap (λ n. drop n text) count ∙ ap (drop (length front)) (sym parts) ∙ drop_front front rest

pub left_is : (text taken_rest : List ℕ) (taken : List Token) (stage : Stage) → HasReadTokens text taken stage taken_rest
    → last_bytes text (length taken_rest) ≡ taken_rest
left_is text rest taken stage has = last_is text has.leads.1.passed rest has.leads.1.parts

-- ---- the place from which a reader reads

pub placed : (text : List ℕ) (taken : List Token) (stage : Stage) (rest : List ℕ) → (stage ≡ Over → ⊥) → HaveTokens text taken (place_of stage) rest
    → Passed text taken stage rest
placed text taken Over rest some have = absurd (some refl)
placed text taken _ rest some have = have

pub is_placed : (text : List ℕ) (taken : List Token) (stage : Stage) (rest : List ℕ) → (stage ≡ Over → ⊥) → Passed text taken stage rest
    → HaveTokens text taken (place_of stage) rest
is_placed text taken Over rest some have = absurd (some refl)
is_placed text taken _ rest some have = have

-- before the first token
pub reads_none : (text rest : List ℕ) → lex between rest ≡ lex between text → Leads text rest → IsTrimmed rest → HasReadTokens text [] Open rest
reads_none text rest same leads trimmed = record {
  all = ap (punctuate fresh) same;
  passed = record { passed = []; parts = same; reads = λ more f. refl };
  leads = leads between (inr tt);
  tidy = record { trimmed = trimmed; comma = λ e. absurd cc };
}

-- ---- one token more

further : (text : List ℕ) (taken : List Token) (place : Place) (rest : List ℕ) (step : Step) → HaveTokens text taken place rest
    → Passes place (lex between rest) step → HaveTokens text (taken ++ token_of step.token ∷ []) (place_of step.stage) step.rest.now
further text taken place rest step have passes = record {
  passed = have.passed ++ token passes.first ∷ passes.others;
  parts = append_assoc have.passed (token passes.first ∷ passes.others) (lex between step.rest.now) ∙ ap (λ ls. have.passed ++ ls) (sym passes.parts)
      ∙ have.parts;
  reads = λ more f. ap (punctuate fresh) (append_assoc have.passed (token passes.first ∷ passes.others) more)
      ∙ have.reads (token passes.first ∷ (passes.others ++ more)) (λ e. absurd (true≢false (sym e)))
      ∙ ap (λ ts. taken ++ ts) (passes.reads more f)
      ∙ sym (append_assoc taken (token_of step.token ∷ []) (punctuate (place_of step.stage) more));
}

one_passed : (text : List ℕ) (taken : List Token) (stage : Stage) (rest : List ℕ) (step : Step) → (stage ≡ Over → ⊥) → Passed text taken stage rest
    → PassesOrEnds (place_of stage) (lex between rest) step → Passed text (taken ++ token_of step.token ∷ []) step.stage step.rest.now
one_passed text taken stage rest step some passed (inl (over, is)) =
    subst (λ (s : Stage). Passed text (taken ++ token_of step.token ∷ []) s step.rest.now) (sym over) (taken, ap (λ t. taken ++ t ∷ []) is)
one_passed text taken stage rest step some passed (inr passes) =
    placed text (taken ++ token_of step.token ∷ []) step.stage step.rest.now passes.good
    (further text taken (place_of stage) rest step (is_placed text taken stage rest some passed) passes)

pub reads_on : (text : List ℕ) (taken : List Token) (stage : Stage) (rest : List ℕ) (step : Step) → (stage ≡ Over → ⊥) → HasReadTokens text taken stage rest
    → ReadsFirst stage rest step → Leads rest step.rest.now → HasReadTokens text (taken ++ token_of step.token ∷ []) step.stage step.rest.now
reads_on text taken stage rest step some has reads leads =
    let next = leads has.leads.0 has.leads.2 in
    record {
      all = append_assoc taken (token_of step.token ∷ []) (ahead step.stage step.rest.now) ∙ ap (λ ts. taken ++ ts) (sym reads.first) ∙ has.all;
      passed = one_passed text taken stage rest step some has.passed reads.passes;
      leads = (next.0, goes_on between has.leads.0 next.0 text rest step.rest.now has.leads.1 next.1, next.2);
      tidy = reads.tidy;
    }

-- ---- that no token is left

pub no_key_place : (stage : Stage) → place_of stage ≡ after_key → ⊥
no_key_place Open e = cc
no_key_place _ e = cc

owed_some : (rest : List ℕ) → punctuate after_comma (lex between rest) ≡ [] → ⊥
owed_some rest e = some_after_comma (lex between rest) e

pub ends_so : (stage : Stage) (rest : List ℕ) → (stage ≡ Open) ⊎ (stage ≡ Behind) → rest ≡ [] → ahead stage rest ≡ []
unfolding lex punctuate
ends_so stage rest (inl is) none = (λ i. ahead (is i) (none i))
ends_so stage rest (inr is) none = (λ i. ahead (is i) (none i))

pub more_so : (stage : Stage) (rest : List ℕ) → IsTidy stage rest → (stage ≡ Open) ⊎ (stage ≡ Behind) → (rest ≡ [] → ⊥) → ahead stage rest ≡ [] → ⊥
more_so Open rest tidy is some e = some_ahead fresh rest (no_key_place Open) tidy.trimmed some e
more_so Behind rest tidy is some e = some_ahead after_value rest (no_key_place Behind) tidy.trimmed some e
more_so Owed rest tidy is some e = owed_some rest e
more_so Over rest tidy (inl is) some e = cc
more_so Over rest tidy (inr is) some e = cc

pub more_owed : (stage : Stage) (rest : List ℕ) → IsTidy stage rest → stage ≡ Owed → ahead stage rest ≡ [] → ⊥
more_owed Owed rest tidy is e = owed_some rest e
more_owed _ rest tidy is e = cc

-- ---- the last token of some

pub one_read : (start end : Reader) (given : Token) → end.before ≡ start.ahead → start.ahead ≡ given ∷ end.ahead → LastRead start end
one_read start end given before first = record { front = []; last = given; parts = first; were = before ∙ first }

pub last_on : (start middle end : Reader) (taken : List Token) → taken ++ middle.ahead ≡ start.ahead → LastRead middle end → LastRead start end
last_on start middle end taken parts read = record {
  front = taken ++ read.front;
  last = read.last;
  parts = sym parts ∙ ap (λ (all : List Token). taken ++ all) read.parts ∙ sym (append_assoc taken read.front (read.last ∷ end.ahead));
  were = read.were;
}

-- ---- the reader as a whole

pub new_reader : (text rest : List ℕ) → lex between rest ≡ lex between text → Leads text rest → IsTrimmed rest → IsReader text Open rest Open (length rest)
new_reader text rest same leads trimmed =
    let none = reads_none text rest same leads trimmed in
    record { taken = []; stands = none; once = []; stood = subst (HasReadTokens text [] Open) (sym (left_is text rest [] Open none)) none }

module _ (text : List ℕ) (stage : Stage) (rest : List ℕ) (was : Stage) (left : ℕ) (reader : IsReader text stage rest was left) where
  pub still_ahead : ahead stage (last_bytes text (length rest)) ≡ ahead stage rest
  still_ahead = ap (ahead stage) (left_is text rest reader.taken stage reader.stands)

  stood_there : HasReadTokens text reader.taken stage (last_bytes text (length rest))
  stood_there = subst (HasReadTokens text reader.taken stage) (sym (left_is text rest reader.taken stage reader.stands)) reader.stands

  -- nothing more is read
  pub reads_no_more : IsReader text stage rest stage (length rest)
  reads_no_more = record { taken = reader.taken; stands = reader.stands; once = reader.taken; stood = stood_there }

  -- a token is read
  pub reads_one : (step : Step) → (stage ≡ Over → ⊥) → ReadsFirst stage rest step → Leads rest step.rest.now
      → IsReader text step.stage step.rest.now stage (length rest)
  reads_one step some reads leads = record {
    taken = reader.taken ++ token_of step.token ∷ [];
    stands = reads_on text reader.taken stage rest step some reader.stands reads leads;
    once = reader.taken;
    stood = stood_there;
  }
