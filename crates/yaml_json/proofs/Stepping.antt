-- A token and the text that it leaves, by its parts.
use Rattle.yaml_json.proofs.Common.{◌≡◌, ℕ, ◌+◌, ◌-◌, ◌<◌, Bool, true, false, ◌⊎◌, inl, inr, List, [], ◌∷◌, ◌++◌, take, drop, get_or, length, Some, None, refl}
use Rattle.yaml_json.proofs.Common.{sym, subst, ap, ◌∙◌, arith, true≢false, false_from_ne_true, IsTidy, IsTrimmed, StepsFrom, ahead, place_of, ArePlain, Lexeme}
use Rattle.yaml_json.proofs.Common.{after_comma, after_value, begins_colon, class, colon, fresh, in_string, in_word, may_begin, may_close, other, string_token}
use Rattle.yaml_json.proofs.Common.{token, token_of, content, Token, begin_array, begin_object, end_array, end_object, key, bad, head, word, Stage, Open, Owed}
use Rattle.yaml_json.proofs.Common.{Over}
use Rattle.json.proofs.Numbered.{ArePrintableOrBad-tokens_at}
use Rattle.json.specs.{Text.plain, Token.string, Print.ArePrintableOrBad, Print.IsPrintable, Print.IsPrintableOrBad, declared.reader.Place.TheVariants.Fresh}
use Rattle.json.specs.{declared.reader.Place.TheVariants.AfterValue, declared.reader.Place.TheVariants.AfterComma}
use Rattle.json.specs.Lex.{Place, between, lex, punctuate}
use Rattle.yaml_json.{specs.declared.tokens.Step.Step, specs.declared.tokens.Stage.TheVariants.Behind, proofs.LexSteps.plain_over, proofs.LexSteps.quote_at}
use Rattle.yaml_json.specs.Ahead.{Ends, FollowsAs, Opens, Passes, ReadsFirst, begins_here, closes_here}
use Rattle.yaml_json.proofs.PunctuateSteps.{IsWord, IsWord-word, lex-begin_array, lex-begin_object, lex-colon, lex-end_array, lex-end_object, lex-string}
use Rattle.yaml_json.proofs.PunctuateSteps.{lex-word, no_colon, put-bad, put-begin_array, put-begin_object, put-end_array, put-end_object, put-key, put-string}
use Rattle.yaml_json.proofs.PunctuateSteps.{put-word, stray-behind}
use Rattle.yaml_json.proofs.ContentSteps.{closes_here as string_closes, prepend-nothing, run_more}
use Rattle.json.specs.declared.token.Token as variants
use Rattle.json.specs.declared.token.Token.TheVariants as tokens

-- ---- a bad token

pub over_is : (step : Step) → token_of step.token ≡ bad → step.stage ≡ Over → token_of step.token ∷ ahead step.stage step.rest.now ≡ bad ∷ []
over_is step token_is over = λ i. token_is i ∷ ahead (over i) step.rest.now

pub refused : (may : Place → Bool) (lexemes : List Lexeme) (step : Step) → ((p : Place) → may p ≡ true → punctuate p lexemes ≡ bad ∷ [])
    → token_of step.token ≡ bad → step.stage ≡ Over → IsTidy step.stage step.rest.now → StepsFrom may lexemes step
refused may lexemes step none token_is over tidy =
    record { first = λ p e. none p e ∙ sym (over_is step token_is over); passes = λ p e. inl (over, token_is); tidy = tidy }

-- ---- a token that opens, or ends a value, from its first lexeme

open_apart : Open ≡ Over → ⊥
open_apart e = cc

pub passes_open : (place : Place) (lexemes : List Lexeme) (first : Token) (others : List Lexeme) (given : Token) (text : List ℕ) (step : Step)
    → Opens given text step → lexemes ≡ token first ∷ (others ++ lex between text)
    → ((more : List Lexeme) → punctuate place (token first ∷ (others ++ more)) ≡ given ∷ punctuate fresh more) → Passes place lexemes step
passes_open place lexemes first others given text step opens is reads = record {
  good = λ over. open_apart (sym opens.opens ∙ over);
  first = first;
  others = others;
  parts = is ∙ ap (λ ls. token first ∷ (others ++ ls)) opens.parts;
  reads = λ more f. reads more ∙ (λ i. sym opens.same i ∷ punctuate (place_of (sym opens.opens i)) more);
}

pub passes_end : (place : Place) (lexemes : List Lexeme) (first : Token) (given : Token) (text : List ℕ) (step : Step)
    → Ends given text step → lexemes ≡ token first ∷ lex between text
    → ((more : List Lexeme) → FollowsAs more text → punctuate place (token first ∷ more) ≡ given ∷ punctuate after_value more) → Passes place lexemes step
passes_end place lexemes first given text step ends is reads = record {
  good = ends.good;
  first = first;
  others = ends.passed;
  parts = is ∙ ap (λ ls. token first ∷ ls) ends.parts;
  reads = λ more f. reads (ends.passed ++ more) (ends.follows more f) ∙ (λ i. sym ends.same i ∷ ends.reads more i);
}

-- ---- strings

pub key_step : (s after rest : List ℕ) (step : Step) → lex between rest ≡ lex between after → head rest ≡ 58 → Opens (key s) (drop 1 rest) step
    → StepsFrom may_begin (token (string s) ∷ lex between after) step
key_step s after rest step same colon_first opens = record {
  first = λ p e. ap (λ ls. punctuate p (token (string s) ∷ ls)) (sym same ∙ lex-colon rest colon_first) ∙ put-key p s (lex between (drop 1 rest)) e
      ∙ (λ i. sym opens.same i ∷ sym opens.left i);
  passes = λ p e. inr (passes_open p (token (string s) ∷ lex between after) (string s) (colon ∷ []) (key s) (drop 1 rest) step opens
      (ap (λ ls. token (string s) ∷ ls) (sym same ∙ lex-colon rest colon_first)) (λ more. put-key p s more e));
  tidy = opens.tidy;
}

-- Lexemes begin with no colon if their text begins with none.
no_colon_more : (rest : List ℕ) (more : List Lexeme) → IsTrimmed rest → (head rest ≡ 58 → ⊥) → FollowsAs more rest → begins_colon more ≡ false
no_colon_more rest more trimmed apart follows = false_from_ne_true (begins_colon more) (λ e. true≢false (sym (follows e) ∙ no_colon rest trimmed apart))

pub text_step : (s after rest : List ℕ) (step : Step) → lex between rest ≡ lex between after → IsTrimmed rest → (head rest ≡ 58 → ⊥) → Ends (string s) rest step
    → StepsFrom may_begin (token (string s) ∷ lex between after) step
text_step s after rest step same trimmed apart ends = record {
  first = λ p e. ap (λ ls. punctuate p (token (string s) ∷ ls)) (sym same) ∙ put-string p s (lex between rest) e (no_colon rest trimmed apart)
      ∙ (λ i. sym ends.same i ∷ sym ends.left i);
  passes = λ p e. inr (passes_end p (token (string s) ∷ lex between after) (string s) (string s) rest step ends (ap (λ ls. token (string s) ∷ ls) (sym same))
      (λ more f. put-string p s more e (no_colon_more rest more trimmed apart f)));
  tidy = ends.tidy;
}

pub string_is : (text s after : List ℕ) → head text ≡ 34 → content plain (drop 1 text) ≡ Some s → lex between after ≡ lex in_string (drop 1 text)
    → token (string s) ∷ lex between after ≡ lex between text
string_is text s after quote holds left = sym (lex-string text quote ∙ (λ i. token (string_token (holds i)) ∷ sym left i))

pub no_string : (text : List ℕ) (step : Step) → head text ≡ 34 → content plain (drop 1 text) ≡ None
    → token_of step.token ≡ bad → step.stage ≡ Over → IsTidy step.stage step.rest.now → StepsFrom may_begin (lex between text) step
no_string text step quote none =
    refused may_begin (lex between text) step
    (λ p e. ap (punctuate p) (lex-string text quote ∙ ap (λ o. token (string_token o) ∷ lex in_string (drop 1 text)) none)
    ∙ put-bad p (lex in_string (drop 1 text)))

pub plain_string : (d run : List ℕ) (end : ℕ) → head d ≡ 34 → ArePlain d 1 end → end < length d → get_or d end 0 ≡ 34 → run ≡ take (end - 1) (drop 1 d)
    → token (string run) ∷ lex between (drop (end + 1) d) ≡ lex between d
plain_string d run end first are within quote is =
    let so_far = run_more d [] run 1 1 end are is (prepend-nothing (content plain (drop 1 d))) in
    let back : 1 + (end - 1) ≡ end = omega (arith, are.ordered) in
    let passed : lex in_string (drop end d) ≡ lex in_string (drop 1 d)
    = ap (λ n. lex in_string (drop n d)) (sym back) ∙ plain_over d 1 (end - 1) (omega arith) (λ k low high. are.plain k low (omega arith)) in
    string_is d run (drop (end + 1) d) first (string_closes d run 1 end so_far within quote) (quote_at d end within quote ∙ passed)

-- ---- words

pub good_word : (text rest : List ℕ) (w : Token) (step : Step) → class (head text) ≡ other → w ≡ word text → (w ≡ bad → ⊥)
    → lex between rest ≡ lex in_word (drop 1 text) → Ends w rest step → StepsFrom may_begin (lex between text) step
good_word text rest w step kind is good left ends = record {
  first = λ p e. ap (punctuate p) (lex-word text kind ∙ ap (λ t. token t ∷ lex in_word (drop 1 text)) (sym is))
      ∙ put-word p w (lex in_word (drop 1 text)) (subst IsWord (sym is) (IsWord-word text)) good e
      ∙ (λ i. sym ends.same i ∷ (ap (punctuate after_value) (sym left) ∙ sym ends.left) i);
  passes = λ p e. inr (passes_end p (lex between text) w w rest step ends (lex-word text kind ∙ (λ i. token (sym is i) ∷ sym left i))
      (λ more f. put-word p w more (subst IsWord (sym is) (IsWord-word text)) good e));
  tidy = ends.tidy;
}

pub bad_word : (text : List ℕ) (step : Step) → class (head text) ≡ other → word text ≡ bad
    → token_of step.token ≡ bad → step.stage ≡ Over → IsTidy step.stage step.rest.now → StepsFrom may_begin (lex between text) step
bad_word text step kind none =
    refused may_begin (lex between text) step
    (λ p e. ap (punctuate p) (lex-word text kind ∙ ap (λ t. token t ∷ lex in_word (drop 1 text)) none) ∙ put-bad p (lex in_word (drop 1 text)))

-- ---- brackets

pub opens_object : (text : List ℕ) (step : Step) → head text ≡ 123 → Opens begin_object (drop 1 text) step → StepsFrom may_begin (lex between text) step
opens_object text step e opens = record {
  first = λ p may. ap (punctuate p) (lex-begin_object text e) ∙ put-begin_object p (lex between (drop 1 text)) may ∙ (λ i. sym opens.same i ∷ sym opens.left i);
  passes = λ p may. inr (passes_open p (lex between text) begin_object [] begin_object (drop 1 text) step opens (lex-begin_object text e)
      (λ more. put-begin_object p more may));
  tidy = opens.tidy;
}

pub opens_array : (text : List ℕ) (step : Step) → head text ≡ 91 → Opens begin_array (drop 1 text) step → StepsFrom may_begin (lex between text) step
opens_array text step e opens = record {
  first = λ p may. ap (punctuate p) (lex-begin_array text e) ∙ put-begin_array p (lex between (drop 1 text)) may ∙ (λ i. sym opens.same i ∷ sym opens.left i);
  passes = λ p may. inr (passes_open p (lex between text) begin_array [] begin_array (drop 1 text) step opens (lex-begin_array text e)
      (λ more. put-begin_array p more may));
  tidy = opens.tidy;
}

pub closes_object : (text rest : List ℕ) (step : Step) → head text ≡ 125 → lex between rest ≡ lex between (drop 1 text) → Ends end_object rest step
    → StepsFrom may_close (lex between text) step
closes_object text rest step e left ends = record {
  first = λ p may. ap (punctuate p) (lex-end_object text e) ∙ put-end_object p (lex between (drop 1 text)) may
      ∙ (λ i. sym ends.same i ∷ (ap (punctuate after_value) (sym left) ∙ sym ends.left) i);
  passes = λ p may. inr (passes_end p (lex between text) end_object end_object rest step ends
      (lex-end_object text e ∙ ap (λ ls. token end_object ∷ ls) (sym left)) (λ more f. put-end_object p more may));
  tidy = ends.tidy;
}

pub closes_array : (text rest : List ℕ) (step : Step) → head text ≡ 93 → lex between rest ≡ lex between (drop 1 text) → Ends end_array rest step
    → StepsFrom may_close (lex between text) step
closes_array text rest step e left ends = record {
  first = λ p may. ap (punctuate p) (lex-end_array text e) ∙ put-end_array p (lex between (drop 1 text)) may
      ∙ (λ i. sym ends.same i ∷ (ap (punctuate after_value) (sym left) ∙ sym ends.left) i);
  passes = λ p may. inr (passes_end p (lex between text) end_array end_array rest step ends (lex-end_array text e ∙ ap (λ ls. token end_array ∷ ls) (sym left))
      (λ more f. put-end_array p more may));
  tidy = ends.tidy;
}

-- ---- from a stage

pub at_end_closed : (stage : Stage) → closes_here stage ≡ true → ahead stage [] ≡ []
unfolding lex punctuate
at_end_closed Owed e = absurd (true≢false (sym e))
at_end_closed Over e = absurd (true≢false (sym e))
at_end_closed _ e = refl

pub at_end_owed : (stage : Stage) → (stage ≡ Over → ⊥) → closes_here stage ≡ false → ahead stage [] ≡ bad ∷ []
unfolding lex punctuate
at_end_owed Owed some e = refl
at_end_owed Over some e = absurd (some refl)
at_end_owed _ some e = absurd (true≢false e)

unclosed : (t : List ℕ) → head t ≡ 125 → punctuate after_comma (lex between t) ≡ bad ∷ []
unfolding punctuate
unclosed t e = ap (punctuate after_comma) (lex-end_object t e)

unclosed_array : (t : List ℕ) → head t ≡ 93 → punctuate after_comma (lex between t) ≡ bad ∷ []
unfolding punctuate
unclosed_array t e = ap (punctuate after_comma) (lex-end_array t e)

-- A bad token from the place of the text.
pub bad_here : (stage : Stage) (text : List ℕ) (step : Step) → ahead stage text ≡ bad ∷ [] → token_of step.token ≡ bad → step.stage ≡ Over
    → IsTidy step.stage step.rest.now → ReadsFirst stage text step
bad_here stage text step is token_is over tidy = record { first = is ∙ sym (over_is step token_is over); passes = inl (over, token_is); tidy = tidy }

-- A step from the place of the text.
pub closed_here : (stage : Stage) (text : List ℕ) (step : Step) → closes_here stage ≡ true → StepsFrom may_close (lex between text) step
    → ReadsFirst stage text step
closed_here Open text step e steps = record { first = steps.first fresh refl; passes = steps.passes fresh refl; tidy = steps.tidy }
closed_here Behind text step e steps = record { first = steps.first after_value refl; passes = steps.passes after_value refl; tidy = steps.tidy }
closed_here _ text step e steps = absurd (true≢false (sym e))

pub begun_here : (stage : Stage) (text : List ℕ) (step : Step) → begins_here stage ≡ true → StepsFrom may_begin (lex between text) step
    → ReadsFirst stage text step
begun_here Open text step e steps = record { first = steps.first fresh refl; passes = steps.passes fresh refl; tidy = steps.tidy }
begun_here Owed text step e steps = record { first = steps.first after_comma refl; passes = steps.passes after_comma refl; tidy = steps.tidy }
begun_here _ text step e steps = absurd (true≢false (sym e))

pub may_not_close : (stage : Stage) (text : List ℕ) → (stage ≡ Over → ⊥) → closes_here stage ≡ false → (head text ≡ 125) ⊎ (head text ≡ 93)
    → ahead stage text ≡ bad ∷ []
may_not_close Owed text some e (inl object) = unclosed text object
may_not_close Owed text some e (inr array) = unclosed_array text array
may_not_close Over text some e closer = absurd (some refl)
may_not_close _ text some e closer = absurd (true≢false e)

pub may_not_begin : (stage : Stage) (text : List ℕ) → (stage ≡ Over → ⊥) → begins_here stage ≡ false → IsTidy stage text
    → (text ≡ [] → ⊥) → (head text ≡ 125 → ⊥) → (head text ≡ 93 → ⊥) → ahead stage text ≡ bad ∷ []
may_not_begin Behind text some e tidy more a b = stray-behind text tidy.trimmed more (tidy.comma refl) a b
may_not_begin Over text some e tidy more a b = absurd (some refl)
may_not_begin _ text some e tidy more a b = absurd (true≢false e)

-- ---- tokens that are read can be written

printable_ahead : (stage : Stage) (rest : List ℕ) → ArePrintableOrBad (ahead stage rest)
printable_ahead Open rest = ArePrintableOrBad-tokens_at Fresh rest
printable_ahead Behind rest = ArePrintableOrBad-tokens_at AfterValue rest
printable_ahead Owed rest = ArePrintableOrBad-tokens_at AfterComma rest
printable_ahead Over rest = tt

good_printable : (t : variants.Token) → IsPrintableOrBad (token_of t) → (t ≡ tokens.Bad → ⊥) → IsPrintable (token_of t)
good_printable tokens.Bad p isn't = absurd (isn't refl)
good_printable _ p isn't = p

pub first_printable : (stage : Stage) (rest : List ℕ) (t : variants.Token) (left : List Token) → ahead stage rest ≡ token_of t ∷ left
    → (t ≡ tokens.Bad → ⊥) → IsPrintable (token_of t)
first_printable stage rest t left is = good_printable t (subst ArePrintableOrBad is (printable_ahead stage rest)).0
