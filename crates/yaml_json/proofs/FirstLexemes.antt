-- Lexemes that are left, and their tokens: there are some, and the first of them is found.
use Rattle.yaml_json.proofs.Common.{◌≡◌, ℕ, Bool, true, false, cond, ◌==◌, List, [], ◌∷◌, refl, sym, subst, ap, ◌∙◌, true≢false, false_from_ne_true, Lexeme}
use Rattle.yaml_json.proofs.Common.{after_comma, after_key, after_value, backslash, begins_colon, colon, comma, fresh, if_allowed, in_word, in_string, lex_byte}
use Rattle.yaml_json.proofs.Common.{may_begin, may_close, operator, other, place_token, quote, space, string_token, token, content, Token, begin_object}
use Rattle.yaml_json.proofs.Common.{end_object, begin_array, end_array, key, bad, head, is_operator, is_space, word, IsTrimmed, NoStringNext}
use Rattle.json.specs.{Lex.Mode, Lex.Place, Lex.between, Lex.lex, Lex.punctuate, Text.plain, Token.string, Token.number, Token.boolean, Token.null}
use Rattle.yaml_json.proofs.LexSteps.{each_operator}
use Rattle.yaml_json.proofs.PunctuateSteps.{as_placed, put-end_array, put-end_object, put-string, put-word}
use Rattle.json.specs.Ascii as ascii

-- ---- the rest has a lexeme

abbrev pub HasFirst : List Lexeme → Type 0
HasFirst lexemes = (first : Lexeme) × ((others : List Lexeme) × (lexemes ≡ first ∷ others))

some_byte : (q b : Bool) (x : ℕ) (xs : List ℕ) (k : Mode → List Lexeme)
    → HasFirst (lex_byte between (cond q quote (cond b backslash (cond false operator (cond false space other)))) x xs k)
some_byte true b x xs k = (token (string_token (content plain xs)), (k in_string, refl))
some_byte false true x xs k = (token bad, (k in_word, refl))
some_byte false false x xs k = (token (word (x ∷ xs)), (k in_word, refl))

pub some_lexeme : (t : List ℕ) → IsTrimmed t → (t ≡ [] → ⊥) → HasFirst (lex between t)
unfolding lex
some_lexeme [] trimmed some = absurd (some refl)
some_lexeme (x ∷ xs) trimmed some = go (is_operator x) (is_space x) refl refl
  where
    go : (o s : Bool) → is_operator x ≡ o → is_space x ≡ s → HasFirst (lex between (x ∷ xs))
    go true s e f =
        each_operator (λ v. HasFirst (lex between (v ∷ xs)))
        (token begin_object, (lex between xs, refl)) (token end_object, (lex between xs, refl)) (token begin_array, (lex between xs, refl))
        (token end_array, (lex between xs, refl)) (colon, (lex between xs, refl)) (comma, (lex between xs, refl)) x e
    go false true e f = let none = trimmed f in cc
    go false false e f =
        subst HasFirst (sym (λ i. lex_byte between
        (cond (x == ascii.quote) quote (cond (x == ascii.backslash) backslash (cond (e i) operator (cond (f i) space other))))
        x xs (λ next. lex next xs))) (some_byte (x == ascii.quote) (x == ascii.backslash) x xs (λ next. lex next xs))

-- a comma comes from its byte
no_comma_byte : (q b : Bool) (x : ℕ) (xs : List ℕ) (k : Mode → List Lexeme) (more : List Lexeme)
    → lex_byte between (cond q quote (cond b backslash (cond false operator (cond false space other)))) x xs k ≡ comma ∷ more → ⊥
no_comma_byte true b x xs k more e = cc
no_comma_byte false true x xs k more e = cc
no_comma_byte false false x xs k more e = cc

other_lexeme : (l : Lexeme) (ls more : List Lexeme) → l ∷ ls ≡ comma ∷ more → (l ≡ comma → ⊥) → ⊥
other_lexeme l ls more e apart = apart cc

nothing_first : (more : List Lexeme) → [] ≡ comma ∷ more → ⊥
nothing_first more e = cc

pub comma_first : (t : List ℕ) → IsTrimmed t → (more : List Lexeme) → lex between t ≡ comma ∷ more → head t ≡ 44
unfolding lex
comma_first [] trimmed more e = absurd (nothing_first more e)
comma_first (x ∷ xs) trimmed more e = go (is_operator x) (is_space x) refl refl
  where
    go : (o s : Bool) → is_operator x ≡ o → is_space x ≡ s → x ≡ 44
    go true s f g =
        each_operator (λ v. lex between (v ∷ xs) ≡ comma ∷ more → v ≡ 44) (λ is. absurd (other_lexeme (token begin_object) (lex between xs) more is (λ e. cc)))
        (λ is. absurd (other_lexeme (token end_object) (lex between xs) more is (λ e. cc)))
        (λ is. absurd (other_lexeme (token begin_array) (lex between xs) more is (λ e. cc)))
        (λ is. absurd (other_lexeme (token end_array) (lex between xs) more is (λ e. cc)))
        (λ is. absurd (other_lexeme colon (lex between xs) more is (λ e. cc))) (λ is. refl) x f e
    go false true f g = let none = trimmed g in cc
    go false false f g =
        absurd (no_comma_byte (x == ascii.quote) (x == ascii.backslash) x xs (λ next. lex next xs) more (sym (λ i. lex_byte between
        (cond (x == ascii.quote) quote (cond (x == ascii.backslash) backslash (cond (f i) operator (cond (g i) space other)))) x xs (λ next. lex next xs)) ∙ e))

-- ---- a lexeme has a token

allowed_some : (b : Bool) (t : Token) (k : Place → List Token) (next : Place) → if_allowed b t k next ≡ [] → ⊥
allowed_some true t k next e = cc
allowed_some false t k next e = cc

placed_some : (p : Place) (t : Token) (b : Bool) (k : Place → List Token) → place_token p t b k ≡ [] → ⊥
placed_some p begin_object b k e = allowed_some (may_begin p) begin_object k fresh e
placed_some p end_object b k e = allowed_some (may_close p) end_object k after_value e
placed_some p begin_array b k e = allowed_some (may_begin p) begin_array k fresh e
placed_some p end_array b k e = allowed_some (may_close p) end_array k after_value e
placed_some p (string s) true k e = allowed_some (may_begin p) (key s) k after_key e
placed_some p (string s) false k e = allowed_some (may_begin p) (string s) k after_value e
placed_some p (key s) b k e = cc
placed_some p bad b k e = cc
placed_some p w b k e = allowed_some (may_begin p) w k after_value e

pub some_after_comma : (ls : List Lexeme) → punctuate after_comma ls ≡ [] → ⊥
unfolding punctuate
some_after_comma (token t ∷ ls) e = placed_some after_comma t (begins_colon ls) (λ next. punctuate next ls) e
some_after_comma _ e = cc

pub some_token : (p : Place) (l : Lexeme) (ls : List Lexeme) → (p ≡ after_key → ⊥) → punctuate p (l ∷ ls) ≡ [] → ⊥
unfolding punctuate
some_token p (token t) ls apart e = placed_some p t (begins_colon ls) (λ next. punctuate next ls) (sym (as_placed p t ls) ∙ e)
some_token after_value comma ls apart e = some_after_comma ls e
some_token after_key comma ls apart e = absurd (apart refl)
some_token after_key colon ls apart e = absurd (apart refl)
some_token _ _ ls apart e = cc

-- So the rest has a token.
pub some_ahead : (p : Place) (t : List ℕ) → (p ≡ after_key → ⊥) → IsTrimmed t → (t ≡ [] → ⊥) → punctuate p (lex between t) ≡ [] → ⊥
some_ahead p t apart trimmed some e =
    let found = some_lexeme t trimmed some in
    some_token p found.0 found.1.0 apart (sym (ap (punctuate p) found.1.1) ∙ e)

-- ---- the first token

-- The first token from here on is this, whatever follows the lexeme.
pub record FirstIs (p : Place) (l : Lexeme) : Type 0 where
  pub token_is : Token
  pub rest_of : List Lexeme → List Token
  pub is : (more : List Lexeme) → punctuate p (l ∷ more) ≡ token_is ∷ rest_of more

abbrev allowed_rest : Bool → (Place → List Token) → Place → List Token
allowed_rest true k next = k next
allowed_rest false k next = []

allowed_is : (b : Bool) (t : Token) (k : Place → List Token) (next : Place) → if_allowed b t k next ≡ cond b t bad ∷ allowed_rest b k next
allowed_is true t k next = refl
allowed_is false t k next = refl

first_allowed : (p : Place) (t : Token) (b : Bool) (next : Place)
    → ((before_colon : Bool) (k : Place → List Token) → place_token p t before_colon k ≡ if_allowed b t k next) → FirstIs p (token t)
first_allowed p t b next same = record {
  token_is = cond b t bad;
  rest_of = λ more. allowed_rest b (λ place. punctuate place more) next;
  is = λ more. as_placed p t more ∙ same (begins_colon more) (λ place. punctuate place more) ∙ allowed_is b t (λ place. punctuate place more) next;
}

first_bad : (p : Place) (l : Lexeme) → ((more : List Lexeme) → punctuate p (l ∷ more) ≡ bad ∷ []) → FirstIs p l
first_bad p l is = record { token_is = bad; rest_of = λ more. []; is = is }

string_or_key : (b : Bool) (s : List ℕ) (k : Place → List Token) → NoStringNext (place_token fresh (string s) b k) → ⊥
string_or_key true s k none = none
string_or_key false s k none = none

string_or_key_owed : (b : Bool) (s : List ℕ) (k : Place → List Token) → NoStringNext (place_token after_comma (string s) b k) → ⊥
string_or_key_owed true s k none = none
string_or_key_owed false s k none = none

pub late_string : (b : Bool) (s : List ℕ) (k : Place → List Token) → place_token after_value (string s) b k ≡ bad ∷ []
late_string true s k = refl
late_string false s k = refl

first_string : (p : Place) (s : List ℕ) (ls : List Lexeme) → (p ≡ after_key → ⊥) → NoStringNext (punctuate p (token (string s) ∷ ls))
    → FirstIs p (token (string s))
first_string fresh s ls apart known =
    absurd (string_or_key (begins_colon ls) s (λ place. punctuate place ls) (subst NoStringNext (as_placed fresh (string s) ls) known))
first_string after_value s ls apart known =
    first_bad after_value (token (string s)) (λ more. as_placed after_value (string s) more ∙ late_string (begins_colon more) s (λ place. punctuate place more))
first_string after_comma s ls apart known =
    absurd (string_or_key_owed (begins_colon ls) s (λ place. punctuate place ls) (subst NoStringNext (as_placed after_comma (string s) ls) known))
first_string after_key s ls apart known = absurd (apart refl)

pub first_of : (p : Place) (l : Lexeme) (ls : List Lexeme) → (p ≡ after_key → ⊥) → (p ≡ after_value → l ≡ comma → ⊥)
    → NoStringNext (punctuate p (l ∷ ls)) → FirstIs p l
unfolding punctuate
first_of p (token begin_object) ls apart no_comma known = first_allowed p begin_object (may_begin p) fresh (λ b k. refl)
first_of p (token end_object) ls apart no_comma known = first_allowed p end_object (may_close p) after_value (λ b k. refl)
first_of p (token begin_array) ls apart no_comma known = first_allowed p begin_array (may_begin p) fresh (λ b k. refl)
first_of p (token end_array) ls apart no_comma known = first_allowed p end_array (may_close p) after_value (λ b k. refl)
first_of p (token (key s)) ls apart no_comma known = first_bad p (token (key s)) (λ more. as_placed p (key s) more)
first_of p (token (string s)) ls apart no_comma known = first_string p s ls apart known
first_of p (token bad) ls apart no_comma known = first_bad p (token bad) (λ more. as_placed p bad more)
first_of p (token w) ls apart no_comma known = first_allowed p w (may_begin p) after_value (λ b k. refl)
first_of after_key _ ls apart no_comma known = absurd (apart refl)
first_of after_value comma ls apart no_comma known = absurd (no_comma refl refl)
first_of p comma ls apart no_comma known = first_bad p comma (λ more. refl)
first_of p colon ls apart no_comma known = first_bad p colon (λ more. refl)

-- ---- which lexeme a token is of

bad_first : (t : Token) (left : List Token) → bad ∷ [] ≡ t ∷ left → (t ≡ bad → ⊥) → ⊥
bad_first t left e good = good cc

none_first : (t : Token) (left : List Token) → [] ≡ t ∷ left → ⊥
none_first t left e = cc

-- A string, by the lexeme after it.
pub record IsOfString (p : Place) (s : List ℕ) (ls : List Lexeme) (before_colon : Bool) : Type 0 where
  pub others : List Lexeme
  pub are : ls ≡ token (string s) ∷ others
  pub follows : begins_colon others ≡ before_colon
  pub may : may_begin p ≡ true

abbrev pub as_string : Bool → List ℕ → Token
as_string true s = key s
as_string false s = string s

-- the token is allowed, or bad
allowed_same : (b : Bool) (x : Token) (k : Place → List Token) (next : Place) (t : Token) (left : List Token) → if_allowed b x k next ≡ t ∷ left
    → (t ≡ bad → ⊥) → (b ≡ true) × ((x ≡ t) × (k next ≡ left))
allowed_same true x k next t left e good = (refl, (cc, cc))
allowed_same false x k next t left e good = absurd (bad_first t left e good)

abbrev is_string : Token → Bool
is_string (key s) = true
is_string (string s) = true
is_string _ = false

name_is_string : (b : Bool) (s : List ℕ) → is_string (as_string b s) ≡ true
name_is_string true s = refl
name_is_string false s = refl

name_is_good : (b : Bool) (s : List ℕ) → as_string b s ≡ bad → ⊥
name_is_good true s e = cc
name_is_good false s e = cc

other_token : (p : Place) (x : Token) (b : Bool) (s : List ℕ) (m : Bool) (k : Place → List Token) (next : Place) (left : List Token)
    → if_allowed m x k next ≡ as_string b s ∷ left → is_string x ≡ false → ⊥
other_token p x b s m k next left e isn't =
    let same = allowed_same m x k next (as_string b s) left e (name_is_good b s) in
    true≢false (sym (name_is_string b s) ∙ ap is_string (sym same.1.0) ∙ isn't)

key_same : (a b : Bool) (x s : List ℕ) → as_string a x ≡ as_string b s → (x ≡ s) × (a ≡ b)
key_same true false x s e = cc
key_same false true x s e = cc
key_same _ _ x s e = (cc, refl)

named : (p : Place) (x : List ℕ) (a b : Bool) (s : List ℕ) (k : Place → List Token) (left : List Token)
    → place_token p (string x) a k ≡ as_string b s ∷ left → (x ≡ s) × ((a ≡ b) × (may_begin p ≡ true))
named p x true b s k left e =
    let same = allowed_same (may_begin p) (key x) k after_key (as_string b s) left e (name_is_good b s) in
    let parts = key_same true b x s same.1.0 in
    (parts.0, (parts.1, same.0))
named p x false b s k left e =
    let same = allowed_same (may_begin p) (string x) k after_value (as_string b s) left e (name_is_good b s) in
    let parts = key_same false b x s same.1.0 in
    (parts.0, (parts.1, same.0))

pub of_string : (p : Place) (ls : List Lexeme) (b : Bool) (s : List ℕ) (left : List Token) → (p ≡ after_key → ⊥)
    → (p ≡ after_value → (more : List Lexeme) → ls ≡ comma ∷ more → ⊥) → punctuate p ls ≡ as_string b s ∷ left → IsOfString p s ls b
unfolding punctuate
of_string p (token begin_object ∷ ls) b s left apart no_comma e =
    absurd (other_token p begin_object b s (may_begin p) (λ place. punctuate place ls) fresh left (sym (as_placed p begin_object ls) ∙ e) refl)
of_string p (token end_object ∷ ls) b s left apart no_comma e =
    absurd (other_token p end_object b s (may_close p) (λ place. punctuate place ls) after_value left (sym (as_placed p end_object ls) ∙ e) refl)
of_string p (token begin_array ∷ ls) b s left apart no_comma e =
    absurd (other_token p begin_array b s (may_begin p) (λ place. punctuate place ls) fresh left (sym (as_placed p begin_array ls) ∙ e) refl)
of_string p (token end_array ∷ ls) b s left apart no_comma e =
    absurd (other_token p end_array b s (may_close p) (λ place. punctuate place ls) after_value left (sym (as_placed p end_array ls) ∙ e) refl)
of_string p (token (key x) ∷ ls) b s left apart no_comma e = absurd (bad_first (as_string b s) left (sym (as_placed p (key x) ls) ∙ e) (name_is_good b s))
of_string p (token (string x) ∷ ls) b s left apart no_comma e =
    let parts = named p x (begins_colon ls) b s (λ place. punctuate place ls) left (sym (as_placed p (string x) ls) ∙ e) in
    record { others = ls; are = ap (λ (y : List ℕ). token (string y) ∷ ls) parts.0; follows = parts.1.0; may = parts.1.1 }
of_string p (token bad ∷ ls) b s left apart no_comma e = absurd (bad_first (as_string b s) left (sym (as_placed p bad ls) ∙ e) (name_is_good b s))
of_string p (token w ∷ ls) b s left apart no_comma e =
    absurd (other_token p w b s (may_begin p) (λ place. punctuate place ls) after_value left (sym (as_placed p w ls) ∙ e) refl)
of_string after_key _ b s left apart no_comma e = absurd (apart refl)
of_string fresh [] b s left apart no_comma e = absurd (none_first (as_string b s) left e)
of_string after_value [] b s left apart no_comma e = absurd (none_first (as_string b s) left e)
of_string after_value (comma ∷ ls) b s left apart no_comma e = absurd (no_comma refl ls refl)
of_string _ _ b s left apart no_comma e = absurd (bad_first (as_string b s) left e (name_is_good b s))

-- ---- a token that ends a value

abbrev pub EndsValue : Token → Type 0
EndsValue begin_object = ⊥
EndsValue begin_array = ⊥
EndsValue (key s) = ⊥
EndsValue bad = ⊥
EndsValue _ = Unit {0}

pub record IsOfValue (p : Place) (t : Token) (ls : List Lexeme) (left : List Token) : Type 0 where
  pub others : List Lexeme
  pub are : ls ≡ token t ∷ others
  pub left_is : punctuate after_value others ≡ left
  pub reads : (more : List Lexeme) → (begins_colon more ≡ true → begins_colon others ≡ true) → punctuate p (token t ∷ more) ≡ t ∷ punctuate after_value more

pub ends_good : (t : Token) → EndsValue t → t ≡ bad → ⊥
ends_good t ends e = absurd (subst EndsValue e ends)

-- an allowed one
ends_here : (p : Place) (x : Token) (m : Bool) (ls : List Lexeme) (t : Token) (left : List Token) → EndsValue t
    → if_allowed m x (λ place. punctuate place ls) after_value ≡ t ∷ left
    → (m ≡ true → (more : List Lexeme) → (begins_colon more ≡ true → begins_colon ls ≡ true) → punctuate p (token x ∷ more) ≡ x ∷ punctuate after_value more)
    → IsOfValue p t (token x ∷ ls) left
ends_here p x m ls t left ends e put =
    let same = allowed_same m x (λ place. punctuate place ls) after_value t left e (ends_good t ends) in
    subst (λ (y : Token). IsOfValue p y (token x ∷ ls) left) same.1.0 (record { others = ls; are = refl; left_is = same.1.1; reads = put same.0 })

opens_none : (x : Token) (m : Bool) (k : Place → List Token) (next : Place) (t : Token) (left : List Token) → EndsValue t → if_allowed m x k next ≡ t ∷ left
    → (EndsValue x → ⊥) → ⊥
opens_none x m k next t left ends e isn't =
    let same = allowed_same m x k next t left e (ends_good t ends) in
    isn't (subst EndsValue (sym same.1.0) ends)

not_true : (b : Bool) → b ≡ false → (c : Bool) → (c ≡ true → b ≡ true) → c ≡ false
not_true b e c f = false_from_ne_true c (λ t. true≢false (sym (f t) ∙ e))

string_ends : (p : Place) (x : List ℕ) (ls : List Lexeme) (b : Bool) (t : Token) (left : List Token) → begins_colon ls ≡ b → EndsValue t
    → place_token p (string x) b (λ place. punctuate place ls) ≡ t ∷ left → IsOfValue p t (token (string x) ∷ ls) left
string_ends p x ls true t left is ends e = absurd (opens_none (key x) (may_begin p) (λ place. punctuate place ls) after_key t left ends e (λ never. never))
string_ends p x ls false t left is ends e =
    ends_here p (string x) (may_begin p) ls t left ends e (λ may more f. put-string p x more may (not_true (begins_colon ls) is (begins_colon more) f))

pub of_value : (p : Place) (ls : List Lexeme) (t : Token) (left : List Token) → EndsValue t → (p ≡ after_key → ⊥)
    → (p ≡ after_value → (more : List Lexeme) → ls ≡ comma ∷ more → ⊥) → punctuate p ls ≡ t ∷ left → IsOfValue p t ls left
unfolding punctuate
of_value p (token begin_object ∷ ls) t left ends apart no_comma e =
    absurd (opens_none begin_object (may_begin p) (λ place. punctuate place ls) fresh t left ends (sym (as_placed p begin_object ls) ∙ e) (λ never. never))
of_value p (token end_object ∷ ls) t left ends apart no_comma e =
    ends_here p end_object (may_close p) ls t left ends (sym (as_placed p end_object ls) ∙ e) (λ may more f. put-end_object p more may)
of_value p (token begin_array ∷ ls) t left ends apart no_comma e =
    absurd (opens_none begin_array (may_begin p) (λ place. punctuate place ls) fresh t left ends (sym (as_placed p begin_array ls) ∙ e) (λ never. never))
of_value p (token end_array ∷ ls) t left ends apart no_comma e =
    ends_here p end_array (may_close p) ls t left ends (sym (as_placed p end_array ls) ∙ e) (λ may more f. put-end_array p more may)
of_value p (token (key x) ∷ ls) t left ends apart no_comma e = absurd (bad_first t left (sym (as_placed p (key x) ls) ∙ e) (ends_good t ends))
of_value p (token (string x) ∷ ls) t left ends apart no_comma e = string_ends p x ls (begins_colon ls) t left refl ends (sym (as_placed p (string x) ls) ∙ e)
of_value p (token bad ∷ ls) t left ends apart no_comma e = absurd (bad_first t left (sym (as_placed p bad ls) ∙ e) (ends_good t ends))
of_value p (token w ∷ ls) t left ends apart no_comma e =
    ends_here p w (may_begin p) ls t left ends (sym (as_placed p w ls) ∙ e) (λ may more f. put-word p w more tt (λ e. cc) may)
of_value after_key _ t left ends apart no_comma e = absurd (apart refl)
of_value fresh [] t left ends apart no_comma e = absurd (none_first t left e)
of_value after_value [] t left ends apart no_comma e = absurd (none_first t left e)
of_value after_value (comma ∷ ls) t left ends apart no_comma e = absurd (no_comma refl ls refl)
of_value _ _ t left ends apart no_comma e = absurd (bad_first t left e (ends_good t ends))
