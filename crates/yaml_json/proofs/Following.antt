-- The lexemes that follow one another in a value of JSON, by the last token and the arrays and objects that are open.
use Rattle.yaml_json.proofs.Common.{◌≡◌, ◌↔◌, ℕ, Bool, true, false, ◌||◌, List, [], ◌∷◌, drop, refl, sym, subst, ◌∙◌, true≢false, Lexeme, after_comma}
use Rattle.yaml_json.proofs.Common.{after_key, after_value, begins_colon, colon, comma, fresh, if_allowed, may_begin, place_token, token, Token, begin_object}
use Rattle.yaml_json.proofs.Common.{end_object, begin_array, end_array, key, bad, closes, Expected, CollectionKind, Mapping, Sequence, Last, Opener, Comma}
use Rattle.yaml_json.proofs.Common.{Colon, First, Value}
use Rattle.json.specs.{Lex.Place, Lex.punctuate, Token.string}
use Rattle.yaml_json.specs.Expected.{after_word_byte}
use Rattle.yaml_json.proofs.{PunctuateSteps.put-string, PunctuateSteps.as_placed, FirstLexemes.late_string, Completing.Completes}
use Rattle.yaml_json.specs.declared.expecting.Expected.TheVariants as expected

-- ---- after a lexeme

-- the kind of the last token
abbrev pub last_by : Last → Token → Last
last_by last begin_object = Opener
last_by last end_object = Value
last_by last begin_array = Opener
last_by last end_array = Value
last_by last _ = after_word_byte last

abbrev pub last_next : Last → Lexeme → Last
last_next last (token t) = last_by last t
last_next last comma = Comma
last_next last colon = Colon

-- the open arrays and objects
abbrev pub kinds_by : List CollectionKind → Token → List CollectionKind
kinds_by kinds begin_object = Mapping ∷ kinds
kinds_by kinds end_object = drop 1 kinds
kinds_by kinds begin_array = Sequence ∷ kinds
kinds_by kinds end_array = drop 1 kinds
kinds_by kinds _ = kinds

abbrev pub kinds_next : List CollectionKind → Lexeme → List CollectionKind
kinds_next kinds (token t) = kinds_by kinds t
kinds_next kinds _ = kinds

-- ---- the lexemes that an input names

abbrev pub begins : Token → Bool
begins end_object = false
begins end_array = false
begins (key s) = false
begins bad = false
begins _ = true

abbrev pub is_text : Token → Bool
is_text (string s) = true
is_text _ = false

abbrev pub by_token : (Token → Bool) → Lexeme → Bool
by_token f (token t) = f t
by_token f _ = false

abbrev pub is_comma : Lexeme → Bool
is_comma comma = true
is_comma _ = false

abbrev pub is_colon : Lexeme → Bool
is_colon colon = true
is_colon _ = false

abbrev pub names : Expected → Lexeme → Bool
names expected.Text l = by_token begins l
names expected.Value l = by_token begins l
names expected.ItemOrEnd l = by_token begins l || by_token (λ t. closes t Sequence) l
names expected.NameOrEnd l = by_token is_text l || by_token (λ t. closes t Mapping) l
names expected.Name l = by_token is_text l
names expected.Colon l = is_colon l
names expected.CommaOrBracket l = is_comma l || by_token (λ t. closes t Sequence) l
names expected.CommaOrBrace l = is_comma l || by_token (λ t. closes t Mapping) l
names _ l = false

-- ---- the rest of a value

-- The lexemes go on with a value after this last token, with these open.
abbrev pub Rest : Last → List CollectionKind → List Lexeme → Type 0
Rest Opener kinds ls = Completes false kinds (punctuate fresh ls)
Rest Comma kinds ls = Completes false kinds (punctuate after_comma ls)
Rest First [] ls = Completes false [] (punctuate after_value ls)
Rest First (Sequence ∷ kinds) ls = Completes false (Sequence ∷ kinds) (punctuate after_value ls)
Rest First (Mapping ∷ kinds) ls = Completes true (Mapping ∷ kinds) (punctuate after_key ls)
Rest Value kinds ls = Completes false kinds (punctuate after_value ls)
Rest _ kinds ls = Completes true kinds (punctuate fresh ls)

-- A bracket that was opened, or a comma, is within what is open.
abbrev pub IsReachable : Last → List CollectionKind → Type 0
IsReachable Opener [] = ⊥
IsReachable Comma [] = ⊥
IsReachable _ _ = Unit {0}

abbrev pub If : Bool → Type 0 → Type 0
If true X = X
If false X = ⊥

pub same : {X : Type 0} → X ↔ X
same = (λ x. x, λ x. x)

-- ---- a string

name_put : (p : Place) (s : List ℕ) (ls : List Lexeme) → may_begin p ≡ true → begins_colon ls ≡ true
    → punctuate p (token (string s) ∷ ls) ≡ key s ∷ punctuate after_key ls
name_put p s ls may e =
    as_placed p (string s) ls ∙ (λ i. place_token p (string s) (e i) (λ next. punctuate next ls))
    ∙ (λ i. if_allowed (may i) (key s) (λ next. punctuate next ls) after_key)

-- it is a name before a colon, and else a value
either_text : (P : List Token → Type 0) (X : Type 0) (p : Place) (s : List ℕ) (ls : List Lexeme) → may_begin p ≡ true
    → (begins_colon ls ≡ true → P (key s ∷ punctuate after_key ls) ↔ X)
    → (begins_colon ls ≡ false → P (string s ∷ punctuate after_value ls) ↔ X)
    → P (punctuate p (token (string s) ∷ ls)) ↔ X
either_text P X p s ls may f g = go (begins_colon ls) refl
  where
    go : (b : Bool) → begins_colon ls ≡ b → P (punctuate p (token (string s) ∷ ls)) ↔ X
    go true e = subst (λ (ts : List Token). P ts ↔ X) (sym (name_put p s ls may e)) (f e)
    go false e = subst (λ (ts : List Token). P ts ↔ X) (sym (put-string p s ls may e)) (g e)

-- no colon follows a value
no_colon : (ls : List Lexeme) (kinds : List CollectionKind) → begins_colon ls ≡ true → Completes false kinds (punctuate after_value ls) → ⊥
unfolding punctuate
no_colon (colon ∷ ls) [] e so = so
no_colon (colon ∷ ls) (Sequence ∷ kinds) e so = so
no_colon (colon ∷ ls) (Mapping ∷ kinds) e so = so
no_colon _ kinds e so = true≢false (sym e)

late_name : (t : Token) (b : Bool) (k : Place → List Token) → place_token after_key t b k ≡ bad ∷ []
late_name (string s) true k = refl
late_name _ _ k = refl

-- nothing else follows a name
pub no_token : (t : Token) (ls : List Lexeme) (kinds : List CollectionKind) → Completes true kinds (punctuate after_key (token t ∷ ls)) → ⊥
no_token t ls kinds so = subst (Completes true kinds) (as_placed after_key t ls ∙ late_name t (begins_colon ls) (λ next. punctuate next ls)) so

no_other : (ls : List Lexeme) (kinds : List CollectionKind) → begins_colon ls ≡ false → Completes true kinds (punctuate after_key ls) → ⊥
unfolding punctuate
no_other (token t ∷ ls) kinds e so = no_token t ls kinds so
no_other (colon ∷ ls) kinds e so = true≢false e
no_other _ kinds e so = so

pub text_owed : (p : Place) (kinds : List CollectionKind) (s : List ℕ) (ls : List Lexeme) → may_begin p ≡ true
    → Completes true kinds (punctuate p (token (string s) ∷ ls)) ↔ Completes false kinds (punctuate after_value ls)
text_owed p kinds s ls may =
    either_text (Completes true kinds) (Completes false kinds (punctuate after_value ls)) p s ls may
    (λ e. (λ never. absurd never, λ so. absurd (no_colon ls kinds e so))) (λ e. same)

pub text_item : (p : Place) (kinds : List CollectionKind) (s : List ℕ) (ls : List Lexeme) → may_begin p ≡ true
    → Completes false (Sequence ∷ kinds) (punctuate p (token (string s) ∷ ls)) ↔ Completes false (Sequence ∷ kinds) (punctuate after_value ls)
text_item p kinds s ls may =
    either_text (Completes false (Sequence ∷ kinds)) (Completes false (Sequence ∷ kinds) (punctuate after_value ls)) p s ls may
    (λ e. (λ never. absurd never, λ so. absurd (no_colon ls (Sequence ∷ kinds) e so))) (λ e. same)

pub text_name : (p : Place) (kinds : List CollectionKind) (s : List ℕ) (ls : List Lexeme) → may_begin p ≡ true
    → Completes false (Mapping ∷ kinds) (punctuate p (token (string s) ∷ ls)) ↔ Completes true (Mapping ∷ kinds) (punctuate after_key ls)
text_name p kinds s ls may =
    either_text (Completes false (Mapping ∷ kinds)) (Completes true (Mapping ∷ kinds) (punctuate after_key ls)) p s ls may
    (λ e. same) (λ e. (λ never. absurd never, λ so. absurd (no_other ls (Mapping ∷ kinds) e so)))

-- a string doesn't follow a value
late_put : (s : List ℕ) (ls : List Lexeme) → punctuate after_value (token (string s) ∷ ls) ≡ bad ∷ []
late_put s ls = as_placed after_value (string s) ls ∙ late_string (begins_colon ls) s (λ next. punctuate next ls)

pub never_late : (P : List Token → Type 0) (s : List ℕ) (ls : List Lexeme) → (P (bad ∷ []) → ⊥) → P (punctuate after_value (token (string s) ∷ ls)) ↔ ⊥
never_late P s ls refused = (λ so. refused (subst P (late_put s ls) so), λ never. absurd never)
