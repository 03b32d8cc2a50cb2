-- Which tokens close a collection, which are names or strings, and with which no value begins.
use Rattle.yaml_json.proofs.Common.{ℕ, Bool, false, true, List, ◌∷◌, refl, ◌≡◌, Bor, ap, sym, ◌∙◌, closer, opener, token_of, RefusesToken, Token, true≢false}
use Rattle.yaml_json.proofs.Common.{NoStringNext, closes, At, PastString, CollectionKind, Mapping, Sequence}
use Rattle.yaml_json.specs.Walk.{IsOpener}
use Rattle.yaml_json.specs.declared.values.Stop.TheVariants as stops
use Rattle.json.specs.declared.token.Token as read
use Rattle.json.specs.declared.token.Token.TheVariants as variants

-- ---- tokens

pub closes_is : (token : Token) (kind : CollectionKind) → closes token kind ≡ true → token ≡ closer kind
closes_is Token.end_object Mapping is = refl
closes_is Token.end_array Sequence is = refl
closes_is _ _ is = absurd (true≢false (sym is))

pub closes_not : (token : Token) (kind : CollectionKind) → closes token kind ≡ false → token ≡ closer kind → ⊥
closes_not token Sequence isn't is = true≢false (sym (ap (λ (t : Token). closes t Sequence) is) ∙ isn't)
closes_not token Mapping isn't is = true≢false (sym (ap (λ (t : Token). closes t Mapping) is) ∙ isn't)

opens_none : (token : Token) → (token ≡ opener Sequence → ⊥) → (token ≡ opener Mapping → ⊥) → IsOpener token → ⊥
opens_none token array object (Sequence, is) = array is
opens_none token array object (Mapping, is) = object is

pub name_refused : (depth : ℕ) (levels : List CollectionKind) (text : List ℕ) → RefusesToken depth levels (Token.key text) (stops.NotJson PastString)
name_refused depth levels text = (((λ scalar. scalar), opens_none (Token.key text) (λ is. cc) (λ is. cc)), refl)

-- ---- tokens as they are read

-- no name
pub no_name : (token : read.Token) → ((text : Bor (List ℕ)) → token ≡ variants.Key text → ⊥) → (text : List ℕ) → token_of token ≡ Token.key text → ⊥
no_name (variants.Key name) isn't text is = isn't name refl
no_name _ isn't text is = cc

-- nor a string
pub no_string : (token : read.Token) (after : List Token) → ((text : Bor (List ℕ)) → token ≡ variants.Key text → ⊥)
    → ((text : Bor (List ℕ)) → token ≡ variants.String text → ⊥) → NoStringNext (token_of token ∷ after)
no_string (variants.Key text) after isn't none = absurd (isn't text refl)
no_string (variants.String text) after isn't none = absurd (none text refl)
no_string _ after isn't none = tt

-- no token with which a value begins, and no name
pub token_refused : (depth : ℕ) (levels : List CollectionKind) (token : read.Token) → (token ≡ variants.Null → ⊥)
    → ((flag : Bool) → token ≡ variants.Bool flag → ⊥) → ((text : Bor (List ℕ)) → token ≡ variants.Number text → ⊥)
    → ((text : Bor (List ℕ)) → token ≡ variants.String text → ⊥) → (token ≡ variants.BeginArray → ⊥) → (token ≡ variants.BeginObject → ⊥)
    → ((text : Bor (List ℕ)) → token ≡ variants.Key text → ⊥) → RefusesToken depth levels (token_of token) (stops.NotJson At)
token_refused depth levels variants.BeginObject null bool number string array object name = absurd (object refl)
token_refused depth levels variants.EndObject null bool number string array object name =
    (((λ scalar. scalar), opens_none Token.end_object (λ is. cc) (λ is. cc)), refl)
token_refused depth levels variants.BeginArray null bool number string array object name = absurd (array refl)
token_refused depth levels variants.EndArray null bool number string array object name =
    (((λ scalar. scalar), opens_none Token.end_array (λ is. cc) (λ is. cc)), refl)
token_refused depth levels (variants.Key text) null bool number string array object name = absurd (name text refl)
token_refused depth levels (variants.String text) null bool number string array object name = absurd (string text refl)
token_refused depth levels (variants.Number text) null bool number string array object name = absurd (number text refl)
token_refused depth levels (variants.Bool flag) null bool number string array object name = absurd (bool flag refl)
token_refused depth levels variants.Null null bool number string array object name = absurd (null refl)
token_refused depth levels variants.Bad null bool number string array object name = (((λ scalar. scalar), opens_none Token.bad (λ is. cc) (λ is. cc)), refl)
