-- Lexemes of some tokens, and that they are read as those.
use Rattle.yaml_json.proofs.Common.{◌≡◌, Bool, true, false, List, [], ◌∷◌, ◌++◌, refl, sym, ap, ◌∙◌, true≢false, Json, Items, Members, items_tokens}
use Rattle.yaml_json.proofs.Common.{json_tokens, members_tokens, Lexeme, after_comma, after_key, after_value, begins_colon, colon, comma, fresh, may_begin}
use Rattle.yaml_json.proofs.Common.{may_close, token, Token, begin_object, end_object, begin_array, end_array, key, bad, place_of, Stage, Open, Owed, Over}
use Rattle.json.specs.{Lex.Place, Lex.punctuate, Token.string, Token.number, Token.boolean, Token.null}
use Rattle.yaml_json.{specs.Walk.IsBeginner, specs.declared.tokens.Stage.TheVariants.Behind, proofs.FirstLexemes.EndsValue}
use Rattle.yaml_json.proofs.PunctuateSteps.{put-begin_array, put-begin_object, put-end_array, put-end_object, put-key, put-string, put-word}
use Rattle.json.specs.Json as json

-- ---- no token of a value is bad

abbrev pub AllGood : List Token → Type 0
AllGood [] = Unit {0}
AllGood (t ∷ ts) = (t ≡ bad → ⊥) × AllGood ts

pub good_both : (front back : List Token) → AllGood front → AllGood back → AllGood (front ++ back)
good_both [] back one two = two
good_both (t ∷ front) back one two = (one.0, good_both front back one.1 two)

pub good_front : (front back : List Token) → AllGood (front ++ back) → AllGood front
good_front [] back all = tt
good_front (t ∷ front) back all = (all.0, good_front front back all.1)

pub good_back : (front back : List Token) → AllGood (front ++ back) → AllGood back
good_back [] back all = all
good_back (t ∷ front) back all = good_back front back all.1

mutual
  pub json_good : (j : Json) → AllGood (json_tokens j)
  json_good (json.array inner) = ((λ e. cc), items_good inner)
  json_good (json.object inner) = ((λ e. cc), members_good inner)
  json_good _ = ((λ e. cc), tt)

  items_good : (inner : Items) → AllGood (items_tokens inner)
  items_good json.no_items = ((λ e. cc), tt)
  items_good (json.item j more) = good_both (json_tokens j) (items_tokens more) (json_good j) (items_good more)

  members_good : (inner : Members) → AllGood (members_tokens inner)
  members_good json.no_members = ((λ e. cc), tt)
  members_good (json.member k j more) = ((λ e. cc), good_both (json_tokens j) (members_tokens more) (json_good j) (members_good more))

-- ---- the last token of a value ends it

pub record EndsWhole (tokens : List Token) : Type 0 where
  pub front : List Token
  pub last : Token
  pub parts : tokens ≡ front ++ last ∷ []
  pub ends : EndsValue last

ends_after : (first : List Token) (tokens : List Token) → EndsWhole tokens → EndsWhole (first ++ tokens)
ends_after [] tokens whole = whole
ends_after (t ∷ first) tokens whole =
    let more = ends_after first tokens whole in
    record { front = t ∷ more.front; last = more.last; parts = ap (λ (all : List Token). t ∷ all) more.parts; ends = more.ends }

just : (t : Token) → EndsValue t → EndsWhole (t ∷ [])
just t ends = record { front = []; last = t; parts = refl; ends = ends }

mutual
  pub json_ends : (j : Json) → EndsWhole (json_tokens j)
  json_ends json.null = just null tt
  json_ends (json.boolean v) = just (boolean v) tt
  json_ends (json.number s) = just (number s) tt
  json_ends (json.string s) = just (string s) tt
  json_ends (json.array inner) = ends_after (begin_array ∷ []) (items_tokens inner) (items_end inner)
  json_ends (json.object inner) = ends_after (begin_object ∷ []) (members_tokens inner) (members_end inner)

  items_end : (inner : Items) → EndsWhole (items_tokens inner)
  items_end json.no_items = just end_array tt
  items_end (json.item j more) = ends_after (json_tokens j) (items_tokens more) (items_end more)

  members_end : (inner : Members) → EndsWhole (members_tokens inner)
  members_end json.no_members = just end_object tt
  members_end (json.member k j more) =
      ends_after (key k ∷ []) (json_tokens j ++ members_tokens more) (ends_after (json_tokens j) (members_tokens more) (members_end more))

tail_same : (x y : Token) (a b : List Token) → x ∷ a ≡ y ∷ b → a ≡ b
tail_same x y a b e = cc

pub head_same : (x y : Token) (a b : List Token) → x ∷ a ≡ y ∷ b → x ≡ y
head_same x y a b e = cc

not_nothing : (b : List Token) (y : Token) → [] ≡ b ++ y ∷ [] → ⊥
not_nothing [] y e = cc
not_nothing (z ∷ b) y e = cc

pub last_same : (a b : List Token) (x y : Token) → a ++ x ∷ [] ≡ b ++ y ∷ [] → x ≡ y
last_same [] [] x y e = head_same x y [] [] e
last_same [] (z ∷ b) x y e = absurd (not_nothing b y (tail_same x z [] (b ++ y ∷ []) e))
last_same (z ∷ a) [] x y e = absurd (not_nothing a x (sym (tail_same z y (a ++ x ∷ []) [] e)))
last_same (z ∷ a) (w ∷ b) x y e = last_same a b x y (tail_same z w (a ++ x ∷ []) (b ++ y ∷ []) e)

-- ---- lexemes of tokens

abbrev separated : (due : Bool) → List Lexeme → List Lexeme
separated true lexemes = comma ∷ lexemes
separated false lexemes = lexemes

-- If a comma is due, it precedes each lexeme but the end of a collection.
abbrev pub spelled : (due : Bool) → List Token → List Lexeme
spelled due [] = []
spelled due (begin_object ∷ ts) = separated due (token begin_object ∷ spelled false ts)
spelled due (end_object ∷ ts) = token end_object ∷ spelled true ts
spelled due (begin_array ∷ ts) = separated due (token begin_array ∷ spelled false ts)
spelled due (end_array ∷ ts) = token end_array ∷ spelled true ts
spelled due (key s ∷ ts) = separated due (token (string s) ∷ colon ∷ spelled false ts)
spelled due (string s ∷ ts) = separated due (token (string s) ∷ spelled true ts)
spelled due (number s ∷ ts) = separated due (token (number s) ∷ spelled true ts)
spelled due (boolean v ∷ ts) = separated due (token (boolean v) ∷ spelled true ts)
spelled due (null ∷ ts) = separated due (token null ∷ spelled true ts)
spelled due (bad ∷ ts) = token bad ∷ []

separated_colon : (due : Bool) (t : Token) (ls : List Lexeme) → begins_colon (separated due (token t ∷ ls)) ≡ false
separated_colon true t ls = refl
separated_colon false t ls = refl

pub spelled_colon : (due : Bool) (ts : List Token) → begins_colon (spelled due ts) ≡ false
spelled_colon due (begin_object ∷ ts) = separated_colon due begin_object (spelled false ts)
spelled_colon due (begin_array ∷ ts) = separated_colon due begin_array (spelled false ts)
spelled_colon due (key s ∷ ts) = separated_colon due (string s) (colon ∷ spelled false ts)
spelled_colon due (string s ∷ ts) = separated_colon due (string s) (spelled true ts)
spelled_colon due (number s ∷ ts) = separated_colon due (number s) (spelled true ts)
spelled_colon due (boolean v ∷ ts) = separated_colon due (boolean v) (spelled true ts)
spelled_colon due (null ∷ ts) = separated_colon due null (spelled true ts)
spelled_colon due _ = refl

abbrev pub AreSpelled : List Token → Type 0
AreSpelled ts = (punctuate fresh (spelled false ts) ≡ ts) × (punctuate after_value (spelled true ts) ≡ ts)

-- Lexemes that begin a value or are a name.
pub begun_so : (p : Place) → may_begin p ≡ true → (t : Token) → IsBeginner t → (ts : List Token) → AreSpelled ts → punctuate p (spelled false (t ∷ ts)) ≡ t ∷ ts
begun_so p may begin_object is ts so = put-begin_object p (spelled false ts) may ∙ ap (λ (l : List Token). begin_object ∷ l) so.0
begun_so p may begin_array is ts so = put-begin_array p (spelled false ts) may ∙ ap (λ (l : List Token). begin_array ∷ l) so.0
begun_so p may (key s) is ts so = put-key p s (spelled false ts) may ∙ ap (λ (l : List Token). key s ∷ l) so.0
begun_so p may (string s) is ts so = put-string p s (spelled true ts) may (spelled_colon true ts) ∙ ap (λ (l : List Token). string s ∷ l) so.1
begun_so p may (number s) is ts so = put-word p (number s) (spelled true ts) tt (λ e. cc) may ∙ ap (λ (l : List Token). number s ∷ l) so.1
begun_so p may (boolean v) is ts so = put-word p (boolean v) (spelled true ts) tt (λ e. cc) may ∙ ap (λ (l : List Token). boolean v ∷ l) so.1
begun_so p may null is ts so = put-word p null (spelled true ts) tt (λ e. cc) may ∙ ap (λ (l : List Token). null ∷ l) so.1
begun_so p may _ is ts so = absurd is

-- and a comma before it
owed : (ls : List Lexeme) → punctuate after_value (comma ∷ ls) ≡ punctuate after_comma ls
unfolding punctuate
owed ls = refl

begun_after : (t : Token) → IsBeginner t → (ts : List Token) → AreSpelled ts → punctuate after_value (spelled true (t ∷ ts)) ≡ t ∷ ts
begun_after end_object is ts so = absurd is
begun_after end_array is ts so = absurd is
begun_after bad is ts so = absurd is
begun_after t is ts so = owed (spelled false (t ∷ ts)) ∙ begun_so after_comma refl t is ts so

begins : (t : Token) → IsBeginner t → (ts : List Token) → AreSpelled ts → AreSpelled (t ∷ ts)
begins t is ts so = (begun_so fresh refl t is ts so, begun_after t is ts so)

pub nothing_left : (p : Place) → may_close p ≡ true → punctuate p [] ≡ []
unfolding punctuate
nothing_left after_comma may = absurd (true≢false (sym may))
nothing_left after_key may = absurd (true≢false (sym may))
nothing_left _ may = refl

pub are_spelled : (ts : List Token) → AllGood ts → AreSpelled ts
are_spelled [] good = (nothing_left fresh refl, nothing_left after_value refl)
are_spelled (end_object ∷ ts) good =
    let more = are_spelled ts good.1 in (
      put-end_object fresh (spelled true ts) refl ∙ ap (λ (l : List Token). end_object ∷ l) more.1,
      put-end_object after_value (spelled true ts) refl ∙ ap (λ (l : List Token). end_object ∷ l) more.1,
    )
are_spelled (end_array ∷ ts) good =
    let more = are_spelled ts good.1 in (
      put-end_array fresh (spelled true ts) refl ∙ ap (λ (l : List Token). end_array ∷ l) more.1,
      put-end_array after_value (spelled true ts) refl ∙ ap (λ (l : List Token). end_array ∷ l) more.1,
    )
are_spelled (bad ∷ ts) good = absurd (good.0 refl)
are_spelled (t ∷ ts) good = begins t tt ts (are_spelled ts good.1)

-- ---- from a stage

abbrev pub due_at : Stage → Bool
due_at Behind = true
due_at Over = true
due_at _ = false

pub goes_on_at : (stage : Stage) (t : Token) → IsBeginner t → (ts : List Token) → AllGood ts
    → punctuate (place_of stage) (spelled (due_at stage) (t ∷ ts)) ≡ t ∷ ts
goes_on_at Open t is ts good = begun_so fresh refl t is ts (are_spelled ts good)
goes_on_at Owed t is ts good = begun_so after_comma refl t is ts (are_spelled ts good)
goes_on_at _ t is ts good = begun_after t is ts (are_spelled ts good)
