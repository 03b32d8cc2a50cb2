-- The lexemes that a possible input names, by computation.
use Rattle.yaml_json.proofs.Common.{◌≡◌, ◌⊎◌, inl, inr, ℕ, Bool, true, false, ◌||◌, None, Some, List, refl, sym, ap, ◌∙◌, true≢false, Lexeme, colon, comma}
use Rattle.yaml_json.proofs.Common.{token, Token, begin_object, end_object, begin_array, end_array, Mapping, Sequence, IsScalar, closes, Expected}
use Rattle.json.specs.Token.{string, number, boolean, null}
use Rattle.yaml_json.{proofs.Closing.closes_is, specs.Expected.BeginsValue, specs.Expected.IsText, specs.Expected.Names, specs.Walk.IsOpener}
use Rattle.yaml_json.proofs.Following.{begins, by_token, is_colon, is_comma, is_text, names}
use Rattle.yaml_json.specs.declared.expecting.Expected.TheVariants as expected

-- ---- the lexemes that are named

begins_named : (t : Token) → begins t ≡ true → IsScalar t ⊎ IsOpener t
begins_named begin_object e = inr (Mapping, refl)
begins_named begin_array e = inr (Sequence, refl)
begins_named (string s) e = inl tt
begins_named (number s) e = inl tt
begins_named (boolean b) e = inl tt
begins_named null e = inl tt
begins_named _ e = absurd (true≢false (sym e))

value_named : (l : Lexeme) → by_token begins l ≡ true → BeginsValue (Some l)
value_named (token t) e = (t, (refl, begins_named t e))
value_named _ e = absurd (true≢false (sym e))

text_token : (t : Token) → is_text t ≡ true → (s : List ℕ) × (t ≡ string s)
text_token (string s) e = (s, refl)
text_token _ e = absurd (true≢false (sym e))

text_named : (l : Lexeme) → by_token is_text l ≡ true → IsText (Some l)
text_named (token t) e = let found = text_token t e in (found.0, ap (λ (u : Token). Some (token u)) found.1)
text_named _ e = absurd (true≢false (sym e))

array_end : (l : Lexeme) → by_token (λ t. closes t Sequence) l ≡ true → Some l ≡ Some (token end_array)
array_end (token t) e = ap (λ (u : Token). Some (token u)) (closes_is t Sequence e)
array_end _ e = absurd (true≢false (sym e))

object_end : (l : Lexeme) → by_token (λ t. closes t Mapping) l ≡ true → Some l ≡ Some (token end_object)
object_end (token t) e = ap (λ (u : Token). Some (token u)) (closes_is t Mapping e)
object_end _ e = absurd (true≢false (sym e))

comma_named : (l : Lexeme) → is_comma l ≡ true → Some l ≡ Some comma
comma_named comma e = refl
comma_named _ e = absurd (true≢false (sym e))

colon_named : (l : Lexeme) → is_colon l ≡ true → Some l ≡ Some colon
colon_named colon e = refl
colon_named _ e = absurd (true≢false (sym e))

either : {A B : Type 0} (a b : Bool) → (a ≡ true → A) → (b ≡ true → B) → (a || b) ≡ true → A ⊎ B
either true b f g e = inl (f refl)
either false b f g e = inr (g e)

pub named : (e : Expected) (l : Lexeme) → names e l ≡ true → Names e (Some l)
named expected.Text l is = value_named l is
named expected.Value l is = value_named l is
named expected.ItemOrEnd l is = either (by_token begins l) (by_token (λ t. closes t Sequence) l) (value_named l) (array_end l) is
named expected.NameOrEnd l is = either (by_token is_text l) (by_token (λ t. closes t Mapping) l) (text_named l) (object_end l) is
named expected.Name l is = text_named l is
named expected.Colon l is = colon_named l is
named expected.CommaOrBracket l is = either (is_comma l) (by_token (λ t. closes t Sequence) l) (comma_named l) (array_end l) is
named expected.CommaOrBrace l is = either (is_comma l) (by_token (λ t. closes t Mapping) l) (comma_named l) (object_end l) is
named _ l is = absurd (true≢false (sym is))

-- ---- and no others

scalar_begins : (t : Token) → IsScalar t → begins t ≡ true
scalar_begins (string s) is = refl
scalar_begins (number s) is = refl
scalar_begins (boolean b) is = refl
scalar_begins null is = refl
scalar_begins _ is = absurd is

opener_begins : (t : Token) → IsOpener t → begins t ≡ true
opener_begins t (Sequence, is) = ap begins is
opener_begins t (Mapping, is) = ap begins is

some_is : (l m : Lexeme) → Some l ≡ Some m → l ≡ m
some_is l m e = cc

is_so : (f : Lexeme → Bool) (l m : Lexeme) → f m ≡ true → Some l ≡ Some m → f l ≡ true
is_so f l m so e = ap f (some_is l m e) ∙ so

value_only : (l : Lexeme) → BeginsValue (Some l) → by_token begins l ≡ true
value_only l (t, (is, inl scalar)) = is_so (by_token begins) l (token t) (scalar_begins t scalar) is
value_only l (t, (is, inr opens)) = is_so (by_token begins) l (token t) (opener_begins t opens) is

text_only : (l : Lexeme) → IsText (Some l) → by_token is_text l ≡ true
text_only l (s, is) = is_so (by_token is_text) l (token (string s)) refl is

or_left : (a b : Bool) → a ≡ true → (a || b) ≡ true
or_left true b e = refl
or_left false b e = absurd (true≢false (sym e))

or_right : (a b : Bool) → b ≡ true → (a || b) ≡ true
or_right true b e = refl
or_right false b e = e

either_only : {A B : Type 0} (a b : Bool) → (A → a ≡ true) → (B → b ≡ true) → A ⊎ B → (a || b) ≡ true
either_only a b f g (inl x) = or_left a b (f x)
either_only a b f g (inr y) = or_right a b (g y)

none_is : (l : Lexeme) → Some l ≡ None → ⊥
none_is l e = cc

pub only : (e : Expected) (l : Lexeme) → Names e (Some l) → names e l ≡ true
only expected.Text l so = value_only l so
only expected.Value l so = value_only l so
only expected.ItemOrEnd l so =
    either_only (by_token begins l) (by_token (λ t. closes t Sequence) l) (value_only l) (is_so (by_token (λ t. closes t Sequence)) l (token end_array) refl) so
only expected.NameOrEnd l so =
    either_only (by_token is_text l) (by_token (λ t. closes t Mapping) l) (text_only l) (is_so (by_token (λ t. closes t Mapping)) l (token end_object) refl) so
only expected.Name l so = text_only l so
only expected.Colon l so = is_so is_colon l colon refl so
only expected.CommaOrBracket l so =
    either_only (is_comma l) (by_token (λ t. closes t Sequence) l) (is_so is_comma l comma refl)
    (is_so (by_token (λ t. closes t Sequence)) l (token end_array) refl) so
only expected.CommaOrBrace l so =
    either_only (is_comma l) (by_token (λ t. closes t Mapping) l) (is_so is_comma l comma refl)
    (is_so (by_token (λ t. closes t Mapping)) l (token end_object) refl) so
only expected.End l so = absurd (none_is l so)
only _ l so = absurd so

-- ---- the end of the text

nothing_is : (l : Lexeme) → None ≡ Some l → ⊥
nothing_is l e = cc

no_value : BeginsValue None → ⊥
no_value (t, (is, begins)) = nothing_is (token t) is

no_text : IsText None → ⊥
no_text (s, is) = nothing_is (token (string s)) is

neither : {A B : Type 0} → (A → ⊥) → (B → ⊥) → A ⊎ B → ⊥
neither f g (inl x) = f x
neither f g (inr y) = g y

abbrev pub is_end : Expected → Bool
is_end expected.End = true
is_end _ = false

pub no_end : (e : Expected) → is_end e ≡ false → Names e None → ⊥
no_end expected.Text isn't so = no_value so
no_end expected.Value isn't so = no_value so
no_end expected.ItemOrEnd isn't so = neither no_value (nothing_is (token end_array)) so
no_end expected.NameOrEnd isn't so = neither no_text (nothing_is (token end_object)) so
no_end expected.Name isn't so = no_text so
no_end expected.Colon isn't so = nothing_is colon so
no_end expected.CommaOrBracket isn't so = neither (nothing_is comma) (nothing_is (token end_array)) so
no_end expected.CommaOrBrace isn't so = neither (nothing_is comma) (nothing_is (token end_object)) so
no_end expected.End isn't so = true≢false isn't
no_end _ isn't so = so
