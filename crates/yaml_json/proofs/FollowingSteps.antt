-- One lexeme more of a value of JSON: it is named by the input that is possible, or no value goes on with it.
use Rattle.yaml_json.proofs.Common.{◌≡◌, ◌↔◌, false, List, [], ◌∷◌, refl, expected_by, innermost, Last, Nothing, Opener, Comma, Colon, First, Value, Lexeme}
use Rattle.yaml_json.proofs.Common.{after_comma, after_value, fresh, token, Token, CollectionKind, Mapping, Sequence}
use Rattle.yaml_json.proofs.{Completing.Completes, FirstLexemes.some_token}
use Rattle.yaml_json.proofs.Following.{If, IsReachable, Rest, kinds_next, last_next, names, never_late, no_token, same, text_item, text_name, text_owed}
use Rattle.json.specs.{Lex.punctuate, Token.string}
use Rattle.yaml_json.specs.declared.expecting.Expected.TheVariants as expected

-- The rest goes on with the lexeme if the input that is possible names it, and never else.
abbrev pub Goes : Last → List CollectionKind → Lexeme → List Lexeme → Type 0
Goes last kinds l ls = Rest last kinds (l ∷ ls) ↔ If (names (expected_by last (innermost kinds)) l) (Rest (last_next last l) (kinds_next kinds l) ls)

first_goes : (kinds : List CollectionKind) (l : Lexeme) (ls : List Lexeme) → Goes Nothing kinds l ls
unfolding punctuate
first_goes kinds (token (string s)) ls = text_owed fresh kinds s ls refl
first_goes kinds _ ls = same

member_goes : (kinds : List CollectionKind) (l : Lexeme) (ls : List Lexeme) → Goes Colon kinds l ls
unfolding punctuate
member_goes kinds (token (string s)) ls = text_owed fresh kinds s ls refl
member_goes kinds _ ls = same

array_goes : (kinds : List CollectionKind) (l : Lexeme) (ls : List Lexeme) → Goes Opener (Sequence ∷ kinds) l ls
unfolding punctuate
array_goes kinds (token (string s)) ls = text_item fresh kinds s ls refl
array_goes kinds _ ls = same

item_goes : (kinds : List CollectionKind) (l : Lexeme) (ls : List Lexeme) → Goes Comma (Sequence ∷ kinds) l ls
unfolding punctuate
item_goes kinds (token (string s)) ls = text_item after_comma kinds s ls refl
item_goes kinds _ ls = same

object_goes : (kinds : List CollectionKind) (l : Lexeme) (ls : List Lexeme) → Goes Opener (Mapping ∷ kinds) l ls
unfolding punctuate
object_goes kinds (token (string s)) ls = text_name fresh kinds s ls refl
object_goes kinds _ ls = same

name_goes : (kinds : List CollectionKind) (l : Lexeme) (ls : List Lexeme) → Goes Comma (Mapping ∷ kinds) l ls
unfolding punctuate
name_goes kinds (token (string s)) ls = text_name after_comma kinds s ls refl
name_goes kinds _ ls = same

colon_goes : (kinds : List CollectionKind) (l : Lexeme) (ls : List Lexeme) → Goes First (Mapping ∷ kinds) l ls
unfolding punctuate
colon_goes kinds (token t) ls = (λ so. no_token t ls (Mapping ∷ kinds) so, λ never. absurd never)
colon_goes kinds _ ls = same

-- ---- after a value

item_over : (last : Last) (kinds : List CollectionKind) (l : Lexeme) (ls : List Lexeme)
    → Completes false (Sequence ∷ kinds) (punctuate after_value (l ∷ ls))
    ↔ If (names expected.CommaOrBracket l) (Rest (last_next last l) (kinds_next (Sequence ∷ kinds) l) ls)
unfolding punctuate
item_over last kinds (token (string s)) ls = never_late (Completes false (Sequence ∷ kinds)) s ls (λ never. never)
item_over last kinds _ ls = same

member_over : (last : Last) (kinds : List CollectionKind) (l : Lexeme) (ls : List Lexeme)
    → Completes false (Mapping ∷ kinds) (punctuate after_value (l ∷ ls))
    ↔ If (names expected.CommaOrBrace l) (Rest (last_next last l) (kinds_next (Mapping ∷ kinds) l) ls)
unfolding punctuate
member_over last kinds (token (string s)) ls = never_late (Completes false (Mapping ∷ kinds)) s ls (λ never. never)
member_over last kinds _ ls = same

none_left : (ts : List Token) → Completes false [] ts → ts ≡ []
none_left [] so = refl
none_left (t ∷ ts) so = absurd so

nothing_over : (l : Lexeme) (ls : List Lexeme) → Completes false [] (punctuate after_value (l ∷ ls)) ↔ ⊥
nothing_over l ls = (λ so. absurd (some_token after_value l ls (λ e. cc) (none_left (punctuate after_value (l ∷ ls)) so)), λ never. absurd never)

-- ---- at each place

pub goes : (last : Last) (kinds : List CollectionKind) (l : Lexeme) (ls : List Lexeme) → IsReachable last kinds → Goes last kinds l ls
goes Nothing kinds l ls r = first_goes kinds l ls
goes Opener (Sequence ∷ kinds) l ls r = array_goes kinds l ls
goes Opener (Mapping ∷ kinds) l ls r = object_goes kinds l ls
goes Comma (Sequence ∷ kinds) l ls r = item_goes kinds l ls
goes Comma (Mapping ∷ kinds) l ls r = name_goes kinds l ls
goes Colon kinds l ls r = member_goes kinds l ls
goes First [] l ls r = nothing_over l ls
goes First (Sequence ∷ kinds) l ls r = item_over First kinds l ls
goes First (Mapping ∷ kinds) l ls r = colon_goes kinds l ls
goes Value [] l ls r = nothing_over l ls
goes Value (Sequence ∷ kinds) l ls r = item_over Value kinds l ls
goes Value (Mapping ∷ kinds) l ls r = member_over Value kinds l ls
goes _ [] l ls r = absurd r
