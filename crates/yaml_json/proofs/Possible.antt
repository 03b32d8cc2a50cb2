-- The lexemes that may follow those with which a value of JSON begins are those that the possible input names.
use Rattle.yaml_json.proofs.Common.{◌≡◌, ◌↔◌, ℕ, Bool, true, false, Option, None, Some, List, [], ◌∷◌, ◌++◌, refl, sym, subst, ap, ◌∙◌, append-nil}
use Rattle.yaml_json.proofs.Common.{append_assoc, true≢false, expected_by, innermost, IsAny, Json, Lexeme, colon, comma, fresh, token, end_object, end_array}
use Rattle.yaml_json.proofs.Common.{key, bad, json_tokens, Expected, Last, Nothing, Opener, Comma, First, Value, CollectionKind, Mapping, Sequence}
use Rattle.yaml_json.{specs.Expected.Names, specs.Places.BeginLexemes, specs.Places.MayFollow, proofs.Completing.Completes, proofs.Completing.is_value}
use Rattle.yaml_json.{proofs.Completing.of_value, proofs.FollowingSteps.goes, proofs.NamedLexemes.named, proofs.NamedLexemes.no_end, proofs.NamedLexemes.only}
use Rattle.yaml_json.proofs.Following.{If, IsReachable, Rest, kinds_next, last_next, names}
use Rattle.json.specs.{Lex.punctuate, Token.string, Token.number, Token.boolean, Token.null}
use Rattle.yaml_json.specs.declared.expecting.Expected.TheVariants as expected

-- ---- after some lexemes

abbrev pub last_over : Last → List Lexeme → Last
last_over last [] = last
last_over last (l ∷ ls) = last_over (last_next last l) ls

abbrev pub kinds_over : List CollectionKind → List Lexeme → List CollectionKind
kinds_over kinds [] = kinds
kinds_over kinds (l ∷ ls) = kinds_over (kinds_next kinds l) ls

-- each is named by the input that is possible there
abbrev pub Runs : Last → List CollectionKind → List Lexeme → Type 0
Runs last kinds [] = Unit {0}
Runs last kinds (l ∷ ls) = (names (expected_by last (innermost kinds)) l ≡ true) × Runs (last_next last l) (kinds_next kinds l) ls

word_reaches : (last : Last) (kinds : List CollectionKind) (s : List ℕ) → IsReachable (last_next last (token (string s))) kinds
word_reaches Nothing kinds s = tt
word_reaches _ kinds s = tt

comma_reaches : (last : Last) (kinds : List CollectionKind) → IsReachable last kinds → names (expected_by last (innermost kinds)) comma ≡ true
    → IsReachable Comma kinds
comma_reaches last (kind ∷ kinds) r is = tt
comma_reaches Opener [] r is = r
comma_reaches Comma [] r is = r
comma_reaches _ [] r is = true≢false (sym is)

reaches : (last : Last) (kinds : List CollectionKind) (l : Lexeme) → IsReachable last kinds → names (expected_by last (innermost kinds)) l ≡ true
    → IsReachable (last_next last l) (kinds_next kinds l)
reaches last kinds (token (key s)) r is = word_reaches last kinds s
reaches last kinds (token (string s)) r is = word_reaches last kinds s
reaches last kinds (token (number s)) r is = word_reaches last kinds s
reaches last kinds (token (boolean b)) r is = word_reaches last kinds []
reaches last kinds (token null) r is = word_reaches last kinds []
reaches last kinds (token bad) r is = word_reaches last kinds []
reaches last kinds comma r is = comma_reaches last kinds r is
reaches last kinds _ r is = tt

if_true : (b : Bool) (X : Type 0) → If b X → (b ≡ true) × X
if_true true X x = (refl, x)
if_true false X x = absurd x

then_if : (b : Bool) (X : Type 0) → b ≡ true → X → If b X
then_if true X e x = x
then_if false X e x = true≢false (sym e)

pub record RunsTo (last : Last) (kinds : List CollectionKind) (ls more : List Lexeme) : Type 0 where
  pub runs : Runs last kinds ls
  pub reachable : IsReachable (last_over last ls) (kinds_over kinds ls)
  pub rest : Rest (last_over last ls) (kinds_over kinds ls) more

runs_on : (ls more : List Lexeme) (last : Last) (kinds : List CollectionKind) → IsReachable last kinds → Rest last kinds (ls ++ more)
    → RunsTo last kinds ls more
runs_on [] more last kinds r so = record { runs = tt; reachable = r; rest = so }
runs_on (l ∷ ls) more last kinds r so =
    let here = if_true (names (expected_by last (innermost kinds)) l) (Rest (last_next last l) (kinds_next kinds l) (ls ++ more))
    ((goes last kinds l (ls ++ more) r).0 so) in
    let later = runs_on ls more (last_next last l) (kinds_next kinds l) (reaches last kinds l r here.0) here.1 in
    record { runs = (here.0, later.runs); reachable = later.reachable; rest = later.rest }

runs_back : (ls more : List Lexeme) (last : Last) (kinds : List CollectionKind) → IsReachable last kinds → Runs last kinds ls
    → Rest (last_over last ls) (kinds_over kinds ls) more → Rest last kinds (ls ++ more)
runs_back [] more last kinds r runs so = so
runs_back (l ∷ ls) more last kinds r runs so =
    (goes last kinds l (ls ++ more) r).1 (then_if (names (expected_by last (innermost kinds)) l) (Rest (last_next last l) (kinds_next kinds l) (ls ++ more))
    runs.0 (runs_back ls more (last_next last l) (kinds_next kinds l) (reaches last kinds l r runs.0) runs.1 so))

-- ---- lexemes that end what is open

abbrev closing : List CollectionKind → List Lexeme
closing [] = []
closing (Sequence ∷ kinds) = token end_array ∷ closing kinds
closing (Mapping ∷ kinds) = token end_object ∷ closing kinds

closes_all : (kinds : List CollectionKind) → Rest Value kinds (closing kinds)
unfolding punctuate
closes_all [] = tt
closes_all (Sequence ∷ kinds) = closes_all kinds
closes_all (Mapping ∷ kinds) = closes_all kinds

some_rest : (last : Last) (kinds : List CollectionKind) → IsReachable last kinds → (more : List Lexeme) × Rest last kinds more
unfolding punctuate
some_rest Opener [] r = absurd r
some_rest Comma [] r = absurd r
some_rest Opener (Sequence ∷ kinds) r = (token end_array ∷ closing kinds, closes_all kinds)
some_rest Opener (Mapping ∷ kinds) r = (token end_object ∷ closing kinds, closes_all kinds)
some_rest Comma (Sequence ∷ kinds) r = (token null ∷ token end_array ∷ closing kinds, closes_all kinds)
some_rest Comma (Mapping ∷ kinds) r = (token (string []) ∷ colon ∷ token null ∷ token end_object ∷ closing kinds, closes_all kinds)
some_rest First [] r = ([], tt)
some_rest First (Sequence ∷ kinds) r = (token end_array ∷ closing kinds, closes_all kinds)
some_rest First (Mapping ∷ kinds) r = (colon ∷ token null ∷ token end_object ∷ closing kinds, closes_all kinds)
some_rest Value kinds r = (closing kinds, closes_all kinds)
some_rest _ kinds r = (token null ∷ closing kinds, closes_all kinds)

-- ---- the end of the text

ends_here : (last : Last) (kinds : List CollectionKind) → IsReachable last kinds → Rest last kinds [] → Names (expected_by last (innermost kinds)) None
unfolding punctuate
ends_here Opener [] r so = absurd r
ends_here First [] r so = refl
ends_here Value [] r so = refl
ends_here Opener (Sequence ∷ kinds) r so = absurd so
ends_here Comma (Sequence ∷ kinds) r so = absurd so
ends_here First (Sequence ∷ kinds) r so = absurd so
ends_here Value (Sequence ∷ kinds) r so = absurd so
ends_here _ _ r so = absurd so

ended : (last : Last) (kinds : List CollectionKind) → Names (expected_by last (innermost kinds)) None → Rest last kinds []
unfolding punctuate
ended Opener [] so = absurd (no_end expected.ItemOrEnd refl so)
ended Opener (Sequence ∷ kinds) so = absurd (no_end expected.ItemOrEnd refl so)
ended Opener (Mapping ∷ kinds) so = absurd (no_end expected.NameOrEnd refl so)
ended Comma (Mapping ∷ kinds) so = absurd (no_end expected.Name refl so)
ended First [] so = tt
ended First (Sequence ∷ kinds) so = absurd (no_end expected.CommaOrBracket refl so)
ended First (Mapping ∷ kinds) so = absurd (no_end expected.Colon refl so)
ended Value [] so = tt
ended Value (Sequence ∷ kinds) so = absurd (no_end expected.CommaOrBracket refl so)
ended Value (Mapping ∷ kinds) so = absurd (no_end expected.CommaOrBrace refl so)
ended _ _ so = absurd (no_end expected.Value refl so)

-- ---- a value begins with the lexemes before

module _ (before : List Lexeme) where
  abbrev last : Last
  last = last_over Nothing before

  abbrev kinds : List CollectionKind
  kinds = kinds_over [] before

  abbrev possible : Expected
  possible = expected_by last (innermost kinds)

  run_before : (more : List Lexeme) (json : Json) → punctuate fresh (before ++ more) ≡ json_tokens json → RunsTo Nothing [] before more
  run_before more json is = runs_on before more Nothing [] tt (subst (Completes true []) (sym is) (of_value json))

  pub runs_before : BeginLexemes IsAny before → Runs Nothing [] before
  runs_before (json, (any, (more, is))) = (run_before more json is).runs

  reads_on : (more : List Lexeme) → IsReachable last kinds → Runs Nothing [] before → Rest last kinds more
      → (json : Json) × (punctuate fresh (before ++ more) ≡ json_tokens json)
  reads_on more r runs so = is_value (punctuate fresh (before ++ more)) (runs_back before more Nothing [] tt runs so)

  may_is_named : (next : Option Lexeme) → MayFollow before next → Names possible next
  may_is_named None (json, is) =
      let run = run_before [] json (ap (punctuate fresh) (append-nil before) ∙ is) in ends_here last kinds run.reachable run.rest
  may_is_named (Some l) (json, (any, (more, is))) =
      let run = run_before (l ∷ more) json (sym (ap (punctuate fresh) (append_assoc before (l ∷ []) more)) ∙ is) in
      named possible l (if_true (names possible l) (Rest (last_next last l) (kinds_next kinds l) more) ((goes last kinds l more run.reachable).0 run.rest)).0

  named_may : (next : Option Lexeme) → IsReachable last kinds → Runs Nothing [] before → Names possible next → MayFollow before next
  named_may None r runs so =
      let found = reads_on [] r runs (ended last kinds so) in
      (found.0, ap (punctuate fresh) (sym (append-nil before)) ∙ found.1)
  named_may (Some l) r runs so =
      let is = only possible l so in
      let more = some_rest (last_next last l) (kinds_next kinds l) (reaches last kinds l r is) in
      let found = reads_on (l ∷ more.0) r runs
      ((goes last kinds l more.0 r).1 (then_if (names possible l) (Rest (last_next last l) (kinds_next kinds l) more.0) is more.1)) in
      (found.0, (tt, (more.0, ap (punctuate fresh) (append_assoc before (l ∷ []) more.0) ∙ found.1)))

  -- So the input that is possible after them is what may follow.
  pub possible_is_named : BeginLexemes IsAny before → (next : Option Lexeme) → MayFollow before next ↔ Names possible next
  possible_is_named (json, (any, (more, is))) next =
      let run = run_before more json is in
      (may_is_named next, named_may next run.reachable run.runs)
