-- At the first lexeme that isn't possible, the input that is expected names the lexemes that may follow.
use Rattle.yaml_json.proofs.Common.{◌≡◌, ◌↔◌, inl, inr, ℕ, Bool, true, false, Option, List, [], ◌∷◌, ◌++◌, drop, length, take, refl, sym, subst, ap, ◌∙◌}
use Rattle.yaml_json.proofs.Common.{take-append-drop, CollectionKind, StandingInJson, expected_by, innermost, standing_over, start, MayBegin, mode_over}
use Rattle.yaml_json.proofs.Common.{Expected, Last, Nothing, Lexeme, in_word, lex, token, bad, ends_word, true≢false, append_cancel_right}
use Rattle.std.proofs.Common.{nat_le}
use Rattle.yaml_json.specs.{Expected.Names, Expected.expected_of, Places.ExpectedIsPossible, Places.MayFollow, declared.expecting.Quoting.Quoting}
use Rattle.yaml_json.proofs.{Following.kinds_next, Following.last_next, Following.names, LexSteps.lex-delimiter, LexSteps.lex-none}
use Rattle.yaml_json.proofs.LastTokens.{AreGood, lex_passed, passed, quoting_of, standing_at, stands_over}
use Rattle.yaml_json.proofs.Possible.{Runs, kinds_over, last_over, possible_is_named, runs_before}
use Rattle.json.specs.Lex.{Mode, between}
use Rattle.yaml_json.specs.declared.expecting.Expected.TheVariants as expected

-- ---- the lexemes before a place

word_ends : (t : List ℕ) → ends_word t ≡ true → lex in_word t ≡ lex between t
word_ends [] e = lex-none in_word ∙ sym (lex-none between)
word_ends (x ∷ xs) e = lex-delimiter x xs e

new_lexeme : (m : Mode) (t : List ℕ) → MayBegin m t → lex m t ≡ lex between t
new_lexeme m t (inl none) = ap (lex m) none ∙ lex-none m ∙ sym (lex-none between) ∙ ap (lex between) (sym none)
new_lexeme between t (inr may) = refl
new_lexeme in_word t (inr may) = word_ends t may
new_lexeme _ t (inr may) = absurd may

before_is : (front rest : List ℕ) (before : List Lexeme) → MayBegin (mode_over between front) rest
    → before ++ lex between rest ≡ lex between (front ++ rest) → before ≡ passed between front rest
before_is front rest before may parts =
    append_cancel_right before (passed between front rest) (lex between rest) (parts ∙ lex_passed between front rest
    ∙ ap (λ (ls : List Lexeme). passed between front rest ++ ls) (new_lexeme (mode_over between front) rest may))

no_bad : (e : Expected) → names e (token bad) ≡ false
no_bad expected.Text = refl
no_bad _ = refl

runs_good : (ls : List Lexeme) (last : Last) (kinds : List CollectionKind) → Runs last kinds ls → AreGood ls
runs_good [] last kinds runs = tt
runs_good (l ∷ ls) last kinds runs = (
  (λ is. let e = expected_by last (innermost kinds) in true≢false (sym runs.0 ∙ ap (names e) is ∙ no_bad e)),
  runs_good ls (last_next last l) (kinds_next kinds l) runs.1,
)

-- ---- the state there

state_before : (front rest : List ℕ) (before : List Lexeme) → before ≡ passed between front rest → Runs Nothing [] before
    → standing_over start front ≡ standing_at (quoting_of (mode_over between front)) (last_over Nothing before) (kinds_over [] before)
state_before front rest before is runs =
    stands_over between front rest Nothing [] tt (subst AreGood is (runs_good before Nothing [] runs))
    ∙ (λ i. standing_at (quoting_of (mode_over between front)) (last_over Nothing (sym is i)) (kinds_over [] (sym is i)))

same : {X : Type 0} → X ↔ X
same = (λ x. x, λ x. x)

-- a text that has ended, and is blank, has all values ahead, as others have
blank_same : (q : Quoting) (last : Last) (kinds : List CollectionKind) (ended : Bool) (next : Option Lexeme)
    → Names (expected_by last (innermost kinds)) next ↔ Names (expected_of (standing_at q last kinds) ended) next
blank_same q Nothing kinds true next = same
blank_same q _ kinds _ next = same

through : {A B C : Type 0} → A ↔ B → B ↔ C → A ↔ C
through f g = (λ x. g.0 (f.0 x), λ z. f.1 (g.1 z))

pub expected_is_possible : ExpectedIsPossible
expected_is_possible text at place next =
    let front = take at text in
    let rest = drop at text in
    let before = place.before in
    let whole : front ++ rest ≡ text = take-append-drop at text in
    let is : before ≡ passed between front rest = before_is front rest before place.start.begins (place.parts ∙ ap (lex between) (sym whole)) in
    let stands = state_before front rest before is (runs_before before place.begins) in
    let q = quoting_of (mode_over between front) in
    let last = last_over Nothing before in
    let kinds = kinds_over [] before in
    let ended = nat_le (length text) at in
    let there : MayFollow before next ↔ Names (expected_of (standing_at q last kinds) ended) next =
    through (possible_is_named before place.begins next) (blank_same q last kinds ended next) in
    subst (λ (s : StandingInJson). MayFollow before next ↔ Names (expected_of s ended) next) (sym stands) there
