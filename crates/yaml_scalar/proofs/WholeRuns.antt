-- Runs of characters: the empty one, their last characters, and that they hold no break.
use Rattle.yaml_scalar.proofs.Common.{ℕ, ◌≤◌, IsUtf8, Option, None, length, take, Bool, false, true, ◌&&◌, List, [], ◌∷◌, refl, ◌≡◌, nat_tests}
use Rattle.yaml_scalar.proofs.Common.{length-take-le, ap, subst, sym, ◌∙◌, arith, and_parts, chars-nil, IsUtf8-take, list_all, list_any, IsCharBoundary, Text}
use Rattle.yaml_scalar.proofs.Common.{is_break, has_limit, last_from, IsRun}
use Rattle.std.{proofs.lemmas.List.take-take, proofs.lemmas.Str.IsCharBoundary-from_take, proofs.lemmas.Str.IsCharBoundary-start, specs.Str.chars}

-- a run holds no break if no character that passes is one
pub all_unbroken : (test : ℕ → Bool) → ((c : ℕ) → test c ≡ true → is_break c ≡ false) → (text : Text) → list_all test text ≡ true → list_any is_break text ≡ false
all_unbroken test none [] h = refl
all_unbroken test none (c ∷ rest) h = grind (arith, nat_tests, and_parts, list_all, list_any, is_break, all_unbroken test none rest, test c)

pub run_unbroken : (test : ℕ → Bool) → ((c : ℕ) → test c ≡ true → is_break c ≡ false) → {before size last : ℕ} {text run : List ℕ}
    → IsRun test before text size last → run ≡ take size text → list_any is_break (chars run) ≡ false
run_unbroken test none {before} {size} {last} {text} {run} is prefix = grind (arith, nat_tests, list_any, is_break, chars, all_unbroken, take)

-- the run of no character
pub no_run : (test : ℕ → Bool) (before : ℕ) (text : List ℕ) → IsUtf8 text → IsRun test before text 0 before
no_run test before text is = record {
  boundary = IsCharBoundary-start text is;
  all = ap (list_all test) chars-nil;
  last_is = sym (ap (last_from before) chars-nil);
}

-- a space that stays in a run is past no width
pub no_fold : (past : Option ℕ → Bool) → past None ≡ false → (space other : Bool) (limit : Option ℕ)
    → (space && has_limit limit) ≡ false → (space && other && past limit) ≡ false
no_fold past x space other limit h = grind (arith, nat_tests)

-- a run of a prefix of a text is one of the text
pub run_in_prefix : (test : ℕ → Bool) (before : ℕ) (text prefix : List ℕ) (place size last : ℕ) → IsUtf8 text → IsCharBoundary text place
    → prefix ≡ take place text
    → IsRun test before prefix size last → IsRun test before text size last
run_in_prefix test before text prefix place size last is_text boundary e is =
    let within : length prefix ≡ place = ap length e ∙ length-take-le place text boundary.0 in
    let few : size ≤ place = omega (arith, within, is.boundary.0) in
    let same : take size prefix ≡ take size text = ap (take size) e ∙ take-take size place text few in
    let prefix_text : IsUtf8 prefix = subst IsUtf8 (sym e) (IsUtf8-take text place is_text boundary) in
    record {
      boundary = IsCharBoundary-from_take text size is_text (omega (arith, few, boundary.0))
          (subst IsUtf8 same (IsUtf8-take prefix size prefix_text is.boundary));
      all = ap (λ l. list_all test (chars l)) (sym same) ∙ is.all;
      last_is = is.last_is ∙ ap (λ l. last_from before (chars l)) same;
    }
