-- A text that is cut between two of its characters.
use Rattle.std.{proofs.lemmas.List.take-append-drop, specs.Char.len_utf8, specs.Str.IsCharBoundary, specs.Str.chars, specs.Str.encode_utf8_all}
use Rattle.std.proofs.Common.{List, [], ap, arith, drop, length, suc, sym, take, zero, ℕ, ◌++◌, ◌+◌, ◌<◌, ◌∙◌, ◌∷◌, ◌≡◌, ◌≤◌, IsUtf8}
use Rattle.std.proofs.lemmas.List.Folds.{list_any-append}
use Rattle.yaml_pen.proofs.Common.{false, or_parts, list_any, Text, is_break}
use Rattle.std.proofs.lemmas.Str.{IsUtf8-take, len_utf8_bounds, IsCharBoundary-past_char, chars-append}

-- its characters are those of both parts
pub chars-cut : (bytes prefix back : List ℕ) (place : ℕ) → IsUtf8 bytes → IsCharBoundary bytes place → prefix ≡ take place bytes → back ≡ drop place bytes
    → chars bytes ≡ chars prefix ++ chars back
chars-cut bytes prefix back place is boundary in_prefix behind =
    ap chars (sym (take-append-drop place bytes))
    ∙ chars-append (take place bytes) (drop place bytes) (IsUtf8-take bytes place is boundary)
    ∙ ap (λ l. chars l ++ chars (drop place bytes)) (sym in_prefix)
    ∙ ap (λ l. chars prefix ++ chars l) (sym behind)

-- the parts of a text without a break have none
pub unbroken_parts : (xs ys : Text) → list_any is_break (xs ++ ys) ≡ false → (list_any is_break xs ≡ false) × (list_any is_break ys ≡ false)
unbroken_parts xs ys none = or_parts _ _ (sym (list_any-append is_break xs ys) ∙ none)

-- the last place at which it may be cut before a bound is after its first character
pub cut-forward : (bytes : List ℕ) (place bound : ℕ) → IsUtf8 bytes → 4 ≤ bound → bound < length bytes
    → ((i : ℕ) → place < i → i ≤ bound → IsCharBoundary bytes i → ⊥) → 1 ≤ place
cut-forward bytes (suc n) bound is wide long nearest = omega arith
cut-forward bytes zero bound is wide long nearest = go is.0 is.1.1
  where
    go : (text : List ℕ) → encode_utf8_all text ≡ bytes → 1 ≤ zero
    go [] e = absurd (let none : length bytes ≡ 0 = ap length (sym e) in omega arith)
    go (c ∷ rest) e =
        let bounds = len_utf8_bounds c in
        let few : 0 ≤ length bytes = omega arith in
        absurd (nearest (0 + len_utf8 c) (omega arith) (omega arith) (IsCharBoundary-past_char bytes (encode_utf8_all rest) 0 c few is (sym e)))
