-- The ending of a text, by its last characters.
use Rattle.yaml_scalar.proofs.Common.{arith, ℕ, if◌then◌else◌, length, take, false, true, List, [], ◌++◌, ◌∷◌, refl, ◌≡◌, append-nil, append_assoc, ap, subst}
use Rattle.yaml_scalar.proofs.Common.{sym, ◌∙◌, scalar, IsUtf8-encode, IsUtf8-take, Text, is_break, WithoutBreak, OneBreak, MoreBreaks, ending, last_from}
use Rattle.yaml_base.proofs.Common.{encode_utf8, chars-encodes, chars}
use Rattle.std.{proofs.lemmas.List.take_at, proofs.lemmas.Str.IsCharBoundary-at_seam, proofs.lemmas.Str.chars-append, specs.Str.IsUtf8}
use Rattle.yaml_base.proofs.TagForms.{last-append}

-- one more character
ending-further : (a b c : ℕ) (xs : Text) → ending (a ∷ (xs ++ b ∷ c ∷ [])) ≡ ending (xs ++ b ∷ c ∷ [])
ending-further a b c [] = refl
ending-further a b c (x ∷ []) = refl
ending-further a b c (x ∷ y ∷ xs) = refl

ending-two : (xs : Text) (b c : ℕ) → ending (xs ++ b ∷ c ∷ []) ≡ ending (b ∷ c ∷ [])
ending-two [] b c = refl
ending-two (x ∷ xs) b c = ending-further x b c xs ∙ ending-two xs b c

ending-other : (xs : Text) (c : ℕ) → is_break c ≡ false → ending (xs ++ c ∷ []) ≡ WithoutBreak
ending-other (x ∷ y ∷ z ∷ xs) c e = ending-other (y ∷ z ∷ xs) c e
ending-other _ c e = rw e refl

-- a character after a text
pub chars-last : (prefix : List ℕ) (c : ℕ) → IsUtf8 prefix → scalar c ≡ true → chars (prefix ++ encode_utf8 c) ≡ chars prefix ++ c ∷ []
chars-last prefix c u s =
    chars-append prefix (encode_utf8 c) u
    ∙ ap (λ t. chars prefix ++ t) (ap chars (sym (append-nil (encode_utf8 c))) ∙ chars-encodes (c ∷ []) (rw s refl))

-- so it is the last one
pub last-is : (before : ℕ) (text prefix : List ℕ) (c : ℕ) → IsUtf8 text → scalar c ≡ true → text ≡ prefix ++ encode_utf8 c → c ≡ last_from before (chars text)
last-is before text prefix c u s e =
    let seam = IsCharBoundary-at_seam text prefix (encode_utf8 c) e (IsUtf8-encode c s) in
    let taken : take (length prefix) text ≡ prefix = ap (take (length prefix)) e ∙ take_at prefix (encode_utf8 c) (length prefix) refl in
    let is_text : IsUtf8 prefix = subst IsUtf8 taken (IsUtf8-take text (length prefix) u seam) in
    sym (ap (λ t. last_from before (chars t)) e ∙ ap (last_from before) (chars-last prefix c is_text s) ∙ last-append before (chars prefix) c)

-- a text that ends in no break
pub other-ends : (prefix : List ℕ) (c : ℕ) → IsUtf8 prefix → scalar c ≡ true → is_break c ≡ false → ending (chars (prefix ++ encode_utf8 c)) ≡ WithoutBreak
other-ends prefix c u s e = ap ending (chars-last prefix c u s) ∙ ending-other (chars prefix) c e

-- in a break alone
pub break-ends : (prefix : List ℕ) (c : ℕ) → IsUtf8 prefix → scalar c ≡ true → is_break c ≡ true → chars prefix ≡ []
    → ending (chars (prefix ++ encode_utf8 c)) ≡ MoreBreaks
break-ends prefix c u s e none = ap ending (chars-last prefix c u s ∙ ap (λ t. t ++ c ∷ []) none) ∙ rw e refl

-- in a break after another character
pub two-end : (prefix : List ℕ) (b c : ℕ) → IsUtf8 prefix → IsUtf8 (prefix ++ encode_utf8 b) → scalar b ≡ true → scalar c ≡ true → is_break c ≡ true
    → ending (chars (prefix ++ encode_utf8 b ++ encode_utf8 c)) ≡ (if is_break b then MoreBreaks else OneBreak)
two-end prefix b c u v s t e = grind (arith, chars-last, append_assoc, ending-two)
