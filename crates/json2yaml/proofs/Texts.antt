-- The texts of a file that is UTF-8.
use Rattle.std.{proofs.lemmas.Str.IsUtf8-drop, proofs.lemmas.Str.IsUtf8-nil, proofs.lemmas.Str.IsUtf8-take, specs.Str.IsUtf8}
use Rattle.std.proofs.Common.{ℕ, zero, suc, ◌+◌, ◌≤◌, ◌<◌, Option, None, Some, List, [], ◌∷◌, ◌++◌, ◌≡◌, ◌⊎◌, inl, inr, refl, sym, subst, ◌∙◌, arith, drop}
use Rattle.std.proofs.Common.{length, slice_index_or as get_or, take}
use Rattle.yaml_json.specs.{Cuts.HasScanned, Texts.CutsFirstText, Texts.after_byte, Texts.texts_in}
use Rattle.yaml_json.proofs.Cutting.{cuts_first, may_cut, one_cut, one_scanned, whole_first}

-- The first text and the rest, which are UTF-8 if the whole is.
record FirstText (text : List ℕ) : Type 0 where
  pub first : List ℕ
  pub more : List ℕ
  pub cuts : CutsFirstText text first more
  pub both : IsUtf8 text → IsUtf8 first × IsUtf8 more

by_next : (text : List ℕ) (cut : _) → HasScanned text cut → (less : cut.scanned < length text)
    → ((next : _) → after_byte cut.scan (get_or text cut.scanned 0) ≡ Some next → FirstText text) → (found : Option _)
    → after_byte cut.scan (get_or text cut.scanned 0) ≡ found → FirstText text
by_next text cut has less goes_on None ends =
    let at = one_cut text cut has less ends in
    record {
      first = take cut.scanned text;
      more = drop cut.scanned text;
      cuts = cuts_first text cut.scanned at;
      both = λ utf8. (IsUtf8-take text cut.scanned utf8 (may_cut text cut.scanned at), IsUtf8-drop text cut.scanned utf8 (may_cut text cut.scanned at));
    }
by_next text cut has less goes_on (Some next) goes = goes_on next goes

first_from : (fuel : ℕ) (text : List ℕ) (cut : _) → HasScanned text cut → fuel + cut.scanned ≡ length text → FirstText text
first_from zero text cut has is = record { first = text; more = []; cuts = whole_first text cut has (omega (arith, is)); both = λ utf8. (utf8, IsUtf8-nil) }
first_from (suc fuel) text cut has is =
    let less : cut.scanned < length text = omega (arith, is) in
    by_next text cut has less (λ next goes. first_from fuel text (record { scan = next; scanned = cut.scanned + 1 }) (one_scanned text cut has less next goes)
    (omega (arith, is))) (after_byte cut.scan (get_or text cut.scanned 0)) refl

first_text : (text : List ℕ) → FirstText text
first_text text =
    first_from (length text) text (record { scan = _; scanned = 0 })
    (record { within = omega arith; scanned = record { texts = λ more. refl; few = omega arith; fresh = λ none. refl } }) (omega arith)

first_of : (text next : List ℕ) (texts later : List (List ℕ)) → text ∷ texts ≡ next ∷ later → text ≡ next
first_of text next texts later is = cc

rest_of : (text next : List ℕ) (texts later : List (List ℕ)) → text ∷ texts ≡ next ∷ later → texts ≡ later
rest_of text next texts later is = cc

none_is_some : (front : List (List ℕ)) (next : List ℕ) (later : List (List ℕ)) → [] ≡ front ++ next ∷ later → ⊥
none_is_some [] next later is = cc
none_is_some (text ∷ front) next later is = cc

-- The first of the texts, or one of the others.
module _ (text next : List ℕ) (later : List (List ℕ)) where
  at_first : (first : List ℕ) → IsUtf8 first → (texts : List (List ℕ)) → texts_in text ≡ first ∷ texts
      → ((inner : List (List ℕ)) → texts ≡ inner ++ next ∷ later → IsUtf8 next) → (front : List (List ℕ)) → front ++ next ∷ later ≡ texts_in text
      → IsUtf8 next
  at_first first good texts cut others [] same = subst IsUtf8 (first_of first next texts later (sym cut ∙ sym same)) good
  at_first first good texts cut others (one ∷ front) same = others front (rest_of first one texts (front ++ next ∷ later) (sym cut ∙ sym same))

  by_cut : (found : FirstText text) → IsUtf8 text
      → ((inner : List (List ℕ)) → length found.more < length text → inner ++ next ∷ later ≡ texts_in found.more → IsUtf8 next)
      → ((found.more ≡ []) × (texts_in text ≡ found.first ∷ []))
      ⊎ ((found.more ≡ [] → ⊥) × (length found.more < length text) × (texts_in text ≡ found.first ∷ texts_in found.more))
      → (front : List (List ℕ)) → front ++ next ∷ later ≡ texts_in text → IsUtf8 next
  by_cut found utf8 others (inl (none, cut)) = at_first found.first (found.both utf8).0 [] cut (λ inner same. absurd (none_is_some inner next later same))
  by_cut found utf8 others (inr (some, less, cut)) =
      at_first found.first (found.both utf8).0 (texts_in found.more) cut (λ inner same. others inner less (sym same))

-- Each of the texts is UTF-8.
utf8_within : (most : ℕ) (text : List ℕ) → length text ≤ most → IsUtf8 text → (front : List (List ℕ)) (next : List ℕ) (later : List (List ℕ))
    → front ++ next ∷ later ≡ texts_in text → IsUtf8 next
utf8_within zero text few utf8 front next later is =
    let found = first_text text in
    by_cut text next later found utf8 (λ inner less same. absurd (omega (arith, less, few))) found.cuts.1 front is
utf8_within (suc most) text few utf8 front next later is =
    let found = first_text text in
    by_cut text next later found utf8
    (λ inner less same. utf8_within most found.more (omega (arith, less, few)) (found.both utf8).1 inner next later same) found.cuts.1 front is

pub text_utf8 : (text : List ℕ) → IsUtf8 text → (front : List (List ℕ)) (next : List ℕ) (later : List (List ℕ))
    → front ++ next ∷ later ≡ texts_in text → IsUtf8 next
text_utf8 text = utf8_within (length text) text (omega arith)
