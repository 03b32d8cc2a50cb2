-- The line and the column of an offset in a text that follows others.
use Rattle.yaml_json.proofs.Common.{min, ◌≡◌, ℕ, ◌+◌, ◌-◌, ◌<◌, ◌≤◌, Bool, true, false, cond, not, ◌==◌, List, [], ◌∷◌, ◌++◌, drop, take, length, refl, sym}
use Rattle.yaml_json.proofs.Common.{subst, ap, ◌∙◌, arith, inl, inr, cases_lt, ne_eqb, IsPositionAfter, MovesPosition, Position, length-append, length-drop}
use Rattle.yaml_json.proofs.Common.{length-take-le, append-nil, take-append-drop, prefix_len}
use Rattle.std.proofs.{Math.Seq.drop-append-add, Math.Seq.take-append-add, Math.Seq.take-length, lemmas.List.Folds.prefix_len-append}
use Rattle.std.proofs.lemmas.List.{drop-append-le, length-reverse, reverse-append}
use Rattle.std.proofs.lemmas.List.Sums.{count_by-le-length, suffix_len-le-length, sum_by-append}
use Rattle.std.specs.{Fmt.is_char_start, List.after_last, List.count_by, List.suffix_len}
use mathlib.Core.List.{reverse}
use Rattle.yaml_json.specs.Places.{many_bytes}
use Rattle.yaml_base.specs.{values.LinesAndColumns.column_of, values.LinesAndColumns.is_line_feed, values.LinesAndColumns.line_of, Positions.IsPositionOf}

count_more : {X : Type 0} (p : X → Bool) (xs ys : List X) → count_by p (xs ++ ys) ≡ count_by p xs + count_by p ys
count_more p xs ys = sum_by-append (λ x. cond (p x) 1 0) xs ys

-- ---- how many fail a test from the end back

abbrev tail_of : {X : Type 0} → (X → Bool) → List X → ℕ
tail_of p xs = suffix_len (λ x. not (p x)) xs

tail_append : {X : Type 0} (p : X → Bool) (xs ys : List X) → tail_of p (xs ++ ys) ≡ cond (tail_of p ys == length ys) (length ys + tail_of p xs) (tail_of p ys)
tail_append p xs ys =
    ap (prefix_len (λ x. not (p x))) (reverse-append xs ys) ∙ prefix_len-append (λ x. not (p x)) (reverse ys) (reverse xs)
    ∙ ap (λ n. cond (tail_of p ys == n) (n + tail_of p xs) (tail_of p ys)) (length-reverse ys)

tail_all : {X : Type 0} (p : X → Bool) (xs ys : List X) → tail_of p ys ≡ length ys → tail_of p (xs ++ ys) ≡ length ys + tail_of p xs
tail_all p xs ys all = tail_append p xs ys ∙ ap (λ b. cond b (length ys + tail_of p xs) (tail_of p ys)) (same_eqb (tail_of p ys) (length ys) all) where
  same_eqb : (a b : ℕ) → a ≡ b → (a == b) ≡ true
  same_eqb a b e = grind (arith, e)

tail_some : {X : Type 0} (p : X → Bool) (xs ys : List X) → (tail_of p ys ≡ length ys → ⊥) → tail_of p (xs ++ ys) ≡ tail_of p ys
tail_some p xs ys some = tail_append p xs ys ∙ ap (λ b. cond b (length ys + tail_of p xs) (tail_of p ys)) (ne_eqb (tail_of p ys) (length ys) some)

one_tail : {X : Type 0} (p : X → Bool) (x : X) (b : Bool) → p x ≡ b → tail_of p (x ∷ []) ≡ cond (not b) 1 0
one_tail p x true e = ap (λ c. cond (not c) (1 + 0) 0) e
one_tail p x false e = ap (λ c. cond (not c) (1 + 0) 0) e

one_count : {X : Type 0} (p : X → Bool) (x : X) (b : Bool) → p x ≡ b → count_by p (x ∷ []) ≡ cond b 1 0
one_count p x true e = ap (λ c. 0 + cond c 1 0) e
one_count p x false e = ap (λ c. 0 + cond c 1 0) e

-- All do if none passes it.
module _ {X : Type 0} (p : X → Bool) where
  none_more : (x : X) (xs : List X) → (count_by p xs ≡ 0 → tail_of p xs ≡ length xs) → count_by p (x ∷ xs) ≡ 0 → (b : Bool) → p x ≡ b
      → tail_of p (x ∷ xs) ≡ length (x ∷ xs)
  none_more x xs rest none true e =
      let one = one_count p x true e in
      let all = count_more p (x ∷ []) xs in
      absurd (omega (arith, none, one, all))
  none_more x xs rest none false e =
      let one = one_count p x false e in
      let all = count_more p (x ∷ []) xs in
      let others = rest (omega (arith, none, one, all)) in
      let here = one_tail p x false e in
      let joined = tail_all p (x ∷ []) xs others in
      omega (arith, here, joined)

  none_pass : (xs : List X) → count_by p xs ≡ 0 → tail_of p xs ≡ length xs
  none_pass [] none = refl
  none_pass (x ∷ xs) none = none_more x xs (none_pass xs) none (p x) refl

  rest_all : (x : X) (xs : List X) → tail_of p (x ∷ xs) ≡ length (x ∷ xs) → tail_of p xs ≡ length xs
  rest_all x xs all = elim (cases_lt (tail_of p xs) (length xs)) [
    | inl less ↦ let joined = tail_some p (x ∷ []) xs (λ same. absurd (omega (arith, less, same))) in absurd (omega (arith, joined, less, all))
    | inr more ↦ let few = suffix_len-le-length (λ (y : X). not (p y)) xs in omega (arith, more, few)
  ]

  some_more : (x : X) (xs : List X) → (tail_of p xs ≡ length xs → count_by p xs ≡ 0) → tail_of p (x ∷ xs) ≡ length (x ∷ xs) → (b : Bool) → p x ≡ b
      → count_by p (x ∷ xs) ≡ 0
  some_more x xs rest all true e =
      let here = one_tail p x true e in
      let joined = tail_all p (x ∷ []) xs (rest_all x xs all) in
      absurd (omega (arith, here, joined, all))
  some_more x xs rest all false e =
      let one = one_count p x false e in
      let both = count_more p (x ∷ []) xs in
      let others = rest (rest_all x xs all) in
      omega (arith, one, both, others)

  some_pass : (xs : List X) → tail_of p xs ≡ length xs → count_by p xs ≡ 0
  some_pass [] all = refl
  some_pass (x ∷ xs) all = some_more x xs (some_pass xs) all (p x) refl

-- ---- the bytes after the last that passes

module _ {X : Type 0} (p : X → Bool) (front xs : List X) where
  pub last_none : count_by p xs ≡ 0 → after_last p (front ++ xs) ≡ after_last p front ++ xs
  last_none none =
      let all = none_pass p xs none in
      let joined = tail_all p front xs all in
      let size = length-append front xs in
      let few = suffix_len-le-length (λ (y : X). not (p y)) front in
      let at : length (front ++ xs) - tail_of p (front ++ xs) ≡ length front - tail_of p front = omega (arith, joined, size, few) in
      ap (λ n. drop n (front ++ xs)) at ∙ drop-append-le (length front - tail_of p front) front xs (omega arith)

  pub last_some : (count_by p xs ≡ 0 → ⊥) → after_last p (front ++ xs) ≡ after_last p xs
  last_some some =
      let joined = tail_some p front xs (λ all. some (some_pass p xs all)) in
      let size = length-append front xs in
      let few = suffix_len-le-length (λ (y : X). not (p y)) xs in
      let at : length (front ++ xs) - tail_of p (front ++ xs) ≡ length front + (length xs - tail_of p xs) = omega (arith, joined, size, few) in
      ap (λ n. drop n (front ++ xs)) at ∙ drop-append-add front xs (length xs - tail_of p xs)

-- ---- lines and columns

module _ (front part : List ℕ) (at : ℕ) where
  there : take (length front + at) (front ++ part) ≡ front ++ take at part
  there = take-append-add front part at

  whole : take (length front) front ≡ front
  whole = take-length front

  pub line_joined : line_of (front ++ part) (length front + at) + 1 ≡ line_of front (length front) + line_of part at
  line_joined =
      let both = ap (count_by is_line_feed) there ∙ count_more is_line_feed front (take at part) in
      let first = ap (count_by is_line_feed) whole in
      omega (arith, both, first)

  pub same_line : line_of part at ≤ 1 → column_of (front ++ part) (length front + at) + 1 ≡ column_of front (length front) + column_of part at
  same_line few =
      let none : count_by is_line_feed (take at part) ≡ 0 = omega (arith, few) in
      let last = ap (λ (t : List ℕ). count_by is_char_start (after_last is_line_feed t)) there
      ∙ ap (count_by is_char_start) (last_none is_line_feed front (take at part) none)
      ∙ count_more is_char_start (after_last is_line_feed front) (take at part) in
      let first = ap (λ (t : List ℕ). count_by is_char_start (after_last is_line_feed t)) whole in
      let rest = ap (count_by is_char_start) (last_none is_line_feed [] (take at part) none) in
      omega (arith, last, first, rest)

  pub new_line : (line_of part at ≤ 1 → ⊥) → column_of (front ++ part) (length front + at) ≡ column_of part at
  new_line many =
      ap (λ (t : List ℕ). count_by is_char_start (after_last is_line_feed t) + 1) there
      ∙ ap (λ (t : List ℕ). count_by is_char_start t + 1) (last_some is_line_feed front (take at part) (λ none. many (omega (arith, none))))

  -- no more than bytes
  pub line_few : at ≤ length part → line_of part at ≤ at + 1
  line_few within =
      let few = count_by-le-length is_line_feed (take at part) in
      let size = length-take-le at part within in
      omega (arith, few, size)

  pub column_few : at ≤ length part → column_of part at ≤ at + 1
  column_few within =
      let few = count_by-le-length is_char_start (after_last is_line_feed (take at part)) in
      let less = length-drop (length (take at part) - tail_of is_line_feed (take at part)) (take at part) in
      let size = length-take-le at part within in
      omega (arith, few, less, size)

-- ---- as they are counted

pub front_counted : (front : List ℕ) (at : ℕ) → length front + at < many_bytes → length front < many_bytes
front_counted front at less = omega (arith, less)

whole_within : (front : List ℕ) → length front ≤ length front
whole_within front = omega arith

module _ (front part : List ℕ) (at : ℕ) (start position : Position) (so : IsPositionOf front (length front) start)
    (here : IsPositionOf part at position) (within : at ≤ length part) (less : length front + at < many_bytes) where
  pub on_line : position.line ≤ 1 → (column : ℕ) → column ≡ min (start.column + position.column) 18446744073709551615 - 1
      → IsPositionOf (front ++ part) (length front + at) (record { line = start.line; column = column })
  on_line few column is =
      let lines = line_joined front part at in
      let columns = same_line front part at (omega (arith, few, here.line)) in
      let small = column_few [] part at within in
      let smaller = column_few [] front (length front) (whole_within front) in
      record { line = omega (arith, lines, so.line, here.line, few); column = omega (arith, columns, so.column, here.column, is, small, smaller, less) }

  pub past_line : (position.line ≤ 1 → ⊥) → (line : ℕ) → line ≡ min (start.line + position.line) 18446744073709551615 - 1
      → IsPositionOf (front ++ part) (length front + at) (record { line = line; column = position.column })
  past_line many line is =
      let lines = line_joined front part at in
      let columns = new_line front part at (λ few. many (omega (arith, few, here.line))) in
      let small = line_few [] part at within in
      let smaller = line_few [] front (length front) (whole_within front) in
      record { line = omega (arith, lines, so.line, here.line, is, small, smaller, less); column = omega (arith, columns, here.column) }

-- ---- the position after all bytes, and after more

pub after_all : (front bytes : List ℕ) (start last after : Position) → IsPositionAfter front start → IsPositionOf bytes (length bytes) last
    → ((before text : List ℕ) (offset : ℕ) → IsPositionAfter before start → IsPositionOf text offset last → offset ≤ length text
    → length before + offset < many_bytes → IsPositionOf (before ++ text) (length before + offset) after)
    → IsPositionAfter (front ++ bytes) after
after_all front bytes start last after follows here says less =
    let size = length-append front bytes in
    subst (λ n. IsPositionOf (front ++ bytes) n after) (sym size) (says front bytes (length bytes) follows here (omega arith) (omega (arith, less, size)))

pub moves_nothing : (held later : List ℕ) (old new : Position) → later ≡ held → new ≡ old → MovesPosition held later old new
moves_nothing held later old new same stays = record {
  dropped = [];
  parts = same;
  follows = λ front follows. subst (λ (f : List ℕ). IsPositionAfter f new) (sym (append-nil front)) (subst (IsPositionAfter front) (sym stays) follows);
}

pub moves_on : (held later first : List ℕ) (start : ℕ) (old new : Position) → later ≡ drop start held → first ≡ take start held
    → ((front : List ℕ) → IsPositionAfter front old → IsPositionAfter (front ++ first) new) → MovesPosition held later old new
moves_on held later first start old new left is moves = record { dropped = first; parts = (λ i. is i ++ left i) ∙ take-append-drop start held; follows = moves }
