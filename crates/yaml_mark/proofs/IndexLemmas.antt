-- The first element that passes a test, and the element that an index finds.
use Rattle.yaml_mark.proofs.Common.{suc, ℕ, ◌+◌, ◌<◌, ◌==◌, bytes_eq, Option, None, Some, drop, length, slice_index_or as get_or, take, Bool, cond, false, true}
use Rattle.yaml_mark.proofs.Common.{◌||◌, List, [], ◌++◌, ◌∷◌, refl, ◌≡◌, ap, sym, subst, ◌∙◌, arith, and_parts, and_from, same_from_decides, bytes_eq-Decides}
use Rattle.yaml_mark.proofs.Common.{list_all, list_any, length-append, take-append-drop, IsUtf8, IsUtf8-string_bytes, IsCharBoundary, string_bytes, position}
use Rattle.yaml_mark.proofs.Common.{position_or_len}
use Rattle.yaml_base.proofs.Common.{◌≤◌, ◌-◌, ◌&&◌, if◌then◌else◌, nat_lt, option_map, option_or, is_some, le-ltb, lt-ltb, ltb-true, nat_tests, true≢false}
use Rattle.std.proofs.lemmas.List.Folds.{list_any-append, list_all-append, list_any_more}
use Rattle.std.proofs.lemmas.List.{length-take-le, take_all, length-drop, drop-append-le}
use Rattle.std.proofs.{Math.Seq.drop-length, lemmas.Str.IsCharBoundary-from_take, Common.Box, lemmas.Bool.le-leb, lemmas.Bool.Decides.Decides-eqb}
use Rattle.std.specs.{BTreeMap.get_by_text, List.slice_range, BTreeSet.contains_text}
use Rattle.yaml_base.specs.declared.directives.yaml_tag_directive_t.{yaml_tag_directive_t}
use Rattle.yaml_mark.specs.Index.{Finds, IsIndexed, earlier, fits_by, has_handle, has_prefix, is_prefix_length}
use Rattle.yaml_mark.specs.{Spelled.begins_and_is_shorter, declared.index.Index.Index}
use Rattle.yaml_mark.proofs.TagLemmas.{first_place, position-first}

-- The first of two lists, and by two tests.

from_zero : (o : Option ℕ) → o ≡ option_map (λ i. 0 + i) o
from_zero o = grind (arith, nat_tests)

behind_one : (passes : Bool) (n : ℕ) (o p : Option ℕ)
    → cond passes (Some 0) (option_map suc (option_or o (option_map (λ i. n + i) p)))
    ≡ option_or (cond passes (Some 0) (option_map suc o)) (option_map (λ i. suc n + i) p)
behind_one passes n o p = grind (arith, nat_tests)

first-append : {X : Type 0} (p : X → Bool) (xs ys : List X)
    → first_place p (xs ++ ys) ≡ option_or (first_place p xs) (option_map (λ i. length xs + i) (first_place p ys))
first-append p [] ys = from_zero (first_place p ys)
first-append p (x ∷ xs) ys = grind (arith, nat_tests, cond, option_map, behind_one, length, first_place, first-append p xs ys, p x)

pub position-append : {X : Type 0} (p : X → Bool) (xs ys : List X)
    → position p (xs ++ ys) ≡ option_or (position p xs) (option_map (λ i. length xs + i) (position p ys))
position-append p xs ys = grind (arith, nat_tests, position-first, first-append, option_or, option_map, length, first_place, position)

either_one : (a b : Bool) (o p : Option ℕ)
    → cond (a || b) (Some 0) (option_map suc (earlier o p)) ≡ earlier (cond a (Some 0) (option_map suc o)) (cond b (Some 0) (option_map suc p))
either_one a b o p = grind (arith, nat_tests, le-leb, le-ltb)

first-or : {X : Type 0} (p q : X → Bool) (xs : List X) → first_place (λ x. p x || q x) xs ≡ earlier (first_place p xs) (first_place q xs)
first-or p q [] = refl
first-or p q (x ∷ xs) = grind (arith, nat_tests, cond, option_map, either_one, first_place, first-or p q xs, p x, q x)

-- tests that agree on each element that passes a third
first-same : {X : Type 0} (p q r : X → Bool) → ((x : X) → r x ≡ true → p x ≡ q x) → (xs : List X) → list_all r xs ≡ true
    → first_place p xs ≡ first_place q xs
first-same p q r same [] h = refl
first-same p q r same (x ∷ xs) h = grind (arith, nat_tests, and_parts, list_all, cond, option_map, first_place, first-same p q r same xs, r x, q x)

position-same : {X : Type 0} (p q r : X → Bool) → ((x : X) → r x ≡ true → p x ≡ q x) → (xs : List X) → list_all r xs ≡ true → position p xs ≡ position q xs
position-same p q r same xs h = position-first p xs ∙ first-same p q r same xs h ∙ sym (position-first q xs)

all-true : {X : Type 0} (xs : List X) → list_all (λ _. true) xs ≡ true
all-true [] = refl
all-true (x ∷ xs) = all-true xs

position-alike : {X : Type 0} (p q : X → Bool) → ((x : X) → p x ≡ q x) → (xs : List X) → position p xs ≡ position q xs
position-alike p q same xs = position-same p q (λ _. true) (λ x _. same x) xs (all-true xs)

first-none : {X : Type 0} (xs : List X) → None ≡ first_place (λ _. false) xs
first-none [] = refl
first-none (x ∷ xs) = ap (option_map suc) (first-none xs)

position-none : {X : Type 0} (p : X → Bool) → ((x : X) → p x ≡ false) → (xs : List X) → None ≡ position p xs
position-none p never xs = first-none xs ∙ sym (position-first (λ _. false) xs) ∙ sym (position-alike p (λ _. false) never xs)

-- One more directive.

or-false : (b : Bool) → b || false ≡ b
or-false b = grind (arith, nat_tests)

pub any_more : {X : Type 0} (p : X → Bool) (xs : List X) (x : X) → list_any p (xs ++ x ∷ []) ≡ list_any p xs || p x
any_more p xs x = list_any-append p xs (x ∷ []) ∙ ap (λ b. list_any p xs || b) (or-false (p x))

last_one : (passes : Bool) (n : ℕ) (o : Option ℕ)
    → option_or o (option_map (λ i. n + i) (cond passes (Some 0) None)) ≡ option_or o (if passes then Some n else None)
last_one passes n o = grind (arith, nat_tests)

position_more : {X : Type 0} (p : X → Bool) (xs : List X) (x : X)
    → position p (xs ++ x ∷ []) ≡ option_or (position p xs) (if p x then Some (length xs) else None)
position_more p xs x = grind (arith, nat_tests, position-append, option_or, position, option_map, length, position-first, last_one)

or-true : (b c : Bool) → b ≡ true → b || c ≡ true
or-true b c h = rw h refl

true_or : (b c : Bool) → c ≡ true → b || c ≡ true
true_or b c h = grind (arith, nat_tests)

-- By one length, and by all.

pub from_start : (n : ℕ) (bytes : List ℕ) → slice_range bytes 0 n ≡ take n bytes
from_start n bytes = ap (λ m. take m bytes) (omega arith)

by_length : (tag prefix : List ℕ) (n : ℕ) → n < length tag
    → bytes_eq prefix (take n tag) ≡ ((length prefix == n) && begins_and_is_shorter prefix tag)
by_length tag prefix n h = grind (arith, nat_tests, same_from_decides, bytes_eq-Decides, take, and_parts, length, length-take-le, and_from, lt-ltb)

any-and : (p : ℕ → Bool) (b : Bool) (xs : List ℕ) → list_any (λ n. p n && b) xs ≡ list_any p xs && b
any-and p b [] = refl
any-and p b (x ∷ xs) = ap (λ c. (p x && b) || c) (any-and p b xs) ∙ out (p x) b (list_any p xs)
  where
    out : (a b c : Bool) → (a && b) || (c && b) ≡ (a || c) && b
    out a b c = grind (arith, nat_tests)

module _ {A : Type 0} where
  -- the lengths of the directives are there still
  abbrev HasLengths : List ℕ → List (yaml_tag_directive_t A) → Type 0
  HasLengths lengths list = list_all (λ d. list_any (is_prefix_length d) lengths) list ≡ true

  lengths_stay : (lengths more : List ℕ) (length_of : ℕ) → ((test : ℕ → Bool) → list_any test more ≡ list_any test lengths || test length_of)
      → (list : List (yaml_tag_directive_t A)) → HasLengths lengths list → HasLengths more list
  lengths_stay lengths more length_of h [] all = refl
  lengths_stay lengths more length_of h (d ∷ list) all = grind (arith, nat_tests, or-true, lengths_stay lengths more length_of h list, h (is_prefix_length d))

  pub finds_more : (old new : Index A) (list : List (yaml_tag_directive_t A)) (d : yaml_tag_directive_t A) (place : ℕ) → place ≡ length list → Finds old list
      → ((bytes : List ℕ) → contains_text new.handles bytes ≡ (contains_text old.handles bytes || bytes_eq (string_bytes d.handle) bytes))
      → ((bytes : List ℕ) → get_by_text new.prefixes bytes
      ≡ option_or (get_by_text old.prefixes bytes) (if bytes_eq (string_bytes d.prefix) bytes then Some place else None))
      → ((test : ℕ → Bool) → list_any test new.lengths.items ≡ (list_any test old.lengths.items || test (length (string_bytes d.prefix))))
      → Finds new (list ++ d ∷ [])
  finds_more old new list d place at finds handles prefixes lengths =
      let n = length (string_bytes d.prefix) in
      let own : HasLengths new.lengths.items (d ∷ []) =
      and_from _ true (lengths (is_prefix_length d) ∙ true_or (list_any (is_prefix_length d) old.lengths.items) (n == n) ((Decides-eqb n n).1 refl)) refl
      in
      record {
        handles = λ bytes. handles bytes ∙ ap (λ b. b || has_handle bytes d) (finds.handles bytes) ∙ sym (any_more (has_handle bytes) list d);
        prefixes = λ bytes.
            prefixes bytes
            ∙ ap (λ o. option_or o (if has_prefix bytes d then Some place else None)) (finds.prefixes bytes)
            ∙ ap (λ n. option_or (position (has_prefix bytes) list) (if has_prefix bytes d then Some n else None)) at
            ∙ sym (position_more (has_prefix bytes) list d);
        lengths = list_all-append (λ e. list_any (is_prefix_length e) new.lengths.items) list (d ∷ [])
            ∙ and_from _ _ (lengths_stay old.lengths.items new.lengths.items n lengths list finds.lengths) own;
      }

  pub found_by_length : (tag : List ℕ) (n : ℕ) (index : Index A) (list : List (yaml_tag_directive_t A)) → n < length tag → Finds index list
      → get_by_text index.prefixes (take n tag) ≡ position (fits_by tag n) list
  found_by_length tag n index list h finds = grind (arith, nat_tests, position-alike, fits_by, by_length, finds.prefixes (take n tag))

  -- if a tag can't be cut, no prefix of that length begins it
  pub none_by_length : (tag : List ℕ) (n : ℕ) → IsUtf8 tag → (n < length tag → IsCharBoundary tag n → ⊥) → (list : List (yaml_tag_directive_t A))
      → None ≡ position (fits_by tag n) list
  none_by_length tag n u uncut list = position-none (fits_by tag n) (λ d. never d (fits_by tag n d) refl) list
    where
      never : (d : yaml_tag_directive_t A) (b : Bool) → fits_by tag n d ≡ b → b ≡ false
      never d false e = refl
      never d true e =
          let both = and_parts _ _ e in
          let rest = and_parts _ _ both.1 in
          let long : length (string_bytes d.prefix) ≡ n = (Decides-eqb _ _).0 both.0 in
          let short : n < length tag = subst (λ (m : ℕ). m < length tag) long (ltb-true _ _ rest.0) in
          let head : string_bytes d.prefix ≡ take n tag = (bytes_eq-Decides _ _).0 rest.1 ∙ ap (λ m. take m tag) long in
          absurd (uncut short (IsCharBoundary-from_take tag n u (omega arith) (subst (λ (x : List ℕ). IsUtf8 x) head (IsUtf8-string_bytes d.prefix))))

  abbrev pub fits_some : List ℕ → List ℕ → yaml_tag_directive_t A → Bool
  fits_some tag lengths d = list_any (λ n. fits_by tag n d) lengths

  pub found_none : (tag : List ℕ) (list : List (yaml_tag_directive_t A)) → None ≡ position (fits_some tag []) list
  found_none tag list = position-none (fits_some tag []) (λ d. refl) list

  pub found_more : (tag lengths : List ℕ) (i : ℕ) → i < length lengths → (list : List (yaml_tag_directive_t A)) (first found : Option ℕ)
      → first ≡ position (fits_some tag (take i lengths)) list → found ≡ position (fits_by tag (get_or lengths i 0)) list
      → earlier first found ≡ position (fits_some tag (take (i + 1) lengths)) list
  found_more tag lengths i h list first found e f =
      let n = get_or lengths i 0 in
      let before = fits_some tag (take i lengths) in
      ap (λ o. earlier o found) (e ∙ position-first before list)
      ∙ ap (earlier (first_place before list)) (f ∙ position-first (fits_by tag n) list)
      ∙ sym (first-or before (fits_by tag n) list)
      ∙ sym (position-first (λ d. before d || fits_by tag n d) list)
      ∙ sym (position-alike (fits_some tag (take (i + 1) lengths)) (λ d. before d || fits_by tag n d)
      (λ d. list_any_more (λ m. fits_by tag m d) lengths i 0 h) list)

  pub found_all : (tag : List ℕ) (index : Index A) (list : List (yaml_tag_directive_t A)) (lengths : List ℕ) (i : ℕ) → lengths ≡ index.lengths.items
      → length lengths ≤ i → Finds index list
      → position (fits_some tag (take i lengths)) list ≡ position (λ d. begins_and_is_shorter (string_bytes d.prefix) tag) list
  found_all tag index list lengths i e h finds =
      ap (λ ls. position (fits_some tag ls) list) (take_all i lengths h ∙ e)
      ∙ position-same (fits_some tag index.lengths.items) (λ d. begins_and_is_shorter (string_bytes d.prefix) tag)
      (λ d. list_any (is_prefix_length d) index.lengths.items)
      (λ d has. any-and (is_prefix_length d) (begins_and_is_shorter (string_bytes d.prefix) tag) index.lengths.items
      ∙ ap (λ b. b && begins_and_is_shorter (string_bytes d.prefix) tag) has)
      list finds.lengths

-- The first directives, and those after them.

pub position_split : {X : Type 0} (p : X → Bool) (n : ℕ) (xs : List X) → n ≤ length xs
    → position p xs ≡ option_or (position p (take n xs)) (option_map (λ i. n + i) (position p (drop n xs)))
position_split p n xs h =
    ap (position p) (sym (take-append-drop n xs))
    ∙ position-append p (take n xs) (drop n xs)
    ∙ ap (λ m. option_or (position p (take n xs)) (option_map (λ i. m + i) (position p (drop n xs)))) (length-take-le n xs h)

-- Elements that are added to a field of an index.

pub or_last : (added kept : Bool) → cond added true kept ≡ kept || added
or_last added kept = grind (arith, nat_tests)

pub set_absent : (there : Bool) (old : Option ℕ) (number : ℕ) → (there ≡ true → is_some old ≡ false)
    → cond there (Some number) old ≡ option_or old (if there then Some number else None)
set_absent there old number h = grind (arith, nat_tests, true≢false)

stays : (a b c : Bool) → b ≡ b || c → a || b ≡ (a || b) || c
stays a b c h = grind (arith, nat_tests)

twice : (a b : Bool) → a || b ≡ (a || b) || a
twice a b = grind (arith, nat_tests)

-- a number that is there already settles no test anew
pub any_again : (number : ℕ) (test : ℕ → Bool) (xs : List ℕ) → list_any (λ x. x == number) xs ≡ true → list_any test xs ≡ list_any test xs || test number
any_again number test [] h = absurd (true≢false (sym h))
any_again number test (x ∷ xs) h = by (x == number) refl (any_again number test xs) h
  where
    by : (same : Bool) → (x == number) ≡ same → (list_any (λ y. y == number) xs ≡ true → list_any test xs ≡ list_any test xs || test number)
        → same || list_any (λ y. y == number) xs ≡ true → list_any test (x ∷ xs) ≡ list_any test (x ∷ xs) || test number
    by same e again rest = grind (arith, nat_tests, list_any, twice)

-- The index of the first directives of a list.

module _ {A : Type 0} where
  -- one more after enough of them
  pub indexed_more : (old new : Index A) (n number place : ℕ) (list : List (yaml_tag_directive_t A)) (d : yaml_tag_directive_t A)
      → number ≡ length list → place ≡ number - n → n ≤ length list → Finds old (drop n list)
      → ((list : List (yaml_tag_directive_t A)) → place ≡ length list → Finds old list → Finds new (list ++ d ∷ []))
      → (n ≤ length (list ++ d ∷ [])) × Finds new (drop n (list ++ d ∷ []))
  indexed_more old new n number place list d at is long finds adds =
      grind (arith, nat_tests, length-append, drop-append-le, drop, length-drop, adds (drop n list) (omega (arith, at, is, long, length-drop n list)) finds)

-- there is an index
pub indexed : {A : Type 0} (index : Option (Box (Index A) A)) (list : List (yaml_tag_directive_t A)) (box : Box (Index A) A) (inside : Index A)
    → IsIndexed 8 index list → index ≡ Some box → inside ≡ box.value → (8 ≤ length list) × Finds inside (drop 8 list)
indexed {A} index list box inside h is same = grind (arith, nat_tests, drop)

pub drop_all : {X : Type 0} (n : ℕ) (xs : List X) → n ≡ length xs → drop n xs ≡ []
drop_all n xs h = ap (λ m. drop m xs) h ∙ drop-length xs

within : (k n i : ℕ) (b : Bool) → nat_lt k n ≡ b → Some i ≡ cond b (Some k) None → i < n
within k n i b e h = grind (arith, nat_tests, ltb-true)

pub position_within : {X : Type 0} (p : X → Bool) (xs : List X) (i : ℕ) → Some i ≡ position p xs → i < length xs
position_within p xs i h = within (position_or_len p xs) (length xs) i (nat_lt (position_or_len p xs) (length xs)) refl h

pub first_ahead : {X : Type 0} (p : X → Bool) (n : ℕ) (xs : List X) (i : ℕ) → n ≤ length xs → Some i ≡ position p (take n xs) → Some i ≡ position p xs
first_ahead p n xs i h e =
    ap (λ o. option_or o (option_map (λ j. n + j) (position p (drop n xs)))) e ∙ sym (position_split p n xs h)

pub first_behind : {X : Type 0} (p : X → Bool) (n : ℕ) (xs : List X) (rest : Option ℕ) → n ≤ length xs → None ≡ position p (take n xs)
    → rest ≡ position p (drop n xs) → option_map (λ j. n + j) rest ≡ position p xs
first_behind p n xs rest h e r =
    ap (option_map (λ j. n + j)) r
    ∙ ap (λ o. option_or o (option_map (λ j. n + j) (position p (drop n xs)))) e
    ∙ sym (position_split p n xs h)
