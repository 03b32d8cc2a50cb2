-- Runs of bytes of no class are runs of characters that pass a test.
use Rattle.yaml_scalar.proofs.Common.{ℕ, ◌%◌, ◌+◌, ◌-◌, ◌/◌, ◌<◌, ◌≤◌, ◌==◌, slice_index, IsUtf8, codes, length, take, encode_utf8_all as encodes, Bool, false}
use Rattle.yaml_scalar.proofs.Common.{not, true, ◌&&◌, ◌||◌, List, [], ◌∷◌, ◌⊎◌, refl, ◌≡◌, eqb-true, le-ltb, lt-ltb, take_all, true≢false, inl, inr, ap, subst}
use Rattle.yaml_scalar.proofs.Common.{sym, ◌∙◌, arith, and-false, and-true, and_parts, and_from, agree_below_at, nat_tests, list_all-append, IsUtf8-take}
use Rattle.yaml_scalar.proofs.Common.{encodes-chars, scalars-chars, list_all, IsCharBoundary, Text, is_among, is_break, is_printable, is_quiet, is_free}
use Rattle.yaml_scalar.proofs.Common.{IsFreeRun, ImpliesTest, stays_where, stays_in_line, last_from, IsRun}
use Rattle.std.{proofs.lemmas.Bool.cases_lt, proofs.lemmas.Bool.agree_below, proofs.lemmas.List.Folds.list_all_at}
use Rattle.std.{proofs.lemmas.Str.encode_ascii, proofs.lemmas.Str.chars_from_encodes, specs.Int.Bits.bit_and, specs.Str.chars}
use lib.Utf8.{encode, next, scalar, scalar_cases, scalars}
use Rattle.yaml_scalar.specs.declared.classes.TheConstants.{CLASSES}
use Rattle.yaml_scalar.proofs.Common.{false_from_ne_true}

-- a byte that goes on with a character is of no class
inside_free : (classes b : ℕ) → 128 ≤ b → b < 192 → is_free classes b ≡ true
inside_free classes b low high =
    let at : b - 128 + 128 ≡ b = omega arith in
    let none : slice_index CLASSES b ≡ 0 =
    eqb-true _ _ (subst (λ k. (slice_index CLASSES k == 0) ≡ true) at
    (agree_below_at (λ k. slice_index CLASSES (k + 128) == 0) (λ k. true) 64 (b - 128) refl (omega arith))) in
    ap (λ n. bit_and n classes == 0) none

-- so such a run ends between characters
pub run_boundary : {classes : ℕ} {text : List ℕ} {size : ℕ} → IsFreeRun classes text size → IsCharBoundary text size
run_boundary {classes} {text} {size} is = (
  is.within,
  λ below wide. elim (cases_lt (slice_index text size) 192) [
    | inl inside ↦ absurd (true≢false (sym (inside_free classes (slice_index text size) wide inside) ∙ is.stops below))
    | inr first ↦ first
  ],
)

all_pass : (classes : ℕ) (test : ℕ → Bool) → ImpliesTest classes test → (text : Text) → scalars text ≡ true → list_all (is_free classes) (encodes text) ≡ true
    → list_all test text ≡ true
all_pass classes test tells [] s h = refl
all_pass classes test tells (c ∷ rest) s h =
    grind (arith, nat_tests, and_parts, scalars, list_all-append, is_free, encode, encodes, and_from, all_pass classes test tells rest)

-- the characters of such a run pass
pub free_passes : {classes : ℕ} {test : ℕ → Bool} {text : List ℕ} {size : ℕ} → ImpliesTest classes test → IsUtf8 text → IsFreeRun classes text size
    → list_all test (chars (take size text)) ≡ true
free_passes {classes} {test} {text} {size} tells is_text free =
    let u = IsUtf8-take text size is_text (run_boundary free) in
    ap (list_all test) (sym (chars_from_encodes u.0 (take size text) u u.1.1))
    ∙ all_pass classes test tells u.0 u.1.0 (ap (list_all (is_free classes)) u.1.1 ∙ free.all)

pub free_run : {classes : ℕ} {test : ℕ → Bool} {before : ℕ} {text : List ℕ} {size last : ℕ} → ImpliesTest classes test → IsUtf8 text
    → IsFreeRun classes text size
    → last ≡ last_from before (chars (take size text)) → IsRun test before text size last
free_run tells is_text free last_is = record { boundary = run_boundary free; all = free_passes tells is_text free; last_is = last_is }

-- The meaning of the classes for characters: for those of ASCII by computing.
pub ascii_tells : (classes : ℕ) (test : ℕ → Bool) → agree_below (λ b. not (is_free classes b) || test b) (λ b. true) 128 ≡ true
    → (c : ℕ) → c < 128 → list_all (is_free classes) (encode c) ≡ true → test c ≡ true
ascii_tells classes test computed c low free =
    let one = and_parts _ _ (ap (list_all (is_free classes)) (sym (encode_ascii c low)) ∙ free) in
    sym (ap (λ b. not b || test c) one.0) ∙ agree_below_at (λ b. not (is_free classes b) || test b) (λ b. true) 128 c computed low

-- a character past ASCII by the first of its bytes
first_is_free : (classes first : ℕ) (rest : List ℕ) → list_all (is_free classes) (first ∷ rest) ≡ true → is_free classes first ≡ false → ⊥
first_is_free classes first rest free not_free = true≢false (sym (and_parts _ _ free).0 ∙ not_free)

is_other_than : (classes c k first : ℕ) (rest : List ℕ) → encode k ≡ first ∷ rest → is_free classes first ≡ false → list_all (is_free classes) (encode c) ≡ true
    → (c == k) ≡ false
is_other_than classes c k first rest is not_free free = grind (arith, false_from_ne_true, first_is_free, list_all, is_free, eqb-true)

-- no break
pub record Unbroken (c : ℕ) : Type 0 where
  pub next_line : (c == 0x85) ≡ false
  pub line_separator : (c == 0x2028) ≡ false
  pub paragraph_separator : (c == 0x2029) ≡ false

pub wide_unbroken : (classes c : ℕ) → is_free classes 0xC2 ≡ false → is_free classes 0xE2 ≡ false → list_all (is_free classes) (encode c) ≡ true → Unbroken c
unfolding encode
wide_unbroken classes c two three free = grind (arith, nat_tests, is_other_than)

pub wide_no_break : (c : ℕ) → 128 ≤ c → Unbroken c → is_break c ≡ false
wide_no_break c wide is = grind (arith, nat_tests)

-- printable
below_two : (c : ℕ) → 128 ≤ c → c < 160 → encode c ≡ 0xC2 ∷ (128 + c % 64) ∷ []
unfolding encode
below_two c low high = grind (arith, le-ltb, lt-ltb)

below_last : (c : ℕ) → 0xF000 ≤ c → c < 0x10000 → encode c ≡ 0xEF ∷ (128 + (c / 64) % 64) ∷ (128 + c % 64) ∷ []
unfolding encode
below_last c low high = grind (arith, le-ltb, lt-ltb)

printable_where : (c : ℕ) → scalar c ≡ true → 160 ≤ c → (c < 0xF000) ⊎ (0x10000 ≤ c) → is_printable c ≡ true
printable_where c s low near = elim (scalar_cases c s) [
  | inl below ↦ grind (arith, nat_tests)
  | inr above ↦ elim near [ inl first ↦ grind (arith, nat_tests) | inr last ↦ grind (arith, nat_tests) ]
]

pub wide_printable : (classes c : ℕ) → is_free classes 0xC2 ≡ false → is_free classes 0xEF ≡ false → 128 ≤ c → scalar c ≡ true
    → list_all (is_free classes) (encode c) ≡ true → is_printable c ≡ true
wide_printable classes c two three wide s free = grind (arith, nat_tests, cases_lt, first_is_free, list_all, is_free, below_two, below_last, printable_where)

-- none is free of the class of all first bytes past ASCII
pub wide_never : (classes c : ℕ) → agree_below (λ k. is_free classes (k + 192)) (λ k. false) 64 ≡ true → 128 ≤ c → scalar c ≡ true
    → list_all (is_free classes) (encode c) ≡ true → ⊥
unfolding encode
wide_never classes c none wide s free =
    let at : (b : ℕ) → 192 ≤ b → b < 256 → is_free classes b ≡ false =
    λ b low high. let same : b - 192 + 192 ≡ b = omega arith in
    subst (λ k. is_free classes k ≡ false) same (agree_below_at (λ k. is_free classes (k + 192)) (λ k. false) 64 (b - 192) none (omega arith)) in
    let all : c < 0x110000 = elim (scalar_cases c s) [ inl below ↦ omega arith | inr above ↦ above.1 ] in
    elim (cases_lt c 2048) [
      | inl two ↦ first_is_free classes (192 + c / 64) (next c ∷ []) (rw (le-ltb c 128 wide, lt-ltb c 2048 two) at free)
          (at (192 + c / 64) (omega arith) (omega arith))
      | inr more ↦ elim (cases_lt c 65536) [
        | inl three ↦ first_is_free classes (224 + c / 4096) (next (c / 64) ∷ next c ∷ [])
            (rw (le-ltb c 128 wide, le-ltb c 2048 more, lt-ltb c 65536 three) at free) (at (224 + c / 4096) (omega arith) (omega arith))
        | inr four ↦ first_is_free classes (240 + c / 262144) (next (c / 4096) ∷ next (c / 64) ∷ next c ∷ [])
            (rw (le-ltb c 128 wide, le-ltb c 2048 more, le-ltb c 65536 four) at free) (at (240 + c / 262144) (omega arith) (omega arith))
      ]
    ]

-- A text of bytes of no class: it is the whole of such a run,
pub whole_free : {classes size : ℕ} {text : List ℕ} → IsFreeRun classes text size → (size == length text) ≡ list_all (is_free classes) text
whole_free {classes} {size} {text} is = elim (cases_lt size (length text)) [
  | inl below ↦
      let short : (size == length text) ≡ false = grind (arith, nat_tests) in
      short ∙ sym (list_all_at (is_free classes) text size 0 below (is.stops below))
  | inr whole ↦
      let same : (size == length text) ≡ true = grind (arith, nat_tests, is.within) in
      same ∙ sym (ap (list_all (is_free classes)) (sym (take_all size text whole)) ∙ is.all)
]

-- and its characters pass a test exactly, if a byte of ASCII is of no class exactly if it passes, and no character beyond ASCII passes
free_exactly : (classes : ℕ) (test : ℕ → Bool) → agree_below (is_free classes) test 128 ≡ true
    → agree_below (λ k. is_free classes (k + 192)) (λ k. false) 64 ≡ true
    → ((c : ℕ) → test c ≡ true → c < 128) → (c : ℕ) → scalar c ≡ true → list_all (is_free classes) (encode c) ≡ test c
free_exactly classes test computed none ascii c s = elim (cases_lt c 128) [
  | inl low ↦ ap (list_all (is_free classes)) (encode_ascii c low) ∙ and-true (is_free classes c) ∙ agree_below_at (is_free classes) test 128 c computed low
  | inr wide ↦
      false_from_ne_true (list_all (is_free classes) (encode c)) (wide_never classes c none wide s)
      ∙ sym (false_from_ne_true (test c) (λ passes. absurd (omega (arith, wide, ascii c passes))))
]

all_free : (classes : ℕ) (test : ℕ → Bool) → ((c : ℕ) → scalar c ≡ true → list_all (is_free classes) (encode c) ≡ test c) → (text : Text)
    → scalars text ≡ true → list_all (is_free classes) (encodes text) ≡ list_all test text
all_free classes test each [] s = refl
all_free classes test each (c ∷ rest) s =
    let p = and_parts (scalar c) (scalars rest) s in
    list_all-append (is_free classes) (encode c) (encodes rest)
    ∙ ap (λ b. b && list_all (is_free classes) (encodes rest)) (each c p.0)
    ∙ ap (λ b. test c && b) (all_free classes test each rest p.1)

pub free_characters : (classes : ℕ) (test : ℕ → Bool) {text : List ℕ} → agree_below (is_free classes) test 128 ≡ true
    → agree_below (λ k. is_free classes (k + 192)) (λ k. false) 64 ≡ true → ((c : ℕ) → test c ≡ true → c < 128) → IsUtf8 text
    → list_all (is_free classes) text ≡ list_all test (chars text)
free_characters classes test {text} computed none ascii is_text =
    ap (list_all (is_free classes)) (sym (encodes-chars text is_text))
    ∙ all_free classes test (free_exactly classes test computed none ascii) (chars text) (scalars-chars text is_text)

-- a test by its results for ASCII and beyond
pub tells_by : (classes : ℕ) (test : ℕ → Bool) → agree_below (λ b. not (is_free classes b) || test b) (λ b. true) 128 ≡ true
    → ((c : ℕ) → 128 ≤ c → scalar c ≡ true → list_all (is_free classes) (encode c) ≡ true → test c ≡ true) → ImpliesTest classes test
tells_by classes test computed past c s free = grind (arith, nat_tests, cases_lt, ascii_tells)

other_than : (c k : ℕ) → 128 ≤ c → k < 128 → (c == k) ≡ false
other_than c k wide below = grind (arith, nat_tests)

other_than_indicators : (c : ℕ) → 128 ≤ c → is_among (codes ",?:[]{}") c ≡ false
other_than_indicators c wide = grind (arith, other_than)

-- The tests of the runs of a line,
pub line_tells : (classes : ℕ) (folds quotes : Bool) → agree_below (λ b. not (is_free classes b) || stays_in_line folds quotes b) (λ b. true) 128 ≡ true
    → is_free classes 0xC2 ≡ false → is_free classes 0xE2 ≡ false → ImpliesTest classes (stays_in_line folds quotes)
line_tells classes folds quotes computed two three =
    tells_by classes (stays_in_line folds quotes) computed
    (λ c wide s free. let broken = wide_no_break c wide (wide_unbroken classes c two three free) in
    let spaced : (c == 0x20) ≡ false = grind (arith, nat_tests) in
    let quoted : (c == 39) ≡ false = grind (arith, nat_tests) in
    rw (broken, spaced, quoted, and-false quotes))

-- of those between double quotes,
pub unicode_tells : (classes : ℕ) (folds : Bool) → agree_below (λ b. not (is_free classes b) || stays_where true folds b) (λ b. true) 128 ≡ true
    → is_free classes 0xC2 ≡ false → is_free classes 0xE2 ≡ false → is_free classes 0xEF ≡ false → ImpliesTest classes (stays_where true folds)
unicode_tells classes folds computed two three four =
    tells_by classes (stays_where true folds) computed
    (λ c wide s free. let broken = wide_no_break c wide (wide_unbroken classes c two three free) in
    let printed = wide_printable classes c two four wide s free in
    let spaced : (c == 0x20) ≡ false = grind (arith, nat_tests) in
    let quoted : (c == 0x22) ≡ false = grind (arith, nat_tests) in
    let escaped : (c == 0x5C) ≡ false = grind (arith, nat_tests) in
    rw (printed, broken, spaced, quoted, escaped))

pub ascii_only_tells : (classes : ℕ) (test : ℕ → Bool) → agree_below (λ b. not (is_free classes b) || test b) (λ b. true) 128 ≡ true
    → agree_below (λ k. is_free classes (k + 192)) (λ k. false) 64 ≡ true → ImpliesTest classes test
ascii_only_tells classes test computed none = grind (arith, nat_tests, tells_by, wide_never)

-- and of those that an analysis passes over
pub quiet_tells : (classes : ℕ) (breaks12 : Bool)
    → agree_below (λ b. not (is_free classes b) || is_quiet (record { unicode = true; breaks12 = breaks12 }) b) (λ b. true) 128 ≡ true
    → is_free classes 0xC2 ≡ false → is_free classes 0xE2 ≡ false → is_free classes 0xEF ≡ false
    → ImpliesTest classes (is_quiet (record { unicode = true; breaks12 = breaks12 }))
quiet_tells classes breaks12 computed two three four =
    tells_by classes (is_quiet (record { unicode = true; breaks12 = breaks12 })) computed
    (λ c wide s free. let no_break = wide_unbroken classes c two three free in
    let broken = wide_no_break c wide no_break in
    let printed = wide_printable classes c two four wide s free in
    let tabbed : (c == 9) ≡ false = grind (arith, nat_tests) in
    let nul : (c == 0) ≡ false = grind (arith, nat_tests) in
    let hash : (c == 35) ≡ false = grind (arith, nat_tests) in
    let signed = other_than_indicators c wide in
    rw (printed, broken, no_break.line_separator, no_break.paragraph_separator, and-false breaks12, tabbed, nul, hash, signed))
