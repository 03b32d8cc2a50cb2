-- All styles are looked at in one loop over a value's characters.
use Rattle.yaml_scalar.proofs.Common.{arith, ℕ, if◌then◌else◌, ◌==◌, chars, IsUtf8, codes, length, Bool, false, not, true, ◌&&◌, ◌||◌, List, [], ◌++◌, ◌∷◌, ◌≡◌}
use Rattle.yaml_scalar.proofs.Common.{refl, eqb-true, ap, sym, ◌∙◌, and_parts, and_right, or_parts, or_from, not-true, nil_from_length, chars-nil, encode_utf8}
use Rattle.yaml_scalar.proofs.Common.{chars_past_char, list_all, Text, is_among, line_separator, paragraph_separator, space, tab, is_ascii, is_space, is_break}
use Rattle.yaml_scalar.proofs.Common.{is_printable, Charset, begins_with, is_empty, is_gap, ends_word, is_special, is_trailing_space, BarredStyles, barred_by}
use Rattle.yaml_scalar.proofs.Common.{either, barred_in, none_barred, is_quiet, barred_by_space, last_from, ◌≤◌, nat_tests, and_from, or_left, or_right, le-leb}
use Rattle.yaml_scalar.proofs.Common.{line_feed, carriage_return, next_line, is_ordinary}
use Rattle.yaml_base.proofs.Common.{and_left}
use Rattle.std.proofs.Math.Bool.{or-false, or_assoc}
use Rattle.yaml_scalar.proofs.FirstCharacters.{other_than}
use Rattle.yaml_base.specs.scalars.Analysis.{is_key_or_comment}
use Rattle.yaml_scalar.specs.Barred.{with_indicator}

same : {a b : BarredStyles} → a.multiline ≡ b.multiline → a.flow_plain ≡ b.flow_plain → a.block_plain ≡ b.block_plain
    → a.single_quoted ≡ b.single_quoted → a.block ≡ b.block → a ≡ b
same {a} {b} m f p s k = grind (arith, nat_tests)

pub either_none : (a : BarredStyles) → either a none_barred ≡ a
either_none a = same (or-false a.multiline) (or-false a.flow_plain) (or-false a.block_plain) (or-false a.single_quoted) (or-false a.block)

pub either_more : (a b c : BarredStyles) → either a (either b c) ≡ either (either a b) c
either_more a b c = grind (arith, same, or_assoc)

-- one more character was read
pub barred_more : (charset : Charset) (whole found : BarredStyles) {after : BarredStyles} (old new rest : List ℕ) (c : ℕ)
    → IsUtf8 old → old ≡ encode_utf8 c ++ new → rest ≡ new → whole ≡ either found (barred_in charset (chars old))
    → after ≡ either found (barred_by charset c (chars rest))
    → whole ≡ either after (barred_in charset (chars new))
barred_more charset whole found {after} old new rest c is_text e follows h more =
    h ∙ ap (λ t. either found (barred_in charset t)) (chars_past_char old new c is_text e)
    ∙ either_more found (barred_by charset c (chars new)) (barred_in charset (chars new))
    ∙ ap (λ (l : List ℕ). either (either found (barred_by charset c (chars l))) (barred_in charset (chars new))) (sym follows)
    ∙ ap (λ (b : BarredStyles). either b (barred_in charset (chars new))) (sym more)

-- all was read
pub barred_whole : (charset : Charset) (whole found : BarredStyles) (old : List ℕ) → length old ≡ 0 → whole ≡ either found (barred_in charset (chars old))
    → found ≡ whole
barred_whole charset whole found old e h = grind (arith, nat_tests, either, barred_in, chars, nil_from_length, chars-nil, either_none)

-- The styles that quiet characters bar: each passes the tests of one character.
record Quiet (charset : Charset) (c : ℕ) : Type 0 where
  pub special : is_special charset c ≡ false
  pub broken : is_break c ≡ false
  pub tabbed : (c == tab) ≡ false
  pub nul : (c == 0) ≡ false
  pub hash : (c == 35) ≡ false
  pub symbol : is_among (codes ",?:[]{}") c ≡ false

quiet_parts : (charset : Charset) (c : ℕ) → is_quiet charset c ≡ true → Quiet charset c
quiet_parts charset c h = grind (arith, or_parts, not-true)

no_colon : (a b c rest : Bool) → (a || (b || (c || rest))) ≡ false → c ≡ false
no_colon a b c rest h = grind (arith, nat_tests)

gap_before : (spaced tabbed broken nul hash : Bool) → tabbed ≡ false → broken ≡ false → nul ≡ false → (spaced && hash) ≡ false
    → ((spaced || tabbed || broken || nul) && hash) ≡ false
gap_before spaced tabbed broken nul hash e f g h = grind (arith, nat_tests)

-- nor any test of a character and the rest
quiet_bars : (charset : Charset) (c : ℕ) (rest : Text) → Quiet charset c → (is_space c && is_empty rest) ≡ false
    → (is_space c && begins_with (λ d. d == 35) rest) ≡ false → (is_space c && begins_with is_break rest) ≡ false
    → barred_by charset c rest ≡ none_barred
quiet_bars charset c rest quiet ends hash breaks = grind (arith, no_colon, or_from, and_left, gap_before, same)

-- before another one it bars nothing; and before any it does so only if it is a space
quiet_next : (charset : Charset) (c d : ℕ) (rest : Text) → Quiet charset c → Quiet charset d → barred_by charset c (d ∷ rest) ≡ none_barred
quiet_next charset c d rest quiet next =
    quiet_bars charset c (d ∷ rest) quiet (and_right (is_space c) false refl) (and_right (is_space c) (d == 35) next.hash)
    (and_right (is_space c) (is_break d) next.broken)

quiet_last_by : (charset : Charset) (c : ℕ) (rest : Text) → Quiet charset c → (spaced : Bool) → is_space c ≡ spaced
    → barred_by charset c rest ≡ (if spaced then barred_by charset space rest else none_barred)
quiet_last_by charset c rest quiet true e = ap (λ k. barred_by charset k rest) (eqb-true c space e)
quiet_last_by charset c rest quiet false e =
    quiet_bars charset c rest quiet (and_left _ (is_empty rest) e) (and_left _ (begins_with (λ d. d == 35) rest) e) (and_left _ (begins_with is_break rest) e)

-- so a run of them bars the styles that its last space bars
pub quiet_run : (charset : Charset) (prefix rest : Text) → list_all (is_quiet charset) prefix ≡ true
    → barred_in charset (prefix ++ rest) ≡ either (barred_by_space charset (last_from 0 prefix) rest) (barred_in charset rest)
quiet_run charset [] rest h = refl
quiet_run charset (c ∷ []) rest h = grind (arith, and_parts, quiet_last_by, quiet_parts)
quiet_run charset (c ∷ d ∷ prefix) rest h =
    let p = and_parts (is_quiet charset c) (list_all (is_quiet charset) (d ∷ prefix)) h in
    let q = and_parts (is_quiet charset d) (list_all (is_quiet charset) prefix) p.1 in
    ap (λ (b : BarredStyles). either b (barred_in charset (d ∷ (prefix ++ rest))))
    (quiet_next charset c d (prefix ++ rest) (quiet_parts charset c p.0) (quiet_parts charset d q.0))
    ∙ quiet_run charset (d ∷ prefix) rest p.1

-- The styles that the characters bar which no plain text in flow holds.
each_member : (set : Text) (test : ℕ → Bool) (c : ℕ) → list_all test set ≡ true → is_among set c ≡ true → test c ≡ true
each_member [] test c all is = cc
each_member (k ∷ set) test c all is = by (c == k) refl (λ rest. each_member set test c (and_parts (test k) (list_all test set) all).1 rest)
  where
    by : (same : Bool) → (c == k) ≡ same → (is_among set c ≡ true → test c ≡ true) → test c ≡ true
    by same e later = grind (arith, nat_tests, eqb-true, and_parts, list_all, is_among)

-- A letter or a digit bars nothing.
ordinary_range : (c : ℕ) → is_ordinary c ≡ true → (48 ≤ c) × (c ≤ 122)
ordinary_range c h = grind (arith, nat_tests)

ordinary_quiet : (charset : Charset) (c : ℕ) → is_ordinary c ≡ true → Quiet charset c
ordinary_quiet charset c h =
    let other : (k : ℕ) → is_ordinary k ≡ false → (c == k) ≡ false = λ k. other_than c k h in
    let range = ordinary_range c h in
    let low : 0x20 ≤ c = omega (arith, range.0) in
    let high : c ≤ 0x7E = omega (arith, range.1) in
    let printable : is_printable c ≡ true =
    or_left _ _ (or_left _ _ (or_left _ _ (or_right (c == line_feed) _ (and_from _ _ (le-leb 0x20 c low) (le-leb c 0x7E high))))) in
    let ascii : is_ascii c ≡ true = le-leb c 0x7F (omega (arith, high)) in
    let separated : (c == line_separator || c == paragraph_separator) ≡ false = or_from _ _ (other line_separator refl) (other paragraph_separator refl) in
    record {
      special = or_from _ _ (or_from _ _ (ap not printable) (and_right (not charset.unicode) (not (is_ascii c)) (ap not ascii)))
          (and_right charset.breaks12 (c == line_separator || c == paragraph_separator) separated);
      broken = or_from _ _ (or_from _ _ (or_from _ _ (or_from _ _ (other line_feed refl) (other carriage_return refl)) (other next_line refl))
          (other line_separator refl))
          (other paragraph_separator refl);
      tabbed = other tab refl;
      nul = other 0 refl;
      hash = other 35 refl;
      symbol = or_from _ _ (other 44 refl) (or_from _ _ (other 63 refl) (or_from _ _ (other 58 refl) (or_from _ _ (other 91 refl)
          (or_from _ _ (other 93 refl) (or_from _ _ (other 123 refl) (or_from _ _ (other 125 refl) refl))))));
    }

pub ordinary_seen : (charset : Charset) (found : BarredStyles) (c : ℕ) (rest : Text) → is_ordinary c ≡ true → found ≡ either found (barred_by charset c rest)
ordinary_seen charset found c rest h =
    grind (arith, nat_tests, is_space, other_than, space, either_none, either, quiet_bars, ordinary_quiet, and_left, is_empty, begins_with, is_break)

indicator_bars : (charset : Charset) (c : ℕ) (rest : Text) → is_among (codes ",?:[]{}") c ≡ true
    → barred_by charset c rest ≡ with_indicator none_barred c rest
indicator_bars charset c rest is =
    let every : (test : ℕ → Bool) → list_all test (codes ",?:[]{}") ≡ true → test c ≡ true = λ test all. each_member (codes ",?:[]{}") test c all is in
    let none : (test : ℕ → Bool) → list_all (λ d. not (test d)) (codes ",?:[]{}") ≡ true → test c ≡ false =
    λ test all. not-true _ (every (λ d. not (test d)) all) in
    let broken : is_break c ≡ false = none is_break refl in
    let spaced : is_space c ≡ false = none is_space refl in
    let gap : is_gap c ≡ false = none is_gap refl in
    let special : is_special charset c ≡ false =
    or_from _ _ (or_from _ _ (ap not (every is_printable refl)) (and_right (not charset.unicode) (not (is_ascii c)) (ap not (every is_ascii refl))))
    (and_right charset.breaks12 (c == line_separator || c == paragraph_separator) (none (λ d. d == line_separator || d == paragraph_separator) refl)) in
    let key : is_key_or_comment c rest ≡ (c == 58 && ends_word rest) =
    ap (λ b. (c == 58 && ends_word rest) || b) (and_left _ (begins_with (λ d. d == 35) rest) gap) ∙ or-false _ in
    let ends : (is_space c && is_empty rest) ≡ false = and_left _ (is_empty rest) spaced in
    let plain : (is_special charset c || is_break c || (is_space c && is_empty rest) || is_key_or_comment c rest) ≡ (c == 58 && ends_word rest) =
    ap (λ b. b || is_key_or_comment c rest) (or_from _ _ (or_from _ _ special broken) ends) ∙ key in
    let trailing : (is_special charset c || is_trailing_space c rest) ≡ false = or_from _ _ special (and_left _ (begins_with is_break rest) spaced) in
    same broken (or_right _ _ is) (or-false _ ∙ plain) (or_from _ _ trailing (and_left _ (begins_with is_space rest) broken)) (or_from _ _ trailing ends)

pub indicator_seen : (charset : Charset) (found : BarredStyles) (c : ℕ) (rest : Text) → is_among (codes ",?:[]{}") c ≡ true
    → with_indicator found c rest ≡ either found (barred_by charset c rest)
indicator_seen charset found c rest is = grind (arith, indicator_bars, same, or-false, or_right)

-- if all styles are barred, only breaks matter
pub all_barred : (found more : BarredStyles) → found.flow_plain ≡ true → found.block_plain ≡ true → found.single_quoted ≡ true → found.block ≡ true
    → either found more ≡ record found { multiline = found.multiline || more.multiline }
all_barred found more f p s k = grind (arith, same)
