-- The characters of a float of TOML are a number of JSON.
use Rattle.yaml_toml.proofs.Common.{◌≡◌, ◌⊎◌, ℕ, zero, suc, ◌+◌, ◌-◌, ◌<◌, Bool, true, false, not, cond, pos, ◌^◌, ◌&&◌, ◌||◌, ◌==◌, List, [], ◌∷◌, ◌++◌}
use Rattle.yaml_toml.proofs.Common.{length, codes, Option, None, Some, refl, sym, ap, ap₂, subst, ◌∙◌, arith, inl, inr, append_assoc, append-nil, and_parts}
use Rattle.yaml_toml.proofs.Common.{false≢true, not_from_false, and_from, Text, is_json_number, are_digits, nat_lt, if◌then◌else◌, list_all, digits_value}
use Rattle.yaml_toml.proofs.Common.{json_word}
use Rattle.std.proofs.{Math.Seq.drop-length, Math.Seq.drop-nil, lemmas.Str.digit_value_digit, lemmas.List.Folds.length-prefix_len}
use Rattle.std.proofs.Common.{length-take, take, drop, slice_range, slice_index, Float, bytes_eq}
use Rattle.std.proofs.lemmas.Bool.{eqb-true, ltb-true, lt-ltb, or_cases, or_right, leb-true, ne_eqb}
use Rattle.std.proofs.lemmas.List.{take-append-drop, length-take-le, nil_from_length}
use Rattle.std.specs.{Prelude.nat_le, Char.is_ascii_digit, Char.is_digit, Char.digit_value, Float.Ieee.inf, Float.Ieee.nan}
use Rattle.std.specs.Float.Numeral.{digits_len, digits_end, exponent_start, has_exponent, numeral_digits as digits_of, scan_numeral}
use Rattle.yaml_writer.{proofs.PartLemmas.number_in_text, specs.NumberParts.HasNumber}
use Rattle.yaml_base.specs.Words.{is_word}
use Rattle.yaml_base.specs.values.JsonNumbers.{JsonExponent, exponent_text, is_whole_part, json_text, minus}
use Rattle.toml_parser.specs.{Lexical.first, declared.scalar.Scalar.Scalar}
use Rattle.toml_parser.specs.Numbers.{plain_number, decimal_number, is_decimal as is_toml_decimal, float_of, integer_of, radix_of, prefixed_integer}
use Rattle.yaml_toml.specs.Walk.{IsJsonWord}
use Rattle.toml_parser.specs.declared.scalar.Scalar.TheVariants as scalar

-- ---- the rest after some bytes

-- the byte that is here, and the rest after it
drop_suc : (bs : List ℕ) (i c : ℕ) → slice_index bs i ≡ c → 0 < c → drop i bs ≡ c ∷ drop (suc i) bs
drop_suc [] i c is some = absurd (omega (arith, is, some))
drop_suc (x ∷ bs) zero c is some = ap (λ d. d ∷ bs) is
drop_suc (x ∷ bs) (suc i) c is some = drop_suc bs i c is some

drop_at : (bs : List ℕ) (i c : ℕ) → slice_index bs i ≡ c → 0 < c → drop i bs ≡ c ∷ drop (i + 1) bs
drop_at bs i c is some = let next : suc i ≡ i + 1 = omega arith in drop_suc bs i c is some ∙ ap (λ n. c ∷ drop n bs) next

drop_more : (bs : List ℕ) (i n m : ℕ) → i + n ≡ m → drop n (drop i bs) ≡ drop m bs
drop_more bs zero n m is = let same : n ≡ m = omega (arith, is) in ap (λ k. drop k bs) same
drop_more [] (suc i) n m is = drop-nil n ∙ sym (drop-nil m)
drop_more (x ∷ bs) (suc i) n zero is = absurd (omega (arith, is))
drop_more (x ∷ bs) (suc i) n (suc m) is = drop_more bs i n m (omega (arith, is))

none_left : (bs : List ℕ) (i : ℕ) → i ≡ length bs → drop i bs ≡ []
none_left bs i is = ap (λ n. drop n bs) is ∙ drop-length bs

-- the digits that are here
abbrev digits_at : List ℕ → ℕ → List ℕ
digits_at bs i = take (digits_len (drop i bs)) (drop i bs)

digits_cut : (bs : List ℕ) (i : ℕ) → drop i bs ≡ digits_at bs i ++ drop (digits_end bs i) bs
digits_cut bs i =
    sym (take-append-drop (digits_len (drop i bs)) (drop i bs))
    ∙ ap (λ (more : List ℕ). digits_at bs i ++ more) (drop_more bs i (digits_len (drop i bs)) (digits_end bs i) refl)

digit_from : (c : ℕ) → is_ascii_digit c ≡ true → is_digit c 10 ≡ true
digit_from c h =
    let both = and_parts (nat_le 48 c) (nat_le c 57) h in
    let least = leb-true 48 c both.0 in
    let most = leb-true c 57 both.1 in
    let value = digit_value_digit c (least, most) in
    lt-ltb (digit_value c) 10 (omega (arith, value, most))

more_digits : (x : ℕ) (xs : List ℕ) (n : ℕ) → list_all (λ c. is_digit c 10) (take n xs) ≡ true → (b : Bool) → is_ascii_digit x ≡ b
    → list_all (λ c. is_digit c 10) (take (cond b (1 + n) 0) (x ∷ xs)) ≡ true
more_digits x xs n all true e = by (1 + n) (omega arith)
  where
    by : (m : ℕ) → m ≡ suc n → list_all (λ c. is_digit c 10) (take m (x ∷ xs)) ≡ true
    by m is = subst (λ (k : ℕ). list_all (λ c. is_digit c 10) (take k (x ∷ xs)) ≡ true) (sym is) (ap₂ (λ (a b : Bool). a && b) (digit_from x e) all)
more_digits x xs n all false e = refl

are_all : (xs : List ℕ) → list_all (λ c. is_digit c 10) (take (digits_len xs) xs) ≡ true
are_all [] = refl
are_all (x ∷ xs) = more_digits x xs (digits_len xs) (are_all xs) (is_ascii_digit x) refl

some_digits : (xs : List ℕ) → 0 < length xs → list_all (λ c. is_digit c 10) xs ≡ true → are_digits 10 xs ≡ true
some_digits xs some h = ap₂ (λ (a b : Bool). a && b) (not_from_false (length xs == 0) (ne_eqb (length xs) 0 (λ e. omega (arith, some, e)))) h

-- the number of digits that are here
count_at : (bs : List ℕ) (i : ℕ) → length (digits_at bs i) ≡ digits_len (drop i bs)
count_at bs i = length-prefix_len is_ascii_digit (drop i bs)

-- one at least, if the byte here is one
some_at : (bs : List ℕ) (i : ℕ) → is_ascii_digit (slice_index bs i) ≡ true → 0 < digits_len (drop i bs)
some_at [] i h = absurd (false≢true h)
some_at (x ∷ bs) zero h = subst (λ (b : Bool). 0 < cond b (1 + digits_len bs) 0) (sym h) (omega arith)
some_at (x ∷ bs) (suc i) h = some_at bs i h

found_digits : (bs : List ℕ) (i : ℕ) → 0 < digits_len (drop i bs) → are_digits 10 (digits_at bs i) ≡ true
found_digits bs i some = some_digits (digits_at bs i) (omega (arith, some, count_at bs i)) (are_all (drop i bs))

-- all that is left
last_digits : (bs : List ℕ) (i : ℕ) → digits_end bs i ≡ length bs → drop i bs ≡ digits_at bs i
last_digits bs i is = digits_cut bs i ∙ ap (λ (more : List ℕ). digits_at bs i ++ more) (none_left bs (digits_end bs i) is) ∙ append-nil (digits_at bs i)

-- ---- the exponent

abbrev exponent_valid : Option JsonExponent → Bool
exponent_valid None = true
exponent_valid (Some exponent) = are_digits 10 exponent.digits

record ExponentAt (bs : List ℕ) (b : ℕ) : Type 0 where
  found : Option JsonExponent
  valid : exponent_valid found ≡ true
  text : drop b bs ≡ exponent_text found

abbrev letter_of : (capital : Bool) → ℕ
letter_of capital = if capital then 69 else 101

letter_some : (capital : Bool) → 0 < letter_of capital
letter_some true = omega arith
letter_some false = omega arith

abbrev signs_of : Option Bool → Text
signs_of None = []
signs_of (Some true) = 45 ∷ []
signs_of (Some false) = 43 ∷ []

spelled : (capital : Bool) (sign : Option Bool) (digits : Text)
    → letter_of capital ∷ (signs_of sign ++ digits) ≡ exponent_text (Some (record { capital = capital; sign = sign; digits = digits }))
spelled true None digits = refl
spelled true (Some true) digits = refl
spelled true (Some false) digits = refl
spelled false None digits = refl
spelled false (Some true) digits = refl
spelled false (Some false) digits = refl

module _ (bs : List ℕ) (b : ℕ) where
  -- with this letter and this sign, and digits to the end
  exponent_of : (capital : Bool) → slice_index bs b ≡ letter_of capital → (sign : Option Bool) (c : ℕ) → drop (b + 1) bs ≡ signs_of sign ++ drop c bs
      → is_ascii_digit (slice_index bs c) ≡ true → digits_end bs c ≡ length bs → ExponentAt bs b
  exponent_of capital letter sign c signed digit ends = record {
    found = Some (record { capital = capital; sign = sign; digits = digits_at bs c });
    valid = found_digits bs c (some_at bs c digit);
    text = drop_at bs b (letter_of capital) letter (letter_some capital)
        ∙ ap (λ (more : List ℕ). letter_of capital ∷ more) (signed ∙ ap (λ (more : List ℕ). signs_of sign ++ more) (last_digits bs c ends))
        ∙ spelled capital sign (digits_at bs c);
  }

  two : b + 1 + 1 ≡ b + 2
  two = omega arith

  exponent_signed : (capital : Bool) → slice_index bs b ≡ letter_of capital → (minus_is plus_is : Bool)
      → (slice_index bs (b + 1) == 45) ≡ minus_is → (slice_index bs (b + 1) == 43) ≡ plus_is
      → is_ascii_digit (slice_index bs (if minus_is || plus_is then b + 2 else b + 1)) ≡ true
      → digits_end bs (if minus_is || plus_is then b + 2 else b + 1) ≡ length bs → ExponentAt bs b
  exponent_signed capital letter true plus_is minus plus digit ends =
      exponent_of capital letter (Some true) (b + 2)
      (drop_at bs (b + 1) 45 (eqb-true (slice_index bs (b + 1)) 45 minus) (omega arith) ∙ ap (λ n. 45 ∷ drop n bs) two) digit ends
  exponent_signed capital letter false true minus plus digit ends =
      exponent_of capital letter (Some false) (b + 2)
      (drop_at bs (b + 1) 43 (eqb-true (slice_index bs (b + 1)) 43 plus) (omega arith) ∙ ap (λ n. 43 ∷ drop n bs) two) digit ends
  exponent_signed capital letter false false minus plus digit ends = exponent_of capital letter None (b + 1) refl digit ends

  -- an exponent, or nothing, to the end
  exponent_at : (has : Bool) → has_exponent bs b ≡ has → cond has (digits_end bs (exponent_start bs b)) b ≡ length bs → ExponentAt bs b
  exponent_at false e ends = record { found = None; valid = refl; text = none_left bs b ends }
  exponent_at true e ends =
      let parts = and_parts (slice_index bs b == 101 || slice_index bs b == 69) (is_ascii_digit (slice_index bs (exponent_start bs b))) e in
      elim (or_cases (slice_index bs b == 101) (slice_index bs b == 69) parts.0) [
        | inl small ↦ exponent_signed false (eqb-true (slice_index bs b) 101 small)
            (slice_index bs (b + 1) == 45) (slice_index bs (b + 1) == 43) refl refl parts.1 ends
        | inr large ↦ exponent_signed true (eqb-true (slice_index bs b) 69 large)
            (slice_index bs (b + 1) == 45) (slice_index bs (b + 1) == 43) refl refl parts.1 ends
      ]

-- ---- the fraction, and the exponent after it

abbrev fraction_valid : Option Text → Bool
fraction_valid None = true
fraction_valid (Some digits) = are_digits 10 digits

abbrev fraction_text : Option Text → Text
fraction_text None = []
fraction_text (Some digits) = 46 ∷ digits

record FractionAt (bs : List ℕ) (a : ℕ) : Type 0 where
  fraction : Option Text
  exponent : Option JsonExponent
  valid : fraction_valid fraction ≡ true
  exponent_valid_is : exponent_valid exponent ≡ true
  text : drop a bs ≡ fraction_text fraction ++ exponent_text exponent

abbrev end_from : List ℕ → ℕ → ℕ
end_from bs b = cond (has_exponent bs b) (digits_end bs (exponent_start bs b)) b

fraction_at : (bs : List ℕ) (a : ℕ) (point : Bool) → (slice_index bs a == 46) ≡ point
    → (point ≡ true → 0 < length (slice_range bs (a + 1) (digits_end bs (a + 1))))
    → end_from bs (cond point (digits_end bs (a + 1)) a) ≡ length bs → FractionAt bs a
fraction_at bs a false e some ends =
    let more = exponent_at bs a (has_exponent bs a) refl ends in
    record { fraction = None; exponent = more.found; valid = refl; exponent_valid_is = more.valid; text = more.text }
fraction_at bs a true e some ends =
    let b = digits_end bs (a + 1) in
    let more = exponent_at bs b (has_exponent bs b) refl ends in
    let count = length-take-le (b - (a + 1)) (drop (a + 1) bs) in
    record {
      fraction = Some (digits_at bs (a + 1));
      exponent = more.found;
      valid = found_digits bs (a + 1) (least (some refl));
      exponent_valid_is = more.valid;
      text = drop_at bs a 46 (eqb-true (slice_index bs a) 46 e) (omega arith)
          ∙ ap (λ (rest : List ℕ). 46 ∷ rest) (digits_cut bs (a + 1) ∙ ap (λ (rest : List ℕ). digits_at bs (a + 1) ++ rest) more.text);
    }
  where
    least : 0 < length (slice_range bs (a + 1) (digits_end bs (a + 1))) → 0 < digits_len (drop (a + 1) bs)
    least some =
        let count = length-take (digits_end bs (a + 1) - (a + 1)) (drop (a + 1) bs) in
        omega (arith, some, count)

-- ---- the whole

-- `0`, or digits of which the first isn't 0
lone_zero : (c : ℕ) (zero_is : Bool) → (c == 48) ≡ zero_is → (is_word (c ∷ []) (codes "0") || not zero_is) ≡ true
lone_zero c true e = subst (λ (d : ℕ). (is_word (d ∷ []) (codes "0") || not true) ≡ true) (sym (eqb-true c 48 e)) refl
lone_zero c false e = or_right (is_word (c ∷ []) (codes "0")) true refl

first_digit : (c : ℕ) (rest : List ℕ) → ((length (c ∷ rest) == 1) ≡ true) ⊎ (not (c == 48) ≡ true) → (is_word (c ∷ rest) (codes "0") || not (c == 48)) ≡ true
first_digit c rest (inr other) = or_right (is_word (c ∷ rest) (codes "0")) (not (c == 48)) other
first_digit c rest (inl one) =
    let short = eqb-true (length (c ∷ rest)) 1 one in
    let none = nil_from_length rest (omega (arith, short)) in
    subst (λ (ds : List ℕ). (is_word (c ∷ ds) (codes "0") || not (c == 48)) ≡ true) (sym none) (lone_zero c (c == 48) refl)

whole_of : (digits : List ℕ) → are_digits 10 digits ≡ true → (length digits == 1 || not (first digits == 48)) ≡ true → is_whole_part digits ≡ true
whole_of [] some lone = absurd (false≢true some)
whole_of (c ∷ rest) some lone =
    and_from (are_digits 10 (c ∷ rest)) (is_word (c ∷ rest) (codes "0") || not (c == 48)) some
    (first_digit c rest (or_cases (length (c ∷ rest) == 1) (not (c == 48)) lone))

number_from : (negative : Bool) (bs digits : List ℕ) (a : ℕ) → bs ≡ digits ++ drop a bs → is_whole_part digits ≡ true → FractionAt bs a
    → HasNumber (minus negative ++ bs)
number_from negative bs digits a cut whole more = (
  record { negative = negative; whole = digits; fraction = more.fraction; exponent = more.exponent },
  record {
    valid = valid_by more.fraction more.exponent more.valid more.exponent_valid_is;
    text_is =
        ap (λ (rest : List ℕ). minus negative ++ rest) (cut ∙ ap (λ (rest : List ℕ). digits ++ rest) more.text)
        ∙ text_by more.fraction more.exponent;
  },
)
  where
    valid_by : (fraction : Option Text) (exponent : Option JsonExponent) → fraction_valid fraction ≡ true → exponent_valid exponent ≡ true
        → is_json_number (record { negative = negative; whole = digits; fraction = fraction; exponent = exponent }) ≡ true
    valid_by None None first_is last_is = and_from (is_whole_part digits && true) true (and_from (is_whole_part digits) true whole refl) refl
    valid_by None (Some e) first_is last_is =
        and_from (is_whole_part digits && true) (are_digits 10 e.digits) (and_from (is_whole_part digits) true whole refl) last_is
    valid_by (Some f) None first_is last_is =
        and_from (is_whole_part digits && are_digits 10 f) true (and_from (is_whole_part digits) (are_digits 10 f) whole first_is) refl
    valid_by (Some f) (Some e) first_is last_is =
        and_from (is_whole_part digits && are_digits 10 f) (are_digits 10 e.digits) (and_from (is_whole_part digits) (are_digits 10 f) whole first_is) last_is

    text_by : (fraction : Option Text) (exponent : Option JsonExponent)
        → minus negative ++ (digits ++ (fraction_text fraction ++ exponent_text exponent))
        ≡ json_text (record { negative = negative; whole = digits; fraction = fraction; exponent = exponent })
    text_by None exponent =
        sym (append_assoc (minus negative) digits (exponent_text exponent))
        ∙ ap (λ (front : List ℕ). front ++ exponent_text exponent) (sym (append-nil (minus negative ++ digits)))
    text_by (Some f) exponent =
        sym (append_assoc (minus negative) digits ((46 ∷ f) ++ exponent_text exponent))
        ∙ sym (append_assoc (minus negative ++ digits) (46 ∷ f) (exponent_text exponent))

fraction_some : (bs : List ℕ) (a : ℕ) (point : Bool) → point ≡ true
    → (not point || nat_lt 0 (length (if point then slice_range bs (a + 1) (cond point (digits_end bs (a + 1)) a) else []))) ≡ true
    → 0 < length (slice_range bs (a + 1) (digits_end bs (a + 1)))
fraction_some bs a true is h = ltb-true 0 (length (slice_range bs (a + 1) (digits_end bs (a + 1)))) h
fraction_some bs a false is h = absurd (false≢true is)

scanned : (negative : Bool) (bs : List ℕ) → (scan_numeral bs).len ≡ length bs → is_toml_decimal (scan_numeral bs) ≡ true → HasNumber (minus negative ++ bs)
unfolding scan_numeral
scanned negative bs ends decimal =
    let a = digits_end bs 0 in
    let whole = slice_range bs 0 a in
    let point = slice_index bs a == 46 in
    let fraction = if point then slice_range bs (a + 1) (cond point (digits_end bs (a + 1)) a) else [] in
    let both = and_parts (nat_lt 0 (length whole) && (length whole == 1 || not (first whole == 48))) (not point || nat_lt 0 (length fraction)) decimal in
    let parts = and_parts (nat_lt 0 (length whole)) (length whole == 1 || not (first whole == 48)) both.0 in
    let same : digits_at bs 0 ≡ whole = let n : digits_len bs ≡ digits_end bs 0 - 0 = omega arith in ap (λ n. take n bs) n in
    let some = subst (λ (ds : List ℕ). 0 < length ds) (sym same) (ltb-true 0 (length whole) parts.0) in
    let lone = subst (λ (ds : List ℕ). (length ds == 1 || not (first ds == 48)) ≡ true) (sym same) parts.1 in
    number_from negative bs (digits_at bs 0) a (digits_cut bs 0) (whole_of (digits_at bs 0) (some_digits (digits_at bs 0) some (are_all bs)) lone)
    (fraction_at bs a point refl (λ is. fraction_some bs a point is both.1) ends)

-- ---- floats

-- the number of a word without sign, prefix and underscore, by three tests of it
abbrev decided : (negative : Bool) → (word : List ℕ) → (infinite not_number numeral : Bool) → Option Scalar
decided negative word infinite not_number numeral =
    let p = scan_numeral word in
    cond infinite (Some (scalar.Float (inf negative))) (cond not_number (Some (scalar.Float nan))
    (cond (not numeral) None (cond (p.point || nat_lt 0 (length p.exponent)) (float_of negative p) (integer_of negative (digits_of p)))))

abbrev is_numeral : List ℕ → Bool
is_numeral word = (scan_numeral word).len == length word && is_toml_decimal (scan_numeral word)

numeral_if : (negative : Bool) (word : List ℕ) (x : Float) (numeral : Bool) → is_numeral word ≡ numeral
    → decided negative word false false numeral ≡ Some (scalar.Float x) → HasNumber (minus negative ++ word)
numeral_if negative word x true e read =
    let both = and_parts ((scan_numeral word).len == length word) (is_toml_decimal (scan_numeral word)) e in
    scanned negative word (eqb-true (scan_numeral word).len (length word) both.0) both.1
numeral_if negative word x false e read = cc

-- a number that is a float, neither infinite nor not a number
float_scanned : (negative : Bool) (word : List ℕ) (x : Float) → decimal_number negative word ≡ Some (scalar.Float x)
    → bytes_eq word (codes "inf") ≡ false → bytes_eq word (codes "nan") ≡ false → HasNumber (minus negative ++ word)
unfolding decimal_number
float_scanned negative word x read finite number =
    numeral_if negative word x (is_numeral word) refl (sym (ap₂ (λ (a b : Bool). decided negative word a b (is_numeral word)) finite number) ∙ read)

-- without its sign
abbrev past_sign : List ℕ → List ℕ
past_sign word = if first word == 43 || first word == 45 then drop 1 word else word

is_integer : (radix : ℕ) (digits : List ℕ) (x : Float) → prefixed_integer radix digits ≡ Some (scalar.Float x) → ⊥
unfolding prefixed_integer
is_integer radix digits x = by ((nat_lt 0 (length digits) && list_all (λ c. is_digit c radix) digits) && nat_lt (digits_value radix digits) (2 ^ 63))
  where
    by : (b : Bool) → cond b (Some (scalar.Integer (pos (digits_value radix digits)))) None ≡ Some (scalar.Float x) → ⊥
    by true e = cc
    by false e = cc

abbrev by_tests : (word : List ℕ) → (decimal dashed plussed : Bool) → Option Scalar
by_tests word decimal dashed plussed =
    cond (not decimal) (prefixed_integer (radix_of word) (drop 2 word))
    (cond dashed (decimal_number true (drop 1 word)) (cond plussed (decimal_number false (drop 1 word)) (decimal_number false word)))

dash_first : (word : List ℕ) → (first word == 45) ≡ true → word ≡ 45 ∷ drop 1 word
dash_first word e = drop_at word 0 45 (eqb-true (first word) 45 e) (omega arith)

-- the characters of a float that is neither infinite nor not a number, without underscores, are a number of JSON
unsigned_word : (word : List ℕ) (x : Float) → plain_number word ≡ Some (scalar.Float x) → bytes_eq (past_sign word) (codes "inf") ≡ false
    → bytes_eq (past_sign word) (codes "nan") ≡ false → HasNumber (json_word word)
unfolding plain_number
unsigned_word word x = by (radix_of word == 10) (first word == 45) refl (first word == 43) refl
  where
    by : (decimal dashed : Bool) → (first word == 45) ≡ dashed → (plussed : Bool) → (first word == 43) ≡ plussed
        → by_tests word decimal dashed plussed ≡ Some (scalar.Float x)
        → bytes_eq (cond (plussed || dashed) (drop 1 word) word) (codes "inf") ≡ false
        → bytes_eq (cond (plussed || dashed) (drop 1 word) word) (codes "nan") ≡ false → HasNumber (cond plussed (drop 1 word) word)
    by false dashed d plussed p read finite number = absurd (is_integer (radix_of word) (drop 2 word) x read)
    by true true d true p read finite number = absurd (omega (arith, eqb-true (first word) 45 d, eqb-true (first word) 43 p))
    by true true d false p read finite number = subst HasNumber (sym (dash_first word d)) (float_scanned true (drop 1 word) x read finite number)
    by true false d true p read finite number = float_scanned false (drop 1 word) x read finite number
    by true false d false p read finite number = float_scanned false word x read finite number

pub float_word : (word : List ℕ) (x : Float) → plain_number word ≡ Some (scalar.Float x) → bytes_eq (past_sign word) (codes "inf") ≡ false
    → bytes_eq (past_sign word) (codes "nan") ≡ false → IsJsonWord word
float_word word x read finite number = number_in_text (json_word word) (unsigned_word word x read finite number)
