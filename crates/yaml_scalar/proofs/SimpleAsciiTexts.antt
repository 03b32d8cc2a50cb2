-- Simple ASCII texts: every style may hold them.
use Rattle.yaml_scalar.proofs.Common.{ℕ, ◌-◌, ◌<◌, if◌then◌else◌, ◌==◌, slice_index, IsUtf8, Option, length, Bool, false, not, true, ◌&&◌, ◌||◌, List, []}
use Rattle.yaml_scalar.proofs.Common.{◌∷◌, refl, ◌≡◌, leb-true, true≢false, append-nil, ap, sym, ◌∙◌, arith, and_parts, not-true, chars-nil, list_all}
use Rattle.yaml_scalar.proofs.Common.{Text, space, is_space, Cursor, Charset, Allowances, begins_with, is_empty, allowances, BarredStyles, barred_by, nat_tests}
use Rattle.yaml_scalar.proofs.Common.{barred_in, none_barred, either, is_ordinary, is_quiet, allowed_by, is_free, ImpliesTest, is_unbroken_ascii, IsShortRun}
use Rattle.yaml_scalar.proofs.Common.{IsShortLine, has_simple_ascii_ends, is_simple_ascii_character, stays_in_line, last_from, HasRoom}
use Rattle.yaml_base.proofs.Common.{chars}
use Rattle.yaml_scalar.proofs.{Barred.quiet_run, ByteRuns.free_characters, ByteRuns.ascii_only_tells, Choices.allowed_whole, FirstCharacters.ordinary_plain}
use Rattle.yaml_scalar.specs.SimpleAsciiTexts.{all_allowed, IsSimpleAscii}

-- the last byte is the one at the last place
pub last_at : (before first : ℕ) (rest : List ℕ) → last_from before (first ∷ rest) ≡ slice_index (first ∷ rest) (length rest)
last_at before first [] = refl
last_at before first (second ∷ rest) = last_at first second rest

pub simple_ascii_ends : (bytes : List ℕ)
    → (is_ordinary (slice_index bytes 0) && not (slice_index bytes (length bytes - 1) == 32)) ≡ has_simple_ascii_ends bytes
simple_ascii_ends [] = refl
simple_ascii_ends (first ∷ rest) =
    let at : length (first ∷ rest) - 1 ≡ length rest = omega arith in
    ap (λ n. is_ordinary first && not (slice_index (first ∷ rest) n == 32)) at
    ∙ ap (λ c. is_ordinary first && not (is_space c)) (sym (last_at 0 first rest))

-- the meaning, for characters, of the classes of bytes that no simple ASCII text holds
simple_ascii_is_ascii : (c : ℕ) → is_simple_ascii_character c ≡ true → c < 128
simple_ascii_is_ascii c is = grind (arith, and_parts, leb-true)

pub simple_ascii_characters : {text : List ℕ} → IsUtf8 text → list_all (is_free 57) text ≡ list_all is_simple_ascii_character (chars text)
simple_ascii_characters is_text = free_characters 57 is_simple_ascii_character refl refl simple_ascii_is_ascii is_text

-- and of other tests
quiet_tells : (unicode breaks12 : Bool) → ImpliesTest 57 (is_quiet (record { unicode = unicode; breaks12 = breaks12 }))
quiet_tells true true = ascii_only_tells 57 (is_quiet (record { unicode = true; breaks12 = true })) refl refl
quiet_tells true false = ascii_only_tells 57 (is_quiet (record { unicode = true; breaks12 = false })) refl refl
quiet_tells false true = ascii_only_tells 57 (is_quiet (record { unicode = false; breaks12 = true })) refl refl
quiet_tells false false = ascii_only_tells 57 (is_quiet (record { unicode = false; breaks12 = false })) refl refl

-- a quiet text that doesn't end with a space bars nothing
bars_none : (charset : Charset) (text : Text) → list_all (is_quiet charset) text ≡ true → is_space (last_from 0 text) ≡ false
    → barred_in charset text ≡ none_barred
bars_none charset text all last =
    ap (barred_in charset) (sym (append-nil text))
    ∙ quiet_run charset text [] all
    ∙ ap (λ b. either (if b then barred_by charset space [] else none_barred) none_barred) last

-- so every style may hold it if it begins with a letter or a digit
none_allowed : (text : Text) → begins_with is_ordinary text ≡ true → allowed_by none_barred text ≡ all_allowed
none_allowed text first = grind (arith, nat_tests, ordinary_plain)

pub simple_ascii : {text : List ℕ} → has_simple_ascii_ends text ≡ true
    → ((test : ℕ → Bool) → ImpliesTest 57 is_unbroken_ascii → ImpliesTest 57 test → IsShortRun test text) → IsSimpleAscii text
simple_ascii {text} ends run =
    let p = and_parts (begins_with is_ordinary text) (not (is_space (last_from 0 text))) ends in
    let returned = ascii_only_tells 57 is_unbroken_ascii refl refl in
    record {
      allows = λ charset.
          let quiet = run (is_quiet charset) returned (quiet_tells charset.unicode charset.breaks12) in
          ap (allowances charset) quiet.ascii
          ∙ allowed_whole charset text
          ∙ ap (λ (b : BarredStyles). allowed_by b text) (bars_none charset text quiet.all (not-true _ p.1))
          ∙ none_allowed text p.0;
      line = run (stays_in_line false false) returned (ascii_only_tells 57 (stays_in_line false false) refl refl);
    }

-- such a text isn't empty
pub simple_ascii_some : {text : List ℕ} → IsSimpleAscii text → 0 < length text
simple_ascii_some {text = []} is =
    let charset : Charset = record { unicode = true; breaks12 = true } in
    absurd (true≢false (sym (ap (λ (a : Allowances). a.flow_plain_allowed) (sym (ap (allowances charset) chars-nil) ∙ is.allows charset))))
simple_ascii_some {text = first ∷ rest} is = omega arith

some_allowed : (charset : Charset) (text : Text) → allowances charset text ≡ all_allowed → is_empty text ≡ false
some_allowed charset text is = grind (arith, nat_tests, true≢false)

-- so a space is needed before it, in flow or not
pub simple_ascii_spaced : {text : List ℕ} (flow : Bool) → IsSimpleAscii text → (flow || not (is_empty (chars text))) ≡ true
simple_ascii_spaced true is = refl
simple_ascii_spaced {text} false is =
    let charset : Charset = record { unicode = true; breaks12 = true } in
    ap not (some_allowed charset (chars text) (is.allows charset))

-- it is a line if there is room for it
pub simple_ascii_line : {quoted : Bool} {text : List ℕ} (limit : Option ℕ) (cursor : Cursor) → quoted ≡ false → IsSimpleAscii text
    → HasRoom limit cursor.column (length text)
    → IsShortLine limit quoted cursor text
simple_ascii_line {quoted} {text} limit cursor plain is room = grind (arith, nat_tests, stays_in_line)
