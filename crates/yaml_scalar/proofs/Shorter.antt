-- The rest of a text after its first character is shorter.
use Rattle.yaml_base.proofs.Common.{length-append}
use Rattle.yaml_scalar.proofs.Common.{ℕ, ◌<◌, ◌≤◌, length, List, ◌++◌, ◌≡◌, ap, arith, encode_utf8}
use Rattle.std.proofs.Common.{drop, length-drop}
use Rattle.std.proofs.lemmas.Str.{len_utf8_bounds, length-encode}

pub shorter_left : (old behind rest left new : List ℕ) (c : ℕ) → old ≡ encode_utf8 c ++ behind → rest ≡ behind → length left ≤ length rest → new ≡ left
    → length new < length old
shorter_left old behind rest left new c first same few is = grind (arith, len_utf8_bounds, length-append, encode_utf8, length-encode)

pub shorter_dropped : (place : ℕ) (rest : List ℕ) → length (drop place rest) ≤ length rest
shorter_dropped place rest = omega (arith, length-drop place rest)

pub shorter_after_run : (place : ℕ) (rest after left : List ℕ) → after ≡ drop place rest → length left ≤ length after → length left ≤ length rest
shorter_after_run place rest after left is few = omega (arith, ap (λ (l : List ℕ). length l) is, few, length-drop place rest)
