-- The texts of keys tell the keys.
use Rattle.yaml_read.proofs.Common.{ℕ, ◌+◌, ◌*◌, ◌<◌, ◌≤◌, suc, zero, true, false, List, [], ◌∷◌, ◌++◌, ◌≡◌, ap, subst, sym, ◌∙◌, arith, append_assoc, codes}
use Rattle.yaml_read.proofs.Common.{encode_utf8_all, Text, length, line_feed, or_parts, bytes_eq, bytes_eq-Decides, inl, inr, TypedValue, TypedPairs}
use Rattle.yaml_read.proofs.Common.{list_value, most_nested, no_values, values_and, no_value_pairs, value_pairs_and, IsNewKey, line_at, map_begun}
use Rattle.yaml_read.proofs.Common.{value_text, encodes-append, append_cancel_left, OpenLevel, pairs_open, value_due, IsOpen, opened_text, CanBeReadAt}
use Rattle.yaml_read.proofs.Common.{PairsCanBeReadAt, column_in, key_bytes}
use Rattle.yaml_read.{specs.HeldKeys.is_key, proofs.Turns.column_is, proofs.WrittenValues.text_tells}
use Rattle.yaml_base.proofs.Common.{or_cases}
use Rattle.std.proofs.{lemmas.List.append_cancel_right, lemmas.Bool.both_ways}

-- texts with equal bytes have equal bytes within others
within : (front first second behind : Text) → encode_utf8_all first ≡ encode_utf8_all second
    → encode_utf8_all (front ++ (first ++ behind)) ≡ encode_utf8_all (front ++ (second ++ behind))
within front first second behind same = grind (arith, encode_utf8_all, encodes-append)

-- a list of one value
abbrev listed : TypedValue → TypedValue
listed value = list_value (values_and no_values value)

list_same : (column : ℕ) (first second : TypedValue) → encode_utf8_all (value_text (column + 2) first) ≡ encode_utf8_all (value_text (column + 2) second)
    → encode_utf8_all (value_text column (listed first)) ≡ encode_utf8_all (value_text column (listed second))
list_same column first second same =
    let behind = line_at column ++ codes "]" in
    let front = codes "!!seq [" ++ line_at (column + 2) in
    ap encode_utf8_all (regroup (line_at (column + 2)) (value_text (column + 2) first) behind) ∙ within front _ _ (codes "," ++ behind) same
    ∙ ap encode_utf8_all (sym (regroup (line_at (column + 2)) (value_text (column + 2) second) behind))
  where
    regroup : (line text behind : Text)
        → codes "!!seq [" ++ ((line ++ (text ++ codes ",")) ++ behind) ≡ (codes "!!seq [" ++ line) ++ (text ++ (codes "," ++ behind))
    regroup line text behind = simp append_assoc

-- values at a depth whose texts there have equal bytes are equal
value_tells : (depth : ℕ) (first second : TypedValue) → CanBeReadAt depth first → CanBeReadAt depth second → depth ≤ most_nested
    → encode_utf8_all (value_text (depth * 2) first) ≡ encode_utf8_all (value_text (depth * 2) second) → first ≡ second
value_tells zero first second one other few same = text_tells first second one other (within (codes "---\n") _ _ (line_feed ∷ []) same)
value_tells (suc depth) first second one other few same =
    let deeper : suc depth * 2 ≡ depth * 2 + 2 = omega arith in
    let room : depth < most_nested = omega (arith, few) in
    let lists : listed first ≡ listed second =
    value_tells depth (listed first) (listed second) (room, (tt, one)) (room, (tt, other)) (omega (arith, room)) (list_same (depth * 2) first second
    (subst (λ n. encode_utf8_all (value_text n first) ≡ encode_utf8_all (value_text n second)) deeper same)) in
    cc

-- so are keys
key_tells : (depth : ℕ) (first second : TypedValue) → CanBeReadAt depth first → CanBeReadAt depth second → depth ≤ most_nested
    → key_bytes (depth * 2) first ≡ key_bytes (depth * 2) second → first ≡ second
key_tells depth first second one other few same = grind (arith, value_tells, append_cancel_right, encode_utf8_all, encodes-append)

-- ---- among the keys of pairs

-- a key whose bytes are none of theirs is new
pub new_key : (column : ℕ) (pairs : TypedPairs) (key : TypedValue) → is_key column pairs (key_bytes column key) ≡ false → IsNewKey pairs key
new_key column no_value_pairs key none = tt
new_key column (value_pairs_and pairs other value) key none =
    let both = or_parts (is_key column pairs (key_bytes column key)) (bytes_eq (key_bytes column other) (key_bytes column key)) none in (
      new_key column pairs key both.0,
      λ same.
          both_ways (bytes_eq (key_bytes column other) (key_bytes column key)) both.1
          ((bytes_eq-Decides (key_bytes column other) (key_bytes column key)).1 (ap (key_bytes column) same)),
    )

-- and one whose bytes are among them isn't
known_key : (depth : ℕ) (pairs : TypedPairs) (key : TypedValue) → PairsCanBeReadAt depth pairs → CanBeReadAt depth key → depth ≤ most_nested
    → is_key (depth * 2) pairs (key_bytes (depth * 2) key) ≡ true → IsNewKey pairs key → ⊥
known_key depth no_value_pairs key readable also few some new = cc
known_key depth (value_pairs_and pairs other value) key readable also few some new =
    let bytes = key_bytes (depth * 2) key in
    elim (or_cases (is_key (depth * 2) pairs bytes) (bytes_eq (key_bytes (depth * 2) other) bytes) some) [
      | inl earlier ↦ known_key depth pairs key readable.0 also few earlier new.0
      | inr last ↦ new.1 (key_tells depth other key readable.1.0 also few ((bytes_eq-Decides (key_bytes (depth * 2) other) bytes).0 last))
    ]

deeper : (levels : List OpenLevel) → column_in levels + 2 ≡ suc (length levels) * 2
deeper levels = ap (λ n. n + 2) (column_is levels) ∙ twice (length levels)
  where
    twice : (n : ℕ) → n * 2 + 2 ≡ suc n * 2
    twice n = omega arith

pub key_again : (outer : List OpenLevel) (pairs : TypedPairs) (key : TypedValue) → PairsCanBeReadAt (suc (length outer)) pairs
    → CanBeReadAt (suc (length outer)) key → length outer < most_nested
    → is_key (column_in outer + 2) pairs (key_bytes (column_in outer + 2) key) ≡ true → IsNewKey pairs key → ⊥
key_again outer pairs key readable also few some new =
    known_key (suc (length outer)) pairs key readable also few (subst (λ n. is_key n pairs (key_bytes n key) ≡ true) (deeper outer) some) new

-- ---- the text of a key

-- a key has these bytes between the place at which it begins and its value
pub key_between : (whole : List ℕ) (outer : List OpenLevel) (pairs : TypedPairs) (key : TypedValue) (start rest : List ℕ)
    → IsOpen whole (pairs_open pairs ∷ outer) start → IsOpen whole (value_due pairs key ∷ outer) rest → start ≡ key_bytes (column_in outer + 2) key ++ rest
key_between whole outer pairs key start rest before after =
    let column = column_in outer + 2 in
    let front = opened_text (pairs_open pairs ∷ outer) in
    let written = value_text column key ++ (line_at column ++ codes ": ") in
    append_cancel_left (encode_utf8_all front) start (key_bytes column key ++ rest) (sym before.text ∙ after.text
    ∙ ap (λ t. encode_utf8_all t ++ rest) (sym (append_assoc (opened_text outer) (map_begun (column_in outer) pairs) written))
    ∙ ap (λ t. t ++ rest) (encodes-append front written) ∙ append_assoc (encode_utf8_all front) (encode_utf8_all written) rest)
