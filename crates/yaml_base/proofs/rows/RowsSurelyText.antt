-- Which texts may be plain, computed.
use Rattle.yaml_base.proofs.Common.{codes, Bool, not, true, [], ◌++◌, ◌∷◌, refl, ◌≡◌, list_all, slice_split, Text, is_space, is_reserved, is_symbol, is_based}
use Rattle.yaml_base.{proofs.Common.is_numeric, specs.values.SurelyText.is_surely_text}

-- each of some texts, one space apart, passes a test
abbrev all_pass : (Text → Bool) → Text → Bool
all_pass test texts = list_all test (slice_split is_space texts)

-- texts that may be plain: amounts, names of files, addresses, hashes, versions, words that go on
may_stand_plain : (all_pass is_surely_text (codes "100Mi 5s 3rd 57H4 1h30m 50% 1/2 0/1 64-bit 10.0.0.0/8 8080/tcp fe80::1 a:b -a:1") ≡ true)
    × (all_pass is_surely_text (codes "./run.sh .github .gitignore .* .inform 3f2a9bc 12ab34cd 9d557bf972ef 339ohji 00ff 0abc 2001-12-14T10:00UTC") ≡ true)
    × (all_pass is_surely_text (codes "a -a -x +x --text text to e be one t4 b64 x86_64 v1.2 nullx true1 Nothing infinite =x <<a ~a") ≡ true)
    × (list_all is_surely_text (codes "no way" ∷ codes "64-bit variant" ∷ codes "null " ∷ codes " 1" ∷ []) ≡ true)
may_stand_plain = (refl, refl, refl, refl)

-- é, é and a word, and a digit before é
others_may : list_all is_surely_text ((0xE9 ∷ []) ∷ (0xE9 ∷ codes " no") ∷ (codes "5" ++ 0xE9 ∷ []) ∷ []) ≡ true
others_may = refl

-- words, in any case
words_stay_quoted : (is_reserved [] ≡ true)
    × (all_pass is_reserved (codes "~ null Null nULL true True tRue false FALSE yes yEs Y no No NO n N on oN off Off OFF << =") ≡ true)
    × (all_pass is_reserved (codes ".inf .Inf -.INF +.iNf .nan -.NaN +.nan inf -Inf NaN +nan Infinity +infinity -INFINITY") ≡ true)
words_stay_quoted = (refl, refl, refl)

-- Noël, on–off, and words before é
words_before_others : list_all is_reserved (
    (codes "No" ++ 0xEB ∷ codes "l")
    ∷ (codes "on" ++ 0x2013 ∷ codes "off")
    ∷ (codes "~" ++ 0xE9 ∷ [])
    ∷ (codes ".inf" ++ 0xE9 ∷ [])
    ∷ (codes "<<" ++ 0xE9 ∷ [])
    ∷ [])
    ≡ true
words_before_others = refl

-- symbols
symbols_stay_quoted : all_pass is_symbol (codes ": :a ::1 :1") ≡ true
symbols_stay_quoted = refl

-- numbers in a base
based_stay_quoted : all_pass is_based (codes "0x1F 0X1f 0o7 0b1 0B2 +0xfg -_0x1 0_x1F 0bar 0_8 +-0b") ≡ true
based_stay_quoted = refl

-- numbers of either schema, and of readers that follow neither
numbers_stay_quoted : (all_pass is_numeric
    (codes "0 -0 -_0 _0 007 12 9223372036854775808 1_000 _1 +_1 1,000 1.5 1. .5 +.5e-1 1e5 12e03 e5 E5 E-6 +e0 e2e") ≡ true)
    × (all_pass is_numeric (codes "1.2.3 127.0.0.1 1:30 -:1 00:11:22:33:44:55 8b40 1.x 1_0x5 1x 7o ext4 1e 12-14") ≡ true)
    × (list_all is_numeric (codes "1 2" ∷ codes "1 - 3" ∷ []) ≡ true)
numbers_stay_quoted = (refl, refl, refl)

-- signs without a digit or a letter
signs_stay_quoted : all_pass is_numeric (codes "+ - -- . .. -. _ -_ +_") ≡ true
signs_stay_quoted = refl

-- timestamps
timestamps_stay_quoted : (all_pass is_numeric (codes "2001-01-01 2001-12-14 2001-12-14T21:59:43.10-05:00 2001-12-14t21:59:43Z") ≡ true)
    × (list_all is_numeric (codes "2001-12-14 21:59:43Z" ∷ (codes "2001-1-1" ++ 0x9 ∷ codes "1:00:00") ∷ []) ≡ true)
timestamps_stay_quoted = (refl, refl)

-- any of the four keeps a text from being plain
each_bars : list_all (λ text. not (is_surely_text text)) ([] ∷ slice_split is_space (codes "tRue :a 0bar E5 - inf")) ≡ true
each_bars = refl
