-- Columns of what is open, and the bytes between entries.
use Rattle.yaml_read.proofs.Common.{ℕ, ◌+◌, ◌*◌, suc, List, [], ◌∷◌, ◌++◌, refl, ◌≡◌, ap, sym, ◌∙◌, arith, append_assoc, length, codes, space, line_feed, Text}
use Rattle.yaml_read.proofs.Common.{encode_utf8_all, line_at, append_cancel_left, replicate-append-replicate, OpenLevel, column_in}
use Rattle.yaml_read.proofs.Encoded.{line_encoded, word_encoded}

-- one text alone follows a word
pub cut_is : (word text rest tail : List ℕ) → text ≡ word ++ rest → text ≡ word ++ tail → rest ≡ tail
cut_is word text rest tail is also = append_cancel_left word rest tail (sym is ∙ also)

-- ---- columns

pub column_is : (levels : List OpenLevel) → column_in levels ≡ length levels * 2
column_is [] = refl
column_is (level ∷ levels) = grind (arith, length, suc, column_is levels)

-- the indentation of an entry is that of its list or map, and two spaces
pub line_deeper : (n : ℕ) (text : List ℕ) → line_at (n + 2) ++ text ≡ line_at n ++ (codes "  " ++ text)
line_deeper n text = ap (λ t. (line_feed ∷ t) ++ text) (sym (replicate-append-replicate n 2 space)) ∙ append_assoc (line_at n) (codes "  ") text

-- bytes of a comma, a line and a rest
pub comma_line : (levels : List OpenLevel) (rest : Text)
    → encode_utf8_all (codes "," ++ (line_at (column_in levels) ++ rest)) ≡ codes "," ++ (line_at (length levels * 2) ++ encode_utf8_all rest)
comma_line levels rest =
    word_encoded (codes ",") (line_at (column_in levels) ++ rest) refl
    ∙ ap (λ t. codes "," ++ t) (line_encoded (column_in levels) rest ∙ ap (λ n. line_at n ++ encode_utf8_all rest) (column_is levels))

pub comma_deeper : (levels : List OpenLevel) (rest : Text)
    → encode_utf8_all (codes "," ++ (line_at (column_in levels + 2) ++ rest))
    ≡ codes "," ++ (line_at (length levels * 2) ++ (codes "  " ++ encode_utf8_all rest))
comma_deeper levels rest =
    ap encode_utf8_all (ap (λ t. codes "," ++ t) (line_deeper (column_in levels) rest)) ∙ comma_line levels (codes "  " ++ rest)
    ∙ ap (λ t. codes "," ++ (line_at (length levels * 2) ++ t)) (word_encoded (codes "  ") rest refl)

-- bytes of a line, a colon and a rest
pub key_line : (levels : List OpenLevel) (rest : Text)
    → encode_utf8_all (line_at (column_in levels + 2) ++ (codes ": " ++ rest)) ≡ line_at (length levels * 2) ++ (codes "  : " ++ encode_utf8_all rest)
key_line levels rest =
    ap encode_utf8_all (line_deeper (column_in levels) (codes ": " ++ rest)) ∙ line_encoded (column_in levels) (codes "  : " ++ rest)
    ∙ ap (λ n. line_at n ++ encode_utf8_all (codes "  : " ++ rest)) (column_is levels)
    ∙ ap (λ t. line_at (length levels * 2) ++ t) (word_encoded (codes "  : ") rest refl)
