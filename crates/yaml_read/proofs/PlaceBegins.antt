-- Up to the place of an error the bytes begin a canonical text.
use Rattle.yaml_read.proofs.Common.{ℕ, ◌-◌, ◌+◌, ◌*◌, ◌<◌, List, [], ◌∷◌, ◌++◌, refl, ◌≡◌, ap, subst, sym, ◌∙◌, append_assoc, arith, codes, flat_map-append}
use Rattle.yaml_read.proofs.Common.{length, line_feed, encode_utf8_all, Text, TypedValue, most_nested, line_at, value_text, take-append_seam, length-append}
use Rattle.yaml_read.proofs.Common.{encodes-append, take, OpenLevel, Completes, column_in, item_follows, list_ends, map_ends, pair_follows, text_ends}
use Rattle.yaml_read.proofs.Common.{behind_value, opened_text, CanBeReadAt, node, HasRead, IsOpen, BreaksOff, value_follows}
use Rattle.yaml_read.proofs.Opening.{item_on, item_out, key_on, pair_on, pair_out, value_in, value_out}
use Rattle.yaml_read.{proofs.Turns.comma_deeper, proofs.Turns.comma_line, proofs.Turns.key_line, proofs.WordSteps.node_words, proofs.WordsBehind.closing}
use Rattle.yaml_read.{proofs.WordsBehind.behind_words, proofs.WordTexts.flat, proofs.Encoded.word_encoded, specs.TextsAndWords.BeginsValue}

-- ---- a text that was read and the text that completes it are a value's text

abbrev IsText : (whole : List ℕ) → (root : TypedValue) → Type 0
IsText whole root = (whole ≡ encode_utf8_all (value_text 0 root ++ line_feed ∷ [])) × CanBeReadAt 0 root

value_next : (whole : List ℕ) (levels : List OpenLevel) (value : TypedValue) (rest : Text)
    → IsOpen whole levels (encode_utf8_all (value_text (column_in levels) value ++ rest)) → CanBeReadAt (length levels) value
    → HasRead whole levels value (encode_utf8_all rest)
value_next whole levels value rest opened readable = value_in _ _ _ _ _ opened (encodes-append (value_text (column_in levels) value) rest) readable

-- the bytes of a comma, a line and a bracket
closing_bytes : (levels : List OpenLevel) (bracket rest text : Text) → encode_utf8_all (bracket ++ rest) ≡ bracket ++ encode_utf8_all rest
    → text ≡ codes "," ++ (line_at (column_in levels) ++ (bracket ++ rest))
    → encode_utf8_all text ≡ codes "," ++ (line_at (length levels * 2) ++ (bracket ++ encode_utf8_all rest))
closing_bytes levels bracket rest text ascii is = grind (arith, encode_utf8_all, comma_line, codes, line_at, length)

completed : (whole : List ℕ) (root : TypedValue) (levels : List OpenLevel) (value : TypedValue) (text : Text) → Completes root levels value text
    → HasRead whole levels value (encode_utf8_all text) → IsText whole root
completed whole root _ _ _ (text_ends value text same is) read =
    subst (λ (v : TypedValue). IsText whole v) same (value_out _ _ _ read (ap encode_utf8_all is ∙ word_encoded (codes "\n") [] refl), read.readable)
completed whole root _ _ _ (item_follows levels items value item rest text readable is more) read =
    let next = value_text (column_in levels + 2) item ++ rest in
    completed _ root _ _ _ more (value_next _ _ _ _
    (item_on whole levels items value (encode_utf8_all text) (encode_utf8_all next) read (ap encode_utf8_all is ∙ comma_deeper levels next)) readable)
completed whole root _ _ _ (list_ends levels items value rest text is more) read =
    completed _ root _ _ _ more (item_out _ _ items _ _ _ read (closing_bytes levels (codes "]") rest _ (word_encoded (codes "]") rest refl) is))
completed whole root _ _ _ (value_follows levels pairs key value rest text readable is more) read =
    let next = value_text (column_in levels + 2) value ++ rest in
    completed _ root _ _ _ more (value_next _ _ _ _
    (key_on whole levels pairs key (encode_utf8_all text) (encode_utf8_all next) read (ap encode_utf8_all is ∙ key_line levels next)) readable)
completed whole root _ _ _ (pair_follows levels pairs key value next rest text readable is more) read =
    let behind = value_text (column_in levels + 2) next ++ rest in
    completed _ root _ _ _ more (value_next _ _ _ _ (pair_on whole levels pairs key value (encode_utf8_all text) (encode_utf8_all behind) read
    (ap encode_utf8_all is ∙ comma_deeper levels (codes "? " ++ behind)
    ∙ ap (λ t. codes "," ++ (line_at (length levels * 2) ++ (codes "  " ++ t))) (word_encoded (codes "? ") behind refl))) readable)
completed whole root _ _ _ (map_ends levels pairs key value rest text is more) read =
    completed _ root _ _ _ more (pair_out _ _ pairs key _ _ _ read (closing_bytes levels (codes "}") rest _ (word_encoded (codes "}") rest refl) is))

-- ---- the bytes up to a place

front_is : (front rest whole : List ℕ) (left : ℕ) → whole ≡ front ++ rest → left ≡ length rest → take (length whole - left) whole ≡ front
front_is front rest whole left is place =
    let count : length (front ++ rest) - left ≡ length front = omega (arith, length-append front rest, place) in
    ap (λ (t : List ℕ). take (length t - left) t) is ∙ ap (λ n. take n (front ++ rest)) count ∙ take-append_seam front rest

-- a text that has the same bytes up to a place
shared : (front whole text : List ℕ) (read : List (List ℕ)) (rest more : List ℕ) (left : ℕ) → whole ≡ front ++ (flat read ++ rest)
    → left ≡ length rest → text ≡ front ++ (flat read ++ more) → text ≡ take (length whole - left) whole ++ more
shared front whole text read rest more left is place also =
    also ∙ sym (append_assoc front (flat read) more)
    ∙ ap (λ t. t ++ more) (sym (front_is (front ++ flat read) rest whole left (is ∙ sym (append_assoc front (flat read) rest)) place))

-- the bytes of words that were read, of those that may come, and of what follows them
words_apart : (read after : List (List ℕ)) (bytes rest : List ℕ) → bytes ≡ flat (read ++ after) ++ rest → bytes ≡ flat read ++ (flat after ++ rest)
words_apart read after bytes rest is = grind (arith, flat_map-append, append_assoc, flat)

-- if a word is missing in a node, and a list or a map may still be opened
pub node_place : (whole : List ℕ) (levels : List OpenLevel) (bytes : List ℕ) (left : ℕ) → IsOpen whole levels bytes → length levels < most_nested
    → BreaksOff (node (length levels)) bytes left → BeginsValue (take (length whole - left) whole)
node_place whole levels bytes left opened room breaks =
    let begins = node_words _ _ room breaks.begins in
    let closed = closing _ _ in
    let value = encode_utf8_all (value_text (column_in levels) begins.value) in
    let opens = encode_utf8_all (opened_text levels) in
    let after = flat (breaks.due ∷ breaks.more) ++ begins.rest in
    let text = completed _ closed.root _ _ _ closed.completes
    (value_next _ _ _ _ (record { text = refl; readable = opened.readable }) begins.readable) in
    record {
      root = closed.root;
      readable = text.1;
      rest = after ++ encode_utf8_all closed.text;
      text =
          sym text.0 ∙ shared opens _ _ breaks.read breaks.rest (after ++ encode_utf8_all closed.text) _
          (opened.text ∙ ap (λ b. opens ++ b) breaks.parts) breaks.place
          (ap (λ b. opens ++ b) (encodes-append (value_text (column_in levels) begins.value) closed.text
          ∙ ap (λ b. b ++ encode_utf8_all closed.text) (words_apart breaks.read (breaks.due ∷ breaks.more) value begins.rest begins.is)
          ∙ append_assoc (flat breaks.read) after (encode_utf8_all closed.text)));
    }

-- if a word is missing after a node
pub behind_place : (whole : List ℕ) (levels : List OpenLevel) (value : TypedValue) (bytes : List ℕ) (left : ℕ) → HasRead whole levels value bytes
    → BreaksOff (behind_value levels) bytes left → BeginsValue (take (length whole - left) whole)
behind_place whole levels value bytes left read breaks =
    let goes = behind_words levels value (breaks.read ++ breaks.due ∷ breaks.more) breaks.begins in
    let front = encode_utf8_all (opened_text levels ++ value_text (column_in levels) value) in
    let other = front ++ encode_utf8_all goes.text in
    let after = flat (breaks.due ∷ breaks.more) ++ goes.rest in
    let text = completed other goes.root levels value goes.text goes.completes
    (record { text = refl; outer = read.outer; readable = read.readable }) in
    record {
      root = goes.root;
      readable = text.1;
      rest = after;
      text =
          sym text.0 ∙ shared front whole other breaks.read breaks.rest after left (read.text ∙ ap (λ b. front ++ b) breaks.parts) breaks.place
          (ap (λ b. front ++ b) (words_apart breaks.read (breaks.due ∷ breaks.more) (encode_utf8_all goes.text) goes.rest goes.is));
    }
