-- After nodes the words of the grammar go on in texts of values.
use Rattle.yaml_read.proofs.Common.{ℕ, ◌+◌, ◌*◌, [], ◌∷◌, ◌++◌, ◌≡◌, ◌∙◌, ◌⊎◌, List, refl, ap, sym, inl, inr, append_assoc, codes, length, line_feed, arith}
use Rattle.yaml_read.proofs.Common.{TypedValue, TypedValues, TypedPairs, list_value, map_value, null_value, value_pairs_and, values_and, encode_utf8_all, Text}
use Rattle.yaml_read.proofs.Common.{line_at, value_text, behind_value, OpenLevel, items_open, pairs_open, value_due, Completes, column_in, item_follows}
use Rattle.yaml_read.proofs.Common.{list_ends, map_ends, pair_follows, text_ends, value_follows}
use Rattle.yaml_read.proofs.WordSteps.{entry_bytes, entry_words, key_words, single}
use Rattle.yaml_read.proofs.{WordTexts.flat, TextWalks.entry_of, Encoded.word_encoded, Turns.comma_deeper, Turns.comma_line, Turns.key_line}
use Rattle.yaml_read.specs.TextsAndWords.{GoesOnWith}

-- a text that ends all that is open
pub record ClosesAll (levels : List OpenLevel) (value : TypedValue) : Type 0 where
  pub root : TypedValue
  pub text : Text
  pub completes : Completes root levels value text

pub closing : (levels : List OpenLevel) (value : TypedValue) → ClosesAll levels value
closing [] value = record { root = value; text = line_feed ∷ []; completes = text_ends value (line_feed ∷ []) refl refl }
closing (items_open items ∷ levels) value =
    let outer = closing levels (list_value (values_and items value)) in
    record {
      root = outer.root;
      text = codes "," ++ (line_at (column_in levels) ++ (codes "]" ++ outer.text));
      completes = list_ends levels items value outer.text (codes "," ++ (line_at (column_in levels) ++ (codes "]" ++ outer.text))) refl outer.completes;
    }
closing (value_due pairs key ∷ levels) value =
    let outer = closing levels (map_value (value_pairs_and pairs key value)) in
    record {
      root = outer.root;
      text = codes "," ++ (line_at (column_in levels) ++ (codes "}" ++ outer.text));
      completes = map_ends levels pairs key value outer.text (codes "," ++ (line_at (column_in levels) ++ (codes "}" ++ outer.text))) refl outer.completes;
    }
closing (pairs_open pairs ∷ levels) key =
    let outer = closing levels (map_value (value_pairs_and pairs key null_value)) in
    let ends = codes "," ++ (line_at (column_in levels) ++ (codes "}" ++ outer.text)) in
    let text = line_at (column_in levels + 2) ++ (codes ": " ++ (value_text (column_in levels + 2) null_value ++ ends)) in
    record {
      root = outer.root;
      text = text;
      completes = value_follows levels pairs key null_value ends text tt refl (map_ends levels pairs key null_value outer.text ends refl outer.completes);
    }

-- a word after an entry's line
word_behind : (depth : ℕ) (word rest text : List ℕ) (words : List (List ℕ)) → text ≡ codes "," ++ (line_at (depth * 2) ++ (word ++ rest))
    → words ≡ entry_of depth word → text ≡ flat words ++ rest
word_behind depth word rest text words is are = grind (arith, line_at, flat, entry_bytes, codes, append_assoc)

behind_item : (levels : List OpenLevel) (items : TypedValues) (value : TypedValue) (words : List (List ℕ))
    → (words ≡ entry_of (length levels) (codes "  ")) ⊎ (words ≡ entry_of (length levels) (codes "]"))
    → GoesOnWith (items_open items ∷ levels) value words
behind_item levels items value words (inl are) =
    let column = column_in levels + 2 in
    let closed = closing (items_open (values_and items value) ∷ levels) null_value in
    let next = value_text column null_value ++ closed.text in
    record {
      root = closed.root;
      text = codes "," ++ (line_at column ++ next);
      completes = item_follows levels items value null_value closed.text (codes "," ++ (line_at column ++ next)) tt refl closed.completes;
      rest = encode_utf8_all next;
      is = word_behind (length levels) (codes "  ") (encode_utf8_all next) (encode_utf8_all (codes "," ++ (line_at column ++ next))) words
          (comma_deeper levels next) are;
    }
behind_item levels items value words (inr are) =
    let outer = closing levels (list_value (values_and items value)) in
    let text = codes "," ++ (line_at (column_in levels) ++ (codes "]" ++ outer.text)) in
    record {
      root = outer.root;
      text = text;
      completes = list_ends levels items value outer.text text refl outer.completes;
      rest = encode_utf8_all outer.text;
      is = word_behind (length levels) (codes "]") (encode_utf8_all outer.text) (encode_utf8_all text) words
          (comma_line levels (codes "]" ++ outer.text)
          ∙ ap (λ t. codes "," ++ (line_at (length levels * 2) ++ t)) (word_encoded (codes "]") outer.text refl)) are;
    }

behind_pair : (levels : List OpenLevel) (pairs : TypedPairs) (key value : TypedValue) (words : List (List ℕ))
    → (words ≡ entry_of (length levels) (codes "  ? ")) ⊎ (words ≡ entry_of (length levels) (codes "}"))
    → GoesOnWith (value_due pairs key ∷ levels) value words
behind_pair levels pairs key value words (inl are) =
    let column = column_in levels + 2 in
    let closed = closing (pairs_open (value_pairs_and pairs key value) ∷ levels) null_value in
    let next = value_text column null_value ++ closed.text in
    let text = codes "," ++ (line_at column ++ (codes "? " ++ next)) in
    record {
      root = closed.root;
      text = text;
      completes = pair_follows levels pairs key value null_value closed.text text tt refl closed.completes;
      rest = encode_utf8_all next;
      is = word_behind (length levels) (codes "  ? ") (encode_utf8_all next) (encode_utf8_all text) words
          (comma_deeper levels (codes "? " ++ next)
          ∙ ap (λ t. codes "," ++ (line_at (length levels * 2) ++ (codes "  " ++ t))) (word_encoded (codes "? ") next refl)) are;
    }
behind_pair levels pairs key value words (inr are) =
    let outer = closing levels (map_value (value_pairs_and pairs key value)) in
    let text = codes "," ++ (line_at (column_in levels) ++ (codes "}" ++ outer.text)) in
    record {
      root = outer.root;
      text = text;
      completes = map_ends levels pairs key value outer.text text refl outer.completes;
      rest = encode_utf8_all outer.text;
      is = word_behind (length levels) (codes "}") (encode_utf8_all outer.text) (encode_utf8_all text) words
          (comma_line levels (codes "}" ++ outer.text)
          ∙ ap (λ t. codes "," ++ (line_at (length levels * 2) ++ t)) (word_encoded (codes "}") outer.text refl)) are;
    }

behind_key : (levels : List OpenLevel) (pairs : TypedPairs) (key : TypedValue) (words : List (List ℕ))
    → flat words ≡ line_at (length levels * 2) ++ codes "  : " → GoesOnWith (pairs_open pairs ∷ levels) key words
behind_key levels pairs key words line =
    let column = column_in levels + 2 in
    let closed = closing (value_due pairs key ∷ levels) null_value in
    let next = value_text column null_value ++ closed.text in
    let text = line_at column ++ (codes ": " ++ next) in
    record {
      root = closed.root;
      text = text;
      completes = value_follows levels pairs key null_value closed.text text tt refl closed.completes;
      rest = encode_utf8_all next;
      is =
          key_line levels next ∙ sym (append_assoc (line_at (length levels * 2)) (codes "  : ") (encode_utf8_all next))
          ∙ ap (λ t. t ++ encode_utf8_all next) (sym line);
    }

-- after a value that has its place a text goes on with any words that may come there
pub behind_words : (levels : List OpenLevel) (value : TypedValue) (words : List (List ℕ)) → behind_value levels words → GoesOnWith levels value words
behind_words [] value words are =
    record {
      root = value;
      text = line_feed ∷ [];
      completes = text_ends value (line_feed ∷ []) refl refl;
      rest = [];
      is = word_encoded (codes "\n") [] refl ∙ ap (λ ws. flat ws ++ []) (sym (single (codes "\n") words are));
    }
behind_words (items_open items ∷ levels) value words are = behind_item levels items _ _ (entry_words (length levels) (codes "  ") (codes "]") words are)
behind_words (value_due pairs key ∷ levels) value words are =
    behind_pair levels pairs key _ _ (entry_words (length levels) (codes "  ? ") (codes "}") words are)
behind_words (pairs_open pairs ∷ levels) key words are = behind_key levels pairs _ _ (key_words (length levels) words are)
