-- The texts of values go on with the words of the grammar.
use Rattle.yaml_read.proofs.Common.{ℕ, ◌+◌, ◌*◌, ◌<◌, zero, suc, Bool, true, false, ◌&&◌, List, [], ◌∷◌, ◌++◌, refl, ◌≡◌, ap, subst, sym, ◌∙◌, inl, inr}
use Rattle.yaml_read.proofs.Common.{append-nil, append_assoc, codes, flat_map, length, replicate, space, and_parts, all_scalars, encode_utf8_all}
use Rattle.yaml_read.proofs.Common.{character_text, Text, TypedValue, TypedValues, TypedPairs, null_value, bool_value, int_value, text_value, list_value}
use Rattle.yaml_read.proofs.Common.{map_value, bool_text, most_nested, no_value_pairs, no_values, value_pairs_and, values_and, quote, in_quotes, line_at}
use Rattle.yaml_read.proofs.Common.{value_text, ℤ, ◌^◌, encodes-append, signed_decimal, mag, behind_tag, behind_value, characters, these_or_those, entry_end}
use Rattle.yaml_read.proofs.Common.{integer, levels_then, line_then, node, nothing, quoted_text, truth, word_then, OpenLevel, items_open, Completes, IsDue}
use Rattle.yaml_read.proofs.Common.{column_in, item_follows, list_ends, map_ends, pair_follows, text_ends, value_follows, tag_word, CanBeReadAt, Kind, arith}
use Rattle.yaml_read.proofs.HeadTexts.{list_tail, map_tail, value_bytes, value_tail, value_word}
use Rattle.yaml_read.{proofs.Turns.column_is, proofs.Turns.comma_deeper, proofs.Turns.comma_line, proofs.Turns.key_line, specs.Remaining.IsRead}
use Rattle.yaml_read.{specs.TextsAndWords.BeginsWith, proofs.Breaking.level_first, proofs.Encoded.line_encoded, proofs.Encoded.word_encoded}
use Rattle.yaml_read.{proofs.Remaining.items_behind, proofs.Remaining.pairs_behind}
use Rattle.yaml_read.specs.declared.heads.Kind.TheVariants as kind

-- ---- words one after another

nothing_goes : (bytes : List ℕ) → BeginsWith nothing bytes
nothing_goes bytes = record { words = []; rest = bytes; are = tt; parts = refl }

goes_on : (These More : List (List ℕ) → Type 0) (first bytes rest : List ℕ) → ((words : List (List ℕ)) → More words → These (first ∷ words))
    → bytes ≡ first ++ rest → BeginsWith More rest → BeginsWith These bytes
goes_on These More first bytes rest into is goes =
    record {
      words = first ∷ goes.words;
      rest = goes.rest;
      are = into goes.words goes.are;
      parts = is ∙ ap (λ t. first ++ t) goes.parts ∙ sym (append_assoc first (flat_map (λ (w : List ℕ). w) goes.words) goes.rest);
    }

word_goes : (More : List (List ℕ) → Type 0) (first bytes rest : List ℕ) → bytes ≡ first ++ rest → BeginsWith More rest
    → BeginsWith (word_then first More) bytes
word_goes More first bytes rest is goes = goes_on (word_then first More) More first bytes rest (λ words more. (refl, more)) is goes

goes_as : (These Those : List (List ℕ) → Type 0) (bytes : List ℕ) → ((words : List (List ℕ)) → These words → Those words) → BeginsWith These bytes
    → BeginsWith Those bytes
goes_as These Those bytes into goes = record { words = goes.words; rest = goes.rest; are = into goes.words goes.are; parts = goes.parts }

levels_go : (depth : ℕ) (More : List (List ℕ) → Type 0) (bytes rest : List ℕ) → bytes ≡ replicate (depth * 2) space ++ rest → BeginsWith More rest
    → BeginsWith (levels_then depth More) bytes
levels_go zero More bytes rest is goes = subst (BeginsWith More) (sym is) goes
levels_go (suc depth) More bytes rest is goes =
    word_goes _ (codes "  ") _ _ (level_first depth _ rest is) (levels_go depth More (replicate (depth * 2) space ++ rest) rest refl goes)

line_goes : (depth : ℕ) (More : List (List ℕ) → Type 0) (bytes rest : List ℕ) → bytes ≡ line_at (depth * 2) ++ rest → BeginsWith More rest
    → BeginsWith (line_then depth More) bytes
line_goes depth More bytes rest is goes = word_goes _ (codes "\n") _ _ is (levels_go depth More (replicate (depth * 2) space ++ rest) rest refl goes)

-- ---- after a tag

characters_go : (text rest : Text) → all_scalars text ≡ true
    → BeginsWith characters (encode_utf8_all ((flat_map (character_text true) text ++ quote ∷ []) ++ rest))
characters_go [] rest h =
    goes_on characters _ (codes "\"") (encode_utf8_all (quote ∷ rest)) _ (λ words more. inl (refl, more))
    (word_encoded (codes "\"") rest refl) (nothing_goes (encode_utf8_all rest))
characters_go (c ∷ text) rest h =
    let inside = flat_map (character_text true) text in
    let parts = and_parts _ (all_scalars text) h in
    goes_on characters _ (encode_utf8_all (character_text true c)) _ _ (λ words more. inr (c, ap (λ b. b && true) parts.0, refl, more))
    (ap encode_utf8_all (regroup (character_text true c) inside (quote ∷ []) rest)
    ∙ encodes-append (character_text true c) ((inside ++ quote ∷ []) ++ rest)) (characters_go text rest parts.1)
  where
    regroup : (a b c d : Text) → ((a ++ b) ++ c) ++ d ≡ a ++ ((b ++ c) ++ d)
    regroup a b c d = simp append_assoc

text_goes : (text rest : Text) → all_scalars text ≡ true → BeginsWith quoted_text (encode_utf8_all (in_quotes text ++ rest))
text_goes text rest h =
    let behind = (flat_map (character_text true) text ++ quote ∷ []) ++ rest in
    word_goes _ (codes "\"") (encode_utf8_all (in_quotes text ++ rest)) _ (word_encoded (codes "\"") behind refl) (characters_go text rest h)

integer_goes : (n : ℤ) (rest : Text) → mag n < 2 ^ 63 → BeginsWith integer (encode_utf8_all (in_quotes (signed_decimal n) ++ rest))
integer_goes n rest few =
    let word = in_quotes (signed_decimal n) in
    goes_on integer _ (encode_utf8_all word) _ _ (λ words more. (n, few, (refl, more))) (encodes-append word rest) (nothing_goes (encode_utf8_all rest))

truth_goes : (b : Bool) (rest : Text) → BeginsWith truth (encode_utf8_all (in_quotes (bool_text b) ++ rest))
truth_goes true rest = goes_on _ _ (codes "\"true\"") _ _ (λ words more. inl (refl, more)) (word_encoded (codes "\"true\"") rest refl) (nothing_goes _)
truth_goes false rest = goes_on _ _ (codes "\"false\"") _ _ (λ words more. inr (refl, more)) (word_encoded (codes "\"false\"") rest refl) (nothing_goes _)

-- the line of the first entry
pub entry_line : (levels : List OpenLevel) (rest : Text)
    → encode_utf8_all (line_at (column_in levels + 2) ++ rest) ≡ line_at (suc (length levels) * 2) ++ encode_utf8_all rest
entry_line levels rest = grind (arith, line_encoded, column_in, line_at, encode_utf8_all, column_is, items_open, no_values)

list_goes : (levels : List OpenLevel) (items : TypedValues) (rest : Text) → length levels < most_nested
    → BeginsWith (behind_tag (length levels) kind.List) (encode_utf8_all (list_tail (column_in levels) items rest))
list_goes levels no_values rest room =
    word_goes _ (codes "[") _ _ (word_encoded (codes "[") (codes "]" ++ rest) refl) (goes_as _ _ _ (λ words these. inl (room, inl these))
    (word_goes _ (codes "]") _ _ (word_encoded (codes "]") rest refl) (nothing_goes _)))
list_goes levels (values_and items item) rest room =
    let column = column_in levels in
    let inside = items_behind (column + 2) items item (codes "," ++ (line_at column ++ (codes "]" ++ rest))) in
    word_goes _ (codes "[") _ _ (word_encoded (codes "[") (line_at (column + 2) ++ inside) refl) (goes_as _ _ _ (λ words these. inl (room, inr these))
    (line_goes (suc (length levels)) _ _ _ (entry_line levels inside) (nothing_goes _)))

map_goes : (levels : List OpenLevel) (pairs : TypedPairs) (rest : Text) → length levels < most_nested
    → BeginsWith (behind_tag (length levels) kind.Map) (encode_utf8_all (map_tail (column_in levels) pairs rest))
map_goes levels no_value_pairs rest room =
    word_goes _ (codes "{") _ _ (word_encoded (codes "{") (codes "}" ++ rest) refl) (goes_as _ _ _ (λ words these. inl (room, inl these))
    (word_goes _ (codes "}") _ _ (word_encoded (codes "}") rest refl) (nothing_goes _)))
map_goes levels (value_pairs_and pairs key value) rest room =
    let column = column_in levels in
    let inside = pairs_behind (column + 2) pairs key value (codes "," ++ (line_at column ++ (codes "}" ++ rest))) in
    word_goes _ (codes "{") _ _ (word_encoded (codes "{") (line_at (column + 2) ++ (codes "? " ++ inside)) refl)
    (goes_as _ _ _ (λ words these. inl (room, inr these)) (line_goes (suc (length levels)) _ _ _ (entry_line levels (codes "? " ++ inside))
    (word_goes _ (codes "? ") _ _ (word_encoded (codes "? ") inside refl) (nothing_goes _))))

-- ---- nodes

tag_goes : (depth : ℕ) (k : Kind) (bytes rest : List ℕ) → bytes ≡ tag_word k ++ rest → BeginsWith (behind_tag depth k) rest
    → BeginsWith (node depth) bytes
tag_goes depth k bytes rest is goes = goes_on (node depth) (behind_tag depth k) (tag_word k) bytes rest (λ words more. (k, (refl, more))) is goes

tail_goes : (levels : List OpenLevel) (k : Kind) (value : TypedValue) (rest : Text) → value_word value ≡ tag_word k
    → BeginsWith (behind_tag (length levels) k) (encode_utf8_all (value_tail (column_in levels) value rest))
    → BeginsWith (node (length levels)) (encode_utf8_all (value_text (column_in levels) value ++ rest))
tail_goes levels k value rest same goes =
    let tail = encode_utf8_all (value_tail (column_in levels) value rest) in
    tag_goes (length levels) k _ _ (value_bytes (column_in levels) value rest ∙ ap (λ w. w ++ tail) same) goes

node_goes : (levels : List OpenLevel) (value : TypedValue) (rest : Text) → CanBeReadAt (length levels) value
    → BeginsWith (node (length levels)) (encode_utf8_all (value_text (column_in levels) value ++ rest))
node_goes levels null_value rest readable =
    tail_goes levels kind.Null null_value rest refl
    (word_goes nothing (codes "\"null\"") (encode_utf8_all (codes "\"null\"" ++ rest)) (encode_utf8_all rest) (word_encoded (codes "\"null\"") rest refl)
    (nothing_goes (encode_utf8_all rest)))
node_goes levels (bool_value b) rest readable = tail_goes levels kind.Bool (bool_value b) rest refl (truth_goes b rest)
node_goes levels (int_value n) rest readable = tail_goes levels kind.Int (int_value n) rest refl (integer_goes n rest readable)
node_goes levels (text_value text) rest readable = tail_goes levels kind.Text (text_value text) rest refl (text_goes text rest readable)
node_goes levels (list_value items) rest readable = tail_goes levels kind.List (list_value items) rest refl (list_goes levels items rest readable.0)
node_goes levels (map_value pairs) rest readable = tail_goes levels kind.Map (map_value pairs) rest refl (map_goes levels pairs rest readable.0)

-- if a value's text has a node, it has words of a node there
pub due_words : (root : TypedValue) (levels : List OpenLevel) (bytes : List ℕ) → IsDue root levels bytes → BeginsWith (node (length levels)) bytes
due_words root levels bytes due = subst (BeginsWith (node (length levels))) (sym due.text) (node_goes levels due.value due.rest due.readable)

-- ---- after a node

entry_goes : (depth : ℕ) (lead end word rest bytes : List ℕ) → these_or_those (word_then lead nothing) (word_then end nothing) (word ∷ [])
    → bytes ≡ codes "," ++ (line_at (depth * 2) ++ (word ++ rest)) → BeginsWith (entry_end depth lead end) bytes
entry_goes depth lead end word rest bytes are is =
    let ends = these_or_those (word_then lead nothing) (word_then end nothing) in
    word_goes _ (codes ",") _ _ is (line_goes depth ends _ (word ++ rest) refl
    (record { words = word ∷ []; rest = rest; are = are; parts = ap (λ w. w ++ rest) (sym (append-nil word)) }))

text_goes_on : (root : TypedValue) (levels : List OpenLevel) (value : TypedValue) (bytes : List ℕ) (text : Text) → bytes ≡ encode_utf8_all text
    → Completes root levels value text → BeginsWith (behind_value levels) bytes
text_goes_on root _ _ bytes _ at (text_ends value text same is) =
    word_goes _ (codes "\n") _ _ (at ∙ ap encode_utf8_all is ∙ word_encoded (codes "\n") [] refl) (nothing_goes _)
text_goes_on root _ _ bytes _ at (item_follows levels items value item rest text readable is more) =
    let tail = value_text (column_in levels + 2) item ++ rest in
    entry_goes (length levels) (codes "  ") (codes "]") (codes "  ") (encode_utf8_all tail) bytes (inl (refl, tt))
    (at ∙ ap encode_utf8_all is ∙ comma_deeper levels tail)
text_goes_on root _ _ bytes _ at (list_ends levels items value rest text is more) =
    entry_goes (length levels) (codes "  ") (codes "]") (codes "]") (encode_utf8_all rest) bytes (inr (refl, tt))
    (at ∙ ap encode_utf8_all is ∙ comma_line levels (codes "]" ++ rest)
    ∙ ap (λ t. codes "," ++ (line_at (length levels * 2) ++ t)) (word_encoded (codes "]") rest refl))
text_goes_on root _ _ bytes _ at (pair_follows levels pairs key value next rest text readable is more) =
    let tail = value_text (column_in levels + 2) next ++ rest in
    entry_goes (length levels) (codes "  ? ") (codes "}") (codes "  ? ") (encode_utf8_all tail) bytes (inl (refl, tt))
    (at ∙ ap encode_utf8_all is ∙ comma_deeper levels (codes "? " ++ tail)
    ∙ ap (λ t. codes "," ++ (line_at (length levels * 2) ++ (codes "  " ++ t))) (word_encoded (codes "? ") tail refl))
text_goes_on root _ _ bytes _ at (map_ends levels pairs key value rest text is more) =
    entry_goes (length levels) (codes "  ? ") (codes "}") (codes "}") (encode_utf8_all rest) bytes (inr (refl, tt))
    (at ∙ ap encode_utf8_all is ∙ comma_line levels (codes "}" ++ rest)
    ∙ ap (λ t. codes "," ++ (line_at (length levels * 2) ++ t)) (word_encoded (codes "}") rest refl))
text_goes_on root _ _ bytes _ at (value_follows levels pairs key value rest text readable is more) =
    line_goes (length levels) _ _ _ (at ∙ ap encode_utf8_all is ∙ key_line levels (value_text (column_in levels + 2) value ++ rest))
    (word_goes _ (codes "  : ") _ _ refl (nothing_goes _))

-- if a value's text goes on after a node, it goes on with the words that may come there
pub read_words : (root : TypedValue) (levels : List OpenLevel) (value : TypedValue) (bytes : List ℕ) → IsRead root levels value bytes
    → BeginsWith (behind_value levels) bytes
read_words root levels value bytes read = text_goes_on root levels value bytes read.rest read.text read.completes
