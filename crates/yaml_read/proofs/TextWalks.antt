-- The text of a value leads a reader from the value's place to the place after it.
use Rattle.yaml_read.proofs.Common.{ℕ, ◌+◌, ◌*◌, ◌<◌, zero, suc, true, false, Some, List, [], ◌∷◌, ◌++◌, refl, ◌≡◌, ap, subst, sym, ◌∙◌, inl, inr, append_assoc}
use Rattle.yaml_read.proofs.Common.{append-nil, arith, codes, flat_map, length, replicate, space, encode_utf8_all, character_text, Text, TypedValue}
use Rattle.yaml_read.proofs.Common.{TypedValues, TypedPairs, null_value, bool_value, int_value, text_value, list_value, map_value, most_nested, no_value_pairs}
use Rattle.yaml_read.proofs.Common.{no_values, value_pairs_and, values_and, value_nodes, value_pairs, in_quotes, line_at, list_begun, map_begun, nodes_text}
use Rattle.yaml_read.proofs.Common.{node_pairs_text, value_text, quote, encodes-append, signed_decimal, entry_end, nothing, these_or_those, word_then, tag_word}
use Rattle.yaml_read.proofs.Common.{AllCanBeReadAt, CanBeReadAt, PairsCanBeReadAt, Kind, OpenLevel}
use Rattle.yaml_read.proofs.CharacterWays.{inner_words, text_words, words_are, words_flat}
use Rattle.yaml_read.proofs.Walks.{Spot, Walk, a_key, a_list, a_map, at_node, after_node, first_of, mark, next_spot, one_walk, walk_on, words_at}
use Rattle.yaml_read.proofs.{Breaking.level_first, Breaking.levels_go, Encoded.are_ascii, Encoded.line_encoded, Encoded.word_encoded, HeadTexts.value_bytes}
use Rattle.yaml_read.proofs.{HeadTexts.value_tail, HeadTexts.value_word, HeadsRead.word_bytes, Turns.line_deeper, WordTexts.flat}
use Rattle.yaml_read.specs.declared.heads.Kind.TheVariants as kind

-- the text leads from one place to another, whatever follows it
pub record LeadsTo (spot : Spot) (text : Text) (last : Spot) : Type 0 where
  pub walk : (rest : List ℕ) → Walk spot (encode_utf8_all text ++ rest) last rest

pub then_leads : (spot middle last : Spot) (one other : Text) → LeadsTo spot one middle → LeadsTo middle other last → LeadsTo spot (one ++ other) last
then_leads spot middle last one other leads also =
    record {
      walk = λ rest.
          subst (λ (b : List ℕ). Walk spot b last rest)
          (sym (ap (λ b. b ++ rest) (encodes-append one other) ∙ append_assoc (encode_utf8_all one) (encode_utf8_all other) rest)) (walk_on _ _ _ _ _ _
          (leads.walk (encode_utf8_all other ++ rest)) (also.walk rest));
    }

pub same_leads : (spot last : Spot) (one other : Text) → other ≡ one → LeadsTo spot one last → LeadsTo spot other last
same_leads spot last one other same leads = subst (λ (t : Text). LeadsTo spot t last) (sym same) leads

pub words_lead : (spot last : Spot) (text : Text) (words : List (List ℕ)) → words_at spot words → next_spot spot (mark words) ≡ Some last
    → encode_utf8_all text ≡ flat words → LeadsTo spot text last
words_lead spot last text words are to is =
    record { walk = λ rest. one_walk spot last (encode_utf8_all text ++ rest) rest words are to (ap (λ b. b ++ rest) is) }

-- ---- scalars

pub value_flat : (column : ℕ) (value : TypedValue) (k : Kind) (words : List (List ℕ)) → value_word value ≡ tag_word k
    → encode_utf8_all (value_tail column value []) ≡ flat words → encode_utf8_all (value_text column value) ≡ flat (tag_word k ∷ words)
value_flat column value k words same is =
    ap encode_utf8_all (sym (append-nil (value_text column value))) ∙ value_bytes column value []
    ∙ ap (λ w. w ++ encode_utf8_all (value_tail column value [])) same ∙ ap (λ t. tag_word k ++ t) is

pub inner_mark : (word : List ℕ) (text : Text) → mark (word ∷ inner_words text) ≡ quote
inner_mark word [] = refl
inner_mark word (c ∷ text) = inner_mark (encode_utf8_all (character_text true c)) text

pub quotes_first : (text : Text) → first_of (encode_utf8_all (in_quotes text)) ≡ quote
quotes_first text = ap first_of (word_encoded (codes "\"") (flat_map (character_text true) text ++ quote ∷ []) refl)

null_leads : (levels : List OpenLevel) (column : ℕ) → LeadsTo (at_node levels) (value_text column null_value) (after_node levels)
null_leads levels column =
    words_lead (at_node levels) (after_node levels) (value_text column null_value) (tag_word kind.Null ∷ codes "\"null\"" ∷ []) (kind.Null, (refl, (refl, tt))) refl
    (value_flat column null_value kind.Null (codes "\"null\"" ∷ []) refl (word_encoded (codes "\"null\"") [] refl))

true_leads : (levels : List OpenLevel) (column : ℕ) → LeadsTo (at_node levels) (value_text column (bool_value true)) (after_node levels)
true_leads levels column =
    words_lead _ _ _ (tag_word kind.Bool ∷ codes "\"true\"" ∷ []) (kind.Bool, (refl, inl (refl, tt))) refl
    (value_flat column (bool_value true) kind.Bool (codes "\"true\"" ∷ []) refl (word_encoded (codes "\"true\"") [] refl))

false_leads : (levels : List OpenLevel) (column : ℕ) → LeadsTo (at_node levels) (value_text column (bool_value false)) (after_node levels)
false_leads levels column =
    words_lead _ _ _ (tag_word kind.Bool ∷ codes "\"false\"" ∷ []) (kind.Bool, (refl, inr (refl, tt))) refl
    (value_flat column (bool_value false) kind.Bool (codes "\"false\"" ∷ []) refl (word_encoded (codes "\"false\"") [] refl))

-- ---- lines

pub levels_flat : (depth : ℕ) (more : List (List ℕ)) → flat (replicate depth (codes "  ") ++ more) ≡ replicate (depth * 2) space ++ flat more
levels_flat zero more = refl
levels_flat (suc depth) more = grind (arith, codes, level_first, replicate, suc, space, flat, levels_flat depth more)

pub levels_mark : (word last : List ℕ) (depth : ℕ) → mark (word ∷ (replicate depth (codes "  ") ++ last ∷ [])) ≡ first_of last
levels_mark word last zero = refl
levels_mark word last (suc depth) = levels_mark (codes "  ") last depth

pub spaces_mark : (word : List ℕ) (depth : ℕ) → mark (word ∷ (replicate (suc depth) (codes "  ") ++ [])) ≡ space
spaces_mark word zero = refl
spaces_mark word (suc depth) = spaces_mark (codes "  ") depth

-- a line's words, and a word in it
pub line_flat : (column depth : ℕ) (word : Text) → column ≡ depth * 2 → are_ascii word ≡ true
    → encode_utf8_all (line_at column ++ word) ≡ flat (codes "\n" ∷ (replicate depth (codes "  ") ++ word ∷ []))
line_flat column depth word same ascii = grind (arith, line_encoded, word_bytes, append-nil, levels_flat)

-- a line's words alone
pub bare_flat : (column depth : ℕ) → column ≡ depth * 2
    → encode_utf8_all (line_at column) ≡ flat (codes "\n" ∷ (replicate depth (codes "  ") ++ []))
bare_flat column depth same = grind (arith, encode_utf8_all, append-nil, line_encoded, levels_flat)

-- the words of an entry's end: a comma, a line, and a word in it
abbrev pub entry_of : ℕ → List ℕ → List (List ℕ)
entry_of depth word = codes "," ∷ codes "\n" ∷ (replicate depth (codes "  ") ++ word ∷ [])

entry_flat : (column depth : ℕ) (word : Text) → column ≡ depth * 2 → are_ascii word ≡ true
    → encode_utf8_all (codes "," ++ (line_at column ++ word)) ≡ flat (entry_of depth word)
entry_flat column depth word same ascii =
    word_encoded (codes ",") (line_at column ++ word) refl ∙ ap (λ t. codes "," ++ t) (line_flat column depth word same ascii)

-- an entry's end leads to the next entry or out of the list or the map
entry_leads : (after last : Spot) (depth : ℕ) (lead end word : List ℕ) (text : Text)
    → ((words : List (List ℕ)) → entry_end depth lead end words → words_at after words)
    → these_or_those (word_then lead nothing) (word_then end nothing) (word ∷ []) → next_spot after (first_of word) ≡ Some last
    → encode_utf8_all text ≡ flat (entry_of depth word) → LeadsTo after text last
entry_leads after last depth lead end word text come are to is =
    words_lead after last text (entry_of depth word) (come (entry_of depth word)
    (refl, (refl, levels_go depth (these_or_those (word_then lead nothing) (word_then end nothing)) (word ∷ []) are)))
    (ap (next_spot after) (levels_mark (codes "\n") word depth) ∙ to) is

pub deeper : (column depth : ℕ) → column ≡ depth * 2 → column + 2 ≡ suc depth * 2
deeper column depth same = omega (arith, same)

-- ---- into lists and maps, on in them, and out of them

empty_list_leads : (levels : List OpenLevel) (column : ℕ) → length levels < most_nested
    → LeadsTo (at_node levels) (value_text column (list_value no_values)) (after_node levels)
empty_list_leads levels column room =
    words_lead _ _ _ (tag_word kind.List ∷ codes "[" ∷ codes "]" ∷ []) (kind.List, (refl, (refl, inl (room, inl (refl, tt))))) refl
    (value_flat column (list_value no_values) kind.List (codes "[" ∷ codes "]" ∷ []) refl (word_encoded (codes "[]") [] refl))

empty_map_leads : (levels : List OpenLevel) (column : ℕ) → length levels < most_nested
    → LeadsTo (at_node levels) (value_text column (map_value no_value_pairs)) (after_node levels)
empty_map_leads levels column room =
    words_lead _ _ _ (tag_word kind.Map ∷ codes "{" ∷ codes "}" ∷ []) (kind.Map, (refl, (refl, inl (room, inl (refl, tt))))) refl
    (value_flat column (map_value no_value_pairs) kind.Map (codes "{" ∷ codes "}" ∷ []) refl (word_encoded (codes "{}") [] refl))

list_in : (levels : List OpenLevel) (column : ℕ) → column ≡ length levels * 2 → length levels < most_nested
    → LeadsTo (at_node levels) (codes "!!seq [" ++ line_at (column + 2)) (at_node (a_list ∷ levels))
list_in levels column same room =
    let line = replicate (suc (length levels)) (codes "  ") ++ [] in
    words_lead (at_node levels) (at_node (a_list ∷ levels)) (codes "!!seq [" ++ line_at (column + 2)) (tag_word kind.List ∷ codes "[" ∷ codes "\n" ∷ line)
    (kind.List, (refl, (refl, inl (room, inr (refl, levels_go (suc (length levels)) nothing [] tt)))))
    (ap (next_spot (at_node levels)) (spaces_mark (codes "\n") (length levels))) (word_encoded (codes "!!seq [") (line_at (column + 2)) refl
    ∙ ap (λ t. codes "!!seq [" ++ t) (bare_flat (column + 2) (suc (length levels)) (deeper column (length levels) same)))

map_in : (levels : List OpenLevel) (column : ℕ) → column ≡ length levels * 2 → length levels < most_nested
    → LeadsTo (at_node levels) (codes "!!map {" ++ (line_at (column + 2) ++ codes "? ")) (at_node (a_map ∷ levels))
map_in levels column same room =
    let line = replicate (suc (length levels)) (codes "  ") ++ codes "? " ∷ [] in
    words_lead (at_node levels) _ (codes "!!map {" ++ (line_at (column + 2) ++ codes "? ")) (tag_word kind.Map ∷ codes "{" ∷ codes "\n" ∷ line)
    (kind.Map, (refl, (refl, inl (room, inr (refl, levels_go (suc (length levels)) (word_then (codes "? ") nothing) (codes "? " ∷ []) (refl, tt))))))
    (ap (next_spot (at_node levels)) (levels_mark (codes "\n") (codes "? ") (suc (length levels))))
    (word_encoded (codes "!!map {") (line_at (column + 2) ++ codes "? ") refl
    ∙ ap (λ t. codes "!!map {" ++ t) (line_flat _ (suc (length levels)) (codes "? ") (deeper column (length levels) same) refl))

item_on : (levels : List OpenLevel) (column : ℕ) → column ≡ length levels * 2
    → LeadsTo (after_node (a_list ∷ levels)) (codes "," ++ line_at (column + 2)) (at_node (a_list ∷ levels))
item_on levels column same =
    entry_leads _ _ (length levels) (codes "  ") (codes "]") (codes "  ") _ (λ words are. are) (inl (refl, tt)) refl
    (ap encode_utf8_all (ap (λ t. codes "," ++ t) (sym (append-nil (line_at (column + 2))) ∙ line_deeper column []))
    ∙ entry_flat _ (length levels) (codes "  ") same refl)

list_out : (levels : List OpenLevel) (column : ℕ) → column ≡ length levels * 2
    → LeadsTo (after_node (a_list ∷ levels)) (codes "," ++ (line_at column ++ codes "]")) (after_node levels)
list_out levels column same =
    entry_leads (after_node (a_list ∷ levels)) (after_node levels) (length levels) (codes "  ") (codes "]") (codes "]")
    (codes "," ++ (line_at column ++ codes "]")) (λ words are. are) (inr (refl, tt)) refl (entry_flat column (length levels) (codes "]") same refl)

key_on : (levels : List OpenLevel) (column : ℕ) → column ≡ length levels * 2
    → LeadsTo (after_node (a_map ∷ levels)) (line_at (column + 2) ++ codes ": ") (at_node (a_key ∷ levels))
key_on levels column same =
    words_lead _ _ _ (codes "\n" ∷ (replicate (length levels) (codes "  ") ++ codes "  : " ∷ []))
    (refl, levels_go (length levels) (word_then (codes "  : ") nothing) (codes "  : " ∷ []) (refl, tt)) refl
    (ap encode_utf8_all (line_deeper column (codes ": ")) ∙ line_flat _ (length levels) (codes "  : ") same refl)

pair_on : (levels : List OpenLevel) (column : ℕ) → column ≡ length levels * 2
    → LeadsTo (after_node (a_key ∷ levels)) (codes "," ++ (line_at (column + 2) ++ codes "? ")) (at_node (a_map ∷ levels))
pair_on levels column same =
    entry_leads _ _ (length levels) (codes "  ? ") (codes "}") (codes "  ? ") _ (λ words are. are) (inl (refl, tt)) refl
    (ap encode_utf8_all (ap (λ t. codes "," ++ t) (line_deeper column (codes "? "))) ∙ entry_flat _ (length levels) (codes "  ? ") same refl)

map_out : (levels : List OpenLevel) (column : ℕ) → column ≡ length levels * 2
    → LeadsTo (after_node (a_key ∷ levels)) (codes "," ++ (line_at column ++ codes "}")) (after_node levels)
map_out levels column same =
    entry_leads (after_node (a_key ∷ levels)) (after_node levels) (length levels) (codes "  ? ") (codes "}") (codes "}")
    (codes "," ++ (line_at column ++ codes "}")) (λ words are. are) (inr (refl, tt)) refl (entry_flat column (length levels) (codes "}") same refl)

-- ---- values

items_regroup : (items line text end : Text)
    → codes "!!seq [" ++ ((items ++ (line ++ (text ++ codes ","))) ++ end) ≡ ((codes "!!seq [" ++ (items ++ line)) ++ text) ++ (codes "," ++ end)
items_regroup items line text end = simp append_assoc

pairs_regroup : (pairs line key text end : Text)
    → codes "!!map {" ++ ((pairs ++ (line ++ (codes "? " ++ (key ++ (line ++ (codes ": " ++ (text ++ codes ","))))))) ++ end)
    ≡ (((codes "!!map {" ++ (pairs ++ (line ++ codes "? "))) ++ (key ++ (line ++ codes ": "))) ++ text) ++ (codes "," ++ end)
pairs_regroup pairs line key text end = simp append_assoc

-- a list's items, the last one apart, and what follows the comma after it
item_leads : (items : TypedValues) (item : TypedValue) (levels : List OpenLevel) (column : ℕ) (end : Text) (last : Spot)
    → LeadsTo (at_node levels) (list_begun column items) (at_node (a_list ∷ levels))
    → LeadsTo (at_node (a_list ∷ levels)) (value_text (column + 2) item) (after_node (a_list ∷ levels))
    → LeadsTo (after_node (a_list ∷ levels)) (codes "," ++ end) last
    → LeadsTo (at_node levels) (codes "!!seq [" ++ (nodes_text (column + 2) (value_nodes (values_and items item)) ++ end)) last
item_leads items item levels column end last before leads ends =
    let text = value_text (column + 2) item in
    same_leads _ _ _ _ (items_regroup (nodes_text (column + 2) (value_nodes items)) (line_at (column + 2)) text end) (then_leads _ _ _ _ _
    (then_leads _ _ _ _ _ before leads) ends)

-- a key, up to its value
pub key_leads : (levels : List OpenLevel) (column : ℕ) → column ≡ length levels * 2 → (begun key : Text)
    → LeadsTo (at_node levels) begun (at_node (a_map ∷ levels)) → LeadsTo (at_node (a_map ∷ levels)) key (after_node (a_map ∷ levels))
    → LeadsTo (at_node levels) (begun ++ (key ++ (line_at (column + 2) ++ codes ": "))) (at_node (a_key ∷ levels))
key_leads levels column same begun key before leads = then_leads _ _ _ _ _ before (then_leads _ _ _ _ _ leads (key_on levels column same))

-- a map's pairs in the same way
pair_leads : (pairs : TypedPairs) (key value : TypedValue) (levels : List OpenLevel) (column : ℕ) (end : Text) (last : Spot)
    → LeadsTo (at_node levels) (map_begun column pairs ++ (value_text (column + 2) key ++ (line_at (column + 2) ++ codes ": "))) (at_node (a_key ∷ levels))
    → LeadsTo (at_node (a_key ∷ levels)) (value_text (column + 2) value) (after_node (a_key ∷ levels))
    → LeadsTo (after_node (a_key ∷ levels)) (codes "," ++ end) last
    → LeadsTo (at_node levels) (codes "!!map {" ++ (node_pairs_text (column + 2) (value_pairs (value_pairs_and pairs key value)) ++ end)) last
pair_leads pairs key value levels column end last before leads ends =
    let text = value_text (column + 2) value in
    same_leads _ _ _ _ (pairs_regroup (node_pairs_text (column + 2) (value_pairs pairs)) (line_at (column + 2)) (value_text (column + 2) key) text end)
    (then_leads _ _ _ _ _ (then_leads _ _ _ _ _ before leads) ends)

mutual
  pub value_leads : (value : TypedValue) (levels : List OpenLevel) (column : ℕ) → column ≡ length levels * 2 → CanBeReadAt (length levels) value
      → LeadsTo (at_node levels) (value_text column value) (after_node levels)
  value_leads null_value levels column same readable = null_leads levels column
  value_leads (bool_value true) levels column same readable = true_leads levels column
  value_leads (bool_value false) levels column same readable = false_leads levels column
  value_leads (int_value n) levels column same readable =
      let word = encode_utf8_all (in_quotes (signed_decimal n)) in
      words_lead (at_node levels) (after_node levels) (value_text column (int_value n)) (tag_word kind.Int ∷ word ∷ [])
      (kind.Int, (refl, (n, readable, (refl, tt)))) (ap (next_spot (at_node levels)) (quotes_first (signed_decimal n)))
      (value_flat column (int_value n) kind.Int (word ∷ []) refl (encodes-append (in_quotes (signed_decimal n)) []))
  value_leads (text_value text) levels column same readable =
      words_lead (at_node levels) (after_node levels) (value_text column (text_value text)) (tag_word kind.Text ∷ text_words text)
      (kind.Text, (refl, words_are text readable)) (ap (next_spot (at_node levels)) (inner_mark (codes "\"") text))
      (value_flat column (text_value text) kind.Text (text_words text) refl (ap encode_utf8_all (append-nil (in_quotes text)) ∙ sym (words_flat text)))
  value_leads (list_value items) levels column same readable = list_leads items levels column same readable.0 readable.1
  value_leads (map_value pairs) levels column same readable = map_leads pairs levels column same readable.0 readable.1

  list_leads : (items : TypedValues) (levels : List OpenLevel) (column : ℕ) → column ≡ length levels * 2 → length levels < most_nested
      → AllCanBeReadAt (suc (length levels)) items → LeadsTo (at_node levels) (value_text column (list_value items)) (after_node levels)
  list_leads no_values levels column same room readable = empty_list_leads levels column room
  list_leads (values_and items item) levels column same room readable =
      item_leads items item levels column (line_at column ++ codes "]") (after_node levels) (items_lead items levels column same room readable.0)
      (value_leads item (a_list ∷ levels) (column + 2) (deeper column (length levels) same) readable.1) (list_out levels column same)

  pub items_lead : (items : TypedValues) (levels : List OpenLevel) (column : ℕ) → column ≡ length levels * 2 → length levels < most_nested
      → AllCanBeReadAt (suc (length levels)) items → LeadsTo (at_node levels) (list_begun column items) (at_node (a_list ∷ levels))
  items_lead no_values levels column same room readable = list_in levels column same room
  items_lead (values_and items item) levels column same room readable =
      item_leads items item levels column (line_at (column + 2)) (at_node (a_list ∷ levels)) (items_lead items levels column same room readable.0)
      (value_leads item (a_list ∷ levels) (column + 2) (deeper column (length levels) same) readable.1) (item_on levels column same)

  map_leads : (pairs : TypedPairs) (levels : List OpenLevel) (column : ℕ) → column ≡ length levels * 2 → length levels < most_nested
      → PairsCanBeReadAt (suc (length levels)) pairs → LeadsTo (at_node levels) (value_text column (map_value pairs)) (after_node levels)
  map_leads no_value_pairs levels column same room readable = empty_map_leads _ column room
  map_leads (value_pairs_and pairs key value) levels column same room readable =
      pair_leads pairs key value _ column (line_at column ++ codes "}") _ (key_leads _ _ same _ _ (pairs_lead pairs levels column same room readable.0)
      (value_leads key (a_map ∷ levels) (column + 2) (deeper column (length levels) same) readable.1.0))
      (value_leads value (a_key ∷ levels) (column + 2) (deeper column (length levels) same) readable.1.1) (map_out levels _ same)

  pub pairs_lead : (pairs : TypedPairs) (levels : List OpenLevel) (column : ℕ) → column ≡ length levels * 2 → length levels < most_nested
      → PairsCanBeReadAt (suc (length levels)) pairs → LeadsTo (at_node levels) (map_begun column pairs) (at_node (a_map ∷ levels))
  pairs_lead no_value_pairs levels column same room readable = map_in levels column same room
  pairs_lead (value_pairs_and pairs key value) levels column same room readable =
      pair_leads pairs key value levels column (line_at (column + 2) ++ codes "? ") (at_node (a_map ∷ levels))
      (key_leads levels column same (map_begun column pairs) (value_text (column + 2) key) (pairs_lead pairs levels column same room readable.0)
      (value_leads key (a_map ∷ levels) (column + 2) (deeper column (length levels) same) readable.1.0))
      (value_leads value (a_key ∷ levels) (column + 2) (deeper column (length levels) same) readable.1.1) (pair_on levels column same)
