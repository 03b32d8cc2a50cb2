-- The words of the grammar, as those of the texts of values.
use Rattle.yaml_read.proofs.Common.{ℕ, ◌+◌, ◌*◌, ◌<◌, ◌≤◌, zero, suc, List, [], ◌∷◌, ◌++◌, refl, ◌≡◌, ap, subst, sym, ◌∙◌, ◌⊎◌, inl, inr, Some, None, true}
use Rattle.yaml_read.proofs.Common.{append_assoc, append-nil, arith, codes, length, replicate, all_scalars, encode_utf8_all, character_text, Text, TypedValue}
use Rattle.yaml_read.proofs.Common.{null_value, bool_value, int_value, text_value, list_value, map_value, most_nested, no_value_pairs, no_values, false}
use Rattle.yaml_read.proofs.Common.{value_pairs_and, values_and, in_quotes, line_at, value_text, encodes-append, signed_decimal, behind_tag, characters}
use Rattle.yaml_read.proofs.Common.{entry_end, levels_then, line_then, node, nothing, quoted_text, these_or_those, word_then, tag_word, CanBeReadAt, column_in}
use Rattle.yaml_read.proofs.Common.{Kind, OpenLevel}
use Rattle.yaml_read.proofs.TextWalks.{bare_flat, deeper, entry_of, inner_mark, levels_flat, levels_mark, line_flat, quotes_first, spaces_mark, value_flat}
use Rattle.yaml_read.proofs.Walks.{a_list, a_map, after_node, at_node, first_of, mark, next_spot}
use Rattle.yaml_read.specs.TextsAndWords.{BeginsText}
use Rattle.yaml_read.proofs.{CharacterWays.inner_words, CharacterWays.text_words, CharacterWays.words_flat, Scalars.joined_scalars, Encoded.word_encoded}
use Rattle.yaml_read.proofs.{WordTexts.flat, Turns.column_is, HeadTexts.value_parts, HeadTexts.value_tail, HeadTexts.value_word, Remaining.items_behind}
use Rattle.yaml_read.proofs.{Remaining.pairs_behind}
use Rattle.yaml_read.specs.declared.heads.Kind.TheVariants as kind

-- ---- words one after another

none_more : (words : List (List ℕ)) → nothing words → words ≡ []
none_more words h1 = grind arith

pub single : (word : List ℕ) (words : List (List ℕ)) → word_then word nothing words → words ≡ word ∷ []
single word words h1 = grind (arith, none_more)

levels_of : (depth : ℕ) (More : List (List ℕ) → Type 0) (words : List (List ℕ)) → levels_then depth More words
    → (more : List (List ℕ)) × More more × (words ≡ replicate depth (codes "  ") ++ more)
levels_of zero More words are = (words, are, refl)
levels_of (suc depth) More [] are = absurd are
levels_of (suc depth) More (word ∷ words) are =
    let inner = levels_of depth More words are.1 in
    (inner.0, inner.1, ap (λ w. w ∷ words) are.0 ∙ ap (λ ws. codes "  " ∷ ws) inner.2)

pub line_of : (depth : ℕ) (More : List (List ℕ) → Type 0) (words : List (List ℕ)) → line_then depth More words
    → (more : List (List ℕ)) × More more × (words ≡ codes "\n" ∷ (replicate depth (codes "  ") ++ more))
line_of depth More [] are = absurd are
line_of depth More (word ∷ words) are =
    let inner = levels_of depth More words are.1 in
    (inner.0, inner.1, ap (λ w. w ∷ words) are.0 ∙ ap (λ ws. codes "\n" ∷ ws) inner.2)

inner_of : (words : List (List ℕ)) → characters words → (text : Text) × (all_scalars text ≡ true) × (words ≡ inner_words text)
inner_of [] are = absurd are
inner_of (word ∷ words) (inl ends) = ([], refl, ap (λ w. w ∷ words) ends.0 ∙ ap (λ ws. codes "\"" ∷ ws) (none_more words ends.1))
inner_of (word ∷ words) (inr goes) =
    let inner = inner_of words goes.3 in (
      goes.0 ∷ inner.0,
      joined_scalars (goes.0 ∷ []) inner.0 goes.1 inner.1,
      ap (λ w. w ∷ words) goes.2 ∙ ap (λ ws. encode_utf8_all (character_text true goes.0) ∷ ws) inner.2,
    )

quoted_of : (words : List (List ℕ)) → quoted_text words → (text : Text) × (all_scalars text ≡ true) × (words ≡ text_words text)
quoted_of [] are = absurd are
quoted_of (word ∷ words) are =
    let inner = inner_of words are.1 in (inner.0, inner.1, ap (λ w. w ∷ words) are.0 ∙ ap (λ ws. codes "\"" ∷ ws) inner.2)

-- ---- nodes

-- the words are those of a whole value, or of a list or a map up to its first node, or of one that lies too deep
pub data NodeStep (levels : List OpenLevel) (words : List (List ℕ)) : Type 0 where
  whole_value : (value : TypedValue) → CanBeReadAt (length levels) value → encode_utf8_all (value_text (column_in levels) value) ≡ flat words
      → ((spots : List OpenLevel) → next_spot (at_node spots) (mark words) ≡ Some (after_node spots)) → NodeStep levels words
  list_opened : length levels < most_nested → encode_utf8_all (codes "!!seq [" ++ line_at (column_in levels + 2)) ≡ flat words
      → ((spots : List OpenLevel) → next_spot (at_node spots) (mark words) ≡ Some (at_node (a_list ∷ spots))) → NodeStep levels words
  map_opened : length levels < most_nested → encode_utf8_all (codes "!!map {" ++ (line_at (column_in levels + 2) ++ codes "? ")) ≡ flat words
      → ((spots : List OpenLevel) → next_spot (at_node spots) (mark words) ≡ Some (at_node (a_map ∷ spots))) → NodeStep levels words
  lies_deep : most_nested ≤ length levels → ((spots : List OpenLevel) → next_spot (at_node spots) (mark words) ≡ None) → NodeStep levels words

scalar_step : (levels : List OpenLevel) (k : Kind) (value : TypedValue) (tail words : List (List ℕ)) → words ≡ tail → value_word value ≡ tag_word k
    → CanBeReadAt (length levels) value → encode_utf8_all (value_tail (column_in levels) value []) ≡ flat tail
    → ((spots : List OpenLevel) → next_spot (at_node spots) (mark (tag_word k ∷ tail)) ≡ Some (after_node spots)) → NodeStep levels (tag_word k ∷ words)
scalar_step levels k value tail words are same readable is to =
    subst (λ (ws : List (List ℕ)). NodeStep levels (tag_word k ∷ ws)) (sym are)
    (whole_value value readable (value_flat (column_in levels) value k tail same is) to)

list_step : (levels : List OpenLevel) (words : List (List ℕ)) → behind_tag (length levels) kind.List (codes "[" ∷ words)
    → NodeStep levels (tag_word kind.List ∷ codes "[" ∷ words)
list_step levels words (same, inl (room, inl ends)) =
    scalar_step levels kind.List (list_value no_values) (codes "[" ∷ codes "]" ∷ []) (codes "[" ∷ words)
    (ap (λ ws. codes "[" ∷ ws) (single (codes "]") words ends)) refl (room, tt) (word_encoded (codes "[]") [] refl) (λ spots. refl)
list_step levels words (same, inl (room, inr goes)) =
    let line = line_of (suc (length levels)) nothing words goes in
    subst (λ (ws : List (List ℕ)). NodeStep levels (tag_word kind.List ∷ codes "[" ∷ ws))
    (sym (line.2 ∙ ap (λ ws. codes "\n" ∷ (replicate (suc (length levels)) (codes "  ") ++ ws)) (none_more line.0 line.1))) (list_opened room
    (word_encoded (codes "!!seq [") (line_at (column_in levels + 2)) refl ∙ ap (λ t. codes "!!seq [" ++ t)
    (bare_flat (column_in levels + 2) (suc (length levels)) (deeper (column_in levels) (length levels) (column_is levels))))
    (λ spots. ap (next_spot (at_node spots)) (spaces_mark (codes "\n") (length levels))))
list_step levels words (same, inr (deep, ends)) =
    subst (λ (ws : List (List ℕ)). NodeStep levels (tag_word kind.List ∷ codes "[" ∷ ws)) (sym (none_more words ends)) (lies_deep deep (λ spots. refl))

map_step : (levels : List OpenLevel) (words : List (List ℕ)) → behind_tag (length levels) kind.Map (codes "{" ∷ words)
    → NodeStep levels (tag_word kind.Map ∷ codes "{" ∷ words)
map_step levels words (same, inl (room, inl ends)) =
    scalar_step levels kind.Map (map_value no_value_pairs) (codes "{" ∷ codes "}" ∷ []) (codes "{" ∷ words)
    (ap (λ ws. codes "{" ∷ ws) (single (codes "}") words ends)) refl (room, tt) (word_encoded (codes "{}") [] refl) (λ spots. refl)
map_step levels words (same, inl (room, inr goes)) =
    let line = line_of (suc (length levels)) (word_then (codes "? ") nothing) words goes in
    subst (λ (ws : List (List ℕ)). NodeStep levels (tag_word kind.Map ∷ codes "{" ∷ ws))
    (sym (line.2 ∙ ap (λ ws. codes "\n" ∷ (replicate (suc (length levels)) (codes "  ") ++ ws)) (single (codes "? ") line.0 line.1))) (map_opened room
    (word_encoded (codes "!!map {") (line_at (column_in levels + 2) ++ codes "? ") refl ∙ ap (λ t. codes "!!map {" ++ t)
    (line_flat (column_in levels + 2) (suc (length levels)) (codes "? ") (deeper (column_in levels) (length levels) (column_is levels)) refl))
    (λ spots. ap (next_spot (at_node spots)) (levels_mark (codes "\n") (codes "? ") (suc (length levels)))))
map_step levels words (same, inr (deep, ends)) =
    subst (λ (ws : List (List ℕ)). NodeStep levels (tag_word kind.Map ∷ codes "{" ∷ ws)) (sym (none_more words ends)) (lies_deep deep (λ spots. refl))

tag_step : (levels : List OpenLevel) (k : Kind) (words : List (List ℕ)) → behind_tag (length levels) k words → NodeStep levels (tag_word k ∷ words)
tag_step levels kind.Null words are =
    scalar_step _ kind.Null null_value _ _ (single (codes "\"null\"") words are) refl tt (word_encoded (codes "\"null\"") [] refl) (λ spots. refl)
tag_step levels kind.Bool words (inl are) =
    scalar_step _ kind.Bool (bool_value true) _ _ (single (codes "\"true\"") words are) refl tt (word_encoded (codes "\"true\"") [] refl) (λ spots. refl)
tag_step levels kind.Bool words (inr are) =
    scalar_step _ kind.Bool (bool_value false) _ _ (single (codes "\"false\"") words are) refl tt (word_encoded (codes "\"false\"") [] refl) (λ spots. refl)
tag_step levels kind.Int words are =
    let word = encode_utf8_all (in_quotes (signed_decimal are.0)) in
    scalar_step _ kind.Int (int_value are.0) _ _ (single word words are.2) refl are.1
    (encodes-append (in_quotes (signed_decimal are.0)) []) (λ spots. ap (next_spot (at_node spots)) (quotes_first (signed_decimal are.0)))
tag_step levels kind.Text words are =
    let text = quoted_of words are in
    scalar_step _ kind.Text (text_value text.0) _ _ text.2 refl text.1 (ap encode_utf8_all (append-nil (in_quotes text.0)) ∙ sym (words_flat text.0))
    (λ spots. ap (next_spot (at_node spots)) (inner_mark (codes "\"") text.0))
tag_step levels kind.List (word ∷ words) are =
    subst (λ (w : List ℕ). NodeStep levels (tag_word kind.List ∷ w ∷ words)) (sym are.0) (list_step _ words (refl, are.1))
tag_step levels kind.Map (word ∷ words) are =
    subst (λ (w : List ℕ). NodeStep levels (tag_word kind.Map ∷ w ∷ words)) (sym are.0) (map_step _ words (refl, are.1))
tag_step levels _ [] are = absurd are

pub node_step : (levels : List OpenLevel) (words : List (List ℕ)) → node (length levels) words → NodeStep levels words
node_step levels [] are = absurd are.1
node_step levels (word ∷ words) are = subst (λ (w : List ℕ). NodeStep levels (w ∷ words)) (sym are.1.0) (tag_step levels are.0 words are.1.1)

-- words of a node begin the text of a value if a list or a map may still be opened
step_begins : (levels : List OpenLevel) (words : List (List ℕ)) → length levels < most_nested → NodeStep levels words → BeginsText levels words
step_begins levels words room (whole_value value readable is to) =
    record { value = value; readable = readable; rest = []; is = is ∙ sym (append-nil (flat words)) }
step_begins levels words room (list_opened deep is to) =
    let column = column_in levels in
    let value = list_value (values_and no_values null_value) in
    let inside = items_behind (column + 2) no_values null_value (codes "," ++ (line_at column ++ (codes "]" ++ []))) in
    record {
      value = value;
      readable = (room, (tt, tt));
      rest = encode_utf8_all inside;
      is =
          ap encode_utf8_all (sym (append-nil (value_text column value)) ∙ value_parts column value []
          ∙ sym (append_assoc (codes "!!seq [") (line_at (column + 2)) inside))
          ∙ encodes-append (codes "!!seq [" ++ line_at (column + 2)) inside ∙ ap (λ t. t ++ encode_utf8_all inside) is;
    }
step_begins levels words room (map_opened deep is to) =
    let column = column_in levels in
    let value = map_value (value_pairs_and no_value_pairs null_value null_value) in
    let inside = pairs_behind (column + 2) no_value_pairs null_value null_value (codes "," ++ (line_at column ++ (codes "}" ++ []))) in
    record {
      value = value;
      readable = (room, (tt, (tt, tt)));
      rest = encode_utf8_all inside;
      is =
          ap encode_utf8_all (sym (append-nil (value_text column value)) ∙ value_parts column value []
          ∙ ap (λ t. codes "!!map {" ++ t) (sym (append_assoc (line_at (column + 2)) (codes "? ") inside)))
          ∙ encodes-append (codes "!!map {" ++ (line_at (column + 2) ++ codes "? ")) inside ∙ ap (λ t. t ++ encode_utf8_all inside) is;
    }
step_begins levels words room (lies_deep deep to) = absurd (omega (arith, room, deep))

pub node_words : (levels : List OpenLevel) (words : List (List ℕ)) → length levels < most_nested → node (length levels) words → BeginsText levels words
node_words levels words room are = step_begins levels words room (node_step levels words are)

-- ---- after a node

pub entry_bytes : (depth : ℕ) (word : List ℕ) → flat (entry_of depth word) ≡ codes "," ++ (line_at (depth * 2) ++ word)
entry_bytes depth word = grind (arith, codes, levels_flat, replicate, append-nil)

pub entry_mark : (depth : ℕ) (word : List ℕ) → mark (entry_of depth word) ≡ first_of word
entry_mark depth word = levels_mark (codes "\n") word depth

entry_by : (depth : ℕ) (lead end first : List ℕ) (words more : List (List ℕ)) → first ≡ codes ","
    → words ≡ codes "\n" ∷ (replicate depth (codes "  ") ++ more) → these_or_those (word_then lead nothing) (word_then end nothing) more
    → (first ∷ words ≡ entry_of depth lead) ⊎ (first ∷ words ≡ entry_of depth end)
entry_by depth lead end first words more comma line (inl are) =
    inl (ap (λ w. w ∷ words) comma ∙ ap (λ ws. codes "," ∷ ws) (line ∙ ap (λ ws. codes "\n" ∷ (replicate depth (codes "  ") ++ ws)) (single lead more are)))
entry_by depth lead end first words more comma line (inr are) =
    inr (ap (λ w. w ∷ words) comma ∙ ap (λ ws. codes "," ∷ ws) (line ∙ ap (λ ws. codes "\n" ∷ (replicate depth (codes "  ") ++ ws)) (single end more are)))

pub entry_words : (depth : ℕ) (lead end : List ℕ) (words : List (List ℕ)) → entry_end depth lead end words
    → (words ≡ entry_of depth lead) ⊎ (words ≡ entry_of depth end)
entry_words depth lead end [] are = absurd are
entry_words depth lead end (first ∷ words) are =
    let line = line_of depth (these_or_those (word_then lead nothing) (word_then end nothing)) words are.1 in
    entry_by depth lead end first words line.0 are.0 line.2 line.1

-- after a key
pub key_words : (depth : ℕ) (words : List (List ℕ)) → line_then depth (word_then (codes "  : ") nothing) words
    → flat words ≡ line_at (depth * 2) ++ codes "  : "
key_words depth words are = grind (arith, line_of, word_then, codes, nothing, flat, replicate, single, levels_flat)
