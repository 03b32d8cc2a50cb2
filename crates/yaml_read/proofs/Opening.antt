-- The part of a text that was read grows with each word.
use Rattle.yaml_read.proofs.Common.{ℕ, ◌+◌, ◌*◌, ◌<◌, Bool, true, false, true≢false, List, [], ◌∷◌, ◌++◌, refl, ◌≡◌, ap, subst, sym, ◌∙◌, append_assoc}
use Rattle.yaml_read.proofs.Common.{append-nil, arith, length, codes, line_feed, Text, encode_utf8_all, eqb-true, ◌==◌, TypedValue, TypedValues, no_values}
use Rattle.yaml_read.proofs.Common.{values_and, TypedPairs, no_value_pairs, value_pairs_and, list_value, map_value, most_nested, value_nodes, value_pairs}
use Rattle.yaml_read.proofs.Common.{line_at, value_text, node_pairs_text, nodes_text, document_text, encodes-append, OpenLevel, items_open, pairs_open}
use Rattle.yaml_read.proofs.Common.{seen_level, seen_levels, value_due, Level, level_more, column_in, map_begun, opened_text, IsOpen, HasRead, CanBeReadAt}
use Rattle.yaml_read.proofs.Turns.{column_is, comma_deeper, comma_line, key_line}
use Rattle.yaml_read.proofs.{HeadsRead.word_bytes, Encoded.word_encoded, Encoded.line_encoded}

-- a word that is its own bytes is read
pub word_read : (whole bytes rest word written : List ℕ) (text : Text) → whole ≡ encode_utf8_all text ++ bytes → bytes ≡ word ++ rest
    → encode_utf8_all written ≡ word → whole ≡ encode_utf8_all (text ++ written) ++ rest
word_read whole bytes rest word written text is cut ascii = grind (arith, encode_utf8_all, append_assoc, encodes-append)

deeper_bytes : (levels : List OpenLevel) (word : Text) → encode_utf8_all word ≡ word
    → encode_utf8_all (line_at (column_in levels + 2) ++ word) ≡ line_at (length levels * 2 + 2) ++ word
deeper_bytes levels word ascii = grind (arith, line_encoded, column_in, line_at, column_is)

-- a comma, a line and a word in it
entry_word : (line word rest : List ℕ) → codes "," ++ (line ++ (word ++ rest)) ≡ (codes "," ++ (line ++ word)) ++ rest
entry_word line word rest = ap (λ t. codes "," ++ t) (sym (append_assoc line word rest))

-- an item, and a pair, of a list or a map that began before them, and what follows
regroup : (outer items line value end : Text)
    → ((outer ++ (codes "!!seq [" ++ (items ++ line))) ++ value) ++ (codes "," ++ end)
    ≡ outer ++ (codes "!!seq [" ++ ((items ++ (line ++ (value ++ codes ","))) ++ end))
regroup outer items line value end = simp append_assoc

regroup_pair : (outer pairs line key value end : Text)
    → ((outer ++ ((codes "!!map {" ++ (pairs ++ (line ++ codes "? "))) ++ (key ++ (line ++ codes ": ")))) ++ value) ++ (codes "," ++ end)
    ≡ outer ++ (codes "!!map {" ++ ((pairs ++ (line ++ (codes "? " ++ (key ++ (line ++ (codes ": " ++ (value ++ codes ","))))))) ++ end))
regroup_pair outer pairs line key value end = simp append_assoc

-- an item, and another one
pub item_on : (whole : List ℕ) (levels : List OpenLevel) (items : TypedValues) (value : TypedValue) (bytes rest : List ℕ)
    → HasRead whole (items_open items ∷ levels) value bytes → bytes ≡ codes "," ++ (line_at (length levels * 2) ++ (codes "  " ++ rest))
    → IsOpen whole (items_open (values_and items value) ∷ levels) rest
item_on whole levels items value bytes rest read cut =
    let column = column_in levels + 2 in
    let line = line_at column in
    record {
      text =
          word_read whole bytes rest (codes "," ++ (line_at (length levels * 2) ++ codes "  ")) (codes "," ++ line)
          (opened_text (items_open items ∷ levels) ++ value_text column value) read.text (cut ∙ entry_word (line_at (length levels * 2)) (codes "  ") rest)
          (ap encode_utf8_all (ap (λ t. codes "," ++ t) (sym (append-nil line))) ∙ comma_deeper levels []) ∙ ap (λ t. encode_utf8_all t ++ rest)
          (regroup (opened_text levels) (nodes_text column (value_nodes items)) line (value_text column value) line);
      readable = (read.outer.0, (read.outer.1.0, (read.outer.1.1, read.readable)));
    }

-- the last item
pub item_out : (whole : List ℕ) (levels : List OpenLevel) (items : TypedValues) (value : TypedValue) (bytes rest : List ℕ)
    → HasRead whole (items_open items ∷ levels) value bytes → bytes ≡ codes "," ++ (line_at (length levels * 2) ++ (codes "]" ++ rest))
    → HasRead whole levels (list_value (values_and items value)) rest
item_out whole levels items value bytes rest read cut =
    let column = column_in levels + 2 in
    let end = line_at (column_in levels) ++ codes "]" in
    record {
      text =
          word_read whole bytes rest (codes "," ++ (line_at (length levels * 2) ++ codes "]")) (codes "," ++ end)
          (opened_text (items_open items ∷ levels) ++ value_text column value) read.text (cut ∙ entry_word (line_at (length levels * 2)) (codes "]") rest)
          (comma_line levels (codes "]") ∙ ap (λ t. codes "," ++ (line_at (length levels * 2) ++ t)) (word_bytes (codes "]") refl))
          ∙ ap (λ t. encode_utf8_all t ++ rest)
          (regroup (opened_text levels) (nodes_text column (value_nodes items)) (line_at column) (value_text column value) end);
      outer = read.outer.0;
      readable = (read.outer.1.0, (read.outer.1.1, read.readable));
    }

-- a key, and its value is due
pub key_on : (whole : List ℕ) (levels : List OpenLevel) (pairs : TypedPairs) (key : TypedValue) (bytes rest : List ℕ)
    → HasRead whole (pairs_open pairs ∷ levels) key bytes → bytes ≡ line_at (length levels * 2) ++ (codes "  : " ++ rest)
    → IsOpen whole (value_due pairs key ∷ levels) rest
key_on whole levels pairs key bytes rest read cut =
    let column = column_in levels + 2 in
    let text = value_text column key in
    let written = line_at column ++ codes ": " in
    let begun = map_begun (column_in levels) pairs in
    record {
      text =
          word_read whole bytes rest (line_at (length levels * 2) ++ codes "  : ") written (opened_text (pairs_open pairs ∷ levels) ++ text) read.text
          (cut ∙ sym (append_assoc (line_at (length levels * 2)) (codes "  : ") rest)) (key_line levels []) ∙ ap (λ t. encode_utf8_all t ++ rest)
          (append_assoc (opened_text levels ++ begun) text written ∙ append_assoc (opened_text levels) begun (text ++ written));
      readable = (read.outer.0, (read.outer.1.0, (read.outer.1.1, read.readable)));
    }

-- a pair, and another one
pub pair_on : (whole : List ℕ) (levels : List OpenLevel) (pairs : TypedPairs) (key value : TypedValue) (bytes rest : List ℕ)
    → HasRead whole (value_due pairs key ∷ levels) value bytes → bytes ≡ codes "," ++ (line_at (length levels * 2) ++ (codes "  ? " ++ rest))
    → IsOpen whole (pairs_open (value_pairs_and pairs key value) ∷ levels) rest
pair_on whole levels pairs key value bytes rest read cut =
    let column = column_in levels + 2 in
    let end = line_at column ++ codes "? " in
    record {
      text =
          word_read _ _ rest _ _ (opened_text (value_due pairs key ∷ levels) ++ value_text column value) read.text
          (cut ∙ entry_word (line_at (length levels * 2)) (codes "  ? ") rest)
          (comma_deeper levels (codes "? ") ∙ ap (λ t. codes "," ++ (line_at (length levels * 2) ++ (codes "  " ++ t))) (word_bytes (codes "? ") refl))
          ∙ ap (λ t. encode_utf8_all t ++ rest)
          (regroup_pair (opened_text levels) (node_pairs_text column (value_pairs pairs)) (line_at column) (value_text column key)
          (value_text column value) end);
      readable = (read.outer.0, (read.outer.1.0, (read.outer.1.1.0, (read.outer.1.1.1, read.readable))));
    }

-- the last pair
pub pair_out : (whole : List ℕ) (levels : List OpenLevel) (pairs : TypedPairs) (key value : TypedValue) (bytes rest : List ℕ)
    → HasRead whole (value_due pairs key ∷ levels) value bytes → bytes ≡ codes "," ++ (line_at (length levels * 2) ++ (codes "}" ++ rest))
    → HasRead whole levels (map_value (value_pairs_and pairs key value)) rest
pair_out whole levels pairs key value bytes rest read cut =
    let column = column_in levels + 2 in
    let end = line_at (column_in levels) ++ codes "}" in
    record {
      text =
          word_read _ _ rest _ _ (opened_text (value_due pairs key ∷ levels) ++ value_text column value) read.text
          (cut ∙ entry_word (line_at (length levels * 2)) (codes "}") rest)
          (comma_line levels (codes "}") ∙ ap (λ t. codes "," ++ (line_at (length levels * 2) ++ t)) (word_bytes (codes "}") refl))
          ∙ ap (λ t. encode_utf8_all t ++ rest)
          (regroup_pair (opened_text levels) (node_pairs_text column (value_pairs pairs)) (line_at column) (value_text column key)
          (value_text column value) end);
      outer = read.outer.0;
      readable = (read.outer.1.0, (read.outer.1.1.0, (read.outer.1.1.1, read.readable)));
    }

-- into a list
pub list_in : (whole : List ℕ) (levels : List OpenLevel) (bytes rest : List ℕ) → IsOpen whole levels bytes → length levels < most_nested
    → bytes ≡ codes "!!seq [" ++ (line_at (length levels * 2 + 2) ++ rest) → IsOpen whole (items_open no_values ∷ levels) rest
list_in whole levels bytes rest opened deep cut =
    let line : encode_utf8_all (line_at (column_in levels + 2)) ≡ line_at (length levels * 2 + 2) =
    ap encode_utf8_all (sym (append-nil (line_at (column_in levels + 2)))) ∙ deeper_bytes levels [] refl ∙ append-nil (line_at (length levels * 2 + 2)) in
    record {
      text =
          word_read _ _ rest _ _ (opened_text levels) opened.text (cut ∙ sym (append_assoc (codes "!!seq [") (line_at (length levels * 2 + 2)) rest))
          (word_encoded (codes "!!seq [") (line_at (column_in levels + 2)) refl ∙ ap (λ t. codes "!!seq [" ++ t) line);
      readable = (opened.readable, (deep, tt));
    }

-- into a map
pub map_in : (whole : List ℕ) (levels : List OpenLevel) (bytes rest : List ℕ) → IsOpen whole levels bytes → length levels < most_nested
    → bytes ≡ codes "!!map {" ++ ((line_at (length levels * 2 + 2) ++ codes "? ") ++ rest) → IsOpen whole (pairs_open no_value_pairs ∷ levels) rest
map_in whole levels bytes rest opened deep cut =
    record {
      text =
          word_read _ _ rest _ _ (opened_text levels) opened.text
          (cut ∙ sym (append_assoc (codes "!!map {") (line_at (length levels * 2 + 2) ++ codes "? ") rest))
          (word_encoded (codes "!!map {") (line_at (column_in levels + 2) ++ codes "? ") refl
          ∙ ap (λ t. codes "!!map {" ++ t) (deeper_bytes levels _ (word_bytes (codes "? ") refl)));
      readable = (opened.readable, (deep, tt));
    }

-- a value on its line
pub value_in : (whole : List ℕ) (levels : List OpenLevel) (value : TypedValue) (bytes rest : List ℕ) → IsOpen whole levels bytes
    → bytes ≡ encode_utf8_all (value_text (column_in levels) value) ++ rest → CanBeReadAt (length levels) value → HasRead whole levels value rest
value_in whole levels value bytes rest opened cut readable =
    record {
      text = word_read whole bytes rest (encode_utf8_all (value_text (column_in levels) value)) (value_text (column_in levels) value) (opened_text levels)
          opened.text cut refl;
      outer = opened.readable;
      readable = readable;
    }

-- the end of the text
pub value_out : (whole : List ℕ) (value : TypedValue) (bytes : List ℕ) → HasRead whole [] value bytes → bytes ≡ codes "\n" ++ []
    → whole ≡ encode_utf8_all (value_text 0 value ++ line_feed ∷ [])
value_out whole value bytes read cut =
    word_read whole bytes [] (codes "\n") (line_feed ∷ []) (value_text 0 value) read.text cut (word_bytes (codes "\n") refl)
    ∙ append-nil (encode_utf8_all (value_text 0 value ++ line_feed ∷ []))

-- if some text has been read up to a value, it has been read up to the value of the list or map that ended with it
pub record ReadsOn (before : List OpenLevel) (first : TypedValue) (text : List ℕ) (levels : List OpenLevel) (value : TypedValue) (bytes : List ℕ) : Type 0 where
  pub read : (whole : List ℕ) → HasRead whole before first text → HasRead whole levels value bytes

-- the last level is taken off
pub taken : {A : Type 0} (before : List OpenLevel) (first value : TypedValue) (text bytes : List ℕ) (old new : List (Level A)) (level : Level A)
    (whole : List ℕ) → ReadsOn before first text (seen_levels old) value bytes → old ≡ new ++ level ∷ [] → HasRead whole before first text
    → HasRead whole (seen_level level ∷ seen_levels new) value bytes
taken before first value text bytes old new level whole goes is read =
    subst (λ (levels : List OpenLevel). HasRead whole levels value bytes) (level_more new old level is) (goes.read whole read)

-- a text that is empty
pub nothing_left : (bytes : List ℕ) (empty : Bool) → empty ≡ (length bytes == 0) → empty ≡ true → bytes ≡ []
nothing_left [] empty is on = refl
nothing_left (c ∷ bytes) empty is on = absurd (omega (arith, eqb-true (length (c ∷ bytes)) 0 (sym is ∙ on)))

-- and one that isn't
pub some_left : (bytes : List ℕ) (empty : Bool) → empty ≡ (length bytes == 0) → empty ≡ false → 0 < length bytes
some_left bytes empty h1 h2 = grind (arith, true≢false)

pub text_read : (value : TypedValue) (text whole : List ℕ) → text ≡ codes "---\n" ++ whole
    → whole ≡ encode_utf8_all (value_text 0 value ++ line_feed ∷ []) → text ≡ encode_utf8_all (document_text value)
text_read value text whole is read = is ∙ ap (λ t. codes "---\n" ++ t) read ∙ sym (word_encoded (codes "---\n") (value_text 0 value ++ line_feed ∷ []) refl)
