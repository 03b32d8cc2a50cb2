-- Texts between quotes, a character at a time.
use Rattle.yaml_read.proofs.Common.{ℕ, ◌==◌, true, Option, None, Some, List, [], ◌∷◌, ◌++◌, refl, ◌≡◌, ap, sym, ◌∙◌, arith, append_assoc, append-nil, codes}
use Rattle.yaml_read.proofs.Common.{Text, encode_utf8_all, encode_utf8, all_scalars, and_parts, character_text, true≢false, chars, chars-encodes, flat_map}
use Rattle.yaml_read.proofs.Common.{seen_text, needs_escape, quote, in_quotes, backslash, encode_same, encodes-append, encode_ascii, MatchOption, String}
use Rattle.yaml_read.proofs.Common.{string_bytes, Bor, append_cancel_left, ReadsCharacter, past_word}
use Rattle.yaml_read.proofs.{Escapes.Stands, Escapes.as_itself, Escapes.as_escape, Escapes.stands, Encoded.word_encoded, Words.no_word}

-- the characters between quotes, the closing quote, and a rest
abbrev pub to_quote : Text → Text → Text
to_quote todo rest = flat_map (character_text true) todo ++ quote ∷ rest

-- the rest of a text between quotes
pub record Left (text rest : Text) (value bytes : List ℕ) : Type 0 where
  pub read : Text
  pub todo : Text
  pub parts : read ++ todo ≡ text
  pub value_is : value ≡ encode_utf8_all read
  pub bytes_are : bytes ≡ encode_utf8_all (to_quote todo rest)

-- the rest of each text between quotes with which bytes may begin
pub record ReadsOn (whole value bytes : List ℕ) : Type 0 where
  pub left : (text rest : Text) → all_scalars text ≡ true → whole ≡ encode_utf8_all (in_quotes text ++ rest) → Left text rest value bytes

-- after the opening quote
pub reads_first : (whole bytes : List ℕ) → whole ≡ codes "\"" ++ bytes → ReadsOn whole [] bytes
reads_first whole bytes is =
    record {
      left = λ text rest scalars whole_is.
          record {
            read = [];
            todo = text;
            parts = refl;
            value_is = refl;
            bytes_are =
                append_cancel_left (codes "\"") bytes (encode_utf8_all (to_quote text rest))
                (sym is ∙ whole_is ∙ ap (λ t. encode_utf8_all (quote ∷ t)) (append_assoc (flat_map (character_text true) text) (quote ∷ []) rest)
                ∙ word_encoded (codes "\"") (to_quote text rest) refl);
          };
    }

no_opening : (whole bytes : List ℕ) (text rest : Text) → whole ≡ encode_utf8_all (in_quotes text ++ rest) → past_word (codes "\"") whole ≡ None → ⊥
no_opening whole bytes text rest is none =
    no_word (codes "\"") whole _ none (is ∙ word_encoded (codes "\"") ((flat_map (character_text true) text ++ quote ∷ []) ++ rest) refl)

-- a text between quotes begins with a quote
pub opening_there : (whole : List ℕ) (text rest : Text) → whole ≡ encode_utf8_all (in_quotes text ++ rest) → past_word (codes "\"") whole ≡ None → ⊥
opening_there whole text rest is none = no_opening whole [] text rest is none

-- no character's text begins with a quote
no_quote : (c : ℕ) (text : Text) (after bytes end : List ℕ) → Stands c text → bytes ≡ encode_utf8_all (text ++ after) → bytes ≡ codes "\"" ++ end → ⊥
no_quote c text after bytes end (as_itself plain) is ends =
    let same = encode_same c quote (encode_utf8_all after) end (sym is ∙ ends ∙ ap (λ b. b ++ end) (sym (encode_ascii quote (omega arith)))) in
    true≢false (ap (needs_escape true) (sym same.0) ∙ plain)
no_quote c text after bytes end (as_escape needs) is ends =
    let same = encode_same backslash quote _ end (sym is ∙ ends ∙ ap (λ b. b ++ end) (sym (encode_ascii quote (omega arith)))) in
    true≢false (ap (λ n. n == backslash) same.0)

-- the text ends at the closing quote
pub left_ends : (text rest : Text) (value bytes end : List ℕ) → Left text rest value bytes → bytes ≡ codes "\"" ++ end
    → (value ≡ encode_utf8_all text) × (end ≡ encode_utf8_all rest)
left_ends text rest value bytes end left ends = by left.todo left.parts left.bytes_are
  where
    by : (todo : Text) → left.read ++ todo ≡ text → bytes ≡ encode_utf8_all (to_quote todo rest)
        → (value ≡ encode_utf8_all text) × (end ≡ encode_utf8_all rest)
    by [] parts is = (
      left.value_is ∙ ap encode_utf8_all (sym (append-nil left.read) ∙ parts),
      append_cancel_left (codes "\"") end (encode_utf8_all rest) (sym ends ∙ is ∙ word_encoded (codes "\"") rest refl),
    )
    by (c ∷ todo) parts is =
        absurd (no_quote c (character_text true c) (to_quote todo rest) bytes end (stands c)
        (is ∙ ap encode_utf8_all (append_assoc (character_text true c) (flat_map (character_text true) todo) (quote ∷ rest))) ends)

scalars_behind : (a b : Text) → all_scalars (a ++ b) ≡ true → all_scalars b ≡ true
scalars_behind [] b h = h
scalars_behind (c ∷ a) b h = scalars_behind a b (and_parts _ _ h).1

scalar_first : (c : ℕ) (b : Text) → all_scalars (c ∷ b) ≡ true → all_scalars (c ∷ []) ≡ true
scalar_first c b h = grind (arith, and_parts, true)

-- a character is read if the text doesn't end
pub left_next : (text rest : Text) (value bytes : List ℕ) (found : Option (ℕ × Bor (List ℕ))) → Left text rest value bytes
    → all_scalars text ≡ true → past_word (codes "\"") bytes ≡ None → ReadsCharacter bytes found
    → MatchOption found ⊥ (λ found. Left text rest (value ++ encode_utf8 found.0) found.1.now)
left_next text rest value bytes found left scalars none reads = by left.todo left.parts left.bytes_are
  where
    goes : (c : ℕ) (todo : Text) → left.read ++ c ∷ todo ≡ text → (found : Option (ℕ × Bor (List ℕ)))
        → MatchOption found ⊥ (λ found. (found.0 ≡ c) × (found.1.now ≡ encode_utf8_all (to_quote todo rest)))
        → MatchOption found ⊥ (λ found. Left text rest (value ++ encode_utf8 found.0) found.1.now)
    goes c todo parts None is = is
    goes c todo parts (Some found) is =
        record {
          read = left.read ++ c ∷ [];
          todo = todo;
          parts = append_assoc left.read (c ∷ []) todo ∙ parts;
          value_is =
              ap (λ v. v ++ encode_utf8 found.0) left.value_is ∙ ap (λ d. encode_utf8_all left.read ++ encode_utf8 d) is.0
              ∙ ap (λ t. encode_utf8_all left.read ++ t) (sym (append-nil (encode_utf8 c))) ∙ sym (encodes-append left.read (c ∷ []));
          bytes_are = is.1;
        }

    by : (todo : Text) → left.read ++ todo ≡ text → bytes ≡ encode_utf8_all (to_quote todo rest)
        → MatchOption found ⊥ (λ found. Left text rest (value ++ encode_utf8 found.0) found.1.now)
    by [] parts is = absurd (no_word (codes "\"") bytes (encode_utf8_all rest) none (is ∙ word_encoded (codes "\"") rest refl))
    by (c ∷ todo) parts is =
        goes c todo parts found (reads c (to_quote todo rest) (scalar_first c todo (scalars_behind left.read (c ∷ todo) (ap all_scalars parts ∙ scalars)))
        (is ∙ ap encode_utf8_all (append_assoc (character_text true c) (flat_map (character_text true) todo) (quote ∷ rest))))

-- a character more
pub reads_more : (whole value bytes : List ℕ) (found : Option (ℕ × Bor (List ℕ))) → ReadsOn whole value bytes → past_word (codes "\"") bytes ≡ None
    → ReadsCharacter bytes found → (text rest : Text) → all_scalars text ≡ true → whole ≡ encode_utf8_all (in_quotes text ++ rest)
    → MatchOption found ⊥ (λ found. Left text rest (value ++ encode_utf8 found.0) found.1.now)
reads_more whole value bytes found on none reads text rest scalars is = left_next _ _ _ _ found (on.left text rest scalars is) scalars none reads

-- the text that was read
pub text_read : {A : Type 0} (found : String A) (text rest : Text) (whole bytes end : List ℕ) → ReadsOn whole (string_bytes found) bytes
    → bytes ≡ codes "\"" ++ end → all_scalars text ≡ true → whole ≡ encode_utf8_all (in_quotes text ++ rest)
    → (seen_text found ≡ text) × (end ≡ encode_utf8_all rest)
text_read found text rest whole bytes end on ends scalars is =
    let e = left_ends text rest (string_bytes found) bytes end (on.left text rest scalars is) ends in
    (ap chars e.0 ∙ chars-encodes text scalars, e.1)
