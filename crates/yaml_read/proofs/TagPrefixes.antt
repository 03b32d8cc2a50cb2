-- Bytes of a tag after its prefix, as they are read.
use Rattle.yaml_read.proofs.Common.{ℕ, ◌<◌, true, List, [], ◌∷◌, ◌++◌, refl, ◌≡◌, ap, subst, sym, ◌∙◌, append-nil, append_assoc, chars, chars-encodes, flat_map}
use Rattle.yaml_read.proofs.Common.{Text, encode_utf8_all, all_scalars, percent_escaped, are_bytes, ascii_of, seen_text, IsUtf8-from_ascii, IsUtf8-string_bytes}
use Rattle.yaml_read.proofs.Common.{String, Vec, IsUtf8, string_vec, byte_in_tag, ends_tag, arith}
use Rattle.yaml_read.proofs.TagBytes.{all_unread, byte_more, bytes_escaped, bytes_more, bytes_of}
use Rattle.std.proofs.lemmas.Str.{IsUtf8-append}
use Rattle.yaml_read.proofs.{Encoded.are_ascii, TagTexts.chars_behind, TagTexts.utf8_behind}

pub record WordSoFar (prefix text items rest : List ℕ) : Type 0 where
  pub word : List ℕ
  pub is : items ≡ prefix ++ word
  pub bytes : are_bytes word ≡ true
  pub parts : text ≡ flat_map byte_in_tag word ++ rest

pub word_begins : (prefix text items : List ℕ) → items ≡ prefix → WordSoFar prefix text items text
word_begins prefix text items is = record { word = []; is = is ∙ sym (append-nil prefix); bytes = refl; parts = refl }

pub word_more : (prefix text items more rest next : List ℕ) (byte : ℕ) → WordSoFar prefix text items rest → more ≡ items ++ byte ∷ []
    → rest ≡ byte_in_tag byte ++ next → byte < 256 → WordSoFar prefix text more next
word_more prefix text items more rest next byte read are starts below =
    record {
      word = read.word ++ byte ∷ [];
      is = are ∙ ap (λ t. t ++ byte ∷ []) read.is ∙ append_assoc prefix read.word (byte ∷ []);
      bytes = bytes_more read.word (read.word ++ byte ∷ []) byte refl read.bytes below;
      parts = byte_more text rest next read.word (read.word ++ byte ∷ []) byte refl read.parts starts;
    }

-- if none follows, all were read
pub word_whole : (prefix text items rest : List ℕ) (word end : Text) → WordSoFar prefix text items rest
    → ((byte : ℕ) (more : Text) → byte < 256 → rest ≡ encode_utf8_all (byte_in_tag byte ++ more) → ⊥) → all_scalars word ≡ true → ends_tag end ≡ true
    → text ≡ encode_utf8_all (percent_escaped word ++ end) → (items ≡ prefix ++ encode_utf8_all word) × (rest ≡ encode_utf8_all end)
word_whole prefix text items rest word end read none scalars ends is =
    let all = all_unread text read.word rest word end read.parts read.bytes none scalars ends is in (read.is ∙ ap (λ t. prefix ++ t) all.0, all.1)

pub word_utf8 : (prefix items : List ℕ) (word : Text) → are_ascii prefix ≡ true → all_scalars word ≡ true → items ≡ prefix ++ encode_utf8_all word
    → IsUtf8 items
word_utf8 prefix items word ascii scalars is =
    subst IsUtf8 (sym is) (IsUtf8-append prefix (encode_utf8_all word) (IsUtf8-from_ascii prefix (ascii_of prefix ascii)) (word, (scalars, refl)))

pub word_seen : {A : Type 0} (found : String A) (bytes : Vec ℕ A) (prefix : List ℕ) (word : Text) → are_ascii prefix ≡ true → all_scalars word ≡ true
    → string_vec found ≡ bytes → bytes.items ≡ prefix ++ encode_utf8_all word → seen_text found ≡ prefix ++ word
word_seen found bytes prefix word ascii scalars same is = grind (arith, chars, bytes_of, chars_behind, encode_utf8_all, chars-encodes)

pub word_sound : {A : Type 0} (found : String A) (bytes : Vec ℕ A) (prefix text rest : List ℕ) → are_ascii prefix ≡ true → string_vec found ≡ bytes
    → WordSoFar prefix text bytes.items rest → (word : Text) × (seen_text found ≡ prefix ++ word) × (text ≡ percent_escaped word ++ rest)
word_sound found bytes prefix text rest ascii same read =
    let is = bytes_of found bytes same ∙ read.is in
    let utf8 = utf8_behind prefix read.word ascii (subst IsUtf8 is (IsUtf8-string_bytes found)) in
    (chars read.word, ap chars is ∙ chars_behind prefix read.word ascii, read.parts ∙ ap (λ t. t ++ rest) (bytes_escaped read.word utf8))
