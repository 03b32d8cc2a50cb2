-- Bytes that are appended to those of a text decode as text that is appended.
use Rattle.yaml_base.proofs.Common.{ℕ, Option, Some, true, List, [], ◌++◌, ◌∷◌, refl, ◌≡◌, append_assoc, ap, sym, ◌∙◌, and_parts, and_from, all_scalars, Text}
use Rattle.yaml_base.proofs.Common.{encode, Encoding}
use Rattle.yaml_base.{proofs.Decoding.decode-encode, specs.Decode.decode, specs.Encoding.character_bytes, specs.Encoding.text_bytes, specs.Encoding.bom_text}

pub text_bytes-append : (e : Encoding) (xs ys : Text) → text_bytes e (xs ++ ys) ≡ text_bytes e xs ++ text_bytes e ys
text_bytes-append e [] ys = refl
text_bytes-append e (x ∷ xs) ys =
    ap (λ l. character_bytes e x ++ l) (text_bytes-append e xs ys) ∙ sym (append_assoc (character_bytes e x) (text_bytes e xs) (text_bytes e ys))

pub encode-append : (e : Encoding) (xs ys : Text) → encode (Some e) (xs ++ ys) ≡ encode (Some e) xs ++ text_bytes e ys
encode-append e xs ys = ap (text_bytes e) (sym (append_assoc (bom_text e) xs ys)) ∙ text_bytes-append e (bom_text e ++ xs) ys

pub all_scalars-append : (xs ys : Text) → all_scalars xs ≡ true → all_scalars ys ≡ true → all_scalars (xs ++ ys) ≡ true
all_scalars-append [] ys p q = q
all_scalars-append (x ∷ xs) ys p q =
    let parts = and_parts _ _ p in
    and_from _ _ parts.0 (all_scalars-append xs ys parts.1 q)

-- bytes are those of a text of Unicode scalar values
pub record AreText (encoding : Option Encoding) (bytes : List ℕ) : Type 0 where
  pub encoded : bytes ≡ encode encoding (decode encoding bytes)
  pub scalars : all_scalars (decode encoding bytes) ≡ true

pub decode-grown : (e : Encoding) (bytes : List ℕ) (more : Text) → AreText (Some e) bytes → all_scalars more ≡ true
    → decode (Some e) (bytes ++ text_bytes e more) ≡ decode (Some e) bytes ++ more
decode-grown e bytes more are s =
    ap (λ l. decode (Some e) (l ++ text_bytes e more)) are.encoded
    ∙ ap (decode (Some e)) (sym (encode-append e (decode (Some e) bytes) more))
    ∙ decode-encode e (decode (Some e) bytes ++ more) (all_scalars-append (decode (Some e) bytes) more are.scalars s)

pub AreText-grown : (e : Encoding) (bytes : List ℕ) (more : Text) → AreText (Some e) bytes → all_scalars more ≡ true
    → AreText (Some e) (bytes ++ text_bytes e more)
AreText-grown e bytes more are s =
    let grown = decode-grown e bytes more are s in
    record {
      encoded = ap (λ l. l ++ text_bytes e more) are.encoded ∙ sym (encode-append e (decode (Some e) bytes) more) ∙ ap (encode (Some e)) (sym grown);
      scalars = ap all_scalars grown ∙ all_scalars-append (decode (Some e) bytes) more are.scalars s;
    }
