-- A pen that wrote no byte has no text.
use Rattle.yaml_pen.proofs.Common.{min, ℕ, if◌then◌else◌, unwrap_or, Option, None, Some, Bool, false, true, List, [], refl, ◌≡◌, ap, sym, ◌∙◌, false≢true}
use Rattle.yaml_pen.proofs.Common.{chars-nil, all_scalars, Text, column_after, character_bytes, encode, seen_encoding, seen_break, Encoding, utf8}
use Rattle.yaml_pen.proofs.Common.{utf16_little, utf16_big, line_feed_break, OutletState, HasSoundOutput, Page, has_bom, IsFlushedOutput, page_of, IsPen}
use Rattle.yaml_base.specs.{Characters.byte_order_mark, Decode.decode, declared.encodings.yaml_break_t.yaml_break_t}
use Rattle.yaml_base.specs.{declared.encodings.yaml_encoding_t.yaml_encoding_t}

pub decode-nil : (encoding : Option Encoding) → decode encoding [] ≡ []
unfolding decode
decode-nil (Some utf8) = chars-nil
decode-nil _ = refl

pub decode-empty : (encoding : Option Encoding) (bytes : List ℕ) → bytes ≡ [] → decode encoding bytes ≡ []
decode-empty encoding bytes e = ap (decode encoding) e ∙ decode-nil encoding

-- before its byte order mark a stream is empty
nothing_begun : (encoding : Option Encoding) → (if has_bom encoding then [] else encode encoding []) ≡ []
nothing_begun None = refl
nothing_begun (Some utf8) = refl
nothing_begun (Some utf16_little) = refl
nothing_begun (Some utf16_big) = refl

-- a pen without bytes is a pen in any encoding
pub IsPen-begun : (encoding old : yaml_encoding_t) (line_break : yaml_break_t) (bytes : OutletState) (whitespace indention : Bool) (column : ℕ) (due : Bool)
    → bytes.all ≡ [] → bytes.error ≡ None → due ≡ has_bom (seen_encoding encoding)
    → IsFlushedOutput bytes.all bytes.output bytes.limit bytes.error
    → column ≡ min (column_after (decode (seen_encoding old) bytes.all) 0) 4294967295
    → IsPen (page_of encoding due line_break bytes whitespace indention) bytes.all column
IsPen-begun encoding old line_break bytes whitespace indention column due empty unfailed is_due sound_output stored =
    let text = decode-empty (seen_encoding encoding) bytes.all empty in
    let before = decode-empty (seen_encoding old) bytes.all empty in
    record {
      bytes = empty ∙ sym (ap (λ d. if d then [] else encode (seen_encoding encoding) (decode (seen_encoding encoding) bytes.all)) is_due
          ∙ ap (λ t. if has_bom (seen_encoding encoding) then [] else encode (seen_encoding encoding) t) text
          ∙ nothing_begun (seen_encoding encoding));
      scalars = ap all_scalars text;
      column = stored ∙ ap (λ t. min (column_after t 0) 4294967295) (before ∙ sym text);
      sound_output = sound_output;
      unfailed = λ _. unfailed;
      marks = λ due. sym is_due ∙ due;
    }

-- the page of a pen without a byte order mark to come, of a text
abbrev page_with : yaml_encoding_t → yaml_break_t → OutletState → Text → Bool → Bool → Page
page_with encoding line_break bytes text whitespace indention =
    record (page_of encoding false line_break bytes whitespace indention) {
      text = text;
      cursor = record { column = column_after text 0; whitespace = whitespace; indention = indention };
    }

-- its page differs from the one before by the settings alone
pub page-begun : (encoding old : yaml_encoding_t) (line_break old_break : yaml_break_t) (bytes : OutletState)
    (whitespace indention due old_due : Bool) (page : Page)
    → bytes.all ≡ [] → due ≡ has_bom (seen_encoding encoding)
    → page_of old old_due old_break bytes whitespace indention ≡ page
    → page_of encoding due line_break bytes whitespace indention
    ≡ record page {
      encoding = seen_encoding encoding;
      bom_due = has_bom (seen_encoding encoding);
      line_break = unwrap_or (seen_break line_break) line_feed_break;
    }
page-begun encoding old line_break old_break bytes whitespace indention due old_due page empty is_due viewed =
    let text : decode (seen_encoding encoding) bytes.all ≡ decode (seen_encoding old) bytes.all =
    decode-empty (seen_encoding encoding) bytes.all empty ∙ sym (decode-empty (seen_encoding old) bytes.all empty) in
    let changed : Page → Page = λ (p : Page). record p {
      encoding = seen_encoding encoding;
      bom_due = has_bom (seen_encoding encoding);
      line_break = unwrap_or (seen_break line_break) line_feed_break;
    } in
    ap (λ t. record (page_with encoding line_break bytes t whitespace indention) { bom_due = due }) text
    ∙ ap (λ d. record (page_of old old_due old_break bytes whitespace indention) {
      encoding = seen_encoding encoding;
      bom_due = d;
      line_break = unwrap_or (seen_break line_break) line_feed_break;
    }) is_due
    ∙ ap changed viewed

-- a byte order mark is the bytes of a stream without text
bom-encoded : (e : Encoding) → has_bom (Some e) ≡ true → encode (Some e) [] ≡ character_bytes e byte_order_mark
bom-encoded utf8 marks = absurd (false≢true marks)
bom-encoded _ _ = refl

bom-decoded : (e : Encoding) → has_bom (Some e) ≡ true → decode (Some e) (character_bytes e byte_order_mark) ≡ []
unfolding decode
bom-decoded utf8 marks = absurd (false≢true marks)
bom-decoded _ _ = refl

-- a pen is one after its byte order mark
pub IsPen-bom_written : (e : Encoding) (encoding : yaml_encoding_t) (line_break : yaml_break_t) (bytes after : OutletState) (whitespace indention due : Bool)
    (column : ℕ)
    → IsPen (page_of encoding due line_break bytes whitespace indention) bytes.all column → due ≡ true
    → seen_encoding encoding ≡ Some e
    → after ≡ record bytes { all = character_bytes e byte_order_mark } → HasSoundOutput after
    → IsPen (page_of encoding false line_break after whitespace indention) after.all column
IsPen-bom_written e encoding line_break bytes after whitespace indention due column pen is_due seen is sound =
    let empty : bytes.all ≡ [] = pen.bytes ∙ ap (λ d. if d then [] else encode (seen_encoding encoding) (decode (seen_encoding encoding) bytes.all)) is_due in
    let marks : has_bom (Some e) ≡ true = ap has_bom (sym seen) ∙ pen.marks is_due in
    let all : after.all ≡ character_bytes e byte_order_mark = ap (λ (b : OutletState). b.all) is in
    let text : decode (seen_encoding encoding) after.all ≡ [] = ap (λ s. decode s after.all) seen ∙ ap (decode (Some e)) all ∙ bom-decoded e marks in
    record {
      bytes = all ∙ sym (bom-encoded e marks) ∙ ap (λ s. encode s []) (sym seen) ∙ ap (encode (seen_encoding encoding)) (sym text);
      scalars = ap all_scalars text;
      column = pen.column ∙ ap (λ t. min (column_after t 0) 4294967295) (decode-empty (seen_encoding encoding) bytes.all empty ∙ sym text);
      sound_output = sound;
      unfailed = λ h. absurd (false≢true h);
      marks = λ h. absurd (false≢true h);
    }

pub page-bom_written : (e : Encoding) (encoding : yaml_encoding_t) (line_break : yaml_break_t) (bytes after : OutletState) (whitespace indention due : Bool)
    (column : ℕ)
    (page : Page)
    → IsPen (page_of encoding due line_break bytes whitespace indention) bytes.all column → due ≡ true
    → seen_encoding encoding ≡ Some e
    → after ≡ record bytes { all = character_bytes e byte_order_mark }
    → page_of encoding due line_break bytes whitespace indention ≡ page
    → page_of encoding false line_break after whitespace indention ≡ record page { bom_due = false }
page-bom_written e encoding line_break bytes after whitespace indention due column page pen is_due seen is viewed =
    let empty : bytes.all ≡ [] = pen.bytes ∙ ap (λ d. if d then [] else encode (seen_encoding encoding) (decode (seen_encoding encoding) bytes.all)) is_due in
    let marks : has_bom (Some e) ≡ true = ap has_bom (sym seen) ∙ pen.marks is_due in
    let all : after.all ≡ character_bytes e byte_order_mark = ap (λ (b : OutletState). b.all) is in
    let text : decode (seen_encoding encoding) after.all ≡ decode (seen_encoding encoding) bytes.all =
    ap (λ s. decode s after.all) seen ∙ ap (decode (Some e)) all ∙ bom-decoded e marks ∙ sym (decode-empty (seen_encoding encoding) bytes.all empty) in
    let no_bom : Page → Page = λ (p : Page). record p { bom_due = false } in
    ap (λ (b : OutletState). page_with encoding line_break b (decode (seen_encoding encoding) after.all) whitespace indention) is
    ∙ ap (λ t. page_with encoding line_break bytes t whitespace indention) text
    ∙ ap no_bom viewed

pub some_encoding : (encoding : Option Encoding) → has_bom encoding ≡ true → (e : Encoding) × (encoding ≡ Some e)
some_encoding None marks = absurd (false≢true marks)
some_encoding (Some e) marks = (e, refl)
