-- A pen whose bytes grow by those of a text.
use Rattle.yaml_pen.proofs.Common.{min, ℕ, ◌+◌, if◌then◌else◌, ◌==◌, unwrap_or, IsSome, IsUtf8, Option, None, Some, Err, Ok, length, Bool, false, true, List}
use Rattle.yaml_pen.proofs.Common.{[], ◌++◌, ◌∷◌, refl, ◌≡◌, append-nil, ap, subst, sym, ◌∙◌, arith, and_from, or_parts, false≢true, encodes-chars, list_any}
use Rattle.yaml_pen.proofs.Common.{all_scalars, chars, encode_utf8_all, Text, line_feed, is_break, Cursor, Rendered, column_after, render_text, decode, encode}
use Rattle.yaml_pen.proofs.Common.{character_bytes, text_bytes, break_text, with_breaks_written, IsPrefix, seen_encoding, seen_break, Encoding, utf8, utf16_big}
use Rattle.yaml_pen.proofs.Common.{utf16_little, LineBreak, line_feed_break, OutletState, HasSoundOutput, Page, has_bom, IsReady, result_of_error}
use Rattle.yaml_pen.proofs.Common.{IsFlushedOutput}
use Rattle.yaml_pen.proofs.Common.{page_of, IsPen, named_text, Wrote}
use Rattle.std.specs.Char.{IsScalar}
use Rattle.yaml_base.specs.{Cursor.next_column, Settings.carriage_return_break, Settings.both_break, declared.encodings.yaml_break_t.yaml_break_t}
use Rattle.yaml_base.specs.{declared.encodings.yaml_encoding_t.yaml_encoding_t, declared.errors.yaml_error_t.yaml_error_t}
use Rattle.yaml_pen.{proofs.Adding.AreText, proofs.Adding.decode-grown, proofs.Adding.AreText-grown, specs.Outlet.Appended}

pub column_after-append : (xs ys : Text) (column : ℕ) → column_after (xs ++ ys) column ≡ column_after ys (column_after xs column)
column_after-append [] ys column = refl
column_after-append (x ∷ xs) ys column = column_after-append xs ys (next_column x column)

-- a layout names a text at a page: the text that it puts at the cursor, with the page's line breaks, and the
-- cursor after it
pub record Names (raw : Text) (render : Cursor → Rendered) (page : Page) : Type 0 where
  pub text : named_text render page ≡ raw
  pub cursor : (render page.cursor).cursor ≡ record page.cursor { column = column_after raw page.cursor.column }

-- a call that answered Ok left no error
pub none_from_result : (error : Option yaml_error_t) → Ok tt ≡ result_of_error error → error ≡ None
none_from_result None e = refl
none_from_result (Some error) e = cc

-- a call that returned an error left it
pub some_from_result : (given : Option yaml_error_t) (error : yaml_error_t) → Err error ≡ result_of_error given → given ≡ Some error
some_from_result None error is = cc
some_from_result (Some other) error is = cc

-- bytes grew by those of a text, and nothing failed
pub record AddsEvent (e : Encoding) (raw : Text) (before after : OutletState) : Type 0 where
  pub all : after.all ≡ before.all ++ text_bytes e raw
  pub no_error : before.error ≡ None
  pub unfailed : after.error ≡ None
  pub limit : after.limit ≡ before.limit
  pub taken : after.taken ≡ before.taken
  pub output : IsPrefix before.output after.output
  pub sound : HasSoundOutput after

pub AddsEvent-appended : (e : Encoding) (raw : Text) (bytes : List ℕ) (before after : OutletState)
    → Appended bytes before after (Ok tt) → bytes ≡ text_bytes e raw → AddsEvent e raw before after
AddsEvent-appended e raw bytes before after appended is =
    let none = none_from_result after.error appended.answered in
    record {
      all = (appended.whole none).1 ∙ ap (λ l. before.all ++ l) is;
      no_error = (appended.whole none).0;
      unfailed = none;
      limit = appended.limit;
      taken = appended.taken;
      output = appended.output;
      sound = appended.sound_output;
    }

-- the text of a pen's bytes, in an encoding that is known
are_text : (e : Encoding) (encoding : yaml_encoding_t) (line_break : yaml_break_t) (bytes : OutletState) (whitespace indention due : Bool) (column : ℕ)
    → IsPen (page_of encoding due line_break bytes whitespace indention) bytes.all column → due ≡ false → seen_encoding encoding ≡ Some e
    → AreText (Some e) bytes.all
are_text e encoding line_break bytes whitespace indention due column pen not_due seen =
    record {
      encoded = pen.bytes ∙ ap (λ d. if d then [] else encode (seen_encoding encoding) (decode (seen_encoding encoding) bytes.all)) not_due
          ∙ ap (λ s. encode s (decode s bytes.all)) seen;
      scalars = sym (ap (λ s. all_scalars (decode s bytes.all)) seen) ∙ pen.scalars;
    }

bytes_of_text : (e : Encoding) (encoding : yaml_encoding_t) (bytes : OutletState) (due : Bool) → due ≡ false → seen_encoding encoding ≡ Some e
    → AreText (Some e) bytes.all
    → bytes.all ≡ (if due then [] else encode (seen_encoding encoding) (decode (seen_encoding encoding) bytes.all))
bytes_of_text e encoding bytes due not_due seen are =
    are.encoded ∙ sym (ap (λ s. encode s (decode s bytes.all)) seen)
    ∙ sym (ap (λ d. if d then [] else encode (seen_encoding encoding) (decode (seen_encoding encoding) bytes.all)) not_due)

text_added : (e : Encoding) (encoding : yaml_encoding_t) (raw : Text) (before after : OutletState)
    → AreText (Some e) before.all → all_scalars raw ≡ true → seen_encoding encoding ≡ Some e → AddsEvent e raw before after
    → decode (seen_encoding encoding) after.all ≡ decode (seen_encoding encoding) before.all ++ raw
text_added e encoding raw before after are scalars seen adds =
    ap (λ s. decode s after.all) seen ∙ ap (decode (Some e)) adds.all ∙ decode-grown e before.all raw are scalars
    ∙ sym (ap (λ s. decode s before.all ++ raw) seen)

pub IsPen-added : (e : Encoding) (raw : Text) (encoding : yaml_encoding_t) (line_break : yaml_break_t) (before after : OutletState)
    (whitespace indention due : Bool) (column stored : ℕ)
    → IsPen (page_of encoding due line_break before whitespace indention) before.all column → due ≡ false → seen_encoding encoding ≡ Some e
    → all_scalars raw ≡ true → AddsEvent e raw before after
    → stored ≡ min (column_after raw (column_after (decode (seen_encoding encoding) before.all) 0)) 4294967295
    → IsPen (page_of encoding due line_break after whitespace indention) after.all stored
IsPen-added e raw encoding line_break before after whitespace indention due column stored pen not_due seen scalars adds is_column =
    let are = are_text e encoding line_break before whitespace indention due column pen not_due seen in
    let grown = AreText-grown e before.all raw are scalars in
    let text = text_added e encoding raw before after are scalars seen adds in
    record {
      bytes = bytes_of_text e encoding after due not_due seen (subst (AreText (Some e)) (sym adds.all) grown);
      scalars = ap (λ s. all_scalars (decode s after.all)) seen ∙ ap (λ l. all_scalars (decode (Some e) l)) adds.all ∙ grown.scalars;
      column = is_column ∙ ap (λ n. min n 4294967295)
          (sym (column_after-append (decode (seen_encoding encoding) before.all) raw 0) ∙ ap (λ t. column_after t 0) (sym text));
      sound_output = adds.sound;
      unfailed = λ _. adds.unfailed;
      marks = λ h. pen.marks h;
    }

-- it writes the text
Wrote-page : (e : Encoding) (raw : Text) (encoding : yaml_encoding_t) (line_break : yaml_break_t) (before after : OutletState) (whitespace indention due : Bool)
    (column : ℕ) (render : Cursor → Rendered)
    → IsPen (page_of encoding due line_break before whitespace indention) before.all column
    → seen_encoding encoding ≡ Some e
    → all_scalars raw ≡ true → AddsEvent e raw before after
    → IsReady (page_of encoding due line_break before whitespace indention)
    → Names raw render (page_of encoding due line_break before whitespace indention)
    → Wrote render (page_of encoding due line_break before whitespace indention) (page_of encoding due line_break after whitespace indention) (Ok tt)
Wrote-page e raw encoding line_break before after whitespace indention due column render pen seen scalars adds ready names =
    let are = are_text e encoding line_break before whitespace indention due column pen ready.bom_written seen in
    let grown = subst (AreText (Some e)) (sym adds.all) (AreText-grown e before.all raw are scalars) in
    let text = text_added e encoding raw before after are scalars seen adds in
    let bytes = grown.encoded ∙ sym (ap (λ s. encode s (decode s after.all)) seen) in
    record {
      answered = sym (ap result_of_error adds.unfailed);
      ready = record { begun = ready.begun; bom_written = ready.bom_written };
      settings = record { encoding = refl; line_break = refl; limit = adds.limit; taken = adds.taken };
      sound_output = subst (λ (b : List ℕ). IsFlushedOutput b after.output after.limit after.error) bytes adds.sound;
      grew = record { prefix = raw; rest = []; parts = names.text ∙ sym (append-nil raw); grown = text };
      output = adds.output;
      all = λ _. record {
        no_error = adds.no_error;
        text = text ∙ ap (λ l. decode (seen_encoding encoding) before.all ++ l) (sym names.text);
        cursor = ap (λ (n : ℕ). let c : Cursor = record { column = n; whitespace = whitespace; indention = indention } in c)
            (ap (λ t. column_after t 0) text ∙ column_after-append (decode (seen_encoding encoding) before.all) raw 0)
            ∙ sym names.cursor;
      };
      stopped = λ some. absurd (false≢true (subst (λ (o : Option yaml_error_t). IsSome o) adds.no_error some));
    }

pub Wrote-added : (e : Encoding) (raw : Text) (encoding : yaml_encoding_t) (line_break : yaml_break_t) (before after : OutletState)
    (whitespace indention due : Bool) (column : ℕ) (page : Page) (render : Cursor → Rendered)
    → IsPen (page_of encoding due line_break before whitespace indention) before.all column
    → seen_encoding encoding ≡ Some e
    → all_scalars raw ≡ true → AddsEvent e raw before after
    → page_of encoding due line_break before whitespace indention ≡ page
    → IsReady page → Names raw render page
    → Wrote render page (page_of encoding due line_break after whitespace indention) (Ok tt)
Wrote-added e raw encoding line_break before after whitespace indention due column page render pen seen scalars adds viewed =
    let P : Page → Type 0 = λ p. IsReady p → Names raw render p → Wrote render p (page_of encoding due line_break after whitespace indention) (Ok tt) in
    subst P viewed (Wrote-page e raw encoding line_break before after whitespace indention due column render pen seen scalars adds)

pub known_encoding : (encoding : Option Encoding) → IsSome encoding → (e : Encoding) × (encoding ≡ Some e)
known_encoding None some = absurd (false≢true some)
known_encoding (Some e) some = (e, refl)

pub character_bytes-text : (e : Encoding) (c : ℕ) → character_bytes e c ≡ text_bytes e (c ∷ [])
character_bytes-text e c = sym (append-nil (character_bytes e c))

pub scalar-text : (c : ℕ) → IsScalar c → all_scalars (c ∷ []) ≡ true
scalar-text c scalar = and_from _ _ scalar refl

-- a character other than LF names itself
pub Names-character : (c : ℕ) (page : Page) → (c == line_feed) ≡ false → Names (c ∷ []) (render_text (c ∷ [])) page
Names-character c page other =
    record {
      text = ap (λ b. (if b then break_text page.line_break else c ∷ []) ++ []) other;
      cursor = refl;
    }

-- the setting that a pen keeps, and its break
abbrev pub line_break_of : yaml_break_t → LineBreak
line_break_of line_break = unwrap_or (seen_break line_break) line_feed_break

abbrev pub break_of : yaml_break_t → Text
break_of line_break = break_text (line_break_of line_break)

pub scalar-break : (setting : LineBreak) → all_scalars (break_text setting) ≡ true
scalar-break carriage_return_break = refl
scalar-break _ = refl

pub break-column : (setting : LineBreak) (column : ℕ) → column_after (break_text setting) column ≡ 0
break-column carriage_return_break column = refl
break-column _ column = refl

-- LF names the break of the setting
pub Names-break : (page : Page) → Names (break_text page.line_break) (render_text (line_feed ∷ [])) page
Names-break page =
    record {
      text = append-nil (break_text page.line_break);
      cursor = ap (λ (n : ℕ). let c : Cursor = record page.cursor { column = n } in c) (sym (break-column page.line_break page.cursor.column));
    }

-- an encoding without a byte order mark is UTF-8
pub no_bom : (encoding : Option Encoding) → IsSome encoding → has_bom encoding ≡ false → encoding ≡ Some utf8
no_bom None some no_exclamation = absurd (false≢true some)
no_bom (Some utf8) some no_exclamation = refl
no_bom _ some no_exclamation = cc

encodes-bytes : (text : Text) → encode_utf8_all text ≡ text_bytes utf8 text
encodes-bytes [] = refl
encodes-bytes (c ∷ rest) = ap (λ l. character_bytes utf8 c ++ l) (encodes-bytes rest)

-- in UTF-8 a text's bytes are those that it is made of
pub utf8-bytes : (bytes : List ℕ) → IsUtf8 bytes → bytes ≡ text_bytes utf8 (chars bytes)
utf8-bytes bytes is = sym (encodes-chars bytes is) ∙ encodes-bytes (chars bytes)

-- LF is a break
pub line_feed-break : (c : ℕ) → is_break c ≡ false → (c == line_feed) ≡ false
line_feed-break c other = (or_parts _ _ (or_parts _ _ (or_parts _ _ (or_parts _ _ other).0).0).0).0

pub unbroken-written : (setting : LineBreak) (text : Text) → list_any is_break text ≡ false → with_breaks_written setting text ≡ text
unbroken-written setting [] none = refl
unbroken-written setting (c ∷ rest) none =
    let p = or_parts _ _ none in
    ap (λ b. (if b then break_text setting else c ∷ []) ++ with_breaks_written setting rest) (line_feed-break c p.0)
    ∙ ap (λ l. c ∷ l) (unbroken-written setting rest p.1)

-- characters without a break name themselves
pub Names-run : (text : Text) (page : Page) → list_any is_break text ≡ false → Names text (render_text text) page
Names-run text page none = record { text = unbroken-written page.line_break text none; cursor = refl }

-- each of them takes a column
pub run-column : (text : Text) (column : ℕ) → list_any is_break text ≡ false → column_after text column ≡ column + length text
run-column [] column none = omega arith
run-column (c ∷ rest) column none =
    let p = or_parts _ _ none in
    ap (λ b. column_after rest (if b then 0 else column + 1)) p.0 ∙ run-column rest (column + 1) p.1 ∙ omega arith

-- as the pen keeps columns, up to a bound
pub piece-column : (text : Text) (column stored count : ℕ) → list_any is_break text ≡ false → stored ≡ min column 4294967295 → count ≡ length text
    → min (stored + count) 4294967295 ≡ min (column_after text column) 4294967295
piece-column text column stored count none is_stored is_count =
    let after : column_after text column ≡ column + length text = run-column text column none in
    omega arith
