-- The text of an accepted list holds no special character unescaped, so it meets `HoldsRaw`.
use Rattle.yaml_emitter.proofs.Common.{ℕ, if◌then◌else◌, ◌==◌, Option, Bool, false, not, true, ◌&&◌, ◌||◌, List, [], ◌∷◌, refl, ◌≡◌, ap, sym, ◌∙◌, arith}
use Rattle.yaml_emitter.proofs.Common.{and_parts, and_from, or_parts, false≢true, nat_tests, list_all, list_any, all_scalars, list_layout_steps}
use Rattle.yaml_emitter.proofs.Common.{stream_pushed, Text, line_feed, carriage_return, next_line, space, is_printable, Cursor, ScalarStyle, any_style, plain}
use Rattle.yaml_emitter.proofs.Common.{single_quoted, double_quoted, literal, folded, Event, partial_of, first_standing, Piece, text_of, render_body}
use Rattle.yaml_emitter.proofs.Common.{charset_of, Place, deeper, break_text, with_breaks_written, encoding_asked, list_layout, IsAccepted, LineBreak}
use Rattle.yaml_emitter.proofs.Common.{carriage_return_break, line_feed_break, both_break, Effective, effective, at_stream, HoldsRaw, Charset, is_special}
use Rattle.yaml_emitter.proofs.Common.{allowances, quote, backslash, needs_escape, any_both, any_one, is_graph, Spares}
use Rattle.yaml_base.proofs.Common.{is_literal, is_special_but_tab, is_tidy_character, tab, eqb-true, inl, inr, ◌⊎◌, and_right, or_right, true≢false, not-true}
use Rattle.yaml_base.proofs.Common.{or_left, not-false, line_separator, paragraph_separator, is_ascii}
use Rattle.std.proofs.Math.Utf8.{scalar}
use Rattle.yaml_base.{proofs.CallerLaws.encodings_agree, specs.Settings.escapes_separators}
use Rattle.yaml_base.specs.WrittenTexts.{is_separator, is_written_raw, TextsHoldRaw, StreamsAgree}
use Rattle.yaml_emitter.proofs.layouts.{Meaning.is_indent, MeaningBodies.IsIndent, MeaningBodies.plain_context, MeaningStyles.Allows, SparingSteps.Spared}
use Rattle.yaml_emitter.proofs.layouts.MeaningStyles.{AllowsLiteral, AllowsUnder}
use Rattle.yaml_emitter.proofs.layouts.{SparingSteps.lacks_steps}
use Rattle.yaml_scalar.proofs.Sparing.{lacks_plain, lacks_single, lacks_double}
use Rattle.yaml_scalar.proofs.SparingBlocks.{lacks_literal, lacks_folded, plain_unspecial, single_unspecial, block_unspecial, literal_unspecial}

-- No printable character of ASCII is special, nor LF, nor one that is unescaped in double quotes.

-- printable ASCII is printable, of ASCII, and no separator
graph_parts : (c : ℕ) → is_graph c ≡ true
    → (is_printable c ≡ true) × (is_ascii c ≡ true) × ((c == line_separator) ≡ false) × ((c == paragraph_separator) ≡ false)
graph_parts c h = (grind (arith, nat_tests), grind (arith, nat_tests), grind (arith, nat_tests), grind (arith, nat_tests))

-- such a character isn't special
special_from : (charset : Charset) (c : ℕ) → is_printable c ≡ true → is_ascii c ≡ true → (c == line_separator) ≡ false → (c == paragraph_separator) ≡ false
    → is_special charset c ≡ false
special_from charset c p a l s = by charset.unicode charset.breaks12
  where
    by : (unicode breaks12 : Bool)
        → (not (is_printable c) || (not unicode && not (is_ascii c)) || (breaks12 && (c == line_separator || c == paragraph_separator))) ≡ false
    by true true = simp (p, l, s)
    by true false = simp p
    by false true = simp (p, a, l, s)
    by false false = simp (p, a)

-- being special spares printable ASCII and LF
pub special_spares : (charset : Charset) → Spares (is_special charset)
special_spares charset = record {
  graph = λ c h. let p = graph_parts c h in special_from charset c p.0 p.1 p.2 p.3;
  blank = special_from charset space refl refl refl refl;
  feed = special_from charset line_feed refl refl refl refl;
}

-- the parts of the test for an escape, of a character that needs none
raw_parts : (p u b1 b2 b3 s1 s2 q k : Bool) → (not p || u || (b1 || b2 || b3 || s1 || s2) || q || k) ≡ false
    → (p ≡ true) × (u ≡ false) × (s1 ≡ false) × (s2 ≡ false)
raw_parts p u b1 b2 b3 s1 s2 q k h =
    let outer = or_parts (not p || u || (b1 || b2 || b3 || s1 || s2)) q (or_parts _ k h).0 in
    let first = or_parts (not p || u) (b1 || b2 || b3 || s1 || s2) outer.0 in
    let breaks = or_parts (b1 || b2 || b3 || s1) s2 first.1 in
    let own = or_parts (not p) u first.0 in
    (not-false p own.0, own.1, (or_parts (b1 || b2 || b3) s1 breaks.0).1, breaks.1)

-- such a character isn't special
special_raw : (breaks12 unicode : Bool) (c : ℕ) → needs_escape unicode c ≡ false → is_special (record { unicode = unicode; breaks12 = breaks12 }) c ≡ false
special_raw breaks12 unicode c h =
    let parts = raw_parts (is_printable c) (not unicode && not (is_ascii c)) (c == line_feed) (c == carriage_return) (c == next_line) (c == line_separator)
    (c == paragraph_separator) (c == quote) (c == backslash) h in
    by breaks12 parts
  where
    by : (breaks12 : Bool)
        → (is_printable c ≡ true) × ((not unicode && not (is_ascii c)) ≡ false) × ((c == line_separator) ≡ false) × ((c == paragraph_separator) ≡ false)
        → (not (is_printable c) || (not unicode && not (is_ascii c)) || (breaks12 && (c == line_separator || c == paragraph_separator))) ≡ false
    by true p = simp (p.0, p.1, p.2, p.3)
    by false p = simp (p.0, p.1)

-- true for a special character, but for tabs if `tabs` allows them
abbrev pub is_special_raw : (tabs : Bool) → Charset → ℕ → Bool
is_special_raw tabs charset c = not (tabs && c == tab) && is_special charset c

-- a character that isn't special isn't special with tabs allowed either
raw_fewer : (tabs : Bool) (charset : Charset) (c : ℕ) → is_special charset c ≡ false → is_special_raw tabs charset c ≡ false
raw_fewer tabs charset c h = and_right (not (tabs && c == tab)) (is_special charset c) h

raw_spares : (tabs : Bool) (charset : Charset) → Spares (is_special_raw tabs charset)
raw_spares tabs charset =
    let spares = special_spares charset in
    record {
      graph = λ c h. raw_fewer tabs charset c (spares.graph c h);
      blank = raw_fewer tabs charset space spares.blank;
      feed = raw_fewer tabs charset line_feed spares.feed;
    }

-- a test that is met by fewer characters
pub lacks_fewer : (test fewer : ℕ → Bool) → ((c : ℕ) → test c ≡ false → fewer c ≡ false) → (text : Text) → list_any test text ≡ false
    → list_any fewer text ≡ false
lacks_fewer test fewer implies [] h = refl
lacks_fewer test fewer implies (c ∷ rest) h =
    let p = or_parts (test c) (list_any test rest) h in
    any_one fewer c rest (implies c p.0) (lacks_fewer test fewer implies rest p.1)

module _ (s : Effective) (is : IsIndent s.indent) (place : Place) (limit : Option ℕ) (value : Text) (cursor : Cursor) where
  -- the text of a body
  abbrev body : ScalarStyle → Text
  body style = (render_body style s limit (deeper s.indent place.column) value cursor).text

  -- No body that isn't literal holds a special character.
  pub special_bodies : (style : ScalarStyle) → is_literal style ≡ false → Allows (allowances (charset_of s) value) place.in_flow style
      → list_any (is_special (charset_of s)) (body style) ≡ false
  special_bodies any_style other h = absurd h
  special_bodies plain other h =
      lacks_plain (is_special (charset_of s)) (special_spares (charset_of s)) limit (deeper s.indent place.column) value cursor
      (plain_unspecial (charset_of s) place.in_flow value (plain_context (charset_of s) place.in_flow value h))
  special_bodies single_quoted other h =
      lacks_single (is_special (charset_of s)) (special_spares (charset_of s)) limit (deeper s.indent place.column) value cursor
      (single_unspecial (charset_of s) value h)
  special_bodies double_quoted other h =
      lacks_double (is_special (charset_of s)) (special_spares (charset_of s)) s.unicode (special_raw (escapes_separators s) s.unicode) limit
      (deeper s.indent place.column) value cursor
  special_bodies literal other h = absurd (true≢false other)
  special_bodies folded other h =
      lacks_folded (is_special (charset_of s)) (special_spares (charset_of s)) limit (deeper s.indent place.column) s.indent value cursor is.high
      (block_unspecial (charset_of s) value h)

  -- A literal body holds none but tabs, and these only if blanks are literal.
  literal_bodies : (tabs : Bool) → s.literal_blanks ≡ tabs → AllowsLiteral s value → list_any (is_special_raw tabs (charset_of s)) (body literal) ≡ false
  literal_bodies tabs e h =
      lacks_literal (is_special_raw tabs (charset_of s)) (raw_spares tabs (charset_of s)) (deeper s.indent place.column) s.indent value cursor is.high
      (by tabs e)
    where
      by : (tabs : Bool) → s.literal_blanks ≡ tabs → list_any (is_special_raw tabs (charset_of s)) value ≡ false
      by true e =
          lacks_fewer (is_special_but_tab (charset_of s)) (is_special_raw true (charset_of s)) (λ c k. k) value
          (literal_unspecial (charset_of s) value h.literal)
      by false e =
          lacks_fewer (is_special (charset_of s)) (is_special_raw false (charset_of s)) (λ c k. raw_fewer false (charset_of s) c k) value
          (block_unspecial (charset_of s) value (h.block e))

  -- So it is with all bodies.
  raw_other : (style : ScalarStyle) → is_literal style ≡ false → Allows (allowances (charset_of s) value) place.in_flow style
      → list_any (is_special_raw s.literal_blanks (charset_of s)) (body style) ≡ false
  raw_other style other h =
      lacks_fewer (is_special (charset_of s)) (is_special_raw s.literal_blanks (charset_of s)) (λ c k. raw_fewer s.literal_blanks (charset_of s) c k)
      (body style) (special_bodies style other h)

  pub raw_bodies : (style : ScalarStyle) → AllowsUnder s place.in_flow value style
      → list_any (is_special_raw s.literal_blanks (charset_of s)) (body style) ≡ false
  raw_bodies any_style h = absurd h
  raw_bodies plain h = raw_other plain refl h
  raw_bodies single_quoted h = raw_other single_quoted refl h
  raw_bodies double_quoted h = raw_other double_quoted refl h
  raw_bodies literal h = literal_bodies s.literal_blanks refl h
  raw_bodies folded h = raw_other folded refl h

-- and no body meets it
raw_spared : (s : Effective) → IsIndent s.indent → Spared s (is_special_raw s.literal_blanks (charset_of s))
raw_spared s is = record {
  spares = raw_spares s.literal_blanks (charset_of s);
  bodies = λ place style limit value cursor h. raw_bodies s is place limit value cursor style h;
}

-- the text of an accepted list holds none
pub raw_list : (s : Effective) (canonical : Bool) (events : List Event) → IsIndent s.indent → IsAccepted canonical events
    → list_any (is_special_raw s.literal_blanks (charset_of s)) (text_of (list_layout s events)) ≡ false
raw_list s canonical events is accepted =
    let pushes = ap partial_of (sym accepted.is_stream) ∙ stream_pushed accepted.stream in
    ap (λ (pieces : List Piece). list_any (is_special_raw s.literal_blanks (charset_of s)) (text_of pieces))
    (list_layout_steps events accepted.stream s pushes)
    ∙ lacks_steps s (is_special_raw s.literal_blanks (charset_of s)) (raw_spared s is) canonical events false at_stream first_standing tt accepted.sound

-- From special characters to unescaped ones.

-- if no character fails a test, all meet it
pub all_meet : (test : ℕ → Bool) (text : Text) → list_any (λ c. not (test c)) text ≡ false → list_all test text ≡ true
all_meet test [] h = refl
all_meet test (c ∷ rest) h =
    let p = or_parts (not (test c)) (list_any (λ c. not (test c)) rest) h in
    and_from _ _ (not-false (test c) p.0) (all_meet test rest p.1)

-- as line breaks are written
lacks_break : (test : ℕ → Bool) (setting : LineBreak) → test carriage_return ≡ false → test line_feed ≡ false → list_any test (break_text setting) ≡ false
lacks_break test carriage_return_break return feed = any_one test carriage_return [] return refl
lacks_break test line_feed_break return feed = any_one test line_feed [] feed refl
lacks_break test both_break return feed = any_one test carriage_return (line_feed ∷ []) return (any_one test line_feed [] feed refl)

-- a text as its line breaks are written
lacks_written : (test : ℕ → Bool) (setting : LineBreak) → test carriage_return ≡ false → test line_feed ≡ false → (text : Text)
    → list_any test text ≡ false → list_any test (with_breaks_written setting text) ≡ false
lacks_written test setting return feed [] h = refl
lacks_written test setting return feed (c ∷ rest) h =
    let p = or_parts (test c) (list_any test rest) h in
    any_both test (if c == line_feed then break_text setting else c ∷ []) _ (by (c == line_feed) p.0)
    (lacks_written test setting return feed rest p.1)
  where
    by : (b : Bool) → test c ≡ false → list_any test (if b then break_text setting else c ∷ []) ≡ false
    by true own = lacks_break test setting return feed
    by false own = any_one test c [] own refl

-- scalar values one by one are a text of them
scalars_all : (text : Text) → list_all scalar text ≡ true → all_scalars text ≡ true
scalars_all [] h = refl
scalars_all (c ∷ rest) h = let p = and_parts (scalar c) (list_all scalar rest) h in and_from _ _ p.0 (scalars_all rest p.1)

-- a printable character is a scalar value
printable_scalar : (c : ℕ) → is_printable c ≡ true → scalar c ≡ true
printable_scalar c h = grind (arith, nat_tests)

-- a character that isn't special
pub special_printable : (charset : Charset) (c : ℕ) → is_special charset c ≡ false → is_printable c ≡ true
special_printable charset c h = not-false _ (or_parts _ _ (or_parts _ _ h).0).0

-- a false conjunction whose first part is true
then_false : (a b : Bool) → a ≡ true → (a && b) ≡ false → b ≡ false
then_false true b is h = h
then_false false b is h = absurd (false≢true is)

-- with unicode off it is of ASCII
special_ascii : (charset : Charset) (c : ℕ) → charset.unicode ≡ false → is_special charset c ≡ false → is_ascii c ≡ true
special_ascii charset c off h =
    not-false _ (then_false (not charset.unicode) (not (is_ascii c)) (ap not off) (or_parts (not (is_printable c)) _ (or_parts _ _ h).0).1)

-- with separators special it is none
special_separator : (charset : Charset) (c : ℕ) → charset.breaks12 ≡ true → is_special charset c ≡ false → is_separator c ≡ false
special_separator charset c on h = then_false charset.breaks12 (is_separator c) on (or_parts _ (charset.breaks12 && is_separator c) h).1

-- a character that isn't special, or a tab if `tabs` allows it
raw_cases : (tabs : Bool) (charset : Charset) (c : ℕ) → is_special_raw tabs charset c ≡ false
    → ((tabs && c == tab) ≡ true) ⊎ (is_special charset c ≡ false)
raw_cases tabs charset c h = by (tabs && c == tab) refl h
  where
    by : (x : Bool) → (tabs && c == tab) ≡ x → (not x && is_special charset c) ≡ false → ((tabs && c == tab) ≡ true) ⊎ (is_special charset c ≡ false)
    by true e h = inl e
    by false e h = inr h

-- a fact about tabs and about all characters that aren't special
raw_test : (test : ℕ → Bool) (tabs : Bool) (charset : Charset) → test tab ≡ true → ((c : ℕ) → is_special charset c ≡ false → test c ≡ true)
    → (c : ℕ) → is_special_raw tabs charset c ≡ false → test c ≡ true
raw_test test tabs charset of_tab others c h = by (raw_cases tabs charset c h)
  where
    by : ((tabs && c == tab) ≡ true) ⊎ (is_special charset c ≡ false) → test c ≡ true
    by (inl e) = ap test (eqb-true c tab (and_parts tabs (c == tab) e).1) ∙ of_tab
    by (inr e) = others c e

-- such a character may be unescaped
raw_stands : (tabs : Bool) (charset : Charset) (c : ℕ) → is_special_raw tabs charset c ≡ false → is_written_raw tabs c ≡ true
raw_stands tabs charset c h = by (raw_cases tabs charset c h)
  where
    by : ((tabs && c == tab) ≡ true) ⊎ (is_special charset c ≡ false) → is_written_raw tabs c ≡ true
    by (inl e) = or_right (is_printable c || c == carriage_return) (tabs && c == tab) e
    by (inr e) =
        or_left (is_printable c || c == carriage_return) (tabs && c == tab) (or_left (is_printable c) (c == carriage_return) (special_printable charset c e))

-- is printable or a tab
pub raw_shown : (tabs : Bool) (charset : Charset) (c : ℕ) → is_special_raw tabs charset c ≡ false → is_tidy_character literal c ≡ true
raw_shown tabs charset c h =
    raw_test (is_tidy_character literal) tabs charset refl (λ d e. or_left (is_printable d) (d == tab) (special_printable charset d e)) c h

-- a text without other special characters, as its line breaks are written
pub raw_held : (s : Effective) (text : Text) → list_any (is_special_raw s.literal_blanks (charset_of s)) text ≡ false
    → HoldsRaw s (with_breaks_written s.line_break text)
raw_held s text h =
    let tabs = s.literal_blanks in
    let charset = charset_of s in
    let special = is_special_raw tabs charset in
    let written = with_breaks_written s.line_break text in
    record {
      printable = all_meet (is_written_raw tabs) written
          (lacks_written (λ c. not (is_written_raw tabs c)) s.line_break refl refl text
          (lacks_fewer special (λ c. not (is_written_raw tabs c)) (λ c e. ap not (raw_stands tabs charset c e)) text h));
      scalars = scalars_all written (all_meet scalar written
          (lacks_written (λ c. not (scalar c)) s.line_break refl refl text
          (lacks_fewer special (λ c. not (scalar c))
          (λ c e. ap not (raw_test scalar tabs charset refl (λ d k. printable_scalar d (special_printable charset d k)) c e)) text h)));
      ascii = λ off. all_meet is_ascii written
          (lacks_written (λ c. not (is_ascii c)) s.line_break refl refl text
          (lacks_fewer special (λ c. not (is_ascii c))
          (λ c e. ap not (raw_test is_ascii tabs charset refl (λ d k. special_ascii charset d off k) c e)) text h));
      no_separators = λ on. lacks_written is_separator s.line_break refl refl text
          (lacks_fewer special is_separator
          (λ c e. not-true (is_separator c)
          (raw_test (λ d. not (is_separator d)) tabs charset refl (λ d k. ap not (special_separator charset d on k)) c e)) text h);
    }

-- The unescaped characters in the text of every accepted list.
pub texts_hold_raw : TextsHoldRaw
texts_hold_raw given encoding events accepted =
    let s = effective given encoding in
    raw_held s (text_of (list_layout s events)) (raw_list s given.canonical events (is_indent given.indent) accepted)

-- In any encoding the bytes of an accepted list are one text.
pub streams_agree : StreamsAgree
streams_agree given encoding events accepted =
    encodings_agree given encoding events (texts_hold_raw given (encoding_asked events) events accepted).scalars
