-- The canonical reader's token for a double-quoted text.
use Rattle.yaml_base.proofs.Common.{suc, zero, ℕ, ◌%◌, ◌/◌, ◌≤◌, if◌then◌else◌, ◌==◌, Option, None, Some, nat_le, Bool, false, true, ◌&&◌, List, [], ◌++◌}
use Rattle.yaml_base.proofs.Common.{◌∷◌, refl, ◌≡◌, eqb-true, append-nil, append_assoc, ap, sym, ◌∙◌, arith, and_parts, and_from, agree_below_at, all_scalars}
use Rattle.yaml_base.proofs.Common.{Text, is_space, hex_digit, hex_digits, Cursor, new_line, is_past_width, QuotePlace, between, goes_on, gives, ends_quotes}
use Rattle.yaml_base.proofs.Common.{has_no_reading, Quoted, with_unit, after_step, quoted_from, quoted_reading, FoldUnit, folding_read, short_escapes}
use Rattle.yaml_base.proofs.Common.{letter_among, escape_after_backslash, escape_text, needs_escape, character_text, double_inside, render_quote}
use lib.Utf8.{scalar}
use Rattle.yaml_base.specs.{Cursor.render_text, Characters.backslash}
use Rattle.yaml_base.specs.reading.CanonicalTokens.{Token, scalar_token, free, in_quotes, quotes_step, tokens_from}
use Rattle.yaml_base.specs.reading.ReadDouble.{QuoteStep, quote_step, QuotedReading, double_quoted_prefix}
use Rattle.yaml_base.specs.scalars.DoubleQuoted.{quote, ShortEscape, may_fold, space_kept, double_fold, double_character, double_quoted_body}
use Rattle.yaml_emitter.proofs.canonical.CanonicalText.{anything, Says, all_scalars-append, says_white, new_line-white, step_fixed}
use Rattle.yaml_scalar.proofs.DoubleReads.{double-prefix, double-rendered}

-- a unit before the units that were read
with-unit : (unit : FoldUnit) (inner : Option Quoted) (q : Quoted) → with_unit unit inner ≡ Some q
    → (p : Quoted) × (inner ≡ Some p) × (q ≡ record { units = unit ∷ p.units; rest = p.rest })
with-unit unit None q e = absurd (cc)
with-unit unit (Some p) q e =
    let same : q ≡ record { units = unit ∷ p.units; rest = p.rest } = cc in
    (p, refl, same)

module _ (breaks12 : Bool) where
  abbrev after : List FoldUnit → QuoteStep → Text → List Token
  after units step rest = (quotes_step units step).tokens ++ tokens_from breaks12 (quotes_step units step).place rest

  -- a text is read from within quotes on
  abbrev ReadsOn : Text → Type 0
  ReadsOn text =
      (place : QuotePlace) (units : List FoldUnit) (q : Quoted) → quoted_from breaks12 place text ≡ Some q
      → tokens_from breaks12 (in_quotes place units) text ≡ scalar_token (folding_read (units ++ q.units)) ∷ tokens_from breaks12 free q.rest

  step_tokens : (rest : Text) → ReadsOn rest → (step : QuoteStep) (units : List FoldUnit) (q : Quoted)
      → after_step step (λ next. quoted_from breaks12 next rest) rest ≡ Some q
      → after units step rest ≡ scalar_token (folding_read (units ++ q.units)) ∷ tokens_from breaks12 free q.rest
  step_tokens rest reads (goes_on place) units q e = reads place units q e
  step_tokens rest reads (gives unit) units q e =
      let inner = with-unit unit (quoted_from breaks12 between rest) q e in
      reads between (units ++ unit ∷ []) inner.0 inner.1
      ∙ ap (λ us. scalar_token (folding_read us) ∷ tokens_from breaks12 free inner.0.rest) (append_assoc units (unit ∷ []) inner.0.units)
      ∙ ap (λ (p : Quoted). scalar_token (folding_read (units ++ p.units)) ∷ tokens_from breaks12 free p.rest) (sym inner.2)
  step_tokens rest reads ends_quotes units q e =
      let same : q ≡ record { units = []; rest = rest } = cc in
      ap (λ us. scalar_token (folding_read us) ∷ tokens_from breaks12 free rest) (sym (append-nil units))
      ∙ ap (λ (p : Quoted). scalar_token (folding_read (units ++ p.units)) ∷ tokens_from breaks12 free p.rest) (sym same)
  step_tokens rest reads has_no_reading units q e = absurd (cc)

  quotes_tokens : (text : Text) → ReadsOn text
  quotes_tokens [] place units q e = absurd (cc)
  quotes_tokens (c ∷ rest) place units q e = step_tokens rest (quotes_tokens rest) (quote_step breaks12 place c) units q e

  read_tokens : (text value rest : Text) (found : Option Quoted) → quoted_from breaks12 between text ≡ found
      → quoted_reading found ≡ Some (record { value = value; rest = rest })
      → tokens_from breaks12 (in_quotes between []) text ≡ scalar_token value ∷ tokens_from breaks12 free rest
  read_tokens text value rest None is e = absurd (cc)
  read_tokens text value rest (Some q) is e =
      let reading : QuotedReading = record { value = folding_read q.units; rest = q.rest } in
      let given : QuotedReading = record { value = value; rest = rest } in
      let same : reading ≡ given = cc in
      let same_value : folding_read q.units ≡ value = ap (λ (r : QuotedReading). r.value) same in
      let same_rest : q.rest ≡ rest = ap (λ (r : QuotedReading). r.rest) same in
      quotes_tokens text between [] q is
      ∙ ap (λ v. scalar_token v ∷ tokens_from breaks12 free q.rest) same_value
      ∙ ap (λ r. scalar_token value ∷ tokens_from breaks12 free r) same_rest

  prefix_tokens : (text value rest : Text) → double_quoted_prefix breaks12 text ≡ Some (record { value = value; rest = rest })
      → tokens_from breaks12 free text ≡ scalar_token value ∷ tokens_from breaks12 free rest
  prefix_tokens [] value rest e = absurd (cc)
  prefix_tokens (c ∷ text) value rest e = by (c == 0x22) refl e
    where
      by : (b : Bool) → (c == 0x22) ≡ b
          → (if b then quoted_reading (quoted_from breaks12 between text) else None) ≡ Some (record { value = value; rest = rest })
          → tokens_from breaks12 free (c ∷ text) ≡ scalar_token value ∷ tokens_from breaks12 free rest
      by true is e =
          let same : c ≡ 0x22 = eqb-true c 0x22 is in
          rw (same, step_fixed breaks12 0x22 refl) (read_tokens text value rest (quoted_from breaks12 between text) refl e)
      by false is e = absurd (cc)

-- The characters of a body are scalar values.

abbrev letters_scalar : List ShortEscape → Bool
letters_scalar [] = true
letters_scalar (entry ∷ more) = scalar entry.letter && letters_scalar more

letter-found : (table : List ShortEscape) (c letter : ℕ) → letters_scalar table ≡ true → letter_among table c ≡ Some letter → scalar letter ≡ true
letter-found [] c letter h found = absurd (cc)
letter-found (entry ∷ more) c letter h found =
    let p : (scalar entry.letter ≡ true) × (letters_scalar more ≡ true) = and_parts _ _ h in
    here (c == entry.character) p.0 (letter-found more c letter p.1) found
  where
    here : (b : Bool) → scalar entry.letter ≡ true → (letter_among more c ≡ Some letter → scalar letter ≡ true)
        → (if b then Some entry.letter else letter_among more c) ≡ Some letter → scalar letter ≡ true
    here true now later h = let e : entry.letter ≡ letter = cc in rw (← e) now
    here false now later h = later h

digit-scalar : (n : ℕ) → scalar (hex_digit (n % 16)) ≡ true
digit-scalar n = agree_below_at (λ d. scalar (hex_digit d)) (λ d. true) 16 (n % 16) refl (omega arith)

digits-scalars : (count n : ℕ) → all_scalars (hex_digits count n) ≡ true
digits-scalars zero n = refl
digits-scalars (suc count) n =
    all_scalars-append (hex_digits count (n / 16)) (hex_digit (n % 16) ∷ []) (digits-scalars count (n / 16)) (and_from _ true (digit-scalar n) refl)

number-scalars : (c : ℕ) (two four : Bool)
    → all_scalars (if two then 120 ∷ hex_digits 2 c else (if four then 117 ∷ hex_digits 4 c else 85 ∷ hex_digits 8 c)) ≡ true
number-scalars c true four = digits-scalars 2 c
number-scalars c false true = digits-scalars 4 c
number-scalars c false false = digits-scalars 8 c

rest-scalars : (c : ℕ) (found : Option ℕ) → letter_among short_escapes c ≡ found → all_scalars (escape_after_backslash found c) ≡ true
rest-scalars c (Some letter) found = and_from _ true (letter-found short_escapes c letter refl found) refl
rest-scalars c None found = number-scalars c (nat_le c 0xFF) (nat_le c 0xFFFF)

text-scalars : (unicode : Bool) (c : ℕ) → scalar c ≡ true → all_scalars (character_text unicode c) ≡ true
text-scalars unicode c h = by (needs_escape unicode c)
  where
    by : (b : Bool) → all_scalars (if b then escape_text c else c ∷ []) ≡ true
    by true = rest-scalars c (letter_among short_escapes c) refl
    by false = and_from _ true h refl

kept-scalars : (rest : Text) → all_scalars (space_kept rest) ≡ true
kept-scalars [] = refl
kept-scalars (c ∷ rest) = by (is_space c)
  where
    by : (b : Bool) → all_scalars (if b then backslash ∷ [] else []) ≡ true
    by true = refl
    by false = refl

module _ (unicode : Bool) (limit : Option ℕ) (indent : ℕ) where
  character-scalars : (before : Option ℕ) (c : ℕ) (rest : Text) (cursor : Cursor) → scalar c ≡ true
      → all_scalars (double_character unicode limit indent before c rest cursor).text ≡ true
  character-scalars before c rest cursor h = by (is_space c && may_fold before rest && is_past_width limit cursor)
    where
      by : (b : Bool) → all_scalars (if b then double_fold indent rest cursor else render_text (character_text unicode c) cursor).text ≡ true
      by true = all_scalars-append (new_line indent cursor).text (space_kept rest)
          (says_white false (new_line indent cursor).text (new_line-white indent cursor)).scalars (kept-scalars rest)
      by false = text-scalars unicode c h

  inside-scalars : (value : Text) (before : Option ℕ) (cursor : Cursor) → all_scalars value ≡ true
      → all_scalars (double_inside unicode limit indent before value cursor).text ≡ true
  inside-scalars [] before cursor h = refl
  inside-scalars (c ∷ rest) before cursor h =
      let p : (scalar c ≡ true) × (all_scalars rest ≡ true) = and_parts _ _ h in
      let first = double_character unicode limit indent before c rest cursor in
      all_scalars-append first.text (double_inside unicode limit indent (Some c) rest first.cursor).text
      (character-scalars before c rest cursor p.0) (inside-scalars rest (Some c) first.cursor p.1)

  body-scalars : (value : Text) (cursor : Cursor) → all_scalars value ≡ true → all_scalars (double_quoted_body unicode limit indent value cursor).text ≡ true
  body-scalars value cursor h =
      all_scalars-append (double_inside unicode limit indent None value (render_quote cursor).cursor).text (quote ∷ [])
      (inside-scalars value None (render_quote cursor).cursor h) refl

  -- A body's token is its value.
  pub body_says : (breaks12 : Bool) (value : Text) (cursor : Cursor) → 2 ≤ indent → all_scalars value ≡ true
      → Says breaks12 anything (double_quoted_body unicode limit indent value cursor).text (scalar_token value ∷ [])
  body_says breaks12 value cursor wide h = record {
    scalars = body-scalars value cursor h;
    rendered = double-rendered unicode limit indent value cursor wide h;
    reads = λ rest meets.
        prefix_tokens breaks12 ((double_quoted_body unicode limit indent value cursor).text ++ rest) value rest
        (double-prefix breaks12 unicode limit indent value cursor rest wide h);
  }
