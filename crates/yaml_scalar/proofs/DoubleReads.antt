-- The text between double quotes reads as the value, and its later lines are indented.
use Rattle.yaml_scalar.proofs.Common.{suc, zero, ℕ, ◌+◌, ◌≤◌, if◌then◌else◌, Option, None, Some, replicate, Bool, false, true, ◌&&◌, List, []}
use Rattle.yaml_scalar.proofs.Common.{◌++◌, ◌∷◌, ◌⊎◌, refl, ◌≡◌, eqb-true, lt-ltb, true≢false, append-nil, append_assoc, ap, subst, sym, ◌∙◌, arith}
use Rattle.yaml_scalar.proofs.Common.{scalar, and_parts, and_right, or_left, or_right, nat_tests, all_scalars, breaks-round, rendered-append, indented-written}
use Rattle.yaml_scalar.proofs.Common.{Text, line_feed, space, is_space, is_blank}
use Rattle.yaml_scalar.proofs.Common.{is_printable, Cursor, Rendered, render_then, column_after, render_text, breaks_line, is_past_width, with_breaks_written}
use Rattle.yaml_scalar.proofs.Common.{with_line_breaks_read, is_rendered_text, is_indented_text, LineBreak, between, with_unit, quoted_from}
use Rattle.yaml_scalar.proofs.Common.{read_double, FoldUnit, literal_blank, literal_break, itself, FoldState, fold_state_text, prepend_unit, fold_state_of}
use Rattle.yaml_scalar.proofs.Common.{folding_read, quote, backslash, escape_text, needs_escape, character_text, is_some_non_space, may_fold, space_kept}
use Rattle.yaml_scalar.proofs.Common.{double_fold, double_inside, render_quote, double_quoted_body}
use Rattle.yaml_base.specs.reading.ReadDouble.{QuotedReading, double_quoted_prefix, value_alone}
use Rattle.yaml_scalar.proofs.{EscapesRead.escape-reads, Unbroken.is_unbroken, Unbroken.unbroken-replicate, Unbroken.unbroken-column}
use Rattle.yaml_scalar.proofs.{Unbroken.unbroken-rendered, Unbroken.unbroken-indented, Unbroken.unescaped, Unbroken.character-unbroken, Unbroken.character-long}
use Rattle.yaml_base.proofs.stream_lines.StreamLineLaws.{break_line}

-- a printable character other than a space is no blank
no-blank : (c : ℕ) → is_printable c ≡ true → is_space c ≡ false → is_blank c ≡ false
no-blank c p s = grind (arith, nat_tests)

-- a character that needs no escape and is no space reads as itself
other-reads : (breaks12 unicode : Bool) (c : ℕ) (rest : Text) → needs_escape unicode c ≡ false → is_space c ≡ false
    → quoted_from breaks12 between (c ∷ rest) ≡ with_unit (itself c) (quoted_from breaks12 between rest)
other-reads breaks12 unicode c rest h s = grind (arith, unescaped, no-blank, break_line)

-- a character that is no space reads as itself, as an escape or not
character-reads : (breaks12 unicode : Bool) (c : ℕ) (rest : Text) → scalar c ≡ true → is_space c ≡ false
    → quoted_from breaks12 between (character_text unicode c ++ rest) ≡ with_unit (itself c) (quoted_from breaks12 between rest)
character-reads breaks12 unicode c rest h s = go (needs_escape unicode c) refl
  where
    go : (b : Bool) → needs_escape unicode c ≡ b
        → quoted_from breaks12 between ((if b then escape_text c else c ∷ []) ++ rest) ≡ with_unit (itself c) (quoted_from breaks12 between rest)
    go true is = escape-reads breaks12 c rest h
    go false is = other-reads breaks12 unicode c rest is s

-- a space is written as itself
pub space-text : (unicode : Bool) → character_text unicode space ≡ space ∷ []
space-text unicode = grind (arith, nat_tests)

-- the units of a text between the quotes, from its start up to the closing quote
record SeenAs (breaks12 : Bool) (text tail : Text) (prefix : FoldState) : Type 0 where
  pub units : List FoldUnit
  pub are : quoted_from breaks12 between (text ++ quote ∷ tail) ≡ Some (record { units = units; rest = tail })
  pub prefix_is : fold_state_of units ≡ prefix

-- a character that is no blank or break before such a text
abbrev fold_state_at : Text → FoldState
fold_state_at value = record { blanks = []; breaks = []; rest = value }

seen-nothing : (breaks12 : Bool) (tail : Text) → SeenAs breaks12 [] tail (fold_state_at [])
seen-nothing breaks12 tail = record { units = []; are = refl; prefix_is = refl }

-- one more unit before them
seen-more : (breaks12 : Bool) (written text tail : Text) (unit : FoldUnit) (prefix : FoldState)
    → ((rest : Text) → quoted_from breaks12 between (written ++ rest) ≡ with_unit unit (quoted_from breaks12 between rest))
    → SeenAs breaks12 text tail prefix → SeenAs breaks12 (written ++ text) tail (prepend_unit unit prefix)
seen-more breaks12 written text tail unit prefix reads seen = record {
  units = unit ∷ seen.units;
  are = rw (append_assoc written text (quote ∷ tail), reads (text ++ quote ∷ tail), seen.are);
  prefix_is = ap (prepend_unit unit) seen.prefix_is;
}

-- spaces before it
abbrev blanks_ahead : ℕ → FoldState → FoldState
blanks_ahead zero prefix = prefix
blanks_ahead (suc n) prefix = prepend_unit (literal_blank space) (blanks_ahead n prefix)

seen-blanks : (breaks12 : Bool) (n : ℕ) (text tail : Text) (prefix : FoldState)
    → SeenAs breaks12 text tail prefix → SeenAs breaks12 (replicate n space ++ text) tail (blanks_ahead n prefix)
seen-blanks breaks12 zero text tail prefix seen = seen
seen-blanks breaks12 (suc n) text tail prefix seen =
    seen-more breaks12 (space ∷ []) (replicate n space ++ text) tail (literal_blank space) (blanks_ahead n prefix)
    (λ rest. refl)
    (seen-blanks breaks12 n text tail prefix seen)

-- spaces before a fold state without blanks and breaks are blanks, and a break before them drops them
blanks-dropped : (n : ℕ) (value : Text)
    → ((blanks_ahead n (fold_state_at value)).breaks ≡ []) × ((blanks_ahead n (fold_state_at value)).rest ≡ value)
blanks-dropped zero value = (refl, refl)
blanks-dropped (suc n) value = blanks-dropped n value

fold-read : (n : ℕ) (value : Text)
    → fold_state_text (prepend_unit (literal_break line_feed) (blanks_ahead n (fold_state_at value))) ≡ space ∷ value
fold-read n value = let p = blanks-dropped n value in rw (p.0, p.1)

-- a blank before a fold state without breaks is kept
blank-kept : (c : ℕ) (blanks breaks rest : Text) → breaks ≡ []
    → fold_state_text (prepend_unit (literal_blank c) (record { blanks = blanks; breaks = breaks; rest = rest }))
    ≡ c ∷ fold_state_text (record { blanks = blanks; breaks = breaks; rest = rest })
blank-kept c blanks breaks rest e = rw e

-- a fold follows a character that is no space
pub may-fold-other : (before : Option ℕ) (rest : Text) → may_fold before rest ≡ true → is_some_non_space before ≡ true
may-fold-other before rest h = grind (arith, nat_tests)

-- after such a character the column is past the indentation
abbrev pub margin : Option ℕ → ℕ
margin before = if is_some_non_space before then 1 else 0

-- a fold here breaks the line: the cursor isn't at an indentation, or is past its own
abbrev pub Fits : (indent : ℕ) → (before : Option ℕ) → Cursor → Type 0
Fits indent before cursor = (cursor.indention ≡ false) ⊎ (indent + margin before ≤ cursor.column)

pub fits-breaks : (indent : ℕ) (before : Option ℕ) (cursor : Cursor) → is_some_non_space before ≡ true → Fits indent before cursor
    → breaks_line indent cursor ≡ true
fits-breaks indent before cursor h x = grind (arith, nat_tests, or_left, or_right, lt-ltb)

-- the text between the quotes for a value, after a character or at the start
record Inside (breaks12 : Bool) (tail : Text) (before : Option ℕ) (value text : Text) : Type 0 where
  pub prefix : FoldState
  pub seen : SeenAs breaks12 text tail prefix
  pub value_is : fold_state_text prefix ≡ value
  pub no_breaks : is_some_non_space before ≡ false → prefix.breaks ≡ []
  pub kept : is_some_non_space before ≡ false → SeenAs breaks12 (space_kept value ++ text) tail (fold_state_at value)
  pub rendered : is_rendered_text text ≡ true
  pub indented : is_indented_text (text ++ quote ∷ []) ≡ true

inside-nothing : (breaks12 : Bool) (tail : Text) (before : Option ℕ) → Inside breaks12 tail before [] []
inside-nothing breaks12 tail before = record {
  prefix = fold_state_at [];
  seen = seen-nothing breaks12 tail;
  value_is = refl;
  no_breaks = λ h. refl;
  kept = λ h. seen-nothing breaks12 tail;
  rendered = refl;
  indented = refl;
}

-- a character that is no space
inside-other : (breaks12 unicode : Bool) (tail : Text) (before : Option ℕ) (c : ℕ) (rest text : Text)
    → scalar c ≡ true → is_space c ≡ false
    → Inside breaks12 tail (Some c) rest text → Inside breaks12 tail before (c ∷ rest) (character_text unicode c ++ text)
inside-other breaks12 unicode tail before c rest text h s ih =
    let more = seen-more breaks12 (character_text unicode c) text tail (itself c) ih.prefix
    (λ after. character-reads breaks12 unicode c after h s) ih.seen in
    let seen : SeenAs breaks12 (character_text unicode c ++ text) tail (fold_state_at (c ∷ rest)) =
    subst (λ (v : Text). SeenAs breaks12 (character_text unicode c ++ text) tail (fold_state_at (c ∷ v))) ih.value_is more in
    let no = character-unbroken unicode c in
    record {
      prefix = fold_state_at (c ∷ rest);
      seen = seen;
      value_is = refl;
      no_breaks = λ k. refl;
      kept = λ k. rw s seen;
      rendered = rendered-append (character_text unicode c) text (unbroken-rendered (character_text unicode c) no) ih.rendered;
      indented = rw (append_assoc (character_text unicode c) text (quote ∷ []))
          (unbroken-indented (character_text unicode c) (text ++ quote ∷ []) no ih.indented);
    }

-- a space that isn't folded
inside-space : (breaks12 : Bool) (tail : Text) (before : Option ℕ) (rest text : Text)
    → Inside breaks12 tail (Some space) rest text → Inside breaks12 tail before (space ∷ rest) (space ∷ text)
inside-space breaks12 tail before rest text ih = record {
  prefix = prepend_unit (literal_blank space) ih.prefix;
  seen = seen-more breaks12 (space ∷ []) text tail (literal_blank space) ih.prefix (λ after. refl) ih.seen;
  value_is = blank-kept space ih.prefix.blanks ih.prefix.breaks ih.prefix.rest (ih.no_breaks refl) ∙ ap (λ v. space ∷ v) ih.value_is;
  no_breaks = λ k. ih.no_breaks refl;
  kept = λ k. subst (λ (v : Text). SeenAs breaks12 (backslash ∷ space ∷ text) tail (fold_state_at (space ∷ v))) ih.value_is
      (seen-more breaks12 (backslash ∷ space ∷ []) text tail (itself space) ih.prefix (λ after. refl) ih.seen);
  rendered = ih.rendered;
  indented = ih.indented;
}

-- the part of a line that a fold's indentation leaves
fold-indented : (indent : ℕ) (rest : Text) → 2 ≤ indent → is_indented_text rest ≡ true
    → is_indented_text (line_feed ∷ (replicate indent space ++ rest)) ≡ true
fold-indented (suc (suc n)) rest h k = unbroken-indented (replicate n space) rest (unbroken-replicate n) k
fold-indented _ rest h k = absurd (omega arith)

kept-unbroken : (rest : Text) → is_unbroken (space_kept rest) ≡ true
kept-unbroken rest = grind (arith, nat_tests)

-- a space that is folded
inside-fold : (breaks12 : Bool) (tail : Text) (before : Option ℕ) (indent : ℕ) (rest text : Text)
    → 2 ≤ indent → is_some_non_space before ≡ true
    → Inside breaks12 tail (Some space) rest text
    → Inside breaks12 tail before (space ∷ rest) ((line_feed ∷ replicate indent space ++ space_kept rest) ++ text)
inside-fold breaks12 tail before indent rest text wide other ih =
    let spaces = replicate indent space in
    let kept = space_kept rest in
    let regroup : (line_feed ∷ spaces ++ kept) ++ text ≡ line_feed ∷ (spaces ++ (kept ++ text)) = ap (λ t. line_feed ∷ t) (append_assoc spaces kept text) in
    let no_kept = kept-unbroken rest in
    subst (λ (t : Text). Inside breaks12 tail before (space ∷ rest) t) (sym regroup) (record {
      prefix = prepend_unit (literal_break line_feed) (blanks_ahead indent (fold_state_at rest));
      seen = seen-more breaks12 (line_feed ∷ []) (spaces ++ (kept ++ text)) tail (literal_break line_feed) (blanks_ahead indent (fold_state_at rest))
          (λ after. refl)
          (seen-blanks breaks12 indent (kept ++ text) tail (fold_state_at rest) (ih.kept refl));
      value_is = fold-read indent rest;
      no_breaks = λ k. absurd (true≢false (sym other ∙ k));
      kept = λ k. absurd (true≢false (sym other ∙ k));
      rendered = rendered-append spaces (kept ++ text) (unbroken-rendered spaces (unbroken-replicate indent))
          (rendered-append kept text (unbroken-rendered kept no_kept) ih.rendered);
      indented = rw (append_assoc spaces (kept ++ text) (quote ∷ []), append_assoc kept text (quote ∷ []))
          (fold-indented indent (kept ++ (text ++ quote ∷ [])) wide (unbroken-indented kept (text ++ quote ∷ []) no_kept ih.indented));
    })

-- a fold ends at its indentation, or after the backslash
pub kept-column : (rest : Text) (column : ℕ) → column ≤ column_after (space_kept rest) column
kept-column rest column = let e = unbroken-column (space_kept rest) column (kept-unbroken rest) in omega (arith, e)

margin-small : (before : Option ℕ) → margin before ≤ 1
margin-small before = grind (arith)

-- the cursor after a character's text
pub fits-character : (unicode : Bool) (indent : ℕ) (before : Option ℕ) (c : ℕ) (cursor : Cursor) → Fits indent before cursor
    → Fits indent (Some c) (render_text (character_text unicode c) cursor).cursor
fits-character unicode indent before c cursor x = grind (arith, nat_tests, unbroken-column, character-unbroken, character-long, margin-small)

module _ (breaks12 unicode : Bool) (limit : Option ℕ) (indent : ℕ) (wide : 2 ≤ indent) (tail : Text) where
  -- the text after a character
  abbrev Follows : (c : ℕ) (rest : Text) → Type 0
  Follows c rest =
      (next : Cursor) → Fits indent (Some c) next → Inside breaks12 tail (Some c) rest (double_inside unicode limit indent (Some c) rest next).text

  -- a character's text, and the text after it
  abbrev Goes : (before : Option ℕ) (rest : Text) → Rendered → ℕ → Type 0
  Goes before rest rendered c =
      Follows c rest → Inside breaks12 tail before (c ∷ rest) (render_then rendered (double_inside unicode limit indent (Some c) rest)).text

  space-folded : (before : Option ℕ) (rest : Text) (cursor : Cursor) → is_some_non_space before ≡ true → breaks_line indent cursor ≡ true
      → Goes before rest (double_fold indent rest cursor) space
  space-folded before rest cursor other breaks ih = grind (arith, kept-column, inside-fold)

  space-stays : (before : Option ℕ) (rest : Text) (cursor : Cursor) → Fits indent before cursor
      → Goes before rest (render_text (character_text unicode space) cursor) space
  space-stays before rest cursor fits ih = grind (arith, fits-character, space-text, inside-space)

  -- one character and the text after it
  step : (before : Option ℕ) (c : ℕ) (rest : Text) (cursor : Cursor) (folds spaced : Bool)
      → (is_space c && may_fold before rest && is_past_width limit cursor) ≡ folds → is_space c ≡ spaced
      → scalar c ≡ true → Fits indent before cursor
      → Goes before rest (if folds then double_fold indent rest cursor else render_text (character_text unicode c) cursor) c
  step before c rest cursor true spaced is is_s h fits ih =
      let p : ((is_space c && may_fold before rest) ≡ true) × (is_past_width limit cursor ≡ true) = and_parts _ _ is in
      let q : (is_space c ≡ true) × (may_fold before rest ≡ true) = and_parts _ _ p.0 in
      let e : c ≡ space = eqb-true c space q.0 in
      let other = may-fold-other before rest q.1 in
      let breaks = fits-breaks indent before cursor other fits in
      subst (Goes before rest (double_fold indent rest cursor)) (sym e) (space-folded before rest cursor other breaks) ih
  step before c rest cursor false true is is_s h fits ih =
      let e : c ≡ space = eqb-true c space is_s in
      subst (λ (k : ℕ). Goes before rest (render_text (character_text unicode k) cursor) k) (sym e) (space-stays before rest cursor fits) ih
  step before c rest cursor false false is is_s h fits ih =
      inside-other breaks12 unicode tail before c rest _ h is_s (ih _ (fits-character unicode indent before c cursor fits))

  -- the whole text between the quotes
  inside-reads : (value : Text) (before : Option ℕ) (cursor : Cursor) → all_scalars value ≡ true → Fits indent before cursor
      → Inside breaks12 tail before value (double_inside unicode limit indent before value cursor).text
  inside-reads [] before cursor h fits = inside-nothing breaks12 tail before
  inside-reads (c ∷ rest) before cursor h fits =
      let p : (scalar c ≡ true) × (all_scalars rest ≡ true) = and_parts _ _ h in
      step before c rest cursor _ (is_space c) refl refl p.0 fits (λ next. inside-reads rest (Some c) next p.1)

-- the cursor after the opening quote
abbrev pub quoted_cursor : Cursor → Cursor
quoted_cursor cursor = (render_quote cursor).cursor

body-inside : (breaks12 unicode : Bool) (limit : Option ℕ) (indent : ℕ) (value : Text) (cursor : Cursor) (tail : Text)
    → 2 ≤ indent → all_scalars value ≡ true
    → Inside breaks12 tail None value (double_inside unicode limit indent None value (quoted_cursor cursor)).text
body-inside breaks12 unicode limit indent value cursor tail wide h = grind (arith, nat_tests, inside-reads, quoted_cursor, and_right)

abbrev reading_before : (rest value : Text) → Option QuotedReading
reading_before rest value = Some (record { value = value; rest = rest })

-- a body at the start of a text reads as the value, and the text after its closing quote is the rest
pub double-prefix : (breaks12 unicode : Bool) (limit : Option ℕ) (indent : ℕ) (value : Text) (cursor : Cursor) (rest : Text)
    → 2 ≤ indent → all_scalars value ≡ true
    → double_quoted_prefix breaks12 ((double_quoted_body unicode limit indent value cursor).text ++ rest)
    ≡ Some (record { value = value; rest = rest })
double-prefix breaks12 unicode limit indent value cursor rest wide h =
    let inside = body-inside breaks12 unicode limit indent value cursor rest wide h in
    let text = (double_inside unicode limit indent None value (quoted_cursor cursor)).text in
    let same : folding_read inside.seen.units ≡ value = ap fold_state_text inside.seen.prefix_is ∙ inside.value_is in
    rw (append_assoc text (quote ∷ []) rest, inside.seen.are) (ap (reading_before rest) same)

-- a body holds neither CR nor U+0085
pub double-rendered : (unicode : Bool) (limit : Option ℕ) (indent : ℕ) (value : Text) (cursor : Cursor)
    → 2 ≤ indent → all_scalars value ≡ true
    → is_rendered_text (double_quoted_body unicode limit indent value cursor).text ≡ true
double-rendered unicode limit indent value cursor wide h =
    let inside = body-inside false unicode limit indent value cursor [] wide h in
    rendered-append (double_inside unicode limit indent None value (quoted_cursor cursor)).text (quote ∷ []) inside.rendered refl

-- a body, however its line breaks are written, reads as the value
pub double-reads : (breaks12 unicode : Bool) (limit : Option ℕ) (indent : ℕ) (value : Text) (cursor : Cursor) (setting : LineBreak)
    → 2 ≤ indent → all_scalars value ≡ true
    → read_double breaks12
    (with_line_breaks_read (with_breaks_written setting (double_quoted_body unicode limit indent value cursor).text))
    ≡ Some value
double-reads breaks12 unicode limit indent value cursor setting wide h =
    let body = (double_quoted_body unicode limit indent value cursor).text in
    let prefix = double-prefix breaks12 unicode limit indent value cursor [] wide h in
    ap (read_double breaks12) (breaks-round setting body (double-rendered unicode limit indent value cursor wide h))
    ∙ ap value_alone (subst (λ (t : Text). double_quoted_prefix breaks12 t ≡ reading_before [] value) (append-nil body) prefix)

-- each nonempty line of a body after the first begins with two spaces, however its line breaks are written
pub double-indented : (unicode : Bool) (limit : Option ℕ) (indent : ℕ) (value : Text) (cursor : Cursor) (setting : LineBreak)
    → 2 ≤ indent → all_scalars value ≡ true
    → is_indented_text (with_breaks_written setting (double_quoted_body unicode limit indent value cursor).text) ≡ true
double-indented unicode limit indent value cursor setting wide h =
    let inside = body-inside false unicode limit indent value cursor [] wide h in
    indented-written setting (double_quoted_body unicode limit indent value cursor).text inside.indented
