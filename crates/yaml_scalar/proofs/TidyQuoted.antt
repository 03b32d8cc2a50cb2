-- A double-quoted body is tidy: each of its lines after the first begins at its indentation and goes on with a character that is
-- no space, and no space precedes a break.
use Rattle.yaml_scalar.proofs.Common.{ℕ, ◌≤◌, if◌then◌else◌, ◌==◌, Option, None, Some, replicate, Bool, false, true, ◌&&◌, [], ◌++◌, ◌∷◌, refl, ◌≡◌, eqb-true}
use Rattle.yaml_scalar.proofs.Common.{true≢false, append_assoc, inl, inr, ap, subst, sym, ◌∙◌, arith, and_parts, and_right, nat_tests, list_all, Text}
use Rattle.yaml_scalar.proofs.Common.{line_feed, space, tab, is_space, Cursor, Rendered, render_then, render_text, breaks_line, is_past_width, is_read_break}
use Rattle.yaml_scalar.proofs.Common.{begins_with_break, quote, backslash, escape_text, needs_escape, character_text, is_some_non_space, may_fold, space_kept}
use Rattle.yaml_scalar.proofs.Common.{double_fold, double_inside, double_quoted_body}
use Rattle.yaml_scalar.proofs.{LineFolds.unlike, Sparing.is_graph, Sparing.escape_graph, Unbroken.unescaped}
use Rattle.yaml_scalar.proofs.DeepLines.{Ink, BeginsInk, AllInk, space_unbroken, ink_unbroken, IsEven, even_ink, even_space, even_line, even_nothing}
use Rattle.yaml_scalar.proofs.DoubleReads.{space-text, may-fold-other, Fits, fits-breaks, kept-column, fits-character, quoted_cursor}
use Rattle.yaml_base.proofs.stream_lines.StreamLineLaws.{break_line}

-- printable ASCII breaks no line
pub graph_no_break : (breaks12 : Bool) (c : ℕ) → is_graph c ≡ true → is_read_break breaks12 c ≡ false
graph_no_break breaks12 c h = break_line breaks12 c (grind (arith, nat_tests))

-- and but for the space is none
graph_no_space : (c : ℕ) → is_graph c ≡ true → (c == space) ≡ false
graph_no_space c h = grind (arith, nat_tests)

-- nor is it a tab
graph_no_tab : (c : ℕ) → is_graph c ≡ true → (c == tab) ≡ false
graph_no_tab c h = grind (arith, nat_tests)

-- printable ASCII but the space is ink
graph_ink : (breaks12 : Bool) (c : ℕ) → is_graph c ≡ true → Ink breaks12 c
graph_ink breaks12 c h = record { no_space = graph_no_space c h; no_tab = graph_no_tab c h; no_break = graph_no_break breaks12 c h }

-- a text of it is all ink
graph_inks : (breaks12 : Bool) (text : Text) → list_all is_graph text ≡ true → AllInk breaks12 text
graph_inks breaks12 [] h = tt
graph_inks breaks12 (c ∷ rest) h = let p = and_parts (is_graph c) (list_all is_graph rest) h in (graph_ink breaks12 c p.0, graph_inks breaks12 rest p.1)

module _ (breaks12 unicode : Bool) (count indent : ℕ) (enough : count ≤ indent) where
  -- a character that is no space and needs no escape
  raw_ink : (c : ℕ) → is_space c ≡ false → needs_escape unicode c ≡ false → Ink breaks12 c
  raw_ink c s e = grind (arith, nat_tests, unescaped, unlike, tab, break_line)

  -- a character that is no space, as an escape or not
  character_inks : (c : ℕ) → is_space c ≡ false → AllInk breaks12 (character_text unicode c)
  character_inks c s = by (needs_escape unicode c) refl
    where
      by : (b : Bool) → needs_escape unicode c ≡ b → AllInk breaks12 (if b then escape_text c else c ∷ [])
      by true e = graph_inks breaks12 (escape_text c) (escape_graph c)
      by false e = (raw_ink c s e, tt)

  -- its text begins with ink
  character_begins : (c : ℕ) (text : Text) → is_space c ≡ false → BeginsInk breaks12 (character_text unicode c ++ text)
  character_begins c text s = by (needs_escape unicode c) refl
    where
      by : (b : Bool) → needs_escape unicode c ≡ b → BeginsInk breaks12 ((if b then escape_text c else c ∷ []) ++ text)
      by true e = graph_ink breaks12 backslash refl
      by false e = raw_ink c s e

  -- facts about a value's text from some character on, up to the closing quote
  record QuotedEven (before : Option ℕ) (value text : Text) : Type 0 where
    pub begins_unindented : IsEven breaks12 count text
    pub unbroken : is_some_non_space before ≡ false → begins_with_break breaks12 text ≡ false
    pub kept_even : is_some_non_space before ≡ false → IsEven breaks12 count (space_kept value ++ text)
    pub kept : is_some_non_space before ≡ false → BeginsInk breaks12 (space_kept value ++ text)

  -- the closing quote
  quoted_end : (before : Option ℕ) → QuotedEven before [] (quote ∷ [])
  quoted_end before = grind (arith, graph_ink, even_ink, even_nothing)

  -- a character that is no space
  quoted_other : (before : Option ℕ) (c : ℕ) (rest text : Text) → is_space c ≡ false → QuotedEven (Some c) rest text
      → QuotedEven before (c ∷ rest) (character_text unicode c ++ text)
  quoted_other before c rest text s ih =
      let even = even_ink breaks12 count (character_text unicode c) text (character_inks c s) ih.begins_unindented in
      let begins = character_begins c text s in
      record {
        begins_unindented = even;
        unbroken = λ e. ink_unbroken breaks12 (character_text unicode c ++ text) begins;
        kept_even = λ e. rw s even;
        kept = λ e. rw s begins;
      }

  -- a space that stays
  quoted_space : (before : Option ℕ) (rest text : Text) → QuotedEven (Some space) rest text → QuotedEven before (space ∷ rest) (space ∷ text)
  quoted_space before rest text ih = grind (arith, even_space, graph_ink, space_unbroken, even_ink)

  -- a space that is folded
  quoted_fold : (before : Option ℕ) (rest text : Text) → is_some_non_space before ≡ true → QuotedEven (Some space) rest text
      → QuotedEven before (space ∷ rest) (((line_feed ∷ replicate indent space) ++ space_kept rest) ++ text)
  quoted_fold before rest text other ih =
      let spaces = replicate indent space in
      let regroup : ((line_feed ∷ spaces) ++ space_kept rest) ++ text
      ≡ line_feed ∷ (spaces ++ (space_kept rest ++ text)) = ap (λ t. line_feed ∷ t) (append_assoc spaces (space_kept rest) text) in
      subst (λ (t : Text). QuotedEven before (space ∷ rest) t) (sym regroup) (record {
        begins_unindented = even_line breaks12 count indent line_feed (space_kept rest ++ text) enough refl (ih.kept refl) (ih.kept_even refl);
        unbroken = λ e. absurd (true≢false (sym other ∙ e));
        kept_even = λ e. absurd (true≢false (sym other ∙ e));
        kept = λ e. absurd (true≢false (sym other ∙ e));
      })

  module _ (limit : Option ℕ) where
    -- the text after a character
    abbrev Follows : (c : ℕ) (rest : Text) → Type 0
    Follows c rest = (next : Cursor) → Fits indent (Some c) next
        → QuotedEven (Some c) rest ((double_inside unicode limit indent (Some c) rest next).text ++ quote ∷ [])

    -- a character's text, and the text after it
    abbrev Goes : (before : Option ℕ) (rest : Text) → Rendered → ℕ → Type 0
    Goes before rest rendered c = Follows c rest
        → QuotedEven before (c ∷ rest) ((render_then rendered (double_inside unicode limit indent (Some c) rest)).text ++ quote ∷ [])

    -- a fold
    fold_goes : (before : Option ℕ) (rest : Text) (cursor : Cursor) → is_some_non_space before ≡ true → breaks_line indent cursor ≡ true
        → Goes before rest (double_fold indent rest cursor) space
    fold_goes before rest cursor other breaks ih =
        let next : Cursor = (double_fold indent rest cursor).cursor in
        let fits : Fits indent (Some space) next = inr (let le = kept-column rest indent in omega arith) in
        let more = (double_inside unicode limit indent (Some space) rest next).text in
        let folded : Text = (line_feed ∷ replicate indent space) ++ space_kept rest in
        rw breaks
        (subst (λ (t : Text). QuotedEven before (space ∷ rest) t) (sym (append_assoc folded more (quote ∷ [])))
        (quoted_fold before rest (more ++ quote ∷ []) other (ih next fits)))

    -- a space that stays
    space_goes : (before : Option ℕ) (rest : Text) (cursor : Cursor) → Fits indent before cursor
        → Goes before rest (render_text (character_text unicode space) cursor) space
    space_goes before rest cursor fits ih =
        let next = ih (render_text (character_text unicode space) cursor).cursor (fits-character unicode indent before space cursor fits) in
        rw (space-text unicode) (quoted_space before rest _ (rw (space-text unicode) at next))

    -- another character
    other_goes : (before : Option ℕ) (c : ℕ) (rest : Text) (cursor : Cursor) → is_space c ≡ false → Fits indent before cursor
        → Goes before rest (render_text (character_text unicode c) cursor) c
    other_goes before c rest cursor s fits ih =
        let next : Cursor = (render_text (character_text unicode c) cursor).cursor in
        let more = (double_inside unicode limit indent (Some c) rest next).text in
        subst (λ (t : Text). QuotedEven before (c ∷ rest) t) (sym (append_assoc (character_text unicode c) more (quote ∷ [])))
        (quoted_other before c rest (more ++ quote ∷ []) s (ih next (fits-character unicode indent before c cursor fits)))

    -- one character and the text after it
    quoted_step : (before : Option ℕ) (c : ℕ) (rest : Text) (cursor : Cursor) (folds spaced : Bool)
        → (is_space c && may_fold before rest && is_past_width limit cursor) ≡ folds → is_space c ≡ spaced → Fits indent before cursor
        → Goes before rest (if folds then double_fold indent rest cursor else render_text (character_text unicode c) cursor) c
    quoted_step before c rest cursor true spaced is is_s fits ih =
        let p : ((is_space c && may_fold before rest) ≡ true) × (is_past_width limit cursor ≡ true) = and_parts _ _ is in
        let q : (is_space c ≡ true) × (may_fold before rest ≡ true) = and_parts _ _ p.0 in
        let e : c ≡ space = eqb-true c space q.0 in
        let other = may-fold-other before rest q.1 in
        let breaks = fits-breaks indent before cursor other fits in
        subst (Goes before rest (double_fold indent rest cursor)) (sym e) (fold_goes before rest cursor other breaks) ih
    quoted_step before c rest cursor false true is is_s fits ih =
        let e : c ≡ space = eqb-true c space is_s in
        subst (λ (k : ℕ). Goes before rest (render_text (character_text unicode k) cursor) k) (sym e) (space_goes before rest cursor fits) ih
    quoted_step before c rest cursor false false is is_s fits ih = other_goes before c rest cursor is_s fits ih

    -- the whole text between the quotes, and the closing one
    quoted_inside : (value : Text) (before : Option ℕ) (cursor : Cursor) → Fits indent before cursor
        → QuotedEven before value ((double_inside unicode limit indent before value cursor).text ++ quote ∷ [])
    quoted_inside [] before cursor fits = quoted_end before
    quoted_inside (c ∷ rest) before cursor fits =
        quoted_step before c rest cursor _ (is_space c) refl refl fits (λ next. quoted_inside rest (Some c) next)

-- a double-quoted body, whatever the value: its lines are deep, and no space precedes a break
pub double_even : (breaks12 unicode : Bool) (count : ℕ) (limit : Option ℕ) (indent : ℕ) (value : Text) (cursor : Cursor) → count ≤ indent
    → IsEven breaks12 count (double_quoted_body unicode limit indent value cursor).text
double_even breaks12 unicode count limit indent value cursor enough =
    let inside = quoted_inside breaks12 unicode count indent enough limit value None (quoted_cursor cursor) (inl (and_right cursor.indention false refl)) in
    even_ink breaks12 count (quote ∷ []) ((double_inside unicode limit indent None value (quoted_cursor cursor)).text ++ quote ∷ [])
    (graph_ink breaks12 quote refl, tt) inside.begins_unindented
