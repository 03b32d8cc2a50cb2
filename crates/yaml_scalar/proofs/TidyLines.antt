-- Plain and single-quoted texts are tidy: their lines after the first begin at their indentation, and no space precedes a
-- break; a plain text has no blank and no break at its edges.
use Rattle.yaml_scalar.proofs.Common.{ℕ, ◌≤◌, if◌then◌else◌, ◌==◌, Option, Bool, false, not, true, ◌&&◌, ◌||◌, [], ◌++◌, ◌∷◌, refl, ◌≡◌, eqb-true, true≢false}
use Rattle.yaml_scalar.proofs.Common.{append-nil, append_assoc, ap, subst, sym, ◌∙◌, and_parts, and_from, or_parts, or_from, not-true, false≢true, Text, space}
use Rattle.yaml_scalar.proofs.Common.{line_feed, tab, is_space, is_blank, is_break, Cursor, render_text, is_past_width, is_read_break, and-true, is_read_white}
use Rattle.yaml_scalar.proofs.Common.{begins_with_break, Charset, somewhere, begins_with, is_empty, is_special, begins_unlike_plain, bars_plain, allows_plain}
use Rattle.yaml_scalar.proofs.Common.{bars_single_quoted, allows_single_quoted, CharacterKind, Space, Break, Other, kind_of, is_same_kind, indentation}
use Rattle.yaml_scalar.proofs.Common.{plain_body, quotes_doubled, single_quote, single_quoted_body, begins_kind, step_text, render_steps, arith, nat_tests}
use Rattle.yaml_base.proofs.{Charsets.special_tab, Common.ends_white, Common.has_clean_edges}
use Rattle.yaml_scalar.proofs.{LineIndents.others_only, LineRuns.runs_by_steps, PlainStarts.kind_of_indicator, SingleReads.doubled_writes}
use Rattle.yaml_scalar.proofs.{blocks.BlockReads.ordinary}
use Rattle.yaml_scalar.proofs.LineFolds.{spaces_only, breaks_only}
use Rattle.yaml_scalar.proofs.DeepLines.{Ink, BeginsInk, AllInk, space_unbroken, ink_unbroken, deep_break, IsEven, even_ink, even_space, even_break, even_line}
use Rattle.yaml_scalar.proofs.DeepLines.{even_nothing}
use Rattle.yaml_scalar.proofs.PlainReads.{itself_writes, plain_is_single, plain_bars, plain_begins}

-- Kinds.

not_spaces : (s b : Bool) → s ≡ false → is_same_kind Space (if s then Space else if b then Break else Other) ≡ false
not_spaces s b e = grind (arith, nat_tests, true≢false)

not_breaks : (s b : Bool) → b ≡ false → is_same_kind Break (if s then Space else if b then Break else Other) ≡ false
not_breaks s b e = grind (arith, nat_tests, true≢false)

others_no_space : (s b : Bool) → (if s then Space else if b then Break else Other) ≡ Other → s ≡ false
others_no_space s b e = grind (arith, nat_tests)

-- a text that doesn't begin with a space doesn't begin with their kind, and likewise for breaks
kind_no_space : (rest : Text) → begins_with is_space rest ≡ false → begins_kind Space rest ≡ false
kind_no_space rest h = grind (arith, nat_tests, not_spaces, is_space, is_break)

kind_no_break : (rest : Text) → begins_with is_break rest ≡ false → begins_kind Break rest ≡ false
kind_no_break rest h = grind (arith, nat_tests, not_breaks, is_space, is_break)

-- a text goes on with another character than a space or a break, or ends before a closing quote
abbrev next_ink : (closed : Bool) → Text → Bool
next_ink closed [] = closed
next_ink closed (c ∷ rest) = is_same_kind Other (kind_of c)

third_kind : (kind : CharacterKind) → is_same_kind Space kind ≡ false → is_same_kind Break kind ≡ false → is_same_kind Other kind ≡ true
third_kind kind h k = grind (arith, nat_tests, true≢false)

next_other : (closed : Bool) (rest : Text) → begins_kind Space rest ≡ false → begins_kind Break rest ≡ false → (is_empty rest ≡ true → closed ≡ true)
    → next_ink closed rest ≡ true
next_other closed [] h k full = full refl
next_other closed (d ∷ rest) h k full = third_kind (kind_of d) h k

-- a value that isn't closed by a quote ends with no break
abbrev ends_closed : (closed : Bool) → Text → Bool
ends_closed closed [] = true
ends_closed closed (c ∷ []) = closed || not (is_break c)
ends_closed closed (c ∷ d ∷ rest) = ends_closed closed (d ∷ rest)

closed_rest : (closed : Bool) (c : ℕ) (rest : Text) → ends_closed closed (c ∷ rest) ≡ true → ends_closed closed rest ≡ true
closed_rest closed c rest h = grind (arith, nat_tests)

closed_break : (closed : Bool) (c : ℕ) (rest : Text) → ends_closed closed (c ∷ rest) ≡ true → is_break c ≡ true → is_empty rest ≡ true → closed ≡ true
closed_break closed c rest h b e = grind (arith, nat_tests, false≢true, not)

-- the closing quote, or nothing
abbrev ending_quote : Bool → Text
ending_quote closed = if closed then 39 ∷ [] else []

quote_ink : (breaks12 : Bool) → Ink breaks12 39
quote_ink breaks12 = grind (arith, nat_tests)

module _ (charset : Charset) (count indent : ℕ) (enough : count ≤ indent) (closed : Bool) where
  -- facts about a value's lines from some character on, up to the closing quote
  record LinesEven (before : CharacterKind) (value text : Text) : Type 0 where
    pub begins_unindented : IsEven charset.breaks12 count text
    pub ink : next_ink closed value ≡ true → BeginsInk charset.breaks12 text
    pub unbroken : is_same_kind before Space ≡ true → begins_kind Break value ≡ false → begins_with_break charset.breaks12 text ≡ false
    pub broken : is_same_kind before Break ≡ true → begins_kind Break value ≡ true → begins_with_break charset.breaks12 text ≡ true

  even_end : (closed : Bool) → IsEven charset.breaks12 count (ending_quote closed)
  even_end closed = grind (arith, nat_tests, even_ink, quote_ink, even_nothing)

  ink_end : (closed : Bool) → closed ≡ true → BeginsInk charset.breaks12 (ending_quote closed)
  ink_end closed h = grind (arith, nat_tests, quote_ink, false≢true)

  unbroken_end : (closed : Bool) → begins_with_break charset.breaks12 (ending_quote closed) ≡ false
  unbroken_end closed = grind (arith, nat_tests, quote_ink)

  lines_end : (before : CharacterKind) → LinesEven before [] (ending_quote closed)
  lines_end before = grind (arith, nat_tests, even_end, ink_end, unbroken_end, false≢true)

  -- a fold in place of a space
  space_folded : (before : CharacterKind) (rest text : Text) → is_same_kind before Space ≡ false → next_ink closed rest ≡ true → LinesEven Space rest text
      → LinesEven before (space ∷ rest) (line_feed ∷ (indentation indent ++ text))
  space_folded before rest text other next ih = record {
    begins_unindented = even_line charset.breaks12 count indent line_feed text enough refl (ih.ink next) ih.begins_unindented;
    ink = λ e. absurd (false≢true e);
    unbroken = λ e k. absurd (false≢true (sym other ∙ e));
    broken = λ e k. absurd (false≢true k);
  }

  -- a space that stays
  space_kept : (before : CharacterKind) (rest text : Text) → begins_kind Break rest ≡ false → LinesEven Space rest text
      → LinesEven before (space ∷ rest) (space ∷ text)
  space_kept before rest text next ih = grind (arith, nat_tests, even_space, false≢true, space_unbroken, ih.unbroken refl next)

  -- facts after a break
  break_begins : (before : CharacterKind) (c : ℕ) (rest text : Text) → kind_of c ≡ Break → is_read_break charset.breaks12 c ≡ true
      → IsEven charset.breaks12 count (c ∷ text) → LinesEven before (c ∷ rest) (c ∷ text)
  break_begins before c rest text k brk even = grind (arith, nat_tests, false≢true, is_same_kind, true≢false)

  -- a break, after LF if it is doubled
  break_doubled : (twice : Bool) (before : CharacterKind) (c : ℕ) (rest text : Text) → kind_of c ≡ Break → is_read_break charset.breaks12 c ≡ true
      → LinesEven before (c ∷ rest) (c ∷ text) → LinesEven before (c ∷ rest) ((if twice then line_feed ∷ [] else []) ++ (c ∷ text))
  break_doubled twice before c rest text k brk h = grind (arith, nat_tests, even_break, line_feed, deep_break, false≢true, is_same_kind, true≢false)

  -- a break that goes on, or the indentation after it
  break_line : (goes_on : Bool) (before : CharacterKind) (c : ℕ) (rest text : Text) → kind_of c ≡ Break → is_read_break charset.breaks12 c ≡ true
      → begins_kind Break rest ≡ goes_on → (goes_on ≡ false → next_ink closed rest ≡ true) → LinesEven Break rest text
      → LinesEven before (c ∷ rest) (c ∷ ((if goes_on then [] else indentation indent) ++ text))
  break_line true before c rest text k brk e next ih =
      break_begins before c rest text k brk
      (even_break charset.breaks12 count c text brk (deep_break charset.breaks12 count text (ih.broken refl e)) ih.begins_unindented)
  break_line false before c rest text k brk e next ih =
      break_begins before c rest (indentation indent ++ text) k brk
      (even_line charset.breaks12 count indent c text enough brk (ih.ink (next refl)) ih.begins_unindented)

  -- another character
  other_begins : (before : CharacterKind) (c : ℕ) (rest prefix text : Text) → kind_of c ≡ Other → AllInk charset.breaks12 prefix
      → BeginsInk charset.breaks12 (prefix ++ text)
      → LinesEven Other rest text → LinesEven before (c ∷ rest) (prefix ++ text)
  other_begins before c rest prefix text k inks begins ih = record {
    begins_unindented = even_ink charset.breaks12 count prefix text inks ih.begins_unindented;
    ink = λ e. begins;
    unbroken = λ e none. ink_unbroken charset.breaks12 (prefix ++ text) begins;
    broken = λ e h. absurd (false≢true (ap (is_same_kind Break) (sym k) ∙ h));
  }

  -- a character that isn't special and neither a space nor a break is ink
  ink_of : (c : ℕ) → is_special charset c ≡ false → kind_of c ≡ Other → Ink charset.breaks12 c
  ink_of c clean k = grind (arith, nat_tests, others_no_space, is_space, is_break, special_tab, ordinary, others_only)

  -- how each character of a value is written
  record InksEach (written : Text → Text) : Type 0 where
    pub inks : (c : ℕ) → Ink charset.breaks12 c → AllInk charset.breaks12 (written (c ∷ []))
    pub begins : (c : ℕ) (text : Text) → Ink charset.breaks12 c → BeginsInk charset.breaks12 (written (c ∷ []) ++ text)

  space_step : (folds : Bool) (before : CharacterKind) (rest text : Text) → begins_with is_break rest ≡ false → LinesEven Space rest text
      → LinesEven before (space ∷ rest)
      ((if folds && not (is_same_kind before Space || (is_empty rest || begins_kind Space rest)) then line_feed ∷ indentation indent else space ∷ []) ++ text)
  space_step folds before rest text clean ih = by (folds && not (is_same_kind before Space || (is_empty rest || begins_kind Space rest))) refl
    where
      by : (fold : Bool) → (folds && not (is_same_kind before Space || (is_empty rest || begins_kind Space rest))) ≡ fold
          → LinesEven before (space ∷ rest) ((if fold then line_feed ∷ indentation indent else space ∷ []) ++ text)
      by false e = space_kept before rest text (kind_no_break rest clean) ih
      by true e =
          let none = or_parts (is_same_kind before Space) _ (not-true _ (and_parts folds _ e).1) in
          let next = or_parts (is_empty rest) _ none.1 in
          space_folded before rest text none.0
          (next_other closed rest next.1 (kind_no_break rest clean) (λ full. absurd (false≢true (sym next.0 ∙ full)))) ih

  module _ (written : Text → Text) (each : InksEach written) where
    step_even : (folds : Bool) (before kind : CharacterKind) (c : ℕ) (rest text : Text) → kind_of c ≡ kind → bars_single_quoted charset c rest ≡ false
        → ends_closed closed (c ∷ rest) ≡ true → LinesEven kind rest text
        → LinesEven before (c ∷ rest) (step_text written folds indent before kind c rest ++ text)
    step_even folds before Space c rest text k clean ends ih =
        let s : is_space c ≡ true = spaces_only (is_space c) (is_break c) k in
        let parts = or_parts _ _ (or_parts _ _ clean).0 in
        let unbroken : begins_with is_break rest ≡ false = sym (ap (λ (b : Bool). b && begins_with is_break rest) s) ∙ parts.1 in
        rw (eqb-true c space s) (space_step folds before rest text unbroken ih)
    step_even folds before Break c rest text k clean ends ih =
        let b : is_break c ≡ true = breaks_only (is_space c) (is_break c) k in
        let parts = or_parts _ _ clean in
        let special = (or_parts _ _ parts.0).0 in
        let brk : is_read_break charset.breaks12 c ≡ true = (ordinary charset c special).same_break ∙ b in
        let unspaced : begins_with is_space rest ≡ false = sym (ap (λ (b : Bool). b && begins_with is_space rest) b) ∙ parts.1 in
        let first = if c == line_feed && not (is_same_kind before Break) then line_feed ∷ [] else [] in
        let run = if begins_kind Break rest then [] else indentation indent in
        rw (append_assoc first (c ∷ run) text)
        (break_doubled (c == line_feed && not (is_same_kind before Break)) before c rest (run ++ text) k brk
        (break_line (begins_kind Break rest) before c rest text k brk refl
        (λ over. next_other closed rest (kind_no_space rest unspaced) over (closed_break closed c rest ends b)) ih))
    step_even folds before Other c rest text k clean ends ih =
        let special = (or_parts _ _ (or_parts _ _ clean).0).0 in
        let ink = ink_of c special k in
        other_begins before c rest (written (c ∷ [])) text k (each.inks c ink) (each.begins c text ink) ih

    -- the lines of a value that quotes may hold
    lines_even : (limit : Option ℕ) (before : CharacterKind) (value : Text) (cursor : Cursor) → somewhere (bars_single_quoted charset) value ≡ false
        → ends_closed closed value ≡ true → LinesEven before value ((render_steps written limit indent before value cursor).text ++ ending_quote closed)
    lines_even limit before [] cursor clean ends = lines_end before
    lines_even limit before (c ∷ rest) cursor clean ends =
        let folds = is_past_width limit cursor in
        let step = step_text written folds indent before (kind_of c) c rest in
        let later = (render_text step cursor).cursor in
        let more = (render_steps written limit indent (kind_of c) rest later).text in
        let parts = or_parts (bars_single_quoted charset c rest) (somewhere (bars_single_quoted charset) rest) clean in
        rw (append_assoc step more (ending_quote closed))
        (step_even folds before (kind_of c) c rest (more ++ ending_quote closed) refl parts.0 ends
        (lines_even limit (kind_of c) rest later parts.1 (closed_rest closed c rest ends)))

-- Single quotes.

doubled_inks : (breaks12 : Bool) (c : ℕ) → Ink breaks12 c → AllInk breaks12 (quotes_doubled (c ∷ []))
doubled_inks breaks12 c ink = by (c == 39)
  where
    by : (quoted : Bool) → AllInk breaks12 ((if quoted then 39 ∷ 39 ∷ [] else c ∷ []) ++ [])
    by quoted = grind (arith, nat_tests, quote_ink, ink)

doubled_begins : (breaks12 : Bool) (c : ℕ) (text : Text) → Ink breaks12 c → BeginsInk breaks12 (quotes_doubled (c ∷ []) ++ text)
doubled_begins breaks12 c text ink = by (c == 39)
  where
    by : (quoted : Bool) → BeginsInk breaks12 (((if quoted then 39 ∷ 39 ∷ [] else c ∷ []) ++ []) ++ text)
    by quoted = grind (arith, nat_tests, quote_ink, ink)

ends_always : (value : Text) → ends_closed true value ≡ true
ends_always (c ∷ d ∷ rest) = ends_always (d ∷ rest)
ends_always _ = refl

-- a single-quoted body: its lines are deep, and no space precedes a break
pub single_even : (charset : Charset) (count : ℕ) (limit : Option ℕ) (indent : ℕ) (value : Text) (cursor : Cursor) → count ≤ indent
    → allows_single_quoted charset value ≡ true → IsEven charset.breaks12 count (single_quoted_body limit indent value cursor).text
single_even charset count limit indent value cursor enough allowed =
    let after = (single_quote cursor).cursor in
    let each : InksEach charset count indent enough true
    quotes_doubled = record { inks = doubled_inks charset.breaks12; begins = doubled_begins charset.breaks12 } in
    let inside = lines_even charset count indent enough true quotes_doubled each limit Space value after (not-true _ allowed) (ends_always value) in
    rw (runs_by_steps quotes_doubled doubled_writes limit indent value after)
    (even_ink charset.breaks12 count (39 ∷ []) _ (quote_ink charset.breaks12, tt) inside.begins_unindented)

-- Plain.

-- a value that plain text may hold has no break, so it ends with none
plain_ends : (charset : Charset) (flow : Bool) (value : Text) → somewhere (bars_plain charset flow) value ≡ false → ends_closed false value ≡ true
plain_ends charset flow [] h = refl
plain_ends charset flow (c ∷ []) h = grind (arith, nat_tests, not, or_parts)
plain_ends charset flow (c ∷ d ∷ rest) h = plain_ends charset flow (d ∷ rest) (or_parts _ _ h).1

-- a plain body: its lines are deep, and no space precedes a break
pub plain_even : (charset : Charset) (flow : Bool) (count : ℕ) (limit : Option ℕ) (indent : ℕ) (value : Text) (cursor : Cursor) → count ≤ indent
    → allows_plain charset flow value ≡ true → IsEven charset.breaks12 count (plain_body limit indent value cursor).text
plain_even charset flow count limit indent value cursor enough allowed =
    let bars = plain_bars charset flow value allowed in
    let each : InksEach charset count indent enough false (λ text. text) = record { inks = λ c ink. (ink, tt); begins = λ c text ink. ink } in
    let text = (render_steps (λ text. text) limit indent Space value cursor).text in
    let lines = lines_even charset count indent enough false (λ text. text) each limit Space value cursor (plain_is_single charset flow value bars)
    (plain_ends charset flow value bars) in
    rw (runs_by_steps (λ text. text) itself_writes limit indent value cursor) (subst (IsEven charset.breaks12 count) (append-nil text) lines.begins_unindented)

-- a nonempty text ends as its nonempty end does
ends_append : (breaks12 : Bool) (prefix : Text) (c : ℕ) (rest : Text) → ends_white breaks12 (prefix ++ c ∷ rest) ≡ ends_white breaks12 (c ∷ rest)
ends_append breaks12 (x ∷ y ∷ prefix) c rest = ends_append breaks12 (y ∷ prefix) c rest
ends_append breaks12 _ c rest = refl

-- some text that ends with no blank and no break
record EndsInk (breaks12 : Bool) (text : Text) : Type 0 where
  pub first : ℕ
  pub more : Text
  pub is : text ≡ first ∷ more
  pub ends : ends_white breaks12 text ≡ false

ends_after : (breaks12 : Bool) (prefix text : Text) (c : ℕ) (rest : Text) → prefix ≡ c ∷ rest → EndsInk breaks12 text → EndsInk breaks12 (prefix ++ text)
ends_after breaks12 prefix text c rest e h = grind (arith, nat_tests, ends_white, ends_append)

-- a step of plain text holds a character
step_some : (folds : Bool) (indent : ℕ) (before kind : CharacterKind) (c : ℕ) (rest : Text)
    → (first : ℕ) × (more : Text) × (step_text (λ t. t) folds indent before kind c rest ≡ first ∷ more)
step_some folds indent before Space c rest = by (folds && not (is_same_kind before Space || (is_empty rest || begins_kind Space rest)))
  where
    by : (fold : Bool) → (first : ℕ) × (more : Text) × ((if fold then line_feed ∷ indentation indent else c ∷ []) ≡ first ∷ more)
    by true = (line_feed, indentation indent, refl)
    by false = (c, [], refl)
step_some folds indent before Break c rest = by (c == line_feed && not (is_same_kind before Break))
  where
    by : (twice : Bool)
        → (first : ℕ) × (more : Text) × (((if twice then line_feed ∷ [] else []) ++ (c ∷ (if begins_kind Break rest then [] else indentation indent)))
        ≡ first ∷ more)
    by true = (line_feed, c ∷ (if begins_kind Break rest then [] else indentation indent), refl)
    by false = (c, (if begins_kind Break rest then [] else indentation indent), refl)
step_some folds indent before Other c rest = (c, [], refl)

-- a character of plain text that is no space is no blank and no break
plain_white : (charset : Charset) (flow : Bool) (c : ℕ) (rest : Text) → bars_plain charset flow c rest ≡ false → is_space c ≡ false
    → is_read_white charset.breaks12 c ≡ false
plain_white charset flow c rest h s = grind (arith, nat_tests, or_parts, or_from, is_blank, is_read_break, is_space, tab, special_tab, ordinary)

-- the last character of plain text is no space
plain_last : (charset : Charset) (flow : Bool) (c : ℕ) → bars_plain charset flow c [] ≡ false → is_space c ≡ false
plain_last charset flow c h = sym (and-true (is_space c)) ∙ (or_parts _ _ (or_parts _ _ (or_parts _ _ h).0).0).1

plain_kind : (charset : Charset) (flow : Bool) (c : ℕ) (rest : Text) → bars_plain charset flow c rest ≡ false → is_space c ≡ false → kind_of c ≡ Other
plain_kind charset flow c rest h s = grind (arith, nat_tests, kind_of_indicator, is_space, is_break, or_parts)

-- a value's lines end as the value does
lines_end_ink : (charset : Charset) (flow : Bool) (limit : Option ℕ) (indent : ℕ) (before : CharacterKind) (c : ℕ) (rest : Text) (cursor : Cursor)
    → somewhere (bars_plain charset flow) (c ∷ rest) ≡ false → EndsInk charset.breaks12 (render_steps (λ t. t) limit indent before (c ∷ rest) cursor).text
lines_end_ink charset flow limit indent before c [] cursor h =
    let bars = (or_parts _ _ h).0 in
    let s = plain_last charset flow c bars in
    let k = plain_kind charset flow c [] bars s in
    let white = plain_white charset flow c [] bars s in
    rw k (record { first = c; more = []; is = refl; ends = white })
lines_end_ink charset flow limit indent before c (d ∷ rest) cursor h =
    let folds = is_past_width limit cursor in
    let step = step_text (λ t. t) folds indent before (kind_of c) c (d ∷ rest) in
    let some = step_some folds indent before (kind_of c) c (d ∷ rest) in
    ends_after charset.breaks12 step _ some.0 some.1 some.2
    (lines_end_ink charset flow limit indent (kind_of c) d rest (render_text step cursor).cursor (or_parts _ _ h).1)

edges_of : (breaks12 : Bool) (c : ℕ) (rest : Text) → is_read_white breaks12 c ≡ false → ends_white breaks12 (c ∷ rest) ≡ false
    → has_clean_edges breaks12 (c ∷ rest) ≡ true
edges_of breaks12 c rest h k = and_from _ _ (ap not h) (ap not k)

lines_edges : (charset : Charset) (flow : Bool) (limit : Option ℕ) (indent : ℕ) (value : Text) (cursor : Cursor)
    → somewhere (bars_plain charset flow) value ≡ false
    → begins_unlike_plain value ≡ false → has_clean_edges charset.breaks12 (render_steps (λ t. t) limit indent Space value cursor).text ≡ true
lines_edges charset flow limit indent [] cursor h begins = refl
lines_edges charset flow limit indent (c ∷ rest) cursor h begins =
    let bars = (or_parts _ _ h).0 in
    let s : is_space c ≡ false = (or_parts _ _ (or_parts _ _ (or_parts _ _ begins).0).0).0 in
    let k = plain_kind charset flow c rest bars s in
    let ends = (lines_end_ink charset flow limit indent Space c rest cursor h).ends in
    let more = (render_steps (λ t. t) limit indent Other rest (render_text (c ∷ []) cursor).cursor).text in
    rw k (edges_of charset.breaks12 c more (plain_white charset flow c rest bars s) (rw k at ends))

-- a plain body has no blank and no break at its edges
pub plain_edges : (charset : Charset) (flow : Bool) (limit : Option ℕ) (indent : ℕ) (value : Text) (cursor : Cursor) → allows_plain charset flow value ≡ true
    → has_clean_edges charset.breaks12 (plain_body limit indent value cursor).text ≡ true
plain_edges charset flow limit indent value cursor allowed = grind (arith, nat_tests, runs_by_steps, itself_writes, lines_edges, plain_bars, plain_begins)
