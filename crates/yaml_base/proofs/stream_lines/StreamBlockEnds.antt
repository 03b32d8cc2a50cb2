-- The end of a block scalar: at a line's start if its value ends in a break, and elsewhere after an indicator that strips.
use Rattle.yaml_base.proofs.Common.{ℕ, ◌+◌, ◌≤◌, if◌then◌else◌, ◌==◌, Option, Bool, false, not, true, ◌&&◌, ◌||◌, List, [], ◌++◌, ◌∷◌, refl, ◌≡◌, true≢false}
use Rattle.yaml_base.proofs.Common.{append_assoc, ap, sym, ◌∙◌, arith, or_parts, false≢true, nat_tests, Text, line_feed, line_separator, paragraph_separator}
use Rattle.yaml_base.proofs.Common.{is_space, is_break, is_printable, Cursor, column_after, ScalarStyle, not-true, not-false, is_read_break, strip}
use Rattle.yaml_base.proofs.Common.{after_digit, chomping_first, Charset, Allowances, somewhere, is_special, bars_literal, allows_literal, tab, ending}
use Rattle.yaml_base.specs.{Cursor.next_column, scalars.Analysis.begins_with, scalars.Folded.cut_line, scalars.Folded.next_line_unindented, scalars.Lines.Part}
use Rattle.yaml_base.specs.{scalars.Lines.line, scalars.Lines.line_break, scalars.Lines.begun, scalars.Literal.indented}
use Rattle.yaml_base.proofs.Common.{indentation_hint, ending_hint, render_hint, ends_in_break, folded_parts, parts, is_block, fitting_style}
use Rattle.yaml_base.specs.declared.scalars.Ending.{Ending}
use Rattle.yaml_base.specs.declared.scalars.Ending.TheVariants.{WithoutBreak, OneBreak, MoreBreaks}
use Rattle.yaml_base.specs.{CommentReading.is_keep, scalars.BlockHeader.begins_blank, scalars.BlockHeader.ending_open_ended}

-- Values that end in a break

-- a text that ends in a break
pub record EndsBreak (text : Text) : Type 0 where
  pub prefix : Text
  pub last : ℕ
  pub is : text ≡ prefix ++ (last ∷ [])
  pub breaks : is_break last ≡ true

-- a text that is seen to end in a break does
pub ending_breaks : (value : Text) → ends_in_break (ending value) ≡ true → EndsBreak value
ending_breaks [] h = absurd (false≢true h)
ending_breaks (c ∷ []) h = by (is_break c) refl h
  where
    by : (x : Bool) → is_break c ≡ x → ends_in_break (if x then MoreBreaks else WithoutBreak) ≡ true → EndsBreak (c ∷ [])
    by true e h = record { prefix = []; last = c; is = refl; breaks = e }
    by false e h = absurd (false≢true h)
ending_breaks (c ∷ d ∷ []) h = by (is_break d) refl h
  where
    by : (x : Bool) → is_break d ≡ x → ends_in_break (if x then (if is_break c then MoreBreaks else OneBreak) else WithoutBreak) ≡ true
        → EndsBreak (c ∷ d ∷ [])
    by true e h = record { prefix = c ∷ []; last = d; is = refl; breaks = e }
    by false e h = absurd (false≢true h)
ending_breaks (c ∷ d ∷ e ∷ rest) h =
    let more = ending_breaks (d ∷ e ∷ rest) h in record { prefix = c ∷ more.prefix; last = more.last; is = ap (λ t. c ∷ t) more.is; breaks = more.breaks }

-- parts whose last is this break
pub record EndsPart (all : List Part) (b : ℕ) : Type 0 where
  pub prefix : List Part
  pub is : all ≡ prefix ++ (line_break b ∷ [])

-- those of such a text
parts_end : (prefix : Text) (b : ℕ) → is_break b ≡ true → EndsPart (parts (prefix ++ (b ∷ []))) b
parts_end [] b h = record { prefix = []; is = ap (λ x. if x then line_break b ∷ [] else begun b []) h }
parts_end (c ∷ prefix) b h = by (is_break c) (parts_end prefix b h)
  where
    shown : (prefix : List Part) → EndsPart (begun c (prefix ++ (line_break b ∷ []))) b
    shown [] = record { prefix = line (c ∷ []) ∷ []; is = refl }
    shown (line text ∷ prefix) = record { prefix = line (c ∷ text) ∷ prefix; is = refl }
    shown (line_break d ∷ prefix) = record { prefix = line (c ∷ []) ∷ line_break d ∷ prefix; is = refl }

    by : (x : Bool) → EndsPart (parts (prefix ++ (b ∷ []))) b
        → EndsPart (if x then line_break c ∷ parts (prefix ++ (b ∷ [])) else begun c (parts (prefix ++ (b ∷ [])))) b
    by true more = record { prefix = line_break c ∷ more.prefix; is = ap (λ t. line_break c ∷ t) more.is }
    by false more = let s = shown more.prefix in record { prefix = s.prefix; is = ap (begun c) more.is ∙ s.is }

-- and when long lines are cut
folded_end : (limit : Option ℕ) (indent : ℕ) (even : Bool) (prefix : List Part) (b : ℕ)
    → EndsPart (folded_parts limit indent even (prefix ++ (line_break b ∷ []))) b
folded_end limit indent even [] b = grind (arith)
folded_end limit indent even (line text ∷ prefix) b =
    let more = folded_end limit indent (not (begins_with is_space text)) prefix b in
    record {
      prefix = cut_line limit indent text ++ more.prefix;
      is = ap (λ t. cut_line limit indent text ++ t) more.is ∙ sym (append_assoc (cut_line limit indent text) more.prefix (line_break b ∷ []));
    }
folded_end limit indent even (line_break d ∷ prefix) b =
    let more = folded_end limit indent false prefix b in
    let before = if even && d == line_feed && next_line_unindented
    (prefix ++ (line_break b ∷ [])) then line_break d ∷ line_break d ∷ [] else line_break d ∷ [] in
    record { prefix = before ++ more.prefix; is = ap (λ t. before ++ t) more.is ∙ sym (append_assoc before more.prefix (line_break b ∷ [])) }

-- such parts are written with that break last
indented_end : (indent : ℕ) (prefix : List Part) (b : ℕ) → indented indent (prefix ++ (line_break b ∷ [])) ≡ indented indent prefix ++ (b ∷ [])
indented_end indent [] b = refl
indented_end indent (line text ∷ prefix) b = grind (arith, append_assoc, indented_end indent prefix b)
indented_end indent (line_break d ∷ prefix) b = ap (λ t. d ∷ t) (indented_end indent prefix b)

-- lines that end with this break
pub record EndsLines (lines : Text) (b : ℕ) : Type 0 where
  pub prefix : Text
  pub is : lines ≡ prefix ++ (b ∷ [])

-- a literal value's do
pub literal_end : (indent : ℕ) (value : Text) (end : EndsBreak value) → EndsLines (indented indent (parts value)) end.last
literal_end indent value end =
    let cut = parts_end end.prefix end.last end.breaks in
    record {
      prefix = indented indent cut.prefix;
      is = ap (λ t. indented indent (parts t)) end.is ∙ ap (indented indent) cut.is
          ∙ indented_end indent cut.prefix end.last;
    }

-- and a folded one's
pub folded_lines_end : (limit : Option ℕ) (indent : ℕ) (value : Text) (end : EndsBreak value)
    → EndsLines (indented indent (folded_parts limit indent false (parts value))) end.last
folded_lines_end limit indent value end =
    let cut = parts_end end.prefix end.last end.breaks in
    let folds = folded_end limit indent false cut.prefix end.last in
    record {
      prefix = indented indent folds.prefix;
      is =
          ap (λ t. indented indent (folded_parts limit indent false (parts t))) end.is
          ∙ ap (λ ps. indented indent (folded_parts limit indent false ps)) cut.is
          ∙ ap (indented indent) folds.is ∙ indented_end indent folds.prefix end.last;
    }

-- after a break the column is that of a line's start
pub column_ended : (prefix : Text) (b column : ℕ) → is_break b ≡ true → column_after (prefix ++ (b ∷ [])) column ≡ 0
column_ended [] b column h = ap (λ x. if x then 0 else column + 1) h
column_ended (c ∷ prefix) b column h = column_ended prefix b (next_column c column) h

-- Characters

-- a test that passes nowhere doesn't pass at the end
nowhere_last : (test : ℕ → Text → Bool) (prefix : Text) (b : ℕ) → somewhere test (prefix ++ (b ∷ [])) ≡ false → test b [] ≡ false
nowhere_last test [] b h = (or_parts (test b []) false h).0
nowhere_last test (c ∷ prefix) b h = nowhere_last test prefix b (or_parts (test c (prefix ++ (b ∷ []))) (somewhere test (prefix ++ (b ∷ []))) h).1

-- a break is no tab
break_no_tab : (c : ℕ) → is_break c ≡ true → (c == tab) ≡ false
break_no_tab c breaks = grind (arith, nat_tests, breaks)

-- the last break of a value that may be a block scalar is one that is read
pub last_is_read : (charset : Charset) (value : Text) (end : EndsBreak value) → allows_literal charset value ≡ true
    → is_read_break charset.breaks12 end.last ≡ true
last_is_read charset value end allowed =
    let nowhere =
    (or_parts _ _ (not-true _ allowed)).1 in
    let but_tab = (or_parts _ _ (nowhere_last (bars_literal charset) end.prefix end.last (ap (somewhere (bars_literal charset)) (sym end.is) ∙ nowhere))).0 in
    let special = ap (λ x. not x && is_special charset end.last) (sym (break_no_tab end.last end.breaks)) ∙ but_tab in
    let parts =
    or_parts _ _ special in
    by charset.breaks12 end.last end.breaks (not-false (is_printable end.last) (or_parts _ _ parts.0).0) parts.1
  where
    by : (breaks12 : Bool) (b : ℕ) → is_break b ≡ true → is_printable b ≡ true → (breaks12 && (b == line_separator || b == paragraph_separator)) ≡ false
        → is_read_break breaks12 b ≡ true
    by true b breaks shown none = grind (arith, nat_tests, breaks, shown, none)
    by false b breaks shown none = grind (arith, nat_tests, breaks, shown)

-- Indicators

-- a hint is written as it is
pub hint_text : (hint : Text) (cursor : Cursor) → (render_hint hint cursor).text ≡ hint
hint_text hint cursor = grind (arith, nat_tests)

-- if a value ends in no break the header strips
pub strips : (best_indent : ℕ) (value rest : Text) → 2 ≤ best_indent → best_indent ≤ 9 → ends_in_break (ending value) ≡ false
    → chomping_first (after_digit ((indentation_hint best_indent value ++ ending_hint (ending value)) ++ rest)) ≡ strip
strips best_indent value rest low high h = grind (arith, true≢false)

-- it keeps all final breaks only if there are more than one, or a break alone
pub header_drops : (best_indent : ℕ) (value rest : Text) → 2 ≤ best_indent → best_indent ≤ 9
    → (ends_in_break (ending value) && ending_open_ended (ending value) == 2) ≡ false
    → is_keep (chomping_first (after_digit ((indentation_hint best_indent value ++ ending_hint (ending value)) ++ (line_feed ∷ rest)))) ≡ false
header_drops best_indent value rest low high h = by (ending value) h (begins_blank value)
  where
    by : (ending : Ending) → (ends_in_break ending && ending_open_ended ending == 2) ≡ false → (blank : Bool)
        → is_keep (chomping_first (after_digit (((if blank then (48 + best_indent) ∷ [] else []) ++ ending_hint ending) ++ (line_feed ∷ rest)))) ≡ false
    by MoreBreaks h blank = absurd (true≢false h)
    by WithoutBreak h true = grind (arith, nat_tests)
    by WithoutBreak h false = refl
    by OneBreak h true = grind (arith, nat_tests)
    by OneBreak h false = refl

-- Styles

-- a block style is chosen only if it fits
pub block_fitting : (allowed : Allowances) (plain_fits block_fits : Bool) (asked : ScalarStyle)
    → is_block (fitting_style allowed plain_fits block_fits asked) ≡ true → block_fits ≡ true
block_fitting allowed plain_fits block_fits asked h = grind (arith, nat_tests, false≢true)
