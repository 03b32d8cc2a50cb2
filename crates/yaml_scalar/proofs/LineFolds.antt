-- Folding reads the lines of plain and single-quoted text as the value.
use Rattle.yaml_scalar.proofs.Common.{arith, suc, zero, ℕ, if◌then◌else◌, ◌==◌, Option, Bool, false, not, true, ◌&&◌, ◌||◌, [], map, ◌++◌, ◌∷◌, refl, ◌≡◌}
use Rattle.yaml_scalar.proofs.Common.{eqb-true, ap, sym, ◌∙◌, and-false, and_parts, and_from, or_parts, not_from_false, not-false, not-true, list_any}
use Rattle.yaml_scalar.proofs.Common.{Text, line_feed, carriage_return, next_line, space, is_space, is_break, is_printable, Cursor, is_past_width, nat_tests}
use Rattle.yaml_scalar.proofs.Common.{is_rendered_text, FoldUnit, literal_blank, literal_break, itself, unit_of, FoldState, fold_state_text, prepend_unit}
use Rattle.yaml_scalar.proofs.Common.{fold_state_of, folding_read, Charset, somewhere, begins_with, is_empty, is_special, bars_single_quoted, CharacterKind}
use Rattle.yaml_scalar.proofs.Common.{Space, Break, Other, kind_of, is_same_kind, indentation, begins_kind, step_text}
use Rattle.yaml_base.specs.reading.ReadFolding.{run_read}
use Rattle.yaml_scalar.proofs.LineTexts.{bare_steps}
use Rattle.yaml_scalar.proofs.Common.{false_from_ne_true, false≢true}

-- the unit that a reader finds in a character of a kind
abbrev pub unit_of_kind : CharacterKind → ℕ → FoldUnit
unit_of_kind Space c = literal_blank c
unit_of_kind Break c = literal_break c
unit_of_kind Other c = itself c

-- a printable character is none that is not
pub unlike : (c d : ℕ) → is_printable c ≡ true → is_printable d ≡ false → (c == d) ≡ false
unlike c d p q = false_from_ne_true (c == d) (λ e. false≢true (sym q ∙ rw (eqb-true c d e) at p))

-- the tests of a reader and of a writer, on each character that both tell apart
same_unit :
    (c : ℕ) (is_sp is_tab is_lf is_cr is_nel is_ls is_ps breaks12 : Bool) →
    is_tab ≡ false → is_cr ≡ false → is_nel ≡ false → (breaks12 && (is_ls || is_ps)) ≡ false →
    (if is_sp || is_tab then literal_blank c
    else if is_lf || (not breaks12 && (is_ls || is_ps)) then literal_break c else itself c) ≡
    unit_of_kind (if is_sp then Space else if is_lf || is_cr || is_nel || is_ls || is_ps then Break else Other) c
same_unit c true is_tab is_lf is_cr is_nel is_ls is_ps breaks12 t r n s = refl
same_unit c false is_tab true is_cr is_nel is_ls is_ps breaks12 t r n s = simp t
same_unit c false is_tab false is_cr is_nel is_ls is_ps true t r n s = simp (t, r, n, s)
same_unit c false is_tab false is_cr is_nel true is_ps false t r n s = simp (t, r, n)
same_unit c false is_tab false is_cr is_nel false true false t r n s = simp (t, r, n)
same_unit c false is_tab false is_cr is_nel false false false t r n s = simp (t, r, n)

-- the reader and the writer agree on the kind of a character that isn't special
pub unit_by_kind :
    (charset : Charset) (c : ℕ) → is_special charset c ≡ false → unit_of charset.breaks12 c ≡ unit_of_kind (kind_of c) c
unit_by_kind charset c clean = grind (arith, or_parts, not-false, same_unit, unlike)

-- the prefix of a text
abbrev pub fold_state_at : Bool → Text → FoldState
fold_state_at breaks12 text = fold_state_of (map (unit_of breaks12) text)

-- indentation changes only the blanks of a fold state
indentation-breaks :
    (breaks12 : Bool) (indent : ℕ) (text : Text) →
    (fold_state_at breaks12 (indentation indent ++ text)).breaks ≡ (fold_state_at breaks12 text).breaks
indentation-breaks breaks12 zero text = refl
indentation-breaks breaks12 (suc n) text = indentation-breaks breaks12 n text

-- and not the rest
indentation-rest :
    (breaks12 : Bool) (indent : ℕ) (text : Text) →
    (fold_state_at breaks12 (indentation indent ++ text)).rest ≡ (fold_state_at breaks12 text).rest
indentation-rest breaks12 zero text = refl
indentation-rest breaks12 (suc n) text = indentation-rest breaks12 n text

-- true for a rest that may not follow a character of this kind, since no space is next to a break
abbrev pub clashes : CharacterKind → Text → Bool
clashes Space rest = begins_with is_break rest
clashes Break rest = begins_with is_space rest
clashes Other rest = false

-- the condition on a fold state for a value after a character of this kind
pub record AfterSpace (value : Text) (prefix : FoldState) : Type 0 where
  pub whole : fold_state_text prefix ≡ value
  pub no_breaks : begins_with is_break value ≡ false → prefix.breaks ≡ []
  pub no_blanks : begins_with is_space value ≡ false → prefix.blanks ≡ []

pub record AfterBreak (value : Text) (prefix : FoldState) : Type 0 where
  pub no_blanks : prefix.blanks ≡ []
  pub whole : prefix.breaks ++ prefix.rest ≡ value

-- of a fold state, by the kind of the character before
abbrev pub ReadsAfter : CharacterKind → Text → FoldState → Type 0
ReadsAfter Space value prefix = AfterSpace value prefix
ReadsAfter Break value prefix = begins_with is_space value ≡ false → AfterBreak value prefix
ReadsAfter Other value prefix = fold_state_text prefix ≡ value

-- a character that is neither a space nor a break
own_step :
    (before : CharacterKind) (c : ℕ) (rest : Text) (prefix : FoldState) →
    fold_state_text prefix ≡ rest →
    ReadsAfter before (c ∷ rest) (prepend_unit (itself c) prefix)
own_step before c rest prefix read = grind (arith, nat_tests)

-- if no break comes first, a fold state reads as its blanks and its rest
clear_read :
    (value : Text) (prefix : FoldState) → prefix.breaks ≡ [] → fold_state_text prefix ≡ value → prefix.blanks ++ prefix.rest ≡ value
clear_read value prefix clear read = grind (arith, nat_tests, run_read)

-- a space before such a fold state is read
space_read :
    (value : Text) (prefix : FoldState) → prefix.breaks ≡ [] → fold_state_text prefix ≡ value →
    fold_state_text (prepend_unit (literal_blank space) prefix) ≡ space ∷ value
space_read value prefix clear read = rw clear (ap (λ (t : Text). space ∷ t) (clear_read value prefix clear read))

-- a space that stays
space_step :
    (before : CharacterKind) (rest : Text) (prefix : FoldState) →
    AfterSpace rest prefix →
    begins_with is_break rest ≡ false →
    ReadsAfter before (space ∷ rest) (prepend_unit (literal_blank space) prefix)
space_step before rest prefix after clear = grind (arith, nat_tests, space_read)

-- if no blank comes first either, it reads as its rest
bare_read : (value : Text) (prefix : FoldState) → prefix.breaks ≡ [] → prefix.blanks ≡ [] → fold_state_text prefix ≡ value → prefix.rest ≡ value
bare_read value prefix clear none read = grind (arith, nat_tests, clear_read)

-- a fold before such a fold state is read as a space
fold_read :
    (value : Text) (prefix : FoldState) → prefix.breaks ≡ [] → prefix.blanks ≡ [] → fold_state_text prefix ≡ value →
    run_read (line_feed ∷ prefix.breaks) ++ prefix.rest ≡ space ∷ value
fold_read value prefix clear none read = rw clear (ap (λ (t : Text). space ∷ t) (bare_read value prefix clear none read))

-- a space that becomes a break and indentation
fold_step :
    (before : CharacterKind) (rest : Text) (prefix : FoldState) →
    is_same_kind before Space ≡ false →
    AfterSpace rest prefix →
    begins_with is_break rest ≡ false →
    begins_with is_space rest ≡ false →
    ReadsAfter before (space ∷ rest) (record { blanks = []; breaks = line_feed ∷ prefix.breaks; rest = prefix.rest })
fold_step before rest prefix other after clear x = grind (arith, nat_tests, fold_read)

-- a run that doesn't begin with LF is kept
run_kept : (c : ℕ) (more : Text) → (c == line_feed) ≡ false → run_read (c ∷ more) ≡ c ∷ more
run_kept c more e = grind (arith, nat_tests)

-- a run of breaks, its first one LF written twice or not
abbrev broken : Bool → ℕ → Text → Text → FoldState
broken doubled c more rest =
    record { blanks = []; breaks = (if doubled then line_feed ∷ [] else []) ++ (c ∷ more); rest = rest }

-- such a run is read as the breaks of the value
broken_read :
    (c : ℕ) (value more rest : Text) (feed : Bool) → (c == line_feed) ≡ feed → more ++ rest ≡ value →
    fold_state_text (broken (feed && true) c more rest) ≡ c ∷ value
broken_read c value more rest feed e x = grind (arith, nat_tests, run_kept)

-- LF is written twice if no break precedes it
break_step :
    (before : CharacterKind) (c : ℕ) (value more rest : Text) →
    is_break c ≡ true →
    more ++ rest ≡ value →
    ReadsAfter before (c ∷ value) (broken (c == line_feed && not (is_same_kind before Break)) c more rest)
break_step before c value more rest b x = grind (arith, nat_tests, broken_read, and-false, line_feed)

-- the fold state of a break as it is rendered
broken_prefix :
    (breaks12 doubled goes_on : Bool) (indent c : ℕ) (text : Text) →
    unit_of breaks12 c ≡ literal_break c →
    fold_state_at breaks12
    (((if doubled then line_feed ∷ [] else []) ++ (c ∷ (if goes_on then [] else indentation indent))) ++ text) ≡
    broken doubled c (fold_state_at breaks12 text).breaks (fold_state_at breaks12 text).rest
broken_prefix breaks12 doubled goes_on indent c text u = grind (arith, nat_tests, indentation-breaks, indentation-rest)

-- a kind is spaces only at a space
pub spaces_only : (s b : Bool) → (if s then Space else if b then Break else Other) ≡ Space → s ≡ true
spaces_only s b e = grind (arith, nat_tests)

-- and breaks only at a break
pub breaks_only : (s b : Bool) → (if s then Space else if b then Break else Other) ≡ Break → b ≡ true
breaks_only s b e = grind (arith, nat_tests)

-- a kind is spaces exactly at a space
same_as_space : (s b : Bool) → is_same_kind Space (if s then Space else if b then Break else Other) ≡ s
same_as_space s b = grind (arith, nat_tests)

-- a text begins with a character of that kind exactly if it begins with a space
begins_space : (rest : Text) → begins_kind Space rest ≡ begins_with is_space rest
begins_space rest = grind (arith, nat_tests, same_as_space, is_space, is_break)

-- the conditions of a fold
record Folds (before : CharacterKind) (rest : Text) : Type 0 where
  other : is_same_kind before Space ≡ false
  own : begins_with is_space rest ≡ false

-- a fold is only there
folds_where :
    (folds : Bool) (before : CharacterKind) (rest : Text) →
    (folds && not (is_same_kind before Space || (is_empty rest || begins_kind Space rest))) ≡ true →
    Folds before rest
folds_where folds before rest e = grind (arith, or_parts, not-true, and_parts, begins_space)

-- a space or a fold before a text that reads as the rest
spaced :
    (breaks12 folds : Bool) (indent : ℕ) (before : CharacterKind) (rest text : Text) →
    begins_with is_break rest ≡ false →
    AfterSpace rest (fold_state_at breaks12 text) →
    (folded : Bool) →
    (folds && not (is_same_kind before Space || (is_empty rest || begins_kind Space rest))) ≡ folded →
    ReadsAfter before (space ∷ rest)
    (fold_state_at breaks12 ((if folded then line_feed ∷ indentation indent else space ∷ []) ++ text))
spaced breaks12 folds indent before rest text clear after true e = grind (arith, folds_where, indentation-breaks, indentation-rest, fold_step)
spaced breaks12 folds indent before rest text clear after false e =
    space_step before rest (fold_state_at breaks12 text) after clear

-- one character's text before a text that reads as the rest
step_reads :
    (charset : Charset) (folds : Bool) (indent : ℕ) (before kind : CharacterKind) (c : ℕ) (rest text : Text) →
    kind_of c ≡ kind →
    is_special charset c ≡ false →
    clashes kind rest ≡ false →
    ReadsAfter kind rest (fold_state_at charset.breaks12 text) →
    ReadsAfter before (c ∷ rest)
    (fold_state_at charset.breaks12 (step_text (λ t. t) folds indent before kind c rest ++ text))
step_reads charset folds indent before Space c rest text k clean clear after = grind (arith, eqb-true, spaces_only, spaced)
step_reads charset folds indent before Break c rest text k clean clear after = grind (arith, unit_by_kind, broken_prefix, break_step, breaks_only)
step_reads charset folds indent before Other c rest text k clean clear after = grind (arith, unit_by_kind, own_step)

-- a value that single quotes may hold has no space beside a break
clear_after :
    (charset : Charset) (c : ℕ) (rest : Text) (kind : CharacterKind) →
    kind_of c ≡ kind →
    bars_single_quoted charset c rest ≡ false →
    clashes kind rest ≡ false
clear_after charset c rest kind k clean = grind (arith, nat_tests, or_parts, spaces_only, begins_with, is_space, breaks_only, is_break)

-- a value that quotes may hold, from some character on
pub lines_read :
    (charset : Charset) (written : Text → Text) (limit : Option ℕ) (indent : ℕ) (before : CharacterKind) (value : Text) (cursor : Cursor) →
    somewhere (bars_single_quoted charset) value ≡ false →
    ReadsAfter before value (fold_state_at charset.breaks12 (bare_steps written limit indent before value cursor))
lines_read charset written limit indent Space [] cursor clean = grind (arith, nat_tests)
lines_read charset written limit indent Break [] cursor clean = λ _. record { no_blanks = refl; whole = refl }
lines_read charset written limit indent Other [] cursor clean = refl
lines_read charset written limit indent before (c ∷ rest) cursor clean =
    let parts = or_parts (bars_single_quoted charset c rest) (somewhere (bars_single_quoted charset) rest) clean in
    step_reads charset (is_past_width limit cursor) indent before (kind_of c) c rest _ refl
    (or_parts _ _ (or_parts _ _ parts.0).0).0
    (clear_after charset c rest (kind_of c) refl parts.0)
    (lines_read charset written limit indent (kind_of c) rest _ parts.1)

-- folding reads the lines of a value that single quotes may hold as that value
pub folding_reads :
    (charset : Charset) (written : Text → Text) (limit : Option ℕ) (indent : ℕ) (value : Text) (cursor : Cursor) →
    somewhere (bars_single_quoted charset) value ≡ false →
    folding_read (map (unit_of charset.breaks12) (bare_steps written limit indent Space value cursor)) ≡ value
folding_reads charset written limit indent value cursor clean =
    (lines_read charset written limit indent Space value cursor clean).whole

-- CR and U+0085 are read as other breaks than they are
abbrev pub is_return : ℕ → Bool
is_return c = c == carriage_return || c == next_line

-- a value that quotes may hold has none
pub no_returns :
    (charset : Charset) (value : Text) →
    somewhere (bars_single_quoted charset) value ≡ false →
    list_any is_return value ≡ false
no_returns charset [] clean = refl
no_returns charset (c ∷ rest) clean =
    grind (arith, nat_tests, or_parts, bars_single_quoted, somewhere, is_printable, not-false, unlike, carriage_return, next_line, no_returns charset rest)

-- a text that has none is rendered with LF
pub rendered_without_returns : (text : Text) → list_any is_return text ≡ false → is_rendered_text text ≡ true
rendered_without_returns [] clean = refl
rendered_without_returns (c ∷ rest) clean = grind (arith, nat_tests, or_parts, is_return, list_any, and_from, not_from_false, rendered_without_returns rest)
