-- Plain lines begin as the value does, and hold no indicator that plain text may not hold.
use Rattle.yaml_scalar.proofs.Common.{arith, suc, zero, ℕ, if◌then◌else◌, ◌==◌, Option, codes, Bool, false, not, true, ◌&&◌, ◌||◌, [], ◌++◌, ◌∷◌, refl, ◌≡◌}
use Rattle.yaml_scalar.proofs.Common.{eqb-true, true≢false, ap, subst, sym, ◌∙◌, and-false, and-true, or_parts, or_from, Text, is_among, line_feed, space}
use Rattle.yaml_scalar.proofs.Common.{is_space, is_break, Cursor, render_text, is_past_width, is_read_white, begins_no_plain, holds_no_plain, Charset}
use Rattle.yaml_scalar.proofs.Common.{somewhere, begins_with, is_empty, is_gap, ends_word, begins_like_marker, begins_unlike_plain, bars_plain, CharacterKind}
use Rattle.yaml_scalar.proofs.Common.{Space, Break, Other, kind_of, is_same_kind, indentation, begins_kind, step_text, nat_tests}
use Rattle.yaml_base.proofs.Common.{begins_white, begins_with_three, begins_with_hash}
use Rattle.std.proofs.Math.Bool.{and_assoc}
use Rattle.yaml_scalar.proofs.{LineFolds.spaces_only, LineFolds.breaks_only, LineTexts.bare_steps}

-- white space for a reader is a gap for a writer
gap_by :
    (sp tab lf cr nel ls ps zero_indicator breaks12 : Bool) →
    ((sp || tab) || (lf || cr || nel || ls || ps) || zero_indicator) ≡ false →
    ((sp || tab) || (lf || (not breaks12 && (ls || ps)))) ≡ false
gap_by sp tab lf cr nel ls ps zero_indicator breaks12 e = grind (arith, nat_tests, and-false, not)

-- a character that is no gap is no white space for a reader
pub white_is_gap : (breaks12 : Bool) (c : ℕ) → is_gap c ≡ false → is_read_white breaks12 c ≡ false
white_is_gap breaks12 c e = grind (arith, nat_tests, gap_by)

-- a break is a gap
break_is_gap : (c : ℕ) → is_break c ≡ true → is_gap c ≡ false → false ≡ true
break_is_gap c b e = grind (arith, or_parts)

-- a step begins white only if its character is a gap
step_white :
    (breaks12 folds : Bool) (indent : ℕ) (before kind : CharacterKind) (c : ℕ) (rest text : Text) →
    kind_of c ≡ kind →
    is_gap c ≡ false →
    begins_white breaks12 (step_text (λ t. t) folds indent before kind c rest ++ text) ≡ false
step_white breaks12 folds indent before kind c rest text k e =
    grind (arith, nat_tests, true≢false, is_gap, eqb-true, spaces_only, is_space, is_break, break_is_gap, breaks_only, white_is_gap)

-- lines begin white only if the value begins with a gap
pub lines_white :
    (breaks12 : Bool) (written : Text → Text) (limit : Option ℕ) (indent : ℕ) (before : CharacterKind) (rest : Text) (cursor : Cursor) →
    ends_word rest ≡ false →
    begins_white breaks12 (bare_steps written limit indent before rest cursor) ≡ false
lines_white breaks12 written limit indent before rest cursor e = grind (arith, nat_tests, step_white, is_past_width, kind_of)

-- a step begins with `#` only if its character is it
hash_of_fold :
    (folds : Bool) (indent : ℕ) (text : Text) →
    begins_with_hash ((if folds then line_feed ∷ indentation indent else space ∷ []) ++ text) ≡ false
hash_of_fold folds indent text = grind (arith, nat_tests)

-- a break begins with no `#`
hash_of_break :
    (doubled : Bool) (c : ℕ) (more text : Text) →
    (c == 35) ≡ false →
    begins_with_hash (((if doubled then line_feed ∷ [] else []) ++ (c ∷ more)) ++ text) ≡ false
hash_of_break doubled c more text e = grind (arith, nat_tests)

-- a step begins with `#` only if its character is it
step_hash :
    (folds : Bool) (indent : ℕ) (before kind : CharacterKind) (c : ℕ) (rest text : Text) →
    kind_of c ≡ kind →
    (c == 35) ≡ false →
    begins_with_hash (step_text (λ t. t) folds indent before kind c rest ++ text) ≡ false
step_hash folds indent before kind c rest text k e = grind (arith, nat_tests, eqb-true, spaces_only, hash_of_fold, hash_of_break, line_feed, not, is_same_kind)

-- lines begin with `#` only if the value does
pub lines_hash :
    (written : Text → Text) (limit : Option ℕ) (indent : ℕ) (before : CharacterKind) (rest : Text) (cursor : Cursor) →
    begins_with (λ c. c == 35) rest ≡ false →
    begins_with_hash (bare_steps written limit indent before rest cursor) ≡ false
lines_hash written limit indent before rest cursor e = grind (arith, nat_tests, step_hash, is_past_width, kind_of)

-- both tests of a pair can only turn false
and_turns : (a b c d : Bool) → (a ≡ false → c ≡ false) → (b ≡ false → d ≡ false) → (a && b) ≡ false → (c && d) ≡ false
and_turns a b c d f g e = grind (arith, nat_tests, and-false)

-- the indicators that no plain text holds, at a character that is written as itself
kept_holds :
    (breaks12 flow : Bool) (c : ℕ) (rest text : Text) →
    ((c == 58 && ends_word rest) || (is_gap c && begins_with (λ d. d == 35) rest)) ≡ false →
    (flow && is_among (codes ",?:[]{}") c) ≡ false →
    (ends_word rest ≡ false → begins_white breaks12 text ≡ false) →
    (begins_with (λ d. d == 35) rest ≡ false → begins_with_hash text ≡ false) →
    holds_no_plain breaks12 flow text ≡ false →
    holds_no_plain breaks12 flow (c ∷ text) ≡ false
kept_holds breaks12 flow c rest text symbols in_flow white hash later =
    grind (arith, nat_tests, or_parts, ends_word, is_gap, begins_with, begins_white, and_turns, is_read_white, begins_with_hash, white_is_gap, or_from)

-- indentation brings no `#` to the start
indented_hash :
    (indent : ℕ) (text : Text) → begins_with_hash text ≡ false → begins_with_hash (indentation indent ++ text) ≡ false
indented_hash indent text hash = grind (arith, nat_tests)

-- indentation holds none
indented_holds :
    (breaks12 flow : Bool) (indent : ℕ) (text : Text) →
    begins_with_hash text ≡ false →
    holds_no_plain breaks12 flow text ≡ false →
    holds_no_plain breaks12 flow (indentation indent ++ text) ≡ false
indented_holds breaks12 flow zero text hash later = later
indented_holds breaks12 flow (suc n) text hash later = grind (arith, nat_tests, indented_hash, and-false, indented_holds breaks12 flow n text hash later)

-- nor does a fold
folded_holds :
    (breaks12 flow : Bool) (indent : ℕ) (text : Text) →
    begins_with_hash text ≡ false →
    holds_no_plain breaks12 flow text ≡ false →
    holds_no_plain breaks12 flow (line_feed ∷ (indentation indent ++ text)) ≡ false
folded_holds breaks12 flow indent text hash later = grind (arith, nat_tests, indented_hash, and-false, indented_holds)

-- nor does a space
spaced_holds :
    (breaks12 flow folds : Bool) (indent : ℕ) (rest text : Text) →
    begins_with (λ d. d == 35) rest ≡ false →
    (ends_word rest ≡ false → begins_white breaks12 text ≡ false) →
    (begins_with (λ d. d == 35) rest ≡ false → begins_with_hash text ≡ false) →
    holds_no_plain breaks12 flow text ≡ false →
    holds_no_plain breaks12 flow ((if folds then line_feed ∷ indentation indent else space ∷ []) ++ text) ≡ false
spaced_holds breaks12 flow folds indent rest text x white hash later = grind (arith, nat_tests, folded_holds, kept_holds, space, and-false)

-- nor does a step
step_holds :
    (breaks12 flow folds : Bool) (indent : ℕ) (before kind : CharacterKind) (c : ℕ) (rest text : Text) →
    kind_of c ≡ kind →
    is_break c ≡ false →
    ((c == 58 && ends_word rest) || (is_gap c && begins_with (λ d. d == 35) rest)) ≡ false →
    (flow && is_among (codes ",?:[]{}") c) ≡ false →
    (ends_word rest ≡ false → begins_white breaks12 text ≡ false) →
    (begins_with (λ d. d == 35) rest ≡ false → begins_with_hash text ≡ false) →
    holds_no_plain breaks12 flow text ≡ false →
    holds_no_plain breaks12 flow (step_text (λ t. t) folds indent before kind c rest ++ text) ≡ false
step_holds breaks12 flow folds indent before Space c rest text k whole symbols in_flow white hash later =
    let is : c ≡ 32 = eqb-true c 32 (spaces_only (is_space c) (is_break c) k) in
    let own : begins_with (λ d. d == 35) rest ≡ false =
    subst (λ (n : ℕ). ((n == 58 && ends_word rest) || (is_gap n && begins_with (λ d. d == 35) rest)) ≡ false) is symbols in
    rw is (spaced_holds breaks12 flow
    (folds && not (is_same_kind before Space || (is_empty rest || begins_kind Space rest))) indent rest text own white hash later)
step_holds breaks12 flow folds indent before Break c rest text k whole symbols in_flow white hash later =
    absurd (true≢false (sym (breaks_only (is_space c) (is_break c) k) ∙ whole))
step_holds breaks12 flow folds indent before Other c rest text k whole symbols in_flow white hash later =
    kept_holds breaks12 flow c rest text symbols in_flow white hash later

-- the lines of a value that allows plain text hold no indicator that plain text may not hold
pub lines_hold :
    (charset : Charset) (flow : Bool) (written : Text → Text) (limit : Option ℕ) (indent : ℕ) (before : CharacterKind) (value : Text) (cursor : Cursor) →
    somewhere (bars_plain charset flow) value ≡ false →
    holds_no_plain charset.breaks12 flow (bare_steps written limit indent before value cursor) ≡ false
lines_hold charset flow written limit indent before [] cursor clean = refl
lines_hold charset flow written limit indent before (c ∷ rest) cursor clean =
    let parts = or_parts (bars_plain charset flow c rest) (somewhere (bars_plain charset flow) rest) clean in
    let to_flow = or_parts _ _ parts.0 in
    let to_indicators = or_parts _ _ to_flow.0 in
    let to_end = or_parts _ _ to_indicators.0 in
    let to_break = or_parts _ _ to_end.0 in
    let folds = is_past_width limit cursor in
    let after = (render_text (step_text written folds indent before (kind_of c) c rest) cursor).cursor in
    step_holds charset.breaks12 flow folds indent before (kind_of c) c rest
    (bare_steps written limit indent (kind_of c) rest after) refl to_break.1 to_indicators.1 to_flow.1
    (lines_white charset.breaks12 written limit indent (kind_of c) rest after)
    (lines_hash written limit indent (kind_of c) rest after)
    (lines_hold charset flow written limit indent (kind_of c) rest after parts.1)

-- how often a text begins with one character
abbrev begins_times : ℕ → ℕ → Text → Bool
begins_times zero marker text = true
begins_times (suc n) marker [] = false
begins_times (suc n) marker (c ∷ rest) = c == marker && begins_times n marker rest

-- three of a character, counted
three_times : (marker : ℕ) (text : Text) → begins_with_three marker text ≡ begins_times 3 marker text
three_times marker text = grind (arith, nat_tests, and-false, and-true, and_assoc)

-- a character that is no white space
record IsMarkerCharacter (marker : ℕ) : Type 0 where
  no_space : (space == marker) ≡ false
  no_feed : (line_feed == marker) ≡ false
  no_break : is_break marker ≡ false

-- a break is no indicator
other_break : (marker c : ℕ) (same : Bool) → (c == marker) ≡ same → is_break marker ≡ false → is_break c ≡ true → same ≡ false
other_break marker c same e m b = grind (arith, nat_tests, is_break, eqb-true)

-- no space or fold begins with an indicator
fold_times :
    (marker : ℕ) → IsMarkerCharacter marker → (n : ℕ) (folds : Bool) (indent : ℕ) (text : Text) →
    begins_times (suc n) marker ((if folds then line_feed ∷ indentation indent else space ∷ []) ++ text) ≡ false
fold_times marker is_marker n folds indent text = grind (arith, nat_tests)

-- nor in a break
break_times :
    (marker : ℕ) → IsMarkerCharacter marker → (n : ℕ) (doubled : Bool) (c : ℕ) (more text : Text) →
    (c == marker) ≡ false →
    begins_times (suc n) marker (((if doubled then line_feed ∷ [] else []) ++ (c ∷ more)) ++ text) ≡ false
break_times marker is_marker n doubled c more text e = grind (arith, nat_tests)

-- a step begins with an indicator as its character does
step_times :
    (marker : ℕ) → IsMarkerCharacter marker → (n : ℕ) (folds : Bool) (indent : ℕ) (before kind : CharacterKind) (c : ℕ) (rest text : Text) →
    kind_of c ≡ kind →
    begins_times n marker text ≡ begins_times n marker rest →
    begins_times (suc n) marker (step_text (λ t. t) folds indent before kind c rest ++ text) ≡ begins_times (suc n) marker (c ∷ rest)
step_times marker is_marker n folds indent before kind c rest text k later =
    grind (arith, nat_tests, eqb-true, spaces_only, fold_times, other_break, breaks_only, break_times)

-- lines begin with an indicator as often as the value does
times_kept :
    (marker : ℕ) → IsMarkerCharacter marker →
    (n : ℕ) (written : Text → Text) (limit : Option ℕ) (indent : ℕ) (before : CharacterKind) (value : Text) (cursor : Cursor) →
    begins_times n marker (bare_steps written limit indent before value cursor) ≡ begins_times n marker value
times_kept marker is_marker (suc n) written limit indent before (c ∷ rest) cursor =
    step_times marker is_marker n (is_past_width limit cursor) indent before (kind_of c) c rest _ refl
    (times_kept marker is_marker n written limit indent (kind_of c) rest _)
times_kept marker is_marker _ written limit indent before _ cursor = refl

-- three dashes are a mark
no_dashes : (a b c : ℕ) (is : Bool) → (a == 45) ≡ is → ((is || a == 46) && b == a && c == a) ≡ false → (is && b == 45 && c == 45) ≡ false
no_dashes a b c is d e = grind (arith, nat_tests, eqb-true)

-- three dots are a mark
no_dots : (a b c : ℕ) (is : Bool) → (a == 46) ≡ is → ((a == 45 || is) && b == a && c == a) ≡ false → (is && b == 46 && c == 46) ≡ false
no_dots a b c is d e = grind (arith, nat_tests, eqb-true)

-- a value that doesn't begin with a mark begins with no three dashes and no three dots
dashes : (value : Text) → begins_like_marker value ≡ false → begins_with_three 45 value ≡ false
dashes value e = grind (arith, nat_tests, no_dashes)

-- nor with three dots
dots : (value : Text) → begins_like_marker value ≡ false → begins_with_three 46 value ≡ false
dots value e = grind (arith, nat_tests, no_dots)

-- lines begin with three indicators only if the value does
lines_three :
    (marker : ℕ) → IsMarkerCharacter marker →
    (written : Text → Text) (limit : Option ℕ) (indent : ℕ) (before : CharacterKind) (value : Text) (cursor : Cursor) →
    begins_with_three marker value ≡ false →
    begins_with_three marker (bare_steps written limit indent before value cursor) ≡ false
lines_three marker is_marker written limit indent before value cursor e = grind (arith, nat_tests, three_times, bare_steps, times_kept)

-- a character that is neither a space nor a break is of the other kind
pub kind_of_indicator : (s b : Bool) → s ≡ false → b ≡ false → (if s then Space else if b then Break else Other) ≡ Other
kind_of_indicator s b e f = rw (e, f)

-- a value's lines begin with its first character, if that is neither a space nor a break
first_kept :
    (folds : Bool) (indent : ℕ) (before : CharacterKind) (c : ℕ) (rest : Text) →
    is_space c ≡ false →
    is_break c ≡ false →
    step_text (λ t. t) folds indent before (kind_of c) c rest ≡ c ∷ []
first_kept folds indent before c rest e f = grind (arith, nat_tests, step_text, kind_of_indicator, is_space, is_break)

-- the lines of a value that isn't empty are not empty
pub lines_full :
    (written : Text → Text) (limit : Option ℕ) (indent : ℕ) (before : CharacterKind) (c : ℕ) (rest : Text) (cursor : Cursor) →
    begins_unlike_plain (c ∷ rest) ≡ false →
    is_break c ≡ false →
    (flow : Bool) →
    (is_empty (bare_steps written limit indent before (c ∷ rest) cursor) && flow) ≡ false
lines_full written limit indent before c rest cursor e f flow = grind (arith, or_parts, first_kept)

-- lines begin with no indicator that the value doesn't begin with
pub lines_begin :
    (breaks12 : Bool) (written : Text → Text) (limit : Option ℕ) (indent : ℕ) (before : CharacterKind) (c : ℕ) (rest : Text) (cursor : Cursor) →
    begins_unlike_plain (c ∷ rest) ≡ false →
    is_break c ≡ false →
    begins_no_plain breaks12 (bare_steps written limit indent before (c ∷ rest) cursor) ≡ false
lines_begin breaks12 written limit indent before c rest cursor e f =
    let to_word = or_parts _ _ e in
    let to_indicator = or_parts _ _ to_word.0 in
    let to_mark = or_parts _ _ to_indicator.0 in
    let folds = is_past_width limit cursor in
    let after = (render_text (step_text written folds indent before (kind_of c) c rest) cursor).cursor in
    let text = bare_steps written limit indent (kind_of c) rest after in
    let whole : bare_steps written limit indent before (c ∷ rest) cursor ≡ c ∷ text =
    ap (λ (step : Text). step ++ text) (first_kept folds indent before c rest to_mark.0 f) in
    let three = λ (marker : ℕ) (is_marker : IsMarkerCharacter marker) (none : begins_with_three marker (c ∷ rest) ≡ false).
    sym (ap (begins_with_three marker) whole) ∙ lines_three marker is_marker written limit indent before (c ∷ rest) cursor none in
    let word : (is_among (codes "?:-") c && begins_white breaks12 text) ≡ false =
    and_turns (is_among (codes "?:-") c) (ends_word rest) (is_among (codes "?:-") c) (begins_white breaks12 text)
    (λ g. g) (lines_white breaks12 written limit indent (kind_of c) rest after) to_word.1 in
    ap (begins_no_plain breaks12) whole
    ∙ or_from _ _ (or_from _ _ (or_from _ _
    (three 45 (record { no_space = refl; no_feed = refl; no_break = refl }) (dashes (c ∷ rest) to_mark.1))
    (three 46 (record { no_space = refl; no_feed = refl; no_break = refl }) (dots (c ∷ rest) to_mark.1)))
    to_indicator.1) word
