-- Each nonempty line of plain and single-quoted text after the first begins with two spaces.
use Rattle.yaml_scalar.proofs.Common.{suc, ℕ, ◌≤◌, if◌then◌else◌, Option, Bool, false, not, true, [], ◌++◌, ◌∷◌, refl, ◌≡◌, eqb-true, nat_tests}
use Rattle.yaml_scalar.proofs.Common.{append_assoc, arith, and-false, and_from, or_right, Text, line_feed, space, is_space, is_break, Cursor, render_text}
use Rattle.yaml_scalar.proofs.Common.{is_past_width, begins_indented, is_indented_text, CharacterKind, Space, Break, Other, kind_of, is_same_kind}
use Rattle.yaml_scalar.proofs.Common.{indentation, begins_kind, step_text, render_steps}
use Rattle.yaml_base.proofs.BreakLaws.{break-begins}
use Rattle.yaml_scalar.proofs.{LineFolds.spaces_only, LineFolds.breaks_only, LineRuns.WritesEach, Unbroken.unbroken-replicate, Unbroken.unbroken-indented}

-- indentation begins a line
indentation-begins : (indent : ℕ) → 2 ≤ indent → (text : Text) → begins_indented (indentation indent ++ text) ≡ true
indentation-begins (suc (suc n)) wide text = refl
indentation-begins _ wide text = absurd (omega arith)

-- a kind is others only at a character that is no break
pub others_only : (s b : Bool) → (if s then Space else if b then Break else Other) ≡ Other → b ≡ false
others_only s b e = grind (arith, nat_tests)

-- a break and the line that begins after it
after_break : (c : ℕ) (text : Text) → begins_indented text ≡ true → is_indented_text text ≡ true → is_indented_text (c ∷ text) ≡ true
after_break c text begins lines = and_from _ _ (or_right (not (is_break c)) _ begins) lines

-- indentation after a break
indented_line : (indent : ℕ) → 2 ≤ indent → (c : ℕ) (text : Text) → is_indented_text text ≡ true → is_indented_text (c ∷ (indentation indent ++ text)) ≡ true
indented_line indent wide c text lines = grind (arith, after_break, indentation-begins, unbroken-indented, unbroken-replicate)

-- a space or a fold
folded_line :
    (folds : Bool) (indent : ℕ) → 2 ≤ indent → (text : Text) → is_indented_text text ≡ true →
    is_indented_text ((if folds then line_feed ∷ indentation indent else space ∷ []) ++ text) ≡ true
folded_line true indent wide text lines = indented_line indent wide line_feed text lines
folded_line false indent wide text lines = lines

-- a break that goes on, or is followed by the indentation
broken_line :
    (goes_on : Bool) (indent : ℕ) → 2 ≤ indent → (c : ℕ) (text : Text) →
    is_indented_text text ≡ true →
    (goes_on ≡ true → begins_indented text ≡ true) →
    is_indented_text ((c ∷ (if goes_on then [] else indentation indent)) ++ text) ≡ true
broken_line goes_on indent wide c text lines begins = grind (arith, nat_tests, after_break, indented_line)

-- LF before a break
doubled_line :
    (doubled : Bool) (c : ℕ) (text : Text) → is_break c ≡ true → is_indented_text (c ∷ text) ≡ true →
    is_indented_text ((if doubled then line_feed ∷ [] else []) ++ (c ∷ text)) ≡ true
doubled_line doubled c text b lines = grind (arith, nat_tests, after_break, line_feed, break-begins)

-- one character's text before lines that are indented
step_indented :
    (written : Text → Text) → WritesEach written →
    (folds : Bool) (indent : ℕ) → 2 ≤ indent →
    (before kind : CharacterKind) (c : ℕ) (rest text : Text) →
    kind_of c ≡ kind →
    is_indented_text text ≡ true →
    (is_same_kind kind Break ≡ true → begins_kind Break rest ≡ true → begins_indented text ≡ true) →
    is_indented_text (step_text written folds indent before kind c rest ++ text) ≡ true
step_indented written w folds indent wide before Space c rest text k lines begins = grind (arith, eqb-true, spaces_only, folded_line)
step_indented written w folds indent wide before Break c rest text k lines begins =
    grind (arith, append_assoc, doubled_line, breaks_only, broken_line)
step_indented written w folds indent wide before Other c rest text k lines begins =
    unbroken-indented (written (c ∷ [])) text (w.unbroken c (others_only (is_space c) (is_break c) k)) lines

-- a run that goes on goes on with a break
run_begins :
    (written : Text → Text) (limit : Option ℕ) (indent : ℕ) (before kind : CharacterKind) (c : ℕ) (rest text : Text) (folds : Bool) →
    kind_of c ≡ kind →
    is_same_kind before Break ≡ true →
    is_same_kind Break kind ≡ true →
    begins_indented (step_text written folds indent before kind c rest ++ text) ≡ true
run_begins written limit indent before kind c rest text folds k x here = grind (arith, nat_tests, and-false, break-begins, breaks_only, is_space, is_break)

-- a run that goes on begins its line with a break
text_begins :
    (written : Text → Text) (limit : Option ℕ) (indent : ℕ) (before : CharacterKind) (value after : Text) (cursor : Cursor) →
    is_same_kind before Break ≡ true →
    begins_kind Break value ≡ true →
    begins_indented ((render_steps written limit indent before value cursor).text ++ after) ≡ true
text_begins written limit indent before value after cursor x here = grind (arith, nat_tests, append_assoc, run_begins)

-- lines before a text whose later lines are indented
pub lines_indented :
    (written : Text → Text) → WritesEach written →
    (limit : Option ℕ) (indent : ℕ) → 2 ≤ indent →
    (before : CharacterKind) (value after : Text) (cursor : Cursor) →
    is_indented_text after ≡ true →
    is_indented_text ((render_steps written limit indent before value cursor).text ++ after) ≡ true
lines_indented written w limit indent wide before [] after cursor lines = lines
lines_indented written w limit indent wide before (c ∷ rest) after cursor lines =
    let folds = is_past_width limit cursor in
    let step = step_text written folds indent before (kind_of c) c rest in
    let later = (render_text step cursor).cursor in
    let more = (render_steps written limit indent (kind_of c) rest later).text in
    rw (append_assoc step more after)
    (step_indented written w folds indent wide before (kind_of c) c rest (more ++ after) refl
    (lines_indented written w limit indent wide (kind_of c) rest after later lines)
    (text_begins written limit indent (kind_of c) rest after later))
