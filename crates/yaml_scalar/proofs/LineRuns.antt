-- Plain and single-quoted lines rendered character by character, and that this is their layout by runs.
use Rattle.yaml_scalar.proofs.Common.{arith, CharacterKind, Space, Break, Other, nat_tests}
use Rattle.yaml_base.proofs.Common.{ℕ, ◌==◌, Option, Bool, false, not, true, ◌&&◌, ◌||◌, List, [], ◌++◌, ◌∷◌, refl, ◌≡◌, append_assoc, ap, subst, sym}
use Rattle.yaml_base.proofs.Common.{Text, is_break, Cursor, Rendered, render_nothing, render_then, is_past_width, is_empty, runs, render_runs}
use Rattle.std.proofs.Math.Bool.{and-false, and-true, or-false}
use Rattle.yaml_base.specs.Cursor.{render_text}
use Rattle.yaml_base.specs.scalars.Plain.{kind_of, is_same_kind, Run, cons_run, indentation, run_text, is_last}
use Rattle.yaml_scalar.{proofs.Unbroken.is_unbroken, specs.LineSteps.begins_kind, specs.LineSteps.step_text, specs.LineSteps.render_steps}
use Rattle.yaml_pen.proofs.Writing.{column_after-append}

-- texts are written character by character, and each but `'` as itself
pub record WritesEach (written : Text → Text) : Type 0 where
  pub nothing : written [] ≡ []
  pub kept : (c : ℕ) → (c == 39) ≡ false → written (c ∷ []) ≡ c ∷ []
  pub unbroken : (c : ℕ) → is_break c ≡ false → is_unbroken (written (c ∷ [])) ≡ true
  pub joined : (prefix rest : Text) → written (prefix ++ rest) ≡ written prefix ++ written rest

-- the rest of a run, after a character of its kind
abbrev tail_text : (written : Text → Text) (indent : ℕ) → CharacterKind → Text → Text
tail_text written indent Space text = text
tail_text written indent Break text = text ++ indentation indent
tail_text written indent Other text = written text

-- a run, or the rest of one
abbrev first_text : (written : Text → Text) (folds : Bool) (indent : ℕ) (same : Bool) → CharacterKind → Text → Text
first_text written folds indent true kind text = tail_text written indent kind text
first_text written folds indent false kind text = run_text written folds indent kind text

-- runs, the first of which goes on if the character before it is of its kind
abbrev continued :
    (written : Text → Text) (limit : Option ℕ) (indent : ℕ) (before : CharacterKind) → List Run → Cursor → Rendered
continued written limit indent before [] cursor = render_nothing cursor
continued written limit indent before (run ∷ more) cursor =
    render_then
    (render_text
    (first_text written (is_past_width limit cursor && not (is_last more)) indent (is_same_kind before run.kind) run.kind run.text)
    cursor)
    (render_runs written limit indent false more)

-- two texts rendered one after another are one text
two_texts :
    (a b : Text) (next : Cursor → Rendered) (cursor : Cursor) →
    render_then (render_text a cursor) (λ after. render_then (render_text b after) next) ≡ render_then (render_text (a ++ b) cursor) next
two_texts a b next cursor = simp (column_after-append, append_assoc)

-- a character that ends its run
lone_text :
    (written : Text → Text) (folds : Bool) (indent : ℕ) (before kind : CharacterKind) (c : ℕ) (rest : Text) (last : Bool) →
    is_empty rest ≡ last →
    begins_kind kind rest ≡ false →
    step_text written folds indent before kind c rest ≡
    first_text written (folds && not last) indent (is_same_kind before kind) kind (c ∷ [])
lone_text written folds indent Space Space c rest last e b = simp and-false
lone_text written folds indent Break Space c rest last e b = simp (e, b, and-true, or-false)
lone_text written folds indent Other Space c rest last e b = simp (e, b, and-true, or-false)
lone_text written folds indent Space Break c rest last e b = simp (b, and-true)
lone_text written folds indent Break Break c rest last e b = simp (b, and-false)
lone_text written folds indent Other Break c rest last e b = simp (b, and-true)
lone_text written folds indent Space Other c rest last e b = refl
lone_text written folds indent Break Other c rest last e b = refl
lone_text written folds indent Other Other c rest last e b = refl

-- a character whose run goes on
joined_text :
    (written : Text → Text) → WritesEach written →
    (folds other : Bool) (indent : ℕ) (before kind : CharacterKind) (c d : ℕ) (rest run : Text) →
    is_same_kind kind (kind_of d) ≡ true →
    step_text written folds indent before kind c (d ∷ rest) ++ tail_text written indent kind (d ∷ run) ≡
    first_text written other indent (is_same_kind before kind) kind (c ∷ d ∷ run)
joined_text written w folds other indent Space Space c d rest run e = simp and-false
joined_text written w folds other indent Space Break c d rest run e = simp (e, and-true, append_assoc)
joined_text written w folds other indent Other Break c d rest run e = simp (e, and-true, append_assoc)
joined_text written w folds other indent _ Other c d rest run e = sym (w.joined (c ∷ []) (d ∷ run))
joined_text written w folds other indent _ _ c d rest run e = simp (e, and-false)

-- a character joins the run after it if their kinds are equal
joined_kinds :
    (written : Text → Text) → WritesEach written →
    (folds other : Bool) (indent : ℕ) (before kind next : CharacterKind) (c d : ℕ) (rest run : Text) →
    kind ≡ next →
    is_same_kind kind (kind_of d) ≡ true →
    step_text written folds indent before kind c (d ∷ rest) ++ tail_text written indent next (d ∷ run) ≡
    first_text written other indent (is_same_kind before next) next (c ∷ d ∷ run)
joined_kinds written w folds other indent before kind next c d rest run same e = grind (arith, joined_text)

-- the first run has an edge
edge_text :
    (written : Text → Text) (folds : Bool) (indent : ℕ) (kind : CharacterKind) (text : Text) (last : Bool) →
    first_text written (folds && not last) indent (is_same_kind Space kind) kind text ≡
    run_text written (folds && not (true || last)) indent kind text
edge_text written folds indent Space text last = simp and-false
edge_text written folds indent _ text last = refl

-- kinds that compare as the same are equal
pub same_kind : (a b : CharacterKind) → is_same_kind a b ≡ true → a ≡ b
same_kind a b e = grind (arith, nat_tests)

-- the runs of a value that begins with this character
record Shape (d : ℕ) (after : List Run) : Type 0 where
  text : Text
  more : List Run
  is : cons_run d after ≡ record { kind = kind_of d; text = d ∷ text } ∷ more

-- runs that begin with this character, by the kind of the next run
shape_by : (d : ℕ) (first : Run) (more : List Run) (same : Bool) → is_same_kind (kind_of d) first.kind ≡ same → Shape d (first ∷ more)
shape_by d first more true e = record {
  text = first.text;
  more = more;
  is = simp e (ap (λ (k : CharacterKind). record { kind = k; text = d ∷ first.text } ∷ more) (sym (same_kind (kind_of d) first.kind e)));
}
shape_by d first more false e = record { text = []; more = first ∷ more; is = simp e }

-- each value has runs of such a shape
shape_of : (d : ℕ) (after : List Run) → Shape d after
shape_of d [] = record { text = []; more = []; is = refl }
shape_of d (first ∷ more) = shape_by d first more _ refl

-- a step and the runs after it are the runs with its character
abbrev Agrees : (written : Text → Text) (limit : Option ℕ) (indent : ℕ) (before : CharacterKind) (c : ℕ) (rest : Text) (after : List Run) (cursor : Cursor)
    → Type 0
Agrees written limit indent before c rest after cursor =
    render_then
    (render_text (step_text written (is_past_width limit cursor) indent before (kind_of c) c rest) cursor)
    (continued written limit indent (kind_of c) after) ≡
    continued written limit indent before (cons_run c after) cursor

-- they agree before a character, by whether the run goes on
agrees_by :
    (written : Text → Text) → WritesEach written →
    (limit : Option ℕ) (indent : ℕ) (before : CharacterKind) (c d : ℕ) (rest text : Text) (more : List Run) (cursor : Cursor) →
    (same : Bool) → is_same_kind (kind_of c) (kind_of d) ≡ same →
    Agrees written limit indent before c (d ∷ rest) (record { kind = kind_of d; text = d ∷ text } ∷ more) cursor
agrees_by written w limit indent before c d rest text more cursor same e = grind (arith, nat_tests, two_texts, joined_kinds, same_kind, lone_text)

-- they agree
agrees :
    (written : Text → Text) → WritesEach written →
    (limit : Option ℕ) (indent : ℕ) (before : CharacterKind) (c : ℕ) (rest : Text) (cursor : Cursor) →
    Agrees written limit indent before c rest (runs rest) cursor
agrees written w limit indent before c [] cursor = grind (arith, lone_text)
agrees written w limit indent before c (d ∷ rest) cursor =
    let shape = shape_of d (runs rest) in
    subst (λ (after : List Run). Agrees written limit indent before c (d ∷ rest) after cursor) (sym shape.is)
    (agrees_by written w limit indent before c d rest shape.text shape.more cursor _ refl)

-- steps are runs that go on
steps_continue :
    (written : Text → Text) → WritesEach written →
    (limit : Option ℕ) (indent : ℕ) (before : CharacterKind) (value : Text) (cursor : Cursor) →
    render_steps written limit indent before value cursor ≡ continued written limit indent before (runs value) cursor
steps_continue written w limit indent before [] cursor = refl
steps_continue written w limit indent before (c ∷ rest) cursor =
    grind (arith, nat_tests, step_text, is_past_width, kind_of, render_text, agrees, steps_continue written w limit indent (kind_of c) rest)

-- the start of a value counts as if a space preceded it
edge_continues :
    (written : Text → Text) (limit : Option ℕ) (indent : ℕ) (after : List Run) (cursor : Cursor) →
    continued written limit indent Space after cursor ≡ render_runs written limit indent true after cursor
edge_continues written limit indent [] cursor = refl
edge_continues written limit indent (run ∷ more) cursor = grind (arith, edge_text)

-- the layout by runs is the layout by characters
pub runs_by_steps :
    (written : Text → Text) → WritesEach written →
    (limit : Option ℕ) (indent : ℕ) (value : Text) (cursor : Cursor) →
    render_runs written limit indent true (runs value) cursor ≡ render_steps written limit indent Space value cursor
runs_by_steps written w limit indent value cursor = grind (arith, steps_continue, edge_continues)
