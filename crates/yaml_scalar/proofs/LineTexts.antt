-- The text of plain and single-quoted lines before quotes are doubled: each character is the value's, or of a break or indentation.
use Rattle.yaml_scalar.proofs.Common.{arith, suc, zero, ℕ, if◌then◌else◌, ◌==◌, Option, Bool, false, [], ◌++◌, ◌∷◌, refl, ◌≡◌, eqb-true, nat_tests}
use Rattle.yaml_scalar.proofs.Common.{sym, ◌∙◌, or_parts, list_any-append, list_any, Text, line_feed, space, Cursor, render_text, is_past_width, CharacterKind}
use Rattle.yaml_scalar.proofs.Common.{Space, Break, Other, kind_of, is_same_kind, indentation, step_text, render_steps}
use Rattle.yaml_scalar.proofs.LineRuns.{WritesEach}

-- the lines with each character as it is; the cursor is that of the text as it is written
abbrev pub bare_steps : (written : Text → Text) (limit : Option ℕ) (indent : ℕ) (before : CharacterKind) → Text → Cursor → Text
bare_steps written limit indent before [] cursor = []
bare_steps written limit indent before (c ∷ rest) cursor =
    let folds = is_past_width limit cursor in
    let after = render_text (step_text written folds indent before (kind_of c) c rest) cursor in
    step_text (λ t. t) folds indent before (kind_of c) c rest
    ++ bare_steps written limit indent (kind_of c) rest after.cursor

-- a test that holds nowhere in two texts holds in neither case
pub any_cond :
    (test : ℕ → Bool) (b : Bool) (x y : Text) →
    list_any test x ≡ false →
    list_any test y ≡ false →
    list_any test (if b then x else y) ≡ false
any_cond test b x y a z = grind (arith, nat_tests)

-- nor in both together
pub any_both :
    (test : ℕ → Bool) (x y : Text) → list_any test x ≡ false → list_any test y ≡ false → list_any test (x ++ y) ≡ false
any_both test x y a b = list_any-append test x y ∙ simp (a, b)

-- nor in one character and such a text
pub any_one : (test : ℕ → Bool) (c : ℕ) (rest : Text) → test c ≡ false → list_any test rest ≡ false → list_any test (c ∷ rest) ≡ false
any_one test c rest a b = simp (a, b)

-- nor in indentation, if it fails for a space
pub any_indentation : (test : ℕ → Bool) (indent : ℕ) → test space ≡ false → list_any test (indentation indent) ≡ false
any_indentation test zero a = refl
any_indentation test (suc n) a = any_one test space (indentation n) a (any_indentation test n a)

-- no character of a step meets a test that the value's character, LF and the space don't meet
pub any_step :
    (test : ℕ → Bool) (folds : Bool) (indent : ℕ) (before kind : CharacterKind) (c : ℕ) (rest : Text) →
    test line_feed ≡ false →
    test space ≡ false →
    test c ≡ false →
    list_any test (step_text (λ t. t) folds indent before kind c rest) ≡ false
any_step test folds indent before kind c rest feed x y = grind (arith, nat_tests, any_cond, any_one, any_indentation, any_both)

-- no character of all lines passes a test that none of the value's does
pub any_bare :
    (test : ℕ → Bool) → test line_feed ≡ false → test space ≡ false →
    (written : Text → Text) (limit : Option ℕ) (indent : ℕ) (before : CharacterKind) (value : Text) (cursor : Cursor) →
    list_any test value ≡ false →
    list_any test (bare_steps written limit indent before value cursor) ≡ false
any_bare test feed blank written limit indent before [] cursor own = refl
any_bare test feed blank written limit indent before (c ∷ rest) cursor own =
    let parts = or_parts (test c) (list_any test rest) own in
    any_both test (step_text (λ t. t) (is_past_width limit cursor) indent before (kind_of c) c rest) _
    (any_step test (is_past_width limit cursor) indent before (kind_of c) c rest feed blank parts.0)
    (any_bare test feed blank written limit indent (kind_of c) rest _ parts.1)

-- the single quote
abbrev is_quote : ℕ → Bool
is_quote c = c == 39

-- a quote is no space and no break
not_quote_by :
    (c : ℕ) (kind : CharacterKind) (quote : Bool) → is_quote c ≡ quote → kind_of c ≡ kind → is_same_kind kind Other ≡ false → quote ≡ false
not_quote_by c kind quote q k e = grind (arith, nat_tests, eqb-true)

-- a space or a break is no quote
not_quote : (c : ℕ) (kind : CharacterKind) → kind_of c ≡ kind → is_same_kind kind Other ≡ false → is_quote c ≡ false
not_quote c kind k e = not_quote_by c kind _ refl k e

-- a text without `'` is written as it is
written_kept : (written : Text → Text) → WritesEach written → (text : Text) → list_any is_quote text ≡ false → written text ≡ text
written_kept written w [] clean = w.nothing
written_kept written w (c ∷ rest) clean =
    grind (arith, nat_tests, or_parts, is_quote, list_any, written_kept written w rest, w.joined (c ∷ []) rest, written rest)

-- a step of bare text, written, is the step
step_written :
    (written : Text → Text) → WritesEach written →
    (folds : Bool) (indent : ℕ) (before kind : CharacterKind) (c : ℕ) (rest : Text) →
    kind_of c ≡ kind →
    written (step_text (λ t. t) folds indent before kind c rest) ≡ step_text written folds indent before kind c rest
step_written written w folds indent before Space c rest k =
    written_kept written w _ (any_step is_quote folds indent before Space c rest refl refl (not_quote c Space k refl))
step_written written w folds indent before Break c rest k =
    written_kept written w _ (any_step is_quote folds indent before Break c rest refl refl (not_quote c Break k refl))
step_written written w folds indent before Other c rest k = refl

-- the text of a layout is that of its bare lines, written
pub bare_written :
    (written : Text → Text) → WritesEach written →
    (limit : Option ℕ) (indent : ℕ) (before : CharacterKind) (value : Text) (cursor : Cursor) →
    (render_steps written limit indent before value cursor).text ≡ written (bare_steps written limit indent before value cursor)
bare_written written w limit indent before [] cursor = sym w.nothing
bare_written written w limit indent before (c ∷ rest) cursor =
    grind (arith, nat_tests, is_past_width, step_text, kind_of, render_text, bare_steps, step_written, bare_written written w limit indent (kind_of c) rest)
