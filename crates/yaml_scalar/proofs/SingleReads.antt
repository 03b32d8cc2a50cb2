-- A single-quoted body reads as its value, and its later lines are indented.
use Rattle.yaml_scalar.proofs.Common.{arith, ℕ, ◌≤◌, if◌then◌else◌, ◌==◌, option_map, Option, Some, Bool, false, true, [], ◌++◌, ◌∷◌, refl, ◌≡◌, eqb-true}
use Rattle.yaml_scalar.proofs.Common.{append_assoc, or_parts, not-true, list_any-append, list_any, breaks-round, rendered-append, indented-written, Text}
use Rattle.yaml_scalar.proofs.Common.{is_break, Cursor, with_breaks_written, with_line_breaks_read, is_rendered_text, is_indented_text, LineBreak, read_single}
use Rattle.yaml_scalar.proofs.Common.{Charset, allows_single_quoted, Space, quotes_doubled, single_quote, single_quoted_body, nat_tests}
use Rattle.yaml_base.proofs.Common.{unquoted}
use Rattle.yaml_scalar.proofs.{LineIndents.lines_indented, LineRuns.WritesEach, LineRuns.runs_by_steps, Unbroken.is_unbroken}
use Rattle.yaml_scalar.proofs.LineFolds.{folding_reads, no_returns, rendered_without_returns}
use Rattle.yaml_scalar.proofs.LineTexts.{bare_steps, any_cond, any_bare, bare_written}

-- quotes are doubled part by part
doubled-joined : (prefix rest : Text) → quotes_doubled (prefix ++ rest) ≡ quotes_doubled prefix ++ quotes_doubled rest
doubled-joined [] rest = refl
doubled-joined (c ∷ prefix) rest = grind (arith, append_assoc, doubled-joined prefix rest)

-- and no break comes from it
doubled-unbroken : (c : ℕ) (quote : Bool) → is_break c ≡ false → is_unbroken ((if quote then 39 ∷ 39 ∷ [] else c ∷ []) ++ []) ≡ true
doubled-unbroken c quote e = grind (arith, nat_tests)

-- quoted characters are written one by one
pub doubled_writes : WritesEach quotes_doubled
doubled_writes = grind (arith, nat_tests, doubled-unbroken, doubled-joined)

-- another character than `'` is written as itself
unquoted-other : (c : ℕ) (rest : Text) → (c == 39) ≡ false → unquoted (c ∷ rest) ≡ option_map (λ t. c ∷ t) (unquoted rest)
unquoted-other c rest e = grind (arith, nat_tests)

-- one character, doubled or not, before the unquoted rest
unquoted-step :
    (c : ℕ) (text after : Text) (quote : Bool) → (c == 39) ≡ quote → unquoted after ≡ Some text →
    unquoted ((if quote then 39 ∷ 39 ∷ [] else c ∷ []) ++ after) ≡ Some (c ∷ text)
unquoted-step c text after quote e read = grind (arith, nat_tests, eqb-true, unquoted-other)

-- quotes undo, up to the closing one
unquoted-doubled : (text : Text) → unquoted (quotes_doubled text ++ 39 ∷ []) ≡ Some text
unquoted-doubled [] = refl
unquoted-doubled (c ∷ rest) = grind (arith, append_assoc, unquoted-step, unquoted-doubled rest)

-- the lines between the quotes, before each quote of theirs is doubled
abbrev pub inside : (limit : Option ℕ) (indent : ℕ) (value : Text) → Cursor → Text
inside limit indent value cursor = bare_steps quotes_doubled limit indent Space value (single_quote cursor).cursor

-- a body is its lines between two quotes
pub body-inside :
    (limit : Option ℕ) (indent : ℕ) (value : Text) (cursor : Cursor) →
    (single_quoted_body limit indent value cursor).text ≡ 39 ∷ (quotes_doubled (inside limit indent value cursor) ++ 39 ∷ [])
body-inside limit indent value cursor = grind (arith, nat_tests, runs_by_steps, quotes_doubled, doubled_writes, single_quote, bare_written)

-- a test that holds nowhere in a text holds nowhere in it with quotes doubled
pub any_doubled : (test : ℕ → Bool) → test 39 ≡ false → (text : Text) → list_any test text ≡ false → list_any test (quotes_doubled text) ≡ false
any_doubled test quote [] clean = refl
any_doubled test quote (c ∷ rest) clean =
    grind (arith, nat_tests, or_parts, list_any, list_any-append, quotes_doubled, any_cond, any_doubled test quote rest, test c)

-- a body holds neither CR nor U+0085
pub single-rendered :
    (charset : Charset) (limit : Option ℕ) (indent : ℕ) (value : Text) (cursor : Cursor) →
    allows_single_quoted charset value ≡ true →
    is_rendered_text (single_quoted_body limit indent value cursor).text ≡ true
single-rendered charset limit indent value cursor allowed =
    grind (arith, no_returns, not-true, any_bare, rendered_without_returns, any_doubled, body-inside, rendered-append)

-- a body, however its line breaks are written, reads as the value
pub single-reads :
    (charset : Charset) (limit : Option ℕ) (indent : ℕ) (value : Text) (cursor : Cursor) (setting : LineBreak) →
    allows_single_quoted charset value ≡ true →
    read_single charset.breaks12
    (with_line_breaks_read (with_breaks_written setting (single_quoted_body limit indent value cursor).text)) ≡
    Some value
single-reads charset limit indent value cursor setting allowed =
    grind (arith, breaks-round, single-rendered, body-inside, unquoted-doubled, folding_reads, not-true)

-- each nonempty line of a body after the first begins with two spaces, however its line breaks are written
pub single-indented :
    (limit : Option ℕ) (indent : ℕ) (value : Text) (cursor : Cursor) (setting : LineBreak) →
    2 ≤ indent →
    is_indented_text (with_breaks_written setting (single_quoted_body limit indent value cursor).text) ≡ true
single-indented limit indent value cursor setting wide =
    grind (arith, nat_tests, single_quote, indented-written, single_quoted_body, runs_by_steps, quotes_doubled, doubled_writes, lines_indented)
