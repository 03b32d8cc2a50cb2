-- The body of a simple key: its value has no break and it has no fold, so that its text is the value's characters, each as its style writes it, on
-- one line.
use Rattle.yaml_base.proofs.Common.{and_from, or_from}
use Rattle.yaml_base.proofs.Common.{suc, zero, ℕ, ◌/◌, if◌then◌else◌, ◌==◌, Option, None, Some, nat_le, Bool, false, not, true, ◌&&◌, ◌||◌, List, [], ◌++◌}
use Rattle.yaml_base.proofs.Common.{◌∷◌, refl, ◌≡◌, eqb-true, append-nil, append_assoc, ap, sym, ◌∙◌, arith, and_parts, or_parts, agree_below_at, false≢true}
use Rattle.yaml_base.proofs.Common.{nat_tests, flat_map, list_any, Text, space, is_space, is_break, hex_digits, Cursor, and-false, ScalarStyle, any_style}
use Rattle.yaml_base.proofs.Common.{plain, single_quoted, double_quoted, literal, folded, render_body, Effective, short_escapes, letter_among}
use Rattle.yaml_base.proofs.Common.{escape_after_backslash, escape_text, needs_escape, character_text, double_inside, render_quote, runs, render_runs}
use Rattle.yaml_base.{proofs.Common.quotes_doubled, proofs.Common.single_quote, proofs.stream_flow.StreamFlowScalars.is_flow_style, specs.Cursor.render_text}
use Rattle.yaml_base.{specs.scalars.DoubleQuoted.quote, specs.scalars.DoubleQuoted.ShortEscape, specs.scalars.Plain.Run, specs.scalars.Plain.run_text}

-- Without folds

-- the text of a style, character by character; a space means itself
pub record Writes (written : Text → Text) (one : ℕ → Text) : Type 0 where
  pub nothing : written [] ≡ []
  pub more : (c : ℕ) (t : Text) → written (c ∷ t) ≡ one c ++ written t
  pub space : (c : ℕ) → is_space c ≡ true → one c ≡ c ∷ []

-- the texts of runs without a fold
abbrev run_texts : (Text → Text) → ℕ → List Run → Text
run_texts written indent [] = []
run_texts written indent (run ∷ more) = run_text written false indent run.kind run.text ++ run_texts written indent more

-- without a limit there is no fold
unfolded_runs : (written : Text → Text) (indent : ℕ) (edge : Bool) (all : List Run) (cursor : Cursor)
    → (render_runs written None indent edge all cursor).text ≡ run_texts written indent all
unfolded_runs written indent edge [] cursor = refl
unfolded_runs written indent edge (run ∷ more) cursor =
    ap (λ t. run_text written false indent run.kind run.text ++ t) (unfolded_runs written indent false more _)

-- a value without a break is rendered as it is written
written_alone : (written : Text → Text) (one : ℕ → Text) (writes : Writes written one) (indent : ℕ) (value : Text) → list_any is_break value ≡ false
    → run_texts written indent (runs value) ≡ written value
written_alone written one writes indent [] h = sym writes.nothing
written_alone written one writes indent (c ∷ value) h =
    grind (arith, and_parts, and_from, or_parts, or_from, append-nil, append_assoc, written_alone written one writes indent value)

runs_alone : (written : Text → Text) (one : ℕ → Text) (writes : Writes written one) (indent : ℕ) (value : Text) (cursor : Cursor)
    → list_any is_break value ≡ false → (render_runs written None indent true (runs value) cursor).text ≡ written value
runs_alone written one writes indent value cursor h =
    unfolded_runs written indent true (runs value) cursor ∙ written_alone written one writes indent value h

-- plain text means itself
plain_writes : Writes (λ text. text) (λ c. c ∷ [])
plain_writes = record { nothing = refl; more = λ c t. refl; space = λ c h. refl }

-- in single quotes a quote is written twice
abbrev pub quote_doubled : ℕ → Text
quote_doubled c = if c == 39 then 39 ∷ 39 ∷ [] else c ∷ []

quotes_write : Writes quotes_doubled quote_doubled
quotes_write = record { nothing = refl; more = λ c t. refl; space = λ c h. ap quote_doubled (eqb-true c space h) ∙ ap (λ d. d ∷ []) (sym (eqb-true c space h)) }

-- in double quotes each character is an escape or itself
double_alone : (unicode : Bool) (indent : ℕ) (before : Option ℕ) (value : Text) (cursor : Cursor)
    → (double_inside unicode None indent before value cursor).text ≡ flat_map (character_text unicode) value
double_alone unicode indent before [] cursor = refl
double_alone unicode indent before (c ∷ value) cursor =
    grind (arith, and-false, double_alone unicode indent (Some c) value (render_text (character_text unicode c) cursor).cursor)

-- the body of a simple key
abbrev pub key_body : ScalarStyle → (unicode : Bool) → Text → Text
key_body plain unicode value = value
key_body single_quoted unicode value = 39 ∷ (quotes_doubled value ++ (39 ∷ []))
key_body _ unicode value = quote ∷ (flat_map (character_text unicode) value ++ (quote ∷ []))

-- so it is rendered
pub body_alone : (s : Effective) (style : ScalarStyle) (indent : ℕ) (value : Text) (cursor : Cursor) → is_flow_style style ≡ true
    → list_any is_break value ≡ false → (render_body style s None indent value cursor).text ≡ key_body style s.unicode value
body_alone s plain indent value cursor flow h = runs_alone (λ text. text) (λ c. c ∷ []) plain_writes indent value cursor h
body_alone s single_quoted indent value cursor flow h =
    ap (λ t. 39 ∷ (t ++ (39 ∷ []))) (runs_alone quotes_doubled quote_doubled quotes_write indent value (single_quote cursor).cursor h)
body_alone s double_quoted indent value cursor flow h =
    ap (λ t. quote ∷ (t ++ (quote ∷ []))) (double_alone s.unicode indent None value (render_quote cursor).cursor)
body_alone s any_style indent value cursor flow h =
    ap (λ t. quote ∷ (t ++ (quote ∷ []))) (double_alone s.unicode indent None value (render_quote cursor).cursor)
body_alone s literal indent value cursor flow h = absurd (false≢true flow)
body_alone s folded indent value cursor flow h = absurd (false≢true flow)

-- On one line

-- two texts without a break
unbroken_both : (a b : Text) → list_any is_break a ≡ false → list_any is_break b ≡ false → list_any is_break (a ++ b) ≡ false
unbroken_both [] b h k = k
unbroken_both (c ∷ a) b h k =
    let parts = or_parts (is_break c) (list_any is_break a) h in ap (λ x. x || list_any is_break (a ++ b)) parts.0 ∙ unbroken_both a b parts.1 k

-- a text of which each character is written without a break
unbroken_each : (one : ℕ → Text) → ((c : ℕ) → is_break c ≡ false → list_any is_break (one c) ≡ false) → (value : Text)
    → list_any is_break value ≡ false → list_any is_break (flat_map one value) ≡ false
unbroken_each one each [] h = refl
unbroken_each one each (c ∷ value) h = grind (arith, and_parts, and_from, or_parts, or_from, unbroken_both, unbroken_each one each value)

-- the letters of escapes are no breaks
abbrev unbroken_letters : List ShortEscape → Bool
unbroken_letters [] = true
unbroken_letters (entry ∷ more) = not (is_break entry.letter) && unbroken_letters more

unbroken_letter : (table : List ShortEscape) (c : ℕ) → unbroken_letters table ≡ true → (letter : ℕ) → letter_among table c ≡ Some letter
    → list_any is_break (letter ∷ []) ≡ false
unbroken_letter [] c h letter e = cc
unbroken_letter (entry ∷ more) c h letter e = grind (arith, and_parts, and_from, or_parts, or_from, unbroken_letter more c)

-- nor are digits
unbroken_digits : (count n : ℕ) → list_any is_break (hex_digits count n) ≡ false
unbroken_digits zero n = refl
unbroken_digits (suc count) n = grind (arith, unbroken_both, agree_below_at, unbroken_digits count (n / 16))

unbroken_number : (c : ℕ) (two four : Bool)
    → list_any is_break (if two then 120 ∷ hex_digits 2 c else (if four then 117 ∷ hex_digits 4 c else 85 ∷ hex_digits 8 c)) ≡ false
unbroken_number c true four = unbroken_digits 2 c
unbroken_number c false true = unbroken_digits 4 c
unbroken_number c false false = unbroken_digits 8 c

unbroken_after : (c : ℕ) (found : Option ℕ) → letter_among short_escapes c ≡ found → list_any is_break (escape_after_backslash found c) ≡ false
unbroken_after c (Some letter) e = unbroken_letter short_escapes c refl letter e
unbroken_after c None e = unbroken_number c (nat_le c 0xFF) (nat_le c 0xFFFF)

-- a character in double quotes is written without a break
unbroken_character : (unicode : Bool) (c : ℕ) → is_break c ≡ false → list_any is_break (character_text unicode c) ≡ false
unbroken_character unicode c h = by (needs_escape unicode c)
  where
    by : (x : Bool) → list_any is_break (if x then escape_text c else c ∷ []) ≡ false
    by true = unbroken_after c (letter_among short_escapes c) refl
    by false = ap (λ x. x || false) h

doubled_each : (value : Text) → quotes_doubled value ≡ flat_map quote_doubled value
doubled_each [] = refl
doubled_each (c ∷ value) = ap (λ t. quote_doubled c ++ t) (doubled_each value)

quoted_unbroken : (unicode : Bool) (value : Text) → list_any is_break value ≡ false → list_any is_break (key_body double_quoted unicode value) ≡ false
quoted_unbroken unicode value h =
    unbroken_both (flat_map (character_text unicode) value) (quote ∷ []) (unbroken_each (character_text unicode) (unbroken_character unicode) value h) refl

-- the body of a simple key has no break
pub key_unbroken : (style : ScalarStyle) (unicode : Bool) (value : Text) → list_any is_break value ≡ false → list_any is_break (key_body style unicode value)
    ≡ false
key_unbroken style unicode value h = grind (arith, nat_tests, unbroken_both, doubled_each, unbroken_each, quoted_unbroken)
