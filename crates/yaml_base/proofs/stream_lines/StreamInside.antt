-- Which lines lie inside a column, and lines that are the entries of a collection whatever entries follow them.
use Rattle.yaml_base.proofs.Common.{or_from, or_parts}
use Rattle.yaml_base.proofs.Common.{suc, zero, ℕ, ◌<◌, ◌==◌, Some, Bool, false, not, true, ◌&&◌, ◌||◌, List, [], ◌++◌, ◌∷◌, refl, ◌≡◌, append-nil}
use Rattle.yaml_base.proofs.Common.{append_assoc, ap, sym, ◌∙◌, arith, and_parts, and_from, false≢true, list_all, Text, space, Line, is_spaces}
use Rattle.yaml_base.proofs.Common.{begins_with_indicator, belongs_to_entry, all_deeper, indented_step, past_indentation, spaces}
use Rattle.yaml_base.specs.streams.StreamLines.{begins_comment, is_comment, is_skipped, is_comment_at, item_follows, goes_on_after_comment, prepend_line}
use Rattle.yaml_base.specs.streams.StreamLines.{Entries, entries_at, past_column}
use Rattle.yaml_base.proofs.Common.{drop, not-true, if◌then◌else◌}
use Rattle.std.specs.Prelude.{option_map, unwrap_or}

-- a line deeper than a column is inside it
pub inside_deeper : (s : Bool) (d e : ℕ) (t : Text) → d < e → belongs_to_entry s d (spaces e ++ t) ≡ true
inside_deeper s d zero t h = absurd (omega arith)
inside_deeper s zero (suc e) t h = refl
inside_deeper s (suc d) (suc e) t h = inside_deeper s d e t (omega arith)

-- the beginning of an entry: no space, no comment, and in a mapping no `-`
abbrev pub begins_entry : (in_sequence : Bool) → Text → Bool
begins_entry s [] = false
begins_entry s (c ∷ t) = not (c == space) && (not (c == 0x23) && (s || not (begins_with_indicator 0x2D (c ∷ t))))

-- an entry's first line is not inside its column
pub outside : (s : Bool) (e : ℕ) (t : Text) → begins_entry s t ≡ true → belongs_to_entry s e (spaces e ++ t) ≡ false
outside s e [] h = absurd (false≢true h)
outside s zero (c ∷ t) h = grind (arith, false≢true)
outside s (suc e) (c ∷ t) h = outside s e (c ∷ t) h

-- the text at a column after spaces
pub past_spaces : (e : ℕ) (t : Text) → past_column e (spaces e ++ t) ≡ Some t
past_spaces zero t = refl
past_spaces (suc e) t = past_spaces e t

-- a text that begins with no space is at the column at which the spaces before it end
pub indented_spaces : (e c : ℕ) (t : Text) → (c == space) ≡ false → past_indentation (spaces e ++ (c ∷ t)) ≡ record { column = e; text = c ∷ t }
indented_spaces zero c t h = ap (λ b. indented_step b (c ∷ t) (past_indentation t)) h
indented_spaces (suc e) c t h = ap (λ l. record { column = suc l.column; text = l.text }) (indented_spaces e c t h)

-- a line isn't blank if something follows its spaces
pub not_blank : (e c : ℕ) (t : Text) → (c == space) ≡ false → is_spaces (spaces e ++ (c ∷ t)) ≡ false
not_blank zero c t h = ap (λ b. b && is_spaces t) h
not_blank (suc e) c t h = not_blank e c t h

-- spaces are blank
pub blank_spaces : (e : ℕ) → is_spaces (spaces e) ≡ true
blank_spaces zero = refl
blank_spaces (suc e) = blank_spaces e

-- with spaces before it a text of spaces is one
pub blank_both : (k : ℕ) (t : Text) → is_spaces t ≡ true → is_spaces (spaces k ++ t) ≡ true
blank_both zero t h = h
blank_both (suc k) t h = blank_both k t h

-- a character after spaces that is none begins no comment line, unless it is `#`
no_comment_line : (e c : ℕ) (t : Text) → (c == space) ≡ false → (c == 0x23) ≡ false → is_comment (spaces e ++ (c ∷ t)) ≡ false
no_comment_line zero c t shows uncommented = ap (λ b. b || (c == space && is_comment t)) uncommented ∙ ap (λ b. b && is_comment t) shows
no_comment_line (suc e) c t shows uncommented = no_comment_line e c t shows uncommented

-- so its line isn't skipped
pub not_skipped : (e c : ℕ) (t : Text) → (c == space) ≡ false → (c == 0x23) ≡ false → is_skipped (spaces e ++ (c ∷ t)) ≡ false
not_skipped e c t shows uncommented =
    ap (λ b. b || is_comment (spaces e ++ (c ∷ t))) (not_blank e c t shows) ∙ no_comment_line e c t shows uncommented

-- a blank line is skipped
pub skipped_blank : (t : Text) → is_spaces t ≡ true → is_skipped t ≡ true
skipped_blank t h = ap (λ b. b || is_comment t) h

-- no entry begins with a comment
pub begins_uncommented : (s : Bool) (t : Text) → begins_entry s t ≡ true → begins_comment t ≡ false
begins_uncommented s [] h = refl
begins_uncommented s (c ∷ t) h = grind (arith, and_parts, false≢true)

-- an entry's first line is no comment at its column
pub entry_uncommented : (s : Bool) (e : ℕ) (t : Text) → begins_entry s t ≡ true → is_comment_at e (spaces e ++ t) ≡ false
entry_uncommented s e [] h = absurd (false≢true h)
entry_uncommented s e (c ∷ t) h =
    ap (λ found. unwrap_or (option_map begins_comment found) false) (past_spaces e (c ∷ t)) ∙ begins_uncommented s (c ∷ t) h

-- each of some lines is inside a column
abbrev pub AllInside : Bool → ℕ → List Line → Type 0
AllInside s column lines = list_all (λ line. belongs_to_entry s column line.text) lines ≡ true

-- inside a column of a sequence is inside it for a mapping
pub inside_mapping : (s : Bool) (d : ℕ) (t : Text) → belongs_to_entry true d t ≡ true → belongs_to_entry s d t ≡ true
inside_mapping s d [] h = refl
inside_mapping s zero (c ∷ t) h = grind (arith, false≢true)
inside_mapping s (suc d) (c ∷ t) h = grind (arith, and_parts, and_from, or_parts, or_from, inside_mapping s d t)

-- lines inside a sequence's column are deeper than it
pub deeper_inside : (column : ℕ) (lines : List Line) → AllInside true column lines → all_deeper (Some column) lines ≡ true
deeper_inside column [] h = refl
deeper_inside column (line ∷ rest) h = grind (arith, and_parts, and_from, or_parts, or_from, deeper_inside column rest)

-- lines inside the column belong to the entry before them
pub passes : (s : Bool) (e : ℕ) (rest lines : List Line) → AllInside s e rest
    → entries_at s e (rest ++ lines) ≡ record { before = rest ++ (entries_at s e lines).before; entries = (entries_at s e lines).entries }
passes s e [] lines h = refl
passes s e (line ∷ rest) lines h =
    let parts = and_parts (belongs_to_entry s e line.text) (list_all (λ line. belongs_to_entry s e line.text) rest) h in
    let after = entries_at s e (rest ++ lines) in
    ap (λ b. prepend_line (b || goes_on_after_comment s e line.text (rest ++ lines)) line after) parts.0
    ∙ ap (prepend_line true line) (passes s e rest lines parts.1)

-- some lines belong to the entry above them, whatever lines follow
pub record Passes (s : Bool) (e : ℕ) (lines : List Line) : Type 0 where
  pub passed : (more : List Line) → entries_at s e (lines ++ more)
      ≡ record { before = lines ++ (entries_at s e more).before; entries = (entries_at s e more).entries }

-- lines inside the column do
pub inside_passes : (s : Bool) (e : ℕ) (lines : List Line) → AllInside s e lines → Passes s e lines
inside_passes s e lines h = record { passed = λ more. passes s e lines more h }

-- lines, and then others
pub passes_both : (s : Bool) (e : ℕ) (a b : List Line) → Passes s e a → Passes s e b → Passes s e (a ++ b)
passes_both s e a b one two = record {
  passed = λ more.
      ap (entries_at s e) (append_assoc a b more) ∙ one.passed (b ++ more)
      ∙ ap (λ (all : Entries). record { before = a ++ all.before; entries = all.entries }) (two.passed more)
      ∙ ap (λ ls. record { before = ls; entries = (entries_at s e more).entries }) (sym (append_assoc a b (entries_at s e more).before));
}

-- a line is none
no_lines : (line : Line) (lines : List Line) → [] ≡ line ∷ lines → ⊥
no_lines line lines h = cc

-- those after the first
pub passes_later : (s : Bool) (e : ℕ) (line : Line) (rest : List Line) → Passes s e (line ∷ rest) → Passes s e rest
passes_later s e line rest all = record {
  passed = λ more.
      by (belongs_to_entry s e line.text || goes_on_after_comment s e line.text (rest ++ more)) (entries_at s e (rest ++ more))
      (rest ++ (entries_at s e more).before) (entries_at s e more).entries (all.passed more);
}
  where
    by : (x : Bool) (after : Entries) (before : List Line) (entries : List (List Line))
        → prepend_line x line after ≡ record { before = line ∷ before; entries = entries } → after ≡ record { before = before; entries = entries }
    by true after before entries h = ap (λ (all : Entries). record { before = drop 1 all.before; entries = all.entries }) h
    by false after before entries h = absurd (no_lines line before (ap (λ (all : Entries). all.before) h))

-- no line goes on after a comment that it isn't
no_going_on : (s : Bool) (e : ℕ) (text : Text) (rest : List Line) → is_comment_at e text ≡ false → goes_on_after_comment s e text rest ≡ false
no_going_on true e text rest h = refl
no_going_on false e text rest h = ap (λ b. b && item_follows e rest) h

-- lines that are these entries, whatever entries follow them; no item follows comments before the lines if none does after the lines
pub record Splits (s : Bool) (e : ℕ) (lines : List Line) (entries : List (List Line)) : Type 0 where
  pub splits : (rest : List Line) → (entries_at s e rest).before ≡ [] → (s ≡ false → item_follows e rest ≡ false)
      → entries_at s e (lines ++ rest) ≡ record { before = []; entries = entries ++ (entries_at s e rest).entries }
  pub alone : s ≡ false → (rest : List Line) → item_follows e rest ≡ false → item_follows e (lines ++ rest) ≡ false

-- no lines
pub splits_none : (s : Bool) (e : ℕ) → Splits s e [] []
splits_none s e = record {
  splits = λ rest h none. ap (λ b. record { before = b; entries = (entries_at s e rest).entries }) h;
  alone = λ q rest none. none;
}

-- lines, and then others
pub splits_both : (s : Bool) (e : ℕ) (a b : List Line) (x y : List (List Line)) → Splits s e a x → Splits s e b y → Splits s e (a ++ b) (x ++ y)
splits_both s e a b x y one two = record {
  splits = λ rest h none.
      let after = two.splits rest h none in
      ap (entries_at s e) (append_assoc a b rest)
      ∙ one.splits (b ++ rest) (ap (λ (all : Entries). all.before) after) (λ q. two.alone q rest (none q))
      ∙ ap (λ (all : Entries). record { before = []; entries = x ++ all.entries }) after
      ∙ ap (λ es. record { before = []; entries = es }) (sym (append_assoc x y (entries_at s e rest).entries));
  alone = λ q rest none. ap (item_follows e) (append_assoc a b rest) ∙ one.alone q (b ++ rest) (two.alone q rest none);
}

-- an entry of a mapping is no item
pub entry_alone : (e : ℕ) (t ending : Text) (more : List Line) → begins_entry false t ≡ true
    → item_follows e (record { text = spaces e ++ t; ending = ending } ∷ more) ≡ false
entry_alone e [] ending more h = absurd (false≢true h)
entry_alone e (c ∷ t) ending more h =
    let parts = and_parts (not (c == space)) (not (c == 0x23) && (false || not (begins_with_indicator 0x2D (c ∷ t)))) h in
    let others = and_parts (not (c == 0x23)) (false || not (begins_with_indicator 0x2D (c ∷ t))) parts.1 in
    ap (λ x. if x then item_follows e more else unwrap_or (option_map (begins_with_indicator 0x2D) (past_column e (spaces e ++ (c ∷ t)))) false)
    (not_skipped e c t (not-true (c == space) parts.0) (not-true (c == 0x23) others.0))
    ∙ ap (λ found. unwrap_or (option_map (begins_with_indicator 0x2D) found) false) (past_spaces e (c ∷ t))
    ∙ not-true (begins_with_indicator 0x2D (c ∷ t)) others.1

-- one entry: a first line at the column, and lines inside it
pub splits_one : (s : Bool) (e : ℕ) (line : Line) (rest : List Line) → belongs_to_entry s e line.text ≡ false → is_comment_at e line.text ≡ false
    → (s ≡ false → (more : List Line) → item_follows e (line ∷ more) ≡ false) → Passes s e rest → Splits s e (line ∷ rest) ((line ∷ rest) ∷ [])
splits_one s e line rest out uncommented alone inside = record {
  splits = λ more h none.
      let after = entries_at s e (rest ++ more) in
      ap (λ b. prepend_line (b || goes_on_after_comment s e line.text (rest ++ more)) line after) out
      ∙ ap (λ b. prepend_line b line after) (no_going_on s e line.text (rest ++ more) uncommented)
      ∙ ap (prepend_line false line) (inside.passed more)
      ∙ ap (λ b. record { before = []; entries = (line ∷ (rest ++ b)) ∷ (entries_at s e more).entries }) h
      ∙ ap (λ b. record { before = []; entries = (line ∷ b) ∷ (entries_at s e more).entries }) (append-nil rest);
  alone = λ q more none. alone q (rest ++ more);
}

-- the entries of lines that split, and nothing after them
pub splits_alone : (s : Bool) (e : ℕ) (lines : List Line) (entries : List (List Line)) → Splits s e lines entries
    → entries_at s e lines ≡ record { before = []; entries = entries }
splits_alone s e lines entries all =
    ap (entries_at s e) (sym (append-nil lines)) ∙ all.splits [] refl (λ q. refl) ∙ ap (λ t. record { before = []; entries = t }) (append-nil entries)
