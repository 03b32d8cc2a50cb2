-- The beginnings of values, expressions and lines: strings, scalars, keys and headers.
use Rattle.toml_ordered.proofs.Common.{◌≡◌, ◌⊎◌, inl, inr, ℕ, ◌==◌, Bool, true, false, cond, List, drop, Option, Some, None, refl, sym, subst, ap, String}
use Rattle.toml_ordered.proofs.Common.{Global, string_bytes, rules, arith, option_and_then, option_map, ◌∙◌, cases_Bool, eq-eqb, ne_eqb, Read, first}
use Rattle.toml_ordered.proofs.Common.{skip_blank, skip_ws, Key, quoted, starts_string, after_byte, ends_line, TomlNode, node_view, string, sealed, atom}
use Rattle.toml_ordered.proofs.Common.{expression, is_doubled, line, val, Expression, array_table, key_value, std_table, FaultTells, NeitherTells}
use Rattle.toml_ordered.proofs.Common.{ExpressionNestsPast, HasLongKey, KeyTells, PairClashes, own_key, IsGrammarRefusal, IsMemory, Fault, the_lemmas}
use Rattle.toml_parser.specs.{Strings.key, declared.error.ParseError.ParseError}
use Rattle.toml.specs.Parse.{after_element, header_key, key_equals}
use Rattle.toml_ordered.{proofs.Blaming.header_keyless, proofs.Conflicts.reason_in, proofs.LongKeys.before_short, proofs.LongKeys.own_key_pair}
use Rattle.toml_ordered.{proofs.Unblamed.nameless_neither, proofs.Turns.val_deep, proofs.Turns.val_sealed, specs.Grammar.key_before, specs.Firsts.IsOther}
use Rattle.toml_ordered.{specs.Nesting.ExpressionTells, specs.Reading.fault_of, specs.declared.syntax.SyntaxError.SyntaxError, specs.declared.tree.Node.Text}
use Rattle.toml_parser.specs.declared.error.ParseError.TheVariants as parse
use Rattle.toml_ordered.specs.declared.fault.Fault.TheVariants as fault

-- an error of `toml_parser`
pub no_token : {B : Type 0} (error : ParseError) (found : Fault) (expected : Option B) → found ≡ fault_of error
    → ((error ≡ parse.OutOfMemory → ⊥) → expected ≡ None) → IsGrammarRefusal expected IsOther found
no_token error found expected is none = subst (IsGrammarRefusal expected IsOther) (sym is) (by error none)
  where
    by : (e : ParseError) → ((e ≡ parse.OutOfMemory → ⊥) → expected ≡ None) → IsGrammarRefusal expected IsOther (fault_of e)
    by parse.OutOfMemory refused = (λ real. absurd (real refl), tt)
    by (parse.At kind from to) refused = (λ real. refused (λ m. cc), tt)

-- no text of the grammar goes on here, and more is told
pub ends_text : {B : Type 0} (left : ℕ) (why : SyntaxError) (found : Fault) (expected : Option B) (again : List ℕ → ℕ → ℕ → Type 0) (deep : ℕ → Type 0)
    → found ≡ fault.NotToml left why → expected ≡ None → NeitherTells again deep → IsGrammarRefusal expected (λ f. FaultTells f again deep) found
ends_text left why found expected again deep is none neither = subst (IsGrammarRefusal expected (λ f. FaultTells f again deep)) (sym is) (λ real. none, neither)

-- no text of the grammar goes on here
pub no_text : {B : Type 0} (left : ℕ) (why : SyntaxError) (found : Fault) (expected : Option B) → found ≡ fault.NotToml left why → expected ≡ None
    → IsGrammarRefusal expected IsOther found
no_text left why found expected is none = subst (IsGrammarRefusal expected IsOther) (sym is) (λ real. none, tt)

-- the byte after the blanks, which closes an array or a table in braces, or not
module _ (closing : ℕ) (text start : List ℕ) (blank : start ≡ skip_blank text) (byte : ℕ) (here : byte ≡ first start) where
  pub closes : byte ≡ closing → (first (skip_blank text) == closing) ≡ true
  closes is = rw (← blank, ← here) (eq-eqb byte closing is)

  pub closes_not : (byte ≡ closing → ⊥) → (first (skip_blank text) == closing) ≡ false
  closes_not more = rw (← blank, ← here) (ne_eqb byte closing more)

-- a value that nests too deep
pub val_opens : (text : List ℕ) → (first text ≡ 91) ⊎ (first text ≡ 123) → val 0 text ≡ None
val_opens text (inl is) = val_deep text (rw is)
val_opens text (inr is) = val_deep text (rw is)

-- strings and scalars
module _ (text : List ℕ) (flag : Bool) (starts : flag ≡ starts_string text) where
  pub text_is : flag ≡ true → (value : String Global) (rest : List ℕ) → quoted text ≡ Some (string_bytes value, rest)
      → atom text ≡ Some (node_view (Text value), rest)
  text_is is value rest read =
      let begins : starts_string text ≡ true = rw (← starts) is in
      let view : node_view (Text value) ≡ string (string_bytes value) = search (rules, the_lemmas) in
      rw (begins, read, view)

  pub text_bad : flag ≡ true → quoted text ≡ None → atom text ≡ None
  text_bad is read = let begins : starts_string text ≡ true = rw (← starts) is in rw (begins, read)

-- keys
-- a key that was read, past the blanks after it
abbrev pub past_blanks : Key × List ℕ → Key × List ℕ
past_blanks k = (k.0, skip_ws k.1)

pub key_equals_by : (text : List ℕ) → key_equals text ≡ option_map past_blanks (key_before 61 text)
unfolding key_equals
key_equals_by text = by (key text)
  where
    with : Key → List ℕ → Key × List ℕ
    with name rest = (name, rest)

    behind : (name : Key) (o : Option (List ℕ)) → option_map (λ rest. past_blanks (name, rest)) o ≡ option_map past_blanks (option_map (with name) o)
    behind name None = refl
    behind name (Some rest) = refl

    by : (o : Read Key) → option_and_then (λ k. option_map (λ rest. past_blanks (k.0, rest)) (after_byte 61 k.1)) o
        ≡ option_map past_blanks (option_and_then (λ k. option_map (with k.0) (after_byte 61 k.1)) o)
    by None = refl
    by (Some k) = behind k.0 (after_byte 61 k.1)

pub header_key_by : (text start : List ℕ) → start ≡ skip_ws text → header_key text ≡ key_before 93 start
unfolding header_key
header_key_by text start behind = rw behind

module _ (closing : ℕ) (text rest : List ℕ) (blank : rest ≡ skip_blank text) (byte : ℕ) (here : byte ≡ first rest) where
  pub element_comma : byte ≡ 44 → (next : List ℕ) → next ≡ drop 1 rest → after_element closing text ≡ Some next
  unfolding after_element
  element_comma is next follows = let comma : (first (skip_blank text) == 44) ≡ true = rw (← blank, ← here, is) in rw (comma, follows, blank)

  module _ (other : byte ≡ 44 → ⊥) where
    no_comma : (first (skip_blank text) == 44) ≡ false
    no_comma = rw (← blank, ← here, ne_eqb byte 44 other)

    pub element_ends : byte ≡ closing → after_element closing text ≡ Some rest
    unfolding after_element
    element_ends is =
        let ends : (first (skip_blank text) == closing) ≡ true = rw (← blank, ← here) (eq-eqb byte closing is) in
        rw (no_comma, ends, blank)

    pub element_unended : (byte ≡ closing → ⊥) → after_element closing text ≡ None
    unfolding after_element
    element_unended more =
        let ends : (first (skip_blank text) == closing) ≡ false = rw (← blank, ← here) (ne_eqb byte closing more) in
        rw (no_comma, ends)

module _ (text : List ℕ) (byte : ℕ) (here : byte ≡ first text) (other : byte ≡ 91 → ⊥) where
  no_header : (first text == 91) ≡ false
  no_header = rw (← here, ne_eqb byte 91 other)

  pub pair_nameless : key_equals text ≡ None → expression text ≡ None
  pair_nameless named = rw (no_header, named)

  -- the key of a pair is refused
  pub pair_keyless : (fault : Fault) → ((IsMemory fault → ⊥) → key_equals text ≡ None) → KeyTells text fault → ExpressionTells text fault
  pair_keyless fault none tells =
      let own = own_key_pair text no_header in
      reason_in fault (λ key one two. ⊥) (PairClashes text) (λ left. HasLongKey left text) (ExpressionNestsPast text) (λ key one two clash. absurd clash)
      (λ left long. inl (subst (HasLongKey left) (sym own) long))
      (λ real neither. nameless_neither text (none real) (λ left long. neither.1 left (subst (HasLongKey left) own long))) tells

  module _ (name : Key) (at : List ℕ) (named : key_equals text ≡ Some (name, at)) where
    pub pair_bad : val 80 at ≡ None → expression text ≡ None
    pair_bad read = rw (no_header, named, read)

    pub pair_is : (x : TomlNode) (rest : List ℕ) → val 80 at ≡ Some (x, rest) → expression text ≡ Some ((name, key_value (sealed x)), rest)
    pair_is x rest read = rw (no_header, named, read, val_sealed 80 at x rest read)

module _ (text : List ℕ) where
  module _ (e : Expression) (rest end : List ℕ) (read : expression text ≡ Some (e, rest)) (behind : end ≡ skip_ws rest) where
    pub line_is : ends_line end ≡ true → line text ≡ Some (e, rest)
    line_is ends = let alone : ends_line (skip_ws rest) ≡ true = rw (← behind) ends in rw (read, alone)

    pub line_goes_on : ends_line end ≡ false → line text ≡ None
    line_goes_on more = let alone : ends_line (skip_ws rest) ≡ false = rw (← behind) more in rw (read, alone)

-- headers in two brackets, or in one
module _ (text : List ℕ) (opens : first text ≡ 91) (brackets : ℕ) (are : brackets ≡ cond (is_doubled text) 2 1) (after : List ℕ)
    (behind : after ≡ drop brackets text) (start : List ℕ) (blank : start ≡ skip_ws after) where
  opening : (first text == 91) ≡ true
  opening = rw opens

  count : (b : Bool) → is_doubled text ≡ b → brackets ≡ cond b 2 1
  count b is = are ∙ ap (λ (doubled : Bool). cond doubled 2 1) is

  cut : (b : Bool) → is_doubled text ≡ b → after ≡ drop (cond b 2 1) text
  cut b is = behind ∙ ap (λ (n : ℕ). drop n text) (count b is)

  key_of : (k : Read Key) → key_before 93 start ≡ k → (b : Bool) → is_doubled text ≡ b → header_key (drop (cond b 2 1) text) ≡ k
  key_of k read b is = ap header_key (sym (cut b is)) ∙ header_key_by after start blank ∙ read

  pub header_bad : key_before 93 start ≡ None → expression text ≡ None
  header_bad none = by (is_doubled text) refl
    where
      by : (b : Bool) → is_doubled text ≡ b → expression text ≡ None
      by true is = rw (is, key_of None none true is)
      by false is = rw (is, opening, key_of None none false is)

  own : own_key text ≡ start
  own = by (is_doubled text) refl
    where
      by : (b : Bool) → is_doubled text ≡ b → own_key text ≡ start
      by true is = rw is (ap skip_ws (sym (cut true is)) ∙ sym blank)
      by false is = rw (is, opening) (ap skip_ws (sym (cut false is)) ∙ sym blank)

  -- its key is refused
  pub header_keyed : (fault : Fault) → KeyTells start fault → ExpressionTells text fault
  header_keyed fault tells =
      reason_in fault (λ key one two. ⊥) (PairClashes text) (λ left. HasLongKey left start) (ExpressionNestsPast text) (λ key one two clash. absurd clash)
      (λ left long. inl (subst (HasLongKey left) (sym own) long))
      (λ real neither. nameless_neither text (header_keyless text opens) (λ left long. neither.1 left (subst (HasLongKey left) own long))) tells

  module _ (name : Key) (rest : List ℕ) (read : key_before 93 start ≡ Some (name, rest)) where
    -- or read
    pub header_neither : NeitherTells (PairClashes text) (ExpressionNestsPast text)
    header_neither =
        nameless_neither text (header_keyless text opens) (λ left long. before_short 93 start (name, rest) read left (subst (HasLongKey left) own long))

    pub header_one : brackets ≡ 1 → expression text ≡ Some ((name, std_table), rest)
    header_one one = by (is_doubled text) refl
      where
        by : (b : Bool) → is_doubled text ≡ b → expression text ≡ Some ((name, std_table), rest)
        by true is = let two = count true is in absurd (omega (arith, two, one))
        by false is = rw (is, opening, key_of (Some (name, rest)) read false is)

    module _ (more : brackets ≡ 1 → ⊥) (next : ℕ) (here : next ≡ first rest) where
      doubled : is_doubled text ≡ true
      doubled = elim (cases_Bool (is_doubled text)) [
        | inl is ↦ is
        | inr is ↦ absurd (more (count false is))
      ]

      pub header_two : next ≡ 93 → (end : List ℕ) → end ≡ drop 1 rest → expression text ≡ Some ((name, array_table), end)
      header_two is end ends =
          let closing : (first rest == 93) ≡ true = rw (← here, is) in
          rw (doubled, key_of (Some (name, rest)) read true doubled, closing, ends)

      pub header_open : (next ≡ 93 → ⊥) → expression text ≡ None
      header_open other =
          let closing : (first rest == 93) ≡ false = rw (← here, ne_eqb next 93 other) in
          rw (doubled, key_of (Some (name, rest)) read true doubled, closing)
