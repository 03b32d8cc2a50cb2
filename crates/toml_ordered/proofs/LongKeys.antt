-- Keys of more parts than are read.
use Rattle.toml_ordered.proofs.Common.{◌≡◌, ℕ, zero, suc, ◌+◌, ◌-◌, ◌<◌, ◌≤◌, ◌==◌, ◌&&◌, ◌||◌, Bool, true, false, cond, List, [], ◌∷◌, ◌++◌, length, take}
use Rattle.toml_ordered.proofs.Common.{drop, Some, None, inl, inr, refl, sym, ap, subst, ◌∙◌, arith, slice_index, none-some, same_Some, cases_Bool, eq-eqb}
use Rattle.toml_ordered.proofs.Common.{eqb-true, ne_eqb, length-append, prefix_len, option_and_then, Read, first, is_bare, skip_ws, Key, recursion_limit}
use Rattle.toml_ordered.proofs.Common.{starts_string, expression, HasLongKey, KeyTells, own_key, key_parts, Fault}
use Rattle.toml_parser.proofs.StringsLemmas.{key_after_turn}
use Rattle.toml_parser.specs.Strings.{body, key, key_after, one_line, quoted, simple_key, special}
use Rattle.toml.specs.Parse.{key_equals, header_key}
use Rattle.toml_ordered.specs.{Grammar.key_before, Nesting.any_key, declared.syntax.SyntaxError.SyntaxError}
use Rattle.toml_ordered.specs.declared.fault.Fault.TheVariants as fault

-- the text after a part of a key and a dot
abbrev pub past_dot : List ℕ → List ℕ
past_dot after = skip_ws (drop 1 (skip_ws after))

-- a key that goes on after a part, or ends
abbrev on_from : (n : ℕ) (path : List (List ℕ)) (part : List ℕ × List ℕ) → Bool → Read Key
on_from n path part dotted = cond dotted (key_after n (path ++ part.0 ∷ []) (past_dot part.1)) (Some ((path, part.0), skip_ws part.1))

abbrev on : (n : ℕ) (path : List (List ℕ)) → Read (List ℕ) → Read Key
on n path o = option_and_then (λ part. on_from n path part (first (skip_ws part.1) == 46)) o

-- ---- parts without quotes

pub bare_turn : (text : List ℕ) → is_bare (first text) ≡ true → drop (prefix_len is_bare text) text ≡ drop (prefix_len is_bare (drop 1 text)) (drop 1 text)
bare_turn [] bare = absurd (cc)
bare_turn (c ∷ cs) bare =
    let next : 1 + prefix_len is_bare cs ≡ suc (prefix_len is_bare cs) = omega arith in
    rw (bare, next)

-- ---- parts in quotes

-- two delimiters are an empty string
pub empty_string : (text : List ℕ) (byte : ℕ) → byte ≡ first text → slice_index text 1 ≡ byte → starts_string text ≡ true
    → simple_key text ≡ Some ([], drop 2 text)
unfolding simple_key one_line body special
empty_string [] byte here second starts = absurd (cc)
empty_string (c ∷ []) byte here second starts = absurd (lone c (second ∙ here) starts)
  where
    lone : (d : ℕ) → 0 ≡ d → starts_string (d ∷ []) ≡ true → ⊥
    lone zero is starts = cc
    lone (suc d) is starts = cc
empty_string (c ∷ d ∷ cs) byte here second starts =
    let same : (d == c) ≡ true = eq-eqb d c (second ∙ here) in
    rw (starts, same)

-- one delimiter begins a string on its line
pub quoted_part : (text : List ℕ) (byte : ℕ) → byte ≡ first text → (slice_index text 1 ≡ byte → ⊥) → starts_string text ≡ true → simple_key text ≡ quoted text
unfolding simple_key quoted
quoted_part text byte here other starts =
    let second : (slice_index text 1 == first text) ≡ false = rw (← here) (ne_eqb (slice_index text 1) byte other) in
    rw (starts, second)

-- ---- other parts

pub bare_part : (text : List ℕ) → is_bare (first text) ≡ true → starts_string text ≡ false
    → simple_key text ≡ Some (take (prefix_len is_bare text) text, drop (prefix_len is_bare text) text)
unfolding simple_key
bare_part text bare other = rw (other, bare)

quote_bare : is_bare 34 ≡ true → ⊥
quote_bare is = cc

apostrophe_bare : is_bare 39 ≡ true → ⊥
apostrophe_bare is = cc

pub bare_quotes_not : (text : List ℕ) → is_bare (first text) ≡ true → starts_string text ≡ false
bare_quotes_not text bare = by (first text == 34) (first text == 39) refl refl
  where
    by : (a b : Bool) → (first text == 34) ≡ a → (first text == 39) ≡ b → (a || b) ≡ false
    by true b one two = let is : first text ≡ 34 = eqb-true (first text) 34 one in absurd (quote_bare (subst (λ (c : ℕ). is_bare c ≡ true) is bare))
    by false true one two = let is : first text ≡ 39 = eqb-true (first text) 39 two in absurd (apostrophe_bare (subst (λ (c : ℕ). is_bare c ≡ true) is bare))
    by false false one two = refl

pub no_such_part : (text : List ℕ) → is_bare (first text) ≡ false → starts_string text ≡ false → simple_key text ≡ None
unfolding simple_key
no_such_part text other quotes = rw (quotes, other)

-- what is passed of a part
pub bare_passed : (text : List ℕ) (byte : ℕ) → byte ≡ first text → is_bare byte ≡ true → (rest : List ℕ) → rest ≡ drop (prefix_len is_bare text) text
    → (part : List ℕ) × (simple_key text ≡ Some (part, rest))
bare_passed text byte here bare rest is =
    let first_bare : is_bare (first text) ≡ true = subst (λ (c : ℕ). is_bare c ≡ true) here bare in
    let front = take (prefix_len is_bare text) text in
    (front, bare_part text first_bare (bare_quotes_not text first_bare) ∙ ap (λ (r : List ℕ). Some (front, r)) (sym is))

pub empty_passed : (text : List ℕ) (byte : ℕ) → byte ≡ first text → (next : ℕ) → next ≡ slice_index text 1 → next ≡ byte → starts_string text ≡ true
    → (rest : List ℕ) → rest ≡ drop 2 text → (part : List ℕ) × (simple_key text ≡ Some (part, rest))
empty_passed text byte here next second same starts rest is =
    let empty : List ℕ = [] in
    (empty, empty_string text byte here (sym second ∙ same) starts ∙ ap (λ (r : List ℕ). Some (empty, r)) (sym is))

pub quotes_differ : (text : List ℕ) (byte : ℕ) → byte ≡ first text → (next : ℕ) → next ≡ slice_index text 1 → (next ≡ byte → ⊥)
    → starts_string text ≡ true → simple_key text ≡ quoted text
quotes_differ text byte here next second other starts = quoted_part text byte here (λ same. other (second ∙ same)) starts

pub not_bare : (text : List ℕ) (byte : ℕ) → byte ≡ first text → is_bare byte ≡ false → is_bare (first text) ≡ false
not_bare text byte here other = subst (λ (c : ℕ). is_bare c ≡ false) here other

-- ---- keys of so many parts, and of any number

key_same : (n m : ℕ) (path : List (List ℕ)) (text : List ℕ) (r q : Key × List ℕ) → key_after n path text ≡ Some r → key_after m path text ≡ Some q → r ≡ q
unfolding key_after
key_same zero m path text r q one two = absurd (none-some _ one)
key_same (suc n) zero path text r q one two = absurd (none-some _ two)
key_same (suc n) (suc m) path text r q one two = by (λ p t. key_same n m p t r q) (simple_key text) one two
  where
    by_dot : ((p : List (List ℕ)) (t : List ℕ) → key_after n p t ≡ Some r → key_after m p t ≡ Some q → r ≡ q) → (part : List ℕ × List ℕ) (dotted : Bool)
        → on_from n path part dotted ≡ Some r → on_from m path part dotted ≡ Some q → r ≡ q
    by_dot more part true one two = more (path ++ part.0 ∷ []) (past_dot part.1) one two
    by_dot more part false one two = same_Some r q (sym one ∙ two)

    by : ((p : List (List ℕ)) (t : List ℕ) → key_after n p t ≡ Some r → key_after m p t ≡ Some q → r ≡ q) → (o : Read (List ℕ)) → on n path o ≡ Some r
        → on m path o ≡ Some q → r ≡ q
    by more None one two = absurd (none-some _ one)
    by more (Some part) one two = by_dot more part (first (skip_ws part.1) == 46) one two

-- at most so many
parts_within : (n : ℕ) (path : List (List ℕ)) (text : List ℕ) (r : Key × List ℕ) → key_after n path text ≡ Some r → length (key_parts r.0) ≤ n + length path
unfolding key_after
parts_within zero path text r is = absurd (none-some _ is)
parts_within (suc n) path text r is = by (λ p t. parts_within n p t r) (simple_key text) is
  where
    by_dot : ((p : List (List ℕ)) (t : List ℕ) → key_after n p t ≡ Some r → length (key_parts r.0) ≤ n + length p) → (part : List ℕ × List ℕ) (dotted : Bool)
        → on_from n path part dotted ≡ Some r → length (key_parts r.0) ≤ suc n + length path
    by_dot more part true is =
        let most = more (path ++ part.0 ∷ []) (past_dot part.1) is in
        let longer : length (path ++ part.0 ∷ []) ≡ length path + 1 = length-append path (part.0 ∷ []) in
        omega (arith, most, longer)
    by_dot more part false is =
        let same = same_Some ((path, part.0), skip_ws part.1) r is in
        let longer : length (path ++ part.0 ∷ []) ≡ length path + 1 = length-append path (part.0 ∷ []) in
        subst (λ (k : Key × List ℕ). length (key_parts k.0) ≤ suc n + length path) same (omega (arith, longer))

    by : ((p : List (List ℕ)) (t : List ℕ) → key_after n p t ≡ Some r → length (key_parts r.0) ≤ n + length p) → (o : Read (List ℕ)) → on n path o ≡ Some r
        → length (key_parts r.0) ≤ suc n + length path
    by more None is = absurd (none-some _ is)
    by more (Some part) is = by_dot more part (first (skip_ws part.1) == 46) is

-- a key of more than 80 parts isn't read
pub long_unread : (left : ℕ) (text : List ℕ) → HasLongKey left text → key text ≡ None
long_unread left text long = by (key text) refl
  where
    by : (o : Read Key) → key text ≡ o → key text ≡ None
    by None is = is
    by (Some r) is =
        let same = key_same recursion_limit (length text) [] text r (long.name, long.rest) is long.read in
        let most = parts_within recursion_limit [] text r is in
        let more = subst (λ (k : Key × List ℕ). recursion_limit < length (key_parts k.0)) (sym same) long.more in
        absurd (omega (arith, most, more))

pub read_no_long : (text : List ℕ) (r : Key × List ℕ) → key text ≡ Some r → (left : ℕ) → HasLongKey left text → ⊥
read_no_long text r is left long = none-some _ (sym (long_unread left text long) ∙ is)

-- ---- a key, a part after another

-- a key is read on after so many parts and dots
pub record UpToPart (text : List ℕ) (dots : ℕ) (rest : List ℕ) : Type 0 where
  pub room : ℕ
  pub path : List (List ℕ)
  pub enough : length rest ≤ room
  pub count : length path ≡ dots
  pub same : any_key text ≡ key_after room path rest

no_part : (n : ℕ) (path : List (List ℕ)) (rest : List ℕ) → simple_key rest ≡ None → key_after n path rest ≡ None
unfolding key_after
no_part zero path rest none = refl
no_part (suc n) path rest none = rw none

module _ (text : List ℕ) (dots : ℕ) (rest : List ℕ) (known : UpToPart text dots rest) where
  -- no other part begins there
  pub part_none : simple_key rest ≡ None → (left : ℕ) → HasLongKey left text → ⊥
  part_none none left long = none-some _ (sym (known.same ∙ no_part known.room known.path rest none) ∙ long.read)

  module _ (part after : List ℕ) (read : simple_key rest ≡ Some (part, after)) (shorter : length after < length rest) (byte : ℕ)
      (here : byte ≡ first (skip_ws after)) where
    turned : (dotted : Bool) → (first (skip_ws after) == 46) ≡ dotted → any_key text ≡ on_from (known.room - 1) known.path (part, after) dotted
    turned dotted is =
        known.same ∙ key_after_turn known.room known.path rest (let enough = known.enough in omega (arith, enough, shorter))
        ∙ ap (option_and_then (λ p. on_from (known.room - 1) known.path p (first (skip_ws p.1) == 46))) read
        ∙ ap (on_from (known.room - 1) known.path (part, after)) is

    pub part_more : byte ≡ 46 → (next : List ℕ) → next ≡ past_dot after → length next < length after + 1 → UpToPart text (suc dots) next
    part_more dot next is within = record {
      room = known.room - 1;
      path = known.path ++ part ∷ [];
      enough = let enough = known.enough in omega (arith, enough, shorter, within);
      count =
          let longer : length (known.path ++ part ∷ []) ≡ length known.path + 1 = length-append known.path (part ∷ []) in
          let count = known.count in
          omega (arith, longer, count);
      same = turned true (rw (← here) (eq-eqb byte 46 dot)) ∙ ap (key_after (known.room - 1) (known.path ++ part ∷ [])) (sym is);
    }

    module _ (other : byte ≡ 46 → ⊥) where
      whole : any_key text ≡ Some ((known.path, part), skip_ws after)
      whole = turned false (rw (← here) (ne_eqb byte 46 other))

      parts : length (key_parts (known.path, part)) ≡ suc dots
      parts =
          let longer : length (known.path ++ part ∷ []) ≡ length known.path + 1 = length-append known.path (part ∷ []) in
          let count = known.count in
          omega (arith, longer, count)

      pub key_short : dots < 80 → (left : ℕ) → HasLongKey left text → ⊥
      key_short few left long =
          let same = same_Some (long.name, long.rest) ((known.path, part), skip_ws after) (sym long.read ∙ whole) in
          let more = subst (λ (k : Key × List ℕ). recursion_limit < length (key_parts k.0)) same long.more in
          let is = parts in
          absurd (omega (arith, few, more, is))

      pub key_long : 80 ≤ dots → HasLongKey (length text) text
      key_long many = record { name = (known.path, part); rest = skip_ws after; read = whole; more = let is = parts in omega (arith, many, is); here = refl }

-- ---- keys and expressions that aren't read

key_equals_unread : (text : List ℕ) → key text ≡ None → key_equals text ≡ None
unfolding key_equals
key_equals_unread text none = rw none

header_key_unread : (text : List ℕ) → key (skip_ws text) ≡ None → header_key text ≡ None
unfolding header_key
header_key_unread text none = rw none

pub before_unread : (byte : ℕ) (text : List ℕ) → key text ≡ None → key_before byte text ≡ None
before_unread byte text none = rw none

pub before_other : (byte : ℕ) (text : List ℕ) (r : Key × List ℕ) → key text ≡ Some r → (next : ℕ) → next ≡ first r.1 → (next ≡ byte → ⊥)
    → key_before byte text ≡ None
before_other byte text r read next here other =
    let more : (first r.1 == byte) ≡ false = rw (← here) (ne_eqb next byte other) in
    rw (read, more)

pub named_short : (text : List ℕ) (k : Key × List ℕ) → key_equals text ≡ Some k → (left : ℕ) → HasLongKey left text → ⊥
named_short text k named left long = none-some _ (sym (key_equals_unread text (long_unread left text long)) ∙ named)

pub before_short : (byte : ℕ) (text : List ℕ) (k : Key × List ℕ) → key_before byte text ≡ Some k → (left : ℕ) → HasLongKey left text → ⊥
before_short byte text k named left long = none-some _ (sym (before_unread byte text (long_unread left text long)) ∙ named)

pub long_nameless : (left : ℕ) (text : List ℕ) → HasLongKey left text → key_equals text ≡ None
long_nameless left text long = key_equals_unread text (long_unread left text long)

no_braced_key : (n : ℕ) (cs : List ℕ) → key_after n [] (125 ∷ cs) ≡ None
unfolding key_after simple_key
no_braced_key zero cs = refl
no_braced_key (suc n) cs = refl

-- a key of more than 80 parts doesn't begin with a brace
pub long_begins : (left : ℕ) (text : List ℕ) → HasLongKey left text → (first text == 125) ≡ false
long_begins left [] long = refl
long_begins left (c ∷ cs) long = elim (cases_Bool (c == 125)) [
  | inl closing ↦
      let is : c ≡ 125 = eqb-true c 125 closing in
      absurd (none-some _ (sym (ap (λ (b : ℕ). key_after (length (c ∷ cs)) [] (b ∷ cs)) is ∙ no_braced_key (length (c ∷ cs)) cs) ∙ long.read))
  | inr other ↦ other
]

module _ (text : List ℕ) where
  pub own_key_pair : (first text == 91) ≡ false → own_key text ≡ text
  own_key_pair one = rw one

  pub expression_long : (left : ℕ) → HasLongKey left (own_key text) → expression text ≡ None
  expression_long left long = by (first text == 91) (slice_index text 1 == 91) refl refl (long_unread left (own_key text) long)
    where
      by : (a b : Bool) → (first text == 91) ≡ a → (slice_index text 1 == 91) ≡ b
          → key (cond (a && b) (skip_ws (drop 2 text)) (cond a (skip_ws (drop 1 text)) text)) ≡ None → expression text ≡ None
      by true true one two none = rw (one, two, header_key_unread (drop 2 text) none)
      by true false one two none = rw (one, two, header_key_unread (drop 1 text) none)
      by false b one two none = rw (one, key_equals_unread text none)

-- ---- what is told of a key

module _ (text : List ℕ) (found : Fault) where
  pub tells_short : (left : ℕ) (why : SyntaxError) → found ≡ fault.NotToml left why → ((left : ℕ) → HasLongKey left text → ⊥) → KeyTells text found
  tells_short left why is none = subst (KeyTells text) (sym is) (λ key one two clash. clash, none)

  pub tells_long : found ≡ fault.TooDeep (length text) → HasLongKey (length text) text → KeyTells text found
  tells_long is long = subst (KeyTells text) (sym is) long
