-- A value is refused for one reason: if it isn't TOML at a place, no key is defined again in it, and nothing nests too deep.
use Rattle.toml_ordered.proofs.Common.{◌≡◌, ◌⊎◌, inl, inr, ℕ, zero, suc, ◌+◌, ◌-◌, ◌<◌, ◌≤◌, ◌==◌, true, false, List, ◌∷◌, [], drop, length, Option, Some, None}
use Rattle.toml_ordered.proofs.Common.{refl, sym, ap, subst, ◌∙◌, arith, option_and_then, Read, first, skip_blank, Key, after_element, read_map, map_some}
use Rattle.toml_ordered.proofs.Common.{Items, TomlNode, TomlNodes, array, no_items, push_item, table, NeitherTells, atom, keyval, val, ClashesIn, HasLongKey}
use Rattle.toml_ordered.proofs.Common.{NestsPast, after_items, PairAt, put, Closed, cases_Bool, eqb-true, false≢true, none-some, same_Some}
use Rattle.toml_parser.specs.{Numbers.unquoted, Numbers.word_len, Strings.key_after, Strings.simple_key}
use Rattle.toml.specs.Parse.{key_equals}
use Rattle.toml_ordered.proofs.LongKeys.{long_begins, long_nameless}
use Rattle.toml_ordered.proofs.Turns.{items_turn, members_turn, val_array, val_atom, val_deep, val_table}
use Rattle.toml_ordered.specs.{Data.no_nodes, Grammar.items, Grammar.members, Nesting.ItemAt, Nesting.PairComes, Nesting.next_item}
use Rattle.toml_ordered.specs.Places.{PairsClash, after_pairs, next_pair}
use Rattle.std.proofs.{lemmas.Bool.cases_lt, lemmas.Option.option_and_then_some}

pub same_rest : (p q : Key × List ℕ) → Some p ≡ Some q → p.1 ≡ q.1
same_rest p q e = ap (λ (k : Key × List ℕ). k.1) (same_Some p q e)

pub same_pair : (p q : (Key × TomlNode) × List ℕ) → Some p ≡ Some q → p.0 ≡ q.0
same_pair p q e = ap (λ (k : (Key × TomlNode) × List ℕ). k.0) (same_Some p q e)

-- ---- turns that come to an end

-- of turns that come to an end at some place, there is one such place
module _ {A : Type 0} (step : A → Option A) (at : ℕ → Option A) (turn : (n : ℕ) → at (suc n) ≡ option_and_then step (at n)) where
  ended : (k n m : ℕ) (x : A) → m ≡ k + suc n → at n ≡ Some x → step x ≡ None → at m ≡ None
  ended zero n m x whole is none =
      let same : m ≡ suc n = omega (arith, whole) in
      ap at same ∙ turn n ∙ ap (option_and_then step) is ∙ none
  ended (suc k) n m x whole is none =
      let same : m ≡ suc (k + suc n) = omega (arith, whole) in
      ap at same ∙ turn (k + suc n) ∙ ap (option_and_then step) (ended k n (k + suc n) x refl is none)

  past : (n m : ℕ) (x : A) → at n ≡ Some x → step x ≡ None → n < m → at m ≡ None
  past n m x is none less = ended (m - suc n) n m x (omega (arith, less)) is none

  pub once : (n m : ℕ) (x y : A) → at n ≡ Some x → step x ≡ None → at m ≡ Some y → step y ≡ None → y ≡ x
  once n m x y is none also stops = elim (cases_lt n m) [
    | inl less ↦ absurd (none-some _ (sym (past n m x is none less) ∙ also))
    | inr most ↦ elim (cases_lt m n) [
      | inl more ↦ absurd (none-some _ (sym (past m n y also stops more) ∙ is))
      | inr least ↦
          let same : m ≡ n = omega (arith, most, least) in
          same_Some y x (sym also ∙ ap at same ∙ is)
    ]
  ]

-- ---- no value and no key begins with these brackets

no_atom : (cs : List ℕ) → atom (93 ∷ cs) ≡ None
unfolding unquoted word_len
no_atom cs = refl

no_key : (cs : List ℕ) → key_equals (125 ∷ cs) ≡ None
unfolding key_equals key_after simple_key
no_key cs = refl

no_header_key : (cs : List ℕ) → key_equals (91 ∷ cs) ≡ None
unfolding key_equals key_after simple_key
no_header_key cs = refl

begun_with : (c : ℕ) (text : List ℕ) → first text ≡ suc c → text ≡ suc c ∷ drop 1 text
begun_with c [] is = cc
begun_with c (d ∷ ds) is = ap (λ (b : ℕ). b ∷ ds) is

closed_value : (depth : ℕ) (text : List ℕ) → first text ≡ 93 → val depth text ≡ None
closed_value depth text is =
    let a : (first text == 91) ≡ false = rw is in
    let b : (first text == 123) ≡ false = rw is in
    val_atom text a b depth ∙ ap atom (begun_with 92 text is) ∙ no_atom (drop 1 text)

-- a value doesn't begin with a closing bracket
value_begins : (depth : ℕ) (text : List ℕ) (v : TomlNode × List ℕ) → val depth text ≡ Some v → (first text == 93) ≡ false
value_begins depth text v read = elim (cases_Bool (first text == 93)) [
  | inl closing ↦ absurd (none-some _ (sym (closed_value depth text (eqb-true (first text) 93 closing)) ∙ read))
  | inr other ↦ other
]

-- nor a key with a brace, or with a bracket
key_begins : (text : List ℕ) (k : Key × List ℕ) → key_equals text ≡ Some k → (first text == 125) ≡ false
key_begins text k named = elim (cases_Bool (first text == 125)) [
  | inl closing ↦ absurd (none-some _ (sym (ap key_equals (begun_with 124 text (eqb-true (first text) 125 closing)) ∙ no_key (drop 1 text)) ∙ named))
  | inr other ↦ other
]

pub header_keyless : (text : List ℕ) → first text ≡ 91 → key_equals text ≡ None
header_keyless text is = ap key_equals (begun_with 90 text is) ∙ no_header_key (drop 1 text)

pub no_header : (text : List ℕ) (k : Key × List ℕ) → key_equals text ≡ Some k → (first text == 91) ≡ false
no_header text k named = elim (cases_Bool (first text == 91)) [
  | inl opens ↦ absurd (none-some _ (sym (header_keyless text (eqb-true (first text) 91 opens)) ∙ named))
  | inr other ↦ other
]

pub keyval_none : (val : List ℕ → Read TomlNode) (text : List ℕ) (name : Key) (at : List ℕ) → key_equals text ≡ Some (name, at) → val at ≡ None
    → keyval val text ≡ None
keyval_none val text name at named none = rw (named, none)

pub keyval_nameless : (val : List ℕ → Read TomlNode) (text : List ℕ) → key_equals text ≡ None → keyval val text ≡ None
keyval_nameless val text none = rw none

keyval_begins : (val : List ℕ → Read TomlNode) (text : List ℕ) (e : (Key × TomlNode) × List ℕ) → keyval val text ≡ Some e → (first text == 125) ≡ false
keyval_begins val text e read = by (key_equals text) refl
  where
    by : (o : Read Key) → key_equals text ≡ o → (first text == 125) ≡ false
    by None none = absurd (none-some _ (sym (keyval_nameless val text none) ∙ read))
    by (Some k) named = key_begins text k named

-- ---- values that are refused inside

items_none : (val : List ℕ → Read TomlNode) (found : Items) (text : List ℕ) → items val 0 found text ≡ None
unfolding items
items_none val found text = refl

members_none : (val : List ℕ → Read TomlNode) (found : TomlNodes) (text : List ℕ) → members val 0 found text ≡ None
unfolding members
members_none val found text = refl

module _ (depth : ℕ) (start : List ℕ) where
  -- an array is read on after its first items, or not at all
  abbrev ReadsItems : (room : ℕ) (rest : List ℕ) → Type 0
  ReadsItems room rest =
      (items (val depth) room no_items start ≡ None)
      ⊎ ((left : ℕ) × (more : Items) × (items (val depth) room no_items start ≡ items (val depth) left more rest))

  reads_items : (m room : ℕ) (rest : List ℕ) → after_items depth m start ≡ Some rest → ReadsItems room rest
  reads_items zero room rest is = inr (room, no_items, ap (items (val depth) room no_items) (same_Some start rest is))
  reads_items (suc m) room rest is =
      option_and_then_some {P = ReadsItems room rest} (next_item depth) (after_items depth m start) rest is λ r at next.
      option_and_then_some {P = ReadsItems room rest} (λ v. after_element 93 v.1) (val depth (skip_blank r)) rest next λ v read element.
      elim (reads_items m room r at) [
        | inl none ↦ inl none
        | inr on ↦ by_left r v read element on.0 on.1 on.2 (cases_lt 0 on.0)
      ]
    where
      by_left : (r : List ℕ) (v : TomlNode × List ℕ) → val depth (skip_blank r) ≡ Some v → after_element 93 v.1 ≡ Some rest → (left : ℕ) (more : Items)
          → items (val depth) room no_items start ≡ items (val depth) left more r → (0 < left) ⊎ (left ≤ 0) → ReadsItems room rest
      by_left r v read element left more same (inl some) =
          inr (left - 1, push_item more v.0, same ∙ items_turn (val depth) left more r some ∙ rw (value_begins depth (skip_blank r) v read, read, element))
      by_left r v read element left more same (inr none) =
          let is_zero : left ≡ 0 = omega (arith, none) in
          inl (same ∙ ap (λ (n : ℕ). items (val depth) n more r) is_zero ∙ items_none (val depth) more r)

  -- a table in braces likewise
  abbrev ReadsPairs : (room : ℕ) (at : TomlNodes × List ℕ) → Type 0
  ReadsPairs room at =
      (members (val depth) room no_nodes start ≡ None) ⊎ ((left : ℕ) × (members (val depth) room no_nodes start ≡ members (val depth) left at.0 at.1))

  reads_pairs : (m room : ℕ) (to : TomlNodes × List ℕ) → after_pairs depth m start ≡ Some to → ReadsPairs room to
  reads_pairs zero room to is = inr (room, ap (λ (p : TomlNodes × List ℕ). members (val depth) room p.0 p.1) (same_Some (no_nodes, start) to is))
  reads_pairs (suc m) room to is =
      option_and_then_some {P = ReadsPairs room to} (next_pair depth) (after_pairs depth m start) to is λ p at next.
      option_and_then_some {P = ReadsPairs room to} _ (keyval (val depth) (skip_blank p.1)) to next λ e read pair.
      option_and_then_some {P = ReadsPairs room to} _ (put e.0.0 e.0.1 p.0) to pair λ more defined ends.
      map_some {P = ReadsPairs room to} (λ rest. (more, rest)) (after_element 125 e.1) to ends λ r element same.
      elim (reads_pairs m room p at) [
        | inl none ↦ inl none
        | inr on ↦ by_left p e more r read defined element same on.0 on.1 (cases_lt 0 on.0)
      ]
    where
      by_left : (p : TomlNodes × List ℕ) (e : (Key × TomlNode) × List ℕ) (more : TomlNodes) (r : List ℕ)
          → keyval (val depth) (skip_blank p.1) ≡ Some e → put e.0.0 e.0.1 p.0 ≡ Some more → after_element 125 e.1 ≡ Some r → (more, r) ≡ to
          → (left : ℕ) → members (val depth) room no_nodes start ≡ members (val depth) left p.0 p.1 → (0 < left) ⊎ (left ≤ 0) → ReadsPairs room to
      by_left p e more r read defined element next left same (inl some) =
          inr (
            left - 1,
            same ∙ members_turn (val depth) left p.0 p.1 some
                ∙ rw (keyval_begins (val depth) (skip_blank p.1) e read, read, defined, element)
                (ap (λ (q : TomlNodes × List ℕ). members (val depth) (left - 1) q.0 q.1) next),
          )
      by_left p e more r read defined element next left same (inr none) =
          let is_zero : left ≡ 0 = omega (arith, none) in
          inl (same ∙ ap (λ (n : ℕ). members (val depth) n p.0 p.1) is_zero ∙ members_none (val depth) p.0 p.1)

module _ (depth : ℕ) (text : List ℕ) where
  array_stops : first text ≡ 91 → (item : List ℕ) → ItemAt depth (drop 1 text) item → (first item == 93) ≡ false → val depth item ≡ None
      → val (suc depth) text ≡ None
  array_stops opens item at other none = elim (reads_items depth (drop 1 text) at.count (length text) at.rest at.read) [
    | inl stops ↦ whole ∙ ap (read_map array) stops
    | inr on ↦ whole ∙ ap (read_map array) (on.2 ∙ by on.0 on.1 (cases_lt 0 on.0))
  ]
    where
      whole : val (suc depth) text ≡ read_map array (items (val depth) (length text) no_items (drop 1 text))
      whole = val_array text (rw opens) depth

      by : (left : ℕ) (more : Items) → (0 < left) ⊎ (left ≤ 0) → items (val depth) left more at.rest ≡ None
      by left more (inl some) =
          items_turn (val depth) left more at.rest some
          ∙ rw (subst (λ (i : List ℕ). (first i == 93) ≡ false) at.here other, subst (λ (i : List ℕ). val depth i ≡ None) at.here none)
      by left more (inr zero_left) =
          let is_zero : left ≡ 0 = omega (arith, zero_left) in
          ap (λ (n : ℕ). items (val depth) n more at.rest) is_zero ∙ items_none (val depth) more at.rest

  braces_stop : first text ≡ 123 → (found : TomlNodes) (rest : List ℕ) (count : ℕ) → after_pairs depth count (drop 1 text) ≡ Some (found, rest)
      → ((left : ℕ) → 0 < left → members (val depth) left found rest ≡ None) → val (suc depth) text ≡ None
  braces_stop opens found rest count read none = elim (reads_pairs depth (drop 1 text) count (length text) (found, rest) read) [
    | inl stops ↦ whole ∙ ap (read_map (table Closed)) stops
    | inr on ↦ whole ∙ ap (read_map (table Closed)) (on.1 ∙ by on.0 (cases_lt 0 on.0))
  ]
    where
      whole : val (suc depth) text ≡ read_map (table Closed) (members (val depth) (length text) no_nodes (drop 1 text))
      whole = val_table text (rw opens) (rw opens) depth

      by : (left : ℕ) → (0 < left) ⊎ (left ≤ 0) → members (val depth) left found rest ≡ None
      by left (inl some) = none left some
      by left (inr zero_left) =
          let is_zero : left ≡ 0 = omega (arith, zero_left) in
          ap (λ (n : ℕ). members (val depth) n found rest) is_zero ∙ members_none (val depth) found rest

  -- the pair whose key has too many parts
  pub nameless_next : (found : TomlNodes) (rest : List ℕ) → key_equals (skip_blank rest) ≡ None → next_pair depth (found, rest) ≡ None
  nameless_next found rest none = rw (keyval_nameless (val depth) (skip_blank rest) none)

  long_stops : first text ≡ 123 → (found : TomlNodes) (rest : List ℕ) (count : ℕ) → after_pairs depth count (drop 1 text) ≡ Some (found, rest) → (left : ℕ)
      → HasLongKey left (skip_blank rest) → val (suc depth) text ≡ None
  long_stops opens found rest count read left long =
      braces_stop opens found rest count read (λ room some. members_turn (val depth) room found rest some
      ∙ rw (long_begins left (skip_blank rest) long, keyval_nameless (val depth) (skip_blank rest) (long_nameless left (skip_blank rest) long)))

  -- the pair at which two clash, and the pair whose value is refused
  module _ (found : TomlNodes) (name : Key) (here : ℕ) (at : PairAt depth (drop 1 text) found name here) where
    pub clash_next : (value : TomlNode) (after : List ℕ) → keyval (val depth) (skip_blank at.rest) ≡ Some ((name, value), after)
        → put name value found ≡ None → next_pair depth (found, at.rest) ≡ None
    clash_next value after pair refused = rw (pair, refused)

    clash_stops : first text ≡ 123 → (value : TomlNode) (after : List ℕ) → keyval (val depth) (skip_blank at.rest) ≡ Some ((name, value), after)
        → put name value found ≡ None → val (suc depth) text ≡ None
    clash_stops opens value after pair refused =
        braces_stop opens found at.rest at.count at.read
        (λ left some. members_turn (val depth) left found at.rest some ∙ rw (key_begins (skip_blank at.rest) (name, at.after) at.begins, pair, refused))

    pub value_next : val depth at.after ≡ None → next_pair depth (found, at.rest) ≡ None
    value_next none = rw (keyval_none (val depth) (skip_blank at.rest) name at.after at.begins none)

    value_stops : first text ≡ 123 → val depth at.after ≡ None → val (suc depth) text ≡ None
    value_stops opens none =
        braces_stop opens found at.rest at.count at.read (λ left some. members_turn (val depth) left found at.rest some
        ∙ rw (key_begins (skip_blank at.rest) (name, at.after) at.begins, keyval_none (val depth) (skip_blank at.rest) name at.after at.begins none))

-- ---- blame

-- True if two pairs clash in the value, or it nests too deep.
abbrev pub IsBlamed : (depth : ℕ) → (text : List ℕ) → Type 0
IsBlamed depth text = ((key : List ℕ) × (one : ℕ) × (two : ℕ) × ClashesIn depth key one two text) ⊎ ((left : ℕ) × NestsPast depth left text)

-- True if it is so inside of an array, or of a table in braces.
abbrev BlamesInside : (depth : ℕ) → (text : List ℕ) → Type 0
BlamesInside depth text =
    ((first text ≡ 91) × (item : List ℕ) × ItemAt depth (drop 1 text) item × IsBlamed depth item)
    ⊎ ((first text ≡ 123)
    × (((key : List ℕ) × (one : ℕ) × (two : ℕ) × PairsClash depth (drop 1 text) key one two)
    ⊎ (((pair : List ℕ) × (left : ℕ) × PairComes depth (drop 1 text) pair × HasLongKey left pair)
    ⊎ ((found : TomlNodes) × (name : Key) × (here : ℕ) × (at : PairAt depth (drop 1 text) found name here) × IsBlamed depth at.after))))

blames_inside : (depth : ℕ) (text : List ℕ) → IsBlamed (suc depth) text → BlamesInside depth text
blames_inside depth text (inl (key, one, two, inl (opens, (item, at, inner)))) = inl (opens, item, at, inl (key, one, two, inner))
blames_inside depth text (inl (key, one, two, inr (opens, inl clash))) = inr (opens, inl (key, one, two, clash))
blames_inside depth text (inl (key, one, two, inr (opens, inr (found, name, here, at, inner)))) =
    inr (opens, inr (inr (found, name, here, at, inl (key, one, two, inner))))
blames_inside depth text (inr (left, inl (opens, (item, at, inner)))) = inl (opens, item, at, inr (left, inner))
blames_inside depth text (inr (left, inr (opens, inl (pair, comes, long)))) = inr (opens, inr (inl (pair, left, comes, long)))
blames_inside depth text (inr (left, inr (opens, inr (found, name, here, at, inner)))) = inr (opens, inr (inr (found, name, here, at, inr (left, inner))))

opens_one : (text : List ℕ) → (first text ≡ 91) ⊎ (first text ≡ 123) → (first text == 93) ≡ false
opens_one text (inl is) = rw is
opens_one text (inr is) = rw is

blame_opens : (depth : ℕ) (text : List ℕ) → IsBlamed depth text → (first text ≡ 91) ⊎ (first text ≡ 123)
blame_opens zero text (inl (key, one, two, clash)) = absurd clash
blame_opens zero text (inr (left, deep)) = deep.0
blame_opens (suc depth) text blamed = elim (blames_inside depth text blamed) [
  | inl inside ↦ inl inside.0
  | inr inside ↦ inr inside.0
]

pub blamed_none : (depth : ℕ) (text : List ℕ) → IsBlamed depth text → val depth text ≡ None
blamed_none zero text (inl (key, one, two, clash)) = absurd clash
blamed_none zero text (inr (left, (opens, is))) = elim opens [
  | inl bracket ↦ val_deep text (rw bracket)
  | inr brace ↦ val_deep text (rw brace)
]
blamed_none (suc depth) text blamed = by (λ inner is. blamed_none depth inner is) (blames_inside depth text blamed)
  where
    by : ((inner : List ℕ) → IsBlamed depth inner → val depth inner ≡ None) → BlamesInside depth text → val (suc depth) text ≡ None
    by none (inl (opens, item, at, inner)) = array_stops depth text opens item at (opens_one item (blame_opens depth item inner)) (none item inner)
    by none (inr (opens, inl (key, one, two, clash))) =
        clash_stops depth text clash.found clash.name two clash.at opens clash.value clash.after clash.pair clash.refused
    by none (inr (opens, inr (inl (pair, left, comes, long)))) =
        long_stops depth text opens comes.found comes.rest comes.count comes.read left (subst (HasLongKey left) comes.here long)
    by none (inr (opens, inr (inr (found, name, here, at, inner)))) = value_stops depth text found name here at opens (none at.after inner)

bracket_brace : (text : List ℕ) → first text ≡ 91 → first text ≡ 123 → ⊥
bracket_brace text bracket brace =
    let one : (first text == 91) ≡ true = rw bracket in
    let other : (first text == 91) ≡ false = rw brace in
    false≢true (sym other ∙ one)

-- ---- no blame

pub neither : (depth : ℕ) (text : List ℕ) → (IsBlamed depth text → ⊥)
    → NeitherTells (λ key one two. ClashesIn depth key one two text) (λ left. NestsPast depth left text)
neither depth text none = (λ key one two clash. none (inl (key, one, two, clash)), λ left deep. none (inr (left, deep)))

pub unblamed : (depth : ℕ) (text : List ℕ) → NeitherTells (λ key one two. ClashesIn depth key one two text) (λ left. NestsPast depth left text)
    → IsBlamed depth text → ⊥
unblamed depth text none (inl (key, one, two, clash)) = none.0 key one two clash
unblamed depth text none (inr (left, deep)) = none.1 left deep

-- a value that is read
pub read_unblamed : (depth : ℕ) (text : List ℕ) (v : TomlNode × List ℕ) → val depth text ≡ Some v → IsBlamed depth text → ⊥
read_unblamed depth text v read blamed = none-some _ (sym (blamed_none depth text blamed) ∙ read)

-- neither a string nor a scalar
pub atom_unblamed : (depth : ℕ) (text : List ℕ) → (first text == 91) ≡ false → (first text == 123) ≡ false → IsBlamed depth text → ⊥
atom_unblamed depth text a b blamed = elim (blame_opens depth text blamed) [
  | inl is ↦ let one : (first text == 91) ≡ true = rw is in cc
  | inr is ↦ let one : (first text == 123) ≡ true = rw is in cc
]

-- an array whose next item, or the end of it, is refused
pub array_unblamed : (depth : ℕ) (text rest : List ℕ) (count : ℕ) → first text ≡ 91 → after_items depth count (drop 1 text) ≡ Some rest
    → next_item depth rest ≡ None → (IsBlamed depth (skip_blank rest) → ⊥) → IsBlamed (suc depth) text → ⊥
array_unblamed depth text rest count opens read stops none blamed = by (blames_inside depth text blamed)
  where
    by : BlamesInside depth text → ⊥
    by (inl (also, item, at, inner)) =
        let refused = blamed_none depth item inner in
        let there : next_item depth at.rest ≡ None = rw (subst (λ (i : List ℕ). val depth i ≡ None) at.here refused) in
        let same = once (next_item depth) (λ n. after_items depth n (drop 1 text)) (λ n. refl) count at.count rest at.rest read stops at.read there in
        none (subst (IsBlamed depth) (at.here ∙ ap skip_blank same) inner)
    by (inr (brace, inside)) = bracket_brace text opens brace

-- a table in braces whose next pair, or the end of it, is refused
pub braces_unblamed : (depth : ℕ) (text rest : List ℕ) (found : TomlNodes) (count : ℕ) → first text ≡ 123
    → after_pairs depth count (drop 1 text) ≡ Some (found, rest) → next_pair depth (found, rest) ≡ None
    → ((name : Key) (value : TomlNode) (after : List ℕ) → keyval (val depth) (skip_blank rest) ≡ Some ((name, value), after) → put name value found ≡ None → ⊥)
    → ((left : ℕ) → HasLongKey left (skip_blank rest) → ⊥)
    → ((name : Key) (after : List ℕ) → key_equals (skip_blank rest) ≡ Some (name, after) → IsBlamed depth after → ⊥) → IsBlamed (suc depth) text → ⊥
braces_unblamed depth text rest found count opens read stops no_clash no_long no_value blamed = by (blames_inside depth text blamed)
  where
    same : (others : TomlNodes) (end : List ℕ) (n : ℕ) → after_pairs depth n (drop 1 text) ≡ Some (others, end) → next_pair depth (others, end) ≡ None
        → ◌≡◌ {A = TomlNodes × List ℕ} (others, end) (found, rest)
    same others end n at there =
        once (next_pair depth) (λ k. after_pairs depth k (drop 1 text)) (λ k. refl) count n (found, rest) (others, end) read stops at there

    by : BlamesInside depth text → ⊥
    by (inl (bracket, item, at, inner)) = bracket_brace text bracket opens
    by (inr (also, inl (key, one, two, clash))) =
        let is = same clash.found clash.at.rest clash.at.count clash.at.read
        (clash_next depth text clash.found clash.name two clash.at clash.value clash.after clash.pair clash.refused) in
        no_clash clash.name clash.value clash.after (subst (λ (p : TomlNodes × List ℕ). keyval (val depth) (skip_blank p.1) ≡ Some
        ((clash.name, clash.value), clash.after)) is clash.pair) (subst (λ (p : TomlNodes × List ℕ). put clash.name clash.value p.0 ≡ None) is clash.refused)
    by (inr (also, inr (inl (pair, left, comes, long)))) =
        let there = subst (HasLongKey left) comes.here long in
        let is = same comes.found comes.rest comes.count comes.read
        (nameless_next depth text comes.found comes.rest (long_nameless left (skip_blank comes.rest) there)) in
        no_long left (subst (λ (p : TomlNodes × List ℕ). HasLongKey left (skip_blank p.1)) is there)
    by (inr (also, inr (inr (others, name, here, at, inner)))) =
        let is = same others at.rest at.count at.read (value_next depth text others name here at (blamed_none depth at.after inner)) in
        no_value name at.after (subst (λ (p : TomlNodes × List ℕ). key_equals (skip_blank p.1) ≡ Some (name, at.after)) is at.begins) inner
