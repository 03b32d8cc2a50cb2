-- The findings in an array or a table in braces, from those in a value inside of it.
use Rattle.toml_ordered.proofs.Common.{◌≡◌, ℕ, suc, ◌+◌, ◌==◌, ◌-◌, ◌<◌, ◌≤◌, true, false, List, [], ◌∷◌, ◌++◌, drop, length, Some, None, Result, Ok, Err, refl}
use Rattle.toml_ordered.proofs.Common.{sym, ap, subst, ◌∙◌, inl, inr, arith, none-some, after_element, key_equals, Items, TomlNode, TomlNodes, array, no_items}
use Rattle.toml_ordered.proofs.Common.{push_item, table, table_view, AddsFirsts, IsAgain, NeitherTells, keys_firsts, table_firsts, val, IsFoundHere, ClashesIn}
use Rattle.toml_ordered.proofs.Common.{HasLongKey, KeyTells, NestsPast, EndsWith, IsShutInBraces, PairAt, key_parts, IsMemory, put, Fault, Closed, first}
use Rattle.toml_ordered.proofs.Common.{skip_blank, key_view, Key}
use Rattle.std.specs.Borrow.{Bor}
use Rattle.toml_ordered.proofs.{Depths.blank_within, Depths.ends_within, Depths.more_items, LongKeys.named_short}
use Rattle.toml_ordered.proofs.Conflicts.{knows_more_pairs, knows_no_pairs, more_pairs, pairs_conflict, reason_in}
use Rattle.toml_ordered.proofs.Blaming.{IsBlamed, array_unblamed, braces_unblamed, keyval_nameless, keyval_none, neither, read_unblamed, same_pair, same_rest}
use Rattle.toml_ordered.proofs.Blaming.{unblamed}
use Rattle.toml_ordered.proofs.Endings.{after_element_ends, end_left, ends_drop, ends_self, ends_then, item_left, key_equals_ends, pair_left}
use Rattle.toml_ordered.proofs.Turns.{items_turn, keyval_is, members_turn, val_array, val_table}
use Rattle.toml_ordered.specs.{Data.no_nodes, declared.tree.Node.Node, declared.values.Found.Found, declared.values.Found.TheVariants.Opened}
use Rattle.toml_ordered.specs.{declared.values.Found.TheVariants.Value, declared.values.Open.Open, declared.tree.Table.Table as CodeTable}
use Rattle.toml_ordered.specs.Inside.{ArrayUpTo, BracesUpTo, FindsHere, GoesOnInside, IsNextInside, IsValueRead, IsValueRefused, NextPair}
use Rattle.toml_ordered.specs.Nesting.{ItemAt, PairComes, ValueTells, next_item}
use Rattle.toml_ordered.specs.declared.values.Open.TheVariants.{Array, Braces}

pub inside_ends : (text rest : List ℕ) → EndsWith (drop 1 text) rest → EndsWith text rest
inside_ends text rest ends = ends_then text (drop 1 text) rest (ends_drop 1 text) ends

-- ---- arrays

pub array_begins : (depth : ℕ) (text : List ℕ) (found : Items) (rest : List ℕ) → (first text == 91) ≡ true → first text ≡ 91 → rest ≡ drop 1 text
    → length rest < length text → found ≡ no_items → ArrayUpTo depth text found rest
array_begins depth text found rest bracket opens is shorter none = record {
  opens = opens;
  room = length text;
  enough = shorter;
  value = val_array text bracket depth ∙ rw (is, none);
  ends = rw is (ends_self (drop 1 text));
  count = 0;
  read = rw is;
}

module _ (depth : ℕ) (text : List ℕ) (found : Items) (rest : List ℕ) (known : ArrayUpTo depth text found rest) where
  pub array_ends : (first (skip_blank rest) == 93) ≡ true → val (suc depth) text ≡ Some (array found, drop 1 (skip_blank rest))
  array_ends closing = known.value ∙ rw (items_turn (val depth) known.room found rest (omega (arith, known.enough)), closing)

  module _ (other : (first (skip_blank rest) == 93) ≡ false) where
    array_bad : val depth (skip_blank rest) ≡ None → val (suc depth) text ≡ None
    array_bad read = known.value ∙ rw (items_turn (val depth) known.room found rest (omega (arith, known.enough)), other, read)

    module _ (x : TomlNode) (after : List ℕ) (read : val depth (skip_blank rest) ≡ Some (x, after)) where
      pub array_unended : after_element 93 after ≡ None → val (suc depth) text ≡ None
      array_unended element = known.value ∙ rw (items_turn (val depth) known.room found rest (omega (arith, known.enough)), other, read, element)

      pub array_more : (more : Items) (next : List ℕ) → length after < length (skip_blank rest) → more ≡ push_item found x
          → after_element 93 after ≡ Some next → ArrayUpTo depth text more next
      array_more more next shorter pushed element = record {
        opens = known.opens;
        room = known.room - 1;
        enough =
            let blank = blank_within rest in
            let behind = ends_within after next (after_element_ends 93 after next element) in
            omega (arith, known.enough, shorter, blank, behind);
        value = known.value ∙ rw (items_turn (val depth) known.room found rest (omega (arith, known.enough)), other, read, element, pushed);
        ends = ends_then (drop 1 text) rest next known.ends (item_left depth rest x after next 93 read element);
        count = suc known.count;
        read = more_items depth known.count (drop 1 text) rest x after next known.read read element;
      }

  -- an array whose next item, or the end of it, is refused, for no other reason
  pub array_neither : next_item depth rest ≡ None → (IsBlamed depth (skip_blank rest) → ⊥)
      → NeitherTells (λ key one two. ClashesIn (suc depth) key one two text) (λ left. NestsPast (suc depth) left text)
  array_neither stops none = neither (suc depth) text (array_unblamed depth text rest known.count known.opens known.read stops none)

-- ---- tables in braces

pub braces_begin : (depth : ℕ) (text : List ℕ) (found : CodeTable) (rest : List ℕ) → (first text == 91) ≡ false → (first text == 123) ≡ true
    → first text ≡ 123 → rest ≡ drop 1 text → length rest < length text → table_view found ≡ no_nodes → found.keys.items ≡ []
    → BracesUpTo depth text found rest
braces_begin depth text found rest other brace opens is shorter none keyless = record {
  opens = opens;
  room = length text;
  enough = shorter;
  value = val_table text other brace depth ∙ rw (is, none);
  ends = rw is (ends_self (drop 1 text));
  knows = knows_no_pairs depth (drop 1 text) rest _ (ap keys_firsts keyless);
  count = 0;
  read = rw (is, none);
}

module _ (depth : ℕ) (text : List ℕ) (found : CodeTable) (rest : List ℕ) (known : BracesUpTo depth text found rest) where
  pub braces_end : (first (skip_blank rest) == 125) ≡ true → val (suc depth) text ≡ Some (table Closed (table_view found), drop 1 (skip_blank rest))
  braces_end closing = known.value ∙ rw (members_turn (val depth) known.room (table_view found) rest (omega (arith, known.enough)), closing)

  module _ (other : (first (skip_blank rest) == 125) ≡ false) where
    pub braces_nameless : key_equals (skip_blank rest) ≡ None → val (suc depth) text ≡ None
    braces_nameless named = known.value ∙ rw (members_turn (val depth) known.room (table_view found) rest (omega (arith, known.enough)), other, named)

    module _ (key : Key) (at : List ℕ) (named : key_equals (skip_blank rest) ≡ Some (key, at)) where
      braces_bad : val depth at ≡ None → val (suc depth) text ≡ None
      braces_bad read = known.value ∙ rw (members_turn (val depth) known.room (table_view found) rest (omega (arith, known.enough)), other, named, read)

      module _ (x : TomlNode) (after : List ℕ) (read : val depth at ≡ Some (x, after)) where
        pub braces_unended : (more : TomlNodes) → put key x (table_view found) ≡ Some more → after_element 125 after ≡ None → val (suc depth) text ≡ None
        braces_unended more defined element =
            known.value
            ∙ rw (members_turn (val depth) known.room (table_view found) rest (omega (arith, known.enough)), other, named, read, defined, element)

        module _ (here : ℕ) (is : here ≡ length (skip_blank rest)) where
          abbrev pair_at : PairAt depth (drop 1 text) (table_view found) key here
          pair_at = record { rest = rest; after = at; ends = known.ends; count = known.count; read = known.read; begins = named; here = is }

          within : here ≤ length rest
          within = let blank = blank_within rest in omega (arith, is, blank)

          pub braces_again : (refused : Fault) → ((IsMemory refused → ⊥) → put key x (table_view found) ≡ None)
              → IsAgain (key_parts key) here (table_firsts found) (IsShutInBraces (table_view found) key x) refused → IsValueRefused (suc depth) text refused
          braces_again refused denies again = (
            λ real. known.value
                ∙ rw (members_turn (val depth) known.room (table_view found) rest (omega (arith, known.enough)), other, named, read, denies real),
            pairs_conflict depth (drop 1 text) rest (table_view found) key here (table_firsts found) refused known.knows pair_at within x after
                (keyval_is (val depth) (skip_blank rest) key at after x named read) denies again (λ name one two. ClashesIn (suc depth) name one two text)
                (λ name one two clash. inr (known.opens, inl clash)) (λ left. NestsPast (suc depth) left text),
          )

          pub braces_more : (new : CodeTable) (next : List ℕ) → length after < length at → put key x (table_view found) ≡ Some (table_view new)
              → AddsFirsts (key_parts key) here (table_view found) (table_firsts found) (table_firsts new)
              → after_element 125 after ≡ Some next → BracesUpTo depth text new next
          braces_more new next shorter defined adds element =
              let start = skip_blank rest in
              let value = ends_within start at (end_left start (key_equals start) key at (key_equals_ends start) named) in
              let behind = ends_within after next (after_element_ends 125 after next element) in record {
                opens = known.opens;
                room = known.room - 1;
                enough = let blank = blank_within rest in omega (arith, known.enough, shorter, value, behind, blank);
                value =
                    known.value
                    ∙ rw (members_turn (val depth) known.room (table_view found) rest (omega (arith, known.enough)), other, named, read, defined, element);
                ends = ends_then (drop 1 text) rest next known.ends (pair_left depth rest key at x after next 125 named read element);
                knows = knows_more_pairs _ _ rest next _ _ _ _ _ known.knows pair_at within (omega (arith, shorter, value, behind, is)) adds;
                count = suc known.count;
                read = more_pairs depth known.count (drop 1 text) (table_view found) (table_view new) rest key x after next known.read
                    (keyval_is (val depth) (skip_blank rest) key at after x named read) defined element;
              }

-- a table in braces whose next pair, or the end of it, is refused, for no other reason
module _ (depth : ℕ) (text : List ℕ) (found : CodeTable) (rest : List ℕ) (known : BracesUpTo depth text found rest) where
  abbrev NoReason : Type 0
  NoReason = NeitherTells (λ key one two. ClashesIn (suc depth) key one two text) (λ left. NestsPast (suc depth) left text)

  pub braces_unnamed : key_equals (skip_blank rest) ≡ None → ((left : ℕ) → HasLongKey left (skip_blank rest) → ⊥) → NoReason
  braces_unnamed none no_long =
      neither (suc depth) text (braces_unblamed depth text rest (table_view found) known.count known.opens known.read (rw none)
      (λ name value after pair refused. none-some _ (sym (keyval_nameless (val depth) (skip_blank rest) none) ∙ pair)) no_long
      (λ name after named blamed. none-some _ (sym none ∙ named)))

  -- the key of the next pair is refused
  pub braces_keyless : (fault : Fault) → ((IsMemory fault → ⊥) → key_equals (skip_blank rest) ≡ None) → KeyTells (skip_blank rest) fault
      → ValueTells (suc depth) text fault
  braces_keyless fault none tells =
      let comes : PairComes depth (drop 1 text) (skip_blank rest) = record {
        found = table_view found;
        rest = rest;
        ends = known.ends;
        count = known.count;
        read = known.read;
        here = refl;
      } in
      reason_in fault (λ key one two. ⊥) (λ key one two. ClashesIn (suc depth) key one two text) (λ left. HasLongKey left (skip_blank rest))
      (λ left. NestsPast (suc depth) left text) (λ key one two clash. absurd clash)
      (λ left long. inr (known.opens, inl (skip_blank rest, comes, long))) (λ real neither. braces_unnamed (none real) neither.1) tells

  module _ (key : Key) (at : List ℕ) (named : key_equals (skip_blank rest) ≡ Some (key, at)) where
    pub braces_refused : val depth at ≡ None → (IsBlamed depth at → ⊥) → NoReason
    braces_refused unread none =
        let no_pair = keyval_none (val depth) (skip_blank rest) key at named unread in
        neither (suc depth) text (braces_unblamed depth text rest (table_view found) known.count known.opens known.read (rw no_pair)
        (λ name value after pair refused. none-some _ (sym no_pair ∙ pair)) (named_short (skip_blank rest) (key, at) named)
        (λ name after also blamed. none (subst (IsBlamed depth) (same_rest (name, after) (key, at) (sym also ∙ named)) blamed)))

    pub braces_parted : (x : TomlNode) (after : List ℕ) → val depth at ≡ Some (x, after) → (more : TomlNodes) → put key x (table_view found) ≡ Some more
        → after_element 125 after ≡ None → NoReason
    braces_parted x after read more defined element =
        let whole = keyval_is (val depth) (skip_blank rest) key at after x named read in
        neither (suc depth) text (braces_unblamed depth text rest (table_view found) known.count known.opens known.read (rw (whole, defined, element))
        (λ name value end pair refused. none-some _ (sym (same_put (name, value) (key, x) (same_pair ((name, value), end) ((key, x), after) (sym pair ∙ whole))
        refused) ∙ defined)) (named_short (skip_blank rest) (key, at) named) (λ name end also blamed. read_unblamed depth at (x, after) read
        (subst (IsBlamed depth) (same_rest (name, end) (key, at) (sym also ∙ named)) blamed)))
      where
        same_put : (p q : Key × TomlNode) → p ≡ q → put p.0 p.1 (table_view found) ≡ None → put q.0 q.1 (table_view found) ≡ None
        same_put p q is = subst (λ (r : Key × TomlNode). put r.0 r.1 (table_view found) ≡ None) is

-- the finding of `next_pair`, at the beginning of a table in braces, and after a pair
pub pair_begins : (depth less : ℕ) (text from : List ℕ) (found : CodeTable) (r : Result (Found × Bor (List ℕ)) Fault) → suc less ≡ depth
    → BracesUpTo less text found from → length from < length text → NextPair found from r → FindsHere depth text r
pair_begins depth less text from found (Ok p) is known shorter next =
    let within = next.1 in
    (subst (λ (n : ℕ). IsFoundHere n text p.0 p.1.now) is (next.0 less text known), omega (arith, within, shorter))
pair_begins depth less text from found (Err fault) is known shorter next = subst (λ (n : ℕ). IsValueRefused n text fault) is (next less text known)

pub pair_goes_on : (outer : Open) (node : Node) (text' from : List ℕ) (found : CodeTable) (r : Result (Found × Bor (List ℕ)) Fault)
    → ((depth : ℕ) (text at : List ℕ) → IsNextInside depth text outer at → IsValueRead depth at node text' → BracesUpTo depth text found from)
    → length from ≤ length text' → NextPair found from r → GoesOnInside outer node text' r
pair_goes_on outer node text' from found (Ok p) known fewer next =
    let within = next.1 in
    ((λ depth text at inside read. next.0 depth text (known depth text at inside read)), omega (arith, within, fewer))
pair_goes_on outer node text' from found (Err fault) known fewer next = λ depth text at inside read. next depth text (known depth text at inside read)

-- ---- from the inside outwards

inside_refused : (depth : ℕ) (text : List ℕ) (outer : Open) (at : List ℕ) (fault : Fault) → IsNextInside depth text outer at → IsValueRefused depth at fault
    → IsValueRefused (suc depth) text fault
inside_refused depth text (Array found) at fault (rest, known, other, is) refused =
    let item : ItemAt depth (drop 1 text) at = record { rest = rest; ends = known.ends; count = known.count; read = known.read; here = is } in (
      λ real. array_bad depth text _ rest known other (rw is at refused.0 real),
      reason_in fault (λ key one two. ClashesIn depth key one two at) (λ key one two. ClashesIn (suc depth) key one two text) (λ left. NestsPast depth left at)
          (λ left. NestsPast (suc depth) left text) (λ key one two clash. inl (known.opens, (at, item, clash)))
          (λ left deep. inl (known.opens, (at, item, deep))) (λ real none. array_neither depth text _ rest known
          (rw (subst (λ (i : List ℕ). val depth i ≡ None) is (refused.0 real)))
          (subst (λ (i : List ℕ). IsBlamed depth i → ⊥) is (unblamed depth at none))) refused.1,
    )
inside_refused depth text (Braces found) at fault (rest, known, other, named, is) refused =
    let name = key_view found.key in
    let keys = table_view found.table in
    let here = length (skip_blank rest) in
    let pair : PairAt depth (drop 1 text) keys name here =
    record { rest = rest; after = at; ends = known.ends; count = known.count; read = known.read; begins = named; here = refl } in (
      λ real. braces_bad depth text found.table rest known other name at named (refused.0 real),
      reason_in fault (λ key one two. ClashesIn depth key one two at) (λ key one two. ClashesIn (suc depth) key one two text) (λ left. NestsPast depth left at)
          (λ left. NestsPast (suc depth) left text) (λ key one two clash. inr (known.opens, inr (keys, name, here, pair, clash)))
          (λ left deep. inr (known.opens, inr (keys, name, here, pair, deep)))
          (λ real none. braces_refused depth text found.table rest known name at named (refused.0 real) (unblamed depth at none)) refused.1,
    )

-- The open arrays and tables, from the outermost on, begin the text, and the value inside of all begins here and may nest so deep.
abbrev pub Stands : List Open → (depth : ℕ) (text : List ℕ) → (inner : ℕ) (at : List ℕ) → Type 0
Stands [] depth text inner at = (depth ≡ inner) × (text ≡ at)
Stands (outer ∷ others) depth text inner at =
    (less : ℕ) × (next : List ℕ) × (depth ≡ suc less) × IsNextInside less text outer next × Stands others less next inner at

stands_depth : (opened : List Open) (depth : ℕ) (text : List ℕ) (inner : ℕ) (at : List ℕ) → Stands opened depth text inner at → depth ≡ length opened + inner
stands_depth [] depth text inner at (is, same) = omega (arith, is)
stands_depth (outer ∷ others) depth text inner at (less, next, is, inside, stands) =
    let more = stands_depth others less next inner at stands in
    omega (arith, is, more)

stands_push : (opened : List Open) (depth : ℕ) (text : List ℕ) (inner : ℕ) (at : List ℕ) (innermost : Open) (next : List ℕ)
    → Stands opened depth text (suc inner) at → IsNextInside inner at innermost next → Stands (opened ++ innermost ∷ []) depth text inner next
stands_push [] depth text inner at innermost next (is, same) inside = (inner, next, is, rw same inside, (refl, refl))
stands_push (outer ∷ others) depth text inner at innermost next (less, middle, is, around, stands) inside =
    (less, middle, is, around, stands_push others less middle inner at innermost next stands inside)

stands_pop : (opened : List Open) (depth : ℕ) (text : List ℕ) (inner : ℕ) (at : List ℕ) (innermost : Open)
    → Stands (opened ++ innermost ∷ []) depth text inner at → (from : List ℕ) × Stands opened depth text (suc inner) from × IsNextInside inner from innermost at
stands_pop [] depth text inner at innermost (less, next, is, inside, (same, there)) =
    let there_inside = subst (λ (t : List ℕ). IsNextInside less text innermost t) there inside in
    (text, (is ∙ ap suc same, refl), subst (λ (n : ℕ). IsNextInside n text innermost at) same there_inside)
stands_pop (outer ∷ others) depth text inner at innermost (less, next, is, inside, stands) =
    let (from, more, innermost_is) = stands_pop others less next inner at innermost stands in
    (from, (less, next, is, inside, more), innermost_is)

-- another array or table opens there
pub stands_opened : (opened pushed : List Open) (depth : ℕ) (text : List ℕ) (inner : ℕ) (at : List ℕ) (found : Found) (innermost : Open) (rest : List ℕ)
    → Stands opened depth text inner at → IsFoundHere inner at found rest → found ≡ Opened innermost → pushed ≡ opened ++ innermost ∷ []
    → (count : ℕ) → count ≡ length pushed → (count ≤ depth) × Stands pushed depth text (depth - count) rest
stands_opened opened pushed depth text inner at found innermost rest stands is_found is one_more count counts =
    let (less, suc_less, inside) = subst (λ (f : Found). IsFoundHere inner at f rest) is is_found in
    let more = subst (λ (os : List Open). Stands os depth text less rest) (sym one_more)
    (stands_push opened depth text less at innermost rest (subst (λ (n : ℕ). Stands opened depth text n at) suc_less stands) inside) in
    let whole = stands_depth pushed depth text less rest more in
    let same : less ≡ depth - count = omega (arith, whole, counts) in
    (omega (arith, whole, counts), subst (λ (n : ℕ). Stands pushed depth text n rest) same more)

-- it is a value, in the innermost of those
pub stands_closed : (opened popped : List Open) (depth : ℕ) (text : List ℕ) (inner : ℕ) (at : List ℕ) (found : Found) (node : Node) (rest : List ℕ)
    (innermost : Open) → Stands opened depth text inner at → IsFoundHere inner at found rest → found ≡ Value node → opened ≡ popped ++ innermost ∷ []
    → (from : List ℕ) × Stands popped depth text (suc inner) from × IsNextInside inner from innermost at × IsValueRead inner at node rest
stands_closed opened popped depth text inner at found node rest innermost stands is_found is one_less =
    let (from, fewer, inside) = stands_pop popped depth text inner at innermost (subst (λ (os : List Open). Stands os depth text inner at) one_less stands) in
    (from, fewer, inside, subst (λ (f : Found). IsFoundHere inner at f rest) is is_found)

pub stands_refused : (opened : List Open) (depth : ℕ) (text : List ℕ) (inner : ℕ) (at : List ℕ) (fault : Fault) → Stands opened depth text inner at
    → IsValueRefused inner at fault → IsValueRefused depth text fault
stands_refused [] depth text inner at fault (is, same) refused =
    subst (λ (n : ℕ). IsValueRefused n text fault) (sym is) (subst (λ (t : List ℕ). IsValueRefused inner t fault) (sym same) refused)
stands_refused (outer ∷ others) depth text inner at fault (less, next, is, inside, stands) refused =
    subst (λ (n : ℕ). IsValueRefused n text fault) (sym is)
    (inside_refused less text outer next fault inside (stands_refused others less next inner at fault stands refused))
