-- The steps of a walk that writes a value's tokens.
use Rattle.yaml_base.proofs.Common.{ℕ, suc, ◌+◌, ◌<◌, ◌≤◌, List, [], ◌∷◌, ◌++◌, refl, ◌≡◌, ap, subst, sym, ◌∙◌, append_assoc, append-nil, arith, length}
use Rattle.yaml_base.proofs.Common.{length-append, Some}
use Rattle.std.proofs.lemmas.List.Elements.{All-append, All-nil, All-push}
use Rattle.yaml_base.proofs.Common.{Bool, ℤ}
use Rattle.std.proofs.lemmas.Str.{encodes-chars}
use Rattle.std.specs.Fmt.{signed_decimal}
use Rattle.std.specs.Int.Signed.{mag}
use Rattle.std.specs.Prelude.{max, ◌^◌, Result, Ok, Err}
use Rattle.std.specs.Str.{IsUtf8, chars}
use Rattle.json.specs.Json.{Json, Items, item, Members, member, value}
use Rattle.json.proofs.Printed.Trees.{value-json_tokens}
use Rattle.json.specs.Lex.{tokens}
use Rattle.json.specs.Token.{Token}
use Rattle.json.specs.Tree.{json_tokens, items_tokens, members_tokens, depth, items_depth, members_depth}
use Rattle.json.specs.Written.{Writes, Written}
use Rattle.yaml_base.specs.values.TypedValues.{TypedValue, null_value, bool_value, int_value, list_value, map_value, TypedValues, no_values, values_and, TypedPairs, no_value_pairs}
use Rattle.yaml_base.specs.values.TypedValues.{value_pairs_and, most_nested, nesting, values_nesting, value_pairs_nesting, text_value}
use Rattle.yaml_value.specs.Walk.{items_in}
use Rattle.yaml_value.specs.declared.keys.Keys.TheVariants as keys
use Rattle.yaml_json_value.specs.TextNames.{AreMembers, HasTextNames, HaveTextNames, IsTextValue}
use Rattle.yaml_json_value.specs.Typed.{AreIntegers, IsIntegerToken, IsValueOf, typed_items, typed_members, typed_value}
use Rattle.yaml_json_value.specs.Untyped.{json_of, json_items, json_members, name_of, Left, value_left, items_left, members_left, members_in}
use Rattle.yaml_json_value.specs.Untyped.{items_of, members_of, left_tokens, count_open, deepest, EachValue, EachMember, Each, IsBack, NameIsBack}
use Rattle.yaml_json_value.specs.Untyped.{Goes, Opens, Walked, told}
use Rattle.yaml_json_value.specs.declared.error.WriteError.{WriteError}
use Rattle.yaml_json_value.specs.declared.error.WriteError.TheVariants as errors
use Rattle.yaml_json_value.proofs.Integers.{is_integer}

-- ---- the items of a list, and the members of a map

items_from : (items : TypedValues) (values : List TypedValue) → items_of (items_in items ++ values) ≡ json_items items (items_of values)
items_from no_values values = refl
items_from (values_and items value) values =
    ap items_of (append_assoc (items_in items) (value ∷ []) values) ∙ items_from items (value ∷ values)

items_are : (items : TypedValues) → json_of (list_value items) ≡ Json.array (items_of (items_in items))
items_are items = ap Json.array (sym (ap items_of (sym (append-nil (items_in items))) ∙ items_from items []))

members_from : (pairs : TypedPairs) (more : List (TypedValue × TypedValue)) → members_of (members_in pairs ++ more) ≡ json_members pairs (members_of more)
members_from no_value_pairs more = refl
members_from (value_pairs_and pairs key value) more =
    ap members_of (append_assoc (members_in pairs) ((key, value) ∷ []) more) ∙ members_from pairs ((key, value) ∷ more)

members_are : (pairs : TypedPairs) → json_of (map_value pairs) ≡ Json.object (members_of (members_in pairs))
members_are pairs = ap Json.object (sym (ap members_of (sym (append-nil (members_in pairs))) ∙ members_from pairs []))

-- ---- properties of each

module _ (P : TypedValue → Type 0) where
  values-split : (first second : List TypedValue) → EachValue P (first ++ second) → EachValue P first × EachValue P second
  values-split [] second each = (tt, each)
  values-split (value ∷ first) second each = let parts = values-split first second each.1 in ((each.0, parts.0), parts.1)

  values-join : (first second : List TypedValue) → EachValue P first → EachValue P second → EachValue P (first ++ second)
  values-join [] second before each = each
  values-join (value ∷ first) second before each = (before.0, values-join first second before.1 each)

  module _ (N : TypedValue → Type 0) where
    members-split : (first second : List (TypedValue × TypedValue)) → EachMember N P (first ++ second) → EachMember N P first × EachMember N P second
    members-split [] second each = (tt, each)
    members-split (pair ∷ first) second each = let parts = members-split first second each.1 in ((each.0, parts.0), parts.1)

    members-join : (first second : List (TypedValue × TypedValue)) → EachMember N P first → EachMember N P second → EachMember N P (first ++ second)
    members-join [] second before each = each
    members-join (pair ∷ first) second before each = (before.0, members-join first second before.1 each)

-- the names in a list, and in a map
items_named : (items : TypedValues) → HaveTextNames items → EachValue HasTextNames (items_in items)
items_named no_values named = tt
items_named (values_and items value) named =
    values-join HasTextNames (items_in items) (value ∷ []) (items_named items named.0) (named.1, tt)

members_named : (pairs : TypedPairs) → AreMembers pairs → EachMember IsTextValue HasTextNames (members_in pairs)
members_named no_value_pairs named = tt
members_named (value_pairs_and pairs key value) named =
    members-join HasTextNames IsTextValue (members_in pairs) ((key, value) ∷ []) (members_named pairs named.0) (named.1, tt)

-- a list, and a map, is read back if all in it is
items_back : (items : TypedValues) (after : Items) → EachValue IsBack (items_in items)
    → typed_items (json_items items after) no_values ≡ typed_items after items
items_back no_values after each = refl
items_back (values_and items value) after each =
    let parts = values-split IsBack (items_in items) (value ∷ []) each in
    items_back items (item (json_of value) after) parts.0 ∙ ap (λ v. typed_items after (values_and items v)) parts.1.0

members_back : (pairs : TypedPairs) (after : Members) → EachMember NameIsBack IsBack (members_in pairs)
    → typed_members (json_members pairs after) no_value_pairs ≡ typed_members after pairs
members_back no_value_pairs after each = refl
members_back (value_pairs_and pairs key value) after each =
    let parts = members-split IsBack NameIsBack (members_in pairs) ((key, value) ∷ []) each in
    members_back pairs (member (name_of key) (json_of value) after) parts.0
    ∙ ap (λ k. typed_members after (value_pairs_and pairs k (typed_value (json_of value)))) parts.1.0.0
    ∙ ap (λ v. typed_members after (value_pairs_and pairs key v)) parts.1.0.1

-- ---- depth

mutual
  value_below : (value : TypedValue) → depth (json_of value) ≤ nesting value
  value_below (list_value items) = omega (arith, items_below items Items.no_items)
  value_below (map_value pairs) = omega (arith, members_below pairs Members.no_members)
  value_below _ = omega arith

  items_below : (items : TypedValues) (after : Items) → items_depth (json_items items after) ≤ max (values_nesting items) (items_depth after)
  items_below no_values after = omega arith
  items_below (values_and items value) after =
      omega (arith, items_below items (item (json_of value) after), value_below value)

  members_below : (pairs : TypedPairs) (after : Members)
      → members_depth (json_members pairs after) ≤ max (value_pairs_nesting pairs) (members_depth after)
  members_below no_value_pairs after = omega arith
  members_below (value_pairs_and pairs key value) after =
      omega (arith, members_below pairs (member (name_of key) (json_of value) after), value_below value)

-- ---- steps

-- these tokens lead from what is left to what is left after them
record Steps (before after : List Left) (ts : List Token) : Type 0 where
  pub tokens : left_tokens before ≡ ts ++ left_tokens after
  pub integers : AreIntegers ts
  pub back : Each NameIsBack IsBack after → Each NameIsBack IsBack before
  pub names : Each IsTextValue HasTextNames before → Each IsTextValue HasTextNames after
  pub deep : deepest after ≤ deepest before
  pub shallow : count_open before ≤ most_nested → deepest before ≤ max most_nested (deepest after)
  pub room : count_open before ≤ most_nested → count_open after ≤ most_nested

moved : (root : TypedValue) (written ts : List Token) (before after : List Left) → Walked root written before → Steps before after ts
    → Walked root (written ++ ts) after
moved root written ts before after walked steps =
    let close = steps.shallow walked.room in
    record {
      tokens = append_assoc written ts (left_tokens after) ∙ ap (λ more. written ++ more) (sym steps.tokens) ∙ walked.tokens;
      integers = All-append IsIntegerToken written ts walked.integers steps.integers;
      back = λ each. walked.back (steps.back each);
      names = λ named. steps.names (walked.names named);
      deep = omega (arith, steps.deep, walked.deep);
      shallow = omega (arith, close, walked.shallow);
      room = steps.room walked.room;
    }

only : (t : Token) → IsIntegerToken t → AreIntegers (t ∷ [])
only t integer = All-push IsIntegerToken [] t (All-nil IsIntegerToken) integer

scalar_steps : (value : TypedValue) (t : Token) (outer : List Left) → json_tokens (json_of value) ≡ t ∷ [] → depth (json_of value) ≡ 0
    → IsIntegerToken t → IsBack value → Steps (value_left value ∷ outer) outer (t ∷ [])
scalar_steps value t outer is flat integer back = record {
  tokens = ap (λ ts. ts ++ left_tokens outer) is;
  integers = only t integer;
  back = λ each. (back, each);
  names = λ each. each.1;
  deep = omega arith;
  shallow = λ room. omega (arith, room, flat);
  room = λ room. room;
}

list_steps : (items : TypedValues) (outer : List Left) → count_open outer < most_nested
    → Steps (value_left (list_value items) ∷ outer) (items_left (items_in items) ∷ outer) (Token.begin_array ∷ [])
list_steps items outer few =
    let is = items_are items in
    let deep = ap depth is in
    record {
      tokens = ap (λ json. json_tokens json ++ left_tokens outer) is;
      integers = only Token.begin_array tt;
      back = λ each. (ap list_value (items_back items Items.no_items each.0), each.1);
      names = λ each. (items_named items each.0, each.1);
      deep = omega (arith, deep);
      shallow = λ room. omega (arith, room, deep);
      room = λ room. omega (arith, few);
    }

map_steps : (pairs : TypedPairs) (outer : List Left) → count_open outer < most_nested
    → Steps (value_left (map_value pairs) ∷ outer) (members_left (members_in pairs) ∷ outer) (Token.begin_object ∷ [])
map_steps pairs outer few =
    let is = members_are pairs in
    let deep = ap depth is in
    record {
      tokens = ap (λ json. json_tokens json ++ left_tokens outer) is;
      integers = only Token.begin_object tt;
      back = λ each. (ap map_value (members_back pairs Members.no_members each.0), each.1);
      names = λ each. (members_named pairs each.0, each.1);
      deep = omega (arith, deep);
      shallow = λ room. omega (arith, room, deep);
      room = λ room. omega (arith, few);
    }

item_steps : (value : TypedValue) (values : List TypedValue) (outer : List Left)
    → Steps (items_left (value ∷ values) ∷ outer) (value_left value ∷ items_left values ∷ outer) []
item_steps value values outer = record {
  tokens = append_assoc (json_tokens (json_of value)) (items_tokens (items_of values)) (left_tokens outer);
  integers = All-nil IsIntegerToken;
  back = λ each. ((each.0, each.1.0), each.1.1);
  names = λ each. (each.0.0, (each.0.1, each.1));
  deep = omega arith;
  shallow = λ room. omega (arith, room);
  room = λ room. room;
}

member_steps : (key value : TypedValue) (pairs : List (TypedValue × TypedValue)) (outer : List Left) → NameIsBack key
    → Steps (members_left ((key, value) ∷ pairs) ∷ outer) (value_left value ∷ members_left pairs ∷ outer) (Token.key (name_of key) ∷ [])
member_steps key value pairs outer name = record {
  tokens = ap (λ ts. Token.key (name_of key) ∷ ts) (append_assoc (json_tokens (json_of value)) (members_tokens (members_of pairs)) (left_tokens outer));
  integers = only (Token.key (name_of key)) tt;
  back = λ each. (((name, each.0), each.1.0), each.1.1);
  names = λ each. (each.0.0.1, (each.0.1, each.1));
  deep = omega arith;
  shallow = λ room. omega (arith, room);
  room = λ room. room;
}

list_ends : (outer : List Left) → Steps (items_left [] ∷ outer) outer (Token.end_array ∷ [])
list_ends outer = record {
  tokens = refl;
  integers = only Token.end_array tt;
  back = λ each. (tt, each);
  names = λ each. each.1;
  deep = omega arith;
  shallow = λ room. omega (arith, room);
  room = λ room. omega (arith, room);
}

map_ends : (outer : List Left) → Steps (members_left [] ∷ outer) outer (Token.end_object ∷ [])
map_ends outer = record {
  tokens = refl;
  integers = only Token.end_object tt;
  back = λ each. (tt, each);
  names = λ each. each.1;
  deep = omega arith;
  shallow = λ room. omega (arith, room);
  room = λ room. omega (arith, room);
}

-- ---- walks

-- nothing is written yet
pub begins : (root : TypedValue) → Walked root [] (value_left root ∷ [])
begins root = record {
  tokens = append-nil (json_tokens (json_of root));
  integers = All-nil IsIntegerToken;
  back = λ each. each.0;
  names = λ named. (named, tt);
  deep = omega arith;
  shallow = omega arith;
  room = omega arith;
}

-- a list or a map isn't opened
pub not_opened : (root value : TypedValue) (old new : Written) (left : Left) (outer after : List Left) (why : WriteError)
    → Walked root old.tokens (value_left value ∷ outer) → 0 < depth (json_of value) → Opens left outer after (Err why) → Goes root old new after (Err why)
not_opened root value old new left outer after errors.NameNotText walked opens full = absurd full
not_opened root value old new left outer after errors.TooDeep walked opens full = omega (arith, walked.deep, opens, full, value_below root)
not_opened root value old new left outer after errors.Memory walked opens full = absurd full

-- a key is refused
pub no_name : (root key value : TypedValue) (pairs : List (TypedValue × TypedValue)) (written : List Token) (outer : List Left)
    → Walked root written (members_left ((key, value) ∷ pairs) ∷ outer) → (IsTextValue key → ⊥) → HasTextNames root → ⊥
no_name root key value pairs written outer walked other named = other (walked.names named).0.0.0

-- a token is written, or not
token_goes : {E : Type 0} (root : TypedValue) (old new : Written) (t : Token) (answer : Result (Unit {0}) E) (before after : List Left)
    → Walked root old.tokens before → Steps before after (t ∷ []) → Writes answer old new t → Goes root old new after (told answer)
token_goes root old new t (Ok done) before after walked steps writes =
    let longer = length-append old.tokens (t ∷ []) in
    let is = ap length writes.ok in (
      subst (λ (ts : List Token). Walked root ts after) (sym writes.ok) (moved root old.tokens (t ∷ []) before after walked steps),
      omega (arith, longer, is),
      writes.room.0,
    )
token_goes root old new t (Err error) before after walked steps writes = tt

-- the answer is told
pub told_goes : {E : Type 0} (root : TypedValue) (old new : Written) (left after : List Left) (answer : Result (Unit {0}) E)
    (result : Result (Unit {0}) WriteError) → result ≡ told answer → after ≡ left → Goes root old new left (told answer) → Goes root old new after result
told_goes root old new left after answer result is same goes =
    subst (λ (r : Result (Unit {0}) WriteError). Goes root old new after r) (sym is)
    (subst (λ (ls : List Left). Goes root old new ls (told answer)) (sym same) goes)

-- the value is this one
pub walked_as : (root known value : TypedValue) (written : List Token) (outer : List Left) → value ≡ known
    → Walked root written (value_left value ∷ outer) → Walked root written (value_left known ∷ outer)
walked_as root known value written outer is = subst (λ (v : TypedValue). Walked root written (value_left v ∷ outer)) is

-- ---- scalars

pub null_goes : {E : Type 0} (root : TypedValue) (old new : Written) (answer : Result (Unit {0}) E) (outer : List Left)
    → Walked root old.tokens (value_left null_value ∷ outer) → Writes answer old new Token.null → Goes root old new outer (told answer)
null_goes root old new answer outer walked =
    token_goes root old new Token.null answer (value_left null_value ∷ outer) outer walked (scalar_steps null_value Token.null outer refl refl tt refl)

pub bool_goes : {E : Type 0} (root : TypedValue) (flag : Bool) (old new : Written) (answer : Result (Unit {0}) E) (outer : List Left)
    → Walked root old.tokens (value_left (bool_value flag) ∷ outer) → Writes answer old new (Token.boolean flag) → Goes root old new outer (told answer)
bool_goes root flag old new answer outer walked =
    token_goes root old new (Token.boolean flag) answer (value_left (bool_value flag) ∷ outer) outer walked
    (scalar_steps (bool_value flag) (Token.boolean flag) outer refl refl tt refl)

pub int_goes : {E : Type 0} (root : TypedValue) (n : ℤ) (old new : Written) (answer : Result (Unit {0}) E) (outer : List Left) → mag n < 2 ^ 63
    → Walked root old.tokens (value_left (int_value n) ∷ outer) → Writes answer old new (Token.number (signed_decimal n))
    → Goes root old new outer (told answer)
int_goes root n old new answer outer few walked =
    let is = is_integer (signed_decimal n) n few refl in
    token_goes root old new (Token.number (signed_decimal n)) answer (value_left (int_value n) ∷ outer) outer walked
    (scalar_steps (int_value n) (Token.number (signed_decimal n)) outer refl refl is.0 (ap int_value (sym is.1)))

pub text_goes : {E : Type 0} (root : TypedValue) (bytes : List ℕ) (old new : Written) (answer : Result (Unit {0}) E) (outer : List Left) → IsUtf8 bytes
    → Walked root old.tokens (value_left (text_value (chars bytes)) ∷ outer) → Writes answer old new (Token.string bytes)
    → Goes root old new outer (told answer)
text_goes root bytes old new answer outer utf8 walked =
    let is = encodes-chars bytes utf8 in
    token_goes root old new (Token.string bytes) answer (value_left (text_value (chars bytes)) ∷ outer) outer walked
    (scalar_steps (text_value (chars bytes)) (Token.string bytes) outer (ap (λ t. Token.string t ∷ []) is) refl tt
    (ap (λ t. text_value (chars t)) is))

-- ---- lists and maps

-- a list, and a map, is opened
pub list_goes : {E : Type 0} (root : TypedValue) (items : TypedValues) (old new : Written) (answer : Result (Unit {0}) E) (outer : List Left)
    → count_open outer < most_nested → Walked root old.tokens (value_left (list_value items) ∷ outer) → Writes answer old new Token.begin_array
    → Goes root old new (items_left (items_in items) ∷ outer) (told answer)
list_goes root items old new answer outer few walked =
    token_goes root old new Token.begin_array answer (value_left (list_value items) ∷ outer) (items_left (items_in items) ∷ outer) walked
    (list_steps items outer few)

pub map_goes : {E : Type 0} (root : TypedValue) (pairs : TypedPairs) (old new : Written) (answer : Result (Unit {0}) E) (outer : List Left)
    → count_open outer < most_nested → Walked root old.tokens (value_left (map_value pairs) ∷ outer) → Writes answer old new Token.begin_object
    → Goes root old new (members_left (members_in pairs) ∷ outer) (told answer)
map_goes root pairs old new answer outer few walked =
    token_goes root old new Token.begin_object answer (value_left (map_value pairs) ∷ outer) (members_left (members_in pairs) ∷ outer) walked
    (map_steps pairs outer few)

-- it ends
pub list_end_goes : {E : Type 0} (root : TypedValue) (old new : Written) (answer : Result (Unit {0}) E) (outer : List Left)
    → Walked root old.tokens (items_left [] ∷ outer) → Writes answer old new Token.end_array → Goes root old new outer (told answer)
list_end_goes root old new answer outer walked =
    token_goes root old new Token.end_array answer (items_left [] ∷ outer) outer walked (list_ends outer)

pub map_end_goes : {E : Type 0} (root : TypedValue) (old new : Written) (answer : Result (Unit {0}) E) (outer : List Left)
    → Walked root old.tokens (members_left [] ∷ outer) → Writes answer old new Token.end_object → Goes root old new outer (told answer)
map_end_goes root old new answer outer walked =
    token_goes root old new Token.end_object answer (members_left [] ∷ outer) outer walked (map_ends outer)

-- the name of a member
pub name_goes : {E : Type 0} (root value : TypedValue) (bytes : List ℕ) (pairs : List (TypedValue × TypedValue)) (old new : Written)
    (answer : Result (Unit {0}) E) (outer : List Left) → IsUtf8 bytes
    → Walked root old.tokens (members_left ((text_value (chars bytes), value) ∷ pairs) ∷ outer) → Writes answer old new (Token.key bytes)
    → Goes root old new (value_left value ∷ members_left pairs ∷ outer) (told answer)
name_goes root value bytes pairs old new answer outer utf8 walked =
    let is = encodes-chars bytes utf8 in
    let key = text_value (chars bytes) in
    let after = value_left value ∷ members_left pairs ∷ outer in
    token_goes root old new (Token.key bytes) answer (members_left ((key, value) ∷ pairs) ∷ outer) after walked
    (subst (λ t. Steps (members_left ((key, value) ∷ pairs) ∷ outer) after (Token.key t ∷ [])) is
    (member_steps key value pairs outer (ap (λ t. text_value (chars t)) is)))

-- a value that is the first of what is left
pub next_item : (root value : TypedValue) (values : List TypedValue) (written : List Token) (outer : List Left)
    → Walked root written (items_left (value ∷ values) ∷ outer) → Walked root written (value_left value ∷ items_left values ∷ outer)
next_item root value values written outer walked =
    subst (λ (ts : List Token). Walked root ts (value_left value ∷ items_left values ∷ outer)) (append-nil written)
    (moved root written [] (items_left (value ∷ values) ∷ outer) (value_left value ∷ items_left values ∷ outer) walked (item_steps value values outer))

-- all is written: these tokens are those of a value of JSON that is read as the value
pub all_written : (root : TypedValue) (written : List Token) → Walked root written []
    → (value most_nested written ≡ Some (json_of root, [])) × AreIntegers written × (root ≡ typed_value (json_of root))
all_written root written walked = (
  subst (λ (ts : List Token). value most_nested ts ≡ Some (json_of root, []))
      (append-nil (json_tokens (json_of root)) ∙ sym walked.tokens ∙ append-nil written)
      (value-json_tokens (json_of root) most_nested [] (omega (arith, walked.shallow))),
  walked.integers,
  sym (walked.back tt),
)

-- the text of these tokens is JSON of the value
pub is_value_back : (root : TypedValue) (written : List Token) (text : List ℕ) → Walked root written [] → tokens text ≡ written
    → IsValueOf keys.MayRepeat text root
is_value_back root written text walked is =
    let all = all_written root written walked in
    record {
      json = json_of root;
      read = ap (value most_nested) is ∙ all.0;
      names = tt;
      integers = subst AreIntegers (sym is) all.1;
      is = all.2;
    }

-- the more is written, the less is left
pub fewer_left : (root : TypedValue) (before after : List Token) (left less : List Left) → Walked root before left → Walked root after less
    → length before < length after → length (left_tokens less) < length (left_tokens left)
fewer_left root before after left less one two longer =
    let first = length-append before (left_tokens left) in
    let second = length-append after (left_tokens less) in
    let same = ap length (one.tokens ∙ sym two.tokens) in
    omega (arith, first, second, same, longer)

-- one step after another
pub then_goes : (root : TypedValue) (first second third : Written) (between after : List Left) (answer : Result (Unit {0}) _)
    → Goes root first second between (Ok tt) → Goes root second third after answer → Goes root first third after answer
then_goes root first second third between after (Ok done) one two =
    let some = one.1 in
    let more = two.1 in
    (two.0, omega (arith, some, more), two.2 ∙ one.2)
then_goes root first second third between after (Err error) one two = two
