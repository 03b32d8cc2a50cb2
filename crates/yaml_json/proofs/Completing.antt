-- The tokens that complete a value of JSON, by the arrays and objects that are open in it.
use Rattle.yaml_json.proofs.Common.{◌≡◌, ℕ, Bool, true, false, List, [], ◌∷◌, ◌++◌, refl, sym, subst, ap, append-nil, append_assoc, ◌∙◌, Json, Items, no_items}
use Rattle.yaml_json.proofs.Common.{item, Members, no_members, member, Token, begin_object, end_object, begin_array, end_array, key, bad, json_tokens}
use Rattle.yaml_json.proofs.Common.{items_tokens, members_tokens, CollectionKind, Mapping, Sequence}
use Rattle.json.specs.Token.{string, number, boolean, null}
use Rattle.json.specs.Json as json

-- ---- token by token

-- A value begins with the token, and the rest goes on with these open.
abbrev ValueThen : List CollectionKind → Token → (List CollectionKind → Type 0) → Type 0
ValueThen kinds begin_object go = go (Mapping ∷ kinds)
ValueThen kinds begin_array go = go (Sequence ∷ kinds)
ValueThen kinds (string s) go = go kinds
ValueThen kinds (number s) go = go kinds
ValueThen kinds (boolean b) go = go kinds
ValueThen kinds null go = go kinds
ValueThen kinds _ go = ⊥

-- an array, open within these, goes on with the token
abbrev ItemThen : List CollectionKind → Token → (List CollectionKind → Type 0) → Type 0
ItemThen kinds begin_object go = go (Mapping ∷ Sequence ∷ kinds)
ItemThen kinds end_object go = ⊥
ItemThen kinds begin_array go = go (Sequence ∷ Sequence ∷ kinds)
ItemThen kinds end_array go = go kinds
ItemThen kinds (key s) go = ⊥
ItemThen kinds bad go = ⊥
ItemThen kinds _ go = go (Sequence ∷ kinds)

-- so an object
abbrev MemberThen : List CollectionKind → Token → (Bool → List CollectionKind → Type 0) → Type 0
MemberThen kinds end_object go = go false kinds
MemberThen kinds (key s) go = go true (Mapping ∷ kinds)
MemberThen kinds _ go = ⊥

-- The tokens complete a value in which these are open, the innermost first. If one is owed, they begin with a value.
abbrev pub Completes : (owed : Bool) → List CollectionKind → List Token → Type 0
Completes true kinds (t ∷ ts) = ValueThen kinds t (λ now. Completes false now ts)
Completes false [] [] = Unit {0}
Completes false (Sequence ∷ kinds) (t ∷ ts) = ItemThen kinds t (λ now. Completes false now ts)
Completes false (Mapping ∷ kinds) (t ∷ ts) = MemberThen kinds t (λ owed now. Completes owed now ts)
Completes _ _ _ = ⊥

-- ---- the tokens of a value do

item_next : (kinds : List CollectionKind) (ts : List Token) → Completes true (Sequence ∷ kinds) ts → Completes false (Sequence ∷ kinds) ts
item_next kinds (end_array ∷ ts) so = absurd so
item_next kinds _ so = so

mutual
  pub value_completes : (j : Json) (kinds : List CollectionKind) (ts : List Token) → Completes false kinds ts → Completes true kinds (json_tokens j ++ ts)
  value_completes (json.array js) kinds ts so = items_complete js kinds ts so
  value_completes (json.object ms) kinds ts so = members_complete ms kinds ts so
  value_completes _ kinds ts so = so

  items_complete : (js : Items) (kinds : List CollectionKind) (ts : List Token) → Completes false kinds ts
      → Completes false (Sequence ∷ kinds) (items_tokens js ++ ts)
  items_complete no_items kinds ts so = so
  items_complete (item j js) kinds ts so =
      subst (Completes false (Sequence ∷ kinds)) (sym (append_assoc (json_tokens j) (items_tokens js) ts)) (item_next kinds
      (json_tokens j ++ (items_tokens js ++ ts)) (value_completes j (Sequence ∷ kinds) (items_tokens js ++ ts) (items_complete js kinds ts so)))

  members_complete : (ms : Members) (kinds : List CollectionKind) (ts : List Token) → Completes false kinds ts
      → Completes false (Mapping ∷ kinds) (members_tokens ms ++ ts)
  members_complete no_members kinds ts so = so
  members_complete (member k j ms) kinds ts so =
      subst (Completes true (Mapping ∷ kinds)) (sym (append_assoc (json_tokens j) (members_tokens ms) ts))
      (value_completes j (Mapping ∷ kinds) (members_tokens ms ++ ts) (members_complete ms kinds ts so))

-- ---- they alone do

-- The rest of each that is open, the innermost first.
abbrev Ends : List CollectionKind → List Token → Type 0
Ends [] ts = ts ≡ []
Ends (Sequence ∷ kinds) ts = (js : Items) × ((rest : List Token) × ((ts ≡ items_tokens js ++ rest) × Ends kinds rest))
Ends (Mapping ∷ kinds) ts = (ms : Members) × ((rest : List Token) × ((ts ≡ members_tokens ms ++ rest) × Ends kinds rest))

-- so after a value
abbrev EndsAfter : (owed : Bool) → List CollectionKind → List Token → Type 0
EndsAfter true kinds ts = (j : Json) × ((rest : List Token) × ((ts ≡ json_tokens j ++ rest) × Ends kinds rest))
EndsAfter false kinds ts = Ends kinds ts

array_begins : (kinds : List CollectionKind) (ts : List Token) → Ends (Sequence ∷ kinds) ts → EndsAfter true kinds (begin_array ∷ ts)
array_begins kinds ts (js, (rest, (is, ends))) = (json.array js, (rest, (ap (λ (l : List Token). begin_array ∷ l) is, ends)))

object_begins : (kinds : List CollectionKind) (ts : List Token) → Ends (Mapping ∷ kinds) ts → EndsAfter true kinds (begin_object ∷ ts)
object_begins kinds ts (ms, (rest, (is, ends))) = (json.object ms, (rest, (ap (λ (l : List Token). begin_object ∷ l) is, ends)))

item_first : (kinds : List CollectionKind) (ts : List Token) → EndsAfter true (Sequence ∷ kinds) ts → Ends (Sequence ∷ kinds) ts
item_first kinds ts (j, (left, (is, (js, (rest, (more, ends)))))) =
    (item j js, (rest, (is ∙ ap (λ (l : List Token). json_tokens j ++ l) more ∙ sym (append_assoc (json_tokens j) (items_tokens js) rest), ends)))

member_first : (s : List ℕ) (kinds : List CollectionKind) (ts : List Token) → EndsAfter true (Mapping ∷ kinds) ts → Ends (Mapping ∷ kinds) (key s ∷ ts)
member_first s kinds ts (j, (left, (is, (ms, (rest, (more, ends)))))) = (
  member s j ms,
  (
    rest,
    (
      ap (λ (l : List Token). key s ∷ l) (is ∙ ap (λ (l : List Token). json_tokens j ++ l) more ∙ sym (append_assoc (json_tokens j) (members_tokens ms) rest)),
      ends,
    ),
  ),
)

completed : (owed : Bool) (kinds : List CollectionKind) (ts : List Token) → Completes owed kinds ts → EndsAfter owed kinds ts
completed true kinds (begin_object ∷ ts) so = object_begins kinds ts (completed false (Mapping ∷ kinds) ts so)
completed true kinds (begin_array ∷ ts) so = array_begins kinds ts (completed false (Sequence ∷ kinds) ts so)
completed true kinds (string s ∷ ts) so = (json.string s, (ts, (refl, completed false kinds ts so)))
completed true kinds (number s ∷ ts) so = (json.number s, (ts, (refl, completed false kinds ts so)))
completed true kinds (boolean b ∷ ts) so = (json.boolean b, (ts, (refl, completed false kinds ts so)))
completed true kinds (null ∷ ts) so = (json.null, (ts, (refl, completed false kinds ts so)))
completed false [] [] so = refl
completed false (Sequence ∷ kinds) (begin_object ∷ ts) so =
    item_first kinds (begin_object ∷ ts) (object_begins (Sequence ∷ kinds) ts (completed false (Mapping ∷ Sequence ∷ kinds) ts so))
completed false (Sequence ∷ kinds) (begin_array ∷ ts) so =
    item_first kinds (begin_array ∷ ts) (array_begins (Sequence ∷ kinds) ts (completed false (Sequence ∷ Sequence ∷ kinds) ts so))
completed false (Sequence ∷ kinds) (end_array ∷ ts) so = (no_items, (ts, (refl, completed false kinds ts so)))
completed false (Sequence ∷ kinds) (string s ∷ ts) so = item_first kinds (string s ∷ ts) (json.string s, (ts, (refl, completed false (Sequence ∷ kinds) ts so)))
completed false (Sequence ∷ kinds) (number s ∷ ts) so = item_first kinds (number s ∷ ts) (json.number s, (ts, (refl, completed false (Sequence ∷ kinds) ts so)))
completed false (Sequence ∷ kinds) (boolean b ∷ ts) so =
    item_first kinds (boolean b ∷ ts) (json.boolean b, (ts, (refl, completed false (Sequence ∷ kinds) ts so)))
completed false (Sequence ∷ kinds) (null ∷ ts) so = item_first kinds (null ∷ ts) (json.null, (ts, (refl, completed false (Sequence ∷ kinds) ts so)))
completed false (Mapping ∷ kinds) (end_object ∷ ts) so = (no_members, (ts, (refl, completed false kinds ts so)))
completed false (Mapping ∷ kinds) (key s ∷ ts) so = member_first s kinds ts (completed true (Mapping ∷ kinds) ts so)
completed _ _ _ so = absurd so

nothing_more : (ts : List Token) → EndsAfter true [] ts → (j : Json) × (ts ≡ json_tokens j)
nothing_more ts (j, (rest, (is, none))) = (j, is ∙ ap (λ (l : List Token). json_tokens j ++ l) none ∙ append-nil (json_tokens j))

-- So the tokens that complete a value of which there are none yet are those of a value.
pub is_value : (ts : List Token) → Completes true [] ts → (j : Json) × (ts ≡ json_tokens j)
is_value ts so = nothing_more ts (completed true [] ts so)

pub of_value : (j : Json) → Completes true [] (json_tokens j)
of_value j = subst (Completes true []) (append-nil (json_tokens j)) (value_completes j [] [] tt)
