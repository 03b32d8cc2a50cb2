-- The collections that are open in the code, and the text before an event.
use Rattle.yaml_read.proofs.Common.{ℕ, ◌-◌, ◌+◌, ◌*◌, suc, true, false, Option, None, Some, List, [], ◌∷◌, ◌++◌, refl, ◌≡◌, ap, subst, sym, ◌∙◌, append_assoc}
use Rattle.yaml_read.proofs.Common.{append-nil, arith, codes, false≢true, length, Text, encode_utf8_all, line_at, Result, Ok, Err, Vec, append_cancel_left, Bor}
use Rattle.yaml_read.proofs.Common.{MatchOption, vec_len, EntryStands, LeadStands, can_end, seen_await, seen_awaits, Pending, closing_text, item_awaited}
use Rattle.yaml_read.proofs.Common.{key_awaited, lead_text, next_awaited, left_open, outside, trail_text, value_awaited, Another, End, past_word, Stop, Await}
use Rattle.yaml_read.proofs.Common.{Entry}
use Rattle.std.specs.Option.{option_to_list}
use Rattle.yaml_read.specs.Awaits.{IsInnermostAwait, IsLastAwait, awaits_onto}
use Rattle.yaml_read.proofs.{Words.no_word, Encoded.are_ascii, Encoded.line_encoded, Encoded.word_encoded, Turns.line_deeper}

-- ---- the code's list

onto_more : (outer : List Pending) (awaits : List Await) (awaited : Await)
    → awaits_onto outer (awaits ++ awaited ∷ []) ≡ seen_await awaited ∷ awaits_onto outer awaits
onto_more outer [] awaited = refl
onto_more outer (first ∷ awaits) awaited = onto_more (seen_await first ∷ outer) awaits awaited

pub await_more : (awaits : List Await) (awaited : Await) → seen_awaits (awaits ++ awaited ∷ []) ≡ seen_await awaited ∷ seen_awaits awaits
await_more awaits awaited = onto_more [] awaits awaited

onto_length : (outer : List Pending) (awaits : List Await) → length (awaits_onto outer awaits) ≡ length outer + length awaits
onto_length outer [] = omega arith
onto_length outer (first ∷ awaits) = grind (arith, seen_await, length, suc, onto_length (seen_await first ∷ outer) awaits)

pub awaits_length : (awaits : List Await) → length (seen_awaits awaits) ≡ length awaits
awaits_length awaits = grind (arith, onto_length, length)

pub innermost_is : (awaits : List Await) (found : Option Await) → MatchOption found (awaits ≡ []) (λ awaited. IsLastAwait awaited awaits)
    → IsInnermostAwait (seen_awaits awaits) found
innermost_is awaits None is = ap seen_awaits is
innermost_is awaits (Some awaited) is = (seen_awaits is.outer, ap seen_awaits is.is ∙ await_more is.outer awaited)

pub no_awaits : (awaits : List Await) → length awaits ≡ 0 → seen_awaits awaits ≡ []
no_awaits [] none = refl
no_awaits (awaited ∷ awaits) none = cc

-- the innermost is taken off
pub taken_off : {A : Type 0} (old new : Vec Await A) (found : Option Await) → old.items ≡ new.items ++ option_to_list found
    → MatchOption found ((vec_len old ≡ 0) × (vec_len new ≡ 0)) (λ _. vec_len new + 1 ≡ vec_len old) → seen_awaits new.items ≡ outside (seen_awaits old.items)
taken_off old new found h1 h2 = grind (arith, no_awaits, outside, seen_awaits, await_more)

-- ---- the text before an event

-- the indentation of an entry is that of its collection, and two spaces
pub entry_line : (depth : ℕ) (word : Text) → line_at (depth * 2) ++ (codes "  " ++ word) ≡ line_at (suc depth * 2) ++ word
entry_line depth word =
    let twice : depth * 2 + 2 ≡ suc depth * 2 = omega arith in
    sym (line_deeper (depth * 2) word) ∙ ap (λ n. line_at n ++ word) twice

item_lead : (depth : ℕ) → line_at (depth * 2) ++ codes "  " ≡ line_at (suc depth * 2)
item_lead depth = entry_line depth [] ∙ append-nil (line_at (suc depth * 2))

-- the part that is found by the code's words is the one that the innermost collection awaits
stands_by : (lead end : List ℕ) (levels : List Pending) (text : List ℕ) (result : Result Entry Stop) → lead ≡ lead_text levels → end ≡ closing_text levels
    → can_end levels ≡ true → EntryStands lead end text result → LeadStands levels text result
stands_by lead end levels text (Ok (Another rest)) is ends can stands = stands ∙ ap (λ w. w ++ rest.now) is
stands_by lead end levels text (Ok (End rest)) is ends can stands = (can, stands ∙ ap (λ w. w ++ rest.now) ends)
stands_by lead end levels text (Err error) is ends can stands = (
  subst (λ (w : List ℕ). past_word w text ≡ None) is stands.0,
  λ _. subst (λ (w : List ℕ). past_word w text ≡ None) ends stands.1,
)

-- the code's words, by how deep the collection lies
stands_at : (lead end : ℕ → List ℕ) (awaited : Pending) (outer : List Pending) (depth : ℕ) (text : List ℕ) (result : Result Entry Stop)
    → depth ≡ length outer → lead (length outer) ≡ lead_text (awaited ∷ outer) → end (length outer) ≡ closing_text (awaited ∷ outer)
    → can_end (awaited ∷ outer) ≡ true → EntryStands (lead depth) (end depth) text result → LeadStands (awaited ∷ outer) text result
stands_at lead end awaited outer depth text result at leads ends can stands =
    stands_by (lead depth) (end depth) (awaited ∷ outer) text result (ap lead at ∙ leads) (ap end at ∙ ends) can stands

pub first_item_stands : (outer : List Pending) (depth : ℕ) (text : List ℕ) (result : Result Entry Stop) → depth ≡ length outer
    → EntryStands (line_at (depth * 2) ++ codes "  ") (codes "]") text result → LeadStands (item_awaited true ∷ outer) text result
first_item_stands outer depth text result at stands =
    stands_at (λ n. line_at (n * 2) ++ codes "  ") (λ n. codes "]") (item_awaited true) outer depth text result at (item_lead (length outer)) refl refl stands

pub item_stands : (outer : List Pending) (depth : ℕ) (text : List ℕ) (result : Result Entry Stop) → depth ≡ length outer
    → EntryStands (line_at (depth * 2) ++ codes "  ") (line_at (depth * 2) ++ codes "]") text result → LeadStands (item_awaited false ∷ outer) text result
item_stands outer depth text result at stands =
    stands_at (λ n. line_at (n * 2) ++ codes "  ") (λ n. line_at (n * 2) ++ codes "]") (item_awaited false) outer depth text result at
    (item_lead (length outer)) refl refl stands

pub first_key_stands : (outer : List Pending) (depth : ℕ) (text : List ℕ) (result : Result Entry Stop) → depth ≡ length outer
    → EntryStands (line_at (depth * 2) ++ codes "  ? ") (codes "}") text result → LeadStands (key_awaited true ∷ outer) text result
first_key_stands outer depth text result at stands =
    stands_at (λ n. line_at (n * 2) ++ codes "  ? ") (λ n. codes "}") (key_awaited true) outer depth text result at
    (entry_line (length outer) (codes "? ")) refl refl stands

pub key_stands : (outer : List Pending) (depth : ℕ) (text : List ℕ) (result : Result Entry Stop) → depth ≡ length outer
    → EntryStands (line_at (depth * 2) ++ codes "  ? ") (line_at (depth * 2) ++ codes "}") text result → LeadStands (key_awaited false ∷ outer) text result
key_stands outer depth text result at stands =
    stands_at (λ n. line_at (n * 2) ++ codes "  ? ") (λ n. line_at (n * 2) ++ codes "}") (key_awaited false) outer depth text result at
    (entry_line (length outer) (codes "? ")) refl refl stands

-- the value of a key has no end before it
value_lead : (outer : List Pending) (depth : ℕ) → depth ≡ length outer → line_at (depth * 2) ++ codes "  : " ≡ lead_text (value_awaited ∷ outer)
value_lead outer depth at = ap (λ n. line_at (n * 2) ++ codes "  : ") at ∙ entry_line (length outer) (codes ": ")

pub value_stands : (outer : List Pending) (depth : ℕ) (text : List ℕ) (rest : Bor (List ℕ)) → depth ≡ length outer
    → text ≡ (line_at (depth * 2) ++ codes "  : ") ++ rest.now → LeadStands (value_awaited ∷ outer) text (Ok (Another rest))
value_stands outer depth text rest at cut = cut ∙ ap (λ w. w ++ rest.now) (value_lead outer depth at)

pub value_lacks : (outer : List Pending) (depth : ℕ) (text : List ℕ) (error : Stop) → depth ≡ length outer
    → past_word (line_at (depth * 2) ++ codes "  : ") text ≡ None → LeadStands (value_awaited ∷ outer) text (Err error)
value_lacks outer depth text error at none = (
  subst (λ (w : List ℕ). past_word w text ≡ None) (value_lead outer depth at) none,
  λ (can : can_end (value_awaited ∷ outer) ≡ true). absurd (false≢true can),
)

-- if nothing is open, and if something is
pub root_stands : (levels : List Pending) (found : Option Await) (text : Bor (List ℕ)) → found ≡ None → IsInnermostAwait levels found
    → LeadStands levels text.now (Ok (Another text))
root_stands levels found text is innermost =
    let none : levels ≡ [] = subst (IsInnermostAwait levels) is innermost in
    subst (λ (l : List Pending). LeadStands l text.now (Ok (Another text))) (sym none) refl

pub stands_in : (levels : List Pending) (found : Option Await) (awaited : Await) (count depth : ℕ) (text : List ℕ) (result : Result Entry Stop)
    → found ≡ Some awaited → IsInnermostAwait levels found → count ≡ length levels → depth ≡ count - 1
    → ((outer : List Pending) → depth ≡ length outer → LeadStands (seen_await awaited ∷ outer) text result) → LeadStands levels text result
stands_in levels found awaited count depth text result is innermost counted less stands =
    let inner : IsInnermostAwait levels (Some awaited) = subst (IsInnermostAwait levels) is innermost in
    let lies : depth ≡ length inner.0 = omega (arith, counted, less, ap length inner.1) in
    subst (λ (l : List Pending). LeadStands l text result) (sym inner.1) (stands inner.0 lies)

-- the text there, by the code's list
pub lead_at : (awaits : List Await) (found : Option Await) (count : ℕ) (text : List ℕ) (lead entry : Entry)
    → MatchOption found (awaits ≡ []) (λ awaited. IsLastAwait awaited awaits) → count ≡ length awaits → lead ≡ entry
    → ((levels : List Pending) → IsInnermostAwait levels found → count ≡ length levels → LeadStands levels text (Ok lead))
    → LeadStands (seen_awaits awaits) text (Ok entry)
lead_at awaits found count text lead entry innermost counted is stands =
    subst (λ (e : Entry). LeadStands (seen_awaits awaits) text (Ok e)) is
    (stands (seen_awaits awaits) (innermost_is awaits found innermost) (counted ∙ sym (awaits_length awaits)))

-- a node's lead and the collection's end don't begin one text
pub lead_or_end : (levels : List Pending) (a b : List ℕ) → can_end levels ≡ true → lead_text levels ++ a ≡ closing_text levels ++ b → ⊥
lead_or_end (item_awaited true ∷ outer) a b can is = no_word (codes "]") (lead_text (item_awaited true ∷ outer) ++ a) b refl is
lead_or_end (item_awaited false ∷ outer) a b can is =
    no_word (codes "]") (codes "  " ++ a) b refl (append_cancel_left (line_at (length outer * 2)) (codes "  " ++ a) (codes "]" ++ b)
    (entry_line (length outer) a ∙ is ∙ append_assoc (line_at (length outer * 2)) (codes "]") b))
lead_or_end (key_awaited true ∷ outer) a b can is = no_word (codes "}") (lead_text (key_awaited true ∷ outer) ++ a) b refl is
lead_or_end (key_awaited false ∷ outer) a b can is =
    no_word (codes "}") (codes "  ? " ++ a) b refl (append_cancel_left (line_at (length outer * 2)) (codes "  ? " ++ a) (codes "}" ++ b)
    (entry_line (length outer) (codes "? " ++ a) ∙ sym (append_assoc (line_at (suc (length outer) * 2)) (codes "? ") a) ∙ is
    ∙ append_assoc (line_at (length outer * 2)) (codes "}") b))
lead_or_end _ a b can is = absurd (false≢true can)

-- ---- after a node

pub root_left : (levels : List Pending) (text : List ℕ) → levels ≡ [] → (left_open levels ≡ None) × (text ≡ trail_text levels ++ text)
root_left levels text none = subst (λ (l : List Pending). (left_open l ≡ None) × (text ≡ trail_text l ++ text)) (sym none) (refl, refl)

pub node_left : (levels outer now : List Pending) (awaited next : Pending) (word text rest : List ℕ) → levels ≡ awaited ∷ outer → now ≡ next ∷ outer
    → next ≡ next_awaited awaited → word ≡ trail_text (awaited ∷ outer) → text ≡ word ++ rest
    → (left_open levels ≡ Some now) × (text ≡ trail_text levels ++ rest)
node_left levels outer now awaited next word text rest is now_is next_is word_is parts = (
  ap left_open is ∙ ap (λ n. Some (n ∷ outer)) (sym next_is) ∙ ap Some (sym now_is),
  parts ∙ ap (λ w. w ++ rest) (word_is ∙ ap trail_text (sym is)),
)

pub node_stays : (levels outer : List Pending) (awaited : Pending) (word text : List ℕ) → levels ≡ awaited ∷ outer → word ≡ trail_text (awaited ∷ outer)
    → past_word word text ≡ None → past_word (trail_text levels) text ≡ None
node_stays levels outer awaited word text is word_is none = ap (λ w. past_word w text) (ap trail_text is ∙ sym word_is) ∙ none

-- ---- in UTF-8

line_word : (column : ℕ) (word rest : Text) → are_ascii word ≡ true
    → encode_utf8_all ((line_at column ++ word) ++ rest) ≡ (line_at column ++ word) ++ encode_utf8_all rest
line_word column word rest ascii = grind (arith, encode_utf8_all, append_assoc, line_encoded, word_encoded)

pub lead_encoded : (levels : List Pending) (rest : Text) → encode_utf8_all (lead_text levels ++ rest) ≡ lead_text levels ++ encode_utf8_all rest
lead_encoded levels rest = grind (arith, line_encoded, length, item_awaited, line_word, key_awaited, codes, value_awaited)

pub closing_encoded : (levels : List Pending) (rest : Text) → encode_utf8_all (closing_text levels ++ rest) ≡ closing_text levels ++ encode_utf8_all rest
closing_encoded levels rest = grind (arith, word_encoded, codes, line_word, length)

pub trail_encoded : (levels : List Pending) (rest : Text) → encode_utf8_all (trail_text levels ++ rest) ≡ trail_text levels ++ encode_utf8_all rest
trail_encoded levels rest = grind (arith, word_encoded, codes)
