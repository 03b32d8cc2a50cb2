-- The walk over the tokens of a value: the grammar, with the collections that are open in a list.
use Rattle.yaml_json.proofs.Common.{value-json_tokens_back, suc, zero, ℕ, ◌-◌, ◌<◌, ◌≤◌, option_and_then, Option, None, Some, length, Bool, true, List, []}
use Rattle.yaml_json.proofs.Common.{◌++◌, ◌∷◌, refl, ◌≡◌, append-nil, append_assoc, inl, inr, ap, subst, sym, ◌∙◌, arith, left, value_is, members_no_key}
use Rattle.yaml_json.proofs.Common.{left_some, value-depth, Json, array, object, item, member, parse_map, after_end_array, read_key, value, skip_value, Token}
use Rattle.yaml_json.proofs.Common.{json_tokens, CollectionKind, Mapping, Sequence, BeginsWithinDepth, NamesOnce, all_names_after, unwind, LeavesOpen, IsScalar}
use Rattle.yaml_json.proofs.Common.{opener, closer}
use Rattle.json.proofs.Grammar.{left-parse_map, value-begin_array, value-begin_object, read_key-shorter, items_end, items_fail, items_more, members_end}
use Rattle.json.proofs.Grammar.{members_fail, members_more, skip_value-shorter}
use Rattle.json.specs.{Json.items, Json.members, Reads.skip_items, Reads.skip_members}
use Rattle.yaml_json.proofs.{NameLemmas.once_both, NameLemmas.once_is_unique, Common.depth as nesting}
use Rattle.yaml_json.specs.{Begins.BeginsAllowed, Walk.skip_rest, Walk.LeavesOpenAt, Walk.BeginsValueBy}

-- ---- the number that bounds the turns plays no part

takes : (depth : ℕ) (before after : List Token) (json : Json) → value depth before ≡ Some (json, after) → length after < length before
takes depth before after json read = skip_value-shorter depth before after (ap left read)

module _ (d : ℕ) where
  items_turn : (k m n : ℕ) (ts : List Token) → length ts ≤ m → length ts ≤ n → length ts ≤ k
      → ((k' : ℕ) (r : List Token) → k ≡ suc k' → length r ≤ m - 1 → length r ≤ n - 1 → length r ≤ k'
      → items (value d) (m - 1) r ≡ items (value d) (n - 1) r)
      → (o : Option (List Token)) → after_end_array ts ≡ o → (v : Option (Json × List Token)) → value d ts ≡ v → items (value d) m ts ≡ items (value d) n ts
  items_turn k m n ts a b c again (Some r) e v f = items_end (value d) m ts r a e ∙ sym (items_end (value d) n ts r b e)
  items_turn k m n ts a b c again None e None f = items_fail (value d) m ts e f ∙ sym (items_fail (value d) n ts e f)
  items_turn k m n ts a b c again None e (Some (j, r)) f =
      let less = takes d ts r j f in
      let is : k ≡ suc (k - 1) = omega arith in
      items_more (value d) m ts r j (omega arith) e f
      ∙ ap (parse_map (item j)) (again (k - 1) r is (omega arith) (omega arith) (omega arith))
      ∙ sym (items_more (value d) n ts r j (omega arith) e f)

  items_enough : (k m n : ℕ) (ts : List Token) → length ts ≤ m → length ts ≤ n → length ts ≤ k → items (value d) m ts ≡ items (value d) n ts
  items_enough zero m n ts a b c =
      items_turn zero m n ts a b c (λ k' r is x y z. let never : ⊥ = omega arith in absurd never) (after_end_array ts) refl (value d ts) refl
  items_enough (suc k) m n ts a b c =
      items_turn (suc k) m n ts a b c
      (λ k' r is x y z. let same : k' ≡ k = omega arith in items_enough k (m - 1) (n - 1) r x y (omega arith))
      (after_end_array ts) refl (value d ts) refl

  members_turn : (k m n : ℕ) (ts : List Token) → length ts ≤ m → length ts ≤ n → length ts ≤ k
      → ((k' : ℕ) (r : List Token) → k ≡ suc k' → length r ≤ m - 1 → length r ≤ n - 1 → length r ≤ k'
      → members (value d) (m - 1) r ≡ members (value d) (n - 1) r)
      → (o : Option (Option (List ℕ) × List Token)) → read_key ts ≡ o → members (value d) m ts ≡ members (value d) n ts
  members_turn k m n ts a b c again None e = members_no_key (value d) m ts e ∙ sym (members_no_key (value d) n ts e)
  members_turn k m n ts a b c again (Some (None, s)) e = members_end (value d) m ts s a e ∙ sym (members_end (value d) n ts s b e)
  members_turn k m n ts a b c again (Some (Some key, s)) e = member_turn (value d s) refl where
    member_turn : (v : Option (Json × List Token)) → value d s ≡ v → members (value d) m ts ≡ members (value d) n ts
    member_turn None f = members_fail (value d) m key ts s e f ∙ sym (members_fail (value d) n key ts s e f)
    member_turn (Some (j, r)) f =
        let less = takes d s r j f in
        let lesser = read_key-shorter ts (Some key) s e in
        let is : k ≡ suc (k - 1) = omega arith in
        members_more (value d) m key ts s r j (omega arith) e f
        ∙ ap (parse_map (member key j)) (again (k - 1) r is (omega arith) (omega arith) (omega arith))
        ∙ sym (members_more (value d) n key ts s r j (omega arith) e f)

  members_enough : (k m n : ℕ) (ts : List Token) → length ts ≤ m → length ts ≤ n → length ts ≤ k → members (value d) m ts ≡ members (value d) n ts
  members_enough zero m n ts a b c = members_turn zero m n ts a b c (λ k' r is x y z. let never : ⊥ = omega arith in absurd never) (read_key ts) refl
  members_enough (suc k) m n ts a b c =
      members_turn (suc k) m n ts a b c
      (λ k' r is x y z. let same : k' ≡ k = omega arith in members_enough k (m - 1) (n - 1) r x y (omega arith))
      (read_key ts) refl

  -- A token that doesn't close an array begins its next item, and then the rest follows.
  item_turn : (ts : List Token) → after_end_array ts ≡ None → (v : Option (Json × List Token)) → value d ts ≡ v
      → skip_items d ts ≡ option_and_then (skip_items d) (left v)
  item_turn ts e None f = ap left (items_fail (value d) (length ts) ts e f)
  item_turn ts e (Some (j, r)) f =
      let less = takes d ts r j f in
      ap left (items_more (value d) (length ts) ts r j (omega arith) e f)
      ∙ left-parse_map (item j) (items (value d) (length ts - 1) r)
      ∙ ap left (items_enough (length ts) (length ts - 1) (length r) r (omega arith) (omega arith) (omega arith))

  item_first : (ts : List Token) → after_end_array ts ≡ None → skip_items d ts ≡ option_and_then (skip_items d) (skip_value d ts)
  item_first ts e = item_turn ts e (value d ts) refl

  -- after a key comes its value, and then the rest
  key_turn : (ts s : List Token) (key : List ℕ) → read_key ts ≡ Some (Some key, s) → (v : Option (Json × List Token)) → value d s ≡ v
      → skip_members d ts ≡ option_and_then (skip_members d) (left v)
  key_turn ts s key e None f = ap left (members_fail (value d) (length ts) key ts s e f)
  key_turn ts s key e (Some (j, r)) f =
      let less = takes d s r j f in
      let lesser = read_key-shorter ts (Some key) s e in
      ap left (members_more (value d) (length ts) key ts s r j (omega arith) e f)
      ∙ left-parse_map (member key j) (members (value d) (length ts - 1) r)
      ∙ ap left (members_enough (length ts) (length ts - 1) (length r) r (omega arith) (omega arith) (omega arith))

  key_first : (ts s : List Token) (key : List ℕ) → read_key ts ≡ Some (Some key, s) → skip_members d ts ≡ option_and_then (skip_members d) (skip_value d s)
  key_first ts s key e = key_turn ts s key e (value d s) refl

-- ---- the collections that are open

pub unwind_none : (depth : ℕ) (levels : List CollectionKind) → unwind depth levels None ≡ None
unwind_none depth [] = refl
unwind_none depth (kind ∷ inner) = ap (option_and_then (skip_rest kind (depth - 1))) (unwind_none (depth - 1) inner)

pub unwind_inner : (depth : ℕ) (levels : List CollectionKind) (kind : CollectionKind) (found : Option (List Token))
    → unwind depth (levels ++ kind ∷ []) found ≡ unwind depth levels (option_and_then (skip_rest kind (depth - length levels - 1)) found)
unwind_inner depth [] kind found =
    let e : depth - 1 ≡ depth - 0 - 1 = omega arith in ap (λ d. option_and_then (skip_rest kind d) found) e
unwind_inner depth (outer ∷ inner) kind found =
    let e : depth - 1 - length inner - 1 ≡ depth - length (outer ∷ inner) - 1 = omega arith in
    ap (option_and_then (skip_rest outer (depth - 1))) (unwind_inner (depth - 1) inner kind found
    ∙ ap (λ d. unwind (depth - 1) inner (option_and_then (skip_rest kind d) found)) e)

pub longer : (levels : List CollectionKind) (kind : CollectionKind) → length (levels ++ kind ∷ []) ≡ suc (length levels)
longer [] kind = refl
longer (outer ∷ inner) kind = ap suc (longer inner kind)

-- ---- a value is next: here, the tokens are those of a value inside

-- these collections are open around the value that is next
abbrev pub Awaits : ℕ → List Token → List CollectionKind → List Token → Type 0
Awaits depth taken levels ahead = skip_value depth (taken ++ ahead) ≡ unwind depth levels (skip_value (depth - length levels) ahead)

awaits_whole : (depth : ℕ) (ahead : List Token) → Awaits depth [] [] ahead
awaits_whole depth ahead = let e : depth ≡ depth - 0 = omega arith in ap (λ d. skip_value d ahead) e

awaits_item : (depth : ℕ) (taken : List Token) (levels : List CollectionKind) (ahead : List Token) → LeavesOpenAt depth taken (levels ++ Sequence ∷ [])
    → after_end_array ahead ≡ None → Awaits depth taken (levels ++ Sequence ∷ []) ahead
awaits_item depth taken levels ahead stands unclosed =
    let e : depth - length levels - 1 ≡ depth - length (levels ++ Sequence ∷ []) = omega (arith, longer levels Sequence) in
    stands.1 ahead ∙ unwind_inner depth levels Sequence (Some ahead)
    ∙ ap (unwind depth levels) (item_first (depth - length levels - 1) ahead unclosed)
    ∙ sym (unwind_inner depth levels Sequence (skip_value (depth - length levels - 1) ahead))
    ∙ ap (λ d. unwind depth (levels ++ Sequence ∷ []) (skip_value d ahead)) e

awaits_named : (depth : ℕ) (taken : List Token) (levels : List CollectionKind) (key : List ℕ) (ahead : List Token)
    → LeavesOpenAt depth taken (levels ++ Mapping ∷ []) → Awaits depth (taken ++ Token.key key ∷ []) (levels ++ Mapping ∷ []) ahead
awaits_named depth taken levels key ahead stands =
    let e : depth - length levels - 1 ≡ depth - length (levels ++ Mapping ∷ []) = omega (arith, longer levels Mapping) in
    ap (skip_value depth) (append_assoc taken (Token.key key ∷ []) ahead)
    ∙ stands.1 (Token.key key ∷ ahead) ∙ unwind_inner depth levels Mapping (Some (Token.key key ∷ ahead))
    ∙ ap (unwind depth levels) (key_first (depth - length levels - 1) (Token.key key ∷ ahead) ahead key refl)
    ∙ sym (unwind_inner depth levels Mapping (skip_value (depth - length levels - 1) ahead))
    ∙ ap (λ d. unwind depth (levels ++ Mapping ∷ []) (skip_value d ahead)) e

-- ---- one token more

scalar_taken : (d : ℕ) (token : Token) (more : List Token) → IsScalar token → skip_value d (token ∷ more) ≡ Some more
scalar_taken d (Token.string text) more is = ap left (value_is d (Token.string text ∷ more))
scalar_taken d (Token.number text) more is = ap left (value_is d (Token.number text ∷ more))
scalar_taken d (Token.boolean flag) more is = ap left (value_is d (Token.boolean flag ∷ more))
scalar_taken d Token.null more is = ap left (value_is d (Token.null ∷ more))
scalar_taken d _ more is = absurd is

opener_taken : (kind : CollectionKind) (d : ℕ) (more : List Token) → 0 < d → skip_value d (opener kind ∷ more) ≡ skip_rest kind (d - 1) more
opener_taken Sequence d more deep = ap left (value-begin_array d more deep) ∙ left-parse_map array (items (value (d - 1)) (length more) more)
opener_taken Mapping d more deep = ap left (value-begin_object d more deep) ∙ left-parse_map object (members (value (d - 1)) (length more) more)

-- a collection is too deep
pub opener_too_deep : (kind : CollectionKind) (d : ℕ) (more : List Token) → d ≡ 0 → skip_value d (opener kind ∷ more) ≡ None
opener_too_deep Sequence d more none = ap (λ n. skip_value n (Token.begin_array ∷ more)) none ∙ ap left (value_is 0 (Token.begin_array ∷ more))
opener_too_deep Mapping d more none = ap (λ n. skip_value n (Token.begin_object ∷ more)) none ∙ ap left (value_is 0 (Token.begin_object ∷ more))

one_more : (depth : ℕ) (taken : List Token) (token : Token) (more : List Token)
    → skip_value depth ((taken ++ token ∷ []) ++ more) ≡ skip_value depth (taken ++ token ∷ more)
one_more depth taken token more = ap (skip_value depth) (append_assoc taken (token ∷ []) more)

-- a value begins with the token
pub next_stands_at : (depth : ℕ) (taken : List Token) (levels : List CollectionKind) (token : Token) (now : List CollectionKind)
    → length levels ≤ depth → ((more : List Token) → Awaits depth taken levels (token ∷ more)) → BeginsValueBy depth levels token now
    → LeavesOpenAt depth (taken ++ token ∷ []) now
next_stands_at depth taken levels token now few awaits (inl (is, same)) =
    subst (LeavesOpenAt depth (taken ++ token ∷ [])) (sym same)
    (few, λ more. one_more depth taken token more ∙ awaits more ∙ ap (unwind depth levels) (scalar_taken (depth - length levels) token more is))
next_stands_at depth taken levels token now few awaits (inr (kind, is, deep, opens)) =
    let fits : length (levels ++ kind ∷ []) ≤ depth = omega (arith, longer levels kind, deep) in
    subst (LeavesOpenAt depth (taken ++ token ∷ [])) (sym opens) (
      fits,
      λ more. one_more depth taken token more ∙ awaits more
          ∙ ap (λ (t : Token). unwind depth levels (skip_value (depth - length levels) (t ∷ more))) is
          ∙ ap (unwind depth levels) (opener_taken kind (depth - length levels) more (omega (arith, deep)))
          ∙ sym (unwind_inner depth levels kind (Some more)),
    )

-- a collection closes
closer_taken : (kind : CollectionKind) (d : ℕ) (more : List Token) → skip_rest kind d (closer kind ∷ more) ≡ Some more
closer_taken Sequence d more = ap left (items_end (value d) (length (Token.end_array ∷ more)) (Token.end_array ∷ more) more (omega arith) refl)
closer_taken Mapping d more = ap left (members_end (value d) (length (Token.end_object ∷ more)) (Token.end_object ∷ more) more (omega arith) refl)

closed_at : (depth : ℕ) (taken : List Token) (levels : List CollectionKind) (kind : CollectionKind) → LeavesOpenAt depth taken (levels ++ kind ∷ [])
    → LeavesOpenAt depth (taken ++ closer kind ∷ []) levels
closed_at depth taken levels kind stands =
    let fits : length levels ≤ depth = omega (arith, longer levels kind, stands.0) in (
      fits,
      λ more. one_more depth taken (closer kind) more ∙ stands.1 (closer kind ∷ more)
          ∙ unwind_inner depth levels kind (Some (closer kind ∷ more))
          ∙ ap (unwind depth levels) (closer_taken kind (depth - length levels - 1) more),
    )

pub closed_stands : (depth : ℕ) (taken : List Token) (levels : List CollectionKind) (kind : CollectionKind) → LeavesOpen depth taken (levels ++ kind ∷ [])
    → LeavesOpen depth (taken ++ closer kind ∷ []) levels
closed_stands depth taken levels kind stands deep more = closed_at deep taken levels kind (stands deep more)

-- ---- all that is open may be closed here

-- the tokens that close some collections, the innermost first
abbrev closers : List CollectionKind → List Token
closers [] = []
closers (kind ∷ inner) = closers inner ++ closer kind ∷ []

unwind_closers : (depth : ℕ) (levels : List CollectionKind) (more : List Token) → unwind depth levels (Some (closers levels ++ more)) ≡ Some more
unwind_closers depth [] more = refl
unwind_closers depth (kind ∷ inner) more =
    ap (λ (ahead : List Token). option_and_then (skip_rest kind (depth - 1)) (unwind (depth - 1) inner (Some ahead)))
    (append_assoc (closers inner) (closer kind ∷ []) more)
    ∙ ap (option_and_then (skip_rest kind (depth - 1))) (unwind_closers (depth - 1) inner (closer kind ∷ more))
    ∙ closer_taken kind (depth - 1) more

closers_once : (levels : List CollectionKind) (names : List (List (List ℕ))) → NamesOnce names (closers levels)
closers_once [] names = tt
closers_once (kind ∷ inner) names =
    once_both names (closers inner) (closer kind ∷ []) (closers_once inner names) (closer_once kind (all_names_after names (closers inner))) where
      closer_once : (kind : CollectionKind) (names : List (List (List ℕ))) → NamesOnce names (closer kind ∷ [])
      closer_once Sequence names = (tt, tt)
      closer_once Mapping names = (tt, tt)

-- a value ends with these tokens and others, none of which is a name that comes again
pub record Closes (depth : ℕ) (taken : List Token) : Type 0 where
  pub json : Json
  pub nested : nesting json ≤ depth
  pub rest : List Token
  pub parts : taken ++ rest ≡ json_tokens json
  pub nameless : (names : List (List (List ℕ))) → NamesOnce names rest

pub closes_value : (depth : ℕ) (taken : List Token) → Closes depth taken → BeginsWithinDepth depth taken
closes_value depth taken closes = record { json = closes.json; nested = closes.nested; begins = record { rest = closes.rest; parts = closes.parts } }

pub closes_allowed : (depth : ℕ) (unique : Bool) (taken : List Token) → Closes depth taken → (unique ≡ true → NamesOnce [] taken)
    → BeginsAllowed depth unique taken
closes_allowed depth unique taken closes once =
    record {
      json = closes.json;
      allowed = record {
        nested = closes.nested;
        names = λ is. once_is_unique closes.json [] (subst (NamesOnce []) closes.parts
            (once_both [] taken closes.rest (once is) (closes.nameless (all_names_after [] taken))));
      };
      begins = record { rest = closes.rest; parts = closes.parts };
    }

-- So a value begins with the tokens that were taken.
pub value_begins_at : (depth : ℕ) (taken : List Token) (levels : List CollectionKind) → LeavesOpenAt depth taken levels → Closes depth taken
value_begins_at depth taken levels stands =
    let whole = taken ++ (closers levels ++ []) in
    let found = left_some (value depth whole) [] (stands.1 (closers levels ++ []) ∙ unwind_closers depth levels []) in
    record {
      json = found.0;
      nested = value-depth depth whole [] found.0 found.1;
      rest = closers levels ++ [];
      parts = value-json_tokens_back depth whole [] found.0 found.1 ∙ append-nil (json_tokens found.0);
      nameless = λ names. subst (NamesOnce names) (sym (append-nil (closers levels))) (closers_once levels names);
    }

pub value_closes : (depth : ℕ) (taken : List Token) (levels : List CollectionKind) → LeavesOpen depth taken levels → Closes depth taken
value_closes depth taken levels stands = value_begins_at depth taken levels (stands depth (omega arith))

pub value_begins : (depth : ℕ) (taken : List Token) (levels : List CollectionKind) → LeavesOpen depth taken levels → BeginsWithinDepth depth taken
value_begins depth taken levels stands = closes_value depth taken (value_closes depth taken levels stands)

-- ---- the places at which a value is next

-- these collections are open around the value that is next, of which these tokens are ahead
abbrev pub AwaitsFirst : ℕ → List Token → List CollectionKind → List Token → Type 0
AwaitsFirst depth taken levels [] = Awaits depth taken levels []
AwaitsFirst depth taken levels (token ∷ after) = (more : List Token) → Awaits depth taken levels (token ∷ more)

-- A value is next within these collections, however much deeper values may nest; and a value begins with the tokens that were taken.
pub record Awaiting (depth : ℕ) (taken : List Token) (levels : List CollectionKind) (ahead : List Token) : Type 0 where
  pub begins : Closes depth taken
  pub few : length levels ≤ depth
  pub awaits : (deep : ℕ) → depth ≤ deep → AwaitsFirst deep taken levels ahead

-- the first value
begins_nothing : (depth : ℕ) → Closes depth []
begins_nothing depth = record { json = Json.null; nested = omega arith; rest = Token.null ∷ []; parts = refl; nameless = λ names. (tt, tt) }

pub awaiting_whole : (depth : ℕ) (ahead : List Token) → Awaiting depth [] [] ahead
awaiting_whole depth ahead =
    record { begins = begins_nothing depth; few = omega arith; awaits = λ deep more. first_of ahead deep } where
      first_of : (ahead : List Token) (deep : ℕ) → AwaitsFirst deep [] [] ahead
      first_of [] deep = awaits_whole deep []
      first_of (token ∷ after) deep = λ more. awaits_whole deep (token ∷ more)

-- an item
unclosed : (token : Token) (more : List Token) → (token ≡ Token.end_array → ⊥) → after_end_array (token ∷ more) ≡ None
unclosed Token.end_array more isn't = absurd (isn't refl)
unclosed _ more isn't = refl

pub awaiting_item : (depth : ℕ) (taken : List Token) (levels outer : List CollectionKind) (token : Token) (after : List Token)
    → levels ≡ outer ++ Sequence ∷ [] → LeavesOpen depth taken levels → (token ≡ Token.end_array → ⊥) → Awaiting depth taken levels (token ∷ after)
awaiting_item depth taken levels outer token after is stands isn't =
    record {
      begins = value_closes depth taken levels stands;
      few = (stands depth (omega arith)).0;
      awaits = λ deep so more. subst (λ (all : List CollectionKind). Awaits deep taken all (token ∷ more)) (sym is)
          (awaits_item deep taken outer (token ∷ more) (subst (LeavesOpenAt deep taken) is (stands deep so)) (unclosed token more isn't));
    }

pub awaiting_no_item : (depth : ℕ) (taken : List Token) (levels outer : List CollectionKind)
    → levels ≡ outer ++ Sequence ∷ [] → LeavesOpen depth taken levels → Awaiting depth taken levels []
awaiting_no_item depth taken levels outer is stands =
    record {
      begins = value_closes depth taken levels stands;
      few = (stands depth (omega arith)).0;
      awaits = λ deep so. subst (λ (all : List CollectionKind). Awaits deep taken all []) (sym is)
          (awaits_item deep taken outer [] (subst (LeavesOpenAt deep taken) is (stands deep so)) refl);
    }

-- the value of a key
module _ (depth : ℕ) (taken : List Token) (levels outer : List CollectionKind) (key : List ℕ) (is : levels ≡ outer ++ Mapping ∷ [])
    (stands : LeavesOpen depth taken levels) where
  abbrev named : List Token
  named = taken ++ Token.key key ∷ []

  awaits_value : (deep : ℕ) → depth ≤ deep → (ahead : List Token) → Awaits deep named levels ahead
  awaits_value deep so ahead =
      subst (λ (all : List CollectionKind). Awaits deep named all ahead) (sym is)
      (awaits_named deep taken outer key ahead (subst (LeavesOpenAt deep taken) is (stands deep so)))

  first_value : (deep : ℕ) → depth ≤ deep → (ahead : List Token) → AwaitsFirst deep named levels ahead
  first_value deep so [] = awaits_value deep so []
  first_value deep so (token ∷ after) = λ more. awaits_value deep so (token ∷ more)

  few_levels : length levels ≤ depth
  few_levels = (stands depth (omega arith)).0

  begins_named : Closes depth named
  begins_named =
      let longer_one = value_begins_at depth (named ++ Token.null ∷ []) levels
      (next_stands_at depth named levels Token.null levels few_levels (first_value depth (omega arith) (Token.null ∷ [])) (inl (tt, refl))) in
      record {
        json = longer_one.json;
        nested = longer_one.nested;
        rest = Token.null ∷ longer_one.rest;
        parts = sym (append_assoc named (Token.null ∷ []) longer_one.rest) ∙ longer_one.parts;
        nameless = λ names. (tt, longer_one.nameless names);
      }

  pub awaiting_named : (ahead : List Token) → Awaiting depth named levels ahead
  awaiting_named ahead = record { begins = begins_named; few = few_levels; awaits = λ deep so. first_value deep so ahead }

-- a value begins with the token
deeper_begins : (depth deep : ℕ) (levels now : List CollectionKind) (token : Token) → depth ≤ deep → BeginsValueBy depth levels token now
    → BeginsValueBy deep levels token now
deeper_begins depth deep levels now token more (inl (is, same)) = inl (is, same)
deeper_begins depth deep levels now token more (inr (kind, is, fits, opens)) = inr (kind, is, omega (arith, fits, more), opens)

pub next_stands : (depth : ℕ) (taken : List Token) (levels now : List CollectionKind) (token : Token) (after : List Token)
    → Awaiting depth taken levels (token ∷ after) → BeginsValueBy depth levels token now → LeavesOpen depth (taken ++ token ∷ []) now
next_stands depth taken levels now token after place begins deep more =
    let few = place.few in
    next_stands_at deep taken levels token now (omega (arith, few, more)) (place.awaits deep more) (deeper_begins depth deep levels now token more begins)
