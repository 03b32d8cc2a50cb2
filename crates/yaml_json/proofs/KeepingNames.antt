-- The names that are kept while the tokens of a value are walked over.
use Rattle.yaml_json.proofs.Common.{ℕ, length, Bool, false, true, List, [], ◌++◌, ◌∷◌, refl, ◌≡◌, length-append, append_assoc, inl, inr, ap, subst, sym, ◌∙◌}
use Rattle.yaml_json.proofs.Common.{arith, both_ways, Token, HaveNames, HoldsNames, AddsName, IsNewName, inner_names, names_after, NamesOnce, all_names_after}
use Rattle.yaml_json.proofs.Common.{IsScalar, opener, closer, KeepsNames, FitsNames, KeepsNamesAfter, HasUniqueNames, CollectionKind, Mapping, Sequence}
use Rattle.std.proofs.lemmas.Bool.{cases_Bool}
use Rattle.yaml_json.proofs.NameLemmas.{once_both, names_after_both}
use Rattle.yaml_json.specs.{Names.outer_names, Walk.KeepsTo, Walk.LeavesNames, declared.names.Names.Names}

abbrev Taken : Type 0
Taken = List (List (List ℕ))

scalar_names : (token : Token) → IsScalar token → (levels : Taken) → NamesOnce levels (token ∷ []) × (names_after levels token ≡ levels)
scalar_names (Token.string text) is levels = ((tt, tt), refl)
scalar_names (Token.number text) is levels = ((tt, tt), refl)
scalar_names (Token.boolean flag) is levels = ((tt, tt), refl)
scalar_names Token.null is levels = ((tt, tt), refl)
scalar_names _ is levels = absurd is

opener_names : (kind : CollectionKind) (levels : Taken) → NamesOnce levels (opener kind ∷ []) × (names_after levels (opener kind) ≡ [] ∷ levels)
opener_names Sequence levels = ((tt, tt), refl)
opener_names Mapping levels = ((tt, tt), refl)

closer_names : (kind : CollectionKind) (levels : Taken) → NamesOnce levels (closer kind ∷ []) × (names_after levels (closer kind) ≡ outer_names levels)
closer_names Sequence levels = ((tt, tt), refl)
closer_names Mapping levels = ((tt, tt), refl)

module _ {A : Type 0} where
  -- one token more, whose names are kept
  kept_on : (so : List Token) (token : Token) (held later : Names A) → later.are_kept ≡ held.are_kept
      → (later.are_kept ≡ true → NamesOnce (all_names_after [] so) (token ∷ []))
      → (HoldsNames (all_names_after [] so) held → HoldsNames (names_after (all_names_after [] so) token) later)
      → KeepsNames so held → KeepsNames (so ++ token ∷ []) later
  kept_on so token held later same once holds kept is =
      let before = kept (sym same ∙ is) in (
        once_both [] so (token ∷ []) before.0 (once is),
        subst (HaveNames later.few.items later.levels.items) (sym (names_after_both [] so (token ∷ []))) (holds (λ also. (kept also).1) is),
      )

  -- a scalar
  pub keeps_scalar : (token : Token) (held : Names A) → IsScalar token → KeepsNamesAfter held (token ∷ []) held
  keeps_scalar token held is so =
      let levels = all_names_after [] so in
      kept_on so token held held refl (λ also. (scalar_names token is levels).0)
      (subst (λ (names : Taken). HoldsNames names held) (sym (scalar_names token is levels).1))

  -- a collection begins
  pub keeps_opener : (kind : CollectionKind) (held later : Names A) → later.are_kept ≡ held.are_kept
      → ((names : Taken) → HoldsNames names held → HoldsNames ([] ∷ names) later) → KeepsNamesAfter held (opener kind ∷ []) later
  keeps_opener kind held later same enters so =
      let levels = all_names_after [] so in
      kept_on so (opener kind) held later same (λ also. (opener_names kind levels).0)
      (λ holds. subst (λ (names : Taken). HoldsNames names later) (sym (opener_names kind levels).1) (enters levels holds))

  -- or ends
  pub keeps_closer : (kind : CollectionKind) (held later : Names A) → LeavesNames held later → KeepsNamesAfter held (closer kind ∷ []) later
  keeps_closer kind held later leaves so =
      let levels = all_names_after [] so in
      kept_on so (closer kind) held later leaves.0 (λ also. (closer_names kind levels).0)
      (λ holds. subst (λ (names : Taken). HoldsNames names later) (sym (closer_names kind levels).1) (leaves.1 levels holds))

  -- If a name is next, an object is open that takes it.
  some_level : (kinds outer : List CollectionKind) (kind : CollectionKind) (held : Names A) (levels : Taken) → kinds ≡ outer ++ kind ∷ []
      → length held.levels.items ≡ length kinds → HaveNames held.few.items held.levels.items levels → levels ≡ inner_names levels ∷ outer_names levels
  some_level kinds outer kind held [] is many have =
      let never : ⊥ = omega (arith, many, ap length have, ap length is, length-append outer (kind ∷ [])) in absurd never
  some_level kinds outer kind held (names ∷ levels) is many have = refl

  module _ (kinds outer : List CollectionKind) (kind : CollectionKind) (is : kinds ≡ outer ++ kind ∷ []) (unique : Bool) (name : List ℕ)
      (held later : Names A) (fits : FitsNames unique kinds held) (same : later.are_kept ≡ held.are_kept) (new : Bool)
      (adds : (names : List (List ℕ)) → (levels : Taken) → HoldsNames (names ∷ levels) held → AddsName names levels name new later) where
    there : (so : List Token) → KeepsNames so held → held.are_kept ≡ true
        → all_names_after [] so ≡ inner_names (all_names_after [] so) ∷ outer_names (all_names_after [] so)
    there so kept also = some_level kinds outer kind held (all_names_after [] so) is (fits.1 also) (kept also).1

    added : (so : List Token) → KeepsNames so held → held.are_kept ≡ true
        → AddsName (inner_names (all_names_after [] so)) (outer_names (all_names_after [] so)) name new later
    added so kept also =
        adds (inner_names (all_names_after [] so)) (outer_names (all_names_after [] so))
        (λ again. subst (HaveNames held.few.items held.levels.items) (there so kept also) (kept again).1)

    -- a name that is new
    pub keeps_name : new ≡ true → KeepsNamesAfter held (Token.key name ∷ []) later
    keeps_name fresh so kept wanted =
        let also = sym same ∙ wanted in
        let all = added so kept also in (
          once_both [] so (Token.key name ∷ []) (kept also).0 (all.1 fresh wanted, tt),
          subst (HaveNames later.few.items later.levels.items) (sym (names_after_both [] so (Token.key name ∷ []))) (all.0 wanted),
        )

    -- a name that isn't
    pub name_again : new ≡ false → (so : List Token) → KeepsNames so held
        → (unique ≡ true) × NamesOnce [] so × (IsNewName (inner_names (all_names_after [] so)) name → ⊥)
    name_again old so kept = elim (cases_Bool held.are_kept) [
      | inl also ↦ (sym fits.0 ∙ also, (kept also).0, ((added so kept also).2 old).1)
      | inr not_kept ↦ absurd (never_kept not_kept)
    ] where
      never_kept : held.are_kept ≡ false → ⊥
      never_kept none =
          let returned = (adds [] [] (λ wanted. absurd (both_ways held.are_kept none wanted))).2 old in
          both_ways held.are_kept none (sym same ∙ returned.0)

  -- some tokens, and then others
  pub keeps_then : (held between later : Names A) (one other : List Token) → KeepsNamesAfter held one between → KeepsNamesAfter between other later
      → KeepsNamesAfter held (one ++ other) later
  keeps_then held between later one other first second so kept =
      subst (λ (all : List Token). KeepsNames all later) (append_assoc so one other) (second (so ++ one) (first so kept))

  pub names_once : (unique : Bool) (kinds : List CollectionKind) (held : Names A) (so : List Token) → FitsNames unique kinds held → KeepsNames so held
      → unique ≡ true → NamesOnce [] so
  names_once unique kinds held so fits kept is = (kept (fits.0 ∙ is)).0

  -- The state of the walk.
  pub record NamesSoFar (start ahead : List Token) (held : Names A) : Type 0 where
    pub taken : List Token
    pub parts : taken ++ ahead ≡ start
    pub kept : KeepsNames taken held

  pub names_begin : (start : List Token) (held : Names A) → HoldsNames [] held → NamesSoFar start start held
  names_begin start held holds = record { taken = []; parts = refl; kept = λ is. (tt, holds is) }

  pub names_on : (start ahead after : List Token) (held later : Names A) → NamesSoFar start ahead held → KeepsTo held ahead after later
      → NamesSoFar start after later
  names_on start ahead after held later so_far keeps =
      record {
        taken = so_far.taken ++ keeps.taken;
        parts = append_assoc so_far.taken keeps.taken after ∙ ap (λ (all : List Token). so_far.taken ++ all) (sym keeps.parts) ∙ so_far.parts;
        kept = keeps.keeps so_far.taken so_far.kept;
      }

  pub names_done : (unique : Bool) (kinds : List CollectionKind) (start ahead : List Token) (held : Names A) → NamesSoFar start ahead held
      → FitsNames unique kinds held → HasUniqueNames unique start ahead
  names_done unique kinds start ahead held so_far fits is = (so_far.taken, so_far.parts, names_once unique kinds held so_far.taken fits so_far.kept is)
