-- No text has two of the faults of JSON: it breaks off, opens too many arrays and objects, or gives a name twice.
use Rattle.yaml_json.proofs.Common.{ap, append-nil, append_assoc, ap₂, arith, drop, get_or, inl, inr, refl, subst, sym, ℕ, ◌∙◌, ◌≡◌, ◌≤◌, Bool, List, [], ◌++◌}
use Rattle.yaml_json.proofs.Common.{◌∷◌, ◌⊎◌, IsPrefix, BeginsSome, NoneGoesOn, TokensBreakOff, OpensTooDeep, NamesTwice, Json, Token, key, json_tokens}
use Rattle.yaml_base.proofs.Prefixes.{prefix_then}
use Rattle.yaml_json.specs.Begins.{IsAllowed}
use Rattle.json.specs.Tree.{depth as nesting}

-- of two prefixes of a list one is a prefix of the other
either_prefix : {A : Type 0} (a b c d : List A) → a ++ b ≡ c ++ d → ((r : List A) × (c ≡ a ++ r) × (b ≡ r ++ d)) ⊎ ((r : List A) × (a ≡ c ++ r) × (d ≡ r ++ b))
either_prefix [] b c d is = inl (c, refl, is)
either_prefix (x ∷ a) b [] d is = inr (x ∷ a, refl, sym is)
either_prefix {A} (x ∷ a) b (y ∷ c) d is = one_more (either_prefix a b c d (ap (λ (l : List A). drop 1 l) is)) where
  first : x ≡ y
  first = ap (λ (l : List A). get_or l 0 x) is

  one_more : ((r : List A) × (c ≡ a ++ r) × (b ≡ r ++ d)) ⊎ ((r : List A) × (a ≡ c ++ r) × (d ≡ r ++ b))
      → ((r : List A) × (y ∷ c ≡ x ∷ a ++ r) × (b ≡ r ++ d)) ⊎ ((r : List A) × (x ∷ a ≡ y ∷ c ++ r) × (d ≡ r ++ b))
  one_more (inl (r, one, other)) = inl (r, ap₂ (λ (e : A) (l : List A). e ∷ l) (sym first) one, other)
  one_more (inr (r, one, other)) = inr (r, ap₂ (λ (e : A) (l : List A). e ∷ l) first one, other)

-- A list that begins with another begins with the prefixes of that.
begins_too : (prefix r taken all : List Token) → taken ≡ prefix ++ r → IsPrefix taken all → IsPrefix prefix all
begins_too prefix r taken all is begins = prefix_then (record { rest = r; parts = sym is }) begins

-- ---- a text that breaks off

-- some value begins with the first tokens, and none that is allowed: the text doesn't break off before
module _ (depth : ℕ) (unique : Bool) (all prefix later : List Token) (parts : prefix ++ later ≡ all) (some : BeginsSome prefix)
    (none : (json : Json) → IsAllowed depth unique json → IsPrefix prefix (json_tokens json) → ⊥) (broken : TokensBreakOff depth unique all) where
  past : (r : List Token) → broken.taken ≡ prefix ++ r → ⊥
  past r is = none broken.begins.json broken.begins.allowed (begins_too prefix r broken.taken (json_tokens broken.begins.json) is broken.begins.begins)

  within : (r : List Token) → prefix ≡ broken.taken ++ r → broken.left ≡ r ++ later → ⊥
  within [] is left = past [] (sym (append-nil broken.taken) ∙ sym is ∙ sym (append-nil prefix))
  within (token ∷ r) is left =
      subst (NoneGoesOn broken.taken) left broken.breaks (
        some.0,
        begins_too (broken.taken ++ token ∷ []) r prefix (json_tokens some.0) (is ∙ sym (append_assoc broken.taken (token ∷ []) r)) some.1,
      )

  by_place : ((r : List Token) × (prefix ≡ broken.taken ++ r) × (broken.left ≡ r ++ later))
      ⊎ ((r : List Token) × (broken.taken ≡ prefix ++ r) × (later ≡ r ++ broken.left))
      → ⊥
  by_place (inl (r, one, other)) = within r one other
  by_place (inr (r, one, other)) = past r one

  goes_on : ⊥
  goes_on = by_place (either_prefix broken.taken broken.left prefix later (broken.parts ∙ sym parts))

module _ (depth : ℕ) (unique : Bool) (all : List Token) where
  too_deep : (deep : OpensTooDeep depth unique all) (json : Json) → IsPrefix (deep.taken ++ deep.next ∷ []) (json_tokens json) → nesting json ≤ depth → ⊥
  too_deep deep json begins fits =
      let less = deep.deeper json begins in
      omega (arith, less, fits)

  pub not_deep : TokensBreakOff depth unique all → OpensTooDeep depth unique all → ⊥
  not_deep broken deep =
      goes_on depth unique all (deep.taken ++ deep.next ∷ []) deep.left (append_assoc deep.taken (deep.next ∷ []) deep.left ∙ deep.parts) deep.some
      (λ json allowed begins. too_deep deep json begins allowed.nested) broken

  pub not_twice : TokensBreakOff depth unique all → NamesTwice depth unique all → ⊥
  not_twice broken named =
      goes_on depth unique all (named.taken ++ key named.name ∷ []) named.left (append_assoc named.taken (key named.name ∷ []) named.left ∙ named.parts)
      (named.some.json, named.some.begins) (λ json allowed begins. named.twice json begins (allowed.names named.wanted)) broken

  -- ---- a text that opens too many

  module _ (deep : OpensTooDeep depth unique all) (named : NamesTwice depth unique all) where
    abbrev opened : List Token
    opened = deep.taken ++ deep.next ∷ []

    abbrev again : List Token
    again = named.taken ++ key named.name ∷ []

    -- the name comes no sooner
    named_before : (r : List Token) → deep.taken ≡ again ++ r → ⊥
    named_before r is =
        named.twice deep.begins.json (begins_too again r deep.taken (json_tokens deep.begins.json) is deep.begins.begins)
        (deep.begins.allowed.names named.wanted)

    -- and no later
    named_after : (r : List Token) → again ≡ deep.taken ++ r → deep.next ∷ deep.left ≡ r ++ named.left → ⊥
    named_after [] is left = named_before [] (sym (append-nil deep.taken) ∙ sym is ∙ sym (append-nil again))
    named_after (token ∷ r) is left =
        let same : deep.next ≡ token = ap (λ (l : List Token). get_or l 0 token) left in
        too_deep deep named.some.json (begins_too opened r again (json_tokens named.some.json)
        (is ∙ sym (append_assoc deep.taken (token ∷ []) r) ∙ ap (λ (t : Token). (deep.taken ++ t ∷ []) ++ r) (sym same)) named.some.begins) named.some.nested

    by_name : ((r : List Token) × (again ≡ deep.taken ++ r) × (deep.next ∷ deep.left ≡ r ++ named.left))
        ⊎ ((r : List Token) × (deep.taken ≡ again ++ r) × (named.left ≡ r ++ deep.next ∷ deep.left))
        → ⊥
    by_name (inl (r, one, other)) = named_after r one other
    by_name (inr (r, one, other)) = named_before r one

    pub deep_not_twice : ⊥
    deep_not_twice =
        by_name (either_prefix deep.taken (deep.next ∷ deep.left) again named.left
        (deep.parts ∙ sym named.parts ∙ sym (append_assoc named.taken (key named.name ∷ []) named.left)))
