-- What is left of the lists and maps of a program, as it is seen.
use Rattle.yaml_base.proofs.Common.{ℕ, ◌+◌, List, [], ◌∷◌, ◌++◌, refl, ◌≡◌, ap, ◌∙◌, subst, sym, append_assoc, append-nil, arith, length, map}
use Rattle.yaml_base.specs.values.TypedValues.{TypedValue, TypedPairs, no_value_pairs, value_pairs_and}
use Rattle.yaml_value.specs.SeenValues.{pairs_of, seen_pairs, seen_value}
use Rattle.yaml_value.specs.declared.value.Value.{Value}
use Rattle.yaml_json_value.specs.Rests.{onto, seen_rest, seen_rests}
use Rattle.json.specs.Token.{Token}
use Rattle.yaml_json_value.specs.Untyped.{Left, Walked, count_open, members_in, value_left}
use Rattle.yaml_json_value.proofs.Untyping.{begins}
use Rattle.yaml_json_value.specs.declared.back.Rest.{Rest}

onto_more : {A : Type 0} (outer : List Left) (rests : List (Rest A)) (rest : Rest A) → onto outer (rests ++ rest ∷ []) ≡ seen_rest rest ∷ onto outer rests
onto_more outer [] rest = refl
onto_more outer (first ∷ rests) rest = onto_more (seen_rest first ∷ outer) rests rest

-- a rest was pushed, or taken
pub rest_more : {A : Type 0} (old new : List (Rest A)) (rest : Rest A) → new ≡ old ++ rest ∷ [] → seen_rests new ≡ seen_rest rest ∷ seen_rests old
rest_more old new rest is = ap seen_rests is ∙ onto_more [] old rest

count_onto : {A : Type 0} (outer : List Left) (rests : List (Rest A)) → count_open (onto outer rests) ≡ length rests + count_open outer
count_onto outer [] = omega arith
count_onto outer (Rest.Items items ∷ rests) = let more = count_onto (seen_rest (Rest.Items items) ∷ outer) rests in omega (arith, more)
count_onto outer (Rest.Members members ∷ rests) = let more = count_onto (seen_rest (Rest.Members members) ∷ outer) rests in omega (arith, more)

-- so many are open
pub count_rests : {A : Type 0} (rests : List (Rest A)) → count_open (seen_rests rests) ≡ length rests
count_rests rests = let is = count_onto [] rests in omega (arith, is)

members_more : (before : TypedPairs) (pairs : List (TypedValue × TypedValue)) → members_in (pairs_of before pairs) ≡ members_in before ++ pairs
members_more before [] = sym (append-nil (members_in before))
members_more before (pair ∷ pairs) =
    members_more (value_pairs_and before pair.0 pair.1) pairs ∙ append_assoc (members_in before) (pair ∷ []) pairs

-- the members of a map
pub members_seen : {A : Type 0} (pairs : List (Value A × Value A)) → members_in (seen_pairs pairs) ≡ map (λ pair. (seen_value pair.0, seen_value pair.1)) pairs
members_seen {A} pairs = members_more no_value_pairs (map (λ (pair : Value A × Value A). (seen_value pair.0, seen_value pair.1)) pairs)

-- ---- walks

-- nothing is written yet
pub begins_in : {A : Type 0} (root : TypedValue) (written : List Token) (rests : List (Rest A)) → written ≡ [] → rests ≡ []
    → Walked root written (value_left root ∷ seen_rests rests)
begins_in {A} root written rests none empty =
    subst (λ (ts : List Token). Walked root ts (value_left root ∷ seen_rests rests)) (sym none)
    (subst (λ (rs : List (Rest A)). Walked root [] (value_left root ∷ seen_rests rs)) (sym empty) (begins root))

-- a rest is taken
pub taken : {A : Type 0} (root : TypedValue) (written : List Token) (rests others : List (Rest A)) (rest : Rest A) → rests ≡ others ++ rest ∷ []
    → Walked root written (seen_rests rests) → Walked root written (seen_rest rest ∷ seen_rests others)
taken root written rests others rest is = subst (λ (left : List Left). Walked root written left) (rest_more others rests rest is)
