-- The brackets that are open are counted as they are listed.
use Rattle.std.proofs.Common.{◌≡◌, ◌==◌, ◌+◌, ◌-◌, ◌<◌, ◌≤◌, ℕ, suc, false, None, List, [], ◌∷◌, drop, get_or, length, refl, sym, subst, ap, ◌∙◌, arith}
use Rattle.yaml_base.specs.declared.kinds.CollectionKind.{CollectionKind}
use Rattle.yaml_json.specs.Expected.{IsDepth, IsFront, StandingInJson, kind_at, standing_after, standing_over, start}
use Rattle.yaml_json.specs.declared.expecting.{Depth.Depth, Front.Front}
use Rattle.std.proofs.lemmas.{Bool.Decides.nat_tests, List.at_drop_more, List.drop_all}

-- no bracket is open with more than are open
none_above : (deep : ℕ) (kinds : List CollectionKind) → length kinds < deep → kind_at deep kinds ≡ None
none_above deep [] less = refl
none_above deep (kind ∷ outer) less =
    let no : (suc (length outer) == deep) ≡ false = grind (arith, nat_tests) in
    rw no (none_above deep outer (omega (arith, less)))

-- the one that makes as many is closed
pub closed_there : (deep : ℕ) (kinds : List CollectionKind) (depth after : Depth) → IsDepth deep kinds depth → depth.count ≡ deep
    → after.count ≡ depth.count - 1 → after.kind ≡ None → IsDepth deep (drop 1 kinds) after
closed_there deep [] depth after is all count none =
    let was = is.count in
    record { count = omega (arith, count, was); kind = none }
closed_there deep (kind ∷ outer) depth after is all count none =
    let was = is.count in
    let less : length outer < deep = omega (arith, was, all) in
    record { count = omega (arith, count, was); kind = none ∙ sym (none_above deep outer less) }

-- ---- byte by byte

-- The bytes before this place lead to this state, and those after it from this state to the last.
pub record StandsBefore (bytes : List ℕ) (deep at : ℕ) (front : Front) : Type 0 where
  pub standing : StandingInJson
  pub is : IsFront deep standing front
  pub whole : standing_over standing (drop at bytes) ≡ standing_over start bytes

pub one_byte : (bytes : List ℕ) (deep at : ℕ) (front next : Front) → at < length bytes → (so : StandsBefore bytes deep at front)
    → ((standing : StandingInJson) → IsFront deep standing front → IsFront deep (standing_after standing (get_or bytes at 0)) next)
    → StandsBefore bytes deep (at + 1) next
one_byte bytes deep at front next less so goes =
    record {
      standing = standing_after so.standing (get_or bytes at 0);
      is = goes so.standing so.is;
      whole = sym (at_drop_more (standing_over so.standing) bytes at 0 less) ∙ so.whole;
    }

pub all_bytes : (bytes : List ℕ) (deep at : ℕ) (front : Front) → length bytes ≤ at → StandsBefore bytes deep at front
    → IsFront deep (standing_over start bytes) front
all_bytes bytes deep at front all so =
    subst (λ (s : StandingInJson). IsFront deep s front) (sym (ap (standing_over so.standing) (drop_all at bytes all)) ∙ so.whole) so.is
