-- The keys that are held of the maps that are open, at the next node.
use Rattle.yaml_read.proofs.Common.{ℕ, ◌+◌, ◌≤◌, suc, Bool, true, false, cond, List, [], ◌∷◌, ◌++◌, refl, ◌≡◌, ap, subst, sym, ◌∙◌, arith, length, append_assoc}
use Rattle.yaml_read.proofs.Common.{append-nil, length-append, take, ◌||◌, bytes_eq, TypedValue, Ok, Err, Result, String, contains_text, take-append_seam}
use Rattle.yaml_read.proofs.Common.{OpenLevel, items_open, pairs_open, seen_level, seen_levels, value_due, with_value, FollowsKeys, InnermostIsNew, FollowedBy}
use Rattle.yaml_read.proofs.Common.{IsOpen, column_in, key_bytes, BeginsLevel, Ended, Moved, begins_list, begins_map, value_given, none_ended, one_ended}
use Rattle.yaml_read.proofs.Common.{level_opened, KeyStop, OpenKeys, level_more, Keys, Level}
use Rattle.yaml_read.specs.HeldKeys.{HasKeys, HeldAtNode, HeldKeys, HoldKeys, HoldsKeys, IsLastLevel, KeyEndsBefore, KeysFollowed, TakenOff}
use Rattle.std.specs.BTreeSet.{BTreeSet}
use Rattle.yaml_read.proofs.{KeyTexts.key_between, SeenLevels.levels_length}
use Rattle.yaml_read.specs.declared.errors.KeyStop.TheVariants as stop
use Rattle.yaml_value.specs.declared.keys.Keys.TheVariants as keys

-- a text more in a set
pub or_last : (one all : Bool) → cond one true all ≡ (all || one)
or_last one all = grind arith

-- the last of two equal lists
snoc_same : {X : Type 0} (xs ys : List X) (x y : X) → xs ++ x ∷ [] ≡ ys ++ y ∷ [] → (xs ≡ ys) × (x ≡ y)
snoc_same [] [] x y is = (refl, cc)
snoc_same [] (b ∷ ys) x y is = absurd (omega (arith, ap length is, length-append ys (y ∷ [])))
snoc_same (a ∷ xs) [] x y is = absurd (omega (arith, ap length is, length-append xs (x ∷ [])))
snoc_same (a ∷ xs) (b ∷ ys) x y is =
    let inner = snoc_same xs ys x y cc in
    (let same : xs ≡ ys = inner.0 in let first : a ≡ b = cc in cc, inner.1)

-- ---- the levels that end

hold_length : {A : Type 0} (whole : List ℕ) (levels : List OpenLevel) (all : List (OpenKeys A)) → HoldKeys whole levels all → length all ≡ length levels
hold_length whole [] all hold = ap length hold
hold_length whole (level ∷ levels) all hold = grind (arith, length, length-append, suc, hold_length whole levels hold.0 hold.4)

-- the keys of the levels that are open still are the first of all
record HeldFirst {A : Type 0} (whole : List ℕ) (levels : List OpenLevel) (all : List (OpenKeys A)) : Type 0 where
  first : List (OpenKeys A)
  behind : List (OpenKeys A)
  parts : all ≡ first ++ behind
  hold : HoldKeys whole levels first

ended_hold : {A : Type 0} (whole : List ℕ) (before : List OpenLevel) (value : TypedValue) (levels : List OpenLevel) (last : TypedValue)
    (all : List (OpenKeys A)) → Ended before value levels last → HoldKeys whole before all → HeldFirst whole levels all
ended_hold whole before value _ _ all none_ended hold = record { first = all; behind = []; parts = sym (append-nil all); hold = hold }
ended_hold whole before value levels last all (one_ended level _ inner _ ended is) hold =
    let held = ended_hold whole before value (level ∷ levels) inner all ended hold in
    record {
      first = held.hold.0;
      behind = held.hold.1 ∷ held.behind;
      parts = held.parts ∙ ap (λ t. t ++ held.behind) held.hold.2 ∙ append_assoc held.hold.0 (held.hold.1 ∷ []) held.behind;
      hold = held.hold.4;
    }

-- ---- the innermost level

-- it has taken a value
held_taken : {A : Type 0} (whole : List ℕ) (level : OpenLevel) (outer : List OpenLevel) (value : TypedValue) (held : OpenKeys A)
    → HoldsKeys whole level outer held → HeldKeys whole (with_value level value) outer held
held_taken whole (items_open items) outer value held holds = tt
held_taken whole _ outer value held holds = holds

held_begun : {A : Type 0} (whole : List ℕ) (level : OpenLevel) (outer : List OpenLevel) (held : OpenKeys A) → BeginsLevel level
    → ((bytes : List ℕ) → contains_text held.texts bytes ≡ false) → HeldKeys whole level outer held
held_begun whole _ outer held begins_list none = tt
held_begun whole _ outer held begins_map none = none

-- what is held of it was taken off
abbrev pub IsOff : {A : Type 0} → (whole : List ℕ) → OpenLevel → (outer : List OpenLevel) → (new : List (OpenKeys A)) → OpenKeys A → Type 0
IsOff whole level outer new held = HeldKeys whole level outer held × HoldKeys whole outer new

off_begun : {A : Type 0} (whole : List ℕ) (before outer : List OpenLevel) (level begun : OpenLevel) (old new : List (OpenKeys A)) (rest : List ℕ)
    (held : OpenKeys A) → BeginsLevel begun → level ∷ outer ≡ begun ∷ before → HoldKeys whole before old
    → TakenOff (suc (length outer)) old new rest held → IsOff whole level outer new held
off_begun {A} whole before outer level begun old new rest held begins is hold taken =
    let same : level ≡ begun = cc in
    let rest_same : outer ≡ before = cc in
    let off = taken.begun (omega (arith, hold_length whole before old hold, ap length rest_same)) in (
      subst (λ l. HeldKeys whole l outer held) (sym same) (held_begun whole begun outer held begins off.1),
      subst (λ (l : List OpenLevel). HoldKeys whole l new) (sym rest_same) (subst (HoldKeys whole before) (sym off.0) hold),
    )

off_taken : {A : Type 0} (whole : List ℕ) (before outer inner : List OpenLevel) (level from : OpenLevel) (first value : TypedValue)
    (old new : List (OpenKeys A)) (rest : List ℕ) (held : OpenKeys A) → Ended before first (from ∷ inner) value
    → level ∷ outer ≡ with_value from value ∷ inner → HoldKeys whole before old → TakenOff (suc (length outer)) old new rest held
    → IsOff whole level outer new held
off_taken {A} whole before outer inner level from first value old new rest held ended is hold taken =
    let same : level ≡ with_value from value = cc in
    let rest_same : outer ≡ inner = cc in
    let left = ended_hold whole before first (from ∷ inner) value old ended hold in
    let count : length left.first ≡ suc (length outer) = hold_length whole (from ∷ inner) left.first left.hold ∙ ap (λ l. suc (length l)) (sym rest_same) in
    let long : suc (length outer) ≤ length old = omega (arith, count, ap length left.parts, length-append left.first left.behind) in
    let kept : new ++ held ∷ [] ≡ left.hold.0 ++ left.hold.1 ∷ [] =
    sym (taken.there long (omega arith)) ∙ ap (λ n. take n old) (sym count) ∙ ap (take (length left.first)) left.parts
    ∙ take-append_seam left.first left.behind ∙ left.hold.2 in
    let parts = snoc_same new left.hold.0 held left.hold.1 kept in (
      subst (λ l. HeldKeys whole l outer held) (sym same)
          (subst (λ (l : List OpenLevel). HeldKeys whole (with_value from value) l held) (sym rest_same)
          (held_taken whole from inner value held (subst (HoldsKeys whole from inner) (sym parts.1) left.hold.3))),
      subst (λ (l : List OpenLevel). HoldKeys whole l new) (sym rest_same) (subst (HoldKeys whole inner) (sym parts.0) left.hold.4),
    )

-- as the levels have moved
pub off_moved : {A : Type 0} (whole : List ℕ) (before after outer : List OpenLevel) (level : OpenLevel) (old new : List (OpenKeys A)) (rest : List ℕ)
    (held : OpenKeys A) → Moved before after → after ≡ level ∷ outer → HoldKeys whole before old
    → TakenOff (suc (length outer)) old new rest held → IsOff whole level outer new held
off_moved whole before after outer level old new rest held (level_opened begun begins is) innermost hold taken =
    off_begun whole before outer level begun old new rest held begins (sym innermost ∙ is) hold taken
off_moved whole before after outer level old new rest held (value_given value also took) innermost hold taken =
    off_taken whole before outer took.outer level took.level value took.value old new rest held took.ended (sym innermost ∙ took.taken) hold taken

-- ---- at the next node

pub ends_before : {A : Type 0} (whole : List ℕ) (level : OpenLevel) (outer : List OpenLevel) (held : OpenKeys A) (rest : List ℕ)
    → HeldKeys whole level outer held → IsOpen whole (level ∷ outer) rest → KeyEndsBefore level held.start.now rest
ends_before whole (value_due pairs key) outer held rest is opened = (key_bytes (column_in outer + 2) key, key_between _ outer pairs key _ _ is.0 opened)
ends_before whole _ outer held rest is opened = tt

pub node_held : {A : Type 0} (whole : List ℕ) (level : OpenLevel) (outer : List OpenLevel) (held more : OpenKeys A) (rest : List ℕ)
    → HeldKeys whole level outer held → IsOpen whole (level ∷ outer) rest → HeldAtNode level held rest (Ok more)
    → HoldsKeys whole level outer more × InnermostIsNew (level ∷ outer)
node_held whole (items_open items) outer held more rest is opened at = (tt, tt)
node_held {A} whole (pairs_open pairs) outer held more rest is opened at = (
  (
    subst (IsOpen whole (pairs_open pairs ∷ outer)) (sym at.0) opened,
    subst (λ (texts : BTreeSet (String A)). HasKeys (column_in outer + 2) pairs texts) (sym at.1) is,
  ),
  tt,
)
node_held whole (value_due pairs key) outer held more rest is opened at =
    let bytes = key_bytes (column_in outer + 2) key in
    let added = at bytes (key_between whole outer pairs key held.start.now rest is.0 opened) in
    ((λ other. added.1 other ∙ ap (λ b. b || bytes_eq bytes other) (is.1 other)), sym (is.1 bytes) ∙ added.0)

-- the keys at the next node
pub node_follows : {A : Type 0} (whole : List ℕ) (after outer : List OpenLevel) (level : OpenLevel) (held more : OpenKeys A) (rest : List ℕ)
    (init new : List (OpenKeys A)) → after ≡ level ∷ outer → IsOff whole level outer init held → IsOpen whole after rest
    → HeldAtNode level held rest (Ok more) → new ≡ init ++ more ∷ [] → KeysFollowed whole after new (Ok tt)
node_follows {A} whole after outer level held more rest init new innermost off opened at is =
    let now = node_held whole level outer held more rest off.0 (subst (λ (l : List OpenLevel). IsOpen whole l rest) innermost opened) at in
    subst (λ (l : List OpenLevel). HoldKeys whole l new × InnermostIsNew l) (sym innermost) ((init, more, is, now.0, off.1), now.1)

-- the key repeats, or memory gave out
node_fails : {A : Type 0} (whole : List ℕ) (outer : List OpenLevel) (level : OpenLevel) (held : OpenKeys A) (rest : List ℕ) (new : List (OpenKeys A))
    (reason : KeyStop) → HeldKeys whole level outer held → IsOpen whole (level ∷ outer) rest → HeldAtNode level held rest (Err reason)
    → KeysFollowed whole (level ∷ outer) new (Err reason)
node_fails whole outer (value_due pairs key) held rest new (stop.Other reason) is opened at =
    at (key_bytes (column_in outer + 2) key) (key_between whole outer pairs key held.start.now rest is.0 opened)
node_fails whole outer (value_due pairs key) held rest new (stop.Repeats left) is opened at =
    let bytes = key_bytes (column_in outer + 2) key in
    let between = key_between whole outer pairs key held.start.now rest is.0 opened in
    let there = at bytes between in
    record {
      pairs = pairs;
      key = key;
      outer = outer;
      is = refl;
      text = held.start.now;
      rest = rest;
      opened = is.0;
      place = there.1;
      begins = between;
      again = sym (is.1 bytes) ∙ there.0;
    }
node_fails whole outer _ held rest new reason is opened at = absurd at

pub follows_fails : {A : Type 0} (whole : List ℕ) (after outer : List OpenLevel) (level : OpenLevel) (held : OpenKeys A) (rest : List ℕ)
    (init new : List (OpenKeys A)) (reason : KeyStop) → after ≡ level ∷ outer → IsOff whole level outer init held → IsOpen whole after rest
    → HeldAtNode level held rest (Err reason) → KeysFollowed whole after new (Err reason)
follows_fails {A} whole after outer level held rest init new reason innermost off opened at =
    subst (λ (l : List OpenLevel). KeysFollowed {A = A} whole l new (Err reason)) (sym innermost)
    (node_fails whole outer level held rest new reason off.0 (subst (λ (l : List OpenLevel). IsOpen whole l rest) innermost opened) at)

-- ---- the levels of the code

-- what is held of the innermost level was taken off
pub record OffAt {A : Type 0} (whole : List ℕ) (level : OpenLevel) (levels : List OpenLevel) (new : List (OpenKeys A)) (held : OpenKeys A) : Type 0 where
  pub outer : List OpenLevel
  pub is : levels ≡ level ∷ outer
  pub off : IsOff whole level outer new held

pub off_at : {A : Type 0} (old new : List (OpenKeys A)) (levels : List (Level A)) (level : Level A) (rest : List ℕ) (held : OpenKeys A)
    (can : FollowsKeys keys.Unique old (seen_levels levels) rest) → IsLastLevel level levels → TakenOff (length levels) old new rest held
    → OffAt can.whole (seen_level level) (seen_levels levels) new held
off_at old new levels level rest held can last taken =
    let outer = seen_levels last.outer in
    let innermost = level_more last.outer levels level last.is in
    let count : length levels ≡ suc (length outer) = sym (levels_length levels) ∙ ap length innermost in
    record {
      outer = outer;
      is = innermost;
      off =
          off_moved can.whole can.before (seen_levels levels) outer (seen_level level) old new rest held can.moved innermost can.held
          (subst (λ n. TakenOff n old new rest held) count taken);
    }

pub node_may : {A : Type 0} (old new : List (OpenKeys A)) (levels : List (Level A)) (level : Level A) (rest : List ℕ) (held : OpenKeys A)
    → FollowsKeys keys.Unique old (seen_levels levels) rest → IsLastLevel level levels → TakenOff (length levels) old new rest held
    → KeyEndsBefore (seen_level level) held.start.now rest
node_may old new levels level rest held can last taken =
    let at = off_at old new levels level rest held can last taken in
    ends_before can.whole (seen_level level) at.outer held rest at.off.0 (subst (λ (l : List OpenLevel). IsOpen can.whole l rest) at.is can.opened)

-- ---- by whether keys must differ

pub unique_follows : {A : Type 0} (mode : Keys) (old new : List (OpenKeys A)) (after : List OpenLevel) (rest : List ℕ) (result : Result (Unit {0}) KeyStop)
    → mode ≡ keys.Unique → ((can : FollowsKeys keys.Unique old after rest) → KeysFollowed can.whole after new result)
    → (can : FollowsKeys mode old after rest) → FollowedBy mode can.whole after new result
unique_follows keys.Unique old new after rest result is followed can = followed can
unique_follows keys.MayRepeat old new after rest result is followed can = absurd (let never = is in cc)

pub any_follows : {A : Type 0} (mode : Keys) (whole : List ℕ) (after : List OpenLevel) (new : List (OpenKeys A)) → mode ≡ keys.MayRepeat
    → FollowedBy mode whole after new (Ok tt)
any_follows {A} mode whole after new is = subst (λ (m : Keys). FollowedBy {A = A} m whole after new (Ok tt)) (sym is) tt
