use Rattle.arrayvec.specs.ArrayVec.{ArrayVec}
use Rattle.yaml_value.proofs.Common.{◌+◌, ◌<◌, ◌≤◌, ℕ, length, Bool, false, true, List, [], map, ◌++◌, ◌∷◌, ◌≡◌, ap, sym, ◌∙◌, arith, refl, Result, OnOk}
use Rattle.yaml_value.proofs.Common.{most_nested, seen_value}
use Rattle.yaml_base.proofs.Common.{true≢false, false≢true, append-nil, length-append, length-map}
use Rattle.std.specs.Prelude.{Ok, Err, OnErr, IsOk, is_ok, ◌↔◌}
use Rattle.yaml_value.specs.{Walk.Left, Walk.entered, Walk.seen_rest, declared.walk.Rest.Rest}
use Rattle.yaml_value.proofs.WalkLemmas.{popped}
use Rattle.yaml_value.proofs.size.enter_within.Goals as goal

-- a level that was pushed fits if there was room
push_fits : {A T E : Type 0} (pushed : Result T E) (old new : ArrayVec (Rest A)) (most : ℕ) → length old.items ≤ most
    → (IsOk pushed ↔ (length old.items < most)) → OnOk pushed (length new.items ≡ length old.items + 1) → OnErr pushed (new ≡ old)
    → length new.items ≤ most
push_fits (Ok x) old new most fits room more same = let under = room.0 refl in omega (arith, under, more)
push_fits {A} (Err e) old new most fits room more same = let is = ap (λ (levels : ArrayVec (Rest A)). length levels.items) same in omega (arith, fits, is)

-- it holds what was entered
push_enters : {A T E : Type 0} (pushed : Result T E) (old new : List (Rest A)) (rest : Rest A) (inside : List Left) (done : Bool) → done ≡ is_ok pushed
    → OnOk pushed (new ≡ old ++ rest ∷ []) → seen_rest rest ∷ [] ≡ inside → done ≡ true
    → map (seen_rest {A = A}) new ≡ map (seen_rest {A = A}) old ++ inside
push_enters {A} (Ok x) old new rest inside done is put of on =
    popped new old rest put ∙ ap (λ inside. map (seen_rest {A = A}) old ++ inside) of
push_enters (Err e) old new rest inside done is put of on = absurd (false≢true (sym is ∙ on))

-- it would pass the depth if there was no room
push_refused : {A T E : Type 0} (pushed : Result T E) (old : List (Rest A)) (rest : Rest A) (inside : List Left) (most : ℕ) (done : Bool)
    → done ≡ is_ok pushed → OnErr pushed (length old ≡ most) → seen_rest rest ∷ [] ≡ inside → done ≡ false
    → most < length (map (seen_rest {A = A}) old ++ inside)
push_refused (Ok x) old rest inside most done is full of off = absurd (false≢true (sym off ∙ is))
push_refused {A} (Err e) old rest inside most done is full of off =
    let lengths = length-append (map (seen_rest {A = A}) old) inside in
    let same = length-map old (seen_rest {A = A}) in
    let one = ap length of in
    omega (arith, lengths, same, one, full)

pub returns-in-Some-clause-fits : goal.returns-in-Some-clause-fits
returns-in-Some-clause-fits g c =
    push_fits c.try_push.result c.args.levels.now c.try_push.new.self most_nested c.requires c.try_push.ensures.variant c.try_push.ensures.len
    c.try_push.ensures.err

pub returns-in-Some-clause-entered : goal.returns-in-Some-clause-entered
returns-in-Some-clause-entered g c =
    push_enters c.try_push.result c.args.levels.now.items c.try_push.new.self.items c.in-Some.rest (entered (seen_value c.args.value.now)) c.is_ok.result
    c.is_ok.ensures.value c.try_push.ensures.ok c.in-Some.ensures

pub returns-in-Some-clause-refused : goal.returns-in-Some-clause-refused
returns-in-Some-clause-refused g c =
    push_refused c.try_push.result c.args.levels.now.items c.in-Some.rest (entered (seen_value c.args.value.now)) most_nested c.is_ok.result
    c.is_ok.ensures.value c.try_push.ensures.full c.in-Some.ensures

pub returns-in-None-clause-entered : goal.returns-in-None-clause-entered
returns-in-None-clause-entered g c = λ on.
    sym (append-nil (map seen_rest c.args.levels.now.items)) ∙ ap (λ inside. map seen_rest c.args.levels.now.items ++ inside) c.in-None.ensures

pub returns-in-None-clause-refused : goal.returns-in-None-clause-refused
returns-in-None-clause-refused g c = λ off. absurd (true≢false off)
