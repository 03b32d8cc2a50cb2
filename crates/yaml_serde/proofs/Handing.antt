-- The bytes of a document that are handed on.
use Rattle.yaml_serde.proofs.Common.{ℕ, Option, true, false, List, ◌++◌, refl, ◌≡◌, append_assoc, ap, subst, sym, ◌∙◌}
use Rattle.yaml_serde.proofs.Common.{Appends, Err, Ok, OnOk, Result, Event, State, is_kept, WriterState}
use Rattle.yaml_base.specs.Prefix.{IsPrefix}
use Rattle.std.proofs.Math.Path.{subst₂}
use Rattle.yaml_emitter.{proofs.Common.with_all_taken, specs.State.bytes_taken}
use Rattle.yaml_pen.specs.Page.{output_left}
use Rattle.yaml_base.specs.Sinks.{AppendsFirst}
use Rattle.yaml_serde.specs.Outlets.{HandsOn, has_failed}
use Rattle.yaml_serde.specs.Variants.{GivesAndSends}
use Rattle.yaml_serde.specs.declared.error.Error.{Error}
use Rattle.yaml_base.proofs.Common.{inl, inr, ◌⊎◌}
use Rattle.yaml_base.specs.declared.errors.yaml_error_t.{yaml_error_t}
use Rattle.yaml_writer.proofs.Common.{GaveEvent}
use Rattle.yaml_serde.specs.declared.outlet.Outlet.{Outlet}
use Rattle.std.specs.declared.io.Error as io
use Rattle.yaml_serde.specs.declared.outlet.Handing.{Handing}
use Rattle.yaml_serde.specs.declared.outlet.Handing.TheVariants.{Kept, Open, Failed}
use Rattle.yaml_writer.{proofs.Taken.taken_and_left, specs.WasGiven.EmitsTaking}
use Rattle.std.proofs.KnownBytes.{Appends-trans}

-- ---- known bytes

-- a list before a prefix
pub prefix_after : (xs ys zs : List ℕ) → IsPrefix ys zs → IsPrefix (xs ++ ys) (xs ++ zs)
prefix_after xs ys zs is =
    record {
      rest = is.rest;
      parts = append_assoc xs ys is.rest ∙ ap (λ (l : List ℕ). xs ++ l) is.parts;
    }

-- they grow by a list, and then by a beginning of another
pub appends_first : (a b c : Option (List ℕ)) (x y : List ℕ) → Appends a b x → AppendsFirst b c y → AppendsFirst a c (x ++ y)
appends_first a b c x y whole first =
    (x ++ first.0, prefix_after x first.0 y first.1, Appends-trans a b c x first.0 whole first.2)

-- ---- the output

-- the bytes that were taken, and a beginning of the rest, begin the output
pub left_begins : {start emitter : State} {events : List Event} {taken : List ℕ} (first : List ℕ) → EmitsTaking start events taken emitter
    → IsPrefix first (output_left emitter.page) → IsPrefix ((bytes_taken start ++ taken) ++ first) emitter.page.output
left_begins {start} {emitter} {events} {taken} first emits is =
    subst₂ (λ (before all : List ℕ). IsPrefix (before ++ first) all) emits.taken (taken_and_left emitter)
    (prefix_after (bytes_taken emitter) first (output_left emitter.page) is)

-- ---- whether a sink failed

-- a sink that didn't
pub not_failed : (handing : Handing) → ((error : io.Error) → handing ≡ Failed error → ⊥) → has_failed handing ≡ false
not_failed Kept none = refl
not_failed Open none = refl
not_failed (Failed error) none = absurd (none error refl)

-- a sink that failed is one
pub failed_is_sent : (handing : Handing) → has_failed handing ≡ true → is_kept handing ≡ false
failed_is_sent Kept failed = cc
failed_is_sent Open failed = refl
failed_is_sent (Failed error) failed = refl

-- ---- handing on

module _ {W : Type 0} (contents : W → Option (List ℕ)) (old : Outlet W) (before : WriterState) where
  -- the bytes stay with the writer
  pub hands_kept : old.handing ≡ Kept → HandsOn contents old.handing old before (Ok tt) old before
  hands_kept is =
      subst (λ (handing : Handing). HandsOn contents handing old before (Ok tt) old before) (sym is)
      (refl, record { outlet = refl; writer = refl })

-- the bytes that were handed on are taken; or none were
taken_or_not : {W : Type 0} (contents : W → Option (List ℕ)) (handing : Handing) (old : Outlet W) (before : WriterState) (new : Outlet W)
    (after : WriterState) → HandsOn contents handing old before (Ok tt) new after
    → (after ≡ before) ⊎ (after ≡ record before { emitter = with_all_taken before.emitter })
taken_or_not contents Kept old before new after hands = inl hands.1.writer
taken_or_not contents (Failed error) old before new after hands = inl hands.1.writer
taken_or_not contents Open old before new after hands = inr hands.writer

-- an event was given, and some bytes were handed on
pub gives_and_sends : {W : Type 0} (contents : W → Option (List ℕ)) (old new : Outlet W) (before given after : WriterState) (event : Event)
    (called : Result (Unit {0}) yaml_error_t) (answer : Result (Unit {0}) Error) → (called ≡ Ok tt → GaveEvent before event (Ok tt) given)
    → OnOk answer (called ≡ Ok tt) → (called ≡ Ok tt → HandsOn contents old.handing old given answer new after)
    → OnOk answer (GivesAndSends before event after)
gives_and_sends contents old new before given after event called (Err error) gave ok hands = tt
gives_and_sends contents old new before given after event called (Ok done) gave ok hands =
    (given, gave ok, taken_or_not contents old.handing old given new after (hands ok))
