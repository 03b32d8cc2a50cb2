-- Flushed bytes stay flushed, as events come and the output grows.
use Rattle.yaml_emitter.proofs.Common.{suc, zero, ℕ, ◌≤◌, Option, length, take, true, List, [], ◌++◌, ◌∷◌, ◌⊎◌, refl, ◌≡◌, length-append, take_at, append_assoc}
use Rattle.yaml_emitter.proofs.Common.{inl, inr, ap, subst, sym, ◌∙◌, arith, prefix_same, prefix_then, Event, stream_start, settings_for, bytes_written, pieces}
use Rattle.yaml_emitter.proofs.Common.{flushes, last_flushes, completion, list_layout, IsPrefix, Encoding, Settings, Effective, StaysFlushed}
use Rattle.std.proofs.lemmas.List.{take-append-le}

-- Of no events nothing was flushed.
pub flushed_none : (given : Settings) (all : List Event) (output : List ℕ) → StaysFlushed given all 0 output
flushed_none given all output zero within hands = cc
flushed_none given all output (suc n) within hands = absurd (omega (arith, within))

-- Nor by the stream's start.
pub flushed_first : (given : Settings) (encoding : Option Encoding) (rest : List Event) (output : List ℕ)
    → StaysFlushed given (stream_start encoding ∷ rest) 1 output
flushed_first given encoding rest output (suc (suc n)) within hands = absurd (omega (arith, within))
flushed_first given encoding rest output _ within hands = cc

-- As the output grows.
pub flushed_output : (given : Settings) (all : List Event) (count : ℕ) (before after : List ℕ) → StaysFlushed given all count before
    → IsPrefix before after → StaysFlushed given all count after
flushed_output given all count before after h grows n within hands = prefix_then (h n within hands) grows

-- As the list grows.
same_bytes : (a b : Effective) (first second : List Event) (n : ℕ) → a ≡ b → take n first ≡ take n second
    → bytes_written a (pieces a first n) ≡ bytes_written b (pieces b second n)
same_bytes a b first second n settings events =
    ap (λ s. bytes_written s (pieces s first n)) settings ∙ ap (λ events. bytes_written b (take n (list_layout b (completion events)))) events

pub flushed_grown : (given : Settings) (all more : List Event) (count : ℕ) (output : List ℕ) → count ≤ length all
    → settings_for given (all ++ more) ≡ settings_for given all
    → StaysFlushed given all count output → StaysFlushed given (all ++ more) count output
flushed_grown given all more count output within settings h n less hands =
    let events : take n all ≡ take n (all ++ more) = sym (take-append-le n all more (omega (arith, within, less))) in
    subst (λ (bytes : List ℕ). IsPrefix bytes output)
    (same_bytes (settings_for given all) (settings_for given (all ++ more)) all (all ++ more) n (sym settings) events)
    (h n less (ap last_flushes events ∙ hands))

-- As one event more is written.
pub last_flushes-append : (prefix : List Event) (event : Event) → last_flushes (prefix ++ event ∷ []) ≡ flushes event
last_flushes-append (x ∷ y ∷ more) event = last_flushes-append (y ∷ more) event
last_flushes-append _ event = refl

last_or_before : (n m : ℕ) → n ≤ suc m → (n ≤ m) ⊎ (n ≡ suc m)
last_or_before zero m h = inl (omega arith)
last_or_before (suc zero) zero h = inr refl
last_or_before (suc (suc n)) zero h = absurd (omega (arith, h))
last_or_before (suc n) (suc m) h =
    elim (last_or_before n m (omega (arith, h))) [ inl less ↦ inl (omega (arith, less)) | inr same ↦ inr (ap (λ n. suc n) same) ]

pub flushed_more : (given : Settings) (all prefix : List Event) (event : Event) (rest : List Event) (before after : List ℕ) → prefix ++ event ∷ rest ≡ all
    → StaysFlushed given all (length prefix) before → IsPrefix before after
    → (flushes event ≡ true
    → bytes_written (settings_for given all) (pieces (settings_for given all) all (length (prefix ++ event ∷ []))) ≡ after)
    → StaysFlushed given all (length (prefix ++ event ∷ [])) after
flushed_more given all prefix event rest before after parts h grows now n within hands = by (last_or_before n (length prefix) (omega (arith, within, count)))
  where
    longer : List Event
    longer = prefix ++ event ∷ []

    count : length longer ≡ suc (length prefix)
    count = length-append prefix (event ∷ []) ∙ omega arith

    s : Effective
    s = settings_for given all

    by : (n ≤ length prefix) ⊎ (n ≡ suc (length prefix)) → IsPrefix (bytes_written s (pieces s all n)) after
    by (inl less) = prefix_then (h n less hands) grows
    by (inr is) =
        let whole : n ≡ length longer = is ∙ sym count in
        let events : take n all ≡ longer =
        ap (λ n. take n all) whole ∙ ap (take (length longer)) (sym (append_assoc prefix (event ∷ []) rest ∙ parts))
        ∙ take_at longer rest (length longer) refl in
        prefix_same (bytes_written s (pieces s all n)) after
        (ap (λ n. bytes_written s (pieces s all n)) whole
        ∙ now (sym (last_flushes-append prefix event) ∙ ap last_flushes (sym events) ∙ hands))
