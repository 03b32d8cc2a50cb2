-- The limit is exceeded only if the bytes of the events pass it.
use Rattle.yaml_writer.proofs.Common.{ℕ, ◌<◌, Option, Some, length, take, List, [], ◌++◌, ◌∷◌, ◌≡◌, append-nil, ap, subst, sym, arith, Event, settings_for}
use Rattle.yaml_writer.proofs.Common.{list_layout, written, IsAccepted, Settings, Effective, State, PassesLimit}
use Rattle.yaml_base.proofs.Common.{Piece}
use Rattle.yaml_emitter.proofs.Common.{BeginsOutput, OutputBegins, HoldsPiecesWith, holds_before, holds_part, StandsCut, StandsStopped, at_event}
use Rattle.yaml_emitter.proofs.Common.{between_events, StateStands, machine_of, IsUncut}
use Rattle.yaml_base.specs.declared.errors.{yaml_error_t.yaml_error_t, yaml_error_t.TheVariants.Memory, yaml_error_t.TheVariants.WriteError}
use Rattle.yaml_emitter.proofs.standing.{Room.more_bytes, StandingFull.promises_full, StandingPromises.stands_failed, StandingPromises.promises_output}
use Rattle.yaml_emitter.specs.Promises.{StopsWriting, stops_before, stops_within, FillsLimit}
use Rattle.yaml_pen.specs.Page.{Page, encoded}

not_memory : WriteError ≡ Memory → ⊥
not_memory is = cc

-- The encoding of a page that holds bytes is the stream's

held_encoding : (prefix : List Event) (s : Effective) (pieces : List Piece) (error : Option yaml_error_t) (page : Page)
    → HoldsPiecesWith error s prefix pieces page → 0 < length (encoded page) → page.encoding ≡ Some s.encoding
held_encoding [] s pieces error page h some =
    let none : length (encoded page) ≡ 0 = ap (λ (p : Page). length (encoded p)) h in absurd (omega (arith, some, none))
held_encoding (x ∷ prefix) s pieces error page h some = h.0.encoding

cut_encoding : (given : Settings) (all : List Event) (state : State) → StandsCut given all WriteError (machine_of state)
    → state.page.encoding ≡ Some (settings_for given all).encoding
cut_encoding given all state h =
    elim h.page [ holds_before memory page ↦ absurd (not_memory memory) | holds_part begun page returned least most ↦ page.encoding ]

stopped_encoding : (given : Settings) (all : List Event) (state : State) → StandsStopped given all WriteError (machine_of state)
    → 0 < length (encoded state.page)
    → state.page.encoding ≡ Some (settings_for given all).encoding
stopped_encoding given all state (at_event cut) some = cut_encoding given all state cut
stopped_encoding given all state (between_events other) some =
    held_encoding (take (written other.before) other.before) (settings_for given all) _ (Some WriteError) state.page other.page some

passed_by : (given : Settings) (all prefix : List Event) (count : ℕ) (state : State) → state.page.encoding ≡ Some (settings_for given all).encoding
    → given.limit < length (encoded state.page) → (IsAccepted given.canonical all → IsUncut given all → ⊥) → BeginsOutput given all prefix count state
    → PassesLimit given all
passed_by given all prefix count state is passes whole begun =
    let s = settings_for given all in
    record {
      prefix = prefix;
      later = begun.later;
      parts = begun.parts;
      more = begun.more;
      accepted = begun.accepted;
      passed = omega (arith, passes, more_bytes s state.page (take (length prefix) (list_layout s (prefix ++ begun.more))) is begun.most);
      whole = whole;
    }

stopped_by : (given : Settings) (all prefix : List Event) (state : State) → state.page.encoding ≡ Some (settings_for given all).encoding
    → given.limit < length (encoded state.page) → (IsAccepted given.canonical all → IsUncut given all → ⊥) → StopsWriting given all prefix state
    → PassesLimit given all
stopped_by given all prefix state is passes whole (stops_before begun) = passed_by given all prefix (length prefix) state is passes whole begun
stopped_by given all prefix state is passes whole (stops_within event begun) =
    passed_by given all (prefix ++ event ∷ []) (length prefix) state is passes whole begun

-- an emitter that answers the write error was given events whose bytes pass the limit
pub overflowed : (given : Settings) (all : List Event) (state : State) → StateStands given all state → state.error ≡ Some WriteError → PassesLimit given all
overflowed given all state stands is =
    let stops = subst (λ (error : Option yaml_error_t). OutputBegins given all error state) is (promises_output given all state stands) in
    let encoding = stopped_encoding given all state (stands_failed given all state WriteError stands is) (omega (arith, fills.passed)) in
    stopped_by given all stops.0 state encoding fills.passed whole stops.1
  where
    fills : FillsLimit given all state
    fills = promises_full given all state stands is

    whole : IsAccepted given.canonical all → IsUncut given all → ⊥
    whole accepted uncut =
        let same = sym (append-nil all) in
        fills.unfit (record { more = []; accepted = subst (IsAccepted given.canonical) same accepted; uncut = subst (IsUncut given) same uncut })
