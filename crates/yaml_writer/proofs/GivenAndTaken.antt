-- The events that several calls gave to a writer, and the bytes that they took from it.
use Rattle.yaml_writer.proofs.Common.{ℕ, Option, Result, Err, Ok, length, List, [], ◌++◌, refl, ◌≡◌, append-nil, append_assoc, inr, ap, subst, sym, ◌∙◌}
use Rattle.yaml_writer.proofs.Common.{Event, State}
use Rattle.yaml_writer.proofs.Common.{output_left, none_from_result, some_from_result, PassedEvents, WriterState}
use Rattle.std.proofs.Math.Path.{subst₃}
use Rattle.std.specs.Io.KnownBytes.{Appends}
use Rattle.yaml_base.specs.{Sinks.AppendsFirst, declared.errors.yaml_error_t.yaml_error_t}
use Rattle.yaml_emitter.{proofs.Common.with_all_taken, specs.Emits.Emits, specs.State.bytes_taken}
use Rattle.yaml_writer.proofs.OpenLevels.{gave_passed}
use Rattle.yaml_writer.proofs.Taken.{takes_rest}
use Rattle.yaml_base.specs.Settings.{Settings}
use Rattle.yaml_writer.specs.{Failing.FailedHaving, Writing.Finishes, Writing.IsStream, Writing.closing}
use Rattle.yaml_writer.specs.WasGiven.{EmitsTaking, BeginsNext, NextUnsent, IsBare, WasGiven, WroteTaking, between}

-- nothing was given, and nothing taken
pub took_nothing : (writer : WriterState) → IsBare writer → WroteTaking writer [] [] writer
took_nothing writer bare =
    record {
      emits = record { given = refl; appended = sym (append-nil writer.emitter.events); taken = sym (append-nil (bytes_taken writer.emitter)) };
      canonical = refl;
      levels = refl;
      bare = bare;
    }

-- without a call that takes
pub emits_untaken : {before after : State} {events : List Event} {answer : Result (Unit {0}) yaml_error_t} → Emits before events answer after
    → EmitsTaking before events [] after
emits_untaken {before} emits = record { given = emits.set.given; appended = emits.set.events; taken = emits.taken ∙ sym (append-nil (bytes_taken before)) }

pub emits_taking_then : {before middle after : State} {first second : List Event} {one_bytes other_bytes : List ℕ}
    → EmitsTaking before first one_bytes middle → EmitsTaking middle second other_bytes after
    → EmitsTaking before (first ++ second) (one_bytes ++ other_bytes) after
emits_taking_then {before} {middle} {after} {first} {second} {one_bytes} {other_bytes} one other =
    record {
      given = other.given ∙ one.given;
      appended = other.appended ∙ ap (λ (events : List Event). events ++ second) one.appended ∙ append_assoc before.events first second;
      taken =
          other.taken ∙ ap (λ (bytes : List ℕ). bytes ++ other_bytes) one.taken
          ∙ append_assoc (bytes_taken before) one_bytes other_bytes;
    }

pub taking_then : (before middle after : WriterState) (first second : List Event) (one_bytes other_bytes : List ℕ)
    → WroteTaking before first one_bytes middle → WroteTaking middle second other_bytes after
    → WroteTaking before (first ++ second) (one_bytes ++ other_bytes) after
taking_then before middle after first second one_bytes other_bytes one other =
    record {
      emits = emits_taking_then one.emits other.emits;
      canonical = other.canonical ∙ one.canonical;
      levels = other.levels ∙ one.levels;
      bare = other.bare;
    }

-- and then one that doesn't take
pub emits_taking_more : {before middle after : State} {first second : List Event} {bytes : List ℕ} {answer : Result (Unit {0}) yaml_error_t}
    → EmitsTaking before first bytes middle → Emits middle second answer after → EmitsTaking before (first ++ second) bytes after
emits_taking_more {before} {middle} {after} {first} {second} {bytes} one other =
    subst (λ (b : List ℕ). EmitsTaking before (first ++ second) b after) (append-nil bytes) (emits_taking_then one (emits_untaken other))

pub took_none : (before after : WriterState) (events : List Event) → WasGiven before events after → WroteTaking before events [] after
took_none before after events wrote =
    record {
      emits = emits_untaken wrote.emits;
      canonical = wrote.canonical;
      levels = wrote.levels;
      bare = wrote.bare;
    }

pub taking_same : (before after : WriterState) (events same : List Event) (bytes alike : List ℕ) → events ≡ same → bytes ≡ alike
    → WroteTaking before events bytes after → WroteTaking before same alike after
taking_same before after events same bytes alike is are wrote =
    subst (λ (e : List Event). WroteTaking before e alike after) is (subst (λ (b : List ℕ). WroteTaking before events b after) are wrote)

-- the next document is begun, and all output is taken
pub begun_taken : (before middle after : WriterState) (bytes : List ℕ) (held holds : Option (List ℕ))
    → IsBare before → PassedEvents before between (Ok tt) middle → bytes ≡ output_left middle.emitter.page
    → after ≡ record middle { emitter = with_all_taken middle.emitter } → Appends held holds bytes → BeginsNext before held after holds
begun_taken before middle after bytes held holds bare passed left kept sends =
    record {
      bytes = bytes;
      sends = sends;
      wrote = record {
        emits =
            subst (λ (b : List ℕ). EmitsTaking before.emitter between b after.emitter) (sym left)
            (subst (λ (w : WriterState). EmitsTaking before.emitter between (output_left middle.emitter.page) w.emitter) (sym kept)
            (emits_taking_then (emits_untaken passed.emits) (takes_rest middle.emitter)));
        canonical = ap (λ (w : WriterState). w.canonical) kept ∙ ap (λ (w : WriterState). w.canonical) passed.rest;
        levels = ap (λ (w : WriterState). w.levels) kept ∙ ap (λ (w : WriterState). w.levels) passed.rest;
        bare = (
          ap (λ (w : WriterState). w.anchor) kept ∙ ap (λ (w : WriterState). w.anchor) passed.rest ∙ bare.0,
          ap (λ (w : WriterState). w.tag) kept ∙ ap (λ (w : WriterState). w.tag) passed.rest ∙ bare.1,
        );
      };
      whole = (
        ap (λ (w : WriterState). w.emitter.error) kept ∙ none_from_result middle.emitter.error passed.emits.answered,
        ap (λ (w : WriterState). w.emitter.page.taken) kept ∙ ap (λ (w : WriterState). length w.emitter.page.output) (sym kept),
      );
    }

-- or the sink failed, which was given all that was left
pub begun_unsent : (before middle : WriterState) (held holds : Option (List ℕ)) → IsBare before → PassedEvents before between (Ok tt) middle
    → AppendsFirst held holds (output_left middle.emitter.page) → NextUnsent before held middle holds
begun_unsent before middle held holds bare passed sends =
    record {
      offered = output_left middle.emitter.page;
      sends = sends;
      gave = gave_passed before middle (Ok tt) bare passed;
      then = with_all_taken middle.emitter;
      wrote = emits_taking_then (emits_untaken passed.emits) (takes_rest middle.emitter);
      whole = (none_from_result middle.emitter.error passed.emits.answered, refl);
    }

-- the writer fails
pub begun_not : (before after : WriterState) (error : yaml_error_t) → IsBare before → PassedEvents before between (Err error) after
    → FailedHaving before between error after
begun_not before after error bare passed =
    record { gave = gave_passed before after (Err error) bare passed; is_error = inr (some_from_result after.emitter.error error passed.emits.answered) }

-- the stream that an emitter finishes, by its settings, its events and the bytes that were taken
pub stream_finished : (emitter : State) (bytes : List ℕ) {given : Settings} {events : List Event} {sent : List ℕ} → emitter.given ≡ given
    → emitter.events ≡ events → bytes_taken emitter ≡ sent → Finishes emitter bytes → IsStream given (events ++ closing) (sent ++ bytes)
stream_finished emitter bytes is are taken finishes =
    subst₃ (λ (given : Settings) (all : List Event) (sent : List ℕ). IsStream given (all ++ closing) (sent ++ bytes)) is are taken finishes
