-- A start that waits when the stream is ended: a third event decides what is refused.
use Rattle.yaml_writer.proofs.Common.{suc, zero, ℕ, ◌<◌, ◌≤◌, IfErr, OnOk, None, Some, Result, Err, Ok, drop, length, take, Bool, true, List, [], ◌++◌, ◌∷◌}
use Rattle.yaml_writer.proofs.Common.{refl, ◌≡◌, length-append, append-nil, append_assoc, ap, subst, sym, ◌∙◌, arith, nil_from_length, Event, stream_end}
use Rattle.yaml_writer.proofs.Common.{document_end, settings_for, list_layout, written, IsAccepted, Settings, Effective, ends_last, some_from_result}
use Rattle.yaml_writer.proofs.Common.{HasRoomAndMemory, Promised, StandsAfter, State, none_from_result, result_of_error, RefusesOne, PassesLimit}
use Rattle.yaml_writer.proofs.Common.{IsUnfinishedBy, closing_by}
use Rattle.yaml_base.specs.{Output.bytes_written, Refusal.IsAcceptedPrefix, declared.errors.yaml_error_t.yaml_error_t}
use Rattle.yaml_emitter.proofs.standing.{Standing.settings_grown, StandingEnds.whole_accepted, StandingPromises.most_few}
use Rattle.yaml_emitter.specs.Promises.{begins_with_start}
use Rattle.yaml_writer.proofs.{Finishing.refuses_one, MissingNodes.misses, Overflow.overflowed}

-- A list that ends after another's last element but one.
shorter : {A : Type 0} (prefix later all : List A) (last : A) → prefix ++ later ≡ all ++ last ∷ [] → (later ≡ [] → ⊥)
    → (rest : List A) × (prefix ++ rest ≡ all)
shorter [] later all last parts some = (all, refl)
shorter (x ∷ prefix) later [] last parts some = absurd (some (nil_from_length later (omega (arith, ap length parts, length-append prefix later))))
shorter (x ∷ prefix) later (y ∷ all) last parts some =
    let same : x ≡ y = cc in
    let less = shorter prefix later all last (ap (drop 1) parts) some in
    (less.0, ap (λ l. x ∷ l) less.1 ∙ ap (λ e. e ∷ all) same)

drop_nil : {A : Type 0} (n : ℕ) (none : List A) → none ≡ [] → drop n none ≡ []
drop_nil zero none is = is
drop_nil (suc n) [] is = refl
drop_nil (suc n) (x ∷ rest) is = cc

-- an error that would have stayed wasn't there
pub no_earlier : (before after : State) → ((error : yaml_error_t) → before.error ≡ Some error → after.error ≡ Some error) → after.error ≡ None
    → (error : yaml_error_t) → before.error ≡ Some error → ⊥
no_earlier before after stays none error was = let is = sym none ∙ stays error was in cc

pub third_ok : {P : Type 0} (after : State) (answer : Result (Unit {0}) yaml_error_t) → answer ≡ result_of_error after.error → (after.error ≡ None → P)
    → OnOk answer P
third_ok after (Ok done) is ends = ends (none_from_result after.error is)
third_ok after (Err error) is ends = tt

module _ (implicit : Bool) where
  -- The events that end the stream.
  abbrev closing : List Event
  closing = closing_by implicit

  -- The last event, once a third event was given.
  abbrev closed_twice : List Event
  closed_twice = document_end implicit ∷ stream_end ∷ stream_end ∷ []

  -- The last event is no start.
  tail_none : (n : ℕ) → begins_with_start (drop n closed_twice) ≡ true → drop n closed_twice ≡ []
  tail_none (suc (suc (suc n))) starts = drop_nil n [] refl
  tail_none _ starts = cc

  -- so no start is among the last three
  few_none : (all : List Event) (n : ℕ) → begins_with_start (drop n (all ++ closed_twice)) ≡ true → length (drop n (all ++ closed_twice)) ≤ 3
      → drop n (all ++ closed_twice) ≡ []
  few_none [] n starts few = tail_none n starts
  few_none (event ∷ all) zero starts few = absurd (omega (arith, few, length-append all closed_twice))
  few_none (event ∷ all) (suc n) starts few = few_none all n starts few

  module _ (canonical : Bool) (all : List Event) (unaccepted : IsAccepted canonical (all ++ closing) → ⊥) where
    -- If the events are no stream, no stream begins with them.
    begins_none : IsAcceptedPrefix canonical (all ++ closing) → ⊥
    begins_none begins =
        let same = append_assoc all (document_end implicit ∷ []) (stream_end ∷ []) in
        unaccepted
        (subst (IsAccepted canonical) same
        (whole_accepted canonical (all ++ document_end implicit ∷ []) (subst (IsAcceptedPrefix canonical) (sym same) begins)))

    -- nor with one event more
    pub accepts_none : IsAccepted canonical ((all ++ closing) ++ stream_end ∷ []) → ⊥
    accepts_none accepted = begins_none (record { rest = stream_end ∷ []; accepted = accepted })

    -- the refused event is none of the third call
    pub refuses_shorter : (error : yaml_error_t) → RefusesOne canonical ((all ++ closing) ++ stream_end ∷ []) error
        → RefusesOne canonical (all ++ closing) error
    refuses_shorter error one = by one.later refl
      where
        at : (later : List Event) → one.prefix ++ one.event ∷ later ≡ all ++ closing → RefusesOne canonical (all ++ closing) error
        at later parts = record {
          prefix = one.prefix;
          event = one.event;
          later = later;
          parts = parts;
          begins = one.begins;
          refusal = one.refusal;
        }

        is_all : (rest : List Event) → one.prefix ++ rest ≡ all ++ closing → one.later ≡ [] → one.prefix ≡ all ++ closing
        is_all rest parts none =
            let whole : one.prefix ++ one.event ∷ [] ≡ (all ++ closing) ++ stream_end ∷ [] = ap (λ later. one.prefix ++ one.event ∷ later) (sym none)
            ∙ one.parts in
            let nothing : rest ≡ [] =
            nil_from_length rest
            (omega (
              arith,
              ap length whole,
              ap length parts,
              length-append one.prefix (one.event ∷ []),
              length-append one.prefix rest,
              length-append (all ++ closing) (stream_end ∷ []),
            )) in
            sym (append-nil one.prefix) ∙ ap (λ rest. one.prefix ++ rest) (sym nothing) ∙ parts

        by : (later : List Event) → one.later ≡ later → RefusesOne canonical (all ++ closing) error
        by [] none =
            let before = shorter one.prefix (one.event ∷ one.later) (all ++ closing) stream_end one.parts (λ is. cc) in
            absurd (begins_none (subst (IsAcceptedPrefix canonical) (is_all before.0 before.1 none) one.begins))
        by (x ∷ later) some =
            let longer = one.prefix ++ one.event ∷ [] in
            let before =
            shorter longer one.later (all ++ closing) stream_end (append_assoc one.prefix (one.event ∷ []) one.later ∙ one.parts)
            (λ none. let is = sym none ∙ some in cc) in
            at before.0 (sym (append_assoc one.prefix (one.event ∷ []) before.0) ∙ before.1)

  -- the first event decides the settings
  settings_more : (given : Settings) (all more : List Event) → settings_for given ((all ++ closing) ++ more) ≡ settings_for given (all ++ closing)
  settings_more given [] more = settings_grown given (document_end implicit) [] (stream_end ∷ []) closing more refl
  settings_more given (event ∷ all) more = settings_grown given event [] (all ++ closing) (event ∷ (all ++ closing)) more refl

  -- nor do their bytes pass the limit by the third event
  passes_shorter : (given : Settings) (all : List Event) → (IsAccepted given.canonical (all ++ closing) → ⊥)
      → PassesLimit given ((all ++ closing) ++ stream_end ∷ []) → PassesLimit given (all ++ closing)
  passes_shorter given all unaccepted passes =
      let before = shorter passes.prefix passes.later (all ++ closing) stream_end passes.parts not_all in
      record {
        prefix = passes.prefix;
        later = before.0;
        parts = before.1;
        more = passes.more;
        accepted = passes.accepted;
        passed =
            subst (λ (s : Effective). given.limit < length (bytes_written s (take (length passes.prefix) (list_layout s (passes.prefix ++ passes.more)))))
            (settings_more given all (stream_end ∷ [])) passes.passed;
        whole = λ accepted. absurd (unaccepted accepted);
      }
    where
      not_all : passes.later ≡ [] → ⊥
      not_all none =
          let whole : passes.prefix ≡ (all ++ closing) ++ stream_end ∷ [] =
          sym (append-nil passes.prefix) ∙ ap (λ later. passes.prefix ++ later) (sym none) ∙ passes.parts in
          begins_none given.canonical all unaccepted
          (record {
            rest = stream_end ∷ passes.more;
            accepted =
                subst (IsAccepted given.canonical)
                (ap (λ prefix. prefix ++ passes.more) whole ∙ append_assoc (all ++ closing) (stream_end ∷ []) passes.more) passes.accepted;
          })

  -- the third event is answered with an error
  pub third_fails : (given : Settings) (all : List Event) (state : State) → (IsAccepted given.canonical (all ++ closing) → ⊥)
      → Promised given ((all ++ closing) ++ stream_end ∷ []) state → state.error ≡ None → ⊥
  third_fails given all state unaccepted promised none =
      let same = append_assoc all closing (stream_end ∷ []) in
      let held =
      let waits = promised.held none in
      let n = written ((all ++ closing) ++ stream_end ∷ []) in
      let is : state.held ≡ drop n (all ++ closed_twice) = waits.held ∙ ap (drop n) same in
      let few : length (drop n (all ++ closed_twice)) ≤ 3 = omega (arith, waits.few, most_few state.held, ap length is) in
      is ∙ few_none all n (ap begins_with_start (sym is) ∙ waits.starts) few in
      accepts_none given.canonical all unaccepted ((promised.ends (ends_last (all ++ closing)) (subst HasRoomAndMemory (sym none) tt)).1 (none, held))

  -- The meaning of its error.
  pub third_unfinished : (before after : State) (error : yaml_error_t) → ((earlier : yaml_error_t) → before.error ≡ Some earlier → ⊥)
      → (IsAccepted before.given.canonical (before.events ++ closing) → ⊥)
      → StandsAfter before.given ((before.events ++ closing) ++ stream_end ∷ []) after
      → Promised before.given ((before.events ++ closing) ++ stream_end ∷ []) after
      → after.error ≡ Some error → IsUnfinishedBy implicit before error
  third_unfinished before after error none unaccepted stands promised is = record {
    first = λ earlier was. absurd (none earlier was);
    full = λ full.
        passes_shorter before.given before.events unaccepted
        (overflowed before.given ((before.events ++ closing) ++ stream_end ∷ []) after stands.so (is ∙ ap (λ (e : yaml_error_t). Some e) full));
    refused = λ refusal.
        let given = before.given in
        let all = before.events ++ closing in
        let one =
        refuses_shorter given.canonical before.events unaccepted error
        (refuses_one given (all ++ stream_end ∷ []) error after (promised.refused error is refusal)) in
        record {
          unaccepted = unaccepted;
          named = one;
          missing = λ node. misses given.canonical all (subst (RefusesOne given.canonical all) node one);
        };
  }

  -- by the answer of the third call
  pub third_err : (before after : State) (answer : Result (Unit {0}) yaml_error_t) → answer ≡ result_of_error after.error
      → ((error : yaml_error_t) → after.error ≡ Some error → IsUnfinishedBy implicit before error)
      → IfErr answer (λ error. IsUnfinishedBy implicit before error)
  third_err before after (Ok done) is ends = tt
  third_err before after (Err error) is ends = ends error (some_from_result after.error error is)
