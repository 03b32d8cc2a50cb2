-- The events of an array, given to an emitter one after another.
use Rattle.yaml_c.proofs.Common.{ℕ, ◌+◌, ◌<◌, ◌≤◌, Option, None, Some, drop, length, slice_index_or as get_or, List, [], ◌++◌, ◌∷◌, refl, ◌≡◌, append_assoc}
use Rattle.yaml_c.proofs.Common.{inl, ap, subst, sym, ◌∙◌, at_drop_more, Settings, event_recorded, events_from, State, events_in}
use Rattle.yaml_base.proofs.Common.{suc, ◌⊎◌, length-append, append-nil, inr, arith, map-append, Event}
use Rattle.yaml_tool.proofs.Common.{RefusesAt, LastLine}
use Rattle.std.proofs.lemmas.List.{at_drop_all}
use Rattle.yaml_base.specs.{declared.errors.yaml_error_t.yaml_error_t, scripts.Script.Numbered}
use Rattle.yaml_c.specs.{Emission.HasAllRead, Emission.EmitsRecords, Emission.FlushesAfter, EventRecords.before_others, declared.events.Emission.Emission}
use Rattle.yaml_c.specs.{declared.records.DirectiveRecord.DirectiveRecord, declared.records.EventRecord.EventRecord}
use Rattle.yaml_c.specs.declared.events.Emission.TheVariants.{BadEvent, Done, NoMemory, NoRoom, Refused}
use Rattle.std.specs.Prelude.{Ok}
use Rattle.yaml_emitter.{proofs.Giving.emits_then, specs.Emits.Emits, specs.Emits.IsPromised}
use Rattle.yaml_tool.proofs.RunLemmas.{ended, is_after}
use Rattle.yaml_tool.specs.Runs.{FailsAfter, FlushFails, IsAfter}
use Rattle.yaml_tool.specs.declared.answers.run_answer_t.TheVariants as run

-- an event and its number
abbrev pub numbered : ℕ → Event → Numbered
numbered number event = record { line = number; event = event }

-- so many records were read, and their events given without an error; the last of them had this number
pub record HasGiven (arena : List ℕ) (directives : List DirectiveRecord) (records : List EventRecord) (first : State)
    (number : ℕ) (last : Option ℕ) (now : State) : Type 0 where
  pub given : List Numbered
  pub count : length given ≡ number
  pub parts : events_from 0 arena directives records ≡ given ++ events_from number arena directives (drop number records)
  pub emits : Emits first (events_in given) (Ok tt) now
  pub promised : IsPromised now
  pub ends : LastLine given last now

-- ---- the next record

pub read_next : (arena : List ℕ) (directives : List DirectiveRecord) (records : List EventRecord) (i : ℕ) (d : EventRecord) (event : Event)
    → i < length records → Some event ≡ event_recorded arena directives (get_or records i d)
    → events_from i arena directives (drop i records) ≡ numbered i event ∷ events_from (i + 1) arena directives (drop (i + 1) records)
read_next arena directives records i d event low is =
    let one : suc i ≡ i + 1 = omega arith in
    let rest = drop (i + 1) records in
    at_drop_more (λ (xs : List EventRecord). events_from i arena directives xs) records i d low
    ∙ ap (λ (o : Option Event). before_others i o (events_from (suc i) arena directives rest)) (sym is)
    ∙ ap (λ (n : ℕ). numbered i event ∷ events_from n arena directives rest) one

pub read_all : (arena : List ℕ) (directives : List DirectiveRecord) (records : List EventRecord) (i : ℕ) → length records ≤ i
    → events_from i arena directives (drop i records) ≡ []
read_all arena directives records i overwritten = at_drop_all (λ (xs : List EventRecord). events_from i arena directives xs) records i overwritten

-- the events that were given and those that follow
pub with_next : (all given next others : List Numbered) → all ≡ given ++ next → next ≡ others → all ≡ given ++ others
with_next all given next others parts is = parts ∙ ap (λ (xs : List Numbered). given ++ xs) is

pub with_none : (all given next : List Numbered) → all ≡ given ++ next → next ≡ [] → given ≡ all
with_none all given next parts is = sym (with_next all given next [] parts is ∙ append-nil given)

-- one more was given
pub given_more : (arena : List ℕ) (directives : List DirectiveRecord) (records : List EventRecord) (first before after : State) (i number : ℕ)
    (last : Option ℕ) (d : EventRecord) (event : Event) (has : HasGiven arena directives records first i last before) → number ≡ i → i < length records
    → Some event ≡ event_recorded arena directives (get_or records i d)
    → Emits before (event ∷ []) (Ok tt) after → IsPromised after → HasGiven arena directives records first (i + 1) (Some number) after
given_more arena directives records first before after i number last d event has same low is emits promised =
    let x : Numbered = numbered i event in
    let others = events_from (i + 1) arena directives (drop (i + 1) records) in
    let longer : length (has.given ++ x ∷ []) ≡ length has.given + 1 = length-append has.given (x ∷ []) in
    subst (λ (n : ℕ). HasGiven arena directives records first (i + 1) (Some n) after) (sym same)
    (record {
      given = has.given ++ x ∷ [];
      count = longer ∙ ap (λ (n : ℕ). n + 1) has.count;
      parts =
          with_next (events_from 0 arena directives records) has.given (events_from i arena directives (drop i records)) (x ∷ others) has.parts
          (read_next arena directives records i d event low is)
          ∙ sym (append_assoc has.given (x ∷ []) others);
      emits =
          subst (λ (events : List Event). Emits first events (Ok tt) after) (sym (map-append (λ (n : Numbered). n.event) has.given (x ∷ [])))
          (emits_then has.emits emits);
      promised = promised;
      ends = record { before = has.given; event = event; parts = refl };
    })

-- ---- how an emission ends

-- the call that was given the next event failed
pub refused_next : (arena : List ℕ) (directives : List DirectiveRecord) (records : List EventRecord) (first earlier state : State) (i number : ℕ)
    (last : Option ℕ) (d : EventRecord) (event : Event) (error : yaml_error_t) (has : HasGiven arena directives records first i last earlier)
    → number ≡ i → i < length records → Some event ≡ event_recorded arena directives (get_or records i d)
    → FailsAfter first.given has.given (event ∷ []) error state → RefusesAt first.given (events_from 0 arena directives records) number error state
refused_next arena directives records first earlier state i number last d event error has same low is fails =
    let later = events_from (i + 1) arena directives (drop (i + 1) records) in
    let parts = with_next (events_from 0 arena directives records) has.given (events_from i arena directives (drop i records))
    (numbered i event ∷ later) has.parts (read_next arena directives records i d event low is) in
    subst (λ (n : ℕ). RefusesAt first.given (events_from 0 arena directives records) n error state) (sym same)
    (record { before = has.given; event = event; later = later; parts = sym parts; fails = fails })

-- of the two ways to fail, the flush after all records
only_flush : (set : Settings) (all : List Numbered) (records : List EventRecord) (number : ℕ) (error : yaml_error_t) (state : State)
    → HasAllRead all records → RefusesAt set all number error state ⊎ FlushFails set all number error state
    → RefusesAt set all number error state ⊎ (HasAllRead all records × FlushFails set all number error state)
only_flush set all records number error state whole (inl refused) = inl refused
only_flush set all records number error state whole (inr fails) = inr (whole, fails)

-- the last flush
flushed_all : (set : Settings) (all : List Numbered) (records : List EventRecord) (last : Option ℕ) (emission : Emission) (before after : State)
    → HasAllRead all records → IsAfter set all before → before.error ≡ None → LastLine all last before → IsPromised after
    → FlushesAfter last before emission after → EmitsRecords set all records emission after
flushed_all set all records last Done before after whole was none ends promised h =
    (whole, ended set all last run.Done before after was none ends promised h)
flushed_all set all records last (Refused report error) before after whole was none ends promised h =
    only_flush set all records report error after whole (ended set all last (run.Refused report error) before after was none ends promised h)
flushed_all set all records last (BadEvent report) before after whole was none ends promised h = absurd h
flushed_all set all records last (NoRoom report) before after whole was none ends promised h = absurd h
flushed_all set all records last NoMemory before after whole was none ends promised h = absurd h

-- the end of the array
pub ended_all : (arena : List ℕ) (directives : List DirectiveRecord) (records : List EventRecord) (first before after : State) (i : ℕ)
    (last : Option ℕ) (emission : Emission) (has : HasGiven arena directives records first i last before) → i ≤ length records
    → length records ≤ i → before.error ≡ None → first.events ≡ [] → IsPromised after → FlushesAfter last before emission after
    → EmitsRecords first.given (events_from 0 arena directives records) records emission after
ended_all arena directives records first before after i last emission has within overwritten none new promised h =
    let all = events_from 0 arena directives records in
    let same : has.given ≡ all = with_none all has.given (events_from i arena directives (drop i records)) has.parts
    (read_all arena directives records i overwritten) in
    let count : i ≡ length records = omega arith in
    let whole : HasAllRead all records = ap length (sym same) ∙ has.count ∙ count in
    flushed_all first.given all records last emission before after whole
    (subst (λ (xs : List Numbered). IsAfter first.given xs before) same (is_after new has.emits has.promised)) none
    (subst (λ (xs : List Numbered). LastLine xs last before) same has.ends) promised h

-- the next record has no reading
pub bad_next : (arena : List ℕ) (directives : List DirectiveRecord) (records : List EventRecord) (i : ℕ) (d : EventRecord) (given : List Numbered)
    → i < length records → event_recorded arena directives (get_or records i d) ≡ None
    → events_from 0 arena directives records ≡ given ++ events_from i arena directives (drop i records)
    → events_from 0 arena directives records ≡ given
bad_next arena directives records i d given low bad parts =
    parts
    ∙ at_drop_more (λ (xs : List EventRecord). given ++ events_from i arena directives xs) records i d low
    ∙ ap (λ (o : Option Event). given ++ before_others i o (events_from (suc i) arena directives (drop (i + 1) records))) bad
    ∙ append-nil given
