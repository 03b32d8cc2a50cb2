-- The results of the function over events.
use Rattle.std.specs.Prelude.{◌≡◌, ◌⊎◌, ⊤, ◌<◌, ℕ, ℤ, Option, None, Some, List, ◌++◌, length}
use Rattle.yaml_base.specs.Settings.{Settings}
use Rattle.yaml_base.specs.scripts.Script.{Numbered}
use Rattle.yaml_base.specs.declared.errors.yaml_error_t.{yaml_error_t}
use Rattle.yaml_base.specs.declared.errors.yaml_error_t.TheVariants as errors
use Rattle.yaml_emitter.specs.State.{State}
use Rattle.yaml_tool.specs.Runs.{EmitsScript, FlushFails, FlushesLast, IsAfter, RefusesAt}
use Rattle.yaml_tool.specs.declared.answers.run_answer_t.TheVariants as run
use Rattle.yaml_c.specs.Answers.{CallResults, CopiesToCaller, nothing_reported, results_done, results_failed}
use Rattle.yaml_c.specs.EventRecords.{events_from}
use Rattle.yaml_c.specs.GivenSettings.{settings_given}
use Rattle.yaml_c.specs.declared.records.DirectiveRecord.{DirectiveRecord}
use Rattle.yaml_c.specs.declared.records.EventRecord.{EventRecord}
use Rattle.yaml_c.specs.declared.results.CallResult.{CallResult}
use Rattle.yaml_c.specs.declared.settings.EmitterSettings.{EmitterSettings}
use Rattle.yaml_c.specs.declared.events.Emission.{Emission}
use Rattle.yaml_c.specs.declared.events.Emission.TheVariants.{Done, Refused, BadEvent, NoRoom, NoMemory}

-- ---- the emitter that was given an array's events, up to the first that has no reading

-- each record of the array has a reading
abbrev pub HasAllRead : List Numbered → List EventRecord → Type 0
HasAllRead all records = length all ≡ length records

-- the record of this number is the first that has no reading; the events before it were given, and no call returned an error
pub record StopsAtBad (given : Settings) (all : List Numbered) (records : List EventRecord) (number : ℕ) (state : State) : Type 0 where
  pub first : number ≡ length all
  pub within : number < length records
  pub after : IsAfter given all state
  pub no_error : state.error ≡ None

-- there was no memory to copy the texts of the record of this number; the events before it were given, and no call returned an error
pub record StopsForRoom (given : Settings) (all : List Numbered) (records : List EventRecord) (number : ℕ) (state : State) : Type 0 where
  pub earlier : List Numbered
  pub later : List Numbered
  pub parts : all ≡ earlier ++ later
  pub first : number ≡ length earlier
  pub within : number < length records
  pub after : IsAfter given earlier state
  pub no_error : state.error ≡ None

-- True of the emitter after an answer. The last flush matters only if all events were given.
abbrev pub EmitsRecords : Settings → List Numbered → List EventRecord → Emission → State → Type 0
EmitsRecords given all records Done state = HasAllRead all records × EmitsScript given all state
EmitsRecords given all records (Refused number error) state =
    RefusesAt given all number error state ⊎ (HasAllRead all records × FlushFails given all number error state)
EmitsRecords given all records (BadEvent number) state = StopsAtBad given all records number state
EmitsRecords given all records (NoRoom number) state = StopsForRoom given all records number state
EmitsRecords given all records NoMemory state = ⊤

-- The effect of the last flush, by the number of the last event.
abbrev pub FlushesAfter : Option ℕ → State → Emission → State → Type 0
FlushesAfter last before Done after = FlushesLast last before run.Done after
FlushesAfter last before (Refused report error) after = FlushesLast last before (run.Refused report error) after
FlushesAfter last before emission after = ⊥

-- ---- the results

-- The numbers of the errors: enum yaml_error of the header.
abbrev pub error_number : yaml_error_t → ℕ
error_number errors.ExpectedStreamStart = 1
error_number errors.ExpectedDocumentStart = 2
error_number errors.ExpectedDocumentEnd = 3
error_number errors.ExpectedNode = 4
error_number errors.ExpectedNothing = 5
error_number errors.IncompatibleVersion = 6
error_number errors.TagHandleEmpty = 7
error_number errors.TagHandleStart = 8
error_number errors.TagHandleEnd = 9
error_number errors.TagHandleAlphabet = 10
error_number errors.TagPrefixEmpty = 11
error_number errors.DuplicateDirective = 12
error_number errors.AnchorEmpty = 13
error_number errors.AnchorAlphabet = 14
error_number errors.AliasEmpty = 15
error_number errors.AliasAlphabet = 16
error_number errors.TagEmpty = 17
error_number errors.NoTagNorImplicit = 18
error_number errors.TooDeep = 19
error_number errors.WriteError = 20
error_number errors.Memory = 21

-- An event's number, and the reason why it was refused.
abbrev pub at_event : (event error : ℕ) → CallResult
at_event event error = record nothing_reported { event = event; error = error }

-- The results of an emission: 0 if it is done, 4 if its YAML doesn't fit, 1 if an event was refused, 8 if one has no reading, 3 if memory
-- ran out, with the event that needed it.
abbrev pub emit_results : Emission → (yaml : List ℕ) → (skip : ℕ) → (out : List ℕ) → CallResults
emit_results Done yaml skip out = results_done yaml skip out
emit_results (Refused number errors.Memory) yaml skip out = results_failed 3 (at_event number (error_number errors.Memory)) out
emit_results (Refused number error) yaml skip out = results_failed 1 (at_event number (error_number error)) out
emit_results (BadEvent number) yaml skip out = results_failed 8 (at_event number 0) out
emit_results (NoRoom number) yaml skip out = results_failed 3 (at_event number (error_number errors.Memory)) out
emit_results NoMemory yaml skip out = results_failed 3 nothing_reported out

-- True if these results are those of an emitter with these settings that was given the array's events; 9 if no emitter has such settings.
abbrev pub IsEmissionBy : Option Settings → (all : List Numbered) → (records : List EventRecord) → (skip : ℕ) → (old : List ℕ) → (status : ℤ)
    → (new : List ℕ) → CallResult → Type 0
IsEmissionBy None all records skip old status new report = CopiesToCaller (results_failed 9 nothing_reported old) status new report
IsEmissionBy (Some given) all records skip old status new report =
    (emission : Emission) × (state : State) × EmitsRecords given all records emission state
    × CopiesToCaller (emit_results emission state.page.output skip old) status new report

-- True if these results are those of the array's events, by the settings that are given.
abbrev pub IsEmission : List EventRecord → List DirectiveRecord → (arena : List ℕ) → EmitterSettings → (old : List ℕ) → (status : ℤ)
    → (new : List ℕ) → CallResult → Type 0
IsEmission records directives arena given old status new report =
    IsEmissionBy (settings_given given) (events_from 0 arena directives records) records given.skip old status new report
