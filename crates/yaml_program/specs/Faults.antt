-- The program's status.
use Rattle.std.specs.Prelude.{◌≡◌, ◌⊎◌, ℕ, Result, Ok, Err}
use Rattle.clap.specs.declared.error.kind.ErrorKind.{ErrorKind}
use Rattle.clap.specs.declared.error.kind.ErrorKind.TheVariants as kinds
use Rattle.yaml_base.specs.declared.errors.yaml_error_t.{yaml_error_t}
use Rattle.yaml_base.specs.declared.errors.yaml_error_t.TheVariants.{Memory}
use Rattle.yaml_program.specs.declared.faults.Failure.{Failure}
use Rattle.yaml_program.specs.declared.faults.Failure.TheVariants as failures

-- The status of an error of the emitter: 3 if memory failed, else 1.
abbrev pub emitter_status : yaml_error_t → ℕ
emitter_status Memory = 3
emitter_status error = 1

-- The status of a failure: 1 if a text is refused, 3 if reading, writing or memory failed.
abbrev pub failure_status : Failure → ℕ
failure_status (failures.Refused place reason) = 1
failure_status (failures.Unwritten error) = emitter_status error
failure_status (failures.ReadFailed error) = 3
failure_status (failures.WriteFailed error) = 3

-- The status of a run: 0 if all was written. `stop` is the name of a file and the failure.
abbrev pub status_of_run : {N : Type 0} → Result (Unit {0}) (N × Failure) → ℕ
status_of_run (Ok done) = 0
status_of_run (Err stop) = failure_status stop.1

-- True of the status if the arguments ask for no conversion: 0 or 3 if they ask for help or the version, 3 if memory failed, else 2.
abbrev pub IsStatusOfUsage : ErrorKind → ℕ → Type 0
IsStatusOfUsage kinds.OutOfMemory status = status ≡ 3
IsStatusOfUsage kinds.DisplayHelp status = (status ≡ 0) ⊎ (status ≡ 3)
IsStatusOfUsage kinds.DisplayVersion status = (status ≡ 0) ⊎ (status ≡ 3)
IsStatusOfUsage kind status = status ≡ 2
