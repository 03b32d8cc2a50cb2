-- The bytes of a pen: those flushed, and those in the buffer.
use Rattle.std.specs.Prelude.{◌≡◌, ℕ, ◌<◌, ◌≤◌, Option, None, Some, Result, Ok, Err, List, ◌++◌, IsSome, length, take}
use Rattle.yaml_base.specs.Encoding.{cut}
use Rattle.yaml_base.specs.Prefix.{IsPrefix}
use Rattle.yaml_base.specs.declared.errors.yaml_error_t.{yaml_error_t}
use Rattle.yaml_base.specs.declared.errors.yaml_error_t.TheVariants.{WriteError, Memory}
use Rattle.yaml_pen.specs.Page.{IsFlushedOutput, result_of_error}

-- all bytes so far, those flushed, the number of these that the caller has taken, the limit and the first error
pub record OutletState : Type 0 where
  pub all : List ℕ
  pub output : List ℕ
  pub taken : ℕ
  pub limit : ℕ
  pub error : Option yaml_error_t

-- the output: the bytes that the caller has taken, and the others
unfoldable pub whole_output : List ℕ → List ℕ → List ℕ
whole_output taken left = taken ++ left

-- the bytes of an outlet: its output up to a place, and the buffer after it
abbrev pub bytes_of : ℕ → List ℕ → List ℕ → List ℕ → ℕ → Option yaml_error_t → OutletState
bytes_of kept buffer taken left limit error =
    let output = whole_output taken left in
    record { all = take kept output ++ buffer; output = output; taken = length taken; limit = limit; error = error }

-- the flushed bytes are sound
abbrev pub HasSoundOutput : OutletState → Type 0
HasSoundOutput bytes = IsFlushedOutput bytes.all bytes.output bytes.limit bytes.error

-- an output that was kept up to a place, and a buffer of the bytes after it; without an error all is kept; the number
-- of taken bytes is known
pub record IsOutlet (kept count : ℕ) (buffer taken left : List ℕ) (limit : ℕ) (error : Option yaml_error_t) : Type 0 where
  pub within : kept ≤ length (whole_output taken left)
  pub whole : error ≡ None → kept ≡ length (whole_output taken left)
  pub sound_output : IsFlushedOutput (take kept (whole_output taken left) ++ buffer) (whole_output taken left) limit error
  pub counted : count ≡ length taken

-- a buffer is appended to an output whole, or up to the limit, or not at all
abbrev pub FlushesBuffer : List ℕ → List ℕ → List ℕ → ℕ → Result (Unit {0}) yaml_error_t → Type 0
FlushesBuffer buffer before after limit (Ok _) = (length after ≤ limit) × (after ≡ before ++ buffer)
FlushesBuffer buffer before after limit (Err WriteError) = (limit < length (before ++ buffer)) × (after ≡ cut limit (before ++ buffer))
FlushesBuffer buffer before after limit (Err Memory) = after ≡ before
FlushesBuffer buffer before after limit (Err _) = ⊥

-- a flush: all bytes are flushed, or those that the limit leaves, or none more
pub record Emptied (before after : OutletState) (answer : Result (Unit {0}) yaml_error_t) : Type 0 where
  pub answered : answer ≡ result_of_error after.error
  pub kept : after ≡ record before { output = after.output; error = after.error }
  pub sound_output : HasSoundOutput after
  pub all : after.error ≡ None → (before.error ≡ None) × (after.output ≡ after.all)
  pub nothing : before.error ≡ None → after.error ≡ Some Memory → after.output ≡ before.output
  pub stopped : IsSome before.error → after ≡ before

-- bytes are appended whole, or a flush failed
pub record Appended (bytes : List ℕ) (before after : OutletState) (answer : Result (Unit {0}) yaml_error_t) : Type 0 where
  pub answered : answer ≡ result_of_error after.error
  pub limit : after.limit ≡ before.limit
  pub taken : after.taken ≡ before.taken
  pub output : IsPrefix before.output after.output
  pub sound_output : HasSoundOutput after
  pub whole : after.error ≡ None → (before.error ≡ None) × (after.all ≡ before.all ++ bytes)
  pub none : IsSome after.error → after.all ≡ before.all
  pub stopped : IsSome before.error → after ≡ before
