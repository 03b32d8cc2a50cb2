-- Why bytes aren't read.
use Rattle.std.specs.Prelude.{ℕ, ◌-◌, ◌≡◌, Err, List, Ok, Result, length}
use Rattle.std.specs.Borrow.{Bor}
use Rattle.std.specs.Str.{IsUtf8}
use Rattle.yaml_base.specs.Positions.{IsPositionOf}
use Rattle.yaml_base.specs.declared.places.Position.{Position}
use Rattle.yaml_read.specs.Places.{EndsUtf8}
use Rattle.yaml_read.specs.declared.errors.KeyStop.{KeyStop}
use Rattle.yaml_read.specs.declared.errors.KeyStop.TheVariants as key
use Rattle.yaml_read.specs.declared.errors.ReadError.{ReadError}
use Rattle.yaml_read.specs.declared.errors.ReadError.TheVariants as told
use Rattle.yaml_read.specs.declared.errors.Stop.{Stop}
use Rattle.yaml_read.specs.declared.errors.Stop.TheVariants as stop

-- An error has the position of what begins so many bytes before the end.
abbrev pub TellsPlaceBy : (Error : Position → ReadError) → (bytes : List ℕ) → (left : ℕ) → ReadError → Type 0
TellsPlaceBy Error bytes left error = (position : Position) × IsPositionOf bytes (length bytes - left) position × (error ≡ Error position)

-- An error tells why reading stops, and where.
abbrev pub Tells : (bytes : List ℕ) → Stop → ReadError → Type 0
Tells bytes (stop.Refused left) error = TellsPlaceBy (λ position. told.NotCanonical position) bytes left error
Tells bytes (stop.TooDeep left) error = TellsPlaceBy (λ position. told.TooDeep position) bytes left error
Tells bytes stop.Memory error = error ≡ told.Memory

-- The same, if keys must differ.
abbrev pub TellsKey : (bytes : List ℕ) → KeyStop → ReadError → Type 0
TellsKey bytes (key.Other reason) error = Tells bytes reason error
TellsKey bytes (key.Repeats left) error = TellsPlaceBy (λ position. told.DuplicateKey position) bytes left error

-- The bytes are this text; or an error tells where they stop to be UTF-8.
abbrev pub IsTextOf : (bytes : List ℕ) → Result (Bor (List ℕ)) ReadError → Type 0
IsTextOf bytes (Ok text) = IsUtf8 bytes × (text.now ≡ bytes)
IsTextOf bytes (Err error) = (position : Position) × EndsUtf8 bytes position × (error ≡ told.NotCanonical position)
