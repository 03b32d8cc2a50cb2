-- The words of messages, and the lines that tell them.
use Rattle.std.specs.Prelude.{◌≡◌, ◌≢◌, ℕ, Bool, true, false, Option, None, Some, IfSome, List, [], ◌∷◌, ◌++◌, codes, nat_le, if◌then◌else◌}
use Rattle.std.specs.Fmt.{◌++?◌, decimal}
use Rattle.std.specs.Io.KnownBytes.{Appends}
use Rattle.std.specs.IoError.{error_kind}
use Rattle.std.specs.List.{concat}
use Rattle.std.specs.String.{string_bytes}
use Rattle.std.specs.declared.io.ErrorKind.{ErrorKind}
use Rattle.std.specs.declared.io.ErrorKind.TheVariants as kinds
use Rattle.yaml_base.specs.Errors.{display_text}
use Rattle.yaml_base.specs.Positions.{position_text}
use Rattle.yaml_base.specs.Quoting.{quoted_text}
use Rattle.yaml_base.specs.Sinks.{AppendsFirst}
use Rattle.yaml_base.specs.declared.errors.yaml_error_t.TheVariants.{Memory}
use Rattle.yaml_base.specs.declared.places.Position.{Position}
use Rattle.yaml_program.specs.Differences.{IsFirstDifference}
use Rattle.yaml_program.specs.declared.faults.Failure.{Failure}
use Rattle.yaml_program.specs.declared.faults.Failure.TheVariants as failures
use Rattle.yaml_program.specs.declared.faults.Place.{Place}
use Rattle.yaml_program.specs.declared.faults.Place.TheVariants as places
use Rattle.yaml_program.specs.declared.faults.Reason.{Reason}
use Rattle.yaml_program.specs.declared.faults.Reason.TheVariants as reasons
use Rattle.yaml_program.specs.declared.messages.Messages.{Messages}

-- ---- the words

-- The words of a reason; unknown if it quotes a name beyond ASCII.
abbrev pub reason_text : Reason → Option (List ℕ)
reason_text (reasons.Words words) = Some words.now
reason_text (reasons.Twice name first) =
    quoted_text (string_bytes name) ++? Some (codes " is defined at ") ++? Some (position_text first) ++? Some (codes ", and takes no more")

-- The words of a failure; unknown if it is one of the system's.
abbrev pub failure_text : Failure → Option (List ℕ)
failure_text (failures.Refused place reason) = reason_text reason
failure_text (failures.Unwritten error) = Some (display_text error)
failure_text _ = None

-- A file or a stream in a message; unknown if it is a file whose name isn't ASCII.
abbrev pub place_text : Place → Option (List ℕ)
place_text (places.File name) = quoted_text name.0.now
place_text (places.Stream name) = Some name.now

abbrev pub operation_text : Failure → List ℕ
operation_text (failures.ReadFailed error) = codes "cannot read "
operation_text (failures.WriteFailed error) = codes "cannot write "
operation_text _ = []

-- The stream that is read, or that is written if writing failed.
abbrev pub stream_text : Failure → List ℕ
stream_text (failures.WriteFailed error) = codes "standard output"
stream_text _ = codes "standard input"

-- ---- what a failure is

abbrev pub is_memory_kind : ErrorKind → Bool
is_memory_kind kinds.OutOfMemory = true
is_memory_kind _ = false

abbrev pub is_unread_kind : ErrorKind → Bool
is_unread_kind kinds.BrokenPipe = true
is_unread_kind _ = false

-- True if no memory was left.
abbrev pub is_of_memory : Failure → Bool
is_of_memory (failures.Unwritten Memory) = true
is_of_memory (failures.ReadFailed error) = is_memory_kind (error_kind error)
is_of_memory (failures.WriteFailed error) = is_memory_kind (error_kind error)
is_of_memory _ = false

-- True if nobody reads the output.
abbrev pub is_unread : Failure → Bool
is_unread (failures.WriteFailed error) = is_unread_kind (error_kind error)
is_unread _ = false

-- The name of the file of a failure: that of the output if writing failed.
abbrev pub name_of_failure : Failure → (name output : Option (List ℕ)) → Option (List ℕ)
name_of_failure (failures.WriteFailed error) name output = output
name_of_failure _ name output = name

-- ---- the lines

-- A message of the program, with a line break.
abbrev pub message_line : (program words : List ℕ) → List ℕ
message_line program words = program ++ codes ": " ++ words ++ codes "\n"

-- True of the text of a failure's place: that of the file of this name, or of a stream.
pub record IsPlaceOf (failure : Failure) (name text : Option (List ℕ)) : Type 0 where
  pub unnamed : name ≡ None → text ≡ Some (stream_text failure)
  pub stream : name ≡ Some (codes "-") → text ≡ Some (stream_text failure)
  pub file : (path : List ℕ) → name ≡ Some path → path ≢ codes "-" → text ≡ quoted_text path

-- The position at which a text is refused; none if it is refused as a whole.
abbrev pub position_of : Failure → Option Position
position_of (failures.Refused place reason) = place
position_of _ = None

abbrev pub numbers_text : Position → List ℕ
numbers_text position = concat (codes ":" ∷ decimal position.line ∷ codes ":" ∷ decimal position.column ∷ codes ": " ∷ [])

-- The line of a failure, at a position of a place or after the program's name.
abbrev pub failure_line : (program : List ℕ) → (operation place reason : List ℕ) → Option Position → List ℕ
failure_line program operation place reason (Some position) = concat (place ∷ numbers_text position ∷ reason ∷ codes "\n" ∷ [])
failure_line program operation place reason None = message_line program (operation ++ place ++ codes ": " ++ reason)

-- True if the line tells the failure, its place and its reason, as far as their texts are known.
pub record IsFailureLine (program : List ℕ) (failure : Failure) (name : Option (List ℕ)) (line : List ℕ) : Type 0 where
  pub shown : Option (List ℕ)
  pub is_place : IsPlaceOf failure name shown
  pub place : List ℕ
  pub placed : IfSome shown (λ text. place ≡ text)
  pub reason : List ℕ
  pub reasoned : IfSome (failure_text failure) (λ text. reason ≡ text)
  pub whole : line ≡ failure_line program (operation_text failure) place reason (position_of failure)

-- True if the line is a message about a file, whose name is known if it is ASCII.
abbrev pub IsNameLine : (program name words : List ℕ) → (line : List ℕ) → Type 0
IsNameLine program name words line =
    (shown : List ℕ) × IfSome (quoted_text name) (λ text. shown ≡ text) × (line ≡ message_line program (shown ++ words))

abbrev pub difference_words : (name number old new : List ℕ) → List ℕ
difference_words name number old new = name ++ codes " would be changed at line " ++ number ++ codes ": " ++ old ++ codes " would be " ++ new

-- True if the line is a message about the first line in which a file differs from what would be written to it. The file's name and the lines are
-- known if they are ASCII.
pub record IsDifferenceLine (program name old new line : List ℕ) : Type 0 where
  pub number : ℕ
  pub old_line : List ℕ
  pub new_line : List ℕ
  pub first : IsFirstDifference old new number old_line new_line
  pub shown : List ℕ
  pub old_shown : List ℕ
  pub new_shown : List ℕ
  pub named : IfSome (quoted_text name) (λ text. shown ≡ text)
  pub old_is : IfSome (quoted_text old_line) (λ text. old_shown ≡ text)
  pub new_is : IfSome (quoted_text new_line) (λ text. new_shown ≡ text)
  pub whole : line ≡ message_line program (difference_words shown (decimal number) old_shown new_shown)

-- ---- what messages are told

-- The end of the line that counts files, if it isn't ended.
abbrev pub line_end : (is_open : Bool) → List ℕ
line_end true = codes "\n"
line_end false = []

-- True if a sink was given the end of an open line and then this line, or a beginning of each.
pub record Reports (is_open : Bool) (line : List ℕ) (before after : Option (List ℕ)) : Type 0 where
  pub middle : Option (List ℕ)
  pub ended : AppendsFirst before middle (line_end is_open)
  pub told : AppendsFirst middle after line

module _ {W : Type 0} (contents : W → Option (List ℕ)) where
  -- True if messages were told this line: their sink was given the end of an open line and then all of it, unless something was lost.
  pub record Told (was now : Messages W) (line : List ℕ) : Type 0 where
    pub words : now.words ≡ was.words
    pub ended : now.has_open_line ≡ false
    pub kept : now.loss.is_some ≡ false → was.loss.is_some ≡ false
    pub whole : now.loss.is_some ≡ false → Appends (contents was.sink) (contents now.sink) (line_end was.has_open_line ++ line)
    pub first : Reports was.has_open_line line (contents was.sink) (contents now.sink)

  -- True if messages were told a line of which this holds, unless something was lost.
  pub record Tells (was now : Messages W) (IsLine : List ℕ → Type 0) : Type 0 where
    pub line : List ℕ
    pub is_line : now.loss.is_some ≡ false → IsLine line
    pub told : Told was now line

  -- True if messages were told a failure at the file of this name, or nothing, since nobody reads the output.
  pub record ToldFailure (was now : Messages W) (failure : Failure) (name : Option (List ℕ)) : Type 0 where
    pub memory : is_of_memory failure ≡ true → Told was now (message_line was.words.now.name.now (codes "out of memory"))
    pub unread : is_unread failure ≡ true → now ≡ was
    pub told : is_of_memory failure ≡ false → is_unread failure ≡ false
        → Tells was now (IsFailureLine was.words.now.name.now failure name)

  -- True if messages count these files on a line that stays open as long as not all are done, unless something was lost.
  pub record Counted (done all : ℕ) (was now : Messages W) : Type 0 where
    pub words : now.words ≡ was.words
    pub opened : now.has_open_line ≡ (if nat_le all done then false else true)
    pub kept : now.loss.is_some ≡ false → was.loss.is_some ≡ false
    pub whole : now.loss.is_some ≡ false → Appends (contents was.sink) (contents now.sink)
        (codes "\r" ++ was.words.now.name.now ++ codes ": " ++ (decimal done ++ codes " of " ++ decimal all) ++ (if nat_le all done then codes "\n" else []))
