-- The program's status, and its line on standard error.
use Rattle.std.specs.Prelude.{ℕ, Option, None, Some, [], ◌∷◌, ◌++◌, codes}
use Rattle.std.specs.Fmt.{decimal}
use Rattle.yaml_base.specs.Characters.{Text, line_feed}
use Rattle.yaml_base.specs.Errors.{display_text}
use Rattle.yaml_tool.specs.declared.answers.Fault.{Fault}
use Rattle.yaml_tool.specs.declared.answers.Fault.TheVariants as faults
use Rattle.yaml_tool.specs.declared.answers.run_answer_t.{run_answer_t}
use Rattle.yaml_tool.specs.declared.answers.run_answer_t.TheVariants.{Done, Refused, BadLine, ReadFailed, WriteFailed, NoMemory}

-- the exit status: 0 without an error, 1 for a refusal, 2 for a bad line, 3 if reading, writing or memory failed
abbrev pub status_of : run_answer_t → ℕ
status_of Done = 0
status_of (Refused line error) = 1
status_of (BadLine line) = 2
status_of ReadFailed = 3
status_of WriteFailed = 3
status_of NoMemory = 3

-- the error of an answer, if it has one
abbrev pub answer_fault : run_answer_t → Option Fault
answer_fault Done = None
answer_fault (Refused line error) = Some (faults.Refused line error)
answer_fault (BadLine line) = Some (faults.BadLine line)
answer_fault ReadFailed = Some faults.ReadFailed
answer_fault WriteFailed = Some faults.WriteFailed
answer_fault NoMemory = Some faults.NoMemory

-- the message of an error
abbrev pub fault_text : Fault → Text
fault_text (faults.Refused line error) = codes "yamlemit: line " ++ decimal line ++ codes ": " ++ display_text error
fault_text (faults.BadLine line) = codes "yamlemit: line " ++ decimal line ++ codes ": cannot be read"
fault_text faults.ReadFailed = codes "yamlemit: cannot read"
fault_text faults.WriteFailed = codes "yamlemit: cannot write"
fault_text faults.NoMemory = codes "yamlemit: out of memory"

-- the line of an error's message; empty without an error
abbrev pub fault_line : Option Fault → Text
fault_line None = []
fault_line (Some fault) = fault_text fault ++ line_feed ∷ []

-- the program's line
abbrev pub answer_line : run_answer_t → Text
answer_line answer = fault_line (answer_fault answer)
