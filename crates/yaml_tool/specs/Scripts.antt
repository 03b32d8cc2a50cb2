-- The view of whole scripts in contracts.
use Rattle.std.specs.Prelude.{◌≡◌, ◌≤◌, ◌+◌, ℕ, Option, None, Some, option_and_then, List, [], ◌++◌, length, map, ⊤}
use Rattle.yaml_base.specs.Characters.{line_feed}
use Rattle.yaml_base.specs.Seen.{seen_event}
use Rattle.yaml_base.specs.scripts.Script as notation
use Rattle.yaml_tool.specs.declared.scripts.NumberedEvent.{NumberedEvent}
use Rattle.yaml_tool.specs.declared.scripts.Progress.{Progress}
use Rattle.yaml_tool.specs.declared.parts.ScriptPrefix.{ScriptPrefix}
use Rattle.yaml_tool.specs.declared.scripts.ScriptError.{ScriptError}
use Rattle.yaml_tool.specs.declared.scripts.ScriptError.TheVariants.{BadLine, OutOfMemory}
use Rattle.yaml_tool.specs.Cuts.{IsFree, cut_at}
use Rattle.yaml_tool.specs.Settings.{seen_setting}

-- an event and the number of its line
abbrev pub seen_numbered : {A : Type 0} → NumberedEvent A → notation.Numbered
seen_numbered numbered = record { line = numbered.line; event = seen_event numbered.event }

-- the settings and events of the lines so far
abbrev pub seen_progress : {A : Type 0} → Progress A → notation.ScriptState
seen_progress progress = record { settings = map seen_setting progress.settings.items; events = map seen_numbered progress.events.items }

-- the state before the first line
abbrev pub nothing_parsed : notation.ScriptState
nothing_parsed = record { settings = []; events = [] }

-- the meaning of the lines so far and one more, if that is good
abbrev pub after_line : ℕ → notation.ScriptState → List ℕ → Option notation.ScriptState
after_line number before bytes = option_and_then (notation.with_line number before) (notation.line_understood bytes)

-- a bad line is the script's first; a failure of memory says nothing about the script
abbrev pub IsFaultOf : ScriptError → notation.Script → Type 0
IsFaultOf (BadLine number) script = script ≡ notation.bad_line number
IsFaultOf OutOfMemory script = ⊤

-- the line of this number is bad; a failure of memory says nothing about it
abbrev pub IsFaultAt : ScriptError → ℕ → Option notation.ScriptState → Type 0
IsFaultAt (BadLine line) number after = (line ≡ number) × (after ≡ None)
IsFaultAt OutOfMemory number after = ⊤

-- ---- scripts of which the lines so far were taken

-- the script whose lines before this number have this meaning, and whose other lines are these bytes
abbrev pub script_after_lines : ℕ → notation.ScriptState → List ℕ → notation.Script
script_after_lines number before bytes = notation.script_from number before (cut_at line_feed bytes)

-- all lines of some bytes were taken but the last, which may go on after them
pub record LeavesLastLine (number : ℕ) (before : notation.ScriptState) (bytes : List ℕ) (next : ℕ) (after : notation.ScriptState) (last : List ℕ) : Type 0 where
  pub free : IsFree line_feed last
  pub counted : next + length last ≤ number + length bytes
  pub same : (more : List ℕ) → script_after_lines number before (bytes ++ more) ≡ script_after_lines next after (last ++ more)

-- the script whose prefix was read, followed by these bytes
abbrev pub script_with : {A : Type 0} → ScriptPrefix A → List ℕ → notation.Script
script_with prefix more = script_after_lines prefix.number (seen_progress prefix.progress) (prefix.line.items ++ more)

-- the bytes that are left are the rest of the same script, if they are known
abbrev pub ContinuesScript : {A : Type 0} → ScriptPrefix A → Option (List ℕ) → ScriptPrefix A → Option (List ℕ) → Type 0
ContinuesScript old None new left = ⊤
ContinuesScript old (Some before) new None = ⊥
ContinuesScript old (Some before) new (Some after) = script_with old before ≡ script_with new after
