-- A script is understood line by line.
use Rattle.yaml_tool.proofs.Common.{suc, ℕ, ◌+◌, ◌<◌, Option, None, Some, Result, Err, length, List, [], ◌++◌, ◌∷◌, refl, ◌≡◌, length-append, append-nil}
use Rattle.yaml_tool.proofs.Common.{append_assoc, ap, subst, sym, ◌∙◌, add-one, arith, IfErr, line_feed, Script, understood, IsFree, IsCut, cut_at, IsFaultOf}
use Rattle.yaml_tool.proofs.Common.{script_after_lines}
use Rattle.std.{proofs.Common.Ok, specs.Result.IsErr, specs.Result.IsErrAnd}
use Rattle.yaml_base.specs.scripts.Script.{bad_line, unset, settings_of, ScriptState, script_from}
use Rattle.yaml_tool.{proofs.CutLemmas.cut_free, proofs.CutLemmas.cut_cut, specs.Scripts.after_line, specs.Scripts.IsFaultAt, specs.Scripts.LeavesLastLine}
use Rattle.yaml_tool.specs.declared.scripts.{ScriptError.ScriptError, ScriptError.TheVariants.BadLine, ScriptError.TheVariants.OutOfMemory}

-- the meaning of a script's line and of those after it
goes_on : ℕ → List (List ℕ) → Option ScriptState → Script
goes_on number rest None = bad_line number
goes_on number rest (Some after) = script_from (suc number) after rest

one_line : (number : ℕ) (rest : List (List ℕ)) (after : Option ScriptState) → (elim after as (λ _. Script) [
  | None ↦ bad_line number
  | Some sofar ↦ script_from (suc number) sofar rest
]) ≡ goes_on number rest after
unfolding goes_on
one_line number rest _ = refl

-- a bad line is returned
pub line_is_bad : (number : ℕ) (before : ScriptState) (line : List ℕ) (rest : List (List ℕ)) → after_line number before line ≡ None
    → script_from number before (line ∷ rest) ≡ bad_line number
unfolding goes_on
line_is_bad number before line rest bad = one_line number rest (after_line number before line) ∙ ap (goes_on number rest) bad

-- a good one goes to those before it
pub line_is_good : (number : ℕ) (before after : ScriptState) (line : List ℕ) (rest : List (List ℕ)) → after_line number before line ≡ Some after
    → script_from number before (line ∷ rest) ≡ script_from (number + 1) after rest
unfolding goes_on
line_is_good number before after line rest good = grind (arith, one_line, after_line, goes_on, script_from, add-one)

-- the text after a line is shorter
pub shorter : (bytes line rest : List ℕ) → IsCut line_feed bytes line rest → length rest < length bytes
shorter bytes line rest cut = rw cut.0 (omega (arith, length-append line (line_feed ∷ rest)))

-- the first line that ends is that of the bytes, whatever follows them
first_more : (bytes line rest more : List ℕ) → IsCut line_feed bytes line rest → cut_at line_feed (bytes ++ more) ≡ line ∷ cut_at line_feed (rest ++ more)
first_more bytes line rest more cut = grind (arith, cut_cut, line_feed, append_assoc)

-- its fault is the script's
pub fault_first : (error : ScriptError) (number : ℕ) (before : ScriptState) (bytes line rest more : List ℕ) → IsCut line_feed bytes line rest
    → IsFaultAt error number (after_line number before line) → IsFaultOf error (script_after_lines number before (bytes ++ more))
fault_first (BadLine reported) number before bytes line rest more cut fault =
    ap (script_from number before) (first_more bytes line rest more cut)
    ∙ line_is_bad number before line (cut_at line_feed (rest ++ more)) fault.1 ∙ ap bad_line (sym fault.0)
fault_first OutOfMemory number before bytes line rest more cut fault = tt

pub good_first : (number : ℕ) (before after : ScriptState) (bytes line rest more : List ℕ) → IsCut line_feed bytes line rest
    → after_line number before line ≡ Some after
    → script_after_lines number before (bytes ++ more) ≡ script_after_lines (number + 1) after (rest ++ more)
good_first number before after bytes line rest more cut good = grind (arith, script_from, first_more, line_is_good, cut_at, line_feed)

-- the last line, which nothing follows
pub fault_last : (error : ScriptError) (number : ℕ) (before : ScriptState) (line : List ℕ) → IsFree line_feed line
    → IsFaultAt error number (after_line number before line) → IsFaultOf error (script_after_lines number before line)
fault_last (BadLine reported) number before line free fault =
    ap (script_from number before) (cut_free line_feed line free) ∙ line_is_bad number before line [] fault.1 ∙ ap bad_line (sym fault.0)
fault_last OutOfMemory number before line free fault = tt

pub good_last : (number : ℕ) (before after : ScriptState) (line : List ℕ) → IsFree line_feed line → after_line number before line ≡ Some after
    → script_after_lines number before line ≡ understood (settings_of unset after.settings) after.events
good_last number before after line free good = grind (arith, script_from, cut_free, line_feed, line_is_good)

-- if nothing follows, the last line is the whole rest
pub left_alone : (number : ℕ) (before : ScriptState) (bytes : List ℕ) (next : ℕ) (after : ScriptState) (last : List ℕ)
    → LeavesLastLine number before bytes next after last
    → script_after_lines number before bytes ≡ script_after_lines next after last
left_alone number before bytes next after last leaves =
    ap (script_after_lines number before) (sym (append-nil bytes)) ∙ leaves.same [] ∙ ap (script_after_lines next after) (append-nil last)

-- and so is a fault
pub fault_alone : (error : ScriptError) (number : ℕ) (before : ScriptState) (bytes : List ℕ) → IsFaultOf error (script_after_lines number before (bytes ++ []))
    → IsFaultOf error (script_after_lines number before bytes)
fault_alone error number before bytes fault = subst (λ all. IsFaultOf error (script_after_lines number before all)) (append-nil bytes) fault

-- a fact about an error is one about the answer by which `?` returns it
pub exit_with : {T E : Type 0} (P : E → Type 0) (error : E) (answer : Result T E) → IsErr answer × IsErrAnd answer (λ given. given ≡ error) → P error
    → IfErr answer P
exit_with P error (Ok value) is holds = tt
exit_with P error (Err given) is holds = subst P (sym is.1) holds
