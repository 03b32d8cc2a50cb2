use Rattle.yaml_tool.proofs.Common.{IfSome, map, ReadsAll, IsFault, IsFaultOf, subst, [], seen_numbered, seen_settings}
use Rattle.yaml_tool.proofs.PartLemmas.{says_first, says_more, says_all, bad_all, bad_prefix, no_memory}
use Rattle.yaml_tool.proofs.ScriptLemmas.{exit_with}
use Rattle.yaml_base.specs.scripts.Script as notation
use Rattle.yaml_tool.specs.declared.answers.run_answer_t.TheVariants.{BadLine}
use Rattle.yaml_tool.specs.Scripts.{script_with}
use Rattle.yaml_tool.specs.declared.scripts.ScriptError.TheVariants as fault
use Rattle.yaml_tool.proofs.parts.read_script_from.Goals as goal

pub parts-init : goal.parts-init
parts-init g c = says_first (g.R.Read.remaining c.args.reader.now) c.new-script.result c.new-script.ensures

pub returns-in_err-read_part-clause-fault : goal.returns-in_err-read_part-clause-fault
returns-in_err-read_part-clause-fault g c =
    let given = g.R.Read.remaining c.args.reader.now in
    exit_with (λ answer. IfSome given (λ left. IsFault answer (notation.script_of left))) c.in_err-read_part.field-0.0 c.from_residual.result
    c.from_residual.ensures
    (bad_prefix given (g.R.Read.remaining c.parts.reader) c.parts.script c.in_err-read_part.field-0.0 c.parts.invariant c.in_err-read_part.ensures.fault)

pub returns-in_err-read_part-clause-read : goal.returns-in_err-read_part-clause-read
returns-in_err-read_part-clause-read g c =
    exit_with (λ answer. ReadsAll answer (g.R.Read.remaining c.read_part.new.reader)) c.in_err-read_part.field-0.0 c.from_residual.result
    c.from_residual.ensures c.in_err-read_part.ensures.read

pub returns-in-Ok-clause-understood : goal.returns-in-Ok-clause-understood
returns-in-Ok-clause-understood g c =
    let given = g.R.Read.remaining c.args.reader.now in
    let left = g.R.Read.remaining c.read_part.new.reader in
    let says = says_more given (g.R.Read.remaining c.parts.reader) left c.parts.script c.read_part.new.script c.parts.invariant
    c.in_ok-read_part.ensures.goes_on in
    says_all given left c.read_part.new.script (notation.understood (seen_settings c.in-Ok.script.settings) (map seen_numbered c.in-Ok.script.events.items))
    says (c.in_ok-read_part.ensures.end c.if-not-branch.true) c.in-Ok.ensures.understood

pub returns-in-Ok-clause-end : goal.returns-in-Ok-clause-end
returns-in-Ok-clause-end g c = c.in_ok-read_part.ensures.end c.if-not-branch.true

pub returns-in-Err-BadLine-clause-fault : goal.returns-in-Err-BadLine-clause-fault
returns-in-Err-BadLine-clause-fault g c =
    let given = g.R.Read.remaining c.args.reader.now in
    let left = g.R.Read.remaining c.read_part.new.reader in
    let says = says_more given (g.R.Read.remaining c.parts.reader) left c.parts.script c.read_part.new.script c.parts.invariant
    c.in_ok-read_part.ensures.goes_on in
    bad_all given left c.read_part.new.script (fault.BadLine c.in-Err-BadLine.line) (BadLine c.in-Err-BadLine.line) says
    (c.in_ok-read_part.ensures.end c.if-not-branch.true)
    (subst (λ error. IsFaultOf error (script_with c.read_part.new.script [])) c.in-Err-BadLine.field-0-is c.in-Err-BadLine.ensures.fault)
    (λ script bad. bad)

pub returns-in-Err-BadLine-clause-read : goal.returns-in-Err-BadLine-clause-read
returns-in-Err-BadLine-clause-read g c = c.in_ok-read_part.ensures.end c.if-not-branch.true

pub returns-in-Err-OutOfMemory-clause-fault : goal.returns-in-Err-OutOfMemory-clause-fault
returns-in-Err-OutOfMemory-clause-fault g c = no_memory (g.R.Read.remaining c.args.reader.now)

pub parts-preserved : goal.parts-preserved
parts-preserved g c =
    says_more (g.R.Read.remaining c.args.reader.now) (g.R.Read.remaining c.parts.reader)
    (g.R.Read.remaining c.read_part.new.reader) c.parts.script c.read_part.new.script c.parts.invariant c.in_ok-read_part.ensures.goes_on
