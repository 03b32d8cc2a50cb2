use Rattle.yaml_tool.proofs.Common.{ℕ, List, ◌++◌, ◌≡◌, append_assoc, ap, subst, sym, ◌∙◌, seen_progress, IsFaultOf, script_after_lines}
use Rattle.yaml_tool.proofs.ScriptLemmas.{exit_with}
use Rattle.yaml_tool.proofs.parts.ScriptPrefix.take_part.Goals as goal

-- a part after a line, and the text after it
behind : (line part : List ℕ) {whole : List ℕ} (more : List ℕ) → whole ≡ line ++ part → whole ++ more ≡ line ++ (part ++ more)
behind line part more is = ap (λ (bytes : List ℕ). bytes ++ more) is ∙ append_assoc line part more

pub returns-then-is_none-clause-taken : goal.returns-then-is_none-clause-taken
returns-then-is_none-clause-taken g c more =
    let old = c.args.self.now in
    ap (script_after_lines old.number (seen_progress old.progress)) (sym (behind old.line.items c.args.part.now more c.in-Ok.ensures.items))

pub returns-in_err-number-clause-fault : goal.returns-in_err-number-clause-fault
returns-in_err-number-clause-fault g c =
    let old = c.args.self.now in
    let before = seen_progress old.progress in
    exit_with (λ error. (more : List ℕ) → IsFaultOf error (script_after_lines old.number before (old.line.items ++ (c.args.part.now ++ more))))
    c.in_err-number.field-0.0 c.from_residual.result c.from_residual.ensures
    (λ more. subst (λ bytes. IsFaultOf c.in_err-number.field-0.0 (script_after_lines old.number before bytes))
    (behind old.line.items c.args.part.now more (c.as_slice.ensures.value ∙ c.in-Ok.ensures.items)) (c.in_err-number.ensures.fault more))

pub returns-in-Ok-extend_from_slice-clause-taken : goal.returns-in-Ok-extend_from_slice-clause-taken
returns-in-Ok-extend_from_slice-clause-taken g c more =
    let old = c.args.self.now in
    let last = c.as_slice-2.result.now in
    let kept = c.in-Ok-extend_from_slice.ensures.items ∙ ap (λ (line : List ℕ). line ++ last) c.clear.ensures.items
    ∙ c.as_slice-2.ensures.value ∙ c.in-Ok-from_slice.ensures.items in
    ap (script_after_lines old.number (seen_progress old.progress))
    (sym (behind old.line.items c.args.part.now more (c.as_slice.ensures.value ∙ c.in-Ok.ensures.items)))
    ∙ c.in_ok-number.ensures.taken.same more
    ∙ ap (λ (line : List ℕ). script_after_lines c.in_ok-number.number (seen_progress c.take_lines.new.progress) (line ++ more)) (sym kept)
