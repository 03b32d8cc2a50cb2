use Rattle.yaml_emitter.proofs.Common.{◌≡◌, None, Err, Ok, Result, ap, subst, sym, ◌∙◌, encoded, result_of_error, MachineState, Page}
use Rattle.yaml_base.specs.declared.errors.{yaml_error_t.yaml_error_t}
use Rattle.yaml_emitter.proofs.machine.Machine.flush.Goals as goal

pub returns-in-Err-clause-empty : goal.returns-in-Err-clause-empty
returns-in-Err-clause-empty g c = λ none whole.
    let inside : c.self.inside.pen.error ≡ None = ap (λ (s : MachineState). s.page.error) c.self.view_is ∙ none in
    let same = c.flush.ensures.empty inside (subst (λ (s : MachineState). s.page.output ≡ encoded s.page) (sym c.self.view_is) whole) in
    let answer : Result (Unit {0}) yaml_error_t = Err c.in-Err.error in
    let wrong : answer ≡ Ok tt = c.in-Err.ensures.flushed.answered ∙ ap (λ (p : Page). result_of_error p.error) same ∙ ap result_of_error inside in
    cc
