use Rattle.toml_ordered.proofs.Common.{ℕ, List, reverse, sym, subst, AreFilled, PassesSteps, Way}
use Rattle.toml_ordered.proofs.Passing.{passes_on, refused_on, refuses_reworded}
use Rattle.toml_ordered.specs.{Reading.steps_of, declared.passed.Passed.Passed}
use Rattle.toml_ordered.proofs.tables.descend.Goals as goal

pub returns-in-Err : goal.returns-in-Err
returns-in-Err c =
    refuses_reworded _ _ _ _ _ c.named.ensures (refused_on _ _ _ _ _ _ _ (subst (λ (steps : List (Way × List ℕ)). PassesSteps (steps_of c.args.route) steps
    c.args.left c.args.outermost c.steps.here (AreFilled (reverse c.steps.passed.items))) c.in-Some.ensures c.steps.invariant)
    (c.in-Err.ensures (steps_of c.in-Some.rest)))

pub steps-preserved : goal.steps-preserved
steps-preserved c =
    subst (λ (ps : List Passed). PassesSteps (steps_of c.args.route) (steps_of c.in-Some.rest) c.args.left c.args.outermost c.in-Ok.entered.1
    (AreFilled (reverse ps))) (sym c.in_default-push.ensures.items)
    (passes_on (steps_of c.args.route) _ (steps_of c.in-Some.rest) c.args.left c.args.outermost c.steps.here c.in-Ok.entered.1 c.steps.passed.items
    c.in-Ok.entered.0 (subst (λ (steps : List (Way × List ℕ)). PassesSteps (steps_of c.args.route) steps c.args.left c.args.outermost c.steps.here
    (AreFilled (reverse c.steps.passed.items))) c.in-Some.ensures c.steps.invariant) (c.in-Ok.ensures (steps_of c.in-Some.rest)))
