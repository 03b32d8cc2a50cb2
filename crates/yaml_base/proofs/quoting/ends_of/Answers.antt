use Rattle.std.proofs.Common.{ℕ, drop, take, length, ◌-◌, ◌≤◌, ◌∙◌, ap, subst, arith, le_refl, take_all}
use Rattle.std.proofs.lemmas.List.{length-drop}
use Rattle.yaml_base.proofs.quoting.ends_of.Goals as goal

pub returns-clause-ends : goal.returns-clause-ends
returns-clause-ends c =
    let name = c.args.name.now in
    let first = c.in_ok-get.ensures.cases in
    let last = c.in_ok-get-2.ensures.cases in
    let start = c.in_ok-start.start in
    let all : length (drop start name) ≤ length name - start =
    subst (λ (n : ℕ). length (drop start name) ≤ n) (length-drop start name) (le_refl (length (drop start name))) in
    record {
      begins = first.0 ∙ ap (λ (n : ℕ). take n name) (omega (arith, first.1));
      ends = last.0 ∙ take_all (length name - start) (drop start name) all ∙ ap (λ (n : ℕ). drop n name) (omega (arith, last.1, last.2));
    }
