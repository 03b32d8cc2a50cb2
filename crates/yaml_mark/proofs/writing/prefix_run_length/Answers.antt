use Rattle.yaml_mark.proofs.Common.{ℕ, length, List, ap, subst, sym, arith, prefix_len-le-length, is_tag_character, IsPrefixRun}
use Rattle.yaml_mark.proofs.EscapingLemmas.{prefix_run, marked_run}
use Rattle.yaml_mark.proofs.writing.prefix_run_length.Goals as goal

pub overflow_add-result : goal.overflow_add-result
overflow_add-result c =
    omega (arith, ap (λ (l : List ℕ). length l) c.in-Some.ensures.0, prefix_len-le-length is_tag_character c.in-Some.rest.now, c.run_length.ensures)

pub returns-in-Some : goal.returns-in-Some
returns-in-Some c =
    let rest = c.in-Some.rest.now in
    subst (λ (n : ℕ). IsPrefixRun c.args.portable c.args.prefix.now n)
    (omega (arith, ap (λ (l : List ℕ). length l) c.in-Some.ensures.0, c.run_length.ensures, prefix_len-le-length is_tag_character rest))
    (marked_run c.args.portable c.args.prefix.now rest c.utf8.prefix c.in-Some.ensures.0 c.in-Some.ensures.1)

pub returns-in-None : goal.returns-in-None
returns-in-None c =
    subst (λ (n : ℕ). IsPrefixRun c.args.portable c.args.prefix.now n) (sym c.run_length-in-None.ensures)
    (prefix_run c.args.portable c.args.prefix.now c.utf8.prefix c.in-None.ensures)
