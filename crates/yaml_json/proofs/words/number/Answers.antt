use Rattle.yaml_json.proofs.Common.{List, ℕ, Some, true, ◌≡◌, ◌-◌, arith, drop, take, subst, sym, ap, ◌∙◌, ◌||◌, ends_word, is_operator, is_space, EndsWord}
use Rattle.json.specs.Word.{after_number}
use Rattle.yaml_json.{proofs.WordModes.number_goes, proofs.WordSteps.number_read, specs.Lexemes.LeavesAt}
use Rattle.yaml_json.proofs.words.number.Goals as goal

pub returns-then-is_delimiter-clause-reads : goal.returns-then-is_delimiter-clause-reads
returns-then-is_delimiter-clause-reads c =
    let end = c.in-Some.end in
    let whole : end - 0 ≡ end = omega arith in
    let same = c.as_bytes-bytes.ensures.value in
    number_read c.args.text.now c.range.result.now c.range_from.result.now end
    (subst (λ (t : List ℕ). LeavesAt t (Some end) (after_number t)) same c.in-Some.ensures)
    (ap (λ t. ends_word (drop end t)) (sym same) ∙ ap (λ byte. is_operator byte || is_space byte) (sym c.byte_at.ensures)
    ∙ sym c.is_delimiter.ensures ∙ c.if-is_delimiter.true) (c.range.ensures.value ∙ ap (λ n. take n c.args.text.now) whole) c.range_from.ensures.value

pub returns-then-is_delimiter-clause-over : goal.returns-then-is_delimiter-clause-over
returns-then-is_delimiter-clause-over c =
    let text = c.args.text.now in
    let end = c.in-Some.end in
    let same = c.as_bytes-bytes.ensures.value in
    let leaves = subst (λ (t : List ℕ). LeavesAt t (Some end) (after_number t)) same c.in-Some.ensures in
    let ends : ends_word (drop end text) ≡ true = ap (λ t. ends_word (drop end t)) (sym same)
    ∙ ap (λ byte. is_operator byte || is_space byte) (sym c.byte_at.ensures) ∙ sym c.is_delimiter.ensures ∙ c.if-is_delimiter.true in
    subst (EndsWord text) (sym c.range_from.ensures.value) (number_goes text (drop end text) (sym leaves.0), ends)
