use Rattle.yaml_json.proofs.Common.{◌≡◌, ◌||◌, ◌+◌, ℕ, List, drop, get_or, subst, sym, ap, ◌∙◌, IsCharBoundary-after_ascii, EndsWord, LeadsFrom, in_string}
use Rattle.yaml_json.proofs.Common.{in_word, lex, is_operator, is_space}
use Rattle.yaml_json.proofs.PassingLexemes.{delimiter_small, drop_one, head_at, passes_operator, passes_string, passes_word, some_left}
use Rattle.yaml_json.proofs.places.after_lexeme.Goals as goal

pub range_from-requires : goal.range_from-requires
range_from-requires c positive =
    let d = c.args.text.now in
    let from = c.args.from in
    let operator = ap (λ t. is_operator (get_or t from 0)) (sym c.as_bytes.ensures.value) ∙ sym c.is_operator.ensures ∙ c.if-is_operator.true in
    IsCharBoundary-after_ascii d from c.utf8.text c.requires (delimiter_small (get_or d from 0) (ap (λ b. b || is_space (get_or d from 0)) operator))

pub returns-then-byte-eq34 : goal.returns-then-byte-eq34
returns-then-byte-eq34 c no_slash trimmed =
    let d = c.args.text.now in
    let from = c.args.from in
    let one : drop (from + 1) d ≡ drop 1 (drop from d) = sym (drop_one d from c.requires) in
    let after = c.after_string in
    let skipped = c.skip_blanks.ensures in
    passes_string (drop from d) after.result.now c.skip_blanks.result.now
    (head_at d from c.requires ∙ ap (λ t. get_or t from 0) (sym c.as_bytes.ensures.value) ∙ c.if-byte-eq34.true) (after.ensures.same ∙ ap (lex in_string) one)
    (subst (λ (t : List ℕ). LeadsFrom in_string t after.result.now) one after.ensures.over) skipped.same skipped.over skipped.past

pub returns-then-is_operator : goal.returns-then-is_operator
returns-then-is_operator c no_slash trimmed =
    let d = c.args.text.now in
    let from = c.args.from in
    let operator = ap (λ t. is_operator (get_or t from 0)) (sym c.as_bytes.ensures.value) ∙ sym c.is_operator.ensures ∙ c.if-is_operator.true in
    let skipped = c.skip_blanks-then-is_operator.ensures in
    passes_operator (drop from d) c.range_from.result.now c.skip_blanks-then-is_operator.result.now (ap is_operator (head_at d from c.requires) ∙ operator)
    (c.range_from.ensures.value ∙ sym (drop_one d from c.requires)) skipped.same skipped.over skipped.past

pub returns-else-is_operator : goal.returns-else-is_operator
returns-else-is_operator c no_slash trimmed =
    let d = c.args.text.now in
    let from = c.args.from in
    let one : drop (from + 1) d ≡ drop 1 (drop from d) = sym (drop_one d from c.requires) in
    let bytes = c.as_bytes.ensures.value in
    let head_is = head_at d from c.requires in
    let after = c.after_word in
    let skipped = c.skip_blanks-else-is_operator.ensures in
    passes_word (drop from d) after.result.now c.skip_blanks-else-is_operator.result.now
    (λ e. c.if-byte-eq34.false (ap (λ t. get_or t from 0) bytes ∙ sym head_is ∙ e)) no_slash (ap is_operator head_is ∙ ap (λ t. is_operator (get_or t from 0))
    (sym bytes) ∙ sym c.is_operator.ensures ∙ c.if-is_operator.false) trimmed (some_left d from c.requires) (after.ensures.same ∙ ap (lex in_word) one)
    (subst (λ (t : List ℕ). EndsWord t after.result.now) one after.ensures.over) skipped.same skipped.over skipped.past
