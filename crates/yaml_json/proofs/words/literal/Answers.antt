use Rattle.yaml_json.proofs.Common.{◌≡◌, true, subst, drop, length, nat_eq, sym, ap, ◌∙◌, ◌||◌, starts_with, EndsWord, token_of, ends_word, is_operator}
use Rattle.yaml_json.proofs.Common.{is_space}
use Rattle.yaml_json.proofs.{WordModes.name_goes, WordSteps.literal_read}
use Rattle.yaml_json.proofs.words.literal.Goals as goal

pub returns-then-is_delimiter-clause-reads : goal.returns-then-is_delimiter-clause-reads
returns-then-is_delimiter-clause-reads c =
    let name = c.args.name.now in
    let same = c.as_bytes-bytes.ensures.value in
    literal_read name c.args.text.now c.range_from.result.now (token_of c.args.token) c.requires.name c.requires.good
    (ap (λ t. starts_with nat_eq t name) (sym same) ∙ sym c.starts_with.ensures.value ∙ c.if-starts_with.true)
    (ap (λ t. ends_word (drop (length name) t)) (sym same) ∙ ap (λ byte. is_operator byte || is_space byte) (sym c.byte_at.ensures)
    ∙ sym c.is_delimiter.ensures ∙ c.if-is_delimiter.true)
    c.range_from.ensures.value

pub returns-then-is_delimiter-clause-over : goal.returns-then-is_delimiter-clause-over
returns-then-is_delimiter-clause-over c =
    let text = c.args.text.now in
    let name = c.args.name.now in
    let same = c.as_bytes-bytes.ensures.value in
    let starts : starts_with nat_eq text name ≡ true =
    ap (λ t. starts_with nat_eq t name) (sym same) ∙ sym c.starts_with.ensures.value ∙ c.if-starts_with.true in
    let ends : ends_word (drop (length name) text) ≡ true = ap (λ t. ends_word (drop (length name) t)) (sym same)
    ∙ ap (λ byte. is_operator byte || is_space byte) (sym c.byte_at.ensures) ∙ sym c.is_delimiter.ensures ∙ c.if-is_delimiter.true in
    subst (EndsWord text) (sym c.range_from.ensures.value) (name_goes name text c.requires.name starts, ends)
