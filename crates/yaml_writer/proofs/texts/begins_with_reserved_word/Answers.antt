use Rattle.yaml_writer.proofs.Common.{ℕ, ◌≡◌, rules, List, map, ap, ◌∙◌, to_ascii_lowercase, take_while, is_ascii, is_reserved_word}
use Rattle.yaml_writer.proofs.ReservedLemmas.{reserved_by_head}
use Rattle.yaml_writer.proofs.texts.begins_with_reserved_word.Goals as goal

pub returns : goal.returns
returns c =
    let ascii : c.split_at.result.0.now ≡ take_while is_ascii c.head-first.result.now = search rules in
    c.is_reserved_word.ensures
    ∙ ap (λ (prefix : List ℕ). is_reserved_word (map to_ascii_lowercase prefix))
    (ascii ∙ ap (λ (head : List ℕ). take_while is_ascii head) c.head-first.ensures)
    ∙ reserved_by_head c.args.text.now
