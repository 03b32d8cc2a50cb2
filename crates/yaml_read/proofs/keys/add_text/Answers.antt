use Rattle.yaml_read.proofs.Common.{contains_text, string_bytes, true, ◌||◌, bytes_eq, ap, ◌∙◌}
use Rattle.std.proofs.lemmas.Map.Text.{btree_set_updates_text}
use Rattle.yaml_read.proofs.HeldKeys.{or_last}
use Rattle.yaml_read.proofs.keys.add_text.Goals as goal

pub returns-clause-added : goal.returns-clause-added
returns-clause-added g c = λ bytes.
    let key = string_bytes c.in_ok-key.key in
    btree_set_updates_text key c.args.texts.now c.insert.new.self true c.in_ok-is_new.ensures.updates bytes
    ∙ or_last (bytes_eq key bytes) (contains_text c.args.texts.now bytes)
    ∙ ap (λ k. contains_text c.args.texts.now bytes || bytes_eq k bytes) c.in_ok-key.ensures.ok
