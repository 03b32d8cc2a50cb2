use Rattle.toml_ordered.proofs.Common.{string_bytes, subst, ◌≡◌, ℕ, List, Some, bytes_eq, arith, common_steps, get_by_text}
use Rattle.toml_ordered.proofs.KeyPlaces.{noted_indexed}
use Rattle.std.{proofs.lemmas.Map.Text.btree_map_updates_text, specs.Map.update}
use Rattle.toml_ordered.proofs.keys.note.Goals as goal

pub returns-clause-noted : goal.returns-clause-noted
returns-clause-noted c =
    let key = string_bytes c.args.key.now in
    let before = c.args.index.now in
    let after = c.insert.new.self in
    let same : string_bytes c.in-Ok.name ≡ key = grind (arith, common_steps) in
    noted_indexed key c.args.at before after λ k. subst (λ (l : List ℕ). get_by_text after k ≡ update bytes_eq (get_by_text before) l (Some c.args.at) k) same
    (btree_map_updates_text (string_bytes c.in-Ok.name) before after _ c.in_default-insert.ensures.updates k)
