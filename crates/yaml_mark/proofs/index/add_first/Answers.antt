use Rattle.std.proofs.lemmas.Map.Text.{btree_map_updates_text}
use Rattle.std.specs.{BTreeMap.get_by_text, Prelude.is_some}
use Rattle.yaml_mark.proofs.Common.{Some, cond, bytes_eq, bytes_eq-Decides, string_bytes, ap, sym, ◌∙◌}
use Rattle.yaml_mark.proofs.IndexLemmas.{set_absent}
use Rattle.yaml_mark.proofs.index.add_first.Goals as goal

pub returns : goal.returns
returns g c = λ bytes.
    let old = c.args.numbers.now in
    let text = c.args.text.now in
    btree_map_updates_text (string_bytes c.in_ok-key.key) old c.insert.new.self (Some c.args.number) c.in_ok-insert.ensures.updates bytes
    ∙ ap (λ k. cond (bytes_eq k bytes) (Some c.args.number) (get_by_text old bytes)) c.in_ok-key.ensures.ok
    ∙ set_absent (bytes_eq text bytes) (get_by_text old bytes) c.args.number
    (λ same. ap (λ k. is_some (get_by_text old k)) (sym ((bytes_eq-Decides text bytes).0 same)) ∙ sym c.if-contains_key.ensures)
