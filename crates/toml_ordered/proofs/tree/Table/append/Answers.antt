use Rattle.toml_ordered.proofs.Common.{◌≡◌, ℕ, List, Some, length, string_bytes, subst, sym, ap, ◌∙◌, arith, rules, common_steps, TomlNodes, keys_view}
use Rattle.toml_ordered.{proofs.KeyPlaces.appended, proofs.Trees.Entry, specs.Keys.IsNoted}
use Rattle.toml_ordered.proofs.tree.Table.append.Goals as goal

pub returns : goal.returns
returns c =
    let es = c.args.self.now.keys.items in
    let before = c.args.self.now.index in
    let after = c.note.new.index in
    let count : c.len.result ≡ length es = grind (arith, common_steps) in
    let noted : IsNoted (string_bytes c.args.key) (length es) before after =
    subst (λ (n : ℕ). IsNoted (string_bytes c.args.key) n before after) count c.in_default.ensures.noted in
    record {
      last = c.in_default-push.ensures.items;
      failed = search rules;
      value = ap (λ (ns : TomlNodes). Some ns) (sym (appended before after es (c.args.key, c.args.value, c.args.left) c.requires noted))
          ∙ ap (λ (ds : List Entry). Some (keys_view ds after)) (sym c.in_default-push.ensures.items);
      other = λ x. appended before after es (c.args.key, x, c.args.left) c.requires noted;
    }
