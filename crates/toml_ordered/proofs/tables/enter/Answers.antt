use Rattle.toml_ordered.proofs.Common.{◌≡◌, ◌∷◌, ℕ, List, string_bytes, refl, sym, subst, ◌∙◌, arith, common_steps, PassesSteps}
use Rattle.std.specs.Vec.{with_item}
use Rattle.toml_ordered.proofs.Passing.{passes_there, passes_new, refuses_there}
use Rattle.toml_ordered.specs.{Passing.Fills, declared.tree.Node.NotANumber, declared.tree.Table.Table as CodeTable}
use Rattle.toml_ordered.specs.declared.tree.holder.Holder.TheVariants as holder
use Rattle.toml_ordered.proofs.tables.enter.Goals as goal

pub returns-in-Ok : goal.returns-in-Ok
returns-in-Ok c rest =
    let t : CodeTable = record { keys = with_item c.args.outer.keys c.in-Some.at c.take_out.new.member; index = c.args.outer.index } in
    passes_there _ _ _ _ _ _ _ (rw c.as_str.ensures.value at c.in-Some.ensures.found) (sym c.index_mut.ensures.value) _ _ _ t c.take_out.ensures.same_key
    c.in-Ok.ensures.taken refl refl

pub returns-in-Err : goal.returns-in-Err
returns-in-Err c rest =
    refuses_there c.args.way (string_bytes c.args.key.now) rest c.args.left c.in-Some.at c.args.outer c.index_mut.result.now
    (rw c.as_str.ensures.value at c.in-Some.ensures.found) (sym c.index_mut.ensures.value) c.in-Err.fault c.in-Err.ensures.taken.0 c.in-Err.ensures.taken.1

pub returns-in_default-append : goal.returns-in_default-append
returns-in_default-append c rest =
    let name = c.in-Ok-clone.name in
    let same : string_bytes name ≡ string_bytes c.args.key.now = grind (arith, common_steps) in
    let at = c.len-at.result in
    let origin = c.origin.result in
    let t : CodeTable = c.append.new.self in
    subst (λ (k : List ℕ). PassesSteps ((c.args.way, k) ∷ rest) rest c.args.left c.args.outer c.new.result (Fills t at (holder.Table origin))) same
    (passes_new c.args.way rest c.args.left at c.args.outer c.new.result t (name, NotANumber, c.args.left) origin
    (rw (c.as_str.ensures.value, ← same) at c.in-None.ensures.found) refl c.new.ensures.keys (c.len-at.ensures ∙ c.args.outer.keys.ok.0)
    c.origin.ensures c.in_default-append.ensures.last c.in_default-append.ensures.other)
