use Rattle.toml_ordered.proofs.Common.{◌≡◌, suc, ◌==◌, ◌-◌, true, false, ℕ, sym, subst, ap, ◌∙◌, arith, ◌⊎◌, first, items_view, IsFoundHere, ClashesIn, ne_eqb}
use Rattle.toml_ordered.proofs.Common.{common_steps}
use Rattle.toml_ordered.proofs.{Blaming.atom_unblamed, Blaming.neither, Conflicts.other_than, Depths.nests_here, Heads.val_opens, Turns.val_atom}
use Rattle.toml_ordered.proofs.Around.{array_begins, braces_begin, pair_begins}
use Rattle.toml_ordered.proofs.values.begin.Goals as goal

pub returns-in-Ok : goal.returns-in-Ok
returns-in-Ok c =
    let s = c.args.s.now in
    let a : (first s == 91) ≡ false = rw (← c.first-byte.ensures) (ne_eqb c.first-byte.result 91 c.if-byte-ne91.true) in
    let b : (first s == 123) ≡ false = rw (← c.first-byte.ensures) (ne_eqb c.first-byte.result 123 c.if-byte-ne123.true) in
    ((rw (val_atom s a b c.args.depth) c.in-Ok.ensures.0, c.in-Ok.ensures.1), c.in-Ok.ensures.1)

pub returns-in-Err : goal.returns-in-Err
returns-in-Err c =
    let s = c.args.s.now in
    let a : (first s == 91) ≡ false = rw (← c.first-byte.ensures) (ne_eqb c.first-byte.result 91 c.if-byte-ne91.true) in
    let b : (first s == 123) ≡ false = rw (← c.first-byte.ensures) (ne_eqb c.first-byte.result 123 c.if-byte-ne123.true) in (
      λ real. rw (val_atom s a b c.args.depth) (c.in-Err.ensures.0 real),
      other_than _ _ c.in-Err.refused (λ real. neither c.args.depth s (atom_unblamed c.args.depth s a b)) c.in-Err.ensures.1,
    )

pub returns-then-depth-eq0 : goal.returns-then-depth-eq0
returns-then-depth-eq0 c =
    let s = c.args.s.now in
    let opening : (first s ≡ 91) ⊎ (first s ≡ 123) = grind (arith, common_steps) in
    let zero : c.args.depth ≡ 0 = c.if-depth-eq0.true in (
      λ real. rw zero (val_opens s opening),
      nests_here c.args.depth s c.too_deep.result (λ key one two. ClashesIn c.args.depth key one two s) zero opening c.too_deep.ensures,
    )

pub returns-then-byte-eq91 : goal.returns-then-byte-eq91
returns-then-byte-eq91 c =
    let s = c.args.s.now in
    let less = c.args.depth - 1 in
    let is : suc less ≡ c.args.depth = omega arith in
    let opening : first s ≡ 91 = sym c.first-byte.ensures ∙ c.if-byte-eq91.true in
    let a : (first s == 91) ≡ true = rw opening in
    let shorter = c.skip.ensures.shorter in
    let within = c.next_item.ensures.1 in (
      subst (λ (n : ℕ). IsFoundHere n s c.next_item.result.0 c.next_item.result.1.now) is
          (c.next_item.ensures.0 less s (array_begins less s _ _ a opening c.skip.ensures.rest shorter (ap items_view c.new.ensures.items))),
      omega (arith, shorter, within),
    )

pub returns-else-byte-eq91 : goal.returns-else-byte-eq91
returns-else-byte-eq91 c =
    let s = c.args.s.now in
    let less = c.args.depth - 1 in
    let is : suc less ≡ c.args.depth = omega arith in
    let a : (first s == 91) ≡ false = rw (← c.first-byte.ensures) (ne_eqb c.first-byte.result 91 c.if-byte-eq91.false) in
    let opening : first s ≡ 123 = grind (arith, common_steps) in
    let b : (first s == 123) ≡ true = rw opening in
    pair_begins _ _ s _ _ _ is (braces_begin _ s _ _ a b opening c.skip-else-byte-eq91.ensures.rest c.skip-else-byte-eq91.ensures.shorter
    c.new-else-byte-eq91.ensures.view c.new-else-byte-eq91.ensures.keys) c.skip-else-byte-eq91.ensures.shorter c.next_pair.ensures
