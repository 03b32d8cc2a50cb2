use Rattle.yaml_json.proofs.Common.{arith, sym, ◌∙◌, length, refl, rules}
use Rattle.std.{proofs.lemmas.List.length-set, specs.Vec.vec_len, specs.List.slice_range}
use Rattle.yaml_json.proofs.HeldNameLemmas.{never_last, adds_again, adds_listed, adds_more, adds_unkept, never_past}
use Rattle.yaml_json.proofs.names.Names.add.Goals as goal

pub returns-then-is_among : goal.returns-then-is_among
returns-then-is_among g c =
    let held = c.args.self.now in
    record {
      kept = refl;
      adds = λ names levels holds. adds_again held.few.items held.levels.items (vec_len held.levels) (grind arith) c.in-Some.level.now c.in-Some.ensures.value
          c.in-Some-get.few.now (grind arith) c.args.name names levels held.are_kept c.if-not-self.false holds (sym c.is_among.ensures ∙ c.if-is_among.true);
      as_long = length-set _ _ _;
    }

pub returns-in-Ok : goal.returns-in-Ok
returns-in-Ok g c =
    let held = c.args.self.now in
    record {
      kept = refl;
      adds = λ names levels holds. adds_listed held.few.items held.levels.items (vec_len held.levels) (grind arith) c.in-Some.level.now c.in-Some.ensures.value
          c.in-Some-get.few.now (grind arith) c.args.name names levels held.are_kept c.if-not-self.false holds (sym c.is_among.ensures ∙ c.if-is_among.false)
          c.push.new.self.items c.in-Ok.ensures.items (c.is_empty.ensures.0 c.if-is_empty.true);
      as_long = length-set _ _ _;
    }

pub returns-in-Ok-insert : goal.returns-in-Ok-insert
returns-in-Ok-insert g c =
    let held = c.args.self.now in
    record {
      kept = refl;
      adds = λ names levels holds. adds_more held.few.items held.levels.items (vec_len held.levels) (grind arith) c.in-Some.level.now c.in-Some.ensures.value
          c.in-Some-get.few.now (grind arith) c.args.name names levels held.are_kept c.if-not-self.false holds (sym c.is_among.ensures ∙ c.if-is_among.false)
          c.insert.new.self c.in-Ok-insert.ensures.updates c.in-Ok-insert.new c.in-Ok-insert.ensures.added;
      as_long = length-set _ _ _;
    }
