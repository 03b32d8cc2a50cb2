use Rattle.yaml_json.proofs.Common.{◌≡◌, ◌⊎◌, [], inl, inr, rules, sym, ap, ◌∙◌, arith, head}
use Rattle.yaml_json.proofs.Stepping.{bad_here, begun_here, closed_here, may_not_begin, may_not_close}
use Rattle.yaml_json.proofs.tokens.read.Goals as goal

pub returns-then-byte : goal.returns-then-byte
returns-then-byte g c = record {
  reads =
      let d = c.args.text.now in
      let seen : head d ≡ c.byte_at-byte.result = ap head (sym c.as_bytes.ensures.value) ∙ sym c.byte_at-byte.ensures in
      let closer : (c.byte_at-byte.result ≡ 125) ⊎ (c.byte_at-byte.result ≡ 93) = grind arith in
      let which : (head d ≡ 125) ⊎ (head d ≡ 93) = elim closer [ inl object ↦ inl (seen ∙ object) | inr array ↦ inr (seen ∙ array) ] in
      bad_here c.args.stage d c.bad.result (may_not_close c.args.stage d c.requires.over (sym c.may_close.ensures ∙ c.if-may_close.false) which)
      c.bad.ensures.token c.bad.ensures.over c.bad.ensures.tidy;
  over = c.bad.ensures.stays;
}

pub returns-then-not-may_begin : goal.returns-then-not-may_begin
returns-then-not-may_begin g c = record {
  reads =
      let d = c.args.text.now in
      let seen : head d ≡ c.byte_at-byte.result = ap head (sym c.as_bytes.ensures.value) ∙ sym c.byte_at-byte.ensures in
      let no_object : c.byte_at-byte.result ≡ 125 → ⊥ = grind arith in
      let no_array : c.byte_at-byte.result ≡ 93 → ⊥ = grind arith in
      let some : d ≡ [] → ⊥ = first_of (search rules, grind arith) in
      let step = c.bad-then-not-may_begin in
      bad_here c.args.stage d step.result (may_not_begin c.args.stage d c.requires.over (sym c.may_begin.ensures ∙ c.if-not-may_begin.true) c.requires.tidy some
      (λ e. no_object (sym seen ∙ e)) (λ e. no_array (sym seen ∙ e))) step.ensures.token step.ensures.over step.ensures.tidy;
  over = c.bad-then-not-may_begin.ensures.stays;
}

pub returns-then-may_close : goal.returns-then-may_close
returns-then-may_close g c = record {
  reads = closed_here c.args.stage c.args.text.now c.closing.result (sym c.may_close.ensures ∙ c.if-may_close.true) c.closing.ensures.steps;
  over = c.closing.ensures.over;
}

pub returns-in-Ok : goal.returns-in-Ok
returns-in-Ok g c = record {
  reads = begun_here c.args.stage c.args.text.now c.in-Ok.step (sym c.may_begin.ensures ∙ c.if-not-may_begin.false) c.in-Ok.ensures.steps;
  over = c.in-Ok.ensures.over;
}
