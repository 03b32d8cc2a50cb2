use Rattle.yaml_json.proofs.Common.{◌≡◌, refl, subst, ◌+◌, ◌<◌, drop, eqb, get_or, length, sym, ap, ◌∙◌, arith, in_string, lex, LeadsFrom, ne_eqb, drop_all}
use Rattle.yaml_json.proofs.Common.{IsCharBoundary-after_ascii}
use Rattle.json.specs.Lex.{between}
use Rattle.yaml_json.proofs.ModeSteps.{WithinString, string_begins, string_closed, string_cut, plain_passed, escape_passed}
use Rattle.yaml_json.proofs.LexSteps.{quote_at, string_at, escape_at, lex-none}
use Rattle.yaml_json.proofs.lexemes.after_string.Goals.{then-byte-eq92, else-byte-eq92}
use Rattle.yaml_json.proofs.lexemes.after_string.Goals as goal

pub range_from-requires : goal.range_from-requires
range_from-requires c positive =
    let d = c.args.text.now in
    let at = c.bytes.at in
    let same = c.as_bytes-bytes.ensures.value in
    let quote : get_or d at 0 ≡ 34 = ap (λ t. get_or t at 0) (sym same) ∙ c.if-byte-eq34.true in
    IsCharBoundary-after_ascii d at c.utf8.text (omega (arith, ap length same)) (omega (arith, quote))

pub returns-then-byte-eq34-clause-same : goal.returns-then-byte-eq34-clause-same
returns-then-byte-eq34-clause-same c =
    let d = c.args.text.now in
    let at = c.bytes.at in
    let same = c.as_bytes-bytes.ensures.value in
    let quote : get_or d at 0 ≡ 34 = ap (λ t. get_or t at 0) (sym same) ∙ c.if-byte-eq34.true in
    ap (lex between) c.range_from.ensures.value ∙ quote_at d at (omega (arith, ap length same)) quote ∙ c.bytes.invariant.0

pub returns-then-byte-eq34-clause-over : goal.returns-then-byte-eq34-clause-over
returns-then-byte-eq34-clause-over c =
    let d = c.args.text.now in
    let at = c.bytes.at in
    let same = c.as_bytes-bytes.ensures.value in
    let quote : get_or d at 0 ≡ 34 = ap (λ t. get_or t at 0) (sym same) ∙ c.if-byte-eq34.true in
    subst (LeadsFrom in_string (drop c.args.from d)) (sym c.range_from.ensures.value)
    (string_closed d c.args.from at (omega (arith, ap length same)) quote c.bytes.invariant.1)

pub bytes-preserved : goal.bytes-preserved
bytes-preserved c =
    let d = c.args.text.now in
    let at = c.bytes.at in
    let same = c.as_bytes-bytes.ensures.value in
    let within : at < length d = omega (arith, ap length same) in
    let so = c.bytes.invariant in
    let no_quote = ap (λ t. eqb (get_or t at 0) 34) (sym same) ∙ ne_eqb _ _ c.if-byte-eq34.false in
    elim c.if-byte-eq92.branch [
      | then-byte-eq92 w ↦
          let slash : get_or d at 0 ≡ 92 = ap (λ t. get_or t at 0) (sym same) ∙ w.if-byte-eq92.true in (
            ap (λ n. lex in_string (drop (at + n) d)) w.at-is ∙ escape_at d at within slash ∙ so.0,
            subst (λ n. WithinString d c.args.from (at + n)) (sym w.at-is) (escape_passed d c.args.from at within slash so.1),
          )
      | else-byte-eq92 w ↦
          let no_slash = ap (λ t. eqb (get_or t at 0) 92) (sym same) ∙ ne_eqb _ _ w.if-byte-eq92.false in (
            ap (λ n. lex in_string (drop (at + n) d)) w.at-is ∙ string_at d at within no_quote no_slash ∙ so.0,
            subst (λ n. WithinString d c.args.from (at + n)) (sym w.at-is) (plain_passed d c.args.from at within no_quote no_slash so.1),
          )
    ]

pub returns-clause-same : goal.returns-clause-same
returns-clause-same c =
    let d = c.args.text.now in
    let at = c.bytes.at in
    let same = c.as_bytes-bytes.ensures.value in
    ap (lex between) c.range_from-2.ensures.value
    ∙ ap (lex between) (drop_all (length c.as_bytes-bytes.result.now) d (omega (arith, ap length same))) ∙ lex-none between
    ∙ sym (ap (lex in_string) (drop_all at d (omega (arith, ap length same))) ∙ lex-none in_string) ∙ c.bytes.invariant.0
