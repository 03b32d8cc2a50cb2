use Rattle.yaml_json.proofs.Common.{List, ℕ, subst, ◌≡◌, ◌<◌, drop, ◌+◌, true, get_or, length, refl, sym, ap, ◌∙◌, arith, IsCharBoundary-after_ascii, is_space}
use Rattle.yaml_json.proofs.Common.{Leads}
use Rattle.std.proofs.lemmas.Str.{IsCharBoundary-start}
use Rattle.yaml_json.proofs.{LexSteps.each_space, LexSteps.blank_at, ModeSteps.leads_nowhere, ModeSteps.leads_on, ModeSteps.leads_past_blank}
use Rattle.yaml_json.proofs.lexemes.skip_blanks.Goals as goal

pub blanks-init : goal.blanks-init
blanks-init c = (IsCharBoundary-start c.args.text.now c.utf8.text, refl, leads_nowhere c.args.text.now)

pub blanks-preserved : goal.blanks-preserved
blanks-preserved c =
    let d = c.args.text.now in
    let at = c.blanks.at in
    let same = c.as_bytes-bytes.ensures.value in
    let within : at < length d = omega (arith, ap length same) in
    let blank : is_space (get_or d at 0) ≡ true = ap (λ t. is_space (get_or t at 0)) (sym same) ∙ sym c.is_blank.ensures ∙ c.if-is_blank.true in
    let small = each_space (λ v. v < 128) (omega arith) (omega arith) (omega arith) (omega arith) (get_or d at 0) blank in (
      IsCharBoundary-after_ascii d at c.utf8.text within small,
      blank_at d at within blank ∙ c.blanks.invariant.1,
      leads_on d (drop at d) (drop (at + 1) d) c.blanks.invariant.2 (leads_past_blank d at within blank),
    )
