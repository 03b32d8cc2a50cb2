use Rattle.yaml_json.proofs.Common.{ℕ, length, take, List, ◌≡◌, subst, sym, HasScanned, CutsAt, CutsFirstText}
use Rattle.yaml_json.proofs.Cutting.{cuts_first, may_cut, whole_first}
use Rattle.yaml_json.proofs.cuts.first_cut.Goals as goal

pub returns-in-Some : goal.returns-in-Some
returns-in-Some c =
    let text = c.args.text.now in
    let cuts = subst (λ (t : List ℕ). CutsAt t c.in-Some.end) c.as_bytes.ensures.value c.in-Some.ensures in
    subst (λ (first : List ℕ). CutsFirstText text first c.split_at.result.1.now) (sym c.split_at.ensures.front)
    (subst (CutsFirstText text (take c.in-Some.end text)) (sym c.split_at.ensures.back) (cuts_first text c.in-Some.end cuts))

pub returns-in-None : goal.returns-in-None
returns-in-None c =
    let has = subst (λ (t : List ℕ). HasScanned t c.find_end.new.cut × (c.find_end.new.cut.scanned ≡ length t)) c.as_bytes.ensures.value c.in-None.ensures in
    whole_first c.args.text.now c.find_end.new.cut has.0 has.1
