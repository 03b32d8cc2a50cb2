use Rattle.yaml_c.proofs.Common.{ℕ, ℤ, List, ◌≡◌, rules, subst, sym, w32, of_z, to_z}
use Rattle.yaml_c.proofs.CanonicalLemmas.{right_found}
use Rattle.std.specs.Prelude.{IsUtf8}
use Rattle.std.proofs.Common.{ap}
use Rattle.yaml_value.specs.declared.keys.Keys.{Keys}
use Rattle.yaml_c.specs.{Answers.CopiesToCaller, Answers.results_failed, declared.results.CallResult.CallResult}
use Rattle.yaml_c.specs.CanonicalJson.{Found, IsFound, canonical_results, found_of, is_no_text}
use Rattle.yaml_c.proofs.canonical_json.yaml_canonical_from_json.Goals as goal

pub returns : goal.returns
returns c =
    let mode = c.keys_from-keys.result in
    let call = c.canonical_from_json.ensures in
    let found : Found = found_of c.canonical_from_json.result in
    let same : c.in-Ok.content.now ≡ c.args.text.now = search rules in
    let fits : to_z w32 (of_z w32 c.move_canonical.result) ≡ c.move_canonical.result = search rules in
    let utf8 = subst IsUtf8 (sym same) c.in-Ok.ensures.cases.1 in
    let right = right_found mode c.in-Ok.content.now c.canonical_from_json.result utf8 call.written call.why in (
      found,
      subst (λ (x : Keys). IsFound x c.args.text.now found) c.keys_from-keys.ensures (subst (λ (x : List ℕ). IsFound mode x found) same right),
      subst (λ (status : ℤ). CopiesToCaller (canonical_results found c.args.out.now) status c.move_canonical.new.out c.move_canonical.new.report)
          (sym fits) c.move_canonical.ensures,
    )

pub returns-in-Err : goal.returns-in-Err
returns-in-Err c =
    let place = c.position_of-position in (
      is_no_text place.result,
      record { refused = c.in-Err.ensures.cases.0; at = c.valid_up_to.result; valid = search rules; is = place.ensures },
      ap (λ (report : CallResult). results_failed 5 report c.args.out.now) c.at_place.ensures,
    )
