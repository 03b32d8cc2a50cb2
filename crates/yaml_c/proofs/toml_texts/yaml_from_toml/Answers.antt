use Rattle.yaml_c.proofs.Common.{ℕ, ℤ, Bool, List, ◌≡◌, rules, subst, sym, w32, of_z, to_z, Settings, seen_settings}
use Rattle.yaml_c.proofs.TomlLemmas.{right_toml}
use Rattle.std.specs.Prelude.{IsUtf8}
use Rattle.std.proofs.Common.{ap}
use Rattle.yaml_c.specs.{Answers.CopiesToCaller, Answers.results_failed, Arena.is_on, declared.results.CallResult.CallResult}
use Rattle.yaml_c.specs.GivenSettings.{depth_given}
use Rattle.yaml_c.specs.TomlAnswers.{TomlAnswer, IsTomlAnswer, toml_answer_of, is_no_text, toml_results}
use Rattle.yaml_c.proofs.toml_texts.yaml_from_toml.Goals as goal

pub returns : goal.returns
returns c =
    let given = c.args.options.now in
    let s = c.value_settings_from-settings.result in
    let by = c.value_settings_from-settings.ensures in
    let answer : TomlAnswer = toml_answer_of c.yaml_from_toml.result in
    let same : c.in-Ok.content.now ≡ c.args.text.now = search rules in
    let fits : to_z w32 (of_z w32 c.move_toml.result) ≡ c.move_toml.result = search rules in
    let text = c.args.text.now in
    let emitter : Settings = seen_settings s.emitter in
    let depth = depth_given given.depth in
    let right = right_toml s c.in-Ok.content.now c.yaml_from_toml.result (subst IsUtf8 (sym same) c.in-Ok.ensures.cases.1) c.yaml_from_toml.ensures in (
      answer,
      subst (λ (x : Settings). IsTomlAnswer x (is_on given.flow) depth text answer) by.emitter
          (subst (λ (x : Bool). IsTomlAnswer emitter x depth text answer) by.flow
          (subst (λ (x : ℕ). IsTomlAnswer emitter s.flow x text answer) by.depth
          (subst (λ (x : List ℕ). IsTomlAnswer emitter s.flow s.depth x answer) same right))),
      subst (λ (status : ℤ). CopiesToCaller (toml_results answer c.args.out.now) status c.move_toml.new.out c.move_toml.new.report) (sym fits)
          c.move_toml.ensures,
    )

pub returns-in-Err : goal.returns-in-Err
returns-in-Err c =
    let place = c.position_of-position in (
      is_no_text place.result,
      record { refused = c.in-Err.ensures.cases.0; at = c.valid_up_to.result; valid = search rules; is = place.ensures },
      ap (λ (report : CallResult). results_failed 11 report c.args.out.now) c.at_place.ensures,
    )
