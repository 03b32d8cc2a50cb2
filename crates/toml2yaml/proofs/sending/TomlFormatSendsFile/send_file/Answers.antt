use Rattle.std.proofs.{Common.ℕ, Common.List, Common.Some, Common.◌≡◌, Common.refl, Common.subst, Common.◌∙◌, lemmas.Result.IfErr-weaker}
use Rattle.toml2yaml.specs.Conversions.{RefusedTomlFile, RefusesFile}
use Rattle.yaml_program.specs.{Faults.failure_status, declared.faults.Failure.Failure}
use Rattle.toml2yaml.proofs.sending.TomlFormatSendsFile.send_file.Goals as goal

pub returns-in-Ok-clause-refused : goal.returns-in-Ok-clause-refused
returns-in-Ok-clause-refused g c =
    let settings = c.args.self.now.settings in
    let sink = g.W.Write.contents c.args._sink.now in
    IfErr-weaker c.write_bytes.result
    (λ (failure : Failure). failure_status failure ≡ 1 → RefusesFile settings c.as_slice.result.now c.args.writer.now c.write_bytes.new.writer)
    (λ (failure : Failure). failure_status failure ≡ 1 → (file : List ℕ) → g.S.Sources.bytes_of c.args.sources.now c.args.name.now ≡ Some file
    → RefusedTomlFile settings file c.args.writer.now sink c.write_bytes.new.writer sink)
    (λ failure refused status file known. (
      subst (λ (bytes : List ℕ). RefusesFile settings bytes c.args.writer.now c.write_bytes.new.writer)
          (c.as_slice.ensures.value ∙ c.in-Ok.ensures file known) (refused status),
      refl,
    ))
    c.write_bytes.ensures.refused
