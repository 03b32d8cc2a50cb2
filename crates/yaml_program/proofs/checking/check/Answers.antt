use Rattle.std.proofs.Common.{rules, ℕ, List, ◌++◌, ap, inr, sym, ◌∙◌}
use Rattle.yaml_program.proofs.Differing.{another_there, nothing_there}
use Rattle.yaml_program.proofs.checking.check.Goals as goal

pub returns-in-Ok-Some-clause-differs : goal.returns-in-Ok-Some-clause-differs
returns-in-Ok-Some-clause-differs g c one = λ files are.
    let (bytes, appends, is) = c.in_default.ensures.wrote files are in
    inr (
      bytes,
      is,
      another_there (g.S.Sources.bytes_of c.args.sources.now c.args.name.now) c.send_all.new.sink.items c.in-Ok-Some.there.items bytes
          (λ same. c.are_same.ensures.other c.if-are_same.false (c.as_slice.ensures.value ∙ same ∙ sym c.as_slice-in-Ok-Some.ensures.value))
          (appends ∙ ap (λ (before : List ℕ). before ++ bytes) c.new-yaml.ensures.items) (search rules),
    )

pub returns-in-Ok-None-clause-differs : goal.returns-in-Ok-None-clause-differs
returns-in-Ok-None-clause-differs g c one = λ files are.
    let (bytes, appends, is) = c.in_default.ensures.wrote files are in
    inr (bytes, is, nothing_there (g.S.Sources.bytes_of c.args.sources.now c.args.name.now) bytes (search rules))
