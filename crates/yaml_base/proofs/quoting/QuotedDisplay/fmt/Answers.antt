use Rattle.std.specs.Fmt.{WritesOnOk}
use Rattle.yaml_base.proofs.QuotedNames.{shows_halves, shows_name}
use Rattle.yaml_base.proofs.quoting.QuotedDisplay.fmt.Goals as goal

pub returns-in-Some-clause-writes : goal.returns-in-Some-clause-writes
returns-in-Some-clause-writes g c =
    shows_halves (λ text. WritesOnOk g.W.Write.write_str_gives c.args.f.now c.write.result text c.write.new.self) c.args.self.now.0.now
    c.in-Some.first.now c.in-Some.last.now c.in-Some.ensures.halves c.write.ensures.writes

pub returns-in-None-clause-writes : goal.returns-in-None-clause-writes
returns-in-None-clause-writes g c =
    shows_name (λ text. WritesOnOk g.W.Write.write_str_gives c.args.f.now c.write-in-None.result text c.write-in-None.new.self)
    c.args.self.now.0.now c.in-None.ensures.halves c.write-in-None.ensures.writes
