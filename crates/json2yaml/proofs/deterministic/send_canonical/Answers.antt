use Rattle.yaml_program.specs.Conversions.{HaveNoYaml, WroteStream}
use Rattle.json2yaml.specs.Conversions.{IsCanonicalOfJsonFiles}
use Rattle.json2yaml.proofs.CanonicalTexts.{of_name, of_stream}
use Rattle.json2yaml.proofs.deterministic.send_canonical.Goals as goal

pub returns-in-Ok-clause-wrote : goal.returns-in-Ok-clause-wrote
returns-in-Ok-clause-wrote g c =
    of_stream (g.S.Sources.bytes_of c.args.sources.now)
    (λ files. WroteStream (IsCanonicalOfJsonFiles c.args.keys) files (g.W.Write.contents c.args.sink.now) (g.W.Write.contents c.send_text.new.sink))
    c.args.names.now c.in_default.ensures.cases c.in-Ok.ensures.wrote

pub returns-in-Err-clause-refused : goal.returns-in-Err-clause-refused
returns-in-Err-clause-refused g c = λ status.
    of_stream (g.S.Sources.bytes_of c.args.sources.now) (HaveNoYaml (IsCanonicalOfJsonFiles c.args.keys)) c.args.names.now
    c.in_default.ensures.cases (c.in-Err.ensures.refused status)

pub returns-in-Ok-send_text-clause-wrote : goal.returns-in-Ok-send_text-clause-wrote
returns-in-Ok-send_text-clause-wrote g c =
    of_name (g.S.Sources.bytes_of c.args.sources.now)
    (λ files. WroteStream (IsCanonicalOfJsonFiles c.args.keys) files (g.W.Write.contents c.args.sink.now) (g.W.Write.contents c.send_text-2.new.sink))
    c.args.names.now c.in-Some.name.now c.in-Some.others.now c.in-Some.ensures.cases.0 c.in_default-split_first.ensures.cases c.in-Ok-send_text.ensures.wrote
