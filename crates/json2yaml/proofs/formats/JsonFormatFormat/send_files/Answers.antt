use Rattle.std.proofs.Common.{ℕ, List, OnOk, IfErr, map}
use Rattle.std.proofs.lemmas.Result.{on_ok_weaker}
use Rattle.yaml_program.proofs.Refusals.{refusal_weaker}
use Rattle.yaml_program.specs.Conversions.{OfNames, RefusesFiles, WroteStream}
use Rattle.json2yaml.proofs.{CanonicalTexts.as_canonical, CanonicalTexts.as_stream, Files.all_wrote, Refusals.refused_none}
use Rattle.json2yaml.proofs.formats.JsonFormatFormat.send_files.Goals as goal

pub returns-then-self-clause-wrote : goal.returns-then-self-clause-wrote
returns-then-self-clause-wrote g c =
    as_canonical c.args.self.now.deterministic c.args.self.now.settings
    (λ (IsYaml : List (List ℕ) → List ℕ → Type 0). OnOk c.send_canonical.result
    (OfNames (g.S.Sources.bytes_of c.args.sources.now) (map (λ name. name.now) c.args.names.now)
    (λ files. WroteStream IsYaml files (g.W.Write.contents c.args.sink.now) (g.W.Write.contents c.send_canonical.new.sink))))
    c.keys_by.result c.if-self.true c.keys_by.ensures c.send_canonical.ensures.wrote

pub returns-then-self-clause-refused : goal.returns-then-self-clause-refused
returns-then-self-clause-refused g c =
    as_canonical c.args.self.now.deterministic c.args.self.now.settings
    (λ (IsYaml : List (List ℕ) → List ℕ → Type 0). IfErr c.send_canonical.result
    (λ stop. RefusesFiles (g.S.Sources.bytes_of c.args.sources.now) IsYaml (map (λ name. name.now) c.args.names.now) stop.1))
    c.keys_by.result c.if-self.true c.keys_by.ensures c.send_canonical.ensures.refused

pub returns-clause-wrote : goal.returns-clause-wrote
returns-clause-wrote g c =
    as_stream c.args.self.now.deterministic c.args.self.now.settings
    (λ (IsYaml : List (List ℕ) → List ℕ → Type 0). OnOk c.send_stream.result
    (OfNames (g.S.Sources.bytes_of c.args.sources.now) (map (λ name. name.now) c.args.names.now)
    (λ files. WroteStream IsYaml files (g.W.Write.contents c.args.sink.now) (g.W.Write.contents c.send_stream.new.sink))))
    c.if-self.false
    (on_ok_weaker c.send_stream.result
    (λ (sent : _). λ files are.
    all_wrote c.args.self.now.settings files (g.W.Write.contents c.args.sink.now) (g.W.Write.contents c.send_stream.new.sink) (sent files are))
    c.send_stream.ensures.sent)

pub returns-clause-refused : goal.returns-clause-refused
returns-clause-refused g c =
    as_stream c.args.self.now.deterministic c.args.self.now.settings
    (λ (IsYaml : List (List ℕ) → List ℕ → Type 0). IfErr c.send_stream.result
    (λ stop. RefusesFiles (g.S.Sources.bytes_of c.args.sources.now) IsYaml (map (λ name. name.now) c.args.names.now) stop.1))
    c.if-self.false
    (refusal_weaker c.send_stream.result
    (λ (stops : _). λ files are.
    refused_none c.args.self.now.settings files (g.W.Write.contents c.args.sink.now) (g.W.Write.contents c.send_stream.new.sink) (stops files are))
    c.send_stream.ensures.refused)
