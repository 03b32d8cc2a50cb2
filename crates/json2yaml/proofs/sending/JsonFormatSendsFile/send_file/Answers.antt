use Rattle.std.proofs.Common.{ℕ, Option, List, Some, IfSome, ◌≡◌, subst, sym, ◌∙◌}
use Rattle.yaml_json.specs.Sent.{StopsSending}
use Rattle.yaml_writer.proofs.GivenLemmas.{bare_awaits_none}
use Rattle.json2yaml.specs.Conversions.{SentJsonFile}
use Rattle.json2yaml.proofs.sending.JsonFormatSendsFile.send_file.Goals as goal

pub returns-in-Ok-send_json_texts-clause-free : goal.returns-in-Ok-send_json_texts-clause-free
returns-in-Ok-send_json_texts-clause-free g c = bare_awaits_none c.send_json_texts.new.writer c.in-Ok-send_json_texts.ensures.bare

pub returns-in-Ok-send_json_texts-clause-sent : goal.returns-in-Ok-send_json_texts-clause-sent
returns-in-Ok-send_json_texts-clause-sent g c = λ file is. subst (λ (bytes : Option (List ℕ)). IfSome bytes (λ text. SentJsonFile c.args.self.now.settings text
    c.args.writer.now (g.W.Write.contents c.args.sink.now) c.send_json_texts.new.writer
    (g.W.Write.contents c.send_json_texts.new.sink)))
    (subst (λ (known : Option (List ℕ)). IfSome known (λ bytes. g.S.Reader.Read.remaining c.in-Ok.reader ≡ Some bytes)) is c.in-Ok.ensures.known)
    c.in-Ok-send_json_texts.ensures.sent

pub returns-clause-refused : goal.returns-clause-refused
returns-clause-refused g c = λ status file is.
    let stops = subst (λ (bytes : Option (List ℕ)).
    IfSome bytes
    (λ text. StopsSending c.args.self.now.settings.values.depth c.args.self.now.settings.unique_names c.args.self.now.settings.values.flow
    text c.args.writer.now (g.W.Write.contents c.args.sink.now) c.in-Err-send_json_texts.error c.send_json_texts.new.writer
    (g.W.Write.contents c.send_json_texts.new.sink)))
    (subst (λ (known : Option (List ℕ)). IfSome known (λ bytes. g.S.Reader.Read.remaining c.in-Ok.reader ≡ Some bytes)) is c.in-Ok.ensures.known)
    c.in-Err-send_json_texts.ensures.stopped in
    record { error = c.in-Err-send_json_texts.error; status = sym c.failure_of.ensures ∙ status; sound = c.in-Err-send_json_texts.ensures.sound; stops = stops }
