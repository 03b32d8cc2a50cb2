use Rattle.yaml_caller.proofs.Common.{subst}
use Rattle.yaml_base.proofs.Common.{Settings}
use Rattle.yaml_writer.specs.Writing.{IsNewWriter}
use Rattle.yaml_caller.proofs.ServiceLemmas.{read_answered, stream_answered}
use Rattle.yaml_caller.proofs.service.service_yaml.Goals as goal

pub write_service-requires : goal.write_service-requires
write_service-requires g c = record { bare = (c.in_ok-writer.ensures.made.anchor, c.in_ok-writer.ensures.made.tag) }

pub returns : goal.returns
returns g c =
    let writer = c.in_ok-writer.writer in
    let stream = stream_answered c.args.service.now c.finish.result writer c.write_service.new.writer
    (subst (λ (given : Settings). IsNewWriter given writer) c.value_settings.ensures c.in_ok-writer.ensures.made) c.in_ok-write_service.ensures
    c.finish.ensures.finishes in
    record { stream = stream; reads = read_answered c.args.service.now c.finish.result stream }
