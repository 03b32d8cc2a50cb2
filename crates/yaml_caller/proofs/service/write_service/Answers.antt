use Rattle.std.proofs.Common.{◌≡◌, rules}
use Rattle.yaml_caller.proofs.Common.{Bool, subst}
use Rattle.yaml_writer.specs.WasGiven.{WasGiven}
use Rattle.yaml_caller.proofs.ServiceLemmas.{fields_given, mapping_enclosed}
use Rattle.yaml_caller.specs.Service.{service_entries}
use Rattle.yaml_caller.proofs.service.write_service.Goals as goal

pub returns : goal.returns
returns g c =
    let before = c.args.writer.now in
    let opened = c.begin_mapping.new.self in
    let filled = c.write_labels.new.writer in
    let port : c.from.result ≡ c.args.service.now.port = search rules in
    let replicas : c.from-2.result ≡ c.args.service.now.replicas = search rules in
    mapping_enclosed before opened filled c.end.new.self (service_entries before.canonical c.args.service.now) c.end.result c.requires.bare
    c.in_ok-begin_mapping.ensures
    (subst (λ (canonical : Bool). WasGiven opened (service_entries canonical c.args.service.now) filled) c.in_ok-begin_mapping.ensures.canonical
    (fields_given c.args.service.now opened c.write_text.new.writer c.write_number.new.writer c.write_number-2.new.writer c.write_list.new.writer filled
    c.as_str.result.now c.from.result c.from-2.result c.as_slice.result.now c.as_slice-2.result.now c.as_str.ensures.value port replicas
    c.as_slice.ensures.value c.as_slice-2.ensures.value c.in_ok-write_text.ensures c.in_ok-write_number.ensures c.in_ok-write_number-2.ensures
    c.in_ok-write_list.ensures c.in_ok-write_labels.ensures))
    c.end.ensures.ended
