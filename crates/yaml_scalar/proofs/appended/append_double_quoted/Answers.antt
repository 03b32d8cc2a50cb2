use Rattle.yaml_scalar.proofs.Common.{chars}
use Rattle.yaml_scalar.proofs.AppendedTexts.{quotes_around}
use Rattle.yaml_scalar.proofs.appended.append_double_quoted.Goals as goal

pub returns : goal.returns
returns g c =
    quotes_around c.args.bytes.now.items c.push.new.self.items c.append_inside.new.bytes.items c.push-2.new.self.items (chars c.args.text.now)
    c.in_ok-push.ensures.items c.in_ok-append_inside.ensures c.in_ok-push-2.ensures.items
