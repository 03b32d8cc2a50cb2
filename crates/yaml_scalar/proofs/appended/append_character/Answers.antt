use Rattle.yaml_scalar.proofs.Common.{rules, true, ◌≡◌, sym, ◌∙◌}
use Rattle.yaml_scalar.proofs.AppendedTexts.{escape_appended}
use Rattle.yaml_scalar.proofs.appended.append_character.Goals as goal

pub returns-in-Letter : goal.returns-in-Letter
returns-in-Letter g c =
    let on : c.needs_escape.result ≡ true = search rules in
    escape_appended c.extend_from_slice-in-Letter.result c.args.bytes.now.items c.extend_from_slice-in-Letter.new.self.items c.in-Letter.text c.args.c
    (sym c.needs_escape.ensures ∙ on) c.in-Letter.ensures c.extend_from_slice-in-Letter.ensures.items

pub returns-in-Two : goal.returns-in-Two
returns-in-Two g c =
    let on : c.needs_escape.result ≡ true = search rules in
    escape_appended c.extend_from_slice-in-Two.result c.args.bytes.now.items c.extend_from_slice-in-Two.new.self.items c.in-Two.text c.args.c
    (sym c.needs_escape.ensures ∙ on) c.in-Two.ensures c.extend_from_slice-in-Two.ensures.items

pub returns-in-Four : goal.returns-in-Four
returns-in-Four g c =
    let on : c.needs_escape.result ≡ true = search rules in
    escape_appended c.extend_from_slice-in-Four.result c.args.bytes.now.items c.extend_from_slice-in-Four.new.self.items c.in-Four.text c.args.c
    (sym c.needs_escape.ensures ∙ on) c.in-Four.ensures c.extend_from_slice-in-Four.ensures.items
