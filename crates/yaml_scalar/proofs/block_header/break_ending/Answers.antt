use Rattle.yaml_scalar.proofs.Common.{if◌then◌else◌, ap, sym, ◌∙◌, IsUtf8-encode, OneBreak, MoreBreaks}
use Rattle.std.proofs.{Common.encode_utf8, lemmas.Str.IsUtf8-append}
use Rattle.yaml_scalar.proofs.LastCharacters.{two-end}
use Rattle.yaml_scalar.proofs.block_header.break_ending.Goals as goal

pub returns-then-is_break : goal.returns-then-is_break
returns-then-is_break c =
    let prefix = c.args.prefix.now in
    let text = IsUtf8-append prefix (encode_utf8 c.args.before) c.utf8.prefix (IsUtf8-encode c.args.before c.ranges.before.0) in
    ap (λ b. if b then MoreBreaks else OneBreak) c.if-is_break.ensures
    ∙ sym (two-end prefix c.args.before c.args.last c.utf8.prefix text c.ranges.before.0 c.ranges.last.0 c.requires)

pub returns-else-is_break : goal.returns-else-is_break
returns-else-is_break c =
    let prefix = c.args.prefix.now in
    let text = IsUtf8-append prefix (encode_utf8 c.args.before) c.utf8.prefix (IsUtf8-encode c.args.before c.ranges.before.0) in
    ap (λ b. if b then MoreBreaks else OneBreak) c.if-is_break.ensures
    ∙ sym (two-end prefix c.args.before c.args.last c.utf8.prefix text c.ranges.before.0 c.ranges.last.0 c.requires)
