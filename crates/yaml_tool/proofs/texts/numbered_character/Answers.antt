use Rattle.std.proofs.{Common.rules, lemmas.Str.chars_from_encodes}
use Rattle.yaml_tool.proofs.Common.{length, ◌≡◌, chars}
use Rattle.yaml_tool.proofs.texts.numbered_character.Goals as goal

pub returns-then-count-lt1 : goal.returns-then-count-lt1
returns-then-count-lt1 c =
    let count : c.count-count.result ≡ length (chars c.args.digits.now) = search (rules, chars_from_encodes) in
    search (rules, count)

pub returns : goal.returns
returns c =
    let count : c.count-count.result ≡ length (chars c.args.digits.now) = search (rules, chars_from_encodes) in
    search (rules, count)
