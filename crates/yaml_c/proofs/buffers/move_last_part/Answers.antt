use Rattle.std.proofs.Common.{rules, ◌≡◌, ◌≤◌, drop, take, length, ◌-◌, List, ℕ}
use Rattle.std.proofs.lemmas.Slice.{between_to_end}
use Rattle.yaml_c.proofs.MovingLemmas.{part_moved}
use Rattle.yaml_c.proofs.buffers.move_last_part.Goals as goal

pub returns-clause-moved : goal.returns-clause-moved
returns-clause-moved g c =
    let bytes : List ℕ = c.args.bytes.now.items in
    let out : List ℕ = c.args.out.now in
    let kept = c.args.kept in
    let start = c.max-start.result in
    let low : kept ≤ start = search rules in
    let within : start ≤ length bytes = search rules in
    let fits : length bytes - kept ≤ length out = search rules in
    let left : c.shrink_to_fit.new.self.items ≡ take start bytes = search rules in
    let part : c.copy_from_slice.new.self ≡ drop start bytes = search (rules, between_to_end) in
    let end : c.len-end.result ≡ length bytes = search rules in
    rw (left, part, end) (part_moved bytes out kept start low within fits)
