use Rattle.std.{proofs.Common.◌≡◌, proofs.Common.◌+◌, specs.List.count_by}
use Rattle.yaml_base.specs.values.LinesAndColumns.{is_line_feed}
use Rattle.yaml_base.proofs.places.line_breaks.Given as goal

abbrev pub invariant-loop-block : goal.invariant-loop-block
invariant-loop-block l =
    (l.block-iterator.size ≡ 255) × (l.count + count_by is_line_feed l.block-iterator.rest.now ≡ count_by is_line_feed l.bytes)
