use Rattle.std.{proofs.Common.◌≡◌, proofs.Common.take, specs.List.count_by}
use Rattle.yaml_base.specs.values.LinesAndColumns.{is_line_feed}
use Rattle.yaml_base.proofs.places.line_breaks_in_block.Given as goal

abbrev pub invariant-loop-byte : goal.invariant-loop-byte
invariant-loop-byte l = l.count ≡ count_by is_line_feed (take l.byte-index l.bytes)
