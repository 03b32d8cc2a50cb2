use Rattle.std.proofs.Common.{◌≤◌, ◌≡◌, ℕ, List, false, take, length, map}
use Rattle.yaml_writer.specs.Writing.{awaits_node}
use Rattle.yaml_program.specs.{Conversions.AreBytesOf, Streams.SentBehind}
use Rattle.yaml_program.proofs.streams.send_others.Given as goal

abbrev pub invariant-loop-name : goal.invariant-loop-name
invariant-loop-name g l =
    (l.name-index ≤ l.name-index-end) × (l.name-index-end ≡ length l.fn.names) × (awaits_node l.writer ≡ false)
    × ((files : List (List ℕ)) → AreBytesOf (g.S.Sources.bytes_of l.fn.sources) (map (λ name. name.now) (take l.name-index l.fn.names)) files
    → SentBehind (g.F.SendsFile.sent l.fn.format) files l.initial.writer (g.W.Write.contents l.initial.sink) l.writer (g.W.Write.contents l.sink))
