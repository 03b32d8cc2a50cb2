use Rattle.yaml_json.proofs.Common.{None, ◌-◌, ◌≤◌, drop, length, ◌≡◌, HasScanned, Advances, IsBare}
use Rattle.yaml_json.specs.{Failing.Grew, Nests.AwaitsText}
use Rattle.yaml_json.proofs.stream.write_texts.Given as goal

abbrev pub invariant-texts : goal.invariant-texts
invariant-texts g l =
    IsBare l.writer × HasScanned l.rest l.reading.cut × (length l.rest ≤ length l.held) × (drop (length l.held - length l.rest) l.held ≡ l.rest)
    × Advances l.settings.values.depth l.settings.values.flow l.settings.unique_names l.held l.fn.writer (g.W.Write.contents l.fn.sink) l.rest l.writer
    (g.W.Write.contents l.sink) × AwaitsText l.settings.unique_names l.room × Grew l.fn.writer None l.writer
    × (l.reading.position ≡ l.fn.reading.position)

abbrev pub decreases-texts : goal.decreases-texts
decreases-texts g l = length l.rest
