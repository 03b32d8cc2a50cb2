use Rattle.yaml_json.specs.Failing.{Grew}
use Rattle.yaml_json.proofs.{Common.None, Common.IfSome, Common.IsScanned, Common.IsBare, Coming.Comes}
use Rattle.yaml_json.proofs.stream.send_json_texts.Given as goal

abbrev pub invariant-parts : goal.invariant-parts
invariant-parts g l =
    IsBare l.writer × IsScanned l.incoming
    × IfSome (g.R.Read.remaining l.fn.reader)
    (λ text. Comes l.settings.values.depth l.settings.values.flow l.settings.unique_names text l.fn.writer (g.W.Write.contents l.fn.sink) l.incoming.held.items
    l.incoming.reading.position (g.R.Read.remaining l.reader) l.writer (g.W.Write.contents l.sink))
    × Grew l.fn.writer None l.writer

abbrev pub decreases-parts : goal.decreases-parts
decreases-parts g l = l.turns
