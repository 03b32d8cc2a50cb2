use Rattle.yaml_json.specs.{Failing.Kept, Nests.IsNesting, Reached.LastRead}
use Rattle.yaml_json.proofs.{Common.length, Common.Ok, Common.◌≡◌, Common.WalkProgress, KeepingNames.NamesSoFar}
use Rattle.yaml_json.proofs.values.write_value.Given as goal

abbrev pub invariant-each_token : goal.invariant-each_token
invariant-each_token g l =
    WalkProgress l.settings.values.depth l.settings.values.flow l.fn.reader.ahead l.fn.writer l.reader.ahead l.nest.kinds.items l.writer
    × IsNesting l.settings.values.depth l.settings.unique_names l.nest × NamesSoFar l.fn.reader.ahead l.reader.ahead l.nest.names
    × Kept l.fn.writer (Ok tt) l.writer × (l.reader.text ≡ l.fn.reader.text) × LastRead l.fn.reader l.reader

abbrev pub decreases-each_token : goal.decreases-each_token
decreases-each_token g l = length l.reader.ahead
