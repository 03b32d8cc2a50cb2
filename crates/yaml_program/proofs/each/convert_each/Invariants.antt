use Rattle.std.{proofs.Common.◌≤◌, proofs.Common.◌≡◌, proofs.Common.take, proofs.Common.length, proofs.Common.map, specs.List.Any}
use Rattle.yaml_program.specs.Conversions.{EachIsDone, EndsOtherwise, IsUndoneBeside}
use Rattle.yaml_program.proofs.each.convert_each.Given as goal

abbrev pub invariant-loop-name : goal.invariant-loop-name
invariant-loop-name g l =
    (l.name-index ≤ l.name-index-end) × (l.name-index-end ≡ length l.names) × (l.status ≤ 3)
    × (l.status ≡ 0 → EachIsDone g.F.Format.is_yaml g.F.Format.ending (g.S.Sources.bytes_of l.fn.sources) l.fn.conversion
    (map (λ name. name.now) (take l.name-index l.names)))
    × (l.status ≡ 1 → Any (IsUndoneBeside g.F.Format.is_yaml g.F.Format.ending (g.S.Sources.bytes_of l.fn.sources) l.fn.conversion)
    (map (λ name. name.now) (take l.name-index l.names)))
    × (l.status ≡ 2 → Any (EndsOtherwise g.F.Format.ending) (map (λ name. name.now) (take l.name-index l.names)))
