use Rattle.std.proofs.Common.{◌≡◌, ◌-◌, drop, length}
use Rattle.toml_ordered.specs.{Data.nodes_from, Keys.entries_view, Keys.live_view}
use Rattle.toml_ordered.proofs.keys.LiveKeys.split_first.Given as goal

-- the keys that were passed over don't count
abbrev pub invariant-keys : goal.invariant-keys
invariant-keys l = nodes_from l.table.index l.next (entries_view (drop l.next l.table.keys.items)) ≡ live_view l.fn.self

abbrev pub decreases-keys : goal.decreases-keys
decreases-keys l = length l.table.keys.items - l.next
