use Rattle.toml_ordered.proofs.Common.{ℕ, ◌-◌, ◌<◌, HasKey}
use Rattle.toml_ordered.proofs.tree.Table.find_listed.Given as goal

-- none of the keys before is the key
abbrev pub invariant-keys : goal.invariant-keys
invariant-keys l = (before : ℕ) → before < l.at → HasKey l.fn.key before l.fn.self.keys.items → ⊥

abbrev pub decreases-keys : goal.decreases-keys
decreases-keys l = 16 - l.at
