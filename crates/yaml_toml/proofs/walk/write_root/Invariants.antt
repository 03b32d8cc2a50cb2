use Rattle.yaml_toml.proofs.Common.{table, table_view, Header, toml_events, KeysHaveNumbers, pending_size}
use Rattle.yaml_toml.proofs.{Fitting.DocumentFits, Running.Running}
use Rattle.yaml_toml.proofs.walk.write_root.Given as goal

abbrev pub invariant-rests : goal.invariant-rests
invariant-rests g l =
    DocumentFits l.fn.settings.depth (table_view l.fn.root) l.opened.items
    × Running l.fn.settings.depth l.fn.settings.flow l.fn.writer (toml_events l.fn.writer.canonical l.fn.settings.flow (table Header (table_view l.fn.root)))
    (KeysHaveNumbers (table_view l.fn.root)) l.writer l.opened.items

abbrev pub decreases-rests : goal.decreases-rests
decreases-rests g l = pending_size l.opened.items
