use Rattle.yaml_scalar.proofs.Common.{Bool, true, ◌||◌, chars, ap, sym, ◌∙◌, BarredStyles}
use Rattle.yaml_scalar.proofs.Barred.{indicator_seen, ordinary_seen}
use Rattle.yaml_scalar.proofs.analysis.with_next.Goals as goal

pub returns-then-is_flow_indicator : goal.returns-then-is_flow_indicator
returns-then-is_flow_indicator c =
    ap (λ (key : Bool). let more : BarredStyles = record c.args.barred { flow_plain = true; block_plain = c.args.barred.block_plain || key } in more)
    c.is_value_indicator.ensures
    ∙ indicator_seen c.args.charset c.args.barred c.args.c (chars c.args.rest.now) (sym c.if-is_flow_indicator.ensures)

pub returns-then-is_ordinary : goal.returns-then-is_ordinary
returns-then-is_ordinary c =
    ordinary_seen c.args.charset c.args.barred c.args.c (chars c.args.rest.now) (sym c.if-is_ordinary.ensures)
