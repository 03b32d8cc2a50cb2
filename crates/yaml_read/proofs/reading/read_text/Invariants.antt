use Rattle.yaml_read.proofs.{Common.length, Common.Utf8, Common.shadow, Common.seen_levels, UniqueTexts.TextAt}
use Rattle.yaml_read.proofs.reading.read_text.Given as goal

abbrev pub invariant-nodes : goal.invariant-nodes
invariant-nodes g l = shadow (Utf8 l.rest) × TextAt l.fn.keys l.fn.text (seen_levels l.levels.items) l.rest l.held.items

abbrev pub decreases-nodes : goal.decreases-nodes
decreases-nodes g l = length l.rest
