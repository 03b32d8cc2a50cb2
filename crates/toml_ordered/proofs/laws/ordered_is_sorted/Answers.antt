use Rattle.toml_ordered.proofs.SortedTexts.{same_document}
use Rattle.toml_ordered.proofs.laws.ordered_is_sorted.Goals as goal

pub returns : goal.returns
returns c = same_document
