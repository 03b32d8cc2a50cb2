use Rattle.yaml_base.proofs.DocumentsUnfold.{document_unfolds}
use Rattle.yaml_base.proofs.laws.documents_unfold.Goals as goal

pub returns : goal.returns
returns c = document_unfolds
