use Rattle.yaml_mark.proofs.Common.{List, ◌≡◌, take, position}
use Rattle.yaml_base.specs.declared.directives.yaml_tag_directive_t.{yaml_tag_directive_t}
use Rattle.yaml_mark.proofs.IndexLemmas.{fits_some}
use Rattle.yaml_mark.proofs.index.Index.first_fitting.Given as goal
use Rattle.yaml_mark.specs.Index.{Finds}

abbrev pub invariant-loop-length : goal.invariant-loop-length
invariant-loop-length g l =
    (list : List (yaml_tag_directive_t g.row.A.Denot)) → Finds l.self list → l.first ≡ position (fits_some l.tag (take l.length-index l.length-items)) list
