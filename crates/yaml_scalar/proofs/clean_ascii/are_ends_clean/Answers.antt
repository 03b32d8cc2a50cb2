use Rattle.yaml_scalar.proofs.Common.{eqb-true, sym, ◌∙◌, and_parts}
use Rattle.yaml_scalar.proofs.CleanBytes.{covered_clean}
use Rattle.yaml_scalar.proofs.clean_ascii.are_ends_clean.Goals as goal

pub returns : goal.returns
returns g c clean =
    let both = and_parts _ _ clean in
    covered_clean g.row.N c.args.bytes.now c.requires.covers.0 c.requires.covers.1 (sym c.unclean.ensures ∙ eqb-true _ _ both.0)
    (sym c.unclean-2.ensures ∙ eqb-true _ _ both.1)
