use Rattle.yaml_serde.proofs.Common.{Option, List, [], ℕ, subst, sym, Appends}
use Rattle.yaml_serde.proofs.Giving.{stands_new}
use Rattle.yaml_serde.specs.declared.outlet.Handing.TheVariants.{Kept}
use Rattle.yaml_serde.proofs.document.Document.kept.Goals as goal

pub invariant_of-result : goal.invariant_of-result
invariant_of-result g c =
    let now = g.W.Write.contents c.args.nowhere.now in
    record {
      stands =
          stands_new _ _ (record { sink = c.args.nowhere; handing = Kept }) c.requires.start
          (subst (λ (held : Option (List ℕ)). Appends held now []) (sym c.requires.held) tt) (sym c.requires.keeps)
          (λ sent. cc) c.depth-base.ensures;
      lent = c.requires.lent;
      form = c.requires.form_is;
    }
