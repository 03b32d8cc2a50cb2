use Rattle.yaml_serde.proofs.Common.{Option, List, [], ℕ, subst, sym, Appends}
use Rattle.yaml_serde.proofs.Giving.{stands_new}
use Rattle.std.proofs.KnownBytes.{Appends-nil}
use Rattle.yaml_serde.specs.declared.outlet.Handing.TheVariants.{Open}
use Rattle.yaml_serde.proofs.document.Document.sent.Goals as goal

pub invariant_of-result : goal.invariant_of-result
invariant_of-result g c =
    let now = g.W.Write.contents c.args.sink.now in
    record {
      stands =
          stands_new _ _ (record { sink = c.args.sink; handing = Open }) c.requires.start
          (subst (λ (held : Option (List ℕ)). Appends held now []) (sym c.requires.held) (Appends-nil now)) (sym c.requires.keeps)
          (λ sent. sym c.requires.name) c.depth-base.ensures;
      lent = c.requires.lent;
      form = c.requires.form_is;
    }
