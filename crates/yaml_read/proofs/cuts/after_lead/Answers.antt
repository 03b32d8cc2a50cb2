use Rattle.yaml_read.{proofs.Common.◌*◌, proofs.Common.arith, proofs.Common.IfOk-weaker, proofs.Common.line_at, specs.Stepped.no_line}
use Rattle.yaml_read.{proofs.Entries.lead_behind, proofs.Words.cuts_behind, proofs.Words.first_none}
use Rattle.yaml_read.proofs.cuts.after_lead.Goals as goal

pub returns-in-Ok : goal.returns-in-Ok
returns-in-Ok c =
    let line = line_at (c.args.depth * 2) in
    record {
      cut = cuts_behind line c.args.lead.now _ c.in-Ok.line.now c.after.result c.in-Ok.ensures.cut c.after.ensures.cut;
      lacks = lead_behind _ _ _ c.in-Ok.line.now _ c.in-Ok.ensures.cut c.after.ensures.cut c.after.ensures.placed;
      shorter = IfOk-weaker c.after.result _ _ (λ rest is. omega (arith, is, c.in-Ok.ensures.shorter)) c.after.ensures.shorter;
    }

pub returns-in-Err : goal.returns-in-Err
returns-in-Err c =
    record {
      cut = first_none (line_at (c.args.depth * 2)) c.args.lead.now c.args.text.now c.in-Err.ensures.cut;
      lacks = no_line c.in-Err.ensures.cut c.in-Err.ensures.lacks;
      shorter = tt;
    }
