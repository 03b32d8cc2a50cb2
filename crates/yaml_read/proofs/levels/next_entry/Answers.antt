use Rattle.yaml_read.proofs.{Breaking.no_comma, Entries.entry_behind}
use Rattle.yaml_read.proofs.levels.next_entry.Goals as goal

pub returns-in-Err : goal.returns-in-Err
returns-in-Err c =
    record {
      cut = tt;
      breaks = no_comma c.args.depth c.args.lead.now c.args.end.now c.args.text.now c.in-Err.stop c.in-Err.ensures.cut c.in-Err.ensures.placed;
      shorter = tt;
    }

pub returns-in-Ok : goal.returns-in-Ok
returns-in-Ok c = entry_behind _ _ _ _ _ _ c.in-Ok.ensures.cut c.another_entry.ensures
