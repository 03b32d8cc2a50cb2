use Rattle.yaml_read.proofs.Common.{◌≡◌, ◌*◌, ◌++◌, suc, subst, ap, ◌∙◌, append_assoc, arith, length, line_at, seen_levels, EntryLacks}
use Rattle.yaml_read.proofs.SeenLevels.{levels_length, pushed_on}
use Rattle.yaml_read.proofs.levels.enter.Goals as goal

pub returns-in-Ok-after_lead : goal.returns-in-Ok-after_lead
returns-in-Ok-after_lead g c =
    let old = c.args.levels.now.items in
    let pushed = pushed_on c.args.level old c.push.new.list.items c.in-Ok.ensures in
    let deeper : c.len.result ≡ suc (length (seen_levels old)) =
    omega (arith, c.len.ensures, c.push.new.list.ok.0, pushed.1, levels_length old) in (
      pushed.0,
      c.in-Ok-after_lead.ensures.cut ∙ append_assoc (line_at (c.len.result * 2)) c.args.lead.now c.in-Ok-after_lead.rest.now
          ∙ ap (λ n. line_at (n * 2) ++ (c.args.lead.now ++ c.in-Ok-after_lead.rest.now)) deeper,
    )

pub returns-in-Err-after_lead : goal.returns-in-Err-after_lead
returns-in-Err-after_lead g c =
    let old = c.args.levels.now.items in
    let pushed = pushed_on c.args.level old c.push.new.list.items c.in-Ok.ensures in
    let deeper : c.len.result ≡ suc (length (seen_levels old)) =
    omega (arith, c.len.ensures, c.push.new.list.ok.0, pushed.1, levels_length old) in
    subst (λ n. EntryLacks n c.args.lead.now c.args.text.now c.in-Err-after_lead.stop) deeper c.in-Err-after_lead.ensures.lacks
