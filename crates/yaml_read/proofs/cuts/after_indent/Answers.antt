use Rattle.yaml_read.proofs.Common.{◌*◌, ◌++◌, ◌∷◌, ◌∙◌, Err, ap, arith, codes, refl, replicate, rules, line_feed, space, no_level}
use Rattle.yaml_read.proofs.Words.{cuts_behind, first_none, spaces_lack, spaces_more}
use Rattle.yaml_read.specs.Places.{no_line}
use Rattle.yaml_read.proofs.cuts.after_indent.Goals as goal

pub returns-in-Err : goal.returns-in-Err
returns-in-Err c =
    record {
      cut = first_none (codes "\n") (replicate (c.args.depth * 2) space) c.args.text.now c.in-Err.ensures.cut;
      lacks = no_line c.in-Err.ensures.cut c.in-Err.ensures.placed;
      shorter = tt;
    }

pub loop-level-preserved : goal.loop-level-preserved
loop-level-preserved c =
    let line = replicate (c.loop-level._level * 2) space ++ c.loop-level.rest.now in (
      search rules,
      omega (arith, c.loop-level.invariant.1, c.in-Ok-after.ensures.shorter),
      c.loop-level.invariant.2
          ∙ ap (λ t. line_feed ∷ t) (spaces_more c.loop-level._level line c.loop-level.rest.now c.in-Ok-after.next.now refl c.in-Ok-after.ensures.cut),
    )

pub returns-in-Err-after : goal.returns-in-Err-after
returns-in-Err-after c =
    let line = replicate (c.loop-level._level * 2) space ++ c.loop-level.rest.now in
    record {
      cut =
          cuts_behind (codes "\n") (replicate (c.args.depth * 2) space) c.args.text.now line (Err c.in-Err-after.stop) c.loop-level.invariant.2
          (spaces_lack c.loop-level._level c.args.depth line c.loop-level.rest.now refl (omega arith) c.in-Err-after.ensures.cut);
      lacks =
          no_level line c.loop-level.invariant.2
          (record {
            level = c.loop-level._level;
            below = omega arith;
            rest = c.loop-level.rest.now;
            text = refl;
            none = c.in-Err-after.ensures.cut;
            place = c.in-Err-after.ensures.placed;
          });
      shorter = tt;
    }
