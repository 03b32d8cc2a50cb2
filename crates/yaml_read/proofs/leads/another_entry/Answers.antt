use Rattle.yaml_read.proofs.Common.{◌++◌, ◌∷◌, ◌*◌, [], ap, arith, inl, refl, sym, ◌∙◌, append_assoc, line_at, nothing, these_or_those, word_then}
use Rattle.yaml_read.proofs.{Breaking.line_lacks, Breaking.line_passed, Breaking.neither, Words.first_none, Words.longer_none}
use Rattle.yaml_read.proofs.leads.another_entry.Goals as goal

pub returns-in-Some : goal.returns-in-Some
returns-in-Some c =
    let line = line_at (c.args.depth * 2) in
    record {
      stands = c.in-Ok.ensures.cut ∙ ap (λ t. line ++ t) c.in-Some.ensures.cut ∙ sym (append_assoc line c.args.lead.now c.in-Some.rest.now);
      breaks = tt;
      shorter = omega (arith, c.in-Ok.ensures.shorter, c.in-Some.ensures.shorter);
    }

pub returns-in-Ok-after : goal.returns-in-Ok-after
returns-in-Ok-after c =
    let line = line_at (c.args.depth * 2) in
    record {
      stands = c.in-Ok.ensures.cut ∙ ap (λ t. line ++ t) c.in-Ok-after.ensures.cut ∙ sym (append_assoc line c.args.end.now c.in-Ok-after.rest.now);
      breaks = tt;
      shorter = omega (arith, c.in-Ok.ensures.shorter, c.in-Ok-after.ensures.shorter);
    }

pub returns-in-Err-after : goal.returns-in-Err-after
returns-in-Err-after c =
    let line = line_at (c.args.depth * 2) in
    record {
      stands = (longer_none line _ _ _ c.in-Ok.ensures.cut c.in-None.ensures.cut, longer_none line _ _ _ c.in-Ok.ensures.cut c.in-Err-after.ensures.cut);
      breaks =
          line_passed c.args.depth _ c.in-Ok.line.now
          (these_or_those (word_then c.args.lead.now nothing) (word_then c.args.end.now nothing)) c.in-Err-after.stop c.in-Ok.ensures.cut
          (neither _ _ _ c.in-Err-after.stop c.in-None.ensures.cut c.in-Err-after.ensures.cut c.in-Err-after.ensures.placed);
      shorter = tt;
    }

pub returns-in-Err : goal.returns-in-Err
returns-in-Err c =
    let line = line_at (c.args.depth * 2) in
    record {
      stands = (first_none line c.args.lead.now c.args.text.now c.in-Err.ensures.cut, first_none line c.args.end.now c.args.text.now c.in-Err.ensures.cut);
      breaks =
          line_lacks c.args.depth c.args.text.now (these_or_those (word_then c.args.lead.now nothing) (word_then c.args.end.now nothing))
          c.in-Err.stop (c.args.lead.now ∷ []) c.in-Err.ensures.lacks (inl (refl, tt));
      shorter = tt;
    }
