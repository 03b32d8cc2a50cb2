use Rattle.yaml_scalar.proofs.Common.{ℕ, chars, IsUtf8, Bool, ◌&&◌, ◌||◌, List, ap, subst, sym, ◌∙◌, and_parts, chars-nil, list_any, is_break, BarredStyles}
use Rattle.yaml_scalar.proofs.Common.{barred_in, either}
use Rattle.yaml_scalar.proofs.Barred.{barred_more, barred_whole, all_barred}
use Rattle.std.proofs.Math.Bool.{or-false}
use Rattle.yaml_scalar.proofs.Shorter.{shorter_left}
use Rattle.yaml_scalar.proofs.analysis.barred_before.Goals as goal

pub loop-c-preserved : goal.loop-c-preserved
loop-c-preserved c =
    let so_far = c.loop-c.invariant in
    let charset = c.args.charset in
    let rest : List ℕ = c.as_str-rest.result.now in
    let more = c.with_next-more.result in
    let read = c.skip_quiet-in-Some.result.0 in
    record {
      is_text = subst IsUtf8 (sym c.chars-chars-in-Some.ensures.rest) c.skip_quiet-in-Some.ensures.is_text;
      so_far = barred_more charset _ c.loop-c.barred _ _ rest c.in-Some.c so_far.is_text c.in-Some.ensures.steps.0 c.as_str-rest.ensures
          so_far.so_far c.with_next-more.ensures
          ∙ ap (λ (l : List ℕ). either more (barred_in charset (chars l))) (sym c.as_str-rest.ensures)
          ∙ c.skip_quiet-in-Some.ensures.same
          ∙ ap (λ (l : List ℕ). either read (barred_in charset (chars l))) (sym c.chars-chars-in-Some.ensures.rest);
    }

pub returns-then-more-clause-same : goal.returns-then-more-clause-same
returns-then-more-clause-same c =
    let so_far = c.loop-c.invariant in
    let charset = c.args.charset in
    let rest : List ℕ = c.as_str-rest.result.now in
    let more = c.with_next-more.result in
    let p = and_parts (more.flow_plain && more.block_plain && more.single_quoted) more.block c.if-more.true in
    let q = and_parts (more.flow_plain && more.block_plain) more.single_quoted p.0 in
    let r = and_parts more.flow_plain more.block_plain q.0 in
    sym (barred_more charset _ c.loop-c.barred _ _ rest c.in-Some.c so_far.is_text c.in-Some.ensures.steps.0 c.as_str-rest.ensures so_far.so_far
    c.with_next-more.ensures
    ∙ ap (λ (l : List ℕ). either more (barred_in charset (chars l))) (sym c.as_str-rest.ensures)
    ∙ all_barred more (barred_in charset (chars rest)) r.0 r.1 q.1 p.1)

pub returns-clause-same : goal.returns-clause-same
returns-clause-same c =
    let charset = c.args.charset in
    let found = c.loop-c.barred in
    ap (λ (b : Bool). let more : BarredStyles = record found { multiline = b } in more)
    (ap (λ t. found.multiline || list_any is_break t) chars-nil ∙ or-false found.multiline)
    ∙ barred_whole charset _ found _ c.in_default.ensures.steps.0.0 c.loop-c.invariant.so_far

pub returns-clause-rest : goal.returns-clause-rest
returns-clause-rest c some = chars-nil

pub loop-c-smaller : goal.loop-c-smaller
loop-c-smaller c =
    shorter_left _ _ _ _ _ c.in-Some.c c.in-Some.ensures.steps.0 c.as_str-rest.ensures c.skip_quiet-in-Some.ensures.shorter c.chars-chars-in-Some.ensures.rest
