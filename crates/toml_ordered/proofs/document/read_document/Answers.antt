use Rattle.toml_ordered.proofs.Common.{◌≡◌, ◌==◌, suc, length, false, inl, inr, rules, arith, ap, subst, sym, ◌∙◌, common_steps, skip_blank, keys_firsts}
use Rattle.toml_ordered.proofs.Common.{EndsWith, moved_to, document_view}
use Rattle.toml_ordered.proofs.Conflicts.{expressions_conflict, knows_more, knows_none, reads_more, value_reason}
use Rattle.toml_ordered.proofs.Endings.{ends_then, line_left, skip_blank_ends, unmarked_ends}
use Rattle.toml_ordered.proofs.Stopping.{holds_within, placed, placed_within, settled_memory}
use Rattle.toml_ordered.proofs.Turns.{document_ends, document_goes_on, document_refuses, document_stops}
use Rattle.toml_ordered.proofs.document.read_document.Goals as goal

pub lines-init : goal.lines-init
lines-init c = (
  search rules,
  c.without_mark-rest.ensures.within,
  record {
    room = suc (length c.args.text.now);
    enough = omega (arith, c.without_mark-rest.ensures.within);
    same = rw (c.without_mark-rest.ensures.rest, c.new.ensures.view, c.new-2.ensures.items);
  },
  knows_none c.args.text.now c.without_mark-rest.result.now _ (ap keys_firsts c.new.ensures.keys),
  (0, rw (c.without_mark-rest.ensures.rest, c.new.ensures.view, c.new-2.ensures.items)),
  subst (EndsWith c.args.text.now) (sym c.without_mark-rest.ensures.rest) (unmarked_ends c.args.text.now),
)

pub returns-then-is_empty-clause-value : goal.returns-then-is_empty-clause-value
returns-then-is_empty-clause-value c =
    let start_is = c.skip_blank-start.ensures.rest in
    document_ends c.args.text.now (document_view c.lines.read) c.lines.rest.now c.lines.invariant.2 (grind (arith, common_steps))

pub returns-in-Err-clause-value : goal.returns-in-Err-clause-value
returns-in-Err-clause-value c refused =
    let start_is = c.skip_blank-start.ensures.rest in
    let other : (length (skip_blank c.lines.rest.now) == 0) ≡ false = grind (arith, common_steps) in
    document_stops _ _ _ c.lines.invariant.2 other (rw start_is at (c.in-Err.ensures.0 (λ memory. refused (settled_memory _ _ _ c.settled.ensures memory))))

pub returns-in-Err-clause-placed : goal.returns-in-Err-clause-placed
returns-in-Err-clause-placed c =
    let start_is = c.skip_blank-start.ensures.rest in
    placed_within c.args.text.now c.skip_blank-start.result.now c.in-Err.fault c.settled.result c.settled.ensures
    λ real left within. record {
      doc = document_view c.lines.read;
      rest = c.lines.rest.now;
      read = c.lines.invariant.4;
      refused = inl (rw start_is at (c.in-Err.ensures.0 real), rw start_is at within);
    }

pub returns-in-Err-define-clause-value : goal.returns-in-Err-define-clause-value
returns-in-Err-define-clause-value c refused =
    let start_is = c.skip_blank-start.ensures.rest in
    let other : (length (skip_blank c.lines.rest.now) == 0) ≡ false = grind (arith, common_steps) in
    document_refuses c.args.text.now (document_view c.lines.read) c.lines.rest.now c.lines.invariant.2 other _ _ (rw start_is at c.in-Ok.ensures.0)
    (c.in-Err-define.ensures.0 (λ memory. refused (c.here.ensures ∙ ap (moved_to (length c.skip_blank-start.result.now)) memory)))

pub returns-in-Err-define-clause-placed : goal.returns-in-Err-define-clause-placed
returns-in-Err-define-clause-placed c =
    let start_is = c.skip_blank-start.ensures.rest in
    let read = rw start_is at c.in-Ok.ensures.0 in
    placed c.args.text.now (length c.skip_blank-start.result.now) c.in-Err-define.fault c.here.result c.here.ensures λ real. record {
      doc = document_view c.lines.read;
      rest = c.lines.rest.now;
      read = c.lines.invariant.4;
      refused = inr (_, _, read, c.in-Err-define.ensures.0 real, ap length start_is);
    }

pub lines-preserved : goal.lines-preserved
lines-preserved c =
    let start_is = c.skip_blank-start.ensures.rest in
    let other : (length (skip_blank c.lines.rest.now) == 0) ≡ false = grind (arith, common_steps) in
    let read = rw start_is at c.in-Ok.ensures.0 in
    let shorter = c.in-Ok.ensures.1 in
    let before = c.skip_blank-start.ensures.within in (
      search rules,
      omega (arith, c.lines.invariant.1, shorter, before),
      document_goes_on _ _ _ c.lines.invariant.2 other _ _ read _ c.in_default.ensures.0 (omega (arith, shorter, before)),
      knows_more c.args.text.now c.lines.rest.now c.in-Ok.found.1.now (document_view c.lines.read) _ (length c.skip_blank-start.result.now) _ _
          c.lines.invariant.3 (record {
            rest = c.lines.rest.now;
            after = c.in-Ok.found.1.now;
            read = c.lines.invariant.4;
            begins = read;
            here = ap length start_is;
          }) before shorter c.in_default.ensures.1,
      reads_more c.args.text.now (document_view c.lines.read) _ c.lines.rest.now _ _ c.lines.invariant.4 read c.in_default.ensures.0,
      line_left c.args.text.now c.lines.rest.now _ c.in-Ok.found.1.now c.lines.invariant.5 read,
    )

pub returns-in-Err-clause-holds : goal.returns-in-Err-clause-holds
returns-in-Err-clause-holds c =
    let start_is = c.skip_blank-start.ensures.rest in
    holds_within _ _ _ _ c.settled.ensures (subst (EndsWith c.args.text.now) (sym start_is) (ends_then _ _ _ c.lines.invariant.5 (skip_blank_ends _)))

pub returns-in-Err-clause-reason : goal.returns-in-Err-clause-reason
returns-in-Err-clause-reason c =
    let start_is = c.skip_blank-start.ensures.rest in
    value_reason _ _ _ _ _ c.lines.invariant.4 (rw start_is at c.in-Err.ensures.0) (rw start_is at c.in-Err.ensures.1) (rw start_is at c.settled.ensures)

pub returns-in-Err-define-clause-reason : goal.returns-in-Err-define-clause-reason
returns-in-Err-define-clause-reason c =
    let start_is = c.skip_blank-start.ensures.rest in
    let read = rw start_is at c.in-Ok.ensures.0 in
    expressions_conflict _ _ _ _ _ _ _ _ c.lines.invariant.3
    (record {
      rest = c.lines.rest.now;
      after = c.in-Ok.found.1.now;
      read = c.lines.invariant.4;
      begins = read;
      here = ap length start_is;
    }) c.skip_blank-start.ensures.within c.in-Err-define.ensures.0 c.in-Err-define.ensures.1 c.here.ensures
