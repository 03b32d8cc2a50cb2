use Rattle.toml_ordered.proofs.Common.{arith, skip_blank, node_view}
use Rattle.toml_ordered.proofs.{Blaming.read_unblamed, Conflicts.other_than, Trees.items_view-push}
use Rattle.toml_ordered.proofs.Around.{array_more, array_neither, array_unended}
use Rattle.toml_ordered.proofs.values.put_item.Goals as goal

pub returns-in-Ok : goal.returns-in-Ok
returns-in-Ok c =
    let within = c.next_item.ensures.1 in
    let past = c.in-Ok.ensures.1 in (
      (λ depth text at inside read.
          let (rest, known, other, is) = inside in
          c.next_item.ensures.0 depth text
          (array_more depth text _ rest known other (node_view c.args.item) c.args.s.now (rw is at read.0) _ c.in-Ok.rest.now (rw is at read.1)
          (rw (c.in_default.ensures.items, items_view-push c.args.items.items c.args.item)) c.in-Ok.ensures.0)),
      omega (arith, within, past),
    )

pub returns : goal.returns
returns c depth text at (rest, known, other, is) read = (
  λ real. array_unended depth text _ rest known other (node_view c.args.item) c.args.s.now (rw is at read.0) (c.in-Err-past_element.ensures.0 real),
  other_than _ _ c.in-Err-past_element.fault (λ real. array_neither depth text _ rest known (rw (rw is at read.0, c.in-Err-past_element.ensures.0 real))
      (read_unblamed depth (skip_blank rest) (node_view c.args.item, c.args.s.now) (rw is at read.0))) c.in-Err-past_element.ensures.1,
)
