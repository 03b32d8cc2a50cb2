use Rattle.yaml_read.proofs.Common.{Some, Ok, Err, ap, ◌∙◌, Another}
use Rattle.yaml_read.proofs.Awaits.{first_item_stands, first_key_stands, item_stands, key_stands, stands_in, value_lacks, value_stands}
use Rattle.yaml_read.specs.declared.leads.Await.TheVariants as await
use Rattle.yaml_read.proofs.leads.read_lead.Goals as goal

pub returns-in-FirstItem : goal.returns-in-FirstItem
returns-in-FirstItem c =
    λ levels innermost counted.
    stands_in levels c.args.innermost await.FirstItem c.args.count c.saturating_sub-depth.result c.args.text.now c.first_entry.result
    (c.in-Some.is ∙ ap Some c.in-FirstItem.is) innermost counted c.saturating_sub-depth.ensures
    (λ outer at. first_item_stands outer c.saturating_sub-depth.result c.args.text.now c.first_entry.result at c.first_entry.ensures)

pub returns-in-Item : goal.returns-in-Item
returns-in-Item c =
    λ levels innermost counted.
    stands_in levels _ _ _ _ c.args.text.now c.another_entry.result (c.in-Some.is ∙ ap Some c.in-Item.is) innermost counted c.saturating_sub-depth.ensures
    (λ outer at. item_stands outer c.saturating_sub-depth.result c.args.text.now c.another_entry.result at c.another_entry.ensures.stands)

pub returns-in-FirstKey : goal.returns-in-FirstKey
returns-in-FirstKey c =
    λ levels innermost counted.
    stands_in levels c.args.innermost await.FirstKey c.args.count c.saturating_sub-depth.result c.args.text.now c.first_entry-in-FirstKey.result
    (c.in-Some.is ∙ ap Some c.in-FirstKey.is) innermost counted c.saturating_sub-depth.ensures
    (λ outer at. first_key_stands outer c.saturating_sub-depth.result c.args.text.now c.first_entry-in-FirstKey.result at c.first_entry-in-FirstKey.ensures)

pub returns-in-Key : goal.returns-in-Key
returns-in-Key c =
    λ levels innermost counted.
    stands_in levels c.args.innermost await.Key c.args.count c.saturating_sub-depth.result c.args.text.now c.another_entry-in-Key.result
    (c.in-Some.is ∙ ap Some c.in-Key.is) innermost counted c.saturating_sub-depth.ensures
    (λ outer at. key_stands outer c.saturating_sub-depth.result c.args.text.now c.another_entry-in-Key.result at c.another_entry-in-Key.ensures.stands)

pub returns-in-Ok : goal.returns-in-Ok
returns-in-Ok c =
    λ levels innermost counted.
    stands_in levels c.args.innermost await.Value c.args.count c.saturating_sub-depth.result c.args.text.now (Ok (Another c.in-Ok.rest))
    (c.in-Some.is ∙ ap Some c.in-Value.is) innermost counted c.saturating_sub-depth.ensures
    (λ outer at. value_stands outer c.saturating_sub-depth.result c.args.text.now c.in-Ok.rest at c.in-Ok.ensures.cut)

pub returns-in-Err : goal.returns-in-Err
returns-in-Err c =
    λ levels innermost counted.
    stands_in levels _ _ _ _ c.args.text.now (Err c.in-Err.stop) (c.in-Some.is ∙ ap Some c.in-Value.is) innermost counted c.saturating_sub-depth.ensures
    (λ outer at. value_lacks outer c.saturating_sub-depth.result c.args.text.now c.in-Err.stop at c.in-Err.ensures.cut)
