use Rattle.yaml_read.proofs.Common.{◌++◌, ◌∙◌, List, [], ap, codes, subst, sym, items_open, pairs_open, Value, IsEmptyLevel}
use Rattle.yaml_read.proofs.Common.{empty_list_level, empty_map_level, tag_word}
use Rattle.yaml_read.proofs.Stepping.{no_scalar_steps, no_tag_steps, scalar_steps}
use Rattle.yaml_value.specs.SeenValues.{seen_pairs, seen_values}
use Rattle.yaml_read.specs.declared.heads.Kind.TheVariants as kind
use Rattle.yaml_read.proofs.reading.step.Goals as goal

pub returns-in-List : goal.returns-in-List
returns-in-List g c =
    c.begin.ensures kind.List
    (subst (λ (items : List (Value g.row.A.Denot)). IsEmptyLevel (items_open (seen_values items)) kind.List (codes "[") (codes "]") [])
    (sym c.new.ensures.items) empty_list_level) (c.in-Ok.ensures ∙ ap (λ k. tag_word k ++ c.in-Ok.behind.now) c.in-List.is)

pub returns-in-Map : goal.returns-in-Map
returns-in-Map g c =
    c.begin-in-Map.ensures kind.Map
    (subst (λ (pairs : List (Value g.row.A.Denot × Value g.row.A.Denot)). IsEmptyLevel (pairs_open (seen_pairs pairs)) kind.Map (codes "{") (codes "}")
    (codes "? ")) (sym c.new-in-Map.ensures.items) empty_map_level) (c.in-Ok.ensures ∙ ap (λ k. tag_word k ++ c.in-Ok.behind.now) c.in-Map.is)

pub returns-in-Ok-read_scalar : goal.returns-in-Ok-read_scalar
returns-in-Ok-read_scalar g c =
    let read = c.in-Ok-read_scalar.ensures in
    scalar_steps _ _ c.in-Ok.kind _ c.in-Ok.behind.now _ _ _ c.in-Ok.ensures read.sound read.shorter c.settle.ensures

pub returns-in-Err-read_scalar : goal.returns-in-Err-read_scalar
returns-in-Err-read_scalar g c = no_scalar_steps g.row.A.Denot _ _ _ _ _ _ c.in-Ok.ensures c.in-Err-read_scalar.ensures

pub returns-in-Err : goal.returns-in-Err
returns-in-Err g c = no_tag_steps g.row.A.Denot _ _ _ _ c.in-Err.ensures
