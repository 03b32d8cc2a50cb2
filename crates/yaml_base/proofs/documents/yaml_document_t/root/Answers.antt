use Rattle.std.{specs.List.slice_get, proofs.lemmas.Option.slice_get-map, specs.Prelude.option_copied}
use Rattle.yaml_base.proofs.Common.{option_map, Option, None, Some, refl, ◌≡◌, ap, sym, ◌∙◌}
use Rattle.yaml_base.specs.graphs.SeenNodes.{seen_node}
use denote.Bor.{Bor}
use Rattle.yaml_base.proofs.documents.yaml_document_t.root.Goals as goal

seen_copied : {X Y : Type 0} (seen : X → Y) (found : Option (Bor X))
    → option_map (λ (item : Bor X). seen item.now) found ≡ option_map seen (option_copied found)
seen_copied seen None = refl
seen_copied seen (Some item) = refl

pub returns : goal.returns
returns g c =
    seen_copied seen_node c.first.result
    ∙ ap (option_map seen_node) (c.first.ensures.value ∙ ap (λ nodes. slice_get nodes 0) c.as_slice.ensures.value)
    ∙ sym (slice_get-map seen_node c.args.self.now.nodes.items 0)
