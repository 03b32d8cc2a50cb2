use Rattle.std.specs.{List.slice_get, Slice.IsItemAt}
use Rattle.std.proofs.lemmas.Option.{slice_get-map, slice_get_past, slice_get_read}
use Rattle.yaml_base.proofs.Common.{ℕ, option_map, Option, None, Some, length, List, map, refl, ◌≡◌, ap, sym, ◌∙◌}
use Rattle.yaml_base.specs.graphs.SeenNodes.{seen_node}
use denote.Bor.{Bor}
use Rattle.yaml_base.proofs.documents.yaml_document_t.node_at.Goals as goal

seen_at : {X Y : Type 0} (seen : X → Y) (items : List X) (place : ℕ) (found : Option (Bor X)) → IsItemAt items place found
    → option_map (λ (item : Bor X). seen item.now) found ≡ slice_get (map seen items) place
seen_at seen items place None is =
    sym (slice_get-map seen items place ∙ ap (option_map seen) (slice_get_past items place is.3))
seen_at seen items place (Some item) is =
    sym (slice_get-map seen items place
    ∙ ap (option_map seen) (slice_get_read items (length items) place item.now refl is.3.0 is.1))

pub returns : goal.returns
returns g c =
    seen_at _ _ _ _ c.get.ensures.lookup ∙ ap (λ nodes. slice_get (map seen_node nodes) c.args.place) c.as_slice.ensures.value
