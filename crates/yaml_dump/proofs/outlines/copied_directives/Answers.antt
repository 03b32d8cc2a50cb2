use Rattle.yaml_dump.proofs.Common.{ℕ, ◌+◌, ◌<◌, length, slice_index_or as get_or, take, List, [], map, ◌++◌, ◌∷◌, ◌≡◌, ap, sym, ◌∙◌, map-append}
use Rattle.yaml_base.specs.{Seen.seen_directive, declared.directives.yaml_tag_directive_t.yaml_tag_directive_t}
use Rattle.std.proofs.{Common.take_all, lemmas.List.take_more}
use Rattle.std.proofs.lemmas.Result.{IfOk-from_err}
use Rattle.yaml_dump.proofs.outlines.copied_directives.Goals as goal

-- one more copy
copied_more : {A : Type 0} (directives copies grown : List (yaml_tag_directive_t A)) (index : ℕ) (copy directive : yaml_tag_directive_t A)
    → index < length directives → directive ≡ get_or directives index directive → seen_directive copy ≡ seen_directive directive
    → map seen_directive copies ≡ map seen_directive (take index directives) → grown ≡ copies ++ copy ∷ []
    → map seen_directive grown ≡ map seen_directive (take (index + 1) directives)
copied_more directives copies grown index copy directive inside is same so_far grows =
    ap (map seen_directive) grows ∙ map-append seen_directive copies (copy ∷ [])
    ∙ ap (λ others. others ++ seen_directive copy ∷ []) so_far
    ∙ ap (λ one. map seen_directive (take index directives) ++ one ∷ []) (same ∙ ap seen_directive is)
    ∙ sym (map-append seen_directive (take index directives) (get_or directives index directive ∷ []))
    ∙ sym (ap (map seen_directive) (take_more directives index directive inside))

pub loop-directive-init : goal.loop-directive-init
loop-directive-init g c = ap (map seen_directive) c.new-copies.ensures.items

pub returns-in_err-push : goal.returns-in_err-push
returns-in_err-push g c = IfOk-from_err c.from_residual.result _ c.from_residual.ensures.0

pub returns : goal.returns
returns g c =
    c.loop-directive.invariant ∙ ap (map seen_directive) (take_all c.loop-directive.directive-index c.args.directives.now c.loop-directive-test.false)

pub loop-directive-preserved : goal.loop-directive-preserved
loop-directive-preserved g c =
    copied_more c.args.directives.now c.loop-directive.copies.items c.push.new.self.items c.loop-directive.directive-index c.in-Ok.copy
    c.directive-item.result c.loop-directive-test.true c.directive-item.is c.in-Ok.ensures c.loop-directive.invariant c.in_ok-push.ensures.items
