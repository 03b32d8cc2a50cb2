use Rattle.yaml_emitter.proofs.Common.{arith, common_steps, rules, ◌≡◌, ◌==◌, is_some, length, option_map, not, ◌&&◌, ◌||◌, map, ap, sym, ◌∙◌, Bool}
use Rattle.yaml_emitter.proofs.Common.{DocumentStart, seen_version, seen_directive, seen_effective, seen_open_ended}
use Rattle.yaml_emitter.proofs.pieces.WritingPieces.{wrote_bare_start, wrote_document_start}
use Rattle.yaml_emitter.proofs.writing.directives.write_document_start.Goals as goal

pub returns-then-not-directed : goal.returns-then-not-directed
returns-then-not-directed g c =
    let s = seen_effective c.args.settings.now in
    let start : DocumentStart = record {
      version = option_map seen_version c.args.start.now.version;
      directives = map seen_directive c.args.start.now.directives.now;
      implicit = c.args.start.now.implicit;
    } in
    let directed : c.if-is_some.directed ≡ (is_some start.version || not (length start.directives == 0)) =
    first_of (search rules, grind (arith, common_steps)) in
    wrote_bare_start s c.args.first start (seen_open_ended c.args.open_ended) (sym directed ∙ c.if-not-directed.true)
    (c.is_explicit-explicit.ensures
    ∙ ap (λ (b : Bool). not start.implicit || not c.args.first || (s.canonical || s.portable) || b) directed)
    c.write_document_marker.ensures

pub returns : goal.returns
returns g c =
    let s = seen_effective c.args.settings.now in
    let start : DocumentStart = record {
      version = option_map seen_version c.args.start.now.version;
      directives = map seen_directive c.args.start.now.directives.now;
      implicit = c.args.start.now.implicit;
    } in
    let directed : c.if-is_some.directed ≡ (is_some start.version || not (length start.directives == 0)) =
    first_of (search rules, grind (arith, common_steps)) in
    wrote_document_start s c.args.first start (seen_open_ended c.args.open_ended)
    (c.is_open.ensures
    ∙ ap (λ (b : Bool). b && not (seen_open_ended c.args.open_ended == 0)) (sym c.if-not-directed.false ∙ directed))
    (c.is_explicit-explicit.ensures
    ∙ ap (λ (b : Bool). not start.implicit || not c.args.first || (s.canonical || s.portable) || b) directed)
    c.write_document_head.ensures
