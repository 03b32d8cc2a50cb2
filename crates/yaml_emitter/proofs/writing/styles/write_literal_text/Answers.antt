use Rattle.yaml_emitter.proofs.Common.{pos, ◌≡◌, FitsSigned as SFits, refl, rules, ◌∙◌, w32, to_z, arith, ints, to_z-of_z, chars, Err, Ok}
use Rattle.yaml_base.specs.{declared.styles.yaml_scalar_style_t.TheVariants.YAML_LITERAL_SCALAR_STYLE}
use Rattle.yaml_emitter.proofs.pieces.WritingScalars.{wrote_literal}
use Rattle.yaml_emitter.proofs.writing.styles.write_literal_text.Goals as goal

pub returns-in-Err-clause-written : goal.returns-in-Err-clause-written
returns-in-Err-clause-written g c =
    let settings = c.args.site.now.settings.now in
    let indent_fits : SFits w32 c.line_indent-indent.result = search rules in
    let best : to_z w32 settings.indent ≡ pos settings.indent = omega (arith, ints, settings.indents_within) in
    wrote_literal settings c.args.site.now.place.in_flow c.args.site.now.simple (chars c.args.value.now)
    (to_z-of_z w32 c.line_indent-indent.result indent_fits ∙ c.line_indent-indent.ensures.value) refl settings.counts
    {style = YAML_LITERAL_SCALAR_STYLE} best refl {answer = Err c.in-Err.error} c.in-Err.ensures.written

pub returns-in-Ok-clause-written : goal.returns-in-Ok-clause-written
returns-in-Ok-clause-written g c =
    let settings = c.args.site.now.settings.now in
    let indent_fits : SFits w32 c.line_indent-indent.result = search rules in
    let best : to_z w32 settings.indent ≡ pos settings.indent = omega (arith, ints, settings.indents_within) in
    wrote_literal settings c.args.site.now.place.in_flow c.args.site.now.simple (chars c.args.value.now)
    (to_z-of_z w32 c.line_indent-indent.result indent_fits ∙ c.line_indent-indent.ensures.value) refl settings.counts
    {style = YAML_LITERAL_SCALAR_STYLE} best refl {answer = Ok tt} c.in-Ok.ensures.written
