use Rattle.yaml_emitter.proofs.Common.{ap, ◌∙◌, deeper, seen_scalar_style, ChosenStyle, seen_scalar, seen_effective, seen_place, render_scalar_text}
use Rattle.yaml_emitter.proofs.Common.{◌≡◌, chars, OnOk, subst, seen_open_ended, style_fits, wrote_exit, wrote_then, wrote_failed}
use Rattle.std.proofs.lemmas.Result.{IfOk-from_err}
use Rattle.yaml_base.specs.Layout.{open_ended_after}
use Rattle.yaml_emitter.proofs.pieces.WritingScalars.{chosen_fits, wrote_scalar}
use Rattle.yaml_emitter.proofs.writing.scalars.write_scalar.Goals as goal

pub returns-in_err-write_lead : goal.returns-in_err-write_lead
returns-in_err-write_lead g c =
    let site = c.args.site.now in
    let content = seen_scalar c.args.content.now in
    let s = seen_effective site.settings.now in
    record {
      written = λ directives spelled.
          wrote_exit c.from_residual-in_err-write_lead.ensures
          (wrote_scalar s directives (seen_place site.place) site.simple content (seen_open_ended c.args.open_ended.now)
          c.in_ok-style.ensures.choice spelled
          (wrote_failed (render_scalar_text (seen_scalar_style c.in_ok-style.style) s site.place.in_flow site.simple
          (deeper s.indent site.place.column) content.value)
          c.in_err-write_lead.ensures));
      ready = c.in_err-write_lead.ensures.ready;
      open_ended_is = IfOk-from_err c.from_residual-in_err-write_lead.result _ c.from_residual-in_err-write_lead.ensures.0;
    }

pub write_text-requires-clause-fits : goal.write_text-requires-clause-fits
write_text-requires-clause-fits g c =
    let site = c.args.site.now in
    let content = seen_scalar c.args.content.now in
    ap (λ (choice : ChosenStyle). style_fits choice.style content.value site.simple) c.in_ok-style.ensures.choice
    ∙ chosen_fits (seen_effective site.settings.now) (seen_place site.place) site.simple content

pub returns : goal.returns
returns g c =
    let site = c.args.site.now in
    record {
      written = λ directives spelled.
          wrote_scalar (seen_effective site.settings.now) directives (seen_place site.place) site.simple (seen_scalar c.args.content.now)
          (seen_open_ended c.args.open_ended.now)
          c.in_ok-style.ensures.choice spelled
          (wrote_then c.in_ok-write_lead.ensures c.write_text.ensures.written);
      ready = c.write_text.ensures.written.ready;
      open_ended_is =
          subst (λ (choice : ChosenStyle). OnOk c.write_text.result (seen_open_ended c.write_text.new.open_ended
          ≡ open_ended_after choice.style (chars c.args.content.now.value.now) (seen_open_ended c.args.open_ended.now)))
          c.in_ok-style.ensures.choice c.write_text.ensures.open_ended;
    }
