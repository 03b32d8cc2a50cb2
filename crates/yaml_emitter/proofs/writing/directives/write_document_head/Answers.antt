use Rattle.yaml_emitter.proofs.Common.{option_map, map, render_if, render_version, render_tag_directives, render_document_marker, seen_version}
use Rattle.yaml_emitter.proofs.Common.{seen_directive, wrote_then, wrote_failed, wrote_exit}
use Rattle.yaml_emitter.proofs.writing.directives.write_document_head.Goals as goal

pub returns-in_err-write_closing_marker : goal.returns-in_err-write_closing_marker
returns-in_err-write_closing_marker g c =
    wrote_exit c.from_residual.ensures
    (wrote_failed (render_if c.args.explicit (render_document_marker c.args.settings.now.canonical))
    (wrote_failed (render_tag_directives c.args.settings.now.portable (map seen_directive c.args.start.now.directives.now))
    (wrote_failed (render_version (option_map seen_version c.args.start.now.version)) c.in_err-write_closing_marker.ensures)))

pub returns-in_err-write_version : goal.returns-in_err-write_version
returns-in_err-write_version g c =
    wrote_exit c.from_residual-in_err-write_version.ensures
    (wrote_failed (render_if c.args.explicit (render_document_marker c.args.settings.now.canonical))
    (wrote_failed (render_tag_directives c.args.settings.now.portable (map seen_directive c.args.start.now.directives.now))
    (wrote_then c.in_ok-write_closing_marker.ensures c.in_err-write_version.ensures)))

pub returns-in_err-write_tag_directives : goal.returns-in_err-write_tag_directives
returns-in_err-write_tag_directives g c =
    wrote_exit c.from_residual-in_err-write_tag_directives.ensures
    (wrote_failed (render_if c.args.explicit (render_document_marker c.args.settings.now.canonical))
    (wrote_then (wrote_then c.in_ok-write_closing_marker.ensures c.in_ok-write_version.ensures) c.in_err-write_tag_directives.ensures))

pub returns : goal.returns
returns g c = wrote_then (wrote_then (wrote_then c.in_ok-write_closing_marker.ensures c.in_ok-write_version.ensures) c.in_ok-write_tag_directives.ensures)
    c.write_document_marker.ensures
