use Rattle.yaml_value.proofs.Common.{Some, true, ap}
use Rattle.std.specs.Prelude.{pos, negsuc}
use Rattle.yaml_base.specs.Settings.{Settings, utf8, line_feed_break}
use Rattle.yaml_value.proofs.writing.canonical_settings.Goals as goal

pub returns : goal.returns
returns c =
    ap (λ (s : Settings). record s {
      encoding = Some utf8;
      canonical = true;
      unicode = true;
      indent = Some (pos 2);
      width = Some (negsuc 0);
      line_break = Some line_feed_break;
    }) c.default.ensures
