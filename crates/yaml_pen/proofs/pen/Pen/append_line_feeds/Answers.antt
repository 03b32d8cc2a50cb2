use Rattle.yaml_pen.proofs.Common.{min, ap, subst, sym, ◌∙◌, replicate, take-replicate, line_feed, column_after, render_text, decode, seen_encoding, utf8, Page}
use Rattle.yaml_pen.proofs.Common.{has_bom, IsReady, arith}
use Rattle.yaml_pen.proofs.{AsciiRuns.ascii-bytes, AsciiRuns.ascii-scalars}
use Rattle.yaml_pen.proofs.Spaces.{copies_ascii, line_feeds_names, line_feeds_column}
use Rattle.yaml_pen.proofs.Writing.{AddsEvent-appended, IsPen-added, Wrote-added, no_bom}
use Rattle.yaml_pen.proofs.pen.Pen.append_line_feeds.Goals as goal

pub invariant_of-self-2 : goal.invariant_of-self-2
invariant_of-self-2 g c =
    let raw = replicate c.args.count line_feed in
    let ready = subst IsReady (sym c.self.view_is) c.requires.ready in
    let is_utf8 = no_bom _ ready.begun (ap (λ (p : Page). has_bom p.encoding) c.self.view_is ∙ c.requires.no_bom) in
    let ascii = copies_ascii c.args.count line_feed (omega arith) in
    let bytes = take-replicate c.args.count 64 line_feed c.requires.few ∙ ascii-bytes raw ascii in
    let adds = AddsEvent-appended utf8 raw _ c.self.inside.outlet c.append.new.self c.in_ok-append.ensures bytes in
    IsPen-added utf8 raw c.self.inside.encoding c.self.inside.line_break c.self.inside.outlet c.append.new.self c.self.inside.whitespace
    c.self.inside.indention
    c.self.inside.bom_due c.self.inside.column _ c.self.invariant ready.bom_written is_utf8 (ascii-scalars raw ascii) adds
    (sym (ap (λ n. min n 4294967295)
    (line_feeds_column c.args.count (column_after (decode (seen_encoding c.self.inside.encoding) c.self.inside.outlet.all) 0) c.requires.some)))

pub returns : goal.returns
returns g c = record {
  written =
      let raw = replicate c.args.count line_feed in
      let ready = subst IsReady (sym c.self.view_is) c.requires.ready in
      let is_utf8 = no_bom _ ready.begun (ap (λ (p : Page). has_bom p.encoding) c.self.view_is ∙ c.requires.no_bom) in
      let ascii = copies_ascii c.args.count line_feed (omega arith) in
      let bytes = take-replicate c.args.count 64 line_feed c.requires.few ∙ ascii-bytes raw ascii in
      let adds = AddsEvent-appended utf8 raw _ c.self.inside.outlet c.append.new.self c.in_ok-append.ensures bytes in
      Wrote-added utf8 raw c.self.inside.encoding c.self.inside.line_break c.self.inside.outlet c.append.new.self c.self.inside.whitespace
      c.self.inside.indention
      c.self.inside.bom_due c.self.inside.column c.args.self.now (render_text raw) c.self.invariant is_utf8
      (ascii-scalars raw ascii) adds c.self.view_is
      c.requires.ready (line_feeds_names c.args.count c.args.self.now c.requires.line_feed);
}
