use Rattle.yaml_pen.proofs.Common.{min, ℕ, ◌+◌, ◌≤◌, replicate, take, List, ◌∷◌, ◌≡◌, ap, subst, sym, ◌∙◌, add-one, arith, take-replicate, line_feed, space}
use Rattle.yaml_pen.proofs.Common.{column_after, render_text, decode, seen_encoding, utf8, line_begun, Page, has_bom, IsReady}
use Rattle.yaml_pen.proofs.{AsciiRuns.ascii-bytes, AsciiRuns.ascii-scalars, Composing.wrote_as, NewLines.column_after-spaces, NewLines.broken_begun}
use Rattle.yaml_pen.proofs.{Spaces.line_start_ascii, Spaces.line_start_names}
use Rattle.yaml_pen.proofs.Writing.{AddsEvent-appended, IsPen-added, Wrote-added, no_bom}
use Rattle.yaml_pen.specs.declared.pen.new_lines.TheConstants.{LINE_START}
use Rattle.yaml_pen.proofs.pen.Pen.append_line_start.Goals as goal

-- that many bytes of the table are LF and spaces
line_start : (at : ℕ) → at ≤ 31 → take (at + 1) LINE_START ≡ line_feed ∷ replicate at space
line_start at few = ap (λ n. take n LINE_START) (add-one at) ∙ ap (λ (l : List ℕ). line_feed ∷ l) (take-replicate at 31 space few)

-- and end at that column
at_column : (at column : ℕ) → at ≤ 31 → at ≡ min (column_after (line_feed ∷ replicate at space) column) 4294967295
at_column at column few =
    let is : column_after (replicate at space) 0 ≡ at = column_after-spaces at 0 ∙ omega arith in
    omega arith

pub invariant_of-self-2 : goal.invariant_of-self-2
invariant_of-self-2 g c =
    let raw = line_feed ∷ replicate c.args.at space in
    let ready = subst IsReady (sym c.self.view_is) c.requires.ready in
    let is_utf8 = no_bom _ ready.begun (ap (λ (p : Page). has_bom p.encoding) c.self.view_is ∙ c.requires.no_bom) in
    let ascii = line_start_ascii c.args.at in
    let bytes = line_start c.args.at c.requires.few ∙ ascii-bytes raw ascii in
    let adds = AddsEvent-appended utf8 raw _ c.self.inside.outlet c.append.new.self c.in_ok-append.ensures bytes in
    IsPen-added utf8 raw c.self.inside.encoding c.self.inside.line_break c.self.inside.outlet c.append.new.self c.self.inside.whitespace
    c.self.inside.indention
    c.self.inside.bom_due c.self.inside.column _ c.self.invariant ready.bom_written is_utf8 (ascii-scalars raw ascii) adds
    (at_column c.args.at (column_after (decode (seen_encoding c.self.inside.encoding) c.self.inside.outlet.all) 0) c.requires.few)

pub returns : goal.returns
returns g c = record {
  written =
      let raw = line_feed ∷ replicate c.args.at space in
      let ready = subst IsReady (sym c.self.view_is) c.requires.ready in
      let is_utf8 = no_bom _ ready.begun (ap (λ (p : Page). has_bom p.encoding) c.self.view_is ∙ c.requires.no_bom) in
      let ascii = line_start_ascii c.args.at in
      let bytes = line_start c.args.at c.requires.few ∙ ascii-bytes raw ascii in
      let adds = AddsEvent-appended utf8 raw _ c.self.inside.outlet c.append.new.self c.in_ok-append.ensures bytes in
      wrote_as (line_begun c.args.at) (broken_begun c.args.at c.args.self.now.cursor c.requires.breaks)
      (Wrote-added utf8 raw c.self.inside.encoding c.self.inside.line_break c.self.inside.outlet c.append.new.self c.self.inside.whitespace
      c.self.inside.indention
      c.self.inside.bom_due c.self.inside.column c.args.self.now (render_text raw) c.self.invariant is_utf8
      (ascii-scalars raw ascii) adds c.self.view_is
      c.requires.ready (line_start_names c.args.at c.args.self.now c.requires.line_feed));
}
