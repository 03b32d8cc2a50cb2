use Rattle.yaml_pen.proofs.Common.{length, refl, ap, subst, sym, ◌∙◌, render_text, utf8, Page, has_bom, IsReady}
use Rattle.yaml_pen.proofs.AsciiRuns.{ascii-bytes, ascii-scalars}
use Rattle.yaml_pen.proofs.Writing.{AddsEvent-appended, IsPen-added, Wrote-added, no_bom, Names-run, piece-column}
use Rattle.yaml_pen.proofs.pen.Pen.write_ascii_bytes.Goals as goal

pub invariant_of-self-2 : goal.invariant_of-self-2
invariant_of-self-2 g c =
    let text = c.args.text.now in
    let ready = subst IsReady (sym c.self.view_is) c.requires.ready in
    let is_utf8 = no_bom _ ready.begun (ap (λ (p : Page). has_bom p.encoding) c.self.view_is ∙ c.requires.no_bom) in
    let bytes = ascii-bytes c.args.text.now c.requires.ascii in
    let adds = AddsEvent-appended utf8 text _ c.self.inside.outlet c.append.new.self c.in_ok-append.ensures bytes in
    IsPen-added utf8 text c.self.inside.encoding c.self.inside.line_break c.self.inside.outlet c.append.new.self c.self.inside.whitespace
    c.self.inside.indention
    c.self.inside.bom_due c.self.inside.column _ c.self.invariant ready.bom_written is_utf8 (ascii-scalars c.args.text.now c.requires.ascii) adds
    (c.saturating_add-self-inside.ensures ∙ piece-column text _ c.self.inside.column (length text) c.requires.no_break c.self.invariant.column refl)

pub returns : goal.returns
returns g c = record {
  written =
      let text = c.args.text.now in
      let ready = subst IsReady (sym c.self.view_is) c.requires.ready in
      let is_utf8 = no_bom _ ready.begun (ap (λ (p : Page). has_bom p.encoding) c.self.view_is ∙ c.requires.no_bom) in
      let bytes = ascii-bytes c.args.text.now c.requires.ascii in
      let adds = AddsEvent-appended utf8 text _ c.self.inside.outlet c.append.new.self c.in_ok-append.ensures bytes in
      Wrote-added utf8 text c.self.inside.encoding c.self.inside.line_break c.self.inside.outlet c.append.new.self c.self.inside.whitespace
      c.self.inside.indention
      c.self.inside.bom_due c.self.inside.column c.args.self.now (render_text text) c.self.invariant is_utf8
      (ascii-scalars c.args.text.now c.requires.ascii) adds c.self.view_is
      c.requires.ready (Names-run text c.args.self.now c.requires.no_break);
}
