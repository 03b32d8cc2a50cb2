use Rattle.yaml_pen.proofs.Common.{min, [], ◌∷◌, ap, subst, sym, ◌∙◌, line_feed, render_text, Page, IsReady}
use Rattle.yaml_pen.proofs.Writing.{Names, AddsEvent-appended, IsPen-added, Wrote-added, known_encoding, line_break_of, break_of, scalar-break, break-column}
use Rattle.yaml_pen.proofs.Writing.{Names-break}
use Rattle.yaml_pen.proofs.pen.Pen.put_break.Goals as goal

pub invariant_of-self-2 : goal.invariant_of-self-2
invariant_of-self-2 g c =
    let ready = subst IsReady (sym c.self.view_is) c.requires.ready in
    let e = known_encoding _ ready.begun in
    let bytes = c.as_slice.ensures.value ∙ c.encoded_break-bytes.ensures e.0 e.1 in
    let adds = AddsEvent-appended e.0 (break_of c.self.inside.line_break) _ c.self.inside.outlet c.append.new.self c.in_ok-append.ensures bytes in
    IsPen-added e.0 (break_of c.self.inside.line_break) c.self.inside.encoding c.self.inside.line_break c.self.inside.outlet c.append.new.self
    c.self.inside.whitespace c.self.inside.indention
    c.self.inside.bom_due c.self.inside.column _ c.self.invariant ready.bom_written e.1 (scalar-break (line_break_of c.self.inside.line_break)) adds
    (sym (ap (λ n. min n 4294967295) (break-column (line_break_of c.self.inside.line_break) _)))

pub returns : goal.returns
returns g c = record {
  written =
      let ready = subst IsReady (sym c.self.view_is) c.requires.ready in
      let e = known_encoding _ ready.begun in
      let bytes = c.as_slice.ensures.value ∙ c.encoded_break-bytes.ensures e.0 e.1 in
      let adds = AddsEvent-appended e.0 (break_of c.self.inside.line_break) _ c.self.inside.outlet c.append.new.self c.in_ok-append.ensures bytes in
      Wrote-added e.0 (break_of c.self.inside.line_break) c.self.inside.encoding c.self.inside.line_break c.self.inside.outlet c.append.new.self
      c.self.inside.whitespace c.self.inside.indention
      c.self.inside.bom_due c.self.inside.column c.args.self.now (render_text (line_feed ∷ [])) c.self.invariant e.1
      (scalar-break (line_break_of c.self.inside.line_break)) adds c.self.view_is
      c.requires.ready (subst (λ (p : Page). Names (break_of c.self.inside.line_break) (render_text (line_feed ∷ [])) p) c.self.view_is (Names-break _));
}
