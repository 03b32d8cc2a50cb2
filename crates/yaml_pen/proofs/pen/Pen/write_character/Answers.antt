use Rattle.yaml_pen.proofs.Common.{[], ◌∷◌, subst, sym, ◌∙◌, render_text, IsReady}
use Rattle.yaml_pen.proofs.Writing.{AddsEvent-appended, IsPen-added, Wrote-added, known_encoding, character_bytes-text, scalar-text, Names-character}
use Rattle.yaml_pen.proofs.pen.Pen.write_character.Goals as goal

pub invariant_of-self-2 : goal.invariant_of-self-2
invariant_of-self-2 g c =
    let ready = subst IsReady (sym c.self.view_is) c.requires.ready in
    let e = known_encoding _ ready.begun in
    let bytes = c.as_slice.ensures.value ∙ c.encoded_character-bytes.ensures e.0 e.1 ∙ character_bytes-text e.0 c.args.character in
    let adds = AddsEvent-appended e.0 (c.args.character ∷ []) _ c.self.inside.outlet c.append.new.self c.in_ok-append.ensures bytes in
    IsPen-added e.0 (c.args.character ∷ []) c.self.inside.encoding c.self.inside.line_break c.self.inside.outlet c.append.new.self c.self.inside.whitespace
    c.self.inside.indention
    c.self.inside.bom_due c.self.inside.column _ c.self.invariant ready.bom_written e.1 (scalar-text c.args.character c.ranges.character.0) adds
    (c.next_column-self-inside.ensures _ c.self.invariant.column)

pub returns : goal.returns
returns g c = record {
  written =
      let ready = subst IsReady (sym c.self.view_is) c.requires.ready in
      let e = known_encoding _ ready.begun in
      let bytes = c.as_slice.ensures.value ∙ c.encoded_character-bytes.ensures e.0 e.1 ∙ character_bytes-text e.0 c.args.character in
      let adds = AddsEvent-appended e.0 (c.args.character ∷ []) _ c.self.inside.outlet c.append.new.self c.in_ok-append.ensures bytes in
      Wrote-added e.0 (c.args.character ∷ []) c.self.inside.encoding c.self.inside.line_break c.self.inside.outlet c.append.new.self c.self.inside.whitespace
      c.self.inside.indention
      c.self.inside.bom_due c.self.inside.column c.args.self.now (render_text (c.args.character ∷ [])) c.self.invariant e.1
      (scalar-text c.args.character c.ranges.character.0) adds c.self.view_is
      c.requires.ready (Names-character c.args.character c.args.self.now c.requires.not_line_feed);
}
