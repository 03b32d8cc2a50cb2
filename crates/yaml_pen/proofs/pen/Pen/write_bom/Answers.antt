use Rattle.yaml_pen.proofs.Common.{ℕ, List, ap, ◌∙◌, OutletState, Page}
use Rattle.yaml_pen.proofs.Starting.{IsPen-bom_written, page-bom_written, some_encoding}
use Rattle.yaml_pen.proofs.pen.Pen.write_bom.Goals as goal

pub invariant_of-self : goal.invariant_of-self
invariant_of-self g c =
    let due = ap (λ (p : Page). p.bom_due) c.self.view_is ∙ c.requires in
    let e = some_encoding _ (c.self.invariant.marks due) in
    let bom_written = c.as_slice.ensures.value ∙ c.encoded_character-bom.ensures e.0 e.1 in
    let after = c.begin.ensures.bytes ∙ ap (λ (l : List ℕ). let b : OutletState = record c.self.inside.outlet { all = l } in b) bom_written in
    IsPen-bom_written e.0 c.self.inside.encoding c.self.inside.line_break c.self.inside.outlet c.begin.new.self c.self.inside.whitespace c.self.inside.indention
    c.self.inside.bom_due c.self.inside.column c.self.invariant due e.1 after c.begin.ensures.sound

pub returns-clause-page : goal.returns-clause-page
returns-clause-page g c =
    let due = ap (λ (p : Page). p.bom_due) c.self.view_is ∙ c.requires in
    let e = some_encoding _ (c.self.invariant.marks due) in
    let bom_written = c.as_slice.ensures.value ∙ c.encoded_character-bom.ensures e.0 e.1 in
    let after = c.begin.ensures.bytes ∙ ap (λ (l : List ℕ). let b : OutletState = record c.self.inside.outlet { all = l } in b) bom_written in
    page-bom_written e.0 c.self.inside.encoding c.self.inside.line_break c.self.inside.outlet c.begin.new.self c.self.inside.whitespace c.self.inside.indention
    c.self.inside.bom_due c.self.inside.column c.args.self.now c.self.invariant due e.1 after c.self.view_is
