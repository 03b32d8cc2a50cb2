use Rattle.yaml_emitter.proofs.Common.{ℕ, None, Bool, List, [], ◌∷◌, refl, ap, sym, ◌∙◌, list_any, is_break, render_handle, render_spelled_tag}
use Rattle.yaml_emitter.proofs.pieces.Atoms.{symbol-chars}
use Rattle.yaml_emitter.proofs.writing.properties.bare_tag_atoms.Goals as goal

pub returns-then-bare-clause-whole : goal.returns-then-bare-clause-whole
returns-then-bare-clause-whole c = ap (list_any is_break) (symbol-chars (33 ∷ []) refl)

pub returns-then-bare-clause-rendered : goal.returns-then-bare-clause-rendered
returns-then-bare-clause-rendered c s place cursor =
    ap (λ (text : List ℕ). render_handle text cursor) (symbol-chars (33 ∷ []) refl)
    ∙ ap (λ (bare : Bool). render_spelled_tag s.portable None bare cursor) (sym c.if-bare.true)
