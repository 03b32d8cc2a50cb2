-- A flush after a call that writes.
use Rattle.yaml_emitter.proofs.Common.{Result, Ok, ◌≡◌, append-nil, ap, Text, Cursor, Rendered, render_nothing, render_then, wrote_then, wrote_as, Page}
use Rattle.yaml_emitter.proofs.Common.{Wrote, Flushed}
use Rattle.yaml_base.specs.declared.errors.yaml_error_t.{yaml_error_t}
use Rattle.yaml_pen.proofs.Composing.{flushed_wrote}

nothing_more : (rendered : Rendered) → render_then rendered render_nothing ≡ rendered
nothing_more rendered = ap (λ (text : Text). let l : Rendered = record { text = text; cursor = rendered.cursor } in l) (append-nil rendered.text)

-- an event that was written before a flush is written after it
pub wrote_flushed : {render : Cursor → Rendered} {before between after : Page} {answer : Result (Unit {0}) yaml_error_t}
    → Wrote render before between (Ok tt) → Flushed between after answer → Wrote render before after answer
wrote_flushed {render} {before} {between} {after} {answer} wrote flushed =
    wrote_as render (nothing_more (render before.cursor)) (wrote_then wrote (flushed_wrote wrote.ready flushed))
