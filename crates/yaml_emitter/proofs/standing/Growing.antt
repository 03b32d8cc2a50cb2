-- Nothing that was written is lost by an event.
use Rattle.yaml_emitter.proofs.Common.{IsSome, Option, None, Some, Result, Err, Ok, Bool, refl, ◌≡◌, ap, subst, sym, prefix_same, Event, stream_start}
use Rattle.yaml_emitter.proofs.Common.{WritesPage, CutPage, unwritten, partly_written, Processed, MachineState, Page, Grows, Flushed}
use Rattle.yaml_base.specs.declared.errors.{yaml_error_t.yaml_error_t, yaml_error_t.TheVariants.Memory, yaml_error_t.TheVariants.WriteError}
use Rattle.yaml_pen.proofs.Composing.{wrote_grows}

-- a page grows by nothing if text and output are equal
pub grows_same : (before after : Page) → after.text ≡ before.text → after.output ≡ before.output → Grows before after
grows_same before after text output = record {
  text = prefix_same before.text after.text (sym text);
  output = prefix_same before.output after.output (sym output);
}

-- a page grows to itself
pub grows_page : (before after : Page) → after ≡ before → Grows before after
grows_page before after same = grows_same before after (ap (λ (p : Page). p.text) same) (ap (λ (p : Page). p.output) same)

written_grows : (event : Event) (empty : Bool) (before after : MachineState) → WritesPage event empty before after → Grows before.page after.page
written_grows (stream_start encoding) empty before after h = grows_same before.page after.page (ap (λ (p : Page). p.text) h.1) (ap (λ (p : Page). p.output) h.1)
written_grows event empty before after h = wrote_grows h.1

pub cut_grows : (error : yaml_error_t) (event : Event) (empty : Bool) (before after : MachineState) → CutPage error event empty before after
    → Grows before.page after.page
cut_grows error event empty before after (unwritten memory same) = grows_page before.page after.page same
cut_grows error event empty before after (partly_written part) = wrote_grows part.wrote

pub processed_grows : (event : Event) (empty : Bool) (before after : MachineState) (answer : Result (Unit {0}) yaml_error_t)
    → Processed event empty before after answer
    → Grows before.page after.page
processed_grows event empty before after (Ok _) done = written_grows event empty before after done.page
processed_grows event empty before after (Err WriteError) done = cut_grows WriteError event empty before after done.page
processed_grows event empty before after (Err Memory) done = cut_grows Memory event empty before after done.page
processed_grows event empty before after (Err error) done = grows_page before.page after.page (ap (λ (s : MachineState). s.page) done.kept)

-- a flush that memory refuses leaves the output as it was
pub flushed_unflushed : {before after : Page} {answer : Result (Unit {0}) yaml_error_t} → Flushed before after answer → after.error ≡ Some Memory
    → after.output ≡ before.output
flushed_unflushed {before} {after} flushed memory = by_error before.error refl
  where
    by_error : (error : Option yaml_error_t) → before.error ≡ error → after.output ≡ before.output
    by_error None none = flushed.nothing none memory
    by_error (Some error) some = ap (λ (p : Page). p.output) (flushed.stopped (subst (λ (o : Option yaml_error_t). IsSome o) (sym some) refl))
