-- The invariants of an emitter, after a call that writes.
use Rattle.yaml_emitter.proofs.Common.{ℕ, if◌then◌else◌, Bool, false, List, [], refl, ◌≡◌, ap, subst, sym, ◌∙◌, TagDirective, Frame}
use Rattle.yaml_emitter.proofs.Common.{Stage, at_stream, at_document, some_handle_breaks, machine_state, IsMachine}
use Rattle.yaml_emitter.proofs.Common.{seen_stage, FitsPage, is_at_stream, Page, encoded, IsUntouched, IsReady}
use Rattle.yaml_emitter.specs.declared.{machine.Machine.TheInside.Inside, writing.open_ended.OpenEnded.OpenEnded}
use Rattle.yaml_emitter.specs.declared.stage.Stage.TheVariants.{Node}
use Rattle.yaml_emitter.specs.declared.stage.Stage as stage

-- a page that is ready fits every stage after the stream's start
pub fits_ready : (st : Stage) (page : Page) → is_at_stream st ≡ false → IsReady page → FitsPage st page
fits_ready at_stream page behind ready = cc
fits_ready _ page behind ready = ready

pub kept_writing : {A : Type 0} (e : Inside A) (pen : Page) (after : stage.Stage) (frames : List Frame) (open_ended : OpenEnded) → IsMachine e
    → FitsPage (seen_stage after e.directives frames) pen → IsMachine (record e { pen = pen; stage = after; frames = frames; open_ended = open_ended })
kept_writing e pen after frames open_ended kept fits =
    record {
      handles = kept.handles;
      canonical = kept.canonical;
      page = fits;
    }

pub kept_prefix : {A : Type 0} (e : Inside A) (pen : Page) (after : stage.Stage) (directives : List TagDirective) (frames : List Frame)
    (open_ended : OpenEnded)
    → IsMachine e
    → some_handle_breaks directives ≡ false → FitsPage (seen_stage after directives frames) pen
    → IsMachine (record e { pen = pen; stage = after; directives = directives; frames = frames; open_ended = open_ended })
kept_prefix e pen after directives frames open_ended kept handles fits =
    record {
      handles = handles;
      canonical = kept.canonical;
      page = fits;
    }

-- between documents no directives are seen
unseen : (st : stage.Stage) (before after : List TagDirective) (frames : List Frame) (first : Bool) → seen_stage st before frames ≡ at_document first
    → seen_stage st after frames ≡ seen_stage st before frames
unseen Node before after frames first at = cc
unseen _ before after frames first at = refl

pub seen_without : {A : Type 0} (e : Inside A) (directives : List TagDirective) (first : Bool) → (machine_state e).stage ≡ at_document first
    → machine_state (record e { directives = directives }) ≡ machine_state e
seen_without e directives first at = ap (λ (st : Stage). record (machine_state e) { stage = st }) (unseen e.stage e.directives directives e.frames first at)

pub seen_at : {A : Type 0} (e : Inside A) (st : stage.Stage) → e.stage ≡ st → (machine_state e).stage ≡ seen_stage st e.directives e.frames
seen_at e st at = ap (λ (st : stage.Stage). seen_stage st e.directives e.frames) at

pub behind_start : {st at : Stage} → st ≡ at → is_at_stream at ≡ false → is_at_stream st ≡ false
behind_start is behind = ap is_at_stream is ∙ behind

-- a flush keeps a page that fits: of an untouched one it changes nothing
unwritten : (page : Page) → IsUntouched page → page.bom_due ≡ false → page.output ≡ [] → page.output ≡ encoded page
unwritten page untouched due output = output ∙ sym untouched.no_bytes ∙ ap (λ b. if b then [] else encoded page) due

-- a page fits whatever its limit is
fits_limited : (st : Stage) (page : Page) (limit : ℕ) → FitsPage st page → FitsPage st (record page { limit = limit })
fits_limited at_stream page limit fits = (record { no_bytes = fits.0.no_bytes; no_error = fits.0.no_error }, fits.1, fits.2)
fits_limited _ page limit fits = record { begun = fits.begun; bom_written = fits.bom_written }

pub kept_limited : {A : Type 0} (e after : Inside A) (limit : ℕ) → IsMachine e
    → after ≡ record e { given = record e.given { limit = limit }; pen = record e.pen { limit = limit } } → IsMachine after
kept_limited e after limit kept is =
    subst (λ (m : Inside _). IsMachine m) (sym is)
    (record {
      handles = kept.handles;
      canonical = kept.canonical;
      page = fits_limited (seen_stage e.stage e.directives e.frames) e.pen limit kept.page;
    })
