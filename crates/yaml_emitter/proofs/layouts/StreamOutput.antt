-- The output of an accepted list in any mode, if no limit cuts it, reads as documents that agree with it.
use Rattle.yaml_emitter.proofs.Common.{ℕ, Option, None, Some, Bool, true, List, ◌≡◌, take_all, ap, ◌∙◌, false≢true, Event, encoding_asked, settings_for}
use Rattle.yaml_emitter.proofs.Common.{bytes_written, output_of, list_layout, Settings, agrees, stream_trees}
use Rattle.yaml_base.proofs.Common.{DocumentTree}
use Rattle.yaml_emitter.proofs.layouts.StreamsReadBack.{stream_reads_back, portable_reads_back}
use Rattle.yaml_emitter.specs.Uncut.{IsReadable, OutputReadsBack, HaveSameContent, OutputTellsContent}

-- the output is all bytes, which read back
pub output_reads_back : (given : Settings) (events : List Event) → OutputReadsBack given events
output_reads_back given events readable =
    let bytes = bytes_written (settings_for given events) (list_layout (settings_for given events) events) in
    ap (λ (output : List ℕ). agrees given.canonical events (stream_trees given.breaks12 output)) (take_all given.limit bytes readable.uncut)
    ∙ stream_reads_back given (encoding_asked events) events readable.accepted readable.scalars readable.portable

-- in portable mode with either kind of line breaks
pub output_reads_by_either : (given : Settings) (breaks12 : Bool) (events : List Event) → given.portable ≡ true → IsReadable given events
    → agrees given.canonical events (stream_trees breaks12 (output_of given events)) ≡ true
output_reads_by_either given breaks12 events portable readable =
    let bytes = bytes_written (settings_for given events) (list_layout (settings_for given events) events) in
    ap (λ (output : List ℕ). agrees given.canonical events (stream_trees breaks12 output)) (take_all given.limit bytes readable.uncut)
    ∙ portable_reads_back given breaks12 (encoding_asked events) events portable readable.accepted readable.scalars

-- the documents that were read of either agree with both
same_content : (canonical : Bool) (first second : List Event) (read : Option (List DocumentTree)) → agrees canonical first read ≡ true
    → agrees canonical second read ≡ true → HaveSameContent canonical first second
same_content canonical first second None one other = absurd (false≢true one)
same_content canonical first second (Some documents) one other = record { documents = documents; first_agrees = one; second_agrees = other }

pub output_tells_content : (given : Settings) (first second : List Event) → OutputTellsContent given first second
output_tells_content given first second one other same =
    same_content given.canonical first second (stream_trees given.breaks12 (output_of given first)) (output_reads_back given first one)
    (ap (λ (output : List ℕ). agrees given.canonical second (stream_trees given.breaks12 output)) same ∙ output_reads_back given second other)
