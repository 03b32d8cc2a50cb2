-- The meaning of the output of an accepted list, in canonical mode and in every mode, if no limit cuts it.
use Rattle.std.specs.Prelude.{◌≡◌, ◌≤◌, Bool, true, Some, List, length}
use Rattle.std.specs.List.{list_all}
use Rattle.yaml_base.specs.Settings.{Settings}
use Rattle.yaml_base.specs.Event.{Event}
use Rattle.yaml_base.specs.Refusal.{IsAccepted}
use Rattle.yaml_base.specs.Pieces.{list_layout}
use Rattle.yaml_base.specs.Output.{settings_for, bytes_written, output_of}
use Rattle.yaml_base.specs.reading.Content.{content_of}
use Rattle.yaml_base.specs.reading.CanonicalReader.{canonical_content}
use Rattle.yaml_base.specs.Meaning.{has_scalar_texts}
use Rattle.yaml_base.specs.streams.StreamContent.{DocumentTree, agrees}
use Rattle.yaml_base.specs.StreamLaw.{reads_alike}
use Rattle.yaml_base.specs.streams.StreamReader.{stream_trees}

-- the limit is at least the length of all bytes
abbrev pub IsUncut : Settings → List Event → Type 0
IsUncut given events =
    length (bytes_written (settings_for given events) (list_layout (settings_for given events) events)) ≤ given.limit

-- a list that is written whole in canonical mode
pub record IsWrittenWhole (given : Settings) (events : List Event) : Type 0 where
  pub canonical : given.canonical ≡ true
  pub accepted : IsAccepted given.canonical events
  pub scalars : list_all has_scalar_texts events ≡ true
  pub uncut : IsUncut given events

-- the output of such a list reads as its content
abbrev pub OutputReads : Settings → List Event → Type 0
OutputReads given events = IsWrittenWhole given events → canonical_content given.breaks12 (output_of given events) ≡ content_of events

-- under equal settings equal outputs come only from equal contents
abbrev pub OutputTells : Settings → (first second : List Event) → Type 0
OutputTells given first second =
    IsWrittenWhole given first → IsWrittenWhole given second → output_of given first ≡ output_of given second
    → content_of first ≡ content_of second

-- a list that is written whole, in any mode, in a form that readers of YAML read alike
pub record IsReadable (given : Settings) (events : List Event) : Type 0 where
  pub accepted : IsAccepted given.canonical events
  pub scalars : list_all has_scalar_texts events ≡ true
  pub portable : reads_alike given.portable given.canonical events ≡ true
  pub uncut : IsUncut given events

-- the output of such a list reads as documents that agree with it
abbrev pub OutputReadsBack : Settings → List Event → Type 0
OutputReadsBack given events =
    IsReadable given events → agrees given.canonical events (stream_trees given.breaks12 (output_of given events)) ≡ true

-- two lists have the same content, as far as it is written: some documents agree with both. They have equally many documents, with the
-- same versions and directives, and node for node the same kind, anchor or alias, written tag, value and entries. A scalar whose tag
-- isn't written is plain, quoted or after the bare tag, as the flags of both allow. Styles, markers of documents, and tags that
-- flags leave out are not kept
pub record HaveSameContent (canonical : Bool) (first second : List Event) : Type 0 where
  pub documents : List DocumentTree
  pub first_agrees : agrees canonical first (Some documents) ≡ true
  pub second_agrees : agrees canonical second (Some documents) ≡ true

-- under equal settings equal outputs come only from lists of the same content
abbrev pub OutputTellsContent : Settings → (first second : List Event) → Type 0
OutputTellsContent given first second =
    IsReadable given first → IsReadable given second → output_of given first ≡ output_of given second
    → HaveSameContent given.canonical first second
