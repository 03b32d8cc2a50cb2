-- Equal bytes come only from equivalent documents; and equivalent documents have equal bytes in canonical mode.
use Rattle.std.specs.Prelude.{◌≡◌, ℕ, Bool, true, List}
use Rattle.yaml_base.specs.Settings.{Settings}
use Rattle.yaml_base.specs.Event.{Event}
use Rattle.yaml_base.specs.Output.{encoding_asked, output_of}
use Rattle.yaml_base.specs.graphs.Meetings.{Graph}
use Rattle.yaml_base.specs.graphs.Dumped.{IsDumpOf, GraphsRead}
use Rattle.yaml_base.specs.graphs.Isomorphic.{AllAreEquivalent, AreWrittenAlike}
use Rattle.yaml_emitter.specs.Uncut.{IsWrittenWhole, IsReadable}
use Rattle.yaml_dump.specs.GraphTrees.{GraphsReadBack}

-- bytes in which the canonical reader finds graphs hold no others
abbrev pub OneReading : Type 0
OneReading =
    (breaks12 : Bool) (firsts seconds : List Graph) (bytes : List ℕ) → GraphsRead breaks12 firsts bytes → GraphsRead breaks12 seconds bytes
    → AllAreEquivalent firsts seconds

-- bytes in which the reader of whole streams finds graphs hold no others
abbrev pub OneReadingBack : Type 0
OneReadingBack =
    (breaks12 : Bool) (firsts seconds : List Graph) (bytes : List ℕ) → GraphsReadBack breaks12 firsts bytes → GraphsReadBack breaks12 seconds bytes
    → AllAreEquivalent firsts seconds

-- under equal settings equal canonical outputs, uncut, come only from equivalent documents
abbrev pub EqualBytesTellGraphs : Type 0
EqualBytesTellGraphs =
    (given : Settings) (firsts seconds : List Graph) (first second : List Event) → IsDumpOf firsts first → IsDumpOf seconds second
    → IsWrittenWhole given first → IsWrittenWhole given second → output_of given first ≡ output_of given second → AllAreEquivalent firsts seconds

-- under equal settings equal outputs of streams that read back, in every mode, come only from equivalent documents
abbrev pub EqualReadableBytesTellGraphs : Type 0
EqualReadableBytesTellGraphs =
    (given : Settings) (firsts seconds : List Graph) (first second : List Event) → IsDumpOf firsts first → IsDumpOf seconds second
    → IsReadable given first → IsReadable given second → output_of given first ≡ output_of given second → AllAreEquivalent firsts seconds

-- in canonical mode equivalent documents that end alike have equal outputs, whatever their styles
abbrev pub IsomorphicGraphsDumpEqually : Type 0
IsomorphicGraphsDumpEqually =
    (given : Settings) (firsts seconds : List Graph) (first second : List Event) → given.canonical ≡ true → IsDumpOf firsts first
    → IsDumpOf seconds second → encoding_asked first ≡ encoding_asked second → AreWrittenAlike firsts seconds
    → output_of given first ≡ output_of given second
