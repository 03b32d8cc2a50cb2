-- The YAML of several files of TOML, which a sink is given.
use Rattle.std.specs.Prelude.{◌≡◌, ◌⊎◌, ℕ, Some, List, [], ◌∷◌, ◌++◌, codes, map, Bool, IsUtf8}
use Rattle.toml_ordered.specs.Data.{TomlNodes, table}
use Rattle.toml_ordered.specs.Grammar.{ordered_document}
use Rattle.toml_ordered.specs.declared.tree.Origin.TheVariants.{Header}
use Rattle.yaml_base.specs.Event.{Event}
use Rattle.yaml_emitter.specs.Given.{seen_settings}
use Rattle.yaml_writer.specs.Writing.{IsStream, WriterState, closing, opening}
use Rattle.yaml_writer.specs.WasGiven.{between}
use Rattle.yaml_toml.specs.Depth.{NestsWithin}
use Rattle.yaml_toml.specs.Events.{toml_events}
use Rattle.yaml_toml.specs.Walk.{WroteToml}
use Rattle.yaml_toml.specs.WritingCalls.{DocumentUnwritten}
use Rattle.yaml_toml.specs.declared.error.TomlError.{TomlError}
use Rattle.yaml_writer.specs.declared.settings.ValueSettings.{ValueSettings}
use Rattle.yaml_program.specs.Streams.{Sending}
use Rattle.toml2yaml.specs.Statuses.{toml_status}

-- ---- the bytes that a sink is given

-- True if each of some texts is UTF-8 and a document of TOML whose root table is beside it, and nests at most `depth` deep.
abbrev pub AreToml : (depth : ℕ) → List (List ℕ × TomlNodes) → Type 0
AreToml depth [] = Unit {0}
AreToml depth (part ∷ parts) =
    (IsUtf8 part.0 × (ordered_document part.0 ≡ Some part.1) × NestsWithin depth part.0) × AreToml depth parts

abbrev pub root_events : (canonical in_flow : Bool) → TomlNodes → List Event
root_events canonical in_flow root = toml_events canonical in_flow (table Header root)

-- The events of their tables, a document each, between the start of the first document and the end of the last.
abbrev pub toml_parts_events : (canonical in_flow : Bool) → List (List ℕ × TomlNodes) → List Event
toml_parts_events canonical in_flow [] = []
toml_parts_events canonical in_flow (part ∷ []) = root_events canonical in_flow part.1
toml_parts_events canonical in_flow (part ∷ next ∷ rest) =
    root_events canonical in_flow part.1 ++ (between ++ toml_parts_events canonical in_flow (next ∷ rest))

-- True if the file is UTF-8 and a document of TOML that nests at most `depth` deep, and its events were given.
abbrev pub WroteFile : (depth : ℕ) → (in_flow : Bool) → List ℕ → WriterState → WriterState → Type 0
WroteFile depth in_flow file was now = IsUtf8 file × NestsWithin depth file × WroteToml in_flow file was now

-- The same, and the sink was given nothing.
abbrev pub SentTomlFile : ValueSettings → Sending
SentTomlFile settings file was before now after = WroteFile settings.depth settings.flow file was now × (after ≡ before)

-- True if the file's document isn't written, since it is refused, or since the emitter refuses an event of it, or the bytes pass the limit.
pub record UnwrittenFile (settings : ValueSettings) (file : List ℕ) (was now : WriterState) : Type 0 where
  pub error : TomlError
  pub status : toml_status error ≡ 1
  pub unwritten : DocumentUnwritten settings file was error now

-- True if the file isn't UTF-8, or its document isn't written.
abbrev pub RefusesFile : ValueSettings → List ℕ → WriterState → WriterState → Type 0
RefusesFile settings file was now = (IsUtf8 file → ⊥) ⊎ UnwrittenFile settings file was now

-- The same, and the sink was given nothing.
abbrev pub RefusedTomlFile : ValueSettings → Sending
RefusedTomlFile settings file was before now after = RefusesFile settings file was now × (after ≡ before)

-- True if the bytes are the stream of these files, a document each, by these settings.
pub record IsYamlOfTomlFiles (settings : ValueSettings) (files : List (List ℕ)) (bytes : List ℕ) : Type 0 where
  pub parts : List (List ℕ × TomlNodes)
  pub are : map (λ part. part.0) parts ≡ files
  pub each : AreToml settings.depth parts
  pub stream : IsStream (seen_settings settings.emitter)
      (opening ++ toml_parts_events settings.emitter.canonical settings.flow parts ++ closing) bytes
