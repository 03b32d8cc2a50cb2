-- Several documents of TOML in one stream, and their reading.
use Rattle.std.specs.Prelude.{◌≡◌, ℕ, Bool, true, Some, List, [], ◌∷◌, ◌++◌, map}
use Rattle.std.specs.List.{list_all}
use Rattle.toml_ordered.specs.Data.{TomlNodes, table}
use Rattle.toml_ordered.specs.Grammar.{ordered_document}
use Rattle.toml_ordered.specs.declared.tree.Origin.TheVariants.{Header}
use Rattle.yaml_base.specs.Event.{Event}
use Rattle.yaml_base.specs.Meaning.{has_scalar_texts}
use Rattle.yaml_base.specs.Settings.{Settings}
use Rattle.yaml_base.specs.streams.StreamContent.{Tree}
use Rattle.yaml_base.specs.streams.StreamReader.{stream_trees}
use Rattle.yaml_emitter.specs.State.{bytes_taken}
use Rattle.yaml_writer.specs.WasGiven.{between, EmitsTaking}
use Rattle.yaml_writer.specs.Means.{plain_document}
use Rattle.yaml_writer.specs.Writing.{Finishes, IsStream, WriterState, closing, opening}
use Rattle.yaml_toml.specs.Events.{toml_events}
use Rattle.yaml_toml.specs.Walk.{KeysHaveNumbers}
use Rattle.yaml_toml.specs.Means.{MeansToml, SchemaReader, by_11, by_core}

-- each of some texts is a document, with its root table, in which each decimal is a number
abbrev pub AreDocuments : List (List ℕ × TomlNodes) → Type 0
AreDocuments [] = Unit {0}
AreDocuments (part ∷ parts) = ((ordered_document part.0 ≡ Some part.1) × KeysHaveNumbers part.1) × AreDocuments parts

-- the events of their tables, a document each, within the start of the first document and the end of the last
abbrev pub several_events : (canonical in_flow : Bool) → List (List ℕ × TomlNodes) → List Event
several_events canonical in_flow [] = []
several_events canonical in_flow (part ∷ []) = toml_events canonical in_flow (table Header part.1)
several_events canonical in_flow (part ∷ next ∷ rest) =
    toml_events canonical in_flow (table Header part.1) ++ (between ++ several_events canonical in_flow (next ∷ rest))

-- trees mean some tables, each its own, in order
abbrev pub AllTablesMean : SchemaReader → List TomlNodes → List Tree → Type 0
AllTablesMean reader [] [] = Unit {0}
AllTablesMean reader (root ∷ roots) (tree ∷ trees) = MeansToml reader (table Header root) tree × AllTablesMean reader roots trees
AllTablesMean reader _ _ = ⊥

-- The reader of whole streams finds in some bytes for each of these tables one document without directives, in order, whose root means
-- the table by the type repository of YAML 1.1 and by the core schema of YAML 1.2.
pub record ReadsAsTables (breaks12 : Bool) (bytes : List ℕ) (roots : List TomlNodes) : Type 0 where
  pub trees : List Tree
  pub read : stream_trees breaks12 bytes ≡ Some (map plain_document trees)
  pub means_by_11 : AllTablesMean by_11 roots trees
  pub means_by_core : AllTablesMean by_core roots trees

-- the bytes are the stream of the documents of these texts, and both schemas read them as their tables, in portable mode with the line
-- breaks of YAML 1.1 and with those of 1.2
pub record IsYamlOfSeveral (given : Settings) (in_flow : Bool) (parts : List (List ℕ × TomlNodes)) (bytes : List ℕ) : Type 0 where
  pub stream : IsStream given (opening ++ several_events given.canonical in_flow parts ++ closing) bytes
  pub reads : ReadsAsTables given.breaks12 bytes (map (λ part. part.1) parts)
  pub reads_with_either_breaks : given.portable ≡ true → (breaks12 : Bool) → ReadsAsTables breaks12 bytes (map (λ part. part.1) parts)

-- If a writer was at the start of its first document, was given the documents of some texts, one at least, and these bytes were taken
-- meanwhile, then the stream that it finishes, all taken bytes first, is read as their tables, in order. `Writer::promised` states that
-- the texts of its events are those of strings.
abbrev pub DocumentsAreRead : Type 0
DocumentsAreRead =
    (in_flow : Bool) (part : List ℕ × TomlNodes) (rest : List (List ℕ × TomlNodes)) (was now : WriterState) (taken bytes : List ℕ)
    → AreDocuments (part ∷ rest) → EmitsTaking was.emitter (several_events was.canonical in_flow (part ∷ rest)) taken now.emitter
    → was.emitter.events ≡ opening → was.canonical ≡ was.emitter.given.canonical → list_all has_scalar_texts now.emitter.events ≡ true
    → Finishes now.emitter bytes → IsYamlOfSeveral was.emitter.given in_flow (part ∷ rest) ((bytes_taken was.emitter ++ taken) ++ bytes)
