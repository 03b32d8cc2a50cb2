-- The stream of a TOML document, and its reading.
use Rattle.yaml_toml.proofs.Common.{yaml_error_t, ℕ, Some, Bool, true, List, [], map, ◌++◌, ◌∷◌, ◌≡◌, ◌∙◌, ap₂, list_all, Event, Result, has_scalar_texts}
use Rattle.yaml_toml.proofs.Common.{Settings, Tree, WriterState, opening, toml_events, by_11, by_core}
use Rattle.yaml_base.proofs.Common.{stream_trees}
use Rattle.yaml_emitter.specs.Emits.{Emits}
use Rattle.yaml_toml.proofs.{Several.several_read, TomlTrees.root_of}
use Rattle.yaml_toml.specs.{Means.ReadsAsToml, Means.IsYamlOfToml, Several.AllTablesMean, Several.ReadsAsTables, Walk.WroteToml}
use Rattle.yaml_writer.specs.{Means.plain_document, Writing.Finishes, Writing.IsNewWriter}
use Rattle.toml_ordered.specs.Data as toml

-- the reading of one document
one_read : (breaks12 : Bool) (bytes : List ℕ) (root : toml.TomlNodes) (trees : List Tree) → stream_trees breaks12 bytes ≡ Some (map plain_document trees)
    → AllTablesMean by_11 (root ∷ []) trees → AllTablesMean by_core (root ∷ []) trees → ReadsAsToml breaks12 bytes root
one_read breaks12 bytes root [] read old new = absurd old
one_read breaks12 bytes root (tree ∷ []) read old new = record { tree = tree; read = read; means_by_11 = old.0; means_by_core = new.0 }
one_read breaks12 bytes root (tree ∷ other ∷ trees) read old new = absurd old.1

reads_one : (breaks12 : Bool) (bytes : List ℕ) (root : toml.TomlNodes) → ReadsAsTables breaks12 bytes (root ∷ []) → ReadsAsToml breaks12 bytes root
reads_one breaks12 bytes root reads = one_read breaks12 bytes root reads.trees reads.read reads.means_by_11 reads.means_by_core

-- a new writer was given a document's events
pub new_events : (given : Settings) (in_flow : Bool) (root : toml.TomlNodes) (first now : WriterState) {answer : Result (Unit {0}) yaml_error_t}
    → IsNewWriter given first → Emits first.emitter (toml_events first.canonical in_flow (root_of root)) answer now.emitter
    → now.emitter.events ≡ opening ++ toml_events given.canonical in_flow (root_of root)
new_events given in_flow root first now new emits =
    emits.set.events ∙ ap₂ (λ (before : List Event) (c : Bool). before ++ toml_events c in_flow (root_of root)) new.events new.canonical

-- and was finished
pub yaml_of : (given : Settings) (in_flow : Bool) (text bytes : List ℕ) (first filled : WriterState) → IsNewWriter given first
    → WroteToml in_flow text first filled → list_all has_scalar_texts filled.emitter.events ≡ true → Finishes filled.emitter bytes
    → IsYamlOfToml given in_flow text bytes
yaml_of given in_flow text bytes first filled new wrote scalars finishes =
    let emits = wrote.wrote.emits in
    let several =
    several_read given in_flow (text, wrote.root) [] filled.emitter [] bytes ((wrote.read, wrote.numbers), tt) (emits.set.given ∙ new.settings)
    (new_events given in_flow wrote.root first filled new emits) (emits.taken ∙ new.untaken) scalars finishes in
    record {
      root = wrote.root;
      read = wrote.read;
      stream = several.stream;
      reads = reads_one given.breaks12 bytes wrote.root several.reads;
      reads_with_either_breaks = λ portable breaks12. reads_one breaks12 bytes wrote.root (several.reads_with_either_breaks portable breaks12);
    }
