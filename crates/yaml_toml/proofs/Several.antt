-- The streams of several documents of TOML, and their reading.
use Rattle.yaml_toml.proofs.Common.{ℕ, Some, Bool, true, List, [], map, ◌++◌, ◌∷◌, refl, ◌≡◌, subst, ◌∙◌, and_from, list_all, Event, directives_in_force}
use Rattle.yaml_toml.proofs.Common.{opening, closing, has_scalar_texts, IsAccepted, Settings, Effective, Tree, State, ap₂, list_all-append, by_11, by_core}
use Rattle.yaml_toml.proofs.Common.{KeysHaveNumbers}
use Rattle.yaml_writer.proofs.{GivenAndTaken.stream_finished, WholeStreams.IsWhole, WholeStreams.stream_whole, WholeStreams.whole_by_either, Common.plain_start}
use Rattle.yaml_writer.proofs.DocumentsOf.{AreUnsigned, events_apart, tree_by, trees_found}
use Rattle.yaml_writer.specs.{Means.plain_document, Writing.Finishes}
use Rattle.yaml_base.proofs.Common.{Node, document_end, stream_trees, root_place, settings_for}
use Rattle.yaml_emitter.specs.State.{bytes_taken}
use Rattle.yaml_toml.proofs.TomlTrees.{node_flat, root_of, toml_node, value_unsigned}
use Rattle.yaml_toml.proofs.TomlMeanings.{ReadsToml, node_means, toml_by_11, toml_by_core}
use Rattle.yaml_toml.specs.Means.{SchemaReader}
use Rattle.yaml_toml.specs.Several.{AllTablesMean, AreDocuments, DocumentsAreRead, IsYamlOfSeveral, ReadsAsTables, several_events}
use Rattle.toml_ordered.specs.Data as toml

-- ---- the stream

abbrev Parts : Type 0
Parts = List (List ℕ × toml.TomlNodes)

abbrev roots_of : Parts → List toml.TomlNodes
roots_of parts = map (λ part. part.1) parts

-- the nodes of some tables
abbrev nodes_of : (canonical in_flow : Bool) → List toml.TomlNodes → List Node
nodes_of canonical in_flow roots = map (λ root. toml_node (root_of root) canonical in_flow) roots

parts_are : (canonical in_flow : Bool) (part : List ℕ × toml.TomlNodes) (rest : Parts)
    → events_apart (nodes_of canonical in_flow (roots_of (part ∷ rest))) ≡ several_events canonical in_flow (part ∷ rest)
parts_are canonical in_flow part [] = node_flat (root_of part.1) canonical in_flow
parts_are canonical in_flow part (next ∷ rest) =
    ap₂ (λ (first later : List Event). first ++ document_end true ∷ plain_start ∷ later) (node_flat (root_of part.1) canonical in_flow)
    (parts_are canonical in_flow next rest)

are_unsigned : (canonical in_flow : Bool) (roots : List toml.TomlNodes) → AreUnsigned canonical (nodes_of canonical in_flow roots)
are_unsigned canonical in_flow [] = tt
are_unsigned canonical in_flow (root ∷ roots) = (value_unsigned (root_of root) canonical in_flow, are_unsigned canonical in_flow roots)

-- ---- its reading

-- each decimal of each table is a number
abbrev HaveNumbers : List toml.TomlNodes → Type 0
HaveNumbers [] = Unit {0}
HaveNumbers (root ∷ roots) = KeysHaveNumbers root × HaveNumbers roots

have_numbers : (parts : Parts) → AreDocuments parts → HaveNumbers (roots_of parts)
have_numbers [] each = tt
have_numbers (part ∷ parts) each = (each.0.1, have_numbers parts each.1)

module _ (s : Effective) (in_flow : Bool) where
  abbrev trees_for : List toml.TomlNodes → List Tree
  trees_for roots = map (tree_by s) (nodes_of s.canonical in_flow roots)

  trees_mean : (reader : SchemaReader) → ReadsToml reader → (roots : List toml.TomlNodes) → HaveNumbers roots → AllTablesMean reader roots (trees_for roots)
  trees_mean reader reads [] numbers = tt
  trees_mean reader reads (root ∷ roots) numbers =
      (node_means reader reads s (directives_in_force []) in_flow (root_of root) numbers.0 root_place, trees_mean reader reads roots numbers.1)

module _ (given : Settings) (in_flow : Bool) (part : List ℕ × toml.TomlNodes) (rest : Parts) (bytes : List ℕ) (numbers : HaveNumbers (roots_of (part ∷ rest)))
  where
    abbrev all : List Event
    all = opening ++ several_events given.canonical in_flow (part ∷ rest) ++ closing

    abbrev roots : List toml.TomlNodes
    roots = roots_of (part ∷ rest)

    found : list_all has_scalar_texts all ≡ true → IsAccepted given.canonical all → IsWhole given all bytes
        → stream_trees given.breaks12 bytes ≡ Some (map plain_document (trees_for (settings_for given all) in_flow roots))
    found =
        trees_found given (toml_node (root_of part.1) given.canonical in_flow) (nodes_of given.canonical in_flow (roots_of rest)) bytes refl
        (are_unsigned given.canonical in_flow roots) (several_events given.canonical in_flow (part ∷ rest)) (parts_are given.canonical in_flow part rest)

    reads_as_tables : list_all has_scalar_texts all ≡ true → IsAccepted given.canonical all → IsWhole given all bytes → ReadsAsTables given.breaks12 bytes roots
    reads_as_tables texts taken whole =
        let s = settings_for given all in
        record {
          trees = trees_for s in_flow roots;
          read = found texts taken whole;
          means_by_11 = trees_mean s in_flow by_11 toml_by_11 roots numbers;
          means_by_core = trees_mean s in_flow by_core toml_by_core roots numbers;
        }

-- the texts of all events of a stream, its end included
texts_closed : (events : List Event) → list_all has_scalar_texts events ≡ true → list_all has_scalar_texts (events ++ closing) ≡ true
texts_closed events texts =
    list_all-append has_scalar_texts events closing
    ∙ and_from (list_all has_scalar_texts events) (list_all has_scalar_texts closing) texts refl

-- an emitter that was given these documents was finished
pub several_read : (given : Settings) (in_flow : Bool) (part : List ℕ × toml.TomlNodes) (rest : Parts) (emitter : State) (taken bytes : List ℕ)
    → AreDocuments (part ∷ rest) → emitter.given ≡ given → emitter.events ≡ opening ++ several_events given.canonical in_flow (part ∷ rest)
    → bytes_taken emitter ≡ taken → list_all has_scalar_texts emitter.events ≡ true → Finishes emitter bytes
    → IsYamlOfSeveral given in_flow (part ∷ rest) (taken ++ bytes)
several_read given in_flow part rest emitter taken bytes each set are were scalars finishes =
    let events = opening ++ several_events given.canonical in_flow (part ∷ rest) in
    let all = taken ++ bytes in
    let stream = stream_finished emitter bytes set are were finishes in
    let numbers = have_numbers (part ∷ rest) each in
    let texts = texts_closed events (subst (λ (e : List Event). list_all has_scalar_texts e ≡ true) are scalars) in
    let whole = stream_whole given (events ++ closing) all stream in
    record {
      stream = stream;
      reads = reads_as_tables given in_flow part rest all numbers texts stream.accepted whole;
      reads_with_either_breaks = λ portable breaks12. reads_as_tables (record given { breaks12 = breaks12 }) in_flow part rest all numbers texts stream.accepted
          (whole_by_either given breaks12 (events ++ closing) all portable whole);
    }

-- ---- the law

pub documents_read : DocumentsAreRead
documents_read in_flow part rest was now taken bytes each emits opened canonical scalars finishes =
    several_read was.emitter.given in_flow part rest now.emitter (bytes_taken was.emitter ++ taken) bytes each emits.given
    (emits.appended ∙ ap₂ (λ (before : List Event) (c : Bool). before ++ several_events c in_flow (part ∷ rest)) opened canonical) emits.taken scalars finishes
