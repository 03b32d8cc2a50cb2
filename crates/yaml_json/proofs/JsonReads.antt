-- The reader of whole streams, over the bytes of a stream of JSON values.
use Rattle.yaml_json.proofs.Common.{ℕ, Some, Bool, true, List, [], map, ◌++◌, ◌∷◌, ◌≡◌, list_all, Json, HasNumbers, Event, has_scalar_texts, IsAccepted}
use Rattle.yaml_json.proofs.Common.{Settings, Effective, directives_in_force, Tree, resolved_by_core, resolved_by_11, Schema, closing, json_events, opening}
use Rattle.yaml_json.proofs.Common.{parts_events}
use Rattle.yaml_json.{proofs.Meanings.node_means, proofs.Portable.are_unsigned, proofs.Portable.value_written, proofs.Trees.json_node, proofs.Trees.nodes_of}
use Rattle.yaml_json.{proofs.Trees.parts_are, proofs.Trees.values_of, specs.Means.AllMean, specs.Means.ReadsAsValues, specs.Means.ReadsAsJson}
use Rattle.yaml_writer.{proofs.DocumentsOf.tree_by, proofs.DocumentsOf.trees_found, proofs.WholeStreams.IsWhole, specs.Means.plain_document}
use Rattle.yaml_writer.proofs.ScalarMeanings.{ReadsScalars, reads_by_11, reads_by_core}
use Rattle.yaml_base.proofs.Common.{stream_trees, root_place, settings_for}

-- each number of each value is one
abbrev pub HaveNumbers : List Json → Type 0
HaveNumbers [] = Unit {0}
HaveNumbers (json ∷ values) = HasNumbers json × HaveNumbers values

module _ (s : Effective) (in_flow : Bool) where
  -- the trees of some values' documents
  abbrev pub roots_of : List Json → List Tree
  roots_of values = map (tree_by s) (nodes_of s.canonical in_flow values)

  -- mean the values
  roots_mean : (schema : Schema) → ReadsScalars schema → (values : List Json) → HaveNumbers values → AllMean schema values (roots_of values)
  roots_mean schema reads [] numbers = tt
  roots_mean schema reads (json ∷ values) numbers =
      (node_means schema reads s (directives_in_force []) in_flow json numbers.0 root_place, roots_mean schema reads values numbers.1)

module _ (given : Settings) (in_flow : Bool) (part : List ℕ × Json) (rest : List (List ℕ × Json)) (bytes : List ℕ)
    (numbers : HaveNumbers (values_of (part ∷ rest))) where
  abbrev all : List Event
  all = opening ++ parts_events given.canonical in_flow (part ∷ rest) ++ closing

  abbrev values : List Json
  values = values_of (part ∷ rest)

  found : list_all has_scalar_texts all ≡ true → IsAccepted given.canonical all → IsWhole given all bytes
      → stream_trees given.breaks12 bytes ≡ Some (map plain_document (roots_of (settings_for given all) in_flow values))
  found =
      trees_found given (json_node part.1 given.canonical in_flow) (nodes_of given.canonical in_flow (values_of rest)) bytes
      (value_written _ given.canonical in_flow numbers.0) (are_unsigned given.canonical in_flow values) _ (parts_are given.canonical in_flow part rest)

  pub reads_as_values : list_all has_scalar_texts all ≡ true → IsAccepted given.canonical all → IsWhole given all bytes
      → ReadsAsValues given.breaks12 bytes values
  reads_as_values texts taken whole =
      let s = settings_for given all in
      record {
        roots = roots_of s in_flow values;
        read = found texts taken whole;
        by_11 = roots_mean s in_flow resolved_by_11 reads_by_11 values numbers;
        by_core = roots_mean s in_flow resolved_by_core reads_by_core values numbers;
      }

-- one value alone
reads_one : (breaks12 : Bool) (bytes : List ℕ) (json : Json) (roots : List Tree) → stream_trees breaks12 bytes ≡ Some (map plain_document roots)
    → AllMean resolved_by_11 (json ∷ []) roots → AllMean resolved_by_core (json ∷ []) roots → ReadsAsJson breaks12 bytes json
reads_one breaks12 bytes json (root ∷ []) read old new = record { root = root; read = read; by_11 = old.0; by_core = new.0 }
reads_one breaks12 bytes json [] read old new = absurd old
reads_one breaks12 bytes json (root ∷ other ∷ roots) read old new = absurd old.1

pub reads_as_json : (given : Settings) (in_flow : Bool) (text : List ℕ) (json : Json) (bytes : List ℕ) → HasNumbers json
    → list_all has_scalar_texts (opening ++ json_events given.canonical in_flow json ++ closing) ≡ true
    → IsAccepted given.canonical (opening ++ json_events given.canonical in_flow json ++ closing)
    → IsWhole given (opening ++ json_events given.canonical in_flow json ++ closing) bytes → ReadsAsJson given.breaks12 bytes json
reads_as_json given in_flow text json bytes numbers texts taken whole =
    let reads = reads_as_values given in_flow (text, json) [] bytes (numbers, tt) texts taken whole in
    reads_one given.breaks12 bytes json reads.roots reads.read reads.by_11 reads.by_core
