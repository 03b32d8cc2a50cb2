-- Documents that were read of the same bytes are equivalent.
use Rattle.yaml_dump.proofs.Common.{arith, nat_tests}
use Rattle.yaml_base.proofs.Common.{Some, List, [], ◌∷◌, ◌≡◌, subst, sym, ◌∙◌, Graph, DocumentContent, DocumentTree}
use Rattle.yaml_base.{proofs.ContentsUnfold.dumped_stream, proofs.SameEvents.same_canonical_output, proofs.SameShapes.same_shape}
use Rattle.yaml_base.{specs.graphs.Dumped.ContentsUnfold, specs.graphs.Isomorphic.AllAreEquivalent, specs.graphs.Unfolding.content_shape}
use Rattle.yaml_dump.{proofs.GraphTreeLemmas.dumped_trees_unfold, specs.GraphTrees.tree_shape, specs.GraphTrees.TreesUnfold}
use Rattle.yaml_dump.specs.EqualBytes.{OneReading, OneReadingBack, EqualBytesTellGraphs, EqualReadableBytesTellGraphs, IsomorphicGraphsDumpEqually}
use Rattle.yaml_emitter.proofs.{canonical.CanonicalOutput.output_tells, layouts.StreamOutput.output_tells_content}

some_same : {A : Type 0} {a b : A} → Some a ≡ Some b → a ≡ b
some_same h = cc

-- graphs that the same contents unfolds
contents_say : (firsts seconds : List Graph) (contents : List DocumentContent) → ContentsUnfold firsts contents → ContentsUnfold seconds contents
    → AllAreEquivalent firsts seconds
contents_say [] [] contents unfolds also = tt
contents_say [] (second ∷ seconds) (content ∷ contents) unfolds also = absurd unfolds
contents_say (first ∷ firsts) seconds [] unfolds also = absurd unfolds
contents_say (first ∷ firsts) (second ∷ seconds) (content ∷ contents) unfolds also = (
  record {
    version = sym unfolds.0.version ∙ also.0.version;
    directives = sym unfolds.0.directives ∙ also.0.directives;
    graphs = same_shape first second (content_shape content.root) unfolds.0.unfolds also.0.unfolds;
  },
  contents_say firsts seconds contents unfolds.1 also.1,
)
contents_say _ _ _ unfolds also = absurd also

-- graphs that the same trees unfolds
trees_say : (firsts seconds : List Graph) (documents : List DocumentTree) → TreesUnfold firsts documents → TreesUnfold seconds documents
    → AllAreEquivalent firsts seconds
trees_say [] [] documents unfolds also = tt
trees_say [] (second ∷ seconds) (document ∷ documents) unfolds also = absurd unfolds
trees_say (first ∷ firsts) seconds [] unfolds also = absurd unfolds
trees_say (first ∷ firsts) (second ∷ seconds) (document ∷ documents) unfolds also = (
  record {
    version = sym unfolds.0.version ∙ also.0.version;
    directives = sym unfolds.0.directives ∙ also.0.directives;
    graphs = same_shape first second (tree_shape document.root) unfolds.0.unfolds also.0.unfolds;
  },
  trees_say firsts seconds documents unfolds.1 also.1,
)
trees_say _ _ _ unfolds also = absurd also

pub one_reading : OneReading
one_reading breaks12 firsts seconds bytes read also = grind (arith, nat_tests, contents_say, some_same)

pub one_reading_back : OneReadingBack
one_reading_back breaks12 firsts seconds bytes read also = grind (arith, nat_tests, trees_say, some_same)

pub equal_bytes_tell_graphs : EqualBytesTellGraphs
equal_bytes_tell_graphs given firsts seconds first second dumped also whole also_whole same =
    let one = dumped_stream firsts first dumped in
    let two = dumped_stream seconds second also in
    let contents = some_same (sym two.content ∙ sym (output_tells given first second whole also_whole same) ∙ one.content) in
    contents_say firsts seconds one.contents one.unfolds (subst (ContentsUnfold seconds) contents two.unfolds)

pub equal_readable_bytes_tell_graphs : EqualReadableBytesTellGraphs
equal_readable_bytes_tell_graphs given firsts seconds first second dumped also readable also_readable same =
    let content = output_tells_content given first second readable also_readable same in
    trees_say firsts seconds content.documents
    (dumped_trees_unfold given.canonical firsts first content.documents dumped content.first_agrees)
    (dumped_trees_unfold given.canonical seconds second content.documents also content.second_agrees)

pub equal_graphs_give_bytes : IsomorphicGraphsDumpEqually
equal_graphs_give_bytes given firsts seconds first second canonical dumped also asked alike =
    same_canonical_output given firsts seconds first second canonical dumped also asked alike
