-- When the parts of two documents' graphs that their roots reach are the same except for the numbers of the nodes and the styles.
--
-- For example, the first two of these graphs are isomorphic: 2 and 3 change places. The third is neither's: its two scalars `a`
-- are equal, and yet two nodes.
--     1  a sequence of 2, 3 and 2      1  a sequence of 3, 2 and 3      1  a sequence of 2, 3 and 4
--     2  the scalar `a`                2  the scalar `b`                2  the scalar `a`
--     3  the scalar `b`                3  the scalar `a`                3  the scalar `b`
--                                                                       4  the scalar `a`
use Rattle.std.specs.Prelude.{◌≡◌, ℕ, true, false, Option, None, List, [], ◌∷◌, ⊤, map, option_map}
use Rattle.yaml_base.specs.graphs.Meetings.{Graph, node_numbered, children}
use Rattle.yaml_base.specs.graphs.Unfolding.{Label, label_of, IsReached}

-- the label of the node of a number: its tag, its kind, and a scalar's value
abbrev pub label_at : Graph → ℕ → Option Label
label_at graph number = option_map (label_of false) (node_numbered graph number)

-- each node that the first graph's root reaches has a partner among those that the second's reaches, and each of these is the
-- partner of exactly one. The roots are partners; a node has the tag, the kind and the value of its partner, and its children's
-- partners, in order, are the children of its partner
pub record Isomorphic (first second : Graph) : Type 0 where
  pub partner : ℕ → ℕ
  pub back : ℕ → ℕ
  pub root : partner 1 ≡ 1
  pub labels : (number : ℕ) → IsReached first number → label_at second (partner number) ≡ label_at first number
  pub kept : (number : ℕ) → IsReached first number → children second (partner number) ≡ map partner (children first number)
  pub one_to_one : (number : ℕ) → IsReached first number → back (partner number) ≡ number
  pub onto : (number : ℕ) → IsReached second number → partner (back number) ≡ number

-- two documents have isomorphic graphs, the same version and the same directives
pub record AreEquivalent (first second : Graph) : Type 0 where
  pub version : first.start.version ≡ second.start.version
  pub directives : first.start.directives ≡ second.start.directives
  pub graphs : Isomorphic first second

-- each document of one stream is so equivalent to that of another, in order and as many
abbrev pub AllAreEquivalent : List Graph → List Graph → Type 0
AllAreEquivalent [] [] = ⊤
AllAreEquivalent (first ∷ firsts) (second ∷ seconds) = AreEquivalent first second × AllAreEquivalent firsts seconds
AllAreEquivalent _ _ = ⊥

-- canonical mode writes two documents alike: they are equivalent, and the ends of both are written, or of neither
pub record IsWrittenAlike (first second : Graph) : Type 0 where
  pub says : AreEquivalent first second
  pub end_implicit : first.end_implicit ≡ second.end_implicit

-- it writes each document of one stream like that of another, in order and as many
abbrev pub AreWrittenAlike : List Graph → List Graph → Type 0
AreWrittenAlike [] [] = ⊤
AreWrittenAlike (first ∷ firsts) (second ∷ seconds) = IsWrittenAlike first second × AreWrittenAlike firsts seconds
AreWrittenAlike _ _ = ⊥

-- a graph's nodes in a document without version and directives, whose markers are implicit
abbrev pub bare : Graph → Graph
bare graph =
    record {
      start = record { version = None; directives = []; implicit = true };
      nodes = graph.nodes;
      end_implicit = true;
    }
