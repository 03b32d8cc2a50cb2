-- Nodes, and what follows them, can be read in one way only.
use Rattle.yaml_read.proofs.Common.{ℕ, suc, None, Some, Option, List, [], ◌∷◌, ◌++◌, refl, ◌≡◌, ap, subst, sym, ◌∙◌, codes, length, behind_tag, behind_value}
use Rattle.yaml_read.proofs.Common.{line_then, node, nothing, these_or_those, unless_deep, word_then, tag_word, past_word, Kind, OpenLevel}
use Rattle.yaml_read.proofs.Common.{items_open, pairs_open, value_due}
use Rattle.yaml_read.proofs.OneWays.{OneWay, entry_way, levels_way, line_way, nothing_way, two_way, unless_way, word_way}
use Rattle.yaml_read.proofs.{CharacterWays.integer_way, CharacterWays.quoted_way, Words.behind_word}
use Rattle.yaml_read.specs.declared.heads.Kind.TheVariants as kind

-- ---- after a tag

inside_way : (depth : ℕ) (end : List ℕ) (More : List (List ℕ) → Type 0) → ((rest : List ℕ) → past_word end (codes "\n" ++ rest) ≡ None) → OneWay More
    → OneWay (unless_deep depth (these_or_those (word_then end nothing) (line_then (suc depth) More)))
inside_way depth end More none way = unless_way depth _ (two_way end (codes "\n") _ _ none nothing_way (levels_way (suc depth) _ way))

behind_way : (depth : ℕ) (k : Kind) → OneWay (behind_tag depth k)
behind_way depth kind.Null = word_way (codes "\"null\"") _ nothing_way
behind_way depth kind.Bool = two_way (codes "\"true\"") (codes "\"false\"") _ _ (λ rest. refl) nothing_way nothing_way
behind_way depth kind.Int = integer_way
behind_way depth kind.Text = quoted_way
behind_way depth kind.List = word_way (codes "[") _ (inside_way depth (codes "]") _ (λ rest. refl) nothing_way)
behind_way depth kind.Map = word_way (codes "{") _ (inside_way depth (codes "}") _ (λ rest. refl) (word_way (codes "? ") _ nothing_way))

-- ---- nodes

kinds_by : (k j : Kind) (a b : List ℕ) → past_word (tag_word k) (tag_word j ++ b) ≡ Some a → k ≡ j
kinds_by kind.Null kind.Null a b is = refl
kinds_by kind.Bool kind.Bool a b is = refl
kinds_by kind.Int kind.Int a b is = refl
kinds_by kind.Text kind.Text a b is = refl
kinds_by kind.List kind.List a b is = refl
kinds_by kind.Map kind.Map a b is = refl
kinds_by k j a b is = absurd (none_some is)
  where
    none_some : ◌≡◌ {A = Option (List ℕ)} None (Some a) → ⊥
    none_some e = cc

-- the kind of a tag that begins some bytes
pub kinds_alike : (k j : Kind) (a b : List ℕ) → tag_word k ++ a ≡ tag_word j ++ b → k ≡ j
kinds_alike k j a b is = kinds_by k j a b (ap (past_word (tag_word k)) (sym is) ∙ behind_word (tag_word k) a)

-- words of a node after their tag, whose kind is known
after_tag : (depth : ℕ) (k j : Kind) (word : List ℕ) (words : List (List ℕ)) → word ≡ tag_word k → word ≡ tag_word j → behind_tag depth j words
    → behind_tag depth k words
after_tag depth k j word words is also are = subst (λ (i : Kind). behind_tag depth i words) (kinds_alike j k [] [] (ap (λ w. w ++ []) (sym also ∙ is))) are

pub node_way : (depth : ℕ) → OneWay (node depth)
node_way depth = record { alike = alike; ends = ends }
  where
    alike : (read : List (List ℕ)) (one other : List ℕ) (ones others : List (List ℕ)) (a b : List ℕ) → node depth (read ++ one ∷ ones)
        → node depth (read ++ other ∷ others) → one ++ a ≡ other ++ b → one ≡ other
    alike [] one other ones others a b are also is =
        are.1.0 ∙ ap tag_word (kinds_alike are.0 also.0 a b (ap (λ w. w ++ a) (sym are.1.0) ∙ is ∙ ap (λ w. w ++ b) also.1.0)) ∙ sym also.1.0
    alike (word ∷ read) one other ones others a b are also is =
        (behind_way depth are.0).alike read one other ones others a b are.1.1
        (after_tag depth are.0 also.0 word (read ++ other ∷ others) are.1.0 also.1.0 also.1.1) is

    ends : (read : List (List ℕ)) (word : List ℕ) (words : List (List ℕ)) → node depth read → node depth (read ++ word ∷ words) → ⊥
    ends [] word words are also = are.1
    ends (first ∷ read) word words are also =
        (behind_way depth are.0).ends read word words are.1.1 (after_tag depth are.0 also.0 first (read ++ word ∷ words) are.1.0 also.1.0 also.1.1)

-- ---- after a node

pub behind_value_way : (levels : List OpenLevel) → OneWay (behind_value levels)
behind_value_way [] = word_way (codes "\n") nothing nothing_way
behind_value_way (items_open items ∷ levels) = entry_way (length levels) (codes "  ") (codes "]") (λ rest. refl)
behind_value_way (value_due pairs key ∷ levels) = entry_way (length levels) (codes "  ? ") (codes "}") (λ rest. refl)
behind_value_way (pairs_open pairs ∷ levels) = line_way (length levels) (word_then (codes "  : ") nothing) (word_way (codes "  : ") nothing nothing_way)
