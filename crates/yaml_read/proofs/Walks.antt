-- The way of a reader through a text, from word to word.
use Rattle.yaml_read.proofs.Common.{ℕ, ◌==◌, Bool, true, false, Option, None, Some, List, [], ◌∷◌, ◌++◌, refl, ◌≡◌, ap, subst, sym, ◌∙◌, if◌then◌else◌, length}
use Rattle.yaml_read.proofs.Common.{no_value_pairs, no_values, null_value, append_cancel_left, behind_value, node, nothing, BreaksOff, OpenLevel, items_open}
use Rattle.yaml_read.proofs.Common.{pairs_open, value_due}
use Rattle.yaml_read.proofs.OneWays.{OneWay, nothing_way, whole_breaks, words_same}
use Rattle.yaml_read.proofs.{NodeWays.behind_value_way, NodeWays.node_way, WordTexts.flat}

-- a place between nodes, by the lists and maps that are open: at a node, after one, or at the end
pub data Spot : Type 0 where
  at_node : List OpenLevel → Spot
  after_node : List OpenLevel → Spot
  at_end : Spot

-- lists and maps without what they hold
abbrev pub a_list : OpenLevel
a_list = items_open no_values

abbrev pub a_map : OpenLevel
a_map = pairs_open no_value_pairs

abbrev pub a_key : OpenLevel
a_key = value_due no_value_pairs null_value

-- the words that may come at a place
abbrev pub words_at : Spot → List (List ℕ) → Type 0
words_at (at_node levels) = node (length levels)
words_at (after_node levels) = behind_value levels
words_at at_end = nothing

pub way_at : (spot : Spot) → OneWay (words_at spot)
way_at (at_node levels) = node_way (length levels)
way_at (after_node levels) = behind_value_way levels
way_at at_end = nothing_way

-- the first character of the last word
abbrev pub first_of : List ℕ → ℕ
first_of [] = 0
first_of (c ∷ word) = c

abbrev pub mark : List (List ℕ) → ℕ
mark [] = 0
mark (word ∷ []) = first_of word
mark (word ∷ next ∷ words) = mark (next ∷ words)

-- the place after words that end so: a space leads to an item or a key, `?` to a first key, a bracket opens a list or a map that lies too deep
abbrev by_mark : List OpenLevel → (is_space is_key is_square is_curly : Bool) → Option Spot
by_mark levels true is_key is_square is_curly = Some (at_node (a_list ∷ levels))
by_mark levels false true is_square is_curly = Some (at_node (a_map ∷ levels))
by_mark levels false false true is_curly = None
by_mark levels false false false true = None
by_mark levels false false false false = Some (after_node levels)

abbrev pub next_spot : Spot → ℕ → Option Spot
next_spot (at_node levels) c = by_mark levels (c == 32) (c == 63) (c == 91) (c == 123)
next_spot (after_node []) c = Some at_end
next_spot (after_node (items_open items ∷ levels)) c = if c == 32 then Some (at_node (a_list ∷ levels)) else Some (after_node levels)
next_spot (after_node (value_due pairs key ∷ levels)) c = if c == 32 then Some (at_node (a_map ∷ levels)) else Some (after_node levels)
next_spot (after_node (pairs_open pairs ∷ levels)) c = Some (at_node (a_key ∷ levels))
next_spot at_end c = None

-- from a place at some bytes to another at others
pub data Walk : Spot → List ℕ → Spot → List ℕ → Type 0 where
  stays : (spot : Spot) (bytes : List ℕ) → Walk spot bytes spot bytes
  walks : (spot next last : Spot) (bytes rest end : List ℕ) (words : List (List ℕ)) → words_at spot words → next_spot spot (mark words) ≡ Some next
      → bytes ≡ flat words ++ rest → Walk next rest last end → Walk spot bytes last end

pub walk_on : (spot middle last : Spot) (bytes rest end : List ℕ) → Walk spot bytes middle rest → Walk middle rest last end → Walk spot bytes last end
walk_on _ _ last _ _ end (stays spot bytes) more = more
walk_on _ _ last _ _ end (walks spot next middle bytes rest after words are to is goes) more =
    walks spot next last bytes rest end words are to is (walk_on next middle last rest after end goes more)

pub one_walk : (spot next : Spot) (bytes rest : List ℕ) (words : List (List ℕ)) → words_at spot words → next_spot spot (mark words) ≡ Some next
    → bytes ≡ flat words ++ rest → Walk spot bytes next rest
one_walk spot next bytes rest words are to is = walks spot next next bytes rest rest words are to is (stays next rest)

-- no way leads on from a place
pub record Halts (spot : Spot) (bytes : List ℕ) : Type 0 where
  pub none : (next : Spot) (rest : List ℕ) (words : List (List ℕ)) → words_at spot words → next_spot spot (mark words) ≡ Some next
      → bytes ≡ flat words ++ rest → ⊥

-- two places at which no way leads on are one
pub record Same (one other : Spot) (a b : List ℕ) : Type 0 where
  pub spot : one ≡ other
  pub bytes : a ≡ b

pub same_some : (a b : Spot) → ◌≡◌ {A = Option Spot} (Some a) (Some b) → a ≡ b
same_some a b is = cc

-- the way to a place at which no way leads on goes through each place on the way
pub later : (spot middle last : Spot) (bytes rest end : List ℕ) → Walk spot bytes middle rest → Walk spot bytes last end → Halts last end
    → Walk middle rest last end
later _ _ last _ _ end (stays spot bytes) way halts = way
later _ _ _ _ _ _ (walks spot next middle bytes rest after words are to is goes) (stays _ _) halts = absurd (halts.none next rest words are to is)
later _ _ _ _ _ _ (walks spot next middle bytes rest after words are to is goes) (walks _ second last _ other end others were on starts went) halts =
    let same = words_same _ words others rest other (way_at spot) are were (sym is ∙ starts) in
    let there = same_some next second (sym to ∙ ap (λ ws. next_spot spot (mark ws)) same ∙ on) in
    let left = append_cancel_left (flat words) rest other (sym is ∙ starts ∙ ap (λ ws. flat ws ++ other) (sym same)) in
    later _ _ _ _ _ _ goes (subst (λ (s : Spot). Walk s rest last end) (sym there) (subst (λ (t : List ℕ). Walk second t last end) (sym left) went)) halts

halted : (spot last : Spot) (bytes end : List ℕ) → Walk spot bytes last end → Halts spot bytes → Same spot last bytes end
halted _ _ _ _ (stays spot bytes) halts = record { spot = refl; bytes = refl }
halted _ _ _ _ (walks spot next last bytes rest end words are to is goes) halts = absurd (halts.none next rest words are to is)

pub one_halt : (spot one other : Spot) (bytes a b : List ℕ) → Walk spot bytes one a → Walk spot bytes other b → Halts one a → Halts other b
    → Same one other a b
one_halt spot one other bytes a b way also halts halts_too = halted one other a b (later spot one other bytes a b way also halts_too) halts

pub broken_halts : (spot : Spot) (bytes : List ℕ) (left : ℕ) → BreaksOff (words_at spot) bytes left → Halts spot bytes
broken_halts spot bytes left breaks =
    record { none = λ next rest words are to is. whole_breaks (words_at spot) bytes left words rest (way_at spot) breaks are is }

pub past_halts : (bytes : List ℕ) → Halts at_end bytes
past_halts bytes = record { none = λ next rest words are to is. none_some next to }
  where
    none_some : (next : Spot) → ◌≡◌ {A = Option Spot} None (Some next) → ⊥
    none_some next is = cc
