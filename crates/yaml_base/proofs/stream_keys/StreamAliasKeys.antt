-- An alias and a space are a simple key, before the `:` that follows.
use Rattle.yaml_base.proofs.Common.{and_from, or_from, or_parts}
use Rattle.yaml_base.proofs.Common.{arith, ℕ, if◌then◌else◌, option_map, option_and_then, None, Some, nat_le, length, Bool, false, true, [], ◌++◌, ◌∷◌}
use Rattle.yaml_base.proofs.Common.{refl, ◌≡◌, eqb-true, ap, ◌∙◌, and_parts, false≢true, list_all, option_or, Text, space, is_alpha, alias_tree}
use Rattle.yaml_base.proofs.Common.{longest_key, ends_indicator, without_last_space, word_but_alias, word_of_alias, key_of_line, Rules, name_read, word_read}
use Rattle.yaml_base.proofs.stream_keys.StreamKeys.{NoKey, found, key_found}

-- a name and a space
abbrev spaced : Text → Text
spaced name = name ++ (space ∷ [])

-- a name and the space after it hold no `:`
name_no_key : (rules : Rules) (before name after : Text) → list_all is_alpha name ≡ true → NoKey rules before (spaced name) after
name_no_key rules before [] after h = ((λ e. absurd (false≢true e)), tt)
name_no_key rules before (c ∷ name) after h = grind (arith, and_parts, and_from, or_parts, or_from, eqb-true, name_no_key rules (before ++ (c ∷ [])) name after)

-- a space is in no name
spaced_no_name : (name : Text) → list_all is_alpha (spaced name) ≡ false
spaced_no_name [] = refl
spaced_no_name (c ∷ name) = grind (arith, spaced_no_name name)

-- the space after a text is its last
last_space : (c : ℕ) (t : Text) → without_last_space (spaced (c ∷ t)) ≡ Some (c ∷ t)
last_space c [] = refl
last_space c (d ∷ t) = ap (option_map (λ text. c ∷ text)) (last_space d t)

-- a word that begins with `*` is an alias, if its name is one
pub alias_word : (rules : Rules) (flow : Bool) (n : ℕ) (t : Text) → word_read rules flow (0x2A ∷ n ∷ t) ≡ option_map alias_tree (name_read (n ∷ t))
alias_word rules flow n t = grind (arith)

spaced_word : (rules : Rules) (n : ℕ) (t : Text) → word_but_alias rules (0x2A ∷ n ∷ spaced t) ≡ None
spaced_word rules n t = grind (arith, alias_word, spaced_no_name)

named_word : (rules : Rules) (n : ℕ) (t : Text) → list_all is_alpha (n ∷ t) ≡ true → word_of_alias rules (0x2A ∷ n ∷ t) ≡ Some (alias_tree (n ∷ t))
named_word rules n t h = grind (arith, alias_word)

-- an alias that isn't too long is a simple key, with the space before `:`
pub alias_key : (rules : Rules) (n : ℕ) (t after : Text) → list_all is_alpha (n ∷ t) ≡ true → nat_le (length (0x2A ∷ n ∷ spaced t)) longest_key ≡ true
    → ends_indicator after ≡ true
    → key_of_line rules ((0x2A ∷ n ∷ spaced t) ++ (0x3A ∷ after)) ≡ found (alias_tree (n ∷ t)) (0x2A ∷ n ∷ spaced t) after
alias_key rules n t after name short h =
    key_found rules [] (0x2A ∷ n ∷ spaced t) after (alias_tree (n ∷ t))
    ((λ e. absurd (false≢true e)), name_no_key rules (0x2A ∷ []) (n ∷ t) after name)
    (ap (λ x. if x then option_or (word_but_alias rules (0x2A ∷ n ∷ spaced t))
    (option_and_then (word_of_alias rules) (without_last_space (0x2A ∷ n ∷ spaced t))) else None) short
    ∙ ap (λ x. option_or x (option_and_then (word_of_alias rules) (without_last_space (0x2A ∷ n ∷ spaced t)))) (spaced_word rules n t)
    ∙ ap (λ x. option_or None (option_and_then (word_of_alias rules) x)) (last_space 0x2A (n ∷ t))
    ∙ ap (option_or None) (named_word rules n t name))
    h
