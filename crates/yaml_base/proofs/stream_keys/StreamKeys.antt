-- A simple key in quotes is found at its text's end, before the `:` that follows it.
use Rattle.yaml_base.proofs.Common.{arith, ℕ, if◌then◌else◌, ◌==◌, option_map, option_and_then, Option, None, Some, nat_le, length, Bool, false, true, ◌&&◌, []}
use Rattle.yaml_base.proofs.Common.{◌++◌, ◌∷◌, refl, ◌≡◌, append_assoc, ap, sym, ◌∙◌, option_or, Text, space, Stood, Tree, longest_key, ends_indicator, Rules}
use Rattle.yaml_base.proofs.Common.{SimpleKey, without_last_space, word_but_alias, word_of_alias, key_of_text, key_ends, key_from, Properties, scalar_parsed}

-- no `:` inside a text ends a key, if that much precedes it and a `:` follows it
abbrev pub NoKey : Rules → Text → Text → Text → Type 0
NoKey rules before [] after = Unit {0}
NoKey rules before (c ∷ t) after =
    ((c == 0x3A && ends_indicator (t ++ (0x3A ∷ after))) ≡ true → key_of_text rules before ≡ None) × NoKey rules (before ++ (c ∷ [])) t after

-- a key, and the text after its `:`
abbrev pub found : Tree → Text → Text → Option SimpleKey
found key text after = Some (record { key = key; length = length text; after = after })

-- the first `:` that ends a key is found
pub key_found : (rules : Rules) (before t after : Text) (key : Tree) → NoKey rules before t after → key_of_text rules (before ++ t) ≡ Some key
    → ends_indicator after ≡ true
    → key_from rules before (t ++ (0x3A ∷ after)) ≡ found key (before ++ t) after
key_found rules before [] after key clear read h =
    ap (λ x. option_or (key_ends rules x before after) (key_from rules (before ++ (0x3A ∷ [])) after)) h
    ∙ ap (λ x. option_or (option_map (λ k. record { key = k; length = length before; after = after }) x) (key_from rules (before ++ (0x3A ∷ [])) after))
    (ap (key_of_text rules) (sym (nothing_after before)) ∙ read)
    ∙ ap (λ t. found key t after) (sym (nothing_after before))
  where
    nothing_after : (t : Text) → t ++ [] ≡ t
    nothing_after [] = refl
    nothing_after (c ∷ t) = ap (λ s. c ∷ s) (nothing_after t)
key_found rules before (c ∷ t) after key clear read h =
    grind (arith, append_assoc, key_found rules (before ++ (c ∷ [])) t after key clear.1 (ap (key_of_text rules) (append_assoc before (c ∷ []) t) ∙ read) h)

-- nothing is said of no value
pub none_parsed : (properties : Properties) (standing : Stood) (x : Bool)
    → ◌≡◌ {A = Option Tree} (scalar_parsed properties standing (if x then None else None)) None
none_parsed properties standing x = grind (arith)

-- a text that begins no alias begins none before a space
pub no_alias_before : (rules : Rules) (q : ℕ) (t : Text) → (q == space) ≡ false → ((u : Text) → word_of_alias rules (q ∷ u) ≡ None)
    → option_and_then (word_of_alias rules) (without_last_space (q ∷ t)) ≡ None
no_alias_before rules q [] other none = ap (λ x. option_and_then (word_of_alias rules) (if x then Some [] else None)) other
no_alias_before rules q (d ∷ t) other none = by (without_last_space (d ∷ t))
  where
    by : (u : Option Text) → option_and_then (word_of_alias rules) (option_map (λ text. q ∷ text) u) ≡ None
    by None = refl
    by (Some u) = none u

-- a text is a key if the word is, if no alias precedes its last space
pub key_by_word : (rules : Rules) (text : Text) (word : Option Tree) → word_but_alias rules text ≡ word
    → option_and_then (word_of_alias rules) (without_last_space text) ≡ None
    → key_of_text rules text ≡ (if nat_le (length text) longest_key then word else None)
key_by_word rules text word e none = grind (arith)
