-- Words at a text's beginning.
use Rattle.yaml_read.proofs.Common.{ℕ, ◌==◌, ◌+◌, ◌*◌, ◌-◌, ◌<◌, true, false, Option, None, Some, List, [], ◌∷◌, ◌++◌, refl, ◌≡◌, ap, subst, sym, ◌∙◌}
use Rattle.yaml_read.proofs.Common.{if◌then◌else◌, option_and_then, eqb-true, arith, nat_tests, append_assoc, replicate, space, codes}
use Rattle.yaml_read.proofs.Common.{replicate-append-replicate, Result, Ok, Err, Bor, past_word, Cuts, IsMemory, Stop}
use Rattle.yaml_read.specs.declared.errors.Stop.TheVariants as stop

eqb-self : (n : ℕ) → (n == n) ≡ true
eqb-self n = grind (arith, nat_tests)

pub behind_word : (word rest : List ℕ) → past_word word (word ++ rest) ≡ Some rest
behind_word [] rest = refl
behind_word (w ∷ word) rest = ap (λ b. if b then past_word word (word ++ rest) else None) (eqb-self w) ∙ behind_word word rest

pub behind_takes : (word text rest : List ℕ) → past_word word text ≡ Some rest → text ≡ word ++ rest
behind_takes [] text rest is = cc
behind_takes (w ∷ word) [] rest is = cc
behind_takes (w ∷ word) (c ∷ text) rest is = grind (arith, past_word, true, eqb-true, false, behind_takes word text rest)

-- one word after another
pub behind_both : (first second text : List ℕ) → past_word (first ++ second) text ≡ option_and_then (past_word second) (past_word first text)
behind_both [] second text = refl
behind_both (w ∷ first) second [] = refl
behind_both (w ∷ first) second (c ∷ text) = grind (arith, past_word, option_and_then, true, false, behind_both first second text)

-- a word that isn't first isn't found
pub absent : (word text : List ℕ) → ((rest : List ℕ) → text ≡ word ++ rest → ⊥) → past_word word text ≡ None
absent word text lacks = by (past_word word text) refl
  where
    by : (o : Option (List ℕ)) → past_word word text ≡ o → o ≡ None
    by None is = refl
    by (Some rest) is = absurd (lacks rest (behind_takes word text rest is))

-- a word that isn't found isn't first
pub no_word : (word text rest : List ℕ) → past_word word text ≡ None → text ≡ word ++ rest → ⊥
no_word word text rest none is = grind (arith, past_word, behind_word)

-- a longer word isn't found if its rest isn't found after its beginning
pub longer_none : (first second text rest : List ℕ) → text ≡ first ++ rest → past_word second rest ≡ None → past_word (first ++ second) text ≡ None
longer_none first second text rest is none = grind (arith, behind_both, option_and_then, past_word, behind_word)

pub first_none : (first second text : List ℕ) → past_word first text ≡ None → past_word (first ++ second) text ≡ None
first_none first second text none = behind_both first second text ∙ ap (option_and_then (past_word second)) none

-- the spaces of one level more
pub spaces_more : (level : ℕ) (text rest next : List ℕ) → text ≡ replicate (level * 2) space ++ rest → rest ≡ codes "  " ++ next
    → text ≡ replicate ((level + 1) * 2) space ++ next
spaces_more level text rest next is more =
    let twice : level * 2 + 2 ≡ (level + 1) * 2 = omega arith in
    is ∙ ap (λ t. replicate (level * 2) space ++ t) more ∙ sym (append_assoc (replicate (level * 2) space) (codes "  ") next)
    ∙ ap (λ t. t ++ next) (replicate-append-replicate (level * 2) 2 space ∙ ap (λ n. replicate n space) twice)

-- too few spaces
pub spaces_lack : (level depth : ℕ) (text rest : List ℕ) → text ≡ replicate (level * 2) space ++ rest → level < depth → past_word (codes "  ") rest ≡ None
    → past_word (replicate (depth * 2) space) text ≡ None
spaces_lack level depth text rest is below none =
    let sums : level * 2 + (2 + (depth - level - 1) * 2) ≡ depth * 2 = omega (arith, below) in
    let all : replicate (level * 2) space ++ (codes "  " ++ replicate ((depth - level - 1) * 2) space) ≡ replicate (depth * 2) space =
    ap (λ t. replicate (level * 2) space ++ t) (replicate-append-replicate 2 ((depth - level - 1) * 2) space)
    ∙ replicate-append-replicate (level * 2) (2 + (depth - level - 1) * 2) space ∙ ap (λ n. replicate n space) sums in
    subst (λ (t : List ℕ). past_word t text ≡ None) all
    (longer_none (replicate (level * 2) space) (codes "  " ++ replicate ((depth - level - 1) * 2) space) text rest is
    (first_none (codes "  ") (replicate ((depth - level - 1) * 2) space) rest none))

-- one cut after another
pub cuts_behind : (first second text rest : List ℕ) (result : Result (Bor (List ℕ)) Stop) → text ≡ first ++ rest → Cuts second rest result
    → Cuts (first ++ second) text result
cuts_behind first second text rest (Ok found) is cut = is ∙ ap (λ t. first ++ t) cut ∙ sym (append_assoc first second found.now)
cuts_behind first second text rest (Err error) is cut = longer_none first second text rest is cut

-- an error that is want of memory, and no other
pub memory_is : (error : Stop) → error ≡ stop.Memory → IsMemory error
memory_is error is = subst IsMemory (sym is) tt

pub memory_only : (error : Stop) → IsMemory error → error ≡ stop.Memory
memory_only error h1 = grind arith
