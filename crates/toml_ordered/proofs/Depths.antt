-- Values that nest too deep.
use Rattle.toml_ordered.proofs.Common.{◌≡◌, ℕ, zero, suc, ◌+◌, ◌≤◌, ◌==◌, Bool, true, false, cond, List, Some, drop, length, refl, ap, subst, sym, ◌∙◌, inl}
use Rattle.toml_ordered.proofs.Common.{inr, arith, length-append, ◌⊎◌, after_element, key_equals, TomlNode, FaultTells, is_doubled, val, ExpressionNestsPast}
use Rattle.toml_ordered.proofs.Common.{NestsPast, after_items, own_key, EndsWith, Fault, first, skip_blank, skip_ws, recursion_limit}
use Rattle.toml_ordered.proofs.Endings.{end_left, ends_drop, ends_self, ends_then, key_equals_ends, skip_blank_ends, skip_ws_ends, value_ends}
use Rattle.toml_parser.specs.Lexical.{right_bracket}
use Rattle.toml_ordered.specs.declared.fault.Fault.TheVariants as fault

pub ends_within : (text end : List ℕ) → EndsWith text end → length end ≤ length text
ends_within text end ends =
    let whole : length text ≡ length ends.0 + length end = ap length ends.1 ∙ length-append ends.0 end in
    omega (arith, whole)

pub blank_within : (text : List ℕ) → length (skip_blank text) ≤ length text
blank_within text = ends_within text (skip_blank text) (skip_blank_ends text)

pub more_items : (depth count : ℕ) (text rest : List ℕ) (x : TomlNode) (after next : List ℕ) → after_items depth count text ≡ Some rest
    → val depth (skip_blank rest) ≡ Some (x, after) → after_element right_bracket after ≡ Some next → after_items depth (suc count) text ≡ Some next
more_items depth count text rest x after next reads read element = rw (reads, read, element)

-- ---- their places

pub nests_here : (depth : ℕ) (text : List ℕ) (found : Fault) (again : List ℕ → ℕ → ℕ → Type 0) → depth ≡ 0 → (first text ≡ 91) ⊎ (first text ≡ 123)
    → found ≡ fault.TooDeep (length text) → FaultTells found again (λ left. NestsPast depth left text)
nests_here depth text found again none opening is =
    subst (λ (f : Fault). FaultTells f again (λ left. NestsPast depth left text)) (sym is)
    (subst (λ (n : ℕ). NestsPast n (length text) text) (sym none) (opening, refl))

-- the rest there is an ending of the text
nests_within : (depth left : ℕ) (text : List ℕ) → NestsPast depth left text → left ≤ length text
nests_within zero left text deep = let here = deep.1 in omega (arith, here)
nests_within (suc depth) left text (inl deep) =
    let (item, at, inner) = deep.1 in
    let within = nests_within depth left item inner in
    let is = ap length at.here in
    let blank = blank_within at.rest in
    let rest = ends_within (drop 1 text) at.rest at.ends in
    let behind = ends_within text (drop 1 text) (ends_drop 1 text) in
    omega (arith, within, is, blank, rest, behind)
nests_within (suc depth) left text (inr (opens, inl (pair, comes, long))) =
    let here = long.here in
    let is = ap length comes.here in
    let blank = blank_within comes.rest in
    let rest = ends_within (drop 1 text) comes.rest comes.ends in
    let behind = ends_within text (drop 1 text) (ends_drop 1 text) in
    omega (arith, here, is, blank, rest, behind)
nests_within (suc depth) left text (inr (opens, inr (found, name, here, at, inner))) =
    let within = nests_within depth left at.after inner in
    let value = ends_within (drop 1 text) at.after (value_ends (drop 1 text) at.rest name at.after at.ends at.begins) in
    let behind = ends_within text (drop 1 text) (ends_drop 1 text) in
    omega (arith, within, value, behind)

own_key_ends : (text : List ℕ) → EndsWith text (own_key text)
own_key_ends text = by (is_doubled text) (first text == 91)
  where
    by : (a b : Bool) → EndsWith text (cond a (skip_ws (drop 2 text)) (cond b (skip_ws (drop 1 text)) text))
    by true b = ends_then text (drop 2 text) (skip_ws (drop 2 text)) (ends_drop 2 text) (skip_ws_ends (drop 2 text))
    by false true = ends_then text (drop 1 text) (skip_ws (drop 1 text)) (ends_drop 1 text) (skip_ws_ends (drop 1 text))
    by false false = ends_self text

pub expression_nests_within : (text : List ℕ) (left : ℕ) → ExpressionNestsPast text left → left ≤ length text
expression_nests_within text left (inl long) =
    let here = long.here in
    let within = ends_within text (own_key text) (own_key_ends text) in
    omega (arith, here, within)
expression_nests_within text left (inr (name, value, begins, deep)) =
    let within = nests_within recursion_limit left value deep in
    let ends = ends_within text value (end_left text (key_equals text) name value (key_equals_ends text) begins) in
    omega (arith, within, ends)
