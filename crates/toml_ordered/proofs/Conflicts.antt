-- Keys that are defined again, and the knowledge of the keys so far.
use Rattle.toml_ordered.proofs.Common.{Option, Some, zero, suc, drop, ap, ◌≡◌, ℕ, ◌<◌, ◌≤◌, List, length, string_bytes, None, refl, sym, subst, ◌∙◌, inl, inr}
use Rattle.toml_ordered.proofs.Common.{arith, skip_blank, Key, recursion_limit, after_element, key_equals, Fault, TomlNode, TomlNodes, Firsts, no_firsts}
use Rattle.toml_ordered.proofs.Common.{HasFirst, AddsFirsts, IsAgain, FaultTells, NeitherTells, keyval, line, val, ReadsUpTo, IsShutInBraces, PairAt, ClashesIn}
use Rattle.toml_ordered.proofs.Common.{ExpressionNestsPast, PairClashes, IsReworded, moved_to, key_parts, IsGrammarRefusal, IsMemory, TomlDocument, Expression}
use Rattle.toml_ordered.proofs.Common.{define, put}
use Rattle.std.proofs.Common.{min}
use Rattle.toml_parser.specs.Lexical.{right_brace}
use Rattle.toml_ordered.proofs.{Depths.blank_within, Depths.ends_within, Depths.expression_nests_within, Unblamed.neither_document}
use Rattle.toml_ordered.proofs.Endings.{end_left, ends_drop, key_equals_ends, value_ends}
use Rattle.toml_ordered.specs.{Firsts.IsOther, Inside.KnowsPairs, Nesting.HasReason}
use Rattle.toml_ordered.specs.Places.{after_pairs, ExpressionAt, FirstDefines, IsShutFor, PairsClash, IsSettled, whole_path}
use Rattle.toml_ordered.specs.declared.fault.Fault.TheVariants as fault

-- ---- faults of another kind

pub other_than : (again : List ℕ → ℕ → ℕ → Type 0) (deep : ℕ → Type 0) (found : Fault) → ((IsMemory found → ⊥) → NeitherTells again deep) → IsOther found
    → FaultTells found again deep
other_than again deep fault.Memory neither none = tt
other_than again deep (fault.NotToml left why) neither none = neither (λ m. cc)
other_than again deep (fault.TooDeep left) neither none = absurd none
other_than again deep (fault.DefinedAgain key name first second) neither none = absurd none

-- ---- how far a text is read

pub reads_more : (text : List ℕ) (doc next : TomlDocument) (rest : List ℕ) (e : Expression) (after : List ℕ) → ReadsUpTo text doc rest
    → line (skip_blank rest) ≡ Some (e, after) → define doc e ≡ Some next → ReadsUpTo text next after
reads_more text doc next rest e after reads read defined = (suc reads.0, rw (reads.1, read, defined))

pub more_pairs : (depth count : ℕ) (text : List ℕ) (found more : TomlNodes) (rest : List ℕ) (name : Key) (x : TomlNode) (after next : List ℕ)
    → after_pairs depth count text ≡ Some (found, rest) → keyval (val depth) (skip_blank rest) ≡ Some ((name, x), after) → put name x found ≡ Some more
    → after_element right_brace after ≡ Some next → after_pairs depth (suc count) text ≡ Some (more, next)
more_pairs depth count text found more rest name x after next reads read defined element = rw (reads, read, defined, element)

-- ---- tables in braces

pub knows_no_pairs : (depth : ℕ) (text rest : List ℕ) (none : Firsts) → none ≡ no_firsts → KnowsPairs depth text none rest
knows_no_pairs depth text rest none is path key left has = absurd (subst (λ (f : Firsts). HasFirst f path key left) is has)

pub knows_more_pairs : (depth : ℕ) (text rest next : List ℕ) (found : TomlNodes) (name : Key) (here : ℕ) (old new : Firsts)
    → KnowsPairs depth text old rest → PairAt depth text found name here → here ≤ length rest → length next < here
    → AddsFirsts (key_parts name) here found old new → KnowsPairs depth text new next
knows_more_pairs depth text rest next found name here old new knows at within shorter adds path key left has = elim (adds path key left has) [
  | inl before ↦
      let known = knows path key left before in
      let past = known.1 in
      (known.0, omega (arith, past, within, shorter))
  | inr now ↦
      let is = now.0 in
      (record { found = found; name = name; at = subst (λ (n : ℕ). PairAt depth text found name n) (sym is) at; new = now.1 }, omega (arith, is, shorter))
]

pub pairs_conflict : (depth : ℕ) (text rest : List ℕ) (found : TomlNodes) (name : Key) (here : ℕ) (old : Firsts) (refused : Fault)
    → KnowsPairs depth text old rest → (at : PairAt depth text found name here) → here ≤ length rest
    → (value : TomlNode) (after : List ℕ) → keyval (val depth) (skip_blank at.rest) ≡ Some ((name, value), after)
    → ((IsMemory refused → ⊥) → put name value found ≡ None) → IsAgain (key_parts name) here old (IsShutInBraces found name value) refused
    → (Says : List ℕ → ℕ → ℕ → Type 0) → ((key : List ℕ) (one two : ℕ) → PairsClash depth text key one two → Says key one two) → (deep : ℕ → Type 0)
    → FaultTells refused Says deep
pairs_conflict depth text rest found name here old fault.Memory knows at within value after pair denies again Says says deep = tt
pairs_conflict depth text rest found name here old (fault.NotToml left why) knows at within value after pair denies again Says says deep = absurd again
pairs_conflict depth text rest found name here old (fault.TooDeep left) knows at within value after pair denies again Says says deep = absurd again
pairs_conflict depth text rest found name here old (fault.DefinedAgain key whole first second) knows at within value after pair denies again Says says deep =
    let known = knows again.1 _ first again.2 in
    let past = known.1 in
    let is = again.0 in
    says (string_bytes key) first second record {
      path = again.1;
      before = known.0;
      found = found;
      name = name;
      at = record { rest = at.rest; after = at.after; ends = at.ends; count = at.count; read = at.read; begins = at.begins; here = is ∙ at.here };
      value = value;
      after = after;
      pair = pair;
      passes = again.3;
      shut = again.4;
      refused = denies (λ m. cc);
      order = omega (arith, past, within, is);
    }

-- the reasons of a value, told of the text around it
pub reason_in : (refused : Fault) (inner outer : List ℕ → ℕ → ℕ → Type 0) (low high : ℕ → Type 0)
    → ((key : List ℕ) (one two : ℕ) → inner key one two → outer key one two) → ((left : ℕ) → low left → high left)
    → ((IsMemory refused → ⊥) → NeitherTells inner low → NeitherTells outer high) → FaultTells refused inner low → FaultTells refused outer high
reason_in fault.Memory inner outer low high clash deeper neither tells = tt
reason_in (fault.NotToml left why) inner outer low high clash deeper neither tells = neither (λ m. cc) tells
reason_in (fault.TooDeep left) inner outer low high clash deeper neither tells = deeper left tells
reason_in (fault.DefinedAgain key name first second) inner outer low high clash deeper neither tells = clash (string_bytes key) first second tells

pair_within : (depth : ℕ) (text : List ℕ) (found : TomlNodes) (name : Key) (left : ℕ) → PairAt depth text found name left → left ≤ length text
pair_within depth text found name left at =
    let here = at.here in
    let blank = blank_within at.rest in
    let within = ends_within text at.rest at.ends in
    omega (arith, here, blank, within)

clashes_within : (depth : ℕ) (key : List ℕ) (one two : ℕ) (text : List ℕ) → ClashesIn depth key one two text → two ≤ length text
clashes_within zero key one two text clash = absurd clash
clashes_within (suc depth) key one two text (inl clash) =
    let (item, at, inner) = clash.1 in
    let within = clashes_within depth key one two item inner in
    let is = ap length at.here in
    let blank = blank_within at.rest in
    let rest = ends_within (drop 1 text) at.rest at.ends in
    let behind = ends_within text (drop 1 text) (ends_drop 1 text) in
    omega (arith, within, is, blank, rest, behind)
clashes_within (suc depth) key one two text (inr (opens, inl clash)) =
    let within = pair_within depth (drop 1 text) clash.found clash.name two clash.at in
    let behind = ends_within text (drop 1 text) (ends_drop 1 text) in
    omega (arith, within, behind)
clashes_within (suc depth) key one two text (inr (opens, inr clash)) =
    let (found, name, here, at, inner) = clash in
    let within = clashes_within depth key one two at.after inner in
    let value = ends_within (drop 1 text) at.after (value_ends (drop 1 text) at.rest name at.after at.ends at.begins) in
    let behind = ends_within text (drop 1 text) (ends_drop 1 text) in
    omega (arith, within, value, behind)

pair_clashes_within : (text key : List ℕ) (one two : ℕ) → PairClashes text key one two → two ≤ length text
pair_clashes_within text key one two (name, value, begins, clash) =
    let within = clashes_within recursion_limit key one two value clash in
    let ends = ends_within text value (end_left text (key_equals text) name value (key_equals_ends text) begins) in
    omega (arith, within, ends)

-- ---- expressions

-- each key was first defined by an expression, before the rest
abbrev pub KnowsFirsts : (text : List ℕ) → Firsts → (rest : List ℕ) → Type 0
KnowsFirsts text firsts rest =
    (path : List (List ℕ)) (key : List ℕ) (left : ℕ) → HasFirst firsts path key left → FirstDefines text path key left × (length rest < left)

pub knows_none : (text rest : List ℕ) (none : Firsts) → none ≡ no_firsts → KnowsFirsts text none rest
knows_none text rest none is path key left has = absurd (subst (λ (f : Firsts). HasFirst f path key left) is has)

pub knows_more : (text rest next : List ℕ) (doc : TomlDocument) (e : Expression) (here : ℕ) (old new : Firsts)
    → KnowsFirsts text old rest → ExpressionAt text doc e here → here ≤ length rest → length next < here
    → AddsFirsts (whole_path doc e.0 e.1) here doc.0 old new → KnowsFirsts text new next
knows_more text rest next doc e here old new knows at within shorter adds path key left has = elim (adds path key left has) [
  | inl before ↦
      let known = knows path key left before in
      let past = known.1 in
      (known.0, omega (arith, past, within, shorter))
  | inr now ↦
      let is = now.0 in
      (record { doc = doc; e = e; at = subst (λ (n : ℕ). ExpressionAt text doc e n) (sym is) at; new = now.1 }, omega (arith, is, shorter))
]

-- an expression that is refused
pub expressions_conflict : (text rest : List ℕ) (doc : TomlDocument) (e : Expression) (here : ℕ) (old : Firsts) (refused moved : Fault)
    → KnowsFirsts text old rest → ExpressionAt text doc e here → here ≤ length rest → ((IsMemory refused → ⊥) → define doc e ≡ None)
    → IsAgain (whole_path doc e.0 e.1) here old (IsShutFor doc e.0 e.1) refused → moved ≡ moved_to here refused → HasReason text moved
expressions_conflict text rest doc e here old refused moved knows at within denied again is = subst (HasReason text) (sym is) (by refused denied again)
  where
    by : (f : Fault) → ((IsMemory f → ⊥) → define doc e ≡ None) → IsAgain (whole_path doc e.0 e.1) here old (IsShutFor doc e.0 e.1) f
        → HasReason text (moved_to here f)
    by fault.Memory denies found = tt
    by (fault.NotToml left why) denies found = absurd found
    by (fault.TooDeep left) denies found = absurd found
    by (fault.DefinedAgain key name first second) denies found =
        let known = knows found.1 _ first found.2 in
        let past = known.1 in
        inl record {
          path = found.1;
          before = known.0;
          doc = doc;
          e = e;
          at = at;
          passes = found.3;
          shut = found.4;
          refused = denies (λ m. cc);
          order = omega (arith, past, within);
        }

-- an expression in which a value is refused
pub value_reason : (text rest : List ℕ) (doc : TomlDocument) (refused moved : Fault) → ReadsUpTo text doc rest
    → ((IsMemory refused → ⊥) → line (skip_blank rest) ≡ None)
    → FaultTells refused (PairClashes (skip_blank rest)) (ExpressionNestsPast (skip_blank rest)) → IsSettled (skip_blank rest) refused moved
    → HasReason text moved
value_reason text rest doc fault.Memory moved read none found is = subst (HasReason text) (sym is) tt
value_reason text rest doc (fault.NotToml left why) (fault.NotToml l w) read none found is = neither_document text rest doc read (none (λ m. cc)) found
value_reason text rest doc (fault.NotToml left why) _ read none found is = absurd is.0
value_reason text rest doc (fault.TooDeep left) moved read none found is =
    let within = expression_nests_within (skip_blank rest) left found in
    let same : min left (length (skip_blank rest)) ≡ left = omega (arith, within) in
    subst (HasReason text) (sym is)
    (record { doc = doc; rest = rest; read = read; nests = subst (ExpressionNestsPast (skip_blank rest)) (sym same) found })
value_reason text rest doc (fault.DefinedAgain key name first second) moved read none found is =
    let within = pair_clashes_within (skip_blank rest) (string_bytes key) first second found in
    let same : min second (length (skip_blank rest)) ≡ second = omega (arith, within) in
    subst (HasReason text) (sym is) (inr record {
      doc = doc;
      rest = rest;
      read = read;
      pairs = subst (λ (n : ℕ). PairClashes (skip_blank rest) (string_bytes key) first n) (sym same) found;
    })

-- ---- faults in other words

-- a value, or an expression
pub reworded : {B : Type 0} (expected : Option B) (again : List ℕ → ℕ → ℕ → Type 0) (deep : ℕ → Type 0) (old new : Fault) → IsReworded old new
    → IsGrammarRefusal expected (λ f. FaultTells f again deep) old → IsGrammarRefusal expected (λ f. FaultTells f again deep) new
reworded expected again deep fault.Memory new is refused = subst (IsGrammarRefusal expected (λ f. FaultTells f again deep)) (sym is) refused
reworded expected again deep (fault.NotToml left why) fault.Memory is refused = (λ real. absurd (real refl), tt)
reworded expected again deep (fault.NotToml left why) (fault.NotToml l w) is refused = ((λ real. refused.0 (λ m. cc)), refused.1)
reworded expected again deep (fault.NotToml left why) (fault.TooDeep l) is refused = absurd is
reworded expected again deep (fault.NotToml left why) (fault.DefinedAgain key name first second) is refused = absurd is
reworded expected again deep (fault.TooDeep left) new is refused = subst (IsGrammarRefusal expected (λ f. FaultTells f again deep)) (sym is) refused
reworded expected again deep (fault.DefinedAgain key name first second) new (inl is) refused =
    subst (IsGrammarRefusal expected (λ f. FaultTells f again deep)) (sym is) (λ real. absurd (real refl), tt)
reworded expected again deep (fault.DefinedAgain key name first second) new (inr (other, is)) refused =
    subst (IsGrammarRefusal expected (λ f. FaultTells f again deep)) (sym is) ((λ real. refused.0 (λ m. cc)), refused.1)
