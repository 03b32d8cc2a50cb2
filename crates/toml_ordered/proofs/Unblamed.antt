-- An expression or a document is refused for one reason: if it isn't TOML at a place, no key is defined again in it, and nothing nests too deep.
use Rattle.toml_ordered.proofs.Common.{◌≡◌, ◌⊎◌, inl, inr, ℕ, List, Some, None, refl, sym, ap, subst, ◌∙◌, none-some, same_Some, key_equals, NeitherTells}
use Rattle.toml_ordered.proofs.Common.{expression, line, val, ClashesIn, ExpressionNestsPast, HasLongKey, NestsPast, PairClashes, own_key, ReadsUpTo}
use Rattle.toml_ordered.proofs.Common.{Expression, TomlDocument, skip_blank, Key, recursion_limit}
use Rattle.toml_ordered.proofs.Blaming.{IsBlamed, blamed_none, keyval_none, no_header, once, unblamed}
use Rattle.toml_ordered.proofs.LongKeys.{expression_long, named_short, own_key_pair}
use Rattle.toml_ordered.specs.{Nesting.Conflict, Nesting.NestsTooDeep, Places.after_lines, Places.next_expression}

-- ---- expressions

-- True if the key of the expression that begins here has too many parts, or two pairs clash in its value, or the value nests too deep.
abbrev IsExpressionBlamed : (text : List ℕ) → Type 0
IsExpressionBlamed text =
    ((left : ℕ) × HasLongKey left (own_key text)) ⊎ ((name : Key) × (value : List ℕ) × (key_equals text ≡ Some (name, value)) × IsBlamed recursion_limit value)

blames_too_deep : (text : List ℕ) (left : ℕ) → ExpressionNestsPast text left → IsExpressionBlamed text
blames_too_deep text left (inl long) = inl (left, long)
blames_too_deep text left (inr (name, value, named, deep)) = inr (name, value, named, inr (left, deep))

pub neither_expression : (text : List ℕ) → (IsExpressionBlamed text → ⊥) → NeitherTells (PairClashes text) (ExpressionNestsPast text)
neither_expression text none = (
  λ key one two (name, value, named, clash). none (inr (name, value, named, inl (key, one, two, clash))),
  λ left deep. none (blames_too_deep text left deep),
)

expression_unblamed : (text : List ℕ) → NeitherTells (PairClashes text) (ExpressionNestsPast text) → IsExpressionBlamed text → ⊥
expression_unblamed text none (inl (left, long)) = none.1 left (inl long)
expression_unblamed text none (inr (name, value, named, inl (key, one, two, clash))) = none.0 key one two (name, value, named, clash)
expression_unblamed text none (inr (name, value, named, inr (left, deep))) = none.1 left (inr (name, value, named, deep))

expression_blamed : (text : List ℕ) → IsExpressionBlamed text → expression text ≡ None
expression_blamed text (inl (left, long)) = expression_long text left long
expression_blamed text (inr (name, value, named, blamed)) =
    rw (no_header text (name, value) named, keyval_none (val recursion_limit) text name value named (blamed_none recursion_limit value blamed))

-- without a key before a value
pub nameless_neither : (text : List ℕ) → key_equals text ≡ None → ((left : ℕ) → HasLongKey left (own_key text) → ⊥)
    → NeitherTells (PairClashes text) (ExpressionNestsPast text)
nameless_neither text none no_long = neither_expression text by
  where
    by : IsExpressionBlamed text → ⊥
    by (inl (left, long)) = no_long left long
    by (inr (name, value, named, blamed)) = none-some _ (sym none ∙ named)

-- with a value
pub valued_neither : (text : List ℕ) (name : Key) (at : List ℕ) → key_equals text ≡ Some (name, at)
    → NeitherTells (λ key one two. ClashesIn recursion_limit key one two at) (λ left. NestsPast recursion_limit left at)
    → NeitherTells (PairClashes text) (ExpressionNestsPast text)
valued_neither text name at named none = neither_expression text by
  where
    by : IsExpressionBlamed text → ⊥
    by (inl (left, long)) = named_short text (name, at) named left (subst (HasLongKey left) (own_key_pair text (no_header text (name, at) named)) long)
    by (inr (other, value, also, blamed)) =
        unblamed recursion_limit at none
        (subst (IsBlamed recursion_limit) (ap (λ (k : Key × List ℕ). k.1) (same_Some (other, value) (name, at) (sym also ∙ named))) blamed)

-- that is read
pub expression_neither : (text : List ℕ) (e : Expression × List ℕ) → expression text ≡ Some e → NeitherTells (PairClashes text) (ExpressionNestsPast text)
expression_neither text e read = neither_expression text (λ blamed. none-some _ (sym (expression_blamed text blamed) ∙ read))

-- ---- documents

line_none : (text : List ℕ) → expression text ≡ None → line text ≡ None
line_none text none = rw none

pub neither_document : (text rest : List ℕ) (doc : TomlDocument) → ReadsUpTo text doc rest → line (skip_blank rest) ≡ None
    → NeitherTells (PairClashes (skip_blank rest)) (ExpressionNestsPast (skip_blank rest)) → NeitherTells (Conflict text) (NestsTooDeep text)
neither_document text rest doc reads unread none = (λ key one two conflict. by key one two conflict, λ left deep. by_deep left deep)
  where
    same : (other : TomlDocument) (end : List ℕ) → ReadsUpTo text other end → next_expression (other, end) ≡ None
        → ◌≡◌ {A = TomlDocument × List ℕ} (other, end) (doc, rest)
    same other end also stops =
        once next_expression (λ n. after_lines n text) (λ n. refl) reads.0 also.0 (doc, rest) (other, end) reads.1 (rw unread) also.1 stops

    blames : (other : TomlDocument) (end : List ℕ) → ReadsUpTo text other end → IsExpressionBlamed (skip_blank end) → ⊥
    blames other end also blamed =
        let is = same other end also (rw (line_none (skip_blank end) (expression_blamed (skip_blank end) blamed))) in
        expression_unblamed (skip_blank rest) none (subst (λ (p : TomlDocument × List ℕ). IsExpressionBlamed (skip_blank p.1)) is blamed)

    by : (key : List ℕ) (one two : ℕ) → Conflict text key one two → ⊥
    by key one two (inl conflict) =
        let at = conflict.at in
        let is = same conflict.doc at.rest at.read (rw (at.begins, conflict.refused)) in
        none-some _ (sym unread ∙ subst (λ (p : TomlDocument × List ℕ). line (skip_blank p.1) ≡ Some (conflict.e, at.after)) is at.begins)
    by key one two (inr conflict) =
        let (name, value, named, clash) = conflict.pairs in
        blames conflict.doc conflict.rest conflict.read (inr (name, value, named, inl (key, one, two, clash)))

    by_deep : (left : ℕ) → NestsTooDeep text left → ⊥
    by_deep left deep = blames deep.doc deep.rest deep.read (blames_too_deep (skip_blank deep.rest) left deep.nests)
