-- The loops of the grammar, a turn at a time.
use Rattle.toml_ordered.proofs.Common.{◌≡◌, ℕ, zero, suc, ◌-◌, ◌<◌, true, false, ◌||◌, ◌==◌, List, [], ◌∷◌, length, drop, Option, Some, None, Result, Ok, Err}
use Rattle.toml_ordered.proofs.Common.{refl, ap, ◌∙◌, arith, take, option_map, cond, Bool, sym, subst, inl, inr, ◌⊎◌, ◌≤◌, bytes_eq, codes, option_and_then}
use Rattle.toml_ordered.proofs.Common.{read_map, after_element, key_equals, map_some, TomlNode, string, decimal, infinity, not_a_number, Items, no_items, array}
use Rattle.toml_ordered.proofs.Common.{table, push_item, TomlNodes, sealed, put, TomlDocument, Expression, define, Edit, passed, append, Definition, redefine}
use Rattle.toml_ordered.proofs.Common.{ParsesTo, scalar_node, atom, keyval, line, Fault, Way, Closed, word_len, starts_string, quoted, Key, Read, first}
use Rattle.toml_ordered.proofs.Common.{skip_blank, cases_Bool, none-some}
use Rattle.std.proofs.{Common.take_all, Common.length-drop, lemmas.Bool.cases_lt}
use Rattle.toml.specs.Parse.{skip_bom}
use Rattle.toml_ordered.specs.{Data.no_nodes, Tables.along, Tables.get_node, Tables.replace, Tables.made_by, Tables.new_node, Tables.at_key}
use Rattle.toml_ordered.specs.Grammar.{plain_word, without_sign, float_node, val, items, members, lines, ordered_document}
use Rattle.toml_parser.specs.{Numbers.unquoted, Numbers.word_value, declared.scalar.Scalar.Scalar}
use Rattle.toml_parser.specs.declared.scalar.Scalar.TheVariants as scalar

module _ (val : List ℕ → Read TomlNode) where
  pub items_turn : (m : ℕ) (found : Items) (text : List ℕ) → 0 < m
      → items val m found text ≡ cond (first (skip_blank text) == 93) (Some (found, drop 1 (skip_blank text)))
      (option_and_then (λ v. option_and_then (items val (m - 1) (push_item found v.0)) (after_element 93 v.1)) (val (skip_blank text)))
  unfolding items
  items_turn zero found text some = absurd (omega arith)
  items_turn (suc m) found text some =
      let less : suc m - 1 ≡ m = omega arith in
      rw less

  pub members_turn : (m : ℕ) (found : TomlNodes) (text : List ℕ) → 0 < m
      → members val m found text ≡ cond (first (skip_blank text) == 125) (Some (found, drop 1 (skip_blank text))) (option_and_then (λ e. option_and_then
      (λ more. option_and_then (members val (m - 1) more) (after_element 125 e.1)) (put e.0.0 e.0.1 found)) (keyval val (skip_blank text)))
  unfolding members
  members_turn zero found text some = absurd (omega arith)
  members_turn (suc m) found text some =
      let less : suc m - 1 ≡ m = omega arith in
      rw less

  pub keyval_is : (text : List ℕ) (key : Key) (at after : List ℕ) (x : TomlNode) → key_equals text ≡ Some (key, at) → val at ≡ Some (x, after)
      → keyval val text ≡ Some ((key, x), after)
  keyval_is text key at after x named read = rw (named, read)

pub val_deep : (text : List ℕ) → (first text == 91 || first text == 123) ≡ true → val 0 text ≡ None
unfolding val
val_deep text h = rw h

-- by the first byte
module _ (text : List ℕ) where
  module _ (listed : (first text == 91) ≡ true) where
    pub val_array : (depth : ℕ) → val (suc depth) text ≡ read_map array (items (val depth) (length text) no_items (drop 1 text))
    unfolding val
    val_array depth = rw listed

  module _ (unlisted : (first text == 91) ≡ false) where
    pub val_table : (first text == 123) ≡ true → (depth : ℕ)
        → val (suc depth) text ≡ read_map (table Closed) (members (val depth) (length text) no_nodes (drop 1 text))
    unfolding val
    val_table braces depth = rw (unlisted, braces)

    pub val_atom : (first text == 123) ≡ false → (depth : ℕ) → val depth text ≡ atom text
    unfolding val
    val_atom other zero = rw (unlisted, other)
    val_atom other (suc depth) = rw (unlisted, other)

-- The text is read as its rest is read after this document: there is room for more lines than the rest has bytes.
pub record GoesOn (text : List ℕ) (doc : TomlDocument) (rest : List ℕ) : Type 0 where
  pub room : ℕ
  pub enough : length rest < room
  pub same : lines (suc (length text)) (no_nodes, []) (skip_bom text) ≡ lines room doc rest

abbrev lines_as : TomlDocument → List ℕ → ℕ → Option TomlDocument
lines_as doc rest n =
    cond (length (skip_blank rest) == 0) (Some doc)
    (option_and_then (λ e. option_and_then (λ next. lines n next e.1) (define doc e.0)) (line (skip_blank rest)))

lines_turn : (room : ℕ) (doc : TomlDocument) (rest : List ℕ) → 0 < room → lines room doc rest ≡ lines_as doc rest (room - 1)
unfolding lines
lines_turn zero doc rest some = absurd (omega arith)
lines_turn (suc n) doc rest some = let less : suc n - 1 ≡ n = omega arith in rw less

module _ (text : List ℕ) (doc : TomlDocument) (rest : List ℕ) (on : GoesOn text doc rest) where
  turn : lines (suc (length text)) (no_nodes, []) (skip_bom text) ≡ lines_as doc rest (on.room - 1)
  turn = let enough = on.enough in on.same ∙ lines_turn on.room doc rest (omega (arith, enough))

  pub document_ends : length (skip_blank rest) ≡ 0 → ordered_document text ≡ Some doc.0
  unfolding ordered_document
  document_ends none = rw (turn, none)

  module _ (other : (length (skip_blank rest) == 0) ≡ false) where
    pub document_stops : line (skip_blank rest) ≡ None → ordered_document text ≡ None
    unfolding ordered_document
    document_stops unread = rw (turn, other, unread)

    module _ (e : Expression) (after : List ℕ) (read : line (skip_blank rest) ≡ Some (e, after)) where
      pub document_refuses : define doc e ≡ None → ordered_document text ≡ None
      unfolding ordered_document
      document_refuses refused = rw (turn, other, read, refused)

      pub document_goes_on : (next : TomlDocument) → define doc e ≡ Some next → length after < length rest → GoesOn text next after
      document_goes_on next defined shorter =
          let enough = on.enough in record { room = on.room - 1; enough = omega (arith, enough, shorter); same = turn ∙ rw (other, read, defined) }

-- ---- keys

pub along_end : (edit : Edit) (ns : TomlNodes) → along [] edit ns ≡ edit ns
unfolding along
along_end edit ns = refl

module _ (by : Way) (k : List ℕ) (rest : List (Way × List ℕ)) (edit : Edit) (ns : TomlNodes) where
  pub along_found : (x y : TomlNode) (new : TomlNodes) → get_node k ns ≡ Some x → passed by (along rest edit) x ≡ Some y → new ≡ replace k y ns
      → along ((by, k) ∷ rest) edit ns ≡ Some new
  unfolding along
  along_found x y new found step written = rw (found, step, written)

  pub along_refused : (x : TomlNode) → get_node k ns ≡ Some x → passed by (along rest edit) x ≡ None → along ((by, k) ∷ rest) edit ns ≡ None
  unfolding along
  along_refused x found step = rw (found, step)

  pub along_new : (inner new : TomlNodes) → get_node k ns ≡ None → along rest edit no_nodes ≡ Some inner → new ≡ append ns k (table (made_by by) inner)
      → along ((by, k) ∷ rest) edit ns ≡ Some new
  unfolding along
  along_new inner new none step written = rw (none, step, written)

  pub along_new_refused : get_node k ns ≡ None → along rest edit no_nodes ≡ None → along ((by, k) ∷ rest) edit ns ≡ None
  unfolding along
  along_new_refused none step = rw (none, step)

module _ (k : List ℕ) (what : Definition) (ns : TomlNodes) where
  pub at_key_found : (x y : TomlNode) (new : TomlNodes) → get_node k ns ≡ Some x → redefine what x ≡ Some y → new ≡ replace k y ns → at_key k what ns ≡ Some new
  unfolding at_key
  at_key_found x y new found step written = rw (found, step, written)

  pub at_key_refused : (x : TomlNode) → get_node k ns ≡ Some x → redefine what x ≡ None → at_key k what ns ≡ None
  unfolding at_key
  at_key_refused x found step = rw (found, step)

  pub at_key_new : get_node k ns ≡ None → at_key k what ns ≡ Some (append ns k (new_node what))
  unfolding at_key
  at_key_new none = rw none

-- another definition of a key that is there
module _ (k : List ℕ) (ns : TomlNodes) (x y : TomlNode) (new : TomlNodes) where
  pub at_key_there : (what : Definition) (r : Result (Unit {0}) Fault) → get_node k ns ≡ Some x → new ≡ replace k y ns → ParsesTo (λ _. y) r (redefine what x)
      → ParsesTo (λ _. new) r (at_key k what ns)
  at_key_there what (Ok u) found written step = at_key_found k what ns x y new found step written
  at_key_there what (Err e) found written step = λ real. at_key_refused k what ns x found (step real)

-- ---- scalars

-- the text after a word is the rest of the text
rest_is : (s : List ℕ) (d : Scalar) (rest : List ℕ) → unquoted s ≡ Some (d, rest) → rest ≡ drop (word_len s) s
unfolding unquoted
rest_is s d rest = by (word_len s == 0)
  where
    by : (b : Bool) → cond {A = Option (Scalar × List ℕ)} b None (option_map (λ x. (x, drop (word_len s) s)) (word_value (take (word_len s) s)))
        ≡ Some (d, rest)
        → rest ≡ drop (word_len s) s
    by true e = absurd (none-some (d, rest) e)
    by false e =
        map_some (λ x. (x, drop (word_len s) s)) (word_value (take (word_len s) s)) (d, rest) e λ x is same. sym (ap (λ (p : Scalar × List ℕ). p.1) same)

word_taken : (s rest : List ℕ) (n : ℕ) → rest ≡ drop n s → take (length s - length rest) s ≡ take n s
word_taken s rest n is = by (cases_lt (length s) n)
  where
    left : length rest ≡ length s - n
    left = ap length is ∙ length-drop n s

    by : (length s < n) ⊎ (n ≤ length s) → take (length s - length rest) s ≡ take n s
    by (inl past) = take_all (length s - length rest) s (omega (arith, left)) ∙ sym (take_all n s (omega (arith, past)))
    by (inr within) = ap (λ m. take m s) (omega (arith, left))

pub atom_scalar : (s : List ℕ) (d : Scalar) (rest : List ℕ) (x : TomlNode) → starts_string s ≡ false → unquoted s ≡ Some (d, rest)
    → x ≡ scalar_node (take (length s - length rest) s) d → atom s ≡ Some (x, rest)
atom_scalar s d rest x other read is =
    rw (other, read) (ap (λ y. Some (y, rest)) (sym (is ∙ ap (λ w. scalar_node w d) (word_taken s rest (word_len s) (rest_is s d rest read)))))

-- ---- values that were read take no more

read_sealed : {A : Type 0} (f : A → TomlNode) → ((a : A) → sealed (f a) ≡ f a) → (o : Read A) (x : TomlNode) (rest : List ℕ) → read_map f o ≡ Some (x, rest)
    → sealed x ≡ x
read_sealed f all o x rest read = map_some (λ r. (f r.0, r.1)) o (x, rest) read λ r is same. subst (λ (y : TomlNode × List ℕ). sealed y.0 ≡ y.0) same (all r.0)

float_sealed : (word : List ℕ) → sealed (float_node word) ≡ float_node word
float_sealed word = by (bytes_eq (without_sign word) (codes "inf")) (bytes_eq (without_sign word) (codes "nan"))
  where
    by : (a b : Bool) → sealed (cond a (infinity (first word == 45)) (cond b not_a_number (decimal word)))
        ≡ cond a (infinity (first word == 45)) (cond b not_a_number (decimal word))
    by true b = refl
    by false true = refl
    by false false = refl

scalar_sealed : (word : List ℕ) (s : Scalar) → sealed (scalar_node word s) ≡ scalar_node word s
scalar_sealed word (scalar.Float x) = float_sealed (plain_word word)
scalar_sealed word _ = refl

atom_sealed : (text : List ℕ) (x : TomlNode) (rest : List ℕ) → atom text ≡ Some (x, rest) → sealed x ≡ x
atom_sealed text x rest = by (starts_string text)
  where
    word : List ℕ
    word = take (word_len text) text

    by : (b : Bool) → cond {A = Option (TomlNode × List ℕ)} b (read_map string (quoted text)) (read_map (scalar_node word) (unquoted text)) ≡ Some (x, rest)
        → sealed x ≡ x
    by true read = read_sealed string (λ s. refl) (quoted text) x rest read
    by false read = read_sealed (scalar_node word) (scalar_sealed word) (unquoted text) x rest read

pub val_sealed : (depth : ℕ) (text : List ℕ) (x : TomlNode) (rest : List ℕ) → val depth text ≡ Some (x, rest) → sealed x ≡ x
val_sealed depth text x rest read = by depth (cases_Bool (first text == 91)) (cases_Bool (first text == 123)) read
  where
    some_none : ◌≡◌ {A = Option (TomlNode × List ℕ)} (Some (x, rest)) None → ⊥
    some_none e = cc

    by : (d : ℕ) → ((first text == 91) ≡ true) ⊎ ((first text == 91) ≡ false) → ((first text == 123) ≡ true) ⊎ ((first text == 123) ≡ false)
        → val d text ≡ Some (x, rest) → sealed x ≡ x
    by zero (inl a) b is = absurd (some_none (sym is ∙ val_deep text (rw a)))
    by zero (inr a) (inl b) is = absurd (some_none (sym is ∙ val_deep text (rw (a, b))))
    by (suc d) (inl a) b is = read_sealed array (λ xs. refl) (items (val d) (length text) no_items (drop 1 text)) x rest (sym (val_array text a d) ∙ is)
    by (suc d) (inr a) (inl b) is =
        read_sealed (table Closed) (λ ns. refl) (members (val d) (length text) no_nodes (drop 1 text)) x rest (sym (val_table text a b d) ∙ is)
    by d (inr a) (inr b) is = atom_sealed text x rest (sym (val_atom text a b d) ∙ is)
