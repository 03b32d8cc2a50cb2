-- The document of a text, with the keys in order of definition and with the keys sorted: each part of the grammar reads the same.
use Rattle.toml_ordered.proofs.Common.{◌≡◌, ℕ, zero, suc, Bool, true, false, cond, ◌&&◌, ◌||◌, ◌==◌, List, [], length, drop, slice_index, Option, Some, None}
use Rattle.toml_ordered.proofs.Common.{option_map, option_and_then, refl, sym, ap, subst, ◌∙◌, Read, first, skip_ws, skip_blank, Key, quoted, starts_string}
use Rattle.toml_ordered.proofs.Common.{recursion_limit, read_map, after_byte, after_element, key_equals, ends_line, TomlNode, string, array, table, Items}
use Rattle.toml_ordered.proofs.Common.{no_items, TomlNodes, push_item, atom, keyval, expression, line, sorted_value, key_value, std_table, array_table}
use Rattle.toml_ordered.proofs.Common.{Expression, TomlDocument, put, define, Closed, map_some}
use Rattle.std.proofs.{lemmas.Option.cond_some, lemmas.Option.option_and_then_some, lemmas.Iterator.Adapters.option_map_id}
use Rattle.toml.{specs.Parse.header_key, specs.Parse.skip_bom, proofs.Turns.val_deep}
use Rattle.toml_ordered.{specs.Data.no_nodes, specs.Sorted.sorted_items, specs.Sorted.sorted_keys, proofs.SortedScalars.same_scalar, proofs.Turns.val_sealed}
use Rattle.toml_ordered.specs.Grammar.{items, members, val, lines, ordered_document}
use Rattle.toml_ordered.proofs.SortedTables.{mapped, closed_keys, sorted-push, seen, seen_document, seen_definition, IsComplete, DefinesComplete, same_put}
use Rattle.toml_ordered.proofs.SortedTables.{complete_sealed, same_define}
use Rattle.toml.specs.Data as plain
use Rattle.toml.specs.Tables as t
use Rattle.toml.specs.Parse as p

-- two readings, one after another
bound : {A B C D : Type 0} (f : A → B) (g : C → D) (o : Option A) (q : Option B) (h : A → Option C) (k : B → Option D) → option_map f o ≡ q
    → ((a : A) → o ≡ Some a → option_map g (h a) ≡ k (f a)) → option_map g (option_and_then h o) ≡ option_and_then k q
bound f g None q h k e each = ap (option_and_then k) e
bound f g (Some a) q h k e each = each a refl ∙ ap (option_and_then k) e

-- both have the same next
bound_same : {A C D : Type 0} (g : C → D) (o : Option A) (h : A → Option C) (k : A → Option D) → ((a : A) → o ≡ Some a → option_map g (h a) ≡ k a)
    → option_map g (option_and_then h o) ≡ option_and_then k o
bound_same g o h k each = bound (λ a. a) g o o h k (option_map_id o) each

either : {C D : Type 0} (g : C → D) (b : Bool) (x y : Option C) (z w : Option D) → option_map g x ≡ z → option_map g y ≡ w
    → option_map g (cond b x y) ≡ cond b z w
either g true x y z w e f = e
either g false x y z w e f = f

-- ---- values

abbrev sorted_read : TomlNode × List ℕ → plain.Data × List ℕ
sorted_read r = (sorted_value r.0, r.1)

abbrev SameVal : (List ℕ → Read TomlNode) → (List ℕ → Read plain.Data) → Type 0
SameVal val other = (text : List ℕ) → option_map sorted_read (val text) ≡ other text

same_read_map : {A B : Type 0} (f : A → B) (make : A → TomlNode) (other : B → plain.Data) (o : Read A) (q : Read B)
    → option_map (λ r. (f r.0, r.1)) o ≡ q → ((a : A) → sorted_value (make a) ≡ other (f a)) → option_map sorted_read (read_map make o) ≡ read_map other q
same_read_map f make other o q e each =
    mapped (λ r. (f r.0, r.1)) sorted_read (λ r. (make r.0, r.1)) (λ r. (other r.0, r.1)) o q e (λ r. ap (λ d. (d, r.1)) (each r.0))

same_atom : SameVal atom p.atom
unfolding p.atom
same_atom text =
    either sorted_read (starts_string text) _ _ _ _
    (same_read_map (λ a. a) string plain.string (quoted text) (quoted text) (option_map_id (quoted text)) (λ _. refl)) (same_scalar text)

complete_keyval : (depth : ℕ) (text : List ℕ) (e : (Key × TomlNode) × List ℕ) → keyval (val depth) text ≡ Some e → IsComplete e.0.1
complete_keyval depth text e is =
    option_and_then_some _ (key_equals text) e is λ k named read. map_some (λ r. ((k.0, r.0), r.1)) (val depth k.1) e read λ v found same. subst
    (λ (d : (Key × TomlNode) × List ℕ). IsComplete d.0.1) same (subst IsComplete (val_sealed depth k.1 v.0 v.1 found) (complete_sealed v.0))

abbrev sorted_items_read : Items × List ℕ → plain.Items × List ℕ
sorted_items_read r = (sorted_items r.0, r.1)

abbrev sorted_pair : (Key × TomlNode) × List ℕ → (Key × plain.Data) × List ℕ
sorted_pair r = ((r.0.0, sorted_value r.0.1), r.1)

abbrev sorted_keys_read : TomlNodes × List ℕ → plain.Members × List ℕ
sorted_keys_read r = (sorted_keys r.0, r.1)

module _ (depth : ℕ) (same : SameVal (val depth) (p.val depth)) where
  same_items : (n : ℕ) (found : Items) (text : List ℕ)
      → option_map sorted_items_read (items (val depth) n found text) ≡ p.items (p.val depth) n (sorted_items found) text
  unfolding items p.items
  same_items zero found text = refl
  same_items (suc n) found text =
      either sorted_items_read (first (skip_blank text) == 93) _ _ _ _ refl (bound sorted_read sorted_items_read (val depth (skip_blank text))
      (p.val depth (skip_blank text)) _ _ (same (skip_blank text)) (λ v is. bound_same sorted_items_read (after_element 93 v.1) _ _
      (λ next found_next. same_items n (push_item found v.0) next ∙ ap (λ xs. p.items (p.val depth) n xs next) (sorted-push found v.0))))

  same_keyval : (text : List ℕ) → option_map sorted_pair (keyval (val depth) text) ≡ p.keyval (p.val depth) text
  same_keyval text =
      bound_same sorted_pair (key_equals text) _ _
      (λ k is. mapped sorted_read sorted_pair (λ r. ((k.0, r.0), r.1)) (λ r. ((k.0, r.0), r.1)) (val depth k.1) (p.val depth k.1) (same k.1) (λ _. refl))

  same_members : (n : ℕ) (found : TomlNodes) (text : List ℕ)
      → option_map sorted_keys_read (members (val depth) n found text) ≡ p.members (p.val depth) n (seen found) text
  unfolding members p.members
  same_members zero found text = refl
  same_members (suc n) found text =
      either sorted_keys_read (first (skip_blank text) == 125) _ _ _ _ (ap (λ ms. Some (ms, drop 1 (skip_blank text))) (sym (closed_keys found)))
      (bound sorted_pair sorted_keys_read (keyval (val depth) (skip_blank text)) (p.keyval (p.val depth) (skip_blank text)) _ _ (same_keyval (skip_blank text))
      (λ e is. bound seen sorted_keys_read (put e.0.0 e.0.1 found) (t.put e.0.0 (sorted_value e.0.1) (seen found)) _ _
      (same_put e.0.0 e.0.1 (complete_keyval depth (skip_blank text) e is) found)
      (λ more defined. bound_same sorted_keys_read (after_element 125 e.1) _ _ (λ next found_next. same_members n more next))))

bracket_none : (text : List ℕ) → (first text == 91 || first text == 123) ≡ true → p.atom text ≡ None
unfolding p.val
bracket_none text h = val_deep text h

pub same_val : (depth : ℕ) → SameVal (val depth) (p.val depth)
unfolding val p.val
same_val zero text = by (first text == 91 || first text == 123) refl
  where
    by : (b : Bool) → (first text == 91 || first text == 123) ≡ b → option_map sorted_read (cond b None (atom text)) ≡ p.atom text
    by true h = sym (bracket_none text h)
    by false h = same_atom text
same_val (suc depth) text =
    either sorted_read (first text == 91) _ _ _ _ (same_read_map sorted_items array plain.array (items (val depth) (length text) no_items (drop 1 text)) _
    (same_items depth (same_val depth) (length text) no_items (drop 1 text)) (λ _. refl)) (either sorted_read (first text == 123) _ _ _ _
    (same_read_map sorted_keys (table Closed) plain.table (members (val depth) (length text) no_nodes (drop 1 text)) _
    (same_members depth (same_val depth) (length text) no_nodes (drop 1 text)) (λ _. refl)) (same_atom text))

-- ---- documents

abbrev seen_expression : Expression × List ℕ → t.Expression × List ℕ
seen_expression r = ((r.0.0, seen_definition r.0.1), r.1)

same_expression : (text : List ℕ) → option_map seen_expression (expression text) ≡ p.expression text
unfolding p.expression
same_expression text =
    either seen_expression (first text == 91 && slice_index text 1 == 91) _ _ _ _ (bound_same seen_expression (header_key (drop 2 text)) _ _ (λ k is. mapped
    (λ rest. rest) seen_expression (λ rest. ((k.0, array_table), rest)) (λ rest. ((k.0, t.array_table), rest)) (after_byte 93 k.1) _
    (option_map_id (after_byte 93 k.1)) (λ _. refl))) (either seen_expression (first text == 91) _ _ _ _ (mapped (λ r. r) seen_expression
    (λ r. ((r.0, std_table), r.1)) (λ r. ((r.0, t.std_table), r.1)) (header_key (drop 1 text)) _ (option_map_id (header_key (drop 1 text))) (λ _. refl)) (mapped
    sorted_pair seen_expression (λ r. ((r.0.0, key_value r.0.1), r.1)) (λ r. ((r.0.0, t.key_value r.0.1), r.1)) (keyval (val recursion_limit) text) _
    (same_keyval recursion_limit (same_val recursion_limit) text) (λ _. refl)))

abbrev CompletesIn : Expression × List ℕ → Type 0
CompletesIn r = DefinesComplete r.0.1

complete_expression : (text : List ℕ) (e : Expression × List ℕ) → expression text ≡ Some e → CompletesIn e
complete_expression text e = by (first text == 91 && slice_index text 1 == 91) (first text == 91)
  where
    by : (a b : Bool) → cond a (option_and_then (λ k. option_map (λ rest. ((k.0, array_table), rest)) (after_byte 93 k.1)) (header_key (drop 2 text)))
        (cond b (read_map (λ k. (k, std_table)) (header_key (drop 1 text))) (read_map (λ r. (r.0, key_value r.1)) (keyval (val recursion_limit) text))) ≡ Some e
        → CompletesIn e
    by true b is =
        option_and_then_some _ (header_key (drop 2 text)) e is λ k named ends.
        map_some (λ rest. ((k.0, array_table), rest)) (after_byte 93 k.1) e ends λ rest closed same. subst CompletesIn same tt
    by false true is = map_some (λ k. ((k.0, std_table), k.1)) (header_key (drop 1 text)) e is λ k named same. subst CompletesIn same tt
    by false false is =
        map_some (λ r. ((r.0.0, key_value r.0.1), r.1)) (keyval (val recursion_limit) text) e is λ r read same.
        subst CompletesIn same (complete_keyval recursion_limit text r read)

same_line : (text : List ℕ) → option_map seen_expression (line text) ≡ p.line text
unfolding p.line
same_line text =
    bound seen_expression seen_expression (expression text) (p.expression text) _ _ (same_expression text)
    (λ e is. either seen_expression (ends_line (skip_ws e.1)) (Some e) None _ _ refl refl)

complete_line : (text : List ℕ) (e : Expression × List ℕ) → line text ≡ Some e → CompletesIn e
complete_line text e is =
    option_and_then_some _ (expression text) e is λ r read ends.
    subst CompletesIn (cond_some (ends_line (skip_ws r.1)) r e ends).1 (complete_expression text r read)

same_lines : (n : ℕ) (doc : TomlDocument) (text : List ℕ) → option_map seen_document (lines n doc text) ≡ p.lines n (seen_document doc) text
unfolding lines p.lines
same_lines zero doc text = refl
same_lines (suc n) doc text =
    either seen_document (length (skip_blank text) == 0) (Some doc) _ _ _ refl
    (bound seen_expression seen_document (line (skip_blank text)) (p.line (skip_blank text)) _ _ (same_line (skip_blank text))
    (λ e is. bound seen_document seen_document (define doc e.0) (t.define (seen_document doc) (e.0.0, seen_definition e.0.1)) _ _
    (same_define doc e.0.0 e.0.1 (complete_line (skip_blank text) e is)) (λ next defined. same_lines n next e.1)))

pub same_document : (text : List ℕ) → option_map sorted_keys (ordered_document text) ≡ p.parse_document text
unfolding ordered_document p.parse_document
same_document text =
    mapped seen_document sorted_keys (λ doc. doc.0) (λ doc. t.close doc.0) (lines (suc (length text)) (no_nodes, []) (skip_bom text)) _
    (same_lines (suc (length text)) (no_nodes, []) (skip_bom text)) (λ doc. sym (closed_keys doc.0))
