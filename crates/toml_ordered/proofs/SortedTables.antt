-- The rules for tables, with the keys in order of definition and with the keys sorted: each edit does the same.
use Rattle.toml_ordered.proofs.Common.{◌≡◌, ℕ, Bool, true, false, cond, List, [], ◌∷◌, ◌++◌, Option, Some, None, option_map, refl, sym, ap, ◌∙◌, bytes_eq}
use Rattle.toml_ordered.proofs.Common.{none-some, Key, TomlNode, string, decimal, infinity, not_a_number, array, table, tables, Items, no_items, TomlNodes}
use Rattle.toml_ordered.proofs.Common.{push_item, sealed, sorted_value, append, Edit, passed, steps_along, Definition, key_value, std_table, array_table}
use Rattle.toml_ordered.proofs.Common.{redefine, put, TomlDocument, Origin, Closed}
use Rattle.std.{proofs.Common.Ordering, proofs.Common.Less, proofs.Common.nat_cmp, specs.Cmp.Lexicographic.slice_cmp, specs.Ordering.match_ordering}
use Rattle.toml_ordered.specs.Data.{integer, boolean, datetime, item, no_nodes, node}
use Rattle.toml_ordered.specs.Sorted.{put_sorted, sorted_items, sorted_keys}
use Rattle.toml_ordered.specs.Tables.{get_node, replace, at_step, along, steps_by, at_key, new_node, at_found, define}
use Rattle.toml_ordered.specs.declared.tree.Origin.TheVariants.{Implicit, Dotted, Header}
use Rattle.toml_ordered.proofs.SortedKeys.{swap, found_past, replaced_past, found_same, replaced_same}
use Rattle.toml.specs.Data as plain
use Rattle.toml.specs.Tables as t
use Rattle.toml_ordered.specs.declared.route.Way.TheVariants as way

-- ---- the tables of `toml` while it reads

abbrev pub seen_table : Origin → t.Nodes → t.Node
seen_table Implicit ns = t.open_table t.implicit ns
seen_table Dotted ns = t.open_table t.dotted ns
seen_table Header ns = t.open_table t.header ns
seen_table Closed ns = t.value (plain.table (t.close ns))

abbrev mutual
  pub seen_node : TomlNode → t.Node
  seen_node (string text) = t.value (sorted_value (string text))
  seen_node (integer z) = t.value (sorted_value (integer z))
  seen_node (decimal word) = t.value (sorted_value (decimal word))
  seen_node (infinity negative) = t.value (sorted_value (infinity negative))
  seen_node not_a_number = t.value (sorted_value not_a_number)
  seen_node (boolean flag) = t.value (sorted_value (boolean flag))
  seen_node (datetime d) = t.value (sorted_value (datetime d))
  seen_node (array xs) = t.value (sorted_value (array xs))
  seen_node (table origin ns) = seen_table origin (seen ns)
  seen_node (tables done last) = t.open_array (sorted_items done) (seen last)

  pub seen : TomlNodes → t.Nodes
  seen no_nodes = t.no_nodes
  seen (node k x ns) = t.insert k (seen_node x) (seen ns)

close-match : (o : Ordering) (a b c : t.Nodes) → t.close (match_ordering o a b c) ≡ match_ordering o (t.close a) (t.close b) (t.close c)
close-match Less a b c = refl
close-match _ a b c = refl

close-insert : (k : List ℕ) (x : t.Node) (ns : t.Nodes) → t.close (t.insert k x ns) ≡ put_sorted k (t.close_node x) (t.close ns)
close-insert k x t.no_nodes = refl
close-insert k x (t.node l y ns) = close-match (slice_cmp nat_cmp k l) _ _ _ ∙ rw (close-insert k x ns)

mutual
  pub closed_node : (x : TomlNode) → t.close_node (seen_node x) ≡ sorted_value x
  closed_node (table Implicit ns) = ap plain.table (closed_keys ns)
  closed_node (table _ ns) = ap plain.table (closed_keys ns)
  closed_node (tables done last) = ap (λ ms. plain.array (plain.push_item (sorted_items done) (plain.table ms))) (closed_keys last)
  closed_node _ = refl

  pub closed_keys : (ns : TomlNodes) → t.close (seen ns) ≡ sorted_keys ns
  closed_keys no_nodes = refl
  closed_keys (node k x ns) = close-insert k (seen_node x) (seen ns) ∙ rw (closed_node x, closed_keys ns)

pub sorted-push : (xs : Items) (x : TomlNode) → sorted_items (push_item xs x) ≡ plain.push_item (sorted_items xs) (sorted_value x)
sorted-push no_items x = refl
sorted-push (item y xs) x = ap (plain.item (sorted_value y)) (sorted-push xs x)

-- ---- one table

pub seen_get : (k : List ℕ) (ns : TomlNodes) → t.get_node k (seen ns) ≡ option_map seen_node (get_node k ns)
seen_get k no_nodes = refl
seen_get k (node l y ns) = by (seen_get k ns) (bytes_eq k l) refl
  where
    by : t.get_node k (seen ns) ≡ option_map seen_node (get_node k ns) → (b : Bool) → bytes_eq k l ≡ b
        → t.get_node k (t.insert l (seen_node y) (seen ns)) ≡ option_map seen_node (cond b (Some y) (get_node k ns))
    by more true here = found_same k l (seen_node y) (seen ns) here
    by more false past = found_past k l (seen_node y) (seen ns) past ∙ more

pub seen_append : (k : List ℕ) (x : TomlNode) (ns : TomlNodes) → get_node k ns ≡ None → seen (append ns k x) ≡ t.insert k (seen_node x) (seen ns)
seen_append k x no_nodes none = refl
seen_append k x (node l y ns) none = by (seen_append k x ns) (bytes_eq k l) refl none
  where
    by : (get_node k ns ≡ None → seen (append ns k x) ≡ t.insert k (seen_node x) (seen ns)) → (b : Bool) → bytes_eq k l ≡ b
        → cond b (Some y) (get_node k ns) ≡ None
        → t.insert l (seen_node y) (seen (append ns k x)) ≡ t.insert k (seen_node x) (t.insert l (seen_node y) (seen ns))
    by more true here none = absurd (none-some y (sym none))
    by more false past none = ap (t.insert l (seen_node y)) (more none) ∙ sym (swap k l (seen_node x) (seen_node y) (seen ns) past)

pub seen_replace : (k : List ℕ) (x : TomlNode) (ns : TomlNodes) → seen (replace k x ns) ≡ t.replace k (seen_node x) (seen ns)
seen_replace k x no_nodes = refl
seen_replace k x (node l y ns) = by (seen_replace k x ns) (bytes_eq k l) refl
  where
    by : seen (replace k x ns) ≡ t.replace k (seen_node x) (seen ns) → (b : Bool) → bytes_eq k l ≡ b
        → seen (cond b (node l x ns) (node l y (replace k x ns))) ≡ t.replace k (seen_node x) (t.insert l (seen_node y) (seen ns))
    by more true here = sym (replaced_same k l (seen_node x) (seen_node y) (seen ns) here)
    by more false past = ap (t.insert l (seen_node y)) more ∙ sym (replaced_past k l (seen_node x) (seen_node y) (seen ns) past)

-- ---- edits

-- the two do the same
abbrev pub Same : Edit → t.Edit → Type 0
Same edit other = (ns : TomlNodes) → option_map seen (edit ns) ≡ other (seen ns)

pub mapped : {A B C D : Type 0} (f : A → B) (g : C → D) (w : A → C) (v : B → D) (o : Option A) (p : Option B) → option_map f o ≡ p
    → ((a : A) → g (w a) ≡ v (f a)) → option_map g (option_map w o) ≡ option_map v p
mapped f g w v None p e same = ap (option_map v) e
mapped f g w v (Some a) p e same = ap (λ d. Some d) (same a) ∙ ap (option_map v) e

module _ (edit : Edit) (other : t.Edit) (same : Same edit other) where
  pub same_header : (x : TomlNode) → option_map seen_node (passed way.Header edit x) ≡ t.header_node other (seen_node x)
  same_header (table Implicit ns) = mapped seen seen_node (table Implicit) (t.open_table t.implicit) (edit ns) (other (seen ns)) (same ns) (λ _. refl)
  same_header (table Dotted ns) = mapped seen seen_node (table Dotted) (t.open_table t.dotted) (edit ns) (other (seen ns)) (same ns) (λ _. refl)
  same_header (table Header ns) = mapped seen seen_node (table Header) (t.open_table t.header) (edit ns) (other (seen ns)) (same ns) (λ _. refl)
  same_header (tables done last) =
      mapped seen seen_node (tables done) (t.open_array (sorted_items done)) (edit last) (other (seen last)) (same last) (λ _. refl)
  same_header _ = refl

  pub same_dot : (x : TomlNode) → option_map seen_node (passed way.Dots edit x) ≡ t.dot_node other (seen_node x)
  same_dot (table Implicit ns) = mapped seen seen_node (table Dotted) (t.open_table t.dotted) (edit ns) (other (seen ns)) (same ns) (λ _. refl)
  same_dot (table Dotted ns) = mapped seen seen_node (table Dotted) (t.open_table t.dotted) (edit ns) (other (seen ns)) (same ns) (λ _. refl)
  same_dot _ = refl

  missing_by : (origin : Origin) (with : t.Nodes → t.Node) → ((inner : TomlNodes) → seen_node (table origin inner) ≡ with (seen inner))
      → (k : List ℕ) (ns : TomlNodes)
      → get_node k ns ≡ None
      → option_map seen (option_map (λ inner. append ns k (table origin inner)) (edit no_nodes))
      ≡ option_map (λ new. t.insert k (with new) (seen ns)) (other t.no_nodes)
  missing_by origin with is k ns none =
      mapped seen seen (λ inner. append ns k (table origin inner)) (λ new. t.insert k (with new) (seen ns)) (edit no_nodes) (other t.no_nodes) (same no_nodes)
      (λ inner. seen_append k (table origin inner) ns none ∙ ap (λ x. t.insert k x (seen ns)) (is inner))

  found_by : (k : List ℕ) (ns : TomlNodes) (o : Option TomlNode) (p : Option t.Node) → option_map seen_node o ≡ p
      → option_map seen (option_map (λ y. replace k y ns) o) ≡ option_map (λ new. t.replace k new (seen ns)) p
  found_by k ns o p e = mapped seen_node seen (λ y. replace k y ns) (λ new. t.replace k new (seen ns)) o p e (λ y. seen_replace k y ns)

  step_header : (k : List ℕ) (ns : TomlNodes) (o : Option TomlNode) → get_node k ns ≡ o
      → option_map seen (at_step way.Header k edit ns o) ≡ t.by_header k other (seen ns) (option_map seen_node o)
  step_header k ns None is = missing_by Implicit (t.open_table t.implicit) (λ _. refl) k ns is
  step_header k ns (Some x) is = found_by k ns (passed way.Header edit x) (t.header_node other (seen_node x)) (same_header x)

  step_dots : (k : List ℕ) (ns : TomlNodes) (o : Option TomlNode) → get_node k ns ≡ o
      → option_map seen (at_step way.Dots k edit ns o) ≡ t.by_dot k other (seen ns) (option_map seen_node o)
  step_dots k ns None is = missing_by Dotted (t.open_table t.dotted) (λ _. refl) k ns is
  step_dots k ns (Some x) is = found_by k ns (passed way.Dots edit x) (t.dot_node other (seen_node x)) (same_dot x)

pub same_along_dots : (path : List (List ℕ)) (edit : Edit) (other : t.Edit) → Same edit other
    → Same (along (steps_by way.Dots path) edit) (t.along_dots path other)
unfolding along t.along_dots
same_along_dots [] edit other same ns = same ns
same_along_dots (k ∷ path) edit other same ns =
    step_dots (along (steps_by way.Dots path) edit) (t.along_dots path other) (same_along_dots path edit other same) k ns (get_node k ns) refl
    ∙ ap (t.by_dot k (t.along_dots path other) (seen ns)) (sym (seen_get k ns))

pub same_along : (path dots : List (List ℕ)) (edit : Edit) (other : t.Edit) → Same edit other
    → Same (along (steps_by way.Header path ++ steps_by way.Dots dots) edit) (t.along_header path (t.along_dots dots other))
unfolding along t.along_header
same_along [] dots edit other same ns = same_along_dots dots edit other same ns
same_along (k ∷ path) dots edit other same ns =
    step_header (along (steps_by way.Header path ++ steps_by way.Dots dots) edit) (t.along_header path (t.along_dots dots other))
    (same_along path dots edit other same) k ns (get_node k ns) refl
    ∙ ap (t.by_header k (t.along_header path (t.along_dots dots other)) (seen ns)) (sym (seen_get k ns))

-- ---- definitions

abbrev pub seen_definition : Definition → t.Definition
seen_definition (key_value x) = t.key_value (sorted_value x)
seen_definition std_table = t.std_table
seen_definition array_table = t.array_table

-- a value that takes no more
abbrev pub IsComplete : TomlNode → Type 0
IsComplete x = seen_node x ≡ t.value (sorted_value x)

abbrev pub DefinesComplete : Definition → Type 0
DefinesComplete (key_value x) = IsComplete x
DefinesComplete what = Unit {0}

pub complete_sealed : (x : TomlNode) → IsComplete (sealed x)
complete_sealed (table origin ns) = ap (λ ms. t.value (plain.table ms)) (closed_keys ns)
complete_sealed _ = refl

same_new : (what : Definition) → DefinesComplete what → seen_node (new_node what) ≡ t.new_node (seen_definition what)
same_new (key_value x) complete = complete
same_new _ complete = refl

same_redefine : (what : Definition) (x : TomlNode) → option_map seen_node (redefine what x) ≡ t.redefine (seen_definition what) (seen_node x)
same_redefine (key_value y) x = refl
same_redefine std_table (table Implicit ns) = refl
same_redefine std_table _ = refl
same_redefine array_table (table Implicit ns) = refl
same_redefine array_table (tables done last) =
    ap (λ xs. Some (t.open_array xs t.no_nodes))
    (sorted-push done (table Closed last) ∙ ap (λ ms. plain.push_item (sorted_items done) (plain.table ms)) (sym (closed_keys last)))
same_redefine array_table _ = refl

same_found : (k : List ℕ) (what : Definition) → DefinesComplete what → (ns : TomlNodes) (o : Option TomlNode) → get_node k ns ≡ o
    → option_map seen (at_found k what ns o) ≡ t.at_found k (seen_definition what) (seen ns) (option_map seen_node o)
same_found k what complete ns None is = ap (λ new. Some new) (seen_append k (new_node what) ns is ∙ ap (λ x. t.insert k x (seen ns)) (same_new what complete))
same_found k what complete ns (Some x) is =
    mapped seen_node seen (λ y. replace k y ns) (λ y. t.replace k y (seen ns)) (redefine what x) (t.redefine (seen_definition what) (seen_node x))
    (same_redefine what x) (λ y. seen_replace k y ns)

pub same_key_edit : (k : List ℕ) (what : Definition) → DefinesComplete what → Same (at_key k what) (t.at_key k (seen_definition what))
unfolding at_key t.at_key
same_key_edit k what complete ns = same_found k what complete ns (get_node k ns) refl ∙ ap (t.at_found k (seen_definition what) (seen ns)) (sym (seen_get k ns))

pub same_put : (key : Key) (x : TomlNode) → IsComplete x → Same (put key x) (t.put key (sorted_value x))
same_put key x complete =
    same_along_dots key.0 (at_key key.1 (key_value x)) (t.at_key key.1 (t.key_value (sorted_value x))) (same_key_edit key.1 (key_value x) complete)

abbrev pub seen_document : TomlDocument → t.Document
seen_document doc = (seen doc.0, doc.1)

-- a header passes by no dots
header_steps : (path : List (List ℕ)) (edit : Edit) (other : t.Edit) → Same edit other → Same (along (steps_along path []) edit) (t.along_header path other)
unfolding t.along_dots
header_steps path edit other same = same_along path [] edit other same

pub same_define : (doc : TomlDocument) (key : Key) (what : Definition) → DefinesComplete what
    → option_map seen_document (define doc (key, what)) ≡ t.define (seen_document doc) (key, seen_definition what)
unfolding define t.define
same_define doc key (key_value x) complete =
    mapped seen seen_document (λ root. (root, doc.1)) (λ root. (root, doc.1)) (along (steps_along doc.1 key.0) (at_key key.1 (key_value x)) doc.0) _ (same_along
    doc.1 key.0 (at_key key.1 (key_value x)) (t.at_key key.1 (t.key_value (sorted_value x))) (same_key_edit key.1 (key_value x) complete) doc.0) (λ _. refl)
same_define doc key std_table complete =
    mapped seen seen_document (λ root. (root, key.0 ++ key.1 ∷ [])) (λ root. (root, key.0 ++ key.1 ∷ []))
    (along (steps_along key.0 []) (at_key key.1 std_table) doc.0) _
    (header_steps key.0 (at_key key.1 std_table) (t.at_key key.1 t.std_table) (same_key_edit key.1 std_table tt) doc.0) (λ _. refl)
same_define doc key array_table complete =
    mapped seen seen_document (λ root. (root, key.0 ++ key.1 ∷ [])) (λ root. (root, key.0 ++ key.1 ∷ []))
    (along (steps_along key.0 []) (at_key key.1 array_table) doc.0) _
    (header_steps key.0 (at_key key.1 array_table) (t.at_key key.1 t.array_table) (same_key_edit key.1 array_table tt) doc.0) (λ _. refl)
