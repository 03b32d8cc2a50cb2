-- The entries of a mapping read as its pairs, if each of them fits; and how a mapping's text is rendered.
use Rattle.yaml_base.proofs.Common.{suc, ℕ, ◌+◌, ◌≤◌, if◌then◌else◌, is_some, ◌||◌, option_and_then, Option, None, Some, length, Bool, false, true, []}
use Rattle.yaml_base.proofs.Common.{◌++◌, ◌∷◌}
use Rattle.yaml_base.proofs.Common.{refl, ◌≡◌, append-nil, append_assoc, ap, subst, sym, ◌∙◌, arith, false≢true, Text, Cursor, Rendered, or_right}
use Rattle.yaml_base.proofs.Common.{entry_place, Role, as_key, as_value}
use Rattle.yaml_base.proofs.Common.{Effective, Tree, TreePairs, tree_pairs_and, lines_of, spaces, SimpleKey, key_entry, value_entry, simple_entry}
use Rattle.yaml_base.proofs.Common.{begins_sequence, begins_mapping, begins_text, kind_of_node, begins_with_indicator, key_of_line, node_read, Rules}
use Rattle.yaml_base.proofs.stream_nodes.StreamPairs.{KeyFits, value_place, colon_cursor, key_cursor, value_cursor, KeyFitsAt, ValueFits}
use Rattle.yaml_base.proofs.stream_nodes.StreamPairs.{pair_text, keyed_lines, key_uncommented, keyed_begins}
use Rattle.yaml_base.proofs.stream_lines.{StreamInside.past_spaces, StreamInside.inside_deeper, StreamMarkerless.question_markerless}
use Rattle.yaml_base.proofs.stream_lines.{StreamMarkerless.colon_markerless, StreamLineLaws.is_closed, StreamLineLaws.lines_after_break}
use Rattle.yaml_base.proofs.stream_nodes.{StreamItems.regrouped, StreamTexts.placed_own}
use Rattle.yaml_base.proofs.Common.{render_then, render_place, first_cursor}
use Rattle.yaml_base.proofs.stream_lines.StreamLineLaws.{unbroken_line}
use Rattle.yaml_base.proofs.stream_lines.StreamClosed.{closed, closing, closed_behind, new_line_closes, indicator_cursor, margin_cursor}
use Rattle.yaml_base.proofs.stream_nodes.StreamFits.{Fits, FitsOr, with_blanks, ended, indicated_lines, indicated_ends, blanked_lines}
use Rattle.yaml_base.proofs.stream_nodes.StreamLaid.{Opened, Lays, Reads, reads_both, reads_one, Indicates, rest_inside, rest_within, indicated_reads}
use Rattle.yaml_base.proofs.stream_nodes.StreamLaid.{Laid, LaidOr, Added}
use Rattle.yaml_base.proofs.stream_nodes.StreamLaid.{laid_added}
use Rattle.yaml_base.specs.CommentReading.{blank_text}
use Rattle.yaml_base.specs.streams.StreamNodes.{HeldPairs, with_key, with_held_value, simple_pair, entry_by_kind, entry_at, entry_read}

-- Reading

-- the pairs so far, and the key that waits for its value
abbrev held : TreePairs → Option Tree → Option HeldPairs
held pairs key = Some (record { pairs = pairs; key = key })

-- an entry that begins with `?`
question : (rules : Rules) (n : ℕ) (own : Rendered) (tree : Tree) (role : Role) (e : ℕ)
    (fit : Fits rules n own tree (entry_place false role e) (indicator_cursor e))
    (depth : ℕ) → n ≤ depth → (pairs : TreePairs)
    → entry_read rules (node_read depth rules) e (held pairs None) (lines_of rules.breaks12 (spaces e ++ (0x3F ∷ closed own))) ≡ held pairs (Some tree)
question rules n own tree role e fit depth deep pairs =
    let o = fit.opens refl in
    let before : HeldPairs = record { pairs = pairs; key = None } in
    ap (entry_read rules (node_read depth rules) e (held pairs None))
    (indicated_lines rules.breaks12 e 0x3F (closed own) o (unbroken_line rules.breaks12 (0x3F ∷ []) refl))
    ∙ ap (entry_at rules (node_read depth rules) e o.ending o.rest before) (past_spaces e (0x3F ∷ o.head))
    ∙ ap (λ x. entry_by_kind (if x then key_entry else simple_entry) rules (node_read depth rules) e o.ending o.rest before (0x3F ∷ o.head)) o.symbol
    ∙ ap (λ ls. with_key before (node_read depth rules true (Some e) ls)) (sym (blanked_lines rules.breaks12 (suc e) (closed own) o))
    ∙ ap (with_key before) (fit.reads depth deep true (suc e) (λ h. (refl, omega arith)))

-- an entry that begins with `:`
colon : (rules : Rules) (n : ℕ) (own : Rendered) (tree : Tree) (role : Role) (e : ℕ)
    (fit : Fits rules n own tree (entry_place false role e) (indicator_cursor e))
    (depth : ℕ) → n ≤ depth → (pairs : TreePairs) (key : Tree)
    → entry_read rules (node_read depth rules) e (held pairs (Some key)) (lines_of rules.breaks12 (spaces e ++ (0x3A ∷ closed own)))
    ≡ held (tree_pairs_and pairs key tree) None
colon rules n own tree role e fit depth deep pairs key =
    let o = fit.opens refl in
    let before : HeldPairs = record { pairs = pairs; key = Some key } in
    ap (entry_read rules (node_read depth rules) e (held pairs (Some key)))
    (indicated_lines rules.breaks12 e 0x3A (closed own) o (unbroken_line rules.breaks12 (0x3A ∷ []) refl))
    ∙ ap (entry_at rules (node_read depth rules) e o.ending o.rest before) (past_spaces e (0x3A ∷ o.head))
    ∙ ap (λ x. entry_by_kind (if x then value_entry else simple_entry) rules (node_read depth rules) e o.ending o.rest before (0x3A ∷ o.head)) o.symbol
    ∙ ap (λ ls. with_held_value pairs (Some key) (node_read depth rules true (Some e) ls)) (sym (blanked_lines rules.breaks12 (suc e) (closed own) o))
    ∙ ap (with_held_value pairs (Some key)) (fit.reads depth deep true (suc e) (λ h. (refl, omega arith)))

-- an entry that begins with a simple key
keyed : (rules : Rules) (text : Text) (key_tree : Tree) (n : ℕ) (own : Rendered) (tree : Tree) (role : Role) (e : ℕ) (cursor : Cursor)
    → KeyFits rules text key_tree
    → (fit : Fits rules n own tree (entry_place false role e) cursor) → cursor.whitespace ≡ false → cursor.indention ≡ false → (depth : ℕ) → n ≤ depth
    → (pairs : TreePairs)
    → entry_read rules (node_read depth rules) e (held pairs None) (lines_of rules.breaks12 (spaces e ++ (text ++ (0x3A ∷ closed own))))
    ≡ held (tree_pairs_and pairs key_tree tree) None
keyed rules text key_tree n own tree role e cursor key fit w i depth deep pairs =
    let o = fit.opens w in
    let before : HeldPairs = record { pairs = pairs; key = None } in
    let line = text ++ (0x3A ∷ o.head) in
    ap (entry_read rules (node_read depth rules) e (held pairs None)) (keyed_lines rules text _ key_tree e key o)
    ∙ ap (entry_at rules (node_read depth rules) e o.ending o.rest before) (past_spaces e line)
    ∙ ap (λ k. entry_by_kind k rules (node_read depth rules) e o.ending o.rest before line) (key.simple o.head o.symbol)
    ∙ ap (option_and_then (λ (found : SimpleKey). simple_pair (node_read depth rules) e o.ending o.rest (with_key before (Some found.key)) (Some found)))
    (key.cut o.head o.symbol)
    ∙ ap (λ ls. with_held_value pairs (Some key_tree) (node_read depth rules false (Some e) ls)) (sym (blanked_lines _ (suc (e + length text)) _ o))
    ∙ ap (with_held_value pairs (Some key_tree)) (fit.reads depth deep false (suc (e + length text)) (λ h. absurd (false≢true (sym i ∙ h))))

-- no cursor is in indentation after the `:` of a simple key
pub colon_ends : (cursor : Cursor) → (colon_cursor cursor).indention ≡ false
colon_ends cursor = grind (arith)

-- the indicators of a key and of a value
pub question_mark : Indicates false 0x3F
question_mark = record {
  one_line = λ breaks12. unbroken_line breaks12 (0x3F ∷ []) refl;
  begins = λ t. refl;
  markerless = λ t h. question_markerless t;
  inside = λ r d e t h k. inside_deeper r d e (0x3F ∷ t) (omega arith);
}

colon_mark : Indicates false 0x3A
colon_mark = record {
  one_line = λ breaks12. unbroken_line breaks12 (0x3A ∷ []) refl;
  begins = λ t. refl;
  markerless = λ t h. colon_markerless t;
  inside = λ r d e t h k. inside_deeper r d e (0x3A ∷ t) (omega arith);
}

-- the lines of a pair
pair_reads : (x : Bool) (rules : Rules) (e m n : ℕ) (first : Bool) (k v : Rendered) (key value : Tree) (before : TreePairs)
    → KeyFitsAt x rules e first m k key → ValueFits x rules e n k v value
    → Reads false rules e (pair_text x e k v) (m + n) (record { pairs = before; key = None })
    (record { pairs = tree_pairs_and before key value; key = None })
pair_reads true rules e m n first k v key value before key_fits fit =
    let o = fit.opens refl in
    reads_one false rules e (k.text ++ (0x3A ∷ o.head)) _ o.ending o.rest (m + n) _ _
    (keyed_lines rules k.text (closed v) key e key_fits o)
    (ap (is_closed rules.breaks12) (sym (append_assoc (spaces e) k.text (0x3A ∷ closed v)))
    ∙ closed_behind rules.breaks12 (spaces e ++ k.text) 0x3A (closed v) (indicated_ends rules.breaks12 0 0x3A (closed v) o fit.ends))
    (keyed_begins rules k.text o.head key key_fits o.symbol) (key_fits.markerless o.head o.symbol)
    (λ r d h. inside_deeper r d e (k.text ++ (0x3A ∷ o.head)) (omega arith))
    (λ r d h. rest_inside rules n v _ _ _ e fit refl r d h) (rest_within rules n v _ _ _ e fit refl)
    (λ depth deep. keyed rules k.text key n v _ _ e _ key_fits fit refl (colon_ends k.cursor) depth (omega arith) before)
pair_reads false rules e m n first k v key value before key_fits fit =
    reads_both false rules e _ _ m n _ (record { pairs = before; key = Some key }) _
    (indicated_reads false 0x3F rules m k key (as_key first) (indicator_cursor e) e _ _
    question_mark refl key_fits refl (λ depth deep. question rules _ _ key _ e key_fits depth deep before))
    (indicated_reads false 0x3A rules n v _ (as_value false) (indicator_cursor e) e _ _
    colon_mark refl fit refl (λ depth deep. colon rules _ _ _ _ e fit depth deep before key))

-- Layout

-- the rendered text of a pair after other text
abbrev pub pair_own : (simple : Bool) → Effective → ℕ → (first : Bool) → Rendered → (key value : Cursor → Rendered) → Rendered
pair_own x s e first before key value =
    placed_own s (value_place x e) false (placed_own s (entry_place false (as_key first) e) x before key) value

-- it ends as its value does
pub pair_cursor : (x : Bool) (s : Effective) (e : ℕ) (first : Bool) (before : Rendered) (key value : Cursor → Rendered)
    → (value (value_cursor x e (key (key_cursor x e)))).cursor ≡ (pair_own x s e first before key value).cursor
pair_cursor true s e first before key value = refl
pair_cursor false s e first before key value = refl

-- it is a new line and the pair's text without its first spaces
pair_lays : (x : Bool) (rules : Rules) (s : Effective) (e m : ℕ) (first : Bool) (before : Rendered) (key value : Cursor → Rendered) (tree : Tree)
    → (let k = key (key_cursor x e) in
    KeyFitsAt x rules e first m k tree → Lays e before (pair_own x s e first before key value) (pair_text x e k (value (value_cursor x e k))))
pair_lays true rules s e m first before key value tree fit = grind (arith, append_assoc, append-nil)
pair_lays false rules s e m first before key value tree fit = grind (arith, append_assoc, regrouped, new_line_closes)

-- a line with a key begins a mapping
key_begins : (rules : Rules) (t : Text) → (x y z : Bool) → x ≡ false → y || z ≡ true
    → (if x then begins_sequence else (if y || z then begins_mapping else begins_text)) ≡ begins_mapping
key_begins rules t x y z h k = ap (λ b. if b then begins_sequence else (if y || z then begins_mapping else begins_text)) h
    ∙ ap (λ b. if b then begins_mapping else begins_text) k

-- the lines of a pair begin a mapping
pair_opens : (x : Bool) (rules : Rules) (e m n : ℕ) (first : Bool) (k v : Rendered) (key value : Tree)
    → KeyFitsAt x rules e first m k key → ValueFits x rules e n k v value → Opened rules e (lines_of rules.breaks12 (pair_text x e k v)) begins_mapping
pair_opens true rules e m n first key v tree value key_fits fit =
    let o = fit.opens refl in
    let k = key.text in
    let line = key_fits.first ∷ (key_fits.tail ++ (0x3A ∷ o.head)) in
    record {
      head = key_fits.first;
      tail = key_fits.tail ++ (0x3A ∷ o.head);
      ending = o.ending;
      rest = o.rest;
      is =
          keyed_lines rules k (closed v) tree e key_fits o
          ∙ ap (λ t. record { text = spaces e ++ (t ++ (0x3A ∷ o.head)); ending = o.ending } ∷ o.rest) key_fits.is;
      shows = key_fits.shows;
      uncommented = key_uncommented rules k tree key_fits;
      begins =
          ap (kind_of_node rules) (ap (λ t. t ++ (0x3A ∷ o.head)) (sym key_fits.is))
          ∙ key_begins rules line (begins_with_indicator 0x2D (k ++ (0x3A ∷ o.head))) (begins_with_indicator 0x3F (k ++ (0x3A ∷ o.head)))
          (is_some (key_of_line rules (k ++ (0x3A ∷ o.head))))
          (key_fits.no_dash o.head o.symbol)
          (or_right (begins_with_indicator 0x3F (k ++ (0x3A ∷ o.head))) (is_some (key_of_line rules (k ++ (0x3A ∷ o.head))))
          (ap is_some (key_fits.cut o.head o.symbol)));
    }
pair_opens false rules e m n first key v tree value key_fits fit =
    let o = key_fits.opens refl in
    let k = closed key in
    let more = lines_of rules.breaks12 (spaces e ++ (0x3A ∷ closed v)) in
    record {
      head = 0x3F;
      tail = o.head;
      ending = o.ending;
      rest = o.rest ++ more;
      is = lines_after_break rules.breaks12 (spaces e ++ (0x3F ∷ k)) (spaces e ++ (0x3A ∷ closed v))
          (indicated_ends rules.breaks12 e 0x3F k o key_fits.ends)
          ∙ ap (λ ls. ls ++ more) (indicated_lines rules.breaks12 e 0x3F k o (unbroken_line rules.breaks12 (0x3F ∷ []) refl));
      shows = refl;
      uncommented = refl;
      begins = ap (λ x. if x || is_some (key_of_line rules (0x3F ∷ o.head)) then begins_mapping else begins_text) o.symbol;
    }

-- a pair after others: its text is an entry, or two
pub pair_added : (x : Bool) (rules : Rules) (s : Effective) (e m n : ℕ) (first : Bool) (before : Rendered) (key value : Cursor → Rendered) (trees : TreePairs)
    (key_tree value_tree : Tree)
    → (let k = key (key_cursor x e) in
    KeyFitsAt x rules e first m k key_tree → ValueFits x rules e n k (value (value_cursor x e k)) value_tree
    → Added false rules e before (pair_own x s e first before key value) (m + n) trees (tree_pairs_and trees key_tree value_tree))
pair_added true rules s e m n first before key value trees key_tree value_tree key_fits fit =
    let k = key (margin_cursor e) in
    let v = value (colon_cursor k.cursor) in
    record {
      text = pair_text true e k v;
      reads = pair_reads true rules e m n first k v key_tree value_tree trees key_fits fit;
      entry = record {
        settled = fit.settled;
        lays = pair_lays true rules s e m first before key value key_tree key_fits;
        opened = pair_opens true rules e m n first k v key_tree value_tree key_fits fit;
      };
    }
pair_added false rules s e m n first before key value trees key_tree value_tree key_fits fit =
    let k = key (indicator_cursor e) in
    let v = value (indicator_cursor e) in
    record {
      text = pair_text false e k v;
      reads = pair_reads false rules e m n first k v key_tree value_tree trees key_fits fit;
      entry = record {
        settled = fit.settled;
        lays = pair_lays false rules s e m first before key value key_tree key_fits;
        opened = pair_opens false rules e m n first k v key_tree value_tree key_fits fit;
      };
    }

-- blank lines after a pair are after its value
blanks_after_pair : (x : Bool) (s : Effective) (e count : ℕ) (first : Bool) (before : Rendered) (key value : Cursor → Rendered)
    → pair_own x s e first before key (λ at. with_blanks count (value at)) ≡ with_blanks count (pair_own x s e first before key value)
blanks_after_pair x s e count first before key value =
    let symbol = render_then (placed_own s (entry_place false (as_key first) e) x before key) (render_place s (value_place x e) false) in
    let own = value symbol.cursor in
    let keyed = placed_own s (entry_place false (as_key first) e) x before key in
    ap (λ t. record { text = t; cursor = first_cursor })
    (ended keyed.text (render_place s (value_place x e) false keyed.cursor).text own.text (closing own.cursor) (blank_text count))

-- so they may follow it
pub pair_spared : (x : Bool) (rules : Rules) (s : Effective) (e m n count : ℕ) (first : Bool) (before : Rendered) (key value : Cursor → Rendered)
    (trees : TreePairs) (key_tree value_tree : Tree)
    → (let k = key (key_cursor x e) in
    KeyFitsAt x rules e first m k key_tree
    → Fits rules n (with_blanks count (value (value_cursor x e k))) value_tree (value_place x e) (value_cursor x e k)
    → Added false rules e before (with_blanks count (pair_own x s e first before key value)) (m + n) trees (tree_pairs_and trees key_tree value_tree))
pair_spared x rules s e m n count first before key value trees key_tree value_tree key_fits fit =
    subst (λ own. Added false rules e before own (m + n) trees (tree_pairs_and trees key_tree value_tree))
    (blanks_after_pair x s e count first before key value)
    (pair_added x rules s e m n first before key (λ at. with_blanks count (value at)) trees key_tree value_tree key_fits fit)

-- the pairs of a mapping, and one more, also with blank lines after it
pub pair_laid : (x : Bool) (rules : Rules) (s : Effective) (e l m n : ℕ) (cursor : Cursor) (first empty : Bool) (before : Rendered)
    (key value : Cursor → Rendered) (trees : TreePairs) (key_tree value_tree : Tree) (bars : Bool)
    → (let k = key (key_cursor x e) in
    Laid false rules e cursor empty before l trees → KeyFitsAt x rules e first m k key_tree
    → FitsOr rules n (value (value_cursor x e k)) value_tree (value_place x e) (value_cursor x e k) bars
    → LaidOr false rules e cursor false (pair_own x s e first before key value) (l + (m + n)) (tree_pairs_and trees key_tree value_tree) bars)
pair_laid x rules s e l m n cursor first empty before key value trees key_tree value_tree bars all key_fits fit =
    laid_added false rules e cursor empty before (pair_own x s e first before key value) l (m + n) trees (tree_pairs_and trees key_tree value_tree) bars all
    (pair_added x rules s e m n first before key value trees key_tree value_tree key_fits fit.fits)
    (λ allowed count. pair_spared x rules s e m n count first before key value trees key_tree value_tree key_fits (fit.spares allowed count))
