-- The items of a sequence in a block, if each of them fits: the text of each is laid out on lines of its own and reads as its tree.
use Rattle.yaml_base.proofs.Common.{suc, ℕ, ◌≤◌, if◌then◌else◌, None, Some, false, true, [], ◌++◌, ◌∷◌, refl, ◌≡◌}
use Rattle.yaml_base.proofs.Common.{append_assoc, ap, sym, ◌∙◌, arith, Text, Cursor, Rendered, new_line, Nodes}
use Rattle.yaml_base.proofs.Common.{entry_place, as_item, Place, has_no_nodes, Effective, lines_of}
use Rattle.yaml_base.proofs.Common.{◌+◌, spaces, blanked, node_read, Rules, Bool, Tree, Trees, trees_and, first_cursor, subst}
use Rattle.yaml_base.{proofs.stream_nodes.StreamTexts.placed_own, specs.CommentReading.blank_text}
use Rattle.yaml_base.proofs.stream_lines.StreamClosed.{closing, closed, indicator_cursor, dash_inside}
use Rattle.yaml_base.proofs.stream_lines.StreamInside.{past_spaces}
use Rattle.yaml_base.proofs.stream_lines.{StreamLineLaws.unbroken_line, StreamMarkerless.dash_markerless}
use Rattle.yaml_base.proofs.stream_nodes.StreamFits.{Fits, FitsOr, with_blanks, ended, indicated_lines, blanked_lines}
use Rattle.yaml_base.proofs.stream_nodes.StreamLaid.{Indicates, indicated_reads, Laid, LaidOr, Added, laid_added}
use Rattle.yaml_base.specs.streams.StreamNodes.{item_by_indicator, item_read, with_item}

-- the place of the first item, or of another one
abbrev pub dash_place : (first : Bool) → ℕ → Place
dash_place first e = entry_place false (as_item first) e

-- the place of an item after others
abbrev pub item_place : Nodes → ℕ → Place
item_place items e = dash_place (has_no_nodes items) e

-- an item's entry reads as its tree
item_reads : (rules : Rules) (n : ℕ) (own : Rendered) (tree : Tree) (x : Bool) (e : ℕ)
    (fit : Fits rules n own tree (dash_place x e) (indicator_cursor e)) (depth : ℕ) → n ≤ depth
    → item_read (node_read depth rules) e (lines_of rules.breaks12 (spaces e ++ (0x2D ∷ closed own))) ≡ Some tree
item_reads rules n own tree x e fit depth deep =
    let o = fit.opens refl in
    ap (item_read (node_read depth rules) e) (indicated_lines _ e 0x2D _ o (unbroken_line rules.breaks12 (0x2D ∷ []) refl))
    ∙ ap (item_by_indicator (node_read depth rules) e o.ending o.rest) (past_spaces e _)
    ∙ ap (λ x. if x then node_read depth rules true (Some e) (blanked (suc e) o.head o.ending ∷ o.rest) else None) o.symbol
    ∙ ap (node_read depth rules true (Some e)) (sym (blanked_lines rules.breaks12 (suc e) (closed own) o))
    ∙ fit.reads depth deep true (suc e) (λ h. (refl, omega arith))

-- regrouped: an indicator, the text that it opens, and the break after it
pub regrouped : (a n o c : Text) (symbol : ℕ) → ((a ++ ((n ++ (symbol ∷ [])) ++ o)) ++ c) ≡ a ++ (n ++ (symbol ∷ (o ++ c)))
regrouped a n o c symbol =
    append_assoc a ((n ++ (symbol ∷ [])) ++ o) c ∙ ap (λ t. a ++ t) (append_assoc (n ++ (symbol ∷ [])) o c ∙ append_assoc n (symbol ∷ []) (o ++ c))

-- the indicator of an item
dash : Indicates true 0x2D
dash = record {
  one_line = λ breaks12. unbroken_line breaks12 (0x2D ∷ []) refl;
  begins = λ t. refl;
  markerless = dash_markerless;
  inside = dash_inside;
}

-- an item after others: its text is an entry
pub item_added : (rules : Rules) (s : Effective) (x : Bool) (e n : ℕ) (first : Rendered) (own : Cursor → Rendered) (trees : Trees) (tree : Tree)
    → Fits rules n (own (indicator_cursor e)) tree (dash_place x e) (indicator_cursor e)
    → Added true rules e first (placed_own s (dash_place x e) false first own) n trees (trees_and trees tree)
item_added rules s x e n first own trees tree fit =
    let text = own (indicator_cursor e) in
    let o = fit.opens refl in
    record {
      text = spaces e ++ (0x2D ∷ closed text);
      reads =
          indicated_reads true 0x2D rules n text tree (as_item x) (indicator_cursor e) e _ _ dash refl fit refl
          (λ depth deep. ap (with_item (Some trees)) (item_reads rules n text tree x e fit depth deep));
      entry =
          record {
            settled = fit.settled;
            lays = record {
              head = 0x2D;
              tail = closed text;
              is = refl;
              lays = regrouped first.text (new_line e first.cursor).text text.text (closing text.cursor) 0x2D;
            };
            opened = record {
              head = 0x2D;
              tail = o.head;
              ending = o.ending;
              rest = o.rest;
              is = indicated_lines rules.breaks12 e 0x2D (closed text) o (unbroken_line rules.breaks12 (0x2D ∷ []) refl);
              shows = refl;
              uncommented = refl;
              begins = rw o.symbol;
            };
          };
    }

-- blank lines after it
pub item_spared : (rules : Rules) (s : Effective) (x : Bool) (e n count : ℕ) (first : Rendered) (own : Cursor → Rendered) (trees : Trees) (tree : Tree)
    → Fits rules n (with_blanks count (own (indicator_cursor e))) tree (dash_place x e) (indicator_cursor e)
    → Added true rules e first (with_blanks count (placed_own s (dash_place x e) false first own)) n trees (trees_and trees tree)
item_spared rules s x e n count first own trees tree fit =
    subst (λ t. Added true rules e first (record { text = t; cursor = first_cursor }) n trees (trees_and trees tree))
    (ended first.text ((new_line e first.cursor).text ++ (0x2D ∷ [])) (own (indicator_cursor e)).text (closing (own (indicator_cursor e)).cursor)
    (blank_text count))
    (item_added rules s x e n first (λ at. with_blanks count (own at)) trees tree fit)

-- the items of a sequence, and one more, also with blank lines after it
pub item_laid : (rules : Rules) (s : Effective) (x : Bool) (e m n : ℕ) (cursor : Cursor) (empty : Bool) (first : Rendered) (own : Cursor → Rendered)
    (trees : Trees) (tree : Tree) (bars : Bool)
    → Laid true rules e cursor empty first m trees → FitsOr rules n (own (indicator_cursor e)) tree (dash_place x e) (indicator_cursor e) bars
    → LaidOr true rules e cursor false (placed_own s (dash_place x e) false first own) (m + n) (trees_and trees tree) bars
item_laid rules s x e m n cursor empty first own trees tree bars all fit =
    laid_added true rules e cursor empty first (placed_own s (dash_place x e) false first own) m n trees (trees_and trees tree) bars all
    (item_added rules s x e n first own trees tree fit.fits)
    (λ allowed count. item_spared rules s x e n count first own trees tree (fit.spares allowed count))
