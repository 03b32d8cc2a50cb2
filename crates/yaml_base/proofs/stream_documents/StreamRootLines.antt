-- The lines of a root: no line after its first is a marker, and its first may begin a root.
use Rattle.yaml_base.proofs.Common.{render_nothing, arith, suc, zero, ℕ, ◌==◌, Option, Bool, false, not, true, ◌||◌, List, [], ◌++◌, ◌∷◌, refl, ◌≡◌}
use Rattle.yaml_base.proofs.Common.{true≢false, append_assoc}
use Rattle.yaml_base.proofs.Common.{ap, subst, sym, ◌∙◌, list_any, Text, line_feed, space, Rendered, is_read_break, is_empty}
use Rattle.yaml_base.proofs.Common.{stands_at_margin, Line, prepend_to_first_line, prepend_character, lines_of, without_skipped_lines, ends_indicator}
use Rattle.yaml_base.proofs.Common.{spaces, NodeKind, Rules}
use Rattle.yaml_base.{specs.streams.StreamLines.begins_comment, specs.streams.StreamLines.is_skipped, proofs.Common.and_from, proofs.Common.◌&&◌}
use Rattle.yaml_base.proofs.{stream_lines.StreamInside.not_skipped, stream_lines.StreamLineLaws.one_line_both, stream_lines.StreamSections.later_content}
use Rattle.yaml_base.proofs.{stream_lines.StreamSections.AreContent, stream_lines.StreamTidyLaws.lines_after_first, stream_nodes.StreamLaid.Lays}
use Rattle.yaml_base.proofs.{stream_nodes.StreamLaid.Opened}
use Rattle.yaml_base.proofs.stream_documents.StreamRootsStand.{root_cursor, Begins}
use Rattle.yaml_base.proofs.stream_lines.StreamClosed.{closing, closed, spaces_line, lines_behind, lines_broken}
use Rattle.yaml_base.proofs.stream_nodes.StreamBlocks.{opened_shows, BegunKind, unsaid, is_parsed, block_own, own_closed, below}

-- the first of some lines begins with a character that is no space and no `#`
abbrev pub begins_shown : List Line → Bool
begins_shown [] = false
begins_shown (line ∷ rest) = not (ends_indicator line.text) && not (begins_comment line.text)

-- after a marker the first line isn't skipped, or the text below it is at the margin
abbrev pub stands_below : List Line → Bool
stands_below [] = true
stands_below (line ∷ rest) = not (is_skipped line.text) || stands_at_margin (without_skipped_lines rest)

-- a root may begin so, after a marker or on lines of its own
abbrev pub FirstStands : (on_marker : Bool) → List Line → Type 0
FirstStands true lines = stands_below lines ≡ true
FirstStands false lines = begins_shown lines ≡ true

-- lines of which none after the first is a marker, and of which the first may begin a root
abbrev pub Stood : (on_marker : Bool) → List Line → Type 0
Stood on_marker lines = AreContent (lines_after_first lines) × FirstStands on_marker lines

-- First lines

-- the line that a character begins after spaces, if it is no break
pub record FirstLine (breaks12 : Bool) (k head : ℕ) (t : Text) : Type 0 where
  pub tail : Text
  pub ending : Text
  pub rest : List Line
  pub is : lines_of breaks12 (spaces k ++ (head ∷ t)) ≡ record { text = spaces k ++ (head ∷ tail); ending = ending } ∷ rest

-- each such text has one
pub first_line : (breaks12 : Bool) (k head : ℕ) (t : Text) → is_read_break breaks12 head ≡ false → FirstLine breaks12 k head t
first_line breaks12 k head t goes_on = by (lines_of breaks12 t) refl
  where
    prefix : (lines : List Line) → lines_of breaks12 t ≡ lines → lines_of breaks12 (head ∷ t) ≡ prepend_to_first_line head lines
    prefix lines e = ap (λ x. prepend_character x head (lines_of breaks12 t)) goes_on ∙ ap (prepend_to_first_line head) e

    by : (lines : List Line) → lines_of breaks12 t ≡ lines → FirstLine breaks12 k head t
    by [] e = record {
      tail = [];
      ending = [];
      rest = [];
      is = lines_behind breaks12 (spaces k) (head ∷ t) (head ∷ []) [] [] (spaces_line breaks12 k) (prefix [] e);
    }
    by (line ∷ rest) e = record {
      tail = line.text;
      ending = line.ending;
      rest = rest;
      is = lines_behind breaks12 (spaces k) (head ∷ t) (head ∷ line.text) line.ending rest (spaces_line breaks12 k) (prefix (line ∷ rest) e);
    }

-- a character that is no space and no `#` begins a line at the margin
shown_at : (k head : ℕ) (t : Text) → k ≡ 0 → (head == space) ≡ false → (head == 0x23) ≡ false
    → (not (ends_indicator (spaces k ++ (head ∷ t))) && not (begins_comment (spaces k ++ (head ∷ t)))) ≡ true
shown_at k head t e h uncommented =
    ap (λ n. not (ends_indicator (spaces n ++ (head ∷ t))) && not (begins_comment (spaces n ++ (head ∷ t)))) e
    ∙ and_from (not (head == space)) (not (head == 0x23)) (ap not h) (ap not uncommented)

-- the first line, if a root may begin there
first_stands : (on_marker : Bool) (k head : ℕ) (t ending : Text) (rest : List Line) → ((root_cursor on_marker).whitespace ≡ true → k ≡ 0)
    → (head == space) ≡ false → (head == 0x23) ≡ false
    → FirstStands on_marker (record { text = spaces k ++ (head ∷ t); ending = ending } ∷ rest)
first_stands true k head t ending rest margin shows uncommented =
    ap (λ x. not x || stands_at_margin (without_skipped_lines rest)) (not_skipped k head t shows uncommented)
first_stands false k head t ending rest margin shows uncommented = shown_at k head t (margin refl) shows uncommented

-- a text that begins so, up to its last line's end, may begin a root
pub begins_stands : (breaks12 on_marker : Bool) (own : Rendered) → Begins breaks12 (root_cursor on_marker) own
    → FirstStands on_marker (lines_of breaks12 (closed own))
begins_stands breaks12 on_marker own b =
    let line = first_line _ _ b.head (b.tail ++ closing own.cursor) b.goes_on in
    subst (FirstStands on_marker) (sym (ap (λ t. lines_of breaks12 (t ++ closing own.cursor)) b.text
    ∙ ap (lines_of breaks12) (append_assoc (spaces b.count) (b.head ∷ b.tail) (closing own.cursor)) ∙ line.is))
    (first_stands _ _ _ _ _ _ b.margin b.shows b.uncommented)

-- Collections in blocks

-- lines that begin a node at column 0 are at the margin
opened_margin : (rules : Rules) (lines : List Line) (kind : NodeKind) → Opened rules 0 lines kind → begins_shown lines ≡ true
opened_margin rules lines kind o = ap begins_shown o.is ∙ and_from _ _ (ap not o.shows) (ap not o.uncommented)

-- below lines that are skipped too
opened_below : (rules : Rules) (lines : List Line) (kind : NodeKind) → Opened rules 0 lines kind → stands_at_margin (without_skipped_lines lines) ≡ true
opened_below rules lines kind o = ap stands_at_margin ((opened_shows rules 0 lines kind o).1 ∙ o.is)
    ∙ and_from _ _ (ap not o.shows) (ap not o.uncommented)

-- entries at column 0, after properties or without them
pub block_stands : (rules : Rules) (on_marker : Bool) (anchor tag : Option Text) (begun entries : Rendered) (text : Text) (kind : NodeKind)
    → BegunKind rules anchor tag (root_cursor on_marker) begun → Lays 0 (render_nothing begun.cursor) entries text
    → Opened rules 0 (lines_of rules.breaks12 text) kind
    → AreContent (lines_of rules.breaks12 text) → ((begun.text ≡ [] → ⊥) → Begins rules.breaks12 (root_cursor on_marker) begun)
    → Stood on_marker (lines_of rules.breaks12 (closed (block_own begun entries)))
block_stands rules on_marker anchor tag begun entries text kind (is_parsed parsed) lays opened markerless properties =
    let b = properties (λ e. not_empty parsed.count (sym parsed.text ∙ e)) in
    let is = ap (lines_of rules.breaks12) (own_closed begun entries ∙ ap (λ t. begun.text ++ t) (below rules 0 begun.cursor entries text lays parsed.ends))
    ∙ lines_broken rules.breaks12 begun.text text (ap (λ t. list_any (is_read_break rules.breaks12) t) parsed.text
    ∙ one_line_both rules.breaks12 (spaces parsed.count) (parsed.head ∷ parsed.tail) (spaces_line rules.breaks12 parsed.count) parsed.one_line) in
    subst (Stood on_marker) (sym is) (
      markerless,
      subst (λ t. FirstStands on_marker (record { text = t; ending = line_feed ∷ [] } ∷ lines_of rules.breaks12 text)) (sym b.text)
          (first_stands on_marker b.count b.head b.tail (line_feed ∷ []) (lines_of rules.breaks12 text) b.margin b.shows b.uncommented),
    )
  where
    not_empty : (k : ℕ) → spaces k ++ (parsed.head ∷ parsed.tail) ≡ [] → ⊥
    not_empty zero e = absurd (true≢false (sym (ap is_empty e)))
    not_empty (suc k) e = absurd (true≢false (sym (ap is_empty e)))
block_stands rules on_marker anchor tag begun entries text kind (unsaid no_anchor no_tag nothing) lays opened markerless properties =
    grind (arith, own_closed, below, opened_below, later_content, opened_margin)
