-- A head that begins with a comment, and the entry after it: the reader passes over the head, and both belong to the same entries farther out.
use Rattle.yaml_base.proofs.Common.{ℕ, zero, suc, ◌+◌, ◌≤◌, ◌<◌, ◌⊎◌, inl, inr, arith, Bool, false, true, true≢false, Option, Some, List, [], ◌∷◌, ◌++◌, ◌≡◌}
use Rattle.yaml_base.proofs.Common.{◌&&◌, ◌||◌, refl, ap, sym, ◌∙◌, subst, append_assoc, append-nil, map, fold, if◌then◌else◌}
use Rattle.yaml_base.proofs.Common.{Text, line_feed, Line, lines_of, spaces, LinesReader, node_read, Rules, marker_of}
use Rattle.yaml_base.proofs.Common.{no_exclamation, begins_sequence, begins_mapping, begins_text, is_some, key_of_line}
use Rattle.std.proofs.lemmas.Grind.{fold-append}
use Rattle.yaml_base.proofs.CommentLines.{head_line, head_lines_read}
use Rattle.yaml_base.proofs.CommentEntries.{StepsOver, comment_begins, going_on, head_adds, item_after, items_over, lines_inside, pairs_over}
use Rattle.yaml_base.proofs.CommentSections.{lines_no_markers}
use Rattle.yaml_base.proofs.AllPass.{all_pass}
use Rattle.yaml_base.proofs.stream_lines.StreamClosed.{closed_behind, closed_both}
use Rattle.yaml_base.proofs.stream_lines.StreamInside.{Passes, Splits, inside_passes, not_blank, passes_both, past_spaces, not_skipped}
use Rattle.yaml_base.proofs.stream_lines.StreamLineLaws.{is_closed}
use Rattle.yaml_base.proofs.stream_lines.StreamSections.{AreContent, content_after_head, is_markerless}
use Rattle.yaml_base.proofs.stream_nodes.StreamLaid.{Content, Held, Opened, Reads, entries_kind, entry_step, held, margin}
use Rattle.yaml_base.specs.Comments.{HeadLine, blank_line, comment_line, comment_written}
use Rattle.yaml_base.specs.CommentReading.{head_text, is_no_marker}
use Rattle.yaml_base.specs.streams.StreamDocuments.{MarkerKind, start_marker, end_marker}
use Rattle.yaml_base.specs.streams.StreamLines.{Entries, all_blank, begins_with_indicator, entries_at, item_follows, past_column, prepend_line}
use Rattle.std.specs.Prelude.{option_map, unwrap_or}

-- Texts

-- a head ends with a break
pub head_closed : (breaks12 : Bool) (e : ℕ) (lines : List HeadLine) → is_closed breaks12 (head_text e lines) ≡ true
head_closed breaks12 e [] = refl
head_closed breaks12 e (blank_line ∷ rest) =
    closed_both breaks12 (line_feed ∷ []) (head_text e rest) (closed_behind breaks12 [] line_feed [] refl) (head_closed breaks12 e rest)
head_closed breaks12 e (comment_line text ∷ rest) =
    closed_both breaks12 (spaces e ++ (comment_written text ++ line_feed ∷ [])) (head_text e rest)
    (ap (is_closed breaks12) (sym (append_assoc (spaces e) (comment_written text) (line_feed ∷ [])))
    ∙ closed_behind breaks12 (spaces e ++ comment_written text) line_feed [] refl) (head_closed breaks12 e rest)

-- Entries

-- the entries of a head
abbrev pub head_entries : ℕ → List HeadLine → Entries
head_entries e lines = entries_at true e (map (head_line e) lines)

-- a comment begins one
pub comment_entry : (e : ℕ) (text : Text) (rest : List HeadLine)
    → head_entries e (comment_line text ∷ rest) ≡ prepend_line false (head_line e (comment_line text)) (head_entries e rest)
comment_entry e text rest =
    ap (λ b. prepend_line b (head_line e (comment_line text)) (head_entries e rest))
    (comment_begins true e text (map (head_line e) rest) (λ h. absurd (true≢false h)))

-- those of other lines follow them
pub heads_split : (q : Bool) (e : ℕ) (lines : List HeadLine) (others : List Line) → (entries_at q e others).before ≡ []
    → (q ≡ false → item_follows e others ≡ false)
    → entries_at q e (map (head_line e) lines ++ others)
    ≡ record { before = (head_entries e lines).before; entries = (head_entries e lines).entries ++ (entries_at q e others).entries }
heads_split q e [] others none alone = ap (λ b. record { before = b; entries = (entries_at q e others).entries }) none
heads_split q e (blank_line ∷ rest) others none alone = ap (prepend_line true (head_line e blank_line)) (heads_split q e rest others none alone)
heads_split q e (comment_line text ∷ rest) others none alone =
    let line = head_line e (comment_line text) in
    let more = (entries_at q e others).entries in
    ap (λ b. prepend_line b line (entries_at q e (map (head_line e) rest ++ others)))
    (comment_begins q e text (map (head_line e) rest ++ others) (λ h. item_after e rest others ∙ alone h))
    ∙ ap (prepend_line false line) (heads_split q e rest others none alone)
    ∙ sym (ap (λ (all : Entries). record { before = all.before; entries = all.entries ++ more }) (comment_entry e text rest))

-- the reader of entries passes over a comment
head_over : (q : Bool) (rules : Rules) (reads : LinesReader) (e : ℕ) (content : Content q)
    → StepsOver (Option (Held q)) (entry_step q rules reads e) (Some (held q content)) e
head_over true rules reads e content = items_over reads e (Some content)
head_over false rules reads e content = pairs_over rules reads e content

-- so it does over the entries of a head
pub entries_over : (q : Bool) (rules : Rules) (reads : LinesReader) (e : ℕ) (lines : List HeadLine) (content : Content q)
    → fold (entry_step q rules reads e) (Some (held q content)) (head_entries e lines).entries ≡ Some (held q content)
entries_over q rules reads e lines content =
    let step = entry_step q rules reads e in
    let adds = head_adds (Option (Held q)) step (Some (held q content)) true e lines [] (head_over q rules reads e content) refl
    (λ h. absurd (true≢false h)) in
    ap (λ ls. fold step (Some (held q content)) (entries_at true e ls).entries) (sym (append-nil (map (head_line e) lines))) ∙ adds.same

-- a head before lines that split
head_splits : (q : Bool) (e : ℕ) (comment : Text) (rest : List HeadLine) (lines : List Line) (entries : List (List Line)) → Splits q e lines entries
    → Splits q e (map (head_line e) (comment_line comment ∷ rest) ++ lines) ((head_entries e (comment_line comment ∷ rest)).entries ++ entries)
head_splits q e comment rest lines entries one = record {
  splits = λ more h none.
      let after = one.splits more h none in
      let all = comment_line comment ∷ rest in
      let own = head_entries e all in
      ap (entries_at q e) (append_assoc (map (head_line e) all) lines more)
      ∙ heads_split q e all (lines ++ more) (ap (λ (a : Entries). a.before) after) (λ f. one.alone f more (none f))
      ∙ ap (λ b. record { before = b; entries = own.entries ++ (entries_at q e (lines ++ more)).entries })
      (ap (λ (a : Entries). a.before) (comment_entry e comment rest))
      ∙ ap (λ (a : Entries). record { before = []; entries = own.entries ++ a.entries }) after
      ∙ ap (λ es. record { before = []; entries = es }) (sym (append_assoc own.entries entries (entries_at q e more).entries));
  alone = λ f more none.
      ap (item_follows e) (append_assoc (map (head_line e) (comment_line comment ∷ rest)) lines more)
      ∙ item_after e (comment_line comment ∷ rest) (lines ++ more) ∙ one.alone f more none;
}

-- Farther out

-- lines that begin an item at a column, whatever lines follow
abbrev pub BeginsItem : ℕ → List Line → Type 0
BeginsItem e lines = (more : List Line) → item_follows e (lines ++ more) ≡ true

-- a sequence begins with `-`
sequence_begins : (x y : Bool) → (if x then begins_sequence else (if y then begins_mapping else begins_text)) ≡ begins_sequence → x ≡ true
sequence_begins true y h = refl
sequence_begins false true h = cc
sequence_begins false false h = cc

-- the lines of a sequence's entry do
opened_follows : (rules : Rules) (e : ℕ) (lines : List Line) → Opened rules e lines begins_sequence → BeginsItem e lines
opened_follows rules e lines o more =
    let text = o.head ∷ o.tail in
    ap (λ ls. item_follows e (ls ++ more)) o.is
    ∙ ap (λ x. if x then item_follows e (o.rest ++ more) else unwrap_or (option_map (begins_with_indicator 0x2D) (past_column e (spaces e ++ text))) false)
    (not_skipped e o.head o.tail o.shows o.uncommented)
    ∙ ap (λ found. unwrap_or (option_map (begins_with_indicator 0x2D) found) false) (past_spaces e text)
    ∙ sequence_begins (begins_with_indicator 0x2D text) (begins_with_indicator 0x3F text || is_some (key_of_line rules text)) o.begins

pub entry_follows : (q : Bool) (rules : Rules) (e : ℕ) (lines : List Line) → Opened rules e lines (entries_kind q) → q ≡ true → BeginsItem e lines
entry_follows true rules e lines opened h = opened_follows rules e lines opened
entry_follows false rules e lines opened h = absurd (true≢false (sym h))

-- a head at the column of a mapping belongs to the entry above it, if an item follows there
head_goes_on : (e : ℕ) (head : List HeadLine) (lines : List Line) → BeginsItem e lines → Passes false e lines
    → Passes false e (map (head_line e) head ++ lines)
head_goes_on e head lines follows one = record {
  passed = λ more.
      ap (entries_at false e) (append_assoc (map (head_line e) head) lines more) ∙ going_on e head (lines ++ more) (follows more)
      ∙ ap (λ (all : Entries). record { before = map (head_line e) head ++ all.before; entries = all.entries }) (one.passed more)
      ∙ ap (λ ls. record { before = ls; entries = (entries_at false e more).entries })
      (sym (append_assoc (map (head_line e) head) lines (entries_at false e more).before));
}

-- a deeper one does anyway
head_deeper : (r : Bool) (d e : ℕ) (head : List HeadLine) (lines : List Line) → d < e → Passes r d lines → Passes r d (map (head_line e) head ++ lines)
head_deeper r d e head lines deep one =
    passes_both r d (map (head_line e) head) lines (inside_passes r d (map (head_line e) head) (lines_inside r d e head deep)) one

less_or_same : (d e : ℕ) → d ≤ e → (d < e) ⊎ (d ≡ e)
less_or_same zero zero h = inr refl
less_or_same zero (suc e) h = inl (omega arith)
less_or_same (suc d) zero h = absurd (omega arith)
less_or_same (suc d) (suc e) h = by (less_or_same d e (omega arith))
  where
    by : (d < e) ⊎ (d ≡ e) → (suc d < suc e) ⊎ (suc d ≡ suc e)
    by (inl less) = inl (omega arith)
    by (inr same) = inr (ap suc same)

-- so a head and the entry after it belong to the entries farther out
pub head_inside : (q r : Bool) (d e : ℕ) (head : List HeadLine) (lines : List Line) → d + margin q r ≤ e → (q ≡ true → BeginsItem e lines)
    → Passes r d lines → Passes r d (map (head_line e) head ++ lines)
head_inside false r d e head lines h follows one = head_deeper r d e head lines (omega arith) one
head_inside true true d e head lines h follows one = head_deeper true d e head lines (omega arith) one
head_inside true false d e head lines h follows one = by (less_or_same d e (omega arith))
  where
    by : (d < e) ⊎ (d ≡ e) → Passes false d (map (head_line e) head ++ lines)
    by (inl less) = head_deeper false d e head lines less one
    by (inr same) =
        subst (λ (n : ℕ). Passes false n (map (head_line e) head ++ lines)) (sym same)
        (head_goes_on e head lines (follows refl) (subst (λ (n : ℕ). Passes false n lines) same one))

-- Within a document

-- an entry's lines aren't blank
pub opened_not_blank : (q : Bool) (rules : Rules) (e : ℕ) (lines : List Line) → Opened rules e lines (entries_kind q) → all_blank lines ≡ false
opened_not_blank q rules e lines o = ap all_blank o.is ∙ ap (λ b. b && all_blank o.rest) (not_blank e o.head o.tail o.shows)

pub head_within : (e : ℕ) (head : List HeadLine) (lines : List Line) → all_blank lines ≡ false → AreContent lines
    → AreContent (map (head_line e) head ++ lines)
head_within e head lines some within =
    content_after_head (map (head_line e) head) lines
    (all_pass (λ line. is_no_marker (marker_of line.text)) (λ line. is_markerless (marker_of line.text)) (λ line. none (marker_of line.text))
    (map (head_line e) head) (lines_no_markers e head)) some within
  where
    none : (marker : MarkerKind) → is_no_marker marker ≡ true → is_markerless marker ≡ true
    none no_exclamation h = refl
    none start_marker h = cc
    none end_marker h = cc

-- A head that begins with a comment, before lines that begin an entry, adds nothing to them.
pub headed_reads : (q : Bool) (rules : Rules) (e : ℕ) (comment : Text) (rest : List HeadLine) (text : Text) (size : ℕ) (before : Content q) (after : Held q)
    → Opened rules e (lines_of rules.breaks12 text) (entries_kind q) → Reads q rules e text size (held q before) after
    → Reads q rules e (head_text e (comment_line comment ∷ rest) ++ text) size (held q before) after
headed_reads q rules e comment rest text size before after opened one =
    let head = comment_line comment ∷ rest in
    let lines = lines_of rules.breaks12 text in
    let own = (head_entries e head).entries in
    let is = head_lines_read rules.breaks12 e head text in
    record {
      entries = own ++ one.entries;
      ends = closed_both rules.breaks12 (head_text e head) text (head_closed rules.breaks12 e head) one.ends;
      splits = subst (λ ls. Splits q e ls (own ++ one.entries)) (sym is) (head_splits q e comment rest lines one.entries one.splits);
      inside = λ r d h. subst (Passes r d) (sym is) (head_inside q r d e head lines h (entry_follows q rules e lines opened) (one.inside r d h));
      within = subst AreContent (sym is) (head_within e head lines (opened_not_blank q rules e lines opened) one.within);
      reads = λ depth deep more.
          let step = entry_step q rules (node_read depth rules) e in
          ap (fold step (Some (held q before))) (append_assoc own one.entries more)
          ∙ fold-append step (Some (held q before)) own (one.entries ++ more)
          ∙ ap (λ state. fold step state (one.entries ++ more)) (entries_over q rules (node_read depth rules) e head before)
          ∙ one.reads depth deep more;
    }
