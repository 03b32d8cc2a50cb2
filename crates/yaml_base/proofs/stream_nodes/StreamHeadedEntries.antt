-- Entries of a collection with a head between two of them: blank lines go to the entry above, and what follows from the first comment on goes to the
-- entry below.
use Rattle.yaml_base.proofs.Common.{ℕ, zero, suc, ◌+◌, Bool, false, true, List, [], ◌∷◌, ◌++◌, ◌≡◌, ◌==◌, ◌&&◌}
use Rattle.yaml_base.proofs.Common.{refl, ap, sym, ◌∙◌, append_assoc, append-nil}
use Rattle.yaml_base.proofs.Common.{subst, true≢false, if◌then◌else◌, replicate, Text, line_feed, Cursor, Rendered, first_cursor, render_then, Rules}
use Rattle.yaml_base.proofs.stream_lines.StreamClosed.{Settled, closed, closing, new_line_closes}
use Rattle.yaml_base.proofs.stream_nodes.StreamFits.{with_blanks}
use Rattle.yaml_base.proofs.stream_nodes.StreamHeads.{headed_reads}
use Rattle.yaml_base.proofs.stream_nodes.StreamLaid.{Added, Content, Laid, LaidOr, laid_and, laid_closed, laid_on}
use Rattle.yaml_base.specs.Comments.{HeadLine, allowed_lines, bars_blank, blank_line, comment_line, line_end, onto_lines, render_head, render_lines}
use Rattle.yaml_base.specs.Comments.{single_blanks}
use Rattle.yaml_base.specs.CommentReading.{blank_text, head_text}

-- a rendered text up to its last line's end, and then blank lines and a head
abbrev pub headed_by : ℕ → (count : ℕ) → List HeadLine → Rendered → Rendered
headed_by e count head first = record { text = closed first ++ (blank_text count ++ head_text e head); cursor = first_cursor }

-- blank lines and a head are head lines
pub blanks_first : (e count : ℕ) (head : List HeadLine) → head_text e (replicate count blank_line ++ head) ≡ blank_text count ++ head_text e head
blanks_first e zero head = refl
blanks_first e (suc count) head = ap (λ t. line_feed ∷ t) (blanks_first e count head)

-- the line before a head ends as that before a new line does
line_closes : (cursor : Cursor) → Settled cursor → line_end cursor ≡ closing cursor
line_closes cursor settled = by cursor.indention (λ h. (settled h).0)
  where
    by : (x : Bool) → (x ≡ true → cursor.column ≡ 0)
        → (if x && cursor.column == 0 then [] else line_feed ∷ []) ≡ (if x then [] else line_feed ∷ [])
    by true start = ap (λ (n : ℕ). if n == 0 then [] else line_feed ∷ []) (start refl)
    by false start = refl

-- so they are rendered
pub head_rendered : (e count : ℕ) (comment : Text) (rest : List HeadLine) (first : Rendered) → Settled first.cursor
    → render_then first (render_lines e (replicate count blank_line ++ comment_line comment ∷ rest))
    ≡ headed_by e count (comment_line comment ∷ rest) first
head_rendered e count comment rest first settled = by count
  where
    head : List HeadLine
    head = comment_line comment ∷ rest

    regrouped : (count : ℕ)
        → first.text ++ (line_end first.cursor ++ head_text e (replicate count blank_line ++ head)) ≡ closed first ++ (blank_text count ++ head_text e head)
    regrouped count =
        ap (λ t. first.text ++ (t ++ head_text e (replicate count blank_line ++ head))) (line_closes first.cursor settled)
        ∙ ap (λ t. first.text ++ (closing first.cursor ++ t)) (blanks_first e count head)
        ∙ sym (append_assoc first.text (closing first.cursor) (blank_text count ++ head_text e head))

    by : (count : ℕ) → render_then first (render_lines e (replicate count blank_line ++ head)) ≡ headed_by e count head first
    by zero = ap (λ t. record { text = t; cursor = first_cursor }) (regrouped zero)
    by (suc count) = ap (λ t. record { text = t; cursor = first_cursor }) (regrouped (suc count))

-- the text of entries after a head goes on from that of the entries before it
headed_lays : (q : Bool) (rules : Rules) (e count : ℕ) (head : List HeadLine) (first own : Rendered) (n : ℕ) (a b : Content q)
    (next : Added q rules e (headed_by e count head first) own n a b) → closed own ≡ closed (with_blanks count first) ++ (head_text e head ++ next.text)
headed_lays q rules e count head first own n a b next =
    let lays = next.entry.lays in
    let before = closed first ++ (blank_text count ++ head_text e head) in
    lays.lays
    ∙ ap (λ t. before ++ (t ++ (lays.head ∷ lays.tail))) (new_line_closes e first_cursor (λ h. (refl, refl)))
    ∙ ap (λ t. before ++ t) (sym lays.is)
    ∙ append_assoc (closed first) (blank_text count ++ head_text e head) next.text
    ∙ ap (λ t. closed first ++ t) (append_assoc (blank_text count) (head_text e head) next.text)
    ∙ sym (append_assoc (closed first) (blank_text count) (head_text e head ++ next.text))
    ∙ ap (λ t. t ++ (head_text e head ++ next.text)) (sym (append-nil (closed first ++ blank_text count)))

-- entries, and one more after a head that begins with a comment
pub laid_headed : (q : Bool) (rules : Rules) (e count : ℕ) (cursor : Cursor) (comment : Text) (rest : List HeadLine) (first own : Rendered) (m n : ℕ)
    (a b : Content q)
    → Laid q rules e cursor false (with_blanks count first) m a → Added q rules e (headed_by e count (comment_line comment ∷ rest) first) own n a b
    → Laid q rules e cursor false own (m + n) b
laid_headed q rules e count cursor comment rest first own m n a b all next =
    let head = comment_line comment ∷ rest in
    laid_on q rules e cursor (with_blanks count first) own (head_text e head ++ next.text) m n a b all
    (headed_reads q rules e comment rest next.text n a _ next.entry.opened next.reads) next.entry.settled
    (headed_lays q rules e count head first own n a b next)

-- Any head

-- head lines are blank lines alone, or blank lines and a head that begins with a comment
pub data HeadForm (lines : List HeadLine) : Type 0 where
  blank_alone : (count : ℕ) → lines ≡ replicate count blank_line → HeadForm lines
  has_comment : (count : ℕ) (comment : Text) (rest : List HeadLine) → lines ≡ replicate count blank_line ++ comment_line comment ∷ rest → HeadForm lines

pub head_form : (lines : List HeadLine) → HeadForm lines
head_form [] = blank_alone 0 refl
head_form (comment_line comment ∷ rest) = has_comment 0 comment rest refl
head_form (blank_line ∷ rest) = by (head_form rest)
  where
    by : HeadForm rest → HeadForm (blank_line ∷ rest)
    by (blank_alone count is) = blank_alone (suc count) (ap (λ ls. blank_line ∷ ls) is)
    by (has_comment count comment more is) = has_comment (suc count) comment more (ap (λ ls. blank_line ∷ ls) is)

-- true if the first line is blank
abbrev blank_first : List HeadLine → Bool
blank_first [] = false
blank_first (blank_line ∷ rest) = true
blank_first (comment_line text ∷ rest) = false

-- if blank lines are barred, it isn't
barred_first : (lines : List HeadLine) → blank_first (allowed_lines true (single_blanks lines)) ≡ false
barred_first [] = refl
barred_first (comment_line text ∷ rest) = refl
barred_first (blank_line ∷ rest) = by (single_blanks rest) (barred_first rest)
  where
    by : (lines : List HeadLine) → blank_first (allowed_lines true lines) ≡ false → blank_first (allowed_lines true (onto_lines blank_line lines)) ≡ false
    by [] h = refl
    by (blank_line ∷ more) h = h
    by (comment_line text ∷ more) h = refl

-- so no blank line comes first
pub none_barred : (bars : Bool) (lines : List HeadLine) (count : ℕ) (rest : List HeadLine)
    → allowed_lines bars (single_blanks lines) ≡ replicate count blank_line ++ rest → bars ≡ true → count ≡ 0
none_barred bars lines zero rest is h = refl
none_barred bars lines (suc count) rest is h =
    absurd (true≢false (sym (ap blank_first is) ∙ ap (λ b. blank_first (allowed_lines b (single_blanks lines))) h ∙ barred_first lines))

-- entries may be followed by blank lines that aren't barred
pub laid_blanks : (q : Bool) (rules : Rules) (e : ℕ) (cursor : Cursor) (first : Rendered) (m : ℕ) (a : Content q) (bars barred : Bool) (count : ℕ)
    → LaidOr q rules e cursor false first m a bars → (barred ≡ false → bars ≡ false) → (barred ≡ true → count ≡ 0)
    → Laid q rules e cursor false (with_blanks count first) m a
laid_blanks q rules e cursor first m a bars barred zero all less none = laid_closed q rules e cursor first m a all.laid
laid_blanks q rules e cursor first m a bars false (suc count) all less none = all.spares refl (less refl) (suc count)
laid_blanks q rules e cursor first m a bars true (suc count) all less none = absurd (no_count (none refl))
  where
    no_count : suc count ≡ 0 → ⊥
    no_count h = cc

-- blank lines alone are rendered so
pub blanks_rendered : (e count : ℕ) (first : Rendered) → Settled first.cursor
    → render_then first (render_lines e (replicate (suc count) blank_line)) ≡ with_blanks (suc count) first
blanks_rendered e count first settled =
    let lines = replicate (suc count) blank_line in
    ap (λ t. record { text = t; cursor = first_cursor })
    (ap (λ t. first.text ++ (t ++ head_text e lines)) (line_closes first.cursor settled)
    ∙ ap (λ t. first.text ++ (closing first.cursor ++ head_text e t)) (sym (append-nil lines))
    ∙ ap (λ t. first.text ++ (closing first.cursor ++ t)) (blanks_first e (suc count) [] ∙ append-nil (blank_text (suc count)))
    ∙ sym (append_assoc first.text (closing first.cursor) (blank_text (suc count))))

-- entries, and one more after any head at their column, as it is rendered
pub laid_after_head : (q : Bool) (rules : Rules) (e : ℕ) (cursor : Cursor) (keeps : Bool) (lines : List HeadLine) (first own : Rendered) (m n : ℕ)
    (a b : Content q) (bars : Bool)
    → LaidOr q rules e cursor false first m a bars → (bars_blank keeps first.cursor ≡ false → bars ≡ false)
    → Added q rules e (render_then first (render_head e keeps lines)) own n a b → Laid q rules e cursor false own (m + n) b
laid_after_head q rules e cursor keeps lines first own m n a b bars all less next = by (head_form (allowed_lines barred (single_blanks lines)))
  where
    barred : Bool
    barred = bars_blank keeps first.cursor

    settled : Settled first.cursor
    settled = all.laid.settled refl

    add : (before : Rendered) → Laid q rules e cursor false before m a → Added q rules e before own n a b → Laid q rules e cursor false own (m + n) b
    add before laid next = laid_and q rules e cursor false before own next.text m n a b laid next.reads next.entry

    by : HeadForm (allowed_lines barred (single_blanks lines)) → Laid q rules e cursor false own (m + n) b
    by (blank_alone zero is) =
        add first all.laid
        (subst (λ before. Added q rules e before own n a b)
        (ap (λ ls. render_then first (render_lines e ls)) is ∙ ap (λ t. record { text = t; cursor = first.cursor }) (append-nil first.text)) next)
    by (blank_alone (suc count) is) =
        add (with_blanks (suc count) first)
        (laid_blanks q rules e cursor first m a bars barred (suc count) all less
        (none_barred barred lines (suc count) [] (is ∙ sym (append-nil (replicate (suc count) blank_line)))))
        (subst (λ before. Added q rules e before own n a b)
        (ap (λ ls. render_then first (render_lines e ls)) is ∙ blanks_rendered e count first settled) next)
    by (has_comment count comment rest is) =
        laid_headed q rules e count cursor comment rest first own m n a b
        (laid_blanks q rules e cursor first m a bars barred count all less (none_barred barred lines count (comment_line comment ∷ rest) is))
        (subst (λ before. Added q rules e before own n a b)
        (ap (λ ls. render_then first (render_lines e ls)) is ∙ head_rendered e count comment rest first settled) next)

-- also with blank lines after it, unless these are barred
pub laid_after_head_or : (q : Bool) (rules : Rules) (e : ℕ) (cursor : Cursor) (keeps : Bool) (lines : List HeadLine) (first own : Rendered) (m n : ℕ)
    (a b : Content q) (bars more : Bool)
    → LaidOr q rules e cursor false first m a bars → (bars_blank keeps first.cursor ≡ false → bars ≡ false)
    → Added q rules e (render_then first (render_head e keeps lines)) own n a b
    → (more ≡ false → (count : ℕ) → Added q rules e (render_then first (render_head e keeps lines)) (with_blanks count own) n a b)
    → LaidOr q rules e cursor false own (m + n) b more
laid_after_head_or q rules e cursor keeps lines first own m n a b bars more all less next spared = record {
  laid = laid_after_head q rules e cursor keeps lines first own m n a b bars all less next;
  spares = λ some allowed count.
      laid_after_head q rules e cursor keeps lines first (with_blanks count own) m n a b bars all less (spared allowed count);
}
