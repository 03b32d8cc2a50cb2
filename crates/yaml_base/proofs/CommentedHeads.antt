-- A head ends its line: the piece after it begins at a line's start.
use Rattle.yaml_base.proofs.Common.{ℕ, Bool, false, true, List, [], ◌∷◌, ◌++◌, ◌≡◌, ◌==◌, ◌||◌, ◌&&◌, ◌-◌, refl, ap, sym, ◌∙◌, inl, inr, append-nil}
use Rattle.yaml_base.proofs.Common.{append_assoc, if◌then◌else◌, not, nat_lt, replicate, flat_map, Text, Event, Standing, Cursor, line_feed, space}
use Rattle.yaml_base.proofs.Common.{render_closing_marker}
use Rattle.yaml_base.specs.Indicators.{document_end, render_indicator}
use Rattle.yaml_base.specs.Comments.{HeadLine, allowed_lines, bars_blank, blank_line, comment_line, comment_written, line_end, line_text, render_lines}
use Rattle.yaml_base.specs.Comments.{single_blanks}
use Rattle.yaml_base.specs.CommentedSteps.{HeadPlace, Headed, at_column, waits, left_out, close_first, closes_first, head_at, head_place}
use Rattle.yaml_base.specs.CommentedSteps.{no_head, render_before}
use Rattle.yaml_base.specs.CommentLaws.{EndsLineIfAny, PieceFollowsHead}

-- a text that ends with a line feed
pub record HasEnd (text : Text) : Type 0 where
  pub front : Text
  pub parts : front ++ line_feed ∷ [] ≡ text

-- A text before it.
end_after : (before text : Text) → HasEnd text → HasEnd (before ++ text)
end_after before text has =
    record { front = before ++ has.front; parts = append_assoc before has.front (line_feed ∷ []) ∙ ap (λ t. before ++ t) has.parts }

line_ends : (column : ℕ) (line : HeadLine) → HasEnd (line_text column line)
line_ends column blank_line = record { front = []; parts = refl }
line_ends column (comment_line text) =
    record {
      front = replicate column space ++ comment_written text;
      parts = append_assoc (replicate column space) (comment_written text) (line_feed ∷ []);
    }

end_same : (text other : Text) → text ≡ other → HasEnd text → HasEnd other
end_same text other same has = record { front = has.front; parts = has.parts ∙ same }

lines_end : (column : ℕ) (line : HeadLine) (rest : List HeadLine) → HasEnd (flat_map (line_text column) (line ∷ rest))
lines_end column line [] = end_same (line_text column line) (line_text column line ++ []) (sym (append-nil (line_text column line))) (line_ends column line)
lines_end column line (next ∷ rest) = end_after (line_text column line) (flat_map (line_text column) (next ∷ rest)) (lines_end column next rest)

-- Two texts in a row.
heads_then : (a b : Text) (x y z : Standing) → EndsLineIfAny a x y → EndsLineIfAny b y z → EndsLineIfAny (a ++ b) x z
heads_then a b x y z (inl none) (inl nothing) = inl (ap (λ t. t ++ b) none.0 ∙ nothing.0, nothing.1 ∙ none.1)
heads_then a b x y z (inl none) (inr ends) =
    inr (record { front = ends.front; parts = ends.parts ∙ sym (ap (λ t. t ++ b) none.0); start = ends.start })
heads_then a b x y z (inr ends) (inl nothing) =
    inr (record {
      front = ends.front;
      parts = ends.parts ∙ sym (ap (λ t. a ++ t) nothing.0 ∙ append-nil a);
      start = ap (λ (standing : Standing). standing.cursor) nothing.1 ∙ ends.start;
    })
heads_then a b x y z (inr first) (inr ends) =
    let whole = end_after a b (record { front = ends.front; parts = ends.parts }) in
    inr (record { front = whole.front; parts = whole.parts; start = ends.start })

abbrev after_lines : (column : ℕ) → List HeadLine → Standing → Standing
after_lines column lines standing =
    record { cursor = (render_lines column lines standing.cursor).cursor; open_ended = standing.open_ended }

lines_written : (column : ℕ) (lines : List HeadLine) (standing : Standing)
    → EndsLineIfAny (render_lines column lines standing.cursor).text standing (after_lines column lines standing)
lines_written column [] standing = inl (refl, refl)
lines_written column (line ∷ rest) standing =
    let whole = end_after (line_end standing.cursor) (flat_map (line_text column) (line ∷ rest)) (lines_end column line rest) in
    inr (record { front = whole.front; parts = whole.parts; start = refl })

-- `...` ends its line.
marker_breaks : (indention : Bool) (b c : Bool) (kept : Text) → (if not (indention && false) || b || c then line_feed ∷ [] else kept) ≡ line_feed ∷ []
marker_breaks true b c kept = refl
marker_breaks false b c kept = refl

closing_ends : (cursor : Cursor) → HasEnd (render_closing_marker cursor).text
closing_ends cursor =
    let marker = render_indicator document_end cursor in
    let column = marker.cursor.column in
    let breaks = marker_breaks cursor.indention (nat_lt 0 column) (column == 0 && not marker.cursor.whitespace) (replicate (0 - column) space) in
    record { front = marker.text; parts = sym (ap (λ t. marker.text ++ t) breaks) }

-- `...`, if a test holds
abbrev closed_as : Bool → Standing → Headed
closed_as closes standing =
    let closing = render_closing_marker standing.cursor in
    if closes then record { text = closing.text; standing = record { cursor = closing.cursor; open_ended = 0 } } else no_head standing

closed_written : (closes : Bool) (standing : Standing) → EndsLineIfAny (closed_as closes standing).text standing (closed_as closes standing).standing
closed_written true standing =
    let ends = closing_ends standing.cursor in inr (record { front = ends.front; parts = ends.parts; start = refl })
closed_written false standing = inl (refl, refl)

head_written : (lines : List HeadLine) (place : HeadPlace) (event : Event) (standing : Standing)
    → EndsLineIfAny (render_before lines place event standing).text standing (render_before lines place event standing).standing
head_written [] place event standing = inl (refl, refl)
head_written (line ∷ rest) waits event standing = inl (refl, refl)
head_written (line ∷ rest) left_out event standing = inl (refl, refl)
head_written (line ∷ rest) (at_column column) event standing =
    let closed = close_first event standing in
    let head = head_at column (line ∷ rest) closed.standing in
    let bars = bars_blank (closed.standing.open_ended == 2) closed.standing.cursor in
    heads_then closed.text head.text standing closed.standing head.standing
    (closed_written (closes_first event standing.open_ended) standing)
    (lines_written column (allowed_lines bars (single_blanks (line ∷ rest))) closed.standing)

pub piece_follows_head : PieceFollowsHead
piece_follows_head s stage commented empty before =
    let lines = before.waiting ++ commented.comments.head in
    let place = head_place s stage commented.event empty in
    record {
      start = (render_before lines place commented.event before.standing).standing;
      head = head_written lines place commented.event before.standing;
      piece = refl;
      stage_after = refl;
    }
