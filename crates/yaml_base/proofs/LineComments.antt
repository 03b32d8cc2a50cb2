-- A line comment is inserted into its piece at a line's end.
use Rattle.yaml_base.proofs.Common.{ℕ, Bool, false, true, [], ◌∷◌, ◌++◌, ◌≡◌, ◌==◌, refl, ap, ◌∙◌, append-nil, append_assoc, if◌then◌else◌, Text, line_feed}
use Rattle.yaml_base.specs.NodeLayout.{body_text}
use Rattle.yaml_base.specs.Comments.{at_line_end, has_header}
use Rattle.yaml_base.specs.CommentLaws.{InsertsAtLineEnd, LineCommentsEndLines}

-- With a text before both.
inserted_after : (before text added result : Text) → InsertsAtLineEnd text added result → InsertsAtLineEnd (before ++ text) added (before ++ result)
inserted_after before text added result given =
    record {
      front = before ++ given.front;
      rest = given.rest;
      text_parts = append_assoc before given.front given.rest ∙ ap (λ t. before ++ t) given.text_parts;
      result_parts = append_assoc before given.front (added ++ given.rest) ∙ ap (λ t. before ++ t) given.result_parts;
      ends = given.ends;
    }

inserted_if : (added : Text) (c : ℕ) (rest : Text) (b : Bool) → (c == line_feed) ≡ b → InsertsAtLineEnd rest added (at_line_end added rest)
    → InsertsAtLineEnd (c ∷ rest) added (if b then added ++ c ∷ rest else c ∷ at_line_end added rest)
inserted_if added c rest true is others = record { front = []; rest = c ∷ rest; text_parts = refl; result_parts = refl; ends = is }
inserted_if added c rest false is others = inserted_after (c ∷ []) rest added (at_line_end added rest) others

inserted : (added text : Text) → InsertsAtLineEnd text added (at_line_end added text)
inserted added [] = record { front = []; rest = []; text_parts = refl; result_parts = append-nil added; ends = refl }
inserted added (c ∷ rest) = inserted_if added c rest (c == line_feed) refl (inserted added rest)

appended : (added text : Text) → InsertsAtLineEnd text added (text ++ added)
appended added text =
    record { front = text; rest = []; text_parts = append-nil text; result_parts = ap (λ t. text ++ t) (append-nil added); ends = refl }

either_inserted : (b : Bool) (text added first second : Text) → InsertsAtLineEnd text added first → InsertsAtLineEnd text added second
    → InsertsAtLineEnd text added (if b then first else second)
either_inserted true text added first second one other = one
either_inserted false text added first second one other = other

pub line_comments_end_lines : LineCommentsEndLines
line_comments_end_lines comment piece =
    let own = body_text piece.body in
    let with_comment = if has_header piece.body then at_line_end comment own else own ++ comment in
    inserted_after piece.lead own comment with_comment
    (either_inserted (has_header piece.body) own comment (at_line_end comment own) (own ++ comment) (inserted comment own) (appended comment own))
