-- A collection with comments in a block, inside another one, fits if its entries are laid out after their head lines.
use Rattle.yaml_base.proofs.Common.{arith, ℕ, ◌+◌, ◌≤◌, ◌<◌, Bool, false, true, Option, None, Some, List, [], ◌∷◌, ◌++◌, ◌≡◌, ◌==◌, ◌&&◌, refl, ap, sym, ◌∙◌}
use Rattle.yaml_base.proofs.Common.{eqb-true, true≢false, not, first_cursor, append_assoc, append-nil, if◌then◌else◌, line_feed, Text, Cursor, Rendered, Rules}
use Rattle.yaml_base.proofs.Common.{TagDirective, Effective, Standing}
use Rattle.yaml_base.proofs.Common.{Brackets, Collection, Place, Role, collection_tag, entries_column, entry_place, suc, is_undented, render_place}
use Rattle.yaml_base.proofs.Common.{render_then, start_piece, subst, RenderedPiece, Event}
use Rattle.yaml_base.specs.Layout.{end_piece}
use Rattle.yaml_base.proofs.CommentedLeaves.{event_headed, without_line}
use Rattle.yaml_base.proofs.stream_lines.StreamClosed.{Settled}
use Rattle.yaml_base.proofs.stream_nodes.StreamBlocks.{Compact, block_own, unsaid, is_parsed}
use Rattle.yaml_base.proofs.stream_nodes.StreamCommentedEntries.{headed_collection, headed_trailing_collection}
use Rattle.yaml_base.proofs.stream_nodes.StreamCommentedItems.{CommentedLaid, written_of, written_then}
use Rattle.yaml_base.proofs.stream_nodes.StreamCommentedLeaves.{HeadedFits}
use Rattle.yaml_base.proofs.stream_nodes.StreamFits.{WithinColumn}
use Rattle.yaml_base.proofs.stream_nodes.StreamLaid.{Content, tree_of}
use Rattle.yaml_base.proofs.stream_nodes.StreamNodesFit.{BegunReads, Stands, compact_begun, entries_within, render_begun}
use Rattle.yaml_base.specs.Comments.{Commented, HeadLine, allowed_lines, bars_blank, commented_text_of, line_end, render_head, render_lines, single_blanks}
use Rattle.yaml_base.specs.CommentedNodes.{CollectionForm, RenderedCommentedPieces, end_form, render_commented_collection, render_event, start_form}
use Rattle.yaml_base.specs.CommentedNodes.{then_commented_pieces}
use Rattle.yaml_base.specs.CommentedSteps.{CommentedStanding, HeadPlace, Headed, at_column, head_at, left_out, no_head}
use Rattle.yaml_base.specs.CommentedSteps.{node_place, render_before, still_waiting}
use Rattle.yaml_base.specs.CommentedSteps.{waits}

-- Texts

-- regrouped: a head, indicators, properties, entries and what is after them
regrouped : (h s b e x : Text) → ((h ++ ((s ++ b) ++ [])) ++ []) ++ e ++ ((x ++ []) ++ []) ≡ h ++ (s ++ ((b ++ (e ++ x)) ++ []))
regrouped h s b e x = grind (arith, append_assoc, append-nil)

-- Columns

more_than_none : (n c : ℕ) → n ≡ c + 1 → (n == 0) ≡ false
more_than_none n c h = grind (arith, eqb-true)

-- a cursor after indicators isn't at a line's start
not_at_start : (c : ℕ) (cursor : Cursor) → Stands (Some c) cursor → line_end cursor ≡ line_feed ∷ []
not_at_start c cursor stands = by cursor.indention refl
  where
    by : (x : Bool) → cursor.indention ≡ x → line_end cursor ≡ line_feed ∷ []
    by false h = ap (λ x. if x && cursor.column == 0 then [] else line_feed ∷ []) h
    by true h =
        ap (λ x. if x && cursor.column == 0 then [] else line_feed ∷ []) h
        ∙ ap (λ x. if x then [] else line_feed ∷ []) (more_than_none cursor.column c (stands.1 h))

-- nor is it after properties
begun_below : (rules : Rules) (s : Effective) (d : List TagDirective) (start : Collection) (c : ℕ) (cursor : Cursor) → Stands (Some c) cursor
    → BegunReads rules s d start cursor → line_end (render_begun s d start cursor).cursor ≡ line_feed ∷ []
begun_below rules s d start c cursor stands (unsaid no_anchor no_tag nothing) =
    ap (λ (begun : Rendered). line_end begun.cursor) nothing ∙ not_at_start c cursor stands
begun_below rules s d start c cursor stands (is_parsed is) =
    ap (λ x. if x && (render_begun s d start cursor).cursor.column == 0 then [] else line_feed ∷ []) is.ends

-- entries at another column than those around are deeper
deeper_entries : (undented : Bool) (indent c : ℕ) (cursor : Cursor) → 2 ≤ indent → (entries_column false undented indent (Some c) cursor == c) ≡ false
    → c < entries_column false undented indent (Some c) cursor
deeper_entries undented indent c cursor deep other = grind (arith)

within_deeper : (r : Bool) (d c e : ℕ) (role : Role) → WithinColumn r d role (Some c) → c < e → d < e
within_deeper r d c e role within more = omega arith

-- Heads after entries

no_lines_wait : (lines : List HeadLine) (event : Event) (standing : Standing) → render_before lines waits event standing ≡ no_head standing
no_lines_wait [] event standing = refl
no_lines_wait (line ∷ rest) event standing = refl

-- where the writer bars no blank line after head lines it bars none before them
not_barred : (keeps : Bool) (cursor : Cursor) → Settled cursor → bars_blank keeps first_cursor ≡ false → bars_blank keeps cursor ≡ false
not_barred true cursor settled h = absurd (true≢false h)
not_barred false cursor settled h = by cursor.indention refl
  where
    by : (x : Bool) → cursor.indention ≡ x → bars_blank false cursor ≡ false
    by false is = ap (λ x. x && not (cursor.column == 0)) is
    by true is = ap (λ x. x && not (cursor.column == 0)) is ∙ ap (λ (n : ℕ). not (n == 0)) (settled is).0

allowed_before : (e : ℕ) (lines : List HeadLine) (keeps : Bool) (cursor : Cursor) → Settled cursor
    → bars_blank keeps (render_lines e lines cursor).cursor ≡ false → bars_blank keeps cursor ≡ false
allowed_before e [] keeps cursor settled h = h
allowed_before e (line ∷ rest) keeps cursor settled h = not_barred keeps cursor settled h

-- Pieces

-- the place of the head lines of a collection's start, and these lines
abbrev start_place_of : Effective → Place → HeadPlace
start_place_of s place = if s.canonical then left_out else node_place place true

abbrev start_head : Effective → Place → Commented → CommentedStanding → Headed
start_head s place at_start before =
    render_before (before.waiting ++ at_start.comments.head) (start_place_of s place) at_start.event before.standing

-- the state after its start
abbrev after_start : Effective → Place → Commented → (Standing → RenderedPiece) → CommentedStanding → CommentedStanding
after_start s place at_start piece before =
    record {
      standing = (piece (start_head s place at_start before).standing).standing;
      waiting = still_waiting (before.waiting ++ at_start.comments.head) (start_place_of s place);
    }

-- the form of a collection in a block
abbrev block_form : Brackets → (undented empty : Bool) → CollectionForm
block_form brackets undented empty = record { brackets = brackets; in_flow = false; undented = undented; empty = empty }

-- the column of its entries
abbrev column_of : Effective → Place → (undented : Bool) → Commented → (Standing → RenderedPiece) → CommentedStanding → ℕ
column_of s place undented at_start piece before =
    entries_column false undented s.indent place.column (after_start s place at_start piece before).standing.cursor

-- the pieces of its end after head lines
abbrev end_after : Effective → Brackets → (empty : Bool) → Option ℕ → (waiting : List HeadLine) → Headed → RenderedCommentedPieces
end_after s brackets empty column waiting head =
    let rendered = end_piece s brackets false empty column head.standing in
    record {
      pieces = record { head = head.text; piece = rendered.piece; line = [] } ∷ [];
      standing = record { standing = rendered.standing; waiting = waiting };
    }

-- its pieces are those of its start, its entries and its end
block_pieces : (s : Effective) (place : Place) (brackets : Brackets) (undented empty : Bool) (at_start at_end : Commented)
    (piece : Standing → RenderedPiece) (entries : ℕ → CommentedStanding → RenderedCommentedPieces) (before : CommentedStanding) (head : Headed)
    → at_start.comments.line ≡ None → at_end.comments.line ≡ None
    → (let e = column_of s place undented at_start piece before in
    let all = entries e (after_start s place at_start piece before) in
    let lines = all.standing.waiting ++ at_end.comments.head in
    let ends = (end_form s place (block_form brackets undented empty) e).place in
    render_before lines ends at_end.event all.standing.standing ≡ head
    → render_commented_collection s place (block_form brackets undented empty) at_start at_end piece entries before
    ≡ then_commented_pieces
    (then_commented_pieces
    (event_headed (before.waiting ++ at_start.comments.head) (start_place_of s place) at_start.event piece before.standing) (entries e))
    (λ after. end_after s brackets empty place.column (still_waiting lines ends) head))
block_pieces s place brackets undented empty at_start at_end piece entries before head start_none end_none is =
    let form = block_form brackets undented empty in
    let e = column_of s place undented at_start piece before in
    let first = event_headed (before.waiting ++ at_start.comments.head) (start_place_of s place) at_start.event piece before.standing in
    let all = entries e (after_start s place at_start piece before) in
    let lines = all.standing.waiting ++ at_end.comments.head in
    let ends = end_form s place form e in
    let joined = λ (last : RenderedCommentedPieces). then_commented_pieces (then_commented_pieces first (entries e)) (λ after. last) in
    ap (λ first. then_commented_pieces (then_commented_pieces first (entries e)) (render_event at_end ends))
    (without_line at_start (start_form s place form piece) before start_none)
    ∙ ap joined (without_line at_end ends all.standing end_none)
    ∙ ap (λ head. joined (end_after s brackets empty place.column (still_waiting lines ends.place) head)) is

-- Collections

-- a collection in a block fits if its entries are laid out
pub block_commented : (q : Bool) (rules : Rules) (s : Effective) (d : List TagDirective) (start : Collection) (brackets : Brackets)
    (empty simple : Bool) (role : Role) (c : ℕ) (before : CommentedStanding) (at_start at_end : Commented)
    (entries : ℕ → CommentedStanding → RenderedCommentedPieces) (size : ℕ) (content : Content q)
    → 2 ≤ s.indent → s.canonical ≡ false → at_start.comments.line ≡ None → at_end.comments.line ≡ None
    → ((column : ℕ) (lines : List HeadLine) (standing : Standing)
    → render_before lines (at_column column) at_end.event standing ≡ head_at column lines standing)
    → (let place = entry_place false role c in
    let piece = start_piece s d place simple start in
    let undented = q && is_undented s role in
    let head = start_head s place at_start before in
    let symbols = render_place s place simple head.standing.cursor in
    let e = column_of s place undented at_start piece before in
    let after = after_start s place at_start piece before in
    Stands (Some c) symbols.cursor → BegunReads rules s d start symbols.cursor
    → CommentedLaid q rules e after.standing.cursor (entries e after) size content
    → HeadedFits rules (render_commented_collection s place (block_form brackets undented empty) at_start at_end piece entries before) head symbols
    (suc size) (tree_of q start.anchor (collection_tag s.canonical start) content) place)
block_commented q rules s d start brackets empty simple role c before at_start at_end entries size content deep plain start_none end_none column_lines
    stands reads laid = by (e == c) refl
  where
    place : Place
    place = entry_place false role c

    piece : Standing → RenderedPiece
    piece = start_piece s d place simple start

    undented : Bool
    undented = q && is_undented s role

    head : Headed
    head = start_head s place at_start before

    symbols : Rendered
    symbols = render_place s place simple head.standing.cursor

    begun : Rendered
    begun = render_begun s d start symbols.cursor

    e : ℕ
    e = column_of s place undented at_start piece before

    all : RenderedCommentedPieces
    all = entries e (after_start s place at_start piece before)

    lines : List HeadLine
    lines = all.standing.waiting ++ at_end.comments.head

    keeps : Bool
    keeps = all.standing.standing.open_ended == 2

    made : RenderedCommentedPieces
    made = render_commented_collection s place (block_form brackets undented empty) at_start at_end piece entries before

    first : RenderedCommentedPieces
    first = event_headed (before.waiting ++ at_start.comments.head) (start_place_of s place) at_start.event piece before.standing

    ends : HeadPlace
    ends = (end_form s place (block_form brackets undented empty) e).place

    place_is : (x : Bool) → (e == c) ≡ x → ends ≡ (if x then waits else at_column e)
    place_is x h =
        ap (λ b. if b then left_out else (if e == c then waits else at_column e)) plain ∙ ap (λ x. if x then waits else at_column e) h

    pieces_are : (last : Headed) → render_before lines ends at_end.event all.standing.standing ≡ last
        → made ≡ then_commented_pieces (then_commented_pieces first (entries e))
        (λ after. end_after s brackets empty place.column (still_waiting lines ends) last)
    pieces_are last is = block_pieces s place brackets undented empty at_start at_end piece entries before last start_none end_none is

    text_is : (last : Headed) → render_before lines ends at_end.event all.standing.standing ≡ last
        → commented_text_of made.pieces
        ≡ head.text ++ (symbols.text ++ ((begun.text ++ ((written_of all).text ++ last.text)) ++ []))
    text_is last is =
        let final = end_after s brackets empty place.column (still_waiting lines ends) last in
        ap (λ (made : RenderedCommentedPieces). commented_text_of made.pieces) (pieces_are last is)
        ∙ ap (λ (r : Rendered). r.text) (written_then (then_commented_pieces first (entries e)) (λ after. final))
        ∙ ap (λ (r : Rendered). r.text ++ commented_text_of final.pieces) (written_then first (entries e))
        ∙ regrouped head.text symbols.text begun.text (written_of all).text last.text

    standing_is : (last : Headed) → render_before lines ends at_end.event all.standing.standing ≡ last → made.standing.standing ≡ last.standing
    standing_is last is = ap (λ (made : RenderedCommentedPieces). made.standing.standing) (pieces_are last is)

    settled : Settled (written_of all).cursor
    settled = subst Settled (sym (ap (λ (r : Rendered). r.cursor) laid.laid.is)) (laid.laid.laid.laid.settled refl)

    below : line_end begun.cursor ≡ line_feed ∷ []
    below = begun_below rules s d start c symbols.cursor stands reads

    compact : begun.cursor.indention ≡ true → Compact e begun.cursor
    compact = compact_begun rules start.anchor (collection_tag s.canonical start) (Some c) undented s.indent symbols.cursor begun deep stands reads

    by : (x : Bool) → (e == c) ≡ x
        → HeadedFits rules made head symbols (suc size) (tree_of q start.anchor (collection_tag s.canonical start) content) place
    by true h =
        let last = no_head all.standing.standing in
        let is = ap (λ at. render_before lines at at_end.event all.standing.standing) (place_is true h)
        ∙ no_lines_wait lines at_end.event all.standing.standing in
        record {
          own = block_own begun (written_of all);
          bars = laid.bars;
          text = text_is last is ∙ ap (λ t. head.text ++ (symbols.text ++ ((begun.text ++ t) ++ []))) (append-nil (written_of all).text);
          ends = ap (λ (standing : Standing). standing.cursor) (standing_is last is);
          fit =
              headed_collection q rules e place symbols.cursor begun (written_of all) start.anchor (collection_tag s.canonical start) size content laid.bars
              reads laid.laid compact below (λ r d within. entries_within q s r d role (Some c) begun.cursor deep within);
          less = λ allowed.
              laid.less (ap (λ (standing : Standing). bars_blank (standing.open_ended == 2) all.standing.standing.cursor) (sym (standing_is last is))
              ∙ allowed);
        }
    by false h =
        let last = head_at e lines all.standing.standing in
        let is = ap (λ at. render_before lines at at_end.event all.standing.standing) (place_is false h) ∙ column_lines e lines all.standing.standing in
        let own = render_then (written_of all) (render_head e keeps lines) in
        let more = deeper_entries undented s.indent c begun.cursor deep h in
        record {
          own = block_own begun own;
          bars = laid.bars;
          text = text_is last is;
          ends = ap (λ (standing : Standing). standing.cursor) (standing_is last is);
          fit =
              headed_trailing_collection q rules e place symbols.cursor begun (written_of all) start.anchor (collection_tag s.canonical start) size content
              keeps lines laid.bars laid.bars reads laid.laid compact below (omega arith) (λ r d within. within_deeper r d c e role within more)
              laid.less (λ h. h);
          less = λ allowed.
              laid.less (allowed_before e (allowed_lines (bars_blank keeps (written_of all).cursor) (single_blanks lines)) keeps (written_of all).cursor settled
              (ap (λ (standing : Standing). bars_blank (standing.open_ended == 2) own.cursor) (sym (standing_is last is)) ∙ allowed));
        }
