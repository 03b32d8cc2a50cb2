-- The work of a collection's start and end, as a step of the emitter.
use Rattle.yaml_emitter.proofs.Common.{ℕ, Option, None, Result, Err, Ok, nat_lt, length, Bool, false, not, true, ◌&&◌, List, ◌∷◌, refl, ◌≡◌, ap, subst}
use Rattle.yaml_emitter.proofs.Common.{sym, ◌∙◌, option_or, Cursor, TagDirective, Collection, start_piece, is_written_in_flow, end_piece, entry_place, Place}
use Rattle.yaml_emitter.proofs.Common.{is_key, flushes, some_if, name_or_tag_fault, most_open, Effective, Frame, Stage, at_node, next_place, stage_after}
use Rattle.yaml_emitter.proofs.Common.{is_first, step, stage_refusal, start_of_kind, end_of_kind, brackets_of, Processed, MachineState, piece_at, Page, encoded}
use Rattle.yaml_emitter.proofs.Common.{none_from_result, Wrote, OnOk}
use Rattle.std.specs.Result.{IfErr}
use Rattle.yaml_base.specs.{Event.CollectionStyle, Layout.entries_column, Layout.is_simple_collection, Steps.node_allowed}
use Rattle.yaml_base.specs.Steps.{at_stream, at_document, at_document_end, at_nothing, stage_allows}
use Rattle.yaml_emitter.specs.NodeEvents.{is_at_node, first_entry, starts_undented}
use Rattle.yaml_base.specs.{declared.errors.yaml_error_t.yaml_error_t, declared.errors.yaml_error_t.TheVariants.ExpectedNode}
use Rattle.yaml_base.specs.{declared.errors.yaml_error_t.TheVariants.Memory, declared.errors.yaml_error_t.TheVariants.TooDeep}
use Rattle.yaml_emitter.proofs.events_done.ProcessedBy.{IsInStream, processed_refused_at, processed_written_at, processed_cut_at, processed_after_writing}

-- Starts of collections

pub room_here : (room full : Bool) → full ≡ not room → full ≡ false → room ≡ true
room_here true full is answered = refl
room_here false full is answered = cc

pub full_here : (room full : Bool) → full ≡ not room → full ≡ true → room ≡ false
full_here true full is answered = cc
full_here false full is answered = refl

-- a collection's style is no fault
pub of_any_style : (canonical mapping : Bool) (start : Collection) (style : CollectionStyle) → name_or_tag_fault canonical (start_of_kind mapping start) ≡ None
    → name_or_tag_fault canonical (start_of_kind mapping (record start { style = style })) ≡ None
of_any_style canonical true start style none = none
of_any_style canonical false start style none = none

abbrev start_simple : Effective → List TagDirective → Collection → (empty : Bool) → Place → Bool
start_simple s directives start empty place = is_key place.role && (not s.canonical && is_simple_collection s.canonical directives start empty)

start_refusal : (canonical : Bool) (directives : List TagDirective) (frames : List Frame) (mapping : Bool) (start : Collection) (room : Bool)
    → name_or_tag_fault canonical (start_of_kind mapping start) ≡ None
    → nat_lt (length frames) most_open ≡ room
    → stage_refusal canonical (at_node directives frames) (start_of_kind mapping start) ≡ some_if (not room) TooDeep
start_refusal canonical directives frames true start room none is =
    ap (λ (o : Option yaml_error_t). option_or o (some_if (not (nat_lt (length frames) most_open)) TooDeep)) none
    ∙ ap (λ (b : Bool). some_if (not b) TooDeep) is
start_refusal canonical directives frames false start room none is =
    ap (λ (o : Option yaml_error_t). option_or o (some_if (not (nat_lt (length frames) most_open)) TooDeep)) none
    ∙ ap (λ (b : Bool). some_if (not b) TooDeep) is

pub start_refused : (before : MachineState) (directives : List TagDirective) (frames : List Frame) (mapping : Bool) (start : Collection) (empty : Bool)
    → before.stage ≡ at_node directives frames
    → name_or_tag_fault before.given.canonical (start_of_kind mapping start) ≡ None → nat_lt (length frames) most_open ≡ false
    → Processed (start_of_kind mapping start) empty before before (Err TooDeep)
start_refused before directives frames mapping start empty at none full =
    processed_refused_at (start_of_kind mapping start) empty before (at_node directives frames) TooDeep at tt
    (start_refusal before.given.canonical directives frames mapping start false none full)

start_wrote : (before : MachineState) (directives : List TagDirective) (frames : List Frame) (mapping : Bool) (start : Collection) (empty simple : Bool)
    (place : Place) (page : Page) (answer : Result (Unit {0}) yaml_error_t)
    → place ≡ next_place frames → simple ≡ start_simple before.settings directives start empty place
    → Wrote (piece_at (start_piece before.settings directives place simple start) before.open_ended) before.page page answer
    → Wrote (piece_at (λ standing. (step before.settings (at_node directives frames)
    (start_of_kind mapping start) empty standing).rendered) before.open_ended) before.page
    page answer
start_wrote before directives frames mapping start empty simple place page answer place_is simple_is wrote =
    by mapping
    (subst (λ (p : Place). Wrote (piece_at (start_piece before.settings directives p
    (start_simple before.settings directives start empty p) start) before.open_ended)
    before.page page answer) place_is
    (subst (λ (b : Bool). Wrote (piece_at (start_piece before.settings directives place b start) before.open_ended) before.page page answer) simple_is wrote))
  where
    by : (mapping : Bool) → Wrote (piece_at
        (start_piece before.settings directives (next_place frames) (start_simple before.settings directives start empty (next_place frames)) start)
        before.open_ended) before.page page answer
        → Wrote (piece_at (λ standing. (step before.settings (at_node directives frames)
        (start_of_kind mapping start) empty standing).rendered) before.open_ended)
        before.page page answer
    by true w = w
    by false w = w

pub start_cut : (before : MachineState) (directives : List TagDirective) (frames : List Frame) (mapping : Bool) (start : Collection) (empty simple : Bool)
    (place : Place) (page : Page) (error : yaml_error_t)
    → before.stage ≡ at_node directives frames → name_or_tag_fault before.given.canonical (start_of_kind mapping start) ≡ None
    → nat_lt (length frames) most_open ≡ true
    → place ≡ next_place frames → simple ≡ start_simple before.settings directives start empty place
    → Wrote (piece_at (start_piece before.settings directives place simple start) before.open_ended) before.page page (Err error)
    → Processed (start_of_kind mapping start) empty before (record before { page = page }) (Err error)
start_cut before directives frames mapping start empty simple place page error at none room place_is simple_is wrote =
    processed_cut_at (start_of_kind mapping start) empty before (record before { page = page }) (at_node directives frames) error at refl refl
    (start_refusal before.given.canonical directives frames mapping start true none room)
    (start_wrote before directives frames mapping start empty simple place page (Err error) place_is simple_is wrote)

-- no memory for the open collection, after the start was written
start_unkept : (before : MachineState) (directives : List TagDirective) (frames : List Frame) (mapping : Bool) (start : Collection) (empty simple : Bool)
    (place : Place) (after : Stage) (page : Page)
    → before.stage ≡ at_node directives frames → name_or_tag_fault before.given.canonical (start_of_kind mapping start) ≡ None
    → nat_lt (length frames) most_open ≡ true
    → place ≡ next_place frames → simple ≡ start_simple before.settings directives start empty place
    → Wrote (piece_at (start_piece before.settings directives place simple start) before.open_ended) before.page page (Ok tt)
    → Processed (start_of_kind mapping start) empty before (record before { stage = after; page = page }) (Err Memory)
start_unkept before directives frames mapping start empty simple place after page at none room place_is simple_is wrote =
    let well = none_from_result page.error wrote.answered in
    processed_after_writing (start_of_kind mapping start) empty before (record before { stage = after; page = page }) (at_node directives frames) at refl refl
    (start_refusal before.given.canonical directives frames mapping start true none room) well
    (start_wrote before directives frames mapping start empty simple place page (Ok tt) place_is simple_is wrote)

abbrev pub opened : Effective → (mapping in_flow simple : Bool) → Place → Cursor → Frame
opened s mapping in_flow simple place cursor =
    record {
      place = entry_place in_flow (first_entry mapping) (entries_column in_flow (starts_undented s mapping place.role) s.indent place.column cursor);
      simple = simple;
    }

start_written : (before : MachineState) (directives : List TagDirective) (frames : List Frame) (mapping : Bool) (start : Collection)
    (empty simple in_flow : Bool)
    (place : Place) (frame : Frame) (after : Stage) (page : Page)
    → before.stage ≡ at_node directives frames → name_or_tag_fault before.given.canonical (start_of_kind mapping start) ≡ None
    → nat_lt (length frames) most_open ≡ true
    → place ≡ next_place frames → simple ≡ start_simple before.settings directives start empty place
    → in_flow ≡ is_written_in_flow before.settings place start empty
    → frame ≡ opened before.settings mapping in_flow simple place page.cursor
    → after ≡ at_node directives (frame ∷ frames)
    → Wrote (piece_at (start_piece before.settings directives place simple start) before.open_ended) before.page page (Ok tt)
    → Processed (start_of_kind mapping start) empty before (record before { stage = after; page = page }) (Ok tt)
start_written before directives frames mapping start empty simple in_flow place frame after page at none room place_is simple_is in_flow_is frame_is after_is
    wrote =
    let s = before.settings in
    let whole = start_wrote before directives frames mapping start empty simple place page (Ok tt) place_is simple_is wrote in
    let framed = frame_is
    ∙ ap (λ (b : Bool). opened s mapping b simple place page.cursor) in_flow_is
    ∙ ap (λ (b : Bool). opened s mapping (is_written_in_flow s place start empty) b place page.cursor) simple_is
    ∙ ap (λ (p : Place). opened s mapping (is_written_in_flow s p start empty) (start_simple s directives start empty p) p page.cursor) place_is
    ∙ ap (λ (c : Cursor). opened s mapping (is_written_in_flow s (next_place frames) start empty) (start_simple s directives start empty (next_place frames))
    (next_place frames) c) (whole.all (none_from_result page.error whole.answered)).cursor in
    processed_written_at (start_of_kind mapping start) empty before (record before { stage = after; page = page }) (at_node directives frames) at
    (in_stream mapping) refl
    (start_refusal before.given.canonical directives frames mapping start true none room) refl
    (after_is ∙ ap (λ (f : Frame). at_node directives (f ∷ frames)) framed ∙ stage_by mapping) (open_ended_by mapping) whole (hands mapping)
  where
    in_stream : (mapping : Bool) → IsInStream (start_of_kind mapping start)
    in_stream true = tt
    in_stream false = tt

    hands : (mapping : Bool) → flushes (start_of_kind mapping start) ≡ true → page.output ≡ encoded page
    hands true is = cc
    hands false is = cc

    open_ended_by : (mapping : Bool) → before.open_ended
        ≡ (step before.settings (at_node directives frames) (start_of_kind mapping start) empty
        (record { cursor = before.page.cursor; open_ended = before.open_ended })).rendered.standing.open_ended
    open_ended_by true = refl
    open_ended_by false = refl

    stage_by : (mapping : Bool) → at_node directives
        (opened before.settings mapping (is_written_in_flow before.settings (next_place frames) start empty)
        (start_simple before.settings directives start empty (next_place frames)) (next_place frames)
        (step before.settings (at_node directives frames) (start_of_kind mapping start) empty
        (record { cursor = before.page.cursor; open_ended = before.open_ended })).rendered.standing.cursor ∷ frames)
        ≡ (step before.settings (at_node directives frames) (start_of_kind mapping start) empty
        (record { cursor = before.page.cursor; open_ended = before.open_ended })).stage
    stage_by true = refl
    stage_by false = refl

-- the machine after a start, whether or not there was memory for the open collection
pub start_left : (before : MachineState) (directives : List TagDirective) (frames : List Frame) (mapping : Bool) (start : Collection)
    (empty simple in_flow : Bool)
    (place : Place) (frame : Frame) (after : Stage) (page : Page) (result : Result (Unit {0}) yaml_error_t)
    → before.stage ≡ at_node directives frames → name_or_tag_fault before.given.canonical (start_of_kind mapping start) ≡ None
    → nat_lt (length frames) most_open ≡ true
    → place ≡ next_place frames → simple ≡ start_simple before.settings directives start empty place
    → in_flow ≡ is_written_in_flow before.settings place start empty
    → frame ≡ opened before.settings mapping in_flow simple place page.cursor
    → OnOk result (after ≡ at_node directives (frame ∷ frames)) → IfErr result (λ e. e ≡ Memory)
    → Wrote (piece_at (start_piece before.settings directives place simple start) before.open_ended) before.page page (Ok tt)
    → Processed (start_of_kind mapping start) empty before (record before { stage = after; page = page }) result
start_left before directives frames mapping start empty simple in_flow place frame after page (Ok done) at none room place_is simple_is in_flow_is frame_is
    pushed memory wrote =
    start_written before directives frames mapping start empty simple in_flow place frame after page at none room place_is simple_is in_flow_is frame_is
    pushed wrote
start_left before directives frames mapping start empty simple in_flow place frame after page (Err error) at none room place_is simple_is in_flow_is frame_is
    pushed memory wrote =
    subst (λ (e : yaml_error_t). Processed (start_of_kind mapping start) empty before (record before { stage = after; page = page }) (Err e)) (sym memory)
    (start_unkept before directives frames mapping start empty simple place after page at none room place_is simple_is wrote)

-- Ends of collections

pub may_end_here : (frames : List Frame) (frame : Frame) (outer : List Frame) (mapping may : Bool) → frames ≡ frame ∷ outer
    → may ≡ node_allowed frames (end_of_kind mapping) → may ≡ true → node_allowed (frame ∷ outer) (end_of_kind mapping) ≡ true
may_end_here frames frame outer mapping true parts is answered = sym (is ∙ ap (λ (f : List Frame). node_allowed f (end_of_kind mapping)) parts)
may_end_here frames frame outer mapping false parts is answered = cc

end_refusal : (canonical : Bool) (directives : List TagDirective) (frames : List Frame) (mapping allowed : Bool)
    → node_allowed frames (end_of_kind mapping) ≡ allowed
    → stage_refusal canonical (at_node directives frames) (end_of_kind mapping) ≡ option_or (some_if (not allowed) ExpectedNode) None
end_refusal canonical directives frames true allowed is = ap (λ (b : Bool). option_or (some_if (not b) ExpectedNode) None) is
end_refusal canonical directives frames false allowed is = ap (λ (b : Bool). option_or (some_if (not b) ExpectedNode) None) is

end_wrote_at : (before : MachineState) (directives : List TagDirective) (frame : Frame) (outer : List Frame) (mapping empty : Bool) (column : Option ℕ)
    (page : Page)
    (answer : Result (Unit {0}) yaml_error_t)
    → column ≡ (next_place outer).column
    → Wrote (piece_at (end_piece before.settings (brackets_of mapping) frame.place.in_flow
    (is_first frame.place.role) column) before.open_ended) before.page page
    answer
    → Wrote (piece_at (λ standing. (step before.settings (at_node directives (frame ∷ outer))
    (end_of_kind mapping) empty standing).rendered) before.open_ended) before.page
    page answer
end_wrote_at before directives frame outer mapping empty column page answer column_is wrote =
    by mapping (subst (λ (c : Option ℕ).
    Wrote (piece_at (end_piece before.settings (brackets_of mapping) frame.place.in_flow (is_first frame.place.role) c) before.open_ended) before.page page
    answer) column_is wrote)
  where
    by : (mapping : Bool) → Wrote (piece_at
        (end_piece before.settings (brackets_of mapping) frame.place.in_flow (is_first frame.place.role)
        (next_place outer).column) before.open_ended) before.page
        page answer
        → Wrote (piece_at (λ standing. (step before.settings (at_node directives (frame ∷ outer))
        (end_of_kind mapping) empty standing).rendered) before.open_ended)
        before.page page answer
    by true w = w
    by false w = w

-- a collection ends only within a document
pub ending_at_node : (stage : Stage) (mapping : Bool) → stage_allows stage (end_of_kind mapping) ≡ true → is_at_node stage ≡ true
ending_at_node at_stream true h = cc
ending_at_node at_stream false h = cc
ending_at_node (at_document first) true h = cc
ending_at_node (at_document first) false h = cc
ending_at_node (at_node directives frames) mapping h = refl
ending_at_node at_document_end true h = cc
ending_at_node at_document_end false h = cc
ending_at_node at_nothing true h = cc
ending_at_node at_nothing false h = cc

end_written : (before : MachineState) (directives : List TagDirective) (frame : Frame) (outer : List Frame) (mapping empty : Bool) (column : Option ℕ)
    (after : Stage) (page : Page)
    → before.stage ≡ at_node directives (frame ∷ outer) → node_allowed (frame ∷ outer) (end_of_kind mapping) ≡ true → column ≡ (next_place outer).column
    → after ≡ stage_after directives outer frame.simple
    → Wrote (piece_at (end_piece before.settings (brackets_of mapping) frame.place.in_flow
    (is_first frame.place.role) column) before.open_ended) before.page page
    (Ok tt)
    → Processed (end_of_kind mapping) empty before (record before { stage = after; page = page }) (Ok tt)
end_written before directives frame outer mapping empty column after page at allowed column_is after_is wrote =
    processed_written_at (end_of_kind mapping) empty before (record before { stage = after; page = page }) (at_node directives (frame ∷ outer)) at
    (in_stream mapping) refl
    (end_refusal before.given.canonical directives (frame ∷ outer) mapping true allowed) refl (after_is ∙ stage_by mapping) (open_ended_by mapping)
    (end_wrote_at before directives frame outer mapping empty column page (Ok tt) column_is wrote) (hands mapping)
  where
    in_stream : (mapping : Bool) → IsInStream (end_of_kind mapping)
    in_stream true = tt
    in_stream false = tt

    hands : (mapping : Bool) → flushes (end_of_kind mapping) ≡ true → page.output ≡ encoded page
    hands true is = cc
    hands false is = cc

    open_ended_by : (mapping : Bool) → before.open_ended
        ≡ (step before.settings (at_node directives (frame ∷ outer)) (end_of_kind mapping) empty
        (record { cursor = before.page.cursor; open_ended = before.open_ended })).rendered.standing.open_ended
    open_ended_by true = refl
    open_ended_by false = refl

    stage_by : (mapping : Bool) → stage_after directives outer frame.simple
        ≡ (step before.settings (at_node directives (frame ∷ outer)) (end_of_kind mapping) empty
        (record { cursor = before.page.cursor; open_ended = before.open_ended })).stage
    stage_by true = refl
    stage_by false = refl

-- the machine after a collection's end, whether or not it was written whole
pub end_done : (before : MachineState) (directives : List TagDirective) (frame : Frame) (outer : List Frame) (mapping empty : Bool) (column : Option ℕ)
    (after : Stage) (page : Page) (answer : Result (Unit {0}) yaml_error_t)
    → before.stage ≡ at_node directives (frame ∷ outer) → node_allowed (frame ∷ outer) (end_of_kind mapping) ≡ true → column ≡ (next_place outer).column
    → after ≡ stage_after directives outer frame.simple
    → Wrote (piece_at (end_piece before.settings (brackets_of mapping) frame.place.in_flow
    (is_first frame.place.role) column) before.open_ended) before.page page
    answer
    → Processed (end_of_kind mapping) empty before (record before { stage = after; page = page }) answer
end_done before directives frame outer mapping empty column after page (Ok done) at allowed column_is after_is wrote =
    end_written before directives frame outer mapping empty column after page at allowed column_is after_is wrote
end_done before directives frame outer mapping empty column after page (Err error) at allowed column_is after_is wrote =
    processed_cut_at (end_of_kind mapping) empty before (record before { stage = after; page = page }) (at_node directives (frame ∷ outer)) error at refl refl
    (end_refusal before.given.canonical directives (frame ∷ outer) mapping true allowed)
    (end_wrote_at before directives frame outer mapping empty column page (Err error) column_is wrote)
