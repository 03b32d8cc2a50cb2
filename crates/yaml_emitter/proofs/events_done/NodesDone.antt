-- Each event's work within a document, as a step of the emitter.
use Rattle.yaml_emitter.proofs.Common.{ℕ, is_some, option_and_then, Option, None, Some, Result, Err, Ok, Bool, false, not, true, ◌&&◌, List, [], ◌∷◌, refl}
use Rattle.yaml_emitter.proofs.Common.{◌≡◌, ap, subst, sym, ◌∙◌, option_or, Text, TagDirective, Scalar, Collection, Event, alias, scalar, scalar_tag}
use Rattle.yaml_emitter.proofs.Common.{collection_tag, scalar_piece, alias_piece, Place, is_key, is_simple_alias, is_simple_scalar, some_if}
use Rattle.yaml_emitter.proofs.Common.{name_or_tag_fault, Effective, Frame, Stage, at_node, next_place, stage_after, stage_refusal, anchor_fault, alias_fault}
use Rattle.yaml_emitter.proofs.Common.{tag_fault, lacks_tag_and_flags, name_breaks, machine_state, IsMachine, start_of_kind, Processed, seen_stage}
use Rattle.yaml_emitter.proofs.Common.{MachineState, FitsPage, is_at_stream, piece_at, Page, IsReady, OnOk, Wrote}
use Rattle.yaml_base.specs.declared.errors.{yaml_error_t.yaml_error_t, yaml_error_t.TheVariants.NoTagNorImplicit}
use Rattle.yaml_emitter.proofs.{events_done.KeptInside.fits_ready, events_done.KeptInside.kept_writing, events_done.ProcessedBy.processed_refused_at}
use Rattle.yaml_emitter.proofs.{events_done.ProcessedBy.processed_written_at, events_done.ProcessedBy.processed_cut_at, pieces.WritingNames.sound_anchor}
use Rattle.yaml_emitter.specs.{NodeEvents.is_at_node, declared.machine.Machine.TheInside.Inside, declared.writing.open_ended.OpenEnded.OpenEnded}
use Rattle.yaml_emitter.specs.declared.stage.Stage.TheVariants.{Node}
use Rattle.yaml_emitter.specs.declared.stage.Stage as stage
use Rattle.yaml_emitter.specs.{BorrowedTexts.seen_scalar, SimpleAsciiScalars.StandsPlain, declared.writing.contents.ScalarContent.ScalarContent}

-- The stage within a document

is_node : (st : stage.Stage) (directives : List TagDirective) (frames : List Frame) → is_at_node (seen_stage st directives frames) ≡ true → st ≡ Node
is_node Node directives frames is = refl
is_node other directives frames is = cc

pub at_node_inside : {A : Type 0} (e : Inside A) {seen : MachineState} → machine_state e ≡ seen → is_at_node seen.stage ≡ true → e.stage ≡ Node
at_node_inside e is at = is_node e.stage e.directives e.frames (ap (λ (s : MachineState). is_at_node s.stage) is ∙ at)

pub seen_at_node : {A : Type 0} (e : Inside A) → e.stage ≡ Node → (machine_state e).stage ≡ at_node e.directives e.frames
seen_at_node e at = ap (λ (st : stage.Stage). seen_stage st e.directives e.frames) at

pub names_inside : {A : Type 0} (e : Inside A) {seen : MachineState} → machine_state e ≡ seen → (event : Event)
    → name_or_tag_fault seen.given.canonical event ≡ None
    → name_or_tag_fault (machine_state e).given.canonical event ≡ None
names_inside e is event none = ap (λ (s : MachineState). name_or_tag_fault s.given.canonical event) is ∙ none

pub pushed_at_node : {A : Type 0} (e : Inside A) (frames : List Frame) (frame : Frame) → e.stage ≡ Node → frames ≡ frame ∷ e.frames
    → seen_stage e.stage e.directives frames ≡ at_node e.directives (frame ∷ e.frames)
pushed_at_node e frames frame at pushed = ap (λ (st : stage.Stage). seen_stage st e.directives frames) at ∙ ap (at_node e.directives) pushed

-- the invariants while the stage stays
pub kept_at_node : {A : Type 0} (e : Inside A) (pen : Page) (frames : List Frame) (open_ended : OpenEnded) → IsMachine e
    → e.stage ≡ Node → IsReady pen → IsMachine (record e { pen = pen; frames = frames; open_ended = open_ended })
kept_at_node e pen frames open_ended kept at ready =
    kept_writing e pen e.stage frames open_ended kept
    (subst (λ (st : stage.Stage). FitsPage (seen_stage st e.directives frames) pen) (sym at) ready)

after_is_behind : (directives : List TagDirective) (frames : List Frame) (simple : Bool) → is_at_stream (stage_after directives frames simple) ≡ false
after_is_behind directives [] simple = refl
after_is_behind directives (frame ∷ outer) simple = refl

-- the invariants after a node
pub kept_advancing : {A : Type 0} (e : Inside A) (pen : Page) (after : stage.Stage) (frames around : List Frame) (simple : Bool) (open_ended : OpenEnded)
    → IsMachine e
    → seen_stage after e.directives frames ≡ stage_after e.directives around simple → IsReady pen
    → IsMachine (record e { pen = pen; stage = after; frames = frames; open_ended = open_ended })
kept_advancing e pen after frames around simple open_ended kept is ready =
    kept_writing e pen after frames open_ended kept
    (fits_ready (seen_stage after e.directives frames) pen (ap is_at_stream is ∙ after_is_behind e.directives around simple) ready)

-- Aliases

alias_accepted : (canonical : Bool) (directives : List TagDirective) (frames : List Frame) (name : Text) → alias_fault name ≡ None
    → stage_refusal canonical (at_node directives frames) (alias name) ≡ None
alias_accepted canonical directives frames name none = ap (λ (o : Option yaml_error_t). option_or o None) none

alias_wrote : (before : MachineState) (frames : List Frame) (name : Text) (simple : Bool) (place : Place) (page : Page)
    (answer : Result (Unit {0}) yaml_error_t)
    → place ≡ next_place frames → simple ≡ (is_key place.role && (not before.settings.canonical && is_simple_alias name))
    → Wrote (piece_at (alias_piece before.settings place simple name) before.open_ended) before.page page answer
    → Wrote (piece_at (alias_piece before.settings (next_place frames)
    (is_key (next_place frames).role && (not before.settings.canonical && is_simple_alias name)) name) before.open_ended) before.page page answer
alias_wrote before frames name simple place page answer place_is simple_is wrote =
    let at_place = subst (λ (b : Bool). Wrote
    (piece_at (alias_piece before.settings place b name) before.open_ended) before.page page answer) simple_is wrote in
    subst (λ (p : Place). Wrote (piece_at
    (alias_piece before.settings p
    (is_key p.role && (not before.settings.canonical && is_simple_alias name)) name) before.open_ended) before.page page answer)
    place_is at_place

alias_written : (before : MachineState) (directives : List TagDirective) (frames : List Frame) (name : Text) (empty simple : Bool) (place : Place)
    (after : Stage)
    (page : Page)
    → before.stage ≡ at_node directives frames → alias_fault name ≡ None
    → place ≡ next_place frames → simple ≡ (is_key place.role && (not before.settings.canonical && is_simple_alias name))
    → after ≡ stage_after directives frames simple
    → Wrote (piece_at (alias_piece before.settings place simple name) before.open_ended) before.page page (Ok tt)
    → Processed (alias name) empty before (record before { stage = after; page = page }) (Ok tt)
alias_written before directives frames name empty simple place after page at none place_is simple_is after_is wrote =
    let here = simple_is ∙ ap (λ (p : Place). is_key p.role && (not before.settings.canonical && is_simple_alias name)) place_is in
    processed_written_at (alias name) empty before (record before { stage = after; page = page }) (at_node directives frames) at tt refl
    (alias_accepted before.given.canonical directives frames name none) refl
    (after_is ∙ ap (λ (b : Bool). stage_after directives frames b) here) refl
    (alias_wrote before frames name simple place page (Ok tt) place_is simple_is wrote) (λ hands. cc)

-- the machine after an alias, whether or not it was written whole
pub alias_done : (before : MachineState) (directives : List TagDirective) (frames : List Frame) (name : Text) (empty simple : Bool) (place : Place)
    (after : Stage)
    (page : Page) (answer : Result (Unit {0}) yaml_error_t)
    → before.stage ≡ at_node directives frames → alias_fault name ≡ None
    → place ≡ next_place frames → simple ≡ (is_key place.role && (not before.settings.canonical && is_simple_alias name))
    → after ≡ stage_after directives frames simple
    → Wrote (piece_at (alias_piece before.settings place simple name) before.open_ended) before.page page answer
    → Processed (alias name) empty before (record before { stage = after; page = page }) answer
alias_done before directives frames name empty simple place after page (Ok done) at none place_is simple_is after_is wrote =
    alias_written before directives frames name empty simple place after page at none place_is simple_is after_is wrote
alias_done before directives frames name empty simple place after page (Err error) at none place_is simple_is after_is wrote =
    processed_cut_at (alias name) empty before (record before { stage = after; page = page }) (at_node directives frames) error at refl refl
    (alias_accepted before.given.canonical directives frames name none)
    (alias_wrote before frames name simple place page (Err error) place_is simple_is wrote)

-- Scalars

abbrev scalar_simple : Effective → List TagDirective → Scalar → Place → Bool
scalar_simple s directives content place = is_key place.role && (not s.canonical && is_simple_scalar s.canonical directives content)

-- the canonical setting in force is the given one
pub lacks_given : (content : Scalar) (lacks canonical given : Bool) (answer : Bool) → canonical ≡ given → lacks ≡ answer
    → lacks ≡ lacks_tag_and_flags (is_some (scalar_tag canonical content)) content.plain_implicit content.quoted_implicit
    → lacks_tag_and_flags (is_some (scalar_tag given content)) content.plain_implicit content.quoted_implicit ≡ answer
lacks_given content lacks canonical given answer same answered is =
    sym (is ∙ ap (λ (b : Bool). lacks_tag_and_flags (is_some (scalar_tag b content)) content.plain_implicit content.quoted_implicit) same) ∙ answered

scalar_refusal : (canonical : Bool) (directives : List TagDirective) (frames : List Frame) (content : Scalar) (lacks : Bool)
    → name_or_tag_fault canonical (scalar content) ≡ None
    → lacks_tag_and_flags (is_some (scalar_tag canonical content)) content.plain_implicit content.quoted_implicit ≡ lacks
    → stage_refusal canonical (at_node directives frames) (scalar content) ≡ option_or (some_if lacks NoTagNorImplicit) None
scalar_refusal canonical directives frames content lacks none is =
    ap (λ (o : Option yaml_error_t). option_or o
    (option_or (some_if (lacks_tag_and_flags (is_some (scalar_tag canonical content)) content.plain_implicit content.quoted_implicit) NoTagNorImplicit)
    None)) none
    ∙ ap (λ (b : Bool). option_or (some_if b NoTagNorImplicit) None) is

pub scalar_refused : (before : MachineState) (directives : List TagDirective) (frames : List Frame) (content : Scalar) (empty : Bool)
    → before.stage ≡ at_node directives frames
    → name_or_tag_fault before.given.canonical (scalar content) ≡ None
    → lacks_tag_and_flags (is_some (scalar_tag before.given.canonical content)) content.plain_implicit content.quoted_implicit ≡ true
    → Processed (scalar content) empty before before (Err NoTagNorImplicit)
scalar_refused before directives frames content empty at none lacks =
    processed_refused_at (scalar content) empty before (at_node directives frames) NoTagNorImplicit at tt
    (scalar_refusal before.given.canonical directives frames content true none lacks)

scalar_wrote : (before : MachineState) (directives : List TagDirective) (frames : List Frame) (content : Scalar) (simple : Bool) (place : Place) (page : Page)
    (answer : Result (Unit {0}) yaml_error_t)
    → place ≡ next_place frames → simple ≡ scalar_simple before.settings directives content place
    → Wrote (piece_at (scalar_piece before.settings directives place simple content) before.open_ended) before.page page answer
    → Wrote (piece_at (scalar_piece before.settings directives (next_place frames)
    (scalar_simple before.settings directives content (next_place frames)) content) before.open_ended) before.page page answer
scalar_wrote before directives frames content simple place page answer place_is simple_is wrote =
    let at_place = subst (λ (b : Bool). Wrote (piece_at (scalar_piece before.settings directives place b content) before.open_ended) before.page page answer)
    simple_is wrote in
    subst (λ (p : Place). Wrote (piece_at (scalar_piece before.settings directives p
    (scalar_simple before.settings directives content p) content) before.open_ended)
    before.page page answer) place_is at_place

pub scalar_cut : (before : MachineState) (directives : List TagDirective) (frames : List Frame) (content : Scalar) (empty simple : Bool) (place : Place)
    (page : Page)
    (error : yaml_error_t)
    → before.stage ≡ at_node directives frames → name_or_tag_fault before.given.canonical (scalar content) ≡ None
    → lacks_tag_and_flags (is_some (scalar_tag before.given.canonical content)) content.plain_implicit content.quoted_implicit ≡ false
    → place ≡ next_place frames → simple ≡ scalar_simple before.settings directives content place
    → Wrote (piece_at (scalar_piece before.settings directives place simple content) before.open_ended) before.page page (Err error)
    → Processed (scalar content) empty before (record before { page = page }) (Err error)
scalar_cut before directives frames content empty simple place page error at none lacks place_is simple_is wrote =
    processed_cut_at (scalar content) empty before (record before { page = page }) (at_node directives frames) error at refl refl
    (scalar_refusal before.given.canonical directives frames content false none lacks)
    (scalar_wrote before directives frames content simple place page (Err error) place_is simple_is wrote)

pub scalar_written : (before : MachineState) (directives : List TagDirective) (frames : List Frame) (content : Scalar) (empty simple : Bool) (place : Place)
    (after : Stage) (open_ended : ℕ) (page : Page)
    → before.stage ≡ at_node directives frames → name_or_tag_fault before.given.canonical (scalar content) ≡ None
    → lacks_tag_and_flags (is_some (scalar_tag before.given.canonical content)) content.plain_implicit content.quoted_implicit ≡ false
    → place ≡ next_place frames → simple ≡ scalar_simple before.settings directives content place
    → after ≡ stage_after directives frames simple
    → open_ended ≡ (scalar_piece before.settings directives place simple content
    (record { cursor = before.page.cursor; open_ended = before.open_ended })).standing.open_ended
    → Wrote (piece_at (scalar_piece before.settings directives place simple content) before.open_ended) before.page page (Ok tt)
    → Processed (scalar content) empty before (record before { stage = after; open_ended = open_ended; page = page }) (Ok tt)
scalar_written before directives frames content empty simple place after open_ended page at none lacks place_is simple_is after_is open_ended_is wrote =
    let bom_written = λ (p : Place) (b : Bool).
    (scalar_piece before.settings directives p b content (record { cursor = before.page.cursor; open_ended = before.open_ended })).standing.open_ended in
    let here = simple_is ∙ ap (scalar_simple before.settings directives content) place_is in
    processed_written_at (scalar content) empty before (record before { stage = after; open_ended = open_ended; page = page })
    (at_node directives frames) at tt refl
    (scalar_refusal before.given.canonical directives frames content false none lacks) refl
    (after_is ∙ ap (λ (b : Bool). stage_after directives frames b) here)
    (open_ended_is ∙ ap (λ (b : Bool). bom_written place b) simple_is
    ∙ ap (λ (p : Place). bom_written p (scalar_simple before.settings directives content p)) place_is)
    (scalar_wrote before directives frames content simple place page (Ok tt) place_is simple_is wrote) (λ hands. cc)

-- the machine after a scalar, whether or not it was written whole
pub scalar_done : (before : MachineState) (directives : List TagDirective) (frames : List Frame) (content : Scalar) (empty simple : Bool) (place : Place)
    (after : Stage) (open_ended : ℕ) (page : Page) (answer : Result (Unit {0}) yaml_error_t)
    → before.stage ≡ at_node directives frames → name_or_tag_fault before.given.canonical (scalar content) ≡ None
    → lacks_tag_and_flags (is_some (scalar_tag before.given.canonical content)) content.plain_implicit content.quoted_implicit ≡ false
    → place ≡ next_place frames → simple ≡ scalar_simple before.settings directives content place
    → after ≡ stage_after directives frames simple
    → OnOk answer (open_ended ≡ (scalar_piece before.settings directives place simple content
    (record { cursor = before.page.cursor; open_ended = before.open_ended })).standing.open_ended)
    → Wrote (piece_at (scalar_piece before.settings directives place simple content) before.open_ended) before.page page answer
    → Processed (scalar content) empty before (record before { stage = after; open_ended = open_ended; page = page }) answer
scalar_done before directives frames content empty simple place after open_ended page (Ok _) at none lacks place_is simple_is after_is open_ended_is wrote =
    scalar_written before directives frames content empty simple place after open_ended page at none lacks place_is simple_is after_is open_ended_is wrote
scalar_done before directives frames content empty simple place after open_ended page (Err error) at none lacks place_is simple_is after_is _ wrote =
    processed_cut_at (scalar content) empty before (record before { stage = after; open_ended = open_ended; page = page }) (at_node directives frames) error
    at refl refl
    (scalar_refusal before.given.canonical directives frames content false none lacks)
    (scalar_wrote before directives frames content simple place page (Err error) place_is simple_is wrote)

first_none : (a b : Option yaml_error_t) → option_or a b ≡ None → a ≡ None
first_none None b none = refl
first_none (Some n) b none = cc

-- an anchor of an event that isn't refused
pub scalar_anchor : (canonical : Bool) (content : Scalar) → name_or_tag_fault canonical (scalar content) ≡ None → name_breaks content.anchor ≡ false
scalar_anchor canonical content none =
    sound_anchor content.anchor (first_none (option_and_then anchor_fault content.anchor) (option_and_then tag_fault (scalar_tag canonical content)) none)

pub collection_anchor : (canonical mapping : Bool) (start : Collection) → name_or_tag_fault canonical (start_of_kind mapping start) ≡ None
    → name_breaks start.anchor ≡ false
collection_anchor canonical true start none =
    sound_anchor start.anchor (first_none (option_and_then anchor_fault start.anchor) (option_and_then tag_fault (collection_tag canonical start)) none)
collection_anchor canonical false start none =
    sound_anchor start.anchor (first_none (option_and_then anchor_fault start.anchor) (option_and_then tag_fault (collection_tag canonical start)) none)

-- a scalar that is plain as it is has no anchor, and no tag of it is written
pub plain_names : {canonical given : Bool} (content : ScalarContent) → StandsPlain canonical content → canonical ≡ given
    → name_or_tag_fault given (scalar (seen_scalar content)) ≡ None
plain_names {canonical} {given} content stands same = rw (← same, stands.readable, stands.implicit, stands.anchor) refl
