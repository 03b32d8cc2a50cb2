-- A document's start, as a step of the emitter.
use Rattle.yaml_emitter.proofs.Common.{if◌then◌else◌, ◌==◌, option_and_then, Option, None, Some, Err, Ok, nat_lt, Bool, false, not, true, ◌&&◌, ◌||◌, List, []}
use Rattle.yaml_emitter.proofs.Common.{◌++◌, ◌∷◌, refl, ◌≡◌, ap, sym, ◌∙◌, list_all, option_or, Text, is_alpha, Version, TagDirective, DocumentStart, Event}
use Rattle.yaml_emitter.proofs.Common.{document_start, alias, scalar, sequence_start, mapping_start, scalar_tag, collection_tag, document_start_piece, some_if}
use Rattle.yaml_emitter.proofs.Common.{properties_fault, name_or_tag_fault, content_fault, most_open, begins_collection, Frame, Stage, at_document, at_node}
use Rattle.yaml_emitter.proofs.Common.{stage_refusal, name_fault, anchor_fault, tag_fault, version_fault, exclamation_mark, last_from, without_last, Processed}
use Rattle.yaml_emitter.proofs.Common.{handle_fault, prefix_fault, directive_fault, gives_handle, next_directive_fault, directives_fault_after, MachineState}
use Rattle.yaml_emitter.proofs.Common.{directives_fault, directives_in_force, piece_at, Page, Wrote}
use Rattle.std.proofs.Common.{◌≢◌}
use Rattle.yaml_base.specs.{Steps.stage_allows, Steps.stage_expected, Steps.frame_count, Tags.equals_integer, declared.errors.yaml_error_t.yaml_error_t}
use Rattle.yaml_base.specs.declared.errors.yaml_error_t.TheVariants.{AliasAlphabet, AliasEmpty, AnchorAlphabet, AnchorEmpty, DuplicateDirective, Memory}
use Rattle.yaml_base.specs.declared.errors.yaml_error_t.TheVariants.{IncompatibleVersion, TagHandleAlphabet, TagHandleEnd, TagHandleStart, TooDeep, WriteError}
use Rattle.yaml_emitter.proofs.events_done.ProcessedBy.{processed_unwritten, processed_refused_at, processed_written_at, processed_cut_at}

-- a fault other than that of the output's limit
abbrev is_other_fault : Option yaml_error_t → Bool
is_other_fault (Some WriteError) = false
is_other_fault fault = true

either_other : (a b : Option yaml_error_t) → is_other_fault a ≡ true → is_other_fault b ≡ true → is_other_fault (option_or a b) ≡ true
either_other None b first second = second
either_other (Some error) b first second = first

if_other_fault : (test : Bool) (a b : Option yaml_error_t) → is_other_fault a ≡ true → is_other_fault b ≡ true → is_other_fault (if test then a else b) ≡ true
if_other_fault true a b first second = first
if_other_fault false a b first second = second

version_other : (version : Option Version) → is_other_fault (option_and_then version_fault version) ≡ true
version_other None = refl
version_other (Some version) =
    if_other_fault (equals_integer 1 version.major && (equals_integer 1 version.minor || equals_integer 2 version.minor)) None
    (Some IncompatibleVersion) refl refl

handle_other : (handle : Text) → is_other_fault (handle_fault handle) ≡ true
handle_other [] = refl
handle_other (c ∷ rest) =
    let alphabet : Option yaml_error_t = if list_all is_alpha (without_last rest) then None else Some TagHandleAlphabet in
    let ending : Option yaml_error_t = if not (last_from c rest == exclamation_mark) then Some TagHandleEnd else alphabet in
    if_other_fault (not (c == exclamation_mark)) (Some TagHandleStart) ending refl
    (if_other_fault (not (last_from c rest == exclamation_mark)) (Some TagHandleEnd) alphabet refl
    (if_other_fault (list_all is_alpha (without_last rest)) None (Some TagHandleAlphabet) refl refl))

prefix_other : (prefix : Text) → is_other_fault (prefix_fault prefix) ≡ true
prefix_other [] = refl
prefix_other (c ∷ rest) = refl

directives_other : (before own : List TagDirective) → is_other_fault (directives_fault_after before own) ≡ true
directives_other before [] = refl
directives_other before (directive ∷ rest) =
    either_other (next_directive_fault before directive) (directives_fault_after (before ++ directive ∷ []) rest)
    (either_other (directive_fault directive) (if gives_handle directive.handle before then Some DuplicateDirective else None)
    (either_other (handle_fault directive.handle) (prefix_fault directive.prefix) (handle_other directive.handle) (prefix_other directive.prefix))
    (if_other_fault (gives_handle directive.handle before) (Some DuplicateDirective) None refl refl))
    (directives_other (before ++ directive ∷ []) rest)

pub content_other : (start : DocumentStart)
    → is_other_fault (option_or (option_and_then version_fault start.version) (directives_fault start.directives)) ≡ true
content_other start =
    either_other (option_and_then version_fault start.version) (directives_fault start.directives) (version_other start.version)
    (directives_other [] start.directives)

or_none : (fault : Option yaml_error_t) → option_or fault None ≡ fault
or_none None = refl
or_none (Some n) = refl

start_refusal : (canonical first : Bool) (start : DocumentStart)
    → stage_refusal canonical (at_document first) (document_start start)
    ≡ option_or (option_and_then version_fault start.version) (directives_fault start.directives)
start_refusal canonical first start = or_none (option_or (option_and_then version_fault start.version) (directives_fault start.directives))

-- an error that is a fault, or want of memory: nothing is written
pub processed_fault : (event : Event) (empty : Bool) (state : MachineState) (stage : Stage) (error : yaml_error_t) (fault : Option yaml_error_t)
    → state.stage ≡ stage
    → stage_refusal state.given.canonical stage event ≡ fault → is_other_fault fault ≡ true
    → (Some error ≢ Some Memory → Some error ≡ fault)
    → Processed event empty state state (Err error)
processed_fault event empty state stage Memory fault at refusal other is = processed_unwritten event empty state state refl refl refl
processed_fault event empty state stage WriteError fault at refusal other is = absurd (no_write (ap is_other_fault (is no_memory) ∙ other))
  where
    no_memory : Some WriteError ≡ Some Memory → ⊥
    no_memory h = cc

    no_write : false ≡ true → ⊥
    no_write h = cc
processed_fault event empty state stage error fault at refusal other is =
    processed_refused_at event empty state stage error at tt
    (refusal ∙ sym (is (λ h. cc)))

pub document_refused : (empty : Bool) (before : MachineState) (first : Bool) (start : DocumentStart) (error : yaml_error_t) → before.stage ≡ at_document first
    → (Some error ≢ Some Memory
    → Some error ≡ option_or (option_and_then version_fault start.version) (directives_fault start.directives))
    → Processed (document_start start) empty before before (Err error)
document_refused empty before first start error at is =
    processed_fault (document_start start) empty before (at_document first) error
    (option_or (option_and_then version_fault start.version) (directives_fault start.directives)) at
    (start_refusal before.given.canonical first start) (content_other start) is

pub document_start_cut : (empty : Bool) (before : MachineState) (first : Bool) (start : DocumentStart) (page : Page) (error : yaml_error_t)
    → before.stage ≡ at_document first
    → option_or (option_and_then version_fault start.version) (directives_fault start.directives) ≡ None
    → Wrote (piece_at (document_start_piece before.settings first start) before.open_ended) before.page page (Err error)
    → Processed (document_start start) empty before (record before { page = page }) (Err error)
document_start_cut empty before first start page error at sound wrote =
    processed_cut_at (document_start start) empty before (record before { page = page }) (at_document first) error at refl refl
    (start_refusal before.given.canonical first start ∙ sound) wrote

pub document_begun : (empty : Bool) (before : MachineState) (first : Bool) (start : DocumentStart) (page : Page) (directives : List TagDirective)
    (frames : List Frame)
    → before.stage ≡ at_document first
    → option_or (option_and_then version_fault start.version) (directives_fault start.directives) ≡ None
    → Wrote (piece_at (document_start_piece before.settings first start) before.open_ended) before.page page (Ok tt)
    → directives ≡ directives_in_force start.directives → frames ≡ []
    → Processed (document_start start) empty before (record before { stage = at_node directives frames; open_ended = 0; page = page }) (Ok tt)
document_begun empty before first start page directives frames at sound wrote in_force none_open =
    let stage : at_node directives frames ≡ at_node (directives_in_force start.directives) [] = cc in
    processed_written_at (document_start start) empty before (record before { stage = at_node directives frames; open_ended = 0; page = page })
    (at_document first)
    at tt refl (start_refusal before.given.canonical first start ∙ sound) refl stage refl wrote (λ hands. cc)

pub none_behind : (a b : Option yaml_error_t) → option_or a b ≡ None → b ≡ None
none_behind None b is = is
none_behind (Some n) b is = cc

name_other : (if_empty if_other : yaml_error_t) (name : Text) → is_other_fault (Some if_empty) ≡ true → is_other_fault (Some if_other) ≡ true
    → is_other_fault (name_fault if_empty if_other name) ≡ true
name_other if_empty if_other [] first second = first
name_other if_empty if_other (c ∷ rest) first second = if_other_fault (list_all is_alpha (c ∷ rest)) None (Some if_other) refl second

properties_other : (anchor tag : Option Text) → is_other_fault (properties_fault anchor tag) ≡ true
properties_other anchor tag = either_other (option_and_then anchor_fault anchor) (option_and_then tag_fault tag) (of_anchor anchor) (of_tag tag)
  where
    of_anchor : (anchor : Option Text) → is_other_fault (option_and_then anchor_fault anchor) ≡ true
    of_anchor None = refl
    of_anchor (Some name) = name_other AnchorEmpty AnchorAlphabet name refl refl

    of_tag : (tag : Option Text) → is_other_fault (option_and_then tag_fault tag) ≡ true
    of_tag None = refl
    of_tag (Some []) = refl
    of_tag (Some (c ∷ rest)) = refl

names_other : (canonical : Bool) (event : Event) → is_other_fault (name_or_tag_fault canonical event) ≡ true
names_other canonical (alias name) = name_other AliasEmpty AliasAlphabet name refl refl
names_other canonical (scalar content) = properties_other content.anchor (scalar_tag canonical content)
names_other canonical (sequence_start start) = properties_other start.anchor (collection_tag canonical start)
names_other canonical (mapping_start start) = properties_other start.anchor (collection_tag canonical start)
names_other canonical event = refl

-- the checks that follow those of names and tags
abbrev later : Bool → Stage → Event → Option yaml_error_t
later canonical stage event =
    option_or (some_if (not (stage_allows stage event)) (stage_expected stage))
    (option_or (content_fault canonical event) (some_if (begins_collection event && not (nat_lt (frame_count stage) most_open)) TooDeep))

-- a faulty name or tag is refused before anything else
pub names_refused : (event : Event) (empty : Bool) (state : MachineState) (error : yaml_error_t)
    → Some error ≡ name_or_tag_fault state.given.canonical event → Processed event empty state state (Err error)
names_refused event empty state error fault =
    let canonical = state.given.canonical in
    processed_fault event empty state state.stage error (name_or_tag_fault canonical event) refl
    (ap (λ o. option_or o (later canonical state.stage event)) (sym fault) ∙ fault) (names_other canonical event) (λ _. fault)
