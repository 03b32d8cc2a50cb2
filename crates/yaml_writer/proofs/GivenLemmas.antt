-- The events that a writer was given, call by call.
use Rattle.yaml_writer.proofs.Common.{ℕ, is_none, IfErr, OnOk, Option, Result, Err, Ok, Bool, false, List, [], ◌++◌, ◌∷◌, refl, ◌≡◌, inr, ap, ap₂}
use Rattle.yaml_writer.proofs.Common.{subst, sym, ◌∙◌, Text, plain, Event, scalar, JsonNumber, yaml_number}
use Rattle.yaml_writer.proofs.Common.{IsNumber, WriterState, end_event, result_of_error, GaveEvent}
use Rattle.yaml_base.proofs.Common.{inl, ScalarStyle}
use Rattle.yaml_writer.specs.WasGiven.{GivenLeaving, IsBare, WasGiven, WroteEvent, start_event}
use Rattle.yaml_writer.proofs.{PartLemmas.number_found, Finishing.nothing_awaited}
use Rattle.yaml_writer.specs.NumberParts.{number_in}
use Rattle.yaml_writer.specs.Writing.{number_tag, number_event, text_style, text_event, with_collection, EndsInnermost}
use Rattle.yaml_base.specs.{declared.kinds.CollectionKind.CollectionKind}
use Rattle.yaml_writer.specs.Contents.{word_content, number_content, text_content}
use Rattle.yaml_writer.specs.Writing.{tag_or_default, word_event, awaits_node}
use Rattle.yaml_emitter.{proofs.Giving.emits_then, specs.Emits.Emits}
use Rattle.yaml_writer.proofs.Taken.{emits_by, emits_none}

-- no node is awaited
pub bare_awaits_none : (writer : WriterState) → IsBare writer → awaits_node writer ≡ false
bare_awaits_none writer bare = nothing_awaited writer bare.0 bare.1

-- The result if a call succeeds.
pub on_ok : {A E P Q : Type 0} (answer : Result A E) → (P → Q) → OnOk answer P → OnOk answer Q
on_ok (Ok value) follows held = follows held
on_ok (Err error) follows held = tt

pub always : {A E P : Type 0} (answer : Result A E) → P → OnOk answer P
always (Ok value) held = held
always (Err error) held = tt

-- The result if it fails.
pub on_err : {A E : Type 0} {P Q : E → Type 0} (answer : Result A E) → ((error : E) → P error → Q error) → IfErr answer P → IfErr answer Q
on_err (Ok value) follows held = tt
on_err (Err error) follows held = follows error held

-- Events

-- nothing was given
pub wrote_nothing : (writer : WriterState) → IsBare writer → WasGiven writer [] writer
wrote_nothing writer bare =
    record {
      emits = emits_none writer.emitter;
      canonical = refl;
      levels = refl;
      bare = bare;
    }

-- some events, and then others
pub gave_then : (before between after : WriterState) (first second : List Event) (middle opened : List CollectionKind)
    → GivenLeaving before first middle between → GivenLeaving between second opened after → GivenLeaving before (first ++ second) opened after
gave_then before between after first second middle opened one other =
    record {
      emits = emits_then one.emits other.emits;
      canonical = other.canonical ∙ one.canonical;
      levels = other.levels;
      bare = other.bare;
    }

-- the same collections are open
pub leaves_same : (before after : WriterState) (events : List Event) (opened same : List CollectionKind) → opened ≡ same
    → GivenLeaving before events opened after → GivenLeaving before events same after
leaves_same before after events opened same is = subst (λ (kinds : List CollectionKind). GivenLeaving before events kinds after) is

pub wrote_then : (before between after : WriterState) (first second : List Event) → WasGiven before first between → WasGiven between second after
    → WasGiven before (first ++ second) after
wrote_then before between after first second one other =
    gave_then before between after first second before.levels before.levels one
    (leaves_same between after second between.levels before.levels one.levels other)

-- the events are these
pub wrote_same : (before after : WriterState) (events same : List Event) → events ≡ same → WasGiven before events after → WasGiven before same after
wrote_same before after events same is = subst (λ (e : List Event). WasGiven before e after) is

-- a call that gave one event
pub wrote_event : (before after : WriterState) (event same : Event) → event ≡ same → GaveEvent before event (Ok tt) after → WroteEvent before same after
wrote_event before after event same is gave =
    record {
      emits = subst (λ (e : Event). Emits before.emitter (e ∷ []) (result_of_error after.emitter.error) after.emitter) is (emits_by gave.emits);
      canonical = gave.canonical;
      levels = gave.levels;
      bare = (gave.no_anchor, gave.no_tag);
    }

-- The events of calls if the next node has neither anchor nor tag

abbrev scalar_by : Text → ScalarStyle → Option Text → Option Text → Event
scalar_by value style anchor tag =
    scalar (record { anchor = anchor; tag = tag; value = value; plain_implicit = is_none tag; quoted_implicit = is_none tag; style = style })

pub word_is : (writer : WriterState) (own word : Text) → IsBare writer → word_event writer own word ≡ scalar (word_content writer.canonical own word)
word_is writer own word bare = ap₂ (scalar_by word plain) bare.0 (ap (λ (tag : Option Text). tag_or_default tag writer.canonical own) bare.1)

pub text_is : (writer : WriterState) (text : Text) → IsBare writer → text_event writer text ≡ scalar (text_content text)
text_is writer text bare = ap₂ (scalar_by text (text_style text)) bare.0 bare.1

-- a number, by the parts of its text
pub number_event_is : (writer : WriterState) (text : List ℕ) (parts : JsonNumber) → IsNumber text parts → IsBare writer
    → number_event writer parts ≡ scalar (number_content writer.canonical (number_in text))
number_event_is writer text parts is bare =
    word_is writer (number_tag parts) (yaml_number parts) bare
    ∙ ap (λ (found : JsonNumber). scalar (number_content writer.canonical found)) (sym (ap number_in is.text_is ∙ number_found parts is.valid))

-- Collections

-- The open collections but the innermost, and the innermost.
pub none_more : (outer : List CollectionKind) (kind : CollectionKind) → outer ++ kind ∷ [] ≡ [] → ⊥
none_more [] kind is = cc
none_more (first ∷ outer) kind is = cc

abbrev first_of : CollectionKind → List CollectionKind → CollectionKind
first_of none [] = none
first_of none (kind ∷ kinds) = kind

abbrev rest_of : List CollectionKind → List CollectionKind
rest_of [] = []
rest_of (kind ∷ kinds) = kinds

pub same_last : (outer others : List CollectionKind) (kind other : CollectionKind) → outer ++ kind ∷ [] ≡ others ++ other ∷ [] → (outer ≡ others)
    × (kind ≡ other)
same_last [] [] kind other is = (refl, ap (first_of kind) is)
same_last [] (next ∷ others) kind other is = absurd (none_more others other (sym (ap rest_of is)))
same_last (first ∷ outer) [] kind other is = absurd (none_more outer kind (ap rest_of is))
same_last (first ∷ outer) (next ∷ others) kind other is =
    let more = same_last outer others kind other (ap rest_of is) in
    (ap₂ (λ (k : CollectionKind) (ks : List CollectionKind). k ∷ ks) (ap (first_of kind) is) more.0, more.1)

-- a collection that was begun is the innermost, and its end is of its kind
pub ended : (outer : List CollectionKind) (kind : CollectionKind) (before after : WriterState) → before.levels ≡ outer ++ kind ∷ [] → IsBare before
    → EndsInnermost before (Ok tt) after → GivenLeaving before (end_event kind ∷ []) outer after
ended outer kind before after levels bare (inl none) = absurd (none_more outer kind (sym levels ∙ none.0))
ended outer kind before after levels bare (inr end) =
    let same = same_last end.outer outer end.kind kind (sym end.levels ∙ levels) in
    record {
      emits =
          subst (λ (k : CollectionKind). Emits before.emitter (end_event k ∷ []) (result_of_error after.emitter.error) after.emitter) same.1
          (emits_by end.emits);
      canonical = ap (λ (w : WriterState). w.canonical) end.rest;
      levels = ap (λ (w : WriterState). w.levels) end.rest ∙ same.0;
      bare = (ap (λ (w : WriterState). w.anchor) end.rest ∙ bare.0, ap (λ (w : WriterState). w.tag) end.rest ∙ bare.1);
    }

-- a collection was begun
pub begun : (before after : WriterState) (event : Event) (kind : CollectionKind) → GaveEvent (with_collection before kind) event (Ok tt) after
    → GivenLeaving before (event ∷ []) (before.levels ++ kind ∷ []) after
begun before after event kind gave =
    record { emits = emits_by gave.emits; canonical = gave.canonical; levels = gave.levels; bare = (gave.no_anchor, gave.no_tag) }

-- whose start is this
pub starts_with : (in_flow : Bool) (kind : CollectionKind) (before after : WriterState) (event : Event) → event ≡ start_event in_flow kind
    → GaveEvent (with_collection before kind) event (Ok tt) after → GaveEvent (with_collection before kind) (start_event in_flow kind) (Ok tt) after
starts_with in_flow kind before after event is = subst (λ (e : Event). GaveEvent (with_collection before kind) e (Ok tt) after) is
