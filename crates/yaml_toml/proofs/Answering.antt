-- The answers of a writer's calls to the walk.
use Rattle.yaml_toml.proofs.Common.{◌≡◌, ◌∷◌, ◌++◌, [], List, Bool, Option, None, Some, Result, Ok, Err, OnOk, inl, inr, refl, subst, sym, ◌∙◌, ap, ap₂}
use Rattle.yaml_toml.proofs.Common.{append-nil, append_assoc, Event, WriterState, WroteEvent, IsBare, end_event, EndsInnermost, Text, Scalar, scalar, plain}
use Rattle.yaml_toml.proofs.Common.{is_none, is_some, ◌||◌, chars, TomlNode, on_ok, gave_events_then, Moment, yaml_error_t, Memory, CollectionKind}
use Rattle.yaml_toml.proofs.Common.{toml_nesting, date_content, moment_content, toml_events, HasNumbers, Moved, datetime_text}
use Rattle.yaml_writer.proofs.{AnswerLemmas.answers_event, AnswerLemmas.answers_memory, OpenLevels.gave_end, Taken.gives_ok}
use Rattle.yaml_writer.proofs.GivenLemmas.{none_more, same_last, text_is, wrote_event}
use Rattle.yaml_writer.specs.{Times.timestamp_text, TomlDates.moment_event}
use Rattle.yaml_writer.specs.Writing.{Gives, tag_or_default, timestamp_event, timestamp_tag}
use Rattle.yaml_toml.specs.{Walk.GivesScalar, Walk.node_size, WalkSteps.WroteScalar}
use Rattle.toml_datetime.specs.declared.datetime.Datetime.{Datetime}

-- ---- moves

-- a scalar
pub moved_event : (before after : WriterState) (content : Scalar) (kinds : List CollectionKind) → WroteEvent before (scalar content) after
    → Moved before (scalar content ∷ []) kinds kinds after
moved_event before after content kinds wrote outer is = (wrote, wrote.levels ∙ is)

-- the end of one
pub moved_end : (before after : WriterState) (kind : CollectionKind) → IsBare before → EndsInnermost before (Ok tt) after
    → Moved before (end_event kind ∷ []) (kind ∷ []) [] after
moved_end before after kind bare (inl none) outer levels = absurd (none_more outer kind (sym levels ∙ none.0))
moved_end before after kind bare (inr end) outer levels =
    let same = same_last end.outer outer end.kind kind (sym end.levels ∙ levels) in
    (gave_end outer kind before after (Ok tt) levels bare end same.1 same.0, ap (λ (w : WriterState). w.levels) end.rest ∙ same.0 ∙ sym (append-nil outer))

-- within others that are open
pub moved_within : (before after : WriterState) (events : List Event) (opened these those : List CollectionKind) → Moved before events these those after
    → Moved before events (opened ++ these) (opened ++ those) after
moved_within before after events opened these those moved outer is =
    let within = moved (outer ++ opened) (is ∙ sym (append_assoc outer opened these)) in
    (within.0, within.1 ∙ append_assoc outer opened those)

pub moved_then : (before between after : WriterState) (first second : List Event) (these middle those : List CollectionKind)
    → Moved before first these middle between → Moved between second middle those after → Moved before (first ++ second) these those after
moved_then before between after first second these middle those one other outer is =
    let start = one outer is in
    let end = other outer start.1 in
    (gave_events_then before between after first second start.0 end.0, end.1)

pub on_end : (before after : WriterState) (answer : Result (Unit {0}) yaml_error_t) (kind : CollectionKind) → IsBare before
    → EndsInnermost before answer after → OnOk answer (Moved before (end_event kind ∷ []) (kind ∷ []) [] after)
on_end before after (Ok done) kind bare ends = moved_end before after kind bare ends
on_end before after (Err error) kind bare ends = tt

-- ---- timestamps

abbrev timestamp_by : Bool → Text → Option Text → Option Text → Event
timestamp_by tagged text anchor tag =
    let own = tag_or_default tag tagged timestamp_tag in
    scalar (record { anchor = anchor; tag = own; value = text; plain_implicit = is_none own; quoted_implicit = is_none own; style = plain })

pub timestamp_is : (writer : WriterState) (moment : Moment) → IsBare writer → timestamp_event writer moment ≡ scalar (moment_content writer.canonical moment)
timestamp_is writer moment bare =
    ap₂ (λ (anchor tag : Option Text). timestamp_by (writer.canonical || is_some moment.time) (timestamp_text moment) anchor tag) bare.0 bare.1

-- or the text in place of one
pub datetime_is : (writer : WriterState) (date : Datetime) (found : Option Moment) → IsBare writer
    → moment_event writer date found ≡ scalar (date_content writer.canonical date found)
datetime_is writer date (Some moment) bare = timestamp_is writer moment bare
datetime_is writer date None bare = text_is writer (chars (datetime_text date)) bare

-- two clauses of one answer
pub on_both : {A E : Type 0} (P Q : Type 0) (answer : Result A E) → OnOk answer P → OnOk answer Q → OnOk answer (P × Q)
on_both P Q (Ok value) one other = (one, other)
on_both P Q (Err error) one other = tt

-- ---- scalars

module _ {before after : WriterState} {answer : Result (Unit {0}) yaml_error_t} (content : Scalar) where
  -- a call that gives the event of a scalar
  pub gives_scalar : {event : Event} → event ≡ scalar content → Gives before event answer after → GivesScalar before content answer after
  gives_scalar {event} is gives =
      let gave = gives_ok before after event answer gives in
      record {
        written = on_ok answer (wrote_event before after event (scalar content) is) gave;
        kept = answers_event before after event (scalar content) answer is refl gives;
      }

  -- the value that it is
  pub wrote_scalar : {x : TomlNode} (y : TomlNode) → x ≡ y → ((in_flow : Bool) → scalar content ∷ [] ≡ toml_events before.canonical in_flow y)
      → 1 ≡ node_size y → 0 ≡ toml_nesting y → OnOk answer (HasNumbers y) → GivesScalar before content answer after → WroteScalar x before answer after
  wrote_scalar y seen events size nesting numbers gives =
      subst (λ (z : TomlNode). WroteScalar z before answer after) (sym seen)
      (record { content = content; events = events; size = size; nesting = nesting; numbers = numbers; gives = gives })

-- a call for which there was no memory
pub scalar_memory : (before : WriterState) (content : Scalar) → GivesScalar before content (Err Memory) before
scalar_memory before content = record { written = tt; kept = answers_memory before before (scalar content) Memory (refl, refl) }
