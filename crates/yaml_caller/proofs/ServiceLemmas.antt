-- How the events of a service's configuration are given to a writer, call by call.
use Rattle.yaml_caller.proofs.Common.{Bool, false, true, List, [], ◌∷◌, ◌++◌, ℕ, Ok, Err, Result, OnOk, refl, ◌≡◌, subst, sym, ◌∙◌, ap, codes, Text, block}
use Rattle.yaml_caller.proofs.Common.{Event}
use Rattle.yaml_base.proofs.Common.{is_none, Option, mapping_start, sequence_start}
use Rattle.std.proofs.Common.{ap₂}
use Rattle.yaml_base.specs.declared.errors.yaml_error_t.{yaml_error_t}
use Rattle.yaml_base.specs.declared.kinds.CollectionKind.{CollectionKind}
use Rattle.yaml_base.specs.declared.kinds.CollectionKind.TheVariants.{Mapping, Sequence}
use Rattle.yaml_base.specs.streams.{StreamContent.agrees, StreamReader.stream_trees}
use Rattle.yaml_base.specs.values.TypedValues.{int_tag}
use Rattle.std.specs.Fmt.{signed_decimal}
use Rattle.yaml_writer.specs.Given.{given_for_values}
use Rattle.yaml_writer.specs.WasGiven.{IsBare, WasGiven, start_event}
use Rattle.yaml_writer.specs.Writing.{WriterState, EndsInnermost, Finishes, GaveEvent, Gives, IsNewWriter, IsStream, awaits_node, closing, end_event, int_event}
use Rattle.yaml_writer.specs.Writing.{mapping_event, opening, sequence_event, text_event, with_collection}
use Rattle.yaml_writer.proofs.GivenAndTaken.{stream_finished}
use Rattle.yaml_writer.proofs.GivenLemmas.{bare_awaits_none, begun, ended, gave_then, text_is, word_is, wrote_event, wrote_same, wrote_then}
use Rattle.yaml_caller.specs.Service.{label_entries, labels_entry, list_entry, number_entry, service_entries, service_events, service_stream, text_entry}
use Rattle.yaml_caller.specs.Service.{text_items}
use Rattle.yaml_caller.specs.Service.{text_scalar}
use Rattle.yaml_caller.specs.declared.service.Service.{Service}
use Rattle.yaml_base.specs.Event.{scalar}
use Rattle.yaml_writer.specs.Contents.{word_content}
use Rattle.std.specs.Prelude.{◌+◌, ◌<◌, IfOk, String, Vec, chars, length, pos, string_bytes, take}
use Rattle.std.proofs.Common.{get_or}
use Rattle.std.proofs.lemmas.Grind.{flat_map-append}
use Rattle.std.proofs.lemmas.List.{map-append, take_more}
use Rattle.yaml_base.proofs.Literals.{chars-literal}
use Rattle.yaml_base.specs.Seen.{seen_text}

-- ---- scalars

pub text_given : (before after : WriterState) (text : Text) → IsBare before → GaveEvent before (text_event before text) (Ok tt) after
    → WasGiven before (text_scalar text ∷ []) after
text_given before after text bare = wrote_event before after (text_event before text) (text_scalar text) (text_is before text bare)

-- two texts
pub texts_answered : (before between after : WriterState) (key value : Text) (answer : Result (Unit {0}) yaml_error_t) → IsBare before
    → GaveEvent before (text_event before key) (Ok tt) between → Gives between (text_event between value) answer after
    → OnOk answer (WasGiven before (text_scalar key ∷ text_scalar value ∷ []) after)
texts_answered before between after key value (Ok done) bare one other =
    let first = text_given before between key bare one in
    wrote_then before between after (text_scalar key ∷ []) (text_scalar value ∷ []) first (text_given between after value first.bare other)
texts_answered before between after key value (Err error) bare one other = tt

-- a text and a number
pub number_answered : (before between after : WriterState) (key : Text) (value : ℕ) (answer : Result (Unit {0}) yaml_error_t) → IsBare before
    → GaveEvent before (text_event before key) (Ok tt) between → Gives between (int_event between (pos value)) answer after
    → OnOk answer (WasGiven before (text_scalar key ∷ scalar (word_content before.canonical int_tag (signed_decimal (pos value))) ∷ []) after)
number_answered before between after key value (Ok done) bare one other =
    let first = text_given before between key bare one in
    let number = word_content before.canonical int_tag (signed_decimal (pos value)) in
    wrote_then before between after (text_scalar key ∷ []) (scalar number ∷ []) first
    (wrote_event between after (int_event between (pos value)) (scalar number)
    (word_is between int_tag (signed_decimal (pos value)) first.bare
    ∙ ap (λ (canonical : Bool). scalar (word_content canonical int_tag (signed_decimal (pos value)))) first.canonical) other)
number_answered before between after key value (Err error) bare one other = tt

-- ---- collections

mapping_begins : (writer : WriterState) → IsBare writer → mapping_event writer block ≡ start_event false Mapping
mapping_begins writer bare =
    ap₂ (λ (anchor tag : Option Text). mapping_start (record { anchor = anchor; tag = tag; implicit = is_none tag; style = block })) bare.0 bare.1

sequence_begins : (writer : WriterState) → IsBare writer → sequence_event writer block ≡ start_event false Sequence
sequence_begins writer bare =
    ap₂ (λ (anchor tag : Option Text). sequence_start (record { anchor = anchor; tag = tag; implicit = is_none tag; style = block })) bare.0 bare.1

-- a collection's start, what is given within it, and its end
enclosed : (before opened filled after : WriterState) (kind : CollectionKind) (event : Event) (inner : List Event) (answer : Result (Unit {0}) yaml_error_t)
    → event ≡ start_event false kind → GaveEvent (with_collection before kind) event (Ok tt) opened → WasGiven opened inner filled
    → (awaits_node filled ≡ false → EndsInnermost filled answer after)
    → OnOk answer (WasGiven before (start_event false kind ∷ (inner ++ end_event kind ∷ [])) after)
enclosed before opened filled after kind event inner (Ok done) is gave within ends =
    let start = begun before opened (start_event false kind) kind
    (subst (λ (e : Event). GaveEvent (with_collection before kind) e (Ok tt) opened) is gave) in
    let end = ended before.levels kind filled after (within.levels ∙ start.levels) within.bare (ends (bare_awaits_none filled within.bare)) in
    gave_then before opened after (start_event false kind ∷ []) (inner ++ end_event kind ∷ []) (before.levels ++ kind ∷ []) before.levels start
    (gave_then opened filled after inner (end_event kind ∷ []) opened.levels before.levels within end)
enclosed before opened filled after kind event inner (Err error) is gave within ends = tt

pub mapping_enclosed : (before opened filled after : WriterState) (inner : List Event) (answer : Result (Unit {0}) yaml_error_t) → IsBare before
    → GaveEvent (with_collection before Mapping) (mapping_event before block) (Ok tt) opened → WasGiven opened inner filled
    → (awaits_node filled ≡ false → EndsInnermost filled answer after)
    → OnOk answer (WasGiven before (start_event false Mapping ∷ (inner ++ end_event Mapping ∷ [])) after)
mapping_enclosed before opened filled after inner answer bare =
    enclosed before opened filled after Mapping (mapping_event before block) inner answer (mapping_begins before bare)

pub sequence_enclosed : (before opened filled after : WriterState) (inner : List Event) (answer : Result (Unit {0}) yaml_error_t) → IsBare before
    → GaveEvent (with_collection before Sequence) (sequence_event before block) (Ok tt) opened → WasGiven opened inner filled
    → (awaits_node filled ≡ false → EndsInnermost filled answer after)
    → OnOk answer (WasGiven before (start_event false Sequence ∷ (inner ++ end_event Sequence ∷ [])) after)
sequence_enclosed before opened filled after inner answer bare =
    enclosed before opened filled after Sequence (sequence_event before block) inner answer (sequence_begins before bare)

-- a key before what an answer tells of its value
pub keyed : (before between after : WriterState) (key : Text) (value : List Event) (answer : Result (Unit {0}) yaml_error_t)
    → WasGiven before (text_scalar key ∷ []) between → OnOk answer (WasGiven between value after)
    → OnOk answer (WasGiven before (text_scalar key ∷ value) after)
keyed before between after key value (Ok done) first second = wrote_then before between after (text_scalar key ∷ []) value first second
keyed before between after key value (Err error) first second = tt

-- ---- lists

-- one more text
pub item_more : {A : Type 0} (texts : List (String A)) (i : ℕ) (text : String A) (shown : List ℕ) → i < length texts → text ≡ get_or texts i text
    → shown ≡ string_bytes text → text_items (take i texts) ++ text_scalar (chars shown) ∷ [] ≡ text_items (take (i + 1) texts)
item_more {A} texts i text shown inside is seen =
    ap (λ (bytes : List ℕ). text_items (take i texts) ++ text_scalar (chars bytes) ∷ []) seen
    ∙ ap (λ (t : String A). text_items (take i texts) ++ text_scalar (seen_text t) ∷ []) is
    ∙ sym (map-append (λ (t : String A). text_scalar (seen_text t)) (take i texts) (get_or texts i text ∷ []))
    ∙ ap (text_items {A = A}) (sym (take_more texts i text inside))

-- one more label
pub label_more : {A : Type 0} (labels : List (String A × String A)) (i : ℕ) (label : String A × String A) (key value : List ℕ) → i < length labels
    → label ≡ get_or labels i label → key ≡ string_bytes label.0 → value ≡ string_bytes label.1
    → label_entries (take i labels) ++ text_entry (chars key) (chars value) ≡ label_entries (take (i + 1) labels)
label_more {A} labels i label key value inside is key_is value_is =
    ap₂ (λ (k v : List ℕ). label_entries (take i labels) ++ text_entry (chars k) (chars v)) key_is value_is
    ∙ ap (λ (l : String A × String A). label_entries (take i labels) ++ text_entry (seen_text l.0) (seen_text l.1)) is
    ∙ sym (flat_map-append (λ (l : String A × String A). text_entry (seen_text l.0) (seen_text l.1)) (take i labels) (get_or labels i label ∷ []))
    ∙ ap (label_entries {A = A}) (sym (take_more labels i label inside))

-- ---- the fields

pub fields_given : {A : Type 0} (service : Service A) (before a b c d after : WriterState) (name : List ℕ) (port replicas : ℕ) (hosts : List (String A))
    (labels : List (String A × String A))
    → name ≡ string_bytes service.name → port ≡ service.port → replicas ≡ service.replicas → hosts ≡ service.hosts.items → labels ≡ service.labels.items
    → WasGiven before (text_entry (chars (codes "name")) (chars name)) a
    → WasGiven a (number_entry a.canonical (chars (codes "port")) port) b
    → WasGiven b (number_entry b.canonical (chars (codes "replicas")) replicas) c
    → WasGiven c (list_entry (chars (codes "hosts")) hosts) d
    → WasGiven d (labels_entry (chars (codes "labels")) labels) after
    → WasGiven before (service_entries before.canonical service) after
fields_given {A} service before a b c d after name port replicas hosts labels name_is port_is replicas_is hosts_is labels_is one two three four five =
    let first = wrote_same before a (text_entry (chars (codes "name")) (chars name)) (text_entry (codes "name") (seen_text service.name))
    (ap₂ (λ (key bytes : List ℕ). text_entry key (chars bytes)) (chars-literal (codes "name") refl) name_is) one in
    let second = wrote_same a b (number_entry a.canonical (chars (codes "port")) port) (number_entry before.canonical (codes "port") service.port)
    (ap₂ (λ (canonical : Bool) (key : List ℕ). number_entry canonical key port) one.canonical (chars-literal (codes "port") refl)
    ∙ ap (number_entry before.canonical (codes "port")) port_is) two in
    let third = wrote_same b c (number_entry b.canonical (chars (codes "replicas")) replicas)
    (number_entry before.canonical (codes "replicas") service.replicas)
    (ap₂ (λ (canonical : Bool) (key : List ℕ). number_entry canonical key replicas) (two.canonical ∙ one.canonical)
    (chars-literal (codes "replicas") refl) ∙ ap (number_entry before.canonical (codes "replicas")) replicas_is) three in
    let fourth = wrote_same c d (list_entry (chars (codes "hosts")) hosts) (list_entry (codes "hosts") service.hosts.items)
    (ap₂ (λ (key : List ℕ) (texts : List (String A)). list_entry key texts) (chars-literal (codes "hosts") refl) hosts_is) four in
    let fifth = wrote_same d after (labels_entry (chars (codes "labels")) labels) (labels_entry (codes "labels") service.labels.items)
    (ap₂ (λ (key : List ℕ) (pairs : List (String A × String A)). labels_entry key pairs) (chars-literal (codes "labels") refl) labels_is) five in
    wrote_then before a after _ _ first (wrote_then a b after _ _ second (wrote_then b c after _ _ third (wrote_then c d after _ _ fourth fifth)))

-- ---- the whole stream

service_finished : (start written : WriterState) (events : List Event) (bytes : List ℕ) → IsNewWriter given_for_values start
    → WasGiven start events written → Finishes written.emitter bytes → IsStream given_for_values (opening ++ (events ++ closing)) bytes
service_finished start written events bytes new gave finishes =
    stream_finished written.emitter bytes (gave.emits.set.given ∙ new.settings)
    (gave.emits.set.events ∙ ap (λ (first : List Event). first ++ events) new.events) (gave.emits.taken ∙ new.untaken) finishes

pub stream_read : (events : List Event) (bytes : List ℕ) → IsStream given_for_values events bytes → agrees false events (stream_trees false bytes) ≡ true
stream_read events bytes stream =
    subst (λ (b : List ℕ). agrees false events (stream_trees false b) ≡ true) (sym stream.output) (stream.written.reads_with_either_breaks refl false)

-- by the answer of the call that finishes it
pub stream_answered : {A : Type 0} (service : Service A) (answer : Result (Vec ℕ A) yaml_error_t) (start written : WriterState)
    → IsNewWriter given_for_values start → WasGiven start (service_events start.canonical service) written
    → IfOk answer (λ bytes. Finishes written.emitter bytes.items)
    → IfOk answer (λ bytes. IsStream given_for_values (service_stream service) bytes.items)
stream_answered service (Ok bytes) start written new gave finishes =
    service_finished start written (service_events false service) bytes.items new
    (subst (λ (canonical : Bool). WasGiven start (service_events canonical service) written) new.canonical gave) finishes
stream_answered service (Err error) start written new gave finishes = tt

pub read_answered : {A : Type 0} (service : Service A) (answer : Result (Vec ℕ A) yaml_error_t)
    → IfOk answer (λ bytes. IsStream given_for_values (service_stream service) bytes.items)
    → IfOk answer (λ bytes. agrees false (service_stream service) (stream_trees false bytes.items) ≡ true)
read_answered service (Ok bytes) stream = stream_read (service_stream service) bytes.items stream
read_answered service (Err error) stream = tt
