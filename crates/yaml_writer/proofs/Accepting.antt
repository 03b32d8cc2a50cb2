-- The events of a stream of one value are an accepted list: lemmas for the crates that write values.
use Rattle.yaml_writer.proofs.Common.{ℕ, ◌≤◌, if◌then◌else◌, Bool, false, true, List, ◌++◌, ◌∷◌, refl, ◌≡◌, arith, and_from, Text, Event, scalar}
use Rattle.yaml_writer.proofs.Common.{sequence_start, mapping_start, int_tag, float_tag}
use Rattle.yaml_base.proofs.Common.{is_sound}
use Rattle.yaml_base.specs.values.TypedValues.{bool_tag}
use Rattle.yaml_emitter.proofs.AcceptedLists.{sound, both_sound, Stays}
use Rattle.yaml_writer.specs.Contents.{collection_in, null_content, text_content, word_content}
use Rattle.yaml_writer.specs.Writing.{closing, opening}

-- ---- each event is in order

pub null_sound : (canonical : Bool) → is_sound canonical (scalar (null_content canonical)) ≡ true
null_sound true = refl
null_sound false = refl

pub int_sound : (canonical : Bool) (word : Text) → is_sound canonical (scalar (word_content canonical int_tag word)) ≡ true
int_sound true word = refl
int_sound false word = refl

pub float_sound : (canonical : Bool) (word : Text) → is_sound canonical (scalar (word_content canonical float_tag word)) ≡ true
float_sound true word = refl
float_sound false word = refl

pub bool_sound : (canonical : Bool) (word : Text) → is_sound canonical (scalar (word_content canonical bool_tag word)) ≡ true
bool_sound true word = refl
bool_sound false word = refl

pub number_sound : (canonical integer : Bool) (word : Text)
    → is_sound canonical (scalar (word_content canonical (if integer then int_tag else float_tag) word)) ≡ true
number_sound canonical true word = int_sound canonical word
number_sound canonical false word = float_sound canonical word

pub text_sound : (canonical : Bool) (text : Text) → is_sound canonical (scalar (text_content text)) ≡ true
text_sound true text = refl
text_sound false text = refl

pub sequence_sound : (canonical in_flow : Bool) → is_sound canonical (sequence_start (collection_in in_flow)) ≡ true
sequence_sound true in_flow = refl
sequence_sound false in_flow = refl

pub mapping_sound : (canonical in_flow : Bool) → is_sound canonical (mapping_start (collection_in in_flow)) ≡ true
mapping_sound true in_flow = refl
mapping_sound false in_flow = refl

pub first_sound : (canonical : Bool) (event : Event) (events : List Event) → is_sound canonical event ≡ true → sound canonical events ≡ true
    → sound canonical (event ∷ events) ≡ true
first_sound canonical event events one others = and_from (is_sound canonical event) (sound canonical events) one others

-- and so in the stream of a value
pub stream_of_sound : (canonical : Bool) (events : List Event) → sound canonical events ≡ true → sound canonical (opening ++ events ++ closing) ≡ true
stream_of_sound canonical events value = both_sound canonical opening (events ++ closing) refl (both_sound canonical events closing value refl)

-- ---- how many collections are open

-- The events that begin or end a stream open no collection.
pub closing_stays : (most : ℕ) → Stays most 0 closing
closing_stays most = let few : 0 ≤ most = omega arith in (few, (few, few))

pub opening_stays : (most : ℕ) (events : List Event) → Stays most 0 events → Stays most 0 (opening ++ events)
opening_stays most events value = let few : 0 ≤ most = omega arith in (few, (few, value))
