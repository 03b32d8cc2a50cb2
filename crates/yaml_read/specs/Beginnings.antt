-- The beginning of a node as it was read, piece by piece; each piece can be read in one way only.
use Rattle.std.specs.Prelude.{◌≡◌, true, false, Option, None, Some, Result, Ok, Err, List, ℕ, ◌++◌}
use Rattle.std.specs.Str.{all_scalars, encode_utf8_all}
use Rattle.yaml_base.specs.Characters.{Text}
use Rattle.yaml_base.specs.Event.{Event, any_style}
use Rattle.yaml_base.specs.Percent.{percent_escaped}
use Rattle.yaml_base.specs.Tags.{alias_fault, tag_fault}
use Rattle.yaml_base.specs.graphs.DumpedText.{tag_text}
use Rattle.yaml_base.specs.graphs.Meetings.{Held, opening_event_of, scalar_held}
use Rattle.yaml_base.specs.graphs.DumpedText.{in_quotes}
use Rattle.yaml_read.specs.EventTexts.{BeginsNode, IsOver, ends_name, opening_text}
use Rattle.yaml_read.specs.WrittenTags.{HasHeldText, ends_tag}
use Rattle.yaml_read.specs.declared.errors.Stop.{Stop}
use Rattle.yaml_read.specs.declared.errors.Stop.TheVariants as stop

-- something was read, or it isn't there, or memory gave out
abbrev pub ReadOr : {T : Type 0} → (Read : T → Type 0) (Absent : Type 0) → Result T Stop → Type 0
ReadOr Read Absent (Ok found) = Read found
ReadOr Read Absent (Err stop.Memory) = Unit {0}
ReadOr Read Absent (Err _) = Absent

-- a name, up to where it ends
pub record IsNameRead (text : List ℕ) (name : Text) (rest : List ℕ) : Type 0 where
  pub named : alias_fault name ≡ None
  pub parts : text ≡ encode_utf8_all name ++ rest
  pub only : (other after : Text) → alias_fault other ≡ None → ends_name after ≡ true → text ≡ encode_utf8_all (other ++ after)
      → (name ≡ other) × (rest ≡ encode_utf8_all after)
  pub ends : ends_name rest ≡ true

abbrev pub NoName : (text : List ℕ) → Type 0
NoName text = (name rest : Text) → alias_fault name ≡ None → ends_name rest ≡ true → text ≡ encode_utf8_all (name ++ rest) → ⊥

-- percent forms up to a text that begins with none, after the prefix for their tag's handle
pub record IsEscapedRead (prefix : Text) (text : List ℕ) (value : Text) (rest : List ℕ) : Type 0 where
  pub word : Text
  pub is : value ≡ prefix ++ word
  pub parts : text ≡ percent_escaped word ++ rest
  pub only : (other after : Text) → all_scalars other ≡ true → ends_tag after ≡ true → text ≡ encode_utf8_all (percent_escaped other ++ after)
      → (value ≡ prefix ++ other) × (rest ≡ encode_utf8_all after)

abbrev pub NoEscaped : (text : List ℕ) → Type 0
NoEscaped text =
    (word rest : Text) → all_scalars word ≡ true → ends_tag rest ≡ true → text ≡ encode_utf8_all (percent_escaped word ++ rest) → ⊥

-- a tag and the space after it
pub record IsTagRead (text : List ℕ) (tag : Text) (rest : List ℕ) : Type 0 where
  pub sound : tag_fault tag ≡ None
  pub parts : text ≡ encode_utf8_all (tag_text (Some tag) false) ++ rest
  pub only : (other after : Text) → tag_fault other ≡ None → all_scalars other ≡ true → text ≡ encode_utf8_all (tag_text (Some other) false ++ after)
      → (tag ≡ other) × (rest ≡ encode_utf8_all after)

abbrev pub NoTag : (text : List ℕ) → Type 0
NoTag text = (tag rest : Text) → tag_fault tag ≡ None → all_scalars tag ≡ true → text ≡ encode_utf8_all (tag_text (Some tag) false ++ rest) → ⊥

-- a scalar's value, of a node with this anchor and this tag
pub record IsScalarRead (anchor : Option Text) (tag : Text) (text : List ℕ) (event : Event) (rest : List ℕ) : Type 0 where
  pub value : Text
  pub scalars : all_scalars value ≡ true
  pub is : event ≡ opening_event_of anchor tag (scalar_held value any_style)
  pub parts : text ≡ encode_utf8_all (in_quotes value) ++ rest
  pub only : (other after : Text) → all_scalars other ≡ true → text ≡ encode_utf8_all (in_quotes other ++ after)
      → (value ≡ other) × (rest ≡ encode_utf8_all after)

-- the text after such a node's tag
pub record IsHeldRead (anchor : Option Text) (tag : Text) (text : List ℕ) (event : Event) (rest : List ℕ) : Type 0 where
  pub held : Held
  pub written : Text
  pub has : HasHeldText held written
  pub is : event ≡ opening_event_of anchor tag held
  pub parts : text ≡ encode_utf8_all written ++ rest
  pub only : (other : Held) (written after : Text) → HasHeldText other written → text ≡ encode_utf8_all (written ++ after)
      → (held ≡ other) × (rest ≡ encode_utf8_all after)

-- a node with this anchor, from its tag on
pub record IsTaggedRead (anchor : Option Text) (text : List ℕ) (event : Event) (rest : List ℕ) : Type 0 where
  pub tag : Text
  pub held : Held
  pub written : Text
  pub sound : tag_fault tag ≡ None
  pub scalars : all_scalars tag ≡ true
  pub has : HasHeldText held written
  pub is : event ≡ opening_event_of anchor tag held
  pub parts : text ≡ encode_utf8_all (tag_text (Some tag) false ++ written) ++ rest
  pub only : (other : Text) (held : Held) (written after : Text) → tag_fault other ≡ None → all_scalars other ≡ true → HasHeldText held written
      → text ≡ encode_utf8_all (tag_text (Some other) false ++ (written ++ after))
      → (event ≡ opening_event_of anchor other held) × (rest ≡ encode_utf8_all after)

abbrev pub NoTagged : (text : List ℕ) → Type 0
NoTagged text =
    (tag : Text) (held : Held) (written rest : Text) → tag_fault tag ≡ None → all_scalars tag ≡ true → HasHeldText held written
    → text ≡ encode_utf8_all (tag_text (Some tag) false ++ (written ++ rest)) → ⊥

-- the beginning of a node
pub record IsOpeningRead (text : List ℕ) (event : Event) (rest : List ℕ) : Type 0 where
  pub begins : BeginsNode event
  pub parts : text ≡ encode_utf8_all (opening_text event) ++ rest
  pub only : (other : Event) (after : Text) → BeginsNode other → ends_name after ≡ true → text ≡ encode_utf8_all (opening_text other ++ after)
      → (event ≡ other) × (rest ≡ encode_utf8_all after)
  pub over : IsOver (opening_text event) rest

abbrev pub NoOpening : (text : List ℕ) → Type 0
NoOpening text =
    (event : Event) (rest : Text) → BeginsNode event → IsOver (opening_text event) rest → text ≡ encode_utf8_all (opening_text event ++ rest) → ⊥
