-- How the nodes of a document begin.
use Rattle.yaml_read.proofs.Common.{ℕ, true, false, Option, None, Some, List, [], ◌∷◌, ◌++◌, refl, ◌≡◌, ap, subst, sym, ◌∙◌, arith, append_assoc, codes, Text}
use Rattle.yaml_read.proofs.Common.{encode_utf8_all, all_scalars, tag_fault, alias_fault, Event, alias, any_layout, opening_event_of, Held, scalar_held}
use Rattle.yaml_read.proofs.Common.{sequence_held, mapping_held, ◌==◌, nat_tests, true≢false, flat_map, character_text, space, percent_escaped, quote}
use Rattle.yaml_read.proofs.Common.{in_quotes, anchor_text, tag_text, seen_text, Result, Ok, Err, String, append_cancel_left, encodes-append}
use Rattle.yaml_read.proofs.Common.{IsUtf8-string_bytes, scalars-chars, string_bytes, IsWholeWord, IsMemory, past_word, BeginsNode, IsAnchor, IsOver, ends_name}
use Rattle.yaml_read.proofs.Common.{is_alias, is_mapping, is_scalar, is_sequence, opening_text, HasHeldText, mapping_opened, sequence_opened, value_quoted}
use Rattle.yaml_read.proofs.Common.{IsOpeningRead, ReadOr, Stop}
use Rattle.yaml_read.proofs.TagTexts.{IsSpelled, is_spelled, of_document, of_type, whole}
use Rattle.yaml_base.proofs.Common.{any_style}
use Rattle.yaml_read.specs.Beginnings.{IsHeldRead, IsScalarRead, IsTaggedRead}
use Rattle.yaml_read.proofs.{NameEnds.held_over, NameTexts.anchor_absent, NameTexts.anchor_there, NameTexts.space_there, Encoded.word_encoded}
use Rattle.yaml_read.proofs.{TagBytes.same_first, Turns.cut_is, Words.memory_only, Words.no_word}
use Rattle.yaml_read.specs.declared.errors.Stop.TheVariants as stop

-- an anchor, a tag, and the text after them
abbrev pub node_opening : Option Text → Text → Text → Text
node_opening anchor tag written = anchor_text anchor ++ (tag_text (Some tag) false ++ written)

-- a node's beginning is an alias, or has these parts
pub data HasOpening : Event → Text → Type 0 where
  of_alias : (name : Text) → alias_fault name ≡ None → HasOpening (alias name) (codes "*" ++ name)
  of_parts : (anchor : Option Text) (tag : Text) (held : Held) (written : Text) → IsAnchor anchor → tag_fault tag ≡ None → all_scalars tag ≡ true
      → HasHeldText held written → HasOpening (opening_event_of anchor tag held) (node_opening anchor tag written)

-- an event with these parts begins a node so
pub begins_by : (anchor : Option Text) (tag : Text) (held : Held) (written : Text) → IsAnchor anchor → tag_fault tag ≡ None → all_scalars tag ≡ true
    → HasHeldText held written
    → BeginsNode (opening_event_of anchor tag held) × (opening_text (opening_event_of anchor tag held) ≡ node_opening anchor tag written)
begins_by anchor tag _ _ named sound scalars (value_quoted value texts) = (
  is_scalar anchor tag value record { anchor_sound = named; tag_sound = sound; tag_scalars = scalars; value_scalars = texts },
  append_assoc (anchor_text anchor) (tag_text (Some tag) false) (in_quotes value),
)
begins_by anchor tag _ _ named sound scalars sequence_opened = (
  is_sequence anchor tag record { anchor_sound = named; tag_sound = sound; tag_scalars = scalars; value_scalars = refl },
  append_assoc (anchor_text anchor) (tag_text (Some tag) false) (codes "["),
)
begins_by anchor tag _ _ named sound scalars mapping_opened = (
  is_mapping anchor tag record { anchor_sound = named; tag_sound = sound; tag_scalars = scalars; value_scalars = refl },
  append_assoc (anchor_text anchor) (tag_text (Some tag) false) (codes "{"),
)

opening_by : (anchor : Option Text) (tag : Text) (held : Held) (written : Text) → IsAnchor anchor → tag_fault tag ≡ None → all_scalars tag ≡ true
    → HasHeldText held written → HasOpening (opening_event_of anchor tag held) (opening_text (opening_event_of anchor tag held))
opening_by anchor tag held written named sound scalars has =
    subst (HasOpening (opening_event_of anchor tag held)) (sym (begins_by anchor tag held written named sound scalars has).1)
    (of_parts anchor tag held written named sound scalars has)

pub opening_of : (event : Event) → BeginsNode event → HasOpening event (opening_text event)
opening_of _ (is_alias name named) = of_alias name named
opening_of _ (is_scalar anchor tag value parts) =
    opening_by anchor tag _ _ parts.anchor_sound parts.tag_sound parts.tag_scalars (value_quoted value parts.value_scalars)
opening_of _ (is_sequence anchor tag parts) = opening_by anchor tag _ _ parts.anchor_sound parts.tag_sound parts.tag_scalars sequence_opened
opening_of _ (is_mapping anchor tag parts) = opening_by anchor tag _ _ parts.anchor_sound parts.tag_sound parts.tag_scalars mapping_opened

-- ---- after a tag

first_differs : (a b : ℕ) (x y : List ℕ) → (a == b) ≡ false → a ∷ x ≡ b ∷ y → ⊥
first_differs a b x y other is = grind (arith, true≢false, same_first, true, nat_tests)

quoted_bytes : (value rest : Text)
    → encode_utf8_all (in_quotes value ++ rest) ≡ 0x22 ∷ encode_utf8_all ((flat_map (character_text true) value ++ quote ∷ []) ++ rest)
quoted_bytes value rest = word_encoded (codes "\"") ((flat_map (character_text true) value ++ quote ∷ []) ++ rest) refl

-- a sequence opens
pub at_bracket : (held : Held) (written rest : Text) (text inside : List ℕ) → HasHeldText held written → text ≡ encode_utf8_all (written ++ rest)
    → text ≡ codes "[" ++ inside → (sequence_held [] any_layout ≡ held) × (inside ≡ encode_utf8_all rest)
at_bracket _ _ rest text inside (value_quoted value scalars) is cut =
    absurd (first_differs 0x22 0x5B _ inside refl (sym (is ∙ quoted_bytes value rest) ∙ cut))
at_bracket _ _ rest text inside sequence_opened is cut =
    (refl, append_cancel_left (codes "[") inside (encode_utf8_all rest) (sym cut ∙ is ∙ word_encoded (codes "[") rest refl))
at_bracket _ _ rest text inside mapping_opened is cut =
    absurd (first_differs 0x7B 0x5B (encode_utf8_all rest) inside refl (sym (is ∙ word_encoded (codes "{") rest refl) ∙ cut))

-- a mapping opens
pub at_brace : (held : Held) (written rest : Text) (text inside : List ℕ) → HasHeldText held written → text ≡ encode_utf8_all (written ++ rest)
    → text ≡ codes "{" ++ inside → (mapping_held [] any_layout ≡ held) × (inside ≡ encode_utf8_all rest)
at_brace _ _ rest text inside (value_quoted value scalars) is cut = absurd (first_differs 0x22 0x7B _ inside refl (sym (is ∙ quoted_bytes value rest) ∙ cut))
at_brace _ _ rest text inside sequence_opened is cut =
    absurd (first_differs 0x5B 0x7B (encode_utf8_all rest) inside refl (sym (is ∙ word_encoded (codes "[") rest refl) ∙ cut))
at_brace _ _ rest text inside mapping_opened is cut =
    (refl, append_cancel_left (codes "{") inside (encode_utf8_all rest) (sym cut ∙ is ∙ word_encoded (codes "{") rest refl))

-- or a text between quotes follows
pub record IsQuoted (held : Held) (rest : Text) (text : List ℕ) : Type 0 where
  pub value : Text
  pub is : scalar_held value any_style ≡ held
  pub scalars : all_scalars value ≡ true
  pub stands : text ≡ encode_utf8_all (in_quotes value ++ rest)

pub at_quote : (held : Held) (written rest : Text) (text : List ℕ) → HasHeldText held written → text ≡ encode_utf8_all (written ++ rest)
    → past_word (codes "[") text ≡ None → past_word (codes "{") text ≡ None → IsQuoted held rest text
at_quote _ _ rest text (value_quoted value scalars) is none also = record { value = value; is = refl; scalars = scalars; stands = is }
at_quote _ _ rest text sequence_opened is none also = absurd (no_word (codes "[") text (encode_utf8_all rest) none (is ∙ word_encoded (codes "[") rest refl))
at_quote _ _ rest text mapping_opened is none also = absurd (no_word (codes "{") text (encode_utf8_all rest) also (is ∙ word_encoded (codes "{") rest refl))

-- ---- before a tag

-- a tag's text begins with `!`
tag_mark : (tag written : Text) → IsSpelled tag written → (more : Text) × (written ≡ 0x21 ∷ more)
tag_mark tag _ (whole stays) = (0x3C ∷ (percent_escaped tag ++ codes "> "), refl)
tag_mark tag _ (of_type suffix some same) = (0x21 ∷ (percent_escaped suffix ++ space ∷ []), refl)
tag_mark tag _ (of_document suffix some same) = (percent_escaped suffix ++ space ∷ [], refl)

leading_tag : (tag rest : Text) → tag_fault tag ≡ None
    → (more : Text) × (encode_utf8_all (tag_text (Some tag) false ++ rest) ≡ 0x21 ∷ encode_utf8_all more)
leading_tag tag rest sound =
    let mark = tag_mark tag (tag_text (Some tag) false) (is_spelled tag sound) in
    (mark.0 ++ rest, ap (λ t. encode_utf8_all (t ++ rest)) mark.1 ∙ word_encoded (codes "!") (mark.0 ++ rest) refl)

-- no anchor precedes it
pub no_anchor_mark : (tag rest : Text) → tag_fault tag ≡ None → past_word (codes "&") (encode_utf8_all (tag_text (Some tag) false ++ rest)) ≡ None
no_anchor_mark tag rest sound =
    let first = leading_tag tag rest sound in ap (past_word (codes "&")) first.1

-- no alias begins with an anchor or a tag
pub no_alias_mark : (anchor : Option Text) (tag written rest : Text) (inside : List ℕ) → tag_fault tag ≡ None
    → encode_utf8_all (node_opening anchor tag written ++ rest) ≡ codes "*" ++ inside → ⊥
no_alias_mark None tag written rest inside sound is =
    let first = leading_tag tag (written ++ rest) sound in
    first_differs 0x21 0x2A (encode_utf8_all first.0) inside refl
    (sym (ap encode_utf8_all (append_assoc (tag_text (Some tag) false) written rest) ∙ first.1) ∙ is)
no_alias_mark (Some name) tag written rest inside sound is =
    first_differs 0x26 0x2A _ inside refl
    (sym (word_encoded (codes "&") (((name ++ space ∷ []) ++ (tag_text (Some tag) false ++ written)) ++ rest) refl) ∙ is)

-- the parts one after another
pub opening_parts : (anchor : Option Text) (tag written rest : Text)
    → node_opening anchor tag written ++ rest ≡ anchor_text anchor ++ (tag_text (Some tag) false ++ (written ++ rest))
opening_parts anchor tag written rest = grind (arith, append_assoc)

-- an alias begins with `*`, and nothing else does
pub record IsAliasOf (event : Event) (rest : Text) (inside : List ℕ) : Type 0 where
  pub name : Text
  pub is : alias name ≡ event
  pub named : alias_fault name ≡ None
  pub stands : inside ≡ encode_utf8_all (name ++ rest)

pub at_alias : (event : Event) (written rest : Text) (text inside : List ℕ) → HasOpening event written → text ≡ encode_utf8_all (written ++ rest)
    → text ≡ codes "*" ++ inside → IsAliasOf event rest inside
at_alias _ _ rest text inside (of_alias name named) is cut =
    record {
      name = name;
      is = refl;
      named = named;
      stands = append_cancel_left (codes "*") inside (encode_utf8_all (name ++ rest)) (sym cut ∙ is ∙ word_encoded (codes "*") (name ++ rest) refl);
    }
at_alias _ _ rest text inside (of_parts anchor tag held written named sound scalars has) is cut =
    absurd (no_alias_mark anchor tag written rest inside sound (sym is ∙ cut))

-- an event with this anchor begins there; its tag, and the text after it
pub record IsTaggedAt (anchor : Option Text) (event : Event) (rest : Text) (behind : List ℕ) : Type 0 where
  pub tag : Text
  pub held : Held
  pub written : Text
  pub is : opening_event_of anchor tag held ≡ event
  pub sound : tag_fault tag ≡ None
  pub scalars : all_scalars tag ≡ true
  pub has : HasHeldText held written
  pub stands : behind ≡ encode_utf8_all (tag_text (Some tag) false ++ (written ++ rest))

-- and else the parts of a node
pub record IsNodeOf (event : Event) (rest : Text) (text : List ℕ) : Type 0 where
  pub anchor : Option Text
  pub named : IsAnchor anchor
  pub behind : Text
  pub stands : text ≡ encode_utf8_all (anchor_text anchor ++ behind)
  pub none : past_word (codes "&") (encode_utf8_all behind) ≡ None
  pub tagged : IsTaggedAt anchor event rest (encode_utf8_all behind)

pub at_parts : (event : Event) (written rest : Text) (text : List ℕ) → HasOpening event written → text ≡ encode_utf8_all (written ++ rest)
    → past_word (codes "*") text ≡ None → IsNodeOf event rest text
at_parts _ _ rest text (of_alias name named) is none =
    absurd (no_word (codes "*") text (encode_utf8_all (name ++ rest)) none (is ∙ word_encoded (codes "*") (name ++ rest) refl))
at_parts _ _ rest text (of_parts anchor tag held written named sound scalars has) is none =
    record {
      anchor = anchor;
      named = named;
      behind = tag_text (Some tag) false ++ (written ++ rest);
      stands = is ∙ ap encode_utf8_all (opening_parts anchor tag written rest);
      none = no_anchor_mark tag (written ++ rest) sound;
      tagged = record { tag = tag; held = held; written = written; is = refl; sound = sound; scalars = scalars; has = has; stands = refl };
    }

both_read : (first second : Text) (text behind rest : List ℕ) → text ≡ encode_utf8_all first ++ behind → behind ≡ encode_utf8_all second ++ rest
    → text ≡ encode_utf8_all (first ++ second) ++ rest
both_read first second text behind rest is also = grind (arith, encode_utf8_all, append_assoc, encodes-append)

-- ---- nodes that were read

-- a scalar follows a tag if no collection opens
pub held_read : (anchor : Option Text) (tag : Text) (text : List ℕ) (event : Event) (rest : List ℕ) → past_word (codes "[") text ≡ None
    → past_word (codes "{") text ≡ None → IsScalarRead anchor tag text event rest → IsHeldRead anchor tag text event rest
held_read anchor tag text event rest none also read =
    record {
      held = scalar_held read.value any_style;
      written = in_quotes read.value;
      has = value_quoted read.value read.scalars;
      is = read.is;
      parts = read.parts;
      only = λ other written after has is.
          let at = at_quote other written after text has is none also in
          let same = read.only at.value after at.scalars at.stands in
          (ap (λ (v : Text). scalar_held v any_style) same.0 ∙ at.is, same.1);
    }

-- a tag, and the text after it
pub tagged_read : {A : Type 0} (tag : String A) (anchor : Option Text) (text behind rest : List ℕ) (event : Event)
    → (tag_fault (seen_text tag) ≡ None) × (text ≡ encode_utf8_all (tag_text (Some (seen_text tag)) false) ++ behind)
    → ((other after : Text) → tag_fault other ≡ None → all_scalars other ≡ true → text ≡ encode_utf8_all (tag_text (Some other) false ++ after)
    → (seen_text tag ≡ other) × (behind ≡ encode_utf8_all after))
    → IsHeldRead anchor (seen_text tag) behind event rest → IsTaggedRead anchor text event rest
tagged_read tag anchor text behind rest event sound one read =
    record {
      tag = seen_text tag;
      held = read.held;
      written = read.written;
      sound = sound.0;
      scalars = scalars-chars (string_bytes tag) (IsUtf8-string_bytes tag);
      has = read.has;
      is = read.is;
      parts = both_read (tag_text (Some (seen_text tag)) false) read.written text behind rest sound.1 read.parts;
      only = λ other held written after free scalars has is.
          let same = one other (written ++ after) free scalars is in
          let inside = read.only held written after has same.1 in (
            read.is ∙ ap (λ (h : Held). opening_event_of anchor (seen_text tag) h) inside.0
                ∙ ap (λ (t : Text). opening_event_of anchor t held) same.0,
            inside.1,
          );
    }

-- an alias after its `*`
pub alias_read : (name : Text) (inside rest : List ℕ) → inside ≡ encode_utf8_all name ++ rest
    → codes "*" ++ inside ≡ encode_utf8_all (opening_text (alias name)) ++ rest
alias_read name inside rest read = ap (λ t. 0x2A ∷ t) read ∙ ap (λ t. t ++ rest) (sym (word_encoded (codes "*") name refl))

-- no event has an anchor if the text doesn't begin with `&`
pub behind_none : (text : List ℕ) → past_word (codes "*") text ≡ None → past_word (codes "&") text ≡ None
    → (event : Event) (rest : Text) → BeginsNode event → text ≡ encode_utf8_all (opening_text event ++ rest) → IsTaggedAt None event rest text
behind_none text none also event rest begins is =
    let at = at_parts event (opening_text event) rest text (opening_of event begins) is none in
    let absent = anchor_absent at.anchor at.behind text also at.stands in
    subst (IsTaggedAt None event rest) (sym absent.1)
    (subst (λ (a : Option Text). IsTaggedAt a event rest (encode_utf8_all at.behind)) (sym absent.0) at.tagged)

-- an anchor follows `&`, and its tag follows a space
pub record IsAnchoredAt (event : Event) (rest : Text) (inside : List ℕ) : Type 0 where
  pub name : Text
  pub named : alias_fault name ≡ None
  pub more : Text
  pub stands : inside ≡ encode_utf8_all (name ++ space ∷ more)
  pub tagged : (behind : List ℕ) → behind ≡ encode_utf8_all more → IsTaggedAt (Some name) event rest behind

pub behind_mark : (inside : List ℕ) (event : Event) (rest : Text) → BeginsNode event
    → codes "&" ++ inside ≡ encode_utf8_all (opening_text event ++ rest) → IsAnchoredAt event rest inside
behind_mark inside event rest begins is =
    let at = at_parts event (opening_text event) rest (codes "&" ++ inside) (opening_of event begins) is refl in
    let there = anchor_there at.anchor at.behind (codes "&" ++ inside) inside at.named at.none refl at.stands in
    record {
      name = there.name;
      named = there.named;
      more = at.behind;
      stands = there.text;
      tagged = λ behind stands.
          subst (IsTaggedAt (Some there.name) event rest) (sym stands)
          (subst (λ (a : Option Text). IsTaggedAt a event rest (encode_utf8_all at.behind)) (sym there.is) at.tagged);
    }

-- an anchor was read, and the space after it
pub behind_space : (name : Text) (inside behind after : List ℕ)
    → ((other rest : Text) → alias_fault other ≡ None → ends_name rest ≡ true → inside ≡ encode_utf8_all (other ++ rest)
    → (name ≡ other) × (behind ≡ encode_utf8_all rest))
    → behind ≡ codes " " ++ after
    → (event : Event) (rest : Text) → BeginsNode event → codes "&" ++ inside ≡ encode_utf8_all (opening_text event ++ rest)
    → IsTaggedAt (Some name) event rest after
behind_space name inside behind after one cut event rest begins is =
    let at = behind_mark inside event rest begins is in
    let same = one at.name (space ∷ at.more) at.named refl at.stands in
    subst (λ (n : Text). IsTaggedAt (Some n) event rest after) (sym same.0) (at.tagged after
    (cut_is (codes " ") behind after (encode_utf8_all at.more) cut (same.1 ∙ word_encoded (codes " ") at.more refl)))

-- or there is none
pub no_space : (name : Text) (inside behind : List ℕ)
    → ((other rest : Text) → alias_fault other ≡ None → ends_name rest ≡ true → inside ≡ encode_utf8_all (other ++ rest)
    → (name ≡ other) × (behind ≡ encode_utf8_all rest))
    → past_word (codes " ") behind ≡ None
    → (event : Event) (rest : Text) → BeginsNode event → codes "&" ++ inside ≡ encode_utf8_all (opening_text event ++ rest) → ⊥
no_space name inside behind one none event rest begins is =
    let at = behind_mark inside event rest begins is in
    space_there at.more behind (one at.name (space ∷ at.more) at.named refl at.stands).1 none

-- an anchor, if there is one, and the text after it
pub opening_read : (anchor : Option Text) (text behind rest : List ℕ) (event : Event) → IsAnchor anchor → text ≡ encode_utf8_all (anchor_text anchor) ++ behind
    → ((other : Event) (after : Text) → BeginsNode other → text ≡ encode_utf8_all (opening_text other ++ after) → IsTaggedAt anchor other after behind)
    → IsTaggedRead anchor behind event rest → IsOpeningRead text event rest
opening_read anchor text behind rest event named is one read =
    let begins = begins_by anchor read.tag read.held read.written named read.sound read.scalars read.has in
    record {
      begins = subst BeginsNode (sym read.is) begins.0;
      parts = both_read (anchor_text anchor) (tag_text (Some read.tag) false ++ read.written) text behind rest is read.parts
          ∙ ap (λ t. encode_utf8_all t ++ rest) (sym begins.1 ∙ ap opening_text (sym read.is));
      only = λ other after begins ends is.
          let at = one other after begins is in
          let same = read.only at.tag at.held at.written after at.sound at.scalars at.has at.stands in
          (same.0 ∙ at.is, same.1);
      over =
          subst (λ (t : Text). IsOver t rest) (sym (ap opening_text read.is ∙ begins.1))
          (subst (λ (t : Text). IsOver t rest) (append_assoc (anchor_text anchor) (tag_text (Some read.tag) false) read.written)
          (held_over read.held read.written (anchor_text anchor ++ tag_text (Some read.tag) false) rest read.has));
    }

-- ---- answers

-- a part that was read is part of more, and so if it is absent
pub read_or_then : {T P Q : Type 0} (Read More : T → Type 0) (result : Result T Stop) → ((found : T) → Read found → More found) → (P → Q)
    → ReadOr Read P result → ReadOr More Q result
read_or_then Read More (Ok found) more none is = more found is
read_or_then Read More (Err stop.Memory) more none is = tt
read_or_then Read More _ more none is = none is

-- it is absent unless memory gave out
pub none_read : (Absent : Type 0) (error : Stop) → ((error ≡ stop.Memory → ⊥) → Absent) → ReadOr (λ (_ : List ℕ). Unit {0}) Absent (Err error)
none_read Absent stop.Memory by = tt
none_read Absent _ by = by (λ e. cc)

pub memory_reads : (Absent : Type 0) (error : Stop) → IsMemory error → ReadOr (λ (_ : List ℕ). Unit {0}) Absent (Err error)
memory_reads Absent error is = none_read Absent error (λ other. absurd (other (memory_only error is)))

-- with it something else is absent
pub absent_then : (P Q : Type 0) (error : Stop) → (P → Q) → ReadOr (λ (_ : List ℕ). Unit {0}) P (Err error) → ReadOr (λ (_ : List ℕ). Unit {0}) Q (Err error)
absent_then P Q error then_is is = read_or_then (λ (_ : List ℕ). Unit {0}) (λ (_ : List ℕ). Unit {0}) (Err error) (λ _ found. found) then_is is

-- a part that is refused as a whole is absent
pub whole_absent : (Absent : Type 0) (bytes : List ℕ) (reason error : Stop) → IsWholeWord bytes reason error
    → ReadOr (λ (_ : List ℕ). Unit {0}) Absent (Err reason) → ReadOr (λ (_ : List ℕ). Unit {0}) Absent (Err error)
whole_absent Absent bytes stop.Memory error is none = subst (λ (e : Stop). ReadOr (λ (_ : List ℕ). Unit {0}) Absent (Err e)) (sym is) tt
whole_absent Absent bytes _ error is none = none_read Absent error (λ _. none)
