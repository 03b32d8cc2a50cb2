-- Events of a document, by what is open before them.
use Rattle.yaml_read.proofs.Common.{ℕ, ◌<◌, true, false, Option, Some, List, [], ◌∷◌, ◌++◌, refl, ◌≡◌, ap, subst, sym, ◌∙◌, append_assoc, append-nil, arith}
use Rattle.yaml_read.proofs.Common.{false≢true, length, length-append, Text, encode_utf8_all, Event, alias, sequence_start, sequence_end, mapping_start}
use Rattle.yaml_read.proofs.Common.{mapping_end, Err, append_cancel_left, encodes-append, Bor, GoesTo, ReadsEvent, await_opened, open_behind_opening}
use Rattle.yaml_read.proofs.Common.{text_behind_lead, trail_behind_opening, Pending, BeginsNode, IsInNode, begins_node, closing_text, ends_mapping}
use Rattle.yaml_read.proofs.Common.{ends_name, ends_sequence, event_text, is_alias, is_mapping, is_scalar, is_sequence, item_awaited, key_awaited, lead_text}
use Rattle.yaml_read.proofs.Common.{may_come, next_open, left_open, opening_text, IsOver, outside, trail_text, LeadStands, can_end, closing_event}
use Rattle.yaml_read.proofs.Common.{seen_await, Await, Stop}
use Rattle.yaml_read.proofs.NameEnds.{behind_over, end_over, longer_over, opening_some}
use Rattle.yaml_read.proofs.Awaits.{closing_encoded, lead_encoded, lead_or_end, trail_encoded}
use Rattle.yaml_read.{specs.EventSteps.ReadsNode, specs.declared.steps.Progress.TheVariants.Continues, proofs.Words.no_word}
use Rattle.yaml_base.proofs.Common.{scalar, Scalar, Collection}

-- ---- an event that begins a node

-- its text, what is open after it, and that it may come
pub record IsNodeEvent (levels : List Pending) (event : Event) : Type 0 where
  pub text : event_text levels event ≡ lead_text levels ++ text_behind_lead levels event
  pub opened : next_open levels event ≡ open_behind_opening levels (await_opened event)
  pub comes : may_come levels event ≡ true

alias_event : (levels : List Pending) (name : Text) → IsNodeEvent levels (alias name)
alias_event levels name = record { text = refl; opened = refl; comes = refl }

scalar_event : (levels : List Pending) (content : Scalar) → IsNodeEvent levels (scalar content)
scalar_event levels content = record { text = refl; opened = refl; comes = refl }

sequence_event : (levels : List Pending) (start : Collection) → IsNodeEvent levels (sequence_start start)
sequence_event levels start =
    record { text = ap (λ t. lead_text levels ++ t) (sym (append-nil (opening_text (sequence_start start)))); opened = refl; comes = refl }

mapping_event : (levels : List Pending) (start : Collection) → IsNodeEvent levels (mapping_start start)
mapping_event levels start =
    record { text = ap (λ t. lead_text levels ++ t) (sym (append-nil (opening_text (mapping_start start)))); opened = refl; comes = refl }

pub node_event : (levels : List Pending) (event : Event) → BeginsNode event → IsNodeEvent levels event
node_event levels _ (is_alias name named) = alias_event levels name
node_event levels _ (is_scalar anchor tag value parts) = scalar_event levels _
node_event levels _ (is_sequence anchor tag parts) = sequence_event levels _
node_event levels _ (is_mapping anchor tag parts) = mapping_event levels _

-- ---- the event with which the innermost collection ends

pub record IsEndEvent (levels : List Pending) (event : Event) : Type 0 where
  pub text : event_text levels event ≡ closing_text levels ++ trail_text (outside levels)
  pub opened : next_open levels event ≡ left_open (outside levels)
  pub comes : may_come levels event ≡ true
  pub in_node : IsInNode event

pub end_event : (levels : List Pending) → can_end levels ≡ true → IsEndEvent levels (closing_event levels)
end_event (item_awaited empty ∷ outer) can = record { text = refl; opened = refl; comes = refl; in_node = ends_sequence }
end_event (key_awaited empty ∷ outer) can = record { text = refl; opened = refl; comes = refl; in_node = ends_mapping }
end_event _ can = absurd (false≢true can)

-- no other end may come
pub sequence_ends : (levels : List Pending) → may_come levels sequence_end ≡ true → (can_end levels ≡ true) × (closing_event levels ≡ sequence_end)
sequence_ends (item_awaited empty ∷ outer) comes = (refl, refl)
sequence_ends _ comes = absurd (false≢true comes)

pub mapping_ends : (levels : List Pending) → may_come levels mapping_end ≡ true → (can_end levels ≡ true) × (closing_event levels ≡ mapping_end)
mapping_ends (key_awaited empty ∷ outer) comes = (refl, refl)
mapping_ends _ comes = absurd (false≢true comes)

-- ---- the part of an event's text that is read

-- a comma or nothing ends a name, if what follows ends it
pub trail_ends : (levels : List Pending) (opened : Option Await) (tail : Text) → ends_name tail ≡ true
    → ends_name (trail_behind_opening levels opened ++ tail) ≡ true
trail_ends levels opened tail h1 = grind arith

pub behind_encoded : (levels : List Pending) (opened : Option Await) (tail : Text)
    → encode_utf8_all (trail_behind_opening levels opened ++ tail) ≡ trail_behind_opening levels opened ++ encode_utf8_all tail
behind_encoded levels opened tail = grind (arith, trail_encoded)

-- a collection was opened
pub opened_on : (levels now : List Pending) (found : Option Await) (awaited : Await) (text : Bor (List ℕ)) → found ≡ Some awaited
    → now ≡ seen_await awaited ∷ levels
    → GoesTo (open_behind_opening levels found) (trail_behind_opening levels found) text.now now (Continues text)
opened_on levels now found awaited text is now_is =
    subst (λ (o : Option Await). GoesTo (open_behind_opening levels o) (trail_behind_opening levels o) text.now now (Continues text)) (sym is)
    (ap Some (sym now_is), refl)

-- bytes that are known by two texts
cut_text : (bytes rest : List ℕ) (text tail : Text) → bytes ≡ encode_utf8_all text ++ rest → bytes ≡ encode_utf8_all (text ++ tail)
    → rest ≡ encode_utf8_all tail
cut_text bytes rest text tail is also = append_cancel_left (encode_utf8_all text) rest (encode_utf8_all tail) (sym is ∙ also ∙ encodes-append text tail)

pub behind_text : (levels : List Pending) (bytes rest : List ℕ) (event : Event) (tail : Text) → bytes ≡ encode_utf8_all (event_text levels event) ++ rest
    → bytes ≡ encode_utf8_all (event_text levels event ++ tail) → rest ≡ encode_utf8_all tail
behind_text levels bytes rest event tail is also = cut_text bytes rest (event_text levels event) tail is also

-- a node was read, with its beginning and what follows that
pub node_read : (levels : List Pending) (text middle rest : List ℕ) (after : Option (List Pending)) (event : Event) → BeginsNode event
    → text ≡ encode_utf8_all (opening_text event) ++ middle → IsOver (opening_text event) middle → open_behind_opening levels (await_opened event) ≡ after
    → middle ≡ trail_behind_opening levels (await_opened event) ++ rest → ReadsNode levels text after event rest
node_read levels text middle rest after event begins is over opened behind =
    let trail = trail_behind_opening levels (await_opened event) in
    record {
      begins = begins;
      opened = opened;
      parts =
          is ∙ ap (λ t. encode_utf8_all (opening_text event) ++ t) behind ∙ sym (append_assoc (encode_utf8_all (opening_text event)) trail rest)
          ∙ ap (λ t. t ++ rest) (ap (λ t. encode_utf8_all (opening_text event) ++ t)
          (sym (append-nil trail) ∙ sym (behind_encoded levels (await_opened event) []) ∙ ap encode_utf8_all (append-nil trail))
          ∙ sym (encodes-append (opening_text event) trail));
      over = behind_over levels (await_opened event) (opening_text event) middle rest behind over;
    }

-- after what leads to it
pub event_read : (levels : List Pending) (text behind rest : List ℕ) (after : Option (List Pending)) (event : Event) → text ≡ lead_text levels ++ behind
    → ReadsNode levels behind after event rest → ReadsEvent levels text after event rest
event_read levels text behind rest after event is node =
    let known = node_event levels event node.begins in
    record {
      in_node = begins_node event node.begins;
      comes = known.comes;
      opened = known.opened ∙ node.opened;
      parts =
          is ∙ ap (λ t. lead_text levels ++ t) node.parts ∙ sym (append_assoc (lead_text levels) (encode_utf8_all (text_behind_lead levels event)) rest)
          ∙ ap (λ t. t ++ rest) (sym (lead_encoded levels (text_behind_lead levels event)) ∙ ap encode_utf8_all (sym known.text));
      over =
          subst (λ (t : Text). IsOver t rest) (sym known.text) (longer_over (lead_text levels) (text_behind_lead levels event) rest
          (omega (arith, length-append (opening_text event) (trail_behind_opening levels (await_opened event)), opening_some event node.begins)) node.over);
    }

-- a collection's end was read
pub end_read : (levels : List Pending) (text behind rest : List ℕ) (after : Option (List Pending)) (event : Event) → can_end levels ≡ true
    → text ≡ closing_text levels ++ behind → event ≡ closing_event levels → left_open (outside levels) ≡ after
    → behind ≡ trail_text (outside levels) ++ rest → ReadsEvent levels text after event rest
end_read levels text behind rest after event can is same opened follows =
    let known = end_event levels can in
    let trail = trail_text (outside levels) in
    subst (λ (e : Event). ReadsEvent levels text after e rest) (sym same)
    (record {
      in_node = known.in_node;
      comes = known.comes;
      opened = known.opened ∙ opened;
      parts =
          is ∙ ap (λ t. closing_text levels ++ t) follows ∙ sym (append_assoc (closing_text levels) trail rest) ∙ ap (λ t. t ++ rest)
          (ap (λ t. closing_text levels ++ t) (sym (append-nil trail) ∙ sym (trail_encoded (outside levels) []) ∙ ap encode_utf8_all (append-nil trail))
          ∙ sym (closing_encoded levels trail) ∙ ap encode_utf8_all (sym known.text));
      over = subst (λ (t : Text). IsOver t rest) (sym known.text) (end_over levels behind rest can follows);
    })

-- less is left after a collection's end
pub end_shorter : (levels : List Pending) (text behind : List ℕ) → can_end levels ≡ true → text ≡ closing_text levels ++ behind
    → length behind < length text
end_shorter levels text behind h1 h2 = grind (arith, length, length-append, closing_text, item_awaited, false, key_awaited, false≢true)

-- ---- the text before an event that comes

-- bytes of an event after its lead, or after the collection's bracket
node_bytes : (levels : List Pending) (bytes : List ℕ) (event : Event) (tail : Text) → BeginsNode event
    → bytes ≡ encode_utf8_all (event_text levels event ++ tail) → bytes ≡ lead_text levels ++ encode_utf8_all (text_behind_lead levels event ++ tail)
node_bytes levels bytes event tail begins is = grind (arith, encode_utf8_all, node_event, append_assoc, lead_text, text_behind_lead, lead_encoded)

end_bytes : (levels : List Pending) (bytes : List ℕ) (event : Event) (tail : Text) → can_end levels ≡ true → closing_event levels ≡ event
    → bytes ≡ encode_utf8_all (event_text levels event ++ tail) → bytes ≡ closing_text levels ++ (trail_text (outside levels) ++ encode_utf8_all tail)
end_bytes levels bytes event tail can same is =
    grind (arith, trail_text, outside, encode_utf8_all, event_text, end_event, append_assoc, closing_text, closing_encoded, trail_encoded)

-- the bytes after the lead or the bracket that was found, if an event comes
pub data Comes (levels : List Pending) (event : Event) (tail : Text) (bytes : List ℕ) : Type 0 where
  node_comes : BeginsNode event → bytes ≡ lead_text levels ++ encode_utf8_all (text_behind_lead levels event ++ tail) → Comes levels event tail bytes
  end_comes : can_end levels ≡ true → closing_event levels ≡ event → bytes ≡ closing_text levels ++ (trail_text (outside levels) ++ encode_utf8_all tail)
      → Comes levels event tail bytes

pub it_comes : (levels : List Pending) (event : Event) (tail : Text) (bytes : List ℕ) → IsInNode event → may_come levels event ≡ true
    → bytes ≡ encode_utf8_all (event_text levels event ++ tail) → Comes levels event tail bytes
it_comes levels _ tail bytes (begins_node event begins) comes is = node_comes begins (node_bytes levels bytes event tail begins is)
it_comes levels _ tail bytes ends_sequence comes is =
    let ends = sequence_ends levels comes in
    end_comes ends.0 ends.1 (end_bytes levels bytes sequence_end tail ends.0 ends.1 is)
it_comes levels _ tail bytes ends_mapping comes is =
    let ends = mapping_ends levels comes in
    end_comes ends.0 ends.1 (end_bytes levels bytes mapping_end tail ends.0 ends.1 is)

-- no lead is found: no event comes
pub none_comes : (levels : List Pending) (event : Event) (tail : Text) (bytes : List ℕ) (error : Stop) → Comes levels event tail bytes
    → LeadStands levels bytes (Err error) → ⊥
none_comes levels event tail bytes error (node_comes begins is) stands = no_word (lead_text levels) bytes _ stands.0 is
none_comes levels event tail bytes error (end_comes can same is) stands = no_word (closing_text levels) bytes _ (stands.1 can) is

-- a lead is found: a node comes
pub node_due : (levels : List Pending) (event : Event) (tail : Text) (bytes rest : List ℕ) → Comes levels event tail bytes → bytes ≡ lead_text levels ++ rest
    → BeginsNode event × (rest ≡ encode_utf8_all (text_behind_lead levels event ++ tail))
node_due levels event tail bytes rest (node_comes begins is) found = (begins, append_cancel_left (lead_text levels) rest _ (sym found ∙ is))
node_due levels event tail bytes rest (end_comes can same is) found = absurd (lead_or_end levels rest _ can (sym found ∙ is))

-- a bracket is found: the collection's end comes
pub end_due : (levels : List Pending) (event : Event) (tail : Text) (bytes rest : List ℕ) → Comes levels event tail bytes → can_end levels ≡ true
    → bytes ≡ closing_text levels ++ rest → (closing_event levels ≡ event) × (rest ≡ trail_text (outside levels) ++ encode_utf8_all tail)
end_due levels event tail bytes rest (node_comes begins is) can found = absurd (lead_or_end levels _ rest can (sym is ∙ found))
end_due levels event tail bytes rest (end_comes also same is) can found = (same, append_cancel_left (closing_text levels) rest _ (sym found ∙ is))
