-- A document's events, one after another: what was read, and what is due.
use Rattle.yaml_read.proofs.Common.{ℕ, [], ◌∷◌, ◌++◌, ◌≡◌, ◌∙◌, false≢true, ◌⊎◌, ◌<◌, true, Option, None, Some, List, refl, ap, subst, sym, append_assoc}
use Rattle.yaml_read.proofs.Common.{All, All-head, All-tail, codes, line_feed, Text, encode_utf8_all, Event, sequence_end, mapping_end, document_start}
use Rattle.yaml_read.proofs.Common.{document_end, length, arith, length-append, length-le-encodes, Result, Ok, Err, map, Bor, append_cancel_left, map-append}
use Rattle.yaml_read.proofs.Common.{All-nil, encodes-append, Pending, HasRunText, IsInNode, closing_text, ends_name, event_text, lead_text, may_come}
use Rattle.yaml_read.proofs.Common.{more_come, next_open, left_open, outside, root_ends, value_awaited, IsOver, IsEventPlace, RunStops, StopsBy, bare_start}
use Rattle.yaml_read.proofs.Common.{in_document, NoEventBegins, ReadOr, LacksEnd, more_follows, no_end, ReadsEvent, OrMemory, Stop}
use Rattle.yaml_read.specs.EventReads.{EndDue, EndRead, IsEventRead, RootRead, RunAnswer, RunEnded, RunFails}
use Rattle.yaml_read.proofs.EventSteps.{behind_text, end_shorter, mapping_ends, node_event, sequence_ends}
use Rattle.yaml_read.{specs.EventTexts.HasBegunText, specs.EventTexts.none_begun, specs.EventTexts.one_more, specs.RunPlaces.after_root}
use Rattle.yaml_read.{specs.RunPlaces.in_event, proofs.NameEnds.longer_over, proofs.NameEnds.nothing_over, proofs.NameEnds.opening_some}
use Rattle.yaml_read.{proofs.Encoded.word_encoded, proofs.EventPlaces.memory_placed, proofs.Words.memory_only, proofs.Words.no_word}
use Rattle.std.proofs.lemmas.List.Elements.{All-push}
use Rattle.yaml_read.specs.declared.errors.Stop.TheVariants as stop

-- ---- a name ends before an event in a collection

lead_ends_name : (awaited : Pending) (outer : List Pending) (text more : Text) → ends_name ((lead_text (awaited ∷ outer) ++ text) ++ more) ≡ true
lead_ends_name awaited outer text more = grind arith

end_ends_name : (awaited : Pending) (outer : List Pending) (event : Event) (text more : Text) → event ≡ sequence_end ⊎ event ≡ mapping_end
    → may_come (awaited ∷ outer) event ≡ true → ends_name ((closing_text (awaited ∷ outer) ++ text) ++ more) ≡ true
end_ends_name awaited outer event text more h1 h2 = grind (arith, false≢true, may_come, value_awaited)

event_ends_name : (awaited : Pending) (outer : List Pending) (event : Event) (more : Text) → may_come (awaited ∷ outer) event ≡ true
    → ends_name (event_text (awaited ∷ outer) event ++ more) ≡ true
event_ends_name awaited outer event more h1 = grind (arith, end_ends_name, sequence_end, mapping_end, false≢true, lead_ends_name)

run_ends_name : (awaited : Pending) (outer : List Pending) (events : List Event) (text more : Text) → HasRunText (awaited ∷ outer) events text
    → ends_name (text ++ more) ≡ true
run_ends_name awaited outer events text more h1 = grind (arith, ends_name, event_ends_name, append_assoc)

-- something is open after an event that doesn't end the root
behind_open : (levels : List Pending) → left_open levels ≡ Some [] → ⊥
behind_open levels h1 = grind arith

after_open : (levels : List Pending) (event : Event) → next_open levels event ≡ Some [] → ⊥
after_open levels event h1 = grind (arith, behind_open, outside)

more_ends_name : (levels next : List Pending) (event : Event) (events : List Event) (text more : Text) → next_open levels event ≡ Some next
    → HasRunText next events text → ends_name (text ++ more) ≡ true
more_ends_name levels next event events text more h1 h2 = grind (arith, after_open, run_ends_name)

-- ---- the events that were read, and the text after them

-- events from the root's beginning, and then events up to its end
pub begun_and_run : (levels : List Pending) (events more : List Event) (text rest : Text) → HasBegunText levels events text → HasRunText levels more rest
    → HasRunText [] (events ++ more) (text ++ rest)
begun_and_run _ _ more _ rest none_begun run = run
begun_and_run _ _ more _ rest (one_more before levels events event text begun comes after) run =
    subst (λ (e : List Event). HasRunText [] e ((text ++ event_text before event) ++ rest)) (sym (append_assoc events (event ∷ []) more))
    (subst (λ (t : Text). HasRunText [] (events ++ event ∷ more) t) (sym (append_assoc text (event_text before event) rest)) (begun_and_run _ _ _ _ _ begun
    (more_come before levels event more rest (event_text before event ++ rest) comes after refl run)))

-- the events found so far, the document's start before them, are those up to here
pub record RunBegun (whole : List ℕ) (found : List Event) (levels : List Pending) (bytes : List ℕ) : Type 0 where
  pub events : List Event
  pub text : Text
  pub found_are : found ≡ document_start bare_start ∷ events
  pub begun : HasBegunText levels events text
  pub in_node : All IsInNode events
  pub parts : whole ≡ encode_utf8_all text ++ bytes
  pub over : IsOver text bytes

-- or those of the whole root, by what is open
abbrev pub RunRead : (whole : List ℕ) (found : List Event) → Option (List Pending) → (bytes : List ℕ) → Type 0
RunRead whole found None bytes = RunEnded whole found bytes
RunRead whole found (Some levels) bytes = RunBegun whole found levels bytes

pub nothing_read : (whole : List ℕ) → RunBegun whole (document_start bare_start ∷ []) [] whole
nothing_read whole =
    record { events = []; text = []; found_are = refl; begun = none_begun; in_node = All-nil IsInNode; parts = refl; over = nothing_over whole }

-- the bytes with one more event
one_more_parts : (whole bytes rest : List ℕ) (text own : Text) → whole ≡ encode_utf8_all text ++ bytes → bytes ≡ encode_utf8_all own ++ rest
    → whole ≡ encode_utf8_all (text ++ own) ++ rest
one_more_parts whole bytes rest text own is also = grind (arith, encode_utf8_all, append_assoc, encodes-append)

-- an event's text isn't empty
event_some : (levels : List Pending) (event : Event) → IsInNode event → may_come levels event ≡ true → 0 < length (event_text levels event)
event_some levels event h1 h2 = grind (arith, node_event, length-append, opening_some, end_shorter, sequence_end, sequence_ends, mapping_end, mapping_ends)

-- one more event is read
pub event_more : (whole : List ℕ) (found : List Event) (levels : List Pending) (bytes rest : List ℕ) (after : Option (List Pending)) (event : Event)
    → RunBegun whole found levels bytes → ReadsEvent levels bytes after event rest → RunRead whole (found ++ event ∷ []) after rest
event_more whole found levels bytes rest None event begun read =
    record {
      events = begun.events ++ event ∷ [];
      text = begun.text ++ event_text levels event;
      found_are = ap (λ (e : List Event). e ++ event ∷ []) begun.found_are;
      run = begun_and_run _ _ _ _ _ begun.begun (root_ends levels event (event_text levels event) read.comes read.opened refl);
      in_node = All-push IsInNode begun.events event begun.in_node read.in_node;
      parts = one_more_parts _ _ rest begun.text (event_text levels event) begun.parts read.parts;
      over = longer_over begun.text _ _ (event_some levels _ read.in_node read.comes) read.over;
    }
event_more whole found levels bytes rest (Some next) event begun read =
    record {
      events = begun.events ++ event ∷ [];
      text = begun.text ++ event_text levels event;
      found_are = ap (λ (e : List Event). e ++ event ∷ []) begun.found_are;
      begun = one_more _ _ _ _ _ begun.begun read.comes read.opened;
      in_node = All-push IsInNode begun.events event begun.in_node read.in_node;
      parts = one_more_parts _ _ rest begun.text (event_text levels event) begun.parts read.parts;
      over = longer_over begun.text _ _ (event_some levels _ read.in_node read.comes) read.over;
    }

-- ---- the events that are due

-- after the events found so far the others of a document are due
pub record EventsDue (events found : List Event) (levels : List Pending) (bytes : List ℕ) : Type 0 where
  pub later : List Event
  pub text : Text
  pub all : in_document events ≡ found ++ (later ++ document_end true ∷ [])
  pub run : HasRunText levels later text
  pub in_node : All IsInNode later
  pub bytes_are : bytes ≡ encode_utf8_all (text ++ line_feed ∷ [])

-- or nothing but the document's end is, by what is open
abbrev pub IsRunDue : (events found : List Event) → Option (List Pending) → (bytes : List ℕ) → Type 0
IsRunDue events found None bytes = EndDue events found bytes
IsRunDue events found (Some levels) bytes = EventsDue events found levels bytes

-- if the whole bytes are those of a document
pub record RunDue (whole : List ℕ) (found : List Event) (open_yet : Option (List Pending)) (bytes : List ℕ) : Type 0 where
  pub due : (events : List Event) (node : Text) → HasRunText [] events node → All IsInNode events → whole ≡ encode_utf8_all (node ++ line_feed ∷ [])
      → IsRunDue events found open_yet bytes

pub all_due : (whole : List ℕ) → RunDue whole (document_start bare_start ∷ []) (Some []) whole
all_due whole =
    record { due = λ events node run in_node is. record { later = events; text = node; all = refl; run = run; in_node = in_node; bytes_are = is } }

-- the rest after an event, by what is open then
abbrev Follows : Option (List Pending) → List Event → Text → Type 0
Follows None others tail = (others ≡ []) × (tail ≡ line_feed ∷ [])
Follows (Some levels) others tail = (text : Text) × HasRunText levels others text × (tail ≡ text ++ line_feed ∷ [])

-- the next event that is due
pub record NextDue (levels : List Pending) (later : List Event) (bytes : List ℕ) : Type 0 where
  pub event : Event
  pub others : List Event
  pub tail : Text
  pub later_are : later ≡ event ∷ others
  pub in_node : IsInNode event
  pub comes : may_come levels event ≡ true
  pub ends : ends_name tail ≡ true
  pub bytes_are : bytes ≡ encode_utf8_all (event_text levels event ++ tail)
  pub follows : Follows (next_open levels event) others tail

next_due : (levels : List Pending) (later : List Event) (text : Text) (bytes : List ℕ) → HasRunText levels later text → All IsInNode later
    → bytes ≡ encode_utf8_all (text ++ line_feed ∷ []) → NextDue levels later bytes
next_due _ _ _ bytes (root_ends levels event text comes after is) in_node bytes_are =
    record {
      event = event;
      others = [];
      tail = line_feed ∷ [];
      later_are = refl;
      in_node = All-head IsInNode event [] in_node;
      comes = comes;
      ends = refl;
      bytes_are = bytes_are ∙ ap (λ (t : Text). encode_utf8_all (t ++ line_feed ∷ [])) is;
      follows = subst (λ (o : Option (List Pending)). Follows o [] (line_feed ∷ [])) (sym after) (refl, refl);
    }
next_due _ _ _ bytes (more_come levels next event events rest text comes after is run) in_node bytes_are =
    record {
      event = event;
      others = events;
      tail = rest ++ line_feed ∷ [];
      later_are = refl;
      in_node = All-head IsInNode event events in_node;
      comes = comes;
      ends = more_ends_name levels next event events rest (line_feed ∷ []) after run;
      bytes_are =
          bytes_are ∙ ap (λ (t : Text). encode_utf8_all (t ++ line_feed ∷ [])) is
          ∙ ap encode_utf8_all (append_assoc (event_text levels event) rest (line_feed ∷ []));
      follows = subst (λ (o : Option (List Pending)). Follows o events (rest ++ line_feed ∷ [])) (sym after) (rest, run, refl);
    }

pub next_of : (events found : List Event) (levels : List Pending) (bytes : List ℕ) (due : EventsDue events found levels bytes)
    → NextDue levels due.later bytes
next_of events found levels bytes due = next_due levels due.later due.text bytes due.run due.in_node due.bytes_are

-- the event that was due is read
due_by : (events found others : List Event) (levels : List Pending) (rest : List ℕ) (after : Option (List Pending)) (event : Event) (tail : Text)
    → in_document events ≡ found ++ ((event ∷ others) ++ document_end true ∷ []) → All IsInNode (event ∷ others) → rest ≡ encode_utf8_all tail
    → Follows after others tail → IsRunDue events (found ++ event ∷ []) after rest
due_by events found others levels rest None event tail all in_node is follows =
    record {
      all =
          all ∙ ap (λ (e : List Event). found ++ (event ∷ (e ++ document_end true ∷ []))) follows.0
          ∙ sym (append_assoc found (event ∷ []) (document_end true ∷ []));
      bytes_are = is ∙ ap encode_utf8_all follows.1 ∙ word_encoded (codes "\n") [] refl;
    }
due_by events found others levels rest (Some next) event tail all in_node is follows =
    record {
      later = others;
      text = follows.0;
      all = all ∙ sym (append_assoc found (event ∷ []) (others ++ document_end true ∷ []));
      run = follows.1;
      in_node = All-tail IsInNode event others in_node;
      bytes_are = is ∙ ap encode_utf8_all follows.2;
    }

pub due_more : (events found : List Event) (levels : List Pending) (bytes rest : List ℕ) (after : Option (List Pending)) (event : Event)
    → (due : EventsDue events found levels bytes) → event ≡ (next_of events found levels bytes due).event → ReadsEvent levels bytes after event rest
    → IsRunDue events (found ++ event ∷ []) after rest
due_more events found levels bytes rest after event due same read =
    let next = next_of events found levels bytes due in
    let parts = subst (λ (e : Event). bytes ≡ encode_utf8_all (event_text levels e) ++ rest) same read.parts in
    let opened = subst (λ (e : Event). next_open levels e ≡ after) same read.opened in
    subst (λ (e : Event). IsRunDue events (found ++ e ∷ []) after rest) (sym same) (due_by events found next.others levels rest after next.event next.tail
    (due.all ∙ ap (λ (e : List Event). found ++ (e ++ document_end true ∷ [])) next.later_are)
    (subst (All IsInNode) next.later_are due.in_node) (behind_text levels bytes rest next.event next.tail parts next.bytes_are)
    (subst (λ (o : Option (List Pending)). Follows o next.others next.tail) opened next.follows))

-- ---- at once

pub run_begins : (whole : List ℕ) (found : List Event) (levels : List Pending) → found ≡ document_start bare_start ∷ [] → levels ≡ []
    → RunBegun whole found levels whole × RunDue whole found (Some levels) whole
run_begins whole found levels is none =
    subst (λ (f : List Event). RunBegun whole f levels whole × RunDue whole f (Some levels) whole) (sym is)
    (subst (λ (l : List Pending). RunBegun whole (document_start bare_start ∷ []) l whole × RunDue whole (document_start bare_start ∷ []) (Some l) whole)
    (sym none) (nothing_read whole, all_due whole))

pub run_goes : (whole : List ℕ) (found new : List Event) (levels : List Pending) (bytes rest : List ℕ) (after : Option (List Pending))
    → RunBegun whole found levels bytes → RunDue whole found (Some levels) bytes → IsEventRead found levels bytes new after rest
    → RunRead whole new after rest × RunDue whole new after rest
run_goes whole found new levels bytes rest after begun due one =
    subst (λ (f : List Event). RunRead whole f after rest × RunDue whole f after rest) (sym one.pushed) (
      event_more _ _ _ _ _ _ _ begun one.read,
      record {
        due = λ events node run in_node whole_is.
            let here = due.due events node run in_node whole_is in
            let next = next_of _ _ _ _ here in
            due_more _ _ _ _ _ _ _ here (one.only next.event next.tail next.in_node next.comes next.ends next.bytes_are) one.read;
      },
    )

pub run_sound : (whole : List ℕ) (found final : List Event) (bytes : List ℕ) → RunEnded whole found bytes → final ≡ found ++ document_end true ∷ []
    → bytes ≡ codes "\n"
    → (events : List Event) × (node : Text) × (final ≡ in_document events) × HasRunText [] events node × All IsInNode events
    × (whole ≡ encode_utf8_all (node ++ line_feed ∷ []))
run_sound whole found final bytes ended is end = (
  ended.events,
  ended.text,
  is ∙ ap (λ (e : List Event). e ++ document_end true ∷ []) ended.found_are,
  ended.run,
  ended.in_node,
  ended.parts ∙ ap (λ t. encode_utf8_all ended.text ++ t) (end ∙ sym (word_encoded (codes "\n") [] refl)) ∙ sym (encodes-append ended.text (line_feed ∷ [])),
)

-- ---- why reading stops

-- no event goes on
no_run : (whole : List ℕ) (found : List Event) (levels : List Pending) (bytes : List ℕ) → RunDue whole found (Some levels) bytes
    → NoEventBegins levels bytes → (error : Stop) (events : List Event) (node : Text) → HasRunText [] events node → All IsInNode events
    → whole ≡ encode_utf8_all (node ++ line_feed ∷ []) → error ≡ stop.Memory
no_run whole found levels bytes due none error events node run in_node is =
    let next = next_of events found levels bytes (due.due events node run in_node is) in
    absurd (none next.event next.tail next.in_node next.comes next.ends next.bytes_are)

pub fails_at_event : (whole : List ℕ) (found : List Event) (levels : List Pending) (bytes : List ℕ) (error : Stop)
    → RunBegun whole found levels bytes → RunDue whole found (Some levels) bytes
    → ReadOr (λ (_ : List ℕ). Unit {0}) (NoEventBegins levels bytes) (Err error) → StopsBy (IsEventPlace levels bytes) error → RunFails whole error
fails_at_event whole found levels bytes stop.Memory begun due none place = record { stops = tt; reads = λ events node run in_node is. refl }
fails_at_event whole found levels bytes (stop.Refused left) begun due none place =
    record {
      stops = in_event levels begun.events begun.text bytes begun.begun begun.in_node begun.parts begun.over none place;
      reads = no_run whole found levels bytes due none (stop.Refused left);
    }
fails_at_event whole found levels bytes (stop.TooDeep left) begun due none place = absurd place

pub memory_fails : (whole : List ℕ) (error : Stop) → error ≡ stop.Memory → RunFails whole error
memory_fails whole error is = record { stops = subst (λ (e : Stop). RunStops whole e) (sym is) tt; reads = λ events node run in_node whole_is. is }

-- the root has ended
pub root_ended : (whole : List ℕ) (found : List Event) (bytes : List ℕ) → RunEnded whole found bytes × RunDue whole found None bytes
    → RunEnded whole found bytes
    × ((events : List Event) (node : Text) → HasRunText [] events node → All IsInNode events → whole ≡ encode_utf8_all (node ++ line_feed ∷ [])
    → EndDue events found bytes)
root_ended whole found bytes ended = (ended.0, ended.1.due)

-- and the document's end follows it, or it doesn't
pub run_ends : {T : Type 0} (whole : List ℕ) (found new : List Event) (end : Bor (List ℕ)) (result : Result T Stop) → RootRead whole found (Ok end)
    → EndRead found end.now new result → RunAnswer whole new result
run_ends whole found new end (Ok given) root read =
    record {
      sound = run_sound whole found new end.now root.0 read.0 read.1;
      only = λ events node run in_node is. read.0 ∙ sym (root.1 events node run in_node is).all;
    }
run_ends whole found new end (Err error) root read =
    record {
      stops = end_stops whole found end.now error root.0 read.0;
      reads = λ events node run in_node is. read.1 (root.1 events node run in_node is).bytes_are;
    }
  where
    end_stops : (whole : List ℕ) (found : List Event) (bytes : List ℕ) (error : Stop) → RunEnded whole found bytes
        → StopsBy (λ left. LacksEnd bytes (stop.Refused left)) error → RunStops whole error
    end_stops whole found bytes (stop.Refused left) ended lacks = after_root ended.events ended.text bytes ended.run ended.in_node ended.parts ended.over lacks
    end_stops whole found bytes (stop.TooDeep left) ended lacks = absurd lacks
    end_stops whole found bytes stop.Memory ended lacks = tt

-- the document's end, if memory for it was found
pub end_answer : {T E : Type 0} (seen : E → Event) (bytes : List ℕ) (old new : List E) (last : E) (result : Result T Stop) → seen last ≡ document_end true
    → bytes ≡ codes "\n" → OrMemory (λ _. new ≡ old ++ last ∷ []) result → EndRead (map seen old) bytes (map seen new) result
end_answer seen bytes old new last (Ok given) ends is pushed =
    (ap (map seen) pushed ∙ map-append seen old (last ∷ []) ∙ ap (λ (e : Event). map seen old ++ e ∷ []) ends, is)
end_answer seen bytes old new last (Err error) ends is pushed = (memory_placed _ error pushed, λ _. memory_only error pushed)

-- why the document's end isn't read
pub end_lacking : (bytes : List ℕ) (error : Stop) → LacksEnd bytes error
    → StopsBy (λ left. LacksEnd bytes (stop.Refused left)) error × (bytes ≡ codes "\n" → error ≡ stop.Memory)
end_lacking bytes error (no_end none place) = (
  subst (StopsBy (λ left. LacksEnd bytes (stop.Refused left))) (sym place) (no_end none refl),
  λ is. absurd (no_word (codes "\n") bytes [] none is),
)
end_lacking bytes error (more_follows end is some place) = (
  subst (StopsBy (λ left. LacksEnd bytes (stop.Refused left))) (sym place) (more_follows end is some refl),
  λ also. absurd (omega (arith, some, ap length (append_cancel_left (codes "\n") end [] (sym is ∙ also)))),
)

-- ---- less is left

pub event_shorter : (levels : List Pending) (bytes rest : List ℕ) (after : Option (List Pending)) (event : Event)
    → ReadsEvent levels bytes after event rest → length rest < length bytes
event_shorter levels bytes rest after event read =
    omega (
      arith,
      ap length read.parts,
      length-append (encode_utf8_all (event_text levels event)) rest,
      length-le-encodes (event_text levels event),
      event_some levels event read.in_node read.comes,
    )
