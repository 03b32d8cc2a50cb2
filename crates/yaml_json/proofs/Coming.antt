-- The parts of JSON texts as they come, and the last of the texts.
use Rattle.yaml_json.proofs.Common.{ℕ, IfSome, Option, None, Some, length, Bool, true, List, [], ◌++◌, refl, ◌≡◌, append-nil, append_assoc, ap, subst, sym, ◌∙◌}
use Rattle.yaml_json.proofs.Common.{Appends, Token, tokens, HasScanned, NamesOnce, Advances, StopsWithin, IsBare, WroteText, WriterState, Ok, Err, Result}
use Rattle.yaml_json.proofs.Common.{Position, Grew, Cut, StreamError, SentSoFar, StopsInPart, StopsPartAt, StopsSending, emitter_error, HasPlaceWithin}
use Rattle.yaml_json.proofs.Common.{IsPositionAfter, MovesPosition}
use Rattle.yaml_json.proofs.{Sending.sending_begins, Sending.sending_same, Sending.all_given, SendingSteps.stops_here, SendingSteps.stops_next_text}
use Rattle.yaml_json.proofs.{YamlOf.HaveScalarTexts, Growing.grew_then, Cutting.whole_text, Stopping.if_some}
use Rattle.yaml_json.specs.{declared.stream.Incoming.Incoming, declared.settings.JsonSettings.JsonSettings, Sent.SentTexts, Sent.HasCome}
use Rattle.yaml_json.specs.SendingCalls.{LastStep, SendsTexts}
use Rattle.yaml_pen.proofs.Composing.{grows_then}
use Rattle.std.specs.{Io.KnownBytes.Keeps, Io.KnownBytes.Consumes, Io.KnownBytes.IsAtEnd, Prelude.IsUtf8}

-- ---- parts

-- these bytes are held, and those that are left come yet
pub record Comes (depth : ℕ) (in_flow unique : Bool) (text : List ℕ) (was : WriterState) (start : Option (List ℕ)) (held : List ℕ) (place : Position)
    (ahead : Option (List ℕ)) (now : WriterState) (holds : Option (List ℕ)) : Type 0 where
  pub left : List ℕ
  pub known : ahead ≡ Some left
  pub sending : SentSoFar depth in_flow unique text was start (held ++ left) now holds
  pub front : List ℕ
  pub follows : IsPositionAfter front place
  pub whole : front ++ (held ++ left) ≡ text

pub comes_first : (depth : ℕ) (in_flow unique : Bool) (was : WriterState) (start ahead : Option (List ℕ)) (held : List ℕ) (place : Position) → held ≡ []
    → IsPositionAfter [] place → IsBare was → IfSome ahead (λ text. Comes depth in_flow unique text was start held place ahead was start)
comes_first depth in_flow unique was start None held place none first bare = tt
comes_first depth in_flow unique was start (Some text) held place none first bare =
    record {
      left = text;
      known = refl;
      front = [];
      follows = first;
      whole = ap (λ (all : List ℕ). all ++ text) none;
      sending = sending_same _ _ _ _ _ _ _ _ _ _ (ap (λ (all : List ℕ). all ++ text) (sym none)) (sending_begins _ _ _ _ _ _ bare);
    }

-- a flush keeps them
kept_appends : (start holds later : Option (List ℕ)) (handed : List ℕ) → Appends start holds handed → Keeps holds later → Appends start later handed
kept_appends None holds later handed appends keeps = tt
kept_appends (Some bytes) None later handed appends keeps = absurd appends
kept_appends (Some bytes) (Some more) None handed appends keeps = absurd keeps
kept_appends (Some bytes) (Some more) (Some same) handed appends keeps = keeps ∙ appends

sending_kept : (depth : ℕ) (in_flow unique : Bool) (text : List ℕ) (was : WriterState) (start : Option (List ℕ)) (rest : List ℕ) (now : WriterState)
    (holds later : Option (List ℕ)) → Keeps holds later → SentSoFar depth in_flow unique text was start rest now holds
    → SentSoFar depth in_flow unique text was start rest now later
sending_kept depth in_flow unique text was start rest now holds later keeps sending =
    record {
      parts = sending.parts;
      joined = sending.joined;
      cut = sending.cut;
      each = sending.each;
      utf8 = sending.utf8;
      names = sending.names;
      handed = sending.handed;
      sends = kept_appends start holds later sending.handed sending.sends keeps;
      wrote = sending.wrote;
      whole = sending.whole;
    }

consumed_some : (bytes left : List ℕ) (later : Option (List ℕ)) → Consumes (Some left) later bytes
    → (more : List ℕ) × (later ≡ Some more) × (left ≡ bytes ++ more)
consumed_some bytes left None consumes = absurd consumes
consumed_some bytes left (Some more) consumes = (more, refl, consumes)

-- none came
pub none_came : (ahead later : Option (List ℕ)) → Keeps ahead later → Consumes ahead later []
none_came None later keeps = tt
none_came (Some bytes) None keeps = absurd keeps
none_came (Some bytes) (Some same) keeps = sym keeps

module _ (depth : ℕ) (in_flow unique : Bool) (was : WriterState) (start : Option (List ℕ)) where
  -- more came
  pub more_came : {A : Type 0} (first : Option (List ℕ)) (before after : Incoming A) (ahead later : Option (List ℕ)) (now : WriterState)
      (holds : Option (List ℕ)) → HasCome before ahead after later
      → after.reading.position ≡ before.reading.position
      → IfSome first (λ text. Comes depth in_flow unique text was start before.held.items before.reading.position ahead now holds)
      → IfSome first (λ text. Comes depth in_flow unique text was start after.held.items after.reading.position later now holds)
  more_came first before after ahead later now holds (bytes, is, consumes) stays =
      let held = before.held.items in
      if_some first
      (λ text come. let found = consumed_some bytes come.left later (subst (λ (known : Option (List ℕ)). Consumes known later bytes) come.known consumes) in
      let same : held ++ come.left ≡ after.held.items ++ found.0 =
      ap (λ (more : List ℕ). held ++ more) found.2 ∙ sym (append_assoc held bytes found.0) ∙ ap (λ (all : List ℕ). all ++ found.0) (sym is) in
      record {
        left = found.0;
        known = found.1;
        sending = sending_same depth in_flow unique text was start (held ++ come.left) (after.held.items ++ found.0) now holds same come.sending;
        front = come.front;
        follows = subst (IsPositionAfter come.front) (sym stays) come.follows;
        whole = ap (λ (all : List ℕ). come.front ++ all) (sym same) ∙ come.whole;
      })

  -- the texts that are complete were given
  pub complete_given : (first : Option (List ℕ)) (held left : List ℕ) (place moved : Position) (ahead : Option (List ℕ)) (before now : WriterState)
      (holds later : Option (List ℕ)) → Advances depth in_flow unique held before holds left now later → MovesPosition held left place moved
      → IfSome first (λ text. Comes depth in_flow unique text was start held place ahead before holds)
      → IfSome first (λ text. Comes depth in_flow unique text was start left moved ahead now later)
  complete_given first held left place moved ahead before now holds later advances moves =
      if_some first
      (λ text come. record {
        left = come.left;
        known = come.known;
        sending = advances text was start come.left come.sending;
        front = come.front ++ moves.dropped;
        follows = moves.follows come.front come.follows;
        whole = append_assoc come.front moves.dropped (left ++ come.left)
            ∙ ap (λ (all : List ℕ). come.front ++ all) (sym (append_assoc moves.dropped left come.left))
            ∙ ap (λ (all : List ℕ). come.front ++ (all ++ come.left)) moves.parts ∙ come.whole;
      })

  -- the sink was flushed
  pub comes_kept : (first : Option (List ℕ)) (held : List ℕ) (place : Position) (ahead : Option (List ℕ)) (now : WriterState)
      (holds later : Option (List ℕ)) → Keeps holds later → IfSome first (λ text. Comes depth in_flow unique text was start held place ahead now holds)
      → IfSome first (λ text. Comes depth in_flow unique text was start held place ahead now later)
  comes_kept first held place ahead now holds later keeps =
      if_some first
      (λ text come. record {
        left = come.left;
        known = come.known;
        sending = sending_kept depth in_flow unique text was start (held ++ come.left) now holds later keeps come.sending;
        front = come.front;
        follows = come.follows;
        whole = come.whole;
      })

  -- or not all of them
  pub complete_stopped : (first : Option (List ℕ)) (held : List ℕ) (place : Position) (ahead : Option (List ℕ)) (before : WriterState)
      (holds later : Option (List ℕ)) (error : StreamError) (after : WriterState)
      → StopsWithin depth in_flow unique held place before holds error after later
      → IfSome first (λ text. Comes depth in_flow unique text was start held place ahead before holds)
      → IfSome first (λ text. StopsSending depth unique in_flow text was start error after later)
  complete_stopped first held place ahead before holds later error after stops =
      if_some first (λ text come. stops text was start come.left come.front come.follows come.whole come.sending)

  -- Nothing is taken of the next text.
  pub comes_stopped : (first : Option (List ℕ)) (held : List ℕ) (place : Position) (ahead : Option (List ℕ)) (now : WriterState)
      (holds : Option (List ℕ)) (error : StreamError) → ((next : List ℕ) (left : List Token) → StopsPartAt depth unique next [] left error)
      → ((front part : List ℕ) → HasPlaceWithin depth front part error)
      → IfSome first (λ text. Comes depth in_flow unique text was start held place ahead now holds)
      → IfSome first (λ text. StopsSending depth unique in_flow text was start error now holds)
  comes_stopped first held place ahead now holds error why nowhere =
      if_some first (λ text come. stops_here depth in_flow unique text was start (held ++ come.left) now holds come.sending error why nowhere)

-- ---- the last text

module _ (depth : ℕ) (in_flow unique : Bool) (was : WriterState) (start : Option (List ℕ)) (held : List ℕ) (place : Position)
    (ahead : Option (List ℕ)) (now : WriterState) (holds : Option (List ℕ)) (ended : IsAtEnd ahead) (scan : Cut) (scanned : HasScanned held scan)
    (all : scan.scanned ≡ length held) where
  no_more_held : (text : List ℕ) → (comes : Comes depth in_flow unique text was start held place ahead now holds) → held ++ comes.left ≡ held
  no_more_held text comes =
      let none : comes.left ≡ [] = subst IsAtEnd comes.known ended in
      ap (λ (more : List ℕ). held ++ more) none ∙ append-nil held

  last_left : (text : List ℕ) → Comes depth in_flow unique text was start held place ahead now holds
      → SentSoFar depth in_flow unique text was start held now holds
  last_left text comes = sending_same depth in_flow unique text was start (held ++ comes.left) held now holds (no_more_held text comes) comes.sending

  last_given : (given : WriterState) (first : Option (List ℕ)) → (unique ≡ true → NamesOnce [] (tokens held)) → IsUtf8 held
      → WroteText depth in_flow held now given → HaveScalarTexts given.emitter.events
      → IfSome first (λ text. Comes depth in_flow unique text was start held place ahead now holds)
      → IfSome first (λ text. SentTexts depth unique in_flow text was start given holds)
  last_given given first named readable one scalars =
      if_some first (λ text come. all_given depth in_flow unique text was start held now holds (last_left text come) held [] [] (append-nil held)
      (whole_text held scan scanned all) given named readable one refl refl scalars)

  last_stopped : (first : Option (List ℕ)) (error : StreamError) (after : WriterState)
      → ((front : List ℕ) → IsPositionAfter front place → StopsInPart depth unique in_flow front held now error after)
      → IfSome first (λ text. Comes depth in_flow unique text was start held place ahead now holds)
      → IfSome first (λ text. StopsSending depth unique in_flow text was start error after holds)
  last_stopped first error after stops =
      if_some first (λ text come. stops_next_text _ _ _ _ _ _ _ _ _ (last_left text come) _ [] (whole_text _ _ scanned all) _ _ _
      (ap (λ (all_held : List ℕ). come.front ++ all_held) (sym (no_more_held text come)) ∙ come.whole) (stops come.front come.follows))

-- as the last text's result says
pub ends_sending : (settings : JsonSettings) (was : WriterState) (start : Option (List ℕ)) (held : List ℕ) (place : Position) (ahead : Option (List ℕ))
    (now : WriterState) (holds : Option (List ℕ)) → IsAtEnd ahead → (scan : Cut) → HasScanned held scan → scan.scanned ≡ length held
    → (result : Result (Unit {0}) StreamError) (after : WriterState) (first : Option (List ℕ)) → Grew was None now
    → LastStep settings held place now result after → HaveScalarTexts after.emitter.events
    → IfSome first (λ text. Comes settings.values.depth settings.values.flow settings.unique_names text was start held place ahead now holds)
    → SendsTexts settings first ahead was start result after holds
ends_sending settings was start held place ahead now holds ended scan scanned all (Ok done) after first grew gave scalars come =
    record {
      grows = grows_then {between = now.emitter.page} grew.grows gave.given.kept.grows;
      sound = gave.given.kept.sound;
      ended = ended;
      bare = gave.given.written.wrote.bare;
      sent = last_given settings.values.depth settings.values.flow settings.unique_names was start held place ahead now holds ended scan scanned all after first
          gave.given.names gave.utf8 gave.given.written scalars come;
    }
ends_sending settings was start held place ahead now holds ended scan scanned all (Err error) after first grew stops scalars come =
    let grown = grew_then was now after (emitter_error error) grew stops.grew in
    record {
      grows = grown.grows;
      sound = grown.sound;
      stopped = last_stopped settings.values.depth settings.values.flow settings.unique_names was start held place ahead now holds ended scan scanned all first error
          after stops.stopped come;
    }
