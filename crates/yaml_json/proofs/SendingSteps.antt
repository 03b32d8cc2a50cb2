-- The reasons that stop the sending of texts that come part by part, and the events that one of them adds.
use Rattle.yaml_json.proofs.Common.{GaveEvents, ℕ, ◌+◌, ◌-◌, ◌≤◌, flat_map, Option, drop, length, take, Bool, true, List, [], map, ◌++◌, ◌∷◌, refl, ◌≡◌}
use Rattle.yaml_json.proofs.Common.{length-drop, take-append-drop, append_assoc, inr, ap, subst, sym, ◌∙◌, arith, Token, tokens, HasScanned, CutsAt}
use Rattle.yaml_json.proofs.Common.{events_with_separators, NamesOnce, Advances, StopsWithin, texts_in, tokens_events, WroteText, WriterState}
use Rattle.yaml_json.proofs.Common.{append_cancel_right, drop-drop, SentSoFar, StopsInPart, StopsPartAt, StopsSending, HasPlaceWithin, IsPositionAfter, Cut}
use Rattle.yaml_json.proofs.Common.{StreamError, JsonError, Memory, Position, usable_by}
use Rattle.yaml_writer.{specs.WasGiven.BeginsNext, proofs.OpenLevels.closed_then, proofs.GivenAndTaken.emits_taking_more}
use Rattle.yaml_json.{proofs.TokenLemmas.texts_closed, proofs.TextsInTurn.begins_nothing, specs.Sent.FailsNext, specs.Sent.IsByReader, specs.Sent.LeavesLast}
use Rattle.yaml_json.proofs.Sending.{sending_same, placed_nowhere, documents_so, stops_between, sending_goes_on, sending_fails, sending_unbegun}
use Rattle.std.specs.Prelude.{IsUtf8}
use Rattle.yaml_json.specs.declared.error.JsonError.TheVariants as errors
use Rattle.yaml_json.specs.declared.error.StreamError.TheVariants as faults

-- ---- errors

-- If the reader fails, nothing is taken of a text.
pub stops_by_reader : (depth : ℕ) (unique : Bool) (next : List ℕ) (left : List Token) (error : StreamError) → IsByReader error
    → StopsPartAt depth unique next [] left error
stops_by_reader depth unique next left (faults.Refused error) is =
    subst (λ (e : JsonError). StopsPartAt depth unique next [] left (faults.Refused e)) (sym is) (begins_nothing depth, inr (refl, λ never. never))
stops_by_reader depth unique next left (faults.ReadFailed error) is = refl
stops_by_reader depth unique next left _ is = absurd is

-- and has no place
pub nowhere_by_reader : (depth : ℕ) (error : StreamError) → IsByReader error → (front part : List ℕ) → HasPlaceWithin depth front part error
nowhere_by_reader depth (faults.Refused error) is front part =
    subst (λ (e : JsonError). HasPlaceWithin depth front part (faults.Refused e)) (sym is) (placed_nowhere depth Memory front part)
nowhere_by_reader depth (faults.NotText position) is front part = absurd is
nowhere_by_reader depth _ is front part = tt

module _ (depth : ℕ) (in_flow unique : Bool) (text : List ℕ) (was : WriterState) (start : Option (List ℕ)) (rest : List ℕ) (now : WriterState)
    (held : Option (List ℕ)) (sending : SentSoFar depth in_flow unique text was start rest now held) where
  -- nothing is taken of the next text
  pub stops_here : (error : StreamError) → ((next : List ℕ) (left : List Token) → StopsPartAt depth unique next [] left error)
      → ((front part : List ℕ) → HasPlaceWithin depth front part error) → StopsSending depth unique in_flow text was start error now held
  stops_here error why place =
      stops_between _ _ _ _ _ _ rest _ _ _ _ sending.cut sending.each sending.utf8 sending.names sending.wrote _ why place
      (documents_so _ _ _ _ _ _ sending.wrote.emits _ _ sending.sends sending.whole)

  -- the next text stops the sending
  pub stops_next_text : (first : List ℕ) (later : List (List ℕ)) → texts_in rest ≡ first ∷ later → (error : StreamError) (after : WriterState)
      → (front : List ℕ) → front ++ rest ≡ text → StopsInPart depth unique in_flow front first now error after
      → StopsSending depth unique in_flow text was start error after held
  stops_next_text first later cut error after front whole stops =
      let same : front ≡ flat_map (λ part. part.0) sending.parts =
      append_cancel_right front (flat_map (λ part. part.0) sending.parts) rest (whole ∙ sym sending.joined) in
      let events = tokens_events was.canonical in_flow stops.taken in
      let gave : GaveEvents now events after =
      subst (λ (canonical : Bool). GaveEvents now (tokens_events canonical in_flow stops.taken) after) sending.wrote.canonical stops.gave in
      record {
        parts = sending.parts;
        next = first;
        later = later;
        cut = ap (λ (texts : List (List ℕ)). map (λ part. part.0) sending.parts ++ texts) (sym cut) ∙ sending.cut;
        each = sending.each;
        utf8 = sending.utf8;
        names = sending.names;
        taken = stops.taken;
        left = stops.left;
        split = stops.split;
        why = stops.why;
        place = subst (λ (f : List ℕ). HasPlaceWithin depth f first error) same stops.place;
        handed = sending.handed;
        emits = emits_taking_more sending.wrote.emits gave.emits;
        usable = closed_then was now after (events_with_separators was.canonical in_flow sending.parts) events
            (texts_closed was.canonical in_flow sending.parts was.levels) sending.wrote.canonical sending.wrote.levels (usable_by now after events gave);
        documents = documents_so in_flow sending.parts was start sending.handed now.emitter sending.wrote.emits error held sending.sends sending.whole;
      }

-- ---- the rest of some bytes

pub whole_suffix : (held rest : List ℕ) → rest ≡ held → (length rest ≤ length held) × (drop (length held - length rest) held ≡ rest)
whole_suffix held rest is =
    let same : length rest ≡ length held = ap length is in
    let none : length held - length rest ≡ 0 = omega (arith, same) in
    (omega (arith, same), ap (λ n. drop n held) none ∙ sym is)

pub suffix_on : (held rest left : List ℕ) (end : ℕ) → length rest ≤ length held → drop (length held - length rest) held ≡ rest → end ≤ length rest
    → left ≡ drop end rest → (length left ≤ length held) × (drop (length held - length left) held ≡ left)
suffix_on held rest left end most is within same =
    let shorter : length left ≡ length rest - end = ap length same ∙ length-drop end rest in
    let further : length held - length left ≡ (length held - length rest) + end = omega (arith, shorter, most, within) in (
      omega (arith, shorter, most),
      ap (λ n. drop n held) further ∙ sym (drop-drop end (length held - length rest) held) ∙ ap (drop end) is ∙ sym same,
    )

pub left_scanned : (slice held now : List ℕ) (count : ℕ) (cut same : Cut) → slice ≡ held → now ≡ drop (length held - count) held → same ≡ cut
    → LeavesLast count slice cut → HasScanned now same × (same.scanned ≡ length now)
left_scanned slice held now count cut same is kept keeps leaves =
    let found = subst (λ (t : List ℕ). LeavesLast count t cut) is leaves in
    subst (λ (c : Cut). HasScanned now c × (c.scanned ≡ length now)) (sym keeps)
    (subst (λ (t : List ℕ). HasScanned t cut × (cut.scanned ≡ length t)) (sym kept) (found.scanned, found.all))

pub left_within : (slice held : List ℕ) (count : ℕ) (cut : Cut) → slice ≡ held → LeavesLast count slice cut → count ≤ length held
left_within slice held count cut is leaves = (subst (λ (t : List ℕ). LeavesLast count t cut) is leaves).within

-- ---- the input that came, text by text

module _ (depth : ℕ) (in_flow unique : Bool) (ahead : List ℕ) (before : WriterState) (held : Option (List ℕ)) where
  pub advances_none : (same : List ℕ) → same ≡ ahead → Advances depth in_flow unique ahead before held same before held
  advances_none same is text was start more sending =
      sending_same depth in_flow unique text was start (ahead ++ more) (same ++ more) before held (ap (λ (all : List ℕ). all ++ more) (sym is)) sending

  module _ (rest : List ℕ) (now : WriterState) (holds : Option (List ℕ)) (advances : Advances depth in_flow unique ahead before held rest now holds) where
    pub advances_same : (same : List ℕ) → rest ≡ same → Advances depth in_flow unique ahead before held same now holds
    advances_same same is = subst (λ (left : List ℕ). Advances depth in_flow unique ahead before held left now holds) is advances

    pub advances_left : (ahead_same left : List ℕ) (count : ℕ) → rest ≡ drop (length ahead - count) ahead → ahead ≡ ahead_same
        → left ≡ drop (length ahead_same - count) ahead_same → Advances depth in_flow unique ahead_same before held left now holds
    advances_left ahead_same left count drops is kept =
        subst (λ (all : List ℕ). Advances depth in_flow unique ahead_same before held all now holds)
        (drops ∙ ap (λ (all : List ℕ). drop (length all - count) all) is ∙ sym kept)
        (subst (λ (all : List ℕ). Advances depth in_flow unique all before held rest now holds) is advances)

    module _ (end : ℕ) (cuts : CutsAt rest end) where
      -- the first of the texts stops the sending
      pub stops_at_first : (place : Position) (error : StreamError) (after : WriterState) (done : List ℕ) → done ++ rest ≡ ahead
          → ((front : List ℕ) → IsPositionAfter front place → StopsInPart depth unique in_flow (front ++ done) (take end rest) now error after)
          → StopsWithin depth in_flow unique ahead place before held error after holds
      stops_at_first place error after done parts stops text was start more front follows whole sending =
          stops_next_text depth in_flow unique text was start (rest ++ more) now holds (advances text was start more sending) (take end rest)
          (texts_in (drop end rest ++ more)) (cuts.cut more) error after (front ++ done)
          (append_assoc front done (rest ++ more) ∙ ap (λ (t : List ℕ). front ++ t) (sym (append_assoc done rest more))
          ∙ ap (λ (t : List ℕ). front ++ (t ++ more)) parts ∙ whole) (stops front follows)

      cut_off : (more : List ℕ) → take end rest ++ (drop end rest ++ more) ≡ rest ++ more
      cut_off more = sym (append_assoc (take end rest) (drop end rest) more) ∙ ap (λ (all : List ℕ). all ++ more) (take-append-drop end rest)

      -- or it is given
      module _ (given : WriterState) (named : unique ≡ true → NamesOnce [] (tokens (take end rest))) (readable : IsUtf8 (take end rest))
          (one : WroteText depth in_flow (take end rest) now given) where
        -- and the next document begun
        pub advances_on : (after : WriterState) (later : Option (List ℕ)) → BeginsNext given holds after later
            → Advances depth in_flow unique ahead before held (drop end rest) after later
        advances_on after later next text was start more sending =
            sending_goes_on depth in_flow unique text was start (rest ++ more) now holds (advances text was start more sending) (take end rest)
            (drop end rest ++ more) (texts_in (drop end rest ++ more)) (cut_off more) (cuts.cut more) given named readable one after later refl next

        -- or it isn't, or the sink fails
        pub stops_next : (place : Position) (error : StreamError) (after : WriterState) (later : Option (List ℕ)) → FailsNext given holds error after later
            → StopsWithin depth in_flow unique ahead place before held error after later
        stops_next place (faults.WriteFailed fault) after later fails text was start more front follows whole sending =
            sending_fails depth in_flow unique text was start (rest ++ more) now holds (advances text was start more sending) (take end rest)
            (drop end rest ++ more) (texts_in (drop end rest ++ more)) (cut_off more) (cuts.cut more) given named readable one after later fault refl fails
        stops_next place (faults.Refused (errors.Emitter code)) after later fails text was start more front follows whole sending =
            sending_unbegun _ _ _ _ _ _ _ _ _ (advances text was start more sending) _ (drop end rest ++ more) (texts_in (drop end rest ++ more)) (cut_off more)
            (cuts.cut more) _ named readable one _ _ _ refl fails.0 fails.1
        stops_next place _ after later fails text was start more front follows whole sending = absurd fails
