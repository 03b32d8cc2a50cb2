-- JSON texts that come part by part, in turn.
use Rattle.yaml_json.proofs.Common.{GaveEvents, ℕ, flat_map, Option, Bool, true, List, [], map, ◌++◌, ◌∷◌, ◌⊎◌, refl, ◌≡◌, append-nil, append_assoc, inl, inr}
use Rattle.yaml_json.proofs.Common.{ap, subst, sym, ◌∙◌, arith, map-append, Appends, Event, Json, tokens, FailedHaving, between, events_with_separators}
use Rattle.yaml_json.proofs.Common.{json_events, IsBare, NamesOnce, HaveNamesOnce, texts_in, WasGiven, WroteText, AreJson, parts_events, State, Token}
use Rattle.yaml_json.proofs.Common.{WriterState, yaml_error_t, StreamError, HasPlaceWithin, SentSoFar, StopsPartAt, StopsSending}
use Rattle.yaml_writer.proofs.OpenLevels.{usable_same}
use Rattle.yaml_writer.proofs.GivenAndTaken.{took_nothing, emits_taking_then, taking_then, took_none, taking_same}
use Rattle.yaml_writer.specs.WasGiven.{EmitsTaking, IsAllTaken, WroteTaking, BeginsNext, NextUnsent}
use Rattle.yaml_json.proofs.{TokenLemmas.texts_closed, YamlOf.HaveScalarTexts, YamlOf.sent_reads, SentParts.gives_all, SentParts.separated}
use Rattle.yaml_json.proofs.TextsInTurn.{ends_with, one_more, joined_more, text_names, more_names, some_text, begins_nothing}
use Rattle.yaml_json.specs.Sent.{AreUtf8, MayBeUnsent, SentTexts, SentDocuments}
use Rattle.std.specs.{Prelude.IsUtf8, declared.io.Error.Error}
use Rattle.std.proofs.{lemmas.Str.IsUtf8-append, lemmas.Str.IsUtf8-nil, KnownBytes.Appends-nil, KnownBytes.Appends-trans}
use Rattle.yaml_json.specs.declared.error.JsonError.TheVariants as errors
use Rattle.yaml_json.specs.declared.error.StreamError.TheVariants as faults

-- ---- the texts in turn

pub sending_begins : (depth : ℕ) (in_flow unique : Bool) (text : List ℕ) (was : WriterState) (held : Option (List ℕ)) → IsBare was
    → SentSoFar depth in_flow unique text was held text was held
sending_begins depth in_flow unique text was held bare =
    record {
      parts = [];
      joined = refl;
      cut = refl;
      each = tt;
      utf8 = tt;
      names = tt;
      handed = [];
      sends = Appends-nil held;
      wrote = took_nothing was bare;
      whole = inl (refl, refl);
    }

-- The bytes ahead are these.
pub sending_same : (depth : ℕ) (in_flow unique : Bool) (text : List ℕ) (was : WriterState) (start : Option (List ℕ)) (rest same : List ℕ)
    (now : WriterState) (held : Option (List ℕ)) → rest ≡ same → SentSoFar depth in_flow unique text was start rest now held
    → SentSoFar depth in_flow unique text was start same now held
sending_same depth in_flow unique text was start rest same now held is = subst (λ (r : List ℕ). SentSoFar depth in_flow unique text was start r now held) is

-- texts that are UTF-8, one after another
utf8_joined : (parts : List (List ℕ × Json)) → AreUtf8 parts → IsUtf8 (flat_map (λ part. part.0) parts)
utf8_joined [] all = IsUtf8-nil
utf8_joined (part ∷ parts) all = IsUtf8-append part.0 (flat_map (λ part. part.0) parts) all.0 (utf8_joined parts all.1)

more_utf8 : (parts : List (List ℕ × Json)) (last : List ℕ × Json) → AreUtf8 parts → IsUtf8 last.0 → AreUtf8 (parts ++ last ∷ [])
more_utf8 [] last all more = (more, tt)
more_utf8 (part ∷ parts) last all more = (all.0, more_utf8 parts last all.1 more)

-- no document is unsent
none_unsent : (error : StreamError) → MayBeUnsent error []
none_unsent (faults.Refused (errors.Emitter code)) = omega arith
none_unsent _ = refl

-- an error of the emitter has no place
pub placed_nowhere : (depth : ℕ) (code : yaml_error_t) (front part : List ℕ) → HasPlaceWithin depth front part (faults.Refused (errors.Emitter code))
placed_nowhere depth code front part = (0, ((λ less. tt), tt))

-- The bytes that were sent, if no more are offered.
module _ (in_flow : Bool) (parts : List (List ℕ × Json)) (was : WriterState) (start : Option (List ℕ)) (handed : List ℕ) (then : State)
    (wrote : EmitsTaking was.emitter (events_with_separators was.canonical in_flow parts) handed then) where
  taken_so : EmitsTaking was.emitter (events_with_separators was.canonical in_flow parts) (handed ++ []) then
  taken_so = subst (λ (b : List ℕ). EmitsTaking was.emitter (events_with_separators was.canonical in_flow parts) b then) (sym (append-nil handed)) wrote

  whole_so : ((parts ≡ []) × (handed ≡ [])) ⊎ IsAllTaken then → ((parts ≡ []) × (handed ++ [] ≡ [])) ⊎ IsAllTaken then
  whole_so (inl none) = inl (none.0, append-nil handed ∙ none.1)
  whole_so (inr all) = inr all

  -- all of them
  pub documents_so : (error : StreamError) (held : Option (List ℕ)) → Appends start held handed → ((parts ≡ []) × (handed ≡ [])) ⊎ IsAllTaken then
      → SentDocuments in_flow parts was start error handed held
  documents_so error held sends whole =
      record {
        sent = parts;
        unsent = [];
        are = append-nil parts;
        most = none_unsent error;
        offered = [];
        sends = gives_all error start held handed sends;
        then = then;
        wrote = taken_so;
        whole = whole_so whole;
      }

  -- all but the last, at which the writer failed
  documents_but : (last : List ℕ × Json) (code : yaml_error_t) (held : Option (List ℕ)) → Appends start held handed
      → ((parts ≡ []) × (handed ≡ [])) ⊎ IsAllTaken then
      → SentDocuments in_flow (parts ++ last ∷ []) was start (faults.Refused (errors.Emitter code)) handed held
  documents_but last code held sends whole =
      record {
        sent = parts;
        unsent = last ∷ [];
        are = refl;
        most = omega arith;
        offered = [];
        sends = (refl, sends);
        then = then;
        wrote = taken_so;
        whole = whole_so whole;
      }

-- Nothing is taken of the next text.
pub stops_between : (depth : ℕ) (in_flow unique : Bool) (text : List ℕ) (was : WriterState) (start : Option (List ℕ)) (rest : List ℕ)
    (now : WriterState) (holds : Option (List ℕ)) (parts : List (List ℕ × Json)) (handed : List ℕ)
    → map (λ part. part.0) parts ++ texts_in rest ≡ texts_in text → AreJson depth parts → AreUtf8 parts
    → HaveNamesOnce unique (map (λ part. part.0) parts) → WroteTaking was (events_with_separators was.canonical in_flow parts) handed now
    → (error : StreamError) → ((next : List ℕ) (left : List Token) → StopsPartAt depth unique next [] left error)
    → ((front part : List ℕ) → HasPlaceWithin depth front part error) → SentDocuments in_flow parts was start error handed holds
    → StopsSending depth unique in_flow text was start error now holds
stops_between depth in_flow unique text was start rest now holds parts handed cut each utf8 names wrote error why place documents =
    let found = some_text rest in
    let events = events_with_separators was.canonical in_flow parts in
    record {
      parts = parts;
      next = found.0;
      later = found.1;
      cut = ap (λ (texts : List (List ℕ)). map (λ part. part.0) parts ++ texts) (sym found.2) ∙ cut;
      each = each;
      utf8 = utf8;
      names = names;
      taken = [];
      left = tokens found.0;
      split = refl;
      why = why found.0 (tokens found.0);
      place = place (flat_map (λ part. part.0) parts) found.0;
      handed = handed;
      emits = subst (λ (all : List Event). EmitsTaking was.emitter all handed now.emitter) (sym (append-nil events)) wrote.emits;
      usable = usable_same was now events (events ++ []) (sym (append-nil events))
          (record { canonical = wrote.canonical; levels = wrote.levels ∙ sym (texts_closed was.canonical in_flow parts was.levels); bare = wrote.bare });
      documents = documents;
    }

-- the texts given so far, and one more
module _ (depth : ℕ) (in_flow unique : Bool) (text : List ℕ) (was : WriterState) (start : Option (List ℕ)) (rest : List ℕ) (now : WriterState)
    (held : Option (List ℕ)) (sending : SentSoFar depth in_flow unique text was start rest now held) (first left : List ℕ) (later : List (List ℕ))
    (joined : first ++ left ≡ rest) (cut : texts_in rest ≡ first ∷ later) (given : WriterState)
    (named : unique ≡ true → NamesOnce [] (tokens first)) (readable : IsUtf8 first) (one : WroteText depth in_flow first now given) where
  abbrev all_parts : List (List ℕ × Json)
  all_parts = sending.parts ++ (first, one.json) ∷ []

  events_given : WroteTaking now (json_events was.canonical in_flow one.json) [] given
  events_given = took_none _ _ _ (subst (λ (canonical : Bool). WasGiven now (json_events canonical in_flow one.json) given) sending.wrote.canonical one.wrote)

  joined_now : flat_map (λ part. part.0) all_parts ++ left ≡ text
  joined_now = joined_more sending.parts (first, one.json) left ∙ ap (λ (t : List ℕ). flat_map (λ part. part.0) sending.parts ++ t) joined ∙ sending.joined

  cut_now : map (λ part. part.0) all_parts ++ later ≡ texts_in text
  cut_now =
      ap (λ (texts : List (List ℕ)). texts ++ later) (map-append (λ (part : List ℕ × Json). part.0) sending.parts ((first, one.json) ∷ []))
      ∙ append_assoc (map (λ part. part.0) sending.parts) (first ∷ []) later
      ∙ ap (λ (texts : List (List ℕ)). map (λ part. part.0) sending.parts ++ texts) (sym cut) ∙ sending.cut

  each_now : AreJson depth all_parts
  each_now = one_more depth sending.parts (first, one.json) sending.each one.read

  pub names_now : HaveNamesOnce unique (map (λ part. part.0) all_parts)
  names_now = more_names unique sending.parts (first, one.json) sending.names (text_names unique first named)

  utf8_now : AreUtf8 all_parts
  utf8_now = more_utf8 sending.parts (first, one.json) sending.utf8 readable

  -- with the events that begin the next document
  emits_next : {after : State} {bytes : List ℕ} → EmitsTaking given.emitter between bytes after
      → EmitsTaking was.emitter (events_with_separators was.canonical in_flow all_parts) (sending.handed ++ bytes) after
  emits_next {after} {bytes} next =
      subst (λ (all : List Event). EmitsTaking was.emitter all (sending.handed ++ bytes) after)
      (separated was.canonical in_flow sending.parts (first, one.json)) (emits_taking_then sending.wrote.emits (emits_taking_then events_given.emits next))

  wrote_next : (after : WriterState) (bytes : List ℕ) → WroteTaking given between bytes after
      → WroteTaking was (events_with_separators was.canonical in_flow all_parts) (sending.handed ++ bytes) after
  wrote_next after bytes next =
      record {
        emits = emits_next next.emits;
        canonical = next.canonical ∙ one.wrote.canonical ∙ sending.wrote.canonical;
        levels = next.levels ∙ one.wrote.levels ∙ sending.wrote.levels;
        bare = next.bare;
      }

  -- and the next document is begun
  pub sending_goes_on : (after : WriterState) (holds : Option (List ℕ)) → later ≡ texts_in left → BeginsNext given held after holds
      → SentSoFar depth in_flow unique text was start left after holds
  sending_goes_on after holds is next =
      record {
        parts = all_parts;
        joined = joined_now;
        cut = ap (λ (texts : List (List ℕ)). map (λ part. part.0) all_parts ++ texts) (sym is) ∙ cut_now;
        each = each_now;
        utf8 = utf8_now;
        names = names_now;
        handed = sending.handed ++ next.bytes;
        sends = Appends-trans start held holds sending.handed next.bytes sending.sends next.sends;
        wrote = wrote_next after next.bytes next.wrote;
        whole = inr next.whole;
      }

  -- or it isn't
  module _ (is : later ≡ texts_in left) (after : WriterState) (gave : GaveEvents given between after) where
    stops_begun : (error : StreamError) (holds : Option (List ℕ)) → ((next : List ℕ) (left : List Token) → StopsPartAt depth unique next [] left error)
        → ((front part : List ℕ) → HasPlaceWithin depth front part error) → SentDocuments in_flow all_parts was start error sending.handed holds
        → StopsSending depth unique in_flow text was start error after holds
    stops_begun error holds =
        stops_between depth in_flow unique text was start left after holds all_parts sending.handed
        (ap (λ (texts : List (List ℕ)). map (λ part. part.0) all_parts ++ texts) (sym is) ∙ cut_now) each_now utf8_now names_now
        (subst (λ (bytes : List ℕ). WroteTaking was (events_with_separators was.canonical in_flow all_parts) bytes after) (append-nil sending.handed)
        (wrote_next after [] (took_none given after between gave))) error

  -- since the sink failed
  pub sending_fails : (after : WriterState) (holds : Option (List ℕ)) (fault : Error) → later ≡ texts_in left → NextUnsent given held after holds
      → StopsSending depth unique in_flow text was start (faults.WriteFailed fault) after holds
  sending_fails after holds fault is fails =
      stops_begun is after fails.gave (faults.WriteFailed fault) holds (λ next left. refl) (λ front part. tt)
      (record {
        sent = all_parts;
        unsent = [];
        are = append-nil all_parts;
        most = refl;
        offered = fails.offered;
        sends = (fails.sends.0, fails.sends.1, Appends-trans start held holds sending.handed fails.sends.0 sending.sends fails.sends.2);
        then = fails.then;
        wrote = emits_next fails.wrote;
        whole = inr fails.whole;
      })

  -- or the writer
  pub sending_unbegun : (after : WriterState) (holds : Option (List ℕ)) (code : yaml_error_t) → later ≡ texts_in left
      → FailedHaving given between code after → holds ≡ held
      → StopsSending depth unique in_flow text was start (faults.Refused (errors.Emitter code)) after holds
  sending_unbegun after holds code is failed same =
      stops_begun is after failed.gave (faults.Refused (errors.Emitter code)) holds (λ next left. (begins_nothing depth, inr (refl, λ is. is)))
      (placed_nowhere depth code) (documents_but in_flow sending.parts was start sending.handed now.emitter sending.wrote.emits (first, one.json) code holds
      (subst (λ (h : Option (List ℕ)). Appends start h sending.handed) (sym same) sending.sends) sending.whole)

  -- or nothing follows
  module _ (none : left ≡ []) (last : later ≡ []) where
    joined_done : flat_map (λ part. part.0) all_parts ≡ text
    joined_done = sym (append-nil (flat_map (λ part. part.0) all_parts)) ∙ ap (λ (t : List ℕ). flat_map (λ part. part.0) all_parts ++ t) (sym none) ∙ joined_now

    cut_done : map (λ part. part.0) all_parts ≡ texts_in text
    cut_done =
        sym (append-nil (map (λ part. part.0) all_parts))
        ∙ ap (λ (texts : List (List ℕ)). map (λ part. part.0) all_parts ++ texts) (sym last) ∙ cut_now

    wrote_done : WroteTaking was (parts_events was.canonical in_flow all_parts) sending.handed given
    wrote_done =
        taking_same _ _ _ _ _ _ (ends_with was.canonical in_flow sending.parts (first, one.json)) (append-nil sending.handed)
        (taking_then _ _ _ _ _ _ [] sending.wrote events_given)

    pub all_given : HaveScalarTexts given.emitter.events → SentTexts depth unique in_flow text was start given held
    all_given scalars =
        record {
          parts = all_parts;
          cut = cut_done;
          joined = joined_done;
          each = each_now;
          utf8 = subst IsUtf8 joined_done (utf8_joined all_parts utf8_now);
          names = subst (HaveNamesOnce unique) cut_done names_now;
          handed = sending.handed;
          sends = sending.sends;
          wrote = wrote_done;
          reads = sent_reads depth in_flow text was given sending.handed sending.parts (first, one.json) joined_done each_now wrote_done.emits scalars;
        }
