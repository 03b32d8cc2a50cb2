-- JSON texts, one after another.
use Rattle.yaml_json.proofs.Common.{gave_same, usable_by, GaveEvents, levels_after, value-json_tokens_back, ℕ, ◌<◌, ◌==◌, flat_map, Some, Result, Err, length}
use Rattle.yaml_json.proofs.Common.{Bool, false, true, List, [], map, ◌++◌, ◌∷◌, refl, ◌≡◌, eqb-true, append-nil, append_assoc, inl, inr, ap, subst, sym, ◌∙◌}
use Rattle.yaml_json.proofs.Common.{false≢true, flat_map-append, map-append, Json, value, tokens, Option, None, json_tokens, Event, between}
use Rattle.yaml_json.proofs.Common.{events_with_separators, json_events, NamesOnce, HaveNamesOnce, texts_in, after_byte, CutsFirstText, tokens_events, IsBare}
use Rattle.yaml_json.proofs.Common.{WasGiven, WroteText, AreJson, BeginsWithinDepth, parts_events, ReadsTexts, WriterState, PassedEvents, yaml_error_t, Scan}
use Rattle.yaml_json.proofs.Common.{StopsInText, JsonError}
use Rattle.yaml_writer.proofs.OpenLevels.{gave_events_then, gave_passed}
use Rattle.yaml_writer.proofs.GivenLemmas.{leaves_same, wrote_nothing, wrote_then, wrote_same}
use Rattle.yaml_json.proofs.{TokenLemmas.texts_closed, NameLemmas.once_is_unique, TextStops.given_by, YamlOf.HaveScalarTexts, YamlOf.last_reads}
use Rattle.yaml_json.proofs.Walking.{awaiting_whole, closes_value}
use Rattle.yaml_json.specs.{declared.cuts.Mode.TheVariants.Before, Refused.HasNamesOnce, Stopped.StopsInTexts, Places.HasPlaceAfter, Wrote.WroteTexts}
use Rattle.yaml_json.specs.Texts.{texts_after, onto_first, cut_text_before, scan_first_byte}
use Rattle.std.proofs.lemmas.List.{nil_from_length}
use Rattle.yaml_json.specs.declared.error.JsonError.TheVariants as errors

-- the events of some texts, after each of which a document begins, and then those of one more, the last
pub ends_with : (canonical in_flow : Bool) (parts : List (List ℕ × Json)) (last : List ℕ × Json)
    → events_with_separators canonical in_flow parts ++ json_events canonical in_flow last.1 ≡ parts_events canonical in_flow (parts ++ last ∷ [])
ends_with canonical in_flow [] last = refl
ends_with canonical in_flow (part ∷ []) last =
    ap (λ (events : List Event). events ++ json_events canonical in_flow last.1) (append-nil (json_events canonical in_flow part.1 ++ between))
    ∙ append_assoc (json_events canonical in_flow part.1) between (json_events canonical in_flow last.1)
ends_with canonical in_flow (part ∷ next ∷ rest) last =
    append_assoc (json_events canonical in_flow part.1 ++ between) (events_with_separators canonical in_flow (next ∷ rest))
    (json_events canonical in_flow last.1)
    ∙ append_assoc (json_events canonical in_flow part.1) between
    (events_with_separators canonical in_flow (next ∷ rest) ++ json_events canonical in_flow last.1)
    ∙ ap (λ (events : List Event). json_events canonical in_flow part.1 ++ (between ++ events)) (ends_with canonical in_flow (next ∷ rest) last)

-- one text more
pub one_more : (depth : ℕ) (parts : List (List ℕ × Json)) (last : List ℕ × Json) → AreJson depth parts → value depth (tokens last.0) ≡ Some (last.1, [])
    → AreJson depth (parts ++ last ∷ [])
one_more depth [] last each is = (is, tt)
one_more depth (part ∷ parts) last each is = (each.0, one_more depth parts last each.1 is)

pub joined_more : (parts : List (List ℕ × Json)) (last : List ℕ × Json) (rest : List ℕ)
    → flat_map (λ part. part.0) (parts ++ last ∷ []) ++ rest ≡ flat_map (λ part. part.0) parts ++ (last.0 ++ rest)
joined_more parts last rest =
    ap (λ (text : List ℕ). text ++ rest) (flat_map-append (λ (part : List ℕ × Json). part.0) parts (last ∷ []))
    ∙ append_assoc (flat_map (λ part. part.0) parts) (last.0 ++ []) rest
    ∙ ap (λ (text : List ℕ). flat_map (λ part. part.0) parts ++ (text ++ rest)) (append-nil last.0)

-- names that come once in each of some texts
pub text_names : (unique : Bool) (text : List ℕ) → (unique ≡ true → NamesOnce [] (tokens text)) → HasNamesOnce unique text
text_names unique text once is depth json read =
    once_is_unique json [] (subst (NamesOnce []) (value-json_tokens_back depth (tokens text) [] json read ∙ append-nil (json_tokens json)) (once is))

pub more_names : (unique : Bool) (parts : List (List ℕ × Json)) (last : List ℕ × Json) → HaveNamesOnce unique (map (λ part. part.0) parts)
    → HasNamesOnce unique last.0 → HaveNamesOnce unique (map (λ part. part.0) (parts ++ last ∷ []))
more_names unique [] last names more = (more, tt)
more_names unique (part ∷ parts) last names more = (names.0, more_names unique parts last names.1 more)

-- A text is the last, or others follow.
cut_last : {rest first more : List ℕ} → CutsFirstText rest first more → more ≡ [] → texts_in rest ≡ first ∷ []
cut_last (joined, inl (none, cut)) is = cut
cut_last (joined, inr (some, less, cut)) is = absurd (some is)

cut_more : {rest first more : List ℕ} → CutsFirstText rest first more → (more ≡ [] → ⊥) → texts_in rest ≡ first ∷ texts_in more
cut_more (joined, inl (none, cut)) some = absurd (some none)
cut_more (joined, inr (isn't, less, cut)) some = cut

-- the first text, and those after it
cut_some : {rest first more : List ℕ} → CutsFirstText rest first more → (later : List (List ℕ)) × (texts_in rest ≡ first ∷ later)
cut_some {more} (joined, inl (none, cut)) = ([], cut)
cut_some {more} (joined, inr (isn't, less, cut)) = (texts_in more, cut)

-- there is a first text
first_onto : (byte : ℕ) (texts : List (List ℕ)) → (next : List ℕ) × (later : List (List ℕ)) × (onto_first byte texts ≡ next ∷ later)
first_onto byte [] = (byte ∷ [], [], refl)
first_onto byte (text ∷ texts) = (byte ∷ text, texts, refl)

first_cut : (byte : ℕ) (found : Option Scan) (more : Scan → List (List ℕ))
    → (next : List ℕ) × (later : List (List ℕ)) × (cut_text_before byte found more ≡ next ∷ later)
first_cut byte None more = ([], onto_first byte (more (scan_first_byte byte)), refl)
first_cut byte (Some scan) more = first_onto byte (more scan)

first_after : (scan : Scan) (text : List ℕ) → (next : List ℕ) × (later : List (List ℕ)) × (texts_after scan text ≡ next ∷ later)
first_after scan [] = ([], [], refl)
first_after scan (byte ∷ bytes) = first_cut byte (after_byte scan byte) (λ next. texts_after next bytes)

pub some_text : (text : List ℕ) → (next : List ℕ) × (later : List (List ℕ)) × (texts_in text ≡ next ∷ later)
some_text text = first_after (record { mode = Before; levels = 0 }) text

-- a value begins with no token
pub begins_nothing : (depth : ℕ) → BeginsWithinDepth depth []
begins_nothing depth = closes_value depth [] (awaiting_whole depth []).begins

-- some texts were given, and a document was begun after each
pub record TextsSoFar (depth : ℕ) (in_flow : Bool) (unique : Bool) (text : List ℕ) (was : WriterState) (rest : List ℕ) (now : WriterState) : Type 0 where
  pub parts : List (List ℕ × Json)
  pub joined : flat_map (λ part. part.0) parts ++ rest ≡ text
  pub cut : map (λ part. part.0) parts ++ texts_in rest ≡ texts_in text
  pub each : AreJson depth parts
  pub names : HaveNamesOnce unique (map (λ part. part.0) parts)
  pub wrote : WasGiven was (events_with_separators was.canonical in_flow parts) now

pub texts_begin : (depth : ℕ) (in_flow unique : Bool) (text : List ℕ) (was : WriterState) → IsBare was → TextsSoFar depth in_flow unique text was text was
texts_begin depth in_flow unique text was bare = record { parts = []; joined = refl; cut = refl; each = tt; names = tt; wrote = wrote_nothing was bare }

-- they leave open what was open
gave_texts : (in_flow : Bool) (was now : WriterState) (parts : List (List ℕ × Json)) → WasGiven was (events_with_separators was.canonical in_flow parts) now
    → GaveEvents was (events_with_separators was.canonical in_flow parts) now
gave_texts in_flow was now parts =
    let events = events_with_separators was.canonical in_flow parts in
    leaves_same was now events was.levels (levels_after events was.levels) (sym (texts_closed was.canonical in_flow parts was.levels))

module _ (depth : ℕ) (in_flow unique : Bool) (text : List ℕ) (was : WriterState) (rest first more : List ℕ) (now given : WriterState)
    (cuts : CutsFirstText rest first more) (so_far : TextsSoFar depth in_flow unique text was rest now)
    (named : unique ≡ true → NamesOnce [] (tokens first)) (one : WroteText depth in_flow first now given) where
  -- the next text's events, as the first writer would give them
  events_given : WasGiven now (json_events was.canonical in_flow one.json) given
  events_given = subst (λ (canonical : Bool). WasGiven now (json_events canonical in_flow one.json) given) so_far.wrote.canonical one.wrote

  joined_now : (after : List ℕ) → after ≡ more → flat_map (λ part. part.0) (so_far.parts ++ (first, one.json) ∷ []) ++ after ≡ text
  joined_now after is =
      joined_more so_far.parts (first, one.json) after
      ∙ ap (λ (t : List ℕ). flat_map (λ part. part.0) so_far.parts ++ (first ++ t)) is
      ∙ ap (λ (t : List ℕ). flat_map (λ part. part.0) so_far.parts ++ t) cuts.0 ∙ so_far.joined

  cut_now : (later : List (List ℕ)) → texts_in rest ≡ first ∷ later → map (λ part. part.0) (so_far.parts ++ (first, one.json) ∷ []) ++ later ≡ texts_in text
  cut_now later is =
      ap (λ (texts : List (List ℕ)). texts ++ later) (map-append (λ (part : List ℕ × Json). part.0) so_far.parts ((first, one.json) ∷ []))
      ∙ append_assoc (map (λ part. part.0) so_far.parts) (first ∷ []) later
      ∙ ap (λ (texts : List (List ℕ)). map (λ part. part.0) so_far.parts ++ texts) (sym is) ∙ so_far.cut

  each_done : AreJson depth (so_far.parts ++ (first, one.json) ∷ [])
  each_done = one_more depth so_far.parts (first, one.json) so_far.each one.read

  names_done : HaveNamesOnce unique (map (λ part. part.0) (so_far.parts ++ (first, one.json) ∷ []))
  names_done = more_names unique so_far.parts (first, one.json) so_far.names (text_names unique first named)

  started_more : events_with_separators was.canonical in_flow so_far.parts ++ (json_events was.canonical in_flow one.json ++ between)
      ≡ events_with_separators was.canonical in_flow (so_far.parts ++ (first, one.json) ∷ [])
  started_more =
      ap (λ (events : List Event). events_with_separators was.canonical in_flow so_far.parts ++ events)
      (sym (append-nil (json_events was.canonical in_flow one.json ++ between)))
      ∙ sym (flat_map-append (λ (part : List ℕ × Json). json_events was.canonical in_flow part.1 ++ between) so_far.parts ((first, one.json) ∷ []))

  pub texts_go_on : (answer : Result (Unit {0}) yaml_error_t) (after : WriterState) → (more ≡ [] → ⊥) → PassedEvents given between answer after
      → TextsSoFar depth in_flow unique text was more after
  texts_go_on answer after some passed =
      let next = gave_passed given after answer one.wrote.bare passed in
      let events = json_events was.canonical in_flow one.json in
      record {
        parts = so_far.parts ++ (first, one.json) ∷ [];
        joined = joined_now more refl;
        cut = cut_now (texts_in more) (cut_more cuts some);
        each = each_done;
        names = names_done;
        wrote = wrote_same was after _ _ started_more (wrote_then was now after (events_with_separators was.canonical in_flow so_far.parts) (events ++ between)
            so_far.wrote (wrote_then now given after events between events_given next));
      }

  -- or the writer fails
  pub next_failed : (after : WriterState) (error : yaml_error_t) → (more ≡ [] → ⊥) → PassedEvents given between (Err error) after
      → StopsInTexts depth unique in_flow text was (errors.Emitter error) after
  next_failed after error some passed =
      let begun = texts_go_on (Err error) after some passed in
      let all = events_with_separators was.canonical in_flow begun.parts in
      let gave = gave_same was after all (all ++ []) (sym (append-nil all)) (gave_texts in_flow was after begun.parts begun.wrote) in
      let found = some_text more in
      record {
        parts = begun.parts;
        next = found.0;
        later = found.1;
        cut = ap (λ (texts : List (List ℕ)). map (λ part. part.0) begun.parts ++ texts) (sym found.2) ∙ begun.cut;
        each = begun.each;
        names = begun.names;
        taken = [];
        left = tokens found.0;
        split = refl;
        why = begins_nothing depth;
        place = (0, (tt, tt));
        emits = gave.emits;
        usable = usable_by was after (all ++ []) gave;
      }

  -- If nothing follows, all texts are given.
  joined_done : more ≡ [] → flat_map (λ part. part.0) (so_far.parts ++ (first, one.json) ∷ []) ≡ text
  joined_done none = sym (append-nil (flat_map (λ part. part.0) (so_far.parts ++ (first, one.json) ∷ []))) ∙ joined_now [] (sym none)

  wrote_done : WasGiven was (parts_events was.canonical in_flow (so_far.parts ++ (first, one.json) ∷ [])) given
  wrote_done =
      wrote_same was given _ _ (ends_with was.canonical in_flow so_far.parts (first, one.json)) (wrote_then was now given
      (events_with_separators was.canonical in_flow so_far.parts) (json_events was.canonical in_flow one.json) so_far.wrote events_given)

  pub texts_done : more ≡ [] → WroteTexts depth in_flow text was given
  texts_done none =
      record {
        parts = so_far.parts ++ (first, one.json) ∷ [];
        cut = sym (append-nil (map (λ part. part.0) (so_far.parts ++ (first, one.json) ∷ []))) ∙ cut_now [] (cut_last cuts none);
        joined = joined_done none;
        each = each_done;
        wrote = wrote_done;
      }

  -- with each name once in its object
  pub texts_names : more ≡ [] → HaveNamesOnce unique (texts_in text)
  texts_names none =
      subst (HaveNamesOnce unique)
      (sym (append-nil (map (λ part. part.0) (so_far.parts ++ (first, one.json) ∷ []))) ∙ cut_now [] (cut_last cuts none)) names_done

  -- and are read
  pub texts_read : more ≡ [] → HaveScalarTexts given.emitter.events → ReadsTexts depth in_flow text was given
  texts_read none scalars = last_reads depth in_flow text was given so_far.parts (first, one.json) (joined_done none) each_done wrote_done scalars

-- The bytes after the first text.

-- There are none if the rest has no length.
pub no_more : (more : List ℕ) (empty : Bool) → empty ≡ (length more == 0) → empty ≡ true → more ≡ []
no_more more empty is h = nil_from_length more (eqb-true (length more) 0 (sym is ∙ h))

-- else some bytes, and less than before
pub is_more : (more : List ℕ) (empty : Bool) → empty ≡ (length more == 0) → empty ≡ false → more ≡ [] → ⊥
is_more more empty is h none = false≢true (sym h ∙ is ∙ ap (λ (t : List ℕ). length t == 0) none)

pub some_more : (first more rest : List ℕ) (empty : Bool) → CutsFirstText rest first more → empty ≡ (length more == 0) → empty ≡ false
    → length more < length rest
some_more first more rest empty (joined, inl (none, cut)) is h = absurd (is_more more empty is h none)
some_more first more rest empty (joined, inr (some, less, cut)) is h = less

-- The next text is refused, or the writer fails within it.
pub texts_stopped : (depth : ℕ) (in_flow unique : Bool) (text : List ℕ) (was : WriterState) (rest first more : List ℕ) (now later : WriterState)
    → CutsFirstText rest first more → (so_far : TextsSoFar depth in_flow unique text was rest now) → (error : JsonError)
    → StopsInText depth unique in_flow first now error later → HasPlaceAfter depth text (flat_map (λ part. part.0) so_far.parts) first error
    → StopsInTexts depth unique in_flow text was error later
texts_stopped depth in_flow unique text was rest first more now later cuts so_far error stops place =
    let found = cut_some cuts in
    let before = events_with_separators was.canonical in_flow so_far.parts in
    let events = tokens_events was.canonical in_flow stops.taken in
    let gave = gave_events_then was now later before events (gave_texts in_flow was now so_far.parts so_far.wrote)
    (subst (λ (canonical : Bool). GaveEvents now (tokens_events canonical in_flow stops.taken) later) so_far.wrote.canonical (given_by _ _ _ _ _ _ stops)) in
    record {
      parts = so_far.parts;
      next = first;
      later = found.0;
      cut = ap (λ (texts : List (List ℕ)). map (λ part. part.0) so_far.parts ++ texts) (sym found.1) ∙ so_far.cut;
      each = so_far.each;
      names = so_far.names;
      taken = stops.taken;
      left = stops.left;
      split = stops.split;
      why = stops.why;
      place = place;
      emits = gave.emits;
      usable = usable_by was later (before ++ events) gave;
    }
