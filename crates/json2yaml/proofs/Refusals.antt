-- Files of which one is refused have no stream.
use Rattle.std.proofs.Common.{ℕ, Option, Some, List, [], ◌∷◌, ◌++◌, map, flat_map, Bool, Err, ◌≡◌, ◌⊎◌, inl, inr, refl, ap, subst, sym, ◌∙◌, append-nil}
use Rattle.std.proofs.Common.{append_assoc, arith}
use Rattle.std.specs.{List.All, Str.IsUtf8}
use Rattle.yaml_base.{proofs.Common.flat_map-append, proofs.Common.map-append, proofs.Common.Event, specs.declared.errors.yaml_error_t.yaml_error_t}
use Rattle.json.specs.{Json.Json, Json.value, Lex.tokens, Token.Token, Token.key, Tree.json_tokens}
use Rattle.json.proofs.Unique.Spelling.{value-json_tokens_back}
use Rattle.yaml_pen.{specs.Page.output_left, proofs.Writing.some_from_result}
use Rattle.yaml_emitter.specs.{Given.seen_settings, Emits.IsPromised, State.bytes_taken}
use Rattle.yaml_writer.specs.{Writing.IsNewWriter, Writing.WriterState, Writing.closing, Writing.opening, WasGiven.EmitsTaking, WasGiven.between}
use Rattle.yaml_writer.proofs.GivenAndTaken.{emits_taking_then, begun_taken}
use Rattle.yaml_json.specs.{Failing.events_with_separators, JsonEvents.json_events, Sent.IsSoundSending, Sent.StopsPartAt, Texts.texts_in}
use Rattle.yaml_json.specs.{TokenEvents.tokens_events, Wrote.AreJson, Wrote.parts_events, declared.error.JsonError.JsonError}
use Rattle.yaml_json.specs.{declared.error.StreamError.StreamError, declared.settings.JsonSettings.JsonSettings}
use Rattle.yaml_json.specs.Refused.{ExplainsError, HasNamesOnce, HaveNamesOnce, IsOfText, NamesTwiceAt, TokensStopAt}
use Rattle.yaml_json.proofs.{Refusing.why_no_json, TextsInTurn.some_text, TokenLemmas.some_then, TokenLemmas.value_given}
use Rattle.yaml_program.specs.{Conversions.HaveNoYaml, Faults.emitter_status}
use Rattle.yaml_program.specs.Streams.{BeganDocument, RefusesDocument, RefusesEnd, RefusesNext, RefusesSome, RefusesStream, SentFiles}
use Rattle.yaml_program.proofs.Refusals.{events_given, never_fails, never_unended}
use Rattle.json2yaml.specs.{Conversions.IsYamlOfJsonFiles, Conversions.RefusedJsonFile, Conversions.SentJsonFile, Statuses.json_status}
use Rattle.json2yaml.proofs.{Files.SentJsonFiles, Files.all_sent, Files.both_json, Texts.text_utf8}
use Rattle.json2yaml.proofs.Parts.{all_at, first_same, names_once, next_begins, parts_begin, regroup, same_parts, with_between}
use Rattle.yaml_json.specs.declared.error.JsonError.TheVariants as errors
use Rattle.yaml_json.specs.declared.error.StreamError.TheVariants as faults

-- ---- files before the one that is refused

-- These files were sent, and a document was begun after each of their texts.
record Reached (settings : JsonSettings) (files : List (List ℕ)) (was begun : WriterState) : Type 0 where
  pub parts : List (List ℕ × Json)
  pub cut : map (λ part. part.0) parts ≡ flat_map texts_in files
  pub each : AreJson settings.values.depth parts
  pub handed : List ℕ
  pub emits : EmitsTaking was.emitter (events_with_separators was.canonical settings.values.flow parts) handed begun.emitter
  pub canonical : begun.canonical ≡ was.canonical

module _ (settings : JsonSettings) where
  reached_none : (was : WriterState) → Reached settings [] was was
  reached_none was =
      record {
        parts = [];
        cut = refl;
        each = tt;
        handed = [];
        emits = record { given = refl; appended = sym (append-nil was.emitter.events); taken = sym (append-nil (bytes_taken was.emitter)) };
        canonical = refl;
      }

  reached_next : (files : List (List ℕ)) (was middle begun : WriterState) (start held holds : Option (List ℕ))
      → SentJsonFiles settings files was start middle held → BeganDocument middle held begun holds → Reached settings files was begun
  reached_next files was middle begun start held holds sent began =
      let begins = begun_taken middle began.begun begun (output_left began.begun.emitter.page) held holds sent.wrote.bare began.passed refl
      began.kept began.sends in
      record {
        parts = sent.first ∷ sent.rest;
        cut = sent.cut;
        each = sent.each;
        handed = sent.handed ++ begins.bytes;
        emits =
            subst (λ (events : List Event). EmitsTaking was.emitter events (sent.handed ++ begins.bytes) begun.emitter)
            (with_between was.canonical settings.values.flow sent.first sent.rest) (emits_taking_then sent.wrote.emits begins.wrote.emits);
        canonical = begins.wrote.canonical ∙ sent.wrote.canonical;
      }

-- ---- the text that is refused

-- A text that is JSON is refused for no tokens of its own.
module _ (depth : ℕ) (unique : Bool) (text : List ℕ) (taken left : List Token) (split : taken ++ left ≡ tokens text) where
  explained : (error : JsonError) → TokensStopAt depth unique text taken left error → ExplainsError depth unique text error
  explained (errors.NotJson position says) why = (record { taken = taken; left = left; parts = split; begins = why.0.begins; breaks = why.0.breaks }, why.1)
  explained (errors.Marked position) why = (record { taken = taken; left = left; parts = split; begins = why.0.begins; breaks = why.0.breaks }, why.1)
  explained (errors.TooDeep position) why =
      record {
        taken = taken;
        next = why.next;
        left = why.after;
        parts = ap (λ (all : List Token). taken ++ all) (sym why.first) ∙ split;
        begins = why.begins;
        some = why.some;
        deeper = why.deeper;
      }
  explained (errors.DuplicateName position) why =
      record {
        wanted = why.wanted;
        taken = taken;
        name = why.name;
        left = why.after;
        parts = ap (λ (all : List Token). taken ++ all) (sym why.first) ∙ split;
        begins = why.begins;
        some = why.some;
        twice = why.twice;
      }
  explained (errors.Emitter code) why = tt

  module _ (json : Json) (read : value depth (tokens text) ≡ Some (json, [])) (names : HasNamesOnce unique text) where
    spelled : taken ++ left ≡ json_tokens json
    spelled = split ∙ value-json_tokens_back depth (tokens text) [] json read ∙ append-nil (json_tokens json)

    named_once : NamesTwiceAt depth unique taken left → ⊥
    named_once why =
        why.twice json
        (record {
          rest = why.after;
          parts = append_assoc taken (key why.name ∷ []) why.after ∙ ap (λ (all : List Token). taken ++ all) (sym why.first) ∙ spelled;
        })
        (names why.wanted depth json read)

    never_refused : (error : JsonError) → TokensStopAt depth unique text taken left error → IsOfText error → ⊥
    never_refused (errors.NotJson position says) why is =
        why_no_json depth unique text (errors.NotJson position says) (explained (errors.NotJson position says) why) tt json read
    never_refused (errors.Marked position) why is = why_no_json depth unique text (errors.Marked position) (explained (errors.Marked position) why) tt json read
    never_refused (errors.TooDeep position) why is =
        why_no_json depth unique text (errors.TooDeep position) (explained (errors.TooDeep position) why) tt json read
    never_refused (errors.DuplicateName position) why is = named_once why
    never_refused (errors.Emitter code) why is = is

    -- nor is it stopped otherwise with status 1, if the emitter has no error of that status
    never_stopped : (was now : WriterState) → IsUtf8 text → ((code : yaml_error_t) → now.emitter.error ≡ Some code → emitter_status code ≡ 1 → ⊥)
        → (error : StreamError) → json_status error ≡ 1 → IsSoundSending was (Err error) now → StopsPartAt depth unique text taken left error → ⊥
    never_stopped was now utf8 never (faults.Refused (errors.NotJson position says)) status sound why = never_refused (errors.NotJson position says) why.0 tt
    never_stopped was now utf8 never (faults.Refused (errors.Marked position)) status sound why = never_refused (errors.Marked position) why.0 tt
    never_stopped was now utf8 never (faults.Refused (errors.TooDeep position)) status sound why = never_refused (errors.TooDeep position) why.0 tt
    never_stopped was now utf8 never (faults.Refused (errors.DuplicateName position)) status sound why = never_refused (errors.DuplicateName position) why.0 tt
    never_stopped was now utf8 never (faults.Refused (errors.Emitter code)) status (inl memory) why =
        let three : 3 ≡ 1 = sym (ap emitter_status memory.0) ∙ status in
        absurd (omega (arith, three))
    never_stopped was now utf8 never (faults.Refused (errors.Emitter code)) status (inr has) why = never code has status
    never_stopped was now utf8 never (faults.NotText position) status sound why = why.1 utf8
    never_stopped was now utf8 never (faults.ReadFailed error) status sound why = absurd (omega (arith, status))
    never_stopped was now utf8 never (faults.WriteFailed error) status sound why = absurd (omega (arith, status))

-- ---- files that have a stream

module _ (settings : JsonSettings) (files : List (List ℕ)) (bytes : List ℕ) (whole : IsYamlOfJsonFiles settings files bytes) (first : WriterState)
    (new : IsNewWriter (seen_settings settings.values.emitter) first) where
  abbrev events_before : List (List ℕ × Json) → List Event
  events_before parts = events_with_separators settings.values.emitter.canonical settings.values.flow parts

  abbrev events_of : List (List ℕ × Json) → List Event
  events_of parts = parts_events settings.values.emitter.canonical settings.values.flow parts

  abbrev given_of : List Token → List Event
  given_of some = tokens_events settings.values.emitter.canonical settings.values.flow some

  abbrev all : List Event
  all = opening ++ (events_of whole.parts ++ closing)

  texts_of : (front : List (List ℕ)) (file : List ℕ) (later : List (List ℕ)) → front ++ file ∷ later ≡ files
      → flat_map texts_in front ++ (texts_in file ++ flat_map texts_in later) ≡ map (λ part. part.0) whole.parts
  texts_of front file later are = sym (flat_map-append texts_in front (file ∷ later)) ∙ ap (flat_map texts_in) are ∙ sym whole.cut

  -- one of their texts isn't refused
  module _ (front : List (List ℕ)) (file : List ℕ) (later : List (List ℕ)) (are : front ++ file ∷ later ≡ files) (begun now : WriterState)
      (before after : Option (List ℕ)) (promised : IsPromised now.emitter) (reached : Reached settings front first begun)
      (refused : RefusedJsonFile settings file begun before now after) where
    abbrev earlier : List (List ℕ × Json)
    earlier = reached.parts ++ refused.stops.parts

    abbrev others : List (List ℕ)
    others = refused.stops.later ++ flat_map texts_in later

    cut : map (λ part. part.0) earlier ++ refused.stops.next ∷ others ≡ map (λ part. part.0) whole.parts
    cut =
        let old = map (λ part. part.0) reached.parts in
        let some = map (λ part. part.0) refused.stops.parts in
        let rest = flat_map texts_in later in
        ap (λ (texts : List (List ℕ)). texts ++ refused.stops.next ∷ others) (map-append (λ (part : List ℕ × Json). part.0) reached.parts refused.stops.parts)
        ∙ append_assoc old some (refused.stops.next ∷ others)
        ∙ ap (λ (texts : List (List ℕ)). old ++ texts)
        (sym (append_assoc some (refused.stops.next ∷ refused.stops.later) rest) ∙ ap (λ (texts : List (List ℕ)). texts ++ rest) refused.stops.cut)
        ∙ ap (λ (texts : List (List ℕ)). texts ++ (texts_in file ++ rest)) reached.cut
        ∙ texts_of front file later are

    names : HasNamesOnce settings.unique_names refused.stops.next
    names =
        names_once settings.unique_names (map (λ part. part.0) earlier) refused.stops.next others
        (subst (HaveNamesOnce settings.unique_names) (sym (cut ∙ whole.cut)) whole.names)

    utf8 : IsUtf8 refused.stops.next
    utf8 =
        text_utf8 file (all_at IsUtf8 front file later (subst (All IsUtf8) (sym are) whole.utf8)) (map (λ part. part.0) refused.stops.parts)
        refused.stops.next refused.stops.later refused.stops.cut

    set : now.emitter.given ≡ seen_settings settings.values.emitter
    set = refused.stops.emits.given ∙ reached.emits.given ∙ new.settings

    events_are : now.emitter.events
        ≡ (opening ++ events_before reached.parts) ++ (events_before refused.stops.parts ++ given_of refused.stops.taken)
    events_are =
        events_given (λ c. events_with_separators c settings.values.flow refused.stops.parts ++ tokens_events c settings.values.flow refused.stops.taken)
        refused.stops.emits.appended (events_given (λ c. events_with_separators c settings.values.flow reached.parts) reached.emits.appended new.events
        new.canonical) (reached.canonical ∙ new.canonical)

    by_rest : (rest : List (List ℕ × Json)) → earlier ++ rest ≡ whole.parts → map (λ part. part.0) rest ≡ refused.stops.next ∷ others
        → AreJson settings.values.depth rest → ⊥
    by_rest [] same texts good = absurd (cc)
    by_rest (one ∷ rest) same texts good =
        let text : one.0 ≡ refused.stops.next = first_same one.0 refused.stops.next (map (λ part. part.0) rest) others texts in
        let read : value settings.values.depth (tokens refused.stops.next) ≡ Some (one.1, []) =
        ap (λ (t : List ℕ). value settings.values.depth (tokens t)) (sym text) ∙ good.0 in
        let (more, next) = next_begins settings.values.emitter.canonical settings.values.flow one rest in
        let taken = given_of refused.stops.taken in
        let left = given_of refused.stops.left in
        let value_events : (taken ++ left) ++ more ≡ events_of (one ∷ rest) =
        ap (λ (events : List Event). events ++ more)
        (sym (some_then settings.values.emitter.canonical settings.values.flow refused.stops.taken refused.stops.left)
        ∙ ap given_of
        (spelled settings.values.depth settings.unique_names refused.stops.next refused.stops.taken refused.stops.left refused.stops.split one.1 read names)
        ∙ value_given one.1 settings.values.emitter.canonical settings.values.flow)
        ∙ next in
        let begins : ((opening ++ events_before reached.parts) ++ (events_before refused.stops.parts ++ taken)) ++ (left ++ (more ++ closing)) ≡ all =
        ap (λ (events : List Event). opening ++ events) (regroup (events_before reached.parts) (events_before refused.stops.parts) taken left more closing
        ∙ ap (λ (events : List Event). events ++ closing) (ap (λ (events : List Event). events ++ ((taken ++ left) ++ more))
        (sym (flat_map-append (λ (part : List ℕ × Json). json_events settings.values.emitter.canonical settings.values.flow part.1 ++ between) reached.parts
        refused.stops.parts))
        ∙ ap (λ (events : List Event). events_before earlier ++ events) value_events
        ∙ parts_begin settings.values.emitter.canonical settings.values.flow earlier one rest ∙ ap events_of same)) in
        never_stopped settings.values.depth settings.unique_names refused.stops.next refused.stops.taken refused.stops.left refused.stops.split one.1 read names
        begun now utf8 (λ code has status. never_fails _ _ _ whole.stream _ (left ++ (more ++ closing)) now.emitter code set events_are promised begins has
        status) refused.error refused.status refused.sound refused.stops.why

    text_refused : ⊥
    text_refused =
        let (rest, same, texts, good) = same_parts settings.values.depth earlier (refused.stops.next ∷ others) whole.parts
        (both_json settings.values.depth reached.parts refused.stops.parts reached.each refused.stops.each) whole.each cut in
        by_rest rest same texts good

  -- nor is the next document
  module _ (front : List (List ℕ)) (file : List ℕ) (later : List (List ℕ)) (are : front ++ file ∷ later ≡ files) (middle now : WriterState)
      (before held : Option (List ℕ)) (promised : IsPromised now.emitter)
      (sent : SentJsonFiles settings front first before middle held) (refuses : RefusesDocument middle now) where
    abbrev some : List (List ℕ × Json)
    some = sent.first ∷ sent.rest

    abbrev next_texts : List (List ℕ)
    next_texts = texts_in file ++ flat_map texts_in later

    by_more : (rest : List (List ℕ × Json)) → some ++ rest ≡ whole.parts → map (λ part. part.0) rest ≡ next_texts → ⊥
    by_more [] same texts = let (next, others, is) = some_text file in
        let none : [] ≡ next ∷ (others ++ flat_map texts_in later) = texts ∙ ap (λ (t : List (List ℕ)). t ++ flat_map texts_in later) is in
        absurd (cc)
    by_more (one ∷ rest) same texts =
        let emits = refuses.passed.emits in
        let events = events_given (λ c. parts_events c settings.values.flow some) sent.wrote.emits.appended new.events new.canonical in
        let begins : ((opening ++ events_of some) ++ between) ++ (events_of (one ∷ rest) ++ closing) ≡ all =
        ap (λ (events : List Event). opening ++ events) (sym (append_assoc (events_of some ++ between) (events_of (one ∷ rest)) closing)
        ∙ ap (λ (events : List Event). events ++ closing)
        (ap (λ (events : List Event). events ++ events_of (one ∷ rest))
        (with_between settings.values.emitter.canonical settings.values.flow sent.first sent.rest)
        ∙ parts_begin settings.values.emitter.canonical settings.values.flow some one rest ∙ ap events_of same)) in
        never_fails _ _ _ whole.stream ((opening ++ events_of some) ++ between) (events_of (one ∷ rest) ++ closing) now.emitter refuses.error
        (emits.set.given ∙ sent.wrote.emits.given ∙ new.settings) (emits.set.events ∙ ap (λ (first : List Event). first ++ between) events) promised begins
        (some_from_result _ refuses.error emits.answered) refuses.status

    document_refused : ⊥
    document_refused =
        let (rest, same, texts, good) = same_parts settings.values.depth some next_texts whole.parts sent.each whole.each
        (ap (λ (t : List (List ℕ)). t ++ next_texts) sent.cut ∙ texts_of front file later are) in
        by_more rest same texts

  -- nor is the end
  module _ (last : WriterState) (before held : Option (List ℕ)) (sent : SentJsonFiles settings files first before last held)
      (refuses : RefusesEnd last.emitter) where
    abbrev sent_parts : List (List ℕ × Json)
    sent_parts = sent.first ∷ sent.rest

    by_end : (rest : List (List ℕ × Json)) → sent_parts ++ rest ≡ whole.parts → map (λ part. part.0) rest ≡ [] → ⊥
    by_end [] same none =
        never_unended (seen_settings settings.values.emitter) (opening ++ events_of whole.parts) bytes whole.stream last.emitter
        (sent.wrote.emits.given ∙ new.settings)
        (events_given (λ c. parts_events c settings.values.flow sent_parts) sent.wrote.emits.appended new.events new.canonical
        ∙ ap (λ (parts : List (List ℕ × Json)). opening ++ events_of parts) (sym (append-nil sent_parts) ∙ same))
        refuses
    by_end (one ∷ rest) same none = absurd (cc)

    end_refused : ⊥
    end_refused =
        let (rest, same, texts, good) = same_parts settings.values.depth sent_parts [] whole.parts sent.each whole.each
        (append-nil (map (λ part. part.0) sent_parts) ∙ sent.cut ∙ sym whole.cut) in
        by_end rest same texts

module _ (settings : JsonSettings) (files : List (List ℕ)) (before after : Option (List ℕ))
    (refuses : RefusesStream (SentJsonFile settings) (RefusedJsonFile settings) settings.values.emitter files before after) (bytes : List ℕ)
    (whole : IsYamlOfJsonFiles settings files bytes) where
  at_file : (front : List (List ℕ)) (file : List ℕ) (later : List (List ℕ)) → front ++ file ∷ later ≡ files → (middle : WriterState)
      (held : Option (List ℕ)) → SentJsonFiles settings front refuses.first before middle held
      → RefusesNext (SentJsonFile settings) (RefusedJsonFile settings) file middle held refuses.last after → ⊥
  at_file front file later are middle held sent (inl document) =
      document_refused settings files bytes whole refuses.first refuses.is_new front file later are middle refuses.last before held refuses.promised
      sent document
  at_file front file later are middle held sent (inr (begun, holds, began, refused)) =
      text_refused settings files bytes whole refuses.first refuses.is_new front file later are begun refuses.last holds after
      refuses.promised (reached_next settings front refuses.first middle begun before held holds sent began) refused

  at_some : (some : List (List ℕ)) → some ≡ files
      → RefusesSome (SentJsonFile settings) (RefusedJsonFile settings) some refuses.first before refuses.last after → ⊥
  at_some [] same never = never
  at_some (file ∷ later) same (inl refused) =
      text_refused settings files bytes whole refuses.first refuses.is_new [] file later same refuses.first refuses.last before after
      refuses.promised (reached_none settings refuses.first) refused
  at_some (file ∷ more) same (inr (middle, holds, one, (front, next, later, last, held, are, behind, stops))) =
      at_file (file ∷ front) next later (ap (λ (all : List (List ℕ)). file ∷ all) are ∙ same) last held
      (all_sent settings (file ∷ front) refuses.first last before held (middle, holds, one, behind)) stops

  by_why : RefusesSome (SentJsonFile settings) (RefusedJsonFile settings) files refuses.first before refuses.last after
      ⊎ (SentFiles (SentJsonFile settings) files refuses.first before refuses.last after × RefusesEnd refuses.last.emitter) → ⊥
  by_why (inl some) = at_some files refl some
  by_why (inr (sent, end)) = end_refused settings files bytes whole refuses.first refuses.is_new refuses.last before after (all_sent _ _ _ _ _ _ sent) end

pub refused_none : (settings : JsonSettings) (files : List (List ℕ)) (before after : Option (List ℕ))
    → RefusesStream (SentJsonFile settings) (RefusedJsonFile settings) settings.values.emitter files before after
    → HaveNoYaml (IsYamlOfJsonFiles settings) files
refused_none settings files before after refuses (bytes, whole) = by_why settings files before after refuses bytes whole refuses.why
