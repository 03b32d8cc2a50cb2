-- Files of which one is refused have no stream.
use Rattle.std.proofs.Common.{ℕ, ◌≤◌, Option, None, Some, List, [], ◌∷◌, ◌++◌, map, Bool, ◌≡◌, ◌⊎◌, inl, inr, refl, ap, subst, sym, ◌∙◌, append-nil}
use Rattle.std.proofs.Common.{append_assoc, arith, unwrap_or}
use Rattle.std.specs.Str.{IsUtf8}
use Rattle.yaml_base.{proofs.Common.Event, specs.declared.errors.yaml_error_t.yaml_error_t}
use Rattle.toml_ordered.specs.{Data.TomlNodes, Grammar.ordered_document}
use Rattle.yaml_pen.{specs.Page.output_left, proofs.Writing.some_from_result}
use Rattle.yaml_emitter.specs.{Given.seen_settings, Emits.IsPromised, State.bytes_taken}
use Rattle.yaml_writer.specs.{Failing.HasErrorSaid, WasGiven.EmitsTaking, WasGiven.between, declared.settings.ValueSettings.ValueSettings}
use Rattle.yaml_writer.specs.Writing.{IsNewWriter, WriterState, closing, opening}
use Rattle.yaml_writer.proofs.GivenAndTaken.{emits_taking_then, begun_taken}
use Rattle.yaml_toml.specs.{Failing.GaveFirst, WritingCalls.DocumentUnwritten, declared.error.TomlError.TomlError}
use Rattle.yaml_toml.specs.Depth.{NestsDeeper, NestsWithin, document_nesting}
use Rattle.yaml_program.specs.{Conversions.HaveNoYaml, Faults.emitter_status}
use Rattle.yaml_program.specs.Streams.{BeganDocument, RefusesDocument, RefusesEnd, RefusesNext, RefusesSome, RefusesStream, SentFiles}
use Rattle.yaml_program.proofs.Refusals.{events_given, never_fails, never_unended}
use Rattle.toml2yaml.{specs.Statuses.toml_status, proofs.Files.SentTomlFiles, proofs.Files.all_sent}
use Rattle.toml2yaml.specs.Conversions.{AreToml, IsYamlOfTomlFiles, RefusedTomlFile, RefusesFile, SentTomlFile, root_events, toml_parts_events}
use Rattle.yaml_toml.specs.declared.error.TomlError.TheVariants as errors

-- ---- documents and their tables

first_same : (file one : List ℕ) (files others : List (List ℕ)) → file ∷ files ≡ one ∷ others → file ≡ one
first_same file one files others is = cc

others_same : (file one : List ℕ) (files others : List (List ℕ)) → file ∷ files ≡ one ∷ others → files ≡ others
others_same file one files others is = cc

root_same : (a b : TomlNodes) → Some a ≡ Some b → a ≡ b
root_same a b is = ap (λ (o : Option TomlNodes). unwrap_or o a) is

-- The first of some documents have the same tables wherever they are.
same_parts : (depth : ℕ) (parts : List (List ℕ × TomlNodes)) (files : List (List ℕ)) (whole : List (List ℕ × TomlNodes)) → AreToml depth parts
    → AreToml depth whole → map (λ part. part.0) parts ++ files ≡ map (λ part. part.0) whole
    → (rest : List (List ℕ × TomlNodes)) × (parts ++ rest ≡ whole) × (map (λ part. part.0) rest ≡ files) × AreToml depth rest
same_parts depth [] files whole each all is = (whole, refl, sym is, all)
same_parts depth (part ∷ parts) files [] each all is = absurd (cc)
same_parts depth (part ∷ parts) files (one ∷ whole) each all is =
    let name : part.0 ≡ one.0 = first_same part.0 one.0 (map (λ p. p.0) parts ++ files) (map (λ p. p.0) whole) is in
    let later = others_same part.0 one.0 (map (λ p. p.0) parts ++ files) (map (λ p. p.0) whole) is in
    let root : part.1 ≡ one.1 = root_same part.1 one.1 (sym each.0.1 ∙ ap ordered_document name ∙ all.0.1) in
    let same : part ≡ one = ap (λ (t : List ℕ). (t, part.1)) name ∙ ap (λ (r : TomlNodes). (one.0, r)) root in
    let (rest, are, others, good) = same_parts depth parts files whole each.1 all.1 later in
    (rest, ap (λ (p : List ℕ × TomlNodes). p ∷ (parts ++ rest)) same ∙ ap (λ (ps : List (List ℕ × TomlNodes)). one ∷ ps) are, others, good)

-- ---- their events

-- of some documents, after each of which another begins
abbrev before_next : (canonical in_flow : Bool) → List (List ℕ × TomlNodes) → List Event
before_next canonical in_flow [] = []
before_next canonical in_flow (part ∷ parts) = root_events canonical in_flow part.1 ++ (between ++ before_next canonical in_flow parts)

module _ (canonical in_flow : Bool) where
  parts_begin : (before : List (List ℕ × TomlNodes)) (next : List ℕ × TomlNodes) (later : List (List ℕ × TomlNodes))
      → before_next canonical in_flow before ++ toml_parts_events canonical in_flow (next ∷ later)
      ≡ toml_parts_events canonical in_flow (before ++ next ∷ later)
  parts_begin [] next later = refl
  parts_begin (part ∷ []) next later = append_assoc (root_events canonical in_flow part.1) between (toml_parts_events canonical in_flow (next ∷ later))
  parts_begin (part ∷ second ∷ before) next later =
      append_assoc (root_events canonical in_flow part.1) (between ++ before_next canonical in_flow (second ∷ before))
      (toml_parts_events canonical in_flow (next ∷ later))
      ∙ ap (λ (events : List Event). root_events canonical in_flow part.1 ++ (between ++ events)) (parts_begin (second ∷ before) next later)

  next_begins : (next : List ℕ × TomlNodes) (later : List (List ℕ × TomlNodes))
      → (more : List Event) × (root_events canonical in_flow next.1 ++ more ≡ toml_parts_events canonical in_flow (next ∷ later))
  next_begins next [] = ([], append-nil (root_events canonical in_flow next.1))
  next_begins next (second ∷ later) = (between ++ toml_parts_events canonical in_flow (second ∷ later), refl)

  -- and a document after them
  with_between : (first : List ℕ × TomlNodes) (rest : List (List ℕ × TomlNodes))
      → toml_parts_events canonical in_flow (first ∷ rest) ++ between ≡ before_next canonical in_flow (first ∷ rest)
  with_between first [] = refl
  with_between first (second ∷ rest) =
      append_assoc (root_events canonical in_flow first.1) (between ++ toml_parts_events canonical in_flow (second ∷ rest)) between
      ∙ ap (λ (events : List Event). root_events canonical in_flow first.1 ++ (between ++ events)) (with_between second rest)

regroup : (a g l m z : List Event) → (a ++ g) ++ (l ++ (m ++ z)) ≡ (a ++ ((g ++ l) ++ m)) ++ z
regroup a g l m z = simp append_assoc

-- ---- files before the one that is refused

-- These files were sent, and a document was begun after each.
record Reached (settings : ValueSettings) (files : List (List ℕ)) (was begun : WriterState) : Type 0 where
  pub parts : List (List ℕ × TomlNodes)
  pub are : map (λ part. part.0) parts ≡ files
  pub each : AreToml settings.depth parts
  pub handed : List ℕ
  pub emits : EmitsTaking was.emitter (before_next was.canonical settings.flow parts) handed begun.emitter
  pub canonical : begun.canonical ≡ was.canonical

module _ (settings : ValueSettings) where
  reached_none : (was : WriterState) → Reached settings [] was was
  reached_none was =
      record {
        parts = [];
        are = refl;
        each = tt;
        handed = [];
        emits = record { given = refl; appended = sym (append-nil was.emitter.events); taken = sym (append-nil (bytes_taken was.emitter)) };
        canonical = refl;
      }

  reached_next : (files : List (List ℕ)) (was middle begun : WriterState) (start held holds : Option (List ℕ))
      → SentTomlFiles settings files was start middle held → BeganDocument middle held begun holds → Reached settings files was begun
  reached_next files was middle begun start held holds sent began =
      let begins = begun_taken middle began.begun begun (output_left began.begun.emitter.page) held holds sent.wrote.bare began.passed refl
      began.kept began.sends in
      record {
        parts = sent.first ∷ sent.rest;
        are = sent.are;
        each = sent.each;
        handed = sent.handed ++ begins.bytes;
        emits =
            subst (λ (events : List Event). EmitsTaking was.emitter events (sent.handed ++ begins.bytes) begun.emitter)
            (with_between was.canonical settings.flow sent.first sent.rest) (emits_taking_then sent.wrote.emits begins.wrote.emits);
        canonical = begins.wrote.canonical ∙ sent.wrote.canonical;
      }

-- ---- the file that is refused

none_is_some : (root : TomlNodes) → ◌≡◌ {A = Option TomlNodes} None (Some root) → ⊥
none_is_some root is = cc

-- A document that nests no deeper than is allowed isn't refused, if the emitter has no error of status 1.
module _ (settings : ValueSettings) (file : List ℕ) (root : TomlNodes) (read : ordered_document file ≡ Some root) (nests : NestsWithin settings.depth file)
    (was now : WriterState) (never : (code : yaml_error_t) → now.emitter.error ≡ Some code → emitter_status code ≡ 1 → ⊥) where
  not_deeper : NestsDeeper settings.depth file → ⊥
  not_deeper deep =
      let deeper = deep.deeper in
      let within = subst (λ (r : TomlNodes). document_nesting r ≤ settings.depth) (root_same nests.root deep.root (sym nests.read ∙ deep.read)) nests.within in
      absurd (omega (arith, deeper, within))

  by_code : (code : yaml_error_t) → emitter_status code ≡ 1 → HasErrorSaid was (Some code) now → ⊥
  by_code code status (inl memory) =
      let three : 3 ≡ 1 = sym (ap emitter_status memory.0) ∙ status in
      absurd (omega (arith, three))
  by_code code status (inr has) = never code has status

  never_unwritten : (error : TomlError) → toml_status error ≡ 1 → DocumentUnwritten settings file was error now → ⊥
  never_unwritten (errors.NotToml position why) status stops = none_is_some root (sym (stops.refused tt) ∙ read)
  never_unwritten (errors.TooDeepToRead position) status stops = none_is_some root (sym (stops.refused tt) ∙ read)
  never_unwritten (errors.DefinedAgain key name first position) status stops = none_is_some root (sym (stops.refused tt) ∙ read)
  never_unwritten errors.TooDeep status stops = not_deeper stops.deep
  never_unwritten (errors.Emitter code) status stops = by_code code status stops.sound

-- ---- files that have a stream

module _ (settings : ValueSettings) (files : List (List ℕ)) (bytes : List ℕ) (whole : IsYamlOfTomlFiles settings files bytes) (first : WriterState)
    (new : IsNewWriter (seen_settings settings.emitter) first) where
  abbrev events_before : List (List ℕ × TomlNodes) → List Event
  events_before parts = before_next settings.emitter.canonical settings.flow parts

  abbrev events_of : List (List ℕ × TomlNodes) → List Event
  events_of parts = toml_parts_events settings.emitter.canonical settings.flow parts

  abbrev all : List Event
  all = opening ++ (events_of whole.parts ++ closing)

  -- one of them isn't refused
  module _ (front : List (List ℕ)) (file : List ℕ) (later : List (List ℕ)) (are : front ++ file ∷ later ≡ files) (begun now : WriterState)
      (promised : IsPromised now.emitter) (reached : Reached settings front first begun) where
    cut : map (λ part. part.0) reached.parts ++ file ∷ later ≡ map (λ part. part.0) whole.parts
    cut = ap (λ (texts : List (List ℕ)). texts ++ file ∷ later) reached.are ∙ are ∙ sym whole.are

    events_are : begun.emitter.events ≡ opening ++ events_before reached.parts
    events_are = events_given (λ c. before_next c settings.flow reached.parts) reached.emits.appended new.events new.canonical

    module _ (one : List ℕ × TomlNodes) (rest : List (List ℕ × TomlNodes)) (same : reached.parts ++ one ∷ rest ≡ whole.parts) (is : one.0 ≡ file)
        (good : AreToml settings.depth (one ∷ rest)) where
      read : ordered_document file ≡ Some one.1
      read = ap ordered_document (sym is) ∙ good.0.1

      -- nor does the emitter fail after the first of its events
      emitter_sound : GaveFirst settings.depth (root_events begun.canonical settings.flow one.1) begun now → (code : yaml_error_t)
          → now.emitter.error ≡ Some code → emitter_status code ≡ 1 → ⊥
      emitter_sound gave code has status =
          let (more, next) = next_begins settings.emitter.canonical settings.flow one rest in
          let begins : gave.given ++ gave.begins.rest ≡ root_events settings.emitter.canonical settings.flow one.1 =
          gave.begins.parts ∙ ap (λ (c : Bool). root_events c settings.flow one.1) (reached.canonical ∙ new.canonical) in
          never_fails (seen_settings settings.emitter) all bytes whole.stream ((opening ++ events_before reached.parts) ++ gave.given)
          (gave.begins.rest ++ (more ++ closing)) now.emitter code (gave.gave.emits.set.given ∙ reached.emits.given ∙ new.settings)
          (gave.gave.emits.set.events ∙ ap (λ (first : List Event). first ++ gave.given) events_are) promised (ap (λ (events : List Event). opening ++ events)
          (regroup (events_before reached.parts) gave.given gave.begins.rest more closing
          ∙ ap (λ (events : List Event). events ++ closing) (ap (λ (events : List Event). events_before reached.parts ++ (events ++ more)) begins
          ∙ ap (λ (events : List Event). events_before reached.parts ++ events) next
          ∙ parts_begin settings.emitter.canonical settings.flow reached.parts one rest ∙ ap events_of same)))
          has status

      not_refused : RefusesFile settings file begun now → ⊥
      not_refused (inl not_utf8) = not_utf8 (subst IsUtf8 is good.0.0)
      not_refused (inr unwritten) =
          never_unwritten settings file one.1 read (subst (NestsWithin settings.depth) is good.0.2) begun now
          (emitter_sound (unwritten.unwritten.stopped.first one.1 read)) unwritten.error unwritten.status unwritten.unwritten

    by_rest : (rest : List (List ℕ × TomlNodes)) → reached.parts ++ rest ≡ whole.parts → map (λ part. part.0) rest ≡ file ∷ later
        → AreToml settings.depth rest → RefusesFile settings file begun now → ⊥
    by_rest [] same texts good refused = absurd (cc)
    by_rest (one ∷ rest) same texts good refused = not_refused one rest same (first_same one.0 file (map (λ part. part.0) rest) later texts) good refused

    text_refused : RefusesFile settings file begun now → ⊥
    text_refused refused =
        let (rest, same, texts, good) = same_parts settings.depth reached.parts (file ∷ later) whole.parts reached.each whole.each cut in
        by_rest rest same texts good refused

  -- nor is the next document
  module _ (front : List (List ℕ)) (file : List ℕ) (later : List (List ℕ)) (are : front ++ file ∷ later ≡ files) (middle now : WriterState)
      (before held : Option (List ℕ)) (promised : IsPromised now.emitter)
      (sent : SentTomlFiles settings front first before middle held) (refuses : RefusesDocument middle now) where
    abbrev some : List (List ℕ × TomlNodes)
    some = sent.first ∷ sent.rest

    by_more : (rest : List (List ℕ × TomlNodes)) → some ++ rest ≡ whole.parts → map (λ part. part.0) rest ≡ file ∷ later → ⊥
    by_more [] same texts = absurd (cc)
    by_more (one ∷ rest) same texts =
        let emits = refuses.passed.emits in
        let events = events_given (λ c. toml_parts_events c settings.flow some) sent.wrote.emits.appended new.events new.canonical in
        let begins : ((opening ++ events_of some) ++ between) ++ (events_of (one ∷ rest) ++ closing) ≡ all =
        ap (λ (events : List Event). opening ++ events) (sym (append_assoc (events_of some ++ between) (events_of (one ∷ rest)) closing)
        ∙ ap (λ (events : List Event). events ++ closing)
        (ap (λ (events : List Event). events ++ events_of (one ∷ rest)) (with_between settings.emitter.canonical settings.flow sent.first sent.rest)
        ∙ parts_begin settings.emitter.canonical settings.flow some one rest ∙ ap events_of same)) in
        never_fails _ _ _ whole.stream ((opening ++ events_of some) ++ between) (events_of (one ∷ rest) ++ closing) now.emitter refuses.error
        (emits.set.given ∙ sent.wrote.emits.given ∙ new.settings) (emits.set.events ∙ ap (λ (first : List Event). first ++ between) events) promised begins
        (some_from_result _ refuses.error emits.answered) refuses.status

    document_refused : ⊥
    document_refused =
        let (rest, same, texts, good) = same_parts settings.depth some (file ∷ later) whole.parts sent.each whole.each
        (ap (λ (t : List (List ℕ)). t ++ file ∷ later) sent.are ∙ are ∙ sym whole.are) in
        by_more rest same texts

  -- nor is the end
  module _ (last : WriterState) (before held : Option (List ℕ)) (sent : SentTomlFiles settings files first before last held)
      (refuses : RefusesEnd last.emitter) where
    abbrev sent_parts : List (List ℕ × TomlNodes)
    sent_parts = sent.first ∷ sent.rest

    by_end : (rest : List (List ℕ × TomlNodes)) → sent_parts ++ rest ≡ whole.parts → map (λ part. part.0) rest ≡ [] → ⊥
    by_end [] same none =
        never_unended (seen_settings settings.emitter) (opening ++ events_of whole.parts) bytes whole.stream last.emitter
        (sent.wrote.emits.given ∙ new.settings)
        (events_given (λ c. toml_parts_events c settings.flow sent_parts) sent.wrote.emits.appended new.events new.canonical
        ∙ ap (λ (parts : List (List ℕ × TomlNodes)). opening ++ events_of parts) (sym (append-nil sent_parts) ∙ same))
        refuses
    by_end (one ∷ rest) same none = absurd (cc)

    end_refused : ⊥
    end_refused =
        let (rest, same, texts, good) = same_parts settings.depth sent_parts [] whole.parts sent.each whole.each
        (append-nil (map (λ part. part.0) sent_parts) ∙ sent.are ∙ sym whole.are) in
        by_end rest same texts

module _ (settings : ValueSettings) (files : List (List ℕ)) (before after : Option (List ℕ))
    (refuses : RefusesStream (SentTomlFile settings) (RefusedTomlFile settings) settings.emitter files before after) (bytes : List ℕ)
    (whole : IsYamlOfTomlFiles settings files bytes) where
  at_file : (front : List (List ℕ)) (file : List ℕ) (later : List (List ℕ)) → front ++ file ∷ later ≡ files → (middle : WriterState)
      (held : Option (List ℕ)) → SentTomlFiles settings front refuses.first before middle held
      → RefusesNext (SentTomlFile settings) (RefusedTomlFile settings) file middle held refuses.last after → ⊥
  at_file front file later are middle held sent (inl document) =
      document_refused settings files bytes whole refuses.first refuses.is_new front file later are middle refuses.last before held refuses.promised
      sent document
  at_file front file later are middle held sent (inr (begun, holds, began, refused)) =
      text_refused settings files bytes whole refuses.first refuses.is_new front file later are begun refuses.last
      refuses.promised (reached_next settings front refuses.first middle begun before held holds sent began) refused.0

  at_some : (some : List (List ℕ)) → some ≡ files
      → RefusesSome (SentTomlFile settings) (RefusedTomlFile settings) some refuses.first before refuses.last after → ⊥
  at_some [] same never = never
  at_some (file ∷ later) same (inl refused) =
      text_refused settings files bytes whole refuses.first refuses.is_new [] file later same refuses.first refuses.last
      refuses.promised (reached_none settings refuses.first) refused.0
  at_some (file ∷ others) same (inr (middle, holds, one, (front, next, later, last, held, are, behind, stops))) =
      at_file (file ∷ front) next later (ap (λ (all : List (List ℕ)). file ∷ all) are ∙ same) last held
      (all_sent settings (file ∷ front) refuses.first last before held (middle, holds, one, behind)) stops

  by_why : RefusesSome (SentTomlFile settings) (RefusedTomlFile settings) files refuses.first before refuses.last after
      ⊎ (SentFiles (SentTomlFile settings) files refuses.first before refuses.last after × RefusesEnd refuses.last.emitter) → ⊥
  by_why (inl some) = at_some files refl some
  by_why (inr (sent, end)) = end_refused settings files bytes whole refuses.first refuses.is_new refuses.last before after (all_sent _ _ _ _ _ _ sent) end

pub refused_none : (settings : ValueSettings) (files : List (List ℕ)) (before after : Option (List ℕ))
    → RefusesStream (SentTomlFile settings) (RefusedTomlFile settings) settings.emitter files before after → HaveNoYaml (IsYamlOfTomlFiles settings) files
refused_none settings files before after refuses (bytes, whole) = by_why settings files before after refuses bytes whole refuses.why
