-- The texts of several files, sent one after another.
use Rattle.std.proofs.{lemmas.List.Elements.All-append, lemmas.List.Elements.All-nil, lemmas.List.Elements.All-push, KnownBytes.Appends-trans}
use Rattle.std.proofs.Common.{ℕ, Option, List, [], ◌∷◌, ◌++◌, map, flat_map, Bool, refl, ◌≡◌, ap, subst, sym, ◌∙◌, append-nil, append_assoc}
use Rattle.std.specs.{Io.KnownBytes.Appends, List.All, Str.IsUtf8}
use Rattle.yaml_base.proofs.Common.{flat_map-append, map-append, Event}
use Rattle.json.specs.Json.{Json}
use Rattle.yaml_pen.specs.Page.{output_left}
use Rattle.yaml_writer.specs.{Writing.WriterState, WasGiven.between, WasGiven.WroteTaking}
use Rattle.yaml_writer.proofs.GivenAndTaken.{begun_taken, stream_finished, taking_then}
use Rattle.yaml_json.{specs.JsonEvents.json_events, specs.Refused.HaveNamesOnce, specs.Texts.texts_in, specs.Wrote.AreJson, specs.Wrote.parts_events}
use Rattle.yaml_json.{specs.declared.settings.JsonSettings.JsonSettings, proofs.TextsInTurn.some_text, proofs.YamlOf.opened_events}
use Rattle.json2yaml.specs.Conversions.{IsYamlOfJsonFiles, SentJsonFile}
use Rattle.yaml_program.specs.{Conversions.WroteStream, Streams.BeganDocument, Streams.SentFiles, Streams.SentStream}
use Rattle.yaml_program.proofs.FilesInTurn.{each_sent}

-- ---- texts after others

pub both_json : (depth : ℕ) (parts more : List (List ℕ × Json)) → AreJson depth parts → AreJson depth more → AreJson depth (parts ++ more)
both_json depth [] more each others = others
both_json depth (part ∷ parts) more each others = (each.0, both_json depth parts more each.1 others)

both_names : (unique : Bool) (texts more : List (List ℕ)) → HaveNamesOnce unique texts → HaveNamesOnce unique more → HaveNamesOnce unique (texts ++ more)
both_names unique [] more once others = others
both_names unique (text ∷ texts) more once others = (once.0, both_names unique texts more once.1 others)

-- with a document begun between them
both_events : (canonical in_flow : Bool) (first : List ℕ × Json) (rest : List (List ℕ × Json)) (next : List ℕ × Json) (more : List (List ℕ × Json))
    → (parts_events canonical in_flow (first ∷ rest) ++ between) ++ parts_events canonical in_flow (next ∷ more)
    ≡ parts_events canonical in_flow ((first ∷ rest) ++ next ∷ more)
both_events canonical in_flow first [] next more = append_assoc (json_events canonical in_flow first.1) between (parts_events canonical in_flow (next ∷ more))
both_events canonical in_flow first (second ∷ rest) next more =
    let later = parts_events canonical in_flow (second ∷ rest) in
    let last = parts_events canonical in_flow (next ∷ more) in
    ap (λ (events : List Event). events ++ last) (append_assoc (json_events canonical in_flow first.1) (between ++ later) between)
    ∙ append_assoc (json_events canonical in_flow first.1) ((between ++ later) ++ between) last
    ∙ ap (λ (events : List Event). json_events canonical in_flow first.1 ++ events)
    (ap (λ (events : List Event). events ++ last) (append_assoc between later between) ∙ append_assoc between (later ++ between) last
    ∙ ap (λ (events : List Event). between ++ events) (both_events canonical in_flow second rest next more))

-- ---- files after others

-- True if the texts of these files, at least one, are JSON nested at most `depth` deep, with each name once in its object if that is asked
-- for, their events were given, a document each, and the sink was given the bytes that were taken.
pub record SentJsonFiles (settings : JsonSettings) (files : List (List ℕ)) (was : WriterState) (before : Option (List ℕ)) (now : WriterState)
    (after : Option (List ℕ)) : Type 0 where
  pub first : List ℕ × Json
  pub rest : List (List ℕ × Json)
  pub utf8 : All IsUtf8 files
  pub cut : map (λ part. part.0) (first ∷ rest) ≡ flat_map texts_in files
  pub each : AreJson settings.values.depth (first ∷ rest)
  pub names : HaveNamesOnce settings.unique_names (flat_map texts_in files)
  pub handed : List ℕ
  pub sends : Appends before after handed
  pub wrote : WroteTaking was (parts_events was.canonical settings.values.flow (first ∷ rest)) handed now

module _ (settings : JsonSettings) where
  -- a file
  one_file : (file : List ℕ) (was now : WriterState) (before after : Option (List ℕ)) (parts : List (List ℕ × Json))
      → map (λ part. part.0) parts ≡ texts_in file → AreJson settings.values.depth parts → HaveNamesOnce settings.unique_names (texts_in file)
      → (handed : List ℕ) → Appends before after handed → WroteTaking was (parts_events was.canonical settings.values.flow parts) handed now
      → IsUtf8 file → SentJsonFiles settings (file ∷ []) was before now after
  one_file file was now before after [] cut each names handed sends wrote utf8 =
      let (next, later, is) = some_text file in absurd (cc (cut ∙ is))
  one_file file was now before after (first ∷ rest) cut each names handed sends wrote utf8 =
      record {
        utf8 = All-push IsUtf8 [] file (All-nil IsUtf8) utf8;
        first = first;
        rest = rest;
        cut = cut ∙ sym (append-nil (texts_in file));
        each = each;
        names = subst (HaveNamesOnce settings.unique_names) (sym (append-nil (texts_in file))) names;
        handed = handed;
        sends = sends;
        wrote = wrote;
      }

  file_sent : (file : List ℕ) (was now : WriterState) (before after : Option (List ℕ)) → SentJsonFile settings file was before now after
      → SentJsonFiles settings (file ∷ []) was before now after
  file_sent file was now before after sent =
      one_file file was now before after sent.parts sent.cut sent.each sent.names sent.handed sent.sends sent.wrote sent.utf8

  -- and another
  next_sent : (files : List (List ℕ)) (file : List ℕ) (was middle begun now : WriterState) (start held holds after : Option (List ℕ))
      → SentJsonFiles settings files was start middle held → BeganDocument middle held begun holds → SentJsonFile settings file begun holds now after
      → SentJsonFiles settings (files ++ file ∷ []) was start now after
  next_sent files file was middle begun now start held holds after sent began one =
      let begins = begun_taken middle began.begun begun (output_left began.begun.emitter.page) held holds sent.wrote.bare began.passed refl
      began.kept began.sends in
      let other = file_sent file begun now holds after one in
      let parts = sent.first ∷ sent.rest in
      let more = other.first ∷ other.rest in
      let same : begun.canonical ≡ was.canonical = begins.wrote.canonical ∙ sent.wrote.canonical in
      let joined : flat_map texts_in (files ++ file ∷ []) ≡ flat_map texts_in files ++ flat_map texts_in (file ∷ []) =
      flat_map-append texts_in files (file ∷ []) in
      record {
        utf8 = All-append IsUtf8 files (file ∷ []) sent.utf8 other.utf8;
        first = sent.first;
        rest = sent.rest ++ more;
        cut = map-append (λ (part : List ℕ × Json). part.0) parts more
            ∙ ap (λ (texts : List (List ℕ)). texts ++ map (λ part. part.0) more) sent.cut
            ∙ ap (λ (texts : List (List ℕ)). flat_map texts_in files ++ texts) other.cut ∙ sym joined;
        each = both_json settings.values.depth parts more sent.each other.each;
        names = subst (HaveNamesOnce settings.unique_names) (sym joined)
            (both_names settings.unique_names (flat_map texts_in files) (flat_map texts_in (file ∷ [])) sent.names other.names);
        handed = (sent.handed ++ begins.bytes) ++ other.handed;
        sends = Appends-trans start holds after (sent.handed ++ begins.bytes) other.handed
            (Appends-trans start held holds sent.handed begins.bytes sent.sends begins.sends) other.sends;
        wrote = subst (λ (events : List Event). WroteTaking was events ((sent.handed ++ begins.bytes) ++ other.handed) now) (both_events was.canonical
            settings.values.flow sent.first sent.rest other.first other.rest) (taking_then _ _ _ _ _ _ _ (taking_then _ _ _ _ _ _ _ sent.wrote begins.wrote)
            (subst (λ (canonical : Bool). WroteTaking begun (parts_events canonical settings.values.flow more) other.handed now) same other.wrote));
      }

  -- and all
  pub all_sent : (files : List (List ℕ)) (was now : WriterState) (before after : Option (List ℕ)) → SentFiles (SentJsonFile settings) files was before now after
      → SentJsonFiles settings files was before now after
  all_sent files was now before after =
      each_sent (SentJsonFile settings) (λ all now holds. SentJsonFiles settings all was before now holds) (λ some file middle begun now held holds later.
      next_sent some file was middle begun now before held holds later) files was now before after (λ file now holds. file_sent file was now before holds)

  pub all_wrote : (files : List (List ℕ)) (before after : Option (List ℕ)) → SentStream (SentJsonFile settings) settings.values.emitter files before after
      → WroteStream (IsYamlOfJsonFiles settings) files before after
  all_wrote files before after whole =
      let was = whole.first in
      let sent = all_sent files was whole.last before whole.held whole.documents in
      let parts = sent.first ∷ sent.rest in
      let (bytes, sends, finishes) = whole.rest in
      let emits = sent.wrote.emits in
      let new = whole.is_new in (
        sent.handed ++ bytes,
        Appends-trans before whole.held after sent.handed bytes sent.sends sends,
        record {
          utf8 = sent.utf8;
          parts = parts;
          cut = sent.cut;
          each = sent.each;
          names = sent.names;
          stream = stream_finished whole.last.emitter bytes (emits.given ∙ new.settings) (opened_events (λ c. parts_events c settings.values.flow parts)
              emits.appended new.events new.canonical) (emits.taken ∙ ap (λ (taken : List ℕ). taken ++ sent.handed) new.untaken) finishes;
        },
      )
