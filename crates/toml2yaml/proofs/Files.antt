-- The documents of several files, sent one after another.
use Rattle.std.{proofs.KnownBytes.Appends-nil, proofs.KnownBytes.Appends-trans, specs.Io.KnownBytes.Appends}
use Rattle.std.proofs.Common.{ℕ, Option, List, [], ◌∷◌, ◌++◌, map, Bool, ◌≡◌, refl, ap, ap₂, subst, sym, ◌∙◌, append-nil, append_assoc}
use Rattle.toml_ordered.specs.Data.{TomlNodes}
use Rattle.yaml_base.{proofs.Common.map-append, proofs.Common.Event, specs.Settings.Settings}
use Rattle.yaml_pen.specs.Page.{output_left}
use Rattle.yaml_writer.specs.{WasGiven.between, WasGiven.WroteTaking, declared.settings.ValueSettings.ValueSettings}
use Rattle.yaml_writer.specs.Writing.{IsStream, WriterState, closing}
use Rattle.yaml_writer.proofs.GivenAndTaken.{begun_taken, stream_finished, taking_then, taking_same, took_none}
use Rattle.yaml_program.specs.{Conversions.WroteStream, Streams.BeganDocument, Streams.SentFiles, Streams.SentStream}
use Rattle.yaml_program.proofs.FilesInTurn.{each_sent}
use Rattle.toml2yaml.specs.Conversions.{AreToml, IsYamlOfTomlFiles, SentTomlFile, toml_parts_events, root_events}

-- ---- documents after others

both_toml : (depth : ℕ) (parts more : List (List ℕ × TomlNodes)) → AreToml depth parts → AreToml depth more → AreToml depth (parts ++ more)
both_toml depth [] more each others = others
both_toml depth (part ∷ parts) more each others = (each.0, both_toml depth parts more each.1 others)

-- with a document begun between them
both_events : (canonical in_flow : Bool) (first : List ℕ × TomlNodes) (rest : List (List ℕ × TomlNodes)) (next : List ℕ × TomlNodes)
    → (toml_parts_events canonical in_flow (first ∷ rest) ++ between) ++ root_events canonical in_flow next.1
    ≡ toml_parts_events canonical in_flow (first ∷ (rest ++ next ∷ []))
both_events canonical in_flow first [] next = append_assoc (root_events canonical in_flow first.1) between (root_events canonical in_flow next.1)
both_events canonical in_flow first (second ∷ rest) next =
    let later = toml_parts_events canonical in_flow (second ∷ rest) in
    let last = root_events canonical in_flow next.1 in
    ap (λ (events : List Event). events ++ last) (append_assoc (root_events canonical in_flow first.1) (between ++ later) between)
    ∙ append_assoc (root_events canonical in_flow first.1) ((between ++ later) ++ between) last
    ∙ ap (λ (events : List Event). root_events canonical in_flow first.1 ++ events)
    (ap (λ (events : List Event). events ++ last) (append_assoc between later between) ∙ append_assoc between (later ++ between) last
    ∙ ap (λ (events : List Event). between ++ events) (both_events canonical in_flow second rest next))

-- ---- files after others

-- True if these files, at least one, are documents of TOML, their events were given, a document each, and the sink was given the bytes that
-- were taken.
pub record SentTomlFiles (settings : ValueSettings) (files : List (List ℕ)) (was : WriterState) (before : Option (List ℕ)) (now : WriterState)
    (after : Option (List ℕ)) : Type 0 where
  pub first : List ℕ × TomlNodes
  pub rest : List (List ℕ × TomlNodes)
  pub are : map (λ part. part.0) (first ∷ rest) ≡ files
  pub each : AreToml settings.depth (first ∷ rest)
  pub handed : List ℕ
  pub sends : Appends before after handed
  pub wrote : WroteTaking was (toml_parts_events was.canonical settings.flow (first ∷ rest)) handed now

module _ (settings : ValueSettings) where
  -- a file
  file_sent : (file : List ℕ) (was now : WriterState) (held after : Option (List ℕ)) → SentTomlFile settings file was held now after
      → SentTomlFiles settings (file ∷ []) was held now after
  file_sent file was now held after ((utf8, nests, wrote), same) =
      record {
        first = (file, wrote.root);
        rest = [];
        are = refl;
        each = ((utf8, wrote.read, nests), tt);
        handed = [];
        sends = subst (λ (holds : Option (List ℕ)). Appends held holds []) (sym same) (Appends-nil held);
        wrote = took_none was now (root_events was.canonical settings.flow wrote.root) wrote.wrote;
      }

  -- and another
  next_sent : (files : List (List ℕ)) (file : List ℕ) (was middle begun now : WriterState) (start held holds after : Option (List ℕ))
      → SentTomlFiles settings files was start middle held → BeganDocument middle held begun holds
      → SentTomlFile settings file begun holds now after → SentTomlFiles settings (files ++ file ∷ []) was start now after
  next_sent files file was middle begun now start held holds after sent began ((utf8, nests, one), stays) =
      let begins = begun_taken middle began.begun begun (output_left began.begun.emitter.page) held holds sent.wrote.bare began.passed refl
      began.kept began.sends in
      let next : List ℕ × TomlNodes = (file, one.root) in
      let parts = sent.first ∷ sent.rest in
      let handed = sent.handed ++ begins.bytes in
      let same : begun.canonical ≡ was.canonical = begins.wrote.canonical ∙ sent.wrote.canonical in
      record {
        first = sent.first;
        rest = sent.rest ++ next ∷ [];
        are = map-append (λ (part : List ℕ × TomlNodes). part.0) parts (next ∷ []) ∙ ap (λ (texts : List (List ℕ)). texts ++ file ∷ []) sent.are;
        each = both_toml settings.depth parts (next ∷ []) sent.each ((utf8, one.read, nests), tt);
        handed = handed;
        sends = subst (λ (all : Option (List ℕ)). Appends start all handed) (sym stays)
            (Appends-trans start held holds sent.handed begins.bytes sent.sends begins.sends);
        wrote = taking_same _ _ _ _ _ _ (both_events was.canonical settings.flow sent.first sent.rest next) (append-nil handed) (taking_then _ _ _ _ _ _ []
            (taking_then _ _ _ _ _ _ _ sent.wrote begins.wrote)
            (subst (λ (canonical : Bool). WroteTaking begun (root_events canonical settings.flow one.root) [] now) same (took_none _ _ _ one.wrote)));
      }

  -- and all
  pub all_sent : (files : List (List ℕ)) (was now : WriterState) (before after : Option (List ℕ)) → SentFiles (SentTomlFile settings) files was before now after
      → SentTomlFiles settings files was before now after
  all_sent files was now before after =
      each_sent (SentTomlFile settings) (λ all now holds. SentTomlFiles settings all was before now holds) (λ some file middle begun now held holds later.
      next_sent some file was middle begun now before held holds later) files was now before after (λ file now holds. file_sent file was now before holds)

  pub all_wrote : (files : List (List ℕ)) (before after : Option (List ℕ)) → SentStream (SentTomlFile settings) settings.emitter files before after
      → WroteStream (IsYamlOfTomlFiles settings) files before after
  all_wrote files before after whole =
      let was = whole.first in
      let sent = all_sent files was whole.last before whole.held whole.documents in
      let parts = sent.first ∷ sent.rest in
      let (bytes, sends, finishes) = whole.rest in
      let emits = sent.wrote.emits in
      let new = whole.is_new in (
        sent.handed ++ bytes,
        Appends-trans before whole.held after sent.handed bytes sent.sends sends,
        record {
          parts = parts;
          are = sent.are;
          each = sent.each;
          stream = stream_finished whole.last.emitter bytes (emits.given ∙ new.settings)
              (emits.appended ∙ ap₂ (λ (before : List Event) (c : Bool). before ++ toml_parts_events c settings.flow parts) new.events new.canonical)
              (emits.taken ∙ ap (λ (taken : List ℕ). taken ++ sent.handed) new.untaken) finishes;
        },
      )
