-- The YAML of several files, which a sink is given one after another.
use Rattle.std.specs.Prelude.{◌≡◌, ◌⊎◌, ℕ, Option, Ok, Err, List, [], ◌∷◌, ◌++◌, true}
use Rattle.std.specs.Io.KnownBytes.{Appends}
use Rattle.yaml_base.specs.Event.{document_end}
use Rattle.yaml_base.specs.declared.errors.yaml_error_t.{yaml_error_t}
use Rattle.yaml_pen.specs.Page.{output_left}
use Rattle.yaml_emitter.specs.Emits.{IsPromised}
use Rattle.yaml_emitter.specs.Given.{seen_settings}
use Rattle.yaml_emitter.specs.State.{State, with_all_taken}
use Rattle.yaml_emitter.specs.declared.settings.Settings.{Settings}
use Rattle.yaml_writer.specs.Unfinished.{IsUnfinished}
use Rattle.yaml_writer.specs.Writing.{Finishes, IsNewWriter, PassedEvents, WriterState, plain_start}
use Rattle.yaml_program.specs.Faults.{emitter_status}

-- A relation of a file's bytes, and of a writer and a sink before and after the file is sent.
abbrev pub Sending : Type 1
Sending = List ℕ → WriterState → Option (List ℕ) → WriterState → Option (List ℕ) → Type 0

-- True if the next document was begun, and the sink was given all that was written before it.
pub record BeganDocument (was : WriterState) (before : Option (List ℕ)) (now : WriterState) (after : Option (List ℕ)) : Type 0 where
  pub begun : WriterState
  pub passed : PassedEvents was (document_end true ∷ plain_start ∷ []) (Ok tt) begun
  pub sends : Appends before after (output_left begun.emitter.page)
  pub kept : now ≡ record begun { emitter = with_all_taken begun.emitter }

module _ (sent : Sending) where
  -- True if these files were sent after others, with a document begun before each.
  abbrev pub SentBehind : List (List ℕ) → WriterState → Option (List ℕ) → WriterState → Option (List ℕ) → Type 0
  SentBehind [] was before now after = (now ≡ was) × (after ≡ before)
  SentBehind (file ∷ files) was before now after =
      (begun : WriterState) × (held : Option (List ℕ)) × (middle : WriterState) × (holds : Option (List ℕ)) × BeganDocument was before begun held
      × sent file begun held middle holds × SentBehind files middle holds now after

  -- True if these files were sent, at least one.
  abbrev pub SentFiles : List (List ℕ) → WriterState → Option (List ℕ) → WriterState → Option (List ℕ) → Type 0
  SentFiles [] was before now after = ⊥
  SentFiles (file ∷ files) was before now after =
      (middle : WriterState) × (holds : Option (List ℕ)) × sent file was before middle holds × SentBehind files middle holds now after

-- True if the stream was finished, and the sink was given the rest of it.
abbrev pub WroteLast : State → Option (List ℕ) → Option (List ℕ) → Type 0
WroteLast emitter before after = (bytes : List ℕ) × Appends before after bytes × Finishes emitter bytes

-- True if a new writer with these settings sent these files and finished the stream.
pub record SentStream (sent : Sending) (settings : Settings) (files : List (List ℕ)) (before after : Option (List ℕ)) : Type 0 where
  pub first : WriterState
  pub is_new : IsNewWriter (seen_settings settings) first
  pub last : WriterState
  pub held : Option (List ℕ)
  pub documents : SentFiles sent files first before last held
  pub rest : WroteLast last.emitter held after

-- ---- a stream that is refused

-- True if the next document couldn't be begun, since the emitter refuses the events so far, or their bytes pass the limit.
pub record RefusesDocument (was now : WriterState) : Type 0 where
  pub error : yaml_error_t
  pub status : emitter_status error ≡ 1
  pub passed : PassedEvents was (document_end true ∷ plain_start ∷ []) (Err error) now

-- True if the stream couldn't be finished, since the emitter refuses its events, or their bytes pass the limit.
pub record RefusesEnd (emitter : State) : Type 0 where
  pub error : yaml_error_t
  pub status : emitter_status error ≡ 1
  pub unfinished : IsUnfinished emitter error

module _ (sent refused : Sending) where
  -- True if the next document couldn't be begun, or it was begun and its file is refused.
  abbrev pub RefusesNext : List ℕ → WriterState → Option (List ℕ) → WriterState → Option (List ℕ) → Type 0
  RefusesNext file was before now after =
      RefusesDocument was now
      ⊎ ((begun : WriterState) × (held : Option (List ℕ)) × BeganDocument was before begun held × refused file begun held now after)

  -- True if one of these files is refused, after those before it were sent after others.
  abbrev pub RefusesBehind : List (List ℕ) → WriterState → Option (List ℕ) → WriterState → Option (List ℕ) → Type 0
  RefusesBehind files was before now after =
      (front : List (List ℕ)) × (file : List ℕ) × (later : List (List ℕ)) × (middle : WriterState) × (held : Option (List ℕ))
      × (front ++ file ∷ later ≡ files) × SentBehind sent front was before middle held × RefusesNext file middle held now after

  -- True if one of these files is refused, after those before it were sent.
  abbrev pub RefusesSome : List (List ℕ) → WriterState → Option (List ℕ) → WriterState → Option (List ℕ) → Type 0
  RefusesSome [] was before now after = ⊥
  RefusesSome (file ∷ files) was before now after =
      refused file was before now after
      ⊎ ((middle : WriterState) × (holds : Option (List ℕ)) × sent file was before middle holds × RefusesBehind files middle holds now after)

-- True if a new writer with these settings refused one of these files, or sent all of them and couldn't finish the stream.
pub record RefusesStream (sent refused : Sending) (settings : Settings) (files : List (List ℕ)) (before after : Option (List ℕ)) : Type 0 where
  pub first : WriterState
  pub is_new : IsNewWriter (seen_settings settings) first
  pub last : WriterState
  pub promised : IsPromised last.emitter
  pub why : RefusesSome sent refused files first before last after ⊎ (SentFiles sent files first before last after × RefusesEnd last.emitter)
