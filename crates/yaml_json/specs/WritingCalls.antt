-- The calls that write JSON texts, by their results.
use Rattle.std.specs.Prelude.{ℕ, Bool, Result, Ok, Err, Vec, IfSome, IsSome, List}
use Rattle.yaml_base.specs.Settings.{Settings}
use Rattle.yaml_emitter.specs.Given.{seen_settings}
use Rattle.yaml_pen.specs.Wrote.{Grows}
use Rattle.yaml_writer.specs.Writing.{WriterState}
use Rattle.yaml_json.specs.Failing.{IsSound, JsonFailsBy, StaysUnlessOpened, writers_error}
use Rattle.yaml_json.specs.Places.{HasPlace}
use Rattle.yaml_json.specs.Refused.{DeniesJson, ExplainsError, HasNamesOnce, HaveNamesOnce, IsNotJson}
use Rattle.yaml_json.specs.Stopped.{StopsInText, StopsInTexts}
use Rattle.yaml_json.specs.Texts.{texts_in}
use Rattle.yaml_json.specs.Wrote.{IsYamlOf, ReadsTexts, WroteText, WroteTexts}
use Rattle.yaml_json.specs.declared.error.JsonError.{JsonError}
use Rattle.yaml_json.specs.declared.settings.JsonSettings.{JsonSettings}

-- ---- a text

-- The text is JSON, and the writer was given its events; earlier output stays, and the emitter has no error.
pub record TextWritten (settings : JsonSettings) (text : List ℕ) (was now : WriterState) : Type 0 where
  pub grows : Grows was.emitter.page now.emitter.page
  pub sound : IsSound was (Ok tt) now
  pub written : WroteText settings.values.depth settings.values.flow text was now
  pub names : HasNamesOnce settings.unique_names text

-- The writer was given the events of the text's first tokens, and no more, since the text is refused or the writer failed; earlier output
-- stays, and an error of the emitter is the one that is returned. If memory ran out that isn't the emitter's, a collection of the text is
-- open, or nothing changed.
pub record TextUnwritten (settings : JsonSettings) (text : List ℕ) (was : WriterState) (error : JsonError) (now : WriterState) : Type 0 where
  pub grows : Grows was.emitter.page now.emitter.page
  pub sound : IsSound was (Err error) now
  pub refused : DeniesJson error → IsNotJson settings.values.depth text
  pub stopped : StopsInText settings.values.depth settings.unique_names settings.values.flow text was error now
  pub place : HasPlace settings.values.depth text error
  pub unopened : IsSome (writers_error error) → StaysUnlessOpened was now

abbrev pub WritesText : JsonSettings → List ℕ → WriterState → Result (Unit {0}) JsonError → WriterState → Type 0
WritesText settings text was (Ok done) now = TextWritten settings text was now
WritesText settings text was (Err error) now = TextUnwritten settings text was error now

-- ---- the texts in a text

-- They are JSON, and the writer was given their events, a document each. If these are all the stream, it is read as their values.
pub record TextsWritten (settings : JsonSettings) (text : List ℕ) (was now : WriterState) : Type 0 where
  pub grows : Grows was.emitter.page now.emitter.page
  pub sound : IsSound was (Ok tt) now
  pub written : WroteTexts settings.values.depth settings.values.flow text was now
  pub reads : ReadsTexts settings.values.depth settings.values.flow text was now
  pub names : HaveNamesOnce settings.unique_names (texts_in text)

-- the writer was given the documents of the first of them, and the events of the first tokens of the next, and no more
pub record TextsUnwritten (settings : JsonSettings) (text : List ℕ) (was : WriterState) (error : JsonError) (now : WriterState) : Type 0 where
  pub grows : Grows was.emitter.page now.emitter.page
  pub sound : IsSound was (Err error) now
  pub stopped : StopsInTexts settings.values.depth settings.unique_names settings.values.flow text was error now

abbrev pub WritesTexts : JsonSettings → List ℕ → WriterState → Result (Unit {0}) JsonError → WriterState → Type 0
WritesTexts settings text was (Ok done) now = TextsWritten settings text was now
WritesTexts settings text was (Err error) now = TextsUnwritten settings text was error now

-- ---- the YAML of a text

-- The text is JSON, with unique names if that is asked for, and these bytes are its YAML.
pub record HasYaml (given : Settings) (in_flow : Bool) (depth : ℕ) (unique : Bool) (text bytes : List ℕ) : Type 0 where
  pub stream : IsYamlOf given in_flow depth text bytes
  pub names : HasNamesOnce unique text

-- why the text has none: it is refused at this place, or the writer failed
pub record HasNoYaml (given : Settings) (in_flow : Bool) (depth : ℕ) (unique : Bool) (text : List ℕ) (error : JsonError) : Type 0 where
  pub refused : DeniesJson error → IsNotJson depth text
  pub why : ExplainsError depth unique text error
  pub failed : IfSome (writers_error error) (JsonFailsBy given in_flow depth text)
  pub place : HasPlace depth text error

abbrev pub ReturnsYaml : {A : Type 0} → JsonSettings → List ℕ → Result (Vec ℕ A) JsonError → Type 0
ReturnsYaml settings text (Ok bytes) =
    HasYaml (seen_settings settings.values.emitter) settings.values.flow settings.values.depth settings.unique_names text bytes.items
ReturnsYaml settings text (Err error) =
    HasNoYaml (seen_settings settings.values.emitter) settings.values.flow settings.values.depth settings.unique_names text error
