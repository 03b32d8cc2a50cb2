-- The effects of the calls that write a document of TOML, by their results.
use Rattle.std.specs.Prelude.{◌≡◌, ℕ, Bool, None, Result, Ok, Err, Vec, IfSome, List}
use Rattle.toml_ordered.specs.Grammar.{ordered_document}
use Rattle.yaml_base.specs.Settings.{Settings}
use Rattle.yaml_emitter.specs.Given.{seen_settings}
use Rattle.yaml_pen.specs.Wrote.{Grows}
use Rattle.yaml_writer.specs.Writing.{WriterState}
use Rattle.yaml_toml.specs.Depth.{ExplainsDepth, NestsWithin}
use Rattle.yaml_toml.specs.Failing.{StopsInDocument, TomlFailsBy}
use Rattle.yaml_toml.specs.Means.{IsYamlOfToml}
use Rattle.yaml_toml.specs.Places.{HasTomlPlace, HasTomlReason}
use Rattle.yaml_toml.specs.Walk.{DeniesToml, IsSoundAfterToml, WroteToml, toml_writers_error}
use Rattle.yaml_toml.specs.declared.error.TomlError.{TomlError}
use Rattle.yaml_writer.specs.declared.settings.ValueSettings.{ValueSettings}

-- ---- a document

-- The text is a document that nests no deeper than is allowed, and the writer was given its events; earlier output stays, and the emitter has
-- no error.
pub record DocumentWritten (settings : ValueSettings) (text : List ℕ) (was now : WriterState) : Type 0 where
  pub grows : Grows was.emitter.page now.emitter.page
  pub sound : IsSoundAfterToml was (Ok tt) now
  pub written : WroteToml settings.flow text was now
  pub nests : NestsWithin settings.depth text

-- The writer was given the first events of the document, and no more, since the text is refused at this place or nests too deep, or the
-- writer failed; earlier output stays, and an error of the emitter is the one that is returned.
pub record DocumentUnwritten (settings : ValueSettings) (text : List ℕ) (was : WriterState) (error : TomlError) (now : WriterState) : Type 0 where
  pub grows : Grows was.emitter.page now.emitter.page
  pub sound : IsSoundAfterToml was (Err error) now
  pub refused : DeniesToml error → ordered_document text ≡ None
  pub deep : ExplainsDepth settings.depth text error
  pub stopped : StopsInDocument settings.depth settings.flow text was error now
  pub place : HasTomlPlace text error
  pub reason : HasTomlReason text error

abbrev pub WritesToml : ValueSettings → List ℕ → WriterState → Result (Unit {0}) TomlError → WriterState → Type 0
WritesToml settings text was (Ok done) now = DocumentWritten settings text was now
WritesToml settings text was (Err error) now = DocumentUnwritten settings text was error now

-- ---- the YAML of a text

-- the text is a document that nests no deeper than is allowed, and these bytes are its YAML
pub record HasTomlYaml (given : Settings) (in_flow : Bool) (depth : ℕ) (text bytes : List ℕ) : Type 0 where
  pub stream : IsYamlOfToml given in_flow text bytes
  pub nests : NestsWithin depth text

-- the reason why the text has none: it is refused at this place or nests too deep, or the writer failed
pub record HasNoTomlYaml (given : Settings) (in_flow : Bool) (depth : ℕ) (text : List ℕ) (error : TomlError) : Type 0 where
  pub refused : DeniesToml error → ordered_document text ≡ None
  pub deep : ExplainsDepth depth text error
  pub failed : IfSome (toml_writers_error error) (TomlFailsBy given in_flow depth text)
  pub place : HasTomlPlace text error
  pub reason : HasTomlReason text error

abbrev pub ReturnsTomlYaml : {A : Type 0} → ValueSettings → List ℕ → Result (Vec ℕ A) TomlError → Type 0
ReturnsTomlYaml settings text (Ok bytes) = HasTomlYaml (seen_settings settings.emitter) settings.flow settings.depth text bytes.items
ReturnsTomlYaml settings text (Err error) = HasNoTomlYaml (seen_settings settings.emitter) settings.flow settings.depth text error
