-- The settings that the options ask for, and the YAML of the texts of several files, or the canonical bytes of one, which a sink is given.
use Rattle.std.specs.List.{All}
use Rattle.std.specs.Prelude.{◌≡◌, ℕ, List, [], ◌∷◌, ◌++◌, codes, flat_map, map, Err, IsUtf8, Option, Bool, true, false}
use Rattle.clap.specs.declared.parser.matches.ArgMatches.{ArgMatches}
use Rattle.json.specs.Json.{Json}
use Rattle.yaml_emitter.specs.Given.{seen_settings}
use Rattle.yaml_writer.specs.Writing.{IsStream, WriterState, closing, opening}
use Rattle.yaml_json.specs.Refused.{HaveNamesOnce}
use Rattle.yaml_json.specs.Sent.{IsSoundSending, SentTexts, StopsSending}
use Rattle.yaml_json.specs.Texts.{texts_in}
use Rattle.yaml_json.specs.Wrote.{AreJson, parts_events}
use Rattle.yaml_json.specs.declared.error.StreamError.{StreamError}
use Rattle.yaml_json.specs.declared.settings.JsonSettings.{JsonSettings}
use Rattle.yaml_value.specs.declared.keys.Keys.{Keys}
use Rattle.yaml_value.specs.declared.keys.Keys.TheVariants as keys
use Rattle.yaml_json_value.specs.Typed.{IsCanonicalOf}
use Rattle.json2yaml.specs.Statuses.{json_status}
use Rattle.json2yaml.specs.declared.formats.JsonFormat.{JsonFormat}
use Rattle.yaml_program.specs.Options.{AreValueSettings, IsOff, IsOn, value_of}
use Rattle.yaml_program.specs.Streams.{Sending}

-- True if the settings are those that the options ask for.
pub record AreJsonSettings (matches : ArgMatches) (settings : JsonSettings) : Type 0 where
  pub values : AreValueSettings matches settings.values
  pub names : IsOff (value_of matches (codes "allow-duplicates")) settings.unique_names

-- True if the format is the one that the options ask for.
pub record IsJsonFormat (matches : ArgMatches) (format : JsonFormat) : Type 0 where
  pub settings : AreJsonSettings matches format.settings
  pub deterministic : IsOn (value_of matches (codes "deterministic")) format.deterministic

-- ---- the bytes that a sink is given

-- True if the texts of this file were sent.
abbrev pub SentJsonFile : JsonSettings → Sending
SentJsonFile settings = SentTexts settings.values.depth settings.unique_names settings.values.flow

-- True if one of the texts of this file is refused, or the emitter refuses an event of it, or the bytes pass the limit there; and what comes
-- before it was sent.
pub record RefusedJsonFile (settings : JsonSettings) (file : List ℕ) (was : WriterState) (before : Option (List ℕ)) (now : WriterState)
    (after : Option (List ℕ)) : Type 0 where
  pub error : StreamError
  pub status : json_status error ≡ 1
  pub sound : IsSoundSending was (Err error) now
  pub stops : StopsSending settings.values.depth settings.unique_names settings.values.flow file was before error now after

-- True if the files are UTF-8, and the bytes are the stream of their texts, a document each, by these settings.
pub record IsYamlOfJsonFiles (settings : JsonSettings) (files : List (List ℕ)) (bytes : List ℕ) : Type 0 where
  pub utf8 : All IsUtf8 files
  pub parts : List (List ℕ × Json)
  pub cut : map (λ part. part.0) parts ≡ flat_map texts_in files
  pub each : AreJson settings.values.depth parts
  pub names : HaveNamesOnce settings.unique_names (flat_map texts_in files)
  pub stream : IsStream (seen_settings settings.values.emitter)
      (opening ++ parts_events settings.values.emitter.canonical settings.values.flow parts ++ closing) bytes

-- ---- the canonical bytes of one text

-- The keys of a map differ if names must be unique.
abbrev pub keys_of : (unique : Bool) → Keys
keys_of true = keys.Unique
keys_of false = keys.MayRepeat

-- True if there is one file, it is UTF-8, and the bytes are the canonical bytes of the value of its JSON text.
pub record IsCanonicalOfJsonFiles (mode : Keys) (files : List (List ℕ)) (bytes : List ℕ) : Type 0 where
  pub file : List ℕ
  pub one : files ≡ file ∷ []
  pub utf8 : IsUtf8 file
  pub canonical : IsCanonicalOf mode file bytes

-- True if the bytes are what a format writes of these files: canonical bytes if it is deterministic, else the stream of their texts.
abbrev pub IsOutputOfJsonFiles : (deterministic : Bool) → JsonSettings → List (List ℕ) → List ℕ → Type 0
IsOutputOfJsonFiles false settings = IsYamlOfJsonFiles settings
IsOutputOfJsonFiles true settings = IsCanonicalOfJsonFiles (keys_of settings.unique_names)
