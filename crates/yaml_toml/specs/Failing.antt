-- The events that a writer was given of a document that isn't written, and the reasons why no stream was.
use Rattle.std.specs.Prelude.{◌≡◌, ℕ, ◌≤◌, Bool, None, Some, IfSome, List, ◌++◌}
use Rattle.toml_ordered.specs.Data.{TomlNodes, table}
use Rattle.toml_ordered.specs.Grammar.{ordered_document}
use Rattle.toml_ordered.specs.declared.tree.Origin.TheVariants.{Header}
use Rattle.yaml_base.specs.Event.{Event}
use Rattle.yaml_base.specs.Prefix.{IsPrefix}
use Rattle.yaml_base.specs.Refusal.{most_open, open_count}
use Rattle.yaml_base.specs.Settings.{Settings}
use Rattle.yaml_base.specs.declared.errors.yaml_error_t.{yaml_error_t}
use Rattle.yaml_base.specs.declared.errors.yaml_error_t.TheVariants.{Memory}
use Rattle.yaml_emitter.specs.Uncut.{IsUncut}
use Rattle.yaml_writer.specs.Unfinished.{FailsBy, PassesLimit}
use Rattle.yaml_writer.specs.WasGiven.{GaveEvents}
use Rattle.yaml_writer.specs.Writing.{WriterState, closing, opening}
use Rattle.yaml_toml.specs.Depth.{NestsDeeper, document_nesting}
use Rattle.yaml_toml.specs.Events.{toml_events}
use Rattle.yaml_toml.specs.Walk.{toml_writers_error}
use Rattle.yaml_toml.specs.declared.error.TomlError.{TomlError}

-- The first of these events were given, and never more than `depth` collections were open. The writer can be used further: its form is
-- unchanged, those collections are open that the given events leave open, and the next node has no anchor and no tag.
pub record GaveFirst (depth : ℕ) (due : List Event) (was now : WriterState) : Type 0 where
  pub given : List Event
  pub begins : IsPrefix given due
  pub few : (prefix rest : List Event) → prefix ++ rest ≡ given → open_count prefix ≤ depth
  pub gave : GaveEvents was given now

-- The writer was given the first events of the document that the text is; if the text is none, nothing changed, and a writer's error tells
-- of an allocation.
pub record StopsInDocument (depth : ℕ) (in_flow : Bool) (text : List ℕ) (was : WriterState) (error : TomlError) (now : WriterState) : Type 0 where
  pub none : ordered_document text ≡ None → (now ≡ was) × IfSome (toml_writers_error error) (λ code. code ≡ Memory)
  pub first : (root : TomlNodes) → ordered_document text ≡ Some root → GaveFirst depth (toml_events was.canonical in_flow (table Header root)) was now

-- ---- the reasons why no stream was written

abbrev pub stream_events_of : Settings → (in_flow : Bool) → TomlNodes → List Event
stream_events_of given in_flow root = opening ++ toml_events given.canonical in_flow (table Header root) ++ closing

-- the text is a document, and the bytes of its stream pass the limit
pub record DocumentOverLimit (given : Settings) (in_flow : Bool) (text : List ℕ) : Type 0 where
  pub root : TomlNodes
  pub read : ordered_document text ≡ Some root
  pub passes : PassesLimit given (stream_events_of given in_flow root)
  pub cut : document_nesting root ≤ most_open → IsUncut given (stream_events_of given in_flow root) → ⊥

-- an allocation failed, the limit gave out, or too many collections were open
abbrev pub TomlFailsBy : Settings → (in_flow : Bool) → (depth : ℕ) → (text : List ℕ) → yaml_error_t → Type 0
TomlFailsBy given in_flow depth text = FailsBy depth (DocumentOverLimit given in_flow text) (NestsDeeper most_open text)
