-- A mapping of one text to another: its settings, its events, and how it can fail.
use Rattle.std.specs.Prelude.{◌≡◌, ◌⊎◌, ◌<◌, ℕ, true, None, List, [], ◌∷◌, length}
use Rattle.yaml_base.specs.Characters.{Text}
use Rattle.yaml_base.specs.Settings.{Settings, nothing_given}
use Rattle.yaml_base.specs.Event.{Event, any_style, block, stream_start, stream_end, document_start, document_end, scalar, mapping_start}
use Rattle.yaml_base.specs.Event.{mapping_end}
use Rattle.yaml_base.specs.Output.{settings_for, bytes_written}
use Rattle.yaml_base.specs.Pieces.{list_layout}
use Rattle.yaml_base.specs.declared.errors.yaml_error_t.{yaml_error_t}
use Rattle.yaml_base.specs.declared.errors.yaml_error_t.TheVariants.{Memory, WriteError}

-- portable, 1,000,000 bytes
abbrev pub portable_settings : Settings
portable_settings = record nothing_given { limit = 1000000; portable = true }

-- a text without a tag, in the style that fits
abbrev pub text_scalar : Text → Event
text_scalar value =
    scalar (record { anchor = None; tag = None; value = value; plain_implicit = true; quoted_implicit = true; style = any_style })

-- one document, a block mapping of a key to a value, all markers implicit
abbrev pub pair_events : (key value : Text) → List Event
pair_events key value =
    stream_start None
    ∷ document_start (record { version = None; directives = []; implicit = true })
    ∷ mapping_start (record { anchor = None; tag = None; implicit = true; style = block })
    ∷ text_scalar key
    ∷ text_scalar value
    ∷ mapping_end
    ∷ document_end true
    ∷ stream_end
    ∷ []

-- all bytes of its stream, before any limit
abbrev pub pair_bytes : (key value : Text) → List ℕ
pair_bytes key value =
    let s = settings_for portable_settings (pair_events key value) in
    bytes_written s (list_layout s (pair_events key value))

-- memory gave out, or the bytes pass the limit
abbrev pub FailsPair : (key value : Text) → yaml_error_t → Type 0
FailsPair key value error =
    (error ≡ Memory) ⊎ ((error ≡ WriteError) × (portable_settings.limit < length (pair_bytes key value)))
