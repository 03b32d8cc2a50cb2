-- Events for worked rows, in short.
use Rattle.yaml_base.proofs.Common.{Option, None, Some, ℤ, false, true, List, [], ◌++◌, ◌∷◌, Text, ScalarStyle, any_style, Collection, Event, stream_start}
use Rattle.yaml_base.proofs.Common.{stream_end, document_start, document_end, scalar, sequence_start, sequence_end, mapping_start, mapping_end, text_of}
use Rattle.yaml_base.{proofs.Common.list_layout, proofs.Common.Settings, proofs.Common.effective, specs.Event.CollectionStyle, specs.scripts.Script.unset}

-- nothing set but an ample limit
abbrev pub plain_settings : Settings
plain_settings = unset

abbrev pub canonical_settings : Settings
canonical_settings = record plain_settings { canonical = true }

abbrev pub unicode_settings : Settings
unicode_settings = record plain_settings { unicode = true }

abbrev pub of_width : ℤ → Settings
of_width width = record plain_settings { width = Some width }

abbrev pub of_indent : ℤ → Settings
of_indent indent = record plain_settings { indent = Some indent }

abbrev pub untagged : Text → ScalarStyle → Event
untagged value style =
    scalar (record {
      anchor = None;
      tag = None;
      value = value;
      plain_implicit = true;
      quoted_implicit = true;
      style = style;
    })

abbrev pub leaf : Text → Event
leaf value = untagged value any_style

-- without flags
abbrev pub tagged : Option Text → Option Text → Text → Event
tagged anchor tag value =
    scalar (record {
      anchor = anchor;
      tag = tag;
      value = value;
      plain_implicit = false;
      quoted_implicit = false;
      style = any_style;
    })

abbrev pub in_style : CollectionStyle → Collection
in_style style = record { anchor = None; tag = None; implicit = true; style = style }

abbrev pub sequence : CollectionStyle → List Event → List Event
sequence style items = sequence_start (in_style style) ∷ (items ++ sequence_end ∷ [])

abbrev pub mapping : CollectionStyle → List Event → List Event
mapping style pairs = mapping_start (in_style style) ∷ (pairs ++ mapping_end ∷ [])

abbrev pub implicit_start : Event
implicit_start = document_start (record { version = None; directives = []; implicit = true })

-- a document with both ends implicit
abbrev pub document_of : List Event → List Event
document_of root = implicit_start ∷ (root ++ document_end true ∷ [])

abbrev pub stream_of : List Event → List Event
stream_of documents = stream_start None ∷ (documents ++ stream_end ∷ [])

-- a stream of one document
abbrev pub alone : List Event → List Event
alone root = stream_of (document_of root)

abbrev pub rendered_under : Settings → List Event → Text
rendered_under settings events = text_of (list_layout (effective settings None) events)

abbrev pub rendered : List Event → Text
rendered events = rendered_under plain_settings events
