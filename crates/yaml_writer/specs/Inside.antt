-- The view of a writer in contracts.
use Rattle.std.specs.Prelude.{◌≡◌, true, option_map}
use Rattle.yaml_base.specs.Seen.{seen_text}
use Rattle.yaml_writer.specs.Writing.{WriterState}
use Rattle.yaml_writer.specs.declared.writer.Writer.TheInside.{Inside}

-- the emitter, and the properties of the next node as texts
abbrev pub writer_state_of : {A : Type 0} → Inside A → WriterState
writer_state_of w =
    record {
      emitter = w.emitter;
      canonical = w.canonical;
      levels = w.levels.items;
      anchor = option_map seen_text w.anchor;
      tag = option_map seen_text w.tag;
    }

-- there is an output
abbrev pub IsWriter : {A : Type 0} → Inside A → Type 0
IsWriter w = w.emitter.has_output ≡ true
