-- How a variant with data begins.
use Rattle.std.specs.Prelude.{◌≡◌, ◌⊎◌, ℕ, Bool, Some, Ok, List, ◌++◌, chars, codes}
use Rattle.yaml_base.specs.Event.{Event}
use Rattle.yaml_emitter.specs.State.{with_all_taken}
use Rattle.yaml_base.specs.declared.kinds.CollectionKind.{CollectionKind}
use Rattle.yaml_base.specs.declared.kinds.CollectionKind.TheVariants.{Mapping}
use Rattle.yaml_writer.specs.Writing.{WriterState, GaveEvent, text_event, with_collection}
use Rattle.yaml_serde.specs.Forms.{begin_event}
use Rattle.yaml_serde.specs.declared.settings.Variants.{Variants}
use Rattle.yaml_serde.specs.declared.settings.Variants.TheVariants.{Tags, OneKeyMap}

-- a writer was given this event without an error, and then all that it had flushed was taken, or nothing
abbrev pub GivesAndSends : WriterState → Event → WriterState → Type 0
GivesAndSends before event after =
    (given : WriterState) × GaveEvent before event (Ok tt) given × ((after ≡ given) ⊎ (after ≡ record given { emitter = with_all_taken given.emitter }))

-- so with the start of a collection of this kind, which is open then
abbrev pub GivesCollection : (in_flow : Bool) → CollectionKind → WriterState → WriterState → Type 0
GivesCollection in_flow kind before after = GivesAndSends (with_collection before kind) (begin_event in_flow kind before) after

-- a variant of this name, in UTF-8, begins: its data is the next node, whose tag is the name after a `!`; or it is the value of a
-- mapping's first key, which is the name
abbrev pub BeginsVariant : Variants → (in_flow : Bool) → List ℕ → WriterState → WriterState → Type 0
BeginsVariant Tags in_flow name before after = after ≡ record before { tag = Some (chars (codes "!" ++ name)) }
BeginsVariant OneKeyMap in_flow name before after =
    (inside : WriterState) × GivesCollection in_flow Mapping before inside × GivesAndSends inside (text_event inside (chars name)) after
