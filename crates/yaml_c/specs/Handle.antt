-- The memory that a handle owns: none, or an emitter in a block of the C library's heap.
use Rattle.std.specs.Prelude.{Option, None, Some}
use base.Fml.{Fml, ftrue}
use base.Stored.{Coded}
use denote.RattleType.{RattleType}
use denote.RawPtr.{Ptr}
use mir.Syntax.{Ty}
use Rattle.std.specs.Box.Ownership.{box_owns}
use Rattle.std.specs.contracts.impls.GlobalAllocator.TheImpl.{ghosts}
use Rattle.yaml_c.specs.contracts.kept.Kept as kept
use Rattle.yaml_c.specs.declared.kept.Kept.{Kept}

abbrev pub emitter_row : RattleType
emitter_row = kept.the_row

-- The permission to free a block of the heap. The allocator has no state.
abbrev pub block_token : Ty → Ptr → Fml
block_token = ghosts.dealloc_token (record { memory = record { seal = tt } })

abbrev pub handle_owns : Ptr → Option Kept → Fml
handle_owns address None = ftrue
handle_owns address (Some state) = box_owns block_token emitter_row address state

abbrev pub kept_coded : Coded Kept
kept_coded = (emitter_row).coded
