-- The open collections of a document, and their columns.
use Rattle.std.specs.Prelude.{◌+◌, ◌*◌, ◌≤◌, ◌≡◌, Bool, Option, None, Some, List, [], ◌∷◌, length, map, reverse}
use Rattle.yaml_base.specs.Layout.{line_column}
use Rattle.yaml_base.specs.Refusal.{most_open}
use Rattle.yaml_base.specs.Steps.{Frame, next_entry_place}
use Rattle.yaml_emitter.specs.Places.{seen_frame}
use Rattle.yaml_emitter.specs.declared.place.Frame as frame

-- the open collections, the innermost first; `outer` has the outermost first
abbrev pub open_frames : Option frame.Frame → List frame.Frame → List Frame
open_frames None outer = []
open_frames (Some innermost) outer = seen_frame innermost ∷ map seen_frame (reverse outer)

-- the entries of each collection are at most nine columns deeper than those around it
abbrev pub IsNested : List Frame → Type 0
IsNested [] = Unit {0}
IsNested (frame ∷ outer) = (line_column frame.place.column ≤ 9 * (length outer + 1)) × IsNested outer

-- if no collection is innermost, none is around it; and at most `most_open` collections are open
pub record AreFrames (innermost : Option frame.Frame) (outer : List frame.Frame) : Type 0 where
  pub nested : IsNested (open_frames innermost outer)
  pub none_around : innermost ≡ None → outer ≡ []
  pub few : length (open_frames innermost outer) ≤ most_open

-- the open collections once the innermost has one node more
abbrev pub advanced : Bool → List Frame → List Frame
advanced simple [] = []
advanced simple (frame ∷ outer) = record frame { place = next_entry_place frame.place simple } ∷ outer
