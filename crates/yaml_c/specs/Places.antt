-- The place of the next value in a document that is written value by value.
use Rattle.std.specs.Prelude.{◌≡◌, ◌⊎◌, Bool, true, false, Option, None, Some, List, [], ◌∷◌, ◌++◌}
use Rattle.yaml_base.specs.declared.kinds.CollectionKind.{CollectionKind}
use Rattle.yaml_base.specs.declared.kinds.CollectionKind.TheVariants.{Mapping, Sequence}
use Rattle.yaml_c.specs.declared.place.Spot.{Spot}
use Rattle.yaml_c.specs.declared.place.Spot.TheVariants as spots

-- the spot of the next value; those after the collections that are open, the innermost last
pub record Place : Type 0 where
  pub spot : Spot
  pub outer : List Spot

abbrev pub place_at : Spot → List Spot → Place
place_at spot outer = record { spot = spot; outer = outer }

-- The place in a new emitter: no event was given.
abbrev pub at_start : Place
at_start = place_at spots.Start []

-- The spot after a node at this one, and none if no node may be there.
abbrev pub after_node : Spot → Option Spot
after_node spots.Start = Some spots.Done
after_node spots.Root = Some spots.Done
after_node spots.Item = Some spots.Item
after_node spots.Key = Some spots.Value
after_node spots.Value = Some spots.Key
after_node spots.Done = None
after_node spots.Nowhere = None

-- True if a document's root may be there.
abbrev pub is_root : Spot → Bool
is_root spots.Start = true
is_root spots.Root = true
is_root spot = false

abbrev pub is_start : Spot → Bool
is_start spots.Start = true
is_start spot = false

abbrev pub is_done : Spot → Bool
is_done spots.Done = true
is_done spot = false

-- The spot of the first node in a collection.
abbrev pub first_in : CollectionKind → Spot
first_in Sequence = spots.Item
first_in Mapping = spots.Key

-- The kind of the collection that may end here. A mapping doesn't end before a value.
abbrev pub ends_here : Spot → Option CollectionKind
ends_here spots.Item = Some Sequence
ends_here spots.Key = Some Mapping
ends_here spot = None

-- The place in a collection that begins, after which the next value is at this spot.
abbrev pub within : CollectionKind → (after : Spot) → Place → Place
within kind after place = place_at (first_in kind) (place.outer ++ after ∷ [])

-- True if the innermost collection is of this kind, and may end; the place is then the one after it.
pub record EndsInner (before : Place) (kind : CollectionKind) (after : Place) : Type 0 where
  pub ends : ends_here before.spot ≡ Some kind
  pub cut : before.outer ≡ after.outer ++ after.spot ∷ []

-- True if no collection may end.
abbrev pub MayNotEnd : Place → Type 0
MayNotEnd place = (ends_here place.spot ≡ None) ⊎ (place.outer ≡ [])
